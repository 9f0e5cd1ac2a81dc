-- Laws of the test of the order of entries: which entries pass.
use Rattle.std.specs.Prelude.{◌≡◌, ◌≢◌, ℕ, suc, ◌&&◌, ◌||◌, not, Bool, true, false, List, [], ◌∷◌, length, Option, Some, None, IfSome, if◌then◌else◌}
use Rattle.std.specs.Ordering.{is_eq, is_lt}
use Rattle.std.specs.declared.cmp.Ordering.{Ordering}
use Rattle.std.specs.declared.cmp.Ordering.TheVariants.{Less, Equal, Greater}
use Rattle.std.proofs.Common.{refl, ap, arith}
use Rattle.mg_node.specs.declared.entry.Entry.{Entry}
use Rattle.mg_node.specs.EntryOrderLaws.{cmp_from_parts, cmp_from_same_place, is_eq-true, same_place_from_cmp}
use Rattle.mg_node.specs.NodePage.{AreAscending, AreBetween, BeginsAsInner, IsAtLeast, IsBelow, IsFirstEntry, entry_cmp}
use Rattle.mg_node.specs.NodeTests.{is_between, may_begin, may_follow, ordered_behind, ordered_front, wanted_first}

and_true : (p q : Bool) → (p && q) ≡ true → (p ≡ true) × (q ≡ true)
and_true true q e = (refl, e)
and_true false q e = absurd cc

true_and : (p q : Bool) → p ≡ true → q ≡ true → (p && q) ≡ true
true_and true q e f = f
true_and false q e f = absurd cc

counted : (p : Bool) (n m : ℕ) → (if p then suc n else 0) ≡ suc m → (p ≡ true) × (n ≡ m)
counted true n m e = (refl, omega arith)
counted false n m e = absurd (omega arith)

counts : (p : Bool) (n m : ℕ) → p ≡ true → n ≡ m → (if p then suc n else 0) ≡ suc m
counts true n m is same = omega arith
counts false n m is same = absurd cc

lt_from : (o : Ordering) → is_lt o ≡ true → o ≡ Less
lt_from Less e = refl
lt_from Equal e = absurd cc
lt_from Greater e = absurd cc

lt_is : (o : Ordering) → o ≡ Less → is_lt o ≡ true
lt_is o e = rw e refl

not_lt_from : (o : Ordering) → not (is_lt o) ≡ true → o ≢ Less
not_lt_from Less e = λ less. absurd cc
not_lt_from Equal e = λ less. absurd cc
not_lt_from Greater e = λ less. absurd cc

not_lt_is : (o : Ordering) → o ≢ Less → not (is_lt o) ≡ true
not_lt_is Less e = absurd (e refl)
not_lt_is Equal e = refl
not_lt_is Greater e = refl

between_from : (low high : Option Entry) (e : Entry) → is_between low high e ≡ true
    → IfSome low (λ fence. IsAtLeast e fence) × IfSome high (λ fence. IsBelow e fence)
between_from None None e is = (tt, tt)
between_from None (Some top) e is = (tt, lt_from (entry_cmp e top) is)
between_from (Some fence) None e is =
    (not_lt_from (entry_cmp e fence) (and_true (not (is_lt (entry_cmp e fence))) true is).0, tt)
between_from (Some fence) (Some top) e is =
    let both = and_true (not (is_lt (entry_cmp e fence))) (is_lt (entry_cmp e top)) is in
    (not_lt_from (entry_cmp e fence) both.0, lt_from (entry_cmp e top) both.1)

between_is : (low high : Option Entry) (e : Entry) → IfSome low (λ fence. IsAtLeast e fence)
    → IfSome high (λ fence. IsBelow e fence) → is_between low high e ≡ true
between_is None None e from below = refl
between_is None (Some top) e from below = lt_is (entry_cmp e top) below
between_is (Some fence) None e from below =
    true_and (not (is_lt (entry_cmp e fence))) true (not_lt_is (entry_cmp e fence) from) refl
between_is (Some fence) (Some top) e from below =
    true_and (not (is_lt (entry_cmp e fence))) (is_lt (entry_cmp e top))
    (not_lt_is (entry_cmp e fence) from) (lt_is (entry_cmp e top) below)

behind_from : (low high : Option Entry) (before : Entry) (es : List Entry)
    → ordered_behind low high before es ≡ length es
    → AreAscending (before ∷ es) × AreBetween low high es
behind_from low high before [] e = (tt, tt)
behind_from low high before (f ∷ fs) e =
    let first = counted (may_follow low high before f) (ordered_behind low high f fs) (length fs) e in
    let both = and_true (is_lt (entry_cmp before f)) (is_between low high f) first.0 in
    let between = between_from low high f both.1 in
    let rest = behind_from low high f fs first.1 in
    ((lt_from (entry_cmp before f) both.0, rest.0), (between.0, between.1, rest.1))

behind_is : (low high : Option Entry) (before : Entry) (es : List Entry)
    → AreAscending (before ∷ es) → AreBetween low high es
    → ordered_behind low high before es ≡ length es
behind_is low high before [] ascending between = refl
behind_is low high before (f ∷ fs) ascending between =
    counts (may_follow low high before f) (ordered_behind low high f fs) (length fs)
    (true_and (is_lt (entry_cmp before f)) (is_between low high f)
    (lt_is (entry_cmp before f) ascending.0) (between_is low high f between.0 between.1))
    (behind_is low high f fs ascending.1 between.2)

first_from : (inner : Bool) (low : Option Entry) (e : Entry)
    → (not inner || is_eq (entry_cmp e (wanted_first low))) ≡ true → inner ≡ true → IsFirstEntry low e
first_from true None e is inner =
    let same = same_place_from_cmp e (wanted_first None) (is_eq-true _ is) in
    record { key = same.key; page = ap (λ r. r.page.0) same.rec; slot = ap (λ r. r.slot) same.rec }
first_from true (Some fence) e is inner = same_place_from_cmp e fence (is_eq-true _ is)
first_from false low e is inner = absurd cc

first_is : (inner : Bool) (low : Option Entry) (e : Entry) → (inner ≡ true → IsFirstEntry low e)
    → (not inner || is_eq (entry_cmp e (wanted_first low))) ≡ true
first_is true None e first =
    let least = first refl in
    ap is_eq (cmp_from_parts e (wanted_first None) least.key least.page least.slot)
first_is true (Some fence) e first = ap is_eq (cmp_from_same_place e fence (first refl))
first_is false low e first = refl

pub order_from : (inner : Bool) (low high : Option Entry) (es : List Entry)
    → ordered_front inner low high es ≡ length es
    → AreAscending es × AreBetween low high es × (inner ≡ true → BeginsAsInner low es)
order_from inner low high [] e = (tt, tt, λ is. tt)
order_from inner low high (f ∷ fs) e =
    let first = counted (may_begin inner low high f) (ordered_behind low high f fs) (length fs) e in
    let both = and_true (not inner || is_eq (entry_cmp f (wanted_first low))) (is_between low high f)
    first.0 in
    let between = between_from low high f both.1 in
    let rest = behind_from low high f fs first.1 in
    (rest.0, (between.0, between.1, rest.1), first_from inner low f both.0)

pub order_is : (inner : Bool) (low high : Option Entry) (es : List Entry) → AreAscending es
    → AreBetween low high es → (inner ≡ true → BeginsAsInner low es)
    → ordered_front inner low high es ≡ length es
order_is inner low high [] ascending between first = refl
order_is inner low high (f ∷ fs) ascending between first =
    counts (may_begin inner low high f) (ordered_behind low high f fs) (length fs)
    (true_and (not inner || is_eq (entry_cmp f (wanted_first low))) (is_between low high f)
    (first_is inner low f first) (between_is low high f between.0 between.1))
    (behind_is low high f fs ascending between.2)
