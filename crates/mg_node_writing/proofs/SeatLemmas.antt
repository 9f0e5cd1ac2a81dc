-- Where an entry belongs among those of a page, and whether it is one of them.
use Rattle.std.specs.Prelude.{◌≡◌, ◌≢◌, ℕ, zero, suc, ◌+◌, ◌-◌, ◌<◌, ◌≤◌, ◌⊎◌, eqb, not, Bool, true, false, List, ◌∷◌, ◌++◌, length}
use Rattle.std.specs.Ordering.{is_lt}
use Rattle.std.specs.declared.cmp.Ordering.{Ordering}
use Rattle.std.specs.declared.cmp.Ordering.TheVariants.{Less, Equal, Greater}
use Rattle.std.proofs.Common.{refl, sym, ap, ◌∙◌, arith, inl, inr, subst}
use Rattle.std.proofs.lemmas.Bool.{cases_lt, eq-eqb, eqb-true}
use Rattle.mg_base.specs.declared.numbers.PageNo.{PageNo}
use Rattle.mg_base.specs.declared.numbers.RecId.{RecId}
use Rattle.mg_node.specs.declared.entry.Entry.{Entry}
use Rattle.mg_node.specs.EntryOrderLaws.{same_place_from_cmp}
use Rattle.mg_node.specs.NodePage.{AreAscending, IsBelow, IsNodePage, SamePlace, count_in, end_in, end_of, entries_of, entry_at, entry_cmp, first_at, has_high, high_at, is_inner, place_of}
use Rattle.mg_node.specs.NodeReading.{IsBeforeFirst, IsLaidOut}
use Rattle.mg_node.specs.NodeTestLaws.{choose_up, first_at-from}
use Rattle.mg_node.specs.NodeWalk.{entries_from, place_from}
use Rattle.mg_node.specs.NodeWalkLaws.{end_of-least, entries_from-add, entries_of-walk, place_from-ascends, place_from-least, place_of-walk}
use Rattle.mg_node_writing.specs.NodeChanges.{IsEntryOf, TakesEntry}
use Rattle.mg_node_writing.specs.Splices.{EachBelow, HasEntry, IsSeat, StandsAt}
use Rattle.mg_node_writing.proofs.ListLemmas.{absent, before_back, has_append, has_below, has_parts, never_below_itself, not_below, ascending_back}

pub laid_out_of : (page : List ℕ) → IsNodePage page → IsLaidOut page
laid_out_of page is = record {
  low = is.low_key;
  high = is.high_key;
  keys = is.keys;
  inside = subst (λ (n : ℕ). n ≤ length page) is.ends is.inside;
}

-- the place of an entry lies behind the fields, and its entry ends where the entries end at most
pub place_behind : (page : List ℕ) (n : ℕ) → 28 ≤ place_of page n
place_behind page n =
    let walk = place_of-walk page n in
    let least = place_from-least (is_inner page) page (first_at page) n in
    let from = first_at-from page in omega (arith, walk, least, from)

pub place_ends : (page : List ℕ) (n : ℕ) → IsNodePage page → n ≤ count_in page
    → place_of page n ≤ end_in page
place_ends page n is within =
    let up = place_from-ascends (is_inner page) page (first_at page) n (count_in page) within in
    let here = place_of-walk page n in let there = place_of-walk page (count_in page) in
    let ends = is.ends in omega (arith, up, here, there, ends)

pub entry_ends : (page : List ℕ) (n at : ℕ) → IsNodePage page → at ≡ place_of page n
    → n < count_in page → end_of (is_inner page) page at ≤ end_in page
entry_ends page n at is at_is below =
    subst (λ (x : ℕ). end_of (is_inner page) page x ≤ end_in page) (sym at_is)
    (place_ends page (suc n) is (omega arith))

pub plain_ends : (page : List ℕ) (n at : ℕ) → IsNodePage page → at ≡ place_of page n
    → n < count_in page → end_of false page at ≤ length page
plain_ends page n at is at_is below =
    let ends = entry_ends page n at is at_is below in
    let inside = is.inside in
    let plain = end_of-least false page at in
    without (is_inner page) (omega (arith, ends, inside))
  where
    without : (w : Bool) → end_of w page at ≤ length page → end_of false page at ≤ length page
    without true le = omega arith
    without false le = le

each_below : (w : Bool) (page : List ℕ) (at n : ℕ) (e : Entry)
    → ((i : ℕ) → i < n → IsBelow (entry_at w page (place_from w page at i)) e)
    → EachBelow (entries_from w page at n) e
each_below w page at zero e all = tt
each_below w page at (suc n) e all =
    (all 0 (omega arith), each_below w page (end_of w page at) n e (λ i below. all (suc i) (omega arith)))

before_first : (w : Bool) (page : List ℕ) (at m : ℕ) (e : Entry)
    → (0 < m → IsBelow e (entry_at w page at)) → IsBeforeFirst e (entries_from w page at m)
before_first w page at zero e is = tt
before_first w page at (suc m) e is = is (omega arith)

-- an entry's seat: the entries before it, and those behind it
pub record IsSeated (page : List ℕ) (e : Entry) (n : ℕ) : Type 0 where
  pub parts : entries_of page ≡ entries_from (is_inner page) page (first_at page) n
      ++ entries_from (is_inner page) page (place_of page n) (count_in page - n)
  pub below : EachBelow (entries_from (is_inner page) page (first_at page) n) e
  pub before : IsBeforeFirst e
      (entries_from (is_inner page) page (place_of page n) (count_in page - n))

pub two_parts : (page : List ℕ) (n : ℕ) → n ≤ count_in page
    → entries_of page ≡ entries_from (is_inner page) page (first_at page) n
    ++ entries_from (is_inner page) page (place_of page n) (count_in page - n)
two_parts page n within =
    let w = is_inner page in
    let all : n + (count_in page - n) ≡ count_in page = omega arith in
    entries_of-walk page ∙ (sym (ap (entries_from w page (first_at page)) all) ∙
    (sym (entries_from-add w page (first_at page) n (count_in page - n)) ∙
    ap (λ (x : ℕ). entries_from w page (first_at page) n ++ entries_from w page x (count_in page - n))
    (sym (place_of-walk page n))))

pub front_is_below : (page : List ℕ) (e : Entry) (n : ℕ) → IsSeat page e n
    → EachBelow (entries_from (is_inner page) page (first_at page) n) e
front_is_below page e n seat =
    each_below (is_inner page) page (first_at page) n e
    (λ i below. subst (λ (x : ℕ). IsBelow (entry_at (is_inner page) page x) e) (place_of-walk page i)
    (seat.before i below))

pub seated : (page : List ℕ) (e : Entry) (n : ℕ) → IsSeat page e n → (StandsAt page n e → ⊥)
    → IsSeated page e n
seated page e n seat apart = record {
  parts = two_parts page n seat.within;
  below = front_is_below page e n seat;
  before = before_first (is_inner page) page (place_of page n) (count_in page - n) e behind;
}
  where
    by : n < count_in page
        → (entry_cmp (entry_at (is_inner page) page (place_of page n)) e ≡ Equal)
        ⊎ IsBelow e (entry_at (is_inner page) page (place_of page n))
        → IsBelow e (entry_at (is_inner page) page (place_of page n))
    by below (inl same) = absurd (apart (record { there = below; same = same }))
    by below (inr less) = less

    behind : 0 < count_in page - n → IsBelow e (entry_at (is_inner page) page (place_of page n))
    behind some =
        let below : n < count_in page = omega arith in
        by below (not_below (entry_at (is_inner page) page (place_of page n)) e (seat.after below))

-- an entry that does not stand at its seat is none of the page
pub not_there : (page : List ℕ) (e : Entry) (n : ℕ) → IsNodePage page → IsSeated page e n
    → IsEntryOf page e → ⊥
not_there page e n is s has =
    absent (entries_from (is_inner page) page (first_at page) n)
    (entries_from (is_inner page) page (place_of page n) (count_in page - n)) e
    (subst AreAscending s.parts is.ascending) s.below s.before
    (subst (λ (es : List Entry). HasEntry es e) (sym has.is ∙ s.parts)
    (has_append has.front has.back e))

-- the entries before, at and behind a seat
pub three_parts : (page : List ℕ) (n : ℕ) → n < count_in page
    → entries_of page ≡ entries_from (is_inner page) page (first_at page) n
    ++ entry_at (is_inner page) page (place_of page n)
    ∷ entries_from (is_inner page) page (end_of (is_inner page) page (place_of page n))
    (count_in page - suc n)
three_parts page n below =
    let more : count_in page - n ≡ suc (count_in page - suc n) = omega arith in
    two_parts page n (omega arith) ∙
    ap (λ (k : ℕ). entries_from (is_inner page) page (first_at page) n
    ++ entries_from (is_inner page) page (place_of page n) k) more

-- an entry that stands at its seat with its child is one of the page
pub is_there : (page : List ℕ) (e : Entry) (n : ℕ) → n < count_in page
    → entry_at (is_inner page) page (place_of page n) ≡ e → IsEntryOf page e
is_there page e n below same = record {
  front = entries_from (is_inner page) page (first_at page) n;
  back = entries_from (is_inner page) page (end_of (is_inner page) page (place_of page n))
      (count_in page - suc n);
  is = three_parts page n below ∙ ap (λ (f : Entry). entries_from (is_inner page) page (first_at page) n
      ++ f ∷ entries_from (is_inner page) page (end_of (is_inner page) page (place_of page n))
      (count_in page - suc n)) same;
}

-- entries of one place and with one child are the same
pub same_from_child : (f e : Entry) → SamePlace f e → f.child ≡ e.child → f ≡ e
same_from_child f e same child =
    ap (λ (k : List ℕ). record { key = k; rec = f.rec; child = f.child }) same.key ∙
    (ap (λ (r : RecId). record { key = e.key; rec = r; child = f.child }) same.rec ∙
    ap (λ (c : PageNo). record { key = e.key; rec = e.rec; child = c }) child)

-- an entry that stands at its seat, and has no other child there, is one of the page
pub taken_there : (page : List ℕ) (e : Entry) (n : ℕ) → TakesEntry page e → StandsAt page n e
    → IsEntryOf page e
taken_there page e n takes stands =
    let f = entry_at (is_inner page) page (place_of page n) in
    let same : SamePlace (entry_at (is_inner page) page (place_of page n)) e =
    same_place_from_cmp (entry_at (is_inner page) page (place_of page n)) e stands.same in
    let child = takes.one_child (entry_at (is_inner page) page (place_of page n))
    (is_there page (entry_at (is_inner page) page (place_of page n)) n stands.there refl)
    (record { key = sym same.key; rec = sym same.rec }) in
    is_there page e n stands.there
    (same_from_child (entry_at (is_inner page) page (place_of page n)) e same (sym child))

-- an entry that ties with one of an ascending list is no other one of it
other_one : (front back : List Entry) (here e : Entry) → AreAscending (front ++ here ∷ back)
    → EachBelow front e → entry_cmp here e ≡ Equal → here.child ≢ e.child
    → HasEntry (front ++ here ∷ back) e → ⊥
other_one front back here e ascending below tie differs has = by (has_parts front (here ∷ back) e has)
  where
    behind : HasEntry back e → ⊥
    behind there =
        let less = before_back here back (ascending_back front (here ∷ back) ascending) e there in
        absurd cc

    by : HasEntry front e ⊎ HasEntry (here ∷ back) e → ⊥
    by (inl there) = never_below_itself e (has_below front e e below there)
    by (inr (inl same)) = differs (ap (λ (x : Entry). x.child) (sym same))
    by (inr (inr there)) = behind there

-- where another child stands at its seat, an entry is none of the page
pub other_child : (page : List ℕ) (e : Entry) (n : ℕ) → IsNodePage page → IsSeat page e n
    → StandsAt page n e → (entry_at (is_inner page) page (place_of page n)).child ≢ e.child
    → IsEntryOf page e → ⊥
other_child page e n is seat stands differs has =
    let parts = three_parts page n stands.there in
    other_one (entries_from (is_inner page) page (first_at page) n)
    (entries_from (is_inner page) page (end_of (is_inner page) page (place_of page n))
    (count_in page - suc n))
    (entry_at (is_inner page) page (place_of page n)) e (subst AreAscending parts is.ascending)
    (front_is_below page e n seat) stands.same differs
    (subst (λ (es : List Entry). HasEntry es e) (sym has.is ∙ parts)
    (has_append has.front has.back e))

-- Walking to the seat.

pub seat_starts : (page : List ℕ) (e : Entry) (i : ℕ) → i < 0
    → IsBelow (entry_at (is_inner page) page (place_of page i)) e
seat_starts page e i none = absurd (omega arith)

pub seat_goes : (page : List ℕ) (e : Entry) (n : ℕ)
    → ((i : ℕ) → i < n → IsBelow (entry_at (is_inner page) page (place_of page i)) e)
    → IsBelow (entry_at (is_inner page) page (place_of page n)) e
    → (i : ℕ) → i < n + 1 → IsBelow (entry_at (is_inner page) page (place_of page i)) e
seat_goes page e n before here i below = by (cases_lt i n)
  where
    by : (i < n) ⊎ (n ≤ i) → IsBelow (entry_at (is_inner page) page (place_of page i)) e
    by (inl less) = before i less
    by (inr past) =
        let same : n ≡ i = omega arith in
        subst (λ (k : ℕ). IsBelow (entry_at (is_inner page) page (place_of page k)) e) same here

pub lt_from : (o : Ordering) → is_lt o ≡ true → o ≡ Less
lt_from Less e = refl
lt_from Equal e = absurd cc
lt_from Greater e = absurd cc

-- the entry at a seat is the one that is looked for, where its child is
pub found_at : (page : List ℕ) (e : Entry) (n at : ℕ) → StandsAt page n e → at ≡ place_of page n
    → (entry_at (is_inner page) page at).child ≡ e.child → entry_at (is_inner page) page at ≡ e
found_at page e n at stands at_is child =
    same_from_child (entry_at (is_inner page) page at) e
    (same_place_from_cmp (entry_at (is_inner page) page at) e
    (subst (λ (x : ℕ). entry_cmp (entry_at (is_inner page) page x) e ≡ Equal) (sym at_is) stands.same))
    child

pub same_child : (a b : PageNo) → not (eqb a.0 b.0) ≡ false → a ≡ b
same_child a b is = ap (λ (n : ℕ). record { 0 = n }) (eqb-true a.0 b.0 (yes_of (eqb a.0 b.0) is))
  where
    yes_of : (p : Bool) → not p ≡ false → p ≡ true
    yes_of true e = refl
    yes_of false e = absurd cc

pub other_children : (a b : PageNo) → not (eqb a.0 b.0) ≡ true → a ≢ b
other_children a b is same =
    let equal = eq-eqb a.0 b.0 (ap (λ (p : PageNo). p.0) same) in
    let no = rw equal at is in absurd cc

pub place_first : (page : List ℕ) (n : ℕ) → first_at page ≤ place_of page n
place_first page n =
    let walk = place_of-walk page n in
    let least = place_from-least (is_inner page) page (first_at page) n in omega (arith, walk, least)

pub first_ends : (page : List ℕ) → IsNodePage page → first_at page ≤ end_in page
first_ends page is =
    let up = place_first page (count_in page) in let ends = is.ends in omega (arith, up, ends)

pub high_first : (page : List ℕ) → high_at page ≤ first_at page
high_first page = choose_up (has_high page) (high_at page) (end_of false page (high_at page))
    (high_at page) (omega arith) (let e = end_of-least false page (high_at page) in omega (arith, e))

-- what a test would have told does not hold where it failed
pub untold : {P : Type 0} (told : Bool) → (P → told ≡ true) → told ≡ false → P → ⊥
untold true tells is holds = absurd cc
untold false tells is holds = let both = tells holds in absurd cc
