-- Where an entry stands among those of a page, and which child it goes down by.
use Rattle.std.proofs.Common.{◌≡◌, ◌≢◌, ◌<◌, ◌⊎◌, inl, inr, ◌∙◌, ap, refl, sym, subst, ℕ, ◌==◌, Bool, true, false, List, [], ◌∷◌, ◌++◌, Option, Some, None, length, arith}
use Rattle.std.specs.Prelude.{IfSome, if◌then◌else◌, nat_lt}
use Rattle.std.proofs.lemmas.Bool.{le-ltb, lt-ltb}
use Rattle.std.specs.Cmp.Lexicographic.{slice_cmp}
use Rattle.std.specs.Ordering.{nat_cmp, ordering_reverse, ordering_then}
use Rattle.std.specs.declared.cmp.Ordering.{Ordering}
use Rattle.std.specs.declared.cmp.Ordering.TheVariants.{Less, Equal, Greater}
use Rattle.mg_node.specs.declared.entry.Entry.{Entry}
use Rattle.mg_node.specs.NodePage.{AreBetween, BeginsAsInner, IsAtLeast, IsBelow, IsFirstEntry, IsLeast, IsNodePage, SamePlace, entries_of, entry_cmp, level_in, low_of}
use Rattle.mg_image.specs.Form.{Pages}
use Rattle.mg_image.specs.Indexes.{AreChildren, HasChildren, HasEntry, IsLastUpTo, as_fence}
use Rattle.mg_image.specs.Tables.{Has}
use Rattle.mg_node.specs.EntryOrderLaws.{entry_cmp_total}

-- an entry among those of a page lies below its high fence
pub between_has : (low high : Option Entry) (es : List Entry) (e : Entry) → AreBetween low high es
    → HasEntry es e → IfSome high (λ fence. IsBelow e fence)
between_has low high [] e all has = absurd has
between_has low high (f ∷ fs) e all (inl same) = rw same all.1
between_has low high (f ∷ fs) e all (inr later) = between_has low high fs e all.2 later

pub is_less : (o : Ordering) → (o ≡ Less) ⊎ (o ≢ Less)
is_less Less = inl refl
is_less Equal = inr (λ same. cc)
is_less Greater = inr (λ same. cc)

-- an entry of a list is the last one up to another, or all come behind it
last_or_none : (e : Entry) (es : List Entry)
    → ((last : Entry) × IsLastUpTo es e last) ⊎ ((f : Entry) → HasEntry es f → IsBelow e f)
last_or_none e [] = inr (λ f has. absurd has)
last_or_none e (x ∷ xs) = at (last_or_none e xs) (is_less (entry_cmp e x))
  where
    behind : IsBelow e x → ((f : Entry) → HasEntry xs f → IsBelow e f) → (f : Entry)
        → HasEntry (x ∷ xs) f → IsBelow e f
    behind less none f (inl same) = rw same less
    behind less none f (inr later) = none f later

    at : ((last : Entry) × IsLastUpTo xs e last) ⊎ ((f : Entry) → HasEntry xs f → IsBelow e f)
        → (entry_cmp e x ≡ Less) ⊎ (entry_cmp e x ≢ Less)
        → ((last : Entry) × IsLastUpTo (x ∷ xs) e last)
        ⊎ ((f : Entry) → HasEntry (x ∷ xs) f → IsBelow e f)
    at (inl found) which = inl (
      found.0,
      record {
        before = x ∷ found.1.before;
        after = found.1.after;
        parts = ap (λ (ys : List Entry). x ∷ ys) found.1.parts;
        up_to = found.1.up_to;
        then_behind = found.1.then_behind;
      },
    )
    at (inr none) (inl less) = inr (behind less none)
    at (inr none) (inr up) = inl (
      x,
      record {
        before = [];
        after = xs;
        parts = refl;
        up_to = up;
        then_behind = none;
      },
    )

-- an entry does not come before one that has the place of a fence that it does not come before
up_to_same : (e x fence : Entry) → SamePlace x fence → IsAtLeast e fence → IsAtLeast e x
up_to_same e x fence same up =
    let as_one : entry_cmp e x ≡ entry_cmp e fence = rw (same.key, same.rec) refl in
    λ less. up (sym as_one ∙ less)

key_not_less : (key : List ℕ) → slice_cmp nat_cmp key [] ≢ Less
key_not_less [] = λ less. cc
key_not_less (k ∷ ks) = λ less. cc

pub number_not_less : (n : ℕ) → nat_cmp n 0 ≢ Less
number_not_less n = rw (le-ltb n 0 (omega arith)) (at (n == 0))
  where
    at : (b : Bool) → (if b then Equal else Greater) ≢ Less
    at true = λ less. cc
    at false = λ less. cc

pub then_not_less : (a b : Ordering) → a ≢ Less → b ≢ Less → ordering_then a b ≢ Less
then_not_less Less b first second = absurd (first refl)
then_not_less Equal b first second = second
then_not_less Greater b first second = λ less. cc

-- nor before the least one
up_to_least : (e x : Entry) → IsLeast x → IsAtLeast e x
up_to_least e x least =
    rw (least.key, least.page, least.slot) (then_not_less (slice_cmp nat_cmp e.key [])
    (ordering_then (nat_cmp e.rec.page.0 0) (nat_cmp e.rec.slot 0)) (key_not_less e.key)
    (then_not_less (nat_cmp e.rec.page.0 0) (nat_cmp e.rec.slot 0) (number_not_less e.rec.page.0)
    (number_not_less e.rec.slot)))

up_to_first : (low : Option Entry) (e x : Entry) → IsFirstEntry low x
    → IfSome low (λ fence. IsAtLeast e fence) → IsAtLeast e x
up_to_first (Some fence) e x first reached = up_to_same e x fence first reached
up_to_first None e x first reached = up_to_least e x first

inner_is : (level : ℕ) → level ≢ 0 → nat_lt 0 level ≡ true
inner_is level some = lt-ltb 0 level (omega arith)

-- on an inner page from whose low fence on an entry lies there is a last entry up to it
pub last_exists : (page : List ℕ) (e : Entry) → IsNodePage page → level_in page ≢ 0
    → 0 < length (entries_of page) → IfSome (low_of page) (λ fence. IsAtLeast e fence)
    → (last : Entry) × IsLastUpTo (entries_of page) e last
last_exists page e lawful inner some reached =
    at (entries_of page) (lawful.first (inner_is (level_in page) inner)) some
    (last_or_none e (entries_of page))
  where
    at : (es : List Entry) → BeginsAsInner (low_of page) es → 0 < length es
        → ((last : Entry) × IsLastUpTo es e last) ⊎ ((f : Entry) → HasEntry es f → IsBelow e f)
        → (last : Entry) × IsLastUpTo es e last
    at es begins some (inl found) = found
    at [] begins some (inr none) = absurd (omega arith)
    at (x ∷ xs) begins some (inr none) =
        absurd (up_to_first (low_of page) e x begins reached (none x (inl refl)))

pub later_child : (pages : Pages) (level : List ℕ) (before after : List Entry) (last : Entry)
    → AreChildren pages level (before ++ last ∷ after)
    → Has level last.child.0 × (low_of (pages last.child.0) ≡ Some (as_fence last))
later_child pages level [] after last are = (are.0, are.1)
later_child pages level (b ∷ bs) after last are = later_child pages level bs after last are.2

-- the child of an entry of an inner page has the entry, or the page's low fence, as its low fence
pub child_among : (pages : Pages) (level : List ℕ) (low : Option Entry)
    (before after : List Entry) (last : Entry)
    → HasChildren pages level low (before ++ last ∷ after)
    → Has level last.child.0 × ((low_of (pages last.child.0) ≡ Some (as_fence last))
    ⊎ (low_of (pages last.child.0) ≡ low))
child_among pages level low [] after last are = (are.0, inr are.1)
child_among pages level low (b ∷ bs) after last are =
    let child = later_child pages level bs after last are.2 in (child.0, inl child.1)

-- ---- the order of an entry and two others

pub at_least_below : (a b c : Entry) → IsAtLeast b a → IsBelow b c → IsBelow a c
at_least_below a b c up below = at (entry_cmp a b) refl
  where
    at : (o : Ordering) → entry_cmp a b ≡ o → IsBelow a c
    at Less is = entry_cmp_total.trans a b c is below
    at Equal is = entry_cmp_total.congr a b c is ∙ below
    at Greater is = absurd (up (entry_cmp_total.antisymm b a ∙ ap ordering_reverse is))

pub below_at_least : (f q last : Entry) → IsBelow f q → IsAtLeast last q → IsBelow f last
below_at_least f q last less up = at (entry_cmp q last) refl
  where
    at : (o : Ordering) → entry_cmp q last ≡ o → IsBelow f last
    at Less is = entry_cmp_total.trans f q last less is
    at Equal is =
        let turned : entry_cmp q f ≡ Greater = entry_cmp_total.antisymm q f ∙ ap ordering_reverse less in
        entry_cmp_total.antisymm f last ∙ ap ordering_reverse (sym (entry_cmp_total.congr q last f is) ∙ turned)
    at Greater is = absurd (up (entry_cmp_total.antisymm last q ∙ ap ordering_reverse is))

range_by_first : (low high : Option Entry) (e : Entry) (es : List Entry)
    → AreBetween low high (e ∷ es) → IfSome low (λ a. IfSome high (λ b. IsBelow a b))
range_by_first None high e es between = tt
range_by_first (Some a) None e es between = tt
range_by_first (Some a) (Some b) e es between = at_least_below a e b between.0 between.1

-- a page with an entry has its low fence below its high one
pub apart_of_some : (low high : Option Entry) (es : List Entry) (e : Entry) (rest : List Entry)
    → es ≡ e ∷ rest → AreBetween low high es → IfSome low (λ a. IfSome high (λ b. IsBelow a b))
apart_of_some low high es e rest is between =
    range_by_first low high e rest (subst (AreBetween low high) is between)

-- and so has a page that lacks one of them
pub apart_without_low : (low high : Option Entry) → low ≡ None
    → IfSome low (λ a. IfSome high (λ b. IsBelow a b))
apart_without_low low high none = rw none tt

pub apart_without_high : (low high : Option Entry) → high ≡ None
    → IfSome low (λ a. IfSome high (λ b. IsBelow a b))
apart_without_high None high none = tt
apart_without_high (Some a) high none = rw none tt
