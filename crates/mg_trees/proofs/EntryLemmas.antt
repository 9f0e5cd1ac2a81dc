-- Where an entry stands among those of a page, and which child it goes down by.
use Rattle.std.proofs.Common.{◌≡◌, ◌≢◌, ◌<◌, ◌⊎◌, inl, inr, ◌∙◌, ap, refl, sym, ℕ, ◌==◌, Bool, true, false, List, [], ◌∷◌, ◌++◌, Option, Some, None, length, arith}
use Rattle.std.specs.Prelude.{IfSome, if◌then◌else◌, nat_lt}
use Rattle.std.proofs.lemmas.Bool.{le-ltb, lt-ltb}
use Rattle.std.specs.Cmp.Lexicographic.{slice_cmp}
use Rattle.std.specs.Ordering.{nat_cmp, ordering_then}
use Rattle.std.specs.declared.cmp.Ordering.{Ordering}
use Rattle.std.specs.declared.cmp.Ordering.TheVariants.{Less, Equal, Greater}
use Rattle.mg_node.specs.declared.entry.Entry.{Entry}
use Rattle.mg_node.specs.NodePage.{AreBetween, BeginsAsInner, IsAtLeast, IsBelow, IsFirstEntry, IsLeast, IsNodePage, SamePlace, entries_of, entry_cmp, level_in, low_of}
use Rattle.mg_image.specs.Form.{Pages}
use Rattle.mg_image.specs.Indexes.{AreChildren, HasChildren, HasEntry, IsLastUpTo, as_fence}
use Rattle.mg_image.specs.Tables.{Has}
use Rattle.mg_trees.specs.Searches.{by_order, child_after, last_child}

-- an entry among those of a page lies below its high fence
pub between_has : (low high : Option Entry) (es : List Entry) (e : Entry) → AreBetween low high es
    → HasEntry es e → IfSome high (λ fence. IsBelow e fence)
between_has low high [] e all has = absurd has
between_has low high (f ∷ fs) e all (inl same) = rw same all.1
between_has low high (f ∷ fs) e all (inr later) = between_has low high fs e all.2 later

stays : (e : Entry) (child : ℕ) (after : List Entry)
    → ((f : Entry) → HasEntry after f → IsBelow e f) → last_child e child after ≡ child
stays e child [] all = refl
stays e child (f ∷ fs) all = stays e (child_after e child f) fs (λ g has. all g (inr has))
    ∙ ap (λ (o : Ordering). by_order o child f.child.0) (all f (inl refl))

taken : (o : Ordering) (child next : ℕ) → o ≢ Less → by_order o child next ≡ next
taken Less child next up = absurd (up refl)
taken Equal child next up = refl
taken Greater child next up = refl

last_in : (e : Entry) (child : ℕ) (before after : List Entry) (last : Entry) → IsAtLeast e last
    → ((f : Entry) → HasEntry after f → IsBelow e f)
    → last_child e child (before ++ last ∷ after) ≡ last.child.0
last_in e child [] after last up all =
    stays e (child_after e child last) after all ∙
    taken (entry_cmp e last) child last.child.0 up
last_in e child (b ∷ bs) after last up all =
    last_in e (child_after e child b) bs after last up all

-- the child of the last entry that does not come behind is the one that is found
pub last_child_is : (es : List Entry) (e last : Entry) → IsLastUpTo es e last → (child : ℕ)
    → last_child e child es ≡ last.child.0
last_child_is es e last up child = ap (last_child e child) up.parts
    ∙ last_in e child up.before up.after last up.up_to up.then_behind

is_less : (o : Ordering) → (o ≡ Less) ⊎ (o ≢ Less)
is_less Less = inl refl
is_less Equal = inr (λ same. cc)
is_less Greater = inr (λ same. cc)

-- an entry of a list is the last one up to another, or all come behind it
last_or_none : (e : Entry) (es : List Entry)
    → ((last : Entry) × IsLastUpTo es e last) ⊎ ((f : Entry) → HasEntry es f → IsBelow e f)
last_or_none e [] = inr (λ f has. absurd has)
last_or_none e (x ∷ xs) = at (last_or_none e xs) (is_less (entry_cmp e x))
  where
    behind : IsBelow e x → ((f : Entry) → HasEntry xs f → IsBelow e f) → (f : Entry)
        → HasEntry (x ∷ xs) f → IsBelow e f
    behind less none f (inl same) = rw same less
    behind less none f (inr later) = none f later

    at : ((last : Entry) × IsLastUpTo xs e last) ⊎ ((f : Entry) → HasEntry xs f → IsBelow e f)
        → (entry_cmp e x ≡ Less) ⊎ (entry_cmp e x ≢ Less)
        → ((last : Entry) × IsLastUpTo (x ∷ xs) e last)
        ⊎ ((f : Entry) → HasEntry (x ∷ xs) f → IsBelow e f)
    at (inl found) which = inl (
      found.0,
      record {
        before = x ∷ found.1.before;
        after = found.1.after;
        parts = ap (λ (ys : List Entry). x ∷ ys) found.1.parts;
        up_to = found.1.up_to;
        then_behind = found.1.then_behind;
      },
    )
    at (inr none) (inl less) = inr (behind less none)
    at (inr none) (inr up) = inl (
      x,
      record {
        before = [];
        after = xs;
        parts = refl;
        up_to = up;
        then_behind = none;
      },
    )

-- an entry does not come before one that has the place of a fence that it does not come before
up_to_same : (e x fence : Entry) → SamePlace x fence → IsAtLeast e fence → IsAtLeast e x
up_to_same e x fence same up =
    let as_one : entry_cmp e x ≡ entry_cmp e fence = rw (same.key, same.rec) refl in
    λ less. up (sym as_one ∙ less)

key_not_less : (key : List ℕ) → slice_cmp nat_cmp key [] ≢ Less
key_not_less [] = λ less. cc
key_not_less (k ∷ ks) = λ less. cc

number_not_less : (n : ℕ) → nat_cmp n 0 ≢ Less
number_not_less n = rw (le-ltb n 0 (omega arith)) (at (n == 0))
  where
    at : (b : Bool) → (if b then Equal else Greater) ≢ Less
    at true = λ less. cc
    at false = λ less. cc

then_not_less : (a b : Ordering) → a ≢ Less → b ≢ Less → ordering_then a b ≢ Less
then_not_less Less b first second = absurd (first refl)
then_not_less Equal b first second = second
then_not_less Greater b first second = λ less. cc

-- nor before the least one
up_to_least : (e x : Entry) → IsLeast x → IsAtLeast e x
up_to_least e x least =
    rw (least.key, least.page, least.slot) (then_not_less (slice_cmp nat_cmp e.key [])
    (ordering_then (nat_cmp e.rec.page.0 0) (nat_cmp e.rec.slot 0)) (key_not_less e.key)
    (then_not_less (nat_cmp e.rec.page.0 0) (nat_cmp e.rec.slot 0) (number_not_less e.rec.page.0)
    (number_not_less e.rec.slot)))

up_to_first : (low : Option Entry) (e x : Entry) → IsFirstEntry low x
    → IfSome low (λ fence. IsAtLeast e fence) → IsAtLeast e x
up_to_first (Some fence) e x first reached = up_to_same e x fence first reached
up_to_first None e x first reached = up_to_least e x first

inner_is : (level : ℕ) → level ≢ 0 → nat_lt 0 level ≡ true
inner_is level some = lt-ltb 0 level (omega arith)

-- on an inner page from whose low fence on an entry lies there is a last entry up to it
pub last_exists : (page : List ℕ) (e : Entry) → IsNodePage page → level_in page ≢ 0
    → 0 < length (entries_of page) → IfSome (low_of page) (λ fence. IsAtLeast e fence)
    → (last : Entry) × IsLastUpTo (entries_of page) e last
last_exists page e lawful inner some reached =
    at (entries_of page) (lawful.first (inner_is (level_in page) inner)) some
    (last_or_none e (entries_of page))
  where
    at : (es : List Entry) → BeginsAsInner (low_of page) es → 0 < length es
        → ((last : Entry) × IsLastUpTo es e last) ⊎ ((f : Entry) → HasEntry es f → IsBelow e f)
        → (last : Entry) × IsLastUpTo es e last
    at es begins some (inl found) = found
    at [] begins some (inr none) = absurd (omega arith)
    at (x ∷ xs) begins some (inr none) =
        absurd (up_to_first (low_of page) e x begins reached (none x (inl refl)))

later_child : (pages : Pages) (level : List ℕ) (before after : List Entry) (last : Entry)
    → AreChildren pages level (before ++ last ∷ after)
    → Has level last.child.0 × (low_of (pages last.child.0) ≡ Some (as_fence last))
later_child pages level [] after last are = (are.0, are.1)
later_child pages level (b ∷ bs) after last are = later_child pages level bs after last are.2

-- the child of an entry of an inner page has the entry, or the page's low fence, as its low fence
pub child_among : (pages : Pages) (level : List ℕ) (low : Option Entry)
    (before after : List Entry) (last : Entry)
    → HasChildren pages level low (before ++ last ∷ after)
    → Has level last.child.0 × ((low_of (pages last.child.0) ≡ Some (as_fence last))
    ⊎ (low_of (pages last.child.0) ≡ low))
child_among pages level low [] after last are = (are.0, inr are.1)
child_among pages level low (b ∷ bs) after last are =
    let child = later_child pages level bs after last are.2 in (child.0, inl child.1)
