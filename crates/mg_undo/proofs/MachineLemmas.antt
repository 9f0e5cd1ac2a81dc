-- What is kept and given back, by what a transaction did in the history machine.
use Rattle.std.specs.Prelude.{◌≡◌, ℕ, suc, ◌-◌, ◌≤◌, ◌==◌, ◌&&◌, ◌||◌, Bool, true, false, List, [], ◌∷◌, ◌++◌, length, take, drop, map, Option, Some, None, cond, refl}
use Rattle.std.proofs.Common.{sym, ◌∙◌, ap, subst, arith}
use Rattle.std.proofs.lemmas.Bool.{false≢true, both_ways, eq-eqb, ne_eqb}
use Rattle.std.proofs.lemmas.List.{length-append}
use Rattle.std.specs.Cmp.Lexicographic.{same_text}
use Rattle.std.specs.List.{list_any}
use Rattle.mg_model.specs.declared.change.Change.{Change as AnyChange}
use Rattle.mg_model.specs.declared.change.Deed.{Deed}
use Rattle.mg_model.specs.declared.change.Deed.TheVariants.{Changed, Marked, Saved}
use Rattle.mg_model.specs.declared.change.Point.{Point}
use Rattle.mg_model.specs.declared.change.Point.TheVariants.{LastMark, SavepointNamed}
use Rattle.mg_model.specs.Changes.{same_name, same_key, is_at}
use Rattle.mg_model.specs.Machine.{changes_in, is_point}
use Rattle.mg_model.specs.Effects.{has_deed, deeds_left}
use Rattle.mg_model.specs.BackLaws.{deeds_left-new}
use Rattle.mg_undo.specs.declared.changes.Was.{Was}
use Rattle.mg_undo.specs.declared.changes.Change.{Change}
use Rattle.mg_undo.specs.declared.points.Standing.{Standing}
use Rattle.mg_undo.specs.Undo.{State, state_of, is_named, is_goal, has_point, from_goal, AreWithin, is_same_place, since, first_changes, TakesBack}
use Rattle.mg_undo.specs.Machine.{was_in, changes_of, points_of, undo_of, NotesDeeds, going_to, changes_since, has_same, first_of, given_from, TellsApart, TellsFrom, GoesBackAsTheMachine, GivesWhatWas}
use Rattle.mg_undo.proofs.Steps.{within_more, from_within}
use Rattle.mg_undo.proofs.Given.{gives_first_changes}

-- the name of a point, none of a mark
abbrev name_of : Point → Option (List ℕ)
name_of LastMark = None
name_of (SavepointNamed name) = Some name

mark_named : (point : Point) → is_named (name_of point) None ≡ is_point point Marked
mark_named LastMark = refl
mark_named (SavepointNamed name) = refl

saved_named : (point : Point) (name : List ℕ)
    → is_named (name_of point) (Some name) ≡ is_point point (Saved name)
saved_named LastMark name = refl
saved_named (SavepointNamed own) name = refl

no_point : (point : Point) (c : AnyChange) → is_point point (Changed c) ≡ false
no_point LastMark c = refl
no_point (SavepointNamed name) c = refl

point_found : (point : Point) (deeds : List Deed)
    → list_any (is_goal (name_of point)) (points_of deeds) ≡ has_deed point deeds
point_found point [] = refl
point_found point (Changed c ∷ deeds) = rw (no_point point c) (point_found point deeds)
point_found point (Marked ∷ deeds) =
    ap (λ b. b || list_any (is_goal (name_of point)) (points_of deeds)) (mark_named point)
    ∙ ap (λ b. is_point point Marked || b) (point_found point deeds)
point_found point (Saved name ∷ deeds) =
    ap (λ b. b || list_any (is_goal (name_of point)) (points_of deeds)) (saved_named point name)
    ∙ ap (λ b. is_point point (Saved name) || b) (point_found point deeds)

-- ---- the deeds since a point, the point, and the deeds before it

record Split (point : Point) (deeds : List Deed) : Type 0 where
  news : List Deed
  d : Deed
  olds : List Deed
  is : deeds ≡ news ++ (d ∷ olds)
  none : has_deed point news ≡ false
  sets : is_point point d ≡ true

split : (point : Point) (deeds : List Deed) → has_deed point deeds ≡ true → Split point deeds
split point [] has = absurd (false≢true has)
split point (d ∷ deeds) has = at (is_point point d) refl has (split point deeds)
  where
    at : (b : Bool) → is_point point d ≡ b → (b || has_deed point deeds) ≡ true
        → (has_deed point deeds ≡ true → Split point deeds) → Split point (d ∷ deeds)
    at true it_sets has more = record {
      news = [];
      d = d;
      olds = deeds;
      is = refl;
      none = refl;
      sets = it_sets;
    }
    at false other has more =
        let rest = more has in record {
          news = d ∷ rest.news;
          d = rest.d;
          olds = rest.olds;
          is = ap (λ (ds : List Deed). d ∷ ds) rest.is;
          none = ap (λ b. b || has_deed point rest.news) other ∙ rest.none;
          sets = rest.sets;
        }

has_split : (point : Point) (news : List Deed) (d : Deed) (olds : List Deed)
    → is_point point d ≡ true → has_deed point (news ++ (d ∷ olds)) ≡ true
has_split point [] d olds sets = rw sets refl
has_split point (n ∷ news) d olds sets =
    at (is_point point n) (has_split point news d olds sets)
  where
    at : (b : Bool) → has_deed point (news ++ (d ∷ olds)) ≡ true
        → (b || has_deed point (news ++ (d ∷ olds))) ≡ true
    at true more = refl
    at false more = more

or_false : (a b : Bool) → (a || b) ≡ false → (a ≡ false) × (b ≡ false)
or_false true b is = absurd (false≢true (sym is))
or_false false b is = (refl, is)

changes_in-append : (news olds : List Deed)
    → changes_in (news ++ olds) ≡ changes_in news ++ changes_in olds
changes_in-append [] olds = refl
changes_in-append (Changed c ∷ news) olds =
    ap (λ (cs : List AnyChange). c ∷ cs) (changes_in-append news olds)
changes_in-append (Marked ∷ news) olds = changes_in-append news olds
changes_in-append (Saved name ∷ news) olds = changes_in-append news olds

since_split : (point : Point) (news : List Deed) (d : Deed) (olds : List Deed)
    → has_deed point news ≡ false → is_point point d ≡ true
    → changes_since point (news ++ (d ∷ olds)) ≡ changes_in news
since_split point [] (Changed c) olds none sets =
    absurd (both_ways (is_point point (Changed c)) (no_point point c) sets)
since_split point [] Marked olds none sets = rw sets refl
since_split point [] (Saved name) olds none sets = rw sets refl
since_split point (Changed c ∷ news) d olds none sets =
    ap (λ (cs : List AnyChange). c ∷ cs)
    (since_split point news d olds (or_false _ _ none).1 sets)
since_split point (Marked ∷ news) d olds none sets =
    let parts = or_false (is_point point Marked) (has_deed point news) none in
    rw (parts.0) (since_split point news d olds parts.1 sets)
since_split point (Saved name ∷ news) d olds none sets =
    let parts = or_false (is_point point (Saved name)) (has_deed point news) none in
    rw (parts.0) (since_split point news d olds parts.1 sets)

-- the points from a point on
from_split : (point : Point) (news : List Deed) (d : Deed) (olds : List Deed)
    → has_deed point news ≡ false → is_point point d ≡ true
    → from_goal (name_of point) (points_of (news ++ (d ∷ olds))) ≡ points_of (d ∷ olds)
from_split point [] (Changed c) olds none sets =
    absurd (both_ways (is_point point (Changed c)) (no_point point c) sets)
from_split point [] Marked olds none sets = rw (mark_named point ∙ sets) refl
from_split point [] (Saved name) olds none sets = rw (saved_named point name ∙ sets) refl
from_split point (Changed c ∷ news) d olds none sets =
    from_split point news d olds (or_false _ _ none).1 sets
from_split point (Marked ∷ news) d olds none sets =
    let parts = or_false (is_point point Marked) (has_deed point news) none in
    rw (mark_named point ∙ parts.0) (from_split point news d olds parts.1 sets)
from_split point (Saved name ∷ news) d olds none sets =
    let parts = or_false (is_point point (Saved name)) (has_deed point news) none in
    rw (saved_named point name ∙ parts.0) (from_split point news d olds parts.1 sets)

-- ---- what is kept of deeds

module _ (number : List ℕ → ℕ) where
  abbrev kept : AnyChange → List Deed → Change
  kept c deeds =
      record { table = number c.table; key = c.key; was = was_in (changes_in deeds) c.table c.key }

  -- what is kept of newer deeds over older ones
  abbrev kept_over : List Deed → List Deed → List Change
  kept_over [] olds = []
  kept_over (Changed c ∷ news) olds = kept c (news ++ olds) ∷ kept_over news olds
  kept_over (Marked ∷ news) olds = kept_over news olds
  kept_over (Saved name ∷ news) olds = kept_over news olds

  changes_of-append : (news olds : List Deed)
      → changes_of number (news ++ olds) ≡ kept_over news olds ++ changes_of number olds
  changes_of-append [] olds = refl
  changes_of-append (Changed c ∷ news) olds =
      ap (λ (cs : List Change). kept c (news ++ olds) ∷ cs) (changes_of-append news olds)
  changes_of-append (Marked ∷ news) olds = changes_of-append news olds
  changes_of-append (Saved name ∷ news) olds = changes_of-append news olds

  length-changes_of : (deeds : List Deed)
      → length (changes_of number deeds) ≡ length (changes_in deeds)
  length-changes_of [] = refl
  length-changes_of (Changed c ∷ deeds) = ap suc (length-changes_of deeds)
  length-changes_of (Marked ∷ deeds) = length-changes_of deeds
  length-changes_of (Saved name ∷ deeds) = length-changes_of deeds

  points_within : (deeds : List Deed) → AreWithin (length (changes_in deeds)) (points_of deeds)
  points_within [] = tt
  points_within (Changed c ∷ deeds) =
      within_more (length (changes_in deeds)) (length (changes_in (Changed c ∷ deeds)))
      (points_of deeds) (omega arith) (points_within deeds)
  points_within (Marked ∷ deeds) = (omega arith, points_within deeds)
  points_within (Saved name ∷ deeds) = (omega arith, points_within deeds)

  pub undo_within : (deeds : List Deed)
      → AreWithin (length (changes_of number deeds)) (points_of deeds)
  undo_within deeds =
      within_more (length (changes_in deeds)) (length (changes_of number deeds)) (points_of deeds)
      (omega (arith, length-changes_of deeds)) (points_within deeds)

  take_front : (xs ys : List Change) → take (length (xs ++ ys) - length ys) (xs ++ ys) ≡ xs
  take_front [] ys = let none : length ys - length ys ≡ 0 = omega arith in rw none refl
  take_front (x ∷ xs) ys =
      let long : length ys ≤ length (xs ++ ys) = omega (arith, length-append xs ys) in
      let one : length (x ∷ (xs ++ ys)) - length ys ≡ suc (length (xs ++ ys) - length ys) =
      omega arith in
      rw one (ap (λ (zs : List Change). x ∷ zs) (take_front xs ys))

  drop_front : (xs ys : List Change) → drop (length (xs ++ ys) - length ys) (xs ++ ys) ≡ ys
  drop_front [] ys = let none : length ys - length ys ≡ 0 = omega arith in rw none refl
  drop_front (x ∷ xs) ys =
      let long : length ys ≤ length (xs ++ ys) = omega (arith, length-append xs ys) in
      let one : length (x ∷ (xs ++ ys)) - length ys ≡ suc (length (xs ++ ys) - length ys) =
      omega arith in
      rw one (drop_front xs ys)

  -- ---- what was at a key

  was_past : (news olds : List AnyChange) (c : AnyChange) → has_same c news ≡ false
      → was_in (news ++ olds) c.table c.key ≡ was_in olds c.table c.key
  was_past [] olds c none = refl
  was_past (d ∷ news) olds c none =
      let parts = or_false (is_at d c.table c.key) (has_same c news) none in
      rw (parts.0) (was_past news olds c parts.1)

  same_number : (a b : List ℕ) → (number b ≡ number a → same_name b a ≡ true)
      → (number b == number a) ≡ same_name b a
  same_number a b apart = at (same_name b a) refl
    where
      at : (it : Bool) → same_name b a ≡ it → (number b == number a) ≡ it
      at true is = eq-eqb (number b) (number a) (ap number (same_text b a (sym is)))
      at false is =
          ne_eqb (number b) (number a) (λ same. both_ways (same_name b a) is (apart same))

  any_same : (c : AnyChange) (news olds : List Deed) (was : Was) → TellsFrom number c (changes_in news)
      → list_any (is_same_place (record { table = number c.table; key = c.key; was = was }))
      (kept_over news olds) ≡ has_same c (changes_in news)
  any_same c [] olds was apart = refl
  any_same c (Changed d ∷ news) olds was apart =
      ap (λ b. b && same_key d.key c.key
      || list_any (is_same_place (record { table = number c.table; key = c.key; was = was }))
      (kept_over news olds)) (same_number c.table d.table apart.0)
      ∙ ap (λ b. is_at d c.table c.key || b) (any_same c news olds was apart.1)
  any_same c (Marked ∷ news) olds was apart = any_same c news olds was apart
  any_same c (Saved name ∷ news) olds was apart = any_same c news olds was apart

  first_kept_over : (news olds : List Deed) → TellsApart number (changes_in news)
      → first_changes (kept_over news olds)
      ≡ map (given_from number (changes_in olds)) (first_of (changes_in news))
  first_kept_over [] olds apart = refl
  first_kept_over (Marked ∷ news) olds apart = first_kept_over news olds apart
  first_kept_over (Saved name ∷ news) olds apart = first_kept_over news olds apart
  first_kept_over (Changed c ∷ news) olds apart =
      ap (λ b. cond b (first_changes (kept_over news olds))
      (kept c (news ++ olds) ∷ first_changes (kept_over news olds)))
      (any_same c news olds (was_in (changes_in (news ++ olds)) c.table c.key) apart.0)
      ∙ at (has_same c (changes_in news)) refl (first_kept_over news olds apart.1)
    where
      at : (b : Bool) → has_same c (changes_in news) ≡ b
          → first_changes (kept_over news olds)
          ≡ map (given_from number (changes_in olds)) (first_of (changes_in news))
          → cond b (first_changes (kept_over news olds))
          (kept c (news ++ olds) ∷ first_changes (kept_over news olds))
          ≡ map (given_from number (changes_in olds))
          (cond b (first_of (changes_in news)) (c ∷ first_of (changes_in news)))
      at true again more = more
      at false first more =
          let was : was_in (changes_in (news ++ olds)) c.table c.key
          ≡ was_in (changes_in olds) c.table c.key =
          ap (λ (cs : List AnyChange). was_in cs c.table c.key) (changes_in-append news olds)
          ∙ was_past (changes_in news) (changes_in olds) c first in
          ap (λ (w : Was). record { table = number c.table; key = c.key; was = w }
          ∷ first_changes (kept_over news olds)) was
          ∙ ap (λ (cs : List Change). given_from number (changes_in olds) c ∷ cs) more

pub notes_deeds : NotesDeeds
notes_deeds = record {
  changed = λ number c deeds. refl;
  marked = λ number deeds. ap (set_over number deeds None) (sym (length-changes_of number deeds));
  saved = λ number name deeds.
      ap (set_over number deeds (Some name)) (sym (length-changes_of number deeds));
  found = λ number name deeds. point_found (SavepointNamed name) deeds;
}
  where
    set_over : (List ℕ → ℕ) → List Deed → Option (List ℕ) → ℕ → State
    set_over number deeds name n =
        state_of (changes_of number deeds) (record { name = name; at = n } ∷ points_of deeds) false

-- ---- what all steps give, and what is left

module _ (number : List ℕ → ℕ) (news olds : List Deed) (new : State) (given : List Change) where
  given_front : (at : ℕ) (d : Deed) → at ≡ length (changes_in olds)
      → changes_of number (d ∷ olds) ≡ changes_of number olds
      → given ≡ first_changes (since at (changes_of number (news ++ (d ∷ olds))))
      → given ≡ first_changes (kept_over number news (d ∷ olds))
  given_front at d at_is kept_d is =
      let ys : List Change = changes_of number olds in
      let front : changes_of number (news ++ (d ∷ olds)) ≡ kept_over number news (d ∷ olds) ++ ys =
      changes_of-append number news (d ∷ olds)
      ∙ ap (λ (cs : List Change). kept_over number news (d ∷ olds) ++ cs) kept_d in
      let n_is : at ≡ length ys = at_is ∙ sym (length-changes_of number olds) in
      is ∙ ap (λ n. first_changes (since n (changes_of number (news ++ (d ∷ olds))))) n_is
      ∙ ap (λ (cs : List Change). first_changes (since (length ys) cs)) front
      ∙ ap first_changes (take_front number (kept_over number news (d ∷ olds)) ys)

  left_front : (at : ℕ) (d : Deed) (points : List Standing) → at ≡ length (changes_in olds)
      → changes_of number (d ∷ olds) ≡ changes_of number olds
      → new ≡ state_of (drop (length (changes_of number (news ++ (d ∷ olds))) - at)
      (changes_of number (news ++ (d ∷ olds)))) points false
      → new ≡ state_of (changes_of number olds) points false
  left_front at d points at_is kept_d is =
      let ys : List Change = changes_of number olds in
      let front : changes_of number (news ++ (d ∷ olds)) ≡ kept_over number news (d ∷ olds) ++ ys =
      changes_of-append number news (d ∷ olds)
      ∙ ap (λ (cs : List Change). kept_over number news (d ∷ olds) ++ cs) kept_d in
      let n_is : at ≡ length ys = at_is ∙ sym (length-changes_of number olds) in
      is
      ∙ ap (λ n. state_of (drop (length (changes_of number (news ++ (d ∷ olds))) - n)
      (changes_of number (news ++ (d ∷ olds)))) points false) n_is
      ∙ ap (λ (cs : List Change). state_of (drop (length cs - length ys) cs) points false) front
      ∙ ap (λ (cs : List Change). state_of cs points false)
      (drop_front number (kept_over number news (d ∷ olds)) ys)

  mark_taken : has_deed LastMark news ≡ false
      → TakesBack (undo_of number (news ++ (Marked ∷ olds))) given new
      → (new ≡ undo_of number olds) × (given ≡ first_changes (kept_over number news (Marked ∷ olds)))
  mark_taken none taken =
      let both = gives_first_changes (undo_of number (news ++ (Marked ∷ olds))) new given
      (record { name = None; at = length (changes_in olds) }) (points_of olds)
      (undo_within number (news ++ (Marked ∷ olds)))
      (from_split LastMark news Marked olds none refl) taken in (
        left_front (length (changes_in olds)) Marked (points_of olds) refl refl both.1,
        given_front (length (changes_in olds)) Marked refl refl both.0,
      )

  saved_taken : (name own : List ℕ) → has_deed (SavepointNamed name) news ≡ false
      → same_name name own ≡ true
      → TakesBack (going_to (undo_of number (news ++ (Saved own ∷ olds))) (SavepointNamed name)) given new
      → (new ≡ undo_of number (Saved own ∷ olds))
      × (given ≡ first_changes (kept_over number news (Saved own ∷ olds)))
  saved_taken name own none same taken =
      let deeds : List Deed = news ++ (Saved own ∷ olds) in
      let found : has_point (undo_of number deeds) (Some name) ≡ true =
      point_found (SavepointNamed name) deeds ∙ has_split (SavepointNamed name) news (Saved own) olds same in
      let start : State =
      state_of (changes_of number deeds) (from_goal (Some name) (points_of deeds)) true in
      let begins : going_to (undo_of number deeds) (SavepointNamed name) ≡ start = rw found refl in
      let P : State → Type 0 = λ s. TakesBack s given new in
      let both = gives_first_changes start new given
      (record { name = Some own; at = length (changes_in olds) }) (points_of olds)
      (from_within (Some name) (length (changes_of number deeds)) (points_of deeds)
      (undo_within number deeds))
      (from_split (SavepointNamed name) news (Saved own) olds none same)
      (subst P begins taken) in (
        left_front (length (changes_in olds)) (Saved own) (points_of (Saved own ∷ olds)) refl refl both.1,
        given_front (length (changes_in olds)) (Saved own) refl refl both.0,
      )

-- what is said of all steps of going back to a point
abbrev AllTaken : (List ℕ → ℕ) → Point → List Deed → State → List Change → Type 0
AllTaken number point deeds new given =
    (new ≡ undo_of number (deeds_left point deeds))
    × (TellsApart number (changes_since point deeds) → given ≡ map (given_from number (changes_in (deeds_left point deeds)))
    (first_of (changes_since point deeds)))

all_given : (number : List ℕ → ℕ) (point : Point) (news : List Deed) (d : Deed) (olds left : List Deed)
    (given : List Change) → has_deed point news ≡ false → is_point point d ≡ true
    → changes_in (d ∷ olds) ≡ changes_in left
    → deeds_left point (news ++ (d ∷ olds)) ≡ left
    → given ≡ first_changes (kept_over number news (d ∷ olds))
    → TellsApart number (changes_since point (news ++ (d ∷ olds)))
    → given ≡ map (given_from number (changes_in (deeds_left point (news ++ (d ∷ olds)))))
    (first_of (changes_since point (news ++ (d ∷ olds))))
all_given number point news d olds left given none sets same left_is is apart =
    is ∙ first_kept_over number news (d ∷ olds)
    (subst (TellsApart number) (since_split point news d olds none sets) apart)
    ∙ ap (λ (cs : List AnyChange). map (given_from number cs) (first_of (changes_in news)))
    (same ∙ ap changes_in (sym left_is))
    ∙ ap (λ (cs : List AnyChange). map (given_from number (changes_in (deeds_left point (news ++ (d ∷ olds)))))
    (first_of cs)) (sym (since_split point news d olds none sets))

module _ (number : List ℕ → ℕ) (new : State) (given : List Change) where
  split_taken : (point : Point) (news : List Deed) (d : Deed) (olds : List Deed)
      → has_deed point news ≡ false → is_point point d ≡ true
      → TakesBack (going_to (undo_of number (news ++ (d ∷ olds))) point) given new
      → AllTaken number point (news ++ (d ∷ olds)) new given
  split_taken LastMark news (Changed c) olds none sets taken = absurd (false≢true sets)
  split_taken LastMark news (Saved own) olds none sets taken = absurd (false≢true sets)
  split_taken LastMark news Marked olds none sets taken =
      let both = mark_taken number news olds new given none taken in
      let left : deeds_left LastMark (news ++ (Marked ∷ olds)) ≡ olds =
      deeds_left-new LastMark Marked news olds none refl in (
        both.0 ∙ ap (undo_of number) (sym left),
        all_given number LastMark news Marked olds olds given none refl refl left both.1,
      )
  split_taken (SavepointNamed name) news (Changed c) olds none sets taken = absurd (false≢true sets)
  split_taken (SavepointNamed name) news Marked olds none sets taken = absurd (false≢true sets)
  split_taken (SavepointNamed name) news (Saved own) olds none sets taken =
      let both = saved_taken number news olds new given name own none sets taken in
      let left : deeds_left (SavepointNamed name) (news ++ (Saved own ∷ olds)) ≡ Saved own ∷ olds =
      deeds_left-new (SavepointNamed name) (Saved own) news olds none sets in (
        both.0 ∙ ap (undo_of number) (sym left),
        all_given number (SavepointNamed name) news (Saved own) olds (Saved own ∷ olds) given none
            sets refl left both.1,
      )

  all_taken : (point : Point) (deeds : List Deed) → has_deed point deeds ≡ true
      → TakesBack (going_to (undo_of number deeds) point) given new
      → AllTaken number point deeds new given
  all_taken point deeds has taken =
      let parts = split point deeds has in
      let P : List Deed → Type 0 = λ ds. TakesBack (going_to (undo_of number ds) point) given new
      → AllTaken number point ds new given in
      subst P (sym parts.is)
      (split_taken point parts.news parts.d parts.olds parts.none parts.sets) taken

pub goes_back : GoesBackAsTheMachine
goes_back number deeds point new given has taken =
    (all_taken number new given point deeds has taken).0

pub gives_what_was : GivesWhatWas
gives_what_was number deeds point new given apart has taken =
    (all_taken number new given point deeds has taken).1 apart
