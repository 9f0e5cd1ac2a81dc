-- Who is the obstacle of a key.
use Rattle.std.specs.Prelude.{◌≡◌, ℕ, ◌==◌, ◌&&◌, Bool, true, false, List, [], ◌∷◌, Option, Some, None, cond, refl}
use Rattle.std.proofs.lemmas.Bool.{false≢true, eq-eqb}
use Rattle.mg_value.specs.declared.value.Value.{Value}
use Rattle.mg_model.specs.declared.change.Deed.{Deed}
use Rattle.mg_model.specs.declared.change.Deed.TheVariants.{Changed, Marked, Saved}
use Rattle.mg_model.specs.declared.change.Step.{Step}
use Rattle.mg_model.specs.declared.opening.Opening.{Opening}
use Rattle.mg_model.specs.Changes.{is_at, has_change}
use Rattle.mg_model.specs.History.{Entries}
use Rattle.mg_model.specs.Machine.{deeds_by, changes_in, changes_by, steps, own}
use Rattle.mg_model.specs.Answers.{told, can_hinder, changes_key, newest_by, obstacle}
use Rattle.mg_model.specs.LegalLaws.{found_passes}
use Rattle.mg_model.specs.HinderLaws.{none_hinders}

-- who is found has a change of the key
found_changed : (who : ℕ → Bool) (table : List ℕ) (key : Value) (all : List Step) (u : ℕ)
    → newest_by who (changes_key table key) all ≡ Some u
    → has_change (changes_by u all) table key ≡ true
found_changed who table key [] u is = absurd cc
found_changed who table key (s ∷ all) u is =
    at s.deed (who s.by.0) (found_changed who table key all u) is
  where
    newest : Option ℕ
    newest = newest_by who (changes_key table key) all

    behind : (d : Deed) (b : Bool) → has_change (changes_by u all) table key ≡ true
        → has_change (changes_in (cond b (d ∷ deeds_by u all) (deeds_by u all))) table key ≡ true
    behind d false has = has
    behind (Changed c) true has = front (is_at c table key)
      where
        front : (b : Bool) → cond b true (has_change (changes_by u all) table key) ≡ true
        front true = refl
        front false = has
    behind Marked true has = has
    behind (Saved name) true has = has

    front : (d : Deed) → s.by.0 ≡ u → changes_key table key d ≡ true
        → has_change (changes_in (cond (s.by.0 == u) (d ∷ deeds_by u all) (deeds_by u all)))
        table key
        ≡ true
    front (Changed c) same is =
        let its : (s.by.0 == u) ≡ true = eq-eqb s.by.0 u same in rw its (rw is refl)
    front Marked same is = absurd (false≢true is)
    front (Saved name) same is = absurd (false≢true is)

    at : (d : Deed) (w : Bool)
        → (newest ≡ Some u → has_change (changes_by u all) table key ≡ true)
        → cond (w && changes_key table key d) (Some s.by.0) newest ≡ Some u
        → has_change (changes_in (cond (s.by.0 == u) (d ∷ deeds_by u all) (deeds_by u all)))
        table key
        ≡ true
    at d false more is = behind d (s.by.0 == u) (more is)
    at d true more is = by_deed (changes_key table key d) refl is
      where
        by_deed : (c : Bool) → changes_key table key d ≡ c
            → cond c (Some s.by.0) newest ≡ Some u
            → has_change (changes_in (cond (s.by.0 == u) (d ∷ deeds_by u all) (deeds_by u all)))
            table key ≡ true
        by_deed true changes is = let same : s.by.0 ≡ u = cc in front d same changes
        by_deed false other is = behind d (s.by.0 == u) (more is)

-- the obstacle is a transaction that can be in the way, and its own changes have the key
pub obstacle_is : (o : Opening) (h : Entries) (t : ℕ) (table : List ℕ) (key : Value) (u : ℕ)
    → obstacle (told o h) t table key ≡ Some u
    → (can_hinder (told o h) t u ≡ true) × (has_change (own o h u) table key ≡ true)
obstacle_is o h t table key u is = (
  found_passes (can_hinder (told o h) t) (changes_key table key) (steps o h) u is,
  found_changed (can_hinder (told o h) t) table key (steps o h) u is,
)

-- where there is none, nobody whose own changes have the key can be in the way
pub no_obstacle_is : (o : Opening) (h : Entries) (t : ℕ) (table : List ℕ) (key : Value) (u : ℕ)
    → obstacle (told o h) t table key ≡ None → has_change (own o h u) table key ≡ true
    → can_hinder (told o h) t u ≡ false
no_obstacle_is o h t table key u none has =
    none_hinders (can_hinder (told o h) t) table key (steps o h) u none has
