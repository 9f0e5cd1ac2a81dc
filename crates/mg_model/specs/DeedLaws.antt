-- What one entry makes of the deeds of a transaction, and of its base and view.
use Rattle.std.specs.Prelude.{◌≡◌, ℕ, ◌==◌, ◌&&◌, Bool, true, false, List, ◌∷◌, ◌++◌, Some, cond, refl}
use Rattle.std.proofs.Common.{◌∙◌, ap}
use Rattle.std.proofs.lemmas.Bool.{eqb-true}
use Rattle.mg_value.specs.declared.value.Value.{Value}
use Rattle.mg_model.specs.declared.change.Deed.{Deed}
use Rattle.mg_model.specs.declared.change.Deed.TheVariants.{Marked, Saved}
use Rattle.mg_model.specs.declared.change.Step.{Step}
use Rattle.mg_model.specs.declared.opening.Opening.{Opening}
use Rattle.mg_model.specs.Catalog.{CatalogRows, catalog_name, key_in}
use Rattle.mg_model.specs.Changes.{row_at}
use Rattle.mg_model.specs.History.{Entry, Entries, Point, Effect, Begins, Looks, Makes, Gives, Marks, Saves, TakesBack, Ends, Nothing, effect_of}
use Rattle.mg_model.specs.Machine.{deeds_by, changes_by, changed, taken_back, steps_after, steps, base, mode_of, is_of, takes_base}
use Rattle.mg_model.specs.Answers.{told, catalog_of}
use Rattle.mg_model.specs.Effects.{drawn, deeds_left}
use Rattle.mg_model.specs.EntryLaws.{deeds_by-taken_back, deeds_by-taken_back_other}

-- the deeds of a transaction that stand after an effect; `catalog` is what it sees of the catalog
abbrev pub deeds_after : Effect → ℕ → CatalogRows → List Deed → List Deed
deeds_after (Begins u mode) t catalog old = old
deeds_after (Looks u) t catalog old = old
deeds_after (Makes u table row) t catalog old =
    cond (u == t) (changed table (key_in catalog table row) (Some row) ∷ old) old
deeds_after (Gives u table key row) t catalog old = cond (u == t) (changed table key row ∷ old) old
deeds_after (Marks u) t catalog old = cond (u == t) (Marked ∷ old) old
deeds_after (Saves u name) t catalog old = cond (u == t) (Saved name ∷ old) old
deeds_after (TakesBack u point) t catalog old = cond (u == t) (deeds_left point old) old
deeds_after (Ends u end) t catalog old = old
deeds_after Nothing t catalog old = old

deeds_after_back : (u t : ℕ) (point : Point) (all : List Step)
    → deeds_by t (taken_back u point all)
    ≡ cond (u == t) (deeds_left point (deeds_by t all)) (deeds_by t all)
deeds_after_back u t point all = at (u == t) refl
  where
    at : (b : Bool) → (u == t) ≡ b → deeds_by t (taken_back u point all)
        ≡ cond b (deeds_left point (deeds_by t all)) (deeds_by t all)
    at true its =
        let same : u ≡ t = eqb-true u t its in
        ap (λ v. deeds_by t (taken_back v point all)) same ∙ deeds_by-taken_back t point all
    at false other = deeds_by-taken_back_other t u point all other

deeds_after_making : (u t : ℕ) (table : List ℕ) (row : List Value) (catalog : ℕ → CatalogRows)
    (old : List Deed)
    → cond (u == t) (changed table (key_in (catalog u) table row) (Some row) ∷ old) old
    ≡ cond (u == t) (changed table (key_in (catalog t) table row) (Some row) ∷ old) old
deeds_after_making u t table row catalog old = at (u == t) refl
  where
    at : (b : Bool) → (u == t) ≡ b
        → cond b (changed table (key_in (catalog u) table row) (Some row) ∷ old) old
        ≡ cond b (changed table (key_in (catalog t) table row) (Some row) ∷ old) old
    at true its =
        ap (λ v. changed table (key_in (catalog v) table row) (Some row) ∷ old) (eqb-true u t its)
    at false other = refl

deeds_after_effect : (f : Effect) (t : ℕ) (catalog : ℕ → CatalogRows) (all : List Step)
    → deeds_by t (steps_after f catalog all) ≡ deeds_after f t (catalog t) (deeds_by t all)
deeds_after_effect (Makes u table row) t catalog all =
    deeds_after_making u t table row catalog (deeds_by t all)
deeds_after_effect (TakesBack u point) t catalog all = deeds_after_back u t point all
deeds_after_effect f t catalog all = refl

-- what an entry makes of a transaction's deeds: one more, what is left of them, or the same
pub deeds_after_entry : (o : Opening) (h : Entries) (e : Entry) (t : ℕ)
    → deeds_by t (steps o (e ∷ h))
    ≡ deeds_after (effect_of e) t (catalog_of (told o h) t) (deeds_by t (steps o h))
deeds_after_entry o h e t =
    deeds_after_effect (effect_of e) t
    (λ u. row_at (changes_by u (steps o h) ++ base o h u) catalog_name) (steps o h)

pub takes_base_once : (f : Effect) (t : ℕ) (snapshot : Bool) → snapshot ≡ true
    → is_of t (drawn f) ≡ false → takes_base f t snapshot ≡ false
takes_base_once (Begins u mode) t snapshot one undrawn = undrawn
takes_base_once (Looks u) t snapshot one undrawn = rw one (at (u == t))
  where
    at : (b : Bool) → (b && false) ≡ false
    at true = refl
    at false = refl
takes_base_once f t snapshot one undrawn = refl

-- a transaction that reads by one snapshot takes no other base
pub snapshot_stands : (o : Opening) (h : Entries) (e : Entry) (t : ℕ)
    → (mode_of h t).snapshot ≡ true → is_of t (drawn (effect_of e)) ≡ false
    → base o (e ∷ h) t ≡ base o h t
snapshot_stands o h e t one undrawn =
    let none : takes_base (effect_of e) t (mode_of h t).snapshot ≡ false =
    takes_base_once (effect_of e) t (mode_of h t).snapshot one undrawn in
    rw none refl
