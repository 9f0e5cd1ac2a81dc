-- No transaction makes a row of the catalog twice.
use Rattle.std.specs.Prelude.{◌≡◌, ℕ, ◌==◌, not, Bool, true, false, List, [], ◌∷◌, ◌++◌, map, Option, None, Some, IsSome, cond, refl}
use Rattle.std.proofs.Common.{sym, ◌∙◌, ap, subst}
use Rattle.std.proofs.lemmas.Bool.{eqb-true, false≢true}
use Rattle.mg_value.specs.declared.value.Value.{Value}
use Rattle.mg_model.specs.declared.change.Change.{Change}
use Rattle.mg_model.specs.declared.change.Deed.{Deed}
use Rattle.mg_model.specs.declared.change.Deed.TheVariants.{Changed, Marked, Saved}
use Rattle.mg_model.specs.declared.change.Point.{Point}
use Rattle.mg_model.specs.declared.change.Point.TheVariants.{LastMark, SavepointNamed}
use Rattle.mg_model.specs.declared.event.Event.TheVariants.{Insert}
use Rattle.mg_model.specs.declared.opening.LimboChange.{LimboChange}
use Rattle.mg_model.specs.declared.opening.Opening.{Opening}
use Rattle.mg_model.specs.Answers.{catalog_of, is_open, number, told}
use Rattle.mg_model.specs.Catalog.{CatalogRows, catalog_name, key_in}
use Rattle.mg_model.specs.Changes.{Cells, has_change, is_at, row_at, same_name}
use Rattle.mg_model.specs.DeedLaws.{deeds_after, deeds_after_entry}
use Rattle.mg_model.specs.Effects.{deeds_back, deeds_left, from_point, has_deed}
use Rattle.mg_model.specs.History.{Begins, Effect, Ends, Entries, Entry, Gives, Looks, Makes, Marks, Nothing, Saves, TakesBack, effect_of}
use Rattle.mg_model.specs.Legal.{IsLegal, MayBegin}
use Rattle.mg_model.specs.Machine.{base, changed, changes_in, deeds_by, is_point, limbo_step, own, steps, view}
use Rattle.mg_model.specs.Openings.{HaveOwnKeys, IsOpening, chosen_changes, everyone}
use Rattle.mg_model.specs.Promises.{InsertIsFine, MayWrite}
use Rattle.mg_model.specs.ReadLaws.{same_name_itself}
use Rattle.mg_model.specs.RowLaws.{row_at-append}
use Rattle.mg_grown_catalog_laws.specs.Grown.{CatalogGrows, makes_alone}
use Rattle.mg_grown_catalog_laws.specs.GrownLaws.{IsInsert, fine_answer, insert_of, own_rows_are_new}
use Rattle.mg_grown_catalog_laws.specs.MadeOnce.{AreMadeOnce, RowsAreMadeOnce}

-- ---- what an entry makes of own changes

once_tail : (d : Deed) (ds : List Deed) → AreMadeOnce (changes_in (d ∷ ds)) → AreMadeOnce (changes_in ds)
once_tail (Changed c) ds once = once.1
once_tail Marked ds once = once
once_tail (Saved name) ds once = once

once_back : (point : Point) (ds : List Deed) → AreMadeOnce (changes_in ds)
    → AreMadeOnce (changes_in (deeds_back point ds))
once_back point [] once = tt
once_back point (d ∷ ds) once = at (is_point point d) point (once_back point ds (once_tail d ds once))
  where
    at : (b : Bool) (p : Point) → AreMadeOnce (changes_in (deeds_back point ds))
        → AreMadeOnce (changes_in (cond b (from_point p d ds) (deeds_back point ds)))
    at true LastMark more = once_tail d ds once
    at true (SavepointNamed name) more = once
    at false p more = more

once_left : (point : Point) (ds : List Deed) → AreMadeOnce (changes_in ds)
    → AreMadeOnce (changes_in (deeds_left point ds))
once_left point ds once = at (has_deed point ds)
  where
    at : (b : Bool) → AreMadeOnce (changes_in (cond b (deeds_back point ds) ds))
    at true = once_back point ds once
    at false = once

once_after : (h : Entries) (f : Effect) (t : ℕ) (catalog : CatalogRows) (old : List Deed) → makes_alone h f ≡ true
    → ((table : List ℕ) (row : Cells) → f ≡ Makes t table row → table ≡ catalog_name
    → has_change (changes_in old) catalog_name (key_in catalog table row) ≡ false)
    → AreMadeOnce (changes_in old) → AreMadeOnce (changes_in (deeds_after f t catalog old))
once_after h (Begins u mode) t catalog old alone new once = once
once_after h (Looks u) t catalog old alone new once = once
once_after h (Makes u table row) t catalog old alone new once = at (u == t) refl
  where
    at : (b : Bool) → (u == t) ≡ b
        → AreMadeOnce (changes_in (cond b (changed table (key_in catalog table row) (Some row) ∷ old) old))
    at true its = ((λ is. new table row (ap (λ (v : ℕ). Makes v table row) (eqb-true u t its)) is), once)
    at false other = once
once_after h (Gives u table key row) t catalog old alone new once = at (u == t)
  where
    at : (b : Bool) → AreMadeOnce (changes_in (cond b (changed table key row ∷ old) old))
    at true = (
      (λ is. absurd (false≢true (sym (ap not (ap (λ (n : List ℕ). same_name n catalog_name) is
          ∙ same_name_itself catalog_name)) ∙ alone))),
      once,
    )
    at false = once
once_after h (Marks u) t catalog old alone new once = at (u == t)
  where
    at : (b : Bool) → AreMadeOnce (changes_in (cond b (Marked ∷ old) old))
    at true = once
    at false = once
once_after h (Saves u name) t catalog old alone new once = at (u == t)
  where
    at : (b : Bool) → AreMadeOnce (changes_in (cond b (Saved name ∷ old) old))
    at true = once
    at false = once
once_after h (TakesBack u point) t catalog old alone new once = at (u == t)
  where
    at : (b : Bool) → AreMadeOnce (changes_in (cond b (deeds_left point old) old))
    at true = once_left point old once
    at false = once
once_after h (Ends u end) t catalog old alone new once = once
once_after h Nothing t catalog old alone new once = once

-- ---- at the opening

by_more : (x a b : Bool) → (a ≡ true → b ≡ true) → cond x true a ≡ true → cond x true b ≡ true
by_more true a b more is = refl
by_more false a b more is = more is

or_later : (x b : Bool) → b ≡ true → cond x true b ≡ true
or_later true b is = refl
or_later false b is = is

abbrev limbo_change : LimboChange → Change
limbo_change c = record { table = c.table; key = c.key; row = c.row }

limbo_fewer : (cs : List LimboChange) (t : ℕ) (name : List ℕ) (key : Value)
    → has_change (changes_in (deeds_by t (map limbo_step cs))) name key ≡ true
    → has_change (chosen_changes everyone cs) name key ≡ true
limbo_fewer [] t name key has = has
limbo_fewer (c ∷ cs) t name key has = at (c.by.0 == t) (limbo_fewer cs t name key) has
  where
    at : (b : Bool) → (has_change (changes_in (deeds_by t (map limbo_step cs))) name key ≡ true
        → has_change (chosen_changes everyone cs) name key ≡ true)
        → has_change (changes_in (cond b (changed c.table c.key c.row ∷ deeds_by t (map limbo_step cs))
        (deeds_by t (map limbo_step cs)))) name key ≡ true
        → has_change (chosen_changes everyone (c ∷ cs)) name key ≡ true
    at true more has_ = by_more (is_at (limbo_change c) name key) (has_change (changes_in (deeds_by t (map limbo_step cs))) name key)
        (has_change (chosen_changes everyone cs) name key) more has_
    at false more has_ = or_later (is_at (limbo_change c) name key) (has_change (chosen_changes everyone cs) name key) (more has_)

limbo_once : (cs : List LimboChange) (t : ℕ) → HaveOwnKeys (chosen_changes everyone cs)
    → AreMadeOnce (changes_in (deeds_by t (map limbo_step cs)))
limbo_once [] t apart = tt
limbo_once (c ∷ cs) t apart = at (c.by.0 == t) (limbo_once cs t apart.1)
  where
    none : c.table ≡ catalog_name
        → has_change (changes_in (deeds_by t (map limbo_step cs))) catalog_name c.key ≡ false
    none is = by (has_change (changes_in (deeds_by t (map limbo_step cs))) catalog_name c.key) refl
      where
        by : (b : Bool) → has_change (changes_in (deeds_by t (map limbo_step cs))) catalog_name c.key ≡ b → b ≡ false
        by false has = refl
        by true has = absurd (false≢true (sym (subst (λ (n : List ℕ).
            has_change (chosen_changes everyone cs) n c.key ≡ false) is apart.0)
            ∙ limbo_fewer cs t catalog_name c.key has))

    at : (b : Bool) → AreMadeOnce (changes_in (deeds_by t (map limbo_step cs)))
        → AreMadeOnce (changes_in (cond b (changed c.table c.key c.row ∷ deeds_by t (map limbo_step cs))
        (deeds_by t (map limbo_step cs))))
    at true more = (none, more)
    at false more = more

-- ---- a row that is made

module _ (fine : InsertIsFine) (o : Opening) (begins : MayBegin o) where
  -- its key had no own change: else the transaction saw a row there
  made_new : (h : Entries) (e : Entry) → IsLegal o (e ∷ h) → CatalogGrows o h → (t : ℕ) (table : List ℕ) (row : Cells)
      → effect_of e ≡ Makes t table row → table ≡ catalog_name
      → has_change (own o h t) catalog_name (key_in (catalog_of (told o h) t) table row) ≡ false
  made_new h e legal grows t table row is named = at (has_change (own o h t) catalog_name (key_in (catalog_of (told o h) t) table row)) refl
    where
      its : IsInsert e.event e.answer t table row
      its = insert_of e.event e.answer t table row is

      may : MayWrite o h t table (key_in (catalog_of (told o h) t) table row)
          × (row_at (view o h t) table (key_in (catalog_of (told o h) t) table row) ≡ None)
      may = (fine o h t table row begins legal.1).0
          (fine_answer o h e (Insert (number t) table row) legal.0 its.fine its.event_is)

      unseen : row_at (view o h t) catalog_name (key_in (catalog_of (told o h) t) table row) ≡ None
      unseen = subst (λ (n : List ℕ). row_at (view o h t) n (key_in (catalog_of (told o h) t) table row) ≡ None) named may.1

      some_none : (x : Option Cells) → IsSome x → x ≡ None → ⊥
      some_none None is_ none = absurd (false≢true is_)
      some_none (Some cells) is_ none = absurd cc

      at : (b : Bool) → has_change (own o h t) catalog_name (key_in (catalog_of (told o h) t) table row) ≡ b → b ≡ false
      at false has = refl
      at true has = absurd (some_none (row_at (own o h t) catalog_name (key_in (catalog_of (told o h) t) table row))
          (own_rows_are_new fine o h t (key_in (catalog_of (told o h) t) table row) begins legal.1 grows (ap is_open may.0.active) has).0
          (sym (row_at-append (own o h t) (base o h t) catalog_name (key_in (catalog_of (told o h) t) table row) ∙ rw has refl) ∙ unseen))

  once : (h : Entries) → IsOpening o → IsLegal o h → CatalogGrows o h → (t : ℕ) → AreMadeOnce (own o h t)
  once [] opening legal grows t = limbo_once o.limbo t opening.changes_apart
  once (e ∷ h) opening legal grows t = subst (λ (ds : List Deed). AreMadeOnce (changes_in ds))
      (sym (deeds_after_entry o h e t))
      (once_after h (effect_of e) t (catalog_of (told o h) t) (deeds_by t (steps o h)) grows.entries.0
      (made_new h e legal fewer t) (once h opening legal.1 fewer t))
    where
      fewer : CatalogGrows o h
      fewer = record { limbo = grows.limbo; entries = grows.entries.1 }

pub rows_are_made_once : InsertIsFine → RowsAreMadeOnce
rows_are_made_once fine o h t opening begins legal grows = once fine o begins h opening legal grows t
