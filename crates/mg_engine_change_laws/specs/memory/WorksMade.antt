-- What is kept of a transaction that makes a table: it has not changed the keys of its rows.
use Rattle.std.proofs.Common.{◌≡◌, inl, refl, ap, ◌∙◌, ℕ, false, List, [], ◌∷◌, map, Option, None, Some}
use Rattle.mg_value.specs.declared.shape.Shape.{Shape}
use Rattle.mg_value.specs.declared.value.Value.{Value}
use Rattle.mg_model.specs.declared.table.Table.{Table}
use Rattle.mg_model.specs.Catalog.{catalog_shape, key_of}
use Rattle.mg_model.specs.Changes.{Cells}
use Rattle.mg_undo.specs.Undo.{State as Undo, after_keep}
use Rattle.mg_undo.specs.declared.changes.Was.TheVariants.{Untouched}
use Rattle.mg_works.specs.Works.{Working, given_by, unasked, with_change, with_work, without_tables, work_of}
use Rattle.mg_works.specs.WorksLaws.{with_its, with_none}
use Rattle.mg_table_batch.specs.Filling.{rows_at}
use Rattle.mg_table_making.specs.Keeping.{kept_each, works_made}
use Rattle.mg_table_making.specs.Keys.{keys_made}
use Rattle.mg_engine_change_laws.specs.tables.Joined.{rows_stored}
use Rattle.mg_engine_change_laws.specs.tables.Remembering.{rows_kept}
use Rattle.mg_engine_change_laws.specs.tables.Rows.{MadeRow, key_at}
use Rattle.mg_engine_meaning_laws.specs.FrameLaws.{kept_with, works_same, works_with}
use Rattle.mg_engine_meaning_laws.specs.Frames.{WorksStay}
use Rattle.mg_engine_meaning_laws.specs.Standings.{AreOfKept, asked_kept, undo_kept}
use Rattle.mg_engine_change_laws.specs.rows.MadeLaws.{stays_then}

-- what has to be taken back, where it is kept of each of these keys that it was not changed before
abbrev pub keys_kept : ℕ → List Value → Undo → Undo
keys_kept owner [] undo = undo
keys_kept owner (key ∷ keys) undo = keys_kept owner keys (after_keep undo owner key Untouched)

-- as rows have them
pub rows_as_keys : (owner : ℕ) (rows : List MadeRow) (undo : Undo)
    → rows_kept owner rows undo ≡ keys_kept owner (map key_at rows) undo
rows_as_keys owner [] undo = refl
rows_as_keys owner (row ∷ rows) undo = rows_as_keys owner rows (after_keep undo owner (key_at row) Untouched)

keys_stored : (rows : List MadeRow) → map key_at rows ≡ map (key_of catalog_shape) (rows_stored rows)
keys_stored [] = refl
keys_stored (row ∷ rows) = ap (λ (ks : List Value). key_at row ∷ ks) (keys_stored rows)

-- the keys of rows that are stored as those of a table are its keys, whatever its first page
pub made_keys : (name : List ℕ) (shape : Shape) (page : ℕ) (rows : List MadeRow)
    → rows_stored rows ≡ rows_at name shape page → map key_at rows ≡ keys_made catalog_shape name shape
made_keys name shape page rows stored = keys_stored rows ∙ ap (λ (rs : List Cells). map (key_of catalog_shape) rs) stored

-- each of these changes is one of the catalog
pub kept_told : (owner : ℕ) (written : List Table) (keys : List Value) (undo : Undo) → AreOfKept owner written undo.changes
    → AreOfKept owner written (keys_kept owner keys undo).changes
kept_told owner written [] undo told = told
kept_told owner written (key ∷ keys) undo told =
    kept_told owner written keys (after_keep undo owner key Untouched) (inl refl, told)

-- ---- works

pub each_stays : (t owner : ℕ) (keys : List Value) (works : List Working)
    → WorksStay works (kept_each t owner keys works) t
each_stays t owner [] works = works_same works t
each_stays t owner (key ∷ keys) works = stays_then works (with_work t (with_change owner key Untouched) works)
    (kept_each t owner (key ∷ keys) works) t
    (works_with t (with_change owner key Untouched) (λ w. refl) (λ w. refl) works (λ w. refl))
    (each_stays t owner keys (with_work t (with_change owner key Untouched) works))

-- what does not depend on what is to be taken back
pub each_with : {A : Type 0} (t owner : ℕ) (f : Option Working → A)
    → ((key : Value) (w : Working) → f (Some (with_change owner key Untouched w)) ≡ f (Some w)) → (keys : List Value)
    (works : List Working) → f (work_of (kept_each t owner keys works) t) ≡ f (work_of works t)
each_with t owner f same [] works = refl
each_with t owner f same (key ∷ keys) works =
    each_with t owner f same keys (with_work t (with_change owner key Untouched) works)
    ∙ kept_with t (with_change owner key Untouched) (λ w. refl) (λ w. refl) works f (same key)

-- and what is
pub each_undo : (t owner : ℕ) (keys : List Value) (works : List Working) (work : Working) → work_of works t ≡ Some work
    → undo_kept (work_of (kept_each t owner keys works) t) ≡ keys_kept owner keys work.undo
each_undo t owner [] works work its = ap undo_kept its
each_undo t owner (key ∷ keys) works work its = each_undo t owner keys
    (with_work t (with_change owner key Untouched) works) (with_change owner key Untouched work)
    (with_its t (with_change owner key Untouched) (λ w. refl) (λ w. refl) works work its)

module _ (t owner : ℕ) (keys : List Value) (works : List Working) where
  abbrev each_kept : List Working
  each_kept = kept_each t owner keys works

  abbrev not_asked : List Working
  not_asked = with_work t unasked (kept_each t owner keys works)

  pub made_stay : WorksStay works (works_made t owner keys works) t
  made_stay = stays_then works not_asked (works_made t owner keys works) t
      (stays_then works each_kept not_asked t (each_stays t owner keys works)
      (works_with t unasked (λ w. refl) (λ w. refl) each_kept (λ w. refl)))
      (works_with t without_tables (λ w. refl) (λ w. refl) not_asked (λ w. refl))

  -- what depends on neither tables that were given, nor whether a commit was asked for
  pub made_with : {A : Type 0} (f : Option Working → A)
      → ((key : Value) (w : Working) → f (Some (with_change owner key Untouched w)) ≡ f (Some w))
      → ((w : Working) → f (Some (unasked w)) ≡ f (Some w)) → ((w : Working) → f (Some (without_tables w)) ≡ f (Some w))
      → f (work_of (works_made t owner keys works) t) ≡ f (work_of works t)
  made_with f changes asks tables = kept_with t without_tables (λ w. refl) (λ w. refl) not_asked f tables
      ∙ (kept_with t unasked (λ w. refl) (λ w. refl) each_kept f asks ∙ each_with t owner f changes keys works)

  pub made_undo : (work : Working) → work_of works t ≡ Some work
      → undo_kept (work_of (works_made t owner keys works) t) ≡ keys_kept owner keys work.undo
  made_undo work its = kept_with t without_tables (λ w. refl) (λ w. refl) not_asked undo_kept (λ w. refl)
      ∙ (kept_with t unasked (λ w. refl) (λ w. refl) each_kept undo_kept (λ w. refl)
      ∙ each_undo t owner keys works work its)

  pub made_asked : asked_kept (work_of (works_made t owner keys works) t) ≡ false
  made_asked = kept_with t without_tables (λ w. refl) (λ w. refl) not_asked asked_kept (λ w. refl) ∙ at each_kept
    where
      at : (ws : List Working) → asked_kept (work_of (with_work t unasked ws) t) ≡ false
      at ws = by (work_of ws t) refl
        where
          by : (w : Option Working) → work_of ws t ≡ w → asked_kept (work_of (with_work t unasked ws) t) ≡ false
          by None none = ap asked_kept (with_none t unasked (λ w. refl) (λ w. refl) ws t none)
          by (Some w) is = ap asked_kept (with_its t unasked (λ x. refl) (λ x. refl) ws w is)

  pub made_given : (name : List ℕ) → given_by (work_of (works_made t owner keys works) t) name ≡ None
  made_given name = at (work_of not_asked t) refl
    where
      at : (w : Option Working) → work_of not_asked t ≡ w
          → given_by (work_of (works_made t owner keys works) t) name ≡ None
      at None none = ap (λ (x : Option Working). given_by x name)
          (with_none t without_tables (λ w. refl) (λ w. refl) not_asked t none)
      at (Some w) is = ap (λ (x : Option Working). given_by x name)
          (with_its t without_tables (λ x. refl) (λ x. refl) not_asked w is)
