-- A table that a history leaves is in each view as it was when the history began, and hinders
-- nobody.
use Rattle.std.specs.Prelude.{◌≡◌, ℕ, Bool, true, false, List, [], ◌∷◌, ◌++◌, Option, Some, None, cond, refl}
use Rattle.std.proofs.Common.{◌∙◌, ap}
use Rattle.std.proofs.Math.Path.{fun_ext}
use Rattle.std.proofs.lemmas.Bool.{both_ways, and_left, false_from_ne_true}
use Rattle.mg_base.specs.declared.transaction.TxState.TheVariants.{Committed}
use Rattle.mg_value.specs.declared.value.Value.{Value}
use Rattle.mg_model.specs.declared.answer.Answer.{Answer}
use Rattle.mg_model.specs.declared.answer.Answer.TheVariants.{Fine, Tx, Rows, No}
use Rattle.mg_model.specs.declared.event.Event.{Event}
use Rattle.mg_model.specs.declared.event.Event.TheVariants.{Begin, Insert, Change, Erase}
use Rattle.mg_model.specs.declared.change.Deed.TheVariants.{Marked, Saved}
use Rattle.mg_model.specs.declared.change.Step.{Step}
use Rattle.mg_model.specs.declared.opening.Opening.{Opening}
use Rattle.mg_model.specs.Catalog.{CatalogRows, catalog_name, table_key, shape_in, key_in}
use Rattle.mg_model.specs.Changes.{Cells, same_name, same_key, has_change, row_at}
use Rattle.mg_model.specs.History.{Entry, Entries, Effect, Begins, Looks, Makes, Gives, Marks, Saves, TakesBack, Ends, Nothing, deed_of, beginning_of, effect_with, effect_of}
use Rattle.mg_model.specs.Machine.{changes_by, changed, steps_after, opening_rows, opening_state, takes_base, mode_of, steps, database, base, own, view}
use Rattle.mg_model.specs.Answers.{told, can_hinder, catalog_of, obstacle, table_obstacle}
use Rattle.mg_model.specs.Legal.{MayBegin, IsLegal}
use Rattle.mg_model.specs.Effects.{commits, changes_of}
use Rattle.mg_model.specs.EntryLaws.{database_after_entry}
use Rattle.mg_model.specs.HinderLaws.{back_had}
use Rattle.mg_model.specs.ObstacleLaws.{obstacle_is}
use Rattle.mg_model.specs.ReadLaws.{reads_base}
use Rattle.mg_model.specs.RowLaws.{row_at-append}
use Rattle.mg_generation_laws.specs.Generations.{Generation, AreGenerations}
use Rattle.mg_generation_laws.specs.ListLaws.{each_as, nobody_first}
use Rattle.mg_generation_laws.specs.StepLaws.{same_after_step}
use Rattle.mg_generation_laws.specs.Tables.{AreOld, writes_table, asks_to_write, LeavesTable, opening_catalog}
use Rattle.mg_generation_laws.specs.WriterLaws.{hindrance_is_news, obstacle_is_writer}

-- ---- old versions hinder nobody

module _ (o : Opening) (opening : MayBegin o) (h : Entries) (legal : IsLegal o h) (t : ℕ) where
  pub old_hinder_not : (table : List ℕ) (key : Value) (gs : List Generation)
      → AreGenerations o h table key gs → AreOld o gs → obstacle (told o h) t table key ≡ None
  old_hinder_not table key gs it old =
      obstacle_is_writer o opening h legal t table key gs it
      ∙ nobody_first (can_hinder (told o h) t) gs
      (each_as (λ g. opening_state o g.writer ≡ Committed)
      (λ g. can_hinder (told o h) t g.writer ≡ false) gs
      (λ g is. (hindrance_is_news o opening h legal t).old g.writer is) old)

  -- so a table whose own row in the catalog is old has no obstacle
  pub old_table_hinders_not : (table : List ℕ) (gs : List Generation)
      → AreGenerations o h catalog_name (table_key table) gs → AreOld o gs
      → table_obstacle (told o h) t table ≡ None
  old_table_hinders_not table gs it old = at (same_name table catalog_name)
    where
      at : (b : Bool) → cond b None (obstacle (told o h) t catalog_name (table_key table)) ≡ None
      at true = refl
      at false = old_hinder_not catalog_name (table_key table) gs it old

-- ---- which entries leave a table

deed_leaves : (event : Event) (table : List ℕ) → asks_to_write event table ≡ false
    → writes_table (deed_of event) table ≡ false
deed_leaves (Insert t named row) table other = other
deed_leaves (Change t named key row) table other = other
deed_leaves (Erase t named key) table other = other
deed_leaves event table other = refl

beginning_leaves : (event : Event) (t : ℕ) (table : List ℕ)
    → writes_table (beginning_of event t) table ≡ false
beginning_leaves (Begin session mode) t table = refl
beginning_leaves event t table = refl

-- an event that asks for no write to the table
pub leaves_by_event : (e : Entry) (table : List ℕ) → asks_to_write e.event table ≡ false
    → writes_table (effect_of e) table ≡ false
leaves_by_event e table other = at e.answer
  where
    at : (said : Answer) → writes_table (effect_with e.event said) table ≡ false
    at Fine = deed_leaves e.event table other
    at (Tx t) = beginning_leaves e.event t.0 table
    at (Rows rows) = refl
    at (No refusal) = refl

-- ---- a table that is left

module _ (o : Opening) (table : List ℕ) where
  left_by_effect : (f : Effect) (catalog : ℕ → CatalogRows) (all : List Step) (t : ℕ) (key : Value)
      → writes_table f table ≡ false → has_change (changes_by t all) table key ≡ false
      → has_change (changes_by t (steps_after f catalog all)) table key ≡ false
  left_by_effect (Makes u named row) catalog all t key other none =
      (same_after_step table key u (changed named (key_in (catalog u) named row) (Some row)) all
      (and_left (same_name named table) (same_key (key_in (catalog u) named row) key)
      other)).changes
      t ∙ none
  left_by_effect (Gives u named given row) catalog all t key other none =
      (same_after_step table key u (changed named given row) all
      (and_left (same_name named table) (same_key given key) other)).changes t ∙ none
  left_by_effect (Marks u) catalog all t key other none =
      (same_after_step table key u Marked all refl).changes t ∙ none
  left_by_effect (Saves u name) catalog all t key other none =
      (same_after_step table key u (Saved name) all refl).changes t ∙ none
  left_by_effect (TakesBack u point) catalog all t key other none =
      false_from_ne_true (has_change (changes_by t (steps_after (TakesBack u point) catalog all))
      table key)
      (λ has. both_ways (has_change (changes_by t all) table key) none
      (back_had t u point all table key has))
  left_by_effect (Begins u mode) catalog all t key other none = none
  left_by_effect (Looks u) catalog all t key other none = none
  left_by_effect (Ends u end) catalog all t key other none = none
  left_by_effect Nothing catalog all t key other none = none

  -- nobody's own changes are of it
  pub left_has_no_changes : (h : Entries) → LeavesTable o table h → (t : ℕ) (key : Value)
      → has_change (own o h t) table key ≡ false
  left_has_no_changes [] leaves t key = leaves t key
  left_has_no_changes (e ∷ h) leaves t key =
      left_by_effect (effect_of e)
      (λ u. row_at (changes_by u (steps o h) ++ base o h u) catalog_name) (steps o h) t key leaves.0
      (left_has_no_changes h leaves.1 t key)

  -- the database has its rows as when the history began
  pub left_in_database : (h : Entries) → LeavesTable o table h → (key : Value)
      → row_at (database o h) table key ≡ row_at (opening_rows o) table key
  left_in_database [] leaves key = refl
  left_in_database (e ∷ h) leaves key =
      ap (λ cs. row_at cs table key) (database_after_entry o h e)
      ∙ row_at-append (changes_of (commits (effect_of e)) (own o h)) (database o h) table key
      ∙ ap (λ b. cond b (row_at (changes_of (commits (effect_of e)) (own o h)) table key)
      (row_at (database o h) table key)) (at (commits (effect_of e)))
      ∙ left_in_database h leaves.1 key
    where
      at : (who : Option ℕ) → has_change (changes_of who (own o h)) table key ≡ false
      at None = refl
      at (Some t) = left_has_no_changes h leaves.1 t key

  left_in_base : (h : Entries) → LeavesTable o table h → (t : ℕ) (key : Value)
      → row_at (base o h t) table key ≡ row_at (opening_rows o) table key
  left_in_base [] leaves t key = refl
  left_in_base (e ∷ h) leaves t key =
      at (takes_base (effect_of e) t (mode_of h t).snapshot) (left_in_base h leaves.1 t key)
    where
      at : (b : Bool) → row_at (base o h t) table key ≡ row_at (opening_rows o) table key
          → row_at (cond b (database o h) (base o h t)) table key
          ≡ row_at (opening_rows o) table key
      at true more = left_in_database h leaves.1 key
      at false more = more

  -- and so has each view
  pub left_in_view : (h : Entries) → LeavesTable o table h → (t : ℕ) (key : Value)
      → row_at (view o h t) table key ≡ row_at (opening_rows o) table key
  left_in_view h leaves t key =
      reads_base o h t table key (left_has_no_changes h leaves t key) ∙ left_in_base h leaves t key

  -- none of its keys has an obstacle
  pub left_hinders_not : (h : Entries) → LeavesTable o table h → (t : ℕ) (key : Value)
      → obstacle (told o h) t table key ≡ None
  left_hinders_not h leaves t key = at (obstacle (told o h) t table key) refl
    where
      at : (found : Option ℕ) → obstacle (told o h) t table key ≡ found → found ≡ None
      at None is = refl
      at (Some u) is =
          absurd (both_ways (has_change (own o h u) table key) (left_has_no_changes h leaves u key)
          (obstacle_is o h t table key u is).1)

-- ---- the catalog, where it is left

module _ (o : Opening) (h : Entries) (leaves : LeavesTable o catalog_name h) (t : ℕ) where
  -- each transaction sees the catalog that the history begins with
  pub catalog_stands : catalog_of (told o h) t ≡ opening_catalog o
  catalog_stands = fun_ext (left_in_view o catalog_name h leaves t)

  pub shape_stands : (table : List ℕ)
      → shape_in (catalog_of (told o h) t) table ≡ shape_in (opening_catalog o) table
  shape_stands table = ap (λ rows. shape_in rows table) catalog_stands

  -- and keys of rows are those that it says
  pub key_stands : (table : List ℕ) (row : Cells)
      → key_in (catalog_of (told o h) t) table row ≡ key_in (opening_catalog o) table row
  key_stands table row = ap (λ rows. key_in rows table row) catalog_stands

  -- and no table has an obstacle
  pub no_table_hinders : (table : List ℕ) → table_obstacle (told o h) t table ≡ None
  no_table_hinders table = at (same_name table catalog_name)
    where
      at : (b : Bool) → cond b None (obstacle (told o h) t catalog_name (table_key table)) ≡ None
      at true = refl
      at false = left_hinders_not o catalog_name h leaves t (table_key table)
