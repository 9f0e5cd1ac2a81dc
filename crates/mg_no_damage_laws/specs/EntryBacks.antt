-- The trees of a table stand while entries of a row that comes back are laid; and so they do at each change that a
-- transaction takes back to a point.
use Rattle.std.proofs.Common.{◌≡◌, ◌∙◌, subst, sym, Some, ℕ, false, List}
use Rattle.mg_base.specs.Disk.{Meaning}
use Rattle.mg_base.specs.Image.{Image}
use Rattle.mg_base.specs.declared.numbers.RecId.{RecId}
use Rattle.mg_base.specs.declared.numbers.TxNo.{TxNo}
use Rattle.mg_core.specs.Cores.{IsCore}
use Rattle.mg_core.specs.declared.parts.Core.{Core}
use Rattle.mg_engine_change_laws.specs.entries.BackEntries.{HasEnteredBack}
use Rattle.mg_engine_meaning_laws.specs.Standings.{StandsFor}
use Rattle.mg_engine_step_laws.specs.standing.Standing.{ShowsHistory, Standing}
use Rattle.mg_entry_step_laws.specs.EntryBatchLaws.{HasTree, table_tree}
use Rattle.mg_image.specs.Form.{Pages, Row, packed_form}
use Rattle.mg_image.specs.Sound.{IsSoundBy}
use Rattle.mg_index_overlay_laws.specs.SoundLaws.{tree_inventory}
use Rattle.mg_model.specs.History.{Entries, Entry}
use Rattle.mg_model.specs.Openings.{everyone}
use Rattle.mg_model.specs.declared.change.Change.{Change}
use Rattle.mg_model.specs.declared.change.Point.{Point}
use Rattle.mg_model.specs.declared.opening.Opening.{Opening}
use Rattle.mg_model.specs.declared.table.Index.{Index}
use Rattle.mg_model.specs.declared.table.Table.{Table}
use Rattle.mg_overlay_laws.specs.Overlays.{left_state}
use Rattle.mg_pool.specs.Pool.{shown}
use Rattle.mg_pool.specs.declared.pool.Pool.{Pool}
use Rattle.mg_pool_overlay_laws.specs.Needs.{Asked, Sessions}
use Rattle.mg_space.specs.declared.links.FireLinks.{FireLinks}
use Rattle.mg_table_takings.specs.Keys.{others_of}
use Rattle.mg_taking_back.specs.Tables.{TellsTables}
use Rattle.mg_taking_back.specs.Taking.{HasBegun, MayReach, not_asking}
use Rattle.mg_undo.specs.Machine.{going_to}
use Rattle.mg_undo.specs.Undo.{State as Undo, TakesBack as GivesAll}
use Rattle.mg_undo.specs.declared.changes.Change.{Change as Kept}
use Rattle.mg_value.specs.declared.value.Value.{Value}
use Rattle.mg_no_damage_laws.specs.BackTrees.{StandAll}
use Rattle.mg_no_damage_laws.specs.EntryCalls.{HasTreeAt, TreesStand}

-- ---- behind some entries

module _ {D : Type 0} (m : Meaning D) (size : ℕ) (o : Opening) (h : Entries) (e : Entry) (t : ℕ)
    (whole left : List Change) (s : Standing) (start ready now : Pool D FireLinks) (begun : Pages)
    (first : ShowsHistory packed_form size o h s begun) (i : Image) (asked : Asked) (session : Sessions) (table : Table)
    (key : Value) (rec : RecId) (indexes : List Index) (row : Row)
    (back : HasEnteredBack m size o h e t whole left s start ready now begun first i asked session table key rec indexes
    row) where
  pub sound_entered : IsSoundBy packed_form now.geometry.size (left_state everyone s.state)
      (shown now.dirty back.enters.image) back.enters.then_.pages.layout back.enters.then_.pages.reading
  sound_entered = subst (λ (n : ℕ). IsSoundBy packed_form n (left_state everyone s.state)
      (shown now.dirty back.enters.image) back.enters.then_.pages.layout back.enters.then_.pages.reading)
      (sym back.enters.knows.size_is) back.enters.then_.pages.sound

  pub trees_entered : TreesStand m now table.indexes
  trees_entered image tells root has =
      let both : Some back.enters.image ≡ Some image = sym back.enters.knows.tells.held ∙ tells.held in
      let held : back.enters.image ≡ image = cc in
      let tree : HasTree now.geometry.size (shown now.dirty back.enters.image) table.pointer.0 root =
      table_tree packed_form now.geometry.size (left_state everyone s.state) (shown now.dirty back.enters.image)
      back.enters.then_.pages.layout back.enters.then_.pages.reading sound_entered table back.stands root has in
      subst (λ (k : Image). HasTreeAt now.geometry.size (shown now.dirty k) root) held (record {
        owner = table.pointer.0;
        levels = tree.levels;
        tree = tree.tree;
        no_inventory = tree_inventory now.geometry.size (shown now.dirty back.enters.image)
            (record { owner = table.pointer.0; root = root; levels = tree.levels }) sound_entered.inventory tree.tree;
      })

-- ---- at each change

-- where no table goes
abbrev pub AllStandBack : (D : Type 0) → Meaning D → Type 0
AllStandBack D m = (old begun : Core D) (t : TxNo) (point : Point) (undo : Undo) → IsCore m old
    → TellsTables old t.0 point false → HasBegun old begun t.0 undo → MayReach undo point → (o : Opening) (h : Entries)
    → StandsFor m old o h → (given : List Kept) (end : Undo) → GivesAll (going_to undo point) given end
    → StandAll m t.0 (not_asking t.0 begun) given

-- over tables that go, those of other tables than the catalog
abbrev pub OthersStandBack : (D : Type 0) → Meaning D → Type 0
OthersStandBack D m = (old begun : Core D) (t : TxNo) (point : Point) (undo : Undo) → IsCore m old
    → HasBegun old begun t.0 undo → MayReach undo point → (o : Opening) (h : Entries) → StandsFor m old o h
    → (given : List Kept) (end : Undo) → GivesAll (going_to undo point) given end
    → StandAll m t.0 (not_asking t.0 begun) (others_of (not_asking t.0 begun).catalog.pointer.0 given)
