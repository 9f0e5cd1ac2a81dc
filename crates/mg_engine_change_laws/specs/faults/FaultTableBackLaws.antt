-- What is told of the disk's faults as a transaction is taken back over tables that it has made.
use Rattle.std.proofs.Common.{ℕ, List, Some, ap, refl, ◌∙◌}
use Rattle.mg_base.specs.Disk.{Meaning}
use Rattle.mg_model.specs.declared.change.Point.{Point}
use Rattle.mg_model.specs.declared.refusal.Refusal.{Refusal}
use Rattle.mg_undo.specs.Undo.{State as Undo}
use Rattle.mg_undo.specs.Machine.{going_to}
use Rattle.mg_value.specs.declared.value.Value.{Value}
use Rattle.mg_core.specs.declared.parts.Core.{Core}
use Rattle.mg_taking_back.specs.Taking.{not_asking}
use Rattle.mg_table_takings.specs.Keys.{others_of}
use Rattle.mg_table_takings.specs.Takings.{FailsRows, FailsTablesFrom, FailsTablesTo, FailsTheRow, StopsBoth, StopsOthers, TakesBoth, TakesOthers, TakesRows, TakesTablesFrom, TakesTablesTo, TakesTheRow, later_row, no_row, one_row, row_stands, rows_unknown, stops_at_other, stops_at_rows, tables_not_begun, tables_not_copied, tables_not_taken, tables_stopped}
use Rattle.mg_engine_change_laws.specs.faults.FaultBackLaws.{change_told, changes_stand, given_up}
use Rattle.mg_engine_change_laws.specs.faults.FaultCoreLaws.{count, ended, refused}
use Rattle.mg_engine_change_laws.specs.faults.FaultPageLaws.{is_none, own_stands, own_told}
use Rattle.mg_faults.specs.Faults.{FaultCount}
use Rattle.mg_engine_change_laws.specs.faults.Told.{Stands, TellsRise}

module _ {D : Type 0} (m : Meaning D) (k : FaultCount) where
  -- ---- the changes of other tables

  others_stand : (old new : Core D) (t : ℕ) (start end : Undo) → TakesOthers m old new t start end
      → Stands m k old.store new.store
  others_stand old new t start end takes =
      changes_stand m k t old new (others_of old.catalog.pointer.0 takes.given) takes.takes

  others_told : (old new : Core D) (t : ℕ) (start : Undo) (refusal : Refusal)
      → StopsOthers m old new t start refusal → TellsRise m k old new (Some refusal)
  others_told old new t start refusal stops quiet =
      change_told m k stops.at new t stops.change refusal stops.fails quiet
      ∙ changes_stand m k t old stops.at (others_of old.catalog.pointer.0 stops.given) stops.takes

  -- ---- the rows of the catalog

  row_stands_so : (old new : Core D) (t : ℕ) (key : Value) → TakesTheRow m old new t key
      → Stands m k old.store new.store
  row_stands_so old new t key row = own_stands m k old.store new.store row.takes

  row_told : (old new : Core D) (t : ℕ) (key : Value) (refusal : Refusal)
      → FailsTheRow m old new t key refusal → TellsRise m k old new (Some refusal)
  row_told old new t key refusal fails quiet =
      own_told m k old.store new.store fails.fault fails.fails (is_none k fails.fault refusal fails.is quiet)

  -- one after another
  rows_stand : (t : ℕ) (keys : List Value) (old new : Core D) → TakesRows m t keys old new
      → Stands m k old.store new.store
  rows_stand t keys old new (no_row core) = refl
  rows_stand t all old new (one_row key keys begun mid end takes more) =
      rows_stand t keys mid end more ∙ row_stands_so begun mid t key takes

  rows_told : (t : ℕ) (refusal : Refusal) (keys : List Value) (old new : Core D)
      → FailsRows m t refusal keys old new → TellsRise m k old new (Some refusal)
  rows_told t refusal all old new (row_stands key keys begun end fails) quiet =
      row_told begun end t key refusal fails quiet
  rows_told t refusal all old new (later_row key keys begun mid end takes more) quiet =
      rows_told t refusal keys mid end more quiet ∙ row_stands_so begun mid t key takes

  -- ---- both

  both_stand : (old new : Core D) (t : ℕ) (start end : Undo) (keys : List Value)
      → TakesBoth m old new t start end keys → Stands m k old.store new.store
  both_stand old new t start end keys takes = rows_stand t keys takes.mid new takes.rows
      ∙ others_stand old takes.mid t start end takes.others

  both_told : (old new : Core D) (t : ℕ) (start : Undo) (keys : List Value) (refusal : Refusal)
      → StopsBoth m old new t start keys refusal → TellsRise m k old new (Some refusal)
  both_told old new t start keys refusal (stops_at_other stops) quiet =
      others_told old new t start refusal stops quiet
  both_told old new t start keys refusal (stops_at_rows mid end others fails) quiet =
      rows_told t refusal keys mid new fails quiet ∙ others_stand old mid t start end others

  -- ---- to a point

  from_stands : (begun new : Core D) (t : ℕ) (start : Undo) → TakesTablesFrom m begun new t start
      → Stands m k begun.store new.store
  from_stands begun new t start takes = ap (count m k) takes.same
      ∙ both_stand (not_asking t begun) takes.taken t start takes.end takes.keys takes.takes

  from_told : (begun new : Core D) (t : ℕ) (start : Undo) (refusal : Refusal)
      → FailsTablesFrom m begun new t start refusal → TellsRise m k begun new (Some refusal)
  from_told begun new t start refusal (rows_unknown is gives) quiet = given_up m k begun new t refusal gives
  from_told begun new t start refusal (tables_stopped keys stopped rows stops gives) quiet =
      given_up m k stopped new t refusal gives
      ∙ both_told (not_asking t begun) stopped t start keys refusal stops quiet

  pub over_stands : (old new : Core D) (t : ℕ) (point : Point) → TakesTablesTo m old new t point
      → Stands m k old.store new.store
  over_stands old new t point takes = from_stands takes.begun new t (going_to takes.undo point) takes.takes
      ∙ ended m k old takes.begun t takes.has_begun.ended

  pub over_told : (old new : Core D) (t : ℕ) (point : Point) (refusal : Refusal)
      → FailsTablesTo m old new t point refusal → TellsRise m k old new (Some refusal)
  over_told old new t point refusal (tables_not_begun is) quiet = refused m k old new t refusal is
  over_told old new t point refusal (tables_not_copied begun continues wait is gives) quiet =
      given_up m k begun new t refusal gives ∙ ended m k old begun t wait
  over_told old new t point refusal (tables_not_taken begun undo has reaches fails) quiet =
      from_told begun new t (going_to undo point) refusal fails quiet ∙ ended m k old begun t has.ended
