-- A step of any statement.
use Rattle.std.specs.Prelude.{length, ◌≡◌, Bool, true, false, [], Option, Some, None, Result, Err}
use Rattle.mg_base.specs.declared.numbers.TxNo.{TxNo}
use Rattle.mg_model.specs.declared.opening.Opening.{Opening}
use Rattle.mg_model.specs.declared.table.Table.{Table}
use Rattle.mg_model.specs.History.{Entries}
use Rattle.mg_records.specs.Meaning.{Means}
use Rattle.mg_rows.specs.declared.statement_fault.StatementFault.{StatementFault}
use Rattle.mg_rows.specs.declared.statement_fault.StatementFault.TheVariants.{NothingHeld}
use Rattle.mg_exec.specs.declared.phase.Phase.{Phase}
use Rattle.mg_exec.specs.declared.phase.Phase.TheVariants as phases
use Rattle.mg_exec.specs.declared.phase.Step.{Step}
use Rattle.mg_exec.specs.declared.phase.Turn.{Turn}
use Rattle.mg_exec.specs.Changing.{Changes, StartsToWrite}
use Rattle.mg_exec.specs.Creating.{Creates, Retries}
use Rattle.mg_exec.specs.Phases.{HasRead, ended}
use Rattle.mg_exec.specs.Points.{Saves, Returns}
use Rattle.mg_exec.specs.Reading.{Reads}

-- A step of a statement, by where it stands.
abbrev pub Goes : {R P : Type 0} → Means R P → R → R → Opening → Entries → TxNo → Phase P → Turn P
    → Type 0
Goes m old new o h t (phases.Saving name) turn = Saves m new o h t name turn
Goes m old new o h t (phases.Returning name) turn = Returns m new o h t name turn
Goes m old new o h t (phases.Inserting i) turn = StartsToWrite m new o h t i.table i.bound [] turn
Goes m old new o h t (phases.Reading reading) turn = HasRead m old o h t.0 reading
    → Reads m new o h t reading.walk.table reading.bound (length reading.kept.items) turn
Goes m old new o h t (phases.Changing c) turn = Changes m new o h t c turn
Goes m old new o h t (phases.Creating table) turn = Creates m new o h t table turn
Goes m old new o h t (phases.Retrying table) turn = Retries m new o h t table turn
Goes m old new o h t phases.Ended turn = (turn ≡ ended (Err NothingHeld)) × m.stands new o h
Goes m old new o h t phases.RolledBack turn = (turn ≡ ended (Err NothingHeld)) × m.stands new o h

-- nothing is done for a statement that is at its end already
abbrev pub IsPastEnd : {R P : Type 0} → Means R P → R → R → Phase P → Result Step StatementFault → Type 0
IsPastEnd m old new phases.Ended answer = (answer ≡ Err NothingHeld) × (new ≡ old)
IsPastEnd m old new phases.RolledBack answer = (answer ≡ Err NothingHeld) × (new ≡ old)
IsPastEnd m old new phase answer = Unit {0}

-- its transaction is rolled back
abbrev pub is_rolled_back_at : {P : Type 0} → Phase P → Bool
is_rolled_back_at phases.RolledBack = true
is_rolled_back_at phase = false

-- the table of a statement, as long as it runs; none for one that has none
abbrev pub table_at : {P : Type 0} → Phase P → Option Table
table_at (phases.Inserting i) = Some i.table
table_at (phases.Reading reading) = Some reading.walk.table
table_at (phases.Changing c) = Some c.writes.table
table_at phase = None

-- the place that a reading visited last, none where none was
abbrev pub place_at : {P : Type 0} → Phase P → Option P
place_at (phases.Reading reading) = reading.walk.place
place_at phase = None
