-- What a keeper means that is seen through another value, which knows something of its history.
use Rattle.std.specs.Prelude.{ℕ, List, Option, Result, Ok, Err}
use Rattle.mg_base.specs.declared.numbers.TxNo.{TxNo}
use Rattle.mg_expr.specs.declared.expr.Expr.{Expr}
use Rattle.mg_model.specs.declared.answer.Answer.TheVariants.{No, Rows}
use Rattle.mg_model.specs.declared.event.Event.TheVariants as events
use Rattle.mg_model.specs.declared.opening.Opening.{Opening}
use Rattle.mg_model.specs.declared.refusal.Refusal.{Refusal}
use Rattle.mg_model.specs.Changes.{Cells}
use Rattle.mg_model.specs.History.{Entries}
use Rattle.mg_records.specs.Meaning.{Means}
use Rattle.mg_tending.specs.Collecting.{Collecting}
use Rattle.mg_trace.specs.declared.trace.Trace.{Trace}
use Rattle.mg_trace.specs.Putting.{AddsLine}

-- A value means what a keeper in it means; where it stands for a history, it knows this of it.
abbrev pub via : {R P T : Type 0} → Means R P → (T → R) → (T → Opening → Entries → Type 0) → Means T P
via m keeper knows = record {
  stands = λ t o h. m.stands (keeper t) o h × knows t o h;
  table = λ t. m.table (keeper t);
  is_free = λ t. m.is_free (keeper t);
  works = λ t. m.works (keeper t);
  was_given = λ t. m.was_given (keeper t);
  is_place = λ t. m.is_place (keeper t);
  has_record = λ t. m.has_record (keeper t);
  to_come = λ t. m.to_come (keeper t);
  still = λ t. m.still (keeper t);
  unwritten = λ t. m.unwritten (keeper t);
  is_asked = λ t. m.is_asked (keeper t);
  is_written = λ t. m.is_written (keeper t);
  tells = λ t. m.tells (keeper t);
  moment = λ t. m.moment (keeper t);
  left = λ t. m.left (keeper t);
  holds = λ t. m.holds (keeper t);
  faults = λ t. m.faults (keeper t);
  failed_writes = λ t. m.failed_writes (keeper t);
  damage = λ t. m.damage (keeper t);
  shortages = λ t. m.shortages (keeper t);
  page_limit = λ t. m.page_limit (keeper t);
  has_free = λ t. m.has_free (keeper t);
  reserves_ends = m.reserves_ends;
  asked = λ t. m.asked (keeper t);
  most_writes = λ t. m.most_writes (keeper t);
  down = λ t. m.down (keeper t);
  is_size = λ t. m.is_size (keeper t);
}

-- and it keeps of records what that keeper keeps
abbrev pub collecting_via : {R P T : Type 0} → Collecting R P → (T → R) → Collecting T P
collecting_via c keeper = record {
  has_record = λ t. c.has_record (keeper t);
  kept = λ t. c.kept (keeper t);
  speaks = λ t. c.speaks (keeper t);
  silent = λ t. c.silent (keeper t);
  is_committed = λ t. c.is_committed (keeper t);
}

-- the line of a finding is put, with what it was answered
abbrev pub NotesFound : Trace → Trace → TxNo → List ℕ → Option Expr → List Cells → Result (Unit {0}) Refusal → Type 0
NotesFound old new t name filter rows (Ok x) = AddsLine old new (events.Find t name filter) (Rows rows)
NotesFound old new t name filter rows (Err refusal) = AddsLine old new (events.Find t name filter) (No refusal)
