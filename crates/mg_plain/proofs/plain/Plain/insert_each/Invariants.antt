-- The rows so far were brought in, and what becomes of those that are left becomes of all.
use Rattle.std.proofs.Common.{drop, Some}
use Rattle.mg_plain.specs.Keeping.{Grows}
use Rattle.mg_plain.specs.Kept.{kept}
use Rattle.mg_plain.specs.Obeying.{ViewsStay}
use Rattle.mg_plain.specs.Records.{GoesOn}
use Rattle.mg_plain.proofs.plain.Plain.insert_each.Given as goal

abbrev pub invariant-loop-row : goal.invariant-loop-row
invariant-loop-row l = record {
  goes_on : GoesOn l.fn.self l.self l.t l.rows (drop l.row-index l.rows);
  views : ViewsStay (kept l.fn.self) (kept l.self) (Some l.t.0);
  grows : Grows (kept l.fn.self) (kept l.self);
}
