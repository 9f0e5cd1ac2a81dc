-- A statement that is given up has timed out.
use Rattle.std.proofs.Common.{◌∷◌, Result, Ok, Err}
use Rattle.mg_base.specs.declared.numbers.TxNo.{TxNo}
use Rattle.mg_model.specs.declared.answer.Answer.TheVariants as answers
use Rattle.mg_model.specs.declared.event.Event.TheVariants as events
use Rattle.mg_model.specs.declared.opening.Opening.{Opening}
use Rattle.mg_model.specs.declared.refusal.Refusal.{Refusal}
use Rattle.mg_model.specs.History.{Entries, entry}
use Rattle.mg_records.specs.Meaning.{Means}
use Rattle.mg_records.specs.TakingBack.{Undoes, after_refusal}
use Rattle.mg_interleavings.specs.GivingUp.{ComesOut, timed_out}
use Rattle.mg_interleavings.specs.Interleavings.{given_up, taken_back}

-- the keeper that stood for a history stands for one in which the statement has timed out
pub comes_out : {R P : Type 0} (m : Means R P) (old new : R) (t on : TxNo) (done : Result (Unit {0}) Refusal) (o : Opening)
    (h : Entries) → Undoes m old new t done → m.stands old o h → ComesOut m new o h t on (timed_out on done)
comes_out m old new t on (Ok x) o h undoes stands = let a = undoes o h stands in record {
  after = entry (events.UndoMark t) answers.Fine ∷ h;
  out = taken_back a.0;
  stands = a.1;
}
comes_out m old new t on (Err refusal) o h gives stands = let a = gives o h stands in record {
  after = after_refusal o h t (events.UndoMark t) refusal;
  out = given_up refusal a.0;
  stands = a.1;
}
