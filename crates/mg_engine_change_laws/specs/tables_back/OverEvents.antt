-- The event that takes a transaction back to a point, whatever has changed since.
use Rattle.std.proofs.Common.{◌∙◌, inl, refl, sym}
use Rattle.mg_base.specs.Disk.{Meaning}
use Rattle.mg_base.specs.declared.numbers.TxNo.{TxNo}
use Rattle.mg_core.specs.Cores.{Continues}
use Rattle.mg_core.specs.declared.parts.Core.{Core}
use Rattle.mg_engine_change_laws.specs.backs.Events.{active_here, answer_back, may_go, passing_back, takes_back, whose_back}
use Rattle.mg_engine_change_laws.specs.backs.Outcomes.{back_event}
use Rattle.mg_engine_meaning_laws.specs.Standings.{StandsFor}
use Rattle.mg_model.specs.History.{Entries, entry}
use Rattle.mg_model.specs.Machine.{state_of}
use Rattle.mg_model.specs.declared.answer.Answer.TheVariants.{Fine}
use Rattle.mg_model.specs.declared.change.Point.{Point}
use Rattle.mg_model.specs.declared.opening.Opening.{Opening}
use Rattle.mg_taking_back.specs.Taking.{IsUndoOf, MayReach}
use Rattle.mg_undo.specs.Machine.{NotesDeeds}
use Rattle.mg_undo.specs.Undo.{State as Undo}
use Rattle.mg_engine_change_laws.specs.tables_back.EngineOver.{IsBackEntry}
use Rattle.mg_engine_meaning_laws.specs.MemoryCallLaws.{active_answer}
use Rattle.mg_engine_meaning_laws.specs.LawfulLaws.{quiet_count, quiet_event}

pub back_over : {D : Type 0} (m : Meaning D) (old : Core D) (t : TxNo) (point : Point) (undo : Undo)
    (continues : Continues old t.0) (its : IsUndoOf old.works t.0 undo) (o : Opening) (h : Entries)
    (stands : StandsFor m old o h) → NotesDeeds → MayReach undo point
    → IsBackEntry o h (entry (back_event t point) Fine) t.0 point
back_over m old t point undo continues its o h stands notes reaches = record {
  back = takes_back t point;
  lawful = inl (sym (answer_back o h t point ∙ active_answer (state_of o h t.0) Fine
      (active_here m old t point undo continues its o h stands)));
  whose = whose_back t point;
  answered = refl;
  passing = quiet_count (entry (back_event t point) Fine) (passing_back t point);
  no_failure = quiet_event (entry (back_event t point) Fine) (passing_back t point);
  ends = inl (sym (active_answer (state_of o h t.0) Fine (active_here m old t point undo continues its o h stands)));
  may = may_go m old t point undo continues its o h stands notes point reaches;
}
