-- The event that takes a transaction back to a point.
use Rattle.std.proofs.Common.{◌≡◌, ◌∙◌, ℕ, List, Some, ap, false, inl, inr, refl, sym}
use Rattle.mg_base.specs.Disk.{Meaning}
use Rattle.mg_base.specs.declared.numbers.TxNo.{TxNo}
use Rattle.mg_base.specs.declared.transaction.TxState.TheVariants.{Active}
use Rattle.mg_core.specs.Cores.{Continues}
use Rattle.mg_core.specs.declared.parts.Core.{Core}
use Rattle.mg_engine_change_laws.specs.backs.Outcomes.{back_event}
use Rattle.mg_engine_meaning_laws.specs.LawfulLaws.{memory_of, quiet_count, quiet_event}
use Rattle.mg_engine_meaning_laws.specs.MemoryCallLaws.{active_answer}
use Rattle.mg_engine_meaning_laws.specs.Standings.{StandsFor, undo_kept}
use Rattle.mg_engine_change_laws.specs.backs.EngineBacks.{IsBackEntry}
use Rattle.mg_engine_change_laws.specs.backs.Memory.{LeavesCatalog, MayGoTo}
use Rattle.mg_model.specs.Answers.{answer, if_active}
use Rattle.mg_model.specs.Effects.{has_deed}
use Rattle.mg_model.specs.History.{Entries, TakesBack, effect_of, entry, transaction_of}
use Rattle.mg_model.specs.Legal.{is_lasting}
use Rattle.mg_model.specs.Machine.{deeds_by, state_of, steps}
use Rattle.mg_model.specs.declared.answer.Answer.TheVariants.{Fine}
use Rattle.mg_model.specs.declared.change.Point.{Point}
use Rattle.mg_model.specs.declared.change.Point.TheVariants.{LastMark, SavepointNamed}
use Rattle.mg_model.specs.declared.opening.Opening.{Opening}
use Rattle.mg_taking_back.specs.Taking.{IsUndoOf, MayReach}
use Rattle.mg_undo.specs.Machine.{NotesDeeds, undo_of}
use Rattle.mg_undo.specs.Undo.{State as Undo, has_point}

-- ---- what it says

pub takes_back : (t : TxNo) (point : Point) → effect_of (entry (back_event t point) Fine) ≡ TakesBack t.0 point
takes_back t LastMark = refl
takes_back t (SavepointNamed name) = refl

pub whose_back : (t : TxNo) (point : Point) → transaction_of (back_event t point) ≡ Some t.0
whose_back t LastMark = refl
whose_back t (SavepointNamed name) = refl

pub passing_back : (t : TxNo) (point : Point) → is_lasting (back_event t point) ≡ false
passing_back t LastMark = refl
passing_back t (SavepointNamed name) = refl

pub answer_back : (o : Opening) (h : Entries) (t : TxNo) (point : Point)
    → answer o h (back_event t point) ≡ if_active (state_of o h t.0) Fine
answer_back o h t LastMark = refl
answer_back o h t (SavepointNamed name) = refl

-- ---- what the list has to take back

module _ {D : Type 0} (m : Meaning D) (old : Core D) (t : TxNo) (point : Point) (undo : Undo)
    (continues : Continues old t.0) (its : IsUndoOf old.works t.0 undo) (o : Opening) (h : Entries)
    (stands : StandsFor m old o h) where
  pub active_here : state_of o h t.0 ≡ Active
  active_here = sym ((memory_of m old o h stands).state t.0) ∙ continues.1

  pub undo_is : undo ≡ undo_of (stands.numbers t.0) (deeds_by t.0 (steps o h))
  undo_is = sym its.2 ∙ (sym (ap undo_kept its.1) ∙ ((memory_of m old o h stands).active t.0 active_here).undo)

  -- a savepoint stands in the list where it does in the history
  pub has_told : NotesDeeds → (name : List ℕ)
      → has_point undo (Some name) ≡ has_deed (SavepointNamed name) (deeds_by t.0 (steps o h))
  has_told notes name = ap (λ (u : Undo). has_point u (Some name)) undo_is
      ∙ notes.found (stands.numbers t.0) name (deeds_by t.0 (steps o h))

  pub may_go : NotesDeeds → (p : Point) → MayReach undo p → MayGoTo p (deeds_by t.0 (steps o h))
  may_go notes LastMark reaches = inr refl
  may_go notes (SavepointNamed name) reaches = inl (sym (has_told notes name) ∙ reaches)

  pub back_entry : NotesDeeds → MayReach undo point → LeavesCatalog point (deeds_by t.0 (steps o h))
      → IsBackEntry o h (entry (back_event t point) Fine) t.0 point
  back_entry notes reaches leaves = record {
    back = takes_back t point;
    lawful = inl (sym (answer_back o h t point ∙ active_answer (state_of o h t.0) Fine active_here));
    whose = whose_back t point;
    answered = refl;
    passing = quiet_count (entry (back_event t point) Fine) (passing_back t point);
    no_failure = quiet_event (entry (back_event t point) Fine) (passing_back t point);
    ends = inl (sym (active_answer (state_of o h t.0) Fine active_here));
    may = may_go notes point reaches;
    leaves = leaves;
  }
