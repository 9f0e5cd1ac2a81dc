-- The beginning of a statement that looks.
use Rattle.std.proofs.Common.{◌≡◌, ◌⊎◌, inl, inr, ℕ, Bool, true, false, ◌∷◌, Some, Option, ap, ◌∙◌, refl}
use Rattle.mg_base.specs.declared.numbers.TxNo.{TxNo}
use Rattle.mg_base.specs.declared.transaction.TxState.TheVariants.{Active}
use Rattle.mg_statements.specs.Plain.{Plain}
use Rattle.mg_model.specs.declared.answer.Answer.TheVariants as answers
use Rattle.mg_model.specs.declared.event.Event.TheVariants as events
use Rattle.mg_model.specs.declared.opening.Opening.{Opening}
use Rattle.mg_model.specs.Answers.{is_active}
use Rattle.mg_model.specs.History.{Entries, entry}
use Rattle.mg_model.specs.Legal.{IsLawful}
use Rattle.mg_model.specs.Machine.{state_of, mode_of}
use Rattle.mg_records.specs.Crashing.{HoldsOn}
use Rattle.mg_records.specs.Meaning.{Means}
use Rattle.mg_rows.specs.declared.statement_fault.StatementFault.{StatementFault}
use Rattle.mg_script.specs.declared.reply.Reply.{Reply}
use Rattle.mg_script.specs.declared.reply.Reply.TheVariants as replies
use Rattle.mg_transcript.specs.Courses.{Begun, Later, Ends}
use Rattle.mg_transcript.specs.Statements.{looks, fault_seen}
use Rattle.mg_transcript.specs.Steps.{Starts, fails_test, tests_not, passes, refused}
use Rattle.mg_courses.specs.declared.starting.Started.{Started}
use Rattle.mg_courses.specs.declared.starting.Started.TheVariants as started
use Rattle.mg_exec_course_laws.specs.Courses.{IsOutsideFault}
use Rattle.mg_courses.specs.Running.{RunMeans, fault_if_looks}
use Rattle.mg_courses.specs.Working.{StartDone, BeginDone}
use Rattle.mg_courses.specs.Carrying.{Carries}
use Rattle.mg_courses.specs.CarryLaws.{carries_then}
use Rattle.mg_courses.proofs.WorkLemmas.{still_active}

module _ {R P Run : Type 0} (m : Means R P) (runs : RunMeans R Run) (old mid new : R) (o : Opening)
    (h : Entries) (t : TxNo) (read_only : Bool) (size : ℕ) (s : Plain) where
  abbrev looked : Entries
  looked = entry (events.Look t) answers.Fine ∷ h

  same_fault : looks s ≡ true → (mode_of h t.0).read_only ≡ read_only
      → fault_seen o looked t size s ≡ fault_if_looks o looked t read_only size s
  same_fault looks_so mode = rw (mode, looks_so) refl

  pub looks_and_begins : (result : Started Run) → looks s ≡ true
      → (mode_of h t.0).read_only ≡ read_only → state_of o h t.0 ≡ Active
      → IsLawful o h (entry (events.Look t) answers.Fine) → HoldsOn m → Carries m old mid o h looked
      → BeginDone m runs mid new o looked t read_only size s result
      → StartDone m runs old new o h t result (Starts o h t size s)
  looks_and_begins (started.Begun work) looks_so mode active lawful on looking done = record {
    after = looked;
    comes = Later (Begun s 0);
    does = passes s looks_so lawful (same_fault looks_so mode ∙ done.2);
    stands = done.0;
    told = done.3;
    active = ap is_active active;
    carries = carries_then m on old mid new o h looked looked looking done.1;
  }
  looks_and_begins (started.Ended ending) looks_so mode active lawful on looking done =
      failed (done.4.2)
    where
      failed : ((fault_if_looks o looked t read_only size s ≡ Some done.4.0) ⊎ IsOutsideFault done.4.0)
          → StartDone m runs old new o h t (started.Ended ending) (Starts o h t size s)
      failed (inl is) = record {
        after = looked;
        comes = Ends (replies.No done.4.0);
        does = fails_test s done.4.0 looks_so lawful (same_fault looks_so mode ∙ is);
        stands = done.0;
        told = done.4.1;
        active = still_active (state_of o h t.0) ending.over active done.3;
        carries = carries_then m on old mid new o h looked looked looking done.1;
      }
      failed (inr outside) = record {
        after = looked;
        comes = refused outside.refusal;
        does = tests_not s outside.refusal looks_so lawful outside.outside;
        stands = done.0;
        told = done.4.1 ∙ ap (λ (fault : StatementFault). replies.No fault) outside.is;
        active = still_active (state_of o h t.0) ending.over active done.3;
        carries = carries_then m on old mid new o h looked looked looking done.1;
      }

  -- a statement that doesn't look begins so, whatever
  pub begins_at_once : (result : Started Run) → looks s ≡ false → state_of o h t.0 ≡ Active
      → Starts o h t size s h (Later (Begun s 0))
      → BeginDone m runs old new o h t read_only size s result
      → StartDone m runs old new o h t result (Starts o h t size s)
  begins_at_once (started.Begun work) quiet active starts done = record {
    after = h;
    comes = Later (Begun s 0);
    does = starts;
    stands = done.0;
    told = done.3;
    active = ap is_active active;
    carries = done.1;
  }
  begins_at_once (started.Ended ending) quiet active starts done = absurd (cc (quiet, done.2))

-- a fault is answered, and why
pub told_fault : (reply : Reply) (first : Option StatementFault) (fault : StatementFault)
    → reply ≡ replies.No fault → (first ≡ Some fault) ⊎ IsOutsideFault fault
    → (f : StatementFault) × (reply ≡ replies.No f) × ((first ≡ Some f) ⊎ IsOutsideFault f)
told_fault reply first fault is why = (fault, is, why)
