-- A script with its end.
use Rattle.std.specs.Prelude.{◌≡◌, ◌⊎◌, ◌&&◌, ℕ, Bool, true, false, List, [], ◌∷◌, Option}
use Rattle.std.specs.List.{list_all}
use Rattle.mg_base.specs.Streams.{SinkMeaning}
use Rattle.mg_model.specs.declared.opening.Opening.{Opening}
use Rattle.mg_model.specs.declared.refusal.Refusal.{Refusal}
use Rattle.mg_model.specs.History.{Entries}
use Rattle.mg_model.specs.Legal.{IsLegal, durable_count}
use Rattle.mg_records.specs.Meaning.{Means}
use Rattle.mg_script.specs.declared.line.Line.{Line}
use Rattle.mg_transcript.specs.Scripts.{AreRolledBack, Obeyed, sessions}
use Rattle.mg_transcript.specs.Sessions.{Unfinished}
use Rattle.mg_transcript.specs.Transcript.{all_fine, turn_fine}
use Rattle.mg_courses.specs.Carrying.{Carries}
use Rattle.mg_script_ends.specs.Ends.{told_of}
use Rattle.mg_scripts.specs.declared.lines.LinesEnd.{LinesEnd}
use Rattle.mg_scripts.specs.declared.lines.LinesEnd.TheVariants.{Whole, Stopped, NoMemory, SinkFailed}
use Rattle.mg_scripts.specs.Runs.{AreDurable, AreLinesOf, AreRun, PrintsSo}
use Rattle.mg_scripts.specs.Steps.{reason}

-- nothing is in a list
abbrev pub is_none : {A : Type 0} → List A → Bool
is_none [] = true
is_none (x ∷ xs) = false

-- What is live after a history is rolled back, with these refusals; all is fine where the answers were and no
-- statement is left. The keeper stands for the longer history, and no crash loses what was durable.
pub record EndsLive {R P : Type 0} (m : Means R P) (old new : R) (o : Opening) (h : Entries)
    (us : List Unfinished) (fine : Bool) (refusals : List Refusal) (all : Bool) : Type 0 where
  pub after : Entries
  pub rolled_back : AreRolledBack o h sessions after refusals
  pub are_fine : all ≡ (fine && is_none us)
  pub stands : m.stands new o after
  pub legal : IsLegal o after
  pub carries : Carries m old new o h after

-- the run was cut short
abbrev pub is_cut : LinesEnd → Bool
is_cut Whole = false
is_cut (Stopped refusal) = true
is_cut NoMemory = true
is_cut SinkFailed = true

-- the refusal by which a script has ended: that of its last line, or that of its end
abbrev pub reason_at : LinesEnd → List Refusal → Option Refusal
reason_at Whole refusals = told_of refusals
reason_at end refusals = reason end

-- where all lines were obeyed, what was live was rolled back; else nothing came behind the last line
abbrev pub EndsSo : Opening → LinesEnd → Entries → Entries → List Refusal → Type 0
EndsSo o Whole h after refusals = AreRolledBack o h sessions after refusals
EndsSo o end h after refusals = (after ≡ h) × (refusals ≡ [])

-- whether all was answered Ok, and at the end of a whole script no statement was left
abbrev pub fine_at : LinesEnd → List Obeyed → List Unfinished → Bool
fine_at Whole turns us = all_fine turns us
fine_at end turns us = list_all turn_fine turns

-- Lines of a script were obeyed from an opening on, and it has come to its end: one history, for which the keeper
-- stands then.
pub record ScriptRan {R P K : Type 0} (m : Means R P) (n : SinkMeaning K) (old new : R) (before after : K)
    (o : Opening) (size : ℕ) (lines : List Line) (refusals : List Refusal) (end : LinesEnd) (fine : Bool) : Type 0
  where
    pub turns : List Obeyed
    pub obeyed_to : Entries
    pub unfinished : List Unfinished
    pub entries : Entries
    pub run : AreRun o size end turns obeyed_to unfinished
    pub are_lines : AreLinesOf end lines turns
    pub printed : PrintsSo n before after end turns
    pub are_fine : fine ≡ fine_at end turns unfinished
    pub ended : EndsSo o end obeyed_to entries refusals
    pub durable : AreDurable turns (durable_count entries)
    pub stands : m.stands new o entries
    pub legal : IsLegal o entries
    pub carries : Carries m old new o [] entries

-- memory is short before the first line, and nothing is done
pub record IsUnbegun {R K : Type 0} (old new : R) (before after : K) (refusals : List Refusal) (end : LinesEnd)
    : Type 0 where
  pub short : end ≡ NoMemory
  pub keeper : new ≡ old
  pub sink : after ≡ before
  pub none : refusals ≡ []

abbrev pub ScriptDone : {R P K : Type 0} → Means R P → SinkMeaning K → R → R → K → K → Opening → ℕ → List Line
    → List Refusal → LinesEnd → Bool → Type 0
ScriptDone m n old new before after o size lines refusals end fine =
    ScriptRan m n old new before after o size lines refusals end fine ⊎ IsUnbegun old new before after refusals end
