-- What a step gives, by the entries that it adds.
use Rattle.std.proofs.Common.{◌≡◌, ◌&&◌, Bool, true, false, [], ◌∷◌, ◌++◌, Result, Ok, Err, cond, inl, refl, sym, ap, subst, ◌∙◌}
use Rattle.std.specs.Prelude.{if◌then◌else◌}
use Rattle.std.proofs.lemmas.Bool.{eq-eqb, false≢true}
use Rattle.std.proofs.lemmas.List.{append_assoc}
use Rattle.mg_base.specs.declared.numbers.TxNo.{TxNo}
use Rattle.mg_base.specs.declared.transaction.TxState.{TxState}
use Rattle.mg_base.specs.declared.transaction.TxState.TheVariants.{Active, Limbo, Dead, Committed}
use Rattle.mg_model.specs.declared.answer.Answer.TheVariants.{Fine, No}
use Rattle.mg_model.specs.declared.event.Event.{Event}
use Rattle.mg_model.specs.declared.event.Event.TheVariants.{Rollback, UndoMark}
use Rattle.mg_model.specs.declared.opening.Opening.{Opening}
use Rattle.mg_model.specs.declared.refusal.Refusal.{Refusal}
use Rattle.mg_model.specs.declared.refusal.Refusal.TheVariants.{Waits}
use Rattle.mg_model.specs.Answers.{if_active, is_active}
use Rattle.mg_model.specs.History.{Entries, Entry, entry}
use Rattle.mg_model.specs.Legal.{IsLawful, is_lasting}
use Rattle.mg_model.specs.Machine.{state_of}
use Rattle.mg_records.specs.Meaning.{Means}
use Rattle.mg_records.specs.TakingBack.{after_refusal, is_given_up}
use Rattle.mg_rows.specs.declared.statement_fault.StatementFault.{StatementFault}
use Rattle.mg_rows.specs.declared.statement_fault.StatementFault.TheVariants.{Engine}
use Rattle.mg_calls.specs.Quiet.{IsQuietly, as_it_was, with_entry}
use Rattle.mg_calls.specs.QuietLaws.{quietly_then}
use Rattle.mg_calls.specs.Tables.{AreLawful}
use Rattle.mg_calls.specs.Undoing.{IsGivenUp, IsUndone, left_so, taken_back}
use Rattle.mg_exec.specs.declared.phase.Step.{Step}
use Rattle.mg_exec.specs.declared.phase.Step.TheVariants.{More}
use Rattle.mg_exec.specs.declared.phase.Turn.{Turn}
use Rattle.mg_exec.specs.Phases.{is_over}
use Rattle.mg_exec.specs.Statements.{Asked, Gives, IsUndoneBy, LetsGoOn, StandsSo, does_give_up, entries_given_up, given_up_so, taken_back_so}

-- ---- entries

-- a statement that is at its end does not go on
pub over : {X : Type 0} (ends : Bool) → ends ≡ true → ends ≡ false → X
over ends is on = absurd (false≢true (sym on ∙ is))

-- no entry more
pub nothing_more : {R P : Type 0} (m : Means R P) (new : R) (o : Opening) (looked h : Entries) (a : Asked)
    (given : Entries) (turn : Turn P) → m.stands new o h
    → StandsSo m new o looked h a given turn.phase turn.answer
    → (is_over turn.phase ≡ false → LetsGoOn [] turn.answer) → Gives m new o looked h a given turn
nothing_more m new o looked h a given turn stands so goes =
    record { more = []; lawful = tt; quietly = as_it_was; stands = stands; so = so; goes_on = goes }

-- one entry more
pub one_more : {R P : Type 0} (m : Means R P) (new : R) (o : Opening) (looked h : Entries) (a : Asked)
    (given : Entries) (e : Entry) (turn : Turn P) → is_lasting e.event ≡ false → IsLawful o h e
    → m.stands new o (e ∷ h) → StandsSo m new o looked (e ∷ h) a (e ∷ given) turn.phase turn.answer
    → (is_over turn.phase ≡ false → LetsGoOn (e ∷ []) turn.answer)
    → Gives m new o looked h a given turn
one_more m new o looked h a given e turn quiet lawful stands so goes = record {
  more = e ∷ [];
  lawful = (lawful, tt);
  quietly = with_entry e quiet as_it_was;
  stands = stands;
  so = so;
  goes_on = goes;
}

pub lawful_after : (o : Opening) (h before more : Entries) → AreLawful o h before
    → AreLawful o (before ++ h) more → AreLawful o h (more ++ before)
lawful_after o h before [] first second = first
lawful_after o h before (e ∷ more) first second = (
  subst (λ (h : Entries). IsLawful o h e) (sym (append_assoc more before h)) second.0,
  lawful_after o h before more first second.1,
)

pub goes_after : (more before : Entries) (answer : Result Step StatementFault) → LetsGoOn more answer
    → LetsGoOn (more ++ before) answer
goes_after more before (Ok More) is = tt
goes_after (e ∷ more) before (Err (Engine (Waits on))) is = is
goes_after more before answer is = absurd is

-- further entries behind those that came
pub gives_after : {R P : Type 0} (m : Means R P) (new : R) (o : Opening) (looked h : Entries) (a : Asked)
    (given before : Entries) (turn : Turn P) → AreLawful o h before → IsQuietly h (before ++ h)
    → Gives m new o looked (before ++ h) a (before ++ given) turn → Gives m new o looked h a given turn
gives_after m new o looked h a given before turn lawful quiet g = record {
  more = g.more ++ before;
  lawful = lawful_after o h before g.more lawful g.lawful;
  quietly = subst (λ (longer : Entries). IsQuietly h longer) (sym (append_assoc g.more before h))
      (quietly_then h (before ++ h) (g.more ++ (before ++ h)) quiet g.quietly);
  stands = subst (λ (h : Entries). m.stands new o h) (sym (append_assoc g.more before h)) g.stands;
  so = subst (λ (x : Entries × Entries). StandsSo m new o looked x.0 a x.1 turn.phase turn.answer)
      (sym (λ k. (append_assoc g.more before h k, append_assoc g.more before given k))) g.so;
  goes_on = λ on. goes_after g.more before turn.answer (g.goes_on on);
}

-- those behind one entry
pub gives_behind : {R P : Type 0} (m : Means R P) (new : R) (o : Opening) (looked h : Entries) (a : Asked)
    (given : Entries) (e : Entry) (turn : Turn P) → is_lasting e.event ≡ false → IsLawful o h e
    → Gives m new o looked (e ∷ h) a (e ∷ given) turn → Gives m new o looked h a given turn
gives_behind m new o looked h a given e turn quiet lawful g =
    gives_after m new o looked h a given (e ∷ []) turn (lawful, tt) (with_entry e quiet as_it_was) g

-- ---- rolled back

both_true : (a b : Bool) → (a && b) ≡ true → b ≡ true
both_true true b is = is
both_true false b is = absurd (false≢true is)

second_false : (a b : Bool) → a ≡ true → (a && b) ≡ false → b ≡ false
second_false true b first is = is
second_false false b first is = absurd (false≢true first)

active_fine : (state : TxState) → is_active state ≡ true → Fine ≡ if_active state Fine
active_fine Active is = refl
active_fine Limbo is = absurd (false≢true is)
active_fine Dead is = absurd (false≢true is)
active_fine Committed is = absurd (false≢true is)

-- An event was to take a transaction back, and was refused so that it is given up.
pub record GivenUp {R P : Type 0} (m : Means R P) (new : R) (o : Opening) (h : Entries) (t : TxNo)
    (event : Event) (answer : Refusal) : Type 0 where
  pub entries : Entries
  pub lawful : AreLawful o h entries
  pub quietly : IsQuietly h (entries ++ h)
  pub stands : m.stands new o (entries ++ h)
  pub are : entries ≡ entries_given_up (does_give_up o h t answer) t event answer
  pub inactive : is_active (state_of o (entries ++ h) t.0) ≡ false

pub given_up : {R P : Type 0} (m : Means R P) (new : R) (o : Opening) (h : Entries) (t : TxNo)
    (event : Event) (answer : Refusal) → is_lasting event ≡ false → is_given_up answer ≡ true
    → IsLawful o h (entry event (No answer)) → m.stands new o (after_refusal o h t event answer)
    → GivenUp m new o h t event answer
given_up m new o h t event answer quiet gives lawful stands = by (does_give_up o h t answer) refl stands
  where
    by : (b : Bool) → does_give_up o h t answer ≡ b
        → m.stands new o (cond b (entry (Rollback t) Fine ∷ entry event (No answer) ∷ h) (entry event (No answer) ∷ h))
        → GivenUp m new o h t event answer
    by true is stands = record {
      entries = entry (Rollback t) Fine ∷ entry event (No answer) ∷ [];
      lawful = (
        inl (active_fine (state_of o h t.0)
            (both_true (is_given_up answer) (is_active (state_of o h t.0)) is)),
        (lawful, tt),
      );
      quietly = with_entry (entry (Rollback t) Fine) refl (with_entry (entry event (No answer)) quiet as_it_was);
      stands = stands;
      are = ap (λ (b : Bool). entries_given_up b t event answer) (sym is);
      inactive = ap (λ (b : Bool). is_active (if b then Dead else state_of o h t.0)) (eq-eqb t.0 t.0 refl);
    }
    by false is stands = record {
      entries = entry event (No answer) ∷ [];
      lawful = (lawful, tt);
      quietly = with_entry (entry event (No answer)) quiet as_it_was;
      stands = stands;
      are = ap (λ (b : Bool). entries_given_up b t event answer) (sym is);
      inactive = second_false (is_given_up answer) (is_active (state_of o h t.0)) gives is;
    }

-- ---- undone

-- a statement was refused, and these entries undo it
pub record Undone {R P : Type 0} (m : Means R P) (new : R) (o : Opening) (h : Entries) (t : TxNo)
    (first answer : Refusal) : Type 0 where
  pub undoing : Entries
  pub lawful : AreLawful o h undoing
  pub quietly : IsQuietly h (undoing ++ h)
  pub stands : m.stands new o (undoing ++ h)
  pub by : IsUndoneBy o h t first answer undoing

pub undone_by : {R P : Type 0} (m : Means R P) (new : R) (o : Opening) (h : Entries) (t : TxNo)
    (first answer : Refusal) → IsUndone m new o h t first answer → Undone m new o h t first answer
undone_by m new o h t first answer (taken_back lawful stands) = record {
  undoing = entry (UndoMark t) Fine ∷ [];
  lawful = (lawful, tt);
  quietly = with_entry (entry (UndoMark t) Fine) refl as_it_was;
  stands = stands;
  by = taken_back_so refl refl;
}
undone_by m new o h t first answer (left_so later keeps lawful stands) = record {
  undoing = entry (UndoMark t) (No later) ∷ [];
  lawful = (lawful, tt);
  quietly = with_entry (entry (UndoMark t) (No later)) refl as_it_was;
  stands = stands;
  by = given_up_so later refl (ap (λ (g : Bool). entries_given_up g t (UndoMark t) later)
      (sym (ap (λ (g : Bool). g && is_active (state_of o h t.0)) keeps)));
}

-- the same of a transaction that is rolled back
pub rolled_by : {R P : Type 0} (m : Means R P) (new : R) (o : Opening) (h : Entries) (t : TxNo)
    (first answer : Refusal) → IsGivenUp m new o h t first answer
    → (u : Undone m new o h t first answer) × (is_active (state_of o (u.undoing ++ h) t.0) ≡ false)
rolled_by m new o h t first answer is =
    let g = given_up m new o h t (UndoMark t) is.later refl is.gives_up is.undoing is.stands in (
      record {
        undoing = g.entries;
        lawful = g.lawful;
        quietly = g.quietly;
        stands = g.stands;
        by = given_up_so is.later is.answered g.are;
      },
      g.inactive,
    )

-- what undoes a statement are its last entries
pub refused_gives : {R P : Type 0} (m : Means R P) (new : R) (o : Opening) (looked h : Entries) (a : Asked)
    (given : Entries) (turn : Turn P) (first answer : Refusal) → (u : Undone m new o h a.t first answer)
    → StandsSo m new o looked (u.undoing ++ h) a (u.undoing ++ given) turn.phase turn.answer
    → is_over turn.phase ≡ true → Gives m new o looked h a given turn
refused_gives m new o looked h a given turn first answer u so ends = record {
  more = u.undoing;
  lawful = u.lawful;
  quietly = u.quietly;
  stands = u.stands;
  so = so;
  goes_on = over (is_over turn.phase) ends;
}
