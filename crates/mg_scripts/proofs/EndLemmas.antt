-- The beginning of a script, and its end.
use Rattle.std.proofs.Common.{◌≡◌, ◌==◌, ◌&&◌, ℕ, suc, zero, Bool, true, false, List, [], ◌∷◌, length, Option, None, refl, sym, ap, ◌∙◌, arith}
use Rattle.std.specs.Prelude.{replicate, get_or}
use Rattle.std.specs.List.{list_all}
use Rattle.std.proofs.lemmas.Bool.{eq-eqb, ne_eqb}
use Rattle.mg_base.specs.Streams.{SinkMeaning}
use Rattle.mg_model.specs.declared.opening.Opening.{Opening}
use Rattle.mg_model.specs.declared.refusal.Refusal.{Refusal}
use Rattle.mg_model.specs.Answers.{is_active}
use Rattle.mg_model.specs.History.{Entries}
use Rattle.mg_model.specs.Legal.{durable_count}
use Rattle.mg_model.specs.Machine.{state_of}
use Rattle.mg_records.specs.Crashing.{HoldsOn}
use Rattle.mg_records.specs.Meaning.{Means}
use Rattle.mg_script.specs.declared.line.Line.{Line}
use Rattle.mg_transcript.specs.Scripts.{AreRolledBack, Obeyed, sessions}
use Rattle.mg_transcript.specs.Sessions.{Unfinished}
use Rattle.mg_transcript.specs.Transcript.{all_fine, turn_fine}
use Rattle.mg_courses.specs.CarryLaws.{carries_then}
use Rattle.mg_courses.specs.Running.{RunMeans}
use Rattle.mg_pending.specs.declared.pending.Pending.{Pending}
use Rattle.mg_pending.specs.declared.transactions.Transaction.{Transaction}
use Rattle.mg_pending.specs.Standing.{Agree, AreReady, StandAt}
use Rattle.mg_pending.specs.Transactions.{no_transactions, number_in, transaction_at}
use Rattle.mg_script_ends.specs.Ends.{EndsWith}
use Rattle.mg_scripts.specs.declared.lines.LinesEnd.{LinesEnd}
use Rattle.mg_scripts.specs.declared.lines.LinesEnd.TheVariants.{Whole, Stopped, NoMemory, SinkFailed}
use Rattle.mg_scripts.specs.Ending.{EndsLive, EndsSo, ScriptRan, fine_at, is_cut, is_none, reason_at}
use Rattle.mg_scripts.proofs.RunLemmas.{durable_up}
use Rattle.mg_scripts.specs.Runs.{LinesDone}
use Rattle.mg_scripts.specs.Steps.{reason}

-- ---- the beginning

all_none : (n k : ℕ) → ◌≡◌ {A = Option Transaction} (get_or (replicate n None) k None) None
all_none zero k = refl
all_none (suc n) zero = refl
all_none (suc n) (suc k) = all_none n k

at_none : (session : ℕ) → transaction_at no_transactions session ≡ None
at_none session = all_none 17 session

pub start_ready : {R P Run : Type 0} (m : Means R P) (runs : RunMeans R Run) (r : R)
    → ((session : ℕ) → m.is_free r session) → AreReady m runs r no_transactions []
start_ready m runs r free = record {
  places = refl;
  free = λ session none. free session;
  works = λ session t is. absurd (cc (ap number_in (at_none session), is));
  ready = tt;
  apart = tt;
}

pub start_stand : {R P Run : Type 0} (m : Means R P) (runs : RunMeans R Run) (r : R) (o : Opening)
    → m.stands r o [] → ((t : ℕ) → is_active (state_of o [] t) ≡ false) → StandAt m runs r o [] no_transactions [] []
start_stand m runs r o stands none = record {
  stands = stands;
  legal = tt;
  its = λ session. sym (ap number_in (at_none session));
  modes = λ session x is. absurd (cc (at_none session, is));
  active = λ t. none t;
  agree = tt;
}

-- ---- the end

-- statements that are left do not go on
pub end_ready : {R P Run : Type 0} (m : Means R P) (runs : RunMeans R Run) (r : R) (all : List (Option Transaction))
    (ps : List (Pending Run)) → AreReady m runs r all ps → AreReady m runs r all []
end_ready m runs r all ps ready = record {
  places = ready.places;
  free = ready.free;
  works = ready.works;
  ready = tt;
  apart = tt;
}

end_stand : {R P Run : Type 0} (m : Means R P) (runs : RunMeans R Run) (r : R) (o : Opening) (h : Entries)
    (all : List (Option Transaction)) (ps : List (Pending Run)) (us : List Unfinished)
    → StandAt m runs r o h all ps us → StandAt m runs r o h all [] []
end_stand m runs r o h all ps us stand = record {
  stands = stand.stands;
  legal = stand.legal;
  its = stand.its;
  modes = stand.modes;
  active = stand.active;
  agree = tt;
}

same_none : {R Run : Type 0} (runs : RunMeans R Run) (r : R) (o : Opening) (h : Entries) (ps : List (Pending Run))
    (us : List Unfinished) → Agree runs r o h ps us → is_none ps ≡ is_none us
same_none runs r o h [] [] agree = refl
same_none runs r o h [] (u ∷ us) agree = absurd agree
same_none runs r o h (p ∷ ps) [] agree = absurd agree
same_none runs r o h (p ∷ ps) (u ∷ us) agree = refl

pub none_by_length : {A : Type 0} (xs : List A) (n : ℕ) → n ≡ length xs → (n == 0) ≡ is_none xs
none_by_length [] n is = eq-eqb n 0 is
none_by_length (x ∷ xs) n is = ne_eqb n 0 (λ zero. absurd (omega (arith, is, zero)))

-- what the end comes to
pub ends_live : {R P Run : Type 0} (m : Means R P) (runs : RunMeans R Run) (old new : R) (o : Opening) (h : Entries)
    (all all' : List (Option Transaction)) (ps : List (Pending Run)) (us : List Unfinished) (fine none : Bool)
    (refusals : List Refusal) → none ≡ is_none ps → StandAt m runs old o h all ps us
    → (StandAt m runs old o h all [] []
    → EndsWith m runs old new o h all' (λ after. AreRolledBack o h sessions after refusals))
    → EndsLive m old new o h us fine refusals (fine && none)
ends_live m runs old new o h all all' ps us fine none refusals is stand ends =
    let end = ends (end_stand m runs old o h all ps us stand) in
    record {
      after = end.after;
      rolled_back = end.does;
      are_fine = ap (λ (b : Bool). fine && b) (is ∙ same_none runs old o h ps us stand.agree);
      stands = end.stand.stands;
      legal = end.stand.legal;
      carries = end.carries;
    }

fine_so : (turns : List Obeyed) (us : List Unfinished)
    → (list_all turn_fine turns && is_none us) ≡ all_fine turns us
fine_so turns [] = and_true (list_all turn_fine turns)
  where
    and_true : (b : Bool) → (b && true) ≡ b
    and_true true = refl
    and_true false = refl
fine_so turns (u ∷ us) = and_false (list_all turn_fine turns)
  where
    and_false : (b : Bool) → (b && false) ≡ false
    and_false true = refl
    and_false false = refl

-- all lines were obeyed, and then comes the end
pub ran_whole : {R P Run K : Type 0} (m : Means R P) (runs : RunMeans R Run) (lasts : HoldsOn m) (n : SinkMeaning K)
    (old mid new : R) (before after : K) (o : Opening) (size : ℕ) (lines : List Line)
    (all : List (Option Transaction)) (ps : List (Pending Run)) (fine whole : Bool) (refusals : List Refusal)
    → LinesDone m runs n old mid before after o size lines all ps Whole fine
    → ((h : Entries) (us : List Unfinished) → StandAt m runs mid o h all ps us
    → EndsLive m mid new o h us fine refusals whole)
    → ScriptRan m n old new before after o size lines refusals Whole whole
ran_whole m runs lasts n old mid new before after o size lines all ps fine whole refusals done ends =
    let end = ends done.entries done.unfinished done.stand in
    record {
      turns = done.turns;
      obeyed_to = done.entries;
      unfinished = done.unfinished;
      entries = end.after;
      run = done.run;
      are_lines = done.are_lines;
      printed = done.printed;
      are_fine = end.are_fine ∙ ap (λ (b : Bool). b && is_none done.unfinished) done.are_fine
          ∙ fine_so done.turns done.unfinished;
      ended = end.rolled_back;
      durable = durable_up done.turns (durable_count done.entries) (durable_count end.after) end.carries.count
          done.durable;
      stands = end.stands;
      legal = end.legal;
      carries = carries_then m lasts old mid new o [] done.entries end.after done.carries end.carries;
    }

pub cut_none : (end : LinesEnd) → is_cut end ≡ false → end ≡ Whole
cut_none Whole is = refl
cut_none (Stopped refusal) is = absurd cc
cut_none NoMemory is = absurd cc
cut_none SinkFailed is = absurd cc

-- and what was cut short has no refusal of an end
pub cut_reason : (end : LinesEnd) (refusals : List Refusal) → is_cut end ≡ true → reason_at end refusals ≡ reason end
cut_reason Whole refusals is = absurd cc
cut_reason (Stopped refusal) refusals is = refl
cut_reason NoMemory refusals is = refl
cut_reason SinkFailed refusals is = refl

pub ran_short : {R P Run K : Type 0} (m : Means R P) (runs : RunMeans R Run) (n : SinkMeaning K)
    (old new : R) (before after : K) (o : Opening) (size : ℕ) (lines : List Line)
    (all : List (Option Transaction)) (ps : List (Pending Run)) (end : LinesEnd) (fine : Bool)
    (refusals : List Refusal) → is_cut end ≡ true → refusals ≡ []
    → LinesDone m runs n old new before after o size lines all ps end fine
    → ScriptRan m n old new before after o size lines refusals end fine
ran_short m runs n old new before after o size lines all ps end fine refusals cut none done = record {
  turns = done.turns;
  obeyed_to = done.entries;
  unfinished = done.unfinished;
  entries = done.entries;
  run = done.run;
  are_lines = done.are_lines;
  printed = done.printed;
  are_fine = done.are_fine ∙ sym (fine_cut end cut);
  ended = ended_cut end cut;
  durable = done.durable;
  stands = done.stand.stands;
  legal = done.stand.legal;
  carries = done.carries;
}
  where
    fine_cut : (end : LinesEnd) → is_cut end ≡ true → fine_at end done.turns done.unfinished ≡ list_all turn_fine done.turns
    fine_cut Whole is = absurd cc
    fine_cut (Stopped refusal) is = refl
    fine_cut NoMemory is = refl
    fine_cut SinkFailed is = refl

    ended_cut : (end : LinesEnd) → is_cut end ≡ true → EndsSo o end done.entries done.entries refusals
    ended_cut Whole is = absurd cc
    ended_cut (Stopped refusal) is = (refl, none)
    ended_cut NoMemory is = (refl, none)
    ended_cut SinkFailed is = (refl, none)
