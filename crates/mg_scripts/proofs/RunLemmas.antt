-- Lines are obeyed one after another.
use Rattle.std.proofs.Common.{◌≡◌, ◌∙◌, ◌&&◌, ◌++◌, ◌≤◌, ℕ, Bool, true, false, List, [], ◌∷◌, Option, None, Some, map, refl, sym, ap, subst, arith}
use Rattle.std.specs.List.{All, list_all}
use Rattle.std.proofs.lemmas.List.Elements.{All-tail}
use Rattle.std.proofs.lemmas.Grind.{flat_map-append}
use Rattle.std.proofs.lemmas.List.{append-nil, append_assoc, map-append}
use Rattle.std.proofs.lemmas.List.Folds.{list_all-append}
use Rattle.mg_base.specs.Streams.{SinkMeaning}
use Rattle.mg_model.specs.declared.opening.Opening.{Opening}
use Rattle.mg_model.specs.History.{Entries}
use Rattle.mg_model.specs.Legal.{durable_count}
use Rattle.mg_records.specs.Crashing.{CrashesHold, HoldsOn}
use Rattle.mg_records.specs.Meaning.{Means}
use Rattle.mg_script.specs.declared.line.Line.{Line}
use Rattle.mg_transcript.specs.Scripts.{AreCutShort, AreObeyed, Obeyed, at_line, no_line, obeyed, one_line}
use Rattle.mg_transcript.specs.Sessions.{Unfinished}
use Rattle.mg_transcript.specs.Transcript.{transcript, turn_fine, turn_of}
use Rattle.mg_courses.specs.Carrying.{Carries}
use Rattle.mg_courses.specs.CarryLaws.{carries_none, carries_then}
use Rattle.mg_courses.specs.Running.{RunMeans}
use Rattle.mg_pending.specs.declared.pending.Pending.{Pending}
use Rattle.mg_pending.specs.declared.transactions.Transaction.{Transaction}
use Rattle.mg_pending.specs.Standing.{StandAt}
use Rattle.mg_scripts.specs.FaultLines.{fault_said}
use Rattle.mg_scripts.specs.Printing.{PrintsLine, Writes}
use Rattle.mg_scripts.specs.Runs.{AreDurable, AreLinesOf, AreRun, CanBeObeyed, LinesDone, PrintsSo, PrintsUpTo, lines_of, read_as}
use Rattle.mg_scripts.specs.Steps.{GoesOnOr, LineDone}
use Rattle.mg_scripts.specs.declared.lines.LinesEnd.{LinesEnd}
use Rattle.mg_scripts.specs.declared.lines.LinesEnd.TheVariants.{Whole, Stopped, NoMemory, SinkFailed}

-- The first lines were obeyed and printed, and the rest is to come.
pub record SoFar {R P Run K : Type 0} (m : Means R P) (runs : RunMeans R Run) (n : SinkMeaning K) (old new : R)
    (sink now : K) (o : Opening) (size : ℕ) (lines rest : List Line) (all : List (Option Transaction))
    (ps : List (Pending Run)) (fine : Bool) : Type 0 where
  pub before : List Line
  pub split : before ++ rest ≡ lines
  pub turns : List Obeyed
  pub entries : Entries
  pub unfinished : List Unfinished
  pub are : AreObeyed o size turns entries unfinished
  pub are_lines : lines_of turns ≡ map read_as before
  pub printed : Writes n sink now (transcript turns)
  pub are_fine : fine ≡ list_all turn_fine turns
  pub durable : AreDurable turns (durable_count entries)
  pub stand : StandAt m runs new o entries all ps unfinished
  pub carries : Carries m old new o [] entries

-- ---- what a sink takes

pub writes_none : {K : Type 0} (n : SinkMeaning K) (sink : K) → Writes n sink sink []
writes_none n sink = record {
  all = λ bytes is. is ∙ ap Some (sym (append-nil bytes));
  steady = refl;
}

pub writes_then : {K : Type 0} (n : SinkMeaning K) (sink mid now : K) (a b : List ℕ) → Writes n sink mid a
    → Writes n mid now b → Writes n sink now (a ++ b)
writes_then n sink mid now a b first second = record {
  all = λ bytes is. second.all (bytes ++ a) (first.all bytes is) ∙ ap Some (append_assoc bytes a b);
  steady = second.steady ∙ first.steady;
}

-- ---- the rest of the lines

pub obeyable_rest : (rest : List Line) (line : Line) (later : List Line) → rest ≡ line ∷ later
    → All CanBeObeyed rest → All CanBeObeyed later
obeyable_rest rest line later same all = All-tail CanBeObeyed line later (subst (All CanBeObeyed) same all)

-- ---- durable events

pub durable_up : (turns : List Obeyed) (few many : ℕ) → few ≤ many → AreDurable turns few → AreDurable turns many
durable_up [] few many less are = tt
durable_up (turn ∷ more) few many less are =
    let within = are.0 in (omega (arith, within, less), durable_up more few many less are.1)

durable_more : (turns : List Obeyed) (x : Obeyed) (count : ℕ) → AreDurable turns count
    → durable_count x.after ≤ count → AreDurable (turns ++ x ∷ []) count
durable_more [] x count are within = (within, tt)
durable_more (turn ∷ more) x count are within = (are.0, durable_more more x count are.1 within)

-- ---- one turn more

said_more : (turns : List Obeyed) (x : Obeyed)
    → transcript turns ++ turn_of x.line x.reply x.released ≡ transcript (turns ++ x ∷ [])
said_more turns x = sym (flat_map-append (λ turn. turn_of turn.line turn.reply turn.released) turns (x ∷ [])
    ∙ ap (λ (bytes : List ℕ). transcript turns ++ bytes) (append-nil (turn_of x.line x.reply x.released)))

and_true : (b : Bool) → (b && true) ≡ b
and_true true = refl
and_true false = refl

fine_more : (turns : List Obeyed) (x : Obeyed)
    → (list_all turn_fine turns && turn_fine x) ≡ list_all turn_fine (turns ++ x ∷ [])
fine_more turns x = sym (list_all-append turn_fine turns (x ∷ [])
    ∙ ap (λ (b : Bool). list_all turn_fine turns && b) (and_true (turn_fine x)))

fine_then : (fine more : Bool) (turns : List Obeyed) (x : Obeyed) → fine ≡ list_all turn_fine turns
    → more ≡ turn_fine x → (fine && more) ≡ list_all turn_fine (turns ++ x ∷ [])
fine_then fine more turns x first second = ap (λ (b : Bool). b && more) first
    ∙ ap (λ (b : Bool). list_all turn_fine turns && b) second ∙ fine_more turns x

lines_more : (turns : List Obeyed) (x : Obeyed) (before : List Line) (line : Line)
    → lines_of turns ≡ map read_as before → x.line ≡ read_as line
    → lines_of (turns ++ x ∷ []) ≡ map read_as (before ++ line ∷ [])
lines_more turns x before line are is = map-append (λ turn. turn.line) turns (x ∷ [])
    ∙ ap (λ (ls : List Line). ls ++ x.line ∷ []) are ∙ ap (λ (l : Line). map read_as before ++ l ∷ []) is
    ∙ sym (map-append read_as before (line ∷ []))

module _ {R P Run K : Type 0} (m : Means R P) (runs : RunMeans R Run) (n : SinkMeaning K) (o : Opening) (size : ℕ)
  where
    pub so_far_none : CrashesHold m → (r : R) (sink : K) (lines : List Line) (all : List (Option Transaction))
        (ps : List (Pending Run)) → StandAt m runs r o [] all ps []
        → SoFar m runs n r r sink sink o size lines lines all ps true
    so_far_none crashes r sink lines all ps stand = record {
      before = [];
      split = refl;
      turns = [];
      entries = [];
      unfinished = [];
      are = no_line;
      are_lines = refl;
      printed = writes_none n sink;
      are_fine = refl;
      durable = tt;
      stand = stand;
      carries = carries_none m crashes r o [] stand.stands;
    }

    module _ (lasts : HoldsOn m) (old mid new : R) (sink between now : K) (lines later : List Line) (line : Line)
        (all all' : List (Option Transaction)) (ps ps' : List (Pending Run)) (fine more : Bool)
        (so_far : SoFar m runs n old mid sink between o size lines (line ∷ later) all ps fine) where
      abbrev turn_with : (e : Option LinesEnd)
          → LineDone m runs n mid new between now o size so_far.entries so_far.unfinished (read_as line) all' ps' e more
          → Obeyed
      turn_with e done = obeyed (read_as line) done.reply done.released done.after

      pub so_far_next :
          LineDone m runs n mid new between now o size so_far.entries so_far.unfinished (read_as line) all' ps' None more
          → SoFar m runs n old new sink now o size lines later all' ps' (fine && more)
      so_far_next done = record {
        before = so_far.before ++ line ∷ [];
        split = append_assoc so_far.before (line ∷ []) later ∙ so_far.split;
        turns = so_far.turns ++ obeyed (read_as line) done.reply done.released done.after ∷ [];
        entries = done.after;
        unfinished = done.then_;
        are = one_line so_far.turns so_far.entries done.after so_far.unfinished done.then_ (read_as line) done.reply
            done.released so_far.are done.acts done.goes.0;
        are_lines = lines_more so_far.turns (turn_with None done) so_far.before line so_far.are_lines refl;
        printed = subst (Writes n sink now) (said_more so_far.turns (turn_with None done))
            (writes_then n sink between now (transcript so_far.turns)
            (turn_of (read_as line) done.reply done.released) so_far.printed
            (wrote done.failed done.goes.1 done.prints));
        are_fine = fine_then fine more so_far.turns (turn_with None done) so_far.are_fine done.fine_is;
        durable = durable_more so_far.turns (turn_with None done) (durable_count done.after)
            (durable_up so_far.turns (durable_count so_far.entries) (durable_count done.after) done.carries.count
            so_far.durable) (omega arith);
        stand = done.stand;
        carries = carries_then m lasts old mid new o [] so_far.entries done.after so_far.carries done.carries;
      }
        where
          wrote : (failed : Option LinesEnd) → failed ≡ None
              → PrintsLine n between now (turn_of (read_as line) done.reply done.released)
              (fault_said (read_as line) done.reply done.released) failed
              → Writes n between now (turn_of (read_as line) done.reply done.released)
          wrote None is prints = prints
          wrote (Some e) is prints = absurd cc

      pub so_far_ends : (end : LinesEnd)
          → LineDone m runs n mid new between now o size so_far.entries so_far.unfinished (read_as line) all' ps'
          (Some end) more
          → LinesDone m runs n old new sink now o size lines all' ps' end (fine && more)
      so_far_ends end done = record {
        turns = so_far.turns ++ obeyed (read_as line) done.reply done.released done.after ∷ [];
        entries = done.after;
        unfinished = done.then_;
        run = run end done.goes;
        are_lines = are_lines end done.goes;
        printed = printed end done.goes;
        are_fine = fine_then fine more so_far.turns (turn_with (Some end) done) so_far.are_fine done.fine_is;
        durable = durable_more so_far.turns (turn_with (Some end) done) (durable_count done.after)
            (durable_up so_far.turns (durable_count so_far.entries) (durable_count done.after) done.carries.count
            so_far.durable) (omega arith);
        stand = done.stand;
        carries = carries_then m lasts old mid new o [] so_far.entries done.after so_far.carries done.carries;
      }
        where
          last : Obeyed
          last = obeyed (read_as line) done.reply done.released done.after

          cut : AreCutShort o size (so_far.turns ++ last ∷ []) done.after done.then_
          cut = at_line so_far.turns so_far.entries done.after so_far.unfinished done.then_ (read_as line) done.reply
              done.released so_far.are done.acts

          run : (e : LinesEnd) → GoesOnOr o done.after done.then_ done.reply done.released done.failed (Some e)
              → AreRun o size e (so_far.turns ++ last ∷ []) done.after done.then_
          run Whole goes = absurd goes
          run (Stopped refusal) goes =
              (cut, record { before = so_far.turns; last = last; are = refl; stops = goes })
          run NoMemory goes = cut
          run SinkFailed goes = cut

          front : (rest : List Line) × (lines_of (so_far.turns ++ last ∷ []) ++ rest ≡ map read_as lines)
          front = (
            map read_as later,
            ap (λ (ls : List Line). ls ++ map read_as later)
                (lines_more so_far.turns last so_far.before line so_far.are_lines refl)
                ∙ sym (map-append read_as (so_far.before ++ line ∷ []) later)
                ∙ ap (map read_as) (append_assoc so_far.before (line ∷ []) later ∙ so_far.split),
          )

          are_lines : (e : LinesEnd) → GoesOnOr o done.after done.then_ done.reply done.released done.failed (Some e)
              → AreLinesOf e lines (so_far.turns ++ last ∷ [])
          are_lines Whole goes = absurd goes
          are_lines (Stopped refusal) goes = front
          are_lines NoMemory goes = front
          are_lines SinkFailed goes = front

          up_to : (e : LinesEnd) → (e ≡ SinkFailed → done.failed ≡ Some SinkFailed)
              → PrintsUpTo n sink now e (so_far.turns ++ last ∷ [])
          up_to e by_sink = record {
            before = so_far.turns;
            last = last;
            are = refl;
            mid = between;
            writes = so_far.printed;
            failed = done.failed;
            prints = done.prints;
            by_sink = by_sink;
          }

          printed : (e : LinesEnd) → GoesOnOr o done.after done.then_ done.reply done.released done.failed (Some e)
              → PrintsSo n sink now e (so_far.turns ++ last ∷ [])
          printed Whole goes = absurd goes
          printed (Stopped refusal) goes = up_to (Stopped refusal) (λ same. absurd cc)
          printed NoMemory goes = up_to NoMemory (λ same. absurd cc)
          printed SinkFailed goes = up_to SinkFailed (λ same. goes)

    module _ (lasts : HoldsOn m) (old mid new : R) (sink between now : K) (lines rest later : List Line) (line : Line)
        (all all' : List (Option Transaction)) (ps ps' : List (Pending Run)) (fine more both : Bool)
        (same : rest ≡ line ∷ later) (is : both ≡ (fine && more)) (e : Option LinesEnd)
        (so_far : SoFar m runs n old mid sink between o size lines rest all ps fine)
        (done : (h : Entries) (us : List Unfinished) → StandAt m runs mid o h all ps us
        → LineDone m runs n mid new between now o size h us (read_as line) all' ps' e more) where
      abbrev begun : SoFar m runs n old mid sink between o size lines (line ∷ later) all ps fine
      begun = subst (λ (xs : List Line). SoFar m runs n old mid sink between o size lines xs all ps fine) same so_far

      abbrev line_done : LineDone m runs n mid new between now o size begun.entries begun.unfinished (read_as line) all' ps'
          e more
      line_done = done begun.entries begun.unfinished begun.stand

      pub next_line : e ≡ None → SoFar m runs n old new sink now o size lines later all' ps' both
      next_line none = subst (λ (b : Bool). SoFar m runs n old new sink now o size lines later all' ps' b) (sym is)
          (so_far_next lasts old mid new sink between now lines later line all all' ps ps' fine more begun
          (subst (λ (x : Option LinesEnd). LineDone m runs n mid new between now o size begun.entries begun.unfinished
          (read_as line) all' ps' x more) none line_done))

      pub last_line : (end : LinesEnd) → e ≡ Some end
          → LinesDone m runs n old new sink now o size lines all' ps' end both
      last_line end some = subst (λ (b : Bool). LinesDone m runs n old new sink now o size lines all' ps' end b) (sym is)
          (so_far_ends lasts old mid new sink between now lines later line all all' ps ps' fine more begun end
          (subst (λ (x : Option LinesEnd). LineDone m runs n mid new between now o size begun.entries begun.unfinished
          (read_as line) all' ps' x more) some line_done))

    pub so_far_all : (old new : R) (sink now : K) (lines rest : List Line) (all : List (Option Transaction))
        (ps : List (Pending Run)) (fine : Bool) → rest ≡ []
        → SoFar m runs n old new sink now o size lines rest all ps fine
        → LinesDone m runs n old new sink now o size lines all ps Whole fine
    so_far_all old new sink now lines rest all ps fine none so_far = record {
      turns = so_far.turns;
      entries = so_far.entries;
      unfinished = so_far.unfinished;
      run = so_far.are;
      are_lines = so_far.are_lines ∙ ap (map read_as) (sym (append-nil so_far.before)
          ∙ ap (λ (ls : List Line). so_far.before ++ ls) (sym none) ∙ so_far.split);
      printed = so_far.printed;
      are_fine = so_far.are_fine;
      durable = so_far.durable;
      stand = so_far.stand;
      carries = so_far.carries;
    }
