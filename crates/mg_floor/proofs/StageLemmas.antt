-- A step over the keeper and the sessions that is noted on the board.
use Rattle.std.proofs.Common.{◌≡◌, ◌<◌, ◌≤◌, ◌+◌, ◌||◌, ℕ, suc, true, Bool, false, List, [], ◌∷◌, ◌++◌, Option, Some, None, get_or, length, set, not, refl, sym, ap, ◌∙◌, subst, arith, if◌then◌else◌}
use Rattle.std.specs.List.{slice_get}
use Rattle.std.proofs.lemmas.Bool.{eqb-true}
use Rattle.std.proofs.lemmas.Option.{slice_get_within}
use Rattle.mg_base.specs.declared.numbers.TxNo.{TxNo}
use Rattle.mg_model.specs.declared.opening.Opening.{Opening}
use Rattle.mg_model.specs.declared.refusal.Refusal.{Refusal}
use Rattle.mg_model.specs.History.{Entries}
use Rattle.mg_records.specs.Crashing.{CrashesHold}
use Rattle.mg_records.specs.Meaning.{Means}
use Rattle.mg_rows.specs.declared.statement_fault.StatementFault.TheVariants.{Engine}
use Rattle.mg_script.specs.declared.line.Line.{Line}
use Rattle.mg_script.specs.declared.line.LineKind.{LineKind}
use Rattle.mg_script.specs.declared.line.LineKind.TheVariants as kinds
use Rattle.mg_script.specs.declared.line.TheConstants.{SESSIONS}
use Rattle.mg_script.specs.declared.line.Session.{Session}
use Rattle.mg_script.specs.declared.reply.Reply.{Reply}
use Rattle.mg_script.specs.declared.reply.Reply.TheVariants as replies
use Rattle.mg_transcript.specs.declared.turn.Flow.{Flow}
use Rattle.mg_transcript.specs.declared.turn.Flow.TheVariants.{GoesOn, Stops}
use Rattle.mg_transcript.specs.Courses.{Comes as ComesOf, reply_of}
use Rattle.mg_transcript.specs.Sessions.{StandsAmong, Unfinished, is_busy, is_over, kept}
use Rattle.mg_transcript.specs.Shorthand.{stops_run}
use Rattle.mg_transcript.specs.Steps.{Steps}
use Rattle.mg_transcript.specs.Transcript.{flow}
use Rattle.mg_interleavings.specs.declared.answered.Answered.{Answered}
use Rattle.mg_interleavings.specs.declared.answered.Answered.TheVariants.{LockTimeout, Replied}
use Rattle.mg_interleavings.specs.Interleavings.{Interleaves, passes as passes_rule}
use Rattle.mg_interleavings.specs.Standings.{Scripts, Standing, passed, script_of}
use Rattle.mg_courses.specs.Running.{RunMeans, refusal_answered}
use Rattle.mg_courses.specs.CarryLaws.{carries_none}
use Rattle.mg_courses.specs.StopLaws.{flow_goes, goes_on_behind}
use Rattle.mg_pending.specs.declared.pending.Pending.{Pending}
use Rattle.mg_pending.specs.declared.sessions.Sessions.{Sessions}
use Rattle.mg_pending.specs.declared.transactions.Transaction.{Transaction}
use Rattle.mg_pending.specs.AgreeLaws.{SplitAt, same_busy, split_at}
use Rattle.mg_pending.specs.Standing.{AreReady, StandAt}
use Rattle.mg_pending.specs.Statements.{IsFirstAt, PassesNowhere, has_statement, is_its}
use Rattle.mg_pending.specs.Transactions.{has_number}
use Rattle.mg_sessions.specs.AccountLaws.{no_account, untold_account}
use Rattle.mg_sessions.specs.Accounts.{Accounts}
use Rattle.mg_sessions.specs.Coming.{ComesTo, IsKept}
use Rattle.mg_sessions.specs.HoldingLaws.{some_one}
use Rattle.mg_floor.specs.declared.board.Board.{Board}
use Rattle.mg_floor.specs.declared.stage.Stage.{Stage}
use Rattle.mg_floor.specs.Answering.{refusal_told_by, stop_behind, stopped_by}
use Rattle.mg_floor.specs.Boards.{IsBoard, Passes, Settles, standing_of}
use Rattle.mg_floor.specs.Coming.{Comes, IsAccounted, IsStage}
use Rattle.mg_floor.specs.ComingLaws.{with_board}
use Rattle.mg_floor.specs.Scripts.{AreOwnLines, IsOwnLine}
use Rattle.mg_floor.specs.SteppingLaws.{flows_behind, goes_on_settle, halted_by, has_line, settled, settled_by, steps_settle, takes_up_settles, tries_settle}
use Rattle.mg_floor.specs.TakingUp.{TakesUp}
use Rattle.mg_floor.specs.Trying.{TriesOnce}
use Rattle.mg_floor.specs.Waiting.{IsReleasedAt, WaitsAt, still_on}

-- ---- the board

one_more : (n : ℕ) → n + 1 ≡ suc n
one_more n = omega arith

-- how far the sessions have come by the board behind a step
board_settled : (old new : Board) (session : Session) (answer : Answered) (busy : Bool) (us then_ : List Unfinished)
    → Settles old new session.0 busy answer
    → get_or old.places.items session.0 0 < length (script_of old.scripts.items session.0)
    → standing_of new then_ (halted_by busy answer)
    ≡ settled_by (standing_of old us false) session answer then_ busy
board_settled old new session answer true us then_ settles line =
    ap (λ (x : List ℕ × List (List Answered)). record { places = x.0; answers = x.1; pending = then_; stopped = false })
    (λ i. (settles.places line i, settles.answers i))
board_settled old new session answer false us then_ settles line =
    let place = get_or old.places.items session.0 0 in
    let places = settles.places line ∙ ap (λ (n : ℕ). set old.places.items session.0 n) (one_more place) in
    ap (λ (x : List ℕ × List (List Answered)).
    record { places = x.0; answers = x.1; pending = then_; stopped = halted_by false answer })
    (λ i. (places i, settles.answers i))

-- ---- the refusal by which the run stops

stops_tells : (reply : Reply) (refusal : Refusal) → flow reply ≡ Stops refusal → refusal_answered reply ≡ Some refusal
stops_tells (replies.No (Engine given)) refusal is = at (stops_run given) is
  where
    at : (b : Bool) → (if b then Stops given else GoesOn) ≡ Stops refusal → Some given ≡ Some refusal
    at true is = cc is
    at false is = absurd cc
stops_tells reply refusal is = absurd cc

module _ {R P : Type 0} (m : Means R P) (old new : R) where
  accounted_by : (reply : Reply) (f : Flow) → flow reply ≡ f → Accounts m old new (refusal_answered reply)
      → Accounts m old new (stopped_by f)
  accounted_by reply GoesOn is accounts =
      untold_account m old new (refusal_answered reply) (goes_on_behind reply (flow_goes reply is)) accounts
  accounted_by reply (Stops refusal) is accounts =
      subst (λ (r : Option Refusal). Accounts m old new r) (stops_tells reply refusal is) accounts

  accounted_behind : (answer : Answered) → Accounts m old new (refusal_told_by answer)
      → Accounts m old new (stop_behind answer)
  accounted_behind (LockTimeout on) accounts = accounts
  accounted_behind (Replied reply) accounts = accounted_by reply (flow reply) refl accounts

-- ---- a step that is noted

-- what a step comes to, by another relation that follows
pub comes_as_by : {R P Run : Type 0} (m : Means R P) (runs : RunMeans R Run) (old new : R) (o : Opening) (h : Entries)
    (all : List (Option Transaction)) (ps : List (Pending Run)) (By So : Entries → List Unfinished → Type 0)
    → ((after : Entries) (then_ : List Unfinished) → By after then_ → So after then_)
    → ComesTo m runs old new o h all ps By → ComesTo m runs old new o h all ps So
comes_as_by m runs old new o h all ps By So turn comes = record {
  after = comes.after;
  then_ = comes.then_;
  does = turn comes.after comes.then_ comes.does;
  stand = comes.stand;
  carries = comes.carries;
}

-- its step is one of sessions that obey their scripts at once
abbrev pub TurnsSo : {R P Run : Type 0} → Means R P → RunMeans R Run → Stage R Run → R → Sessions Run → Session → Answered
    → Type 0
TurnsSo m runs old keeper sessions session answer = (o : Opening) (h : Entries) (us : List Unfinished)
    → Interleaves o old.size old.board.scripts.items (standing_of old.board us false) h
    → StandAt m runs old.keeper o h old.sessions.transactions old.sessions.pending.items us
    → (get_or old.board.places.items session.0 0 < length (script_of old.board.scripts.items session.0))
    × ComesTo m runs old.keeper keeper o h sessions.transactions sessions.pending.items
    (λ after then_. Interleaves o old.size old.board.scripts.items
    (settled (standing_of old.board us false) session answer then_) after)

module _ {R P Run : Type 0} (m : Means R P) (runs : RunMeans R Run) (old : Stage R Run) (keeper : R)
    (sessions : Sessions Run) (board : Board) (session : Session) (answer : Answered) (busy : Bool)
    (is_ : busy ≡ has_statement session.0 sessions.pending.items)
    (settles : Settles old.board board session.0 busy answer) (accounts : Accounts m old.keeper keeper (refusal_told_by answer))
  where
    abbrev pub gone_on : Stage R Run
    gone_on = record { keeper = keeper; size = old.size; sessions = sessions; board = board }

    halted_false : (b : Bool) → busy ≡ b → board.stopped ≡ None → halted_by busy answer ≡ false
    halted_false b b_is none = at busy
      where
        at : (x : Bool) → halted_by x answer ≡ false
        at true = refl
        at false = flows_behind answer (sym settles.stopped ∙ none)

    pub comes_by : old.board.stopped ≡ None → TurnsSo m runs old keeper sessions session answer → Comes m runs old gone_on
    comes_by flows turns = record {
      reaches = λ o h us stands.
          let came = subst (λ (b : Bool).
          Interleaves o old.size old.board.scripts.items (standing_of old.board us b) h) (stands.flows flows) stands.came in
          let turn = turns o h us came stands.stand in
          let comes = turn.1 in
          let same = same_busy runs keeper o comes.after session sessions.pending.items comes.then_ comes.stand.agree
          ∙ sym is_ in
          let noted = subst (λ (b : Bool). Interleaves o old.size old.board.scripts.items
          (settled_by (standing_of old.board us false) session answer comes.then_ b) comes.after) same comes.does in
          record {
            after = comes.after;
            then_ = comes.then_;
            stands = record {
              halted = halted_by busy answer;
              flows = halted_false busy refl;
              came = subst (λ (scripts : Scripts). Interleaves o old.size scripts
                  (standing_of board comes.then_ (halted_by busy answer)) comes.after) (sym settles.scripts)
                  (subst (λ (x : Standing). Interleaves o old.size old.board.scripts.items x comes.after)
                  (sym (board_settled old.board board session answer busy us comes.then_ settles turn.0)) noted);
              stand = comes.stand;
            };
            carries = comes.carries;
          };
      accounts = subst (λ (r : Option Refusal). IsAccounted m runs r old gone_on) (sym flows)
          (subst (λ (r : Option Refusal). Accounts m old.keeper keeper r) (sym settles.stopped)
          (accounted_behind m old.keeper keeper answer accounts));
      scripts = settles.scripts;
      size = refl;
    }

    pub stage_by : IsStage m runs old → IsBoard board
        → AreReady m runs keeper sessions.transactions sessions.pending.items → IsStage m runs gone_on
    stage_by stage is ready = record {
      ready = ready;
      sized = accounts.sizes old.size ∙ stage.sized;
      board = is;
      own = subst (λ (scripts : Scripts). AreOwnLines scripts) (sym settles.scripts) stage.own;
      few = subst (λ (scripts : Scripts). length scripts ≤ SESSIONS) (sym settles.scripts) stage.few;
    }

-- ---- the statement of a session at a place

session_as : (a b : Session) → a.0 ≡ b.0 → a ≡ b
session_as a b is = ap (λ (n : ℕ). record { 0 = n }) is

module _ {R P Run : Type 0} (m : Means R P) (runs : RunMeans R Run) (r : R) (o : Opening) (h : Entries)
    (all : List (Option Transaction)) (ps : List (Pending Run)) (us : List Unfinished) (place : ℕ) (d : Pending Run)
    (session : Session) (first : IsFirstAt (is_its session.0) ps place) (s : SplitAt runs r o h ps place d us)
    (stand : StandAt m runs r o h all ps us) where
  abbrev pub others : List Unfinished
  others = s.before ++ s.behind

  pub among : StandsAmong us s.one others
  among = record { before = s.before; behind = s.behind; are = s.are; left = refl }

  pub its : s.one.session ≡ session
  its = sym s.of.session
      ∙ session_as (get_or ps place d).session session (eqb-true (get_or ps place d).session.0 session.0 (first.passes d))

  module _ (size : ℕ) (scripts : Scripts) (standing : Standing) (pending : standing.pending ≡ us)
      (came : Interleaves o size scripts standing h) (flows : standing.stopped ≡ false) where
    here : StandsAmong standing.pending s.one others
    here = subst (λ (vs : List Unfinished). StandsAmong vs s.one others) (sym pending) among

    pub its_line : get_or standing.places session.0 0 < length (script_of scripts session.0)
    its_line = has_line o size scripts standing h session came flows s.one others here its

    -- it takes a step, where it does not wait or its waiting is over
    step_noted : (on : Option TxNo) → s.one.waits_on ≡ on → still_on all on ≡ None → (after : Entries) (comes : ComesOf)
        → Steps o h s.one.transaction s.one.course after comes
        → Interleaves o size scripts
        (settled standing session (Replied (reply_of comes)) (kept s.one.session s.one.transaction comes others)) after
    step_noted None waits released after comes step =
        steps_settle o size scripts standing h session came flows s.one others here its after comes waits step
    step_noted (Some on) waits released after comes step = at (has_number all on.0) refl released
      where
        at : (b : Bool) → has_number all on.0 ≡ b → (if b then Some on else None) ≡ None
            → Interleaves o size scripts
            (settled standing session (Replied (reply_of comes)) (kept s.one.session s.one.transaction comes others)) after
        at true live is = absurd cc
        at false over is =
            goes_on_settle o size scripts standing h session came flows s.one others here its after comes
            (subst (λ (w : Option TxNo). is_over o h w ≡ true) (sym waits) (ap not (stand.active on.0 ∙ over))) step

    pub kept_noted : ((x : Pending Run) → still_on all (get_or ps place x).waits_on ≡ None) → (reply : Reply)
        (after : Entries) (then_ : List Unfinished)
        → IsKept s.one.session s.one.transaction others (Steps o h s.one.transaction s.one.course) reply after then_
        → Interleaves o size scripts (settled standing session (Replied reply) then_) after
    kept_noted released reply after then_ is =
        subst (λ (x : Reply). Interleaves o size scripts (settled standing session (Replied x) then_) after)
        (sym is.answered)
        (subst (λ (vs : List Unfinished).
        Interleaves o size scripts (settled standing session (Replied (reply_of is.comes)) vs) after) (sym is.kept_so)
        (step_noted s.one.waits_on refl
        (ap (still_on all) (sym s.of.waits_on) ∙ released d) after is.comes is.by_it))

    pub tried_noted : (on : TxNo) → ((x : Pending Run) → (get_or ps place x).waits_on ≡ Some on)
        → has_number all on.0 ≡ true → (answer : Answered) (after : Entries) (then_ : List Unfinished)
        → TriesOnce o h s.one others on answer after then_
        → Interleaves o size scripts (settled standing session answer then_) after
    tried_noted on waits live answer after then_ tries =
        tries_settle o size scripts standing h session came flows s.one others here its on
        (sym s.of.waits_on ∙ waits d) (stand.active on.0 ∙ live) answer after then_ tries

-- ---- whole steps

module _ {R P Run : Type 0} (m : Means R P) (runs : RunMeans R Run) (old : Stage R Run) (keeper : R)
    (sessions : Sessions Run) (session : Session) (place : ℕ)
    (first : IsFirstAt (is_its session.0) old.sessions.pending.items place) where
  -- the statement of a session took a step
  pub step_turns : IsReleasedAt old.sessions.transactions old.sessions.pending.items place → (reply : Reply)
      → ((o : Opening) (h : Entries) (us : List Unfinished) (d : Pending Run)
      → StandAt m runs old.keeper o h old.sessions.transactions old.sessions.pending.items us
      → (s : SplitAt runs old.keeper o h old.sessions.pending.items place d us)
      → ComesTo m runs old.keeper keeper o h sessions.transactions sessions.pending.items
      (IsKept s.one.session s.one.transaction (s.before ++ s.behind) (Steps o h s.one.transaction s.one.course) reply))
      → TurnsSo m runs old keeper sessions session (Replied reply)
  step_turns released reply does o h us came stand =
      let d = some_one old.sessions.pending.items place first.inside in
      let s = split_at runs old.keeper o h old.sessions.pending.items place d us first.inside stand.agree in (
        its_line m runs old.keeper o h old.sessions.transactions old.sessions.pending.items us place d session first s
            stand old.size old.board.scripts.items (standing_of old.board us false) refl came refl,
        comes_as_by m runs old.keeper keeper o h sessions.transactions sessions.pending.items
            (IsKept s.one.session s.one.transaction (s.before ++ s.behind) (Steps o h s.one.transaction s.one.course) reply)
            (λ after then_. Interleaves o old.size old.board.scripts.items
            (settled (standing_of old.board us false) session (Replied reply) then_) after)
            (kept_noted m runs old.keeper o h old.sessions.transactions old.sessions.pending.items us place d session first
            s stand old.size old.board.scripts.items (standing_of old.board us false) refl came refl released reply)
            (does o h us d stand s),
      )

  -- it was tried once more
  pub try_turns : (on : TxNo) → WaitsAt old.sessions.transactions old.sessions.pending.items place on → (answer : Answered)
      → ((o : Opening) (h : Entries) (us : List Unfinished) (d : Pending Run)
      → StandAt m runs old.keeper o h old.sessions.transactions old.sessions.pending.items us
      → (s : SplitAt runs old.keeper o h old.sessions.pending.items place d us)
      → ComesTo m runs old.keeper keeper o h sessions.transactions sessions.pending.items
      (TriesOnce o h s.one (s.before ++ s.behind) on answer))
      → TurnsSo m runs old keeper sessions session answer
  try_turns on waits answer does o h us came stand =
      let d = some_one old.sessions.pending.items place first.inside in
      let s = split_at runs old.keeper o h old.sessions.pending.items place d us first.inside stand.agree in (
        its_line m runs old.keeper o h old.sessions.transactions old.sessions.pending.items us place d session first s
            stand old.size old.board.scripts.items (standing_of old.board us false) refl came refl,
        comes_as_by m runs old.keeper keeper o h sessions.transactions sessions.pending.items
            (TriesOnce o h s.one (s.before ++ s.behind) on answer)
            (λ after then_. Interleaves o old.size old.board.scripts.items
            (settled (standing_of old.board us false) session answer then_) after)
            (tried_noted m runs old.keeper o h old.sessions.transactions old.sessions.pending.items us place d session first
            s stand old.size old.board.scripts.items (standing_of old.board us false) refl came refl on waits.waits
            waits.live answer)
            (does o h us d stand s),
      )

-- a session has none of these statements
nowhere_free : {Run : Type 0} (s : ℕ) (ps : List (Pending Run)) → PassesNowhere (is_its s) ps → has_statement s ps ≡ false
nowhere_free s [] nowhere = refl
nowhere_free s (p ∷ ps) nowhere =
    ap (λ (b : Bool). b || has_statement s ps) (nowhere 0 p (omega arith))
    ∙ nowhere_free s ps (λ k d inside. nowhere (suc k) d (omega (arith, inside)))

module _ {R P Run : Type 0} (m : Means R P) (runs : RunMeans R Run) (old : Stage R Run) (session : Session)
    (nowhere : PassesNowhere (is_its session.0) old.sessions.pending.items) (line : Line)
    (next : slice_get (script_of old.board.scripts.items session.0) (get_or old.board.places.items session.0 0) ≡ Some line)
  where
    free_of : (o : Opening) (h : Entries) (us : List Unfinished)
        → StandAt m runs old.keeper o h old.sessions.transactions old.sessions.pending.items us → is_busy session us ≡ false
    free_of o h us stand = same_busy runs old.keeper o h session old.sessions.pending.items us stand.agree
        ∙ nowhere_free session.0 old.sessions.pending.items nowhere

    -- it took up its line
    pub take_turns : AreOwnLines old.board.scripts.items → (by : Session) (text : List ℕ) → line.kind ≡ kinds.Sql by text
        → (keeper : R) (sessions : Sessions Run) (reply : Reply)
        → ((o : Opening) (h : Entries) (us : List Unfinished)
        → StandAt m runs old.keeper o h old.sessions.transactions old.sessions.pending.items us
        → ComesTo m runs old.keeper keeper o h sessions.transactions sessions.pending.items
        (TakesUp o h old.size us session text reply))
        → TurnsSo m runs old keeper sessions session (Replied reply)
    take_turns own by text asks keeper sessions reply does o h us came stand = (
      slice_get_within (script_of old.board.scripts.items session.0) (get_or old.board.places.items session.0 0) line next,
      comes_as_by m runs old.keeper keeper o h sessions.transactions sessions.pending.items
          (TakesUp o h old.size us session text reply)
          (λ after then_. Interleaves o old.size old.board.scripts.items
          (settled (standing_of old.board us false) session (Replied reply) then_) after)
          (takes_up_settles o old.size old.board.scripts.items (standing_of old.board us false) h session came refl text
          (record { line = line; next = next; asks = asks ∙ ap (λ (x : Session). kinds.Sql x text) same })
          (free_of o h us stand) reply)
          (does o h us stand),
    )
      where
        same : by ≡ session
        same = session_as by session
            (subst (λ (k : LineKind). IsOwnLine session.0 k) asks
            (own session.0 (get_or old.board.places.items session.0 0) line next))

    -- it passed its line
    pub line_passed : line.kind ≡ kinds.Silent → CrashesHold m → (board : Board) → Passes old.board board session.0
        → old.board.stopped ≡ None → Comes m runs old (with_board old board)
    line_passed asks crashes board passes flows = record {
      reaches = λ o h us stands. record {
        after = h;
        then_ = us;
        stands = record {
          halted = false;
          flows = λ is. refl;
          came = subst (λ (scripts : Scripts). Interleaves o old.size scripts (standing_of board us false) h)
              (sym passes.scripts)
              (subst (λ (x : Standing). Interleaves o old.size old.board.scripts.items x h) (sym (noted us))
              (passes_rule (standing_of old.board us false) h session
              (subst (λ (b : Bool). Interleaves o old.size old.board.scripts.items (standing_of old.board us b) h)
              (stands.flows flows) stands.came) refl (record { line = line; next = next; asks = asks })
              (free_of o h us stands.stand)));
          stand = stands.stand;
        };
        carries = carries_none m crashes old.keeper o h stands.stand.stands;
      };
      accounts = subst (λ (r : Option Refusal). IsAccounted m runs r old (with_board old board)) (sym flows)
          (subst (λ (r : Option Refusal). Accounts m old.keeper old.keeper r) (sym (passes.stopped ∙ flows))
          (no_account m old.keeper None tt));
      scripts = passes.scripts;
      size = refl;
    }
      where
        inside : get_or old.board.places.items session.0 0 < length (script_of old.board.scripts.items session.0)
        inside = slice_get_within (script_of old.board.scripts.items session.0) (get_or old.board.places.items session.0 0)
            line next

        noted : (us : List Unfinished) → standing_of board us false ≡ passed (standing_of old.board us false) session
        noted us =
            let place = get_or old.board.places.items session.0 0 in
            let places = passes.places inside ∙ ap (λ (n : ℕ). set old.board.places.items session.0 n) (one_more place) in
            ap (λ (x : List ℕ × List (List Answered)).
            record { places = x.0; answers = x.1; pending = us; stopped = false })
            (λ i. (places i, passes.answers i))
