-- No step, one behind another, and what leaves the history as it is.
use Rattle.std.proofs.Common.{◌≡◌, ◌≤◌, length, ℕ, Bool, false, List, Option, Some, None, refl, sym, ap, ◌∙◌, subst}
use Rattle.mg_model.specs.declared.opening.Opening.{Opening}
use Rattle.mg_model.specs.declared.refusal.Refusal.{Refusal}
use Rattle.mg_model.specs.declared.refusal.Refusal.TheVariants as refusals
use Rattle.mg_model.specs.History.{Entries}
use Rattle.mg_records.specs.Crashing.{CrashesHold, HoldsOn, LeavesQuietly}
use Rattle.mg_records.specs.Keeping.{FaultsAreTold, MeetsNoDamage, Reads}
use Rattle.mg_records.specs.Meaning.{Means}
use Rattle.mg_records.specs.Sessions.{SessionsStay}
use Rattle.mg_script.specs.declared.line.TheConstants.{SESSIONS}
use Rattle.mg_transcript.specs.Sessions.{Unfinished}
use Rattle.mg_interleavings.specs.declared.answered.Answered.{Answered}
use Rattle.mg_interleavings.specs.Interleavings.{Interleaves}
use Rattle.mg_interleavings.specs.Standings.{Scripts, Standing}
use Rattle.mg_calls.specs.Frames.{Frames}
use Rattle.mg_calls.specs.FrameLaws.{frames_reads_nothing}
use Rattle.mg_courses.specs.BesideLaws.{WorksStayAt, WorksStayReady}
use Rattle.mg_courses.specs.Carrying.{Carries}
use Rattle.mg_courses.specs.CarryLaws.{carries_none, carries_read, carries_then}
use Rattle.mg_courses.specs.Running.{RunMeans}
use Rattle.mg_pending.specs.BeginLaws.{alone_at_all, stays_ready, stays_stand}
use Rattle.mg_sessions.specs.AccountLaws.{account_after, account_of, no_account}
use Rattle.mg_sessions.specs.Accounts.{Accounts}
use Rattle.mg_floor.specs.declared.board.Board.{Board}
use Rattle.mg_floor.specs.declared.stage.Stage.{Stage}
use Rattle.mg_floor.specs.Boards.{IsBoard, Stays, standing_of}
use Rattle.mg_floor.specs.Coming.{Comes, IsAccounted, IsStage, Reaches, Stands}
use Rattle.mg_floor.specs.Scripts.{AreOwnLines}

-- a stage with another board
abbrev pub with_board : {R Run : Type 0} → Stage R Run → Board → Stage R Run
with_board s board = record { keeper = s.keeper; size = s.size; sessions = s.sessions; board = board }

-- with another keeper too
abbrev pub with_keeper : {R Run : Type 0} → Stage R Run → R → Board → Stage R Run
with_keeper s keeper board = record { keeper = keeper; size = s.size; sessions = s.sessions; board = board }

-- the board with the refusal by which the run stops, if there is one
abbrev pub stopped_with : Board → Option Refusal → Board
stopped_with board refusal =
    record { scripts = board.scripts; places = board.places; answers = board.answers; stopped = refusal }

-- the board stays, as far as histories go
standing_stays : (old new : Board) (us : List Unfinished) (halted : Bool) → Stays old new
    → standing_of new us halted ≡ standing_of old us halted
standing_stays old new us halted stays =
    ap (λ (x : List ℕ × List (List Answered)). record { places = x.0; answers = x.1; pending = us; stopped = halted })
    (λ i. (stays.places i, stays.answers i))

module _ {R P Run : Type 0} (m : Means R P) (runs : RunMeans R Run) where
  -- ---- nothing is done

  still_accounted : (s : Stage R Run) (x : Option Refusal) → s.board.stopped ≡ x → IsAccounted m runs x s s
  still_accounted s None is =
      subst (λ (r : Option Refusal). Accounts m s.keeper s.keeper r) (sym is) (no_account m s.keeper None tt)
  still_accounted s (Some refusal) is = (refl, refl)

  pub comes_still : CrashesHold m → (s : Stage R Run) → Comes m runs s s
  comes_still crashes s = record {
    reaches = λ o h us stands. record {
      after = h;
      then_ = us;
      stands = stands;
      carries = carries_none m crashes s.keeper o h stands.stand.stands;
    };
    accounts = still_accounted s s.board.stopped refl;
    scripts = refl;
    size = refl;
  }

  -- ---- one behind another

  accounted_on : (a b c : Stage R Run) (y : Option Refusal) → b.board.stopped ≡ y
      → Accounts m a.keeper b.keeper b.board.stopped → IsAccounted m runs y b c
      → Accounts m a.keeper c.keeper c.board.stopped
  accounted_on a b c None is first second =
      account_after m a.keeper b.keeper c.keeper c.board.stopped
      (subst (λ (r : Option Refusal). Accounts m a.keeper b.keeper r) is first) second
  accounted_on a b c (Some refusal) is first second =
      subst (λ (r : Option Refusal). Accounts m a.keeper c.keeper r) (sym second.1)
      (subst (λ (k : R). Accounts m a.keeper k b.board.stopped) (sym second.0) first)

  pub comes_on : HoldsOn m → (a b c : Stage R Run) → Comes m runs a b → Comes m runs b c → Comes m runs a c
  comes_on lasts a b c first second = record {
    reaches = λ o h us stands.
        let one = first.reaches o h us stands in
        let two = second.reaches o one.after one.then_ one.stands in
        record {
          after = two.after;
          then_ = two.then_;
          stands = two.stands;
          carries = carries_then m lasts a.keeper b.keeper c.keeper o h one.after two.after one.carries two.carries;
        };
    accounts = at a.board.stopped b.board.stopped first.accounts second.accounts refl refl;
    scripts = second.scripts ∙ first.scripts;
    size = second.size ∙ first.size;
  }
    where
      at : (x y : Option Refusal) → IsAccounted m runs x a b → IsAccounted m runs y b c → a.board.stopped ≡ x
          → b.board.stopped ≡ y → IsAccounted m runs x a c
      at None y one two x_is y_is = accounted_on a b c y y_is one two
      at (Some before) None one two x_is y_is = absurd (cc (sym x_is ∙ sym one.1 ∙ y_is))
      at (Some before) (Some refusal) one two x_is y_is = (two.0 ∙ one.0, two.1 ∙ one.1)

  -- ---- the board alone has changed

  pub board_stays : CrashesHold m → (s : Stage R Run) (board : Board) → Stays s.board board
      → Comes m runs s (with_board s board)
  board_stays crashes s board stays = record {
    reaches = λ o h us stands. record {
      after = h;
      then_ = us;
      stands = record {
        halted = stands.halted;
        flows = λ is. stands.flows (sym stays.stopped ∙ is);
        came = subst (λ (scripts : Scripts). Interleaves o s.size scripts (standing_of board us stands.halted) h)
            (sym stays.scripts)
            (subst (λ (x : Standing). Interleaves o s.size s.board.scripts.items x h)
            (sym (standing_stays s.board board us stands.halted stays)) stands.came);
        stand = stands.stand;
      };
      carries = carries_none m crashes s.keeper o h stands.stand.stands;
    };
    accounts = at s.board.stopped refl;
    scripts = stays.scripts;
    size = refl;
  }
    where
      at : (x : Option Refusal) → s.board.stopped ≡ x → IsAccounted m runs x s (with_board s board)
      at None is =
          subst (λ (r : Option Refusal). Accounts m s.keeper s.keeper r) (sym (stays.stopped ∙ is))
          (no_account m s.keeper None tt)
      at (Some refusal) is = (refl, stays.stopped)

  pub stage_stays : (s : Stage R Run) (board : Board) → Stays s.board board → IsBoard board → IsStage m runs s
      → IsStage m runs (with_board s board)
  stage_stays s board stays is stage = record {
    ready = stage.ready;
    sized = stage.sized;
    board = is;
    own = subst (λ (scripts : Scripts). AreOwnLines scripts) (sym stays.scripts) stage.own;
    few = subst (λ (scripts : Scripts). length scripts ≤ SESSIONS) (sym stays.scripts) stage.few;
  }

  -- ---- the run stops, or a page is written

  -- the same history, by another keeper and a run that may have stopped
  reaches_still : (s : Stage R Run) (keeper : R) (board : Board) (refusal : Option Refusal)
      → ((o : Opening) (h : Entries) → m.stands s.keeper o h → m.stands keeper o h × Carries m s.keeper keeper o h h)
      → ((n : ℕ) → Frames m s.keeper keeper n refusal) → WorksStayAt m runs
      → board.scripts.items ≡ s.board.scripts.items → ((us : List Unfinished) (halted : Bool)
      → standing_of board us halted ≡ standing_of s.board us halted)
      → ((halted : Bool) → (s.board.stopped ≡ None → halted ≡ false) → board.stopped ≡ None → halted ≡ false)
      → (o : Opening) (h : Entries) (us : List Unfinished) → Stands m runs s o h us
      → Reaches m runs s (with_keeper s keeper board) o h
  reaches_still s keeper board refusal goes frames still scripts same flows o h us stands =
      let gone = goes o h stands.stand.stands in record {
        after = h;
        then_ = us;
        stands = record {
          halted = stands.halted;
          flows = flows stands.halted stands.flows;
          came = subst (λ (x : Scripts). Interleaves o s.size x (standing_of board us stands.halted) h) (sym scripts)
              (subst (λ (x : Standing). Interleaves o s.size s.board.scripts.items x h)
              (sym (same us stands.halted)) stands.came);
          stand = stays_stand m runs s.keeper keeper s.sessions.transactions refusal frames o h h
              s.sessions.pending.items us still (alone_at_all h) gone.0 stands.stand.legal stands.stand;
        };
        carries = gone.1;
      }

  module _ (lasts : HoldsOn m) (still : WorksStayAt m runs) (ready_still : WorksStayReady m runs) (s : Stage R Run)
      (keeper : R) (refusal : Option Refusal) (flows : s.board.stopped ≡ None)
      (reads : Reads m s.keeper keeper refusal None) (told : FaultsAreTold m s.keeper keeper refusal)
      (undamaged : MeetsNoDamage m s.keeper keeper) (crash : LeavesQuietly m s.keeper keeper)
      (stay : SessionsStay m s.keeper keeper None None) where
    frames : (n : ℕ) → Frames m s.keeper keeper n refusal
    frames n = frames_reads_nothing m s.keeper keeper n refusal reads told

    -- a call that only reads, and stops the run where it is refused
    pub read_comes : Comes m runs s (with_keeper s keeper (stopped_with s.board refusal))
    read_comes = record {
      reaches = reaches_still s keeper (stopped_with s.board refusal) refusal
          (λ o h stands. (
            reads.stays o h stands,
            carries_read m lasts s.keeper keeper o h refusal None stands reads undamaged crash,
          ))
          frames still refl (λ us halted. refl) (λ halted was is. was flows);
      accounts = subst (λ (r : Option Refusal). IsAccounted m runs r s (with_keeper s keeper (stopped_with s.board refusal)))
          (sym flows) (account_of m s.keeper keeper 0 refusal (frames 0));
      scripts = refl;
      size = refl;
    }

    pub read_ready : IsStage m runs s → IsStage m runs (with_keeper s keeper (stopped_with s.board refusal))
    read_ready stage = record {
      ready = stays_ready m runs s.keeper keeper s.sessions.transactions refusal frames s.sessions.pending.items
          ready_still stay stage.ready;
      sized = reads.keeps.sizes s.size ∙ stage.sized;
      board = record { places = stage.board.places; answers = stage.board.answers };
      own = stage.own;
      few = stage.few;
    }

  -- the run stops for want of memory
  pub stop_comes : CrashesHold m → (s : Stage R Run) → s.board.stopped ≡ None
      → Comes m runs s (with_board s (stopped_with s.board (Some refusals.Memory)))
  stop_comes crashes s flows = record {
    reaches = λ o h us stands. record {
      after = h;
      then_ = us;
      stands = record {
        halted = stands.halted;
        flows = λ is. stands.flows flows;
        came = stands.came;
        stand = stands.stand;
      };
      carries = carries_none m crashes s.keeper o h stands.stand.stands;
    };
    accounts = subst (λ (r : Option Refusal).
        IsAccounted m runs r s (with_board s (stopped_with s.board (Some refusals.Memory)))) (sym flows)
        (no_account m s.keeper (Some refusals.Memory) tt);
    scripts = refl;
    size = refl;
  }

  pub stop_ready : (s : Stage R Run) → IsStage m runs s
      → IsStage m runs (with_board s (stopped_with s.board (Some refusals.Memory)))
  stop_ready s stage = record {
    ready = stage.ready;
    sized = stage.sized;
    board = record { places = stage.board.places; answers = stage.board.answers };
    own = stage.own;
    few = stage.few;
  }
