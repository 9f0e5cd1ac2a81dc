-- What a step of a session comes to, over the keeper, the sessions and the board together.
use Rattle.std.specs.Prelude.{◌≡◌, ◌≤◌, Bool, true, false, List, [], Option, Some, None, length}
use Rattle.mg_model.specs.declared.opening.Opening.{Opening}
use Rattle.mg_model.specs.declared.refusal.Refusal.{Refusal}
use Rattle.mg_model.specs.History.{Entries}
use Rattle.mg_records.specs.Meaning.{Means}
use Rattle.mg_script.specs.declared.line.TheConstants.{SESSIONS}
use Rattle.mg_transcript.specs.Sessions.{Unfinished}
use Rattle.mg_interleavings.specs.Interleavings.{Interleaves}
use Rattle.mg_courses.specs.Carrying.{Carries}
use Rattle.mg_courses.specs.Running.{RunMeans}
use Rattle.mg_pending.specs.Standing.{AreReady, StandAt}
use Rattle.mg_sessions.specs.Accounts.{Accounts}
use Rattle.mg_floor.specs.declared.stage.Stage.{Stage}
use Rattle.mg_floor.specs.Boards.{AreAllPassed, IsBoard, standing_of}
use Rattle.mg_floor.specs.Scripts.{AreOwnLines}

-- each session has passed all lines of its script, and none has a statement begun
pub record HavePassed {R Run : Type 0} (s : Stage R Run) : Type 0 where
  pub passed : AreAllPassed s.board
  pub none_begun : s.sessions.pending.items ≡ []

module _ {R P Run : Type 0} (m : Means R P) (runs : RunMeans R Run) where
  -- The keeper and the sessions are ready for each other; there is a script for each of at most sixteen sessions, with
  -- lines of its own.
  pub record IsStage (s : Stage R Run) : Type 0 where
    pub ready : AreReady m runs s.keeper s.sessions.transactions s.sessions.pending.items
    pub sized : m.is_size s.keeper s.size ≡ true
    pub board : IsBoard s.board
    pub own : AreOwnLines s.board.scripts.items
    pub few : length s.board.scripts.items ≤ SESSIONS

  -- A stage stands for a history: the keeper does, these statements are the unfinished ones, and the history is that of
  -- sessions that have come so far in their scripts. It has come past no answer by which the run stops, if the stage has
  -- not stopped.
  pub record Stands (s : Stage R Run) (o : Opening) (h : Entries) (us : List Unfinished) : Type 0 where
    pub halted : Bool
    pub flows : s.board.stopped ≡ None → halted ≡ false
    pub came : Interleaves o s.size s.board.scripts.items (standing_of s.board us halted) h
    pub stand : StandAt m runs s.keeper o h s.sessions.transactions s.sessions.pending.items us

  -- from a history on it has come to stand for a longer one, and no crash loses what was durable
  pub record Reaches (old new : Stage R Run) (o : Opening) (h : Entries) : Type 0 where
    pub after : Entries
    pub then_ : List Unfinished
    pub stands : Stands new o after then_
    pub carries : Carries m old.keeper new.keeper o h after

  -- The refusal by which the run has stopped since has its cause in the keeper's counts. Where it had stopped before,
  -- the keeper is as it was.
  abbrev pub IsAccounted : Option Refusal → Stage R Run → Stage R Run → Type 0
  IsAccounted None old new = Accounts m old.keeper new.keeper new.board.stopped
  IsAccounted (Some refusal) old new = (new.keeper ≡ old.keeper) × (new.board.stopped ≡ old.board.stopped)

  -- A served step: each history for which the stage stood has gone on to one for which it stands now; scripts stay.
  pub record Comes (old new : Stage R Run) : Type 0 where
    pub reaches : (o : Opening) (h : Entries) (us : List Unfinished) → Stands old o h us → Reaches old new o h
    pub accounts : IsAccounted old.board.stopped old new
    pub scripts : new.board.scripts.items ≡ old.board.scripts.items
    pub size : new.size ≡ old.size
