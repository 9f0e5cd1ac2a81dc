-- How far sessions have come that obey their scripts at once.
use Rattle.std.specs.Prelude.{◌≡◌, ℕ, suc, List, [], ◌∷◌, ◌++◌, Some, get_or, length, replicate, set, Bool, false}
use Rattle.std.specs.List.{slice_get}
use Rattle.mg_base.specs.declared.numbers.TxNo.{TxNo}
use Rattle.mg_script.specs.declared.line.Line.{Line}
use Rattle.mg_script.specs.declared.line.LineKind.{LineKind}
use Rattle.mg_script.specs.declared.line.Session.{Session}
use Rattle.mg_interleavings.specs.declared.answered.Answered.{Answered}
use Rattle.mg_interleavings.specs.declared.answered.Answered.TheVariants.{LockTimeout, Replied}
use Rattle.mg_transcript.specs.Courses.{Comes, Later, Parks, Ends}
use Rattle.mg_transcript.specs.Lines.{stops}
use Rattle.mg_transcript.specs.Sessions.{Unfinished, kept}

-- Scripts are lists of lines by session.
abbrev pub Scripts : Type 0
Scripts = List (List Line)

-- an answer by which the run stops
abbrev pub stops_at : Answered → Bool
stops_at (Replied reply) = stops reply
stops_at (LockTimeout on) = false

-- By session: how many lines it has passed, and what it was answered at them, the first one first. The statements that
-- have begun and are not at their end. And whether the run has stopped by the answer that came last.
pub record Standing : Type 0 where
  pub places : List ℕ
  pub answers : List (List Answered)
  pub pending : List Unfinished
  pub stopped : Bool

-- at the beginning no line is passed
abbrev pub at_start : Scripts → Standing
at_start scripts = record {
  places = replicate (length scripts) 0;
  answers = replicate (length scripts) [];
  pending = [];
  stopped = false;
}

abbrev pub script_of : Scripts → ℕ → List Line
script_of scripts s = get_or scripts s []

abbrev pub place_of : Standing → ℕ → ℕ
place_of standing s = get_or standing.places s 0

abbrev pub answers_of : Standing → ℕ → List Answered
answers_of standing s = get_or standing.answers s []

-- the next line of a session asks for this
pub record IsAt (scripts : Scripts) (standing : Standing) (session : Session) (kind : LineKind) : Type 0 where
  pub line : Line
  pub next : slice_get (script_of scripts session.0) (place_of standing session.0) ≡ Some line
  pub asks : line.kind ≡ kind

-- ---- what changes

-- other statements have begun
abbrev pub with_pending : Standing → List Unfinished → Standing
with_pending standing pending =
    record { places = standing.places; answers = standing.answers; pending = pending; stopped = standing.stopped }

-- a session passes a line that prints nothing
abbrev pub passed : Standing → Session → Standing
passed standing session = record {
  places = set standing.places session.0 (suc (place_of standing session.0));
  answers = standing.answers;
  pending = standing.pending;
  stopped = standing.stopped;
}

-- it is answered, and passes the line
abbrev pub answered : Standing → Session → Answered → Standing
answered standing session answer = record {
  places = set standing.places session.0 (suc (place_of standing session.0));
  answers = set standing.answers session.0 (answers_of standing session.0 ++ answer ∷ []);
  pending = standing.pending;
  stopped = stops_at answer;
}

-- its statement goes on by a later step, or is at its end; the others are as they were
abbrev pub came_to : Standing → List Unfinished → Session → TxNo → Comes → Standing
came_to standing others session t (Later course) = with_pending standing (kept session t (Later course) others)
came_to standing others session t (Parks on course) = with_pending standing (kept session t (Parks on course) others)
came_to standing others session t (Ends reply) = answered (with_pending standing others) session (Replied reply)

-- all sessions have passed all their lines
pub record AreAtEnd (scripts : Scripts) (standing : Standing) : Type 0 where
  pub passed_all : (s : ℕ) → place_of standing s ≡ length (script_of scripts s)
  pub none_begun : standing.pending ≡ []
