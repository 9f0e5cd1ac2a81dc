-- What always holds of how far sessions have come.
use Rattle.std.specs.Prelude.{◌≡◌, ℕ, zero, suc, ◌≤◌, Bool, true, false, List, [], ◌∷◌, Some, get_or, length, if◌then◌else◌}
use Rattle.std.specs.List.{slice_get}
use Rattle.mg_script.specs.declared.line.Line.{Line}
use Rattle.mg_script.specs.declared.line.LineKind.{LineKind}
use Rattle.mg_script.specs.declared.line.LineKind.TheVariants as kinds
use Rattle.mg_transcript.specs.Sessions.{Unfinished, is_busy}
use Rattle.mg_interleavings.specs.Standings.{Scripts, Standing, answers_of, place_of, script_of}

-- a line is a statement of a session, and is answered
abbrev pub speaks : LineKind → Bool
speaks (kinds.Sql session text) = true
speaks kind = false

-- how many of the first lines are so
abbrev pub said_of : List Line → ℕ → ℕ
said_of lines zero = 0
said_of [] (suc place) = 0
said_of (line ∷ lines) (suc place) =
    if speaks line.kind then suc (said_of lines place) else said_of lines place

-- the line at this place is so
pub record Says (lines : List Line) (place : ℕ) : Type 0 where
  pub line : Line
  pub next : slice_get lines place ≡ Some line
  pub said : speaks line.kind ≡ true

-- each of these statements is that of its session's next line, and no two are of one session
pub data AreBegun (scripts : Scripts) (places : List ℕ) : List Unfinished → Type 0 where
  none_begun : AreBegun scripts places []
  one_begun : (u : Unfinished) (us : List Unfinished) → Says (script_of scripts u.session.0) (get_or places u.session.0 0)
      → is_busy u.session us ≡ false → AreBegun scripts places us → AreBegun scripts places (u ∷ us)

-- Each session is at a line of its script, or behind the last one; it has been answered once for each of its statements
-- that it has passed; and statements that have begun are those of next lines.
pub record Keeps (scripts : Scripts) (standing : Standing) : Type 0 where
  pub places_long : length standing.places ≡ length scripts
  pub answers_long : length standing.answers ≡ length scripts
  pub within : (s : ℕ) → place_of standing s ≤ length (script_of scripts s)
  pub each : (s : ℕ) → length (answers_of standing s) ≡ said_of (script_of scripts s) (place_of standing s)
  pub begun : AreBegun scripts standing.places standing.pending
