-- What a board of sessions says, and how it changes.
use Rattle.std.specs.Prelude.{◌≡◌, ◌<◌, ◌≤◌, ◌+◌, ℕ, Bool, true, false, List, [], ◌∷◌, ◌++◌, None, get_or, length, map, replicate, set, vec_len, vec_capacity}
use Rattle.std.specs.declared.vec.Vec.{Vec}
use Rattle.std.specs.declared.alloc.Global.{Global}
use Rattle.mg_interleavings.specs.declared.answered.Answered.{Answered}
use Rattle.mg_interleavings.specs.Standings.{Standing, script_of}
use Rattle.mg_transcript.specs.Sessions.{Unfinished}
use Rattle.mg_floor.specs.declared.board.Board.{Board}
use Rattle.mg_floor.specs.Answering.{stop_behind}

-- the answers by session
abbrev pub lists : List (Vec Answered Global) → List (List Answered)
lists vs = map (λ (v : Vec Answered Global). v.items) vs

-- there is room for one answer more of a session
abbrev pub HasRoom : Board → ℕ → Type 0
HasRoom b s = (d : Vec Answered Global) → vec_len (get_or b.answers.items s d) < vec_capacity (get_or b.answers.items s d)

-- each session has its place and its answers
pub record IsBoard (b : Board) : Type 0 where
  pub places : length b.places.items ≡ length b.scripts.items
  pub answers : length b.answers.items ≡ length b.scripts.items

-- no line is passed
pub record IsAtStart (b : Board) : Type 0 where
  pub places : b.places.items ≡ replicate (length b.scripts.items) 0
  pub answers : lists b.answers.items ≡ replicate (length b.scripts.items) []
  pub stopped : b.stopped ≡ None

-- each session has passed all lines of its script
abbrev pub AreAllPassed : Board → Type 0
AreAllPassed b = (k : ℕ) → k < length b.scripts.items
    → length (script_of b.scripts.items k) ≤ get_or b.places.items k 0

-- how far the sessions have come, where these statements have begun
abbrev pub standing_of : Board → List Unfinished → Bool → Standing
standing_of b us halted =
    record { places = b.places.items; answers = lists b.answers.items; pending = us; stopped = halted }

-- room was made, and nothing else
pub record Stays (old new : Board) : Type 0 where
  pub scripts : new.scripts.items ≡ old.scripts.items
  pub places : new.places.items ≡ old.places.items
  pub answers : lists new.answers.items ≡ lists old.answers.items
  pub stopped : new.stopped ≡ old.stopped

-- a session has passed a line
pub record Passes (old new : Board) (s : ℕ) : Type 0 where
  pub scripts : new.scripts.items ≡ old.scripts.items
  pub places : get_or old.places.items s 0 < length (script_of old.scripts.items s)
      → new.places.items ≡ set old.places.items s (get_or old.places.items s 0 + 1)
  pub answers : lists new.answers.items ≡ lists old.answers.items
  pub stopped : new.stopped ≡ old.stopped

-- the places, where a session passes its line unless a statement of it goes on later
abbrev pub moved : ℕ → Bool → List ℕ → List ℕ
moved s true places = places
moved s false places = set places s (get_or places s 0 + 1)

-- the answers, where it is answered at it
abbrev pub told_more : ℕ → Bool → Answered → List (List Answered) → List (List Answered)
told_more s true answer answers = answers
told_more s false answer answers = set answers s (get_or answers s [] ++ answer ∷ [])

-- A session has made a step. Unless a statement of it goes on later, it is answered, and passes its line.
pub record Settles (old new : Board) (s : ℕ) (busy : Bool) (answer : Answered) : Type 0 where
  pub scripts : new.scripts.items ≡ old.scripts.items
  pub places : get_or old.places.items s 0 < length (script_of old.scripts.items s)
      → new.places.items ≡ moved s busy old.places.items
  pub answers : lists new.answers.items ≡ told_more s busy answer (lists old.answers.items)
  pub stopped : new.stopped ≡ stop_behind answer
