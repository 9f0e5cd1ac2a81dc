-- Each session is at a line of its script, or behind the last one.
use Rattle.std.specs.Prelude.{ℕ, ◌≤◌, length}
use Rattle.mg_model.specs.declared.opening.Opening.{Opening}
use Rattle.mg_model.specs.History.{Entries}
use Rattle.mg_interleavings.specs.Interleavings.{Interleaves}
use Rattle.mg_interleavings.specs.Standings.{Scripts, Standing, place_of, script_of}

abbrev pub PlacesAreWithin : Type 0
PlacesAreWithin = (o : Opening) (size : ℕ) (scripts : Scripts) (standing : Standing) (h : Entries)
    → Interleaves o size scripts standing h → (s : ℕ) → place_of standing s ≤ length (script_of scripts s)
