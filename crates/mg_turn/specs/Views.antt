-- What a seat knows, and how it changes.
use Rattle.std.specs.Prelude.{ℕ, ◌+◌, ◌-◌, List, [], ◌∷◌, ◌++◌, length, zero, suc, Some, None}
use Rattle.mg_turn.specs.declared.rule.Entry.{Entry}
use Rattle.mg_turn.specs.declared.rule.Gathered.{Gathered}
use Rattle.mg_turn.specs.declared.rule.View.{View}
use Rattle.mg_turn.specs.declared.served.End.{End}
use Rattle.mg_turn.specs.Histories.{entry}

-- the first of two lists at 0, else the second
abbrev pub longer_by : {A : Type 0} → ℕ → List A → List A → List A
longer_by zero xs ys = xs
longer_by (suc n) xs ys = ys

-- the longer of two lists, the first where none is
abbrev pub longer : {A : Type 0} → List A → List A → List A
longer xs ys = longer_by (length ys - length xs) xs ys

module _ {V C R : Type 0} where
  -- the first seat, before it has its name
  abbrev pub newcomer : V → ℕ → View V C R
  newcomer value first = record {
    from = Some value;
    start = first;
    name = 0;
    seen = [];
    mine = [];
    gathered = [];
    known = [];
    phase = 0;
    number = 0;
    live = 1;
    parent = 0;
    children = 0;
  }

  -- with its name
  abbrev pub named : ℕ → View V C R → View V C R
  named n v = record v { name = n }

  -- with a ticket
  abbrev pub waiting : ℕ → View V C R → View V C R
  waiting number v = record v { phase = 1; number = number }

  -- with the value, after this history
  abbrev pub holding : List (Entry C R) → View V C R → View V C R
  holding log v = record v { seen = log; phase = 2 }

  -- its call has been served, at the end of what it saw
  abbrev pub served_one : C → R → View V C R → View V C R
  served_one call reply v = record v { seen = entry v.name call reply ∷ v.seen; mine = entry v.name call reply ∷ v.mine; phase = 0; number = 0 }

  -- it knows an end more
  abbrev pub knowing : ℕ → End → View V C R → View V C R
  knowing t end v = record v { known = (t, end) ∷ v.known }

  -- one seat more was split from it
  abbrev pub with_child : View V C R → View V C R
  with_child v = record v { children = v.children + 1 }

  -- the seat that is split from it: it has seen and knows as much
  abbrev pub child_of : View V C R → View V C R
  child_of v = record v { name = 0; mine = []; gathered = []; phase = 0; number = 0; live = 1; parent = v.name; children = 0 }

  -- all its calls, as they are gathered by the seat to which it is joined
  abbrev pub calls_of : View V C R → Gathered C R
  calls_of w = record { name = w.name; entries = w.mine }

  -- it has seen the longer of what both had seen, and knows what both knew
  abbrev pub joined_with : View V C R → View V C R → View V C R
  joined_with v w = record v { seen = longer v.seen w.seen; gathered = calls_of w ∷ (w.gathered ++ v.gathered); known = w.known ++ v.known; children = v.children - 1 }

  -- it was joined to another, and knows nothing any more
  abbrev pub gone : View V C R
  gone = record { from = None; start = 0; name = 0; seen = []; mine = []; gathered = []; known = []; phase = 0; number = 0; live = 0; parent = 0; children = 0 }
