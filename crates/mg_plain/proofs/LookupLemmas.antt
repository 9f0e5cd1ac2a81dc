-- The newest change of a key, in one list of changes before another.
use Rattle.std.proofs.Common.{◌≡◌, ℕ, Bool, true, false, List, [], ◌∷◌, ◌++◌, Some, None, refl, cond}
use Rattle.mg_value.specs.declared.value.Value.{Value}
use Rattle.mg_model.specs.declared.change.Change.{Change}
use Rattle.mg_model.specs.Changes.{is_at, row_at}
use Rattle.mg_plain.specs.Lookups.{change_at, row_of}

-- a change in the front decides
pub change_in_front : (front rest : List Change) (table : List ℕ) (key : Value) (c : Change)
    → change_at front table key ≡ Some c → change_at (front ++ rest) table key ≡ Some c
change_in_front [] rest table key c found = absurd cc
change_in_front (x ∷ front) rest table key c found =
    at (is_at x table key) (change_in_front front rest table key c) found
  where
    at : (b : Bool)
        → (change_at front table key ≡ Some c → change_at (front ++ rest) table key ≡ Some c)
        → cond b (Some x) (change_at front table key) ≡ Some c
        → cond b (Some x) (change_at (front ++ rest) table key) ≡ Some c
    at true more is = is
    at false more is = more is

-- where the front has none, the rest decides
pub change_behind : (front rest : List Change) (table : List ℕ) (key : Value)
    → change_at front table key ≡ None
    → change_at (front ++ rest) table key ≡ change_at rest table key
change_behind [] rest table key none = refl
change_behind (x ∷ front) rest table key none =
    at (is_at x table key) (change_behind front rest table key) none
  where
    at : (b : Bool)
        → (change_at front table key ≡ None
        → change_at (front ++ rest) table key ≡ change_at rest table key)
        → cond b (Some x) (change_at front table key) ≡ None
        → cond b (Some x) (change_at (front ++ rest) table key) ≡ change_at rest table key
    at true more is = absurd cc
    at false more is = more is

-- the row at a key is that of its newest change
pub row_at-change_at : (cs : List Change) (table : List ℕ) (key : Value)
    → row_at cs table key ≡ row_of (change_at cs table key)
row_at-change_at [] table key = refl
row_at-change_at (c ∷ cs) table key = at (is_at c table key) (row_at-change_at cs table key)
  where
    at : (b : Bool) → row_at cs table key ≡ row_of (change_at cs table key)
        → cond b c.row (row_at cs table key)
        ≡ row_of (cond b (Some c) (change_at cs table key))
    at true more = refl
    at false more = more
