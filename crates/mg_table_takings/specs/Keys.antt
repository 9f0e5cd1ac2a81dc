-- Which rows of the catalog are taken back.
use Rattle.std.specs.Prelude.{◌≡◌, ◌==◌, ℕ, true, List, [], ◌∷◌, if◌then◌else◌}
use Rattle.mg_value.specs.declared.value.Value.{Value}
use Rattle.mg_undo.specs.Undo.{State as Undo, TakesBack}
use Rattle.mg_undo.specs.declared.changes.Change.{Change}

-- the keys of those changes that are of the table that begins at a page, in turn
abbrev pub keys_of : ℕ → List Change → List Value
keys_of number [] = []
keys_of number (c ∷ cs) = if c.table == number then c.key ∷ keys_of number cs else keys_of number cs

-- the changes of all other tables
abbrev pub others_of : ℕ → List Change → List Change
others_of number [] = []
others_of number (c ∷ cs) = if c.table == number then others_of number cs else c ∷ others_of number cs

-- the keys of a table that are given from a list on
abbrev pub AreKeysGiven : ℕ → Undo → List Value → Type 0
AreKeysGiven number undo keys = (given : List Change) (end : Undo) → TakesBack undo given end
    → keys ≡ keys_of number given
