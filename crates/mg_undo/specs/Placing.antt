-- Changes, and the places of their keys.
use Rattle.std.specs.Prelude.{◌≡◌, ℕ, List, [], ◌∷◌, map}
use Rattle.mg_sortkey.specs.KeyBytes.{key_bytes}
use Rattle.mg_sortkey.specs.KeyOrder.{HasRange}
use Rattle.mg_undo.specs.declared.changes.Change.{Change}

-- the place of a change
abbrev pub spot_in : Change → ℕ × List ℕ
spot_in change = (change.table, key_bytes change.key)

-- each number among the keys has 64 bits
abbrev pub HaveRange : List Change → Type 0
HaveRange [] = Unit {0}
HaveRange (c ∷ cs) = HasRange c.key × HaveRange cs

-- the places are those of the changes
pub record ArePlaced (changes : List Change) (spots : List (ℕ × List ℕ)) : Type 0 where
  pub places : spots ≡ map spot_in changes
  pub ranges : HaveRange changes
