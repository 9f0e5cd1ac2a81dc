-- The pages of a tree as one list.
use Rattle.std.specs.Prelude.{◌≤◌, ℕ, List, length}
use Rattle.std.specs.List.{flat_map}
use Rattle.mg_node.specs.NodePage.{level_in}
use Rattle.mg_image.specs.Form.{Pages}
use Rattle.mg_image.specs.Indexes.{IsTree}
use Rattle.mg_image.specs.Tables.{IsOnce}

-- the pages of these levels, one level after another
abbrev pub all_of : List (List ℕ) → List ℕ
all_of levels = flat_map (λ level. level) levels

-- no page stands twice in a tree
abbrev pub TreesAreOnce : Type 0
TreesAreOnce = (size : ℕ) (pages : Pages) (owner root : ℕ) (levels : List (List ℕ))
    → IsTree size pages owner root levels → IsOnce (all_of levels)

-- No tree has more than 17 levels, so its root is on level 16 at most: each level has at least twice as many pages as
-- the one above, and a file has no more than 131,072.
abbrev pub TreesAreLow : Type 0
TreesAreLow = (size : ℕ) (pages : Pages) (owner root : ℕ) (levels : List (List ℕ))
    → IsTree size pages owner root levels → (length levels ≤ 17) × (level_in (pages root) ≤ 16)
