-- What the root of a tree tells.
use Rattle.std.specs.Prelude.{◌≡◌, ℕ, Result, Ok, Err}
use Rattle.mg_node.specs.NodePage.{level_in}
use Rattle.mg_image.specs.Form.{Pages}
use Rattle.mg_space.specs.declared.fault.SpaceFault.{SpaceFault}
use Rattle.mg_space.specs.declared.fault.SpaceFault.TheVariants.{Full, Pool as OfPool, Damaged as OfPage}
use Rattle.mg_btree.specs.declared.root.Root.{Root}

-- the root of a tree is there, and tells whose tree it is, and on which level the root stands
abbrev pub IsRootOf : Pages → ℕ → ℕ → Result Root SpaceFault → Type 0
IsRootOf pages owner n (Ok root) =
    (root.page.0 ≡ n) × (root.owner ≡ owner) × (root.level ≡ level_in (pages n))
IsRootOf pages owner n (Err (Full limit)) = ⊥
IsRootOf pages owner n (Err (OfPage damage)) = ⊥
IsRootOf pages owner n (Err (OfPool fault)) = Unit {0}
