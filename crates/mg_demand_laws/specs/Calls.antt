-- Several trees that stand and are wanted, and what the parts of a batch pay that leave them so.
use Rattle.std.specs.Prelude.{◌≡◌, ℕ, Bool, List, [], ◌∷◌}
use Rattle.mg_careful.specs.declared.links.Demand.{Demand}
use Rattle.mg_careful.specs.Precedence.{Orders}
use Rattle.mg_careful.specs.CarefulWrite.{DemandSet, either, listed}
use Rattle.mg_image.specs.Form.{Pages}
use Rattle.mg_tree_overlay_laws.specs.TreeSteps.{InTree}
use Rattle.mg_demand_laws.specs.Wanting.{Pays}
use Rattle.mg_demand_laws.specs.Taken.{StandsWanted}

-- an index tree: the owner of its table, its root, and its levels
pub record TreeAt : Type 0 where
  pub owner : ℕ
  pub root : ℕ
  pub levels : List (List ℕ)

-- the tree with other levels
abbrev pub grown_to : TreeAt → List (List ℕ) → TreeAt
grown_to t ends = record { owner = t.owner; root = t.root; levels = ends }

-- each of these trees stands, and its pages are wanted
abbrev pub EachStands : ℕ → Pages → DemandSet → List TreeAt → Type 0
EachStands size pages wanted [] = Unit {0}
EachStands size pages wanted (t ∷ ts) =
    StandsWanted size pages t.owner t.root t.levels wanted × EachStands size pages wanted ts

-- no page of these trees changes
abbrev pub EachStays : Pages → Pages → List TreeAt → Type 0
EachStays old new [] = Unit {0}
EachStays old new (t ∷ ts) = ((n : ℕ) → InTree t.levels n → new n ≡ old n) × EachStays old new ts

-- A part of a batch pays for what it newly wants, and behind it these trees stand and are wanted.
pub record PaysTrees (size : ℕ) (old new : Pages) (ends : List TreeAt) (orders : Orders) (settled : ℕ → Bool)
    (on_disk wanted : DemandSet) : Type 0 where
  pub more : List Demand
  pub pays : Pays size old new orders settled on_disk wanted (listed more)
  pub stand : EachStands size new (either wanted (listed more)) ends
