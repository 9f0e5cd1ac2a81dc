-- How a row of steps comes by its new pages: each is taken by the page inventory, and gets its content, before the
-- tree has it.
use Rattle.std.specs.Prelude.{◌≡◌, ◌⊎◌, ◌<◌, ℕ, List, ◌∷◌, Option, length}
use Rattle.mg_base.specs.declared.geometry.Geometry.{Geometry}
use Rattle.mg_careful.specs.Precedence.{Orders}
use Rattle.mg_image.specs.Form.{Pages}
use Rattle.mg_image.specs.Tables.{Has}
use Rattle.mg_node.specs.NodePage.{level_in}
use Rattle.mg_space.specs.Taking.{TakesPage}
use Rattle.mg_tree_overlay_laws.specs.TreeSteps.{InTree, Rewrites, grow_levels, split_levels}
use Rattle.mg_tree_overlay_laws.specs.TreeBatches.{ChangesTree, EntryChange, beside, done, grows, inventory_of, leaf, splits}

-- By a page n of the page inventory a page is taken, which stands on one of these levels.
pub record TakesForTree (g : Geometry) (old new : Pages) (n : ℕ) (at_end : List (List ℕ)) : Type 0 where
  pub page : ℕ
  pub takes : TakesPage g old new page
  pub marks : inventory_of g.size page ≡ n
  pub placed : InTree at_end page

-- a page was taken, and is none of these levels yet
abbrev pub IsTakenFor : List ℕ → List (List ℕ) → ℕ → Type 0
IsTakenFor taken levels n = Has taken n × (InTree levels n → ⊥)

-- Each step of a row leaves contents one page long. Of the pages beside the tree one changes either as a page of the
-- page inventory, by which a page is taken that the tree has at its end; or as one that was taken so before. A
-- page that splits shares its entries with a page that was taken, and so does a root with two, which stands below the
-- highest level. A leaf that changes is one of the tree.
abbrev pub TakesItsPages : (g : Geometry) (owner root : ℕ) (batch : ℕ → Option (List ℕ)) (orders : Orders)
    (change : EntryChange) (pool last : Pages) (levels ends : List (List ℕ))
    → ChangesTree g.size owner root batch orders change pool levels last ends → List ℕ → List (List ℕ) → Type 0
TakesItsPages g owner root batch orders change pool last levels ends (done v ls) taken at_end = Unit {0}
TakesItsPages g owner root batch orders change pool last levels ends
    (beside v next w ls es n others used some fresh more) taken at_end =
    ((it : TakesForTree g pool next n at_end)
    × TakesItsPages g owner root batch orders change next last levels ends more (it.page ∷ taken) at_end)
    ⊎ (Has taken n × (length (next n) ≡ g.size)
    × TakesItsPages g owner root batch orders change next last levels ends more taken at_end)
TakesItsPages g owner root batch orders change pool last levels ends
    (splits v split named w ls es l r p e is order no_l no_p below fresh more) taken at_end =
    Has taken r × (length (split l) ≡ g.size) × (length (named p) ≡ g.size)
    × TakesItsPages g owner root batch orders change named last (split_levels l r levels) ends more taken at_end
TakesItsPages g owner root batch orders change pool last levels ends
    (grows v grown w ls es a b is order no_root more) taken at_end =
    IsTakenFor taken levels a × IsTakenFor taken levels b × (level_in (pool root) < 65535)
    × (length (grown root) ≡ g.size)
    × TakesItsPages g owner root batch orders change grown last (grow_levels root a b levels) ends more taken at_end
TakesItsPages g owner root batch orders change pool last levels ends
    (leaf v next w ls es n is low entries some no_inventory more) taken at_end =
    InTree levels n × (length (next n) ≡ g.size)
    × TakesItsPages g owner root batch orders change next last levels ends more taken at_end

-- One leaf of a tree changes in place, and its content is one page long.
pub record RewritesLeaf (size : ℕ) (old new : Pages) (owner : ℕ) (levels : List (List ℕ)) : Type 0 where
  pub leaf : ℕ
  pub placed : InTree levels leaf
  pub rewrites : Rewrites size old new owner leaf
  pub low : level_in (old leaf) ≡ 0
  pub len : length (new leaf) ≡ size
