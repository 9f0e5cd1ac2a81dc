-- The root splits: its two halves on pages of their own, and its new content.
use Rattle.std.specs.Prelude.{◌≡◌, ℕ, List, [], ◌∷◌, length, None, Result, Ok, Err}
use Rattle.mg_base.specs.Checks.{PassesAll}
use Rattle.mg_base.specs.declared.geometry.Geometry.{Geometry}
use Rattle.mg_node.specs.declared.entry.Entry.{Entry}
use Rattle.mg_node.specs.NodePage.{IsNodePage, entries_of, high_of, level_in, low_of, node_checks, right_in}
use Rattle.mg_node_writing.specs.NewNodes.{CopiesNode}
use Rattle.mg_image.specs.Form.{Pages}
use Rattle.mg_pool.specs.Batch.{Changed}
use Rattle.mg_space.specs.declared.fault.SpaceFault.{SpaceFault}
use Rattle.mg_btree.specs.declared.growing.Growth.{Growth}
use Rattle.mg_btree.specs.declared.growing.TwoPages.{TwoPages}
use Rattle.mg_btree.specs.Halves.{AreHalves, names_in}
use Rattle.mg_btree.specs.Rooms.{RefusesAfter, TakesInto}
use Rattle.mg_btree.specs.SplitSteps.{IsGrownRoot}

-- A root's content is shared out between the pages a and b, which its new content names.
pub record IsGrowth (owner root level a b : ℕ) (old : List ℕ) (growth : Growth) : Type 0 where
  pub copy : List ℕ
  pub copies : CopiesNode old copy a
  pub halves : AreHalves copy a b growth.halves
  pub names : growth.names.items ≡ names_in growth.halves.left.bytes
  pub own : growth.root.page.0 ≡ root
  pub len : length growth.root.bytes ≡ length old
  pub grown : IsGrownRoot owner root level a b halves.pair.splits.given growth.root.bytes

-- An inner page names another one by an entry, and has no fences and no neighbour.
pub record NamesOne (size number owner level : ℕ) (first : Entry) (page : List ℕ) : Type 0 where
  pub len : length page ≡ size
  pub fields : PassesAll (node_checks page number owner)
  pub lawful : IsNodePage page
  pub on_level : level_in page ≡ level
  pub right : right_in page ≡ 0
  pub low : low_of page ≡ None
  pub high : high_of page ≡ None
  pub is : entries_of page ≡ first ∷ []

-- An inner page names two others by their entries, and has no fences and no neighbour.
pub record NamesTwo (size number owner level : ℕ) (first second : Entry) (page : List ℕ) : Type 0 where
  pub len : length page ≡ size
  pub fields : PassesAll (node_checks page number owner)
  pub lawful : IsNodePage page
  pub on_level : level_in page ≡ level
  pub right : right_in page ≡ 0
  pub low : low_of page ≡ None
  pub high : high_of page ≡ None
  pub is : entries_of page ≡ first ∷ second ∷ []

-- Two pages were taken, one after the other; or the first one, or the second, was refused.
abbrev pub TakesTwo : Geometry → Pages → Pages → Changed → Result TwoPages SpaceFault → Type 0
TakesTwo g old new batch (Ok two) = (mid : Pages) × TakesInto g old mid batch two.first.0
    × TakesInto g mid new batch two.second.0
TakesTwo g old new batch (Err fault) = RefusesAfter g old 1 fault
