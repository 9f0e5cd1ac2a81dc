-- What is read of an index tree, and what a call leaves that reads.
use Rattle.std.specs.Prelude.{◌≡◌, ℕ, List, length, Result}
use Rattle.mg_base.specs.Checks.{PassesAll}
use Rattle.mg_base.specs.Disk.{Meaning}
use Rattle.mg_base.specs.Image.{blank}
use Rattle.mg_node.specs.NodePage.{IsNodePage, level_in, node_checks}
use Rattle.mg_node.specs.NodeReading.{IsNodeOf}
use Rattle.mg_node.specs.NodeTests.{HasEnough}
use Rattle.mg_node.specs.declared.node.Node.{Node}
use Rattle.mg_pool.specs.Fault.{TellsFault}
use Rattle.mg_pool.specs.declared.fault.PoolFault.TheVariants.{Memory}
use Rattle.mg_pool.specs.declared.pool.Pool.{Pool}
use Rattle.mg_space.specs.View.{KeepsStore, ReadsAlone, pool_answer}
use Rattle.mg_space.specs.declared.fault.SpaceFault.{SpaceFault}
use Rattle.mg_space.specs.declared.fault.SpaceFault.TheVariants.{Full, Pool as OfPool, Damaged as OfPage}
use Rattle.mg_btree.specs.declared.node.ReadNode.{ReadNode}

-- A call has only read: it leaves the cache as it was, and tells the cache's fault.
pub record Reads {D L T : Type 0} (m : Meaning D) (old new : Pool D L) (result : Result T SpaceFault)
    : Type 0 where
  pub keeps : KeepsStore m old new
  pub fault : TellsFault m old new (pool_answer result)
  pub own : ReadsAlone result

-- bytes are an index page with this number and owner, on this level
pub record IsNodeOn (owner level n : ℕ) (bytes : List ℕ) : Type 0 where
  pub fields : PassesAll (node_checks bytes n owner)
  pub lawful : IsNodePage bytes
  pub enough : HasEnough bytes
  pub on_level : level_in bytes ≡ level

-- such a page was read
pub record IsReadNode (size owner level n : ℕ) (read : ReadNode) : Type 0 where
  pub number : read.page.0 ≡ n
  pub len : length read.bytes ≡ size
  pub is : IsNodeOn owner level n read.bytes
  pub says : IsNodeOf read.bytes read.node

-- bytes are such a page, and a node what they say
abbrev pub IsNodeFrom : ℕ → ℕ → ℕ → List ℕ → Node → Type 0
IsNodeFrom owner level n bytes node = IsNodeOn owner level n bytes × IsNodeOf bytes node

-- damage comes only where the page is not there, and reads as zero
abbrev pub RefusesBytes : ℕ → List ℕ → SpaceFault → Type 0
RefusesBytes size bytes (Full limit) = ⊥
RefusesBytes size bytes (OfPage damage) = bytes ≡ blank size
RefusesBytes size bytes (OfPool fault) = Unit {0}

-- damage comes only where the bytes are no such page
abbrev pub RefusesNode : ℕ → ℕ → ℕ → List ℕ → SpaceFault → Type 0
RefusesNode owner level n bytes (Full limit) = ⊥
RefusesNode owner level n bytes (OfPage damage) = IsNodeOn owner level n bytes → ⊥
RefusesNode owner level n bytes (OfPool fault) = Unit {0}

-- the same of bytes that were read; else memory is wanting
abbrev pub RefusesContent : ℕ → ℕ → ℕ → List ℕ → SpaceFault → Type 0
RefusesContent owner level n bytes (Full limit) = ⊥
RefusesContent owner level n bytes (OfPage damage) = IsNodeOn owner level n bytes → ⊥
RefusesContent owner level n bytes (OfPool fault) = fault ≡ Memory
