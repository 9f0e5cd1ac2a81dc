-- Where a search along a level goes on from a page that was read.
use Rattle.std.specs.Prelude.{◌≡◌, IfSome}
use Rattle.mg_node.specs.declared.entry.Entry.{Entry}
use Rattle.mg_node.specs.NodePage.{IsAtLeast, IsBelow}
use Rattle.mg_btree.specs.declared.node.ReadNode.{ReadNode}
use Rattle.mg_btree.specs.declared.search.Landing.{Landing}
use Rattle.mg_btree.specs.declared.search.Landing.TheVariants.{Here, Right}

-- it ends at a page between whose fences the entry lies, or goes on behind one before whose end it
-- does not come
abbrev pub LandsAt : ReadNode → Entry → Landing → Type 0
LandsAt read e (Here found) = (found ≡ read) × IfSome read.node.low (λ fence. IsAtLeast e fence)
    × IfSome read.node.high (λ fence. IsBelow e fence)
LandsAt read e (Right next) = (next ≡ read.node.right)
    × (IfSome read.node.high (λ fence. IsBelow e fence) → ⊥)

-- an entry comes before the low fence of a page
abbrev pub ComesBefore : ReadNode → Entry → Type 0
ComesBefore read e = IfSome read.node.low (λ fence. IsAtLeast e fence) → ⊥
