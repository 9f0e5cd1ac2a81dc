use Rattle.mg_base.specs.Image.{page_at}
use Rattle.mg_image.specs.Inventory.{state_at}
use Rattle.mg_limbo_list.specs.Limbo.{IsLimboBelow}
use Rattle.mg_limbo_list.proofs.listing.limbo_of.Given as goal

-- those below this number
abbrev pub invariant-loop-t : goal.invariant-loop-t
invariant-loop-t l = IsLimboBelow (state_at l.size (page_at l.size l.pages)) l.t l.list.items
