use Rattle.std.proofs.Common.{◌↔◌, length}
use Rattle.mg_base.specs.Image.{page_at}
use Rattle.mg_findings.specs.declared.finding.Finding.{Finding}
use Rattle.mg_check_inventory.specs.TransactionRung.{IsChainFinding, IsTipsFinding}
use Rattle.mg_check_inventory.proofs.tips.check_tips.Given as goal

-- what is found of the whole chain is what is found of the pages that are left
abbrev pub invariant-loop-left : goal.invariant-loop-left
invariant-loop-left l = (f : Finding) → IsTipsFinding l.size (page_at l.size l.pages) (length l.pages) f
    ↔ IsChainFinding l.size (page_at l.size l.pages) (length l.pages) l.holder l.n l.left f

abbrev pub decreases-loop-left : goal.decreases-loop-left
decreases-loop-left l = l.left
