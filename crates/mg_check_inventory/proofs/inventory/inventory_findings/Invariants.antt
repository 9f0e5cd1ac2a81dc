use Rattle.std.proofs.Common.{◌↔◌}
use Rattle.mg_base.specs.Image.{page_at}
use Rattle.mg_findings.specs.declared.finding.Finding.{Finding}
use Rattle.mg_findings.specs.Findings.{Has}
use Rattle.mg_check_inventory.specs.InventoryRung.{IsFoundBelow}
use Rattle.mg_check_inventory.proofs.inventory.inventory_findings.Given as goal

abbrev pub invariant-loop-region : goal.invariant-loop-region
invariant-loop-region l = (f : Finding)
    → Has l.findings.items f ↔ IsFoundBelow l.size (page_at l.size l.pages) l.region f
