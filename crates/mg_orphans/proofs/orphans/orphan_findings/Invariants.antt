use Rattle.std.proofs.Common.{◌↔◌}
use Rattle.mg_base.specs.Image.{page_at}
use Rattle.mg_findings.specs.declared.finding.Finding.{Finding}
use Rattle.mg_findings.specs.Findings.{Has}
use Rattle.mg_orphans.specs.Orphans.{IsOrphanBelow}
use Rattle.mg_orphans.proofs.orphans.orphan_findings.Given as goal

-- the orphan pages below this number are found
abbrev pub invariant-loop-n : goal.invariant-loop-n
invariant-loop-n l = (f : Finding)
    → Has l.findings.items f ↔ IsOrphanBelow l.size (page_at l.size l.pages) l.reached l.n f
