use Rattle.std.proofs.Common.{List, subst}
use Rattle.mg_findings.specs.declared.finding.Finding.{Finding}
use Rattle.mg_release.proofs.ReleaseLemmas.{IsReleasing, begins, goes_on}
use Rattle.mg_release.proofs.releasing.release_orphans.Goals as goal

pub loop-finding-init : goal.loop-finding-init
loop-finding-init c = begins c.args.size c.args.pages.now c.args.found.now c.requires.image
    c.requires.found

pub loop-finding-preserved : goal.loop-finding-preserved
loop-finding-preserved c = goes_on c.args.size c.args.pages.now c.loop-finding.pages
    c.release_page.new.pages c.args.found.now c.in-Some.later.now c.in-Some.finding.now
    (subst (λ (l : List Finding). IsReleasing c.args.size c.args.pages.now c.loop-finding.pages
    c.args.found.now l) c.in-Some.ensures.cases.0 c.loop-finding.invariant) c.release_page.ensures
