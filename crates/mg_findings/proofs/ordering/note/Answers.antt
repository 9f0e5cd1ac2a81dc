use Rattle.mg_findings.specs.RungLaws.{adds_told}
use Rattle.mg_findings.proofs.ordering.note.Goals as goal

pub returns-in_ok-push-clause-adds : goal.returns-in_ok-push-clause-adds
returns-in_ok-push-clause-adds c = adds_told _ _ c.args.test c.in-Err.damage c.of.result
    c.in_ok-push.ensures.items c.of.ensures c.in-Err.is
