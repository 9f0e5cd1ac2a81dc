use Rattle.mg_check_data.proofs.CellLemmas.{adds_pushed}
use Rattle.mg_check_data.proofs.cells.note_bytes.Goals as goal

pub returns-in_ok-push-in-Some-clause-adds : goal.returns-in_ok-push-in-Some-clause-adds
returns-in_ok-push-in-Some-clause-adds c = adds_pushed c.args.page.now c.args.n c.args.slot
    c.args.bytes.now c.in-Some.at c.args.findings.now.items c.push.new.self.items
    c.cell_finding.result c.requires.there c.in-Some.ensures c.in_ok-push-in-Some.ensures.items
    c.cell_finding.ensures
