use Rattle.std.proofs.Common.{refl}
use Rattle.mg_base.specs.Image.{page_at}
use Rattle.mg_orphans.proofs.OrphanLemmas.{adds_pushed}
use Rattle.mg_orphans.proofs.orphans.note_orphan.Goals as goal

pub returns-clause-adds : goal.returns-clause-adds
returns-clause-adds c = adds_pushed c.args.size (page_at c.args.size c.args.pages.now)
    c.args.reached.now c.args.n c.args.findings.now.items c.push.new.self.items
    c.finding_of.result (c.if-not-is_orphan.ensures.0 refl) c.in_ok-push.ensures.items
    c.finding_of.ensures
