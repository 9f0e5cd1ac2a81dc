use Rattle.std.proofs.Common.{◌+◌, List, subst, sym, ℕ}
use Rattle.mg_overview.specs.Reading.{HasReadBelow}
use Rattle.mg_overview.proofs.ReadingLemmas.{read_more}
use Rattle.mg_overview.proofs.reading.read_pages.Goals as goal

pub loop-n-preserved : goal.loop-n-preserved
loop-n-preserved g c = subst (λ (pages : List (List ℕ)). HasReadBelow g.D.Disk.meaning c.args.disk.now
    c.read_page.new.disk c.args.size c.args.count (c.loop-n.n + 1) pages)
    (sym c.in-Ok-push.ensures.items)
    (read_more g.D.Disk.meaning g.met.D.Disk.counts_now g.met.D.Disk.counted c.args.disk.now
    c.loop-n.disk c.read_page.new.disk c.args.size c.args.count c.loop-n.n c.loop-n.pages.items
    c.loop-n.invariant c.loop-n-test.true c.read_page.ensures.told c.read_page.ensures.content
    c.in-Ok.ensures.fault c.read_page.ensures.no_failed_write c.read_page.ensures.reads c.in-Ok.page c.in-Ok.ensures.long
    c.in-Ok.ensures.page)
