use Rattle.std.specs.Prelude.{None}
use Rattle.mg_pool.specs.Batch.{one_page, orders_of}
use Rattle.mg_format.proofs.FormatLemmas.{change_says}
use Rattle.mg_format.proofs.format.put_page.Goals as goal

pub returns-clause-says : goal.returns-clause-says
returns-clause-says g c = change_says g.D.Disk.meaning c.args.store.now c.change_one.new.self
    (one_page c.args.n c.args.bytes.now) (orders_of None (record { 0 = c.args.n })) c.change_one.result c.change_one.ensures.changes c.change_one.ensures.refused
