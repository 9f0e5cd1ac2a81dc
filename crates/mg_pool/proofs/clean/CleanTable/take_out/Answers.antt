use Rattle.std.proofs.Common.{arith}
use Rattle.mg_pool.proofs.CleanLemmas.{drops_entry, drops_none, table_of}
use Rattle.mg_pool.proofs.clean.CleanTable.take_out.Goals as goal

pub returns : goal.returns
returns g c = rw (← c.self.view_is, c.pop.ensures.entries) (drops_entry (table_of c.self.inside.pages) c.args.page c.len.ensures.valid.0)

pub returns-then-len-eq0 : goal.returns-then-len-eq0
returns-then-len-eq0 g c = rw (← c.self.view_is) (drops_none (table_of c.self.inside.pages) c.args.page (omega (arith, c.len.ensures.len, c.if-len-eq0.true)))
