use Rattle.mg_pool.proofs.CleanLemmas.{keeps_promoted, table_of}
use Rattle.mg_pool.proofs.clean.CleanTable.touch.Goals as goal

pub returns : goal.returns
returns g c = rw (← c.self.view_is, c.promote.ensures.entries) (keeps_promoted (table_of c.self.inside.pages) c.args.page)
