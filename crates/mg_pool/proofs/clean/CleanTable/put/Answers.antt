use Rattle.mg_pool.proofs.CleanLemmas.{puts_entry, table_of}
use Rattle.mg_pool.proofs.clean.CleanTable.put.Goals as goal

pub returns-in-Ok-clause-put : goal.returns-in-Ok-clause-put
returns-in-Ok-clause-put g c = rw (← c.self.view_is, c.in-Ok.ensures.entries) (puts_entry (table_of c.self.inside.pages) c.args.page c.args.content)
