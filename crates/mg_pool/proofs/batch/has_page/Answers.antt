use Rattle.std.proofs.Common.{◌∙◌}
use Rattle.mg_pool.proofs.BatchLemmas.{has_page_is}
use Rattle.mg_pool.proofs.batch.has_page.Goals as goal

pub returns : goal.returns
returns c = c.is_some.ensures ∙ has_page_is c.args.pages.now.items c.args.page c.find.result c.find.ensures.found c.find.ensures.first c.find.ensures.absent
