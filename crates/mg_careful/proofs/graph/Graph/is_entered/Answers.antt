use Rattle.std.proofs.Common.{◌∙◌}
use Rattle.mg_careful.proofs.ReadLemmas.{found_entered}
use Rattle.mg_careful.proofs.graph.Graph.is_entered.Goals as goal

pub returns : goal.returns
returns c = rw (← c.self.view_is) (c.is_some.ensures ∙ found_entered c.self.inside.pages.items c.self.inside.before.items c.args.page c.find.result c.find.ensures.found c.find.ensures.absent)
