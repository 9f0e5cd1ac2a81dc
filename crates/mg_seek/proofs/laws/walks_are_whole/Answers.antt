use Rattle.mg_seek.specs.ViewLaws.{walks_show_views}
use Rattle.mg_seek.proofs.WalkLemmas.{walks_in_order}
use Rattle.mg_seek.proofs.laws.walks_are_whole.Goals as goal

pub returns-clause-order : goal.returns-clause-order
returns-clause-order c = walks_in_order

pub returns-clause-views : goal.returns-clause-views
returns-clause-views c = walks_show_views c.chains_tell.ensures.views
