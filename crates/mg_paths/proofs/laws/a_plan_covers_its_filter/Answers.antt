use Rattle.mg_paths.specs.CoverLaws.{plans_cover}
use Rattle.mg_paths.proofs.laws.a_plan_covers_its_filter.Goals as goal

pub returns : goal.returns
returns c = plans_cover
