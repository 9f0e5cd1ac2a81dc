use Rattle.mg_check_records.specs.WalkLaws.{walk_law}
use Rattle.mg_check_records.proofs.laws.walks_are_over_records.Goals as goal

pub returns : goal.returns
returns c = walk_law
