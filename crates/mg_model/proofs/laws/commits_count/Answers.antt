use Rattle.mg_model.specs.EntryLaws.{base_is_cut}
use Rattle.mg_model.proofs.laws.commits_count.Goals as goal

pub returns-clause-cut : goal.returns-clause-cut
returns-clause-cut c = base_is_cut
