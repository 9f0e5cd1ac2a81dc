use Rattle.mg_findings.specs.FindingLaws.{one_list_law}
use Rattle.mg_findings.proofs.laws.one_list.Goals as goal

pub returns : goal.returns
returns c = one_list_law
