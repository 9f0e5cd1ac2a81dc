use Rattle.mg_sql.proofs.LengthLaws.{statements_have_lengths}
use Rattle.mg_sql.proofs.laws.statements_have_lengths.Goals as goal

pub returns : goal.returns
returns c = statements_have_lengths
