use Rattle.mg_sql.proofs.OneStatement.{one_statement}
use Rattle.mg_sql.proofs.laws.texts_are_one_statement.Goals as goal

pub returns : goal.returns
returns c = one_statement
