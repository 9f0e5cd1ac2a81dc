use Rattle.mg_sql.proofs.NoFault.{no_fault}
use Rattle.mg_sql.proofs.laws.statements_have_no_fault.Goals as goal

pub returns : goal.returns
returns c = no_fault
