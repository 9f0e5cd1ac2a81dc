use Rattle.mg_statements.specs.Plain.{plain_of}
use Rattle.mg_sessions.proofs.statements.read.Goals as goal

pub returns-in-Ok-clause-lengths : goal.returns-in-Ok-clause-lengths
returns-in-Ok-clause-lengths g c =
    c.statements_have_lengths.ensures c.args.text.now (plain_of c.in-Ok.statement) c.in-Ok.ensures
