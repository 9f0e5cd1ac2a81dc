use Rattle.mg_script.proofs.ReadingLemmas.{no_session}
use Rattle.mg_script.proofs.reading.read_statement.Goals as goal

pub returns-in_default-read_session : goal.returns-in_default-read_session
returns-in_default-read_session c =
    no_session c.args.text.now c.in-Some.rest.now c.in-Some.first.now c.in-Some.ensures.cases.0 c.in_default-read_session.ensures
