use Rattle.mg_transcript.specs.SessionLaws.{begun_below, begun_apart}
use Rattle.mg_transcript.proofs.laws.transactions_are_apart.Goals as goal

pub returns-clause-drawn : goal.returns-clause-drawn
returns-clause-drawn c = begun_below

pub returns-clause-apart : goal.returns-clause-apart
returns-clause-apart c = begun_apart
