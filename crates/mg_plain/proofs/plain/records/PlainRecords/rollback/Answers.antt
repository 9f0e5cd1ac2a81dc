use Rattle.std.proofs.lemmas.Bool.{false≢true}
use Rattle.mg_plain.proofs.plain.records.PlainRecords.rollback.Goals as goal

pub returns-clause-takes : goal.returns-clause-takes
returns-clause-takes c = λ reserves. absurd (false≢true reserves)
