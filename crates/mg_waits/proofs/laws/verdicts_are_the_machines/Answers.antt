use Rattle.mg_waits.proofs.MachineLemmas.{verdict_is_the_machines}
use Rattle.mg_waits.proofs.laws.verdicts_are_the_machines.Goals as goal

pub returns : goal.returns
returns c = λ o h noted t by given opening legal are_noted active is.
    verdict_is_the_machines o opening h legal noted are_noted t active by given is
