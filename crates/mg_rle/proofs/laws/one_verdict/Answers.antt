use Rattle.mg_rle.proofs.RunLemmas.{accepted_breaks_nowhere, one_place_breaks}
use Rattle.mg_rle.proofs.laws.one_verdict.Goals as goal

pub returns-clause-accepted : goal.returns-clause-accepted
returns-clause-accepted c = accepted_breaks_nowhere

pub returns-clause-place : goal.returns-clause-place
returns-clause-place c = one_place_breaks
