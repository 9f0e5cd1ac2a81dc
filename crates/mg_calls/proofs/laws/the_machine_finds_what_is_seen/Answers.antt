use Rattle.mg_calls.specs.FindLaws.{machine_finds}
use Rattle.mg_calls.proofs.laws.the_machine_finds_what_is_seen.Goals as goal

pub returns : goal.returns
returns c = machine_finds
