use Rattle.std.proofs.lemmas.List.Elements.{All-nil}
use Rattle.mg_exec.proofs.run.insert.Goals as goal

pub start_to_write-turn-requires-clause-rows : goal.start_to_write-turn-requires-clause-rows
start_to_write-turn-requires-clause-rows g c = All-nil _
