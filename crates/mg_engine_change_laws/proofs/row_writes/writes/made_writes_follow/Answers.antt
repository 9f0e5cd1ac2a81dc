use Rattle.mg_engine_change_laws.specs.rows.KeptLaws as laws
use Rattle.mg_engine_change_laws.proofs.row_writes.writes.made_writes_follow.Goals as goal

pub returns : goal.returns
returns c = laws.made_writes_follow c.the_list_follows_the_machine.ensures.kept
