use Rattle.mg_engine_change_laws.specs.tables.SeenLaws.{made_are_seen}
use Rattle.mg_engine_change_laws.proofs.makings.rows.made_tables_are_seen.Goals as goal

pub returns : goal.returns
returns c = made_are_seen
