use Rattle.mg_engine_change_laws.specs.keys.WrittenLaws.{kept_tables_are_named, kept_tables_stand}
use Rattle.mg_engine_change_laws.proofs.takings.keys.kept_tables_stand.Goals as goal

pub returns-clause-stand : goal.returns-clause-stand
returns-clause-stand c = kept_tables_stand

pub returns-clause-named : goal.returns-clause-named
returns-clause-named c = kept_tables_are_named
