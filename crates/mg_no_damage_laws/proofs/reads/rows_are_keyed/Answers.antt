use Rattle.mg_no_damage_laws.proofs.KeyedLemmas.{later_columns_allow_null, rows_are_keyed, rows_fit, tables_are_keyed}
use Rattle.mg_no_damage_laws.proofs.reads.rows_are_keyed.Goals as goal

pub returns-clause-tables : goal.returns-clause-tables
returns-clause-tables c = tables_are_keyed

pub returns-clause-rows : goal.returns-clause-rows
returns-clause-rows c = rows_are_keyed

pub returns-clause-later : goal.returns-clause-later
returns-clause-later c = later_columns_allow_null

pub returns-clause-fit : goal.returns-clause-fit
returns-clause-fit c = rows_fit
