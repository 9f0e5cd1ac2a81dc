use Rattle.mg_check_tables.proofs.TableLemmas.{table_law}
use Rattle.mg_check_tables.proofs.laws.lawful_tables_pass.Goals as goal

pub returns : goal.returns
returns c = table_law c.lawful_data_pages_pass.ensures
