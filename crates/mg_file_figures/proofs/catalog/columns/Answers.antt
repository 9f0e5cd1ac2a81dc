use Rattle.mg_file_figures.proofs.NameLemmas.{a_is_name, b_is_name, c_is_name, d_is_name, k_is_name, name_is_name}
use Rattle.mg_file_figures.proofs.catalog.columns.Goals as goal

pub column-requires : goal.column-requires
column-requires c = k_is_name

pub column-requires-2 : goal.column-requires-2
column-requires-2 c = name_is_name

pub column-requires-3 : goal.column-requires-3
column-requires-3 c = a_is_name

pub column-requires-4 : goal.column-requires-4
column-requires-4 c = b_is_name

pub column-requires-5 : goal.column-requires-5
column-requires-5 c = c_is_name

pub column-requires-6 : goal.column-requires-6
column-requires-6 c = d_is_name
