use Rattle.mg_file_figures.proofs.NameLemmas.{catalog_is_name}
use Rattle.mg_file_figures.proofs.catalog.catalog_table.Goals as goal

pub unwrap-requires : goal.unwrap-requires
unwrap-requires c = c.new.ensures.named.1 catalog_is_name
