use Rattle.std.proofs.Common.{length}
use Rattle.mg_base.specs.Image.{page_at}
use Rattle.mg_file_figures.specs.CatalogRows.{committed_at}
use Rattle.mg_file_figures.proofs.RowsLemmas.{IsOverRows}
use Rattle.mg_file_figures.proofs.catalog_rows.catalog_rows.Given as goal

abbrev pub invariant-loop-p : goal.invariant-loop-p
invariant-loop-p l = IsOverRows (page_at l.size l.pages) l.table l.data_pages l.size
    (committed_at l.size (page_at l.size l.pages)) l.rest l.marks l.rows.items

abbrev pub decreases-loop-p : goal.decreases-loop-p
decreases-loop-p l = length l.rest
