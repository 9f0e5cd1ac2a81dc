use Rattle.std.proofs.Common.{◌≡◌, length}
use Rattle.mg_base.specs.Image.{page_at}
use Rattle.mg_file_figures.specs.CatalogRows.{committed_at}
use Rattle.mg_image.specs.Records.{shown}
use Rattle.mg_file_figures.proofs.shown.shown_row.Given as goal

-- the versions that are left show what all of them do
abbrev pub invariant-loop-entry : goal.invariant-loop-entry
invariant-loop-entry l = shown (committed_at l.size (page_at l.size l.pages)) l.rest
    ≡ shown (committed_at l.size (page_at l.size l.pages)) l.entries

abbrev pub decreases-loop-entry : goal.decreases-loop-entry
decreases-loop-entry l = length l.rest
