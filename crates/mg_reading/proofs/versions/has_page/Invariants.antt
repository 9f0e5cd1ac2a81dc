use Rattle.std.proofs.Common.{take}
use Rattle.mg_image.specs.Tables.{Has}
use Rattle.mg_reading.proofs.versions.has_page.Given as goal

abbrev pub invariant-loop-page : goal.invariant-loop-page
invariant-loop-page l = Has (take l.page-index l.pages) l.n → ⊥
