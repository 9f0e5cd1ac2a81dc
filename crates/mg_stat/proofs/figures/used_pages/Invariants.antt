use Rattle.std.proofs.Common.{◌≡◌}
use Rattle.mg_base.specs.Image.{page_at}
use Rattle.mg_stat.specs.Figures.{used_below}
use Rattle.mg_stat.proofs.figures.used_pages.Given as goal

abbrev pub invariant-loop-n : goal.invariant-loop-n
invariant-loop-n l = l.used ≡ used_below l.size (page_at l.size l.pages) l.n
