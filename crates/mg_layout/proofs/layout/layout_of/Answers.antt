use Rattle.mg_layout.specs.Standing.{layout_in}
use Rattle.mg_layout.proofs.layout.layout_of.Goals as goal

pub returns-in-Ok-clause-only : goal.returns-in-Ok-clause-only
returns-in-Ok-clause-only c = λ layout has. c.one_layout.ensures c.args.image.now layout
    (layout_in c.in-Ok.found) has c.in-Ok.ensures.pages
