use Rattle.std.proofs.Common.{◌∙◌, ap, sym}
use Rattle.mg_scripts.proofs.FaultLemmas.{last_is}
use Rattle.mg_scripts.specs.FaultLines.{spoken_fault}
use Rattle.mg_scripts.proofs.printing.last_spoken.Goals as goal

pub returns-clause-last : goal.returns-clause-last
returns-clause-last c = λ before. last_is before c.args.released.now ∙ ap (spoken_fault before) (sym c.last.ensures.value)
