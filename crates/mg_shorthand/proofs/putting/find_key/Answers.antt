use Rattle.std.proofs.Common.{Option, ap, ◌∙◌}
use Rattle.std.specs.Prelude.{is_some}
use Rattle.mg_model.specs.Changes.{Cells}
use Rattle.mg_shorthand.proofs.putting.find_key.Goals as goal

pub returns-in-Ok-clause-sees : goal.returns-in-Ok-clause-sees
returns-in-Ok-clause-sees g c = λ o h stands active.
    c.is_some.ensures ∙ ap (λ (row : Option Cells). is_some row) (c.in-Ok.ensures.finds o h stands active)
