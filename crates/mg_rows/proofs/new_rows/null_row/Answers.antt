use Rattle.std.proofs.Common.{◌++◌, ◌∷◌, [], ap, ◌∙◌}
use Rattle.std.proofs.lemmas.List.{replicate_more}
use Rattle.mg_value.specs.declared.value.Value.TheVariants.{Null}
use Rattle.mg_rows.proofs.new_rows.null_row.Goals as goal

pub loop-preserved : goal.loop-preserved
loop-preserved c =
    c.in_ok-push.ensures.items ∙ ap (λ row. row ++ Null ∷ []) c.loop.invariant ∙ replicate_more c.loop.index Null
