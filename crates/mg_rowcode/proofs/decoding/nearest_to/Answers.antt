use Rattle.std.proofs.Common.{subst, sym, ap, length, ◌∙◌}
use Rattle.mg_value.specs.Rows.{RowFits}
use Rattle.mg_rowcode.proofs.RowLemmas.{nearest_fits, length-at_length}
use Rattle.mg_rowcode.proofs.decoding.nearest_to.Goals as goal

pub returns-clause-fits : goal.returns-clause-fits
returns-clause-fits c =
    subst (RowFits c.args.columns.now) (sym c.in_ok-values.ensures.ok)
    (nearest_fits c.args.columns.now c.deref.result.now (ap length c.deref.ensures.value ∙ ap length c.in_ok-whole.ensures.ok ∙ length-at_length c.args.len c.args.plain.now ∙ c.requires))
