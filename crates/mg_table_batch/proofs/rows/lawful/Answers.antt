use Rattle.std.proofs.Common.{◌∙◌, ap, sym}
use Rattle.std.proofs.lemmas.Bool.{false≢true}
use Rattle.mg_base.specs.declared.damage.Damaged.{Damaged}
use Rattle.mg_space.specs.declared.fault.SpaceFault.TheVariants as faults
use Rattle.mg_table_batch.specs.Refusals.{too_long}
use Rattle.mg_table_batch.proofs.rows.lawful.Goals as goal

pub returns : goal.returns
returns c = too_long c.args.version c.requires
    (λ may. false≢true (sym c.if-may_be_stored.false ∙ c.may_be_stored.ensures.1 may))
    (ap (λ (it : Damaged). faults.Damaged it) c.unlawful.ensures)
