use Rattle.std.proofs.Common.{◌∙◌, inr, refl, subst, sym}
use Rattle.mg_check_records.specs.Reads.{IsRead}
use Rattle.mg_check_records.proofs.step.take_version.Goals as goal

pub returns-in-Stopped : goal.returns-in-Stopped
returns-in-Stopped c = (
  refl,
  inr (
    sym c.has.ensures ∙ c.if-has.false,
    subst (IsRead c.args.table.now c.args.link.rec c.args.version) c.in-Stopped.is
        c.in_ok-finding.ensures,
  ),
)
