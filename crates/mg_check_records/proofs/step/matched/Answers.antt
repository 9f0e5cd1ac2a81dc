use Rattle.std.proofs.Common.{◌∙◌, ap, refl, sym}
use Rattle.mg_check_records.proofs.StepLemmas.{anchor_missed, none_missed, other_missed}
use Rattle.mg_check_records.proofs.step.matched.Goals as goal

pub returns-in-None : goal.returns-in-None
returns-in-None c = none_missed c.args.link c.args.cell c.missed.result c.in-None.is
    c.missed.ensures

pub returns-in-Some-Anchor : goal.returns-in-Some-Anchor
returns-in-Some-Anchor c = anchor_missed c.args.link c.args.cell c.missed-in-Some-Anchor.result
    c.in-Some-Anchor.field-0 c.in-Some-Anchor.field-0-0 c.in-Some-Anchor.is
    c.in-Some-Anchor.field-0-is c.missed-in-Some-Anchor.ensures

pub returns-else-version-link : goal.returns-else-version-link
returns-else-version-link c = other_missed c.args.link c.args.cell
    c.missed-else-version-link.result c.in-Some-Version.field-0 c.in-Some-Version.version
    c.from.result c.in-Some-Version.is c.in-Some-Version.field-0-is c.if-version-link.false
    c.from.ensures c.missed-else-version-link.ensures
