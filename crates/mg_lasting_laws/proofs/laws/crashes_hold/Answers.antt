use Rattle.mg_image.specs.Form.{packed_form}
use Rattle.mg_lasting_laws.specs.CrashLaws.{midway_holds_from, overlays_hold_from}
use Rattle.mg_lasting_laws.specs.ChangingLaws.{quiet_holds}
use Rattle.mg_lasting_laws.proofs.laws.crashes_hold.Goals as goal

pub returns-clause-overlays : goal.returns-clause-overlays
returns-clause-overlays c = overlays_hold_from packed_form

pub returns-clause-midway : goal.returns-clause-midway
returns-clause-midway c = midway_holds_from packed_form

pub returns-clause-quiet : goal.returns-clause-quiet
returns-clause-quiet c = quiet_holds packed_form
