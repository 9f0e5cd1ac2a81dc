use Rattle.mg_model.specs.PromiseLaws.{snapshot_saw, snapshot_sees}
use Rattle.mg_model.proofs.laws.snapshots_see.Goals as goal

pub returns-clause-sees : goal.returns-clause-sees
returns-clause-sees c = snapshot_sees

pub returns-clause-saw : goal.returns-clause-saw
returns-clause-saw c = λ o h since session mode t u one legal.
    snapshot_saw o h since session mode t u one legal
