use Rattle.std.specs.Prelude.{[], ◌∷◌}
use Rattle.mg_careful.specs.CarefulWrite.{listed}
use Rattle.mg_space.specs.declared.links.TheConstants.{DATA, POINTER}
use Rattle.mg_demand_laws.proofs.steps.pointer_pages_pay.Goals as goal
use Rattle.mg_demand_laws.specs.PointerLaws.{entry_pays, made_data, made_pointer, next_pays}
use Rattle.mg_demand_laws.specs.TakeLaws.{make_pays}
use Rattle.mg_demand_laws.specs.Wanting.{want_of}

pub returns-clause-entry : goal.returns-clause-entry
returns-clause-entry c = λ size old new q n owner at orders settled on_disk wanted lists was paid.
    entry_pays size old new q n owner at orders settled on_disk wanted lists was paid

pub returns-clause-next : goal.returns-clause-next
returns-clause-next c = λ size old new q p owner at orders settled on_disk wanted links was paid.
    next_pays size old new q p owner at orders settled on_disk wanted links was paid

pub returns-clause-data : goal.returns-clause-data
returns-clause-data c = λ size old new n owner place orders settled on_disk wanted makes was unwanted passes empty.
    make_pays size old new n orders settled on_disk wanted (listed (want_of n DATA owner place ∷ [])) was
    (made_data size old new n owner place orders settled on_disk wanted makes was unwanted passes empty)

pub returns-clause-pointer : goal.returns-clause-pointer
returns-clause-pointer c = λ size old new p n owner at orders settled on_disk wanted makes was unwanted paid passes entries last.
    make_pays size old new p orders settled on_disk wanted (listed (want_of p POINTER owner at ∷ [])) was
    (made_pointer size old new p n owner at orders settled on_disk wanted makes was unwanted paid passes entries last)
