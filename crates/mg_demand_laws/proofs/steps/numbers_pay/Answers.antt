use Rattle.std.specs.Prelude.{[], ◌∷◌}
use Rattle.mg_careful.specs.CarefulWrite.{listed}
use Rattle.mg_space.specs.declared.links.TheConstants.{TRANSACTIONS}
use Rattle.mg_demand_laws.proofs.steps.numbers_pay.Goals as goal
use Rattle.mg_demand_laws.specs.NumberLaws.{header_pays}
use Rattle.mg_demand_laws.specs.TakeLaws.{make_pays}
use Rattle.mg_demand_laws.specs.TipLaws.{bits_pay, made_tip}
use Rattle.mg_demand_laws.specs.Wanting.{want_of}

pub returns-clause-header : goal.returns-clause-header
returns-clause-header c = λ size old new last orders settled on_disk wanted raises was used paid.
    header_pays size old new last orders settled on_disk wanted raises was used paid

pub returns-clause-page : goal.returns-clause-page
returns-clause-page c = λ size old new n s prev orders settled on_disk wanted makes was unwanted paid.
    make_pays size old new n orders settled on_disk wanted (listed (want_of n TRANSACTIONS s 0 ∷ [])) was
    (made_tip size old new n s prev orders settled on_disk wanted makes was unwanted paid)

pub returns-clause-bits : goal.returns-clause-bits
returns-clause-bits c = λ size old new n s place state orders settled on_disk wanted sets was used order.
    bits_pay size old new n s place state orders settled on_disk wanted sets was used order
