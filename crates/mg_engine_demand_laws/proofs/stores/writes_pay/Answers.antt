use Rattle.mg_engine_demand_laws.specs.OwnLaws.{replacements_pay, taking_out_pays}
use Rattle.mg_engine_demand_laws.specs.WriteLaws.{firsts_pay, growth_pays, making_pays, places_pay, pushes_pay}
use Rattle.mg_engine_demand_laws.proofs.stores.writes_pay.Goals as goal

pub returns-clause-place : goal.returns-clause-place
returns-clause-place g c = places_pay g.row.D.Denot

pub returns-clause-first : goal.returns-clause-first
returns-clause-first g c = firsts_pay g.row.D.Denot

pub returns-clause-push : goal.returns-clause-push
returns-clause-push g c = pushes_pay g.row.D.Denot

pub returns-clause-growth : goal.returns-clause-growth
returns-clause-growth g c = growth_pays g.row.D.Denot

pub returns-clause-making : goal.returns-clause-making
returns-clause-making g c = making_pays g.row.D.Denot

pub returns-clause-replaced : goal.returns-clause-replaced
returns-clause-replaced g c = replacements_pay g.row.D.Denot

pub returns-clause-out : goal.returns-clause-out
returns-clause-out g c = taking_out_pays g.row.D.Denot
