use Rattle.mg_snap.specs.LiveLaws.{base_sees_no_others, base_sees_what_has_ended, ends_by_leaving, retracts_entering}
use Rattle.mg_snap.proofs.laws.a_base_sees_what_had_ended.Goals as goal

pub returns-clause-base : goal.returns-clause-base
returns-clause-base c = base_sees_what_has_ended

pub returns-clause-ends : goal.returns-clause-ends
returns-clause-ends c = ends_by_leaving

pub returns-clause-since : goal.returns-clause-since
returns-clause-since c = base_sees_no_others

pub returns-clause-retracts : goal.returns-clause-retracts
returns-clause-retracts c = retracts_entering
