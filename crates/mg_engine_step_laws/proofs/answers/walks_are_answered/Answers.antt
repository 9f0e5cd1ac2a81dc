use Rattle.mg_engine_step_laws.specs.reads.WalkAnswers.{walks_begin, walks_go_on}
use Rattle.mg_engine_step_laws.proofs.answers.walks_are_answered.Goals as goal

pub returns-clause-begin : goal.returns-clause-begin
returns-clause-begin c = walks_begin c.walks_are_whole.ensures.views

pub returns-clause-visits : goal.returns-clause-visits
returns-clause-visits c = walks_go_on c.walks_are_whole.ensures.order
    c.records_are_those_of_every_reading.ensures.rows
