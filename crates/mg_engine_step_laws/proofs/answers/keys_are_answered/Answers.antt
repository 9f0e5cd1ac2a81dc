use Rattle.mg_engine_step_laws.specs.reads.KeyAnswers.{nothing_at_keys, obstacles_at_keys, rows_at_keys, speakers_told}
use Rattle.mg_engine_step_laws.proofs.answers.keys_are_answered.Goals as goal

pub returns-clause-speakers : goal.returns-clause-speakers
returns-clause-speakers c = speakers_told c.a_new_base_sees_what_has_ended.ensures.all
    c.records_are_those_of_every_reading.ensures.speakers
    c.keys_are_those_of_the_history.ensures.speakers

pub returns-clause-obstacles : goal.returns-clause-obstacles
returns-clause-obstacles c = obstacles_at_keys c.keys_are_those_of_the_history.ensures.obstacles

pub returns-clause-rows : goal.returns-clause-rows
returns-clause-rows c = rows_at_keys c.keys_are_those_of_the_history.ensures.rows

pub returns-clause-nothing : goal.returns-clause-nothing
returns-clause-nothing c = nothing_at_keys c.keys_are_those_of_the_history.ensures.nothing
