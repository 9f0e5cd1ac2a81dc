use Rattle.mg_engine_step_laws.specs.reads.TableAnswers.{tables_told}
use Rattle.mg_engine_step_laws.proofs.answers.tables_are_answered.Goals as goal

pub returns : goal.returns
returns c = tables_told c.records_are_those_of_every_reading.ensures.rows c.keys_are_answered.ensures.rows
    c.keys_are_answered.ensures.nothing
