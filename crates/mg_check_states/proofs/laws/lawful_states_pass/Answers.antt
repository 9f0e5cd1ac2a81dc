use Rattle.mg_check_states.specs.StateLaws.{backs_law, drawn_law}
use Rattle.mg_check_states.proofs.laws.lawful_states_pass.Goals as goal

pub returns-clause-drawn : goal.returns-clause-drawn
returns-clause-drawn c = drawn_law

pub returns-clause-backs : goal.returns-clause-backs
returns-clause-backs c = backs_law
