use Rattle.mg_chain.proofs.Bases.{live_begins, live_follows}
use Rattle.mg_chain.proofs.laws.bases_follow_the_machine.Goals as goal

pub returns-clause-begins : goal.returns-clause-begins
returns-clause-begins c = live_begins

pub returns-clause-follows : goal.returns-clause-follows
returns-clause-follows c = live_follows
