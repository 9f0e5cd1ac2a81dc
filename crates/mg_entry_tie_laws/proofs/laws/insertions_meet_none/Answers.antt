use Rattle.mg_entry_tie_laws.specs.MeetLaws as laws
use Rattle.mg_entry_tie_laws.proofs.laws.insertions_meet_none.Goals as goal

pub returns-clause-lawful : goal.returns-clause-lawful
returns-clause-lawful c = laws.insertions_are_lawful c.inserted_orders_close_no_cycle.ensures

pub returns-clause-there : goal.returns-clause-there
returns-clause-there c = laws.insertions_are_there

pub returns-clause-none : goal.returns-clause-none
returns-clause-none c = laws.insertions_meet_none
