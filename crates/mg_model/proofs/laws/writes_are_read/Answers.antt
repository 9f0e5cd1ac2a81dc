use Rattle.mg_model.specs.WrittenLaws.{reads_written}
use Rattle.mg_model.specs.ReadLaws.{reads_given, reads_made, reads_own, reads_base}
use Rattle.mg_model.proofs.laws.writes_are_read.Goals as goal

pub returns-clause-given : goal.returns-clause-given
returns-clause-given c = reads_given

pub returns-clause-made : goal.returns-clause-made
returns-clause-made c = reads_made

pub returns-clause-own : goal.returns-clause-own
returns-clause-own c = reads_own

pub returns-clause-other : goal.returns-clause-other
returns-clause-other c = reads_base

pub returns-clause-written : goal.returns-clause-written
returns-clause-written c = reads_written
