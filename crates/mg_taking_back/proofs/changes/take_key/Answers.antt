use Rattle.mg_taking_back.specs.Changes.{change_of}
use Rattle.mg_taking_back.proofs.ChangeLemmas.{fault_told_of}
use Rattle.mg_taking_back.specs.CoreLaws.{core_counted}
use Rattle.mg_taking_back.proofs.changes.take_key.Goals as goal

pub returns-in-Err-clause-core : goal.returns-in-Err-clause-core
returns-in-Err-clause-core g c = core_counted g.D.Disk.meaning c.take_pages.new.core c.refuse.new.self
    c.take_pages.ensures.core c.refuse.ensures.same

pub returns-in-Err-clause-takes : goal.returns-in-Err-clause-takes
returns-in-Err-clause-takes g c = fault_told_of g.D.Disk.meaning c.args.core.now c.take_pages.new.core c.refuse.new.self
    c.args.t.0 (change_of c.args.number c.args.key c.args.was) c.in-Err.fault c.refuse.result c.in-Err.ensures.takes
    c.refuse.ensures.refusal c.refuse.ensures.names c.refuse.ensures.counts c.refuse.ensures.same
