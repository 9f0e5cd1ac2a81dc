use Rattle.std.proofs.Common.{arith}
use Rattle.mg_core.proofs.FailLemmas.{begins_refused}
use Rattle.mg_core.proofs.BeginningLemmas.{begun_core, failed_core, fails_begin, retract_may}
use Rattle.mg_core.proofs.parts.Core.begin.Goals as goal

pub retract-requires : goal.retract-requires
retract-requires g c = retract_may g.D.Disk.meaning c.args.self.now c.enter.new.self c.next-t.result.0 c.args.session
    c.args.mode c.draw.new.store c.draw.new.self c.requires.core c.next-t.ensures c.in-Ok-enter.ensures.ok
    c.in-Err-draw.ensures.pool c.in-Err-draw.ensures.geometry c.in-Err-draw.ensures.list

pub returns-in-Ok-draw-clause-core : goal.returns-in-Ok-draw-clause-core
returns-in-Ok-draw-clause-core g c = begun_core g.D.Disk.meaning c.args.self.now c.enter.new.self c.next-t.result.0
    c.args.session c.args.mode c.draw.new.store c.draw.new.self c.requires.core c.next-t.ensures
    c.in-Ok-enter.ensures.ok c.in-Ok-draw.ensures.pool c.in-Ok-draw.ensures.geometry c.in-Ok-draw.ensures.list
    c.draw.ensures.tips c.in-Ok-draw.ensures.adds

pub returns-in-Err-draw-clause-core : goal.returns-in-Err-draw-clause-core
returns-in-Err-draw-clause-core g c = failed_core g.D.Disk.meaning c.args.self.now c.enter.new.self
    c.next-t.result.0 c.args.session c.args.mode c.draw.new.store c.draw.new.self c.requires.core c.next-t.ensures
    c.in-Ok-enter.ensures.ok c.in-Err-draw.ensures.pool c.in-Err-draw.ensures.geometry c.in-Err-draw.ensures.list
    c.end.new.self c.retract.new.self c.refuse.new.self c.in-Err-draw.ensures.same c.end.ensures c.retract.ensures
    c.refuse.ensures.same

pub returns-in-Err-draw-clause-begins : goal.returns-in-Err-draw-clause-begins
returns-in-Err-draw-clause-begins g c = begins_refused g.D.Disk.meaning c.args.self.now c.refuse.new.self
    c.args.session c.args.mode c.refuse.result (fails_begin g.D.Disk.meaning c.args.self.now c.enter.new.self
    c.next-t.result.0 c.args.session c.args.mode c.draw.new.store c.draw.new.self c.requires.core c.next-t.ensures
    c.in-Ok-enter.ensures.ok c.in-Err-draw.ensures.pool c.in-Err-draw.ensures.geometry c.in-Err-draw.ensures.list
    c.end.new.self c.retract.new.self c.refuse.new.self c.in-Err-draw.ensures.same c.end.ensures c.retract.ensures
    c.refuse.ensures.same c.in-Err-draw.fault c.refuse.result c.in-Ok.ensures.fault.0
    (omega (arith, c.if-t-ge-GREATEST_NEXT.false)) c.refuse.ensures.refusal c.refuse.ensures.names
    c.in-Err-draw.ensures.left
    c.in-Err-draw.ensures.fault c.in-Err-draw.ensures.refused c.refuse.ensures.counts)
