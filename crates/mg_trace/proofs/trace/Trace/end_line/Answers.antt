use Rattle.mg_trace.specs.PuttingLaws.{ends_cut}
use Rattle.mg_trace.proofs.trace.Trace.end_line.Goals as goal

pub returns-then-not-self : goal.returns-then-not-self
returns-then-not-self c =
    ends_cut c.args.self.now c.word.new.self (record { text = c.truncate.new.self; whole = c.word.new.self.whole })
    c.args.begun _ c.word.ensures c.if-not-self.true c.truncate.ensures.items
