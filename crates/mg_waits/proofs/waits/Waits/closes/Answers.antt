use Rattle.std.proofs.Common.{rules}
use Rattle.mg_waits.proofs.Ways.{closes_iff}
use Rattle.mg_waits.proofs.waits.Waits.closes.Goals as goal

pub returns : goal.returns
returns c =
    closes_iff c.args.self.now c.len.result c.leads_within.result c.args.t.0 c.args.by.0
    (search rules) c.leads_within.ensures
