use Rattle.std.proofs.Common.{◌≡◌, arith, length}
use Rattle.mg_trace.specs.PuttingLaws.{line_added}
use Rattle.mg_trace.proofs.trace.Trace.note_mark.Goals as goal

pub returns : goal.returns
returns c =
    let begun : c.len-begun.result ≡ length c.args.self.now.text.items = omega (arith, c.len-begun.ensures) in
    line_added _ _ _ _ _ _ begun c.put_by.ensures c.end_answer.ensures
