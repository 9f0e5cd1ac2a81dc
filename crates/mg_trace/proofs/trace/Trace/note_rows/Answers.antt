use Rattle.std.proofs.Common.{◌≡◌, arith, length}
use Rattle.mg_trace.specs.PuttingLaws.{line_added}
use Rattle.mg_trace.proofs.LoopLemmas.{rows_ended}
use Rattle.mg_trace.proofs.trace.Trace.note_rows.Goals as goal

pub returns : goal.returns
returns c =
    let begun : c.len-begun.result ≡ length c.args.self.now.text.items = omega (arith, c.len-begun.ensures) in
    line_added _ _ _ _ _ _ begun c.put_find.ensures
    (rows_ended _ _ _ _ _ c.as_slice.ensures c.end_rows.ensures)
