use Rattle.std.proofs.Common.{ap}
use Rattle.std.specs.List.{flat_map}
use Rattle.mg_trace.specs.Openings.{limbo_line, row_line}
use Rattle.mg_trace.specs.PuttingLaws.{puts_as, puts_both}
use Rattle.mg_trace.proofs.trace.Trace.put_opening.Goals as goal

pub returns : goal.returns
returns c =
    puts_both _ _ _ _ _ c.put_next.ensures
    (puts_both _ _ _ _ _ (puts_as _ _ _ _ (ap (flat_map row_line) c.as_slice.ensures) c.put_placed.ensures)
    (puts_as _ _ _ _ (ap (flat_map limbo_line) c.as_slice-2.ensures) c.put_limbo.ensures))
