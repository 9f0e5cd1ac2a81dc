use Rattle.std.proofs.Common.{◌∙◌, ap, length, ◌++◌, List, Bool}
use Rattle.mg_rowcode.specs.Reading.{flags_of}
use Rattle.mg_rowcode.proofs.RowLemmas.{length-flags_of}
use Rattle.mg_rowcode.proofs.decoding.nearest.Goals as goal

pub read_values-requires-clause-flags : goal.read_values-requires-clause-flags
read_values-requires-clause-flags c =
    ap length c.deref.ensures.value ∙ ap length c.in_ok-put_flags.ensures
    ∙ ap (λ (f : List Bool). length (f ++ flags_of c.args.columns.now c.split_at.result.0.now)) c.in_ok-flags.ensures.items
    ∙ length-flags_of c.args.columns.now c.split_at.result.0.now
