use Rattle.std.proofs.Common.{◌≡◌, rules, arith, length}
use Rattle.std.proofs.lemmas.List.{take_all}
use Rattle.mg_rle.proofs.ReadingLemmas.{reads_nothing}
use Rattle.mg_rle.proofs.unpacking.read_runs.Goals as goal

pub loop-reader-init : goal.loop-reader-init
loop-reader-init c =
    let len_is : c.len-start.result ≡ length c.args.out.now.items = search rules in
    record { read = reads_nothing _ _ _ len_is; start = len_is; front = take_all _ _ (omega arith) }
