use Rattle.std.specs.Option.{option_copied}
use Rattle.mg_btree.specs.Scans.{IsScanning}
use Rattle.mg_btree.proofs.range.next_from.Given as goal

abbrev pub invariant-loop-passed : goal.invariant-loop-passed
invariant-loop-passed g l = IsScanning g.D.Disk.meaning l.initial.store l.store l.batch l.fn.start l.leaf l.low
    (option_copied l.after) l.passed
