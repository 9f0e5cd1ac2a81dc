use Rattle.std.proofs.Common.{◌≡◌, ◌-◌, length}
use Rattle.mg_rle.specs.Writing.{KeepsFront}
use Rattle.mg_rle.specs.Reading.{HasRead}
use Rattle.mg_rle.proofs.unpacking.read_runs.Given as goal

abbrev pub invariant-loop-reader : goal.invariant-loop-reader
invariant-loop-reader l = record {
  read : HasRead l.packed l.reader l.out.items;
  start : l.reader.start ≡ length l.initial.out.items;
  front : KeepsFront l.initial.out.items l.out.items;
}

abbrev pub decreases-loop-reader : goal.decreases-loop-reader
decreases-loop-reader l = length l.packed - l.reader.at
