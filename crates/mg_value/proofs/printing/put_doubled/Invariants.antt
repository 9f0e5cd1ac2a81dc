use Rattle.std.proofs.Common.{◌≡◌, ◌++◌, take}
use Rattle.std.specs.List.{flat_map}
use Rattle.mg_value.specs.Values.{doubled, KeepsFront}
use Rattle.mg_value.proofs.printing.put_doubled.Given as goal

abbrev pub invariant-loop-byte : goal.invariant-loop-byte
invariant-loop-byte l = (l.out.items ≡ l.initial.out.items ++ flat_map doubled (take l.byte-index l.text)) × KeepsFront l.initial.out.items l.out.items
