use Rattle.std.proofs.Common.{◌≡◌, List, ◌++◌, length}
use Rattle.mg_rle.specs.Runs.{Run, IsAccepted, plain_text, packed_text}
use Rattle.mg_rle.specs.Writing.{AppendsPacked, KeepsFront}
use Rattle.mg_rle.proofs.packing.put_runs.Given as goal

-- whatever accepted runs stand for the rest complete the packed text
abbrev pub invariant-loop-rest : goal.invariant-loop-rest
invariant-loop-rest l = record {
  completes : (tail : List Run) → IsAccepted tail → plain_text tail ≡ l.rest → AppendsPacked l.initial.out.items (l.out.items ++ packed_text tail) l.plain;
  front : KeepsFront l.initial.out.items l.out.items;
}

abbrev pub decreases-loop-rest : goal.decreases-loop-rest
decreases-loop-rest l = length l.rest
