use Rattle.std.proofs.Common.{◌≡◌, ◌++◌, take}
use Rattle.std.specs.List.{flat_map}
use Rattle.mg_value.specs.Values.{KeepsFront}
use Rattle.mg_transcript.specs.Transcript.{spoken_of}
use Rattle.mg_transcript.proofs.turn.put_released.Given as goal

abbrev pub invariant-loop-spoken : goal.invariant-loop-spoken
invariant-loop-spoken l =
    (l.out.items ≡ l.initial.out.items ++ flat_map spoken_of (take l.spoken-index l.released))
    × KeepsFront l.initial.out.items l.out.items
