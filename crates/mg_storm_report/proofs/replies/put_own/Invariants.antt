use Rattle.std.proofs.Common.{◌≡◌, ◌++◌, take}
use Rattle.std.specs.List.{flat_map}
use Rattle.mg_interleavings.specs.Texts.{said_at_once}
use Rattle.mg_storm_report.proofs.replies.put_own.Given as goal

abbrev pub invariant-loop-answered : goal.invariant-loop-answered
invariant-loop-answered l =
    l.out.items ≡ l.initial.out.items ++ flat_map (said_at_once l.session) (take l.answered-index l.answers)
