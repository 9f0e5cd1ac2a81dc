use Rattle.std.proofs.Common.{length}
use Rattle.mg_layout.proofs.choices.+check_choices.Given as goal

abbrev pub decreases-check_choices : goal.decreases-check_choices
decreases-check_choices l = length l.open_.now
