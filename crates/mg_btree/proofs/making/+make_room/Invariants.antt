use Rattle.std.proofs.Common.{◌-◌}
use Rattle.mg_btree.proofs.making.+make_room.Given as goal

abbrev pub decreases-make_room : goal.decreases-make_room
decreases-make_room g l = l.top.level - l.level
