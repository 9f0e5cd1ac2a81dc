use Rattle.std.proofs.Common.{◌≡◌, ◌++◌, length}
use Rattle.mg_check_tables.specs.Seats.{seat_pages}
use Rattle.mg_check_tables.proofs.seats.seat_pages.Given as goal

-- those of the seats that are left complete the whole
abbrev pub invariant-loop-seat : goal.invariant-loop-seat
invariant-loop-seat l = l.numbers.items ++ seat_pages l.rest ≡ seat_pages l.seats

abbrev pub decreases-loop-seat : goal.decreases-loop-seat
decreases-loop-seat l = length l.rest
