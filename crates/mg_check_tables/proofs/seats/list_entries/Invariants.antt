use Rattle.std.proofs.Common.{◌≡◌, ◌++◌}
use Rattle.mg_check_tables.specs.Seats.{entry_seats}
use Rattle.mg_check_tables.proofs.seats.list_entries.Given as goal

-- those of the entries below this one were added
abbrev pub invariant-loop-i : goal.invariant-loop-i
invariant-loop-i l = l.seats.items ≡ l.initial.seats.items
    ++ entry_seats l.page l.seat.owner l.seat.page l.seat.place l.i
