use Rattle.std.proofs.Common.{◌-◌, length}
use Rattle.mg_base.specs.Image.{page_at}
use Rattle.mg_base.specs.declared.geometry.TheConstants.{GREATEST_LIMIT}
use Rattle.mg_check_tables.proofs.SeatLemmas.{IsListing}
use Rattle.mg_check_tables.proofs.seats.chain_seats.Given as goal

abbrev pub invariant-loop-n : goal.invariant-loop-n
invariant-loop-n l = IsListing l.size (page_at l.size l.pages) (length l.pages) l.holder l.first
    l.seats.items l.from l.n l.at l.place

abbrev pub decreases-loop-n : goal.decreases-loop-n
decreases-loop-n l = GREATEST_LIMIT - l.at
