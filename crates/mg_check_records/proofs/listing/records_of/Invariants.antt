use Rattle.std.proofs.Common.{length}
use Rattle.mg_base.specs.Image.{page_at}
use Rattle.mg_check_records.proofs.ListingLemmas.{AreListedOver}
use Rattle.mg_check_records.proofs.listing.records_of.Given as goal

abbrev pub invariant-loop-n : goal.invariant-loop-n
invariant-loop-n l = AreListedOver (page_at l.size l.pages) l.data_pages l.rest l.records.items

abbrev pub decreases-loop-n : goal.decreases-loop-n
decreases-loop-n l = length l.rest
