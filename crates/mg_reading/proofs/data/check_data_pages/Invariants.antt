use Rattle.std.proofs.Common.{false, take}
use Rattle.mg_reading.specs.ImageView.{pages_in}
use Rattle.mg_image.specs.Sound.{IsTableData}
use Rattle.mg_image.specs.Tables.{EachFrom}
use Rattle.mg_reading.proofs.data.check_data_pages.Given as goal

abbrev pub invariant-loop-at : goal.invariant-loop-at
invariant-loop-at l = EachFrom (IsTableData false l.image.size (pages_in l.image) l.owner) 0
    (take l.at l.data_pages)
