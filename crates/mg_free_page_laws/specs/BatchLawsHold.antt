-- The laws of batches, all of them. They rest on one premise: after a page was taken the inventory pages are lawful
-- still (`TakingKeepsRegions`), as `pages_are_taken` of mg_no_damage_laws ensures it (`kept`).
use Rattle.mg_base.specs.Disk.{Meaning}
use Rattle.mg_space.specs.FreePages.{TakingKeepsRegions}
use Rattle.mg_free_page_laws.specs.BatchStages.{RoomIsThere, RoomTakes}
use Rattle.mg_free_page_laws.specs.CellLaws.{making_takes, out_takes, push_takes, replacing_takes, spot_takes}
use Rattle.mg_free_page_laws.specs.CellRefusals.{making_there, out_there, push_there, replacing_there, spot_there}
use Rattle.mg_free_page_laws.specs.GrowthLaws.{room_takes, room_there}
use Rattle.mg_free_page_laws.specs.PutsExact.{puts_apart_are_other, puts_are_other}
use Rattle.mg_free_page_laws.specs.RowSpending.{BatchLaws}

module _ {D : Type 0} (m : Meaning D) (keeps : TakingKeepsRegions) where
  giving_takes : RoomTakes D
  giving_takes = room_takes keeps D

  giving_there : RoomIsThere m
  giving_there = room_there keeps m

  pub batch_laws : BatchLaws m
  batch_laws = record {
    spot_takes = spot_takes D giving_takes;
    making_takes = making_takes D giving_takes;
    push_takes = push_takes D giving_takes;
    replacing_takes = replacing_takes D giving_takes;
    out_takes = out_takes D giving_takes;
    spot_there = spot_there m giving_there (puts_are_other m) (puts_apart_are_other m);
    making_there = making_there m giving_there (puts_are_other m) (puts_apart_are_other m);
    push_there = push_there m giving_there (puts_are_other m) (puts_apart_are_other m);
    replacing_there = replacing_there m giving_there (puts_are_other m) (puts_apart_are_other m);
    out_there = out_there m giving_there (puts_are_other m) (puts_apart_are_other m);
  }
