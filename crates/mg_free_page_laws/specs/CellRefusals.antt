-- Where two pages are free, no cell is refused for want of pages.
use Rattle.std.proofs.Common.{◌≡◌, ◌∙◌, inl, inr, ℕ, List, Option, sym, subst}
use Rattle.mg_base.specs.Disk.{Meaning}
use Rattle.mg_base.specs.Image.{Image}
use Rattle.mg_base.specs.declared.geometry.Geometry.{Geometry}
use Rattle.mg_base.specs.declared.numbers.PageNo.{PageNo}
use Rattle.mg_base.specs.declared.numbers.RecId.{RecId}
use Rattle.mg_base.specs.declared.numbers.TxNo.{TxNo}
use Rattle.mg_chain.specs.WritingRefusals.{IsMemory, RefusesFirstCell, RefusesHead, RefusesMove, RefusesNewest, RefusesOverwrite, RefusesPushCell, RefusesPutFirst, RefusesPutMoved, RefusesSwing, RefusesTakeCellOut, RefusesTurn}
use Rattle.mg_chain.specs.WritingRefusals.{back_newest, back_takes, first_adds, first_memory, first_puts, first_reaches, first_turns, made_cell, made_memory, made_offline, move_memory, move_puts, move_swings, moved_puts, moved_reaches, out_memory, out_reaches, out_swings, over_moves, over_reads, push_memory, push_puts, push_turns, pushed_cell, pushed_head, pushed_memory, put_adds, put_reaches, replace_memory, replace_newest, replace_other, replace_writes, spot_page, spot_room, swing_frees, swing_turns}
use Rattle.mg_heap.specs.Apart.{RefusesPutApart}
use Rattle.mg_heap.specs.Reach.{RefusesReach}
use Rattle.mg_heap.specs.Reading.{RefusesData}
use Rattle.mg_heap.specs.Room.{RefusesPutIn}
use Rattle.mg_image.specs.Form.{Pages}
use Rattle.mg_pool.specs.Batch.{Changed}
use Rattle.mg_pool.specs.declared.batch.BatchPage.{BatchPage}
use Rattle.mg_pool.specs.declared.fault.PoolFault.TheVariants as pool_faults
use Rattle.mg_pool.specs.declared.pool.Pool.{Pool}
use Rattle.mg_space.specs.Taking.{IsGeometry}
use Rattle.mg_space.specs.View.{KeepsStore, viewed}
use Rattle.mg_space.specs.ViewLaws.{viewed_on}
use Rattle.mg_space.specs.declared.fault.SpaceFault.{SpaceFault}
use Rattle.mg_space.specs.declared.fault.SpaceFault.TheVariants as faults
use Rattle.mg_space.specs.declared.links.FireLinks.{FireLinks}
use Rattle.mg_version.specs.declared.cell.Link.{Link}
use Rattle.mg_free_page_laws.specs.BatchStages.{AddingApartIsThere, AddingIsThere, MakingIsThere, OutIsThere, PushIsThere, PutIsThere, ReplacingIsThere, RoomIsThere, SpotIsThere}
use Rattle.mg_free_page_laws.specs.FreePages.{IsNotFull}

-- a fault that is not told for want of pages
abbrev pub IsOther : SpaceFault → Type 0
IsOther fault = (limit : ℕ) → fault ≡ faults.Full limit → ⊥

-- such a fault is refused for want of pages nowhere
pub other_there : (g : Geometry) (pages : Pages) (most : ℕ) (fault : SpaceFault) → IsOther fault
    → IsNotFull g pages most fault
other_there g pages most fault other regions has = other

pub memory_other : (fault : SpaceFault) → IsMemory fault → IsOther fault
memory_other fault memory limit full = let both : faults.Full limit ≡ faults.Pool pool_faults.Memory =
    sym full ∙ memory in absurd cc

module _ {D : Type 0} (m : Meaning D) where
  data_other : (store : Pool D FireLinks) (pages : List BatchPage) (page : PageNo) (b : List ℕ) (fault : SpaceFault)
      → RefusesData m store pages page b fault → IsOther fault
  data_other store pages page b (faults.Full most) never limit is = absurd never
  data_other store pages page b (faults.Damaged it) refused limit is = absurd cc
  data_other store pages page b (faults.Pool fault) refused limit is = absurd cc

  reach_other : (store : Pool D FireLinks) (batch : List BatchPage) (pages : Pages) (owner : ℕ) (n : PageNo)
      (fault : SpaceFault) → RefusesReach m store batch pages owner n fault → IsOther fault
  reach_other store batch pages owner n (faults.Full most) never limit is = absurd never
  reach_other store batch pages owner n (faults.Damaged it) refused limit is = absurd cc
  reach_other store batch pages owner n (faults.Pool fault) refused limit is = absurd cc

  head_other : (store : Pool D FireLinks) (pages : List BatchPage) (view : Pages) (rec : RecId) (fault : SpaceFault)
      → RefusesHead m store pages view rec fault → IsOther fault
  head_other store pages view rec (faults.Full most) never limit is = absurd never
  head_other store pages view rec (faults.Damaged it) refused limit is = absurd cc
  head_other store pages view rec (faults.Pool fault) refused limit is = absurd cc

  newest_other : (store : Pool D FireLinks) (pages : List BatchPage) (view : Pages) (rec : RecId) (fault : SpaceFault)
      → RefusesNewest m store pages view rec fault → IsOther fault
  newest_other store pages view rec (faults.Full most) never limit is = absurd never
  newest_other store pages view rec (faults.Damaged it) refused limit is = absurd cc
  newest_other store pages view rec (faults.Pool fault) refused limit is = absurd cc

  turn_other : (store : Pool D FireLinks) (pages : List BatchPage) (view : Pages) (at : RecId) (fault : SpaceFault)
      → RefusesTurn m store pages view at fault → IsOther fault
  turn_other store pages view at (faults.Full most) never limit is = absurd never
  turn_other store pages view at (faults.Damaged it) refused limit is = absurd cc
  turn_other store pages view at (faults.Pool fault) refused limit is = absurd cc

  -- what holds of a cache holds of the one before it, if pages were only read since
  pub since_read : (a b : Pool D FireLinks) (image : Image) (batch : Changed) (most : ℕ) (fault : SpaceFault)
      → KeepsStore m a b → IsNotFull b.geometry (viewed b image batch) most fault
      → IsNotFull a.geometry (viewed a image batch) most fault
  since_read a b image batch most fault keeps it =
      subst (λ (g : Geometry). IsNotFull g (viewed a image batch) most fault) keeps.geometry
      (subst (λ (pages : Pages). IsNotFull b.geometry pages most fault) (viewed_on m a b image batch keeps) it)

  pub still_lawful : (a b : Pool D FireLinks) → KeepsStore m a b → IsGeometry a.geometry → IsGeometry b.geometry
  still_lawful a b keeps lawful = subst IsGeometry (sym keeps.geometry) lawful

  -- a cell that is not put on a page that was given is refused for want of pages nowhere
  abbrev pub PutsAreOther : Type 0
  PutsAreOther = (store : Pool D FireLinks) (batch : Changed) (b : List ℕ) (page : PageNo) (cell : List ℕ)
      (fault : SpaceFault) → RefusesPutIn m store batch b page cell fault → IsOther fault

  abbrev pub PutsApartAreOther : Type 0
  PutsApartAreOther = (store : Pool D FireLinks) (batch : Changed) (b : List ℕ) (page : PageNo) (place : RecId)
      (cell : List ℕ) (fault : SpaceFault) → RefusesPutApart m store batch b page place cell fault → IsOther fault

  module _ (room : RoomIsThere m) (put_other : PutsAreOther) (apart_other : PutsApartAreOther) where
    pub spot_there : SpotIsThere m
    spot_there old new image batch owner fault (spot_room refused) lawful =
        room old new image batch owner fault refused lawful
    spot_there old new image batch owner fault (spot_page given page gives refused) lawful =
        other_there old.geometry (viewed old image batch) 2 fault
        (data_other new given.pages page (viewed old image given page.0) fault refused)

    pub adding_there : AddingIsThere m
    adding_there old new image batch owner cell fault (inl refused) lawful =
        room old new image batch owner fault refused lawful
    adding_there old new image batch owner cell fault (inr put) lawful =
        other_there old.geometry (viewed old image batch) 2 fault
        (put_other new put.given (viewed old image put.given put.page.0) put.page cell fault put.refused)

    pub adding_apart_there : AddingApartIsThere m
    adding_apart_there old new image batch owner place cell fault (inl refused) lawful =
        room old new image batch owner fault refused lawful
    adding_apart_there old new image batch owner place cell fault (inr put) lawful =
        other_there old.geometry (viewed old image batch) 2 fault
        (apart_other new put.given (viewed old image put.given put.page.0) put.page place cell fault put.refused)

    pub put_there : PutIsThere m
    put_there old new image batch owner bytes fault (put_adds refused) lawful =
        adding_there old new image batch owner bytes fault refused lawful
    put_there old new image batch owner bytes fault (put_reaches at put adds refused) lawful =
        other_there old.geometry (viewed old image batch) 2 fault
        (reach_other new put.pages (viewed old image put) owner at.page fault refused)

    -- ---- a record is made

    first_put_there : (old new : Pool D FireLinks) (image : Image) (batch : Changed) (owner : ℕ) (rec : RecId)
        (bytes : List ℕ) (fault : SpaceFault) → RefusesPutFirst m old new image batch owner rec bytes fault
        → IsGeometry old.geometry → IsNotFull old.geometry (viewed old image batch) 2 fault
    first_put_there old new image batch owner rec bytes fault (first_adds refused) lawful =
        adding_apart_there old new image batch owner rec bytes fault refused lawful
    first_put_there old new image batch owner rec bytes fault (first_reaches at put adds (inl refused)) lawful =
        other_there old.geometry (viewed old image batch) 2 fault
        (reach_other new put.pages (viewed old image put) owner at.page fault refused)
    first_put_there old new image batch owner rec bytes fault (first_reaches at put adds (inr refused)) lawful =
        other_there old.geometry (viewed old image batch) 2 fault
        (reach_other new put.pages (viewed old image put) owner rec.page fault refused)

    first_cell_there : (old new : Pool D FireLinks) (image : Image) (batch : Changed) (owner : ℕ) (rec : RecId)
        (bytes : List ℕ) (fault : SpaceFault) → RefusesFirstCell m old new image batch owner rec bytes fault
        → IsGeometry old.geometry → IsNotFull old.geometry (viewed old image batch) 2 fault
    first_cell_there old new image batch owner rec bytes fault (first_memory memory) lawful =
        other_there old.geometry (viewed old image batch) 2 fault (memory_other fault memory)
    first_cell_there old new image batch owner rec bytes fault (first_puts refused) lawful =
        first_put_there old new image batch owner rec bytes fault refused lawful
    first_cell_there old new image batch owner rec bytes fault (first_turns at put adds refused) lawful =
        other_there old.geometry (viewed old image batch) 2 fault
        (turn_other new put.pages (viewed old image put) rec fault refused)

    pub making_there : MakingIsThere m
    making_there old new image batch owner rec v fault (made_offline n is) lawful =
        other_there old.geometry (viewed old image batch) 2 fault (λ limit full.
        let both : faults.Full limit ≡ faults.Pool (pool_faults.Offline n) = sym full ∙ is in absurd cc)
    making_there old new image batch owner rec v fault (made_memory memory) lawful =
        other_there old.geometry (viewed old image batch) 2 fault (memory_other fault memory)
    making_there old new image batch owner rec v fault (made_cell bytes spells refused) lawful =
        first_cell_there old new image batch owner rec bytes fault refused lawful

    -- ---- a version is pushed

    push_cell_there : (old new : Pool D FireLinks) (image : Image) (batch : Changed) (rec : RecId) (owner : ℕ)
        (bytes : List ℕ) (fault : SpaceFault) → RefusesPushCell m old new image batch rec owner bytes fault
        → IsGeometry old.geometry → IsNotFull old.geometry (viewed old image batch) 2 fault
    push_cell_there old new image batch rec owner bytes fault (push_memory memory) lawful =
        other_there old.geometry (viewed old image batch) 2 fault (memory_other fault memory)
    push_cell_there old new image batch rec owner bytes fault (push_puts refused) lawful =
        put_there old new image batch owner bytes fault refused lawful
    push_cell_there old new image batch rec owner bytes fault (push_turns at pointers put puts refused) lawful =
        other_there old.geometry (viewed old image batch) 2 fault
        (turn_other new put.pages (viewed old image put) rec fault refused)

    pub push_there : PushIsThere m
    push_there old new image batch rec v fault (pushed_memory memory) lawful =
        other_there old.geometry (viewed old image batch) 2 fault (memory_other fault memory)
    push_there old new image batch rec v fault (pushed_head refused) lawful =
        other_there old.geometry (viewed old image batch) 2 fault
        (head_other new batch.pages (viewed old image batch) rec fault refused)
    push_there old new image batch rec v fault (pushed_cell newest owner bytes ready head spells keeps refused) lawful =
        since_read old ready image batch 2 fault keeps
        (push_cell_there ready new image batch rec owner bytes fault refused (still_lawful old ready keeps lawful))

    -- ---- a version is replaced

    swing_other : (old new : Pool D FireLinks) (image : Image) (batch : Changed) (rec left : RecId)
        (to : Option Link) (fault : SpaceFault) → RefusesSwing m old new image batch rec left to fault → IsOther fault
    swing_other old new image batch rec left to fault (swing_turns refused) =
        turn_other new batch.pages (viewed old image batch) rec fault refused
    swing_other old new image batch rec left to fault (swing_frees turned turns refused) =
        data_other new turned.pages left.page (viewed old image turned left.page.0) fault refused

    moved_there : (old new : Pool D FireLinks) (image : Image) (batch : Changed) (rec : RecId) (owner : ℕ)
        (bytes : List ℕ) (fault : SpaceFault) → RefusesPutMoved m old new image batch rec owner bytes fault
        → IsGeometry old.geometry → IsNotFull old.geometry (viewed old image batch) 2 fault
    moved_there old new image batch rec owner bytes fault (moved_puts refused) lawful =
        put_there old new image batch owner bytes fault refused lawful
    moved_there old new image batch rec owner bytes fault (moved_reaches at pointers put puts refused) lawful =
        other_there old.geometry (viewed old image batch) 2 fault
        (reach_other new put.pages (viewed old image put) owner rec.page fault refused)

    move_there : (old new : Pool D FireLinks) (image : Image) (batch : Changed) (rec : RecId) (newest : Link)
        (owner : ℕ) (bytes : List ℕ) (tx : TxNo) (fault : SpaceFault)
        → RefusesMove m old new image batch rec newest owner bytes tx fault → IsGeometry old.geometry
        → IsNotFull old.geometry (viewed old image batch) 2 fault
    move_there old new image batch rec newest owner bytes tx fault (move_memory memory) lawful =
        other_there old.geometry (viewed old image batch) 2 fault (memory_other fault memory)
    move_there old new image batch rec newest owner bytes tx fault (move_puts refused) lawful =
        moved_there old new image batch rec owner bytes fault refused lawful
    move_there old new image batch rec newest owner bytes tx fault (move_swings at pointers put ready puts keeps refused)
        lawful = other_there old.geometry (viewed old image batch) 2 fault
        (swing_other ready new image put rec newest.rec _ fault refused)

    overwrite_there : (old new : Pool D FireLinks) (image : Image) (batch : Changed) (rec : RecId) (newest : Link)
        (owner : ℕ) (bytes : List ℕ) (tx : TxNo) (fault : SpaceFault)
        → RefusesOverwrite m old new image batch rec newest owner bytes tx fault → IsGeometry old.geometry
        → IsNotFull old.geometry (viewed old image batch) 2 fault
    overwrite_there old new image batch rec newest owner bytes tx fault (over_reads refused) lawful =
        other_there old.geometry (viewed old image batch) 2 fault
        (data_other new batch.pages newest.rec.page (viewed old image batch newest.rec.page.0) fault refused)
    overwrite_there old new image batch rec newest owner bytes tx fault (over_moves ready keeps refused) lawful =
        since_read old ready image batch 2 fault keeps
        (move_there ready new image batch rec newest owner bytes tx fault refused (still_lawful old ready keeps lawful))

    pub replacing_there : ReplacingIsThere m
    replacing_there old new image batch rec v fault (replace_memory memory) lawful =
        other_there old.geometry (viewed old image batch) 2 fault (memory_other fault memory)
    replacing_there old new image batch rec v fault (replace_newest refused) lawful =
        other_there old.geometry (viewed old image batch) 2 fault
        (newest_other new batch.pages (viewed old image batch) rec fault refused)
    replacing_there old new image batch rec v fault (replace_other newest owner was has differs is) lawful =
        other_there old.geometry (viewed old image batch) 2 fault (λ limit full.
        let both : faults.Full limit ≡ faults.Damaged _ = sym full ∙ is in absurd cc)
    replacing_there old new image batch rec v fault (replace_writes newest owner was bytes ready has spells keeps refused)
        lawful = since_read old ready image batch 2 fault keeps
        (overwrite_there ready new image batch rec newest owner bytes v.tx fault refused
        (still_lawful old ready keeps lawful))

    -- ---- a version is taken out

    pub out_there : OutIsThere m
    out_there old new image batch rec fault (back_newest refused) lawful =
        other_there old.geometry (viewed old image batch) 0 fault
        (newest_other new batch.pages (viewed old image batch) rec fault refused)
    out_there old new image batch rec fault (back_takes newest owner was ready has keeps refused) lawful =
        other_there old.geometry (viewed old image batch) 0 fault (on refused)
      where
        on : RefusesTakeCellOut m ready new image batch rec newest owner was.back fault → IsOther fault
        on (out_memory memory) = memory_other fault memory
        on (out_reaches refused) = reach_other new batch.pages (viewed ready image batch) owner rec.page fault refused
        on (out_swings again keeps refused) = swing_other again new image batch rec newest.rec was.back fault refused
