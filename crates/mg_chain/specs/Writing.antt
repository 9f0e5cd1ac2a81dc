-- The versions of a record are written: the steps of a batch, one cell after another, and its orders.
use Rattle.std.specs.Prelude.{◌≡◌, ◌⊎◌, ℕ, List, [], Option, None, Some}
use Rattle.mg_base.specs.Image.{Image}
use Rattle.mg_base.specs.declared.numbers.RecId.{RecId}
use Rattle.mg_base.specs.declared.numbers.TxNo.{TxNo}
use Rattle.mg_heap.specs.Apart.{AddsApart}
use Rattle.mg_heap.specs.Changing.{ChangesAtMost, ChangesOne, FreesCellAt, IsLeastSlot, MayHave, PutsCellAt}
use Rattle.mg_heap.specs.Growth.{AddsOrders}
use Rattle.mg_heap.specs.Reach.{IsReached, OwnsPage}
use Rattle.mg_heap.specs.Room.{AddsCell, GivesRoom}
use Rattle.mg_image.specs.Form.{Pages}
use Rattle.mg_image.specs.Records.{cells_of}
use Rattle.mg_pool.specs.Batch.{Changed}
use Rattle.mg_pool.specs.declared.pool.Pool.{Pool}
use Rattle.mg_space.specs.View.{viewed}
use Rattle.mg_version.specs.Cells.{IsSpelling}
use Rattle.mg_version.specs.declared.cell.Cell.TheVariants as cells
use Rattle.mg_version.specs.declared.cell.Link.{Link}
use Rattle.mg_version.specs.declared.cell.TheConstants.{ANCHOR_LEN}
use Rattle.mg_version.specs.declared.cell.Version.{Version}
use Rattle.mg_chain.specs.Chains.{Meets}
use Rattle.mg_chain.specs.Orders.{first_orders, move_orders, out_orders, push_orders}

-- ---- one cell

-- A cell is put into a slot: the batch has a content of its page, one page long, and its orders are as
-- before; no other cell has changed, and no other page.
pub record PutsAt {D L : Type 0} (store : Pool D L) (image : Image) (old new : Changed) (at : RecId)
    (bytes : List ℕ) : Type 0 where
  pub one : ChangesOne store.geometry.size old new at.page.0
  pub puts : PutsCellAt (viewed store image old) (viewed store image new) at bytes

-- A slot is freed where it has a cell: the batch has at most a content of its page more, and its orders
-- are as before; no other cell has changed, and no other page.
pub record FreesAt {D L : Type 0} (store : Pool D L) (image : Image) (old new : Changed) (at : RecId)
    : Type 0 where
  pub at_most : ChangesAtMost store.geometry.size old new at.page.0
  pub frees : FreesCellAt (viewed store image old) (viewed store image new) at

-- a version with this one before it, or with none
abbrev pub leading_to : Version → Option Link → Version
leading_to v back = record v { back = back }

-- the link to a version of a transaction at a place
abbrev pub link_to : RecId → TxNo → Link
link_to at tx = record { rec = at; tx = tx }

-- The slot of a record comes to lead to a version.
pub record TurnsTo {D L : Type 0} (store : Pool D L) (image : Image) (old new : Changed) (rec : RecId)
    (link : Link) : Type 0 where
  pub bytes : List ℕ
  pub spells : IsSpelling bytes (cells.Anchor link)
  pub puts : PutsAt store image old new rec bytes

-- The slot of a record comes to lead to a version, or is freed where there is none.
abbrev pub TurnsBack : {D L : Type 0} → Pool D L → Image → Changed → Changed → RecId → Option Link
    → Type 0
TurnsBack store image old new rec None = FreesAt store image old new rec
TurnsBack store image old new rec (Some link) = TurnsTo store image old new rec link

-- ---- what is known of a record

-- A record's primary slot has an anchor, which leads to its newest version, and its page says which
-- table it is of.
pub record HasHead (view : Pages) (rec : RecId) (newest : Link) (owner : ℕ) : Type 0 where
  pub slot : cells_of view rec ≡ Some (cells.Anchor newest)
  pub owned : OwnsPage rec.page (view rec.page.0) owner

-- its newest version, and where that stands
pub record HasNewest (view : Pages) (rec : RecId) (newest : Link) (owner : ℕ) (v : Version) : Type 0
  where
    pub head : HasHead view rec newest owner
    pub meets : Meets (cells_of view) newest v

-- ---- the calls

-- A place for a record: the least free slot of a data page with room for an anchor. Where no page of the
-- table has that room, the table has got a data page more.
pub record GivesSpot {D L : Type 0} (store : Pool D L) (image : Image) (old new : Changed)
    (owner : ℕ) (at : RecId) : Type 0 where
  pub gives : GivesRoom store image old new owner ANCHOR_LEN at.page
  pub least : IsLeastSlot at.page.0 (viewed store image new at.page.0) at.slot

-- A version's cell is added to a table, and the pointer pages are found by which its page is reached.
pub record PutsVersion {D L : Type 0} (store : Pool D L) (image : Image) (old new : Changed)
    (owner : ℕ) (bytes : List ℕ) (at : RecId) (pointers : List ℕ) : Type 0 where
  pub adds : AddsCell store image old new owner bytes at
  pub reached : IsReached (viewed store image new) owner at.page.0 pointers

-- The cell of a first version is put, apart from a place, and then the slot there leads to it. Between the
-- steps the batch is `put` and `turned`.
pub record MakesCell {D L : Type 0} (store : Pool D L) (image : Image) (old new : Changed) (owner : ℕ)
    (rec : RecId) (bytes : List ℕ) (tx : TxNo) : Type 0 where
  pub at : RecId
  pub put : Changed
  pub adds : AddsApart store image old put owner rec bytes at
  pub pointers : List ℕ
  pub reached : IsReached (viewed store image put) owner at.page.0 pointers
  pub slot_pointers : List ℕ
  pub slot_reached : IsReached (viewed store image put) owner rec.page.0 slot_pointers
  pub turned : Changed
  pub turns : TurnsTo store image put turned rec (link_to at tx)
  pub ordered : AddsOrders turned new
      (first_orders turned.pages at.page.0 rec.page.0 pointers slot_pointers)

-- a record is made at a place, with one version
pub record MakesRecord {D L : Type 0} (store : Pool D L) (image : Image) (old new : Changed)
    (owner : ℕ) (rec : RecId) (v : Version) : Type 0 where
  pub bytes : List ℕ
  pub spells : IsSpelling bytes (cells.Version (leading_to v None))
  pub makes : MakesCell store image old new owner rec bytes v.tx

-- A version's cell is put, and then the slot leads to it, which led to this version. Between the steps
-- the batch is `put` and `turned`.
pub record PushesCell {D L : Type 0} (store : Pool D L) (image : Image) (old new : Changed)
    (rec : RecId) (newest : Link) (owner : ℕ) (bytes : List ℕ) (tx : TxNo) : Type 0 where
  pub at : RecId
  pub pointers : List ℕ
  pub put : Changed
  pub puts : PutsVersion store image old put owner bytes at pointers
  pub turned : Changed
  pub turns : TurnsTo store image put turned rec (link_to at tx)
  pub ordered : AddsOrders turned new
      (push_orders turned.pages at.page.0 rec.page.0 (Some newest) pointers)

-- A version is pushed: it has the newest one before it.
pub record Pushes {D L : Type 0} (store : Pool D L) (image : Image) (old new : Changed) (rec : RecId)
    (v : Version) : Type 0 where
  pub newest : Link
  pub owner : ℕ
  pub head : HasHead (viewed store image old) rec newest owner
  pub bytes : List ℕ
  pub spells : IsSpelling bytes (cells.Version (leading_to v (Some newest)))
  pub pushes : PushesCell store image old new rec newest owner bytes v.tx

-- the pointer pages by which a slot's page is reached, where no version is behind: an image may have
-- nothing of the record then
abbrev pub SlotIsReached : Pages → ℕ → ℕ → Option Link → List ℕ → Type 0
SlotIsReached view owner page None pointers = IsReached view owner page pointers
SlotIsReached view owner page (Some link) pointers = pointers ≡ []

-- The slot of a record is turned, and then the cell is freed to which it led. In between the batch is
-- `turned`.
pub record Swings {D L : Type 0} (store : Pool D L) (image : Image) (old new : Changed) (rec : RecId)
    (left : RecId) (to : Option Link) : Type 0 where
  pub turned : Changed
  pub turns : TurnsBack store image old turned rec to
  pub frees : FreesAt store image turned new left

-- A version is moved to another cell: its cell is put, the slot is turned to that, and the old cell is
-- freed. Between the steps the batch is `put` and `freed`.
pub record Moves {D L : Type 0} (store : Pool D L) (image : Image) (old new : Changed) (rec : RecId)
    (newest : Link) (owner : ℕ) (bytes : List ℕ) (tx : TxNo) (back : Option Link) : Type 0 where
  pub at : RecId
  pub pointers : List ℕ
  pub put : Changed
  pub puts : PutsVersion store image old put owner bytes at pointers
  pub slot_pointers : List ℕ
  pub slot_reached : SlotIsReached (viewed store image put) owner rec.page.0 back slot_pointers
  pub freed : Changed
  pub swings : Swings store image put freed rec newest.rec (Some (link_to at tx))
  pub ordered : AddsOrders freed new (move_orders freed.pages at.page.0 rec.page.0 back pointers
      slot_pointers newest.rec.page.0)

-- a cell is written over where its bytes may stand there, and moved where not
abbrev pub OverwritesOrMoves : {D L : Type 0} → Pool D L → Image → Changed → Changed → RecId → Link → ℕ
    → List ℕ → TxNo → Option Link → Type 0
OverwritesOrMoves store image old new rec newest owner bytes tx back =
    PutsAt store image old new newest.rec bytes
    ⊎ ((MayHave (viewed store image old newest.rec.page.0) newest.rec.slot bytes → ⊥)
    × Moves store image old new rec newest owner bytes tx back)

-- A transaction's own newest version is replaced by another one that leads on as it did, in its cell
-- exactly where it fits there.
pub record Replaces {D L : Type 0} (store : Pool D L) (image : Image) (old new : Changed)
    (rec : RecId) (v : Version) : Type 0 where
  pub newest : Link
  pub owner : ℕ
  pub was : Version
  pub its : HasNewest (viewed store image old) rec newest owner was
  pub own : was.tx ≡ v.tx
  pub bytes : List ℕ
  pub spells : IsSpelling bytes (cells.Version (leading_to v was.back))
  pub written : OverwritesOrMoves store image old new rec newest owner bytes v.tx was.back

-- The newest version is taken out: the slot leads to the version behind it, or is freed where there is
-- none, and then its cell is freed. Before the orders the batch is `freed`.
pub record TakesCellOut {D L : Type 0} (store : Pool D L) (image : Image) (old new : Changed)
    (rec : RecId) (newest : Link) (owner : ℕ) (back : Option Link) : Type 0 where
  pub slot_pointers : List ℕ
  pub slot_reached : SlotIsReached (viewed store image old) owner rec.page.0 back slot_pointers
  pub freed : Changed
  pub swings : Swings store image old freed rec newest.rec back
  pub ordered : AddsOrders freed new
      (out_orders freed.pages rec.page.0 back slot_pointers newest.rec.page.0)

-- the record's newest version is taken out
pub record TakesOut {D L : Type 0} (store : Pool D L) (image : Image) (old new : Changed)
    (rec : RecId) : Type 0 where
  pub newest : Link
  pub owner : ℕ
  pub was : Version
  pub its : HasNewest (viewed store image old) rec newest owner was
  pub taken : TakesCellOut store image old new rec newest owner was.back
