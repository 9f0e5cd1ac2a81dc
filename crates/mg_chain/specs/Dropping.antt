-- The version right behind another one is dropped: the steps of its batch, and why it is not.
use Rattle.std.specs.Prelude.{◌≡◌, ◌⊎◌, ◌+◌, ℕ, List, [], ◌∷◌, Option, None, Some}
use Rattle.mg_base.specs.Disk.{Meaning}
use Rattle.mg_base.specs.Image.{Image}
use Rattle.mg_base.specs.declared.damage.Damaged.{Damaged}
use Rattle.mg_base.specs.declared.damage.Field.TheVariants as fields
use Rattle.mg_base.specs.declared.numbers.RecId.{RecId}
use Rattle.mg_heap.specs.Changing.{MayHave}
use Rattle.mg_heap.specs.Growth.{AddsOrders}
use Rattle.mg_heap.specs.Reading.{IsSomeData, RefusesData}
use Rattle.mg_image.specs.Form.{Pages}
use Rattle.mg_image.specs.Records.{cells_of}
use Rattle.mg_pool.specs.Batch.{Changed}
use Rattle.mg_pool.specs.declared.batch.BatchPage.{BatchPage}
use Rattle.mg_pool.specs.declared.pool.Pool.{Pool}
use Rattle.mg_space.specs.View.{KeepsStore, viewed}
use Rattle.mg_space.specs.declared.fault.SpaceFault.{SpaceFault}
use Rattle.mg_space.specs.declared.fault.SpaceFault.TheVariants as faults
use Rattle.mg_version.specs.Cells.{IsSpelling}
use Rattle.mg_version.specs.declared.cell.Cell.TheVariants as cells
use Rattle.mg_version.specs.declared.cell.Link.{Link}
use Rattle.mg_version.specs.declared.cell.Version.{Version}
use Rattle.mg_chain.specs.Chains.{Meets}
use Rattle.mg_chain.specs.Orders.{before_page}
use Rattle.mg_chain.specs.Refusals.{RefusesVersion, damage}
use Rattle.mg_chain.specs.Writing.{FreesAt, PutsAt, leading_to}
use Rattle.mg_chain.specs.WritingRefusals.{IsMemory}

-- a version that leads on by this link comes to stand in a cell
pub record PutsOver {D L : Type 0} (store : Pool D L) (image : Image) (old new : Changed) (at : RecId) (v : Version)
    (back : Option Link) : Type 0 where
  pub bytes : List ℕ
  pub spells : IsSpelling bytes (cells.Version (leading_to v back))
  pub puts : PutsAt store image old new at bytes

-- A version comes to lead past the one that it led to, whose cell is freed. Between the steps the batch is `put`, and
-- before the order `freed`.
pub record LeadsPast {D L : Type 0} (store : Pool D L) (image : Image) (old new : Changed) (at gone : RecId)
    (v : Version) (back : Option Link) : Type 0 where
  pub put : Changed
  pub puts : PutsOver store image old put at v back
  pub freed : Changed
  pub frees : FreesAt store image put freed gone
  pub ordered : AddsOrders freed new (before_page (at.page.0 ∷ []) gone.page.0)

-- The version that a link meets led by another link to a second one, and comes to lead on as that did.
pub record DropsBehind {D L : Type 0} (store : Pool D L) (image : Image) (old new : Changed) (newer gone : Link)
    : Type 0 where
  pub version : Version
  pub meets : Meets (cells_of (viewed store image old)) newer version
  pub back : version.back ≡ Some gone
  pub older : Version
  pub behind : Meets (cells_of (viewed store image old)) gone older
  pub leads : LeadsPast store image old new newer.rec gone.rec version older.back

-- The version that a link meets leads nowhere, and nothing has changed.
pub record HasNoneBehind {D L : Type 0} (store : Pool D L) (image : Image) (old new : Changed) (newer : Link)
    : Type 0 where
  pub version : Version
  pub meets : Meets (cells_of (viewed store image old)) newer version
  pub ends : version.back ≡ None
  pub same : new ≡ old

-- what was dropped, if anything was behind
abbrev pub DropsIfBehind : {D L : Type 0} → Pool D L → Image → Changed → Changed → Link → Option Link → Type 0
DropsIfBehind store image old new newer None = HasNoneBehind store image old new newer
DropsIfBehind store image old new newer (Some gone) = DropsBehind store image old new newer gone

-- ---- why not

-- A version may not stand in a cell: found is its slot, and one slot more than that is wanted.
pub record HasNoRoom (view : Pages) (at : RecId) (v : Version) (back : Option Link) (it : Damaged) : Type 0 where
  pub page_is : IsSomeData at.page (view at.page.0)
  pub bytes : List ℕ
  pub spells : IsSpelling bytes (cells.Version (leading_to v back))
  pub none : MayHave (view at.page.0) at.slot bytes → ⊥
  pub is : it ≡ damage at.page.0 fields.Count at.slot (at.slot + 1)

-- why a version is not put over a cell, but for faults of the cache
abbrev pub RefusesPutOver : {D L : Type 0} → Meaning D → Pool D L → List BatchPage → Pages → RecId → Version
    → Option Link → SpaceFault → Type 0
RefusesPutOver m store pages view at v back (faults.Full most) = ⊥
RefusesPutOver m store pages view at v back (faults.Damaged it) =
    RefusesData m store pages at.page (view at.page.0) (faults.Damaged it) ⊎ HasNoRoom view at v back it
RefusesPutOver m store pages view at v back (faults.Pool fault) = Unit {0}

-- Why a version does not come to lead past another one. Pages are read before the second is changed: then the cache is
-- `ready`.
pub data RefusesLeadPast {D L : Type 0} (m : Meaning D) (old new : Pool D L) (image : Image) (batch : Changed)
    (at gone : RecId) (v : Version) (back : Option Link) (fault : SpaceFault) : Type 0 where
  lead_memory : IsMemory fault → RefusesLeadPast m old new image batch at gone v back fault
  lead_puts : RefusesPutOver m new batch.pages (viewed old image batch) at v back fault
      → RefusesLeadPast m old new image batch at gone v back fault
  lead_frees : (put : Changed) → PutsOver old image batch put at v back
      → RefusesData m new put.pages gone.page (viewed old image put gone.page.0) fault
      → RefusesLeadPast m old new image batch at gone v back fault

-- why the version behind another one is not dropped
pub data RefusesDrop {D L : Type 0} (m : Meaning D) (old new : Pool D L) (image : Image) (batch : Changed)
    (holder : ℕ) (newer : Link) (fault : SpaceFault) : Type 0 where
  drop_newer : RefusesVersion m new batch.pages (viewed old image batch) holder newer fault
      → RefusesDrop m old new image batch holder newer fault
  drop_older : (v : Version) (gone : Link) → Meets (cells_of (viewed old image batch)) newer v → v.back ≡ Some gone
      → RefusesVersion m new batch.pages (viewed old image batch) newer.rec.page.0 gone fault
      → RefusesDrop m old new image batch holder newer fault
  drop_leads : (v older : Version) (gone : Link) (ready : Pool D L)
      → Meets (cells_of (viewed old image batch)) newer v → v.back ≡ Some gone
      → Meets (cells_of (viewed old image batch)) gone older → KeepsStore m old ready
      → RefusesLeadPast m ready new image batch newer.rec gone.rec v older.back fault
      → RefusesDrop m old new image batch holder newer fault
