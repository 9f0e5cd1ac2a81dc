-- What is read of a record before it is changed, call after call.
use Rattle.std.proofs.Common.{◌≡◌, ◌∙◌, inl, inr, ℕ, List, Option, Some, subst, sym}
use Rattle.mg_base.specs.Disk.{Meaning}
use Rattle.mg_base.specs.Image.{Image}
use Rattle.mg_base.specs.declared.damage.Damaged.{Damaged}
use Rattle.mg_base.specs.declared.numbers.RecId.{RecId}
use Rattle.mg_heap.specs.Reach.{OwnsPage, RefusesOwner}
use Rattle.mg_heap.specs.Reading.{RefusesData}
use Rattle.mg_image.specs.Form.{Pages}
use Rattle.mg_image.specs.Records.{cells_of}
use Rattle.mg_pool.specs.Batch.{Changed}
use Rattle.mg_pool.specs.declared.batch.BatchPage.{BatchPage}
use Rattle.mg_pool.specs.declared.pool.Pool.{Pool}
use Rattle.mg_space.specs.View.{KeepsStore, Tells, viewed}
use Rattle.mg_space.specs.ViewLaws.{tells_on, viewed_on}
use Rattle.mg_space.specs.declared.fault.SpaceFault.{SpaceFault}
use Rattle.mg_space.specs.declared.fault.SpaceFault.TheVariants as faults
use Rattle.mg_version.specs.declared.cell.Cell.{Cell}
use Rattle.mg_version.specs.declared.cell.Cell.TheVariants as cells
use Rattle.mg_version.specs.declared.cell.Link.{Link}
use Rattle.mg_chain.specs.Refusals.{RefusesCellAt, RefusesVersion}
use Rattle.mg_chain.specs.Writing.{HasHead}
use Rattle.mg_chain.specs.WritingRefusals.{IsNoAnchor, RefusesHead, RefusesNewest, RefusesTurn}

-- ---- one call after another

-- what a later call tells of the pages as it saw them is told of the pages before it
pub seen_before : {D L : Type 0} (m : Meaning D) (a b : Pool D L) (image : Image) (batch : Changed)
    → KeepsStore m a b → Tells m a.disk image → (P : Pages → Type 0)
    → ((image : Image) → Tells m b.disk image → P (viewed b image batch)) → P (viewed a image batch)
seen_before m a b image batch kept tells P gives =
    subst P (viewed_on m a b image batch kept) (gives image (tells_on m a b image kept tells))

-- the pages as viewed before are viewed so later
pub seen_later : {D L : Type 0} (m : Meaning D) (a b : Pool D L) (image : Image) (batch : Changed)
    → KeepsStore m a b → (P : Pages → Type 0) → P (viewed a image batch) → P (viewed b image batch)
seen_later m a b image batch kept P holds = subst P (sym (viewed_on m a b image batch kept)) holds

-- ---- the head of a record

module _ {D L : Type 0} (m : Meaning D) (store : Pool D L) (pages : List BatchPage) (view : Pages)
    (rec : RecId) where
  pub head_cell : (fault : SpaceFault) → RefusesCellAt m store pages view rec fault
      → RefusesHead m store pages view rec fault
  head_cell (faults.Full most) refused = refused
  head_cell (faults.Damaged it) refused = inl refused
  head_cell (faults.Pool fault) refused = tt

  pub head_none : (found : Option Cell) (it : Damaged) → found ≡ cells_of view rec
      → IsNoAnchor rec found it → RefusesHead m store pages view rec (faults.Damaged it)
  head_none found it is none =
      inr (inl (subst (λ (cell : Option Cell). IsNoAnchor rec cell it) is none))

  pub head_owner : (fault : SpaceFault) → RefusesOwner m store pages rec.page (view rec.page.0) fault
      → RefusesHead m store pages view rec fault
  head_owner (faults.Full most) refused = refused
  head_owner (faults.Damaged it) refused = inr (inr refused)
  head_owner (faults.Pool fault) refused = tt

  pub newest_head : (fault : SpaceFault) → RefusesHead m store pages view rec fault
      → RefusesNewest m store pages view rec fault
  newest_head (faults.Full most) refused = refused
  newest_head (faults.Damaged it) refused = inl refused
  newest_head (faults.Pool fault) refused = tt

  pub newest_version : (newest : Link) (owner : ℕ) (fault : SpaceFault)
      → HasHead view rec newest owner → RefusesVersion m store pages view rec.page.0 newest fault
      → RefusesNewest m store pages view rec fault
  newest_version newest owner (faults.Full most) head refused = refused
  newest_version newest owner (faults.Damaged it) head refused = inr (newest, head.slot, refused)
  newest_version newest owner (faults.Pool fault) head refused = tt

  pub turn_data : (fault : SpaceFault) → RefusesData m store pages rec.page (view rec.page.0) fault
      → RefusesTurn m store pages view rec fault
  turn_data (faults.Full most) refused = refused
  turn_data (faults.Damaged it) refused = inl refused
  turn_data (faults.Pool fault) refused = tt

pub has_head : (view : Pages) (rec : RecId) (found : Option Cell) (newest : Link) (owner : ℕ)
    → found ≡ cells_of view rec → found ≡ Some (cells.Anchor newest)
    → OwnsPage rec.page (view rec.page.0) owner → HasHead view rec newest owner
has_head view rec found newest owner seen is owned = record {
  slot = sym seen ∙ is;
  owned = owned;
}
