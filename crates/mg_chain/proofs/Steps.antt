-- How the refusals of the reading of a version are handed on.
use Rattle.mg_heap.specs.Reading.{RefusesData}
use Rattle.mg_base.specs.declared.numbers.RecId.{RecId}
use Rattle.std.specs.Prelude.{◌≡◌, ℕ, ◌≤◌, ◌-◌, List, Option, Result, Ok, Err, IsErr, IsErrAnd, MatchResult}
use Rattle.std.proofs.Common.{◌∙◌, sym, ap, subst, inl, inr, arith}
use Rattle.mg_base.specs.Disk.{Meaning}
use Rattle.mg_base.specs.Image.{Image}
use Rattle.mg_base.specs.declared.damage.Damaged.{Damaged}
use Rattle.mg_base.specs.declared.damage.Field.TheVariants as fields
use Rattle.mg_base.specs.declared.geometry.TheConstants.{GREATEST_LIMIT}
use Rattle.mg_image.specs.Form.{Pages}
use Rattle.mg_image.specs.Records.{cells_of}
use Rattle.mg_pool.specs.Batch.{Changed}
use Rattle.mg_pool.specs.declared.batch.BatchPage.{BatchPage}
use Rattle.mg_pool.specs.declared.pool.Pool.{Pool}
use Rattle.mg_space.specs.View.{KeepsStore, Tells, viewed}
use Rattle.mg_space.specs.ViewLaws.{tells_on, viewed_on}
use Rattle.mg_space.specs.declared.fault.SpaceFault.{SpaceFault}
use Rattle.mg_space.specs.declared.fault.SpaceFault.TheVariants as faults
use Rattle.mg_version.specs.declared.cell.Cell.{Cell}
use Rattle.mg_version.specs.declared.cell.Link.{Link}
use Rattle.mg_version.specs.declared.cell.Version.{Version}
use Rattle.mg_chain.specs.Chains.{Meets}
use Rattle.mg_chain.specs.Refusals.{RefusesCellAt, RefusesVersion, version, damage, IsLinkDamage, past, target, IsOfOther, writer_in}

-- a fault that a call met is handed on
pub handed_on : {T : Type 0} (result : Result T SpaceFault) (fault : SpaceFault)
    (P : T → Type 0) (Q : SpaceFault → Type 0) → IsErr result
    → IsErrAnd result (λ given. given ≡ fault) → Q fault → MatchResult result P Q
handed_on (Ok x) fault P Q err is holds = absurd cc
handed_on (Err e) fault P Q err is holds = subst Q (sym is) holds

-- ---- one call after another

-- a version that was read after a call that has only read is one of the pages before that call
pub met_on : {D L : Type 0} (m : Meaning D) (a b c : Pool D L) (image : Image) (batch : Changed)
    (holder : ℕ) (l : Link) (result : Result Version SpaceFault) → KeepsStore m a b
    → Tells m a.disk image
    → ((image : Image) → Tells m b.disk image → MatchResult result
    (Meets (cells_of (viewed b image batch)) l)
    (RefusesVersion m c batch.pages (viewed b image batch) holder l))
    → MatchResult result (Meets (cells_of (viewed a image batch)) l)
    (RefusesVersion m c batch.pages (viewed a image batch) holder l)
met_on m a b c image batch holder l result kept tells gives =
    let P : Pages → Type 0 = λ view. MatchResult result (Meets (cells_of view) l)
    (RefusesVersion m c batch.pages view holder l) in
    subst P (viewed_on m a b image batch kept) (gives image (tells_on m a b image kept tells))

-- ---- why a version is not read

module _ {D L : Type 0} (m : Meaning D) (store : Pool D L) (pages : List BatchPage) (view : Pages)
    (holder : ℕ) (l : Link) where
  pub past_refuses : (it : Damaged) → it ≡ damage holder fields.Link l.rec.page.0 (GREATEST_LIMIT - 1)
      → GREATEST_LIMIT ≤ l.rec.page.0 → RefusesVersion m store pages view holder l (faults.Damaged it)
  past_refuses it is long =
      let P : Damaged → Type 0 = λ d. IsLinkDamage view holder l d in inr (subst P (sym is) (past long))

  pub cell_refuses : (fault : SpaceFault) → RefusesCellAt m store pages view l.rec fault
      → RefusesVersion m store pages view holder l fault
  cell_refuses (faults.Full most) refuses = refuses
  cell_refuses (faults.Damaged it) refuses = inl refuses
  cell_refuses (faults.Pool fault) refuses = tt

  pub target_refuses : (found : Option Cell) (it : Damaged) → found ≡ cells_of view l.rec
      → IsOfOther l.tx.0 found
      → it ≡ damage l.rec.page.0 fields.Target (writer_in found) l.tx.0
      → RefusesVersion m store pages view holder l (faults.Damaged it)
  target_refuses found it is other damage_is =
      let P : Damaged → Type 0 = λ d. IsLinkDamage view holder l d in
      let Q : Option Cell → Type 0 = λ cell. IsOfOther l.tx.0 cell in
      inr (subst P (sym (damage_is ∙ ap (λ (cell : Option Cell).
      damage l.rec.page.0 fields.Target (writer_in cell) l.tx.0) is)) (target (subst Q is other)))

-- why the cell of a place is not read: its page is not
pub data_refuses : {D L : Type 0} (m : Meaning D) (store : Pool D L) (pages : List BatchPage) (view : Pages)
    (at : RecId) (fault : SpaceFault) → RefusesData m store pages at.page (view at.page.0) fault
    → RefusesCellAt m store pages view at fault
data_refuses m store pages view at (faults.Full most) refuses = refuses
data_refuses m store pages view at (faults.Damaged it) refuses = inl refuses
data_refuses m store pages view at (faults.Pool fault) refuses = tt
