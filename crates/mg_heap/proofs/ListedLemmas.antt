-- Lemmas of telling whether a slot is a record of a table.
use Rattle.std.proofs.Common.{◌≡◌, ◌∙◌, ℕ, Bool, true, false, List, Option, None, Some, arith, ap, inl, inr, length, refl, subst, sym, unwrap_or}
use Rattle.std.specs.Bool.{OnFalse}
use Rattle.std.specs.Prelude.{◌↔◌, IsTrue}
use Rattle.std.proofs.lemmas.List.{get_or_past}
use Rattle.mg_base.specs.CheckLaws.{passes_from_verdict}
use Rattle.mg_base.specs.Checks.{common_checks}
use Rattle.mg_base.specs.Disk.{Meaning}
use Rattle.mg_base.specs.Image.{Image, blank, page_at}
use Rattle.mg_base.specs.declared.damage.Damaged.{Damaged}
use Rattle.mg_base.specs.declared.numbers.PageNo.{PageNo}
use Rattle.mg_base.specs.declared.numbers.RecId.{RecId}
use Rattle.mg_image.specs.Form.{Pages}
use Rattle.mg_pool.specs.Batch.{Changed}
use Rattle.mg_pool.specs.Dirty.{content_of}
use Rattle.mg_pool.specs.Pool.{shown}
use Rattle.mg_pool.specs.declared.batch.BatchPage.{BatchPage}
use Rattle.mg_pool.specs.declared.pool.Pool.{Pool}
use Rattle.mg_slots.specs.DamageLaws.{damaged_is_not_lawful}
use Rattle.mg_slots.specs.DataPage.{cell_of}
use Rattle.mg_slots.specs.declared.page.TheConstants.{DATA_KIND}
use Rattle.mg_space.specs.View.{IsMissing, KeepsStore, Tells, viewed}
use Rattle.mg_space.specs.ViewLaws.{tells_on, viewed_on}
use Rattle.mg_space.specs.declared.fault.SpaceFault.{SpaceFault}
use Rattle.mg_space.specs.declared.fault.SpaceFault.TheVariants as faults
use Rattle.mg_space.specs.declared.links.FireLinks.{FireLinks}
use Rattle.mg_heap.specs.Listed.{IsOfCache, IsRecordAt, IsRecordOf, NamesPlace, RefusesRecordOf}
use Rattle.mg_heap.specs.ListedLaws.{one_place}
use Rattle.mg_heap.specs.Places.{FindsPlace, RefusesPlace}
use Rattle.mg_heap.specs.Reading.{IsSomeData, RefusesData, owner_in, sequence_in}
use Rattle.mg_heap.specs.Walk.{is_primary}
use Rattle.mg_heap.proofs.StandLemmas.{else_of, no_kind}

-- ---- a page that is not read as a data page

-- a page that is missing, or in which a field differs, is none
pub none_read : {D : Type 0} (m : Meaning D)
    → ((disk : D) (image : Image) (n : ℕ) → m.held disk ≡ Some image → m.count disk ≡ Some n
    → length image ≡ n)
    → (store : Pool D FireLinks) (image : Image) (batch : Changed) (page : PageNo) (damage : Damaged)
    → Tells m store.disk image
    → RefusesData m store batch.pages page (viewed store image batch page.0) (faults.Damaged damage)
    → IsSomeData page (viewed store image batch page.0) → ⊥
none_read m counted store image batch page damage tells (inl absent) is =
    no_kind (viewed store image batch page.0) store.dirty.size page.0 DATA_KIND
    (owner_in (viewed store image batch page.0)) (sequence_in (viewed store image batch page.0))
    (blank_there absent.0 absent.2) (λ zero_. absurd (omega (arith, zero_)))
    (passes_from_verdict page (common_checks (viewed store image batch page.0) page.0 DATA_KIND
    (owner_in (viewed store image batch page.0)) (sequence_in (viewed store image batch page.0))) is.common)
  where
    blank_there : (count : ℕ) → IsMissing m store batch.pages page.0 count
        → viewed store image batch page.0 ≡ blank store.dirty.size
    blank_there count missing =
        let long : length image ≡ count = counted store.disk image count tells.held missing.count_is in
        let beyond = missing.past in
        ap (λ (o : Option (List ℕ)). unwrap_or o (shown store.dirty image page.0)) missing.unput
        ∙ (else_of (content_of store.dirty page.0) (page_at store.dirty.size image page.0) missing.clean
        ∙ get_or_past image page.0 (blank store.dirty.size) (omega (arith, long, beyond)))
none_read m counted store image batch page damage tells (inr none) is = damaged_is_not_lawful
    (viewed store image batch page.0) page (owner_in (viewed store image batch page.0))
    (sequence_in (viewed store image batch page.0)) damage none is.common is.lawful

-- nor was it one before it was asked for
pub none_started : {D : Type 0} (m : Meaning D)
    → ((disk : D) (image : Image) (n : ℕ) → m.held disk ≡ Some image → m.count disk ≡ Some n
    → length image ≡ n)
    → (start store : Pool D FireLinks) (image : Image) (batch : Changed) (page : PageNo) (damage : Damaged)
    → KeepsStore m start store → Tells m start.disk image
    → RefusesData m store batch.pages page (viewed start image batch page.0) (faults.Damaged damage)
    → IsSomeData page (viewed start image batch page.0) → ⊥
none_started m counted start store image batch page damage kept tells = subst
    (λ (pages : Pages). RefusesData m store batch.pages page (pages page.0) (faults.Damaged damage)
    → IsSomeData page (pages page.0) → ⊥) (viewed_on m start store image batch kept)
    (none_read m counted store image batch page damage (tells_on m start store image kept tells))

-- what is told where a test fails
pub on_false : {P : Type 0} (b : Bool) → b ≡ false → OnFalse b P → P
on_false true is holds = absurd cc
on_false false is holds = holds

-- ---- the place that a page names

pub not_there : (b : List ℕ) (owner : ℕ) (rec : RecId)
    → ((owner_in b ≡ owner) × (is_primary (cell_of b rec.slot) ≡ true) → ⊥) → IsRecordAt b owner rec → ⊥
not_there b owner rec other is = other (is.its, is.primary)

-- ---- a record

-- no place is named, so it is no record
pub none_named : (pages : Pages) (owner : ℕ) (rec : RecId) (named : Option ℕ)
    → ((place : ℕ) → named ≡ Some place → ⊥) → NamesPlace (pages rec.page.0) owner rec named
    → IsTrue false ↔ IsRecordOf pages owner rec
none_named pages owner rec None other names = (λ no. absurd cc, λ is. absurd (names is.stands))
none_named pages owner rec (Some place) other names = absurd (other place refl)

-- what the table has at the place that is named decides
pub told_by : (pages : Pages) (owner place : ℕ) (rec : RecId) (named : Option ℕ) (found : Option PageNo)
    (is : Bool) → named ≡ Some place → NamesPlace (pages rec.page.0) owner rec named
    → FindsPlace pages owner place found → IsTrue is ↔ (found ≡ Some rec.page)
    → IsTrue is ↔ IsRecordOf pages owner rec
told_by pages owner place rec named found is some names finds tells = (
  (λ true_. record {
    stands = at.0;
    listed = subst (λ (k : ℕ). FindsPlace pages owner k (Some rec.page)) at.1
        (subst (FindsPlace pages owner place) (tells.0 true_) finds);
  }),
  (λ it. tells.1 (one_place pages owner place rec.page found
      (subst (λ (k : ℕ). FindsPlace pages owner k (Some rec.page)) (sym at.1) it.listed) finds)),
)
  where
    at : IsRecordAt (pages rec.page.0) owner rec × (place ≡ sequence_in (pages rec.page.0))
    at = subst (NamesPlace (pages rec.page.0) owner rec) some names

module _ {D L : Type 0} (m : Meaning D) (store : Pool D L) (batch : List BatchPage) (pages : Pages)
    (owner : ℕ) (rec : RecId) where
  pub cache_refuses : (fault : SpaceFault) → IsOfCache fault
      → RefusesRecordOf m store batch pages owner rec fault
  cache_refuses (faults.Full limit) of = absurd of
  cache_refuses (faults.Damaged damage) of = absurd of
  cache_refuses (faults.Pool fault) of = tt

  pub place_refuses : (place : ℕ) (named : Option ℕ) (fault : SpaceFault) → named ≡ Some place
      → NamesPlace (pages rec.page.0) owner rec named → RefusesPlace m store batch pages owner place fault
      → RefusesRecordOf m store batch pages owner rec fault
  place_refuses place named (faults.Full limit) some names refused = refused
  place_refuses place named (faults.Damaged damage) some names refused =
      let at : IsRecordAt (pages rec.page.0) owner rec × (place ≡ sequence_in (pages rec.page.0)) =
      subst (NamesPlace (pages rec.page.0) owner rec) some names in (
        at.0,
        subst (λ (k : ℕ). RefusesPlace m store batch pages owner k (faults.Damaged damage)) at.1 refused,
      )
  place_refuses place named (faults.Pool fault) some names refused = tt
