-- Why a number is not drawn.
use Rattle.std.proofs.Common.{◌≡◌, ◌≢◌, ◌<◌, ◌+◌, ◌-◌, ◌/◌, ◌%◌, ◌∙◌, ℕ, add-one, List, [], Result, Ok, Err, refl, sym, ap, subst, inl, inr}
use Rattle.std.specs.Prelude.{IfErr, IsErrAnd}
use Rattle.mg_base.specs.Checks.{verdict}
use Rattle.mg_base.specs.Disk.{Meaning}
use Rattle.mg_base.specs.Image.{Image}
use Rattle.mg_base.specs.declared.damage.Damaged.{Damaged}
use Rattle.mg_base.specs.declared.geometry.Geometry.{Geometry}
use Rattle.mg_base.specs.declared.numbers.PageNo.{PageNo}
use Rattle.mg_header.specs.HeaderPage.{reading, the_page}
use Rattle.mg_header.specs.declared.header.HeadFault.{HeadFault}
use Rattle.mg_header.specs.declared.header.Header.{Header}
use Rattle.mg_image.specs.Form.{Pages}
use Rattle.mg_image.specs.Inventory.{tip_before}
use Rattle.mg_pool.specs.Batch.{Changed}
use Rattle.mg_pool.specs.Dirty.{DirtyPages}
use Rattle.mg_pool.specs.Pool.{shown}
use Rattle.mg_pool.specs.declared.batch.BatchPage.{BatchPage}
use Rattle.mg_pool.specs.declared.pool.Pool.{Pool}
use Rattle.mg_space.specs.Taking.{RefusesTake}
use Rattle.mg_space.specs.View.{IsMissing, KeepsStore, RefusesRead, Tells, viewed}
use Rattle.mg_space.specs.ViewLaws.{tells_on, viewed_on}
use Rattle.mg_space.specs.declared.fault.SpaceFault.{SpaceFault}
use Rattle.mg_space.specs.declared.fault.SpaceFault.TheVariants as faults
use Rattle.mg_tip.specs.TipPage.{places, prev_in, tip_checks}
use Rattle.mg_txlist.specs.Refusals.{LacksHead, RefusesDraw, RefusesHead, RefusesLoad, RefusesTip, RefusesTips, head_damage, holder_of}
use Rattle.mg_txlist.proofs.DrawLemmas.{empty_view}

-- a fault that is handed on has the cause that it had
pub err_as : {T : Type 0} (result : Result T SpaceFault) (fault : SpaceFault) (Q : SpaceFault → Type 0)
    → IsErrAnd result (λ given. given ≡ fault) → Q fault → IfErr result Q
err_as (Ok x) fault Q is holds = tt
err_as (Err e) fault Q is holds = subst Q (sym is) holds

missing_any : {D L : Type 0} (m : Meaning D) (store : Pool D L) (batch : List BatchPage) (n count : ℕ)
    → IsMissing m store batch n count → IsMissing m store [] n count
missing_any m store batch n count missing = record {
  unput = refl;
  clean = missing.clean;
  count_is = missing.count_is;
  past = missing.past;
}

pub lacks_read : {D L : Type 0} (T : Type 0) (m : Meaning D) (store : Pool D L) (batch : List BatchPage)
    (fault : SpaceFault) → RefusesRead {T = T} m store batch the_page (Err fault)
    → LacksHead m store fault
lacks_read T m store batch (faults.Full limit) refused = refused
lacks_read T m store batch (faults.Damaged damage) refused =
    (refused.0, refused.1, missing_any m store batch 0 refused.0 refused.2)
lacks_read T m store batch (faults.Pool fault) refused = tt

pub head_lacks : {D L : Type 0} (m : Meaning D) (store : Pool D L) (size : ℕ) (b : List ℕ)
    (fault : SpaceFault) → LacksHead m store fault → RefusesHead m store size b fault
head_lacks m store size b (faults.Full limit) lacks = lacks
head_lacks m store size b (faults.Damaged damage) lacks = inl lacks
head_lacks m store size b (faults.Pool fault) lacks = tt

-- a header page that was read and is told as damaged
pub head_differs : {D L : Type 0} (m : Meaning D) (store : Pool D L) (size : ℕ) (read b : List ℕ)
    (fault : HeadFault) (answer : Result Header HeadFault) (damage : Damaged) → read ≡ b
    → answer ≡ reading read size → answer ≡ Err fault → damage ≡ head_damage size fault
    → RefusesHead m store size b (faults.Damaged damage)
head_differs m store size read b fault answer damage seen is was named =
    inr (fault, subst (λ (x : List ℕ). reading x size ≡ Err fault) seen (sym is ∙ was), named)

pub head_draw : {D L : Type 0} (m : Meaning D) (store : Pool D L) (g : Geometry) (t : ℕ) (pages : Pages)
    (fault : SpaceFault) → RefusesHead m store g.size (pages 0) fault
    → RefusesDraw m store g t pages fault
head_draw m store g t pages (faults.Full limit) refused = absurd refused
head_draw m store g t pages (faults.Damaged damage) refused = inl refused
head_draw m store g t pages (faults.Pool fault) refused = tt

take_draw : {D L : Type 0} (m : Meaning D) (store : Pool D L) (g : Geometry) (t : ℕ) (pages : Pages)
    (fault : SpaceFault) → t % places g.size ≡ 0 → RefusesTake g pages fault
    → RefusesDraw m store g t pages fault
take_draw m store g t pages (faults.Full limit) first refused = (first, refused)
take_draw m store g t pages (faults.Damaged damage) first refused = inr (inr (first, refused))
take_draw m store g t pages (faults.Pool fault) first refused = tt

-- no page is taken after the header was read
pub tip_draw : {D L : Type 0} (m : Meaning D) (start mid store : Pool D L) (image : Image)
    (batch : Changed) (t k : ℕ) (made : Geometry) (fault : SpaceFault) → KeepsStore m start mid
    → Tells m start.disk image → batch.pages ≡ [] → made ≡ mid.geometry → k ≡ places made.size
    → t % k ≡ 0
    → (Tells m mid.disk image → RefusesTake mid.geometry (viewed mid image batch) fault)
    → RefusesDraw m store start.geometry t (shown start.dirty image) fault
tip_draw m start mid store image batch t k made fault kept tells none made_is k_is first refused =
    take_draw m store start.geometry t (shown start.dirty image) fault
    (ap (λ (n : ℕ). t % n) (sym (k_is ∙ ap (λ (g : Geometry). places g.size) (made_is ∙ kept.geometry)))
    ∙ first)
    (subst (λ (g : Geometry). RefusesTake g (shown start.dirty image) fault) kept.geometry
    (subst (λ (v : Pages). RefusesTake mid.geometry v fault)
    (viewed_on m start mid image batch kept ∙ empty_view start image batch none)
    (refused (tells_on m start mid image kept tells))))

pub lacks_draw : {D L : Type 0} (m : Meaning D) (store : Pool D L) (g : Geometry) (t : ℕ) (pages : Pages)
    (fault : SpaceFault) → LacksHead m store fault → RefusesDraw m store g t pages fault
lacks_draw m store g t pages fault lacks =
    head_draw m store g t pages fault (head_lacks m store g.size (pages 0) fault lacks)

-- ---- the chain

-- a page that was read and tested is told as damaged
pub tip_read : {D L : Type 0} (T : Type 0) (m : Meaning D) (store : Pool D L) (holder : PageNo) (pages : Pages)
    (batch : List BatchPage) (sequence : ℕ) (n : PageNo) (fault : SpaceFault) → n.0 ≢ 0
    → RefusesRead {T = T} m store batch n (Err fault) → RefusesTip m store holder pages sequence n fault
tip_read T m store holder pages batch sequence n (faults.Full most) some refused = refused
tip_read T m store holder pages batch sequence n (faults.Damaged damage) some refused =
    inr (some, inl (refused.0, refused.1, missing_any m store batch n.0 refused.0 refused.2))
tip_read T m store holder pages batch sequence n (faults.Pool fault) some refused = tt

pub tip_differs : {D L : Type 0} (m : Meaning D) (store : Pool D L) (holder : PageNo) (pages : Pages)
    (sequence : ℕ) (n : PageNo) (read seen : List ℕ) (answer : Result (Unit {0}) Damaged)
    (damage : Damaged) → n.0 ≢ 0 → read ≡ seen → seen ≡ pages n.0
    → answer ≡ verdict n (tip_checks read n.0 sequence) → answer ≡ Err damage
    → RefusesTip m store holder pages sequence n (faults.Damaged damage)
tip_differs m store holder pages sequence n read seen answer damage some same is verdict_is was =
    inr (
      some,
      inr (subst (λ (b : List ℕ). verdict n (tip_checks b n.0 sequence) ≡ Err damage)
          (same ∙ is) (sym verdict_is ∙ was)),
    )

tips_from : {D L : Type 0} (m : Meaning D) (store : Pool D L) (pages : Pages) (last count k : ℕ) (holder n : PageNo)
    (fault : SpaceFault) → k < count → holder ≡ holder_of pages last k → n.0 ≡ tip_before pages last k
    → RefusesTip m store holder pages (count - k - 1) n fault → RefusesTips m store pages last count fault
tips_from m store pages last count k holder n (faults.Full most) inside held is refused = refused
tips_from m store pages last count k holder n (faults.Damaged damage) inside held is refused = (
  k,
  inside,
  subst (λ (x : ℕ). RefusesTip m store (holder_of pages last k) pages (count - k - 1) (record { 0 = x })
      (faults.Damaged damage)) is
      (subst (λ (p : PageNo). RefusesTip m store p pages (count - k - 1) n (faults.Damaged damage)) held refused),
)
tips_from m store pages last count k holder n (faults.Pool fault) inside held is refused = tt

-- a page of the chain is not read, after others were
pub tips_refused : {D L : Type 0} (m : Meaning D) (start mid store : Pool D L) (image : Image)
    (last count k : ℕ) (holder n : PageNo) (fault : SpaceFault) → KeepsStore m start mid
    → Tells m start.disk image → k < count → holder ≡ holder_of (shown start.dirty image) last k
    → n.0 ≡ tip_before (shown start.dirty image) last k
    → (Tells m mid.disk image → RefusesTip m store holder (shown mid.dirty image) (count - k - 1) n fault)
    → RefusesTips m store (shown start.dirty image) last count fault
tips_refused m start mid store image last count k holder n fault kept tells inside held is refused =
    tips_from m store (shown start.dirty image) last count k holder n fault inside held is
    (subst (λ (d : DirtyPages). RefusesTip m store holder (shown d image) (count - k - 1) n fault) kept.dirty
    (refused (tells_on m start mid image kept tells)))

-- the page that was read names the next one
pub holder_on : (pages : Pages) (last k : ℕ) (at : PageNo) → at.0 ≡ tip_before pages last k
    → at ≡ holder_of pages last (k + 1)
holder_on pages last k at is = rw (add-one k) (ap (λ (n : ℕ). record { 0 = n }) is)

-- the page before the one that was read is one further back
pub one_back : (pages : Pages) (last k at prev : ℕ) (read seen : List ℕ) → at ≡ tip_before pages last k
    → read ≡ seen → seen ≡ pages at → prev ≡ prev_in read → prev ≡ tip_before pages last (k + 1)
one_back pages last k at prev read seen is same content prev_is =
    rw (add-one k) (prev_is ∙ ap prev_in (same ∙ content) ∙ ap (λ (n : ℕ). prev_in (pages n)) is)

pub load_refused : {D L : Type 0} (m : Meaning D) (start mid store : Pool D L) (image : Image) (h : Header)
    (made : Geometry) (k : ℕ) (fault : SpaceFault) → KeepsStore m start mid → Tells m start.disk image
    → made ≡ mid.geometry → k ≡ places made.size
    → reading (shown start.dirty image 0) start.geometry.size ≡ Ok h
    → (Tells m mid.disk image → RefusesTips m store (shown mid.dirty image) h.last_tip.0 ((h.next.0 - 1) / k + 1) fault)
    → RefusesLoad m store start.geometry (shown start.dirty image) fault
load_refused m start mid store image h made k fault kept tells made_is k_is reads refused =
    of fault (subst (λ (d : DirtyPages). RefusesTips m store (shown d image)
    h.last_tip.0 ((h.next.0 - 1) / places start.geometry.size + 1) fault) kept.dirty
    (subst (λ (n : ℕ). RefusesTips m store (shown mid.dirty image) h.last_tip.0 ((h.next.0 - 1) / n + 1) fault)
    (k_is ∙ ap (λ (g : Geometry). places g.size) (made_is ∙ kept.geometry))
    (refused (tells_on m start mid image kept tells))))
  where
    of : (f : SpaceFault) → RefusesTips m store (shown start.dirty image)
        h.last_tip.0 ((h.next.0 - 1) / places start.geometry.size + 1) f
        → RefusesLoad m store start.geometry (shown start.dirty image) f
    of (faults.Full limit) tips = tips
    of (faults.Damaged damage) tips = inr (h, reads, tips)
    of (faults.Pool f) tips = tt

pub head_load : {D L : Type 0} (m : Meaning D) (store : Pool D L) (g : Geometry) (pages : Pages)
    (fault : SpaceFault) → RefusesHead m store g.size (pages 0) fault → RefusesLoad m store g pages fault
head_load m store g pages (faults.Full limit) refused = refused
head_load m store g pages (faults.Damaged damage) refused = inl refused
head_load m store g pages (faults.Pool fault) refused = tt
