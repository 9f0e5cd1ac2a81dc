-- A page is made readable, and its bytes are lent.
use Rattle.std.proofs.Common.{◌≡◌, ◌∙◌, ap, arith, refl, sym, is_some, unwrap_or, ℕ, List, Option, None, Some, Result, Ok, Err, length, false}
use Rattle.std.specs.Prelude.{IfErr}
use Rattle.std.proofs.lemmas.List.{get_or_past}
use Rattle.mg_base.specs.Disk.{Meaning}
use Rattle.mg_base.specs.Image.{Image, blank, page_at}
use Rattle.mg_base.specs.declared.geometry.Geometry.{Geometry}
use Rattle.mg_base.specs.declared.numbers.PageNo.{PageNo}
use Rattle.mg_image.specs.Form.{Pages}
use Rattle.mg_pool.specs.Batch.{Changed}
use Rattle.mg_pool.specs.Dirty.{content_of}
use Rattle.mg_pool.specs.Fault.{TellsFault}
use Rattle.mg_pool.specs.Pool.{IsPool, shown}
use Rattle.mg_pool.specs.declared.batch.BatchPage.{BatchPage}
use Rattle.mg_pool.specs.declared.pool.Pool.{Pool}
use Rattle.mg_space.specs.View.{IsMissing, KeepsStore, ReadsAlone, RefusesRead, Tells, pool_answer, viewed}
use Rattle.mg_space.specs.ViewLaws.{tells_on, viewed_on}
use Rattle.mg_space.specs.declared.fault.SpaceFault.{SpaceFault}
use Rattle.mg_space.specs.declared.fault.SpaceFault.TheVariants.{Full, Pool as OfPool, Damaged as OfPage}
use Rattle.mg_btree.specs.Reading.{Reads, RefusesBytes}

-- where content and number of pages of a disk are both told they agree: a law of every disk
abbrev pub AreCounted : {D : Type 0} → Meaning D → Type 0
AreCounted {D} m = (disk : D) (image : Image) (n : ℕ) → m.held disk ≡ Some image → m.count disk ≡ Some n
    → length image ≡ n

else_of : (o : Option (List ℕ)) (x : List ℕ) → is_some o ≡ false → unwrap_or o x ≡ x
else_of None x none = refl
else_of (Some y) x none = absurd cc

-- a page that is not there reads as zero
missing_blank : {D L : Type 0} (m : Meaning D) → AreCounted m → (store : Pool D L) (image : Image)
    (batch : Changed) (n count : ℕ) → IsPool m store → Tells m store.disk image
    → IsMissing m store batch.pages n count → viewed store image batch n ≡ blank store.geometry.size
missing_blank m counted store image batch n count pool tells missing =
    let long : length image ≡ count = counted store.disk image count tells.held missing.count_is in
    let beyond = missing.past in
    ap (λ (o : Option (List ℕ)). unwrap_or o (shown store.dirty image n)) missing.unput
    ∙ (else_of (content_of store.dirty n) (page_at store.dirty.size image n) missing.clean
    ∙ (get_or_past image n (blank store.dirty.size) (omega (arith, long, beyond))
    ∙ ap blank pool.page_size))

-- of a page that is made readable damage is told only where it is not there
pub hold_seen : {D L : Type 0} (m : Meaning D) → AreCounted m → (a b : Pool D L) (image : Image)
    (batch : Changed) (page : PageNo) (result : Result (Unit {0}) SpaceFault) → KeepsStore m a b
    → Tells m a.disk image → RefusesRead m b batch.pages page result
    → IfErr result (RefusesBytes a.geometry.size (viewed a image batch page.0))
hold_seen m counted a b image batch page (Ok x) kept tells refusal = tt
hold_seen m counted a b image batch page (Err (Full limit)) kept tells refusal = refusal
hold_seen m counted a b image batch page (Err (OfPool fault)) kept tells refusal = tt
hold_seen m counted a b image batch page (Err (OfPage damage)) kept tells refusal =
    sym (ap (λ (pages : Pages). pages page.0) (viewed_on m a b image batch kept))
    ∙ (missing_blank m counted b image batch page.0 refusal.0 kept.pool (tells_on m a b image kept tells)
    refusal.2 ∙ ap (λ (g : Geometry). blank g.size) kept.geometry)

-- and the call has only read
pub hold_reads : {D L : Type 0} (m : Meaning D) (a b : Pool D L) (pages : List BatchPage) (page : PageNo)
    (result : Result (Unit {0}) SpaceFault) → KeepsStore m a b → TellsFault m a b (pool_answer result)
    → RefusesRead m b pages page result → Reads m a b result
hold_reads m a b pages page result kept fault refusal = record {
  keeps = kept;
  fault = fault;
  own = own result refusal;
}
  where
    own : (result : Result (Unit {0}) SpaceFault) → RefusesRead m b pages page result → ReadsAlone result
    own (Ok x) refusal = tt
    own (Err (Full limit)) refusal = tt
    own (Err (OfPage damage)) refusal = tt
    own (Err (OfPool fault)) refusal = refusal

-- bytes that are lent then are those of the page as it was seen before
pub lent_seen : {D L : Type 0} (m : Meaning D) (a b : Pool D L) (batch : Changed) (page : ℕ)
    (bytes : List ℕ) → KeepsStore m a b
    → ((image : Image) → Tells m b.disk image → bytes ≡ viewed b image batch page)
    → (image : Image) → Tells m a.disk image → bytes ≡ viewed a image batch page
lent_seen m a b batch page bytes kept seen image tells = seen image (tells_on m a b image kept tells)
    ∙ ap (λ (pages : Pages). pages page) (viewed_on m a b image batch kept)

-- and of its length
pub lent_long : {D L : Type 0} (m : Meaning D) (a b : Pool D L) (bytes : List ℕ) → KeepsStore m a b
    → length bytes ≡ b.geometry.size → length bytes ≡ a.geometry.size
lent_long m a b bytes kept len = len ∙ ap (λ (g : Geometry). g.size) kept.geometry
