-- The inventory page of a region, as one sees it who fills a batch.
use Rattle.std.proofs.Common.{◌≡◌, ◌∙◌, ℕ, List, ap, length, subst, sym}
use Rattle.std.proofs.lemmas.List.{length-replicate}
use Rattle.mg_base.specs.Disk.{Meaning}
use Rattle.mg_base.specs.Image.{blank}
use Rattle.mg_base.specs.declared.damage.Damaged.{Damaged}
use Rattle.mg_base.specs.declared.numbers.PageNo.{PageNo}
use Rattle.mg_image.specs.Form.{Pages}
use Rattle.mg_pool.specs.declared.batch.BatchPage.{BatchPage}
use Rattle.mg_pool.specs.declared.pool.Pool.{Pool}
use Rattle.mg_space.specs.Taking.{IsRegionDamage, MarksFixed}
use Rattle.mg_space.specs.View.{FindsPage, bytes_found}
use Rattle.mg_space.specs.declared.reading.Found.{Found}
use Rattle.mg_space.specs.declared.reading.Found.TheVariants as founds

-- the bytes of a page that is there
pub there_seen : (size : ℕ) (found : Found) (bytes page seen : List ℕ) → found ≡ founds.Page bytes
    → page ≡ bytes → bytes_found size found ≡ seen → page ≡ seen
there_seen size found bytes page seen is same read =
    same ∙ (sym (ap (λ (f : Found). bytes_found size f) is) ∙ read)

pub there_len : {D L : Type 0} (m : Meaning D) (store : Pool D L) (pages : List BatchPage) (n : ℕ)
    (found : Found) (bytes page : List ℕ) → found ≡ founds.Page bytes → page ≡ bytes
    → FindsPage m store pages n found → length page ≡ store.geometry.size
there_len m store pages n found bytes page is same finds = ap (λ (b : List ℕ). length b) same
    ∙ subst (λ (f : Found). FindsPage m store pages n f) is finds

-- a page that is not there is made as it reads
pub made_seen : (size : ℕ) (found : Found) (count : ℕ) (page seen : List ℕ)
    → found ≡ founds.Absent count → page ≡ blank size → bytes_found size found ≡ seen → page ≡ seen
made_seen size found count page seen is same read =
    same ∙ (sym (ap (λ (f : Found). bytes_found size f) is) ∙ read)

pub made_len : (size : ℕ) (page : List ℕ) → page ≡ blank size → length page ≡ size
made_len size page same = ap (λ (b : List ℕ). length b) same ∙ length-replicate {A = ℕ} size 0

-- what is said of the bytes of a page is said of the page
pub marks_on : (pages : Pages) (at place region : ℕ) (old new put : List ℕ) → at ≡ place
    → old ≡ pages at → put ≡ new → MarksFixed at region old new
    → MarksFixed place region (pages place) put
marks_on pages at place region old new put here was is marks =
    subst (λ (n : ℕ). MarksFixed n region (pages n) put) here
    (subst (λ (p : List ℕ). MarksFixed at region p put) was
    (subst (λ (p : List ℕ). MarksFixed at region old p) (sym is) marks))

pub damage_on : (pages : Pages) (at : PageNo) (place region : ℕ) (old : List ℕ) (damage : Damaged)
    → at.0 ≡ place → old ≡ pages at.0 → IsRegionDamage at region old damage
    → IsRegionDamage (record { 0 = place }) region (pages place) damage
damage_on pages at place region old damage here was damaged =
    subst (λ (n : ℕ). IsRegionDamage (record { 0 = n }) region (pages n) damage) here
    (subst (λ (p : List ℕ). IsRegionDamage at region p damage) was damaged)
