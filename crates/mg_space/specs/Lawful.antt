-- What a page has to be, by its bytes and its number alone: the page that it says it is.
use Rattle.std.specs.Prelude.{◌≡◌, ℕ, List, Option, Ok}
use Rattle.mg_base.specs.Fields.{u32_at}
use Rattle.mg_base.specs.declared.fields.TheConstants.{OWNER_AT, SEQUENCE_AT}
use Rattle.mg_base.specs.declared.numbers.PageNo.{PageNo}
use Rattle.mg_pool.specs.Batch.{content_in}
use Rattle.mg_pool.specs.Change.{or_else}
use Rattle.mg_pool.specs.Pool.{resident}
use Rattle.mg_pool.specs.declared.batch.BatchPage.{BatchPage}
use Rattle.mg_pool.specs.declared.pool.Pool.{Pool}
use Rattle.mg_slots.specs.DataPage.{IsDataPage}
use Rattle.mg_slots.specs.Verdict.{common_verdict}
use Rattle.mg_slots.specs.declared.page.TheConstants.{DATA_KIND}

-- a data page of the owner and of the place that it names
pub record IsLawfulData (page : PageNo) (b : List ℕ) : Type 0 where
  pub common : common_verdict b page DATA_KIND (u32_at b OWNER_AT) (u32_at b SEQUENCE_AT) ≡ Ok tt
  pub lawful : IsDataPage b

-- the page of a number is the page that it says it is
abbrev pub IsLawfulPage : ℕ → List ℕ → Type 0
IsLawfulPage page b = IsLawfulData (record { 0 = page }) b

-- what one who fills a batch reads of a page without the disk: the batch's content, else the cache's
abbrev pub readable : {D L : Type 0} → Pool D L → List BatchPage → ℕ → Option (List ℕ)
readable store pages page = or_else (content_in pages page) (resident store page)
