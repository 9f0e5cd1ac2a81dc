-- Where a new table stands, and what of its pages a batch with it has to leave.
use Rattle.std.specs.Prelude.{◌≡◌, ◌≢◌, ◌<◌, ℕ, true, false, List, [], ◌∷◌}
use Rattle.mg_base.specs.declared.geometry.TheConstants.{GREATEST_LIMIT}
use Rattle.mg_base.specs.declared.transaction.TxState.{TxState}
use Rattle.mg_value.specs.declared.shape.Shape.{Shape}
use Rattle.mg_pointer.specs.PointerPage.{new_pointer_page}
use Rattle.mg_image.specs.Form.{Form, Pages}
use Rattle.mg_image.specs.Inventory.{is_used, next_of}
use Rattle.mg_image.specs.Records.{Reading}
use Rattle.mg_image.specs.Sound.{IsSoundBy}
use Rattle.mg_image.specs.Tables.{Layout, Stand}
use Rattle.mg_tie_laws.specs.Others.{IsLeft, IsOther}
use Rattle.mg_engine_change_laws.specs.tables.JoinedBatch.{HasPages}
use Rattle.mg_engine_step_laws.specs.commits.ListShows.{TipsStay}
use Rattle.mg_table_batch.specs.Filling.{table_at}

-- a new table stands with its first pointer page alone
abbrev pub stand_at : List ℕ → Shape → ℕ → Stand
stand_at name shape page =
    record { table = table_at name shape page; pointers = page ∷ []; data_pages = []; trees = [] }

-- A batch took a free page and made it the first pointer page of a table. The header is as it was, and the pages of
-- transactions; what was in use is so still; and so is each page of another owner than the catalog.
pub record LeavesPages (size : ℕ) (old new : Pages) (owner page : ℕ) : Type 0 where
  pub header : new 0 ≡ old 0
  pub next : next_of new ≡ next_of old
  pub tips : TipsStay size old new
  pub used : (m : ℕ) → is_used size old m ≡ true → is_used size new m ≡ true
  pub left : (m : ℕ) → IsOther size old owner m → IsLeft size old new owner m
  -- the page
  pub some : page ≢ 0
  pub below : page < GREATEST_LIMIT
  pub was_free : is_used size old page ≡ false
  pub made : new page ≡ new_pointer_page size page page 0
  pub other : IsOther size new owner page

-- so the pages of all tables are there
abbrev pub LeftPagesAreThere : Form → Type 0
LeftPagesAreThere form = (size : ℕ) (state later : ℕ → TxState) (old new : Pages) (a c : Layout) (r rc : Reading)
    (name : List ℕ) (shape : Shape) (page : ℕ) → IsSoundBy form size state old a r → IsSoundBy form size later new c rc
    → LeavesPages size old new a.catalog.table.pointer.0 page
    → HasPages form size old new a c (stand_at name shape page)
