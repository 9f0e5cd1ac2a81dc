-- A table that stands, in pages that change cell by cell.
use Rattle.std.proofs.Common.{◌≡◌, ◌≢◌, ◌∙◌, ◌⊎◌, inl, inr, ◌<◌, ℕ, suc, false, List, [], ◌∷◌, Option, None, Some, refl, sym, ap, subst, is_some}
use Rattle.std.proofs.Math.Path.{fun_ext}
use Rattle.std.proofs.lemmas.Bool.{cases_eq}
use Rattle.mg_base.specs.Checks.{PassesAll, common_checks}
use Rattle.mg_base.specs.declared.geometry.TheConstants.{GREATEST_LIMIT}
use Rattle.mg_base.specs.declared.numbers.RecId.{RecId}
use Rattle.mg_base.specs.declared.transaction.TxState.{TxState}
use Rattle.mg_heap.specs.Changing.{FreesCellAt, PutsCellAt}
use Rattle.mg_heap.specs.Reading.{owner_in}
use Rattle.mg_tie_laws.specs.CellTies.{HasLawfulCells, sets_page}
use Rattle.mg_image.specs.Form.{Pages, packed_form}
use Rattle.mg_image.specs.Records.{Reading}
use Rattle.mg_image.specs.Sound.{HasHeader, HasInventory, HasTablePages, HasTransactions, IsCellOf, IsSoundBy, IsTableData, IsTablePointer}
use Rattle.mg_image.specs.Tables.{EachFrom, Has, Layout, LinkChain, Stand, ended, goes}
use Rattle.mg_image_overlay_laws.specs.pages.DataPages.{ChangesData, all_passes, header_kept, inventory_kept, kind_of, stands_kept, transactions_kept}
use Rattle.mg_model.specs.declared.table.Table.{Table}
use Rattle.mg_pointer.specs.PointerPage.{next_in}
use Rattle.mg_slots.specs.Changes.{SetsCell}
use Rattle.mg_slots.specs.DataPage.{cell_of}
use Rattle.mg_slots.specs.declared.page.TheConstants.{DATA_KIND}
use Rattle.mg_image_overlay_laws.specs.tables.Growing.{IsTableOf}
use Rattle.mg_image_overlay_laws.specs.kept.Knowing.{its_pages}

-- where a table stands, without its indexes
abbrev pub bare : Stand → Stand
bare s = record s { table = record s.table { indexes = [] }; trees = [] }

-- A table stands on pages: its chain and its data pages are as soundness wants them, and so are the header, the
-- inventories and the pages of transactions.
pub record IsStanding (size : ℕ) (pages : Pages) (stand : Stand) : Type 0 where
  pub header : HasHeader size pages
  pub inventory : HasInventory size pages
  pub transactions : HasTransactions size pages
  pub has : HasTablePages false size pages (bare stand)

bare_has : (size : ℕ) (pages : Pages) (stand : Stand) → HasTablePages false size pages stand
    → HasTablePages false size pages (bare stand)
bare_has size pages stand has = record {
  first = has.first;
  chain = has.chain;
  entries = has.entries;
  pointers = has.pointers;
  data_pages = has.data_pages;
  trees = tt;
}

-- on a sound image each table stands
pub sound_standing : (size : ℕ) (state : ℕ → TxState) (pages : Pages) (layout : Layout) (r : Reading)
    → IsSoundBy packed_form size state pages layout r → (table : Table) (its : IsTableOf layout table)
    → IsStanding size pages its.stand
sound_standing size state pages layout r sound table its = record {
  header = sound.header;
  inventory = sound.inventory;
  transactions = sound.transactions;
  has = bare_has size pages its.stand (its_pages packed_form size state pages layout r sound table its);
}

-- ---- what its pages have

each_has : (P : ℕ → ℕ → Type 0) (at : ℕ) (ns : List ℕ) (n : ℕ) → EachFrom P at ns → Has ns n
    → (k : ℕ) × P k n
each_has P at [] n each listed = absurd listed
each_has P at (x ∷ xs) n each (inl same) = (at, subst (P at) (sym same) each.0)
each_has P at (x ∷ xs) n each (inr later) = each_has P (suc at) xs n each.1 later

names_owner : (b : List ℕ) (n owner at : ℕ) → PassesAll (common_checks b n DATA_KIND owner at)
    → owner_in b ≡ owner
unfolding common_checks
names_owner b n owner at passes = passes.1.1.1.1.0

first_below : (size : ℕ) (pages : Pages) (owner at first : ℕ) (ns : List ℕ)
    → LinkChain (λ n. next_in (pages n)) first ns → first ≢ 0
    → EachFrom (IsTablePointer size pages owner) at ns → first < GREATEST_LIMIT
first_below size pages owner at _ _ ended some each = absurd (some refl)
first_below size pages owner at _ _ (goes n ns not_ rest) some each = each.0.below

module _ (size : ℕ) (pages : Pages) (stand : Stand) (is : IsStanding size pages stand) where
  pub data_there : (n : ℕ) → Has stand.data_pages n
      → (k : ℕ) × IsTableData false size pages stand.table.pointer.0 k n
  data_there n listed = each_has (IsTableData false size pages stand.table.pointer.0) 0 stand.data_pages n
      is.has.data_pages listed

  pub cells_there : (n : ℕ) → Has stand.data_pages n → HasLawfulCells false pages n
  cells_there n listed =
      let its = data_there n listed in record {
        below = its.1.wanted.below;
        kind = kind_of (pages n) n DATA_KIND stand.table.pointer.0 its.0 []
            (all_passes (common_checks (pages n) n DATA_KIND stand.table.pointer.0 its.0) its.1.wanted.fields);
        cells = its.1.cells;
      }

  pub owner_there : (n : ℕ) → Has stand.data_pages n → owner_in (pages n) ≡ stand.table.pointer.0
  owner_there n listed =
      let its = data_there n listed in
      names_owner (pages n) n stand.table.pointer.0 its.0 its.1.wanted.fields

  pub owner_below : stand.table.pointer.0 < GREATEST_LIMIT
  owner_below = first_below size pages stand.table.pointer.0 0 stand.table.pointer.0 stand.pointers is.has.chain
      is.has.first is.has.pointers

  -- ---- it stands still after a cell has changed

  pub changed_standing : (new : Pages) (b : ℕ) → ChangesData false pages new b → IsStanding size new stand
  changed_standing new b change = record {
    header = header_kept false size pages new b change is.header is.inventory is.transactions;
    inventory = inventory_kept false size pages new b change is.header is.inventory is.transactions;
    transactions = transactions_kept false size pages new b change is.header is.inventory is.transactions;
    has = (stands_kept false size pages new b change is.header is.inventory is.transactions
        (bare stand ∷ []) (tt, tt) (is.has, tt)).0;
  }

  pub set_standing : (new : Pages) (at : RecId) (cell : Option (List ℕ)) → Has stand.data_pages at.page.0
      → SetsCell (pages at.page.0) (new at.page.0) at.slot cell
      → ((n : ℕ) → n ≢ at.page.0 → new n ≡ pages n)
      → ((bytes : List ℕ) → cell ≡ Some bytes → IsCellOf false bytes) → IsStanding size new stand
  set_standing new at cell listed sets others may = changed_standing new at.page.0
      (sets_page false pages new at cell sets others (cells_there at.page.0 listed) may)

  pub put_standing : (new : Pages) (at : RecId) (bytes : List ℕ) → Has stand.data_pages at.page.0
      → PutsCellAt pages new at bytes → IsCellOf false bytes → IsStanding size new stand
  put_standing new at bytes listed puts may = set_standing new at (Some bytes) listed puts.puts.sets puts.others
      (λ other is_. by other is_)
    where
      by : (other : List ℕ) → Some bytes ≡ Some other → IsCellOf false other
      by other is_ = let same : bytes ≡ other = cc in subst (IsCellOf false) same may

  pub free_standing : (new : Pages) (at : RecId) → Has stand.data_pages at.page.0 → FreesCellAt pages new at
      → IsStanding size new stand
  free_standing new at listed frees = by (cell_of (pages at.page.0) at.slot) refl
    where
      by : (cell : Option (List ℕ)) → cell_of (pages at.page.0) at.slot ≡ cell → IsStanding size new stand
      by None none = subst (λ (ps : Pages). IsStanding size ps stand) (sym (fun_ext (λ n. same n (cases_eq n at.page.0))))
          is
        where
          same : (n : ℕ) → (n ≡ at.page.0) ⊎ (n ≢ at.page.0) → new n ≡ pages n
          same n (inl here_) = ap new here_ ∙ (frees.unused none ∙ ap pages (sym here_))
          same n (inr other) = frees.others n other
      by (Some bytes) some = set_standing new at None listed
          (frees.used (ap is_some some)).sets frees.others
          (λ other is_. absurd (nothing other is_))
        where
          nothing : (other : List ℕ) → None ≡ Some other → ⊥
          nothing other is_ = absurd cc
