-- A new table comes into a batch: while the catalog has empty data pages its rows take no free page, and each of them
-- leaves at most two fewer of these.
use Rattle.std.proofs.Common.{◌≡◌, ◌≤◌, ◌+◌, ◌-◌, ◌*◌, ℕ, zero, suc, List, [], ◌∷◌, length, sym, ap, subst, arith, refl}
use Rattle.mg_base.specs.Disk.{Meaning}
use Rattle.mg_base.specs.Image.{Image}
use Rattle.mg_base.specs.declared.geometry.Geometry.{Geometry}
use Rattle.mg_base.specs.declared.numbers.RecId.{RecId}
use Rattle.mg_chain.specs.Writing.{MakesRecord}
use Rattle.mg_image.specs.Form.{Pages, Row}
use Rattle.mg_model.specs.declared.table.Table.{Table}
use Rattle.mg_no_damage_laws.specs.CatalogGrowth.{StoresShort}
use Rattle.mg_no_damage_laws.specs.EmptyPages.{HasEmpty, row_cell, row_makes, row_on}
use Rattle.mg_space.specs.FreePages.{TakingKeepsRegions}
use Rattle.mg_no_damage_laws.specs.NewTables.{EachRow}
use Rattle.mg_pool.specs.Batch.{Changed}
use Rattle.mg_pool.specs.declared.pool.Pool.{Pool}
use Rattle.mg_space.specs.Taking.{IsGeometry}
use Rattle.mg_space.specs.TakingLaws.{page_sizes}
use Rattle.mg_space.specs.View.{viewed}
use Rattle.mg_space.specs.declared.links.FireLinks.{FireLinks}
use Rattle.mg_table_batch.specs.Filling.{FillsTable, PutsNaming, PutsRow, PutsRows, PutsTable, puts_more, puts_none, rows_at}
use Rattle.mg_tie_laws.specs.Batches.{viewed_same}
use Rattle.mg_value.specs.declared.shape.Shape.{Shape}
use Rattle.mg_version.specs.declared.cell.Version.{Version}
use Rattle.mg_free_page_laws.specs.FreePages.{TakesAtMost}
use Rattle.mg_free_page_laws.specs.FreeLaws.{both_taken, same_taken, takes_more}
use Rattle.mg_free_page_laws.specs.KindLaws.{data_off, one_changed}
use Rattle.mg_free_page_laws.specs.RowSpending.{BatchLaws}
use Rattle.mg_free_page_laws.specs.TableSpending.{first_taken, row_taken}

-- so many data pages of a table are empty, where that is more than none
abbrev pub HasLeft : ℕ → Pages → ℕ → ℕ → Type 0
HasLeft size pages owner zero = Unit {0}
HasLeft size pages owner (suc left) = HasEmpty size pages owner (suc left)

pub has_left : (size : ℕ) (pages : Pages) (owner left : ℕ) → HasEmpty size pages owner left
    → HasLeft size pages owner left
has_left size pages owner zero has = tt
has_left size pages owner (suc left) has = has

module _ (keeps : TakingKeepsRegions) {D : Type 0} (m : Meaning D) (laws : BatchLaws m) (store : Pool D FireLinks)
    (image : Image) (lawful : IsGeometry store.geometry) (catalog : Table) (t : ℕ) where
  abbrev g : Geometry
  g = store.geometry

  abbrev view : Changed → Pages
  view b = viewed store image b

  -- nothing was done
  still : (b : Changed) (most : ℕ) → TakesAtMost g (view b) (view b) most
  still b most = takes_more g (view b) (view b) 0 most (omega arith) (same_taken g (view b) (view b) (λ n. refl))

  -- ---- a row

  -- a record whose version comes onto a page of the table: two data pages are changed
  made_none : (old new : Changed) (rec : RecId) (v : Version)
      (it : MakesRecord store image old new catalog.pointer.0 rec v) → it.makes.adds.given ≡ old
      → TakesAtMost g (view old) (view new) 0
  made_none old new rec v it same = subst (λ (b : Changed). TakesAtMost g (view b) (view new) 0) same
      (both_taken g (view it.makes.adds.given) (view it.makes.put) (view new) 0 0
      (one_changed g (view it.makes.adds.given) (view it.makes.put) it.makes.at.page.0
      (λ regions. data_off g (view it.makes.adds.given) it.makes.at.page regions it.makes.adds.puts.data_page)
      it.makes.adds.puts.others)
      (both_taken g (view it.makes.put) (view it.makes.turned) (view new) 0 0
      (one_changed g (view it.makes.put) (view it.makes.turned) rec.page.0
      (λ regions. data_off g (view it.makes.put) rec.page regions it.makes.turns.puts.puts.data_page)
      it.makes.turns.puts.puts.others)
      (same_taken g (view it.makes.turned) (view new)
      (λ n. ap (λ (ps : Pages). ps n) (viewed_same store image it.makes.turned new it.makes.ordered.same_pages)))))

  -- A row was put, where so many data pages of the catalog were empty. Where one was it takes no page, else four at
  -- most; and two are no longer empty, or all that were.
  pub record RowTakes (left : ℕ) (old new : Changed) : Type 0 where
    pub spent : ℕ
    pub few : spent + 2 * left ≤ 4 + 2 * (left - 2)
    pub takes : TakesAtMost g (view old) (view new) spent
    pub later : HasLeft g.size (view new) catalog.pointer.0 (left - 2)

  pub row_takes : (left : ℕ) (old new : Changed) (row : Row) (at : RecId) → StoresShort catalog t row
      → HasLeft g.size (view old) catalog.pointer.0 left → PutsRow store image catalog t old new row at
      → RowTakes left old new
  row_takes zero old new row at short has puts = record {
    spent = 4;
    few = omega arith;
    takes = row_taken keeps m laws store image lawful catalog t old new row at puts;
    later = tt;
  }
  row_takes (suc left) old new row at short has puts = record {
    spent = 0;
    few = omega arith;
    takes = made_none old new at puts.version
        (row_makes store image catalog least old (suc left) has some t new row at puts body)
        (row_cell store image catalog least old (suc left) has some t new row at puts body);
    later = has_left g.size (view new) catalog.pointer.0 (suc left - 2)
        (row_on store image catalog least old (suc left) has some t new row at puts body);
  }
    where
      some : 1 ≤ suc left
      some = omega arith

      least : 1024 ≤ store.geometry.size
      least = (page_sizes store.geometry.size lawful.size).0

      body : length puts.version.body ≤ 216
      body = short puts.version puts.stores.stored

  -- the orders of the page that it names change no page
  pub naming_takes : (left : ℕ) (old new : Changed) (row : Row) (page : ℕ) → StoresShort catalog t row
      → HasLeft g.size (view old) catalog.pointer.0 left → PutsNaming store image catalog t old new row page
      → RowTakes left old new
  naming_takes left old new row page short has puts =
      let it = row_takes left old puts.put row puts.at short has puts.puts in record {
        spent = it.spent;
        few = it.few;
        takes = subst (λ (ps : Pages). TakesAtMost g (view old) ps it.spent) (sym same) it.takes;
        later = subst (λ (ps : Pages). HasLeft g.size ps catalog.pointer.0 (left - 2)) (sym same) it.later;
      }
    where
      same : view new ≡ view puts.put
      same = viewed_same store image puts.put new puts.ordered.same_pages

  -- ---- rows

  -- one row before others
  then_taken : (left most count : ℕ) (old mid new : Changed) (it : RowTakes left old mid)
      → 4 * suc count ≤ most + 2 * left
      → (4 * count ≤ most - it.spent + 2 * (left - 2) → TakesAtMost g (view mid) (view new) (most - it.spent))
      → TakesAtMost g (view old) (view new) most
  then_taken left most count old mid new it enough rest =
      let few = it.few in
      takes_more g (view old) (view new) (it.spent + (most - it.spent)) most (omega (arith, few, enough))
      (both_taken g (view old) (view mid) (view new) it.spent (most - it.spent) it.takes
      (rest (omega (arith, few, enough))))

  rows_taken : (rows : List Row) → EachRow (StoresShort catalog t) rows → (left most : ℕ)
      → 4 * length rows ≤ most + 2 * left → (old new : Changed)
      → HasLeft g.size (view old) catalog.pointer.0 left → PutsRows store image catalog t rows old new
      → TakesAtMost g (view old) (view new) most
  rows_taken [] short left most enough old new has (puts_none b) = still b most
  rows_taken (row ∷ rows) short left most enough old new has (puts_more _ _ _ mid _ at puts more) =
      let it = row_takes left old mid row at short.0 has puts in
      then_taken left most (length rows) old mid new it enough
      (λ still_enough. rows_taken rows short.1 (left - 2) (most - it.spent) still_enough mid new it.later more)

  table_taken : (rows : List Row) → EachRow (StoresShort catalog t) rows → (left most : ℕ)
      → 4 * length rows ≤ most + 2 * left → (page : ℕ) (old new : Changed)
      → HasLeft g.size (view old) catalog.pointer.0 left → PutsTable store image catalog t rows page old new
      → TakesAtMost g (view old) (view new) most
  table_taken [] short left most enough page old new has same =
      subst (λ (b : Changed). TakesAtMost g (view old) (view b) most) (sym same) (still old most)
  table_taken (own ∷ columns) short left most enough page old new has (named, naming, rows) =
      let it = naming_takes left old named own page short.0 has naming in
      then_taken left most (length columns) old named new it enough
      (λ still_enough. rows_taken columns short.1 (left - 2) (most - it.spent) still_enough named new it.later rows)

  -- ---- the table

  -- its first page is taken, and then what its rows take
  pub filling_takes : (name : List ℕ) (shape : Shape) (left most : ℕ) (old new : Changed)
      (it : FillsTable store image catalog t name shape old new)
      → EachRow (StoresShort catalog t) (rows_at name shape it.page)
      → HasEmpty g.size (view it.begun) catalog.pointer.0 left
      → 4 * length (rows_at name shape it.page) ≤ most + 2 * left → TakesAtMost g (view old) (view new) (1 + most)
  filling_takes name shape left most old new it short has enough =
      both_taken g (view old) (view it.begun) (view new) 1 most
      (first_taken keeps m laws store image lawful catalog t old it.begun it.page it.takes)
      (table_taken (rows_at name shape it.page) short left most enough it.page it.begun new
      (has_left g.size (view it.begun) catalog.pointer.0 left has) it.rows)
