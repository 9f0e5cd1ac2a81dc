-- A new table is made without damage, and the catalog gets few data pages for it.
use Rattle.std.proofs.Common.{◌≡◌, ◌∙◌, ◌⊎◌, inl, inr, ◌≤◌, ◌<◌, ◌^◌, ◌+◌, ◌*◌, ◌∷◌, [], ℕ, true, false, List, Some, length, refl, sym, ap, subst, arith}
use Rattle.std.proofs.lemmas.Bool.{cases_lt}
use Rattle.mg_base.specs.Disk.{MayLeave, Meaning}
use Rattle.mg_base.specs.Image.{Image}
use Rattle.mg_base.specs.declared.damage.Damaged.{Damaged}
use Rattle.mg_base.specs.declared.transaction.TxState.{TxState}
use Rattle.mg_base.specs.declared.transaction.TxState.TheVariants.{Dead}
use Rattle.mg_image.specs.Form.{Pages, Row, packed_form}
use Rattle.mg_image.specs.Inventory.{inventory_page}
use Rattle.mg_image.specs.Records.{Reading}
use Rattle.mg_image.specs.Sound.{HasTablePages}
use Rattle.mg_image.specs.Tables.{Has, Layout}
use Rattle.mg_model.specs.Catalog.{catalog_shape}
use Rattle.mg_model.specs.declared.table.Table.{Table}
use Rattle.mg_space.specs.FreePages.{HasRegions}
use Rattle.mg_space.specs.RegionLaws.{sound_regions}
use Rattle.mg_no_damage_laws.specs.Sees.{no_batch}
use Rattle.mg_no_damage_laws.specs.Batches.{ShowsSound}
use Rattle.mg_no_damage_laws.specs.CatalogGrowth.{HasGrown, StoresShort, rows_count}
use Rattle.mg_no_damage_laws.specs.EmptyPages.{HasEmpty}
use Rattle.mg_no_damage_laws.specs.Lawful.{IsGood, good_lawful, good_none, good_puts}
use Rattle.mg_no_damage_laws.specs.LaidLaws.{room_lawful}
use Rattle.mg_no_damage_laws.specs.OwnLaws.{own}
use Rattle.mg_no_damage_laws.specs.Reading.{Reads}
use Rattle.mg_no_damage_laws.specs.RoomLaws.{room_found}
use Rattle.mg_no_damage_laws.specs.WriteStanding.{IsStanding, sound_standing}
use Rattle.mg_pointer.specs.PointerPage.{new_pointer_page}
use Rattle.mg_pointer.specs.PointerPageLaws.{length-new_pointer_page}
use Rattle.mg_pool.specs.Batch.{Changed, IsLawful}
use Rattle.mg_pool.specs.Pool.{shown}
use Rattle.mg_pool.specs.declared.pool.Pool.{Pool}
use Rattle.mg_slots.specs.Room.{room_of}
use Rattle.mg_space.specs.Taking.{region_of}
use Rattle.mg_space.specs.TakingLaws.{page_sizes}
use Rattle.mg_space.specs.View.{KeepsStore, Tells, viewed}
use Rattle.mg_space.specs.ViewLaws.{tells_on}
use Rattle.mg_space.specs.declared.fault.SpaceFault.TheVariants as faults
use Rattle.mg_space.specs.declared.links.FireLinks.{FireLinks}
use Rattle.mg_table_batch.specs.Filling.{FillsTable, PutsTable, TakesFirst, rows_at}
use Rattle.mg_table_batch.specs.Making.{FailsAtOnce, FailsGrowth, FailsTable, GrowsAsWanted, at_try, gets_one, has_enough, most_pages, no_page, not_at_once, wants_more}
use Rattle.mg_table_batch.specs.Refusals.{RefusesTable, table_memory, table_page, table_rows}
use Rattle.mg_image_overlay_laws.specs.tables.Growing.{IsTableOf}
use Rattle.mg_image_overlay_laws.specs.kept.Knowing.{its_pages}
use Rattle.mg_image_overlay_laws.specs.tables.OneTable.{its_data}
use Rattle.mg_value.specs.declared.shape.Shape.{Shape}
use Rattle.mg_no_damage_laws.specs.NewTables.{EachRow, MayBePut, MayMake, TablesAreMade}
use Rattle.mg_no_damage_laws.proofs.CatalogRowLemmas.{IsShortRow, body_short, rows_short}
use Rattle.mg_no_damage_laws.proofs.FillLemmas.{IsFilling, table_filled}
use Rattle.mg_no_damage_laws.proofs.HeightLemmas.{rank, rank_low}
use Rattle.mg_no_damage_laws.proofs.MidwayLemmas.{IsMidway, bit_kind, its_catalog, page_kind, take_same, take_stays, take_step}
use Rattle.mg_no_damage_laws.proofs.StageLemmas.{IsStage, stage_grown, stage_on}
use Rattle.mg_no_damage_laws.proofs.NewTableLemmas.{MayPut, sees_on, table_put}

-- ---- the rows

both : (P Q R : Row → Type 0) → ((row : Row) → P row → Q row → R row) → (rows : List Row) → EachRow P rows
    → EachRow Q rows → EachRow R rows
both P Q R join [] ps qs = tt
both P Q R join (row ∷ rows) ps qs = (join row ps.0 qs.0, both P Q R join rows ps.1 qs.1)

stored_short : (size : ℕ) (catalog : Table) (t : ℕ) → catalog.shape ≡ catalog_shape → (rows : List Row)
    → EachRow IsShortRow rows → EachRow (StoresShort catalog t) rows
stored_short size catalog t shaped [] short = tt
stored_short size catalog t shaped (row ∷ rows) short = (
  (λ v stored. body_short size catalog t row short.0 shaped v stored),
  stored_short size catalog t shaped rows short.1,
)

module _ {D : Type 0} (m : Meaning D) (laws : Reads m)
    (holds : (disk : D) → m.tells disk ≡ true → (image : Image) × (m.held disk ≡ Some image) × MayLeave m disk image)
    (start : Pool D FireLinks) (image : Image) (state : ℕ → TxState) (layout : Layout) (r : Reading)
    (shows : ShowsSound m start image state layout r) (catalog : Table) (catalog_is : layout.catalog.table ≡ catalog)
    (t : ℕ) (dead : state t ≡ Dead) (name : List ℕ) (shape : Shape)
    (may : MayMake start.geometry.size state (shown start.dirty image) layout catalog t name shape) where
  abbrev size : ℕ
  size = start.geometry.size

  abbrev first : Pages
  first = shown start.dirty image

  abbrev Stage : Pool D FireLinks → ℕ → Type 0
  Stage store count = IsStage m laws size state catalog (first 0) store count

  stage_first : Stage start 0
  stage_first = record {
    image = image;
    tells = shows.tells;
    geometry = shows.geometry;
    sized = refl;
    midway = record {
      layout = layout;
      reading = r;
      sound = shows.sound;
      header = refl;
      catalog_is = catalog_is;
    };
    free = [];
    many = omega arith;
    once = tt;
    placed = λ k none. absurd none;
    empty = λ k none. absurd none;
  }

  -- ---- the catalog

  shaped : catalog.shape ≡ catalog_shape
  shaped = ap (λ (x : Table). x.shape) (sym catalog_is ∙ shows.sound.catalog)

  begins_some : catalog.pointer.0 ≡ 0 → ⊥
  unfolding stage_first
  begins_some none = has.first (ap (λ (x : Table). x.pointer.0) its.table_is ∙ none)
    where
      its : IsTableOf layout catalog
      its = its_catalog size state catalog (first 0) first stage_first.midway

      has : HasTablePages false size first its.stand
      has = its_pages packed_form size state first layout r shows.sound catalog its

  -- ---- its rows

  rows_may : (page : ℕ) → page < 2 ^ 32 → EachRow (MayPut size state first layout catalog t) (rows_at name shape page)
  rows_may page small = both IsShortRow (MayBePut size state first layout catalog t)
      (MayPut size state first layout catalog t) (λ row short put. record { short = short; may = put })
      (rows_at name shape page) (rows_short name shape page may.named may.columns) (may.rows page small)

  -- ---- a batch is filled

  module _ (old : Pool D FireLinks) (count : ℕ) (it : Stage old count) where
    abbrev view : Changed → Pages
    view b = viewed old it.image b

    not_refused : (after : Pool D FireLinks) → KeepsStore m old after → (damage : Damaged)
        → RefusesTable m old after it.image catalog t name shape no_batch (faults.Damaged damage) → ⊥
    not_refused after keeps damage (table_memory is) = absurd cc
    not_refused after keeps damage (table_page refused) = laws.taken old.geometry (view no_batch) regions damage refused
      where
        regions : HasRegions old.geometry (view no_batch)
        regions = sound_regions old.geometry (view no_batch) it.geometry it.midway.sound.header.whole
            it.midway.sound.inventory
    not_refused after keeps damage (table_rows page begun ready takes keeps_more refused) =
        table_put m laws after it.image (tells_on m old after it.image keeps it.tells) size state catalog shaped begins_some
        t dead first layout (rows_at name shape page) ready begun
        (sees_on m laws after it.image (tells_on m old after it.image keeps it.tells) size state catalog shaped begins_some
        t dead first layout old ready begun keeps_more (record {
          like = keeps.dirty;
          tells_old = it.tells;
          geometry = it.geometry;
          sized = it.sized;
          midway = take_step m laws old it.image it.tells it.geometry state catalog (first 0) no_batch begun page takes
              it.midway;
        }))
        (rows_may page (let below = takes.takes.free.below in omega (arith, below)))
        damage refused

    -- ---- its first page is taken

    module _ (begun : Changed) (page : ℕ) (takes : TakesFirst old it.image no_batch begun page) where
      begun_at : IsMidway old.geometry.size state catalog (first 0) (view begun)
      begun_at = take_step m laws old it.image it.tells it.geometry state catalog (first 0) no_batch begun page takes
          it.midway

      its : IsTableOf begun_at.layout catalog
      its = its_catalog old.geometry.size state catalog (first 0) (view begun) begun_at

      begins : its.stand.table.pointer.0 ≡ catalog.pointer.0
      begins = ap (λ (x : Table). x.pointer.0) its.table_is

      stands : IsStanding old.geometry.size (view begun) its.stand
      stands = sound_standing old.geometry.size state (view begun) begun_at.layout begun_at.reading begun_at.sound
          catalog its

      abbrev high : ℕ → ℕ
      high n = rank old.geometry.size (view begun) its.stand stands n

      listed : (k : ℕ) → Has it.free k → Has its.stand.data_pages k
      unfolding begun_at
      listed k there = (its_data packed_form old.geometry.size state (view begun) begun_at.layout begun_at.reading
          begun_at.sound catalog its k).0
          (take_stays m laws old it.image it.tells it.geometry state catalog (first 0) no_batch begun page takes
          it.midway k (it.placed k there))

      still_empty : (k : ℕ) → Has it.free k → old.geometry.size ≤ room_of (view begun k) + 24
      still_empty k there = subst (λ (b : List ℕ). old.geometry.size ≤ room_of b + 24)
          (sym (take_same m laws old it.image it.tells it.geometry state catalog (first 0) no_batch begun page takes
          it.midway k (it.placed k there))) (it.empty k there)

      -- as many data pages of the catalog are empty as were
      begun_empty : HasEmpty old.geometry.size (view begun) catalog.pointer.0 count
      begun_empty = record {
        stand = its.stand;
        begins = begins;
        standing = stands;
        free = it.free;
        many = it.many;
        once = it.once;
        listed = listed;
        empty = still_empty;
      }

      abbrev bit : ℕ
      bit = inventory_page old.geometry.size (region_of old.geometry.size page)

      begun_good : IsGood old.geometry.size high 2 begun
      begun_good = good_puts takes.taken begun page (new_pointer_page old.geometry.size page page 0) takes.puts
          old.geometry.size high 1 (good_puts no_batch takes.taken bit takes.bit.bytes takes.bit.puts
          old.geometry.size high 0 (good_none old.geometry.size high) takes.bit.len)
          (length-new_pointer_page old.geometry.size page page 0)

      begun_filling : IsFilling old.geometry.size old it.image refl (page_sizes old.geometry.size it.geometry.size).0
          catalog shaped t its.stand begins (view begun) stands begun 2 count
      begun_filling = record {
        standing = stands;
        kinds = λ n. refl;
        free = it.free;
        many = it.many;
        once = it.once;
        listed = listed;
        empty = still_empty;
        good = begun_good;
      }

      page_low : high page ≡ 0
      page_low = rank_low old.geometry.size (view begun) its.stand stands page (λ five.
          let four = page_kind m laws old it.image it.tells it.geometry state catalog (first 0) no_batch begun page
          takes it.midway in omega (arith, four, five))

      bit_low : high bit ≡ 0
      bit_low = rank_low old.geometry.size (view begun) its.stand stands bit (λ five.
          let two = bit_kind m laws old it.image it.tells it.geometry state catalog (first 0) no_batch begun page
          takes it.midway in omega (arith, two, five))

      -- ---- with an empty page left for the last row the batch is lawful

      module _ (batch : Changed) (rows : PutsTable old it.image catalog t (rows_at name shape page) page begun batch)
          (enough : 2 * length (rows_at name shape page) ≤ count + 1) where
        filled : IsGood old.geometry.size high (2 + 2 * length (rows_at name shape page)) batch
        filled = table_filled old.geometry.size old it.image refl (page_sizes old.geometry.size it.geometry.size).0
            catalog shaped t its.stand begins (view begun) stands (rows_at name shape page) page begun batch rows
            (rows_short name shape page may.named may.columns) page_low bit_low 2 count begun_filling enough

        fill_lawful : IsLawful old.geometry.size batch.pages batch.orders
        fill_lawful = good_lawful old.geometry.size high (2 + 2 * length (rows_at name shape page)) batch filled
            (let each = rows_count name shape page in let most = may.most in omega (arith, each, most))

    -- ---- a page more

    growth_made : (after : Pool D FireLinks) (damage : Damaged)
        → FailsGrowth m old after catalog.pointer.0 (faults.Damaged damage) → ⊥
    growth_made after damage fails = own m old after _ _ damage it.image it.tells
        (λ keeps refused. room_found m laws old after it.image keeps.dirty (tells_on m old after it.image keeps it.tells)
        it.geometry no_batch state it.midway.layout it.midway.reading it.midway.sound catalog its damage refused)
        (λ batch filled. room_lawful m laws old it.image it.tells it.geometry state it.midway.layout it.midway.reading
        it.midway.sound catalog its batch old.geometry.size filled.0 filled.1) fails
      where
        its : IsTableOf it.midway.layout catalog
        its = its_catalog old.geometry.size state catalog (first 0) (view no_batch) it.midway

    try_made : (after : Pool D FireLinks) (damage : Damaged)
        → FailsAtOnce m catalog t name shape old after (faults.Damaged damage) → ⊥
    try_made after damage fails = own m old after _ _ damage it.image it.tells
        (λ keeps refused. not_refused after keeps damage refused) (λ batch filled. filled.1) fails

  -- ---- try after try

  stages : (count : ℕ) (a b : Pool D FireLinks) → GrowsAsWanted m catalog t name shape count a b → Stage a 0
      → Stage b count
  stages count a b (has_enough store) it = it
  stages count a b (gets_one some before mid after grows gets) it = stage_grown m laws size state catalog (first 0) holds
      gets.ready after some (stage_on m laws size state catalog (first 0) mid gets.ready some gets.wants.keeps
      (stages some before mid grows it)) gets.grows

  -- two pages for each row are enough, but for one: then it wants none
  few_wanted : (count : ℕ) (a b : Pool D FireLinks) → GrowsAsWanted m catalog t name shape count a b → Stage a 0
      → count ≤ 2 * length shape.columns + 1
  few_wanted count a b (has_enough store) it = omega arith
  few_wanted count a b (gets_one some before mid after grows gets) it =
      by (cases_lt some (2 * length shape.columns + 1))
    where
      stage : Stage mid some
      stage = stages some before mid grows it

      fills : FillsTable mid stage.image catalog t name shape no_batch gets.wants.batch
      fills = gets.wants.filled stage.image stage.tells

      by : (some < 2 * length shape.columns + 1) ⊎ (2 * length shape.columns + 1 ≤ some)
          → some + 1 ≤ 2 * length shape.columns + 1
      by (inl less) = omega (arith, less)
      by (inr enough) = absurd (gets.wants.unlawful (fill_lawful mid some stage fills.begun fills.page fills.takes
          gets.wants.batch fills.rows (let each = rows_count name shape fills.page in omega (arith, each, enough))))

  pub made : (after : Pool D FireLinks) (damage : Damaged)
      → FailsTable m catalog t name shape start after (faults.Damaged damage) → ⊥
  made after damage (at_try grown count grows (not_at_once fails)) =
      try_made grown count (stages count start grown grows stage_first) after damage fails
  made after damage (at_try grown count grows (no_page ready wants fails)) =
      growth_made ready count (stage_on m laws size state catalog (first 0) grown ready count wants.keeps
      (stages count start grown grows stage_first)) after damage fails
  made after damage (wants_more grows is) =
      let few = few_wanted most_pages start after grows stage_first in
      let most = may.most in omega (arith, few, most)

  -- ---- what the catalog has then

  grown_empty : (count : ℕ) (grown : Pool D FireLinks) (stage : Stage grown count) (i : Image) → Tells m grown.disk i
      → (begun : Changed) (page : ℕ) → TakesFirst grown i no_batch begun page
      → HasEmpty grown.geometry.size (viewed grown i begun) catalog.pointer.0 count
  grown_empty count grown stage i tells = subst (λ (j : Image). (begun : Changed) (page : ℕ)
      → TakesFirst grown j no_batch begun page
      → HasEmpty grown.geometry.size (viewed grown j begun) catalog.pointer.0 count) one
      (λ begun page takes. begun_empty grown count stage begun page takes)
    where
      one : stage.image ≡ i
      one = let both : Some stage.image ≡ Some i = sym stage.tells.held ∙ tells.held in cc

  pub has_grown : (count : ℕ) (grown : Pool D FireLinks) → GrowsAsWanted m catalog t name shape count start grown
      → HasGrown m grown catalog t name shape count
  has_grown count grown grows = record {
    few = few_wanted count start grown grows stage_first;
    short = λ page. stored_short size catalog t shaped (rows_at name shape page)
        (rows_short name shape page may.named may.columns);
    empty = grown_empty count grown (stages count start grown grows stage_first);
  }

pub tables_are_made : {D : Type 0} (m : Meaning D) → Reads m
    → ((disk : D) → m.tells disk ≡ true → (image : Image) × (m.held disk ≡ Some image) × MayLeave m disk image)
    → TablesAreMade m
tables_are_made m laws holds before after image state layout r shows catalog catalog_is t dead name shape may it fails =
    made m laws holds before image state layout r shows catalog catalog_is t dead name shape may after it fails
