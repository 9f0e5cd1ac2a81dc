-- No sound image, and no new database, is refused as damaged, nor as no database.
use Rattle.std.proofs.Common.{◌≡◌, ◌≢◌, inl, inr, ◌<◌, ◌≤◌, ◌+◌, ◌-◌, ◌/◌, ℕ, Bool, true, false, zero, suc, List, [], ◌∷◌, None, Some, Result, Ok, Err, length, refl, sym, ap, ◌∙◌, subst, arith}
use Rattle.mg_base.specs.Checks.{PassesAll, common_checks}
use Rattle.mg_base.specs.CheckLaws.{verdict_from_passes}
use Rattle.mg_base.specs.Disk.{Meaning}
use Rattle.mg_base.specs.Fields.{byte}
use Rattle.mg_base.specs.Image.{Image, blank, page_at}
use Rattle.mg_base.specs.declared.damage.Damaged.{Damaged}
use Rattle.mg_base.specs.declared.geometry.Geometry.{Geometry}
use Rattle.mg_base.specs.Geometry.{is_page_size}
use Rattle.mg_base.specs.declared.geometry.TheConstants.{GREATEST_LIMIT}
use Rattle.mg_database.specs.Loading.{IsLoadDamage, no_catalog, no_list, untested}
use Rattle.mg_database.specs.Tested.{RefusesTested}
use Rattle.mg_format.specs.Format.{IsMade}
use Rattle.mg_header.specs.HeaderPage.{page_checks, reading}
use Rattle.mg_header.specs.HeaderPageLaws.{reads}
use Rattle.mg_header.specs.declared.header.HeadFault.{HeadFault}
use Rattle.mg_header.specs.declared.header.Header.{Header}
use Rattle.mg_heap.specs.Stands.{WalksMeetNoDamage}
use Rattle.mg_heap.specs.Walk.{RefusesWalk}
use Rattle.mg_image.specs.Form.{Pages, packed_form}
use Rattle.mg_image.specs.Inventory.{header_of, last_sequence, tip_before}
use Rattle.mg_image.specs.Tables.{EachFrom, LinkChain, Stand, ended, goes}
use Rattle.mg_image.specs.Sound.{HasTablePages, IsTablePointer}
use Rattle.mg_model.specs.Catalog.{catalog_name, catalog_shape}
use Rattle.mg_model.specs.declared.table.Table.{Table}
use Rattle.mg_pointer.specs.PointerPage.{next_in}
use Rattle.mg_pool.specs.Pool.{shown}
use Rattle.mg_pool.specs.declared.batch.BatchPage.{BatchPage}
use Rattle.mg_pool.specs.declared.pool.Pool.{Pool}
use Rattle.mg_space.specs.View.{IsMissing, Tells}
use Rattle.mg_space.specs.declared.fault.SpaceFault.TheVariants as faults
use Rattle.mg_space.specs.declared.links.FireLinks.{FireLinks}
use Rattle.mg_tip.specs.TipPage.{places, tip_checks}
use Rattle.mg_base.specs.declared.numbers.PageNo.{PageNo}
use Rattle.mg_txlist.specs.Refusals.{RefusesHead, RefusesTip, RefusesTips, holder_of}
use Rattle.mg_new_database_laws.specs.Data.{stand_on}
use Rattle.mg_new_database_laws.specs.PageCellLaws.{new_have_tables}
use Rattle.mg_new_database_laws.specs.PageLaws.{catalog_at}
use Rattle.mg_new_database_laws.specs.Readable.{AreReadable}
use Rattle.mg_engine_meaning_laws.specs.BlankLaws.{no_database, zeros}
use Rattle.mg_engine_meaning_laws.specs.Openings.{IsSoundImage}

-- where a disk tells both its pages and their number, they agree: a law of every disk
abbrev pub AreCounted : {D : Type 0} → Meaning D → Type 0
AreCounted {D} m = (disk : D) (image : Image) (n : ℕ) → m.held disk ≡ Some image → m.count disk ≡ Some n
    → length image ≡ n

past_end : (size : ℕ) (image : Image) (n : ℕ) → length image ≤ n → page_at size image n ≡ blank size
past_end size [] n below = refl
past_end size (x ∷ xs) zero below = absurd (omega (arith, below))
past_end size (x ∷ xs) (suc n) below = past_end size xs n (omega (arith, below))

-- ---- kinds of pages

header_kind : (b : List ℕ) → PassesAll (page_checks b) → byte b 0 ≡ 1
unfolding common_checks
header_kind b passes = passes.0

tip_kind : (b : List ℕ) (page sequence : ℕ) → PassesAll (tip_checks b page sequence) → byte b 0 ≡ 3
unfolding tip_checks common_checks
tip_kind b page sequence passes = passes.0

not_both : (b : List ℕ) → byte b 0 ≡ 1 → byte b 0 ≡ 3 → ⊥
not_both b one three = omega (arith, one, three)

not_zero : (b : List ℕ) (size : ℕ) → b ≡ blank size → byte b 0 ≡ 3 → ⊥
not_zero b size none three =
    let zero_ : byte b 0 ≡ 0 = ap (λ (bytes : List ℕ). byte bytes 0) none ∙ zeros size 0 in
    omega (arith, zero_, three)

-- the first page of a chain is one of its pages
first_below : (size : ℕ) (pages : Pages) (owner at first : ℕ) (ns : List ℕ)
    → LinkChain (λ n. next_in (pages n)) first ns → first ≢ 0
    → EachFrom (IsTablePointer size pages owner) at ns → first < GREATEST_LIMIT
first_below size pages owner at _ _ ended some each = absurd (some refl)
first_below size pages owner at _ _ (goes n ns not_ rest) some each = each.0.below

-- a sound image is read without finding damage
pub sound_readable : (size : ℕ) (image : Image) → IsSoundImage size image → AreReadable size (page_at size image)
sound_readable size image it = record {
  database = it.sound.header.database;
  fields = it.sound.header.fields;
  tips = λ sequence within. (it.sound.transactions.each sequence within).fields;
  catalog = subst (λ (n : ℕ). n < GREATEST_LIMIT) (ap (λ (t : Table). t.pointer.0) it.sound.catalog)
      (first_below size (page_at size image) it.layout.catalog.table.pointer.0 0 it.layout.catalog.table.pointer.0
      it.layout.catalog.pointers it.sound.tables.0.chain it.sound.tables.0.first it.sound.tables.0.pointers);
}

-- ---- the pages of the catalog

-- The catalog's pages are those of a table that stands in a layout.
pub record HasCatalog (size : ℕ) (pages : Pages) : Type 0 where
  pub in_primary : Bool
  pub stand : Stand
  pub at : stand.table.pointer.0 ≡ (header_of pages).catalog.0
  pub has : HasTablePages in_primary size pages stand

pub sound_has_catalog : (size : ℕ) (image : Image) → IsSoundImage size image → HasCatalog size (page_at size image)
sound_has_catalog size image it = record {
  in_primary = packed_form.in_primary;
  stand = it.layout.catalog;
  at = ap (λ (t : Table). t.pointer.0) it.sound.catalog;
  has = it.sound.tables.0;
}

pub new_has_catalog : (size : ℕ) (image : Image) → is_page_size size ≡ true → IsMade size image
    → HasCatalog size (page_at size image)
new_has_catalog size image lawful made = record {
  in_primary = false;
  stand = stand_on catalog_name catalog_shape 3 4;
  at = sym (catalog_at size image lawful made);
  has = (new_have_tables size image catalog_name catalog_shape lawful made).0;
}

-- what is told where the pages of a table are tested is told where they are walked
walk_refused : {D : Type 0} (m : Meaning D) (store : Pool D FireLinks) (batch : List BatchPage) (pages : Pages)
    (owner : ℕ) (it : Damaged) → RefusesTested m store batch pages owner (faults.Damaged it)
    → RefusesWalk m store batch pages owner (faults.Damaged it)
walk_refused m store batch pages owner it (inl chain) = inl chain
walk_refused m store batch pages owner it (inr first) = inr (record {
  pointers = first.pointers;
  data_pages = first.data_pages;
  table = first.table;
  broken = first.first.broken;
})

-- ---- pages that are read without finding damage

module _ {D : Type 0} (m : Meaning D) (counted : AreCounted m) (walks : WalksMeetNoDamage m)
    (store : Pool D FireLinks) (g : Geometry) (image : Image) (tells : Tells m store.disk image)
    (as_shown : shown store.dirty image ≡ page_at g.size image) (readable : AreReadable g.size (page_at g.size image))
    (catalog : HasCatalog g.size (page_at g.size image))
  where
    abbrev pages : Pages
    pages = page_at g.size image

    header_reads : reading (pages 0) g.size ≡ Ok (header_of pages)
    header_reads = reads (pages 0) g.size readable.database readable.fields

    missing_is_blank : (n count : ℕ) → IsMissing m store [] n count → pages n ≡ blank g.size
    missing_is_blank n count missing =
        let long : length image ≡ count = counted store.disk image count tells.held missing.count_is in
        let past = missing.past in
        past_end g.size image n (omega (arith, long, past))

    head_there : (damage : Damaged) → RefusesHead m store g.size (pages 0) (faults.Damaged damage) → ⊥
    head_there damage (inl (count, same, missing)) =
        no_database g.size g.size (pages 0) readable.database (missing_is_blank 0 count missing)
    head_there damage (inr (fault, wrong, same)) =
        let both : ◌≡◌ {A = Result Header HeadFault} (Ok (header_of pages)) (Err fault) =
        sym header_reads ∙ wrong in absurd cc

    -- the transaction inventory page that is so many before the last one passes its tests
    tip_passes : (k : ℕ) → k < last_sequence g.size pages + 1
        → PassesAll (tip_checks (pages (tip_before pages (header_of pages).last_tip.0 k))
        (tip_before pages (header_of pages).last_tip.0 k) ((last_sequence g.size pages + 1) - k - 1))
    tip_passes k below =
        let back : (last_sequence g.size pages + 1) - k - 1 ≡ last_sequence g.size pages - k = omega arith in
        let there : last_sequence g.size pages - (last_sequence g.size pages - k) ≡ k = omega (arith, below) in
        let within : last_sequence g.size pages - k ≤ last_sequence g.size pages = omega arith in
        subst (λ (s : ℕ). PassesAll (tip_checks (pages (tip_before pages (header_of pages).last_tip.0 k))
        (tip_before pages (header_of pages).last_tip.0 k) s)) (sym back)
        (subst (λ (j : ℕ). PassesAll (tip_checks (pages (tip_before pages (header_of pages).last_tip.0 j))
        (tip_before pages (header_of pages).last_tip.0 j) (last_sequence g.size pages - k))) there
        (readable.tips (last_sequence g.size pages - k) within))

    tip_there : (n sequence : ℕ) → PassesAll (tip_checks (pages n) n sequence) → (holder : PageNo) (damage : Damaged)
        → RefusesTip m store holder pages sequence (record { 0 = n }) (faults.Damaged damage) → ⊥
    tip_there n sequence passes holder damage (inl (none, same)) = not_both (pages 0)
        (header_kind (pages 0) readable.fields)
        (ap (λ (p : ℕ). byte (pages p) 0) (sym none) ∙ tip_kind (pages n) n sequence passes)
    tip_there n sequence passes holder damage (inr (some, inl (count, same, missing))) =
        not_zero (pages n) g.size (missing_is_blank n count missing) (tip_kind (pages n) n sequence passes)
    tip_there n sequence passes holder damage (inr (some, inr wrong)) =
        let both : ◌≡◌ {A = Result (Unit {0}) Damaged} (Ok tt) (Err damage) =
        sym (verdict_from_passes (record { 0 = n }) (tip_checks (pages n) n sequence) passes) ∙ wrong in absurd cc

    its_header : (header : Header) → reading (pages 0) g.size ≡ Ok header → header_of pages ≡ header
    its_header header is =
        let both : ◌≡◌ {A = Result Header HeadFault} (Ok (header_of pages)) (Ok header) = sym header_reads ∙ is in
        let same : header_of pages ≡ header = cc in same

    -- the catalog's pages are walked without finding damage
    catalog_there : (header : Header) (it : Damaged) → reading (pages 0) g.size ≡ Ok header
        → RefusesTested m store [] pages header.catalog.0 (faults.Damaged it) → ⊥
    catalog_there header it is refused = walks store image catalog.in_primary g.size catalog.stand None it tells
        (subst (λ (ps : Pages). HasTablePages catalog.in_primary g.size ps catalog.stand) (sym as_shown) catalog.has) tt
        (inr (subst (λ (ps : Pages). RefusesWalk m store [] ps catalog.stand.table.pointer.0
        (faults.Damaged it)) (sym as_shown)
        (subst (λ (owner : ℕ). RefusesWalk m store [] pages owner (faults.Damaged it)) (sym begins)
        (walk_refused m store [] pages header.catalog.0 it refused))))
      where
        begins : catalog.stand.table.pointer.0 ≡ header.catalog.0
        begins = catalog.at ∙ ap (λ (h : Header). h.catalog.0) (its_header header is)

    pub not_damaged : (it : Damaged) → IsLoadDamage m store g pages it → ⊥
    not_damaged _ (no_list it (inl head)) = head_there it head
    not_damaged _ (no_list it (inr (header, is, tips))) = by header (its_header header is) tips
      where
        each : (k : ℕ) → k < last_sequence g.size pages + 1
            → RefusesTip m store (holder_of pages (header_of pages).last_tip.0 k) pages
            ((last_sequence g.size pages + 1) - k - 1) (record { 0 = tip_before pages (header_of pages).last_tip.0 k }) (faults.Damaged it) → ⊥
        each k within tip = tip_there (tip_before pages (header_of pages).last_tip.0 k)
            ((last_sequence g.size pages + 1) - k - 1) (tip_passes k within)
            (holder_of pages (header_of pages).last_tip.0 k) it tip

        by : (h : Header) → header_of pages ≡ h → RefusesTips m store pages h.last_tip.0
            ((h.next.0 - 1) / places g.size + 1) (faults.Damaged it) → ⊥
        by h same = subst (λ (x : Header). RefusesTips m store pages x.last_tip.0
            ((x.next.0 - 1) / places g.size + 1) (faults.Damaged it) → ⊥) same
            (λ refuses. each refuses.0 refuses.1 refuses.2)
    not_damaged _ (no_catalog header is past) =
        let below : (header_of pages).catalog.0 < GREATEST_LIMIT = readable.catalog in
        let same : (header_of pages).catalog.0 ≡ header.catalog.0 =
        ap (λ (h : Header). h.catalog.0) (its_header header is) in
        omega (arith, below, same, past)
    not_damaged _ (untested header first tips it is head refused) = catalog_there header it is refused

    pub is_database : (fault : HeadFault) → reading (pages 0) g.size ≡ Err fault → ⊥
    is_database fault wrong =
        let both : ◌≡◌ {A = Result Header HeadFault} (Ok (header_of pages)) (Err fault) =
        sym header_reads ∙ wrong in absurd cc
