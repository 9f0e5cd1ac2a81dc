-- The pages of a record and of its newest version are wanted, since the image is sound and its table is wanted.
use Rattle.std.specs.Prelude.{◌≡◌, ◌≢◌, ℕ, suc, false, List, [], ◌∷◌, Option, Some}
use Rattle.std.proofs.Common.{inl, refl, sym, subst, ap, ◌∙◌}
use Rattle.mg_base.specs.Checks.{PassesAll, common_checks}
use Rattle.mg_base.specs.declared.numbers.RecId.{RecId}
use Rattle.mg_base.specs.declared.transaction.TxState.{TxState}
use Rattle.mg_base.specs.declared.transaction.TxState.TheVariants.{Committed}
use Rattle.mg_careful.specs.CarefulWrite.{DemandSet}
use Rattle.mg_chain.specs.Chains.{Meets}
use Rattle.mg_heap.specs.Reach.{MayOwn}
use Rattle.mg_heap.specs.Reading.{owner_in}
use Rattle.mg_heap.specs.Table.{IsPointerAt, IsTable}
use Rattle.mg_image.specs.Form.{Pages, packed_form}
use Rattle.mg_image.specs.RecordRules.{Each, IsRecord}
use Rattle.mg_image.specs.Records.{Cells, Chain, Reading, cells_of, goes, newest_of, writer}
use Rattle.mg_image.specs.Sound.{HasTablePages, IsSoundBy, IsTableData, IsTablePointer, facts_by}
use Rattle.mg_image.specs.Tables.{EachFrom, Has as HasPage, Layout, LinkChain, ended as chain_ended, goes as chain_goes}
use Rattle.mg_image.specs.declared.entry.Entry.{Entry}
use Rattle.mg_model.specs.declared.table.Table.{Table}
use Rattle.mg_pointer.specs.PointerPage.{next_in}
use Rattle.mg_slots.specs.declared.page.TheConstants.{DATA_KIND}
use Rattle.mg_image_overlay_laws.specs.tables.Growing.{IsTableOf}
use Rattle.mg_image_overlay_laws.specs.kept.Knowing.{its_pages}
use Rattle.mg_image_overlay_laws.specs.tables.OneTable.{its_data, table_at_stands}
use Rattle.mg_version.specs.declared.cell.Cell.{Cell}
use Rattle.mg_version.specs.declared.cell.Cell.TheVariants as cells
use Rattle.mg_version.specs.declared.cell.Link.{Link}
use Rattle.mg_version.specs.declared.cell.Version.{Version}
use Rattle.mg_demand_laws.specs.TableTies.{later_place, tables_are_wanted}
use Rattle.mg_demand_laws.specs.Wants.{IsDataOf, WantsPointer}
use Rattle.mg_engine_demand_laws.specs.Wanted.{BehindHaveCommitted, IsPageOf, RecordsAreWanted, SoundAndWanted}

head_in : (next : ℕ → ℕ) (n : ℕ) (ns : List ℕ) → LinkChain next n ns → n ≢ 0 → HasPage ns n
head_in next n ns chain_ended some = absurd (some refl)
head_in next n ns (chain_goes k ks other more) some = inl refl

-- ---- chains

-- the newest of the versions from a link on
record BeginsWith (h : Cells) (l : Link) (es : List Entry) : Type 0 where
  entry : Entry
  older : List Entry
  is : es ≡ entry ∷ older
  there : entry.at ≡ l.rec
  cell : h entry.at ≡ Some (cells.Version entry.version)
  by : entry.version.tx ≡ l.tx
  rest : Chain h entry.version.back older

first_of : (h : Cells) (l : Link) (es : List Entry) → Chain h (Some l) es → BeginsWith h l es
first_of h l es (goes m e rest there cell tx more) =
    record { entry = e; older = rest; is = refl; there = there; cell = cell; by = tx; rest = more }

chain_from : (h : Cells) (p : RecId) (l : Link) (es : List Entry) → Chain h (newest_of p (h p)) es
    → h p ≡ Some (cells.Anchor l) → Chain h (Some l) es
chain_from h p l es chain slot = subst (λ (c : Option Cell). Chain h (newest_of p c) es) slot chain

-- a chain that is led to begins with a version of the transaction that is named, so it has committed if each has
first_committed : (h : Cells) (state : ℕ → TxState) (l : Link) (es : List Entry) → Chain h (Some l) es
    → Each (λ e. state (writer e) ≡ Committed) es → state l.tx.0 ≡ Committed
first_committed h state l es (goes m e rest there cell tx more) each =
    subst (λ (t : ℕ). state t ≡ Committed) (ap (λ t. t.0) tx) each.0

-- ---- data pages

names_owner : (b : List ℕ) (n owner at : ℕ) → PassesAll (common_checks b n DATA_KIND owner at) → owner_in b ≡ owner
unfolding common_checks
names_owner b n owner at passes = passes.1.1.1.1.0

module _ (size : ℕ) (state : ℕ → TxState) (pages : Pages) (layout : Layout) (r : Reading)
    (sound : IsSoundBy packed_form size state pages layout r) (table : Table) (its : IsTableOf layout table) where
  there : HasTablePages false size pages its.stand
  there = its_pages packed_form size state pages layout r sound table its

  abbrev owner : ℕ
  owner = its.stand.table.pointer.0

  owns : MayOwn owner
  owns = record {
    some = there.first;
    below = (later_place (IsTablePointer size pages owner) 0 its.stand.pointers owner there.pointers
        (head_in (λ n. next_in (pages n)) owner its.stand.pointers there.chain there.first)).2.below;
  }

  -- a table's first pointer page is one that a table may begin with
  pub stand_owns : MayOwn table.pointer.0
  stand_owns = subst (λ (t : Table). MayOwn t.pointer.0) its.table_is owns

  tested_from : (at : ℕ) (ns : List ℕ) → EachFrom (IsTablePointer size pages owner) at ns
      → EachFrom (IsPointerAt pages owner) at ns
  tested_from at [] each = tt
  tested_from at (n ∷ ns) each = (each.0.fields, tested_from (suc at) ns each.1)

  walked : IsTable pages owner its.stand.pointers its.stand.data_pages
  walked = record {
    chain = there.chain;
    tested = tested_from 0 its.stand.pointers there.pointers;
    entries = there.entries;
  }

  -- a data page names its table
  owner_there : (n : ℕ) → HasPage its.stand.data_pages n → owner_in (pages n) ≡ table.pointer.0
  owner_there n is =
      let at = later_place (IsTableData false size pages owner) 0 its.stand.data_pages n there.data_pages is in
      names_owner (pages n) n owner at.0 at.2.wanted.fields ∙ ap (λ (t : Table). t.pointer.0) its.table_is

-- a data page of a table names the table
pub names_table : (size : ℕ) (state : ℕ → TxState) (pages : Pages) (layout : Layout) (r : Reading)
    → IsSoundBy packed_form size state pages layout r → (n : ℕ) (table : Table) → IsPageOf layout n table
    → owner_in (pages n) ≡ table.pointer.0
names_table size state pages layout r sound n table on =
    let its = table_at_stands layout n table on in
    owner_there size state pages layout r sound table its n
    ((its_data packed_form size state pages layout r sound table its n).0 on)

module _ (size : ℕ) (state : ℕ → TxState) (pages : Pages) (layout : Layout) (r : Reading) (wanted : DemandSet)
    (of : SoundAndWanted size state pages layout r wanted) where
  page_wanted : (table : Table) (its : IsTableOf layout table) (n : ℕ) → HasPage its.stand.data_pages n
      → IsDataOf size wanted n
  page_wanted table its n is = (tables_are_wanted size pages wanted its.stand.table.pointer.0 its.stand.pointers
      its.stand.data_pages of.wants of.orderly (owns size state pages layout r of.sound table its)
      (subst (λ (t : Table). WantsPointer size wanted t.pointer.0 t.pointer.0 0) (sym its.table_is) (of.tables table its))
      (walked size state pages layout r of.sound table its)).data_ n is

  pub record_wanted : (n : ℕ) (table : Table) → IsPageOf layout n table → IsDataOf size wanted n
  record_wanted n table on =
      let its = table_at_stands layout n table on in
      page_wanted table its n ((its_data packed_form size state pages layout r of.sound table its n).0 on)

  module _ (p : RecId) (table : Table) (on : IsPageOf layout p.page.0 table) (newest : Link) (v : Version)
      (slot : cells_of pages p ≡ Some (cells.Anchor newest)) (meets : Meets (cells_of pages) newest v) where
    starts : BeginsWith (cells_of pages) newest (r p)
    starts = first_of (cells_of pages) newest (r p)
        (chain_from (cells_of pages) p newest (r p) (of.sound.records.reads p table on) slot)

    lawful : IsRecord packed_form.coding (facts_by state pages layout) table (starts.entry ∷ starts.older)
    lawful = subst (IsRecord packed_form.coding (facts_by state pages layout) table) starts.is
        (of.sound.records.each p table on)

    same_version : starts.entry.version ≡ v
    same_version =
        let one : cells_of pages newest.rec ≡ Some (cells.Version starts.entry.version) =
        ap (cells_of pages) (sym starts.there) ∙ starts.cell in
        let both : Some (cells.Version starts.entry.version) ≡ Some (cells.Version v) = sym one ∙ meets.cell in cc

    pub behind_committed : (link : Link) → v.back ≡ Some link → state link.tx.0 ≡ Committed
    behind_committed link back = first_committed (cells_of pages) state link starts.older
        (subst (λ (o : Option Link). Chain (cells_of pages) o starts.older)
        (ap (λ (w : Version). w.back) same_version ∙ back) starts.rest) lawful.backs

pub records_are_wanted : RecordsAreWanted
records_are_wanted size state pages layout r wanted of n table on =
    record_wanted size state pages layout r wanted of n table on

pub behind_have_committed : BehindHaveCommitted
behind_have_committed size state pages layout r wanted of p table on newest v slot meets link back =
    behind_committed size state pages layout r wanted of p table on newest v slot meets link back
