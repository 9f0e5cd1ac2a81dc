-- A new table's batch pays: for its first pointer page, and for the rows of the catalog that say it.
use Rattle.std.specs.Prelude.{◌≡◌, ◌⊎◌, ◌+◌, ◌<◌, ◌^◌, ◌++◌, ◌==◌, ℕ, Bool, true, List, [], ◌∷◌, length, if◌then◌else◌}
use Rattle.std.proofs.Common.{inl, inr, refl, sym, subst, ap, ◌∙◌, arith}
use Rattle.mg_base.specs.Checks.{PassesAll}
use Rattle.mg_base.specs.Image.{Image}
use Rattle.mg_base.specs.declared.numbers.RecId.{RecId}
use Rattle.mg_careful.specs.Precedence.{Orders}
use Rattle.mg_careful.specs.declared.links.Demand.{Demand}
use Rattle.mg_careful.specs.CarefulWrite.{DemandSet, Has, IsIn, either, listed}
use Rattle.mg_chain.specs.Writing.{MakesCell}
use Rattle.mg_chain.specs.Chains.{newest_link}
use Rattle.mg_chain.specs.Orders.{first_orders}
use Rattle.mg_heap.specs.Apart.{need_with_anchor}
use Rattle.mg_heap.specs.Growth.{orders_to}
use Rattle.mg_image.specs.Form.{Pages, Row}
use Rattle.mg_image.specs.Inventory.{inventory_page}
use Rattle.mg_image.specs.Records.{slot_cell}
use Rattle.mg_image.specs.Tables.{Has as HasPage}
use Rattle.mg_model.specs.declared.table.Table.{Table}
use Rattle.mg_pointer.specs.PointerPage.{count_in, entries_of, new_pointer_page, next_in, pointer_checks}
use Rattle.mg_pointer.specs.PointerPageLaws.{length-new_pointer_page, new_page_empty, new_page_next, new_page_passes}
use Rattle.mg_pool.specs.Batch.{Changed}
use Rattle.mg_pool.specs.declared.pool.Pool.{Pool}
use Rattle.mg_slots.specs.DataPage.{cell_of}
use Rattle.mg_space.specs.Demands.{bit_demand, entry_demands, linked, meets_of}
use Rattle.mg_space.specs.Taking.{region_of}
use Rattle.mg_space.specs.TakingLaws.{page_sizes, takes_bit}
use Rattle.mg_space.specs.View.{viewed}
use Rattle.mg_space.specs.ViewLaws.{viewed_else, viewed_here}
use Rattle.mg_space.specs.declared.links.TheConstants.{BIT, DATA, POINTER}
use Rattle.mg_table_batch.specs.Filling.{FillsTable, PutsRow, PutsRows, PutsTable, TakesFirst, page_of_version, puts_more, puts_none, rows_at}
use Rattle.mg_value.specs.declared.shape.Shape.{Shape}
use Rattle.mg_version.specs.declared.cell.TheConstants.{ANCHOR_LEN}
use Rattle.mg_demand_laws.specs.KindLaws.{as_want}
use Rattle.mg_demand_laws.specs.Met.{has_back, has_either, has_front, is_demand, met_is, of_listed, of_pointer}
use Rattle.mg_demand_laws.specs.Steps.{IsUnwanted, MakesTablePage}
use Rattle.mg_demand_laws.specs.TakeLaws.{bit_is_elsewhere, make_pays, take_pays, taken_is_unwanted}
use Rattle.mg_demand_laws.specs.Wanting.{IsWanting, Pays, want_of}
use Rattle.mg_demand_laws.specs.WantingLaws.{either_cases, two_listed}
use Rattle.mg_demand_laws.specs.CellTies.{free_slot}
use Rattle.mg_demand_laws.specs.GrowthTies.{have_room}
use Rattle.mg_demand_laws.specs.Lists.{HaveOrders, have_same, have_sooner}
use Rattle.mg_demand_laws.specs.OrderlyTies.{in_parts, orderly_else, orderly_less, taking_else}
use Rattle.mg_demand_laws.specs.TableTies.{bit_wanted, count_is}
use Rattle.mg_demand_laws.specs.Wants.{AreOrderly, IsOrderly, data_taken}
use Rattle.mg_demand_laws.specs.Chained.{IsChained}
use Rattle.mg_demand_laws.specs.ChainedLaws.{chained_else}
use Rattle.mg_demand_laws.specs.WriteChains.{chained_both}
use Rattle.mg_demand_laws.specs.Parts.{KnowsTable, PaysPart, PaysRoom, PaysTable}
use Rattle.mg_demand_laws.specs.PartLaws.{knows_on, no_part, part_ordered, place_part, record_part, two_parts}

-- a pointer page that lists nothing is made: nothing is wanted but the page
abbrev pub FirstPointerPays : Type 0
FirstPointerPays = (size : ℕ) (old new : Pages) (p owner at : ℕ) (orders : Orders) (settled : ℕ → Bool)
    (on_disk wanted : DemandSet) → MakesTablePage size old new p → IsWanting size old wanted → IsUnwanted wanted p
    → PassesAll (pointer_checks (new p) p owner at) → entries_of (new p) ≡ [] → next_in (new p) ≡ 0
    → Pays size old new orders settled on_disk wanted (listed (want_of p POINTER owner at ∷ []))

-- a batch is filled with a new table
abbrev pub FillPays : (D L : Type 0) → Type 0
FillPays D L = (store : Pool D L) (image : Image) (catalog : Table) (t : ℕ) (name : List ℕ) (shape : Shape)
    (old new : Changed) (fills : FillsTable store image catalog t name shape old new) (orders : Orders)
    (settled : ℕ → Bool) (on_disk wanted : DemandSet)
    → KnowsTable store image old catalog.pointer.0 t settled on_disk wanted → HaveOrders orders new
    → PaysTable store image old new t fills.page orders settled on_disk wanted

one_of : (want d : Demand) → IsIn (listed (want ∷ [])) d → d ≡ want
one_of want d h = elim (of_listed (want ∷ []) d h) [
  | inl same ↦ same
  | inr none ↦ absurd none
]

pub first_pointer_pays : FirstPointerPays
first_pointer_pays size old new p owner at orders settled on_disk wanted makes was unwanted passes empty last =
    make_pays size old new p orders settled on_disk wanted (listed (want_of p POINTER owner at ∷ [])) was (record {
      others = makes.others;
      len = makes.len;
      off_inventory = makes.off_inventory;
      used = makes.used;
      unwanted = unwanted;
      aimed = λ d h. ap (λ (x : Demand). x.target) (one_of (want_of p POINTER owner at) d h);
      met = λ d h. subst (λ (x : Demand). meets_of (new p) x ≡ true) (sym (one_of (want_of p POINTER owner at) d h))
          (met_is size (new p) (want_of p POINTER owner at) was.lawful makes.len (of_pointer refl passes));
      links = λ d e h made. absurd (none e (has_either (entry_demands size (new p) owner at (count_in (new p))) _ e
          (as_want size old wanted was (new p) makes.len (want_of p POINTER owner at) d e
          (one_of (want_of p POINTER owner at) d h) made)));
      on_data = λ d h is. absurd (let what : d.what ≡ 4 =
          ap (λ (x : Demand). x.what) (one_of (want_of p POINTER owner at) d h) in omega (arith, what, is));
    })
  where
    zero_ : count_in (new p) ≡ 0
    zero_ = sym (count_is (new p)) ∙ ap (λ (ns : List ℕ). length ns) empty

    none : (e : Demand) → Has (entry_demands size (new p) owner at (count_in (new p))) e
        ⊎ Has (if next_in (new p) == 0 then [] else linked size (next_in (new p)) POINTER owner (at + 1)) e → ⊥
    none e (inl x) = subst (λ (k : ℕ). Has (entry_demands size (new p) owner at k) e) zero_ x
    none e (inr y) = subst (λ (m : ℕ). Has (if m == 0 then [] else linked size m POINTER owner (at + 1)) e) last y

-- ---- the first pointer page

module _ {D L : Type 0} (store : Pool D L) (image : Image) (t : ℕ) (orders : Orders) (settled : ℕ → Bool) (on_disk : DemandSet) where
  module _ (owner : ℕ) (old new : Changed) (page : ℕ) (takes : TakesFirst store image old new page) (wanted : DemandSet) (knows : KnowsTable store image old owner t settled on_disk wanted) where
    abbrev size : ℕ
    size = store.geometry.size

    abbrev bytes : List ℕ
    bytes = new_pointer_page size page page 0

    abbrev bit : List Demand
    bit = bit_demand size page

    abbrev root : List Demand
    root = want_of page POINTER page 0 ∷ []

    bit_step : Pays size (viewed store image old) (viewed store image takes.taken) orders settled on_disk wanted (listed bit)
    bit_step = take_pays store.geometry (viewed store image old) (viewed store image takes.taken) page orders settled
        on_disk wanted knows.lawful takes.takes knows.wants

    here : viewed store image new page ≡ bytes
    here = viewed_here store image takes.taken new page bytes takes.puts

    page_small : page < 2 ^ 32
    page_small = let below = takes.takes.free.below in omega (arith, below)

    unwanted : IsUnwanted (either wanted (listed bit)) page
    unwanted d h = elim (either_cases wanted (listed bit) d h) [
      | inl x ↦ taken_is_unwanted store.geometry (viewed store image old) (viewed store image takes.taken) page orders settled
          on_disk wanted knows.lawful takes.takes knows.wants d x
      | inr y ↦ bit_is_elsewhere store.geometry (viewed store image old) (viewed store image takes.taken) page orders settled
          on_disk wanted knows.lawful takes.takes knows.wants d y
    ]

    passes : PassesAll (pointer_checks bytes page page 0)
    passes = new_page_passes size page page 0
        (let sizes = page_sizes size knows.wants.lawful in let least = sizes.0 in omega (arith, least))
        page_small page_small (omega arith)

    root_step : Pays size (viewed store image takes.taken) (viewed store image new) orders settled on_disk
        (either wanted (listed bit)) (listed root)
    root_step = first_pointer_pays size (viewed store image takes.taken) (viewed store image new) page page 0 orders settled
        on_disk (either wanted (listed bit)) (record {
          others = viewed_else store image takes.taken new page bytes takes.puts;
          len = ap (λ (b : List ℕ). length b) here ∙ length-new_pointer_page size page page 0;
          off_inventory = takes.takes.free.no_inventory;
          used = takes_bit store.geometry (viewed store image old) (viewed store image takes.taken) page knows.lawful takes.takes;
        }) bit_step.wants unwanted (subst (λ (b : List ℕ). PassesAll (pointer_checks b page page 0)) (sym here) passes)
        (ap entries_of here ∙ new_page_empty size page page 0) (ap next_in here ∙ new_page_next size page page 0)

    root_page : IsOrderly size bytes
    root_page = record {
      next = let is = new_page_next size page page 0 in omega (arith, is);
      entries = λ m h. absurd (subst (λ (ns : List ℕ). HasPage ns m) (new_page_empty size page page 0) h);
      full = λ some. absurd (some (new_page_next size page page 0));
    }

    with_bit : AreOrderly size (viewed store image takes.taken) (either wanted (listed bit))
    with_bit = orderly_else size (viewed store image old) (viewed store image takes.taken) wanted (listed bit) knows.orderly
        (λ n who at h. taking_else store.geometry (viewed store image old) (viewed store image takes.taken) page wanted
        knows.lawful takes.takes knows.wants orders settled on_disk n who at h)
        (λ d h is. let nine : d.what ≡ 9 = ap (λ (x : Demand). x.what)
        (is_demand (inventory_page size (region_of size page)) BIT page 0 d (of_listed bit d h)) in
        absurd (omega (arith, nine, is)))

    with_root : AreOrderly size (viewed store image new) (either (either wanted (listed bit)) (listed root))
    with_root n who at h = elim (either_cases (either wanted (listed bit)) (listed root) (want_of n POINTER who at) h) [
      | inl stood ↦ subst (IsOrderly size) (sym (viewed_else store image takes.taken new page bytes takes.puts n
          (unwanted (want_of n POINTER who at) stood))) (with_bit n who at stood)
      | inr newly ↦ subst (λ (k : ℕ). IsOrderly size (viewed store image new k))
          (sym (ap (λ (x : Demand). x.target) (one_of (want_of page POINTER page 0) (want_of n POINTER who at) newly)))
          (subst (IsOrderly size) (sym here) root_page)
    ]

    -- no data page changes, and what is newly wanted is of other kinds
    bit_chained : IsChained size (viewed store image takes.taken) (either wanted (listed bit))
    bit_chained = chained_else size (viewed store image old) (viewed store image takes.taken) wanted (listed bit)
        knows.chained
        (λ n of. takes.takes.others n (λ same. (data_taken size (viewed store image old) wanted knows.wants n knows.header
        of).off_inventory (region_of size page) (sym same)))
        (λ d h. let nine : d.what ≡ 9 = ap (λ (x : Demand). x.what)
        (is_demand (inventory_page size (region_of size page)) BIT page 0 d (of_listed bit d h)) in
        (λ is. omega (arith, nine, is), λ is. omega (arith, nine, is)))

    root_chained : IsChained size (viewed store image new) (either (either wanted (listed bit)) (listed root))
    root_chained = chained_else size (viewed store image takes.taken) (viewed store image new) (either wanted (listed bit))
        (listed root) bit_chained
        (λ n of. viewed_else store image takes.taken new page bytes takes.puts n
        (unwanted (want_of n DATA of.owner of.place) of.wants.page))
        (λ d h. let four : d.what ≡ 4 = ap (λ (x : Demand). x.what) (one_of (want_of page POINTER page 0) d h) in
        (λ is. omega (arith, four, is), λ is. omega (arith, four, is)))

    pub first_part : PaysTable store image old new t page orders settled on_disk wanted
    first_part = record {
      part = record {
        more = bit ++ root;
        pays = two_listed size (viewed store image old) (viewed store image takes.taken) (viewed store image new) orders
            settled on_disk wanted bit root bit_step root_step;
        orderly = orderly_less size (viewed store image new) (either (either wanted (listed bit)) (listed root))
            (either wanted (listed (bit ++ root))) with_root (in_parts wanted bit root);
        chained = chained_both size (viewed store image new) wanted bit root root_chained;
        own = λ d h is. elim (has_either bit root d h) [
          | inl x ↦ let nine : d.what ≡ 9 = ap (λ (e : Demand). e.what)
              (is_demand (inventory_page size (region_of size page)) BIT page 0 d x) in absurd (omega (arith, nine, is))
          | inr y ↦ elim y [
            | inl same ↦ let four : d.what ≡ 4 = ap (λ (e : Demand). e.what) same in absurd (omega (arith, four, is))
            | inr none ↦ absurd none
          ]
        ];
      };
      root = has_back bit root (want_of page POINTER page 0) (inl refl);
      bit = has_front bit root (want_of (inventory_page size (region_of size page)) BIT page 0)
          (bit_wanted size page (let below = takes.takes.free.below in omega (arith, below)));
    }

  -- ---- rows of the catalog

  module _ (catalog : Table) where
    abbrev owner : ℕ
    owner = catalog.pointer.0

    have_made : (old new : Changed) (row : Row) (at : RecId) (puts : PutsRow store image catalog t old new row at)
        → HaveOrders orders new → HaveOrders orders puts.given
    have_made old new row at puts have = have_room store image puts.given made.adds.given owner
        (need_with_anchor puts.makes.bytes) made.at.page made.adds.gives orders made.adds.gives.found
        (have_same orders made.adds.given made.put made.adds.one.puts.same_orders
        (have_same orders made.put made.turned made.turns.puts.one.puts.same_orders
        (have_sooner orders made.turned new (first_orders made.turned.pages made.at.page.0 at.page.0 made.pointers
        made.slot_pointers) made.ordered have)))
      where
        made : MakesCell store image puts.given new owner at puts.makes.bytes puts.version.tx
        made = puts.makes.makes

    have_row : (old new : Changed) (row : Row) (at : RecId) → PutsRow store image catalog t old new row at
        → HaveOrders orders new → HaveOrders orders old
    have_row old new row at puts have = have_room store image old puts.given owner ANCHOR_LEN at.page
        puts.spot.gives orders puts.spot.gives.found (have_made old new row at puts have)

    pub row_part : (old new : Changed) (row : Row) (at : RecId) → PutsRow store image catalog t old new row at
        → HaveOrders orders new → (wanted : DemandSet) → KnowsTable store image old owner t settled on_disk wanted
        → PaysPart store image old new t orders settled on_disk wanted
    row_part old new row at puts have wanted knows = (two_parts store image t orders settled on_disk old puts.given new wanted
        place.part (record_part D L store image puts.given new owner t at puts.version orders settled on_disk
        (either wanted (listed place.part.more))
        (knows_on store image t orders settled on_disk old puts.given owner wanted knows place.part) puts.makes
        puts.stores.stored.its place.given
        (ap slot_cell (ap (cell_of (viewed store image puts.given at.page.0)) puts.spot.least.is_least
        ∙ free_slot (viewed store image puts.given at.page.0))) have)).0
      where
        place : PaysRoom store image old puts.given t at.page.0 orders settled on_disk wanted
        place = place_part D L store image old puts.given owner t at orders settled on_disk wanted knows puts.spot
            (have_made old new row at puts have)

    have_rows : (rows : List Row) (old new : Changed) → PutsRows store image catalog t rows old new
        → HaveOrders orders new → HaveOrders orders old
    have_rows rows old new (puts_none b) have = have
    have_rows rows old new (puts_more row more first mid last at puts rest) have =
        have_row first mid row at puts (have_rows more mid last rest have)

    pub rows_part : (rows : List Row) (old new : Changed) → PutsRows store image catalog t rows old new
        → HaveOrders orders new → (wanted : DemandSet) → KnowsTable store image old owner t settled on_disk wanted
        → PaysPart store image old new t orders settled on_disk wanted
    rows_part rows old new (puts_none b) have wanted knows = no_part store image t orders settled on_disk b owner wanted knows
    rows_part rows old new (puts_more row more first mid last at puts rest) have wanted knows =
        join (row_part first mid row at puts (have_rows more mid last rest have) wanted knows)
        (rows_part more mid last rest have)
      where
        join : (part : PaysPart store image first mid t orders settled on_disk wanted)
            → ((now : DemandSet) → KnowsTable store image mid owner t settled on_disk now
            → PaysPart store image mid last t orders settled on_disk now)
            → PaysPart store image first last t orders settled on_disk wanted
        join part later = (two_parts store image t orders settled on_disk first mid last wanted part
            (later (either wanted (listed part.more))
            (knows_on store image t orders settled on_disk first mid owner wanted knows part))).0

    -- the rows of a table, of which the first names its first pointer page
    have_table : (rows : List Row) (page : ℕ) (old new : Changed) → PutsTable store image catalog t rows page old new
        → HaveOrders orders new → HaveOrders orders old
    have_table [] page old new same have = subst (HaveOrders orders) same have
    have_table (own ∷ columns) page old new (named, naming, rest) have = have_row old naming.put own naming.at naming.puts
        (have_sooner orders naming.put named (orders_to store.geometry.size page (page_of_version naming.at
        (newest_link (viewed store image naming.put) naming.at))) naming.ordered (have_rows columns named new rest have))

    pub table_part : (rows : List Row) (page : ℕ) (old new : Changed) → PutsTable store image catalog t rows page old new
        → HaveOrders orders new → (wanted : DemandSet) → KnowsTable store image old owner t settled on_disk wanted
        → PaysPart store image old new t orders settled on_disk wanted
    table_part [] page old new same have wanted knows = subst (λ (b : Changed). PaysPart store image old b t orders settled
        on_disk wanted) (sym same) (no_part store image t orders settled on_disk old owner wanted knows)
    table_part (own ∷ columns) page old new (named, naming, rest) have wanted knows =
        (two_parts store image t orders settled on_disk old named new wanted part
        (rows_part columns named new rest have (either wanted (listed part.more))
        (knows_on store image t orders settled on_disk old named owner wanted knows part))).0
      where
        have_named : HaveOrders orders named
        have_named = have_rows columns named new rest have

        part : PaysPart store image old named t orders settled on_disk wanted
        part = part_ordered store image t orders settled on_disk old naming.put named (orders_to store.geometry.size page
            (page_of_version naming.at (newest_link (viewed store image naming.put) naming.at))) wanted
            (row_part old naming.put own naming.at naming.puts
            (have_sooner orders naming.put named (orders_to store.geometry.size page (page_of_version naming.at
            (newest_link (viewed store image naming.put) naming.at))) naming.ordered have_named) wanted knows)
            naming.ordered

pub fill_pays : (D L : Type 0) → FillPays D L
fill_pays D L store image catalog t name shape old new fills orders settled on_disk wanted knows have = record {
  part = both.0;
  root = both.1 (want_of fills.page POINTER fills.page 0) first.root;
  bit = both.1 (want_of (inventory_page store.geometry.size (region_of store.geometry.size fills.page)) BIT fills.page 0)
      first.bit;
}
  where
    first : PaysTable store image old fills.begun t fills.page orders settled on_disk wanted
    first = first_part store image t orders settled on_disk catalog.pointer.0 old fills.begun fills.page fills.takes wanted knows

    both : (all : PaysPart store image old new t orders settled on_disk wanted)
        × ((d : Demand) → Has first.part.more d → Has all.more d)
    both = two_parts store image t orders settled on_disk old fills.begun new wanted first.part
        (table_part store image t orders settled on_disk catalog (rows_at name shape fills.page) fills.page fills.begun new
        fills.rows have (either wanted (listed first.part.more))
        (knows_on store image t orders settled on_disk old fills.begun catalog.pointer.0 wanted knows first.part))
