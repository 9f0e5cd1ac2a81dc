-- The versions that are wanted of a sound image are chained, where no version stands in its record's primary slot.
use Rattle.std.specs.Prelude.{◌≡◌, ◌≢◌, ◌⊎◌, ◌<◌, ◌+◌, ◌-◌, ◌*◌, ◌/◌, ◌^◌, ◌++◌, ◌==◌, ◌||◌, ℕ, zero, suc, Bool, true, false, List, [], ◌∷◌, Option, None, Some, if◌then◌else◌}
use Rattle.std.proofs.Common.{inl, inr, refl, sym, subst, ap, ◌∙◌, arith}
use Rattle.std.proofs.Math.Path.{fun_ext}
use Rattle.std.proofs.lemmas.Bool.{both_ways, eq-eqb, eqb-true, or_cases, or_right}
use Rattle.mg_base.specs.Fields.{u32_at}
use Rattle.mg_base.specs.declared.geometry.TheConstants.{GREATEST_LIMIT}
use Rattle.mg_base.specs.declared.numbers.RecId.{RecId}
use Rattle.mg_base.specs.declared.transaction.TxState.{TxState}
use Rattle.mg_careful.specs.declared.links.Demand.{Demand}
use Rattle.mg_careful.specs.CarefulWrite.{Cache, DemandSet, Has, IsIn}
use Rattle.mg_demand_laws.specs.Wanted.{roots_wanted, wanted, wanted_have}
use Rattle.mg_demand_laws.specs.Runs.{IsLasting, Lasting}
use Rattle.mg_demand_laws.specs.Starts.{IsOpened, OpenedBears, wanted_in}
use Rattle.mg_heap.specs.Reach.{MayOwn}
use Rattle.mg_heap.specs.Table.{IsPointerAt, IsTable}
use Rattle.mg_image.specs.Form.{Form, Pages}
use Rattle.mg_image.specs.Inventory.{inventory_page}
use Rattle.mg_image.specs.RecordRules.{AreOnce, Each, IsRecord, IsVersion}
use Rattle.mg_image.specs.Records.{Cells, Chain, Reading, Stands, cell_spelled, cells_of, ended, goes, newest_of, record_key, slot_cell}
use Rattle.mg_image.specs.Sound.{HasTablePages, IsCellOf, IsSoundBy, IsTableData, IsTablePointer, facts_by}
use Rattle.mg_image.specs.Tables.{EachFrom, EachStand, Has as HasPage, HasStand, Layout, Stand, entries_in, has, stands_of, table_at}
use Rattle.mg_image.specs.declared.entry.Entry.{Entry}
use Rattle.mg_model.specs.declared.table.Index.{Index}
use Rattle.mg_model.specs.declared.table.Table.{Table}
use Rattle.mg_pointer.specs.PointerPage.{capacity, count_in, entries_of, first_entries, next_in, place_of}
use Rattle.mg_header.specs.HeaderPage.{header_in}
use Rattle.mg_slots.specs.DataPage.{cell_of, slot_count}
use Rattle.mg_demand_laws.specs.Roots.{IsFilled, SoundIsWanted, WantsFrom, index_roots, roots_of, table_roots}
use Rattle.mg_space.specs.Demands.{back_demands, bit_demand, cell_demands, demand, demands_by, demands_of, entry_demands, header_demands, linked, meets_of, pointer_demands, version_demands, wanted_demands}
use Rattle.mg_space.specs.Taking.{region_of}
use Rattle.mg_space.specs.declared.links.TheConstants.{BIT, DATA, HEADER, NEXT, NODE, POINTER, TRANSACTIONS, TREE, VERSION}
use Rattle.mg_tip.specs.TipPage.{places}
use Rattle.mg_version.specs.Cells.{IsCell, IsSpelling}
use Rattle.mg_version.specs.declared.cell.Cell.{Cell}
use Rattle.mg_version.specs.declared.cell.Cell.TheVariants as cells
use Rattle.mg_version.specs.declared.cell.Link.{Link}
use Rattle.mg_version.specs.declared.cell.Version.{Version}
use Rattle.mg_demand_laws.specs.KindLaws.{as_want}
use Rattle.mg_demand_laws.specs.Met.{IsMet, has_back, has_either, has_front, is_demand, is_met, of_bit, of_data, of_header, of_next, of_node, of_pointer, of_tip, of_tree, of_version}
use Rattle.mg_demand_laws.specs.VersionLaws.{leads_from_data}
use Rattle.mg_demand_laws.specs.Wanting.{IsWanting, want_of}
use Rattle.mg_demand_laws.specs.CellTies.{spelled_is}
use Rattle.mg_demand_laws.specs.TableTies.{bit_wanted, demand_there, later_place, tables_are_wanted}
use Rattle.mg_demand_laws.specs.Wants.{AreOrderly, IsDataOf, WantsPointer, WantsTable}
use Rattle.mg_demand_laws.specs.Chained.{IsChained, LeadOnce, Leads, of_page, of_version as of_wanted}
use Rattle.mg_demand_laws.specs.ChainedLaws.{on_data_page, slots_lead}
use Rattle.mg_demand_laws.specs.Keeping.{BearsTables}
use Rattle.mg_demand_laws.specs.NoTablePages.{no_both, no_data, no_empty, no_linked, no_node, no_tip, no_tree, no_wanted}
use Rattle.mg_demand_laws.specs.OpenedTables.{InStand, each_stand, entries_there, head_in, opened_orderly, pointer_in, sets, stand_pages}

-- the law of openings, as a caller has it who keeps one invariant over the cache
abbrev pub OpenedTablesBear : Form → Type 0
OpenedTablesBear form = (size : ℕ) (state : ℕ → TxState) (cache : Cache) (it : Lasting) (layout : Layout) (r : Reading)
    → IsOpened form size state cache layout r → IsLasting it
    → BearsTables size cache it (wanted_in size cache layout) (wanted_in size cache layout)

-- ---- the versions of a record, one after another

-- these versions begin with the one at a place
abbrev pub Begins : List Entry → RecId → Type 0
Begins [] y = ⊥
Begins (e ∷ es) y = e.at ≡ y

-- among them the one at a place has that at another place behind it
abbrev pub Follows : List Entry → RecId → RecId → Type 0
Follows [] z y = ⊥
Follows (e ∷ es) z y = ((e.at ≡ z) × Begins es y) ⊎ Follows es z y

begins_stands : (es : List Entry) (y : RecId) → Begins es y → Stands es y
begins_stands [] y begins = absurd begins
begins_stands (e ∷ es) y begins = inl begins

follows_later : (e : Entry) (es : List Entry) (z y : RecId) → Follows (e ∷ es) z y → Stands es y
follows_later e es z y (inl (here, begins)) = begins_stands es y begins
follows_later e [] z y (inr later) = absurd later
follows_later e (f ∷ fs) z y (inr later) = inr (follows_later f fs z y later)

follows_stands : (es : List Entry) (z y : RecId) → Follows es z y → Stands es y
follows_stands [] z y follows = absurd follows
follows_stands (e ∷ es) z y follows = inr (follows_later e es z y follows)

-- where none stands twice, the first one is behind none
begins_alone : (es : List Entry) (z y : RecId) → AreOnce es → Begins es y → Follows es z y → ⊥
begins_alone [] z y once begins follows = begins
begins_alone (e ∷ es) z y once begins follows =
    once.0 (subst (Stands es) (sym begins) (follows_later e es z y follows))

-- and each other one is behind one alone
follows_once : (es : List Entry) (z w y : RecId) → AreOnce es → Follows es z y → Follows es w y → z ≡ w
follows_once [] z w y once one two = absurd one
follows_once (e ∷ es) z w y once (inl (here, begins)) (inl (there, also)) = sym here ∙ there
follows_once (e ∷ es) z w y once (inl (here, begins)) (inr later) = absurd (begins_alone es w y once.1 begins later)
follows_once (e ∷ es) z w y once (inr later) (inl (there, begins)) = absurd (begins_alone es z y once.1 begins later)
follows_once (e ∷ es) z w y once (inr one) (inr two) = follows_once es z w y once.1 one two

-- a chain begins where its link leads
begins_at : (h : Cells) (o : Option Link) (es : List Entry) → Chain h o es → (l : Link) → o ≡ Some l → Begins es l.rec
begins_at h None es ended l is = absurd cc
begins_at h (Some k) es (goes m e more there cell by rest) l is =
    let same : k ≡ l = cc in there ∙ ap (λ (x : Link). x.rec) same

each_stands : (P : Entry → Type 0) (es : List Entry) (y : RecId) → Each P es → Stands es y
    → (e : Entry) × (e.at ≡ y) × P e
each_stands P [] y each stands = absurd stands
each_stands P (e ∷ es) y each (inl here) = (e, here, each.0)
each_stands P (e ∷ es) y each (inr later) = each_stands P es y each.1 later

-- ---- data pages

has_so : (ns : List ℕ) (n : ℕ) → HasPage ns n → has ns n ≡ true
has_so [] n h = absurd h
has_so (m ∷ ns) n (inl same) = rw (eq-eqb n m same) refl
has_so (m ∷ ns) n (inr h) = or_right (n == m) _ (has_so ns n h)

has_it : (ns : List ℕ) (n : ℕ) → has ns n ≡ true → HasPage ns n
has_it [] n is = absurd cc
has_it (m ∷ ns) n is = elim (or_cases (n == m) _ is) [
  | inl same ↦ inl (eqb-true n m same)
  | inr more ↦ inr (has_it ns n more)
]

-- a page is a data page of one of these tables
abbrev pub InTable : List Stand → ℕ → Type 0
InTable stands n = (stand : Stand) × HasStand stands stand × HasPage stand.data_pages n

table_there : (stands : List Stand) (n : ℕ) (stand : Stand) → HasStand stands stand → HasPage stand.data_pages n
    → (table : Table) × (table_at stands n ≡ Some table)
table_there [] n stand h there = absurd h
table_there (s ∷ ss) n stand (inl same) there =
    (s.table, rw (has_so s.data_pages n (subst (λ (x : Stand). HasPage x.data_pages n) same there)) refl)
table_there (s ∷ ss) n stand (inr h) there = at (has s.data_pages n) refl (table_there ss n stand h there)
  where
    at : (b : Bool) → has s.data_pages n ≡ b → (table : Table) × (table_at ss n ≡ Some table)
        → (table : Table) × ((if has s.data_pages n then Some s.table else table_at ss n) ≡ Some table)
    at true is rest = (s.table, rw is refl)
    at false is rest = (rest.0, rw is rest.1)

stand_there : (stands : List Stand) (n : ℕ) (table : Table) → table_at stands n ≡ Some table → InTable stands n
stand_there [] n table is = absurd cc
stand_there (s ∷ ss) n table is = at (has s.data_pages n) refl is (stand_there ss n table)
  where
    at : (b : Bool) → has s.data_pages n ≡ b → (if b then Some s.table else table_at ss n) ≡ Some table
        → (table_at ss n ≡ Some table → InTable ss n) → InTable (s ∷ ss) n
    at true there is further = (s, inl refl, has_it s.data_pages n there)
    at false there is further = let it = further is in (it.0, inr it.1, it.2)

first_has : (page : List ℕ) (k j : ℕ) → j < k → HasPage (first_entries page k) (u32_at page (place_of j))
first_has page zero j less = absurd (omega (arith, less))
first_has page (suc k) j less = at (j == k) refl (λ below. first_has page k j below)
  where
    front : (xs ys : List ℕ) (n : ℕ) → HasPage xs n → HasPage (xs ++ ys) n
    front [] ys n h = absurd h
    front (x ∷ xs) ys n (inl same) = inl same
    front (x ∷ xs) ys n (inr h) = inr (front xs ys n h)

    back : (xs ys : List ℕ) (n : ℕ) → HasPage ys n → HasPage (xs ++ ys) n
    back [] ys n h = h
    back (x ∷ xs) ys n h = inr (back xs ys n h)

    at : (b : Bool) → (j == k) ≡ b → (j < k → HasPage (first_entries page k) (u32_at page (place_of j)))
        → HasPage (first_entries page k ++ u32_at page (place_of k) ∷ []) (u32_at page (place_of j))
    at true is before = back (first_entries page k) (u32_at page (place_of k) ∷ []) (u32_at page (place_of j))
        (inl (ap (λ (i : ℕ). u32_at page (place_of i)) (eqb-true j k is)))
    at false is before = front (first_entries page k) (u32_at page (place_of k) ∷ []) (u32_at page (place_of j))
        (before (let other = λ (same : j ≡ k). both_ways _ is (eq-eqb j k same) in omega (arith, less, other)))

entries_have : (page : List ℕ) (j : ℕ) → j < count_in page → HasPage (entries_of page) (u32_at page (place_of j))
unfolding entries_of
entries_have page j less = first_has page (count_in page) j less

-- ---- roots are of other kinds

-- a demand is neither of a data page nor of a version
abbrev IsOther : Demand → Type 0
IsOther e = (e.what ≢ DATA) × (e.what ≢ VERSION)

other_linked : (size n what a b : ℕ) → (what ≢ DATA) × (what ≢ VERSION) → (e : Demand) → Has (linked size n what a b) e
    → IsOther e
other_linked size n what a b other e h = elim (has_either (demand n what a b) (bit_demand size n) e h) [
  | inl x ↦
      let same : e.what ≡ what = ap (λ (y : Demand). y.what) (is_demand n what a b e x) in
      (λ is. other.0 (sym same ∙ is), λ is. other.1 (sym same ∙ is))
  | inr y ↦
      let nine : e.what ≡ BIT = ap (λ (z : Demand). z.what) (is_demand (inventory_page size (region_of size n)) BIT n 0 e y) in
      (λ is. omega (arith, nine, is), λ is. omega (arith, nine, is))
]

other_indexes : (size owner : ℕ) (indexes : List Index) (e : Demand) → Has (index_roots size owner indexes) e → IsOther e
other_indexes size owner [] e h = absurd h
other_indexes size owner (index ∷ indexes) e h =
    elim (has_either (linked size index.root.0 TREE owner 0) (index_roots size owner indexes) e h) [
      | inl x ↦ other_linked size index.root.0 TREE owner 0 (λ is. omega (arith, is), λ is. omega (arith, is)) e x
      | inr y ↦ other_indexes size owner indexes e y
    ]

other_tables : (size : ℕ) (stands : List Stand) (e : Demand) → Has (table_roots size stands) e → IsOther e
other_tables size [] e h = absurd h
other_tables size (stand ∷ stands) e h =
    elim (has_either (linked size stand.table.pointer.0 POINTER stand.table.pointer.0 0
    ++ index_roots size stand.table.pointer.0 stand.table.indexes) (table_roots size stands) e h) [
      | inl x ↦ elim (has_either (linked size stand.table.pointer.0 POINTER stand.table.pointer.0 0)
          (index_roots size stand.table.pointer.0 stand.table.indexes) e x) [
            | inl y ↦ other_linked size stand.table.pointer.0 POINTER stand.table.pointer.0 0
                (λ is. omega (arith, is), λ is. omega (arith, is)) e y
            | inr z ↦ other_indexes size stand.table.pointer.0 stand.table.indexes e z
          ]
      | inr w ↦ other_tables size stands e w
    ]

-- the first pointer page of a table is a root
first_root : (size : ℕ) (stands : List Stand) (stand : Stand) → HasStand stands stand → (e : Demand)
    → Has (linked size stand.table.pointer.0 POINTER stand.table.pointer.0 0) e → Has (table_roots size stands) e
first_root size [] stand h e made = absurd h
first_root size (s ∷ ss) stand (inl same) e made =
    has_front (linked size s.table.pointer.0 POINTER s.table.pointer.0 0
    ++ index_roots size s.table.pointer.0 s.table.indexes) (table_roots size ss) e
    (has_front (linked size s.table.pointer.0 POINTER s.table.pointer.0 0)
    (index_roots size s.table.pointer.0 s.table.indexes) e
    (subst (λ (x : Stand). Has (linked size x.table.pointer.0 POINTER x.table.pointer.0 0) e) same made))
first_root size (s ∷ ss) stand (inr h) e made =
    has_back (linked size s.table.pointer.0 POINTER s.table.pointer.0 0
    ++ index_roots size s.table.pointer.0 s.table.indexes) (table_roots size ss) e (first_root size ss stand h e made)

pointers_at : (size : ℕ) (pages : Pages) (owner at : ℕ) (ns : List ℕ) → EachFrom (IsTablePointer size pages owner) at ns
    → EachFrom (IsPointerAt pages owner) at ns
pointers_at size pages owner at [] each = tt
pointers_at size pages owner at (n ∷ ns) each = (each.0.fields, pointers_at size pages owner (suc at) ns each.1)

module _ (form : Form) (plain : form.in_primary ≡ false) (size : ℕ) (state : ℕ → TxState) (pages : Pages) (layout : Layout) (r : Reading) (sound : IsSoundBy form size state pages layout r) (filled : EachStand (IsFilled size pages) (stands_of layout)) (from : WantsFrom size pages (roots_of size layout)) where
  abbrev all : DemandSet
  all = wanted demands_of pages (roots_of size layout)

  was : IsWanting size pages all
  was = from.wants

  abbrev h : Cells
  h = cells_of pages

  abbrev place : ℕ → ℕ → RecId
  place n slot = record { page = record { 0 = n }; slot = slot }

  -- a page is a data page of one of the tables
  abbrev InData : ℕ → Type 0
  InData n = InTable (stands_of layout) n

  -- a record is one of a table
  abbrev IsOfTable : RecId → Type 0
  IsOfTable p = (table : Table) × (table_at (stands_of layout) p.page.0 ≡ Some table)

  -- a place is that of a version of some record
  abbrev InRecord : RecId → Type 0
  InRecord y = (p : RecId) × IsOfTable p × Stands (r p) y

  head : IsIn all (want_of 0 HEADER 0 0)
  head = roots_wanted demands_of meets_of pages (roots_of size layout) sets (want_of 0 HEADER 0 0)
      (has_front (demand 0 HEADER 0 0) (table_roots size (stands_of layout)) (want_of 0 HEADER 0 0)
      (demand_there 0 HEADER 0 0 (omega arith) (omega arith) (omega arith)))

  stand_is : (stand : Stand) → HasStand (stands_of layout) stand → HasTablePages form.in_primary size pages stand
  stand_is stand there = each_stand (HasTablePages form.in_primary size pages) (stands_of layout) stand sound.tables there

  -- each cell of a data page is well formed
  cell_is : (n slot : ℕ) (cell : Cell) → InData n → slot_cell (cell_of (pages n) slot) ≡ Some cell → IsCell cell
  cell_is n slot cell (stand, there, listed_) is = at (cell_of (pages n) slot) refl is
    where
      its : IsTableData form.in_primary size pages stand.table.pointer.0
          (later_place (IsTableData form.in_primary size pages stand.table.pointer.0) 0 stand.data_pages n
          (stand_is stand there).data_pages listed_).0 n
      its = (later_place (IsTableData form.in_primary size pages stand.table.pointer.0) 0 stand.data_pages n
          (stand_is stand there).data_pages listed_).2

      spelled : (bytes : List ℕ) → IsCellOf form.in_primary bytes → cell_spelled bytes ≡ cell → IsCell cell
      spelled bytes (inl (c, spells)) same =
          subst (λ (x : Cell). IsCell x) (sym (spelled_is bytes c spells) ∙ same) spells.is_cell
      spelled bytes (inr (primary, rest)) same = absurd (both_ways form.in_primary plain primary)

      at : (o : Option (List ℕ)) → cell_of (pages n) slot ≡ o → slot_cell o ≡ Some cell → IsCell cell
      at None e is = absurd cc
      at (Some bytes) e is = let same : cell_spelled bytes ≡ cell = cc in spelled bytes (its.cells slot bytes e) same

  -- ---- what cells lead to

  -- what a record's slot leads to is where its versions begin
  by_slot : (n slot : ℕ) → InData n → (e : Demand) → Has (cell_demands (slot_cell (cell_of (pages n) slot))) e
      → e.what ≡ VERSION → IsOfTable (place n slot) × Begins (r (place n slot)) (place e.target e.a)
  by_slot n slot data_ e made what = (of_table, at (slot_cell (cell_of (pages n) slot)) refl made)
    where
      of_table : (table : Table) × (table_at (stands_of layout) n ≡ Some table)
      of_table = table_there (stands_of layout) n data_.0 data_.1 data_.2

      at : (c : Option Cell) → slot_cell (cell_of (pages n) slot) ≡ c → Has (cell_demands c) e
          → Begins (r (record { page = record { 0 = n }; slot = slot })) (record { page = record { 0 = e.target }; slot = e.a })
      at None is made = absurd made
      at (Some (cells.Anchor link)) is made = subst (λ (x : Demand). Begins (r (record { page = record { 0 = n }; slot = slot }))
          (record { page = record { 0 = x.target }; slot = x.a }))
          (sym (is_demand link.rec.page.0 VERSION link.rec.slot link.tx.0 e made))
          (begins_at (cells_of pages) (newest_of (record { page = record { 0 = n }; slot = slot })
          (slot_cell (cell_of (pages n) slot))) (r (record { page = record { 0 = n }; slot = slot }))
          (sound.records.reads (record { page = record { 0 = n }; slot = slot }) of_table.0 of_table.1) link
          (ap (newest_of (record { page = record { 0 = n }; slot = slot })) is))
      at (Some (cells.Version v)) is made = absurd (subst (λ (c : Bool). Has (if c then version_demands v else []) e)
          (cell_is n slot (cells.Version v) data_ is).moved made)

  -- what a version leads to stands behind it
  behind_of : (v : Version) (es : List Entry) → Chain h v.back es → (e : Demand) → Has (version_demands v) e
      → e.what ≡ VERSION → Begins es (place e.target e.a)
  behind_of v es chain e made what = elim (has_either (demand 0 NEXT v.tx.0 0) (back_demands v.back) e made) [
    | inl number ↦ let two : e.what ≡ NEXT = ap (λ (y : Demand). y.what) (is_demand 0 NEXT v.tx.0 0 e number) in
        absurd (omega (arith, two, what))
    | inr back ↦ at v.back refl back
  ]
    where
      at : (o : Option Link) → v.back ≡ o → Has (back_demands o) e
          → Begins es (record { page = record { 0 = e.target }; slot = e.a })
      at None is back = absurd back
      at (Some link) is back = subst (λ (x : Demand). Begins es (record { page = record { 0 = x.target }; slot = x.a }))
          (sym (is_demand link.rec.page.0 VERSION link.rec.slot link.tx.0 e back))
          (begins_at (cells_of pages) v.back es chain link is)

  follows_in : (o : Option Link) (es : List Entry) → Chain h o es → (z : RecId) → Stands es z → (e : Demand)
      → Has (wanted_demands (h z)) e → e.what ≡ VERSION → Follows es z (place e.target e.a)
  follows_in None es ended z stands e made what = absurd stands
  follows_in (Some k) es (goes m f more there cell by rest) z (inl here) e made what = inl (
    here,
    behind_of f.version more rest e
        (subst (λ (c : Option Cell). Has (wanted_demands c) e) (sym (ap (cells_of pages) here) ∙ cell) made) what,
  )
  follows_in (Some k) es (goes m f more there cell by rest) z (inr later) e made what =
      inr (follows_in f.version.back more rest z later e made what)

  by_version : (n slot : ℕ) → (it : InRecord (place n slot)) → (e : Demand)
      → Has (wanted_demands (slot_cell (cell_of (pages n) slot))) e → e.what ≡ VERSION
      → Follows (r it.0) (place n slot) (place e.target e.a)
  by_version n slot it e made what = follows_in (newest_of it.0 (h it.0)) (r it.0) (sound.records.reads it.0 it.1.0 it.1.1)
      (place n slot) it.2 e made what

  -- ---- what is wanted of data pages and of versions

  abbrev IsPlaced : Demand → Type 0
  IsPlaced d = IsIn all d × ((d.what ≡ DATA → InData d.target) × (d.what ≡ VERSION → InRecord (place d.target d.a)))

  low : 3 < DATA
  low = omega arith

  high : DATA < 6
  high = omega arith

  -- an entry's page is a data page of the table
  of_entries : (n owner at k : ℕ) → InStand form size state pages layout r sound filled from n → k < count_in (pages n) + 1
      → (e : Demand) → Has (entry_demands size (pages n) owner at k) e → e.what ≡ DATA → InData e.target
  of_entries n owner at zero its less e made what = absurd made
  of_entries n owner at (suc k) its less e made what =
      elim (has_either (entry_demands size (pages n) owner at k) _ e made) [
        | inl sooner ↦ of_entries n owner at k its (omega (arith, less)) e sooner what
        | inr here ↦ elim (has_either (demand (u32_at (pages n) (place_of k)) DATA owner (at * capacity size + k))
            (bit_demand size (u32_at (pages n) (place_of k))) e here) [
              | inl one ↦ subst (λ (m : ℕ). InTable (stands_of layout) m)
                  (sym (ap (λ (x : Demand). x.target) (is_demand (u32_at (pages n) (place_of k)) DATA owner
                  (at * capacity size + k) e one))) (
                    its.0,
                    its.1,
                    subst (λ (ns : List ℕ). HasPage ns (u32_at (pages n) (place_of k)))
                        (sym (stand_is its.0 its.1).entries) (entries_there pages its.0.pointers n (u32_at (pages n) (place_of k))
                        its.2 (entries_have (pages n) k (omega (arith, less)))),
                  )
              | inr bit ↦ absurd (let nine : e.what ≡ BIT = ap (λ (x : Demand). x.what)
                  (is_demand (inventory_page size (region_of size (u32_at (pages n) (place_of k)))) BIT
                  (u32_at (pages n) (place_of k)) 0 e bit) in omega (arith, nine, what))
            ]
      ]

  of_pointers : (n owner at : ℕ) → InStand form size state pages layout r sound filled from n → (e : Demand)
      → Has (pointer_demands size (pages n) owner at) e → e.what ≡ DATA → InData e.target
  of_pointers n owner at its e made what =
      elim (has_either (entry_demands size (pages n) owner at (count_in (pages n))) _ e made) [
        | inl x ↦ of_entries n owner at (count_in (pages n)) its (omega arith) e x what
        | inr y ↦ absurd (behind (next_in (pages n) == 0) y)
      ]
    where
      behind : (b : Bool) → Has (if b then [] else linked size (next_in (pages n)) POINTER owner (at + 1)) e → ⊥
      behind true y = y
      behind false y = no_linked DATA (omega arith) (omega arith) size (next_in (pages n)) POINTER owner (at + 1)
          (λ is. omega (arith, is)) e y what

  -- what leads to a data page is a pointer page
  data_along : (d e : Demand) → IsIn all d → Has (demands_of (pages d.target) d) e → e.what ≡ DATA → InData e.target
  data_along d e has_ made what = so (is_met size (pages d.target) d (was.whole d.target) (was.keeps.met d has_))
    where
      by : (want : Demand) → d ≡ want → Has (demands_by size (pages d.target) want) e
      by want is = as_want size pages (wanted demands_of pages (roots_of size layout)) was (pages d.target)
          (was.whole d.target) want d e is made

      so : IsMet size (pages d.target) d → InTable (stands_of layout) e.target
      so (of_header is on) = absurd (no_both DATA low high
          (linked size (header_in (pages d.target)).last_tip.0 TRANSACTIONS
          (((header_in (pages d.target)).next.0 - 1) / places size) 0)
          (linked size (header_in (pages d.target)).catalog.0 POINTER (header_in (pages d.target)).catalog.0 0)
          (no_linked DATA low high size (header_in (pages d.target)).last_tip.0 TRANSACTIONS
          (((header_in (pages d.target)).next.0 - 1) / places size) 0 (λ e. omega (arith, e)))
          (no_linked DATA low high size (header_in (pages d.target)).catalog.0 POINTER
          (header_in (pages d.target)).catalog.0 0 (λ e. omega (arith, e))) e (by (want_of 0 HEADER d.a d.b) is) what)
      so (of_next is on below) = absurd (no_empty DATA low high e (by (want_of 0 NEXT d.a d.b) is) what)
      so (of_tip is passes) =
          absurd (no_tip DATA low high size (pages d.target) d.a e (by (want_of d.target TRANSACTIONS d.a d.b) is) what)
      so (of_pointer is passes) = of_pointers d.target d.a d.b
          (pointer_in form size state pages layout r sound filled from d.target d.a d.b
          (subst (IsIn (wanted demands_of pages (roots_of size layout))) is has_)) e
          (by (want_of d.target POINTER d.a d.b) is) what
      so (of_data is passes) =
          absurd (no_data DATA low high (pages d.target) e (by (want_of d.target DATA d.a d.b) is) what)
      so (of_version is there) = absurd (no_wanted DATA low high (slot_cell (cell_of (pages d.target) d.a)) e
          (by (want_of d.target VERSION d.a d.b) is) what)
      so (of_tree is passes) =
          absurd (no_tree DATA low high size (pages d.target) d.a e (by (want_of d.target TREE d.a d.b) is) what)
      so (of_node is passes level) =
          absurd (no_node DATA low high size (pages d.target) d.a e (by (want_of d.target NODE d.a d.b) is) what)
      so (of_bit is passes used) = absurd (no_empty DATA low high e (by (want_of d.target BIT d.a d.b) is) what)

  -- what leads to a version is a cell of a data page
  version_along : (d e : Demand) → IsPlaced d → Has (demands_of (pages d.target) d) e → e.what ≡ VERSION
      → InRecord (place e.target e.a)
  version_along d e (has_, (data_, version_)) made what =
      so (on_data_page size pages all was head d has_ (leads_from_data size pages all was d e has_ made what))
    where
      so : (d ≡ want_of d.target DATA d.a d.b) ⊎ (d ≡ want_of d.target VERSION d.a d.b)
          → InRecord (record { page = record { 0 = e.target }; slot = e.a })
      so (inl is) =
          let it = slots_lead (pages d.target) e (slot_count (pages d.target))
          (as_want size pages all was (pages d.target) (was.whole d.target) (want_of d.target DATA d.a d.b) d e is made) in
          let led = by_slot d.target it.0 (data_ (ap (λ (x : Demand). x.what) is)) e it.1 what in
          (place d.target it.0, led.0, begins_stands (r (place d.target it.0)) (place e.target e.a) led.1)
      so (inr is) =
          let it = version_ (ap (λ (x : Demand). x.what) is) in (
            it.0,
            it.1,
            follows_stands (r it.0) (place d.target d.a) (place e.target e.a) (by_version d.target d.a it e
                (as_want size pages all was (pages d.target) (was.whole d.target) (want_of d.target VERSION d.a d.b) d e is made)
                what),
          )

  along : (d e : Demand) → IsPlaced d → Has (demands_of (pages d.target) d) e → IsPlaced e
  along d e placed made = (
    was.keeps.in_turn d e placed.0 made,
    (λ what. data_along d e placed.0 made what, λ what. version_along d e placed made what),
  )

  of_roots : (e : Demand) → Has (roots_of size layout) e → IsPlaced e
  of_roots e made = (
    roots_wanted demands_of meets_of pages (roots_of size layout) sets e made,
    (λ what. absurd (other.0 what), λ what. absurd (other.1 what)),
  )
    where
      other : (e.what ≢ DATA) × (e.what ≢ VERSION)
      other = elim (has_either (demand 0 HEADER 0 0) (table_roots size (stands_of layout)) e made) [
        | inl x ↦ let one : e.what ≡ HEADER = ap (λ (y : Demand). y.what) (is_demand 0 HEADER 0 0 e x) in
            (λ is. omega (arith, one, is), λ is. omega (arith, one, is))
        | inr y ↦ other_tables size (stands_of layout) e y
      ]

  all_placed : (d : Demand) → IsIn all d → IsPlaced d
  all_placed = wanted_have demands_of meets_of pages (roots_of size layout) sets IsPlaced of_roots along

  -- ---- each data page of a table is wanted, with its bit

  data_wanted : (n : ℕ) → InData n → IsDataOf size all n
  data_wanted n (stand, there, listed_) = its.data_ n listed_
    where
      owner : ℕ
      owner = stand.table.pointer.0

      below : stand.table.pointer.0 < GREATEST_LIMIT
      below = (later_place (IsTablePointer size pages stand.table.pointer.0) 0 stand.pointers stand.table.pointer.0
          (stand_is stand there).pointers (head_in (λ m. next_in (pages m)) stand.table.pointer.0 stand.pointers
          (stand_is stand there).chain (stand_is stand there).first)).2.below

      root : (e : Demand) → Has (linked size stand.table.pointer.0 POINTER stand.table.pointer.0 0) e
          → IsIn (wanted demands_of pages (roots_of size layout)) e
      root e made = roots_wanted demands_of meets_of pages (roots_of size layout) sets e
          (has_back (demand 0 HEADER 0 0) (table_roots size (stands_of layout)) e
          (first_root size (stands_of layout) stand there e made))

      its : WantsTable size pages (wanted demands_of pages (roots_of size layout)) stand.table.pointer.0 stand.pointers
          stand.data_pages
      its = tables_are_wanted size pages (wanted demands_of pages (roots_of size layout)) stand.table.pointer.0
          stand.pointers stand.data_pages was (opened_orderly form size state pages layout r sound filled from)
          (record { some = (stand_is stand there).first; below = below }) (record {
            page = root (want_of stand.table.pointer.0 POINTER stand.table.pointer.0 0)
                (has_front (demand stand.table.pointer.0 POINTER stand.table.pointer.0 0)
                (bit_demand size stand.table.pointer.0) (want_of stand.table.pointer.0 POINTER stand.table.pointer.0 0)
                (demand_there stand.table.pointer.0 POINTER stand.table.pointer.0 0 (omega (arith, below))
                (omega (arith, below)) (omega arith)));
            bit = root (want_of (inventory_page size (region_of size stand.table.pointer.0)) BIT stand.table.pointer.0 0)
                (has_back (demand stand.table.pointer.0 POINTER stand.table.pointer.0 0)
                (bit_demand size stand.table.pointer.0)
                (want_of (inventory_page size (region_of size stand.table.pointer.0)) BIT stand.table.pointer.0 0)
                (bit_wanted size stand.table.pointer.0 below));
          }) (record {
            chain = (stand_is stand there).chain;
            tested = pointers_at size pages stand.table.pointer.0 0 stand.pointers (stand_is stand there).pointers;
            entries = (stand_is stand there).entries;
          })

  -- a record's versions stand on data pages
  version_data : (y : RecId) → InRecord y → InData y.page.0
  version_data y (p, (table, of_table), stands) =
      let it = each_stands (IsVersion form.coding (facts_by state pages layout) table (record_key table (r p))) (r p) y
      (sound.records.each p table of_table).each stands in
      stand_there (stands_of layout) y.page.0 table
      (subst (λ (x : RecId). table_at (stands_of layout) x.page.0 ≡ Some table) it.1 it.2.placed)

  -- ---- one cell leads to each

  -- what leads to a version is its record's slot, or the version before it
  abbrev HoldsAt : RecId → RecId → RecId → Type 0
  HoldsAt z y p = ((p ≡ z) × Begins (r p) y) ⊎ Follows (r p) z y

  holds : (n slot : ℕ) (e : Demand) → Leads size all (pages n) n slot e → e.what ≡ VERSION
      → (p : RecId) × IsOfTable p × HoldsAt (place n slot) (place e.target e.a) p
  holds n slot e (of_page of made) what =
      let led = by_slot n slot ((all_placed (want_of n DATA of.owner of.place) of.wants.page).1.0 refl) e made what in
      (place n slot, led.0, inl (refl, led.1))
  holds n slot e (of_wanted t w made) what =
      let it = (all_placed (want_of n VERSION slot t) w).1.1 refl in
      (it.0, it.1, inr (by_version n slot it e made what))

  stands_in : (z y p : RecId) → HoldsAt z y p → Stands (r p) y
  stands_in z y p (inl (here, begins)) = begins_stands (r p) y begins
  stands_in z y p (inr follows) = follows_stands (r p) z y follows

  hold_once : (z w y p : RecId) → IsOfTable p → HoldsAt z y p → HoldsAt w y p → z ≡ w
  hold_once z w y p table (inl (here, begins)) (inl (there, also)) = sym here ∙ there
  hold_once z w y p table (inl (here, begins)) (inr follows) =
      absurd (begins_alone (r p) w y (sound.records.each p table.0 table.1).once begins follows)
  hold_once z w y p table (inr follows) (inl (there, begins)) =
      absurd (begins_alone (r p) z y (sound.records.each p table.0 table.1).once begins follows)
  hold_once z w y p table (inr one) (inr two) =
      follows_once (r p) z w y (sound.records.each p table.0 table.1).once one two

  lead_once : LeadOnce size pages all
  lead_once n m slot other e what one two =
      let x = holds n slot e one what in
      let w = holds m other e two what in
      let same = sound.records.apart x.0 w.0 (place e.target e.a) (stands_in (place n slot) (place e.target e.a) x.0 x.2)
      (stands_in (place m other) (place e.target e.a) w.0 w.2) in
      let places_ = hold_once (place n slot) (place m other) (place e.target e.a) w.0 w.1
      (subst (HoldsAt (place n slot) (place e.target e.a)) same x.2) w.2 in
      (ap (λ (p : RecId). p.page.0) places_, ap (λ (p : RecId). p.slot) places_)

  pub opened_chained : IsChained size pages all
  opened_chained = record {
    with_bit = λ n owner at has_. data_wanted n ((all_placed (want_of n DATA owner at) has_).1.0 refl);
    placed = λ n slot t has_. data_wanted n (version_data (place n slot) ((all_placed (want_of n VERSION slot t) has_).1.1 refl));
    cells_are = λ n slot cell of is. cell_is n slot cell
        ((all_placed (want_of n DATA of.owner of.place) of.wants.page).1.0 refl) is;
    once = lead_once;
  }

pub opened_tables_bear : (form : Form) → form.in_primary ≡ false → SoundIsWanted form → OpenedBears form
    → OpenedTablesBear form
opened_tables_bear form plain law opens = λ size state cache it layout r opened lasting.
    let from = law size state cache.disk layout r opened.sound opened.filled in
    let pool : cache.disk ≡ cache.pool = sym (fun_ext opened.same) in
    record {
      bears = opens size state cache it layout r opened lasting;
      orderly = subst (λ (pages : Pages). AreOrderly size pages (wanted_in size cache layout)) pool
          (opened_orderly form size state cache.disk layout r opened.sound opened.filled from);
      chained = subst (λ (pages : Pages). IsChained size pages (wanted_in size cache layout)) pool
          (opened_chained form plain size state cache.disk layout r opened.sound opened.filled from);
    }
