-- What a sound image has: a property of each demand that is reached from its roots, which goes on
-- along links and makes sure that what is wanted is met.
use Rattle.std.specs.Prelude.{◌≡◌, ◌≢◌, ◌<◌, ◌≤◌, ◌+◌, ◌*◌, ◌/◌, ◌%◌, ◌-◌, ◌==◌, ◌&&◌, ◌⊎◌, ◌++◌, ℕ, zero, suc, Bool, true, false, List, [], ◌∷◌, length, Option, None, Some, is_ok, if◌then◌else◌}
use Rattle.std.proofs.Common.{arith, inl, inr, refl, sym, subst, ap, ◌∙◌}
use Rattle.std.proofs.Math.Nat.{div-lt_iff_lt-mul, suc-mul, zero-mul}
use Rattle.std.proofs.lemmas.Nat.{div-mul-add, mod-mul-add}
use Rattle.std.proofs.lemmas.Bool.{both_ways, cases_lt, eq-eqb, ltb-true, lt-ltb, and_from}
use Rattle.mg_base.specs.CheckLaws.{verdict_from_passes}
use Rattle.mg_base.specs.Checks.{Check, PassesAll, common_checks, verdict}
use Rattle.mg_base.specs.Fields.{byte, u32_at}
use Rattle.mg_base.specs.Geometry.{is_page_size}
use Rattle.mg_base.specs.Image.{blank}
use Rattle.mg_base.specs.declared.geometry.TheConstants.{GREATEST_LIMIT}
use Rattle.mg_base.specs.declared.numbers.RecId.{RecId}
use Rattle.mg_base.specs.declared.transaction.TxState.{TxState}
use Rattle.mg_base.specs.declared.transaction.TxState.TheVariants.{Active, Committed, Dead, Limbo}
use Rattle.mg_careful.specs.declared.links.Demand.{Demand}
use Rattle.mg_careful.specs.CarefulWrite.{Has, IsLinked, ListsAreSets, listed}
use Rattle.mg_demand_laws.specs.Wanted.{linked_where, roots_wanted, wanted_have, wanted_keeps}
use Rattle.mg_header.specs.HeaderPage.{database_checks, page_checks, reading_upto, the_page}
use Rattle.mg_image.specs.Form.{Form, Pages}
use Rattle.mg_image.specs.Indexes.{AreChildren, AreNodes, HasEntry, AreTrees, HasChildren, IsNode, IsTree, first_level}
use Rattle.mg_image.specs.Inventory.{bits_state, header_of, inventory_page, is_used, last_sequence, next_of, tip_before, tip_page}
use Rattle.mg_image.specs.RecordRules.{Each, IsVersion}
use Rattle.mg_image.specs.Records.{Chain, Reading, cells_of, ended, goes, newest_of, writer}
use Rattle.mg_image.specs.Sound.{HasRegion, HasTablePages, IsSoundBy, IsTableData, IsTablePointer, IsUndrawn, facts_by}
use Rattle.mg_image.specs.Tables.{EachFrom, EachStand, HasStand, Layout, LinkChain, PointerChain, Stand, entries_in, has, stands_of, table_at}
use Rattle.mg_image.specs.Tables.{Has as HasPage, ended as chain_ended, goes as chain_goes}
use Rattle.mg_image.specs.declared.entry.Entry.{Entry}
use Rattle.mg_model.specs.declared.table.Index.{Index}
use Rattle.mg_model.specs.declared.table.Table.{Table}
use Rattle.mg_node.specs.NodePage.{entries_of as node_entries, entry_at, first_entries as first_nodes, count_in as node_count, is_inner, level_in, node_checks, place_of as node_place, right_in}
use Rattle.mg_node.specs.declared.entry.Entry.{Entry as nodes}
use Rattle.mg_pip.specs.PipPage.{bits, pip_checks, used_in}
use Rattle.mg_pip.specs.PipPageLaws.{zero_unused}
use Rattle.std.proofs.lemmas.List.{get_or-replicate, get_or_past, length-replicate}
use Rattle.mg_base.specs.declared.numbers.TxNo.{TxNo}
use Rattle.mg_pointer.specs.PointerPage.{capacity, count_in, entries_of, first_entries, next_in, place_of, pointer_checks}
use Rattle.mg_slots.specs.declared.page.TheConstants.{DATA_KIND}
use Rattle.mg_slots.specs.DataPage.{slot_count}
use Rattle.mg_space.specs.Demands.{back_demands, cell_demands, child_demands, demand, demands_by, demands_of, drawn_demands, entry_demands, header_demands, is_decided, is_header, is_version_of, linked, meets_bit, meets_by, meets_of, node_demands, pointer_demands, right_demands, slot_demands, tip_demands, tree_demands, version_demands, wanted_demands}
use Rattle.mg_space.specs.declared.links.TheConstants.{BIT, DATA, HEADER, NEXT, NODE, POINTER, TRANSACTIONS, TREE, VERSION}
use Rattle.mg_tip.specs.TipPage.{places, prev_in, state_in, tip_checks}
use Rattle.mg_version.specs.declared.cell.Cell.{Cell}
use Rattle.mg_version.specs.declared.cell.Cell.TheVariants as cells
use Rattle.mg_version.specs.declared.cell.Link.{Link}
use Rattle.mg_version.specs.declared.cell.Version.{Version}
use Rattle.mg_demand_laws.specs.Roots.{IsFilled, SoundIsLinked, SoundIsWanted, WantsFrom, index_roots, roots_of, table_roots}
use Rattle.mg_demand_laws.proofs.ListLemmas.{AreLevels, are_levels, each_back, each_front, each_page, either, has_so, inside, is_demand, is_linked, length-first, mk, root_there, has_it}

-- ---- what is wanted

module _ (form : Form) (size : ℕ) (state : ℕ → TxState) (pages : Pages) (layout : Layout) (r : Reading) (sound : IsSoundBy form size state pages layout r) (filled : EachStand (IsFilled size pages) (stands_of layout)) where
  -- the data page of an owner at a place, which is one of a table
  record IsData (owner place n : ℕ) : Type 0 where
    pub data_ : IsTableData form.in_primary size pages owner place n
    pub of_table : (table : Table) × (table_at (stands_of layout) n ≡ Some table)

  -- the pointer pages of an owner from a place of the chain on
  record ArePointers (owner place : ℕ) (ns : List ℕ) : Type 0 where
    pub pointers : EachFrom (IsTablePointer size pages owner) place ns
    pub entries : EachFrom (IsData owner) (place * capacity size) (entries_in pages ns)
    pub full : (n : ℕ) → HasPage ns n → next_in (pages n) ≢ 0 → count_in (pages n) ≡ capacity size

  -- a page of an index, above the pages of these levels
  record IsInTree (owner n : ℕ) (level : List ℕ) (below : List (List ℕ)) : Type 0 where
    pub here : HasPage level n
    pub nodes : AreNodes size pages owner (level ∷ below)
    pub chains : AreLevels pages (level ∷ below)

  -- a version of a drawn transaction, on a data page of a table
  record IsPlaced (x : Entry) : Type 0 where
    pub below : writer x < next_of pages
    pub of_table : (table : Table) × (table_at (stands_of layout) x.at.page.0 ≡ Some table)

  data Stands : Demand → Type 0 where
    header : {d : Demand} → d ≡ mk 0 HEADER 0 0 → Stands d
    drawn : {d : Demand} (t : ℕ) → d ≡ mk 0 NEXT t 0 → t < next_of pages → Stands d
    tip : {d : Demand} (s : ℕ) → d ≡ mk (tip_page size pages s) TRANSACTIONS s 0
        → s ≤ last_sequence size pages → Stands d
    pointer : {d : Demand} (n owner place : ℕ) (ns : List ℕ) → d ≡ mk n POINTER owner place
        → PointerChain pages n ns → n ≢ 0 → ArePointers owner place ns → Stands d
    data_page : {d : Demand} (n owner place : ℕ) → d ≡ mk n DATA owner place → IsData owner place n
        → Stands d
    version : {d : Demand} (link : Link) (e : Entry) (es : List Entry)
        → d ≡ mk link.rec.page.0 VERSION link.rec.slot link.tx.0
        → Chain (cells_of pages) (Some link) (e ∷ es) → Each IsPlaced (e ∷ es)
        → Stands d
    tree : {d : Demand} (n owner : ℕ) (level : List ℕ) (below : List (List ℕ)) → d ≡ mk n TREE owner 0
        → IsInTree owner n level below → Stands d
    node : {d : Demand} (n owner : ℕ) (level : List ℕ) (below : List (List ℕ))
        → d ≡ mk n NODE owner (length below) → IsInTree owner n level below → Stands d
    bit : {d : Demand} (n : ℕ) → d ≡ mk (inventory_page size (n / bits size)) BIT n 0
        → n < GREATEST_LIMIT → is_used size pages n ≡ true → Stands d

  -- ---- met

  abbrev lawful : is_page_size size ≡ true
  lawful = sound.header.lawful_size

  opened : (n : ℕ) (want : Demand) → demands_of (pages n) want ≡ demands_by size (pages n) want
  unfolding demands_of
  opened n want = subst (λ (k : ℕ). (if is_page_size k then demands_by k (pages n) want else [])
      ≡ demands_by size (pages n) want) (sym (sound.header.whole n)) (rw lawful refl)

  met_so : (n : ℕ) (want : Demand) → meets_by size (pages n) want ≡ true → meets_of (pages n) want ≡ true
  unfolding meets_of
  met_so n want is = subst (λ (k : ℕ). (is_page_size k && meets_by k (pages n) want) ≡ true)
      (sym (sound.header.whole n)) (and_from _ _ lawful is)

  passes : (n : ℕ) (checks : List Check) → PassesAll checks
      → is_ok (verdict (record { 0 = n }) checks) ≡ true
  passes n checks all = ap is_ok (verdict_from_passes (record { 0 = n }) checks all)

  header_reads : is_header size (pages 0) ≡ true
  unfolding reading_upto
  header_reads = rw (
    verdict_from_passes the_page (database_checks (pages 0) size) sound.header.database,
    verdict_from_passes the_page (page_checks (pages 0)) sound.header.fields,
  ) refl

  -- ---- the pages that are marked

  linked_at : (e : Demand) (n what a b : ℕ) → Stands (mk n what a b) → n < GREATEST_LIMIT
      → is_used size pages n ≡ true → Has (linked size n what a b) e → Stands e
  linked_at e n what a b one below used h = is_linked Stands size n what a b one (bit n refl below used) e h

  -- ---- the transactions

  -- a page that is the transaction inventory page of a sequence, and its bit
  of_tip_link : (n s : ℕ) → n ≡ tip_page size pages s → s ≤ last_sequence size pages → (e : Demand)
      → Has (linked size n TRANSACTIONS s 0) e → Stands e
  of_tip_link n s same least e h =
      let wanted = sound.transactions.each s least in
      linked_at e n TRANSACTIONS s 0 (tip s (ap (λ (k : ℕ). mk k TRANSACTIONS s 0) same) least)
      (subst (λ (k : ℕ). k < GREATEST_LIMIT) (sym same) wanted.below)
      (subst (λ (k : ℕ). is_used size pages k ≡ true) (sym same) wanted.used) h

  last_tip : (header_of pages).last_tip.0 ≡ tip_page size pages (last_sequence size pages)
  last_tip =
      let none : 0 ≡ last_sequence size pages - last_sequence size pages = omega arith in
      ap (tip_before pages (header_of pages).last_tip.0) none

  prev_tip : (s : ℕ) → s ≢ 0 → s ≤ last_sequence size pages
      → prev_in (pages (tip_page size pages s)) ≡ tip_page size pages (s - 1)
  prev_tip s some least =
      let further : suc (last_sequence size pages - s) ≡ last_sequence size pages - (s - 1) =
      omega (arith, some, least) in
      ap (tip_before pages (header_of pages).last_tip.0) further

  -- a transaction that has become something was drawn
  is_drawn : (s place : ℕ) → s ≤ last_sequence size pages → place < places size
      → is_decided (state_in (pages (tip_page size pages s)) place) ≡ true
      → s * places size + place < next_of pages
  is_drawn s place least inside decided = elim (cases_lt (s * places size + place) (next_of pages)) [
    | inl below ↦ below
    | inr past ↦ absurd (at (bits_state size pages (s * places size + place))
        (ap is_decided there ∙ decided)
        (sound.transactions.undrawn (s * places size + place) past (sequence past)))
  ]
    where
      quotient : (s * places size + place) / places size ≡ s
      quotient = div-mul-add s (places size) place inside

      there : bits_state size pages (s * places size + place)
          ≡ state_in (pages (tip_page size pages s)) place
      there = ap (λ (k : ℕ). state_in (pages (tip_page size pages k)) ((s * places size + place) % places size)) quotient
          ∙ ap (λ (k : ℕ). state_in (pages (tip_page size pages s)) k) (mod-mul-add s (places size) place inside)

      sequence : next_of pages ≤ s * places size + place
          → (s * places size + place) / places size ≡ last_sequence size pages
      sequence past = quotient ∙ is_last
        where
          before : last_sequence size pages < suc s
          before =
              let more : suc s * places size ≡ s * places size + places size = suc-mul s (places size) in
              let divides = div-lt_iff_lt-mul {k = places size} {x = next_of pages - 1} {y = suc s}
              (omega (arith, inside)) in
              divides.1 (omega (arith, more, past, inside))

          is_last : s ≡ last_sequence size pages
          is_last = let b = before in omega (arith, b, least)

      at : (x : TxState) → is_decided x ≡ true → IsUndrawn x → ⊥
      at Active is un = absurd cc
      at Limbo is un = un
      at Dead is un = absurd cc
      at Committed is un = un

  of_states : (s place : ℕ) → s ≤ last_sequence size pages → place ≤ places size → (e : Demand)
      → Has (drawn_demands size (pages (tip_page size pages s)) s place) e → Stands e
  of_states s zero least within e h = absurd h
  of_states s (suc place) least within e h =
      elim (either (drawn_demands size (pages (tip_page size pages s)) s place) _ e h) [
        | inl x ↦ of_states s place least (omega (arith, within)) e x
        | inr y ↦ at (is_decided (state_in (pages (tip_page size pages s)) place)) refl y
      ]
    where
      at : (b : Bool) → is_decided (state_in (pages (tip_page size pages s)) place) ≡ b
          → Has (if b then demand 0 NEXT (s * places size + place) 0 else []) e → Stands e
      at true is y = drawn (s * places size + place) (is_demand 0 NEXT (s * places size + place) 0 e y)
          (is_drawn s place least (omega (arith, within)) is)
      at false is y = absurd y

  of_tip : (s : ℕ) → s ≤ last_sequence size pages → (e : Demand)
      → Has (tip_demands size (pages (tip_page size pages s)) s) e → Stands e
  of_tip s least e h =
      elim (either (drawn_demands size (pages (tip_page size pages s)) s (places size)) _ e h) [
        | inl x ↦ of_states s (places size) least (omega arith) e x
        | inr y ↦ at (s == 0) refl y
      ]
    where
      at : (b : Bool) → (s == 0) ≡ b
          → Has (if b then [] else linked size (prev_in (pages (tip_page size pages s))) TRANSACTIONS (s - 1) 0) e
          → Stands e
      at true is y = absurd y
      at false is y = of_tip_link (prev_in (pages (tip_page size pages s))) (s - 1)
          (prev_tip s (λ zero_. both_ways _ is (eq-eqb s 0 zero_)) least) (omega (arith, least)) e y

  -- ---- the pages of tables

  first_each : (P : ℕ → ℕ → Type 0) (next : ℕ → ℕ) (n at : ℕ) (ns : List ℕ) → LinkChain next n ns → n ≢ 0
      → EachFrom P at ns → P at n
  first_each P next n at ns chain_ended some each = absurd (some refl)
  first_each P next n at ns (chain_goes m more is rest) some each = each.0

  of_entries : (owner place n k : ℕ)
      → EachFrom (IsData owner) (place * capacity size) (first_entries (pages n) k) → (e : Demand)
      → Has (entry_demands size (pages n) owner place k) e → Stands e
  of_entries owner place n zero each e h = absurd h
  of_entries owner place n (suc k) each e h =
      elim (either (entry_demands size (pages n) owner place k) _ e h) [
        | inl x ↦ of_entries owner place n k (each_front (IsData owner) (place * capacity size)
            (first_entries (pages n) k) (u32_at (pages n) (place_of k) ∷ []) each) e x
        | inr y ↦ linked_at e (u32_at (pages n) (place_of k)) DATA owner (place * capacity size + k)
            (data_page (u32_at (pages n) (place_of k)) owner (place * capacity size + k) refl there)
            there.data_.wanted.below there.data_.wanted.used y
      ]
    where
      there : IsData owner (place * capacity size + k) (u32_at (pages n) (place_of k))
      there = subst (λ (m : ℕ). IsData owner (place * capacity size + m) (u32_at (pages n) (place_of k)))
          (length-first (pages n) k)
          (each_back (IsData owner) (place * capacity size) (first_entries (pages n) k)
          (u32_at (pages n) (place_of k) ∷ []) each).0

  of_pointer : (n owner place : ℕ) (ns : List ℕ) → PointerChain pages n ns → n ≢ 0
      → ArePointers owner place ns → (e : Demand)
      → Has (pointer_demands size (pages n) owner place) e → Stands e
  unfolding entries_of
  of_pointer n owner place ns chain_ended some are e h = absurd (some refl)
  of_pointer n owner place ns (chain_goes m more is rest) some are e h =
      elim (either (entry_demands size (pages n) owner place (count_in (pages n))) _ e h) [
        | inl x ↦ of_entries owner place n (count_in (pages n)) (each_front (IsData owner)
            (place * capacity size) (first_entries (pages n) (count_in (pages n))) (entries_in pages more)
            are.entries) e x
        | inr y ↦ at (next_in (pages n) == 0) refl y
      ]
    where
      after : next_in (pages n) ≢ 0 → ArePointers owner (place + 1) more
      after next_some = record {
        pointers = subst (λ (k : ℕ). EachFrom (IsTablePointer size pages owner) k more) (omega arith)
            are.pointers.1;
        entries = subst (λ (k : ℕ). EachFrom (IsData owner) k (entries_in pages more)) place_is
            (each_back (IsData owner) (place * capacity size)
            (first_entries (pages n) (count_in (pages n))) (entries_in pages more) are.entries);
        full = λ k there next_of_k. are.full k (inr there) next_of_k;
      }
        where
          place_is : place * capacity size + length (first_entries (pages n) (count_in (pages n)))
              ≡ (place + 1) * capacity size
          place_is =
              let one = length-first (pages n) (count_in (pages n)) in
              let two = are.full n (inl refl) next_some in
              let three : suc place * capacity size ≡ place * capacity size + capacity size =
              suc-mul place (capacity size) in
              let four : (place + 1) * capacity size ≡ suc place * capacity size =
              ap (λ (k : ℕ). k * capacity size) (let same : place + 1 ≡ suc place = omega arith in same) in
              omega (arith, one, two, three, four)

      at : (b : Bool) → (next_in (pages n) == 0) ≡ b
          → Has (if b then [] else linked size (next_in (pages n)) POINTER owner (place + 1)) e → Stands e
      at true is_last y = absurd y
      at false goes_on y =
          let next_some : next_in (pages n) ≢ 0 = λ none. both_ways _ goes_on (eq-eqb (next_in (pages n)) 0 none) in
          let further = after next_some in
          let wanted = first_each (IsTablePointer size pages owner) (λ k. next_in (pages k))
          (next_in (pages n)) (place + 1) more rest next_some further.pointers in
          linked_at e (next_in (pages n)) POINTER owner (place + 1)
          (pointer (next_in (pages n)) owner (place + 1) more refl rest next_some further)
          wanted.below wanted.used y

  -- ---- records

  -- the cells that a version leads to: its transaction, and the version before it
  of_version : (v : Version) (es : List Entry) → v.tx.0 < next_of pages
      → ((link : Link) → v.back ≡ Some link → Stands (mk link.rec.page.0 VERSION link.rec.slot link.tx.0))
      → (e : Demand) → Has (version_demands v) e → Stands e
  of_version v es below behind e h =
      elim (either (demand 0 NEXT v.tx.0 0) (back_demands v.back) e h) [
        | inl x ↦ drawn v.tx.0 (is_demand 0 NEXT v.tx.0 0 e x) below
        | inr y ↦ at v.back refl y
      ]
    where
      at : (o : Option Link) → v.back ≡ o → Has (back_demands o) e → Stands e
      at None is y = absurd y
      at (Some link) is y = subst Stands
          (sym (is_demand link.rec.page.0 VERSION link.rec.slot link.tx.0 e y)) (behind link is)

  -- what a link of a chain leads to
  of_link : (link : Link) (es : List Entry) → Chain (cells_of pages) (Some link) es
      → Each IsPlaced es
      → Stands (mk link.rec.page.0 VERSION link.rec.slot link.tx.0)
  of_link link es chain each = at (Some link) es chain each link refl
    where
      at : (o : Option Link) (es : List Entry) → Chain (cells_of pages) o es
          → Each IsPlaced es → (l : Link) → o ≡ Some l
          → Stands (mk l.rec.page.0 VERSION l.rec.slot l.tx.0)
      at None es ended each l is = absurd cc
      at (Some k) es (goes m e more there cell by rest) each l is =
          let same : k ≡ l = cc in
          version l e more refl (subst (λ (x : Link). Chain (cells_of pages) (Some x) (e ∷ more)) same
          (goes k e more there cell by rest)) each

  -- the version before one
  behind_in : (o : Option Link) (es : List Entry) → Chain (cells_of pages) o es
      → Each IsPlaced es → (link : Link) → o ≡ Some link
      → Stands (mk link.rec.page.0 VERSION link.rec.slot link.tx.0)
  behind_in o es chain each link is =
      of_link link es (subst (λ (x : Option Link). Chain (cells_of pages) x es) is chain) each

  -- what a slot of a data page leads to
  of_cell : (p : RecId) (es : List Entry) (cell : Option Cell) → cells_of pages p ≡ cell
      → Chain (cells_of pages) (newest_of p cell) es → Each IsPlaced es
      → (e : Demand) → Has (cell_demands cell) e → Stands e
  of_cell p es None is chain each e h = absurd h
  of_cell p es (Some (cells.Anchor link)) is chain each e h = subst Stands
      (sym (is_demand link.rec.page.0 VERSION link.rec.slot link.tx.0 e h)) (of_link link es chain each)
  of_cell p es (Some (cells.Version v)) is chain each e h = at v.primary refl h
    where
      inner : (o : Option Link) (es : List Entry) → Chain (cells_of pages) o es
          → Each IsPlaced es → o ≡ Some (record { rec = p; tx = v.tx })
          → Has (version_demands v) e → Stands e
      inner None es ended each same h = absurd cc
      inner (Some k) es (goes m f more there cell by rest) each same h =
          let link : k ≡ record { rec = p; tx = v.tx } = cc in
          let place : f.at ≡ p = there ∙ ap (λ (x : Link). x.rec) link in
          let cell_is : Some (cells.Version f.version) ≡ Some (cells.Version v) =
          sym cell ∙ (ap (cells_of pages) place ∙ is) in
          let one : f.version ≡ v = cc in
          of_version v more (subst (λ (x : Version). x.tx.0 < next_of pages) one each.0.below)
          (behind_in v.back more (subst (λ (x : Version). Chain (cells_of pages) x.back more) one rest) each.1)
          e h

      at : (b : Bool) → v.primary ≡ b → Has (if b then version_demands v else []) e → Stands e
      at true primary y = inner (newest_of p (Some (cells.Version v))) es chain each
          (ap (λ (b : Bool). if b then Some (record { rec = p; tx = v.tx }) else None) primary) y
      at false primary y = absurd y

  all_drawn : (table : Table) (key : _) (es : List Entry)
      → Each (IsVersion form.coding (facts_by state pages layout) table key) es
      → Each IsPlaced es
  all_drawn table key [] each = tt
  all_drawn table key (e ∷ es) each = (
    record { below = each.0.drawn; of_table = (table, each.0.placed) },
    all_drawn table key es each.1,
  )

  of_slots : (n k : ℕ) (table : Table) → table_at (stands_of layout) n ≡ Some table → (e : Demand)
      → Has (slot_demands (pages n) k) e → Stands e
  of_slots n zero table is e h = absurd h
  of_slots n (suc k) table is e h = elim (either (slot_demands (pages n) k) _ e h) [
    | inl x ↦ of_slots n k table is e x
    | inr y ↦ of_cell place (r place) (cells_of pages place) refl (sound.records.reads place table is)
        (all_drawn table _ (r place) (sound.records.each place table is).each) e y
  ]
    where
      place : RecId
      place = record { page = record { 0 = n }; slot = k }

  -- ---- indexes

  node_of : (owner n : ℕ) (level : List ℕ) (below : List (List ℕ)) → IsInTree owner n level below
      → IsNode size pages owner (length below) (first_level below) n
  node_of owner n level below there = each_page
      (IsNode size pages owner (length below) (first_level below)) level there.nodes.0 n there.here

  has_entry_front : (es fs : List nodes) (x : nodes) → HasEntry es x → HasEntry (es ++ fs) x
  has_entry_front [] fs x h = absurd h
  has_entry_front (e ∷ es) fs x (inl same) = inl same
  has_entry_front (e ∷ es) fs x (inr h) = inr (has_entry_front es fs x h)

  has_entry_last : (es : List nodes) (x : nodes) → HasEntry (es ++ x ∷ []) x
  has_entry_last [] x = inl refl
  has_entry_last (e ∷ es) x = inr (has_entry_last es x)

  -- the child of each entry of an inner page stands on the level below
  child_there : (level : List ℕ) (es : List nodes) → AreChildren pages level es → (x : nodes)
      → HasEntry es x → HasPage level x.child.0
  child_there level [] each x h = absurd h
  child_there level (e ∷ es) each x (inl same) =
      subst (λ (y : nodes). HasPage level y.child.0) (sym same) each.0
  child_there level (e ∷ es) each x (inr h) = child_there level es each.2 x h

  children_there : (level : List ℕ) (low : Option nodes) (es : List nodes)
      → HasChildren pages level low es → (x : nodes) → HasEntry es x → HasPage level x.child.0
  children_there level low [] each x h = absurd h
  children_there level low (e ∷ es) each x (inl same) =
      subst (λ (y : nodes). HasPage level y.child.0) (sym same) each.0
  children_there level low (e ∷ es) each x (inr h) = child_there level es each.2 x h

  of_children : (owner n k : ℕ) (next : List ℕ) (under : List (List ℕ))
      → is_inner (pages n) ≡ true → level_in (pages n) ≡ length (next ∷ under)
      → AreNodes size pages owner (next ∷ under) → AreLevels pages (next ∷ under)
      → ((x : nodes) → HasEntry (first_nodes (pages n) k) x → HasPage next x.child.0)
      → (e : Demand) → Has (child_demands size (pages n) owner k) e → Stands e
  of_children owner n zero next under inner on_level are chains each e h = absurd h
  of_children owner n (suc k) next under inner on_level are chains each e h =
      elim (either (child_demands size (pages n) owner k) _ e h) [
        | inl x ↦ of_children owner n k next under inner on_level are chains
            (λ y there. each y (has_entry_front (first_nodes (pages n) k) _ y there)) e x
        | inr y ↦ subst (λ (l : ℕ). Has (linked size child NODE owner l) e → Stands e) level_is
            (linked_at e child NODE owner (length under) (node child owner next under refl stands)
            is_node.wanted.below is_node.wanted.used) y
      ]
    where
      child : ℕ
      child = (entry_at true (pages n) (node_place (pages n) k)).child.0

      there : HasPage next child
      there = subst (λ (b : Bool). HasPage next (entry_at b (pages n) (node_place (pages n) k)).child.0) inner
          (each (entry_at (is_inner (pages n)) (pages n) (node_place (pages n) k))
          (has_entry_last (first_nodes (pages n) k) _))

      stands : IsInTree owner child next under
      stands = record { here = there; nodes = are; chains = chains }

      is_node : IsNode size pages owner (length under) (first_level under) child
      is_node = node_of owner child next under stands

      level_is : length under ≡ level_in (pages n) - 1
      level_is = let on = on_level in omega (arith, on)

  of_top : (owner n : ℕ) (level : List ℕ) (below : List (List ℕ)) → IsInTree owner n level below
      → (e : Demand) → Has (tree_demands size (pages n) owner) e → Stands e
  unfolding node_entries
  of_top owner n level below there e h = at (is_inner (pages n)) refl below there h
    where
      at : (b : Bool) → is_inner (pages n) ≡ b → (below : List (List ℕ)) → IsInTree owner n level below
          → Has (if b then child_demands size (pages n) owner (node_count (pages n)) else []) e → Stands e
      at false leaf below there y = absurd y
      at true inner [] there y =
          let on = (node_of owner n level [] there).on_level in
          let more = ltb-true 0 (level_in (pages n)) inner in absurd (omega (arith, on, more))
      at true inner (next ∷ under) there y =
          let node_is = node_of owner n level (next ∷ under) there in
          of_children owner n (node_count (pages n)) next under inner node_is.on_level there.nodes.1
          there.chains.1 (children_there next _ (node_entries (pages n)) (node_is.children (omega arith)))
          e y

  of_node : (owner n : ℕ) (level : List ℕ) (below : List (List ℕ)) → IsInTree owner n level below
      → (e : Demand) → Has (node_demands size (pages n) owner) e → Stands e
  of_node owner n level below there e h = elim (either (right_demands size (pages n) owner) _ e h) [
    | inl x ↦ at (right_in (pages n) == 0) refl x
    | inr y ↦ of_top owner n level below there e y
  ]
    where
      at : (b : Bool) → (right_in (pages n) == 0) ≡ b
          → Has (if b then [] else linked size (right_in (pages n)) NODE owner (level_in (pages n))) e
          → Stands e
      at true last x = absurd x
      at false goes_on x =
          let beside : IsInTree owner (right_in (pages n)) level below = record {
            here = there.chains.0 n there.here
                (λ none. both_ways _ goes_on (eq-eqb (right_in (pages n)) 0 none));
            nodes = there.nodes;
            chains = there.chains;
          } in
          let wanted = (node_of owner (right_in (pages n)) level below beside).wanted in
          subst (λ (l : ℕ). Has (linked size (right_in (pages n)) NODE owner l) e → Stands e)
          (sym (node_of owner n level below there).on_level)
          (linked_at e (right_in (pages n)) NODE owner (length below)
          (node (right_in (pages n)) owner level below refl beside) wanted.below wanted.used) x

  -- ---- tables

  in_tables : (stands : List Stand) (stand : Stand) (n : ℕ) → HasStand stands stand
      → HasPage stand.data_pages n → (table : Table) × (table_at stands n ≡ Some table)
  in_tables [] stand n h there = absurd h
  in_tables (other ∷ stands) stand n h there = at (has other.data_pages n) refl h (in_tables stands stand n)
    where
      at : (b : Bool) → has other.data_pages n ≡ b → (stand ≡ other) ⊎ HasStand stands stand
          → (HasStand stands stand → HasPage stand.data_pages n
          → (table : Table) × (table_at stands n ≡ Some table))
          → (table : Table) × (table_at (other ∷ stands) n ≡ Some table)
      at true is h others = (other.table, rw is refl)
      at false is (inl same) others = absurd (both_ways _ is
          (has_so other.data_pages n (subst (λ (s : Stand). HasPage s.data_pages n) same there)))
      at false is (inr h) others = let found = others h there in (found.0, rw is found.1)

  data_from : (owner at : ℕ) (ns : List ℕ) → EachFrom (IsTableData form.in_primary size pages owner) at ns
      → ((n : ℕ) → HasPage ns n → (table : Table) × (table_at (stands_of layout) n ≡ Some table))
      → EachFrom (IsData owner) at ns
  data_from owner at [] each within = tt
  data_from owner at (n ∷ ns) each within = (
    record { data_ = each.0; of_table = within n (inl refl) },
    data_from owner (suc at) ns each.1 (λ m there. within m (inr there)),
  )

  -- the first pointer page of a table, with its chain
  of_first : (stand : Stand) → HasStand (stands_of layout) stand
      → HasTablePages form.in_primary size pages stand → IsFilled size pages stand → (e : Demand)
      → Has (linked size stand.table.pointer.0 POINTER stand.table.pointer.0 0) e → Stands e
  of_first stand among has_ full e h =
      let wanted = first_each (IsTablePointer size pages stand.table.pointer.0) (λ k. next_in (pages k))
      stand.table.pointer.0 0 stand.pointers has_.chain has_.first has_.pointers in
      linked_at e stand.table.pointer.0 POINTER stand.table.pointer.0 0
      (pointer stand.table.pointer.0 stand.table.pointer.0 0 stand.pointers refl has_.chain has_.first are)
      wanted.below wanted.used h
    where
      are : ArePointers stand.table.pointer.0 0 stand.pointers
      are = record {
        pointers = has_.pointers;
        entries = subst (λ (k : ℕ). EachFrom (IsData stand.table.pointer.0) k (entries_in pages stand.pointers))
            (sym (zero-mul (capacity size)))
            (subst (EachFrom (IsData stand.table.pointer.0) 0) has_.entries
            (data_from stand.table.pointer.0 0 stand.data_pages has_.data_pages
            (λ n there. in_tables (stands_of layout) stand n among there)));
        full = full;
      }

  of_indexes : (owner : ℕ) (indexes : List Index) (trees : List (List (List ℕ)))
      → AreTrees size pages owner indexes trees → (e : Demand)
      → Has (index_roots size owner indexes) e → Stands e
  of_indexes owner [] trees are e h = absurd h
  of_indexes owner (index ∷ indexes) [] are e h = absurd are
  of_indexes owner (index ∷ indexes) (levels ∷ trees) are e h =
      elim (either (linked size index.root.0 TREE owner 0) _ e h) [
        | inl x ↦ at levels are.0 x
        | inr y ↦ of_indexes owner indexes trees are.1 e y
      ]
    where
      at : (levels : List (List ℕ)) → IsTree size pages owner index.root.0 levels
          → Has (linked size index.root.0 TREE owner 0) e → Stands e
      at [] is x = absurd (root_there pages index.root.0 [] is.levels_from is.rooted)
      at (level ∷ below) is x =
          let there : IsInTree owner index.root.0 level below = record {
            here = root_there pages index.root.0 (level ∷ below) is.levels_from is.rooted;
            nodes = is.nodes;
            chains = are_levels pages index.root.0 (level ∷ below) is.levels_from;
          } in
          let wanted = (node_of owner index.root.0 level below there).wanted in
          linked_at e index.root.0 TREE owner 0 (tree index.root.0 owner level below refl there)
          wanted.below wanted.used x

  of_tables : (stands : List Stand) → ((stand : Stand) → HasStand stands stand → HasStand (stands_of layout) stand)
      → EachStand (HasTablePages form.in_primary size pages) stands → EachStand (IsFilled size pages) stands
      → (e : Demand) → Has (table_roots size stands) e → Stands e
  of_tables [] among has_ full e h = absurd h
  of_tables (stand ∷ stands) among has_ full e h =
      elim (either (linked size stand.table.pointer.0 POINTER stand.table.pointer.0 0
      ++ index_roots size stand.table.pointer.0 stand.table.indexes) _ e h) [
        | inl x ↦ elim (either (linked size stand.table.pointer.0 POINTER stand.table.pointer.0 0) _ e x) [
          | inl y ↦ of_first stand (among stand (inl refl)) has_.0 full.0 e y
          | inr z ↦ of_indexes stand.table.pointer.0 stand.table.indexes stand.trees has_.0.trees e z
        ]
        | inr w ↦ of_tables stands (λ other there. among other (inr there)) has_.1 full.1 e w
      ]

  of_roots : (e : Demand) → Has (roots_of size layout) e → Stands e
  of_roots e h = elim (either (demand 0 HEADER 0 0) _ e h) [
    | inl x ↦ header (is_demand 0 HEADER 0 0 e x)
    | inr y ↦ of_tables (stands_of layout) (λ stand there. there) sound.tables filled e y
  ]

  of_header : (e : Demand) → Has (header_demands size (pages 0)) e → Stands e
  of_header e h =
      elim (either (linked size (header_of pages).last_tip.0 TRANSACTIONS (last_sequence size pages) 0) _ e h) [
        | inl x ↦ of_tip_link (header_of pages).last_tip.0 (last_sequence size pages) last_tip
            (omega arith) e x
        | inr y ↦ of_first layout.catalog (inl refl) sound.tables.0 filled.0 e
            (subst (λ (k : ℕ). Has (linked size k POINTER k 0) e) (sym first) y)
      ]
    where
      first : layout.catalog.table.pointer.0 ≡ (header_of pages).catalog.0
      first = ap (λ (t : Table). t.pointer.0) sound.catalog

  -- ---- along links, and met

  -- what a thing demands, by what is wanted
  made_by : (n : ℕ) (want d e : Demand) → d ≡ want → want.target ≡ n
      → Has (demands_of (pages d.target) d) e → Has (demands_by size (pages n) want) e
  made_by n want d e is at made =
      subst (λ (m : ℕ). Has (demands_by size (pages m) want) e) at
      (subst (λ (l : List Demand). Has l e) (opened want.target want)
      (subst (λ (x : Demand). Has (demands_of (pages x.target) x) e) is made))

  of_wanted : (link : Link) (f : Entry) (fs : List Entry) → Chain (cells_of pages) (Some link) (f ∷ fs)
      → Each IsPlaced (f ∷ fs) → (e : Demand)
      → Has (wanted_demands (cells_of pages link.rec)) e → Stands e
  of_wanted link f fs (goes l g gs there cell by rest) each e h =
      of_version f.version fs each.0.below (behind_in f.version.back fs rest each.1) e
      (subst (λ (c : Option Cell). Has (wanted_demands c) e) (ap (cells_of pages) (sym there) ∙ cell) h)

  along : (d e : Demand) → Stands d → Has (demands_of (pages d.target) d) e → Stands e
  along d e (header is) made = of_header e (made_by 0 (mk 0 HEADER 0 0) d e is refl made)
  along d e (drawn t is below) made = absurd (made_by 0 (mk 0 NEXT t 0) d e is refl made)
  along d e (tip s is least) made =
      of_tip s least e (made_by (tip_page size pages s) (mk (tip_page size pages s) TRANSACTIONS s 0) d e is refl made)
  along d e (pointer n owner place ns is chain some are) made =
      of_pointer n owner place ns chain some are e (made_by n (mk n POINTER owner place) d e is refl made)
  along d e (data_page n owner place is there) made =
      of_slots n (slot_count (pages n)) there.of_table.0 there.of_table.1 e
      (made_by n (mk n DATA owner place) d e is refl made)
  along d e (version link f fs is chain each) made =
      of_wanted link f fs chain each e (made_by link.rec.page.0
      (mk link.rec.page.0 VERSION link.rec.slot link.tx.0) d e is refl made)
  along d e (tree n owner level below is there) made =
      of_top owner n level below there e (made_by n (mk n TREE owner 0) d e is refl made)
  along d e (node n owner level below is there) made =
      of_node owner n level below there e (made_by n (mk n NODE owner (length below)) d e is refl made)
  along d e (bit n is below used) made =
      absurd (made_by (inventory_page size (n / bits size)) (mk (inventory_page size (n / bits size)) BIT n 0) d e is refl made)

  met_by : (want d : Demand) → d ≡ want → meets_by size (pages want.target) want ≡ true
      → meets_of (pages d.target) d ≡ true
  met_by want d is met = subst (λ (x : Demand). meets_of (pages x.target) x ≡ true) (sym is)
      (met_so want.target want met)

  version_there : (link : Link) (f : Entry) (fs : List Entry)
      → Chain (cells_of pages) (Some link) (f ∷ fs)
      → is_version_of link.tx.0 (cells_of pages link.rec) ≡ true
  version_there link f fs (goes l g gs there cell by rest) =
      subst (λ (c : Option Cell). is_version_of link.tx.0 c ≡ true) (sym (ap (cells_of pages) (sym there) ∙ cell))
      (eq-eqb f.version.tx.0 link.tx.0 (ap (λ (t : TxNo). t.0) by))

  zeros : (at : ℕ) → byte (blank size) at ≡ 0
  zeros at = on (cases_lt at size)
    where
      on : (at < size) ⊎ (size ≤ at) → byte (blank size) at ≡ 0
      on (inl inside) = get_or-replicate size at 0 0 inside
      on (inr past) = get_or_past (blank size) at 0 (omega (arith, length-replicate {A = ℕ} size 0))

  -- the inventory page of a page that is marked is one of its region
  marks : (n : ℕ) → n < GREATEST_LIMIT → is_used size pages n ≡ true
      → meets_bit size (pages (inventory_page size (n / bits size)))
      (record { 0 = inventory_page size (n / bits size) }) n ≡ true
  unfolding is_used
  marks n below used = on (sound.inventory (n / bits size) (inside size lawful n below))
    where
      on : HasRegion size pages (inventory_page size (n / bits size)) (n / bits size)
          → meets_bit size (pages (inventory_page size (n / bits size)))
          (record { 0 = inventory_page size (n / bits size) }) n ≡ true
      on (inl empty) =
          let unused : used_in (pages (inventory_page size (n / bits size))) (n % bits size) ≡ false =
          ap (λ (page : List ℕ). used_in page (n % bits size)) empty
          ∙ zero_unused (blank size) (n % bits size) (zeros _) in
          absurd (both_ways _ unused used)
      on (inr wanted) = and_from _ _ (passes (inventory_page size (n / bits size))
          (pip_checks (pages (inventory_page size (n / bits size))) (inventory_page size (n / bits size)) (n / bits size))
          wanted.fields) used

  met : (d : Demand) → Stands d → meets_of (pages d.target) d ≡ true
  met d (header is) = met_by (mk 0 HEADER 0 0) d is header_reads
  met d (drawn t is below) = met_by (mk 0 NEXT t 0) d is
      (and_from _ _ header_reads (lt-ltb t (next_of pages) below))
  met d (tip s is least) = met_by (mk (tip_page size pages s) TRANSACTIONS s 0) d is
      (passes (tip_page size pages s) (tip_checks (pages (tip_page size pages s)) (tip_page size pages s) s)
      (sound.transactions.each s least).fields)
  met d (pointer n owner place ns is chain some are) = met_by (mk n POINTER owner place) d is
      (passes n (pointer_checks (pages n) n owner place)
      (first_each (IsTablePointer size pages owner) (λ k. next_in (pages k)) n place ns chain some
      are.pointers).fields)
  met d (data_page n owner place is there) = met_by (mk n DATA owner place) d is
      (passes n _ there.data_.wanted.fields)
  met d (version link f fs is chain each) =
      met_by (mk link.rec.page.0 VERSION link.rec.slot link.tx.0) d is (version_there link f fs chain)
  met d (tree n owner level below is there) = met_by (mk n TREE owner 0) d is
      (passes n (node_checks (pages n) n owner) (node_of owner n level below there).wanted.fields)
  met d (node n owner level below is there) = met_by (mk n NODE owner (length below)) d is
      (and_from _ _ (passes n (node_checks (pages n) n owner) (node_of owner n level below there).wanted.fields)
      (eq-eqb (level_in (pages n)) (length below) (node_of owner n level below there).on_level))
  met d (bit n is below used) = met_by (mk (inventory_page size (n / bits size)) BIT n 0) d is
      (marks n below used)

  -- ---- marked, and on data pages

  data_at : (owner at : ℕ) (ns : List ℕ) → EachFrom (IsTableData form.in_primary size pages owner) at ns
      → (n : ℕ) → HasPage ns n
      → (k : ℕ) × IsTableData form.in_primary size pages owner k n
  data_at owner at [] each n there = absurd there
  data_at owner at (m ∷ ns) each n (inl same) =
      (at, subst (IsTableData form.in_primary size pages owner at) (sym same) each.0)
  data_at owner at (m ∷ ns) each n (inr there) = data_at owner (suc at) ns each.1 n there

  -- a page that belongs to a table is marked as used, and is a data page
  abbrev IsMarkedData : ℕ → Type 0
  IsMarkedData n = (is_used size pages n ≡ true) × (byte (pages n) 0 ≡ DATA_KIND)

  of_data : (owner k n : ℕ) → IsTableData form.in_primary size pages owner k n → IsMarkedData n
  unfolding common_checks
  of_data owner k n data_ = (data_.wanted.used, data_.wanted.fields.0)

  in_table : (stands : List Stand) → EachStand (HasTablePages form.in_primary size pages) stands → (n : ℕ)
      (table : Table) → table_at stands n ≡ Some table → IsMarkedData n
  in_table [] has_ n table is = absurd cc
  in_table (stand ∷ stands) has_ n table is = at (has stand.data_pages n) refl is (in_table stands has_.1 n table)
    where
      at : (b : Bool) → has stand.data_pages n ≡ b
          → (if b then Some stand.table else table_at stands n) ≡ Some table
          → (table_at stands n ≡ Some table → IsMarkedData n) → IsMarkedData n
      at true there is others =
          let found = data_at stand.table.pointer.0 0 stand.data_pages has_.0.data_pages n
          (has_it stand.data_pages n there) in of_data stand.table.pointer.0 found.0 n found.1
      at false there is others = others is

  of_placed : (link : Link) (f : Entry) (fs : List Entry) → Chain (cells_of pages) (Some link) (f ∷ fs)
      → IsPlaced f → IsMarkedData link.rec.page.0
  of_placed link f fs (goes l g gs there cell by rest) placed =
      subst (λ (p : RecId). IsMarkedData p.page.0) there
      (in_table (stands_of layout) sound.tables f.at.page.0 placed.of_table.0 placed.of_table.1)

  used_by : (want d : Demand) → d ≡ want → is_used size pages want.target ≡ true
      → is_used size pages d.target ≡ true
  used_by want d is used = subst (λ (x : Demand). is_used size pages x.target ≡ true) (sym is) used

  region_used : (n : ℕ) → n < GREATEST_LIMIT → is_used size pages n ≡ true
      → is_used size pages (inventory_page size (n / bits size)) ≡ true
  unfolding is_used
  region_used n below used = on (sound.inventory (n / bits size) (inside size lawful n below))
    where
      on : HasRegion size pages (inventory_page size (n / bits size)) (n / bits size)
          → is_used size pages (inventory_page size (n / bits size)) ≡ true
      on (inl empty) =
          let unused : used_in (pages (inventory_page size (n / bits size))) (n % bits size) ≡ false =
          ap (λ (page : List ℕ). used_in page (n % bits size)) empty
          ∙ zero_unused (blank size) (n % bits size) (zeros _) in
          absurd (both_ways _ unused used)
      on (inr wanted) = wanted.used

  is_marked : (d : Demand) → Stands d → is_used size pages d.target ≡ true
  is_marked d (header is) = used_by (mk 0 HEADER 0 0) d is sound.header.used
  is_marked d (drawn t is below) = used_by (mk 0 NEXT t 0) d is sound.header.used
  is_marked d (tip s is least) = used_by (mk (tip_page size pages s) TRANSACTIONS s 0) d is
      (sound.transactions.each s least).used
  is_marked d (pointer n owner place ns is chain some are) = used_by (mk n POINTER owner place) d is
      (first_each (IsTablePointer size pages owner) (λ k. next_in (pages k)) n place ns chain some
      are.pointers).used
  is_marked d (data_page n owner place is there) = used_by (mk n DATA owner place) d is there.data_.wanted.used
  is_marked d (version link f fs is chain each) =
      used_by (mk link.rec.page.0 VERSION link.rec.slot link.tx.0) d is (of_placed link f fs chain each.0).0
  is_marked d (tree n owner level below is there) = used_by (mk n TREE owner 0) d is
      (node_of owner n level below there).wanted.used
  is_marked d (node n owner level below is there) = used_by (mk n NODE owner (length below)) d is
      (node_of owner n level below there).wanted.used
  is_marked d (bit n is below used) = used_by (mk (inventory_page size (n / bits size)) BIT n 0) d is
      (region_used n below used)

  not_version : (d : Demand) (k : ℕ) → d.what ≡ k → k ≢ 6 → d.what ≡ VERSION
      → byte (pages d.target) 0 ≡ DATA_KIND
  not_version d k is ne what = absurd (ne (sym is ∙ what))

  on_data : (d : Demand) → Stands d → d.what ≡ VERSION → byte (pages d.target) 0 ≡ DATA_KIND
  on_data d (header is) = not_version d 1 (ap (λ (x : Demand). x.what) is) (λ e. omega (arith, e))
  on_data d (drawn t is below) = not_version d 2 (ap (λ (x : Demand). x.what) is) (λ e. omega (arith, e))
  on_data d (tip s is least) = not_version d 3 (ap (λ (x : Demand). x.what) is) (λ e. omega (arith, e))
  on_data d (pointer n owner place ns is chain some are) =
      not_version d 4 (ap (λ (x : Demand). x.what) is) (λ e. omega (arith, e))
  on_data d (data_page n owner place is there) =
      not_version d 5 (ap (λ (x : Demand). x.what) is) (λ e. omega (arith, e))
  on_data d (version link f fs is chain each) = λ what.
      subst (λ (x : Demand). byte (pages x.target) 0 ≡ DATA_KIND) (sym is) (of_placed link f fs chain each.0).1
  on_data d (tree n owner level below is there) =
      not_version d 7 (ap (λ (x : Demand). x.what) is) (λ e. omega (arith, e))
  on_data d (node n owner level below is there) =
      not_version d 8 (ap (λ (x : Demand). x.what) is) (λ e. omega (arith, e))
  on_data d (bit n is below used) =
      not_version d 9 (ap (λ (x : Demand). x.what) is) (λ e. omega (arith, e))

  wanted_so : ListsAreSets → WantsFrom size pages (roots_of size layout)
  wanted_so sets = record {
    wants = record {
      lawful = sound.header.lawful_size;
      whole = sound.header.whole;
      keeps = wanted_keeps demands_of meets_of pages (roots_of size layout) sets Stands of_roots along met;
      used = λ d h. is_marked d (wanted_have demands_of meets_of pages (roots_of size layout) sets Stands of_roots along d h);
      on_data = λ d h. on_data d (wanted_have demands_of meets_of pages (roots_of size layout) sets Stands of_roots along d h);
    };
    rooted = λ d h. roots_wanted demands_of meets_of pages (roots_of size layout) sets d h;
  }

  linked_so : ListsAreSets → IsLinked demands_of meets_of pages (listed (roots_of size layout))
  linked_so sets = linked_where demands_of meets_of pages (roots_of size layout) sets Stands of_roots
      along met

pub sound_is_linked : (form : Form) → ListsAreSets → SoundIsLinked form
sound_is_linked form sets = λ size state pages layout r sound filled.
    linked_so form size state pages layout r sound filled sets

pub sound_is_wanted : (form : Form) → ListsAreSets → SoundIsWanted form
sound_is_wanted form sets = λ size state pages layout r sound filled.
    wanted_so form size state pages layout r sound filled sets
