-- A version is written, and its record's slot turned to it: where the versions that are wanted were chained, they are.
use Rattle.std.specs.Prelude.{◌≡◌, ◌≢◌, ◌⊎◌, ◌++◌, ℕ, Bool, List, [], ◌∷◌, Option, None, Some}
use Rattle.std.proofs.Common.{inl, inr, refl, sym, subst, ap, ◌∙◌, arith}
use Rattle.mg_base.specs.Image.{Image}
use Rattle.mg_base.specs.declared.numbers.PageNo.{PageNo}
use Rattle.mg_base.specs.declared.numbers.RecId.{RecId}
use Rattle.mg_careful.specs.Precedence.{Orders}
use Rattle.mg_careful.specs.declared.links.Demand.{Demand}
use Rattle.mg_careful.specs.CarefulWrite.{DemandSet, Has, IsIn, either, listed}
use Rattle.mg_chain.specs.Orders.{first_orders, push_orders}
use Rattle.mg_chain.specs.Writing.{MakesRecord, Pushes, TurnsTo, leading_to, link_to}
use Rattle.mg_demand_laws.specs.CellDemands.{anchor_to}
use Rattle.mg_heap.specs.Apart.{need_with_anchor}
use Rattle.mg_heap.specs.Room.{GivesRoom}
use Rattle.mg_image.specs.Form.{Pages}
use Rattle.mg_image.specs.Inventory.{inventory_page}
use Rattle.mg_image.specs.Records.{cells_of, slot_cell}
use Rattle.mg_pool.specs.Batch.{Changed}
use Rattle.mg_pool.specs.declared.pool.Pool.{Pool}
use Rattle.mg_slots.specs.Changes.{SetsCell}
use Rattle.mg_slots.specs.DataPage.{cell_of}
use Rattle.mg_slots.specs.Room.{need_of}
use Rattle.mg_space.specs.Demands.{back_demands, cell_demands, link_demand}
use Rattle.mg_space.specs.Taking.{region_of}
use Rattle.mg_space.specs.View.{viewed}
use Rattle.mg_space.specs.declared.links.TheConstants.{BIT, DATA, VERSION}
use Rattle.mg_version.specs.Cells.{IsCell, IsSpelling}
use Rattle.mg_version.specs.declared.cell.Cell.{Cell}
use Rattle.mg_version.specs.declared.cell.Cell.TheVariants as cells
use Rattle.mg_version.specs.declared.cell.Link.{Link}
use Rattle.mg_version.specs.declared.cell.Version.{Version}
use Rattle.mg_demand_laws.specs.Met.{has_back, has_front, in_listed, is_demand, of_listed}
use Rattle.mg_demand_laws.specs.Wanting.{IsWanting, Pays, want_of}
use Rattle.mg_demand_laws.specs.WantingLaws.{either_cases, in_one, in_other}
use Rattle.mg_demand_laws.specs.CellTies.{KnowsWrite, free_slot, spelled_is, write_wants}
use Rattle.mg_demand_laws.specs.GrowthTies.{room_data, room_else, room_pays, room_wants}
use Rattle.mg_demand_laws.specs.Lists.{HaveOrders, have_same, have_sooner, viewed_same}
use Rattle.mg_demand_laws.specs.OrderlyTies.{in_parts}
use Rattle.mg_demand_laws.specs.Wants.{IsDataOf, WantsTable, still_data}
use Rattle.mg_demand_laws.specs.Chained.{IsChained, LeadOnce, Leads, of_page}
use Rattle.mg_demand_laws.specs.ChainedLaws.{ComesFrom, IsElse, at_place, cases_place, chained_within, else_cell, free_is_unwanted, leads_anchor, leads_same, leads_version, leads_within, once_then}
use Rattle.mg_demand_laws.specs.RoomChains.{room_chained}

-- the law: a version is pushed
abbrev pub PushStaysChained : (D L : Type 0) → Type 0
PushStaysChained D L = (store : Pool D L) (image : Image) (old new : Changed) (rec : RecId) (v : Version)
    (pushes : Pushes store image old new rec v) (orders : Orders) (settled : ℕ → Bool) (on_disk wanted : DemandSet)
    → KnowsWrite store image old rec pushes.owner v.tx settled on_disk wanted → HaveOrders orders new
    → IsChained store.geometry.size (viewed store image old) wanted
    → IsChained store.geometry.size (viewed store image new)
    (either wanted (listed (write_wants store image old pushes.pushes.puts.adds.given pushes.owner
    (need_of pushes.bytes) pushes.pushes.at v.tx pushes.pushes.puts.adds.gives)))

-- the law: a record is made in a free slot, with one version
abbrev pub FirstStaysChained : (D L : Type 0) → Type 0
FirstStaysChained D L = (store : Pool D L) (image : Image) (old new : Changed) (owner : ℕ) (rec : RecId)
    (v : Version) (makes : MakesRecord store image old new owner rec v) (orders : Orders) (settled : ℕ → Bool)
    (on_disk wanted : DemandSet) → KnowsWrite store image old rec owner v.tx settled on_disk wanted
    → cells_of (viewed store image old) rec ≡ None → HaveOrders orders new
    → IsChained store.geometry.size (viewed store image old) wanted
    → IsChained store.geometry.size (viewed store image new)
    (either wanted (listed (write_wants store image old makes.makes.adds.given owner (need_with_anchor makes.bytes)
    makes.makes.at v.tx makes.makes.adds.gives)))

-- ---- a version more is wanted

-- what is no version was wanted before
pub stood_else : (wanted : DemandSet) (x slot t : ℕ) (d : Demand) → d.what ≢ VERSION
    → IsIn (either wanted (listed (want_of x VERSION slot t ∷ []))) d → IsIn wanted d
stood_else wanted x slot t d other h = elim (either_cases wanted (listed (want_of x VERSION slot t ∷ [])) d h) [
  | inl stood ↦ stood
  | inr newly ↦ elim (of_listed (want_of x VERSION slot t ∷ []) d newly) [
    | inl same ↦ absurd (other (ap (λ (y : Demand). y.what) same))
    | inr none ↦ absurd none
  ]
]

-- and so was a version at another place
pub stood_version : (wanted : DemandSet) (x slot t n s u : ℕ) → IsElse n s x slot
    → IsIn (either wanted (listed (want_of x VERSION slot t ∷ []))) (want_of n VERSION s u)
    → IsIn wanted (want_of n VERSION s u)
stood_version wanted x slot t n s u out h =
    elim (either_cases wanted (listed (want_of x VERSION slot t ∷ [])) (want_of n VERSION s u) h) [
      | inl stood ↦ stood
      | inr newly ↦ elim (of_listed (want_of x VERSION slot t ∷ []) (want_of n VERSION s u) newly) [
        | inl same ↦ absurd (out (ap (λ (y : Demand). y.target) same) (ap (λ (y : Demand). y.a) same))
        | inr none ↦ absurd none
      ]
    ]

pub data_less : (size : ℕ) (wanted : DemandSet) (x slot t n : ℕ)
    → IsDataOf size (either wanted (listed (want_of x VERSION slot t ∷ []))) n → IsDataOf size wanted n
data_less size wanted x slot t n of = record {
  owner = of.owner;
  place = of.place;
  wants = record {
    page = stood_else wanted x slot t (want_of n DATA of.owner of.place) (λ is. omega (arith, is)) of.wants.page;
    bit = stood_else wanted x slot t (want_of (inventory_page size (region_of size n)) BIT n 0) (λ is. omega (arith, is))
        of.wants.bit;
  };
}

-- ---- two slots change

-- A cell with a version comes into a free slot, and then a record's slot leads to it.
module _ (size : ℕ) (given put turned : Pages) (rec at : RecId) (bytes anchor : List ℕ) (v : Version) (wanted : DemandSet) (was : IsWanting size given wanted) (chained : IsChained size given wanted)
    (sets : SetsCell (given at.page.0) (put at.page.0) at.slot (Some bytes))
    (others : (n : ℕ) → n ≢ at.page.0 → put n ≡ given n)
    (spells : IsSpelling bytes (cells.Version v))
    (turn : SetsCell (put rec.page.0) (turned rec.page.0) rec.slot (Some anchor))
    (turn_others : (n : ℕ) → n ≢ rec.page.0 → turned n ≡ put n)
    (turn_spells : IsSpelling anchor (cells.Anchor (link_to at v.tx)))
    (apart : at.page.0 ≡ rec.page.0 → at.slot ≢ rec.slot)
    (free : cell_of (given at.page.0) at.slot ≡ None)
    (at_data : IsDataOf size wanted at.page.0) where
  abbrev pub new_one : Demand
  new_one = want_of at.page.0 VERSION at.slot v.tx.0

  abbrev pub with_new : DemandSet
  with_new = either wanted (listed (new_one ∷ []))

  pub at_rec : slot_cell (cell_of (turned rec.page.0) rec.slot) ≡ Some (cells.Anchor (link_to at v.tx))
  at_rec = ap slot_cell turn.here ∙ ap Some (spelled_is anchor (cells.Anchor (link_to at v.tx)) turn_spells)

  pub at_new : slot_cell (cell_of (turned at.page.0) at.slot) ≡ Some (cells.Version v)
  at_new = ap slot_cell (else_cell put turned rec.page.0 rec.slot (Some anchor) turn turn_others at.page.0 at.slot apart
      ∙ sets.here) ∙ ap Some (spelled_is bytes (cells.Version v) spells)

  pub at_else : (n s : ℕ) → IsElse n s rec.page.0 rec.slot → IsElse n s at.page.0 at.slot
      → cell_of (turned n) s ≡ cell_of (given n) s
  at_else n s off out = else_cell put turned rec.page.0 rec.slot (Some anchor) turn turn_others n s off
      ∙ else_cell given put at.page.0 at.slot (Some bytes) sets others n s out

  -- what a cell leads to then: what it led to, or the new version, or what is behind that
  pub write_leads : (n s : ℕ) (e : Demand) → e.what ≡ VERSION → Leads size with_new (turned n) n s e
      → (Leads size wanted (given n) n s e × (IsElse n s rec.page.0 rec.slot × IsElse n s at.page.0 at.slot))
      ⊎ ((((n ≡ rec.page.0) × (s ≡ rec.slot)) × (e ≡ new_one))
      ⊎ (((n ≡ at.page.0) × (s ≡ at.slot)) × Has (back_demands v.back) e))
  write_leads n s e what leads = elim (cases_place n s rec.page.0 rec.slot) [
    | inl here ↦ inr (inl (
      here,
      to_new (leads_anchor size with_new (turned n) n s e (Some (link_to at v.tx))
          (at_place turned n s rec.page.0 rec.slot here ∙ at_rec) leads),
    ))
    | inr off ↦ elim (cases_place n s at.page.0 at.slot) [
      | inl here ↦ inr (inr (
        here,
        (leads_version size with_new (turned n) n s e v
            (at_place turned n s at.page.0 at.slot here ∙ at_new) spells.is_cell.moved what leads).1,
      ))
      | inr out ↦ inl (
        leads_same size wanted (turned n) n s e (given n) (at_else n s off out)
            (leads_within size with_new (turned n) n s e wanted (data_less size wanted at.page.0 at.slot v.tx.0 n)
            (λ t. stood_version wanted at.page.0 at.slot v.tx.0 n s t out) leads),
        (off, out),
      )
    ]
  ]
    where
      to_new : Has (link_demand (link_to at v.tx)) e → e ≡ new_one
      to_new h = is_demand at.page.0 VERSION at.slot v.tx.0 e h

  -- each cell is well formed still
  pub write_cells : (n s : ℕ) (cell : Cell) → IsDataOf size with_new n → slot_cell (cell_of (turned n) s) ≡ Some cell
      → IsCell cell
  write_cells n s cell of is = elim (cases_place n s rec.page.0 rec.slot) [
    | inl here ↦
        let both : Some (cells.Anchor (link_to at v.tx)) ≡ Some cell =
        sym (at_place turned n s rec.page.0 rec.slot here ∙ at_rec) ∙ is in
        let same : cells.Anchor (link_to at v.tx) ≡ cell = cc in subst (λ (c : Cell). IsCell c) same turn_spells.is_cell
    | inr off ↦ elim (cases_place n s at.page.0 at.slot) [
      | inl here ↦
          let both : Some (cells.Version v) ≡ Some cell = sym (at_place turned n s at.page.0 at.slot here ∙ at_new) ∙ is in
          let same : cells.Version v ≡ cell = cc in subst (λ (c : Cell). IsCell c) same spells.is_cell
      | inr out ↦ chained.cells_are n s cell (data_less size wanted at.page.0 at.slot v.tx.0 n of)
          (ap slot_cell (sym (at_else n s off out)) ∙ is)
    ]
  ]

  pub write_placed : (n s t : ℕ) → IsIn with_new (want_of n VERSION s t) → IsDataOf size with_new n
  write_placed n s t h = elim (cases_place n s at.page.0 at.slot) [
    | inl here ↦ subst (λ (k : ℕ). IsDataOf size with_new k) (sym here.0)
        (still_data size wanted (listed (new_one ∷ [])) at.page.0 at_data)
    | inr out ↦ still_data size wanted (listed (new_one ∷ [])) n
        (chained.placed n s t (stood_version wanted at.page.0 at.slot v.tx.0 n s t out h))
  ]

  pub write_bit : (n owner place : ℕ) → IsIn with_new (want_of n DATA owner place) → IsDataOf size with_new n
  write_bit n owner place h = still_data size wanted (listed (new_one ∷ [])) n (chained.with_bit n owner place
      (stood_else wanted at.page.0 at.slot v.tx.0 (want_of n DATA owner place) (λ is. omega (arith, is)) h))

  -- The version is the newest one, over what the slot led to.
  pub pushed_chained : ((e : Demand) → Has (back_demands v.back) e → Leads size wanted (given rec.page.0) rec.page.0 rec.slot e)
      → IsChained size turned with_new
  pushed_chained behind = record {
    with_bit = write_bit;
    placed = write_placed;
    cells_are = write_cells;
    once = once_then size given turned wanted with_new rec.page.0 rec.slot at.page.0 at.slot rec.page.0 rec.slot
        (λ (e : Demand). e ≡ new_one) (λ (e : Demand). Has (back_demands v.back) e) was chained.once
        (λ e is h. free_is_unwanted size given wanted was at.page.0 at.slot v.tx.0 free (subst (IsIn wanted) is h))
        behind comes;
  }
    where
      comes : (n s : ℕ) (e : Demand) → e.what ≡ VERSION → Leads size with_new (turned n) n s e
          → ComesFrom size given wanted rec.page.0 rec.slot at.page.0 at.slot rec.page.0 rec.slot
          (λ (d : Demand). d ≡ new_one) (λ (d : Demand). Has (back_demands v.back) d) n s e
      comes n s e what leads = elim (write_leads n s e what leads) [
        | inl x ↦ inl (x.0, x.1.0)
        | inr y ↦ inr y
      ]

-- ---- the calls

-- what two lists want one after the other, both do
parts_in : (wanted : DemandSet) (ds es : List Demand) (d : Demand) → IsIn (either (either wanted (listed ds)) (listed es)) d
    → IsIn (either wanted (listed (ds ++ es))) d
parts_in wanted ds es d h = elim (either_cases (either wanted (listed ds)) (listed es) d h) [
  | inl first ↦ elim (either_cases wanted (listed ds) d first) [
    | inl w ↦ in_one wanted (listed (ds ++ es)) d w
    | inr x ↦ in_other wanted (listed (ds ++ es)) d
        (in_listed (ds ++ es) d (has_front ds es d (of_listed ds d x)))
  ]
  | inr y ↦ in_other wanted (listed (ds ++ es)) d (in_listed (ds ++ es) d (has_back ds es d (of_listed es d y)))
]

-- so versions are chained where both lists are wanted
pub chained_both : (size : ℕ) (pages : Pages) (wanted : DemandSet) (ds es : List Demand)
    → IsChained size pages (either (either wanted (listed ds)) (listed es))
    → IsChained size pages (either wanted (listed (ds ++ es)))
chained_both size pages wanted ds es = chained_within size pages (either (either wanted (listed ds)) (listed es))
    (either wanted (listed (ds ++ es))) (in_parts wanted ds es) (λ d other h. parts_in wanted ds es d h)

module _ {D L : Type 0} (store : Pool D L) (image : Image) (old given put turned : Changed) (rec at : RecId) (owner need : ℕ) (bytes : List ℕ) (v : Version) (orders : Orders) (settled : ℕ → Bool) (on_disk wanted : DemandSet) (knows : KnowsWrite store image old rec owner v.tx settled on_disk wanted) (chained : IsChained store.geometry.size (viewed store image old) wanted) (gives : GivesRoom store image old given owner need at.page) (have : HaveOrders orders given)
    (sets : SetsCell (viewed store image given at.page.0) (viewed store image put at.page.0) at.slot (Some bytes))
    (others : (n : ℕ) → n ≢ at.page.0 → viewed store image put n ≡ viewed store image given n)
    (free : cell_of (viewed store image given at.page.0) at.slot ≡ None)
    (spells : IsSpelling bytes (cells.Version v))
    (turns : TurnsTo store image put turned rec (link_to at v.tx))
    -- the slot leads to what the version has behind it, or is empty
    (slot_is : cells_of (viewed store image old) rec ≡ anchor_to v.back)
    (apart : (at.page.0 ≡ rec.page.0 → at.slot ≢ rec.slot) ⊎ ((link : Link) × (v.back ≡ Some link))) where
  abbrev size : ℕ
  size = store.geometry.size

  abbrev given_view : Pages
  given_view = viewed store image given

  abbrev room : List Demand
  room = room_wants store image old given owner need at.page gives gives.found

  abbrev wanted_room : DemandSet
  wanted_room = either wanted (listed room)

  its : WantsTable size (viewed store image old) wanted owner gives.pointers gives.data_pages
  its = knows.table gives.pointers gives.data_pages gives.table

  room_step : Pays size (viewed store image old) given_view orders settled on_disk wanted (listed room)
  room_step = room_pays store image old given owner need at.page gives orders settled on_disk wanted knows.lawful
      knows.wants knows.header its have gives.found

  in_room : IsChained size given_view wanted_room
  in_room = room_chained store image old given owner need at.page gives orders settled on_disk wanted knows.lawful
      knows.wants knows.header its have chained gives.found

  at_data : IsDataOf size wanted_room at.page.0
  at_data = subst (λ (n : ℕ). IsDataOf size wanted_room n) (ap (λ (p : PageNo). p.0) gives.page_is)
      (room_data store image old given owner need at.page gives orders settled on_disk wanted knows.lawful knows.wants
      knows.header its have gives.found)

  -- the slot is as it was
  slot_now : slot_cell (cell_of (given_view rec.page.0) rec.slot) ≡ anchor_to v.back
  slot_now = ap (λ (page : List ℕ). slot_cell (cell_of page rec.slot))
      (room_else store image old given owner need at.page gives orders settled on_disk wanted knows.lawful knows.wants
      knows.header its have gives.found rec.page.0 knows.record_) ∙ slot_is

  slots_apart : at.page.0 ≡ rec.page.0 → at.slot ≢ rec.slot
  slots_apart on = elim apart [
    | inl said ↦ said on
    | inr of ↦ λ same.
        let used : slot_cell (cell_of (given_view rec.page.0) rec.slot) ≡ Some (cells.Anchor of.0) =
        slot_now ∙ ap anchor_to of.1 in
        let none : slot_cell (cell_of (given_view rec.page.0) rec.slot) ≡ None =
        sym (at_place given_view at.page.0 at.slot rec.page.0 rec.slot (on, same)) ∙ ap slot_cell free in
        let both : Some (cells.Anchor of.0) ≡ None = sym used ∙ none in absurd cc
  ]

  behind : (o : Option Link) → slot_cell (cell_of (given_view rec.page.0) rec.slot) ≡ anchor_to o → (e : Demand)
      → Has (back_demands o) e → Leads size wanted_room (given_view rec.page.0) rec.page.0 rec.slot e
  behind None is e h = absurd h
  behind (Some link) is e h = of_page (still_data size wanted (listed room) rec.page.0 knows.record_)
      (subst (λ (c : Option Cell). Has (cell_demands c) e) (sym is) h)

  pub written_chained : IsChained size (viewed store image turned)
      (either wanted (listed (write_wants store image old given owner need at v.tx gives)))
  written_chained = chained_both size (viewed store image turned) wanted room (want_of at.page.0 VERSION at.slot v.tx.0 ∷ [])
      (pushed_chained size given_view (viewed store image put) (viewed store image turned) rec at bytes turns.bytes v
      wanted_room room_step.wants in_room sets others spells turns.puts.puts.puts.sets turns.puts.puts.others turns.spells
      slots_apart free at_data (behind v.back slot_now))

pub push_chained : (D L : Type 0) → PushStaysChained D L
push_chained D L store image old new rec v pushes orders settled on_disk wanted knows have chained =
    subst (λ (pages : Pages). IsChained store.geometry.size pages
    (either wanted (listed (write_wants store image old pushes.pushes.puts.adds.given pushes.owner
    (need_of pushes.bytes) pushes.pushes.at v.tx pushes.pushes.puts.adds.gives))))
    (sym (viewed_same store image pushes.pushes.turned new pushes.pushes.ordered.same_pages))
    (written_chained store image old pushes.pushes.puts.adds.given pushes.pushes.put pushes.pushes.turned rec pushes.pushes.at
    pushes.owner (need_of pushes.bytes) pushes.bytes (leading_to v (Some pushes.newest)) orders settled on_disk wanted knows
    chained pushes.pushes.puts.adds.gives in_given pushes.pushes.puts.adds.puts.puts.puts.sets
    pushes.pushes.puts.adds.puts.puts.others free pushes.spells pushes.pushes.turns pushes.head.slot
    (inr (pushes.newest, refl)))
  where
    in_given : HaveOrders orders pushes.pushes.puts.adds.given
    in_given = have_same orders pushes.pushes.puts.adds.given pushes.pushes.put pushes.pushes.puts.adds.one.puts.same_orders
        (have_same orders pushes.pushes.put pushes.pushes.turned pushes.pushes.turns.puts.one.puts.same_orders
        (have_sooner orders pushes.pushes.turned new (push_orders pushes.pushes.turned.pages pushes.pushes.at.page.0 rec.page.0
        (Some pushes.newest) pushes.pushes.pointers) pushes.pushes.ordered have))

    free : cell_of (viewed store image pushes.pushes.puts.adds.given pushes.pushes.at.page.0) pushes.pushes.at.slot ≡ None
    free = ap (cell_of (viewed store image pushes.pushes.puts.adds.given pushes.pushes.at.page.0))
        pushes.pushes.puts.adds.puts.least ∙ free_slot (viewed store image pushes.pushes.puts.adds.given pushes.pushes.at.page.0)

pub first_chained : (D L : Type 0) → FirstStaysChained D L
first_chained D L store image old new owner rec v makes orders settled on_disk wanted knows none have chained =
    subst (λ (pages : Pages). IsChained store.geometry.size pages
    (either wanted (listed (write_wants store image old makes.makes.adds.given owner (need_with_anchor makes.bytes)
    makes.makes.at v.tx makes.makes.adds.gives))))
    (sym (viewed_same store image makes.makes.turned new makes.makes.ordered.same_pages))
    (written_chained store image old makes.makes.adds.given makes.makes.put makes.makes.turned rec makes.makes.at owner
    (need_with_anchor makes.bytes) makes.bytes (leading_to v None) orders settled on_disk wanted knows chained
    makes.makes.adds.gives in_given makes.makes.adds.puts.sets makes.makes.adds.puts.others makes.makes.adds.puts.was_free
    makes.spells makes.makes.turns none (inl makes.makes.adds.puts.apart))
  where
    in_given : HaveOrders orders makes.makes.adds.given
    in_given = have_same orders makes.makes.adds.given makes.makes.put makes.makes.adds.one.puts.same_orders
        (have_same orders makes.makes.put makes.makes.turned makes.makes.turns.puts.one.puts.same_orders
        (have_sooner orders makes.makes.turned new (first_orders makes.makes.turned.pages makes.makes.at.page.0 rec.page.0
        makes.makes.pointers makes.makes.slot_pointers) makes.makes.ordered have))
