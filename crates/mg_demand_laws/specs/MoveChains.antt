-- An own version is moved to another cell: nothing else leads to it, and the versions that are wanted stay chained.
use Rattle.std.specs.Prelude.{◌≡◌, ◌≢◌, ◌⊎◌, ◌++◌, ℕ, Bool, true, false, List, [], ◌∷◌, length, Option, None, Some}
use Rattle.std.proofs.Common.{inl, inr, refl, sym, subst, ap, ◌∙◌, arith}
use Rattle.std.proofs.lemmas.Bool.{and_from, and_parts, cases_eq, not_from_false}
use Rattle.mg_base.specs.Fields.{byte}
use Rattle.mg_base.specs.Image.{Image}
use Rattle.mg_base.specs.declared.numbers.PageNo.{PageNo}
use Rattle.mg_base.specs.declared.numbers.RecId.{RecId}
use Rattle.mg_careful.specs.Precedence.{Orders}
use Rattle.mg_careful.specs.declared.graph.Order.{Order}
use Rattle.mg_careful.specs.declared.links.Demand.{Demand}
use Rattle.mg_careful.specs.CarefulWrite.{DemandSet, Has, IsIn, either, listed}
use Rattle.mg_chain.specs.Orders.{move_orders}
use Rattle.mg_chain.specs.Writing.{Moves, Replaces, leading_to}
use Rattle.mg_demand_laws.specs.Freeing.{without}
use Rattle.mg_demand_laws.specs.CellDemands.{want_by}
use Rattle.mg_demand_laws.specs.Runs.{Lasting}
use Rattle.mg_heap.specs.Changing.{ChangesOne}
use Rattle.mg_image.specs.Form.{Pages}
use Rattle.mg_image.specs.Records.{slot_cell}
use Rattle.mg_pool.specs.Batch.{Changed}
use Rattle.mg_pool.specs.declared.pool.Pool.{Pool}
use Rattle.mg_slots.specs.Changes.{SetsCell}
use Rattle.mg_slots.specs.DataPage.{cell_of}
use Rattle.mg_slots.specs.Room.{need_of}
use Rattle.mg_slots.specs.declared.page.TheConstants.{DATA_KIND}
use Rattle.mg_space.specs.Demands.{back_demands, demands_of}
use Rattle.mg_space.specs.View.{viewed}
use Rattle.mg_space.specs.declared.links.TheConstants.{DATA, HEADER, VERSION}
use Rattle.mg_version.specs.Cells.{IsCell}
use Rattle.mg_version.specs.declared.cell.Cell.{Cell}
use Rattle.mg_version.specs.declared.cell.Cell.TheVariants as cells
use Rattle.mg_version.specs.declared.cell.Link.{Link}
use Rattle.mg_version.specs.declared.cell.Version.{Version}
use Rattle.mg_demand_laws.specs.FreeLaws.{version_is}
use Rattle.mg_demand_laws.specs.Steps.{version_at}
use Rattle.mg_demand_laws.specs.Wanting.{Pays, want_of}
use Rattle.mg_demand_laws.specs.WantingLaws.{in_one}
use Rattle.mg_demand_laws.specs.CellTies.{free_slot, write_wants}
use Rattle.mg_demand_laws.specs.GrowthTies.{room_data, room_else, room_pays, room_wants}
use Rattle.mg_demand_laws.specs.Lists.{HaveOrders, have_same, have_sooner, viewed_same}
use Rattle.mg_demand_laws.specs.Moving.{KnowsMove}
use Rattle.mg_demand_laws.specs.OwnTies.{some_cell}
use Rattle.mg_demand_laws.specs.Wants.{IsDataOf, WantsTable, still_data}
use Rattle.mg_demand_laws.specs.Chained.{IsChained, Leads}
use Rattle.mg_demand_laws.specs.ChainedLaws.{ComesFrom, IsElse, at_place, cases_place, chained_within, data_kind, else_cell, free_is_unwanted, leads_none, leads_same, leads_then, leads_within, once_then}
use Rattle.mg_demand_laws.specs.May.{MayMove}
use Rattle.mg_demand_laws.specs.OwnChains.{newest_apart, newest_behind, newest_in, newest_moved, newest_page, newest_unled}
use Rattle.mg_demand_laws.specs.RoomChains.{room_chained}
use Rattle.mg_demand_laws.specs.WriteChains.{at_else, chained_both, write_bit, write_cells, write_leads, write_placed}

-- the law: a version may be moved, and then nothing else leads to it
abbrev pub MoveIsKnown : (D L : Type 0) → Type 0
MoveIsKnown D L = (store : Pool D L) (image : Image) (old new : Changed) (rec : RecId) (v : Version)
    (replaces : Replaces store image old new rec v)
    (moves : Moves store image old new rec replaces.newest replaces.owner replaces.bytes v.tx replaces.was.back)
    (orders : Orders) (it : Lasting) (on_disk wanted : DemandSet)
    → MayMove store image old new rec v replaces it on_disk wanted → HaveOrders orders new
    → IsChained store.geometry.size (viewed store image old) wanted
    → KnowsMove store image old new rec v replaces moves it on_disk wanted

-- the law: it is moved
abbrev pub MoveStaysChained : (D L : Type 0) → Type 0
MoveStaysChained D L = (store : Pool D L) (image : Image) (old new : Changed) (rec : RecId) (v : Version)
    (replaces : Replaces store image old new rec v)
    (moves : Moves store image old new rec replaces.newest replaces.owner replaces.bytes v.tx replaces.was.back)
    (orders : Orders) (it : Lasting) (on_disk wanted : DemandSet)
    → MayMove store image old new rec v replaces it on_disk wanted → HaveOrders orders new
    → IsChained store.geometry.size (viewed store image old) wanted
    → IsChained store.geometry.size (viewed store image new)
    (without (version_at replaces.newest.rec.page.0 replaces.newest.rec.slot replaces.newest.tx.0)
    (either wanted (listed (write_wants store image old moves.puts.adds.given replaces.owner (need_of replaces.bytes)
    moves.at v.tx moves.puts.adds.gives))))

module _ {D L : Type 0} (store : Pool D L) (image : Image) (old new : Changed) (rec : RecId) (v : Version) (replaces : Replaces store image old new rec v) (moves : Moves store image old new rec replaces.newest replaces.owner replaces.bytes v.tx replaces.was.back) (orders : Orders) (it : Lasting) (on_disk wanted : DemandSet) (may : MayMove store image old new rec v replaces it on_disk wanted) (have : HaveOrders orders new) (chained : IsChained store.geometry.size (viewed store image old) wanted) where
  abbrev size : ℕ
  size = store.geometry.size

  abbrev view : Pages
  view = viewed store image old

  abbrev given : Changed
  given = moves.puts.adds.given

  abbrev given_view : Pages
  given_view = viewed store image given

  abbrev put_view : Pages
  put_view = viewed store image moves.put

  abbrev mid : Pages
  mid = viewed store image moves.swings.turned

  abbrev freed : Changed
  freed = moves.freed

  abbrev last : Pages
  last = viewed store image freed

  abbrev newest : Link
  newest = replaces.newest

  abbrev was : Version
  was = replaces.was

  abbrev x : ℕ
  x = newest.rec.page.0

  abbrev b : ℕ
  b = rec.page.0

  abbrev a : ℕ
  a = moves.at.page.0

  abbrev now : Version
  now = leading_to v was.back

  abbrev need : ℕ
  need = need_of replaces.bytes

  abbrev room : List Demand
  room = room_wants store image old given replaces.owner need moves.at.page moves.puts.adds.gives
      moves.puts.adds.gives.found

  abbrev with_room : DemandSet
  with_room = either wanted (listed room)

  abbrev newly : List Demand
  newly = want_of a VERSION moves.at.slot v.tx.0 ∷ []

  -- ---- the page that is given

  have_given : HaveOrders orders given
  have_given = have_same orders given moves.put moves.puts.adds.one.puts.same_orders
      (have_same orders moves.put moves.swings.turned moves.swings.turns.puts.one.puts.same_orders
      (at moves.swings.frees.at_most))
    where
      in_freed : HaveOrders orders moves.freed
      in_freed = have_sooner orders moves.freed new (move_orders moves.freed.pages moves.at.page.0 rec.page.0 replaces.was.back
          moves.pointers moves.slot_pointers replaces.newest.rec.page.0) moves.ordered have

      at : (moves.freed ≡ moves.swings.turned)
          ⊎ ChangesOne store.geometry.size moves.swings.turned moves.freed replaces.newest.rec.page.0
          → HaveOrders orders moves.swings.turned
      at (inl same) = subst (HaveOrders orders) same in_freed
      at (inr one) = have_same orders moves.swings.turned moves.freed one.puts.same_orders in_freed

  its : WantsTable size view wanted replaces.owner moves.puts.adds.gives.pointers moves.puts.adds.gives.data_pages
  its = may.write.table moves.puts.adds.gives.pointers moves.puts.adds.gives.data_pages moves.puts.adds.gives.table

  room_step : Pays size view given_view orders it.settled on_disk wanted (listed room)
  room_step = room_pays store image old given replaces.owner need moves.at.page moves.puts.adds.gives orders it.settled
      on_disk wanted may.write.lawful may.write.wants may.write.header its have_given moves.puts.adds.gives.found

  in_room : IsChained size given_view with_room
  in_room = room_chained store image old given replaces.owner need moves.at.page moves.puts.adds.gives orders it.settled
      on_disk wanted may.write.lawful may.write.wants may.write.header its have_given chained moves.puts.adds.gives.found

  at_data : IsDataOf size with_room a
  at_data = subst (λ (n : ℕ). IsDataOf size with_room n) (ap (λ (p : PageNo). p.0) moves.puts.adds.gives.page_is)
      (room_data store image old given replaces.owner need moves.at.page moves.puts.adds.gives orders it.settled on_disk
      wanted may.write.lawful may.write.wants may.write.header its have_given moves.puts.adds.gives.found)

  rec_data : IsDataOf size with_room b
  rec_data = still_data size wanted (listed room) b may.write.record_

  head : IsIn with_room (want_of 0 HEADER 0 0)
  head = in_one wanted (listed room) (want_of 0 HEADER 0 0) may.write.header

  -- data pages that were wanted are as they were
  as_before : (n : ℕ) → IsDataOf size wanted n → given_view n ≡ view n
  as_before = room_else store image old given replaces.owner need moves.at.page moves.puts.adds.gives orders it.settled
      on_disk wanted may.write.lawful may.write.wants may.write.header its have_given moves.puts.adds.gives.found

  -- ---- the version that is moved, before

  version_in : IsIn wanted (want_by newest)
  version_in = newest_in size view wanted may.write.wants may.write.header chained rec newest was may.write.record_
      replaces.its.head.slot replaces.its.meets.cell

  page_in : IsDataOf size wanted x
  page_in = newest_page size view wanted may.write.wants may.write.header chained rec newest was may.write.record_
      replaces.its.head.slot replaces.its.meets.cell

  rec_now : slot_cell (cell_of (given_view b) rec.slot) ≡ Some (cells.Anchor newest)
  rec_now = ap (λ (page : List ℕ). slot_cell (cell_of page rec.slot)) (as_before b may.write.record_)
      ∙ replaces.its.head.slot

  meets_now : slot_cell (cell_of (given_view x) newest.rec.slot) ≡ Some (cells.Version was)
  meets_now = ap (λ (page : List ℕ). slot_cell (cell_of page newest.rec.slot)) (as_before x page_in)
      ∙ replaces.its.meets.cell

  free : cell_of (given_view a) moves.at.slot ≡ None
  free = ap (cell_of (given_view a)) moves.puts.adds.puts.least ∙ free_slot (given_view a)

  -- the three places are different ones
  slots_apart : a ≡ b → moves.at.slot ≢ rec.slot
  slots_apart on same =
      let none : slot_cell (cell_of (given_view b) rec.slot) ≡ None =
      sym (at_place given_view a moves.at.slot b rec.slot (on, same)) ∙ ap slot_cell free in
      let both : Some (cells.Anchor newest) ≡ None = sym rec_now ∙ none in absurd cc

  put_apart : IsElse x newest.rec.slot a moves.at.slot
  put_apart on same =
      let none : slot_cell (cell_of (given_view x) newest.rec.slot) ≡ None =
      at_place given_view x newest.rec.slot a moves.at.slot (on, same) ∙ ap slot_cell free in
      let both : Some (cells.Version was) ≡ None = sym meets_now ∙ none in absurd cc

  turn_apart : IsElse x newest.rec.slot b rec.slot
  turn_apart = newest_apart size given_view with_room room_step.wants head in_room rec newest was rec_data rec_now meets_now

  -- ---- with the slot turned

  abbrev all : DemandSet
  all = either with_room (listed newly)

  mid_else : (n s : ℕ) → IsElse n s b rec.slot → IsElse n s a moves.at.slot → cell_of (mid n) s ≡ cell_of (given_view n) s
  mid_else = at_else size given_view put_view mid rec moves.at replaces.bytes moves.swings.turns.bytes now with_room
      room_step.wants in_room moves.puts.adds.puts.puts.puts.sets moves.puts.adds.puts.puts.others replaces.spells
      moves.swings.turns.puts.puts.puts.sets moves.swings.turns.puts.puts.others moves.swings.turns.spells slots_apart free
      at_data

  mid_leads : (n s : ℕ) (e : Demand) → e.what ≡ VERSION → Leads size all (mid n) n s e
      → (Leads size with_room (given_view n) n s e × (IsElse n s b rec.slot × IsElse n s a moves.at.slot))
      ⊎ ((((n ≡ b) × (s ≡ rec.slot)) × (e ≡ want_of a VERSION moves.at.slot v.tx.0))
      ⊎ (((n ≡ a) × (s ≡ moves.at.slot)) × Has (back_demands was.back) e))
  mid_leads = write_leads size given_view put_view mid rec moves.at replaces.bytes moves.swings.turns.bytes now with_room
      room_step.wants in_room moves.puts.adds.puts.puts.puts.sets moves.puts.adds.puts.puts.others replaces.spells
      moves.swings.turns.puts.puts.puts.sets moves.swings.turns.puts.puts.others moves.swings.turns.spells slots_apart free
      at_data

  mid_cells : (n s : ℕ) (cell : Cell) → IsDataOf size all n → slot_cell (cell_of (mid n) s) ≡ Some cell → IsCell cell
  mid_cells = write_cells size given_view put_view mid rec moves.at replaces.bytes moves.swings.turns.bytes now with_room
      room_step.wants in_room moves.puts.adds.puts.puts.puts.sets moves.puts.adds.puts.puts.others replaces.spells
      moves.swings.turns.puts.puts.puts.sets moves.swings.turns.puts.puts.others moves.swings.turns.spells slots_apart free
      at_data

  mid_placed : (n s t : ℕ) → IsIn all (want_of n VERSION s t) → IsDataOf size all n
  mid_placed = write_placed size given_view put_view mid rec moves.at replaces.bytes moves.swings.turns.bytes now with_room
      room_step.wants in_room moves.puts.adds.puts.puts.puts.sets moves.puts.adds.puts.puts.others replaces.spells
      moves.swings.turns.puts.puts.puts.sets moves.swings.turns.puts.puts.others moves.swings.turns.spells slots_apart free
      at_data

  mid_bit : (n owner place : ℕ) → IsIn all (want_of n DATA owner place) → IsDataOf size all n
  mid_bit = write_bit size given_view put_view mid rec moves.at replaces.bytes moves.swings.turns.bytes now with_room
      room_step.wants in_room moves.puts.adds.puts.puts.puts.sets moves.puts.adds.puts.puts.others replaces.spells
      moves.swings.turns.puts.puts.puts.sets moves.swings.turns.puts.puts.others moves.swings.turns.spells slots_apart free
      at_data

  -- no version is wanted of the new cell's place before
  unwanted : (t : ℕ) → IsIn with_room (want_of a VERSION moves.at.slot t) → ⊥
  unwanted t = free_is_unwanted size given_view with_room room_step.wants a moves.at.slot t free

  mid_whole : (n : ℕ) → length (mid n) ≡ size
  mid_whole n = elim (cases_eq n b) [
    | inl same ↦ ap (λ (k : ℕ). length (mid k)) same ∙ (moves.swings.turns.puts.puts.puts.sets.len ∙ put_whole b)
    | inr other ↦ ap (λ (page : List ℕ). length page) (moves.swings.turns.puts.puts.others n other) ∙ put_whole n
  ]
    where
      put_whole : (n : ℕ) → length (viewed store image moves.put n) ≡ store.geometry.size
      put_whole n = elim (cases_eq n moves.at.page.0) [
        | inl same ↦ ap (λ (k : ℕ). length (viewed store image moves.put k)) same
            ∙ (moves.puts.adds.puts.puts.puts.sets.len ∙ room_step.wants.whole moves.at.page.0)
        | inr other ↦ ap (λ (page : List ℕ). length page) (moves.puts.adds.puts.puts.others n other)
            ∙ room_step.wants.whole n
      ]

  mid_same : (n : ℕ) → byte (given_view n) 0 ≢ DATA_KIND → mid n ≡ given_view n
  mid_same n other = moves.swings.turns.puts.puts.others n (λ same. other (ap (λ (k : ℕ). byte (given_view k) 0) same
      ∙ data_kind size given_view with_room room_step.wants b rec_data))
      ∙ moves.puts.adds.puts.puts.others n (λ same. other (ap (λ (k : ℕ). byte (given_view k) 0) same
      ∙ data_kind size given_view with_room room_step.wants a at_data))

  -- Nothing that was wanted leads to the version then.
  pub move_unled : (d : Demand) → IsIn wanted d → Has (demands_of (mid d.target) d) (want_by newest) → ⊥
  move_unled d h made =
      let led = leads_then size given_view with_room room_step.wants head in_room d (want_by newest)
      (in_one wanted (listed room) d h) refl (mid d.target) (mid_whole d.target) (mid_same d.target) made in
      newest_unled size given_view with_room room_step.wants head in_room rec newest was rec_data rec_now meets_now
      (λ (e : Demand). e ≡ want_of a VERSION moves.at.slot v.tx.0)
      (λ is. unwanted v.tx.0 (subst (IsIn with_room) is (in_one wanted (listed room) (want_by newest) version_in)))
      d.target led.0
      (elim (mid_leads d.target led.0 (want_by newest) refl (more d.target led.0 (want_by newest) led.1)) [
        | inl stood ↦ inl (stood.0, stood.1.0)
        | inr other ↦ elim other [
          | inl new_ ↦ inr (inl new_.1)
          | inr back ↦ inr (inr back.1)
        ]
      ])
    where
      more : (n s : ℕ) (e : Demand) → Leads size with_room (mid n) n s e → Leads size all (mid n) n s e
      more n s e = leads_within size with_room (mid n) n s e all (still_data size with_room (listed newly) n)
          (λ t. in_one with_room (listed newly) (want_of n VERSION s t))

  pub knows_move : KnowsMove store image old new rec v replaces moves it on_disk wanted
  knows_move = record {
    write = may.write;
    page = page_in;
    version = version_in;
    moved = newest_moved size view wanted may.write.wants may.write.header chained rec newest was may.write.record_
        replaces.its.head.slot replaces.its.meets.cell;
    lasting = may.lasting;
    young = may.young;
    behind = may.behind;
    unled = move_unled;
  }

  -- ---- the old cell is freed

  still : slot_cell (cell_of (mid x) newest.rec.slot) ≡ Some (cells.Version was)
  still = ap slot_cell (mid_else x newest.rec.slot turn_apart put_apart) ∙ meets_now

  frees : SetsCell (mid x) (last x) newest.rec.slot None
  frees = (moves.swings.frees.frees.used (some_cell (cell_of (mid x) newest.rec.slot) (cells.Version was) still)).sets

  at_newest : slot_cell (cell_of (last x) newest.rec.slot) ≡ None
  at_newest = ap slot_cell frees.here

  last_else : (n s : ℕ) → IsElse n s x newest.rec.slot → cell_of (last n) s ≡ cell_of (mid n) s
  last_else = else_cell mid last x newest.rec.slot None frees moves.swings.frees.frees.others

  abbrev pub move_dropped : Demand → Bool
  move_dropped = version_at x newest.rec.slot newest.tx.0

  last_leads : (n s : ℕ) (e : Demand) → e.what ≡ VERSION → Leads size all (last n) n s e
      → ComesFrom size given_view with_room b rec.slot a moves.at.slot x newest.rec.slot
      (λ (d : Demand). d ≡ want_of a VERSION moves.at.slot v.tx.0) (λ (d : Demand). Has (back_demands was.back) d) n s e
  last_leads n s e what leads = elim (cases_place n s x newest.rec.slot) [
    | inl here ↦ absurd (leads_none size all (last n) n s e (at_place last n s x newest.rec.slot here ∙ at_newest) leads)
    | inr out ↦ elim (mid_leads n s e what (leads_same size all (last n) n s e (mid n) (last_else n s out) leads)) [
      | inl stood ↦ inl (stood.0, out)
      | inr other ↦ inr other
    ]
  ]

  last_chained : IsChained size last all
  last_chained = record {
    with_bit = mid_bit;
    placed = mid_placed;
    cells_are = λ n s cell of is. elim (cases_place n s x newest.rec.slot) [
      | inl here ↦ let both : Some cell ≡ None = sym is ∙ (at_place last n s x newest.rec.slot here ∙ at_newest) in absurd cc
      | inr out ↦ mid_cells n s cell of (ap slot_cell (sym (last_else n s out)) ∙ is)
    ];
    once = once_then size given_view last with_room all b rec.slot a moves.at.slot x newest.rec.slot
        (λ (d : Demand). d ≡ want_of a VERSION moves.at.slot v.tx.0) (λ (d : Demand). Has (back_demands was.back) d)
        room_step.wants in_room.once (λ e is h. unwanted v.tx.0 (subst (IsIn with_room) is h))
        (newest_behind size given_view with_room room_step.wants head in_room rec newest was rec_data rec_now meets_now)
        last_leads;
  }

  abbrev move_all : DemandSet
  move_all = either wanted (listed (write_wants store image old given replaces.owner need moves.at v.tx moves.puts.adds.gives))

  pub move_chained : IsChained size (viewed store image new) (without move_dropped move_all)
  move_chained = subst (λ (pages : Pages). IsChained size pages (without move_dropped move_all))
      (sym (viewed_same store image freed new moves.ordered.same_pages))
      (chained_within size last move_all (without move_dropped move_all) less more
      (chained_both size last wanted room newly last_chained))
    where
      less : (d : Demand) → IsIn (without move_dropped move_all) d → IsIn move_all d
      less d h = (h.0, (and_parts (move_all d h.0) _ h.1).0)

      kept : (d : Demand) → d.what ≢ VERSION → (c : Bool) → move_dropped d ≡ c → move_dropped d ≡ false
      kept d other false is = is
      kept d other true is = absurd (other (ap (λ (y : Demand). y.what) (version_is x newest.rec.slot newest.tx.0 d is)))

      more : (d : Demand) → d.what ≢ VERSION → IsIn move_all d → IsIn (without move_dropped move_all) d
      more d other h = (h.0, and_from _ _ h.1 (not_from_false _ (kept d other (move_dropped d) refl)))

pub move_is_known : (D L : Type 0) → MoveIsKnown D L
move_is_known D L store image old new rec v replaces moves orders it on_disk wanted may have chained =
    knows_move store image old new rec v replaces moves orders it on_disk wanted may have chained

pub move_stays : (D L : Type 0) → MoveStaysChained D L
move_stays D L store image old new rec v replaces moves orders it on_disk wanted may have chained =
    move_chained store image old new rec v replaces moves orders it on_disk wanted may have chained
