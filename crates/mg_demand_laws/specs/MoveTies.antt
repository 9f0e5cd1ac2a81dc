-- A transaction's own newest version is moved to another cell: what its batch pays, and drops.
use Rattle.std.specs.Prelude.{◌≡◌, ◌≢◌, ◌⊎◌, ◌++◌, ℕ, Bool, true, false, List, [], ◌∷◌, Option, None, Some, is_some, not, if◌then◌else◌}
use Rattle.std.proofs.Common.{inl, inr, refl, sym, subst, ap, ◌∙◌, arith}
use Rattle.std.proofs.lemmas.Bool.{cases_eq, eq-eqb}
use Rattle.mg_base.specs.Image.{Image}
use Rattle.mg_base.specs.declared.numbers.RecId.{RecId}
use Rattle.mg_base.specs.declared.numbers.TxNo.{TxNo}
use Rattle.mg_careful.specs.Precedence.{Orders}
use Rattle.mg_careful.specs.declared.graph.Order.{Order}
use Rattle.mg_careful.specs.declared.links.Demand.{Demand}
use Rattle.mg_careful.specs.CarefulWrite.{DemandSet, Has, IsIn, either, listed}
use Rattle.mg_chain.specs.Orders.{before_page, move_orders, push_orders}
use Rattle.mg_chain.specs.Writing.{Moves, Replaces, leading_to}
use Rattle.mg_demand_laws.specs.CellDemands.{BackIsBehind, want_by}
use Rattle.mg_demand_laws.specs.Runs.{Lasting, PaysThenDrops}
use Rattle.mg_heap.specs.Changing.{ChangesOne}
use Rattle.mg_image.specs.Form.{Pages}
use Rattle.mg_image.specs.Records.{slot_cell}
use Rattle.mg_pool.specs.Batch.{Changed, content_in, lists}
use Rattle.mg_pool.specs.declared.batch.BatchPage.{BatchPage}
use Rattle.mg_pool.specs.declared.pool.Pool.{Pool}
use Rattle.mg_slots.specs.Changes.{SetsCell}
use Rattle.mg_slots.specs.DataPage.{cell_of}
use Rattle.mg_slots.specs.Room.{need_of}
use Rattle.mg_space.specs.Demands.{back_demands, cell_demands, demand, demands_of, is_version_of, link_demand, version_demands, wanted_demands}
use Rattle.mg_space.specs.View.{viewed}
use Rattle.mg_space.specs.declared.links.TheConstants.{HEADER, NEXT, VERSION}
use Rattle.mg_version.specs.declared.cell.Cell.{Cell}
use Rattle.mg_version.specs.declared.cell.Cell.TheVariants as cells
use Rattle.mg_version.specs.declared.cell.Link.{Link}
use Rattle.mg_version.specs.declared.cell.Version.{Version}
use Rattle.mg_demand_laws.specs.FreeLaws.{free_drops, version_is}
use Rattle.mg_demand_laws.specs.KindLaws.{as_want, from_want}
use Rattle.mg_demand_laws.specs.Met.{has_back, has_either, is_demand, of_listed}
use Rattle.mg_demand_laws.specs.Steps.{version_at}
use Rattle.mg_demand_laws.specs.Wanting.{Drops, Pays, may_go, want_of}
use Rattle.mg_demand_laws.specs.WantingLaws.{either_cases, in_one}
use Rattle.mg_demand_laws.specs.BatchSteps.{PaysStep}
use Rattle.mg_demand_laws.specs.CellTies.{free_slot, push_back, push_header, push_page, settled_behind, spelled_is, write_orderly, write_pays, write_wants}
use Rattle.mg_demand_laws.specs.GrowthTies.{room_else, room_leads, room_versions, room_wants}
use Rattle.mg_demand_laws.specs.Moving.{KnowsMove}
use Rattle.mg_demand_laws.specs.OwnTies.{some_cell}
use Rattle.mg_demand_laws.specs.Lists.{HaveOrders, before_in, have_added, have_same, have_sooner, lists_later, lists_sooner, viewed_same}
use Rattle.mg_demand_laws.specs.OrderlyTies.{data_else}
use Rattle.mg_demand_laws.specs.Wants.{AreOrderly, IsOrderly, IsTaken, data_taken, still_data}

-- the law: the version pays as a new one does; the slot's page is ordered before that of the freed cell
abbrev pub MovePays : (D L : Type 0) → Type 0
MovePays D L = (store : Pool D L) (image : Image) (old new : Changed) (rec : RecId) (v : Version)
    (replaces : Replaces store image old new rec v)
    (moves : Moves store image old new rec replaces.newest replaces.owner replaces.bytes v.tx replaces.was.back)
    (orders : Orders) (it : Lasting) (on_disk wanted : DemandSet)
    → KnowsMove store image old new rec v replaces moves it on_disk wanted → HaveOrders orders new
    → PaysThenDrops store.geometry.size (viewed store image old) (viewed store image new) (content_in new.pages)
    orders it on_disk wanted

module _ {D L : Type 0} (store : Pool D L) (image : Image) (old new : Changed) (rec : RecId) (v : Version) (replaces : Replaces store image old new rec v) (moves : Moves store image old new rec replaces.newest replaces.owner replaces.bytes v.tx replaces.was.back) (orders : Orders) (it : Lasting) (on_disk wanted : DemandSet) (knows : KnowsMove store image old new rec v replaces moves it on_disk wanted) (have : HaveOrders orders new) where
  abbrev size : ℕ
  size = store.geometry.size

  abbrev view : Pages
  view = viewed store image old

  abbrev given : Changed
  given = moves.puts.adds.given

  abbrev given_view : Pages
  given_view = viewed store image given

  abbrev put_view : Pages
  put_view = viewed store image moves.put

  abbrev turned : Changed
  turned = moves.swings.turned

  abbrev mid : Pages
  mid = viewed store image turned

  abbrev freed : Changed
  freed = moves.freed

  abbrev last : Pages
  last = viewed store image freed

  abbrev newest : Link
  newest = replaces.newest

  abbrev was : Version
  was = replaces.was

  -- the version's page, the record's, and the new cell's
  abbrev x : ℕ
  x = newest.rec.page.0

  abbrev b : ℕ
  b = rec.page.0

  abbrev a : ℕ
  a = moves.at.page.0

  abbrev now : Version
  now = leading_to v was.back

  -- ---- the orders

  abbrev pushes : List Order
  pushes = push_orders freed.pages a b was.back moves.pointers

  abbrev first_part : List Order
  first_part = pushes ++ before_page moves.slot_pointers b

  abbrev os : List Order
  os = move_orders freed.pages a b was.back moves.pointers moves.slot_pointers x

  added : (m n : ℕ) → lists os m n ≡ true → orders m n ≡ true
  added = have_added orders freed new os moves.ordered have

  added_push : (m n : ℕ) → lists pushes m n ≡ true → orders m n ≡ true
  added_push m n is = added m n (lists_sooner first_part (before_page (b ∷ []) x) m n
      (lists_sooner pushes (before_page moves.slot_pointers b) m n is))

  slot_first : (x ≡ b) ⊎ (orders b x ≡ true)
  slot_first = elim (before_in (b ∷ []) b x (inl refl)) [
    | inl same ↦ inl (sym same)
    | inr order ↦ inr (added b x (lists_later first_part (before_page (b ∷ []) x) b x order))
  ]

  have_turned : HaveOrders orders turned
  have_turned = at moves.swings.frees.at_most
    where
      in_freed : HaveOrders orders freed
      in_freed = have_sooner orders freed new os moves.ordered have

      at : (freed ≡ turned) ⊎ ChangesOne size turned freed x → HaveOrders orders turned
      at (inl same) = subst (HaveOrders orders) same in_freed
      at (inr one) = have_same orders turned freed one.puts.same_orders in_freed

  have_given : HaveOrders orders given
  have_given = have_same orders given moves.put moves.puts.adds.one.puts.same_orders
      (have_same orders moves.put turned moves.swings.turns.puts.one.puts.same_orders have_turned)

  -- ---- the version is written anew

  back_wanted : (link : Link) → was.back ≡ Some link → (e : Demand) → Has (link_demand link) e → IsIn wanted e
  back_wanted link is e h = knows.write.wants.keeps.in_turn (want_by newest) e knows.version
      (from_want size view wanted knows.write.wants (view x) (knows.write.wants.whole x) (want_by newest) (want_by newest)
      e refl (subst (λ (c : Option Cell). Has (wanted_demands c) e) (sym replaces.its.meets.cell)
      (has_back (demand 0 NEXT was.tx.0 0) (back_demands was.back) e
      (subst (λ (o : Option Link). Has (back_demands o) e) (sym is) h))))

  back_first : (o : Option Link) → was.back ≡ o → BackIsBehind orders on_disk wanted a o
  back_first None is = tt
  back_first (Some link) is = settled_behind store image old rec replaces.owner v.tx orders it.settled on_disk wanted
      knows.write link a (back_wanted link is) (knows.behind link is)
      (push_back orders freed.pages a b was.back moves.pointers added_push link is)

  free : cell_of (given_view a) moves.at.slot ≡ None
  free = ap (cell_of (given_view a)) moves.puts.adds.puts.least ∙ free_slot (given_view a)

  abbrev more : List Demand
  more = write_wants store image old given replaces.owner (need_of replaces.bytes) moves.at v.tx moves.puts.adds.gives

  abbrev room : List Demand
  room = room_wants store image old given replaces.owner (need_of replaces.bytes) moves.at.page moves.puts.adds.gives
      moves.puts.adds.gives.found

  write_step : Pays size view mid orders it.settled on_disk wanted (listed more)
  write_step = write_pays store image old given moves.put turned rec moves.at replaces.owner (need_of replaces.bytes)
      replaces.bytes now (Some newest) orders it.settled on_disk wanted knows.write moves.puts.adds.gives have_given
      moves.puts.adds.puts.puts.puts.sets moves.puts.adds.puts.puts.others free replaces.spells moves.swings.turns
      replaces.its.head.slot (inr (newest, refl))
      (push_header orders freed.pages a b was.back moves.pointers added_push) (back_first was.back refl)
      (push_page orders freed.pages a b was.back moves.pointers added_push) (inr slot_first)

  abbrev all : DemandSet
  all = either wanted (listed more)

  -- ---- the old cell, as it stands until it is freed

  view_same : given_view x ≡ view x
  view_same = room_else store image old given replaces.owner (need_of replaces.bytes) moves.at.page moves.puts.adds.gives
      orders it.settled on_disk wanted knows.write.lawful knows.write.wants knows.write.header
      (knows.write.table moves.puts.adds.gives.pointers moves.puts.adds.gives.data_pages moves.puts.adds.gives.table)
      have_given moves.puts.adds.gives.found x knows.page

  in_given : slot_cell (cell_of (given_view x) newest.rec.slot) ≡ Some (cells.Version was)
  in_given = ap (λ (page : List ℕ). slot_cell (cell_of page newest.rec.slot)) view_same ∙ replaces.its.meets.cell

  -- the new cell's slot is another one, since that was free
  put_apart : x ≡ a → newest.rec.slot ≢ moves.at.slot
  put_apart on same =
      let none : slot_cell (cell_of (given_view x) newest.rec.slot) ≡ None =
      ap (λ (n : ℕ). slot_cell (cell_of (given_view n) newest.rec.slot)) on
      ∙ (ap (λ (s : ℕ). slot_cell (cell_of (given_view a) s)) same ∙ ap slot_cell free) in
      let both : Some (cells.Version was) ≡ None = sym in_given ∙ none in absurd cc

  -- and so is the record's, which has an anchor
  turn_apart : x ≡ b → newest.rec.slot ≢ rec.slot
  turn_apart on same =
      let anchor : slot_cell (cell_of (view x) newest.rec.slot) ≡ Some (cells.Anchor newest) =
      ap (λ (n : ℕ). slot_cell (cell_of (view n) newest.rec.slot)) on
      ∙ (ap (λ (s : ℕ). slot_cell (cell_of (view b) s)) same ∙ replaces.its.head.slot) in
      let both : Some (cells.Anchor newest) ≡ Some (cells.Version was) = sym anchor ∙ replaces.its.meets.cell in
      absurd cc

  in_put : slot_cell (cell_of (put_view x) newest.rec.slot) ≡ Some (cells.Version was)
  in_put = elim (cases_eq x a) [
    | inl on ↦ ap slot_cell (ap (λ (n : ℕ). cell_of (put_view n) newest.rec.slot) on
        ∙ (moves.puts.adds.puts.puts.puts.sets.others newest.rec.slot (put_apart on)
        ∙ ap (λ (n : ℕ). cell_of (given_view n) newest.rec.slot) (sym on))) ∙ in_given
    | inr off ↦ ap (λ (page : List ℕ). slot_cell (cell_of page newest.rec.slot))
        (moves.puts.adds.puts.puts.others x off) ∙ in_given
  ]

  still : slot_cell (cell_of (mid x) newest.rec.slot) ≡ Some (cells.Version was)
  still = elim (cases_eq x b) [
    | inl on ↦ ap slot_cell (ap (λ (n : ℕ). cell_of (mid n) newest.rec.slot) on
        ∙ (moves.swings.turns.puts.puts.puts.sets.others newest.rec.slot (turn_apart on)
        ∙ ap (λ (n : ℕ). cell_of (put_view n) newest.rec.slot) (sym on))) ∙ in_put
    | inr off ↦ ap (λ (page : List ℕ). slot_cell (cell_of page newest.rec.slot))
        (moves.swings.turns.puts.puts.others x off) ∙ in_put
  ]

  -- ---- the new cell, as it stands then

  at_turn : a ≡ b → moves.at.slot ≢ rec.slot
  at_turn on same =
      let slot : slot_cell (cell_of (given_view b) rec.slot) ≡ Some (cells.Anchor newest) =
      ap (λ (page : List ℕ). slot_cell (cell_of page rec.slot))
      (room_else store image old given replaces.owner (need_of replaces.bytes) moves.at.page moves.puts.adds.gives
      orders it.settled on_disk wanted knows.write.lawful knows.write.wants knows.write.header
      (knows.write.table moves.puts.adds.gives.pointers moves.puts.adds.gives.data_pages moves.puts.adds.gives.table)
      have_given moves.puts.adds.gives.found b knows.write.record_) ∙ replaces.its.head.slot in
      let none : slot_cell (cell_of (given_view b) rec.slot) ≡ None =
      ap (λ (s : ℕ). slot_cell (cell_of (given_view b) s)) (sym same)
      ∙ (ap (λ (n : ℕ). slot_cell (cell_of (given_view n) moves.at.slot)) (sym on) ∙ ap slot_cell free) in
      let both : Some (cells.Anchor newest) ≡ None = sym slot ∙ none in absurd cc

  new_cell : slot_cell (cell_of (mid a) moves.at.slot) ≡ Some (cells.Version now)
  new_cell = elim (cases_eq a b) [
    | inl on ↦ ap slot_cell (ap (λ (n : ℕ). cell_of (mid n) moves.at.slot) on
        ∙ (moves.swings.turns.puts.puts.puts.sets.others moves.at.slot (at_turn on)
        ∙ (ap (λ (n : ℕ). cell_of (put_view n) moves.at.slot) (sym on)
        ∙ moves.puts.adds.puts.puts.puts.sets.here))) ∙ spelled
    | inr off ↦ ap slot_cell (ap (λ (page : List ℕ). cell_of page moves.at.slot) (moves.swings.turns.puts.puts.others a off)
        ∙ moves.puts.adds.puts.puts.puts.sets.here) ∙ spelled
  ]
    where
      spelled : slot_cell (Some replaces.bytes) ≡ Some (cells.Version now)
      spelled = ap Some (spelled_is replaces.bytes (cells.Version now) replaces.spells)

  -- ---- nothing leads to the old version then

  -- the new one leads where the old one does
  new_unled : (d : Demand) → d ≡ want_of a VERSION moves.at.slot v.tx.0 → Has (demands_of (mid d.target) d) (want_by newest) → ⊥
  new_unled d is made = elim (has_either (demand 0 NEXT v.tx.0 0) (back_demands was.back) (want_by newest)
      (subst (λ (c : Option Cell). Has (wanted_demands c) (want_by newest)) new_cell
      (as_want size mid all write_step.wants (mid a) (write_step.wants.whole a)
      (want_of a VERSION moves.at.slot v.tx.0) d (want_by newest) is
      (subst (λ (n : ℕ). Has (demands_of (mid n) d) (want_by newest)) (ap (λ (y : Demand). y.target) is) made)))) [
        | inl number ↦ let what : VERSION ≡ NEXT =
            ap (λ (y : Demand). y.what) (is_demand 0 NEXT v.tx.0 0 (want_by newest) number) in absurd (omega (arith, what))
        | inr back ↦ knows.unled (want_by newest) knows.version
            (from_want size mid all write_step.wants (mid x) (write_step.wants.whole x) (want_by newest) (want_by newest)
            (want_by newest) refl (subst (λ (c : Option Cell). Has (wanted_demands c) (want_by newest)) (sym still)
            (has_back (demand 0 NEXT was.tx.0 0) (back_demands was.back) (want_by newest) back)))
      ]

  -- where a table has got a new page, only the new cell stands there, and that leads nowhere by itself
  mid_new : (s : ℕ) (e : Demand) → cell_of (given_view a) s ≡ None → (a ≡ b → ⊥)
      → Has (cell_demands (slot_cell (cell_of (mid a) s))) e → ⊥
  mid_new s e none off h = elim (cases_eq s moves.at.slot) [
    | inl here ↦
        let there = subst (λ (c : Option Cell). Has (cell_demands c) e)
        (ap (λ (k : ℕ). slot_cell (cell_of (mid a) k)) here ∙ new_cell) h in
        subst (λ (c : Bool). Has (if c then version_demands now else []) e) replaces.spells.is_cell.moved there
    | inr other ↦ subst (λ (c : Option (List ℕ)). Has (cell_demands (slot_cell c)) e)
        (ap (λ (page : List ℕ). cell_of page s) (moves.swings.turns.puts.puts.others a off)
        ∙ (moves.puts.adds.puts.puts.puts.sets.others s other ∙ none)) h
  ]

  all_unled : (d : Demand) → IsIn all d → Has (demands_of (mid d.target) d) (want_by newest) → ⊥
  all_unled d h made = elim (either_cases wanted (listed more) d h) [
    | inl w ↦ knows.unled d w made
    | inr m ↦ elim (has_either room (want_of a VERSION moves.at.slot v.tx.0 ∷ []) d (of_listed more d m)) [
      | inl r ↦ room_leads store image old given replaces.owner (need_of replaces.bytes) moves.at.page
          moves.puts.adds.gives orders it.settled on_disk wanted knows.write.lawful knows.write.wants knows.write.header
          (knows.write.table moves.puts.adds.gives.pointers moves.puts.adds.gives.data_pages moves.puts.adds.gives.table)
          have_given mid all write_step.wants b knows.write.record_ mid_new moves.puts.adds.gives.found d (want_by newest)
          r h made refl
      | inr one ↦ elim one [
        | inl is ↦ new_unled d is made
        | inr none ↦ none
      ]
    ]
  ]

  -- ---- the freed cell

  unsettled : it.settled newest.tx.0 ≡ false
  unsettled = at (it.settled newest.tx.0) refl
    where
      at : (c : Bool) → it.settled newest.tx.0 ≡ c → it.settled newest.tx.0 ≡ false
      at false is = is
      at true is = absurd (knows.young (want_by newest) (knows.lasting.of_settled (want_by newest) refl is)
          (ap (λ (u : TxNo). u.0) (sym replaces.its.meets.by ∙ replaces.own)))

  x_taken : IsTaken size mid x
  x_taken = data_taken size mid all write_step.wants x (in_one wanted (listed more) (want_of 0 HEADER 0 0) knows.write.header)
      (still_data size wanted (listed more) x knows.page)

  behind_free : (e : Demand) → Has (wanted_demands (slot_cell (cell_of (mid x) newest.rec.slot))) e
      → may_go it.settled e ≡ false
  behind_free e h = elim (has_either (demand 0 NEXT was.tx.0 0) (back_demands was.back) e
      (subst (λ (c : Option Cell). Has (wanted_demands c) e) still h)) [
        | inl number ↦ ap (may_go it.settled) (is_demand 0 NEXT was.tx.0 0 e number)
        | inr back ↦ of_back was.back refl back
      ]
    where
      of_back : (o : Option Link) → was.back ≡ o → Has (back_demands o) e → may_go it.settled e ≡ false
      of_back None is h = absurd h
      of_back (Some link) is h =
          let one : e ≡ want_by link = is_demand link.rec.page.0 VERSION link.rec.slot link.tx.0 e h in
          ap (may_go it.settled) one ∙ ap (λ (c : Bool). not c) (knows.behind link is)

  frees_cell : SetsCell (mid x) (last x) newest.rec.slot None
  frees_cell = (moves.swings.frees.frees.used (some_cell (cell_of (mid x) newest.rec.slot) (cells.Version was) still)).sets

  free_step : Drops size mid last orders it.settled all (version_at x newest.rec.slot newest.tx.0)
  free_step = free_drops size mid last x newest.rec.slot newest.tx.0 orders it.settled all (record {
    sets = record {
      others = moves.swings.frees.frees.others;
      sets = frees_cell;
      data_ = write_step.wants.on_data (want_by newest) (in_one wanted (listed more) (want_by newest) knows.version) refl;
      off_header = x_taken.off_header;
      off_inventory = x_taken.off_inventory;
      used = x_taken.used;
    };
    stood = subst (λ (c : Option Cell). is_version_of newest.tx.0 c ≡ true) (sym still)
        (eq-eqb was.tx.0 newest.tx.0 (ap (λ (u : TxNo). u.0) replaces.its.meets.by));
    moved = λ e h. let there = subst (λ (c : Option Cell). Has (cell_demands c) e) still h in
        subst (λ (c : Bool). Has (if c then version_demands was else []) e) knows.moved there;
    unsettled = unsettled;
    behind = behind_free;
    unled = all_unled;
  }) write_step.wants

  in_batch : (d : Demand) → version_at x newest.rec.slot newest.tx.0 d ≡ true → is_some (content_in new.pages d.target) ≡ true
  in_batch d is = subst (λ (n : ℕ). is_some (content_in new.pages n) ≡ true)
      (sym (ap (λ (y : Demand). y.target) (version_is x newest.rec.slot newest.tx.0 d is)))
      (subst (λ (pages : List BatchPage). is_some (content_in pages x) ≡ true) (sym moves.ordered.same_pages)
      (at moves.swings.frees.at_most))
    where
      at : (freed ≡ turned) ⊎ ChangesOne size turned freed x → is_some (content_in freed.pages x) ≡ true
      at (inr one) = ap is_some one.puts.here
      at (inl same) =
          let none : slot_cell (cell_of (mid x) newest.rec.slot) ≡ None =
          ap (λ (c : Changed). slot_cell (cell_of (viewed store image c x) newest.rec.slot)) (sym same)
          ∙ ap slot_cell frees_cell.here in
          let both : Some (cells.Version was) ≡ None = sym still ∙ none in absurd cc

  -- what lasts of what is newly wanted is none of it: the version is of a transaction none of whose lasts
  fresh : (d : Demand) → IsIn (listed more) d → it.lasts d ≡ true → IsIn wanted d
  fresh d h is = elim (has_either room (want_of a VERSION moves.at.slot v.tx.0 ∷ []) d (of_listed more d h)) [
    | inl r ↦ absurd (room_versions store image old given replaces.owner (need_of replaces.bytes) moves.at.page
        moves.puts.adds.gives moves.puts.adds.gives.found d r (knows.lasting.versions d is))
    | inr one ↦ elim one [
      | inl same ↦ absurd (knows.young d is (ap (λ (y : Demand). y.b) same))
      | inr none ↦ absurd none
    ]
  ]

  -- what is newly wanted: the table's new pages, if it got any, and the version in its new cell
  abbrev pub move_wants : List Demand
  move_wants = more

  pub move_step : PaysStep size view (viewed store image new) (content_in new.pages) orders it on_disk wanted
      (listed move_wants) (version_at newest.rec.page.0 newest.rec.slot newest.tx.0)
  move_step = subst (λ (pages : Pages). PaysStep size view pages (content_in new.pages) orders it on_disk wanted (listed more)
      (version_at x newest.rec.slot newest.tx.0))
      (sym (viewed_same store image freed new moves.ordered.same_pages)) (record {
        mid = mid;
        pays = write_step;
        fresh = fresh;
        drops = free_step;
        own = in_batch;
      })

  -- pointer pages stay orderly
  pub move_orderly : AreOrderly size view wanted
      → AreOrderly size (viewed store image new) (either wanted (listed move_wants))
  move_orderly orderly = subst (λ (pages : Pages). AreOrderly size pages all)
      (sym (viewed_same store image freed new moves.ordered.same_pages))
      (λ n who k h. subst (IsOrderly size) (sym (moves.swings.frees.frees.others n
      (data_else size mid all write_step.wants x (write_step.wants.on_data (want_by newest)
      (in_one wanted (listed more) (want_by newest) knows.version) refl) n who k h)))
      (written n who k h))
    where
      written : AreOrderly size mid all
      written = write_orderly store image old given moves.put turned rec moves.at replaces.owner (need_of replaces.bytes)
          replaces.bytes now (Some newest) orders it.settled on_disk wanted knows.write moves.puts.adds.gives have_given
          moves.puts.adds.puts.puts.puts.sets moves.puts.adds.puts.puts.others free replaces.spells moves.swings.turns
          replaces.its.head.slot (inr (newest, refl))
          (push_header orders freed.pages a b was.back moves.pointers added_push) (back_first was.back refl)
          (push_page orders freed.pages a b was.back moves.pointers added_push) (inr slot_first) orderly

pub move_pays : (D L : Type 0) → MovePays D L
move_pays D L store image old new rec v replaces moves orders it on_disk wanted knows have =
    let step = move_step store image old new rec v replaces moves orders it on_disk wanted knows have in
    record {
      mid = step.mid;
      more = listed (move_wants store image old new rec v replaces moves orders it on_disk wanted knows have);
      dropped = version_at replaces.newest.rec.page.0 replaces.newest.rec.slot replaces.newest.tx.0;
      pays = step.pays;
      fresh = step.fresh;
      drops = step.drops;
      own = step.own;
    }
