-- A transaction's own newest version is written over in its cell, or taken out: what its batch pays, and drops.
use Rattle.std.specs.Prelude.{◌≡◌, ◌≢◌, ◌⊎◌, ◌++◌, ℕ, Bool, true, false, List, [], ◌∷◌, Option, None, Some, IsSome, is_some, not, if◌then◌else◌}
use Rattle.std.proofs.Common.{inl, inr, refl, sym, subst, ap, ◌∙◌, arith}
use Rattle.std.proofs.lemmas.Bool.{cases_eq, eq-eqb}
use Rattle.mg_base.specs.CheckLaws.{byte_front}
use Rattle.mg_base.specs.Fields.{byte}
use Rattle.mg_base.specs.Image.{Image}
use Rattle.mg_base.specs.declared.numbers.RecId.{RecId}
use Rattle.mg_base.specs.declared.numbers.TxNo.{TxNo}
use Rattle.mg_careful.specs.Precedence.{Orders}
use Rattle.mg_careful.specs.declared.graph.Order.{Order}
use Rattle.mg_careful.specs.declared.links.Demand.{Demand}
use Rattle.mg_careful.specs.CarefulWrite.{DemandSet, Has, IsIn, either, listed}
use Rattle.mg_chain.specs.Orders.{before_page, out_orders, unchanged_page}
use Rattle.mg_chain.specs.Writing.{PutsAt, Replaces, TakesOut, TurnsBack, leading_to}
use Rattle.mg_demand_laws.specs.Runs.{Lasting, PaysThenDrops}
use Rattle.mg_demand_laws.specs.CellDemands.{BackIsBehind, TurnsSlot, overwrites_pay, turns_pay, want_by}
use Rattle.mg_image.specs.Form.{Pages}
use Rattle.mg_image.specs.Records.{slot_cell}
use Rattle.mg_image.specs.Tables.{Has as HasPage}
use Rattle.mg_pool.specs.Batch.{Changed, content_in, is_in, lists}
use Rattle.mg_pool.specs.declared.batch.BatchPage.{BatchPage}
use Rattle.mg_pool.specs.declared.pool.Pool.{Pool}
use Rattle.mg_slots.specs.Changes.{SetsCell}
use Rattle.mg_slots.specs.DataPage.{cell_of}
use Rattle.mg_slots.specs.declared.page.TheConstants.{DATA_KIND}
use Rattle.mg_heap.specs.Changing.{ChangesOne}
use Rattle.mg_space.specs.Demands.{back_demands, cell_demands, demand, demands_of, is_version_of, link_demand, version_demands, wanted_demands}
use Rattle.mg_space.specs.View.{viewed}
use Rattle.mg_space.specs.declared.links.TheConstants.{HEADER, NEXT, VERSION}
use Rattle.mg_version.specs.declared.cell.Cell.{Cell}
use Rattle.mg_version.specs.declared.cell.Cell.TheVariants as cells
use Rattle.mg_version.specs.declared.cell.Link.{Link}
use Rattle.mg_version.specs.declared.cell.Version.{Version}
use Rattle.mg_demand_laws.specs.FreeLaws.{free_drops, version_is}
use Rattle.mg_demand_laws.specs.KindLaws.{from_want, kind_of}
use Rattle.mg_demand_laws.specs.Met.{has_back, has_either, is_demand, of_listed}
use Rattle.mg_demand_laws.specs.Steps.{version_at}
use Rattle.mg_demand_laws.specs.TakeLaws.{used_same}
use Rattle.mg_demand_laws.specs.Wanting.{Drops, IsWanting, Pays, may_go, want_of}
use Rattle.mg_demand_laws.specs.WantingLaws.{either_cases}
use Rattle.mg_demand_laws.specs.BatchSteps.{PaysStep}
use Rattle.mg_demand_laws.specs.CellTies.{spelled_is}
use Rattle.mg_demand_laws.specs.Lists.{HaveOrders, before_in, have_added, lists_later, lists_sooner, viewed_same}
use Rattle.mg_demand_laws.specs.OrderlyTies.{data_else}
use Rattle.mg_demand_laws.specs.Wants.{AreOrderly, IsDataOf, IsOrderly, IsTaken, data_passes, data_taken}

-- a version is written over in its own cell: it costs nothing
abbrev pub OverPays : (D L : Type 0) → Type 0
OverPays D L = (store : Pool D L) (image : Image) (old new : Changed) (rec : RecId) (v : Version)
    (replaces : Replaces store image old new rec v)
    → PutsAt store image old new replaces.newest.rec replaces.bytes → replaces.was.primary ≡ false
    → (orders : Orders) (settled : ℕ → Bool) (on_disk wanted : DemandSet)
    → IsWanting store.geometry.size (viewed store image old) wanted → IsIn wanted (want_of 0 HEADER 0 0)
    → IsDataOf store.geometry.size wanted replaces.newest.rec.page.0
    → Pays store.geometry.size (viewed store image old) (viewed store image new) orders settled on_disk wanted (listed [])

pub over_pays : (D L : Type 0) → OverPays D L
over_pays D L store image old new rec v replaces puts moved orders settled on_disk wanted was head of =
    overwrites_pay store.geometry.size (viewed store image old) (viewed store image new) replaces.newest.rec.page.0
    replaces.newest.rec.slot replaces.bytes replaces.was (leading_to v replaces.was.back) orders settled on_disk wanted (record {
      sets = record {
        others = puts.puts.others;
        sets = puts.puts.puts.sets;
        data_ = kind_of (viewed store image old replaces.newest.rec.page.0) replaces.newest.rec.page.0 DATA_KIND of.owner of.place
            (data_passes store.geometry.size (viewed store image old) wanted was replaces.newest.rec.page.0 of.owner of.place of.wants.page);
        off_header = taken.off_header;
        off_inventory = taken.off_inventory;
        used = taken.used;
      };
      stood = replaces.its.meets.cell;
      stands = ap Some (spelled_is replaces.bytes (cells.Version (leading_to v replaces.was.back)) replaces.spells);
      same_writer = sym replaces.own;
      same_back = refl;
      moved = (moved, replaces.spells.is_cell.moved);
    }) was
  where
    taken : IsTaken store.geometry.size (viewed store image old) replaces.newest.rec.page.0
    taken = data_taken store.geometry.size (viewed store image old) wanted was replaces.newest.rec.page.0 head of

-- and pointer pages stay orderly
pub over_orderly : {D L : Type 0} (store : Pool D L) (image : Image) (old new : Changed) (rec : RecId) (v : Version)
    (replaces : Replaces store image old new rec v) → PutsAt store image old new replaces.newest.rec replaces.bytes
    → (wanted : DemandSet) → IsWanting store.geometry.size (viewed store image old) wanted
    → IsDataOf store.geometry.size wanted replaces.newest.rec.page.0
    → AreOrderly store.geometry.size (viewed store image old) wanted
    → AreOrderly store.geometry.size (viewed store image new) wanted
over_orderly store image old new rec v replaces puts wanted was of orderly n who k h =
    subst (IsOrderly store.geometry.size) (sym (puts.puts.others n (data_else store.geometry.size (viewed store image old)
    wanted was replaces.newest.rec.page.0 (kind_of (viewed store image old replaces.newest.rec.page.0)
    replaces.newest.rec.page.0 DATA_KIND of.owner of.place (data_passes store.geometry.size (viewed store image old) wanted
    was replaces.newest.rec.page.0 of.owner of.place of.wants.page)) n who k h))) (orderly n who k h)

-- ---- taken out

-- What is known where a version is taken out: it is wanted, and so are its page and its record's; its
-- transaction is not settled, and that of the version behind is; and with the slot turned, nothing that is
-- wanted leads to it.
pub record KnowsOut {D L : Type 0} (store : Pool D L) (image : Image) (old new : Changed) (rec : RecId)
    (takes : TakesOut store image old new rec) (settled : ℕ → Bool) (on_disk wanted : DemandSet) : Type 0 where
  pub wants : IsWanting store.geometry.size (viewed store image old) wanted
  pub header : IsIn wanted (want_of 0 HEADER 0 0)
  pub record_ : IsDataOf store.geometry.size wanted rec.page.0
  pub page : IsDataOf store.geometry.size wanted takes.newest.rec.page.0
  pub version : IsIn wanted (want_by takes.newest)
  pub moved : takes.was.primary ≡ false
  pub unsettled : settled takes.newest.tx.0 ≡ false
  pub behind : (link : Link) → takes.was.back ≡ Some link → settled link.tx.0 ≡ true
  pub lasting : (d : Demand) → IsIn wanted d → d.what ≡ VERSION → settled d.b ≡ true → IsIn on_disk d
  pub unled : (d : Demand) → IsIn wanted d
      → Has (demands_of (viewed store image takes.taken.swings.turned d.target) d) (want_by takes.newest) → ⊥

-- the law: the slot's page is ordered before the freed cell's
abbrev pub OutPays : (D L : Type 0) → Type 0
OutPays D L = (store : Pool D L) (image : Image) (old new : Changed) (rec : RecId)
    (takes : TakesOut store image old new rec) (orders : Orders) (it : Lasting) (on_disk wanted : DemandSet)
    → KnowsOut store image old new rec takes it.settled on_disk wanted → HaveOrders orders new
    → PaysThenDrops store.geometry.size (viewed store image old) (viewed store image new) (content_in new.pages)
    orders it on_disk wanted

pub some_cell : (o : Option (List ℕ)) (c : Cell) → slot_cell o ≡ Some c → IsSome o
some_cell None c is = absurd cc
some_cell (Some bytes) c is = refl

module _ {D L : Type 0} (store : Pool D L) (image : Image) (old new : Changed) (rec : RecId) (takes : TakesOut store image old new rec) (orders : Orders) (it : Lasting) (on_disk wanted : DemandSet) (knows : KnowsOut store image old new rec takes it.settled on_disk wanted) (have : HaveOrders orders new) where
  abbrev size : ℕ
  size = store.geometry.size

  abbrev view : Pages
  view = viewed store image old

  abbrev turned : Changed
  turned = takes.taken.swings.turned

  abbrev mid : Pages
  mid = viewed store image turned

  abbrev freed : Changed
  freed = takes.taken.freed

  abbrev last : Pages
  last = viewed store image freed

  abbrev newest : Link
  newest = takes.newest

  abbrev x : ℕ
  x = newest.rec.page.0

  abbrev b : ℕ
  b = rec.page.0

  rec_taken : IsTaken size view b
  rec_taken = data_taken size view wanted knows.wants b knows.header knows.record_

  x_taken : IsTaken size view x
  x_taken = data_taken size view wanted knows.wants x knows.header knows.page

  kind_at : (n : ℕ) → IsDataOf size wanted n → byte (view n) 0 ≡ DATA_KIND
  kind_at n of = kind_of (view n) n DATA_KIND of.owner of.place
      (data_passes size view wanted knows.wants n of.owner of.place of.wants.page)

  -- the slot is turned to the version behind, or cleared
  abbrev Turned : Option Link → Type 0
  Turned to = (cell : Option (List ℕ)) × TurnsSlot size view mid b rec.slot cell (Some newest) to

  turn : (to : Option Link) → TurnsBack store image old turned rec to → Turned to
  turn None frees = (
    None,
    record {
      sets = record {
        others = frees.frees.others;
        sets = (frees.frees.used (some_cell (cell_of (view b) rec.slot) (cells.Anchor newest) takes.its.head.slot)).sets;
        data_ = kind_at b knows.record_;
        off_header = rec_taken.off_header;
        off_inventory = rec_taken.off_inventory;
        used = rec_taken.used;
      };
      led = takes.its.head.slot;
      leads = refl;
    },
  )
  turn (Some link) turns = (
    Some turns.bytes,
    record {
      sets = record {
        others = turns.puts.puts.others;
        sets = turns.puts.puts.puts.sets;
        data_ = kind_at b knows.record_;
        off_header = rec_taken.off_header;
        off_inventory = rec_taken.off_inventory;
        used = rec_taken.used;
      };
      led = takes.its.head.slot;
      leads = ap Some (spelled_is turns.bytes (cells.Anchor link) turns.spells);
    },
  )

  turn_is : Turned takes.was.back
  turn_is = turn takes.was.back takes.taken.swings.turns

  -- ---- the orders

  abbrev os : List Order
  os = out_orders freed.pages b takes.was.back takes.taken.slot_pointers x

  added : (a c : ℕ) → lists os a c ≡ true → orders a c ≡ true
  added = have_added orders freed new os takes.taken.ordered have

  abbrev first_part : List Order
  first_part = before_page (unchanged_page freed.pages takes.was.back) b ++ before_page takes.taken.slot_pointers b

  slot_first : (x ≡ b) ⊎ (orders b x ≡ true)
  slot_first = elim (before_in (b ∷ []) b x (inl refl)) [
    | inl same ↦ inl (sym same)
    | inr order ↦ inr (added b x (lists_later first_part (before_page (b ∷ []) x) b x order))
  ]

  -- the version behind is wanted, and on the disk where no order is
  back_wanted : (link : Link) → takes.was.back ≡ Some link → (e : Demand) → Has (link_demand link) e → IsIn wanted e
  back_wanted link is e h = knows.wants.keeps.in_turn (want_by newest) e knows.version
      (from_want size view wanted knows.wants (view x) (knows.wants.whole x) (want_by newest) (want_by newest) e refl
      (subst (λ (c : Option Cell). Has (wanted_demands c) e) (sym takes.its.meets.cell)
      (has_back (demand 0 NEXT takes.was.tx.0 0) (back_demands takes.was.back) e
      (subst (λ (o : Option Link). Has (back_demands o) e) (sym is) h))))

  back_first : (link : Link) → takes.was.back ≡ Some link → (e : Demand) → Has (link_demand link) e
      → (e.target ≡ b) ⊎ ((orders e.target b ≡ true) ⊎ IsIn on_disk e)
  back_first link is e h = at (is_in freed.pages link.rec.page.0) refl
    where
      one : e ≡ want_by link
      one = is_demand link.rec.page.0 VERSION link.rec.slot link.tx.0 e h

      at : (c : Bool) → is_in freed.pages link.rec.page.0 ≡ c
          → (e.target ≡ b) ⊎ ((orders e.target b ≡ true) ⊎ IsIn on_disk e)
      at true there = inr (inr (knows.lasting e (back_wanted link is e h) (ap (λ (y : Demand). y.what) one)
          (subst (λ (y : Demand). it.settled y.b ≡ true) (sym one) (knows.behind link is))))
      at false out =
          let same : unchanged_page freed.pages takes.was.back ≡ link.rec.page.0 ∷ [] =
          ap (unchanged_page freed.pages) is ∙ ap (λ (c : Bool). if c then [] else link.rec.page.0 ∷ []) out in
          elim (before_in (unchanged_page freed.pages takes.was.back) link.rec.page.0 b
          (subst (λ (ns : List ℕ). HasPage ns link.rec.page.0) (sym same) (inl refl))) [
            | inl on ↦ inl (ap (λ (y : Demand). y.target) one ∙ on)
            | inr order ↦ inr (inl (subst (λ (y : Demand). orders y.target b ≡ true) (sym one)
                (added link.rec.page.0 b (lists_sooner first_part (before_page (b ∷ []) x) link.rec.page.0 b
                (lists_sooner (before_page (unchanged_page freed.pages takes.was.back) b)
                (before_page takes.taken.slot_pointers b) link.rec.page.0 b order)))))
          ]

  behind_it : (o : Option Link) → takes.was.back ≡ o → BackIsBehind orders on_disk wanted b o
  behind_it None is = tt
  behind_it (Some link) is = λ e h. record {
    is_wanted = back_wanted link is e h;
    is_first = back_first link is e h;
  }

  turn_step : Pays size view mid orders it.settled on_disk wanted (listed [])
  turn_step = turns_pay size view mid b rec.slot turn_is.0 (Some newest) takes.was.back orders it.settled on_disk wanted
      turn_is.1 knows.wants (behind_it takes.was.back refl) (inr slot_first)

  -- ---- the freed cell

  apart : x ≡ b → newest.rec.slot ≢ rec.slot
  apart on same =
      let anchor : slot_cell (cell_of (view x) newest.rec.slot) ≡ Some (cells.Anchor newest) =
      ap (λ (n : ℕ). slot_cell (cell_of (view n) newest.rec.slot)) on
      ∙ (ap (λ (s : ℕ). slot_cell (cell_of (view b) s)) same ∙ takes.its.head.slot) in
      let both : Some (cells.Anchor newest) ≡ Some (cells.Version takes.was) = sym anchor ∙ takes.its.meets.cell in
      absurd cc

  still : slot_cell (cell_of (mid x) newest.rec.slot) ≡ Some (cells.Version takes.was)
  still = elim (cases_eq x b) [
    | inl on ↦ ap slot_cell (ap (λ (n : ℕ). cell_of (mid n) newest.rec.slot) on
        ∙ (turn_is.1.sets.sets.others newest.rec.slot (apart on)
        ∙ ap (λ (n : ℕ). cell_of (view n) newest.rec.slot) (sym on))) ∙ takes.its.meets.cell
    | inr off ↦ ap (λ (page : List ℕ). slot_cell (cell_of page newest.rec.slot)) (turn_is.1.sets.others x off)
        ∙ takes.its.meets.cell
  ]

  mid_kind : byte (mid x) 0 ≡ DATA_KIND
  mid_kind = elim (cases_eq x b) [
    | inl on ↦ ap (λ (n : ℕ). byte (mid n) 0) on
        ∙ (byte_front (mid b) (view b) 16 0 turn_is.1.sets.sets.common (omega arith) ∙ kind_at b knows.record_)
    | inr off ↦ ap (λ (page : List ℕ). byte page 0) (turn_is.1.sets.others x off) ∙ kind_at x knows.page
  ]

  frees_cell : SetsCell (mid x) (last x) newest.rec.slot None
  frees_cell = (takes.taken.swings.frees.frees.used
      (some_cell (cell_of (mid x) newest.rec.slot) (cells.Version takes.was) still)).sets

  behind_free : (e : Demand) → Has (wanted_demands (slot_cell (cell_of (mid x) newest.rec.slot))) e
      → may_go it.settled e ≡ false
  behind_free e h = elim (has_either (demand 0 NEXT takes.was.tx.0 0) (back_demands takes.was.back) e
      (subst (λ (c : Option Cell). Has (wanted_demands c) e) still h)) [
        | inl number ↦ ap (may_go it.settled) (is_demand 0 NEXT takes.was.tx.0 0 e number)
        | inr back ↦ of_back takes.was.back refl back
      ]
    where
      of_back : (o : Option Link) → takes.was.back ≡ o → Has (back_demands o) e → may_go it.settled e ≡ false
      of_back None is h = absurd h
      of_back (Some link) is h =
          let one : e ≡ want_by link = is_demand link.rec.page.0 VERSION link.rec.slot link.tx.0 e h in
          ap (may_go it.settled) one ∙ ap (λ (c : Bool). not c) (knows.behind link is)

  of_wanted : (d : Demand) → IsIn (either wanted (listed [])) d → IsIn wanted d
  of_wanted d h = elim (either_cases wanted (listed []) d h) [
    | inl y ↦ y
    | inr none ↦ absurd (of_listed [] d none)
  ]

  free_step : Drops size mid last orders it.settled (either wanted (listed [])) (version_at x newest.rec.slot newest.tx.0)
  free_step = free_drops size mid last x newest.rec.slot newest.tx.0 orders it.settled (either wanted (listed [])) (record {
    sets = record {
      others = takes.taken.swings.frees.frees.others;
      sets = frees_cell;
      data_ = mid_kind;
      off_header = x_taken.off_header;
      off_inventory = x_taken.off_inventory;
      used = used_same size view mid b turn_is.1.sets.others rec_taken.off_inventory x ∙ x_taken.used;
    };
    stood = subst (λ (c : Option Cell). is_version_of newest.tx.0 c ≡ true) (sym still)
        (eq-eqb takes.was.tx.0 newest.tx.0 (ap (λ (u : TxNo). u.0) takes.its.meets.by));
    moved = λ e h. let there = subst (λ (c : Option Cell). Has (cell_demands c) e) still h in
        subst (λ (c : Bool). Has (if c then version_demands takes.was else []) e) knows.moved there;
    unsettled = knows.unsettled;
    behind = behind_free;
    unled = λ d h made. knows.unled d (of_wanted d h) made;
  }) turn_step.wants

  in_batch : (d : Demand) → version_at x newest.rec.slot newest.tx.0 d ≡ true → is_some (content_in new.pages d.target) ≡ true
  in_batch d is = subst (λ (n : ℕ). is_some (content_in new.pages n) ≡ true)
      (sym (ap (λ (y : Demand). y.target) (version_is x newest.rec.slot newest.tx.0 d is)))
      (subst (λ (pages : List BatchPage). is_some (content_in pages x) ≡ true) (sym takes.taken.ordered.same_pages)
      (at takes.taken.swings.frees.at_most))
    where
      at : (freed ≡ turned) ⊎ ChangesOne size turned freed x → is_some (content_in freed.pages x) ≡ true
      at (inr one) = ap is_some one.puts.here
      at (inl same) =
          let none : slot_cell (cell_of (mid x) newest.rec.slot) ≡ None =
          ap (λ (c : Changed). slot_cell (cell_of (viewed store image c x) newest.rec.slot)) (sym same)
          ∙ ap slot_cell frees_cell.here in
          let both : Some (cells.Version takes.was) ≡ None = sym still ∙ none in absurd cc

  -- as one step of a batch, of which nothing is newly wanted
  pub out_step : PaysStep size view (viewed store image new) (content_in new.pages) orders it on_disk wanted (listed [])
      (version_at newest.rec.page.0 newest.rec.slot newest.tx.0)
  out_step = subst (λ (pages : Pages). PaysStep size view pages (content_in new.pages) orders it on_disk wanted (listed [])
      (version_at x newest.rec.slot newest.tx.0))
      (sym (viewed_same store image freed new takes.taken.ordered.same_pages)) (record {
        mid = mid;
        pays = turn_step;
        fresh = λ d h is. absurd (of_listed [] d h);
        drops = free_step;
        own = in_batch;
      })

  -- pointer pages stay orderly: two data pages alone change
  pub out_orderly : AreOrderly size view wanted → AreOrderly size (viewed store image new) wanted
  out_orderly orderly = subst (λ (pages : Pages). AreOrderly size pages wanted)
      (sym (viewed_same store image freed new takes.taken.ordered.same_pages))
      (λ n who k h. subst (IsOrderly size) (sym (takes.taken.swings.frees.frees.others n
      (data_else size view wanted knows.wants x (kind_at x knows.page) n who k h)
      ∙ turn_is.1.sets.others n (data_else size view wanted knows.wants b (kind_at b knows.record_) n who k h)))
      (orderly n who k h))

pub out_pays : (D L : Type 0) → OutPays D L
out_pays D L store image old new rec takes orders it on_disk wanted knows have =
    let step = out_step store image old new rec takes orders it on_disk wanted knows have in
    record {
      mid = step.mid;
      more = listed [];
      dropped = version_at takes.newest.rec.page.0 takes.newest.rec.slot takes.newest.tx.0;
      pays = step.pays;
      fresh = step.fresh;
      drops = step.drops;
      own = step.own;
    }
