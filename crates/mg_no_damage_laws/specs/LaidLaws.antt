-- The batches of the calls that write versions are lawful, over a sound image.
use Rattle.std.proofs.Common.{◌≡◌, ◌≢◌, ◌⊎◌, inl, inr, ◌∙◌, ◌≤◌, ◌+◌, ◌-◌, ◌++◌, ◌∷◌, [], ℕ, Bool, true, false, List, Option, None, Some, refl, sym, ap, subst, arith, cond, is_some, suc}
use Rattle.std.specs.Prelude.{nat_lt, if◌then◌else◌}
use Rattle.std.proofs.lemmas.Bool.{cases_eq}
use Rattle.mg_base.specs.Disk.{Meaning}
use Rattle.mg_base.specs.Fields.{byte}
use Rattle.mg_base.specs.Image.{Image}
use Rattle.mg_base.specs.declared.numbers.PageNo.{PageNo}
use Rattle.mg_base.specs.declared.numbers.RecId.{RecId}
use Rattle.mg_base.specs.declared.numbers.TxNo.{TxNo}
use Rattle.mg_base.specs.declared.transaction.TxState.{TxState}
use Rattle.mg_chain.specs.Orders.{first_orders, push_orders}
use Rattle.mg_chain.specs.Writing.{FreesAt, GivesSpot, HasHead, HasNewest, MakesRecord, Moves, OverwritesOrMoves, Pushes, PushesCell, Replaces, SlotIsReached, TakesCellOut, TakesOut, TurnsBack, TurnsTo, leading_to, link_to}
use Rattle.mg_tie_laws.specs.Newest.{newest_placed}
use Rattle.mg_heap.specs.Changing.{ChangesOne, FreesCellAt, MayHave, PutsCellAt}
use Rattle.mg_heap.specs.Growth.{AddsOrders}
use Rattle.mg_heap.specs.Reach.{IsReached}
use Rattle.mg_heap.specs.Room.{AddsCell, GivesRoom}
use Rattle.mg_heap.specs.Table.{IsPointerAt}
use Rattle.mg_image.specs.Form.{Pages, packed_form}
use Rattle.mg_image.specs.Records.{Reading, cells_of, slot_cell}
use Rattle.mg_image.specs.Sound.{IsSoundBy}
use Rattle.mg_image.specs.Tables.{EachFrom, Has, Layout, stands_of, table_at}
use Rattle.mg_image_overlay_laws.specs.pages.DataPages.{kind_of}
use Rattle.mg_model.specs.declared.table.Table.{Table}
use Rattle.mg_no_damage_laws.specs.Sees.{no_batch}
use Rattle.mg_pointer.specs.PointerPage.{pointer_checks}
use Rattle.mg_pool.specs.Batch.{Changed, IsLawful, is_in}
use Rattle.mg_pool.specs.declared.pool.Pool.{Pool}
use Rattle.mg_slots.specs.DataPage.{cell_of, slot_count, taken_by}
use Rattle.mg_slots.specs.Room.{least_free, need_of, rest_of, room_of}
use Rattle.mg_space.specs.Taking.{IsGeometry}
use Rattle.mg_space.specs.View.{Tells, viewed}
use Rattle.mg_space.specs.declared.links.FireLinks.{FireLinks}
use Rattle.mg_image_overlay_laws.specs.tables.Growing.{IsTableOf}
use Rattle.mg_image_overlay_laws.specs.tables.OneTable.{its_data}
use Rattle.mg_version.specs.Cells.{IsSpelling}
use Rattle.mg_version.specs.declared.cell.Cell.{Cell}
use Rattle.mg_version.specs.declared.cell.Cell.TheVariants as cells
use Rattle.mg_version.specs.declared.cell.Link.{Link}
use Rattle.mg_version.specs.declared.cell.Version.{Version}
use Rattle.mg_no_damage_laws.specs.Writes.{IsRecordOf}
use Rattle.mg_no_damage_laws.specs.BatchOrders.{IsBatch, first_lawful, moved_lawful, out_lawful, pushed_lawful}
use Rattle.mg_no_damage_laws.specs.Given.{IsApart, IsGiven, data_apart, data_kind, data_some, found_or_new, header_apart, is_given}
use Rattle.mg_no_damage_laws.specs.Lawful.{IsGood, good_lawful, good_more, good_none, good_puts, in_here, in_still}
use Rattle.mg_no_damage_laws.specs.PushLaws.{its_owner}
use Rattle.mg_no_damage_laws.specs.RankLaws.{rank_of}
use Rattle.mg_no_damage_laws.specs.Reading.{Reads}
use Rattle.mg_no_damage_laws.specs.RoomLaws.{given_listed, other_cell, put_stands, still_listed, then_, to}
use Rattle.mg_no_damage_laws.specs.WriteStanding.{cells_there}

-- ---- kinds of pages

-- the pointer pages by which a page is reached are such pages by their kind
pointer_kind : (pages : Pages) (owner at n : ℕ) → IsPointerAt pages owner at n → byte (pages n) 0 ≡ 4
unfolding pointer_checks
pointer_kind pages owner at n passes = kind_of (pages n) n 4 owner at _ passes

each_kind : (pages : Pages) (owner at : ℕ) (ns : List ℕ) → EachFrom (IsPointerAt pages owner) at ns → (x : ℕ)
    → Has ns x → byte (pages x) 0 ≡ 4
each_kind pages owner at [] each x there = absurd there
each_kind pages owner at (n ∷ ns) each x (inl same) =
    ap (λ (k : ℕ). byte (pages k) 0) same ∙ pointer_kind pages owner at n each.0
each_kind pages owner at (n ∷ ns) each x (inr more) = each_kind pages owner (suc at) ns each.1 x more

has_parts : (front : List ℕ) (last x : ℕ) → Has (front ++ last ∷ []) x → Has front x ⊎ (x ≡ last)
has_parts [] last x (inl same) = inr same
has_parts [] last x (inr none) = absurd none
has_parts (n ∷ ns) last x (inl same) = inl (inl same)
has_parts (n ∷ ns) last x (inr more) = elim (has_parts ns last x more) [ inl there ↦ inl (inr there) | inr same ↦ inr same ]

pub reached_kind : (pages : Pages) (owner n : ℕ) (pointers : List ℕ) → IsReached pages owner n pointers → (x : ℕ)
    → Has pointers x → byte (pages x) 0 ≡ 4
reached_kind pages owner n pointers it x there = elim (has_parts it.before it.last x
    (subst (λ (ns : List ℕ). Has ns x) it.are there)) [
      | inl front ↦ each_kind pages owner 0 it.before it.leads.tested x front
      | inr same ↦ ap (λ (k : ℕ). byte (pages k) 0) same ∙ pointer_kind pages owner _ it.last it.tested
    ]

-- so no data page is one of them
off_data : (pages : Pages) (owner n : ℕ) (pointers : List ℕ) (f : ℕ) → IsReached pages owner n pointers
    → byte (pages f) 0 ≡ 5 → (x : ℕ) → Has pointers x → x ≢ f
off_data pages owner n pointers f it five x there same =
    let four = reached_kind pages owner n pointers it x there in
    let also : byte (pages x) 0 ≡ 5 = ap (λ (k : ℕ). byte (pages k) 0) same ∙ five in omega (arith, four, also)

off_slot : (pages : Pages) (owner n f : ℕ) (back : Option Link) (pointers : List ℕ)
    → SlotIsReached pages owner n back pointers → byte (pages f) 0 ≡ 5 → (x : ℕ) → Has pointers x → x ≢ f
off_slot pages owner n f None pointers it five x there = off_data pages owner n pointers f it five x there
off_slot pages owner n f (Some link) pointers none five x there =
    absurd (subst (λ (ns : List ℕ). Has ns x) none there)

-- ---- cells

some_cell : (bytes : Option (List ℕ)) (cell : Cell) → slot_cell bytes ≡ Some cell → is_some bytes ≡ true
some_cell None cell is = absurd cc
some_cell (Some b) cell is = refl

-- a slot that has a cell has one after another cell was put
put_keeps : (old new : Pages) (at : RecId) (bytes : List ℕ) → PutsCellAt old new at bytes → (x : RecId)
    → is_some (cell_of (old x.page.0) x.slot) ≡ true → is_some (cell_of (new x.page.0) x.slot) ≡ true
put_keeps old new at bytes puts x some = by (cases_eq x.page.0 at.page.0) (cases_eq x.slot at.slot)
  where
    by : (x.page.0 ≡ at.page.0) ⊎ (x.page.0 ≢ at.page.0) → (x.slot ≡ at.slot) ⊎ (x.slot ≢ at.slot)
        → is_some (cell_of (new x.page.0) x.slot) ≡ true
    by (inr other) slot = ap (λ (b : List ℕ). is_some (cell_of b x.slot)) (puts.others x.page.0 other) ∙ some
    by (inl same) (inl also) = ap (λ (k : ℕ). is_some (cell_of (new k) x.slot)) same
        ∙ (ap (λ (s : ℕ). is_some (cell_of (new at.page.0) s)) also
        ∙ ap (λ (c : Option (List ℕ)). is_some c) puts.puts.sets.here)
    by (inl same) (inr other) = ap (λ (k : ℕ). is_some (cell_of (new k) x.slot)) same
        ∙ (ap (λ (c : Option (List ℕ)). is_some c) (puts.puts.sets.others x.slot other)
        ∙ (ap (λ (k : ℕ). is_some (cell_of (old k) x.slot)) (sym same) ∙ some))

-- where a slot had a cell that is freed, its page is in the batch
module _ {D L : Type 0} (store : Pool D L) (image : Image) (old new : Changed) (at : RecId)
    (frees : FreesAt store image old new at)
    (some : is_some (cell_of (viewed store image old at.page.0) at.slot) ≡ true) where
  freed_one : ChangesOne store.geometry.size old new at.page.0
  freed_one = by frees.at_most
    where
      by : (new ≡ old) ⊎ ChangesOne store.geometry.size old new at.page.0
          → ChangesOne store.geometry.size old new at.page.0
      by (inr one) = one
      by (inl same) =
          let none : is_some (cell_of (viewed store image new at.page.0) at.slot) ≡ false =
          ap (λ (c : Option (List ℕ)). is_some c) (frees.frees.used some).sets.here in
          let also : is_some (cell_of (viewed store image new at.page.0) at.slot) ≡ true =
          ap (λ (b : Changed). is_some (cell_of (viewed store image b at.page.0) at.slot)) same ∙ some in absurd cc

-- another slot keeps its cell
free_keeps : (old new : Pages) (at x : RecId) → FreesCellAt old new at
    → is_some (cell_of (old at.page.0) at.slot) ≡ true → (x.page.0 ≡ at.page.0 → x.slot ≢ at.slot)
    → is_some (cell_of (old x.page.0) x.slot) ≡ true → is_some (cell_of (new x.page.0) x.slot) ≡ true
free_keeps old new at x frees there apart some = by (cases_eq x.page.0 at.page.0)
  where
    by : (x.page.0 ≡ at.page.0) ⊎ (x.page.0 ≢ at.page.0) → is_some (cell_of (new x.page.0) x.slot) ≡ true
    by (inr other) = ap (λ (b : List ℕ). is_some (cell_of b x.slot)) (frees.others x.page.0 other) ∙ some
    by (inl same) = ap (λ (k : ℕ). is_some (cell_of (new k) x.slot)) same
        ∙ (ap (λ (c : Option (List ℕ)). is_some c) ((frees.used there).sets.others x.slot (apart same))
        ∙ (ap (λ (k : ℕ). is_some (cell_of (old k) x.slot)) (sym same) ∙ some))

-- where a cell has room as a new one it has room in place of another one
room_in_place : (b : List ℕ) (slot : ℕ) (bytes : List ℕ) → is_some (cell_of b slot) ≡ true
    → need_of bytes ≤ room_of b → MayHave b slot bytes
room_in_place b slot bytes some room = by (cell_of b slot) refl
  where
    less : (inside : Bool) → (if inside then rest_of b else rest_of b - 4) ≤ rest_of b
    less true = omega arith
    less false = omega arith

    rest : room_of b ≤ rest_of b
    rest = less (nat_lt (least_free b) (slot_count b))

    by : (cell : Option (List ℕ)) → cell_of b slot ≡ cell → MayHave b slot bytes
    by None none = let no : is_some (cell_of b slot) ≡ false = ap is_some none in absurd cc
    by (Some held) is = record {
      slot_is = λ none. absurd (let no : Some held ≡ None = sym is ∙ none in cc);
      fits = subst (λ (c : Option (List ℕ)). need_of bytes ≤ cond (is_some c) (rest_of b + taken_by c) (room_of b))
          (sym is) (let most = rest in omega (arith, room, most));
    }

module _ {D : Type 0} (m : Meaning D) (laws : Reads m) (a : Pool D FireLinks) (image : Image)
    (tells : Tells m a.disk image) (geometry : IsGeometry a.geometry) (state : ℕ → TxState) (layout : Layout)
    (r : Reading) (sound : IsSoundBy packed_form a.geometry.size state (viewed a image no_batch) layout r)
    (table : Table) (its : IsTableOf layout table) where
  abbrev size : ℕ
  size = a.geometry.size

  abbrev view : Changed → Pages
  view b = viewed a image b

  pub listed : (k : ℕ) → table_at (stands_of layout) k ≡ Some table → Has its.stand.data_pages k
  listed k of = (its_data packed_form size state (view no_batch) layout r sound table its k).0 of

  page_apart : (k : ℕ) → table_at (stands_of layout) k ≡ Some table → IsApart size (view no_batch) k
  page_apart k of = data_apart size state (view no_batch) layout r sound table its k (listed k of)

  page_some : (k : ℕ) → table_at (stands_of layout) k ≡ Some table → k ≢ 0
  page_some k of = data_some size state (view no_batch) layout r sound table its k (listed k of)

  -- ---- a page was given, and a cell put on it

  module _ (given : Changed) (need : ℕ) (page : PageNo)
      (gives : GivesRoom a image no_batch given table.pointer.0 need page) (f s : ℕ)
      (f_apart : IsApart size (view no_batch) f) (s_apart : IsApart size (view no_batch) s) where
    given_is : IsGiven size f s page.0 given
    given_is = subst (λ (k : PageNo). IsGiven size f s k.0 given) gives.page_is
        (is_given m a image geometry state layout r sound table its f s f_apart s_apart given need page gives)

    given_some : page.0 ≢ 0
    given_some = data_some size state (view given)
        (to m laws a a image refl tells geometry no_batch state layout r sound table its given need page gives).layout r
        (to m laws a a image refl tells geometry no_batch state layout r sound table its given need page gives).sound
        table (then_ m laws a a image refl tells geometry no_batch state layout r sound table its given need page gives)
        page.0
        (given_listed m laws a a image refl tells geometry no_batch state layout r sound table its given need page gives)

    -- A cell is put there; then a slot is turned, and a cell freed, or only the one.
    module _ (put last : Changed) (one : ChangesOne size given put page.0)
        (goes : IsGood size (rank_of f s given_is.q given_is.p page.0) 6 put
        → IsGood size (rank_of f s given_is.q given_is.p page.0) 8 last)
        (still : (y : ℕ) → is_in put.pages y ≡ true → is_in last.pages y ≡ true)
        (f_in : is_in last.pages f ≡ true) (s_in : is_in last.pages s ≡ true) (f_some : f ≢ 0) (s_some : s ≢ 0) where
      last_batch : IsBatch size f s page.0 last
      last_batch = record {
        q = given_is.q;
        p = given_is.p;
        good = goes (good_puts given put page.0 one.bytes one.puts size
            (rank_of f s given_is.q given_is.p page.0) 5 given_is.good one.len);
        f_in = f_in;
        s_in = s_in;
        q_in = in_last given_is.q given_is.q_in;
        p_in = in_last given_is.p given_is.p_in;
        a_in = page_in;
        f_some = f_some;
        s_some = s_some;
        q_some = some given_is.q given_is.q_in;
        p_some = some given_is.p given_is.p_in;
        a_some = given_some;
      }
        where
          page_in : is_in last.pages page.0 ≡ true
          page_in = still page.0 (in_here given put page.0 one.bytes one.puts)

          in_last : (k : ℕ) → (k ≡ page.0) ⊎ ((is_in given.pages k ≡ true) × (k ≢ 0)) → is_in last.pages k ≡ true
          in_last k (inl same) = ap (is_in last.pages) same ∙ page_in
          in_last k (inr there) = still k (in_still given put page.0 one.bytes one.puts k there.0)

          some : (k : ℕ) → (k ≡ page.0) ⊎ ((is_in given.pages k ≡ true) × (k ≢ 0)) → k ≢ 0
          some k (inl same) = λ e. given_some (sym same ∙ e)
          some k (inr there) = there.1

  -- ---- a page is given, or a place taken

  pub room_lawful : (batch : Changed) (need : ℕ) (page : PageNo)
      → GivesRoom a image no_batch batch table.pointer.0 need page → IsLawful size batch.pages batch.orders
  room_lawful batch need page gives = good_lawful size (rank_of 0 0 it.q it.p page.0) 5 batch it.good (omega arith)
    where
      it : IsGiven size 0 0 page.0 batch
      it = given_is batch need page gives 0 0 (header_apart size state (view no_batch) layout r sound)
          (header_apart size state (view no_batch) layout r sound)

  pub spot_lawful : (batch : Changed) (at : RecId) → GivesSpot a image no_batch batch table.pointer.0 at
      → IsLawful size batch.pages batch.orders
  spot_lawful batch at spot = room_lawful batch _ at.page spot.gives

  -- ---- a slot is turned after a cell was put

  module _ (rec : RecId) (of : table_at (stands_of layout) rec.page.0 ≡ Some table) (given : Changed) (need : ℕ)
      (page : PageNo) (gives : GivesRoom a image no_batch given table.pointer.0 need page) (put : Changed)
      (one : ChangesOne size given put page.0) (turned : Changed) (link : Link)
      (turns : TurnsTo a image put turned rec link) where
    turned_batch : IsBatch size rec.page.0 rec.page.0 page.0 turned
    turned_batch = last_batch given need page gives rec.page.0 rec.page.0 (page_apart rec.page.0 of)
        (page_apart rec.page.0 of) put turned one goes
        (λ y there. in_still put turned rec.page.0 turns.puts.one.bytes turns.puts.one.puts y there)
        slot_in slot_in (page_some rec.page.0 of) (page_some rec.page.0 of)
      where
        slot_in : is_in turned.pages rec.page.0 ≡ true
        slot_in = in_here put turned rec.page.0 turns.puts.one.bytes turns.puts.one.puts

        goes : {rank : ℕ → ℕ} → IsGood size rank 6 put → IsGood size rank 8 turned
        goes {rank} good = good_more size rank 7 8 turned (good_puts put turned rec.page.0 turns.puts.one.bytes
            turns.puts.one.puts size rank 6 good turns.puts.one.len) (omega arith)

    pub turned_push : (new : Changed) (back : Option Link) (pointers : List ℕ)
        → AddsOrders turned new (push_orders turned.pages page.0 rec.page.0 back pointers)
        → IsLawful size new.pages new.orders
    turned_push new back pointers adds = pushed_lawful size rec.page.0 rec.page.0 page.0 turned turned_batch new back
        pointers (λ off. off) (λ x there off. off) adds

    pub turned_first : (new : Changed) (pointers slot_pointers : List ℕ)
        → AddsOrders turned new (first_orders turned.pages page.0 rec.page.0 pointers slot_pointers)
        → IsLawful size new.pages new.orders
    turned_first new pointers slot_pointers adds = first_lawful size rec.page.0 rec.page.0 page.0 turned turned_batch
        new pointers slot_pointers (λ off. off) (λ x there off. off) (λ x there off. off) adds

  -- ---- a record is made

  pub record_lawful : (batch : Changed) (rec : RecId) (v : Version)
      → table_at (stands_of layout) rec.page.0 ≡ Some table
      → MakesRecord a image no_batch batch table.pointer.0 rec v → IsLawful size batch.pages batch.orders
  record_lawful batch rec v of it = turned_first rec of it.makes.adds.given _ it.makes.at.page it.makes.adds.gives
      it.makes.put it.makes.adds.one it.makes.turned (link_to it.makes.at v.tx) it.makes.turns batch it.makes.pointers
      it.makes.slot_pointers it.makes.ordered

  -- ---- a version is pushed

  module _ (rec : RecId) (its_record : IsRecordOf layout r rec table) where
    owner_is : (newest : Link) (owner : ℕ) → HasHead (view no_batch) rec newest owner → owner ≡ table.pointer.0
    owner_is newest owner head = its_owner m laws image state layout r a a refl tells sound rec table its_record newest
        owner head

    pub push_lawful : (batch : Changed) (v : Version) → Pushes a image no_batch batch rec v
        → IsLawful size batch.pages batch.orders
    push_lawful batch v it = by (subst (λ (k : ℕ). PushesCell a image no_batch batch rec it.newest k it.bytes v.tx)
        (owner_is it.newest it.owner it.head) it.pushes)
      where
        by : PushesCell a image no_batch batch rec it.newest table.pointer.0 it.bytes v.tx
            → IsLawful size batch.pages batch.orders
        by pushes = turned_push rec its_record.of pushes.puts.adds.given _ pushes.at.page pushes.puts.adds.gives
            pushes.put pushes.puts.adds.one pushes.turned (link_to pushes.at v.tx) pushes.turns batch (Some it.newest)
            pushes.pointers pushes.ordered

    -- ---- the newest version

    module _ (newest : Link) (owner : ℕ) (was : Version) (has : HasNewest (view no_batch) rec newest owner was) where
      abbrev left : RecId
      left = newest.rec

      left_of : table_at (stands_of layout) left.page.0 ≡ Some table
      left_of = newest_placed packed_form size state (view no_batch) layout r sound rec table its_record.of newest
          has.head.slot

      left_some : is_some (cell_of (view no_batch left.page.0) left.slot) ≡ true
      left_some = some_cell (cell_of (view no_batch left.page.0) left.slot) (cells.Version was) has.meets.cell

      slot_some : is_some (cell_of (view no_batch rec.page.0) rec.slot) ≡ true
      slot_some = some_cell (cell_of (view no_batch rec.page.0) rec.slot) (cells.Anchor newest) has.head.slot

      -- the slot is not where the version stands
      off_left : left.page.0 ≡ rec.page.0 → left.slot ≢ rec.slot
      off_left page slot =
          let same : cells_of (view no_batch) left ≡ cells_of (view no_batch) rec =
          ap (λ (k : ℕ). slot_cell (cell_of (view no_batch k) left.slot)) page
          ∙ ap (λ (j : ℕ). slot_cell (cell_of (view no_batch rec.page.0) j)) slot in
          let both : Some (cells.Version was) ≡ Some (cells.Anchor newest) =
          sym has.meets.cell ∙ (same ∙ has.head.slot) in absurd cc

      left_kind : byte (view no_batch left.page.0) 0 ≡ 5
      left_kind = data_kind size state (view no_batch) layout r sound table its left.page.0 (listed left.page.0 left_of)

      -- ---- it is taken out

      turned_some : (back : Option Link) (turned : Changed) → TurnsBack a image no_batch turned rec back
          → is_some (cell_of (view turned left.page.0) left.slot) ≡ true
      turned_some None turned turns = free_keeps (view no_batch) (view turned) rec left turns.frees slot_some off_left
          left_some
      turned_some (Some link) turned turns = put_keeps (view no_batch) (view turned) rec turns.bytes turns.puts.puts left
          left_some

      slot_one : (back : Option Link) (turned : Changed) → TurnsBack a image no_batch turned rec back
          → ChangesOne size no_batch turned rec.page.0
      slot_one None turned turns = freed_one a image no_batch turned rec turns slot_some
      slot_one (Some link) turned turns = turns.puts.one

      pub out_is_lawful : (batch : Changed) → TakesCellOut a image no_batch batch rec newest table.pointer.0 was.back
          → IsLawful size batch.pages batch.orders
      out_is_lawful batch it = out_lawful size left.page.0 rec.page.0 rec.page.0 it.freed freed_batch batch was.back
          it.slot_pointers (λ x there off. off_slot (view no_batch) table.pointer.0 rec.page.0 left.page.0 was.back
          it.slot_pointers it.slot_reached left_kind x there) it.ordered
        where
          one : ChangesOne size no_batch it.swings.turned rec.page.0
          one = slot_one was.back it.swings.turned it.swings.turns

          left_one : ChangesOne size it.swings.turned it.freed left.page.0
          left_one = freed_one a image it.swings.turned it.freed left it.swings.frees
              (turned_some was.back it.swings.turned it.swings.turns)

          good_of : (rank : ℕ → ℕ) → IsGood size rank 8 it.freed
          good_of rank = good_more size rank 2 8 it.freed (good_puts it.swings.turned it.freed left.page.0 left_one.bytes
              left_one.puts size rank 1 (good_puts no_batch it.swings.turned rec.page.0 one.bytes one.puts size rank 0
              (good_none size rank) one.len) left_one.len) (omega arith)

          slot_in : is_in it.freed.pages rec.page.0 ≡ true
          slot_in = in_still it.swings.turned it.freed left.page.0 left_one.bytes left_one.puts rec.page.0
              (in_here no_batch it.swings.turned rec.page.0 one.bytes one.puts)

          freed_batch : IsBatch size left.page.0 rec.page.0 rec.page.0 it.freed
          freed_batch = record {
            q = rec.page.0;
            p = rec.page.0;
            good = good_of (rank_of left.page.0 rec.page.0 rec.page.0 rec.page.0 rec.page.0);
            f_in = in_here it.swings.turned it.freed left.page.0 left_one.bytes left_one.puts;
            s_in = slot_in;
            q_in = slot_in;
            p_in = slot_in;
            a_in = slot_in;
            f_some = page_some left.page.0 left_of;
            s_some = page_some rec.page.0 its_record.of;
            q_some = page_some rec.page.0 its_record.of;
            p_some = page_some rec.page.0 its_record.of;
            a_some = page_some rec.page.0 its_record.of;
          }

      -- ---- it is moved

      module _ (w : Version) (bytes : List ℕ) (spells : IsSpelling bytes (cells.Version w))
          (batch : Changed) (tx : TxNo) (back : Option Link)
          (may : MayHave (view no_batch left.page.0) left.slot bytes → ⊥)
          (it : Moves a image no_batch batch rec newest table.pointer.0 bytes tx back) where
        abbrev adds : AddsCell a image no_batch it.put table.pointer.0 bytes it.at
        adds = it.puts.adds

        abbrev put_stand : IsTableOf
            (to m laws a a image refl tells geometry no_batch state layout r sound table its adds.given (need_of bytes)
            it.at.page adds.gives).layout table
        put_stand = then_ m laws a a image refl tells geometry no_batch state layout r sound table its adds.given
            (need_of bytes) it.at.page adds.gives

        -- the freed page is a data page still, and not the one that the cell was put on
        left_still : byte (view it.put left.page.0) 0 ≡ 5
        left_still = (cells_there size (view it.put) put_stand.stand
            (put_stands m laws a a image refl tells geometry no_batch state layout r sound table its it.put bytes it.at
            adds (inl (cells.Version w, spells))) left.page.0
            (still_listed m laws a a image refl tells geometry no_batch state layout r sound table its adds.given
            (need_of bytes) it.at.page adds.gives left.page.0 left_of)).kind

        put_off : it.at.page.0 ≢ left.page.0
        put_off same = may (room_in_place (view no_batch left.page.0) left.slot bytes left_some
            (found_or_new m a image geometry state layout r sound table its left.page.0 left.page.0
            (page_apart left.page.0 left_of) (page_apart left.page.0 left_of) adds.given (need_of bytes) it.at.page
            adds.gives left.page.0 (page_apart left.page.0 left_of).used
            (ap (λ (k : PageNo). k.0) adds.gives.page_is ∙ same)))

        left_there : is_some (cell_of (view it.swings.turned left.page.0) left.slot) ≡ true
        left_there = put_keeps (view it.put) (view it.swings.turned) rec it.swings.turns.bytes it.swings.turns.puts.puts
            left (other_cell m laws a a image refl tells geometry no_batch state layout r sound table its it.put bytes
            it.at adds (inl (cells.Version w, spells)) left left_of left_some)

        left_one : ChangesOne size it.swings.turned it.freed left.page.0
        left_one = freed_one a image it.swings.turned it.freed left it.swings.frees left_there

        abbrev turns : TurnsTo a image it.put it.swings.turned rec (link_to it.at tx)
        turns = it.swings.turns

        goes : {rank : ℕ → ℕ} → IsGood size rank 6 it.put → IsGood size rank 8 it.freed
        goes {rank} good = good_puts it.swings.turned it.freed left.page.0 left_one.bytes left_one.puts size rank 7
            (good_puts it.put it.swings.turned rec.page.0 turns.puts.one.bytes turns.puts.one.puts size rank 6 good
            turns.puts.one.len) left_one.len

        freed_still : (y : ℕ) → is_in it.swings.turned.pages y ≡ true → is_in it.freed.pages y ≡ true
        freed_still y there = in_still it.swings.turned it.freed left.page.0 left_one.bytes left_one.puts y there

        moved_batch : IsBatch size left.page.0 rec.page.0 it.at.page.0 it.freed
        moved_batch = last_batch adds.given (need_of bytes) it.at.page adds.gives left.page.0 rec.page.0
            (page_apart left.page.0 left_of) (page_apart rec.page.0 its_record.of) it.put it.freed adds.one goes
            (λ y there. freed_still y (in_still it.put it.swings.turned rec.page.0 turns.puts.one.bytes
            turns.puts.one.puts y there))
            (in_here it.swings.turned it.freed left.page.0 left_one.bytes left_one.puts)
            (freed_still rec.page.0 (in_here it.put it.swings.turned rec.page.0 turns.puts.one.bytes
            turns.puts.one.puts)) (page_some left.page.0 left_of) (page_some rec.page.0 its_record.of)

        pub move_is_lawful : IsLawful size batch.pages batch.orders
        move_is_lawful = moved_lawful size left.page.0 rec.page.0 it.at.page.0 it.freed moved_batch batch back
            it.pointers it.slot_pointers (λ off. put_off) (λ x there off. off_data (view it.put) table.pointer.0
            it.at.page.0 it.pointers left.page.0 it.puts.reached left_still x there) (λ x there off.
            off_slot (view it.put) table.pointer.0 rec.page.0 left.page.0 back it.slot_pointers it.slot_reached
            left_still x there) it.ordered

    pub takes_out_lawful : (batch : Changed) → TakesOut a image no_batch batch rec
        → IsLawful size batch.pages batch.orders
    takes_out_lawful batch it = out_is_lawful it.newest it.owner it.was it.its batch
        (subst (λ (k : ℕ). TakesCellOut a image no_batch batch rec it.newest k it.was.back)
        (owner_is it.newest it.owner it.its.head) it.taken)

    pub replace_lawful : (batch : Changed) (v : Version) → Replaces a image no_batch batch rec v
        → IsLawful size batch.pages batch.orders
    replace_lawful batch v it = by (subst (λ (k : ℕ). OverwritesOrMoves a image no_batch batch rec it.newest k it.bytes
        v.tx it.was.back) (owner_is it.newest it.owner it.its.head) it.written)
      where
        by : OverwritesOrMoves a image no_batch batch rec it.newest table.pointer.0 it.bytes v.tx it.was.back
            → IsLawful size batch.pages batch.orders
        by (inl puts) = good_lawful size (λ n. 0) 1 batch (good_puts no_batch batch it.newest.rec.page.0
            puts.one.bytes puts.one.puts size (λ n. 0) 0 (good_none size (λ n. 0)) puts.one.len) (omega arith)
        by (inr (may, moves)) = move_is_lawful it.newest it.owner it.was it.its (leading_to v it.was.back) it.bytes
            it.spells batch v.tx it.was.back may moves
