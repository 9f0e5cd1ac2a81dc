-- Lemmas of a cell that is put beside a slot which stays free.
use Rattle.std.proofs.Common.{◌≡◌, ◌≢◌, ◌<◌, ◌≤◌, ◌+◌, ◌⊎◌, ◌∙◌, inl, inr, ℕ, Bool, true, false, List, Option, None, Some, length, refl, sym, ap, subst, arith, Result, Ok, Err}
use Rattle.std.proofs.lemmas.Bool.{cases_eq, cases_lt, cases_order, eq-eqb, false≢true, lt-ltb, ltb-false, ltb-true}
use Rattle.std.specs.Prelude.{IfErr, IfOk, IsErrAnd, IsOk, IsSome, MatchResult, OnOk, is_some, nat_lt}
use Rattle.mg_base.specs.Disk.{Meaning}
use Rattle.mg_base.specs.Image.{Image}
use Rattle.mg_base.specs.declared.damage.Damaged.{Damaged}
use Rattle.mg_base.specs.declared.geometry.Geometry.{Geometry}
use Rattle.mg_base.specs.declared.numbers.PageNo.{PageNo}
use Rattle.mg_base.specs.declared.numbers.RecId.{RecId}
use Rattle.mg_image.specs.Form.{Pages}
use Rattle.mg_pool.specs.Batch.{Changed, PutsPage}
use Rattle.mg_pool.specs.declared.pool.Pool.{Pool}
use Rattle.mg_slots.specs.Changes.{FreesCell, PutsCell, SetsCell}
use Rattle.mg_slots.specs.DataPage.{all_taken, cell_of, slot_count, taken_by}
use Rattle.mg_slots.specs.DataPageLaws.{cell_past, cells_fit}
use Rattle.mg_slots.specs.Room.{least_free, need_of, rest_of, room_for, room_of}
use Rattle.mg_slots.specs.declared.change.NoRoom.{NoRoom}
use Rattle.mg_slots.specs.RoomLaws.{first_without_all, first_without_at, first_without_found, first_without_le, last_end_le, rest_is, used_before_least_free}
use Rattle.mg_slots.specs.declared.page.TheConstants.{LEAST_TAKEN}
use Rattle.mg_space.specs.View.{KeepsStore, viewed}
use Rattle.mg_space.specs.ViewLaws.{viewed_else, viewed_here, viewed_on}
use Rattle.mg_space.specs.declared.fault.SpaceFault.{SpaceFault}
use Rattle.mg_space.specs.declared.fault.SpaceFault.TheVariants as faults
use Rattle.mg_heap.specs.Apart.{AddsApart, HasNoRoomBeside, HasNoRoomWith, HasPlace, HoldsSlot, IsRoomDamage, PutsApart, PutsBeside, RefusesAddApart, RefusesPutApart, kept_on, need_with_anchor}
use Rattle.mg_heap.specs.Changing.{ChangesOne}
use Rattle.mg_heap.specs.Reading.{IsSomeData}
use Rattle.mg_heap.specs.Room.{GivesRoom, lack_of}

-- the least free slot has no cell
pub least_is_free : (b : List ℕ) → cell_of b (least_free b) ≡ None
least_is_free b = at (cases_eq (least_free b) (slot_count b))
  where
    at : (least_free b ≡ slot_count b) ⊎ (least_free b ≢ slot_count b) → cell_of b (least_free b) ≡ None
    at (inl same) = cell_past b (least_free b) (omega arith)
    at (inr other) = first_without_at (cell_of b) (slot_count b)
        (omega (arith, first_without_le (cell_of b) (slot_count b)))

-- another slot was the least free one
pub put_else : (old new : List ℕ) (kept : Option ℕ) (least slot : ℕ) (cell : List ℕ)
    → least ≡ least_free old → (kept ≡ Some least → ⊥) → slot ≡ least_free old
    → PutsCell old new (least_free old) cell → PutsBeside old new kept cell slot
put_else old new kept least slot cell is other at puts = record {
  apart = λ same. other (same ∙ ap (λ (k : ℕ). Some k) (at ∙ sym is));
  stays = λ place keeps lowest. absurd (other (keeps ∙ ap (λ (k : ℕ). Some k) (lowest ∙ sym is)));
  was_free = ap (cell_of old) at ∙ least_is_free old;
  sets = subst (λ (k : ℕ). SetsCell old new k (Some cell)) (sym at) puts.sets;
}

module _ (b0 b1 b2 b3 anchor cell : List ℕ) (least slot : ℕ) (is : least ≡ least_free b0)
    (holds : PutsCell b0 b1 least anchor) (at : slot ≡ least_free b1)
    (puts : PutsCell b1 b2 (least_free b1) cell) where
  held_apart : slot ≢ least
  held_apart same =
      let free_ : cell_of b1 least ≡ None =
      ap (cell_of b1) (sym same ∙ at) ∙ least_is_free b1 in
      let both : Some anchor ≡ None = sym holds.sets.here ∙ free_ in absurd cc

  sets_there : SetsCell b1 b2 slot (Some cell)
  sets_there = subst (λ (k : ℕ). SetsCell b1 b2 k (Some cell)) (sym at) puts.sets

  -- the held slot still has what holds it
  held : cell_of b2 least ≡ Some anchor
  held = sets_there.others least (λ same. held_apart (sym same)) ∙ holds.sets.here

  pub is_held : IsSome (cell_of b2 least)
  is_held = ap (λ (o : Option (List ℕ)). is_some o) held

  slot_free : cell_of b0 slot ≡ None
  slot_free = sym (holds.sets.others slot held_apart) ∙ (ap (cell_of b1) at ∙ least_is_free b1)

  -- the slots before the held one have cells, and the new cell is put behind it
  used_before : (s : ℕ) → s < least → is_some (cell_of b0 s) ≡ true
  used_before s before = used_before_least_free b0 s (omega (arith, before, is))

  seat : slot ≡ least_free b1
  seat = at

  behind : least < slot
  behind = at_order (cases_order least slot)
    where
      early : slot < least → is_some (cell_of b1 slot) ≡ true
      early before = ap (λ (o : Option (List ℕ)). is_some o) (holds.sets.others slot held_apart)
          ∙ used_before slot before

      at_order : (least ≡ slot) ⊎ ((least < slot) ⊎ (slot < least)) → least < slot
      at_order (inl same) = absurd (held_apart (sym same))
      at_order (inr (inl later)) = later
      at_order (inr (inr before)) =
          let some : is_some (cell_of b1 slot) ≡ true = early before in
          let none : is_some (cell_of b1 slot) ≡ false =
          ap (λ (o : Option (List ℕ)). is_some o) (ap (cell_of b1) seat ∙ least_is_free b1) in absurd cc

  -- so it is the least free one again, and has the room of what held it
  still_there : FreesCell b2 b3 least → HasPlace b3 least
  still_there frees = record {
    least = sym lowest;
    room = room;
  }
    where
      used_at : (s : ℕ) → s < least → (s ≡ slot) ⊎ (s ≢ slot) → is_some (cell_of b3 s) ≡ true
      used_at s before (inl same) = absurd (omega (arith, before, same, behind))
      used_at s before (inr other) = ap (λ (o : Option (List ℕ)). is_some o)
          (frees.sets.others s (λ e. omega (arith, before, e))
          ∙ (sets_there.others s other ∙ holds.sets.others s (λ e. omega (arith, before, e))))
          ∙ used_before s before

      used : (s : ℕ) → s < least → is_some (cell_of b3 s) ≡ true
      used s before = used_at s before (cases_eq s slot)

      put_there : is_some (cell_of b3 slot) ≡ true
      put_there = ap (λ (o : Option (List ℕ)). is_some o) (frees.sets.others slot held_apart ∙ sets_there.here)

      inside : slot < slot_count b3
      inside = by (cases_lt slot (slot_count b3))
        where
          by : (slot < slot_count b3) ⊎ (slot_count b3 ≤ slot) → slot < slot_count b3
          by (inl lt) = lt
          by (inr past) =
              let none : is_some (cell_of b3 slot) ≡ false =
              ap (λ (o : Option (List ℕ)). is_some o) (cell_past b3 slot past) in
              let some : is_some (cell_of b3 slot) ≡ true = put_there in absurd cc

      lowest : least_free b3 ≡ least
      lowest = first_without_found (cell_of b3) least (slot_count b3) (omega (arith, inside, behind))
          (first_without_all (cell_of b3) least used) frees.sets.here

      rest : LEAST_TAKEN ≤ rest_of b3
      rest =
          let whole = rest_is b3 frees.sets.lawful in
          let fits = cells_fit b2 puts.sets.lawful in
          let fewer : slot_count b3 ≤ slot_count b2 =
          subst (λ (k : ℕ). k ≤ slot_count b2) (sym frees.count)
          (last_end_le (λ (k : ℕ). is_some (cell_of b3 k)) (slot_count b2)) in
          let freed : all_taken b3 + taken_by (cell_of b2 least) ≡ all_taken b2 + taken_by None = frees.sets.taken in
          let some : taken_by (cell_of b2 least) ≡ taken_by (Some anchor) = ap taken_by held in
          let least_ : LEAST_TAKEN ≤ taken_by (Some anchor) = omega arith in
          let none : taken_by None ≡ 0 = refl in
          let len : length b3 ≡ length b2 = frees.sets.len in
          omega (arith, whole, fits, fewer, freed, some, least_, none, len)

      room : LEAST_TAKEN ≤ room_of b3
      room =
          let there : nat_lt (least_free b3) (slot_count b3) ≡ true =
          lt-ltb (least_free b3) (slot_count b3) (omega (arith, lowest, inside, behind)) in
          rw there rest

  -- the held slot is freed again
  pub put_held : (kept : Option ℕ) → kept ≡ Some least → FreesCell b2 b3 least
      → PutsBeside b0 b3 kept cell slot
  put_held kept keeps frees = record {
    apart = λ same. let both : Some slot ≡ Some least = sym same ∙ keeps in
        let e : slot ≡ least = cc in held_apart e;
    was_free = slot_free;
    stays = λ place keeps_it lowest. let both : Some least ≡ Some place = sym keeps ∙ keeps_it in
        let e : least ≡ place = cc in subst (HasPlace b3) e (still_there frees);
    sets = record {
      here = frees.sets.others slot held_apart ∙ sets_there.here;
      others = λ other ne. others other ne (cases_eq other least);
      common = frees.sets.common ∙ (sets_there.common ∙ holds.sets.common);
      len = frees.sets.len ∙ (sets_there.len ∙ holds.sets.len);
      taken = taken;
      lawful = frees.sets.lawful;
      packed = frees.sets.packed;
    };
  }
    where
      others : (other : ℕ) → other ≢ slot → (other ≡ least) ⊎ (other ≢ least)
          → cell_of b3 other ≡ cell_of b0 other
      others other ne (inl same) = ap (cell_of b3) same ∙ (frees.sets.here
          ∙ sym (ap (cell_of b0) (same ∙ is) ∙ least_is_free b0))
      others other ne (inr apart) = frees.sets.others other apart
          ∙ (sets_there.others other ne ∙ holds.sets.others other apart)

      taken : all_taken b3 + taken_by (cell_of b0 slot) ≡ all_taken b0 + taken_by (Some cell)
      taken =
          let first : all_taken b1 + taken_by (cell_of b0 least) ≡ all_taken b0 + taken_by (Some anchor) =
          holds.sets.taken in
          let none0 : taken_by (cell_of b0 least) ≡ 0 =
          ap taken_by (ap (cell_of b0) is ∙ least_is_free b0) in
          let second : all_taken b2 + taken_by (cell_of b1 slot) ≡ all_taken b1 + taken_by (Some cell) =
          sets_there.taken in
          let none1 : taken_by (cell_of b1 slot) ≡ 0 =
          ap taken_by (ap (cell_of b1) at ∙ least_is_free b1) in
          let third : all_taken b3 + taken_by (cell_of b2 least) ≡ all_taken b2 + taken_by None =
          frees.sets.taken in
          let some2 : taken_by (cell_of b2 least) ≡ taken_by (Some anchor) = ap taken_by held in
          let none3 : taken_by (cell_of b0 slot) ≡ 0 = ap taken_by slot_free in
          let zero_ : taken_by None ≡ 0 = refl in
          sums (all_taken b0) (all_taken b1) (all_taken b2) (all_taken b3)
          (taken_by (Some anchor)) (taken_by (Some cell)) (taken_by (cell_of b0 least))
          (taken_by (cell_of b1 slot)) (taken_by (cell_of b2 least)) (taken_by None)
          (taken_by (cell_of b0 slot)) first none0 second none1 third some2 zero_ none3
        where
          sums : (a0 a1 a2 a3 ta tc t0 t1 t2 tn t3 : ℕ) → a1 + t0 ≡ a0 + ta → t0 ≡ 0
              → a2 + t1 ≡ a1 + tc → t1 ≡ 0 → a3 + t2 ≡ a2 + tn → t2 ≡ ta → tn ≡ 0 → t3 ≡ 0
              → a3 + t3 ≡ a0 + tc
          sums a0 a1 a2 a3 ta tc t0 t1 t2 tn t3 e1 e2 e3 e4 e5 e6 e7 e8 = omega arith

pub put_else_ok : (old new : List ℕ) (kept : Option ℕ) (least : ℕ) (cell : List ℕ) (kept_is : Bool)
    (result : Result ℕ NoRoom) → least ≡ least_free old → kept_is ≡ false
    → (kept ≡ Some least → kept_is ≡ true) → IfOk result (λ slot. slot ≡ least_free old)
    → OnOk result (PutsCell old new (least_free old) cell) → IfOk result (PutsBeside old new kept cell)
put_else_ok old new kept least cell kept_is (Ok slot) is no_ says at puts =
    put_else old new kept least slot cell is (λ same. false≢true (sym no_ ∙ says same)) at puts
put_else_ok old new kept least cell kept_is (Err fault) is no_ says at puts = tt

-- ---- there is no room

-- what is refused needs more than there is
above : (need room : ℕ) → (need ≤ room → false ≡ true) → room < need
above need room refused = at (nat_lt room need) refl
  where
    at : (less : Bool) → nat_lt room need ≡ less → room < need
    at true is = ltb-true room need is
    at false is = absurd (false≢true (refused (ltb-false room need is)))

-- a lack that is handed on
lack_on : {T : Type 0} (P : NoRoom → Type 0) (result : Result T NoRoom) (lack : NoRoom)
    → IsErrAnd result (λ given. given ≡ lack) → P lack → IfErr result P
lack_on P (Ok x) lack is holds = tt
lack_on P (Err given) lack is holds = subst P (sym is) holds

-- the cell has no room on the page
pub no_room_on : (b cell : List ℕ) (kept : Option ℕ) (result : Result ℕ NoRoom)
    → (need_of cell ≤ room_of b → IsOk result) → IfErr result (λ lack. lack ≡ lack_of (need_of cell) (room_of b))
    → IfErr result (HasNoRoomBeside b kept cell)
no_room_on b cell kept (Ok slot) fits told = tt
no_room_on b cell kept (Err lack) fits told = inl (record {
  less = above (need_of cell) (room_of b) (λ enough. fits enough);
  is = told;
})

-- an anchor has no room in the slot that is kept
pub no_room_kept : (b cell : List ℕ) (kept : Option ℕ) (least : ℕ) (result : Result ℕ NoRoom) (lack : NoRoom)
    → kept ≡ Some least → room_for b least < LEAST_TAKEN → lack ≡ lack_of LEAST_TAKEN (room_for b least)
    → IsErrAnd result (λ given. given ≡ lack) → IfErr result (HasNoRoomBeside b kept cell)
no_room_kept b cell kept least result lack keeps less told given = lack_on (HasNoRoomBeside b kept cell) result lack
    given (inr (subst (λ (k : Option ℕ). HasNoRoomWith b k cell lack) (sym keeps)
    (inl (record { less = less; is = told }))))

-- the cell has no room beside the slot that is held
pub no_room_with : (b0 b1 cell : List ℕ) (kept : Option ℕ) (least : ℕ) (result : Result ℕ NoRoom) (lack : NoRoom)
    → kept ≡ Some least → HoldsSlot b0 b1 least → (need_of cell ≤ room_of b1 → false ≡ true)
    → lack ≡ lack_of (need_of cell) (room_of b1) → IsErrAnd result (λ given. given ≡ lack)
    → IfErr result (HasNoRoomBeside b0 kept cell)
no_room_with b0 b1 cell kept least result lack keeps holds refused told given =
    lack_on (HasNoRoomBeside b0 kept cell) result lack given
    (inr (subst (λ (k : Option ℕ). HasNoRoomWith b0 k cell lack) (sym keeps) (inr (record {
      held = b1;
      holds = holds;
      lacks = record { less = above (need_of cell) (room_of b1) refused; is = told };
    }))))

-- ---- the page of a batch

pub puts_apart : {D L : Type 0} (store : Pool D L) (image : Image) (old new : Changed) (page : PageNo)
    (place : RecId) (slot : ℕ) (kept : Option ℕ) (cell read slice after put : List ℕ)
    → IsSomeData page read → read ≡ viewed store image old page.0 → slice ≡ read → put ≡ after
    → PutsPage old new page.0 put → kept ≡ kept_on page place → PutsBeside slice after kept cell slot
    → PutsApart (viewed store image old) (viewed store image new) place
    (record { page = page; slot = slot }) cell
puts_apart store image old new page place slot kept cell read slice after put some seen same written puts
    keeps beside = record {
      data_page = subst (IsSomeData page) seen some;
      apart = λ on same. beside.apart (keeps ∙ (kept_is on ∙ ap (λ (k : ℕ). Some k) (sym same)));
      was_free = sym (ap (λ (b : List ℕ). cell_of b slot) (same_page)) ∙ beside.was_free;
      stays = λ on lowest. subst (λ (b : List ℕ). HasPlace b place.slot)
          (sym written ∙ sym (viewed_here store image old new page.0 put puts))
          (beside.stays place.slot (keeps ∙ kept_is on) (lowest ∙ sym (ap least_free same_page)));
      sets = subst (λ (b : List ℕ). SetsCell (viewed store image old page.0) b slot (Some cell))
          (sym written ∙ sym (viewed_here store image old new page.0 put puts))
          (subst (λ (b : List ℕ). SetsCell b after slot (Some cell)) same_page beside.sets);
      others = viewed_else store image old new page.0 put puts;
    }
  where
    same_page : slice ≡ viewed store image old page.0
    same_page = same ∙ seen

    kept_is : page.0 ≡ place.page.0 → kept_on page place ≡ Some place.slot
    kept_is on = rw (eq-eqb page.0 place.page.0 on) refl

pub no_room_beside : {D L : Type 0} (m : Meaning D) (store : Pool D L) (batch : Changed) (page : PageNo)
    (place : RecId) (kept : Option ℕ) (cell b read slice : List ℕ) (damage : Damaged)
    → IsSomeData page read → read ≡ b → slice ≡ read → kept ≡ kept_on page place
    → IsRoomDamage page slice kept cell damage
    → RefusesPutApart m store batch b page place cell (faults.Damaged damage)
no_room_beside m store batch page place kept cell b read slice damage some seen same keeps lacks = inr (record {
  data_page = subst (IsSomeData page) seen some;
  damage = damage;
  lacks = subst (λ (k : Option ℕ). IsRoomDamage page b k cell damage) keeps
      (subst (λ (x : List ℕ). IsRoomDamage page x kept cell damage) (same ∙ seen) lacks);
  is = refl;
})

-- ---- a page was given, and the cell was put there

module _ {D L : Type 0} (m : Meaning D) (a b : Pool D L) (image : Image) (kept : KeepsStore m a b) where
  apart_on : (old new : Changed) (place at : RecId) (cell : List ℕ)
      → PutsApart (viewed b image old) (viewed b image new) place at cell
      → PutsApart (viewed a image old) (viewed a image new) place at cell
  apart_on old new place at cell puts =
      subst (λ (pages : Pages). PutsApart (viewed a image old) pages place at cell)
      (viewed_on m a b image new kept)
      (subst (λ (pages : Pages). PutsApart pages (viewed b image new) place at cell)
      (viewed_on m a b image old kept) puts)

  pub added_apart : (store : Pool D L) (old given new : Changed) (owner need : ℕ) (page : PageNo)
      (place : RecId) (cell : List ℕ) (result : Result RecId SpaceFault)
      → need ≡ need_with_anchor cell → GivesRoom a image old given owner need page
      → IfOk result (λ at. at.page ≡ page)
      → IfOk result (λ at. ChangesOne b.geometry.size given new at.page.0)
      → MatchResult result (λ at. PutsApart (viewed b image given) (viewed b image new) place at cell)
      (RefusesPutApart m store given (viewed b image given page.0) page place cell)
      → MatchResult result (AddsApart a image old new owner place cell)
      (RefusesAddApart m a store image old owner place cell)
  added_apart store old given new owner need page place cell (Ok at) is gives on changes puts = record {
    given = given;
    gives = subst (λ (n : PageNo). GivesRoom a image old given owner (need_with_anchor cell) n) (sym on)
        (subst (λ (k : ℕ). GivesRoom a image old given owner k page) is gives);
    one = subst (λ (g : Geometry). ChangesOne g.size given new at.page.0) kept.geometry changes;
    puts = apart_on given new place at cell puts;
  }
  added_apart store old given new owner need page place cell (Err fault) is gives on changes refused = inr (record {
    given = given;
    page = page;
    gives = subst (λ (k : ℕ). GivesRoom a image old given owner k page) is gives;
    refused = subst (λ (pages : Pages). RefusesPutApart m store given (pages page.0) page place cell fault)
        (viewed_on m a b image given kept) refused;
  })
