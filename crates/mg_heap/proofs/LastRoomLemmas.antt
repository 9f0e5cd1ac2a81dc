-- Lemmas of the last data page of a table, and of a page with room that is given.
use Rattle.std.proofs.Common.{◌≡◌, ◌≢◌, ◌<◌, ◌≤◌, ◌+◌, ◌-◌, ◌∙◌, ℕ, List, Option, None, Some, length, get_or, refl, sym, ap, subst, inl, inr, arith}
use Rattle.std.specs.Bool.{OnTrue}
use Rattle.std.specs.Prelude.{Bool, true, false, Result, Ok, Err, MatchResult}
use Rattle.mg_base.specs.Disk.{Meaning}
use Rattle.mg_base.specs.Image.{Image}
use Rattle.mg_base.specs.declared.numbers.PageNo.{PageNo}
use Rattle.mg_image.specs.Form.{Pages}
use Rattle.mg_pool.specs.Batch.{Changed}
use Rattle.mg_pool.specs.declared.batch.BatchPage.{BatchPage}
use Rattle.mg_pool.specs.declared.pool.Pool.{Pool}
use Rattle.mg_slots.specs.Room.{room_of}
use Rattle.mg_space.specs.View.{KeepsStore, viewed}
use Rattle.mg_space.specs.ViewLaws.{viewed_on}
use Rattle.mg_space.specs.declared.fault.SpaceFault.{SpaceFault}
use Rattle.mg_heap.specs.LastRoom.{FindsLast, GivesLast, HasFirst, IsLastPlace, IsPlaced, RefusesLast}
use Rattle.mg_heap.specs.Places.{FindsPlace, HasCount}
use Rattle.mg_heap.specs.PlacesLaws.{place_there}
use Rattle.mg_heap.specs.Room.{GivesRoom, RefusesRoom, found_in}
use Rattle.mg_heap.specs.RoomLaws.{room_on}
use Rattle.mg_heap.specs.Table.{IsTable, RefusesTable}
use Rattle.mg_heap.specs.Walk.{RefusesTableData}
use Rattle.mg_heap.specs.declared.room.LastPlace.{LastPlace}
use Rattle.mg_heap.proofs.RoomLemmas.{room_refused_on}
use Rattle.mg_heap.proofs.WalkLemmas.{page_broken}

-- what is told by a yes
pub told_true : (b : Bool) (P : Type 0) → b ≡ true → OnTrue b P → P
told_true true P is told = told
told_true false P is told = absurd cc

-- the page before the end is the last one
pub last_found : (pages : Pages) (owner count : ℕ) (found : Option PageNo) (it : Option LastPlace)
    → count ≢ 0 → IsPlaced found (count - 1) it → HasCount pages owner count
    → FindsPlace pages owner (count - 1) found → FindsLast pages owner it
last_found pages owner count None it some is has finds = subst (FindsLast pages owner) (sym is) tt
last_found pages owner count (Some page) it some is has finds =
    let there = place_there pages owner has.pointers has.data_pages has.table (count - 1) page finds in
    subst (FindsLast pages owner) (sym is) (record {
      pointers = has.pointers;
      data_pages = has.data_pages;
      table = has.table;
      last = let told = has.count_is in omega (arith, some, told);
      listed = there.1;
    })

found_last : (pages : Pages) (owner : ℕ) (found : Option LastPlace) (it : LastPlace) → found ≡ Some it
    → FindsLast pages owner found → IsLastPlace pages owner it
found_last pages owner found it is finds = subst (FindsLast pages owner) is finds

-- the last page is not as wanted
pub last_broken : {D L : Type 0} (m : Meaning D) (store : Pool D L) (batch : List BatchPage) (pages : Pages)
    (owner : ℕ) (found : Option LastPlace) (it : LastPlace) (fault : SpaceFault) → found ≡ Some it
    → FindsLast pages owner found
    → RefusesTableData m store batch (pages it.page.0) owner it.at it.page fault
    → RefusesLast m store batch pages owner fault
last_broken m store batch pages owner found it fault is finds refused =
    let last = found_last pages owner found it is finds in
    inr (record {
      pointers = last.pointers;
      data_pages = last.data_pages;
      table = last.table;
      refused = page_broken m store batch pages owner it.at it.at last.data_pages it.page fault
          (let end = last.last in omega (arith, end)) (sym last.listed) refl refused;
    })

-- the last page has room: it is looked at first
pub last_first : (pages : Pages) (owner need : ℕ) (found : Option LastPlace) (it : LastPlace)
    (read : List ℕ) (room : ℕ) → found ≡ Some it → FindsLast pages owner found → read ≡ pages it.page.0
    → room ≡ room_of read → need ≤ room → HasFirst pages owner need it.page
last_first pages owner need found it read room is finds seen measured enough =
    let last = found_last pages owner found it is finds in
    record {
      pointers = last.pointers;
      data_pages = last.data_pages;
      table = last.table;
      first = record {
        after = 0;
        inside = let end = last.last in omega (arith, end);
        page_is = sym last.listed ∙ ap (λ (i : ℕ). get_or last.data_pages i 0)
            (let end = last.last in let e : it.at ≡ length last.data_pages - 1 = omega (arith, end) in e);
        bytes_are = refl;
        room = subst (λ (b : List ℕ). need ≤ room_of b) seen (subst (λ (k : ℕ). need ≤ k) measured enough);
        earlier = λ k before. absurd (omega (arith, before));
      };
    }

-- it is given
pub last_given : {D L : Type 0} (store : Pool D L) (image : Image) (batch : Changed) (owner need : ℕ)
    (last : Option PageNo) (page : PageNo) → last ≡ Some page
    → GivesLast (viewed store image batch) owner need last
    → GivesRoom store image batch batch owner need page
last_given store image batch owner need last page is gives =
    let has : HasFirst (viewed store image batch) owner need page =
    subst (GivesLast (viewed store image batch) owner need) is gives in
    record {
      pointers = has.pointers;
      data_pages = has.data_pages;
      table = has.table;
      it = found_in (viewed store image batch) page;
      page_is = refl;
      found = inl (refl, has.first);
    }

pub last_refused : {D L : Type 0} (m : Meaning D) (old new : Pool D L) (image : Image) (batch : Changed)
    (owner : ℕ) (fault : SpaceFault) → RefusesLast m new batch.pages (viewed old image batch) owner fault
    → RefusesRoom m old new image batch owner fault
last_refused m old new image batch owner fault (inl table) = inl table
last_refused m old new image batch owner fault (inr of) = inr (record {
  pointers = of.pointers;
  data_pages = of.data_pages;
  table = of.table;
  refused = inl of.refused;
})

-- what is given after calls that have only read was given from the start
pub given_on : {D L : Type 0} (m : Meaning D) (a b c : Pool D L) (image : Image) (kept : KeepsStore m a b)
    (old new : Changed) (owner need : ℕ) (result : Result PageNo SpaceFault)
    → MatchResult result (GivesRoom b image old new owner need) (RefusesRoom m b c image old owner)
    → MatchResult result (GivesRoom a image old new owner need) (RefusesRoom m a c image old owner)
given_on m a b c image kept old new owner need (Ok n) gives =
    room_on m a b kept image old new owner need n gives
given_on m a b c image kept old new owner need (Err fault) (inl table) =
    inl (subst (λ (pages : Pages). RefusesTable m c old.pages pages owner fault)
    (viewed_on m a b image old kept) table)
given_on m a b c image kept old new owner need (Err fault) (inr of) = inr (record {
  pointers = of.pointers;
  data_pages = of.data_pages;
  table = subst (λ (pages : Pages). IsTable pages owner of.pointers of.data_pages)
      (viewed_on m a b image old kept) of.table;
  refused = room_refused_on m a b image kept c old owner of.pointers of.data_pages fault of.refused;
})
