-- Lemmas of the search for a data page with room.
use Rattle.std.proofs.Common.{[], ◌∷◌, zero, suc, ◌≡◌, ◌≢◌, ◌<◌, ◌≤◌, ◌+◌, ◌-◌, ◌∙◌, ◌⊎◌, inl, inr, ℕ, List, length, get_or, sym, ap, subst, arith, below_more, Result, Ok, Err, Option, Some, refl}
use Rattle.std.proofs.lemmas.Bool.{cases_eq, ne_eqb}
use Rattle.mg_base.specs.Disk.{Meaning}
use Rattle.std.specs.Prelude.{MatchResult}
use Rattle.mg_base.specs.Image.{Image}
use Rattle.mg_base.specs.declared.numbers.PageNo.{PageNo}
use Rattle.mg_image.specs.Form.{Pages}
use Rattle.mg_pool.specs.Batch.{Changed}
use Rattle.mg_pool.specs.declared.pool.Pool.{Pool}
use Rattle.mg_slots.specs.Room.{room_of}
use Rattle.mg_space.specs.View.{KeepsStore, viewed}
use Rattle.mg_space.specs.ViewLaws.{viewed_on}
use Rattle.mg_space.specs.declared.fault.SpaceFault.{SpaceFault}
use Rattle.mg_heap.specs.Growth.{GrowsTable, RefusesGrowth}
use Rattle.mg_heap.specs.Table.{IsTable, RefusesPointerPage}
use Rattle.mg_heap.specs.Walk.{RefusesWalkOf}
use Rattle.mg_heap.proofs.GrowthLemmas.{refuses_on, two_on}
use Rattle.mg_heap.specs.RoomLaws.{finds_on, grows_on}
use Rattle.mg_heap.specs.Room.{FindsRoom, GivesIn, GivesRoom, IsFirstWithRoom, NoneHasRoom, RefusesRoom, RefusesRoomIn, found_in, looked_at}
use Rattle.mg_heap.specs.declared.growth.DataPage.{DataPage}

-- each place is looked at
pub all_looked : (pages : Pages) (ds : List ℕ) (need : ℕ)
    → ((j : ℕ) → j < length ds → room_of (pages (get_or ds (looked_at j (length ds)) 0)) < need)
    → NoneHasRoom pages ds need
all_looked pages ds need none place inside = at (cases_eq (place + 1) (length ds))
  where
    Lacks : ℕ → Type 0
    Lacks i = room_of (pages (get_or ds i 0)) < need

    at : (place + 1 ≡ length ds) ⊎ (place + 1 ≢ length ds) → Lacks place
    at (inl last) = subst Lacks (let is : length ds - 1 ≡ place = omega arith in is)
        (none 0 (omega arith))
    at (inr before) = subst Lacks (second place)
        (none (place + 1) (omega arith))
      where
        second : (k : ℕ) → looked_at (k + 1) (length ds) ≡ k
        second k = rw (ne_eqb (k + 1) 0 (omega arith)) (omega arith)

-- a page with room was found
pub found_first : (pages : Pages) (ds : List ℕ) (need k place : ℕ) (page : PageNo) → k < length ds
    → place ≡ looked_at k (length ds)
    → ((j : ℕ) → j < k → room_of (pages (get_or ds (looked_at j (length ds)) 0)) < need)
    → (page.0 ≡ get_or ds place 0) × (need ≤ room_of (pages (get_or ds place 0)))
    → IsFirstWithRoom pages ds need (found_in pages page)
found_first pages ds need k place page inside is none found = record {
  after = k;
  inside = inside;
  page_is = found.0 ∙ ap (λ (i : ℕ). get_or ds i 0) is;
  bytes_are = refl;
  room = subst (λ (n : ℕ). need ≤ room_of (pages n)) (sym found.0) found.1;
  earlier = none;
}

-- one place more was looked at
pub none_yet : (pages : Pages) (ds : List ℕ) (need k place : ℕ) → place ≡ looked_at k (length ds)
    → ((j : ℕ) → j < k → room_of (pages (get_or ds (looked_at j (length ds)) 0)) < need)
    → room_of (pages (get_or ds place 0)) < need
    → (j : ℕ) → j < k + 1 → room_of (pages (get_or ds (looked_at j (length ds)) 0)) < need
none_yet pages ds need k place is none here = below_more
    (λ (j : ℕ). room_of (pages (get_or ds (looked_at j (length ds)) 0)) < need) k none
    (subst (λ (i : ℕ). room_of (pages (get_or ds i 0)) < need) is here)

pub all_seen : (pages : Pages) (ds : List ℕ) (need k : ℕ) → length ds ≤ k
    → ((j : ℕ) → j < k → room_of (pages (get_or ds (looked_at j (length ds)) 0)) < need)
    → (j : ℕ) → j < length ds → room_of (pages (get_or ds (looked_at j (length ds)) 0)) < need
all_seen pages ds need k past none j inside = none j (omega arith)

-- it is given, and nothing is changed
pub found_given : {D L : Type 0} (store : Pool D L) (image : Image) (batch : Changed) (owner : ℕ)
    (ps ds : List ℕ) (need : ℕ) (found : Option PageNo) (page : PageNo) → found ≡ Some page
    → FindsRoom (viewed store image batch) ds need found
    → GivesIn store image batch batch owner ps ds need page
found_given store image batch owner ps ds need found page is finds =
    let first : IsFirstWithRoom (viewed store image batch) ds need (found_in (viewed store image batch) page) =
    subst (FindsRoom (viewed store image batch) ds need) is finds in
    record {
      it = found_in (viewed store image batch) page;
      page_is = refl;
      found = inl (refl, first);
    }

-- ---- calls on a cache that has been read

module _ {D L : Type 0} (m : Meaning D) (a b : Pool D L) (image : Image) (kept : KeepsStore m a b) where
  seen_at : (batch : Changed) (q : ℕ) → viewed b image batch q ≡ viewed a image batch q
  seen_at batch q = ap (λ (pages : Pages). pages q) (viewed_on m a b image batch kept)

  growth_refused_on : (store : Pool D L) (batch : Changed) (owner at : ℕ) (q : PageNo)
      (fault : SpaceFault) → RefusesGrowth m b store image batch owner at q fault
      → RefusesGrowth m a store image batch owner at q fault
  growth_refused_on store batch owner at q fault (inl page) =
      inl (subst (λ (x : List ℕ). RefusesPointerPage m store batch.pages x owner at q fault)
      (seen_at batch q.0) page)
  growth_refused_on store batch owner at q fault (inr (inl one)) =
      inr (inl (refuses_on m a b image kept batch fault one))
  growth_refused_on store batch owner at q fault (inr (inr two)) =
      inr (inr (two_on m a b image kept batch fault two))

  pub room_grown : (old new : Changed) (owner place at : ℕ) (q : PageNo) (ps ds : List ℕ) (need : ℕ)
      (it : DataPage) → place ≡ length ds → at ≡ length ps - 1 → q.0 ≡ get_or ps (length ps - 1) 0
      → NoneHasRoom (viewed a image old) ds need
      → GrowsTable b.geometry b image old new owner place at q.0 (viewed b image old q.0) it.page.0
      it.bytes.items → GivesIn a image old new owner ps ds need it.page
  room_grown old new owner place at q ps ds need it place_is at_is q_is none grows = record {
    it = record { page = it.page; bytes = it.bytes.items };
    page_is = refl;
    found = inr (
      none,
      subst (λ (k : ℕ). GrowsTable a.geometry a image old new owner (length ds) (length ps - 1) k
          (viewed a image old k) it.page.0 it.bytes.items) q_is
          (subst (λ (k : ℕ). GrowsTable a.geometry a image old new owner (length ds) k q.0
          (viewed a image old q.0) it.page.0 it.bytes.items) at_is
          (subst (λ (k : ℕ). GrowsTable a.geometry a image old new owner k at q.0
          (viewed a image old q.0) it.page.0 it.bytes.items) place_is
          (grows_on m a b kept image old new owner place at q.0 it.page.0 (viewed b image old q.0)
          (viewed a image old q.0) it.bytes.items (seen_at old q.0) grows))),
    );
  }

  pub room_ungrown : (store : Pool D L) (old : Changed) (owner at : ℕ) (q : PageNo) (ps ds : List ℕ)
      (fault : SpaceFault) → at ≡ length ps - 1 → q.0 ≡ get_or ps (length ps - 1) 0
      → RefusesGrowth m b store image old owner at q fault
      → RefusesRoomIn m a store image old owner ps ds fault
  room_ungrown store old owner at q ps ds fault at_is q_is refused = inr (
      subst (λ (k : ℕ). RefusesGrowth m a store image old owner (length ps - 1) (record { 0 = k }) fault) q_is
      (subst (λ (k : ℕ). RefusesGrowth m a store image old owner k q fault) at_is
      (growth_refused_on store old owner at q fault refused)))

  pub room_refused_on : (store : Pool D L) (old : Changed) (owner : ℕ) (ps ds : List ℕ)
      (fault : SpaceFault) → RefusesRoomIn m b store image old owner ps ds fault
      → RefusesRoomIn m a store image old owner ps ds fault
  room_refused_on store old owner ps ds fault (inl walk) =
      inl (subst (λ (pages : Pages). RefusesWalkOf m store old.pages pages owner ds fault)
      (viewed_on m a b image old kept) walk)
  room_refused_on store old owner ps ds fault (inr growth) =
      inr (growth_refused_on store old owner (length ps - 1)
      (record { 0 = get_or ps (length ps - 1) 0 }) fault growth)

  -- what is given of the pages of a table that were found is given of the table
  pub listed_given : (store : Pool D L) (old new : Changed) (owner need : ℕ) (ps ds : List ℕ)
      (result : Result PageNo SpaceFault) → IsTable (viewed a image old) owner ps ds
      → MatchResult result (GivesIn b image old new owner ps ds need)
      (RefusesRoomIn m b store image old owner ps ds)
      → MatchResult result (GivesRoom a image old new owner need) (RefusesRoom m a store image old owner)
  listed_given store old new owner need ps ds (Ok n) table gives = record {
    pointers = ps;
    data_pages = ds;
    table = table;
    it = gives.it;
    page_is = gives.page_is;
    found = finds_on m a b kept image old new owner need ps ds gives.it gives.found;
  }
  listed_given store old new owner need ps ds (Err fault) table refused = inr (record {
    pointers = ps;
    data_pages = ds;
    table = table;
    refused = room_refused_on store old owner ps ds fault refused;
  })

-- ---- the last of some numbers

index_at : (ns : List ℕ) (i x : ℕ) → i < length ns → x ≡ get_or ns i x → x ≡ get_or ns i 0
index_at [] i x inside is = absurd (omega arith)
index_at (n ∷ ns) zero x inside is = is
index_at (n ∷ ns) (suc i) x inside is = index_at ns i x (omega arith) is

pub last_is : (ns : List ℕ) (i x : ℕ) → 0 < length ns → i ≡ length ns - 1 → x ≡ get_or ns i x
    → x ≡ get_or ns (length ns - 1) 0
last_is ns i x some last is = subst (λ (k : ℕ). x ≡ get_or ns k 0) last
    (index_at ns i x (omega arith) is)
