-- Lemmas of the walk over the records of a table.
use Rattle.std.proofs.Common.{◌≡◌, ◌<◌, ◌≤◌, ◌+◌, ◌-◌, ◌^◌, [], ◌∙◌, ◌⊎◌, inl, inr, ℕ, false, List, Option, None, Some, length, get_or, refl, sym, ap, subst, arith, Result, Ok, Err}
use Rattle.std.proofs.lemmas.Bool.{cases_lt}
use Rattle.std.specs.Prelude.{IfSome, MatchResult, unwrap_or}
use Rattle.mg_base.specs.Disk.{Meaning}
use Rattle.mg_base.specs.Image.{Image}
use Rattle.mg_base.specs.declared.damage.Damaged.{Damaged}
use Rattle.mg_base.specs.declared.numbers.PageNo.{PageNo}
use Rattle.mg_base.specs.declared.numbers.RecId.{RecId}
use Rattle.mg_image.specs.Form.{Pages}
use Rattle.mg_pool.specs.Batch.{Changed, content_in}
use Rattle.mg_pool.specs.Pool.{shown}
use Rattle.mg_pool.specs.declared.batch.BatchPage.{BatchPage}
use Rattle.mg_pool.specs.declared.pool.Pool.{Pool}
use Rattle.mg_slots.specs.DataPage.{cell_of, slot_count}
use Rattle.mg_slots.specs.DataPageLaws.{cell_past}
use Rattle.mg_space.specs.declared.fault.SpaceFault.{SpaceFault}
use Rattle.mg_space.specs.declared.fault.SpaceFault.TheVariants as faults
use Rattle.mg_heap.specs.Places.{FindsPlace, RefusesPlace}
use Rattle.mg_heap.specs.Reading.{sequence_in}
use Rattle.mg_heap.specs.Table.{link_damage}
use Rattle.mg_heap.specs.Walk.{AreEmpty, GivesBehind, GivesFrom, GivesNext, HasNoRecord, IsEmptyPlace, IsFirstRecord, RefusesBehind, RefusesFrom, RefusesNext, RefusesTableData, RefusesWalkOf, is_primary}

-- ---- on one page

pub none_left : (b : List ℕ) (from end : ℕ) → slot_count b ≤ end
    → ((k : ℕ) → from ≤ k → k < end → is_primary (cell_of b k) ≡ false) → HasNoRecord b from
none_left b from end past before slot le = at (cases_lt slot end)
  where
    at : (slot < end) ⊎ (end ≤ slot) → is_primary (cell_of b slot) ≡ false
    at (inl below) = before slot le below
    at (inr beyond) = ap is_primary (cell_past b slot (omega arith))

-- ---- on the pages of a list

pub page_broken : {D L : Type 0} (m : Meaning D) (store : Pool D L) (batch : List BatchPage)
    (pages : Pages) (owner place at : ℕ) (ds : List ℕ) (n : PageNo) (fault : SpaceFault)
    → place < length ds → n.0 ≡ get_or ds place 0 → at ≡ place
    → RefusesTableData m store batch (pages n.0) owner at n fault
    → RefusesWalkOf m store batch pages owner ds fault
page_broken m store batch pages owner place at ds n (faults.Full limit) inside is same refused = refused
page_broken m store batch pages owner place at ds n (faults.Damaged damage) inside is same refused = record {
  place = place;
  inside = inside;
  page = n;
  listed = sym is;
  refused = subst (λ (k : ℕ). RefusesTableData m store batch (pages n.0) owner k n (faults.Damaged damage))
      same refused;
}
page_broken m store batch pages owner place at ds n (faults.Pool fault) inside is same refused = tt

-- ---- from a place on

module _ {D L : Type 0} (m : Meaning D) (store : Pool D L) (batch : List BatchPage) (pages : Pages)
    (owner : ℕ) where
  pub place_broken : (start place : ℕ) (fault : SpaceFault) → start ≤ place
      → AreEmpty pages owner start place → RefusesPlace m store batch pages owner place fault
      → RefusesFrom m store batch pages owner start fault
  place_broken start place (faults.Full limit) from empty refused = refused
  place_broken start place (faults.Damaged damage) from empty refused =
      record { place = place; from = from; empty = empty; refused = inl refused }
  place_broken start place (faults.Pool fault) from empty refused = tt

  pub place_unlike : (start place : ℕ) (page : PageNo) (fault : SpaceFault) → start ≤ place
      → AreEmpty pages owner start place → FindsPlace pages owner place (Some page)
      → RefusesTableData m store batch (pages page.0) owner place page fault
      → RefusesFrom m store batch pages owner start fault
  place_unlike start place page (faults.Full limit) from empty found refused = refused
  place_unlike start place page (faults.Damaged damage) from empty found refused = record {
    place = place;
    from = from;
    empty = empty;
    refused = inr (record { page = page; found = found; refused = refused });
  }
  place_unlike start place page (faults.Pool fault) from empty found refused = tt

  -- ---- behind a page

  pub no_place : (page : PageNo) (place : ℕ) (fault : SpaceFault)
      → RefusesPlace m store batch pages owner place fault
      → RefusesBehind m store batch pages owner page place fault
  no_place page place (faults.Full limit) refused = refused
  no_place page place (faults.Damaged damage) refused = inl refused
  no_place page place (faults.Pool fault) refused = tt

  pub none_listed : (page : PageNo) (place : ℕ) (there : Option PageNo) (made : Damaged)
      → ((n : PageNo) → there ≡ Some n → ⊥) → FindsPlace pages owner place there
      → made ≡ link_damage page page.0 0
      → RefusesBehind m store batch pages owner page place (faults.Damaged made)
  none_listed page place there made none found is =
      inr (inl (record { there = there; found = found; other = none page; is = is }))

  pub other_listed : (page n : PageNo) (place : ℕ) (there : Option PageNo) (made : Damaged)
      → there ≡ Some n → (n.0 ≡ page.0 → ⊥) → FindsPlace pages owner place there
      → made ≡ link_damage page page.0 0
      → RefusesBehind m store batch pages owner page place (faults.Damaged made)
  other_listed page n place there made some differs found is = inr (inl (record {
    there = there;
    found = found;
    other = λ same. differs (ap number (sym some ∙ same));
    is = is;
  }))
    where
      number : Option PageNo → ℕ
      number None = 0
      number (Some k) = k.0

  pub listed_there : (page n : PageNo) (place : ℕ) (there : Option PageNo) → there ≡ Some n
      → n.0 ≡ page.0 → FindsPlace pages owner place there → FindsPlace pages owner place (Some page)
  listed_there page n place there some same found = subst (FindsPlace pages owner place)
      (some ∙ ap (λ (k : ℕ). Some (numbered k)) same) found
    where
      numbered : ℕ → PageNo
      numbered k = record { 0 = k }

  pub behind_given : (page : PageNo) (place next : ℕ) (result : Result (Option RecId) SpaceFault)
      → next ≡ place + 1 → FindsPlace pages owner place (Some page)
      → MatchResult result (GivesFrom pages owner next) (RefusesFrom m store batch pages owner next)
      → MatchResult result (GivesBehind pages owner page place)
      (RefusesBehind m store batch pages owner page place)
  behind_given page place next (Ok found) is listed gives =
      record { listed = listed; gives = subst (λ (k : ℕ). GivesFrom pages owner k found) is gives }
  behind_given page place next (Err (faults.Full limit)) is listed refused = refused
  behind_given page place next (Err (faults.Damaged damage)) is listed refused = inr (inr
      (subst (λ (k : ℕ). RefusesFrom m store batch pages owner k (faults.Damaged damage)) is refused))
  behind_given page place next (Err (faults.Pool fault)) is listed refused = tt

  -- ---- behind a record

  pub none_behind : (from : ℕ) (x : RecId) (place : ℕ) (read slice : List ℕ)
      (result : Result (Option RecId) SpaceFault) → read ≡ pages x.page.0 → slice ≡ read
      → from ≡ x.slot + 1 → HasNoRecord slice from → place ≡ sequence_in read
      → MatchResult result (GivesBehind pages owner x.page place)
      (RefusesBehind m store batch pages owner x.page place)
      → MatchResult result (GivesNext pages owner (Some x))
      (RefusesNext m store batch pages owner (Some x))
  none_behind from x place read slice result seen same is none named gives = at result gives
    where
      last : HasNoRecord (pages x.page.0) (x.slot + 1)
      last = subst (λ (b : List ℕ). HasNoRecord b (x.slot + 1)) (same ∙ seen)
          (subst (λ (k : ℕ). HasNoRecord slice k) is none)

      its : place ≡ sequence_in (pages x.page.0)
      its = named ∙ ap sequence_in seen

      at : (result : Result (Option RecId) SpaceFault)
          → MatchResult result (GivesBehind pages owner x.page place)
          (RefusesBehind m store batch pages owner x.page place)
          → MatchResult result (GivesNext pages owner (Some x))
          (RefusesNext m store batch pages owner (Some x))
      at (Ok found) gives = inr (last, subst (λ (k : ℕ). GivesBehind pages owner x.page k found) its gives)
      at (Err fault) refused = inr (
        last,
        subst (λ (k : ℕ). RefusesBehind m store batch pages owner x.page k fault) its refused,
      )

  pub first_next : (after : Option RecId) (result : Result (Option RecId) SpaceFault) → after ≡ None
      → MatchResult result (GivesFrom pages owner 0) (RefusesFrom m store batch pages owner 0)
      → MatchResult result (GivesNext pages owner after) (RefusesNext m store batch pages owner after)
  first_next after result is next =
      subst (λ (x : Option RecId). MatchResult result (GivesNext pages owner x)
      (RefusesNext m store batch pages owner x)) (sym is) next

-- one place more is empty
pub one_empty : (pages : Pages) (owner start place : ℕ) → AreEmpty pages owner start place
    → IsEmptyPlace pages owner place → AreEmpty pages owner start (place + 1)
one_empty pages owner start place before here at from below = elim (cases_lt at place) [
  | inl less ↦ before at from less
  | inr same ↦ (let is : place ≡ at = omega (arith, same, below) in
      subst (IsEmptyPlace pages owner) is here)
]

pub first_empty : (pages : Pages) (owner start : ℕ) → AreEmpty pages owner start start
first_empty pages owner start place from below = absurd (omega (arith, from, below))

pub empty_here : (pages : Pages) (owner place : ℕ) (page : PageNo) (read : List ℕ)
    → FindsPlace pages owner place (Some page) → read ≡ pages page.0 → HasNoRecord read 0
    → IsEmptyPlace pages owner place
empty_here pages owner place page read found seen none = record {
  page = page;
  found = found;
  none = subst (λ (b : List ℕ). HasNoRecord b 0) seen none;
}

pub gives_here : (pages : Pages) (owner start place : ℕ) (page : PageNo) (read : List ℕ) (x : RecId)
    → start ≤ place → AreEmpty pages owner start place → FindsPlace pages owner place (Some page)
    → read ≡ pages page.0 → IsFirstRecord read page.0 0 x → GivesFrom pages owner start (Some x)
gives_here pages owner start place page read x from empty found seen first = record {
  place = place;
  from = from;
  empty = empty;
  gives = (page, found, subst (λ (b : List ℕ). IsFirstRecord b page.0 0 x) seen first);
}

pub gives_end : (pages : Pages) (owner start place : ℕ) (next : Option PageNo)
    → ((page : PageNo) → next ≡ Some page → ⊥) → start ≤ place → AreEmpty pages owner start place
    → FindsPlace pages owner place next → GivesFrom pages owner start None
gives_end pages owner start place None none from empty found =
    record { place = place; from = from; empty = empty; gives = found }
gives_end pages owner start place (Some page) none from empty found = absurd (none page refl)

-- where the table has a page at a place, the next place is a number
pub next_few : (next : Option PageNo) (page : PageNo) (place : ℕ) → next ≡ Some page
    → IfSome next (λ page. place + 1 < 2 ^ 32) → place + 1 < 2 ^ 32
next_few None page place is few = absurd cc
next_few (Some other) page place is few = few

pub further : (start place : ℕ) → start ≤ place → start ≤ place + 1
further start place from = omega (arith, from)

-- one place more leaves fewer to go
pub less_left : (place : ℕ) → place + 1 < 2 ^ 32 → 2 ^ 32 - (place + 1) < 2 ^ 32 - place
less_left place few = omega (arith, few)

-- a batch that puts nothing shows what the cache shows
pub sees_shown : {D L : Type 0} (store : Pool D L) (image : Image) (batch : Changed)
    (P : List BatchPage → Pages → Type 0) → batch.pages ≡ []
    → P batch.pages (λ n. unwrap_or (content_in batch.pages n) (shown store.dirty image n))
    → P [] (shown store.dirty image)
sees_shown store image batch P empty holds = subst (λ (pages : List BatchPage).
    P pages (λ n. unwrap_or (content_in pages n) (shown store.dirty image n))) empty holds
