-- Lemmas of following a table's pointer pages up to the one that lists a page.
use Rattle.std.proofs.Common.{◌≡◌, ◌≢◌, ◌++◌, ◌∷◌, [], ◌⊎◌, ◌∙◌, inl, inr, ℕ, Bool, true, false, List, refl, sym, ap, subst}
use Rattle.std.proofs.lemmas.Bool.{false≢true}
use Rattle.mg_base.specs.Disk.{Meaning}
use Rattle.mg_base.specs.declared.damage.Damaged.{Damaged}
use Rattle.mg_base.specs.declared.numbers.PageNo.{PageNo}
use Rattle.mg_image.specs.Form.{Pages}
use Rattle.mg_image.specs.Tables.{Has, entries_in}
use Rattle.mg_pointer.specs.PointerPage.{entries_of}
use Rattle.mg_pool.specs.declared.batch.BatchPage.{BatchPage}
use Rattle.mg_pool.specs.declared.pool.Pool.{Pool}
use Rattle.mg_space.specs.declared.fault.SpaceFault.{SpaceFault}
use Rattle.mg_space.specs.declared.fault.SpaceFault.TheVariants as faults
use Rattle.mg_heap.specs.Reach.{IsReached, OwnsPage, RefusesOwner, RefusesReach}
use Rattle.mg_heap.specs.Reading.{IsSomeData, RefusesData, owner_in}
use Rattle.mg_heap.specs.Table.{FollowsPage, LeadsTo, RefusesPointer, link_damage}
use Rattle.mg_heap.specs.TableLaws.{entries_push, table_ends}
use Rattle.mg_heap.proofs.TableLemmas.{broken}

has_either : (xs ys : List ℕ) (n : ℕ) → Has (xs ++ ys) n → Has xs n ⊎ Has ys n
has_either [] ys n is = inr is
has_either (x ∷ xs) ys n (inl e) = inl (inl e)
has_either (x ∷ xs) ys n (inr later) = at (has_either xs ys n later)
  where
    at : Has xs n ⊎ Has ys n → Has (x ∷ xs) n ⊎ Has ys n
    at (inl is) = inl (inr is)
    at (inr is) = inr is

its_entries : (pages : Pages) (owner : ℕ) (pointers : List ℕ) (n next : ℕ) (fresh entries : List ℕ)
    → fresh ≡ [] → FollowsPage pages owner pointers n fresh entries next → entries ≡ entries_of (pages n)
its_entries pages owner pointers n next fresh entries none follows =
    follows.entries ∙ ap (λ (xs : List ℕ). xs ++ entries_of (pages n)) none

-- the page that was followed lists it
pub reaches : (pages : Pages) (owner : ℕ) (pointers new : List ℕ) (n next page : ℕ)
    (fresh entries : List ℕ) → LeadsTo pages owner pointers n → n ≢ 0 → fresh ≡ []
    → FollowsPage pages owner pointers n fresh entries next → new ≡ pointers ++ n ∷ []
    → Has entries page → IsReached pages owner page new
reaches pages owner pointers new n next page fresh entries leads some none follows listed has = record {
  before = pointers;
  last = n;
  are = listed;
  leads = leads;
  some = some;
  tested = follows.tested;
  entered = subst (λ (xs : List ℕ). Has xs page)
      (its_entries pages owner pointers n next fresh entries none follows) has;
}

-- the pages that were followed do not list it
pub none_further : (pages : Pages) (owner : ℕ) (pointers new : List ℕ) (n next page : ℕ)
    (fresh entries : List ℕ) → (Has (entries_in pages pointers) page → ⊥) → fresh ≡ []
    → FollowsPage pages owner pointers n fresh entries next → new ≡ pointers ++ n ∷ []
    → (Has entries page → ⊥) → Has (entries_in pages new) page → ⊥
none_further pages owner pointers new n next page fresh entries before none follows listed not_here has =
    at (has_either (entries_in pages pointers) (entries_of (pages n)) page
    (subst (λ (xs : List ℕ). Has xs page) (ap (entries_in pages) listed ∙ entries_push pages pointers n)
    has))
  where
    at : Has (entries_in pages pointers) page ⊎ Has (entries_of (pages n)) page → ⊥
    at (inl is) = before is
    at (inr is) = not_here (subst (λ (xs : List ℕ). Has xs page)
        (sym (its_entries pages owner pointers n next fresh entries none follows)) is)

pub is_not : (answer : Bool) (P : Type 0) → answer ≡ false → (P → answer ≡ true) → P → ⊥
is_not answer P is says holds = false≢true (sym is ∙ says holds)

-- no page of the chain lists it
pub is_unlisted : {D L : Type 0} (m : Meaning D) (store : Pool D L) (batch : List BatchPage)
    (pages : Pages) (owner : ℕ) (pointers : List ℕ) (n : ℕ) (page : PageNo) (damage : Damaged)
    → LeadsTo pages owner pointers n → n ≡ 0 → (Has (entries_in pages pointers) page.0 → ⊥)
    → damage ≡ link_damage page page.0 0
    → RefusesReach m store batch pages owner page (faults.Damaged damage)
is_unlisted m store batch pages owner pointers n page damage leads end none is = inr (
  record {
    pointers = pointers;
    data_pages = entries_in pages pointers;
    table = table_ends pages owner pointers (entries_in pages pointers) n leads end refl;
    not_there = none;
  },
  is,
)

-- a pointer page is not followed
pub breaks_off : {D L : Type 0} (m : Meaning D) (store : Pool D L) (batch : List BatchPage)
    (pages : Pages) (owner : ℕ) (pointers : List ℕ) (n page : PageNo) (fault : SpaceFault)
    → LeadsTo pages owner pointers n.0 → n.0 ≢ 0
    → RefusesPointer m store batch pages owner pointers n fault
    → RefusesReach m store batch pages owner page fault
breaks_off m store batch pages owner pointers n page (faults.Full limit) leads some refused = refused
breaks_off m store batch pages owner pointers n page (faults.Damaged damage) leads some refused =
    inl (broken m store batch pages owner pointers n (faults.Damaged damage) leads some refused)
breaks_off m store batch pages owner pointers n page (faults.Pool fault) leads some refused = tt

-- ---- the owner that a data page names

pub owns_seen : (page : PageNo) (b read slice : List ℕ) (owner : ℕ) → IsSomeData page read → read ≡ b
    → slice ≡ read → owner ≡ owner_in slice → OwnsPage page b owner
owns_seen page b read slice owner some seen same is = record {
  data_page = subst (IsSomeData page) seen some;
  is = is ∙ ap owner_in (same ∙ seen);
}

pub owner_refused : {D L : Type 0} (m : Meaning D) (store : Pool D L) (batch : List BatchPage)
    (page : PageNo) (b : List ℕ) (fault : SpaceFault) → RefusesData m store batch page b fault
    → RefusesOwner m store batch page b fault
owner_refused m store batch page b (faults.Full limit) refused = refused
owner_refused m store batch page b (faults.Damaged damage) refused = inl refused
owner_refused m store batch page b (faults.Pool fault) refused = tt
