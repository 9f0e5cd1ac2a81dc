-- The pages of a table: the chain of its pointer pages, and the data pages that they list.
use Rattle.std.specs.Prelude.{◌≡◌, ◌-◌, ◌≢◌, ◌<◌, ◌≤◌, ◌⊎◌, ℕ, List, [], ◌∷◌, ◌++◌, length, Some, Err}
use Rattle.mg_base.specs.Checks.{PassesAll, verdict}
use Rattle.mg_base.specs.Disk.{Meaning}
use Rattle.mg_base.specs.declared.damage.Damaged.{Damaged}
use Rattle.mg_base.specs.declared.damage.Field.TheVariants.{Link}
use Rattle.mg_base.specs.declared.geometry.TheConstants.{GREATEST_LIMIT}
use Rattle.mg_base.specs.declared.numbers.PageNo.{PageNo}
use Rattle.mg_image.specs.Form.{Pages}
use Rattle.mg_image.specs.Tables.{EachFrom, Has, PointerChain, entries_in}
use Rattle.mg_pointer.specs.PointerPage.{IsPointerPage, entries_of, next_in, pointer_checks}
use Rattle.mg_pool.specs.declared.batch.BatchPage.{BatchPage}
use Rattle.mg_pool.specs.declared.pool.Pool.{Pool}
use Rattle.mg_space.specs.Lawful.{readable}
use Rattle.mg_space.specs.declared.fault.SpaceFault.{SpaceFault}
use Rattle.mg_space.specs.declared.fault.SpaceFault.TheVariants as faults
use Rattle.mg_heap.specs.Reading.{IsAbsence}

-- a page is the pointer page of an owner at a place of its chain
abbrev pub IsPointerAt : Pages → ℕ → ℕ → ℕ → Type 0
IsPointerAt pages owner at n = PassesAll (pointer_checks (pages n) n owner at)

-- The pages of a table: its chain of pointer pages, each of them as wanted at its place, and the
-- data pages that they list. That the listed pages are data pages is not said.
pub record IsTable (pages : Pages) (owner : ℕ) (pointers data_pages : List ℕ) : Type 0 where
  pub chain : PointerChain pages owner pointers
  pub tested : EachFrom (IsPointerAt pages owner) 0 pointers
  pub entries : data_pages ≡ entries_in pages pointers

-- the pages from one on, each followed by the one that it names as the next, up to another
pub data LinkRun (next : ℕ → ℕ) : ℕ → List ℕ → ℕ → Type 0 where
  none : (n : ℕ) → LinkRun next n [] n
  more : (n m : ℕ) (ns : List ℕ) → n ≢ 0 → LinkRun next (next n) ns m → LinkRun next n (n ∷ ns) m

-- The first pointer pages of a table, and the page that they lead to.
pub record LeadsTo (pages : Pages) (owner : ℕ) (pointers : List ℕ) (n : ℕ) : Type 0 where
  pub run : LinkRun (λ m. next_in (pages m)) owner pointers n
  pub tested : EachFrom (IsPointerAt pages owner) 0 pointers

-- a page names a page that it must not: found is that page, wanted the limit or 0
abbrev pub link_damage : PageNo → ℕ → ℕ → Damaged
link_damage page found wanted =
    record { page = page; field = Link; found = found; wanted = wanted }

-- A pointer page names the next one: it is below the limit of every database, and none of those
-- before it, unless it is none at all.
pub record LinksTo (b : List ℕ) (pointers : List ℕ) (next : ℕ) : Type 0 where
  pub next_is : next ≡ next_in b
  pub below : next < GREATEST_LIMIT
  pub new_one : next ≢ 0 → Has pointers next → ⊥

-- a pointer page leads past the last page that a database may have, or back to one of the chain
pub data IsLinkDamage (n : PageNo) (b : List ℕ) (pointers : List ℕ) : Damaged → Type 0 where
  past : GREATEST_LIMIT ≤ next_in b
      → IsLinkDamage n b pointers (link_damage n (next_in b) (GREATEST_LIMIT - 1))
  back : next_in b ≢ 0 → Has pointers (next_in b)
      → IsLinkDamage n b pointers (link_damage n (next_in b) 0)

-- a pointer page behind others is not as wanted at its place, or leads where it must not
pub data IsPointerDamage (pages : Pages) (owner : ℕ) (pointers : List ℕ) (n : PageNo)
    : Damaged → Type 0 where
  unlike : (damage : Damaged)
      → verdict n (pointer_checks (pages n.0) n.0 owner (length pointers)) ≡ Err damage
      → IsPointerDamage pages owner pointers n damage
  misled : (damage : Damaged) → IsPointerAt pages owner (length pointers) n.0
      → IsLinkDamage n (pages n.0) (pointers ++ n.0 ∷ []) damage
      → IsPointerDamage pages owner pointers n damage

-- why a page with these bytes is not read as the pointer page of an owner at a place, but for faults
-- of the cache
abbrev pub RefusesPointerPage : {D L : Type 0} → Meaning D → Pool D L → List BatchPage → List ℕ → ℕ → ℕ
    → PageNo → SpaceFault → Type 0
RefusesPointerPage m store batch b owner at n (faults.Full limit) = ⊥
RefusesPointerPage m store batch b owner at n (faults.Damaged damage) =
    IsAbsence m store batch n damage ⊎ (verdict n (pointer_checks b n.0 owner at) ≡ Err damage)
RefusesPointerPage m store batch b owner at n (faults.Pool fault) = Unit {0}

-- a page is readable, and is the pointer page of an owner at a place of its chain
pub record HoldsPointer {D L : Type 0} (store : Pool D L) (batch : List BatchPage) (owner at : ℕ)
    (n : PageNo) : Type 0 where
  pub bytes : List ℕ
  pub read : readable store batch n.0 ≡ Some bytes
  pub tested : PassesAll (pointer_checks bytes n.0 owner at)
  pub lawful : IsPointerPage bytes

-- why a pointer page is not followed, but for faults of the cache
abbrev pub RefusesPointer : {D L : Type 0} → Meaning D → Pool D L → List BatchPage → Pages → ℕ
    → List ℕ → PageNo → SpaceFault → Type 0
RefusesPointer m store batch pages owner pointers n (faults.Full limit) = ⊥
RefusesPointer m store batch pages owner pointers n (faults.Damaged damage) =
    IsAbsence m store batch n damage ⊎ IsPointerDamage pages owner pointers n damage
RefusesPointer m store batch pages owner pointers n (faults.Pool fault) = Unit {0}

-- A chain of pointer pages leads to one that is not followed.
pub record IsBrokenChain {D L : Type 0} (m : Meaning D) (store : Pool D L) (batch : List BatchPage)
    (pages : Pages) (owner : ℕ) (fault : SpaceFault) : Type 0 where
  pub pointers : List ℕ
  pub page : PageNo
  pub leads : LeadsTo pages owner pointers page.0
  pub some : page.0 ≢ 0
  pub refused : RefusesPointer m store batch pages owner pointers page fault

-- why the pages of a table are not found, but for faults of the cache: its chain is broken
abbrev pub RefusesTable : {D L : Type 0} → Meaning D → Pool D L → List BatchPage → Pages → ℕ
    → SpaceFault → Type 0
RefusesTable m store batch pages owner (faults.Full limit) = ⊥
RefusesTable m store batch pages owner (faults.Damaged damage) =
    IsBrokenChain m store batch pages owner (faults.Damaged damage)
RefusesTable m store batch pages owner (faults.Pool fault) = Unit {0}

-- One pointer page more has been followed: its entries stand behind those of the pages before it.
pub record FollowsPage (pages : Pages) (owner : ℕ) (pointers : List ℕ) (n : ℕ)
    (old new : List ℕ) (next : ℕ) : Type 0 where
  pub tested : IsPointerAt pages owner (length pointers) n
  pub entries : new ≡ old ++ entries_of (pages n)
  pub next_is : next ≡ next_in (pages n)

-- The page is listed, and the next one is new, unless there is none.
pub record ListsPage (old new : List ℕ) (n next : ℕ) : Type 0 where
  pub listed : new ≡ old ++ n ∷ []
  pub below : next < GREATEST_LIMIT
  pub new_one : next ≢ 0 → Has new next → ⊥
