-- A table is made on the pages: the catalog gets the pages that it needs, and then one batch has all of the table.
use Rattle.std.specs.Prelude.{◌≡◌, ◌+◌, ◌*◌, ℕ, Bool, true, false, List}
use Rattle.mg_base.specs.Disk.{Meaning}
use Rattle.mg_base.specs.Image.{Image}
use Rattle.mg_base.specs.declared.numbers.PageNo.{PageNo}
use Rattle.mg_heap.specs.Room.{GivesRoom, RefusesRoom}
use Rattle.mg_model.specs.declared.table.Table.{Table}
use Rattle.mg_pool.specs.Batch.{Changed, IsLawful}
use Rattle.mg_pool.specs.Fault.{StaysOnline}
use Rattle.mg_pool.specs.declared.pool.Pool.{Pool}
use Rattle.mg_batches.specs.Batches.{ChangesOwn, FailsOwn, not_lawful, nothing_yet}
use Rattle.mg_space.specs.View.{KeepsStore, Tells}
use Rattle.mg_space.specs.declared.fault.SpaceFault.{SpaceFault}
use Rattle.mg_space.specs.declared.fault.SpaceFault.TheVariants as faults
use Rattle.mg_space.specs.declared.links.FireLinks.{FireLinks}
use Rattle.mg_value.specs.declared.shape.Shape.{Shape}
use Rattle.mg_value.specs.declared.shape.TheConstants.{MOST_COLUMNS}
use Rattle.mg_table_batch.specs.Filling.{FillsTable}
use Rattle.mg_table_batch.specs.Refusals.{RefusesTable}

-- How many pages the rows of one table want at most: each of its rows and of its columns' wants one for its slot and
-- one for its version.
abbrev pub most_pages : ℕ
most_pages = 2 * (MOST_COLUMNS + 1)

-- A table gets a data page more, in a batch of its own: no data page has room for a whole page.
abbrev pub Grows : {D : Type 0} → Meaning D → Pool D FireLinks → Pool D FireLinks → ℕ → Type 0
Grows m before after owner = ChangesOwn m before after
    (λ image batch. (n : PageNo) × GivesRoom before image nothing_yet batch owner before.geometry.size n)

abbrev pub FailsGrowth : {D : Type 0} → Meaning D → Pool D FireLinks → Pool D FireLinks → ℕ → SpaceFault → Type 0
FailsGrowth m before after owner fault = FailsOwn m before after
    (λ image batch. (n : PageNo) × GivesRoom before image nothing_yet batch owner before.geometry.size n)
    (λ image f. RefusesRoom m before after image nothing_yet owner f) fault

module _ {D : Type 0} (m : Meaning D) (catalog : Table) (t : ℕ) (name : List ℕ) (shape : Shape) where
  -- The table was put into a batch, which is not lawful: the catalog has too few pages, and where it gets one
  -- within the batch, a row comes to stand on that. Pages were only read: then the cache is `ready`.
  pub record WantsPage (before ready : Pool D FireLinks) : Type 0 where
    pub batch : Changed
    pub keeps : KeepsStore m before ready
    pub online : StaysOnline m before ready
    pub filled : (image : Image) → Tells m before.disk image
        → FillsTable before image catalog t name shape nothing_yet batch
    pub unlawful : IsLawful before.geometry.size batch.pages batch.orders → ⊥

  -- it gets one
  pub record GetsWanted (before after : Pool D FireLinks) : Type 0 where
    pub ready : Pool D FireLinks
    pub wants : WantsPage before ready
    pub grows : Grows m ready after catalog.pointer.0

  -- the catalog gets so many data pages, one after another, and each time it wants one
  pub data GrowsAsWanted : ℕ → Pool D FireLinks → Pool D FireLinks → Type 0 where
    has_enough : (store : Pool D FireLinks) → GrowsAsWanted 0 store store
    gets_one : (count : ℕ) (a b c : Pool D FireLinks) → GrowsAsWanted count a b → GetsWanted b c
        → GrowsAsWanted (count + 1) a c

  -- all of the table is in one batch, which the cache has changed
  abbrev pub MakesAtOnce : Pool D FireLinks → Pool D FireLinks → Type 0
  MakesAtOnce before after = ChangesOwn m before after
      (λ image batch. FillsTable before image catalog t name shape nothing_yet batch)

  -- it does not come into one batch; or into a lawful one, which the cache has not changed
  abbrev pub FailsAtOnce : Pool D FireLinks → Pool D FireLinks → SpaceFault → Type 0
  FailsAtOnce before after fault = FailsOwn m before after
      (λ image batch. FillsTable before image catalog t name shape nothing_yet batch
      × IsLawful before.geometry.size batch.pages batch.orders)
      (λ image f. RefusesTable m before after image catalog t name shape nothing_yet f) fault

  -- one try: the table is made, or the catalog gets a page
  abbrev pub MakesTry : Pool D FireLinks → Pool D FireLinks → Bool → Type 0
  MakesTry before after true = MakesAtOnce before after
  MakesTry before after false = GetsWanted before after

  pub data FailsTry (before after : Pool D FireLinks) (fault : SpaceFault) : Type 0 where
    not_at_once : FailsAtOnce before after fault → FailsTry before after fault
    no_page : (ready : Pool D FireLinks) → WantsPage before ready
        → FailsGrowth m ready after catalog.pointer.0 fault → FailsTry before after fault

  -- A table is made. Before that the catalog gets the data pages that it wants: then the cache is `grown`.
  pub record MakesTable (before after : Pool D FireLinks) : Type 0 where
    pub grown : Pool D FireLinks
    pub count : ℕ
    pub grows : GrowsAsWanted count before grown
    pub makes : MakesAtOnce grown after

  -- Why it is not: the table does not come into one batch, or that is not changed; the catalog wants a page, and
  -- gets none; or it has got as many as the rows of one table ever want, and wants more. Pages that it got stay,
  -- and hold nothing.
  pub data FailsTable (before after : Pool D FireLinks) (fault : SpaceFault) : Type 0 where
    at_try : (grown : Pool D FireLinks) (count : ℕ) → GrowsAsWanted count before grown → FailsTry grown after fault
        → FailsTable before after fault
    wants_more : GrowsAsWanted most_pages before after → fault ≡ faults.Damaged not_lawful → FailsTable before after fault
