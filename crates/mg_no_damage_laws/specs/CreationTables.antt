-- A new table is made on the pages, or is not: what the catalog got in the tries before, its rows need not take.
use Rattle.std.proofs.Common.{◌≡◌, ◌∙◌, ◌≤◌, ◌+◌, ◌-◌, ◌*◌, ℕ, List, length, sym, subst, arith}
use Rattle.mg_base.specs.Disk.{Meaning}
use Rattle.mg_base.specs.Image.{Image}
use Rattle.mg_model.specs.declared.table.Table.{Table}
use Rattle.mg_no_damage_laws.specs.CatalogGrowth.{HasGrown, rows_count}
use Rattle.mg_space.specs.FreePages.{TakingKeepsRegions}
use Rattle.mg_pool.specs.Batch.{Changed, IsLawful}
use Rattle.mg_pool.specs.declared.pool.Pool.{Pool}
use Rattle.mg_batches.specs.Batches.{ChangesOwn, FailsOwn, not_changed, not_filled, not_lawful, nothing_yet}
use Rattle.mg_space.specs.Taking.{IsGeometry}
use Rattle.mg_space.specs.View.{Tells}
use Rattle.mg_space.specs.declared.fault.SpaceFault.{SpaceFault}
use Rattle.mg_space.specs.declared.fault.SpaceFault.TheVariants as faults
use Rattle.mg_space.specs.declared.links.FireLinks.{FireLinks}
use Rattle.mg_table_batch.specs.Filling.{FillsTable, rows_at}
use Rattle.mg_table_batch.specs.Making.{FailsAtOnce, FailsGrowth, FailsTable, GrowsAsWanted, MakesAtOnce, MakesTable, WantsPage, at_try, most_pages, no_page, not_at_once, wants_more}
use Rattle.mg_table_batch.specs.Refusals.{RefusesTable}
use Rattle.mg_value.specs.declared.shape.Shape.{Shape}
use Rattle.mg_no_damage_laws.specs.CreationRefusals.{filling_there}
use Rattle.mg_no_damage_laws.specs.CreationRows.{filling_takes}
use Rattle.mg_free_page_laws.specs.FreeLaws.{fewer}
use Rattle.mg_free_page_laws.specs.GrowthLaws.{room_takes, room_there}
use Rattle.mg_free_page_laws.specs.RowSpending.{BatchLaws, later_short}
use Rattle.mg_free_page_laws.specs.Spending.{IsNotShort, SpendsAtMost, ToldAreHeld}
use Rattle.mg_free_page_laws.specs.SpendingLaws.{both_spend, failing_short, failing_spends, more_spent, own_spends, read_spends}
use Rattle.mg_free_page_laws.specs.TableSpending.{growths_spend}

-- ---- a batch of its own, over an image that the disk tells

module _ {D : Type 0} (m : Meaning D) (before after : Pool D FireLinks) (fills : Image → Changed → Type 0) where
  told_own : ChangesOwn m before after fills
      → ChangesOwn m before after (λ image batch. Tells m before.disk image × fills image batch)
  told_own own = record {
    batch = own.batch;
    ready = own.ready;
    keeps = own.keeps;
    online = own.online;
    filled = λ image tells. (tells, own.filled image tells);
    changed = own.changed;
  }

  told_failing : (refuses : Image → SpaceFault → Type 0) (fault : SpaceFault)
      → FailsOwn m before after fills refuses fault
      → FailsOwn m before after fills (λ image f. Tells m before.disk image × refuses image f) fault
  told_failing refuses fault (not_filled kept alone told why) =
      not_filled kept alone told (λ image tells. (tells, why image tells))
  told_failing refuses fault (not_changed batch ready kept online filled failed) =
      not_changed batch ready kept online filled failed

module _ (keeps : TakingKeepsRegions) {D : Type 0} (m : Meaning D) (holds : ToldAreHeld m) (laws : BatchLaws m)
    (catalog : Table) (t : ℕ) (name : List ℕ) (shape : Shape) where
  -- where so many pages are free, fewer are
  short_more : (before : Pool D FireLinks) (few many : ℕ) (fault : SpaceFault) → few ≤ many
      → IsNotShort m before few fault → IsNotShort m before many fault
  short_more before few many fault less short lawful i tells regions has =
      short lawful i tells regions (fewer before.geometry _ many few less has)

  -- what its rows take at most, where so many data pages of the catalog are empty: four pages each, but two less for
  -- each of these
  abbrev rows_take : ℕ → ℕ
  rows_take count = 4 * (length shape.columns + 1) - 2 * count

  rows_enough : (count page : ℕ) → 4 * length (rows_at name shape page) ≤ rows_take count + 2 * count
  rows_enough count page = let each = rows_count name shape page in omega (arith, each)

  -- ---- one batch has all of it

  module _ (count : ℕ) (grown : Pool D FireLinks) (lawful : IsGeometry grown.geometry)
      (has : HasGrown m grown catalog t name shape count) where
    made_spends : (after : Pool D FireLinks) → MakesAtOnce m catalog t name shape grown after
        → SpendsAtMost m grown after (1 + rows_take count)
    made_spends after makes = own_spends m grown after
        (λ image batch. Tells m grown.disk image × FillsTable grown image catalog t name shape nothing_yet batch)
        (1 + rows_take count) (λ image batch it lawful_. filling_takes keeps m laws grown image lawful_
        catalog t name shape count (rows_take count) nothing_yet batch it.1 (has.short it.1.page)
        (has.empty image it.0 it.1.begun it.1.page it.1.takes) (rows_enough count it.1.page))
        (told_own m grown after (λ image batch. FillsTable grown image catalog t name shape nothing_yet batch) makes)

    -- or it has not
    unmade_short : (after : Pool D FireLinks) (fault : SpaceFault)
        → FailsAtOnce m catalog t name shape grown after fault → IsNotShort m grown (rows_take count + 4 + 1) fault
    unmade_short after fault fails = failing_short m grown after _
        (λ image f. Tells m grown.disk image × RefusesTable m grown after image catalog t name shape nothing_yet f)
        (rows_take count + 4 + 1) fault (λ image why lawful_. filling_there keeps m laws catalog t image grown
        after name shape nothing_yet fault count (rows_take count) lawful_ has.short (rows_enough count)
        (has.empty image why.0) why.1)
        (told_failing m grown after
        (λ image batch. FillsTable grown image catalog t name shape nothing_yet batch
        × IsLawful grown.geometry.size batch.pages batch.orders)
        (λ image f. RefusesTable m grown after image catalog t name shape nothing_yet f) fault fails)

  -- ---- the tries before it

  module _ (before : Pool D FireLinks) (lawful : IsGeometry before.geometry)
      (grow : (count : ℕ) (grown : Pool D FireLinks) → GrowsAsWanted m catalog t name shape count before grown
      → HasGrown m grown catalog t name shape count) where
    tries_spend : (count : ℕ) (grown : Pool D FireLinks) → GrowsAsWanted m catalog t name shape count before grown
        → SpendsAtMost m before grown (2 * count)
    tries_spend count grown grows =
        growths_spend m holds (room_takes keeps D) catalog t name shape count before grown grows

    grown_lawful : (count : ℕ) (grown : Pool D FireLinks) → GrowsAsWanted m catalog t name shape count before grown
        → IsGeometry grown.geometry
    grown_lawful count grown grows = subst IsGeometry (sym (tries_spend count grown grows).geometry) lawful

    -- its first page, and four for each row
    pub table_spends : (after : Pool D FireLinks) → MakesTable m catalog t name shape before after
        → SpendsAtMost m before after (1 + 4 * (length shape.columns + 1))
    table_spends after it =
        let has = grow it.count it.grown it.grows in
        let few = has.few in
        more_spent m before after (2 * it.count + (1 + rows_take it.count)) (1 + 4 * (length shape.columns + 1))
        (omega (arith, few))
        (both_spend m holds before it.grown after (2 * it.count) (1 + rows_take it.count)
        (tries_spend it.count it.grown it.grows)
        (made_spends it.count it.grown (grown_lawful it.count it.grown it.grows) has after it.makes))

    -- ---- it is not made

    module _ (after : Pool D FireLinks) (fault : SpaceFault) (most : ℕ)
        (enough : 5 + 4 * (length shape.columns + 1) ≤ most) where
      -- the batch is not filled, or not changed
      at_once : (count : ℕ) (grown : Pool D FireLinks) → GrowsAsWanted m catalog t name shape count before grown
          → FailsAtOnce m catalog t name shape grown after fault
          → SpendsAtMost m before after most × IsNotShort m before most fault
      at_once count grown grows fails =
          let spent = tries_spend count grown grows in
          let has = grow count grown grows in
          let few = has.few in (
            more_spent m before after (2 * count + 0) most (omega (arith, few, enough))
                (both_spend m holds before grown after (2 * count) 0 spent
                (failing_spends m holds grown after _ _ fault fails)),
            short_more before (rows_take count + 4 + 1 + 2 * count) most fault (omega (arith, few, enough))
                (later_short m holds laws before grown (2 * count) (rows_take count + 4 + 1) fault spent
                (unmade_short count grown (grown_lawful count grown grows) has after fault fails)),
          )

      -- the catalog wants one more data page, and gets none
      no_more : (count : ℕ) (grown ready : Pool D FireLinks) → GrowsAsWanted m catalog t name shape count before grown
          → WantsPage m catalog t name shape grown ready → FailsGrowth m ready after catalog.pointer.0 fault
          → SpendsAtMost m before after most × IsNotShort m before most fault
      no_more count grown ready grows wants fails =
          let spent = both_spend m holds before grown ready (2 * count) 0 (tries_spend count grown grows)
          (read_spends m grown ready wants.keeps) in
          let has = grow count grown grows in
          let few = has.few in (
            more_spent m before after (2 * count + 0 + 0) most (omega (arith, few, enough))
                (both_spend m holds before ready after (2 * count + 0) 0 spent
                (failing_spends m holds ready after _ _ fault fails)),
            short_more before (2 + (2 * count + 0)) most fault (omega (arith, few, enough))
                (later_short m holds laws before ready (2 * count + 0) 2 fault spent
                (failing_short m ready after _ _ 2 fault
                (λ image why. room_there keeps m ready after image nothing_yet catalog.pointer.0 fault why) fails)),
          )

      pub table_fails : FailsTable m catalog t name shape before after fault
          → SpendsAtMost m before after most × IsNotShort m before most fault
      table_fails (at_try grown count grows (not_at_once fails)) = at_once count grown grows fails
      table_fails (at_try grown count grows (no_page ready wants fails)) =
          no_more count grown ready grows wants fails
      table_fails (wants_more grows is) =
          let has = grow most_pages after grows in
          let few = has.few in (
            more_spent m before after (2 * most_pages) most (omega (arith, few, enough))
                (tries_spend most_pages after grows),
            (λ lawful_ i tells regions has_ limit full.
                let both : faults.Full limit ≡ faults.Damaged not_lawful = sym full ∙ is in absurd cc),
          )
