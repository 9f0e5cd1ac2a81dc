-- A row that is written takes four pages at most beside its entries, and eighteen for each of these.
use Rattle.std.proofs.Common.{inl, inr, ◌≡◌, ◌≤◌, ◌+◌, ◌*◌, ◌++◌, refl, sym, subst, arith, ℕ, List, [], ◌∷◌, length}
use Rattle.mg_base.specs.Disk.{Meaning}
use Rattle.mg_base.specs.declared.numbers.RecId.{RecId}
use Rattle.mg_batches.specs.Batches.{nothing_yet}
use Rattle.mg_engine_change_laws.specs.entries.EnteredAllLaws.{no_more}
use Rattle.mg_entries.specs.Entries.{FailsAll}
use Rattle.mg_entry_tie_laws.specs.IndexPlaces.{HasRoot}
use Rattle.mg_entry_tie_laws.specs.Laws.{InsertionsAreThere, InsertionsTakeEighteen}
use Rattle.mg_free_page_laws.specs.RowSpending.{BatchLaws, first_spends, later_short, more_short, out_spends, over_spends, place_spends, replacing_spends}
use Rattle.mg_free_page_laws.specs.Spending.{IsNotShort, SpendsAtMost, ToldAreHeld}
use Rattle.mg_free_page_laws.specs.SpendingLaws.{both_spend, failing_short, failing_spends, more_spent, nothing_spent}
use Rattle.mg_image.specs.Form.{Row}
use Rattle.mg_image.specs.Indexes.{index_entry}
use Rattle.mg_model.specs.declared.table.Index.{Index}
use Rattle.mg_model.specs.declared.table.Table.{Table}
use Rattle.mg_pool.specs.declared.pool.Pool.{Pool}
use Rattle.mg_records.specs.declared.write.Write.{Write}
use Rattle.mg_records.specs.declared.write.Write.TheVariants as writes
use Rattle.mg_row_writes.specs.Changing.{FailsFirst, FailsOver, FailsReplacing, MakesFirst, PushesOver, ReplacesNewest}
use Rattle.mg_row_writes.specs.Laying.{EntersRow, EntersThen, FailsEntering, FailsLay, FailsThen, Lays, no_first, no_place, not_cleared, not_entered, not_pushed, not_put_in}
use Rattle.mg_row_writes.specs.declared.before.Way.{Way}
use Rattle.mg_row_writes.specs.declared.before.Way.TheVariants as ways
use Rattle.mg_space.specs.declared.fault.SpaceFault.{SpaceFault}
use Rattle.mg_space.specs.declared.links.FireLinks.{FireLinks}
use Rattle.mg_version.specs.declared.cell.Version.{Version}
use Rattle.mg_no_damage_laws.specs.EntryCalls.{TreesStandAlong, all_spend, entry_short, root_there}
use Rattle.mg_no_damage_laws.specs.EntryTrees.{StandsAtStarts}

-- one of some indexes stands behind fewer than there are
fewer_first : (first : List Index) (index : Index) (later : List Index) (all : List Index)
    → all ≡ first ++ index ∷ later → length first + 1 ≤ length all
fewer_first first index later all parts =
    subst (λ (xs : List Index). length first + 1 ≤ length xs) (sym parts) (within first)
  where
    within : (xs : List Index) → length xs + 1 ≤ length (xs ++ index ∷ later)
    within [] = omega arith
    within (x ∷ xs) = let more = within xs in omega (arith, more)

-- How many pages a call takes that fails, and that it is refused for want of more nowhere.
pub record FailsWithin {D : Type 0} (m : Meaning D) (before after : Pool D FireLinks) (spent most : ℕ)
    (fault : SpaceFault) : Type 0 where
  pub spends : SpendsAtMost m before after spent
  pub short : IsNotShort m before most fault

module _ {D : Type 0} (m : Meaning D) (holds : ToldAreHeld m) (laws : BatchLaws m) (eighteen : InsertionsTakeEighteen)
    (there : InsertionsAreThere) (table : Table) (write : Write) where
  -- ---- the entries

  -- the trees stand before each entry of a row, whichever it is
  abbrev Along : Pool D FireLinks → RecId → Type 0
  Along start rec = (row : Row) → TreesStandAlong m start table.indexes rec row

  of_entries : (w : Write) (before after : Pool D FireLinks) (rec : RecId) → Along before rec
      → EntersRow m before after table rec w → SpendsAtMost m before after (18 * length table.indexes)
  of_entries (writes.Insert row) before after rec along laid = all_spend m holds eighteen there table.indexes
      table.indexes [] rec row before after (sym (no_more table.indexes)) (along row) laid
  of_entries (writes.Change key row) before after rec along laid = all_spend m holds eighteen there table.indexes
      table.indexes [] rec row before after (sym (no_more table.indexes)) (along row) laid
  of_entries (writes.Erase key) before after rec along same = more_spent m before after 0 (18 * length table.indexes)
      (omega arith) (nothing_spent m before after same)

  -- and then a version
  then_spends : (before after : Pool D FireLinks) (rec : RecId) (most : ℕ) (puts : Pool D FireLinks → Type 0)
      → Along before rec → ((e : Pool D FireLinks) → puts e → SpendsAtMost m e after most)
      → EntersThen m before table rec write puts → SpendsAtMost m before after (18 * length table.indexes + most)
  then_spends before after rec most puts along each it = both_spend m holds before it.entered after
      (18 * length table.indexes) most (of_entries write before it.entered rec along it.enters) (each it.entered it.lays)

  -- in some indexes, and not in the next
  all_fail : (before after : Pool D FireLinks) (rec : RecId) (row : Row) (fault : SpaceFault)
      → TreesStandAlong m before table.indexes rec row → FailsAll m table.indexes rec row before after fault
      → FailsWithin m before after (18 * length table.indexes) (18 * length table.indexes) fault
  all_fail before after rec row fault along fails =
      let few = fewer_first fails.first fails.index fails.later table.indexes fails.parts in
      let first = all_spend m holds eighteen there table.indexes fails.first (fails.index ∷ fails.later) rec row before
      fails.mid fails.parts along fails.laid in record {
        spends = more_spent m before after (18 * length fails.first + 0) (18 * length table.indexes) (omega (arith, few))
            (both_spend m holds before fails.mid after (18 * length fails.first) 0 first
            (failing_spends m holds fails.mid after _ _ fault fails.refused));
        short = more_short m holds laws before (18 + 18 * length fails.first) (18 * length table.indexes) fault
            (omega (arith, few)) (later_short m holds laws before fails.mid (18 * length fails.first) 18 fault first
            (entry_short m holds eighteen there fails.mid after table.indexes fails.index.root.0
            (index_entry fails.index rec row) fault
            (along fails.first (fails.index ∷ fails.later) fails.mid fails.parts fails.laid)
            (subst (λ (xs : List Index). HasRoot xs fails.index.root.0) (sym fails.parts)
            (root_there fails.first fails.index fails.later)) fails.refused));
      }

  entries_fail : (w : Write) (before after : Pool D FireLinks) (rec : RecId) (fault : SpaceFault) → Along before rec
      → FailsEntering m before after table rec w fault
      → FailsWithin m before after (18 * length table.indexes) (18 * length table.indexes) fault
  entries_fail (writes.Insert row) before after rec fault along fails =
      all_fail before after rec row fault (along row) fails
  entries_fail (writes.Change key row) before after rec fault along fails =
      all_fail before after rec row fault (along row) fails
  entries_fail (writes.Erase key) before after rec fault along never = absurd never

  -- or in all, and the version is not put
  then_fails : (before after : Pool D FireLinks) (rec : RecId) (most : ℕ) (fails : Pool D FireLinks → SpaceFault → Type 0)
      (fault : SpaceFault) → Along before rec
      → ((e : Pool D FireLinks) → fails e fault → FailsWithin m e after 0 most fault)
      → FailsThen m before after table rec write fails fault
      → FailsWithin m before after (18 * length table.indexes) (most + 18 * length table.indexes) fault
  then_fails before after rec most fails fault along each (not_entered it) =
      let all = entries_fail write before after rec fault along it in record {
        spends = all.spends;
        short = more_short m holds laws before (18 * length table.indexes) (most + 18 * length table.indexes) fault
            (omega arith) all.short;
      }
  then_fails before after rec most fails fault along each (not_put_in entered enters it) =
      let first = of_entries write before entered rec along enters in
      let last = each entered it in record {
        spends = more_spent m before after (18 * length table.indexes + 0) (18 * length table.indexes) (omega arith)
            (both_spend m holds before entered after (18 * length table.indexes) 0 first last.spends);
        short = later_short m holds laws before entered (18 * length table.indexes) most fault first last.short;
      }

  -- ---- a version is laid

  pub lay_takes : (before after : Pool D FireLinks) (way : Way) (v : Version) → StandsAtStarts m before table way
      → Lays m before after table way write v → SpendsAtMost m before after (4 + 18 * length table.indexes)
  lay_takes before after ways.Make v starts it = more_spent m before after (2 + (18 * length table.indexes + 2))
      (4 + 18 * length table.indexes) (omega arith) (both_spend m holds before it.placed after 2
      (18 * length table.indexes + 2) (place_spends m holds laws before it.placed table.pointer.0 it.at it.takes)
      (then_spends it.placed after it.at 2 (λ e. MakesFirst m e after table.pointer.0 it.at v)
      (starts.at_placed refl it.placed it.at it.takes)
      (λ e own. first_spends m holds laws e after table.pointer.0 it.at v own) it.makes))
  lay_takes before after (ways.Push rec) v starts it = more_spent m before after (18 * length table.indexes + 2)
      (4 + 18 * length table.indexes) (omega arith) (then_spends before after rec 2 (λ e. PushesOver m e after rec v)
      (starts.at_read rec (inl refl)) (λ e own. over_spends m holds laws e after rec v own) it)
  lay_takes before after (ways.PushOverDead rec) v starts it = more_spent m before after
      (0 + (18 * length table.indexes + 2)) (4 + 18 * length table.indexes) (omega arith)
      (both_spend m holds before it.cleared after 0 (18 * length table.indexes + 2)
      (out_spends m holds laws before it.cleared rec it.takes)
      (then_spends it.cleared after rec 2 (λ e. PushesOver m e after rec v)
      (starts.at_cleared rec refl it.cleared it.takes) (λ e own. over_spends m holds laws e after rec v own) it.pushes))
  lay_takes before after (ways.Replace rec) v starts it = more_spent m before after (18 * length table.indexes + 2)
      (4 + 18 * length table.indexes) (omega arith) (then_spends before after rec 2
      (λ e. ReplacesNewest m e after rec v) (starts.at_read rec (inr refl))
      (λ e own. replacing_spends m holds laws e after rec v own) it)

  -- ---- or it is not

  -- a version that is not put takes no page, and is refused for want of two
  first_fails : (e after : Pool D FireLinks) (at : RecId) (v : Version) (fault : SpaceFault)
      → FailsFirst m e after table.pointer.0 at v fault → FailsWithin m e after 0 2 fault
  first_fails e after at v fault fails = record {
    spends = failing_spends m holds e after _ _ fault fails;
    short = failing_short m e after _ _ 2 fault
        (λ image why. laws.making_there e after image nothing_yet table.pointer.0 at v fault why) fails;
  }

  over_fails : (e after : Pool D FireLinks) (rec : RecId) (v : Version) (fault : SpaceFault)
      → FailsOver m e after rec v fault → FailsWithin m e after 0 2 fault
  over_fails e after rec v fault fails = record {
    spends = failing_spends m holds e after _ _ fault fails;
    short = failing_short m e after _ _ 2 fault
        (λ image why. laws.push_there e after image nothing_yet rec v fault why) fails;
  }

  replacing_fails : (e after : Pool D FireLinks) (rec : RecId) (v : Version) (fault : SpaceFault)
      → FailsReplacing m e after rec v fault → FailsWithin m e after 0 2 fault
  replacing_fails e after rec v fault fails = record {
    spends = failing_spends m holds e after _ _ fault fails;
    short = failing_short m e after _ _ 2 fault
        (λ image why. laws.replacing_there e after image nothing_yet rec v fault why) fails;
  }

  -- so many at most, whichever way it was
  within_most : (before after : Pool D FireLinks) (spent most : ℕ) (fault : SpaceFault)
      → spent ≤ 4 + 18 * length table.indexes → most ≤ 4 + 18 * length table.indexes
      → FailsWithin m before after spent most fault
      → FailsWithin m before after (4 + 18 * length table.indexes) (4 + 18 * length table.indexes) fault
  within_most before after spent most fault less few it = record {
    spends = more_spent m before after spent (4 + 18 * length table.indexes) less it.spends;
    short = more_short m holds laws before most (4 + 18 * length table.indexes) fault few it.short;
  }

  -- after a first batch
  after_first : (before mid after : Pool D FireLinks) (first spent most : ℕ) (fault : SpaceFault)
      → SpendsAtMost m before mid first → FailsWithin m mid after spent most fault
      → FailsWithin m before after (first + spent) (most + first) fault
  after_first before mid after first spent most fault one it = record {
    spends = both_spend m holds before mid after first spent one it.spends;
    short = later_short m holds laws before mid first most fault one it.short;
  }

  pub lay_fails_within : (before after : Pool D FireLinks) (way : Way) (v : Version) (fault : SpaceFault)
      → StandsAtStarts m before table way → FailsLay m before after table way write v fault
      → FailsWithin m before after (4 + 18 * length table.indexes) (4 + 18 * length table.indexes) fault
  lay_fails_within before after ways.Make v fault starts (no_place fails) =
      within_most before after 0 2 fault (omega arith) (omega arith) (record {
        spends = failing_spends m holds before after _ _ fault fails;
        short = failing_short m before after _ _ 2 fault
            (λ image why. laws.spot_there before after image nothing_yet table.pointer.0 fault why) fails;
      })
  lay_fails_within before after ways.Make v fault starts (no_first at placed takes fails) =
      within_most before after (2 + 18 * length table.indexes) (2 + 18 * length table.indexes + 2) fault (omega arith)
      (omega arith) (after_first before placed after 2 (18 * length table.indexes) (2 + 18 * length table.indexes) fault
      (place_spends m holds laws before placed table.pointer.0 at takes)
      (then_fails placed after at 2 (λ e given. FailsFirst m e after table.pointer.0 at v given) fault
      (starts.at_placed refl placed at takes) (λ e own. first_fails e after at v fault own) fails))
  lay_fails_within before after (ways.Push rec) v fault starts fails = within_most before after
      (18 * length table.indexes) (2 + 18 * length table.indexes) fault (omega arith) (omega arith)
      (then_fails before after rec 2 (λ e given. FailsOver m e after rec v given) fault (starts.at_read rec (inl refl))
      (λ e own. over_fails e after rec v fault own) fails)
  lay_fails_within before after (ways.PushOverDead rec) v fault starts (not_cleared fails) =
      within_most before after 0 0 fault (omega arith) (omega arith) (record {
        spends = failing_spends m holds before after _ _ fault fails;
        short = failing_short m before after _ _ 0 fault
            (λ image why. laws.out_there before after image nothing_yet rec fault why) fails;
      })
  lay_fails_within before after (ways.PushOverDead rec) v fault starts (not_pushed cleared takes fails) =
      within_most before after (0 + 18 * length table.indexes) (2 + 18 * length table.indexes + 0) fault (omega arith)
      (omega arith) (after_first before cleared after 0 (18 * length table.indexes) (2 + 18 * length table.indexes) fault
      (out_spends m holds laws before cleared rec takes)
      (then_fails cleared after rec 2 (λ e given. FailsOver m e after rec v given) fault
      (starts.at_cleared rec refl cleared takes) (λ e own. over_fails e after rec v fault own) fails))
  lay_fails_within before after (ways.Replace rec) v fault starts fails = within_most before after
      (18 * length table.indexes) (2 + 18 * length table.indexes) fault (omega arith) (omega arith)
      (then_fails before after rec 2 (λ e given. FailsReplacing m e after rec v given) fault (starts.at_read rec (inr refl))
      (λ e own. replacing_fails e after rec v fault own) fails)
