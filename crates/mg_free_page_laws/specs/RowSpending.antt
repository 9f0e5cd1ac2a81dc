-- A row that is written into a table without indexes takes four pages at most: two for its place, two for its version.
use Rattle.std.proofs.Common.{◌≤◌, ◌+◌, ℕ, sym, subst, arith}
use Rattle.mg_base.specs.Disk.{Meaning}
use Rattle.mg_base.specs.declared.geometry.Geometry.{Geometry}
use Rattle.mg_base.specs.declared.numbers.RecId.{RecId}
use Rattle.mg_pool.specs.Pool.{shown}
use Rattle.mg_pool.specs.declared.pool.Pool.{Pool}
use Rattle.mg_batches.specs.Batches.{nothing_yet}
use Rattle.mg_row_writes.specs.Changing.{MakesFirst, PushesOver, ReplacesNewest, TakesNewestOut, TakesPlace}
use Rattle.mg_row_writes.specs.Bare.{BareFails, BareLays, no_first_there, no_place_there, not_out, not_over}
use Rattle.mg_row_writes.specs.declared.before.Way.{Way}
use Rattle.mg_row_writes.specs.declared.before.Way.TheVariants as ways
use Rattle.mg_space.specs.Taking.{IsGeometry}
use Rattle.mg_space.specs.declared.fault.SpaceFault.{SpaceFault}
use Rattle.mg_space.specs.declared.links.FireLinks.{FireLinks}
use Rattle.mg_version.specs.declared.cell.Version.{Version}
use Rattle.mg_space.specs.FreePages.{HasRegions}
use Rattle.mg_free_page_laws.specs.BatchStages.{MakingIsThere, MakingTakes, OutIsThere, OutTakesNone, PushIsThere, PushTakes, ReplacingIsThere, ReplacingTakes, SpotIsThere, SpotTakes}
use Rattle.mg_space.specs.FreePages.{HasFree}
use Rattle.mg_free_page_laws.specs.FreeLaws.{fewer}
use Rattle.mg_free_page_laws.specs.Spending.{IsNotShort, SpendsAtMost, ToldAreHeld}
use Rattle.mg_free_page_laws.specs.SpendingLaws.{both_spend, failing_short, failing_spends, more_spent, own_spends}

-- the laws of batches
pub record BatchLaws {D : Type 0} (m : Meaning D) : Type 0 where
  pub spot_takes : SpotTakes D
  pub making_takes : MakingTakes D
  pub push_takes : PushTakes D
  pub replacing_takes : ReplacingTakes D
  pub out_takes : OutTakesNone D
  pub spot_there : SpotIsThere m
  pub making_there : MakingIsThere m
  pub push_there : PushIsThere m
  pub replacing_there : ReplacingIsThere m
  pub out_there : OutIsThere m

module _ {D : Type 0} (m : Meaning D) (holds : ToldAreHeld m) (laws : BatchLaws m) where
  -- ---- one batch

  pub place_spends : (before after : Pool D FireLinks) (owner : ℕ) (at : RecId) → TakesPlace m before after owner at
      → SpendsAtMost m before after 2
  place_spends before after owner at own = own_spends m before after _ 2
      (λ image batch gives. laws.spot_takes before image nothing_yet batch owner at gives) own

  pub first_spends : (before after : Pool D FireLinks) (owner : ℕ) (at : RecId) (v : Version)
      → MakesFirst m before after owner at v → SpendsAtMost m before after 2
  first_spends before after owner at v own = own_spends m before after _ 2
      (λ image batch makes. laws.making_takes before image nothing_yet batch owner at v makes) own

  pub over_spends : (before after : Pool D FireLinks) (rec : RecId) (v : Version) → PushesOver m before after rec v
      → SpendsAtMost m before after 2
  over_spends before after rec v own = own_spends m before after _ 2
      (λ image batch pushes. laws.push_takes before image nothing_yet batch rec v pushes) own

  pub replacing_spends : (before after : Pool D FireLinks) (rec : RecId) (v : Version)
      → ReplacesNewest m before after rec v → SpendsAtMost m before after 2
  replacing_spends before after rec v own = own_spends m before after _ 2
      (λ image batch replaces. laws.replacing_takes before image nothing_yet batch rec v replaces) own

  pub out_spends : (before after : Pool D FireLinks) (rec : RecId) → TakesNewestOut m before after rec
      → SpendsAtMost m before after 0
  out_spends before after rec own = own_spends m before after _ 0
      (λ image batch takes. laws.out_takes before image nothing_yet batch rec takes) own

  -- ---- a version is laid

  pub lay_spends : (before after : Pool D FireLinks) (owner : ℕ) (way : Way) (v : Version)
      → BareLays m before after owner way v → SpendsAtMost m before after 4
  lay_spends before after owner ways.Make v it = both_spend m holds before it.placed after 2 2
      (place_spends before it.placed owner it.at it.takes) (first_spends it.placed after owner it.at v it.makes)
  lay_spends before after owner (ways.Push rec) v it = more_spent m before after 2 4 (omega arith)
      (over_spends before after rec v it)
  lay_spends before after owner (ways.PushOverDead rec) v it = more_spent m before after 2 4 (omega arith)
      (both_spend m holds before it.cleared after 0 2 (out_spends before it.cleared rec it.takes)
      (over_spends it.cleared after rec v it.pushes))
  lay_spends before after owner (ways.Replace rec) v it = more_spent m before after 2 4 (omega arith)
      (replacing_spends before after rec v it)

  -- ---- it is not

  pub failed_lay_spends : (before after : Pool D FireLinks) (owner : ℕ) (way : Way) (v : Version)
      (fault : SpaceFault) → BareFails m before after owner way v fault → SpendsAtMost m before after 4
  failed_lay_spends before after owner ways.Make v fault (no_place_there fails) = more_spent m before after 0 4 (omega arith)
      (failing_spends m holds before after _ _ fault fails)
  failed_lay_spends before after owner ways.Make v fault (no_first_there at placed takes fails) =
      more_spent m before after 2 4 (omega arith) (both_spend m holds before placed after 2 0
      (place_spends before placed owner at takes) (failing_spends m holds placed after _ _ fault fails))
  failed_lay_spends before after owner (ways.Push rec) v fault fails = more_spent m before after 0 4 (omega arith)
      (failing_spends m holds before after _ _ fault fails)
  failed_lay_spends before after owner (ways.PushOverDead rec) v fault (not_out fails) =
      more_spent m before after 0 4 (omega arith) (failing_spends m holds before after _ _ fault fails)
  failed_lay_spends before after owner (ways.PushOverDead rec) v fault (not_over cleared takes fails) =
      more_spent m before after 0 4 (omega arith) (both_spend m holds before cleared after 0 0
      (out_spends before cleared rec takes) (failing_spends m holds cleared after _ _ fault fails))
  failed_lay_spends before after owner (ways.Replace rec) v fault fails = more_spent m before after 0 4 (omega arith)
      (failing_spends m holds before after _ _ fault fails)

  -- for want of more pages is no less refused than for want of fewer
  pub more_short : (before : Pool D FireLinks) (few many : ℕ) (fault : SpaceFault) → few ≤ many
      → IsNotShort m before few fault → IsNotShort m before many fault
  more_short before few many fault less short lawful i tells regions has =
      short lawful i tells regions (fewer before.geometry (shown before.dirty i) many few less has)

  -- after a call that has taken so many
  pub later_short : (before mid : Pool D FireLinks) (spent most : ℕ) (fault : SpaceFault) → SpendsAtMost m before mid spent
      → IsNotShort m mid most fault → IsNotShort m before (most + spent) fault
  later_short before mid spent most fault spends short lawful i tells regions has =
      let now = holds mid.disk (spends.tells tells.told) in
      let took = spends.takes lawful i now.0 tells now.1 in
      short (subst IsGeometry (sym spends.geometry) lawful) now.0
      (record { told = spends.tells tells.told; held = now.1 })
      (subst (λ (g : Geometry). HasRegions g (shown mid.dirty now.0)) (sym spends.geometry) (took.regions regions))
      (subst (λ (g : Geometry). HasFree g (shown mid.dirty now.0) most) (sym spends.geometry)
      (took.left regions most has))

  pub lay_short : (before after : Pool D FireLinks) (owner : ℕ) (way : Way) (v : Version) (fault : SpaceFault)
      → BareFails m before after owner way v fault → IsNotShort m before 4 fault
  lay_short before after owner ways.Make v fault (no_place_there fails) = more_short before 2 4 fault (omega arith)
      (failing_short m before after _ _ 2 fault (λ image why. laws.spot_there before after image nothing_yet owner fault why) fails)
  lay_short before after owner ways.Make v fault (no_first_there at placed takes fails) = later_short before placed 2 2 fault
      (place_spends before placed owner at takes)
      (failing_short m placed after _ _ 2 fault
      (λ image why. laws.making_there placed after image nothing_yet owner at v fault why) fails)
  lay_short before after owner (ways.Push rec) v fault fails = more_short before 2 4 fault (omega arith)
      (failing_short m before after _ _ 2 fault
      (λ image why. laws.push_there before after image nothing_yet rec v fault why) fails)
  lay_short before after owner (ways.PushOverDead rec) v fault (not_out fails) =
      more_short before 0 4 fault (omega arith) (failing_short m before after _ _ 0 fault
      (λ image why. laws.out_there before after image nothing_yet rec fault why) fails)
  lay_short before after owner (ways.PushOverDead rec) v fault (not_over cleared takes fails) =
      more_short before 2 4 fault (omega arith) (later_short before cleared 0 2 fault
      (out_spends before cleared rec takes) (failing_short m cleared after _ _ 2 fault
      (λ image why. laws.push_there cleared after image nothing_yet rec v fault why) fails))
  lay_short before after owner (ways.Replace rec) v fault fails = more_short before 2 4 fault (omega arith)
      (failing_short m before after _ _ 2 fault
      (λ image why. laws.replacing_there before after image nothing_yet rec v fault why) fails)
