-- Calls that read, change a batch of their own, or come one after another.
use Rattle.std.proofs.Common.{◌≡◌, ◌∙◌, ◌≤◌, ◌+◌, ℕ, false, Some, Err, refl, sym, ap, subst}
use Rattle.mg_base.specs.Disk.{Meaning}
use Rattle.mg_base.specs.Image.{Image}
use Rattle.mg_base.specs.declared.geometry.Geometry.{Geometry}
use Rattle.mg_image.specs.Form.{Pages}
use Rattle.mg_pool.specs.Batch.{Changed}
use Rattle.mg_pool.specs.Dirty.{DirtyPages}
use Rattle.mg_pool.specs.Pool.{KeepsPages, shown}
use Rattle.mg_pool.specs.Refusal.{LeavesRefused}
use Rattle.mg_pool.specs.declared.fault.PoolFault.{PoolFault}
use Rattle.mg_pool.specs.declared.fault.PoolFault.TheVariants as pool_faults
use Rattle.mg_pool.specs.declared.pool.Pool.{Pool}
use Rattle.mg_batches.specs.Batches.{ChangesOwn, FailsBatch, FailsOwn, not_changed, not_filled, nothing_yet}
use Rattle.mg_space.specs.Taking.{IsGeometry}
use Rattle.mg_space.specs.View.{KeepsStore, Tells}
use Rattle.mg_space.specs.declared.fault.SpaceFault.{SpaceFault}
use Rattle.mg_space.specs.declared.fault.SpaceFault.TheVariants as faults
use Rattle.mg_space.specs.declared.links.FireLinks.{FireLinks}
use Rattle.mg_tie_laws.specs.Changed.{BatchIsChanged, changed_batches_are}
use Rattle.mg_free_page_laws.specs.BatchStages.{StepIsNotFull, StepTakes}
use Rattle.mg_free_page_laws.specs.FreePages.{TakesAtMost}
use Rattle.mg_free_page_laws.specs.FreeLaws.{both_taken, same_taken, takes_more}
use Rattle.mg_free_page_laws.specs.Spending.{IsNotShort, SpendsAtMost, ToldAreHeld}

module _ {D : Type 0} (m : Meaning D) where
  -- pages were only read
  pub read_spends : (before after : Pool D FireLinks) → KeepsStore m before after → SpendsAtMost m before after 0
  read_spends before after keeps = record {
    tells = λ told. keeps.disk.tells ∙ told;
    geometry = keeps.geometry;
    takes = λ lawful i j tells held. same_taken before.geometry (shown before.dirty i) (shown after.dirty j)
        (λ n. ap (λ (d : DirtyPages). shown d j n) keeps.dirty ∙ ap (λ (k : Image). shown before.dirty k n)
        (one i j tells held));
  }
    where
      one : (i j : Image) → Tells m before.disk i → m.held after.disk ≡ Some j → j ≡ i
      one i j tells held = let both : Some j ≡ Some i = sym held ∙ (keeps.disk.held ∙ tells.held) in cc

  -- fewer than that are at most that
  pub more_spent : (before after : Pool D FireLinks) (few many : ℕ) → few ≤ many → SpendsAtMost m before after few
      → SpendsAtMost m before after many
  more_spent before after few many less it = record {
    tells = it.tells;
    geometry = it.geometry;
    takes = λ lawful i j tells held. takes_more before.geometry (shown before.dirty i) (shown after.dirty j) few many
        less (it.takes lawful i j tells held);
  }

  -- one call after another
  pub both_spend : ToldAreHeld m → (a b c : Pool D FireLinks) (first second : ℕ) → SpendsAtMost m a b first
      → SpendsAtMost m b c second → SpendsAtMost m a c (first + second)
  both_spend holds a b c first second one two = record {
    tells = λ told. two.tells (one.tells told);
    geometry = two.geometry ∙ one.geometry;
    takes = on;
  }
    where
      on : IsGeometry a.geometry → (i j : Image) → Tells m a.disk i → m.held c.disk ≡ Some j
          → TakesAtMost a.geometry (shown a.dirty i) (shown c.dirty j) (first + second)
      on lawful i j tells held =
          let now = holds b.disk (one.tells tells.told) in
          both_taken a.geometry (shown a.dirty i) (shown b.dirty now.0) (shown c.dirty j) first second
          (one.takes lawful i now.0 tells now.1)
          (subst (λ (g : Geometry). TakesAtMost g (shown b.dirty now.0) (shown c.dirty j) second) one.geometry
          (two.takes (subst IsGeometry (sym one.geometry) lawful) now.0 j
          (record { told = one.tells tells.told; held = now.1 }) held))

  -- a batch of its own was filled and changed, over whatever image the disk tells
  pub told_spends : (before after : Pool D FireLinks) (fills : Image → Changed → Type 0) (most : ℕ)
      → ((image : Image) (batch : Changed) → Tells m before.disk image → fills image batch
      → StepTakes D before image nothing_yet batch most)
      → ChangesOwn m before after fills → SpendsAtMost m before after most
  told_spends before after fills most step own = record {
    tells = λ told. ap m.tells (own.changed.changes.enters.disk ∙ own.changed.changes.puts.disk)
        ∙ (own.changed.changes.written.tells ∙ (own.keeps.disk.tells ∙ told));
    geometry = own.changed.geometry ∙ own.keeps.geometry;
    takes = on;
  }
    where
      on : IsGeometry before.geometry → (i j : Image) → Tells m before.disk i → m.held after.disk ≡ Some j
          → TakesAtMost before.geometry (shown before.dirty i) (shown after.dirty j) most
      on lawful i j tells held = subst (λ (pages : Pages).
          TakesAtMost before.geometry (shown before.dirty i) pages most) (sym is.pool)
          (step i own.batch tells (own.filled i tells) lawful)
        where
          is : BatchIsChanged before after i j own.batch (λ t. false) (λ t. 0)
          is = changed_batches_are D FireLinks m before own.ready after i j own.batch (λ t. false) (λ t. 0) own.keeps
              own.changed.frame tells held

  -- over any image
  pub own_spends : (before after : Pool D FireLinks) (fills : Image → Changed → Type 0) (most : ℕ)
      → ((image : Image) (batch : Changed) → fills image batch → StepTakes D before image nothing_yet batch most)
      → ChangesOwn m before after fills → SpendsAtMost m before after most
  own_spends before after fills most step own =
      told_spends before after fills most (λ image batch tells filled. step image batch filled) own

  -- ---- refusals

  -- what the cache shows has not changed
  pub kept_spends : (before after : Pool D FireLinks) → m.tells after.disk ≡ m.tells before.disk
      → KeepsPages m before after → SpendsAtMost m before after 0
  kept_spends before after tells kept = record {
    tells = λ told. tells ∙ told;
    geometry = kept.geometry;
    takes = λ lawful i j is held. same_taken before.geometry (shown before.dirty i) (shown after.dirty j)
        (λ n. kept.same_shown is.told i j is.held held n);
  }

  pub nothing_spent : (before after : Pool D FireLinks) → after ≡ before → SpendsAtMost m before after 0
  nothing_spent before after same = subst (λ (pool : Pool D FireLinks). SpendsAtMost m before pool 0) (sym same)
      (record {
        tells = λ told. told;
        geometry = refl;
        takes = λ lawful i j is held. same_taken before.geometry (shown before.dirty i) (shown before.dirty j)
            (λ n. ap (λ (k : Image). shown before.dirty k n) (one i j is held));
      })
    where
      one : (i j : Image) → Tells m before.disk i → m.held before.disk ≡ Some j → j ≡ i
      one i j is held = let both : Some j ≡ Some i = sym held ∙ is.held in cc

  -- a batch that is refused takes none
  refused_spends : (before after : Pool D FireLinks) (batch : Changed) (fault : SpaceFault)
      → FailsBatch m before after batch fault → SpendsAtMost m before after 0
  refused_spends before after batch (faults.Full limit) never = absurd never
  refused_spends before after batch (faults.Damaged it) it_is = nothing_spent before after it_is.same
  refused_spends before after batch (faults.Pool fault) refused = by fault refused.left
    where
      by : (fault : PoolFault) → LeavesRefused {T = Unit {0}} m before after (Err fault) → SpendsAtMost m before after 0
      by (pool_faults.DiskRead n) never = absurd never
      by (pool_faults.DiskWrite n) fails =
          kept_spends before after (fails.fails.time.tells ∙ fails.written.tells) refused.same
      by (pool_faults.Offline n) same = nothing_spent before after same
      by (pool_faults.Absent pages) never = absurd never
      by pool_faults.Memory same = nothing_spent before after same

  -- a batch of its own that is not filled, or not changed, takes none
  pub failing_spends : ToldAreHeld m → (before after : Pool D FireLinks) (fills : Image → Changed → Type 0)
      (refuses : Image → SpaceFault → Type 0) (fault : SpaceFault) → FailsOwn m before after fills refuses fault
      → SpendsAtMost m before after 0
  failing_spends holds before after fills refuses fault (not_filled keeps own told why) =
      read_spends before after keeps
  failing_spends holds before after fills refuses fault (not_changed batch ready keeps online filled fails) =
      both_spend holds before ready after 0 0 (read_spends before ready keeps)
      (refused_spends ready after batch fault fails)

  -- and is refused for want of pages only where it is not filled, over whatever image the disk tells
  pub told_short : (before after : Pool D FireLinks) (fills : Image → Changed → Type 0)
      (refuses : Image → SpaceFault → Type 0) (most : ℕ) (fault : SpaceFault)
      → ((image : Image) → Tells m before.disk image → refuses image fault
      → StepIsNotFull m before image nothing_yet most fault)
      → FailsOwn m before after fills refuses fault → IsNotShort m before most fault
  told_short before after fills refuses most fault step (not_filled keeps own told why) lawful i tells =
      step i tells (why i tells) lawful
  told_short before after fills refuses most fault step (not_changed batch ready keeps online filled fails) lawful i
      tells = λ regions has limit full. never fault fails limit full
    where
      never : (fault : SpaceFault) → FailsBatch m ready after batch fault → (limit : ℕ) → fault ≡ faults.Full limit → ⊥
      never (faults.Full most) fails limit is = fails
      never (faults.Damaged it) fails limit is = absurd cc
      never (faults.Pool it) fails limit is = absurd cc

  -- over any image
  pub failing_short : (before after : Pool D FireLinks) (fills : Image → Changed → Type 0)
      (refuses : Image → SpaceFault → Type 0) (most : ℕ) (fault : SpaceFault)
      → ((image : Image) → refuses image fault → StepIsNotFull m before image nothing_yet most fault)
      → FailsOwn m before after fills refuses fault → IsNotShort m before most fault
  failing_short before after fills refuses most fault step fails =
      told_short before after fills refuses most fault (λ image tells why. step image why) fails
