-- A version is dropped in a batch of its own, or the batch is not filled or not changed.
use Rattle.std.proofs.Common.{◌≡◌, subst, true, false, List, [], Option, None, Some, Err}
use Rattle.mg_base.specs.Disk.{Meaning}
use Rattle.mg_base.specs.Image.{Image}
use Rattle.mg_base.specs.declared.numbers.PageNo.{PageNo}
use Rattle.mg_chain.specs.Dropping.{DropsBehind, DropsIfBehind, RefusesDrop}
use Rattle.mg_heap.specs.Reading.{ReadsData}
use Rattle.mg_image.specs.Form.{Pages}
use Rattle.mg_image.specs.Records.{cells_of}
use Rattle.mg_chain.specs.Chains.{Meets}
use Rattle.mg_pool.specs.Batch.{Changed}
use Rattle.mg_pool.specs.Fault.{StaysOnline, TellsFault}
use Rattle.mg_pool.specs.declared.batch.BatchPage.{BatchPage}
use Rattle.mg_pool.specs.declared.pool.Pool.{Pool}
use Rattle.mg_batches.specs.Batches.{ChangesBatch, FailsBatch, not_changed, not_filled, nothing_yet}
use Rattle.mg_space.specs.View.{KeepsStore, ReadsAlone, Tells, pool_answer}
use Rattle.mg_space.specs.declared.fault.SpaceFault.{SpaceFault}
use Rattle.mg_space.specs.declared.fault.SpaceFault.TheVariants as faults
use Rattle.mg_space.specs.declared.links.FireLinks.{FireLinks}
use Rattle.mg_version.specs.declared.cell.Link.{Link}
use Rattle.mg_collecting.specs.Passing.{DropsOwn, FailsDrop}
use Rattle.mg_collecting.proofs.EndLemmas.{at_empty}

-- a batch without pages and orders is the one that has nothing yet
nothing : (batch : Changed) → batch.pages ≡ [] → batch.orders ≡ [] → batch ≡ nothing_yet
nothing batch pages orders = λ k. record { pages = pages k; orders = orders k }

module _ {D : Type 0} (m : Meaning D) (before ready : Pool D FireLinks) (newer : Link) (empty : Changed)
    (pages : empty.pages ≡ []) (orders : empty.orders ≡ []) (keeps : KeepsStore m before ready) where
  pub drop_unfilled : (holder : PageNo) (fault : SpaceFault) → ReadsData {T = Option Link} (Err fault)
      → TellsFault m before ready (pool_answer {T = Option Link} (Err fault))
      → ((image : Image) → Tells m before.disk image → RefusesDrop m before ready image empty holder.0 newer fault)
      → FailsDrop m before ready holder newer fault
  drop_unfilled holder fault own told why = not_filled keeps (as_own fault own) (as_told fault told)
      (λ image tells. subst (λ (e : Changed). RefusesDrop m before ready image e holder.0 newer fault)
      (nothing empty pages orders) (why image tells))
    where
      as_own : (f : SpaceFault) → ReadsData {T = Option Link} (Err f) → ReadsAlone {T = Unit {0}} (Err f)
      as_own (faults.Full limit) given = absurd given
      as_own (faults.Damaged it) given = given
      as_own (faults.Pool it) given = given

      as_told : (f : SpaceFault) → TellsFault m before ready (pool_answer {T = Option Link} (Err f))
          → TellsFault m before ready (pool_answer {T = Unit {0}} (Err f))
      as_told (faults.Full limit) given = given
      as_told (faults.Damaged it) given = given
      as_told (faults.Pool it) given = given

  module _ (online : StaysOnline m before ready) (batch : Changed) (found : Option Link)
      (drops : (image : Image) → Tells m before.disk image → DropsIfBehind before image empty batch newer found) where
    pub drop_none : found ≡ None → DropsOwn m before ready newer false
    drop_none none = (
      keeps,
      online,
      λ image tells.
          let none_there = subst (λ (o : Option Link). DropsIfBehind before image empty batch newer o) none
          (drops image tells) in record {
            version = none_there.version;
            meets = at_empty before image empty pages
                (λ (ps : List BatchPage). λ (view : Pages). Meets (cells_of view) newer none_there.version)
                none_there.meets;
            ends = none_there.ends;
          },
    )

    filled : (gone : Link) → found ≡ Some gone → (image : Image) → Tells m before.disk image
        → DropsBehind before image nothing_yet batch newer gone
    filled gone some image tells = subst (λ (e : Changed). DropsBehind before image e batch newer gone)
        (nothing empty pages orders)
        (subst (λ (o : Option Link). DropsIfBehind before image empty batch newer o) some (drops image tells))

    pub drop_done : (gone : Link) → found ≡ Some gone → (after : Pool D FireLinks) → ChangesBatch m ready after batch
        → DropsOwn m before after newer true
    drop_done gone some after changed = (
      gone,
      record {
        batch = batch;
        ready = ready;
        keeps = keeps;
        online = online;
        filled = filled gone some;
        changed = changed;
      },
    )

    pub drop_unchanged : (gone : Link) → found ≡ Some gone → (holder : PageNo) (after : Pool D FireLinks)
        (fault : SpaceFault) → FailsBatch m ready after batch fault → FailsDrop m before after holder newer fault
    drop_unchanged gone some holder after fault fails =
        not_changed batch ready keeps online (λ image tells. (gone, filled gone some image tells)) fails
