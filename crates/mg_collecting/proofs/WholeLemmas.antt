-- A collection is made of its parts.
use Rattle.std.proofs.Common.{◌∙◌, refl, sym, arith, ℕ, ◌||◌, Bool, false, List, [], Err}
use Rattle.mg_base.specs.Disk.{Meaning}
use Rattle.mg_base.specs.Image.{Image}
use Rattle.mg_base.specs.declared.numbers.RecId.{RecId}
use Rattle.mg_base.specs.declared.transaction.TxState.{TxState}
use Rattle.mg_chain.specs.Refusals.{RefusesChain}
use Rattle.mg_heap.specs.Reading.{ReadsData}
use Rattle.mg_image.specs.Records.{cells_of}
use Rattle.mg_image.specs.declared.entry.Entry.{Entry}
use Rattle.mg_pool.specs.Fault.{StaysOnline, TellsFault}
use Rattle.mg_pool.specs.Pool.{shown}
use Rattle.mg_pool.specs.declared.pool.Pool.{Pool}
use Rattle.mg_snap.specs.Live.{State}
use Rattle.mg_space.specs.View.{KeepsStore, Tells, pool_answer}
use Rattle.mg_space.specs.declared.fault.SpaceFault.{SpaceFault}
use Rattle.mg_space.specs.declared.fault.SpaceFault.TheVariants as faults
use Rattle.mg_space.specs.declared.links.FireLinks.{FireLinks}
use Rattle.mg_collecting.specs.Collecting.{Collects, FailsCollecting, HasAtMost, HasCount}
use Rattle.mg_collecting.specs.Remaining.{AreSomeOf, remaining, without_dead, without_erased, without_unneeded}
use Rattle.mg_collecting.specs.RemainingLaws.{dead_some, erased_some, some_fewer, some_on, unneeded_some}
use Rattle.mg_collecting.specs.Steps.{DoesPart, FailsPart, FailsReading, not_read}
use Rattle.mg_collecting.proofs.PartLemmas.{Holds, does_nothing, fails_at_once, fails_fewer, held_now, part_fails, part_on, steps_told}

-- a reading that fails, whatever it would have answered
pub reading_as : {D L : Type 0} (A : Type 0) (m : Meaning D) (before after : Pool D L)
    (refuses : Image → SpaceFault → Type 0) (fault : SpaceFault) → KeepsStore m before after
    → ReadsData {T = A} (Err fault) → TellsFault m before after (pool_answer {T = A} (Err fault))
    → ((image : Image) → Tells m before.disk image → refuses image fault)
    → FailsReading m before after refuses fault
reading_as A m before after refuses fault keeps own told why = record {
  keeps = keeps;
  own = as_own fault own;
  told = as_told fault told;
  why = why;
}
  where
    as_own : (f : SpaceFault) → ReadsData {T = A} (Err f) → ReadsData {T = Unit {0}} (Err f)
    as_own (faults.Full limit) given = given
    as_own (faults.Damaged it) given = given
    as_own (faults.Pool it) given = given

    as_told : (f : SpaceFault) → TellsFault m before after (pool_answer {T = A} (Err f))
        → TellsFault m before after (pool_answer {T = Unit {0}} (Err f))
    as_told (faults.Full limit) given = given
    as_told (faults.Damaged it) given = given
    as_told (faults.Pool it) given = given

module _ {D : Type 0} (m : Meaning D) (holds : Holds m) (state : ℕ → TxState) (live : State) (rec : RecId)
    (before : Pool D FireLinks) where
  remaining_some : (es : List Entry) → AreSomeOf (remaining state live es) es
  remaining_some es = some_on (remaining state live es) (without_dead state es) es
      (some_on (remaining state live es) (without_unneeded state live (without_dead state es)) (without_dead state es)
      (erased_some state live (without_unneeded state live (without_dead state es)))
      (unneeded_some state live (without_dead state es))) (dead_some state es)

  -- its links do not come to an end
  pub counting_fails : (after : Pool D FireLinks) (fault : SpaceFault)
      → FailsReading m before after (λ image f. RefusesChain m after [] (shown before.dirty image) rec f) fault
      → FailsCollecting m before after state live rec fault
  counting_fails after fault fails = fails_at_once m state live rec (remaining state live) holds before after fault
      (not_read fails) remaining_some

  module _ (counted : Pool D FireLinks) (count : ℕ) (keeps : KeepsStore m before counted)
      (online : StaysOnline m before counted) (has : (image : Image) → Tells m before.disk image
      → HasCount (cells_of (shown before.dirty image)) rec count) where
    at_first : DoesPart m before counted state live rec (λ es. es) false
    at_first = does_nothing m state live rec (λ es. es) before counted keeps online (λ i tells es its. refl)

    pub dead_fails : (after : Pool D FireLinks) (fault : SpaceFault)
        → FailsPart m counted after state live rec (without_dead state) fault
        → FailsCollecting m before after state live rec fault
    dead_fails after fault fails = fails_fewer m state live rec (without_dead state) (remaining state live) before after
        fault (λ es. some_on (remaining state live es) (without_unneeded state live (without_dead state es))
        (without_dead state es) (erased_some state live (without_unneeded state live (without_dead state es)))
        (unneeded_some state live (without_dead state es)))
        (part_fails m holds state live rec (λ es. es) (without_dead state) before counted after false at_first fault fails)

    module _ (cleared : Pool D FireLinks) (dead : Bool)
        (takes : DoesPart m counted cleared state live rec (without_dead state) dead) where
      first_part : DoesPart m before cleared state live rec (without_dead state) dead
      first_part = part_on m holds state live rec (λ es. es) (without_dead state) before counted cleared false at_first
          dead takes

      -- no more are left than there were
      pub still_few : (k : Image) → Tells m cleared.disk k → HasAtMost (cells_of (shown cleared.dirty k)) rec count
      still_few k tells =
          let was = held_now m holds before.disk
          (sym (steps_told m state live rec before cleared dead first_part.steps) ∙ tells.told) in
          let had = has was.image was.tells in
          let left = first_part.left was.image k was.tells tells had.versions had.its in record {
            versions = without_dead state had.versions;
            its = left.leaves.its;
            few = let fewer = some_fewer (without_dead state had.versions) had.versions (dead_some state had.versions) in
                let many = had.many in omega (arith, fewer, many);
          }

      pub drop_fails : (after : Pool D FireLinks) (fault : SpaceFault)
          → FailsPart m cleared after state live rec (without_unneeded state live) fault
          → FailsCollecting m before after state live rec fault
      drop_fails after fault fails =
          fails_fewer m state live rec (λ es. without_unneeded state live (without_dead state es)) (remaining state live)
          before after fault (λ es. erased_some state live (without_unneeded state live (without_dead state es)))
          (part_fails m holds state live rec (without_dead state) (without_unneeded state live) before cleared after dead
          first_part fault fails)

      module _ (passed : Pool D FireLinks) (dropped : Bool)
          (drops : DoesPart m cleared passed state live rec (without_unneeded state live) dropped) where
        second_part : DoesPart m before passed state live rec
            (λ es. without_unneeded state live (without_dead state es)) (dead || dropped)
        second_part = part_on m holds state live rec (without_dead state) (without_unneeded state live) before cleared
            passed dead first_part dropped drops

        pub erase_fails : (after : Pool D FireLinks) (fault : SpaceFault)
            → FailsPart m passed after state live rec (without_erased state live) fault
            → FailsCollecting m before after state live rec fault
        erase_fails after fault fails =
            part_fails m holds state live rec (λ es. without_unneeded state live (without_dead state es))
            (without_erased state live) before passed after (dead || dropped) second_part fault fails

        pub all_done : (after : Pool D FireLinks) (erased : Bool)
            → DoesPart m passed after state live rec (without_erased state live) erased
            → Collects m before after state live rec ((dead || dropped) || erased)
        all_done after erased takes_last = record {
          ends = λ image tells. let it = has image tells in record { versions = it.versions; its = it.its };
          collected = part_on m holds state live rec (λ es. without_unneeded state live (without_dead state es))
              (without_erased state live) before passed after (dead || dropped) second_part erased takes_last;
        }
