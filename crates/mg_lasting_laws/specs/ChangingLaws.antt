-- A batch keeps the cache lasting, and each crash leaves what the history says.
use Rattle.std.proofs.Common.{◌≡◌, ℕ, ◌∷◌, Some, sym, subst}
use Rattle.mg_base.specs.Disk.{MayLeave, Meaning}
use Rattle.mg_base.specs.Image.{Image}
use Rattle.mg_careful.specs.CarefulWrite.{PageSet}
use Rattle.mg_model.specs.History.{Entries}
use Rattle.mg_model.specs.Legal.{durable_count}
use Rattle.mg_image.specs.Form.{Form}
use Rattle.mg_pool.specs.Batch.{lists}
use Rattle.mg_pool.specs.Change.{ChangesPages}
use Rattle.mg_pool.specs.Pool.{cache_of}
use Rattle.mg_pool_overlay_laws.specs.Needs.{needs_by}
use Rattle.mg_pool_overlay_laws.specs.Ties.{changes_are}
use Rattle.mg_lasting_laws.specs.Changing.{ChangesLast, QuietHolds}
use Rattle.mg_lasting_laws.specs.CrashLaws.{asked_quiet, count_quiet, from_longer}
use Rattle.mg_lasting_laws.specs.Crashes.{HoldsAcknowledged, HoldsFrom, LeavesSince, asked}
use Rattle.mg_lasting_laws.specs.Lasting.{Lasts, LastsOn}
use Rattle.mg_lasting_laws.specs.PoolLaws.{CountsNow, HoldsOne, needs_are, pool_leaves}
use Rattle.mg_lasting_laws.specs.StepLaws.{batch_lasts}

pub quiet_holds : (form : Form) → QuietHolds form
quiet_holds form size o h e image passing quiet holds =
    subst (λ (n : ℕ). HoldsFrom form size o (asked (e ∷ h)) n image) (sym (count_quiet h e passing))
    (subst (λ (x : Entries). HoldsFrom form size o x (durable_count h) image) (sym (asked_quiet h e quiet))
    (from_longer form size o (asked h) e (durable_count h) image holds))

pub changes_last : (D L : Type 0) (m : Meaning D) → CountsNow D m → HoldsOne D m → (form : Form)
    → ChangesLast D L m form
changes_last D L m counts_now holds form o h later old new has_asked now_asked session now_session opening
    legal tells lasts changes = on (holds new.disk changes.tells)
  where
    leaves : LeavesSince m old.disk new.disk (HoldsAcknowledged form old.dirty.size o h)
    leaves = pool_leaves D L m counts_now form o h old new has_asked session opening legal tells changes.tells
        lasts changes.leaves

    by : (j : Image) → m.held new.disk ≡ Some j → (gone : PageSet)
        × ChangesPages old.dirty new.dirty old.graph new.graph lasts.image j gone changes.batch changes.orders
        → LastsOn m form o later new now_asked now_session
    by j held (gone, pages) = record {
      image = j;
      held = held;
      lasts = subst (λ (size : ℕ). Lasts form size o later (cache_of new.dirty new.graph j) now_asked
          (needs_by now_asked now_session new.dirty)) (sym pages.size)
          (batch_lasts form old.dirty.size o h later (cache_of old.dirty old.graph lasts.image)
          (cache_of new.dirty new.graph j) gone changes.batch (lists changes.orders) has_asked now_asked
          (needs_by has_asked session old.dirty) (needs_by now_asked now_session new.dirty)
          (changes_are D L old new lasts.image j gone changes.batch changes.orders pages) lasts.lasts
          (changes.every lasts.image j gone lasts.held held pages) changes.settled (changes.bits j held)
          (changes.next j held) (needs_are new.dirty new.graph j now_asked now_session));
      settled = changes.none_asked;
      left = λ c may. subst (λ (size : ℕ). HoldsAcknowledged form size o later c) (sym pages.size)
          (changes.holds c (leaves.left c may));
    }

    on : (j : Image) × (m.held new.disk ≡ Some j) × MayLeave m new.disk j
        → LastsOn m form o later new now_asked now_session
        × LeavesSince m old.disk new.disk (HoldsAcknowledged form old.dirty.size o h)
    on (j, held, may) = (by j held (changes.frame tells lasts.image j lasts.held held), leaves)
