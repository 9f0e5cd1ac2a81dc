-- A transaction begins without damage.
use Rattle.std.proofs.Common.{◌≡◌, ◌⊎◌, inl, inr, ℕ, true, None, Ok, Err, refl, ap, subst}
use Rattle.mg_base.specs.Disk.{Meaning}
use Rattle.mg_base.specs.declared.damage.Damaged.{Damaged}
use Rattle.mg_model.specs.History.{Entries}
use Rattle.mg_model.specs.Openings.{everyone}
use Rattle.mg_model.specs.declared.opening.Opening.{Opening}
use Rattle.mg_model.specs.declared.refusal.Refusal.{Refusal}
use Rattle.mg_model.specs.declared.refusal.Refusal.TheVariants as refusals
use Rattle.mg_overlay_laws.specs.Overlays.{left_state}
use Rattle.mg_pool.specs.Refusal.{LeavesRefused}
use Rattle.mg_pool.specs.declared.fault.PoolFault.{PoolFault}
use Rattle.mg_pool.specs.declared.fault.PoolFault.TheVariants as faults
use Rattle.mg_pool.specs.declared.pool.Pool.{Pool}
use Rattle.mg_space.specs.View.{KeepsStore, ReadsAlone}
use Rattle.mg_space.specs.declared.fault.SpaceFault.{SpaceFault}
use Rattle.mg_space.specs.declared.fault.SpaceFault.TheVariants as space
use Rattle.mg_txlist.specs.Drawing.{FailsDraw, not_changed, only_read}
use Rattle.mg_txlist.specs.TxList.{next_said}
use Rattle.mg_core.specs.declared.parts.Core.{Core}
use Rattle.mg_core.specs.Beginning.{FailsBegin, WhyNotDrawn}
use Rattle.mg_core.specs.Cores.{IsCore}
use Rattle.mg_core.specs.Refusing.{CountsFault}
use Rattle.mg_engine_meaning_laws.specs.Standings.{ShowsIt, StandsFor, standing_of}
use Rattle.mg_engine_meaning_laws.specs.StepLaws.{shows_of}
use Rattle.mg_no_damage_laws.specs.Draws.{NumbersAreDrawn}
use Rattle.mg_no_damage_laws.specs.Calls.{BeginsMeetNone}
use Rattle.mg_no_damage_laws.specs.CountLaws.{count}

-- ---- what a drawing leaves that is refused

keeps_of : {D L : Type 0} (m : Meaning D) (old new : Pool D L) (fault : SpaceFault) (it : Damaged)
    → FailsDraw m old new fault → fault ≡ space.Damaged it → KeepsStore m old new
keeps_of m old new fault it (only_read f alone keeps) same = keeps
keeps_of m old new fault it (not_changed ready f keeps left) same = absurd cc

not_absent : {D L : Type 0} (m : Meaning D) (old new : Pool D L) (fault : SpaceFault) (n : ℕ)
    → FailsDraw m old new fault → fault ≡ space.Pool (faults.Absent n) → ⊥
not_absent m old new fault n (only_read f alone keeps) same =
    subst (λ (x : SpaceFault). ReadsAlone {T = Unit {0}} (Err x)) same alone
not_absent m old new fault n (not_changed ready f keeps left) same =
    let is : f ≡ faults.Absent n = cc in
    subst (λ (x : PoolFault). LeavesRefused {T = Unit {0}} m ready new (Err x)) is left

-- ---- a number is not drawn

module _ {D : Type 0} (m : Meaning D) (drawn : NumbersAreDrawn m) (old new : Core D) (core : IsCore m old)
    (o : Opening) (h : Entries) (stands : StandsFor m old o h) (told : m.tells old.store.disk ≡ true) where
  failed : (refusal : Refusal) → FailsBegin m old new refusal → new.damage ≡ old.damage
  failed refusal fails = at fails.fault fails.left fails.why fails.counts
    where
      shows : ShowsIt m old o h (standing_of old stands.numbers stands.tables)
      shows = shows_of m old o h stands fails.online

      at : (fault : SpaceFault) → FailsDraw m old.store new.store fault → WhyNotDrawn m old new fault
          → CountsFault fault old.damage new.damage old.shortages new.shortages → new.damage ≡ old.damage
      at (space.Full limit) left why counts = counts.0
      at (space.Damaged it) left why counts = absurd (drawn old.store new.store shows.image
          (left_state everyone (standing_of old stands.numbers stands.tables).state) shows.stands.shows.layout
          shows.stands.shows.reading (record {
            tells = record { told = told; held = shows.held };
            keeps = keeps_of m old.store new.store (space.Damaged it) it left refl;
            geometry = core.geometry;
            sound = shows.stands.shows.sound;
          }) (next_said old.list) shows.stands.shows.next it
          (why shows.image (record { told = told; held = shows.held })))
      at (space.Pool (faults.DiskRead n)) left why counts = counts.0
      at (space.Pool (faults.DiskWrite n)) left why counts = counts.0
      at (space.Pool (faults.Offline n)) left why counts = counts.0
      at (space.Pool (faults.Absent n)) left why counts =
          absurd (not_absent m old.store new.store (space.Pool (faults.Absent n)) n left refl)
      at (space.Pool faults.Memory) left why counts = counts.0

  not_begun : (refusal : Refusal) → FailsBegin m old new refusal
      ⊎ ((refusal ≡ refusals.Memory) × (old.store.offline ≡ None) × (new ≡ old)) → new.damage ≡ old.damage
  not_begun refusal (inl fails) = failed refusal fails
  not_begun refusal (inr (is, online, same)) = ap count same

pub begins : {D : Type 0} (m : Meaning D) → NumbersAreDrawn m → BeginsMeetNone D m
begins m drawn old new session mode (Ok t) core begins_ o h stands told = ap count begins_.same
begins m drawn old new session mode (Err (refusals.Offline n)) core (off, same) o h stands told = ap count same
begins m drawn old new session mode (Err refusals.TransactionLimit) core (online, past, same) o h stands told =
    ap count same
begins m drawn old new session mode (Err refusal) core fails o h stands told =
    not_begun m drawn old new core o h stands told refusal fails
