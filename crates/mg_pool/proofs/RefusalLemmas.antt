-- What a call leaves whose page write failed, after a run of page writes.
use Rattle.std.proofs.Common.{◌≡◌, ℕ, sym, ◌∙◌, None, subst}
use Rattle.std.specs.Prelude.{Result, Ok, Err, MatchResult, IsErrAnd}
use Rattle.mg_base.specs.Disk.{Meaning, Rose}
use Rattle.mg_pool.specs.declared.pool.Pool.{Pool}
use Rattle.mg_pool.specs.declared.fault.PoolFault.{PoolFault}
use Rattle.mg_pool.specs.Fault.{TellsFault, OnlyWrites}
use Rattle.mg_pool.specs.Pool.{IsPool, KeepsPages, LeavesOverlays}
use Rattle.mg_pool.specs.Refusal.{FailsWrite, FailsWrites, LeavesRefused}
use Rattle.mg_pool.specs.Run.{HasWritten}
use Rattle.mg_pool.proofs.PoolLemmas.{Holds}
use Rattle.mg_pool.proofs.RunLemmas.{CountsNow, run_starts, run_then, run_leaves, keeps_then, counted}

-- a fault that is handed on
pub err_up : {T : Type 0} (r : Result T PoolFault) (e : PoolFault) (P : T → Type 0) (Q : PoolFault → Type 0) → IsErrAnd r (λ y. y ≡ e) → Q e → MatchResult r P Q
err_up (Ok x) e P Q same holds = absurd same
err_up (Err y) e P Q same holds = subst Q (sym same) holds

-- what follows in both cases
pub match_as : {T : Type 0} (r : Result T PoolFault) (P S : T → Type 0) (Q U : PoolFault → Type 0) → ((x : T) → P x → S x) → ((e : PoolFault) → Q e → U e) → MatchResult r P Q → MatchResult r S U
match_as (Ok x) P S Q U one other holds = one x holds
match_as (Err e) P S Q U one other holds = other e holds

pub fails_now : {D L : Type 0} (m : Meaning D) (old new : Pool D L) (e : PoolFault) → IsPool m old → FailsWrite m old new e → FailsWrites m old new e
fails_now m old new e pool fails = record { before = old; written = run_starts m old pool; fails = fails }

pub fails_write : {D L : Type 0} (m : Meaning D) (old before new : Pool D L) (e : PoolFault) → HasWritten m old before → FailsWrite m before new e → FailsWrites m old new e
fails_write m old before new e run fails = record { before = before; written = run; fails = fails }

pub fails_then : {D L : Type 0} (m : Meaning D) → Holds m → CountsNow m → (a b c : Pool D L) (e : PoolFault) → HasWritten m a b → FailsWrites m b c e → FailsWrites m a c e
fails_then m holds counts a b c e run fails = record { before = fails.before; written = run_then m holds counts a b fails.before run fails.written; fails = fails.fails }

-- What a caller learns of a failed page write.
module _ {D L : Type 0} (m : Meaning D) (holds : Holds m) (counts : CountsNow m) (old new : Pool D L) (e : PoolFault) (fails : FailsWrites m old new e) where
  pub fails_kept : KeepsPages m old new
  fails_kept = keeps_then m holds old fails.before new fails.written fails.fails.kept

  pub fails_crash : LeavesOverlays m old new
  fails_crash = run_leaves m holds counts old fails.before new.disk fails.written fails.fails.crash

  pub fails_fault : {T : Type 0} (r : Result T PoolFault) → IsErrAnd r (λ y. y ≡ e) → old.offline ≡ None → TellsFault m old new r
  fails_fault (Ok x) same online = absurd same
  fails_fault {T} (Err y) same online =
      let told = fails.fails.told in
      subst (λ (f : PoolFault). TellsFault {T = T} m old new (Err f)) (sym (same ∙ told.1)) (
        online,
        told.2,
        counted m old fails.before new fails.written told.0 told.3,
        subst (λ (k : ℕ). Rose k (m.failed_writes new.disk)) fails.written.none_failed fails.fails.failed_writes,
      )

  pub fails_own : {T : Type 0} (r : Result T PoolFault) → IsErrAnd r (λ y. y ≡ e) → OnlyWrites r
  fails_own (Ok x) same = absurd same
  fails_own {T} (Err y) same = subst (λ (f : PoolFault). OnlyWrites {T = T} (Err f)) (sym (same ∙ fails.fails.told.1)) tt

  pub fails_refused : {T : Type 0} (r : Result T PoolFault) → IsErrAnd r (λ y. y ≡ e) → LeavesRefused m old new r
  fails_refused (Ok x) same = absurd same
  fails_refused {T} (Err y) same =
      let is = fails.fails.told.1 in
      subst (λ (f : PoolFault). LeavesRefused {T = T} m old new (Err f)) (sym (same ∙ is)) (subst (λ (f : PoolFault). FailsWrites m old new f) is fails)
