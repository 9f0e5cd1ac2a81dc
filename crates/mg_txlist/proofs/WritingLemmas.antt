-- Page writes that go on, and one that fails.
use Rattle.std.proofs.Common.{◌≡◌, ◌∙◌, ◌+◌, ◌-◌, ◌/◌, ◌%◌, ap, min, refl, sym, subst, None, Some, ℕ, true, false, List, Result, Ok, Err, OnOk, IfErr}
use Rattle.std.specs.Prelude.{◌^◌}
use Rattle.mg_base.specs.Image.{Image}
use Rattle.mg_base.specs.declared.numbers.PageNo.{PageNo}
use Rattle.mg_base.specs.declared.transaction.TxState.TheVariants.{Committed}
use Rattle.mg_pool.specs.Dirty.{is_dirty}
use Rattle.mg_pool.specs.Pool.{KeepsContent}
use Rattle.mg_space.specs.declared.fault.SpaceFault.{SpaceFault}
use Rattle.mg_space.specs.declared.fault.SpaceFault.TheVariants as faults
use Rattle.mg_tip.specs.TipPage.{SetsState, places}
use Rattle.mg_txlist.specs.declared.list.TxList.{TxList}
use Rattle.mg_space.specs.View.{KeepsStore, ReadsAlone}
use Rattle.mg_txlist.specs.Drawing.{FailsDraw, only_read}
use Rattle.mg_txlist.specs.Ending.{ChangesBits, CommitsBits, FailsCommit, FailsToSettle, SettlesPage, not_settled}
use Rattle.mg_txlist.specs.TxList.{KeepsBits, tip_in}
use Rattle.mg_base.specs.Disk.{MayLeave, Meaning, Rose}
use Rattle.mg_pool.specs.Fault.{Counts, OnlyWrites, StaysOnline, TellsFault}
use Rattle.mg_pool.specs.Law.{JoinsRuns}
use Rattle.mg_pool.specs.Refusal.{LeavesRefused}
use Rattle.mg_pool.specs.Run.{HasWritten}
use Rattle.mg_pool.specs.declared.fault.PoolFault.{PoolFault}
use Rattle.mg_pool.specs.declared.fault.PoolFault.TheVariants.{DiskRead, DiskWrite, Offline, Absent, Memory}
use Rattle.mg_pool.specs.declared.pool.Pool.{Pool}

-- what a page write leaves that fails after others, since the first of them
pub refused_on : {D L : Type 0} (m : Meaning D) (a b c : Pool D L) (fault : PoolFault)
    → JoinsRuns D L m → HasWritten m a b → b.offline ≡ None
    → OnlyWrites {T = Unit {0}} (Err fault) → TellsFault {T = Unit {0}} m b c (Err fault)
    → LeavesRefused {T = Unit {0}} m b c (Err fault)
    → LeavesRefused {T = Unit {0}} m a c (Err fault)
refused_on m a b c (DiskRead n) joins run online own tells leaves = absurd own
refused_on m a b c (DiskWrite n) joins run online own tells leaves = record {
  before = leaves.before;
  written = joins a b leaves.before run leaves.written;
  fails = leaves.fails;
}
refused_on m a b c (Offline n) joins run online own tells leaves =
    let same : Some n ≡ None = sym tells.0 ∙ online in absurd cc
refused_on m a b c (Absent n) joins run online own tells leaves = absurd own
refused_on m a b c Memory joins run online own tells leaves = absurd own

-- ---- the bits of a transaction

module _ {D L : Type 0} (m : Meaning D) (old changed written new : Pool D L) (page : PageNo)
    (bytes : List ℕ) (changes : ChangesBits m old changed page bytes)
    (writes : HasWritten m changed written) (out : is_dirty written.dirty page.0 ≡ false)
    (settles : KeepsContent m written.disk new.disk)
    (same : new ≡ record written { disk = new.disk; faults = new.faults; offline = new.offline })
  where
    pub settled : (result : Result (Unit {0}) PoolFault)
        → OnOk result (m.tells written.disk ≡ true → (image : Image) → MayLeave m new.disk image
        → m.held new.disk ≡ Some image) → OnOk result (SettlesPage m old new page bytes)
    settled (Ok x) durable = record {
      changed = changed;
      written = written;
      changes = changes;
      writes = writes;
      out = out;
      settles = settles;
      same = same;
      durable = durable;
    }
    settled (Err e) durable = tt

    pub unsettled : (result : Result (Unit {0}) PoolFault)
        → IfErr result (FailsToSettle m old new page bytes)
    unsettled (Ok x) = tt
    unsettled (Err e) = not_settled changed written changes writes out settles same

pub fails_commit : {D L : Type 0} (m : Meaning D) (list : TxList) (before after : Pool D L) (t : ℕ)
    (fault given : PoolFault) (page : PageNo) (bytes : List ℕ)
    → ◌≡◌ {A = Result (Unit {0}) SpaceFault} (Err (faults.Pool fault)) (Err (faults.Pool given))
    → page.0 ≡ (tip_in list (t / places list.size)).page
    → SetsState (tip_in list (t / places list.size)).bytes bytes (t % places list.size) Committed
    → FailsToSettle m before after page bytes fault
    → FailsCommit m list before after t given
fails_commit m list before after t fault given page bytes is number sets fails =
    let same : fault ≡ given = cc in record {
      bytes = bytes;
      sets = sets;
      fails = subst (λ (f : PoolFault). FailsToSettle m before after
          (record { 0 = (tip_in list (t / places list.size)).page }) bytes f) same
          (subst (λ (n : ℕ). FailsToSettle m before after (record { 0 = n }) bytes fault) number
          fails);
    }

-- a drawing that fails has only read
pub reads_alone : {D L T : Type 0} (m : Meaning D) (old new : Pool D L) (result : Result T SpaceFault)
    → KeepsStore m old new → ReadsAlone result → IfErr result (FailsDraw m old new)
reads_alone m old new (Ok x) keeps own = tt
reads_alone m old new (Err (faults.Full limit)) keeps own = only_read (faults.Full limit) tt keeps
reads_alone m old new (Err (faults.Damaged damage)) keeps own = only_read (faults.Damaged damage) tt keeps
reads_alone m old new (Err (faults.Pool fault)) keeps own = only_read (faults.Pool fault) own keeps

-- a transaction's bits were set, its page was settled, and the list has it so
pub commits_bits : {D L : Type 0} (m : Meaning D) (old new : TxList) (before after : Pool D L) (t : ℕ)
    (page : PageNo) (bytes : List ℕ) → page.0 ≡ (tip_in old (t / places old.size)).page
    → SetsState (tip_in old (t / places old.size)).bytes bytes (t % places old.size) Committed
    → SettlesPage m before after page bytes → KeepsBits old new (t / places old.size) bytes
    → CommitsBits m old new before after t
commits_bits m old new before after t page bytes number sets settles keeps = record {
  bytes = bytes;
  sets = sets;
  settles = subst (λ (n : ℕ). SettlesPage m before after (record { 0 = n }) bytes) number settles;
  keeps = keeps;
}

-- what has answered has no fault
pub no_fault : (fault : SpaceFault) (P : Type 0)
    → ◌≡◌ {A = Result (Unit {0}) SpaceFault} (Ok tt) (Err fault) → P
no_fault fault P is = absurd cc

all_same : (a b c d e f : ℕ) → a ≡ d → b ≡ e → c ≡ f → ◌≡◌ {A = ℕ × ℕ × ℕ} (a, b, c) (d, e, f)
all_same a b c d e f first second third =
    subst (λ (x : ℕ). ◌≡◌ {A = ℕ × ℕ × ℕ} (a, b, c) (x, e, f)) first
    (subst (λ (y : ℕ). ◌≡◌ {A = ℕ × ℕ × ℕ} (a, b, c) (a, y, f)) second
    (subst (λ (z : ℕ). ◌≡◌ {A = ℕ × ℕ × ℕ} (a, b, c) (a, b, z)) third refl))

-- page writes that went on have met no fault
pub written_online : {D L : Type 0} (m : Meaning D) (a b : Pool D L) → HasWritten m a b → b.offline ≡ None
    → StaysOnline m a b
written_online m a b run online = (
  sym run.offline ∙ online,
  online,
  all_same b.faults (m.faults b.disk) (m.failed_writes b.disk) a.faults (m.faults a.disk) (m.failed_writes a.disk) run.faults run.steady
      run.none_failed,
)

counts_after : {D L : Type 0} (m : Meaning D) (a b c : Pool D L) (n : ℕ) → HasWritten m a b
    → Counts m b c n → Counts m a c n
counts_after m a b c n run counts = (
  counts.0,
  counts.1 ∙ ap (λ (k : ℕ). min (k + 1) (2 ^ 64 - 1)) run.faults,
  subst (λ (k : ℕ). Rose k (m.faults c.disk)) run.steady counts.2,
)

-- the fault of a page write after others, told since the first of them
pub told_on : {D L : Type 0} (m : Meaning D) (a b c : Pool D L) (fault : PoolFault) → HasWritten m a b
    → b.offline ≡ None → OnlyWrites {T = Unit {0}} (Err fault)
    → TellsFault {T = Unit {0}} m b c (Err fault) → TellsFault {T = Unit {0}} m a c (Err fault)
told_on m a b c (DiskRead n) run online own tells = absurd own
told_on m a b c (DiskWrite n) run online own tells = (
  sym run.offline ∙ tells.0,
  tells.1,
  counts_after m a b c n run tells.2,
  subst (λ (k : ℕ). Rose k (m.failed_writes c.disk)) run.none_failed tells.3,
)
told_on m a b c (Offline n) run online own tells =
    let same : Some n ≡ None = sym tells.0 ∙ online in absurd cc
told_on m a b c (Absent n) run online own tells = absurd own
told_on m a b c Memory run online own tells = absurd own
