-- A disk whose calls may fail keeps what the disk in it keeps.
use Rattle.std.proofs.Common.{◌≡◌, ◌≤◌, ◌+◌, ℕ, List, false, inl, inr, get_or, ap, refl, subst, sym, arith}
use Rattle.std.specs.Prelude.{Result, Ok, Err, IsErrAnd, OnErr, OnOk}
use Rattle.mg_base.specs.Disk.{Calm, CountsFailedWrite, Keeps, KeepsReads, Rose, Writes}
use Rattle.mg_base.specs.MemDisk.{mem_meaning}
use Rattle.mg_base.specs.FaultyDisk.{faulty_meaning}
use Rattle.mg_base.specs.declared.mem_disk.MemDisk.{MemDisk}
use Rattle.mg_base.specs.declared.faulty_disk.FaultyDisk.{FaultyDisk}

rose_beside : (a b f g : ℕ) → g ≡ f → Rose a b → Rose (a + f) (b + g)
rose_beside a b f g same (inl rose) = inl (omega arith)
rose_beside a b f g same (inr full) = inr (omega arith)

rose_else : (a f g : ℕ) → Rose f g → Rose (a + f) (a + g)
rose_else a f g (inl rose) = inl (omega arith)
rose_else a f g (inr full) = inr (omega arith)

falls_beside : (a b f g : ℕ) → f ≤ g → a ≤ b → a + f ≤ b + g
falls_beside a b f g le more = omega arith

steady_beside : {T E : Type 0} (r : Result T E) (a b f g : ℕ) → g ≡ f → OnOk r (b ≡ a) → OnOk r (b + g ≡ a + f)
steady_beside (Ok x) a b f g same steady = omega arith
steady_beside (Err e) a b f g same steady = tt

no_ok : {T E : Type 0} (r : Result T E) (Q : E → Type 0) (P : Type 0) → IsErrAnd r Q → OnOk r P
no_ok (Ok x) Q P is = absurd is
no_ok (Err e) Q P is = tt

on_err : {T E : Type 0} (r : Result T E) (P : Type 0) → P → OnErr r P
on_err (Ok x) P holds = tt
on_err (Err e) P holds = holds

-- the call went on

kept_inside : {T E : Type 0} (old new : FaultyDisk) (r : Result T E) → new.failed ≡ old.failed → Keeps mem_meaning old.inner new.inner r → Keeps faulty_meaning old new r
kept_inside old new r same keeps = record {
  size = keeps.size;
  tells = refl;
  most_writes = refl;
  time = λ told. let time = keeps.time told in record { later = time.later; nothing_else = time.nothing_else; keeps = time.keeps };
  never_falls = falls_beside old.inner.faults new.inner.faults old.failed new.failed (omega arith) keeps.never_falls;
  cause = λ failed. rose_beside old.inner.faults new.inner.faults old.failed new.failed same (keeps.cause failed);
  steady = steady_beside r old.inner.faults new.inner.faults old.failed new.failed same keeps.steady;
}

pub calm_inside : {T E : Type 0} (old new : FaultyDisk) (middle : MemDisk) (r : Result T E) → middle ≡ old.inner → new.failed ≡ old.failed → new.asked ≡ old.asked → Calm mem_meaning middle new.inner r → Calm faulty_meaning old new r
calm_inside old new middle r is same asked middle_calm =
    let calm = subst (λ (d : MemDisk). Calm mem_meaning d new.inner r) is middle_calm in
    record { keeps = kept_inside old new r same calm.keeps; count = calm.count; held = calm.held; crash = calm.crash; asked = asked }

pub unread_inside : (old new : FaultyDisk) (middle : MemDisk) → middle ≡ old.inner → new.reads ≡ old.reads → KeepsReads mem_meaning middle new.inner → KeepsReads faulty_meaning old new
unread_inside old new middle is reads middle_unread =
    let unread = subst (λ (d : MemDisk). KeepsReads mem_meaning d new.inner) is middle_unread in
    record { reads = reads; was_read = unread.was_read }

pub writes_inside : {T E : Type 0} (old new : FaultyDisk) (middle : MemDisk) (page : ℕ) (bytes : List ℕ) (r : Result T E) → middle ≡ old.inner → new.failed ≡ old.failed → new.asked ≤ old.asked + 1 → new.reads ≡ old.reads
    → Writes mem_meaning middle new.inner page bytes r → Writes faulty_meaning old new page bytes r
writes_inside old new middle page bytes r is same asked reads middle_writes =
    let writes = subst (λ (d : MemDisk). Writes mem_meaning d new.inner page bytes r) is middle_writes in
    record {
      count = writes.count;
      stored = writes.stored;
      failed = writes.failed;
      failed_count = writes.failed_count;
      crash = writes.crash;
      untold = writes.untold;
      asked = asked;
      unread = record { reads = reads; was_read = writes.unread.was_read };
      keeps = kept_inside old new r same writes.keeps;
    }

-- the call failed before the disk was asked

kept_before : {T E : Type 0} (old new : FaultyDisk) (r : Result T E) (Q : E → Type 0) → new.inner ≡ old.inner → old.failed ≤ new.failed → Rose old.failed new.failed → IsErrAnd r Q → Keeps faulty_meaning old new r
kept_before old new r Q same le rose is = subst (λ (d : MemDisk). Keeps faulty_meaning old (record new { inner = d }) r) (sym same) (record {
  size = refl;
  tells = refl;
  most_writes = refl;
  time = λ told. record { later = omega arith; nothing_else = λ t c early left. inl left; keeps = λ t c early left. left };
  never_falls = falls_beside old.inner.faults old.inner.faults old.failed new.failed le (omega arith);
  cause = λ failed. rose_else old.inner.faults old.failed new.failed rose;
  steady = no_ok r Q (old.inner.faults + new.failed ≡ old.inner.faults + old.failed) is;
})

pub calm_before : {T E : Type 0} (old new : FaultyDisk) (r : Result T E) (Q : E → Type 0) → new.inner ≡ old.inner → new.asked ≡ old.asked → old.failed ≤ new.failed → Rose old.failed new.failed → IsErrAnd r Q → Calm faulty_meaning old new r
calm_before old new r Q same asked le rose is =
    let keeps = kept_before old new r Q same le rose is in
    subst (λ (d : MemDisk). Keeps faulty_meaning old (record new { inner = d }) r → Calm faulty_meaning old (record new { inner = d }) r) (sym same)
    (λ kept. record { keeps = kept; count = refl; held = refl; crash = λ told c may. may; asked = asked }) keeps

pub unread_before : (old new : FaultyDisk) → new.inner ≡ old.inner → new.reads ≡ old.reads → KeepsReads faulty_meaning old new
unread_before old new same reads = record { reads = reads; was_read = λ n. ap (λ (d : MemDisk). get_or d.were_read.items n false) same }

pub writes_before : {T E : Type 0} (old new : FaultyDisk) (page : ℕ) (bytes : List ℕ) (r : Result T E) (Q : E → Type 0) → new.inner ≡ old.inner → new.asked ≤ old.asked + 1 → new.reads ≡ old.reads → old.failed ≤ new.failed → Rose old.failed new.failed → IsErrAnd r Q
    → Writes faulty_meaning old new page bytes r
writes_before old new page bytes r Q same asked reads le rose is =
    let keeps = kept_before old new r Q same le rose is in
    subst (λ (d : MemDisk). Keeps faulty_meaning old (record new { inner = d }) r → Writes faulty_meaning old (record new { inner = d }) page bytes r) (sym same)
    (λ kept. record {
      count = no_ok r Q _ is;
      stored = no_ok r Q _ is;
      failed = on_err r _ (λ image held. inl held);
      failed_count = on_err r _ (λ n count. inl count);
      crash = λ told c may. inl may;
      untold = λ none. none;
      asked = asked;
      unread = record { reads = reads; was_read = λ n. refl };
      keeps = kept;
    }) keeps

-- what counts as a failed page write

pub failed_write_inside : {T E : Type 0} (old new : FaultyDisk) (middle : MemDisk) (r : Result T E) → middle ≡ old.inner → new.failed_writes ≡ old.failed_writes
    → CountsFailedWrite mem_meaning middle new.inner r → CountsFailedWrite faulty_meaning old new r
failed_write_inside old new middle r is same middle_counts =
    let counts = subst (λ (d : MemDisk). CountsFailedWrite mem_meaning d new.inner r) is middle_counts in
    record {
      never_falls = falls_beside old.inner.faults new.inner.faults old.failed_writes new.failed_writes (omega arith) counts.never_falls;
      cause = λ failed. rose_beside old.inner.faults new.inner.faults old.failed_writes new.failed_writes same (counts.cause failed);
      steady = steady_beside r old.inner.faults new.inner.faults old.failed_writes new.failed_writes same counts.steady;
    }

pub failed_write_before : {T E : Type 0} (old new : FaultyDisk) (r : Result T E) (Q : E → Type 0) → new.inner ≡ old.inner → old.failed_writes ≤ new.failed_writes → Rose old.failed_writes new.failed_writes → IsErrAnd r Q
    → CountsFailedWrite faulty_meaning old new r
failed_write_before old new r Q same le rose is = subst (λ (d : MemDisk). CountsFailedWrite faulty_meaning old (record new { inner = d }) r) (sym same) (record {
  never_falls = falls_beside old.inner.faults old.inner.faults old.failed_writes new.failed_writes le (omega arith);
  cause = λ failed. rose_else old.inner.faults old.failed_writes new.failed_writes rose;
  steady = no_ok r Q (old.inner.faults + new.failed_writes ≡ old.inner.faults + old.failed_writes) is;
})
