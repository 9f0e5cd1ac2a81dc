-- A page write that is forced, and what is known of a disk that forces each.
use Rattle.std.specs.Prelude.{◌≡◌, ◌⊎◌, ℕ, ◌≤◌, true, false, Option, Some, None, Result, Ok, Err, IsErr, OnOk, OnErr, List, [], ◌∷◌, length, max, ◌+◌}
use Rattle.std.proofs.Common.{refl, arith, inl, inr, sym, ap, ◌∙◌, subst}
use Rattle.mg_base.specs.Disk.{Calm, CountsFailedWrite, Elapses, Keeps, KeepsReads, MayLeave, Meaning, Rose, Stays, Writes}
use Rattle.mg_base.specs.Image.{Image, written}
use Rattle.mg_device.specs.Device.{DeviceMeaning, IsDevice, PageWrite, Pends, Reaches, Syncs, after_write, as_disk, written_through}
use Rattle.mg_device.specs.DeviceLaws.{calm_of_sync, device_counts_now, device_holds, reaches_none, reaches_one, same_crash}
use Rattle.mg_device.specs.Forced.{forced_meaning}
use Rattle.mg_device.specs.declared.forced.ForcedWrites.{ForcedWrites}

-- Of calls of any disk.

stays_on : (old mid new : Option ℕ) → Stays old mid → Stays mid new → Stays old new
stays_on None mid new first then_ = tt
stays_on (Some n) mid new first then_ = by mid new first then_
  where
    by : (mid new : Option ℕ) → mid ≡ Some n → Stays mid new → new ≡ Some n
    by (Some k) new is stays = stays ∙ is
    by None new is stays = absurd (let i = is in cc)

module _ {D : Type 0} (m : Meaning D)
    (counts_now : (d : D) (t : ℕ) (c : Image) → m.tells d ≡ true → t ≤ m.moment d → MayLeave m d c → m.left d t c) where
  -- time over two calls, the first of which a crash does not show
  elapses_on : (old mid new : D) → m.tells old ≡ true → Elapses m old mid → Elapses m mid new
      → ((c : Image) → MayLeave m mid c → MayLeave m old c ⊎ MayLeave m new c) → Elapses m old new
  elapses_on old mid new told first then_ shown = record {
    later = let a = first.later in let b = then_.later in omega arith;
    nothing_else = λ t c early left. at t c early (then_.nothing_else t c (let a = first.later in omega (arith, a, early)) left);
    keeps = λ t c early left. then_.keeps t c (let a = first.later in omega (arith, a, early)) (first.keeps t c early left);
  }
    where
      in_between : (t : ℕ) (c : Image) → t ≤ m.moment old → MayLeave m old c ⊎ MayLeave m new c → m.left old t c ⊎ MayLeave m new c
      in_between t c early (inl before) = inl (counts_now old t c told early before)
      in_between t c early (inr now) = inr now

      earlier : (t : ℕ) (c : Image) → t ≤ m.moment old → m.left old t c ⊎ MayLeave m mid c → m.left old t c ⊎ MayLeave m new c
      earlier t c early (inl before) = inl before
      earlier t c early (inr mid_left) = in_between t c early (shown c mid_left)

      at : (t : ℕ) (c : Image) → t ≤ m.moment old → m.left mid t c ⊎ MayLeave m new c → m.left old t c ⊎ MayLeave m new c
      at t c early (inl before) = earlier t c early (first.nothing_else t c early before)
      at t c early (inr now) = inr now

  -- what two calls keep, the first of which was answered
  keeps_on : {T E U : Type 0} (old mid new : D) (x : U) (result : Result T E) → Keeps {T = U} {E = E} m old mid (Ok x) → Keeps m mid new result
      → (m.tells old ≡ true → (c : Image) → MayLeave m mid c → MayLeave m old c ⊎ MayLeave m new c) → Keeps m old new result
  keeps_on {T} {E} old mid new x result first then_ shown = record {
    size = stays_on (m.size old) (m.size mid) (m.size new) first.size then_.size;
    tells = then_.tells ∙ first.tells;
    most_writes = then_.most_writes ∙ first.most_writes;
    time = λ told. elapses_on old mid new told (first.time told) (then_.time (first.tells ∙ told)) (shown told);
    never_falls = let a = first.never_falls in let b = then_.never_falls in omega arith;
    cause = λ no. subst (λ (k : ℕ). Rose k (m.faults new)) first.steady (then_.cause no);
    steady = by result then_.steady;
  }
    where
      by : (result : Result T E) → OnOk result (m.faults new ≡ m.faults mid) → OnOk result (m.faults new ≡ m.faults old)
      by (Ok y) same = same ∙ first.steady
      by (Err e) same = tt

  pub calm_on : {T E U : Type 0} (old mid new : D) (x : U) (result : Result T E) → Calm {T = U} {E = E} m old mid (Ok x) → Calm m mid new result
      → Calm m old new result
  calm_on old mid new x result first then_ = record {
    keeps = keeps_on old mid new x result first.keeps then_.keeps (λ told c left. inl (first.crash told c left));
    count = stays_on (m.count old) (m.count mid) (m.count new) first.count then_.count;
    held = then_.held ∙ first.held;
    crash = λ told c left. first.crash told c (then_.crash (first.keeps.tells ∙ told) c left);
    asked = then_.asked ∙ first.asked;
  }

  -- a page write after such a call
  pub writes_on : {T E U : Type 0} (old mid new : D) (page : ℕ) (bytes : List ℕ) (x : U) (result : Result T E) → Calm {T = U} {E = E} m old mid (Ok x)
      → KeepsReads m old mid → Writes m mid new page bytes result → Writes m old new page bytes result
  writes_on {T} {E} old mid new page bytes x result calm unread writes = record {
    count = counted result writes.count;
    stored = stored result writes.stored;
    failed = failed result writes.failed;
    failed_count = failed_count result writes.failed_count;
    crash = λ told c left. crashed told c (writes.crash (calm.keeps.tells ∙ told) c left);
    untold = λ untold. writes.untold (calm.held ∙ untold);
    asked = let a = calm.asked in let b = writes.asked in omega (arith, a, b);
    unread = record { reads = writes.unread.reads ∙ unread.reads; was_read = λ n. writes.unread.was_read n ∙ unread.was_read n };
    keeps = keeps_on old mid new x result calm.keeps writes.keeps (λ told c left. inl (calm.crash told c left));
  }
    where
      number : (n : ℕ) → m.count old ≡ Some n → m.count mid ≡ Some n
      number n is = subst (λ (o : Option ℕ). Stays o (m.count mid)) is calm.count

      counted : (result : Result T E) → OnOk result ((n : ℕ) → m.count mid ≡ Some n → m.count new ≡ Some (max n (page + 1)))
          → OnOk result ((n : ℕ) → m.count old ≡ Some n → m.count new ≡ Some (max n (page + 1)))
      counted (Ok y) says = λ n is. says n (number n is)
      counted (Err e) says = tt

      stored : (result : Result T E) → OnOk result ((image : Image) → m.held mid ≡ Some image → m.held new ≡ Some (written (length bytes) image page bytes))
          → OnOk result ((image : Image) → m.held old ≡ Some image → m.held new ≡ Some (written (length bytes) image page bytes))
      stored (Ok y) says = λ image is. says image (calm.held ∙ is)
      stored (Err e) says = tt

      failed : (result : Result T E)
          → OnErr result ((image : Image) → m.held mid ≡ Some image → (m.held new ≡ Some image) ⊎ (m.held new ≡ Some (written (length bytes) image page bytes)))
          → OnErr result ((image : Image) → m.held old ≡ Some image → (m.held new ≡ Some image) ⊎ (m.held new ≡ Some (written (length bytes) image page bytes)))
      failed (Ok y) says = tt
      failed (Err e) says = λ image is. says image (calm.held ∙ is)

      failed_count : (result : Result T E)
          → OnErr result ((n : ℕ) → m.count mid ≡ Some n → (m.count new ≡ Some n) ⊎ (m.count new ≡ Some (max n (page + 1))))
          → OnErr result ((n : ℕ) → m.count old ≡ Some n → (m.count new ≡ Some n) ⊎ (m.count new ≡ Some (max n (page + 1))))
      failed_count (Ok y) says = tt
      failed_count (Err e) says = λ n is. says n (number n is)

      crashed : m.tells old ≡ true → (c : Image) → MayLeave m mid c ⊎ (m.held new ≡ Some c) → MayLeave m old c ⊎ (m.held new ≡ Some c)
      crashed told c (inl before) = inl (calm.crash told c before)
      crashed told c (inr now) = inr now

-- a call that was refused before the page was written
pub writes_refused : {D T E U : Type 0} (m : Meaning D) (old new : D) (page : ℕ) (bytes : List ℕ) (e e' : E) → Calm {T = U} m old new (Err e)
    → KeepsReads m old new → Writes {T = T} m old new page bytes (Err e')
writes_refused m old new page bytes e e' calm unread = record {
  count = tt;
  stored = tt;
  failed = λ image is. inl (calm.held ∙ is);
  failed_count = λ n is. inl (subst (λ (o : Option ℕ). Stays o (m.count new)) is calm.count);
  crash = λ told c left. inl (calm.crash told c left);
  untold = λ none. calm.held ∙ none;
  asked = let a = calm.asked in omega (arith, a);
  unread = unread;
  keeps = record {
    size = calm.keeps.size;
    tells = calm.keeps.tells;
    most_writes = calm.keeps.most_writes;
    time = calm.keeps.time;
    never_falls = calm.keeps.never_falls;
    cause = λ no. calm.keeps.cause refl;
    steady = tt;
  };
}

-- A page write on a device on which nothing is pending, read as one on a disk.
module _ {V : Type 0} (m : DeviceMeaning V) (law : IsDevice m) where
  abbrev disk : Meaning V
  disk = as_disk m

  -- what is told to be pending after a page write alone
  abbrev IsOne : V → V → PageWrite → Type 0
  IsOne old new w = (image : Image) → m.synced old ≡ Some image → m.pending new ≡ w ∷ []

  -- a crash leaves what it left before, or what the device holds now
  crash_one : (old new : V) (w : PageWrite) → m.pending old ≡ [] → m.synced new ≡ m.synced old → m.tells new ≡ m.tells old
      → ((image : Image) → m.synced old ≡ Some image → (m.pending new ≡ []) ⊎ (m.pending new ≡ w ∷ [])) → m.tells old ≡ true → (c : Image)
      → MayLeave disk new c → MayLeave disk old c ⊎ (disk.held new ≡ Some c)
  crash_one old new w empty synced tells either told c left =
      let base = law.told old told in
      split base.0 base.1 (either base.0 base.1)
    where
      at : (image : Image) → m.synced old ≡ Some image → m.pending new ≡ w ∷ [] → (c ≡ image) ⊎ (c ≡ after_write image w)
          → MayLeave disk old c ⊎ (disk.held new ≡ Some c)
      at image is one (inl before) = inl (law.may_leave old (m.moment old) image c told is (omega arith) (rw (before, empty) Reaches.none))
      at image is one (inr now) = inr (rw (one, synced, is, now) refl)

      split : (image : Image) → m.synced old ≡ Some image → (m.pending new ≡ []) ⊎ (m.pending new ≡ w ∷ [])
          → MayLeave disk old c ⊎ (disk.held new ≡ Some c)
      split image is (inl none) = inl (same_crash m law old new c told tells synced (none ∙ sym empty) left)
      split image is (inr one) =
          at image is one (reaches_one image (m.pending new) w c one (law.leaves new image c (tells ∙ told) (synced ∙ is) left))

  -- what it holds
  held_one : (old new : V) (w : PageWrite) → m.pending old ≡ [] → m.synced new ≡ m.synced old → IsOne old new w
      → (image : Image) → disk.held old ≡ Some image → disk.held new ≡ Some (after_write image w)
  held_one old new w empty synced one image held = at (m.synced old) refl (rw empty at held)
    where
      at : (s : Option Image) → m.synced old ≡ s → written_through s [] ≡ Some image → disk.held new ≡ Some (after_write image w)
      at None is h = absurd (let e = h in cc)
      at (Some i) is h = let e : i ≡ image = let q = h in cc in rw (one i is, synced, is, e) refl

  held_same : (old new : V) → m.synced new ≡ m.synced old → m.pending new ≡ m.pending old → disk.held new ≡ disk.held old
  held_same old new synced pending = rw (synced, pending) refl

  untold_one : (old new : V) (ws : List PageWrite) → m.pending new ≡ ws → m.synced new ≡ m.synced old → disk.held old ≡ None → disk.held new ≡ None
  untold_one old new ws is synced none = rw synced (at (m.synced old) (m.pending old) none)
    where
      at : (s : Option Image) (us : List PageWrite) → written_through s us ≡ None → written_through s (m.pending new) ≡ None
      at None us h = refl
      at (Some i) us h = absurd (let e = h in cc)

  -- the page write failed
  pub writes_of_failed : {T E : Type 0} (old new : V) (w : PageWrite) (e : E) → m.pending old ≡ [] → Pends {T = T} m old new w (Err e)
      → Writes {T = T} disk old new w.page w.bytes (Err e)
  writes_of_failed old new w e empty pends = record {
    count = tt;
    stored = tt;
    failed = λ image held. told image held (m.synced old) refl held;
    failed_count = pends.failed_count;
    crash = crash_one old new w empty pends.synced pends.keeps.tells (λ image is. after (pends.in_doubt image is));
    untold = untold_one old new (m.pending new) refl pends.synced;
    asked = omega arith;
    unread = record { reads = refl; was_read = λ n. refl };
    keeps = pends.keeps;
  }
    where
      after : (m.pending new ≡ m.pending old) ⊎ (m.pending new ≡ w ∷ m.pending old) → (m.pending new ≡ []) ⊎ (m.pending new ≡ w ∷ [])
      after (inl same) = inl (same ∙ empty)
      after (inr more) = inr (more ∙ ap (λ ws. w ∷ ws) empty)

      at : (image : Image) → disk.held old ≡ Some image → (m.pending new ≡ m.pending old) ⊎ (m.pending new ≡ w ∷ m.pending old)
          → (disk.held new ≡ Some image) ⊎ (disk.held new ≡ Some (after_write image w))
      at image held (inl same) = inl (held_same old new pends.synced same ∙ held)
      at image held (inr more) = inr (held_one old new w empty pends.synced (λ i is. more ∙ ap (λ ws. w ∷ ws) empty) image held)

      told : (image : Image) → disk.held old ≡ Some image → (s : Option Image) → m.synced old ≡ s → written_through s (m.pending old) ≡ Some image
          → (disk.held new ≡ Some image) ⊎ (disk.held new ≡ Some (after_write image w))
      told image held None is h = absurd (let e = h in cc)
      told image held (Some i) is h = at image held (pends.in_doubt i is)

  -- the page was written, and a sync was asked for
  pub writes_of_forced : {T E U : Type 0} (old mid new : V) (w : PageWrite) (x : U) (result : Result T E) → m.pending old ≡ [] → m.failed old ≡ false
      → Pends {T = U} {E = E} m old mid w (Ok x) → Syncs m mid new result → Writes disk old new w.page w.bytes result
  writes_of_forced {T} {E} old mid new w x result empty whole pends syncs = record {
    count = counted result;
    stored = stored result;
    failed = failed result;
    failed_count = failed_count result;
    crash = λ told c left. crashed told c (calm.crash (pends.keeps.tells ∙ told) c left);
    untold = λ none. calm.held ∙ untold_one old mid (m.pending mid) refl pends.synced none;
    asked = omega arith;
    unread = record { reads = refl; was_read = λ n. refl };
    keeps = keeps_on disk (device_counts_now m law) old mid new x result pends.keeps syncs.keeps
        (λ told c left. in_between told c (crash_one old mid w empty pends.synced pends.keeps.tells (λ i is. inr (one i is)) told c left));
  }
    where
      calm : Calm disk mid new result
      calm = calm_of_sync m law mid new result (pends.goes_on ∙ whole) syncs

      one : IsOne old mid w
      one = λ image is. pends.pending image is ∙ ap (λ ws. w ∷ ws) empty

      number : (n : ℕ) → m.count old ≡ Some n → m.count new ≡ Some (max n (w.page + 1))
      number n is = subst (λ (o : Option ℕ). Stays o (m.count new)) (pends.count n is) syncs.count

      holds : (image : Image) → disk.held old ≡ Some image → disk.held new ≡ Some (after_write image w)
      holds image held = calm.held ∙ held_one old mid w empty pends.synced one image held

      counted : (result : Result T E) → OnOk result ((n : ℕ) → m.count old ≡ Some n → m.count new ≡ Some (max n (w.page + 1)))
      counted (Ok y) = number
      counted (Err e) = tt

      stored : (result : Result T E) → OnOk result ((image : Image) → disk.held old ≡ Some image → disk.held new ≡ Some (after_write image w))
      stored (Ok y) = holds
      stored (Err e) = tt

      failed : (result : Result T E)
          → OnErr result ((image : Image) → disk.held old ≡ Some image → (disk.held new ≡ Some image) ⊎ (disk.held new ≡ Some (after_write image w)))
      failed (Ok y) = tt
      failed (Err e) = λ image held. inr (holds image held)

      failed_count : (result : Result T E)
          → OnErr result ((n : ℕ) → m.count old ≡ Some n → (m.count new ≡ Some n) ⊎ (m.count new ≡ Some (max n (w.page + 1))))
      failed_count (Ok y) = tt
      failed_count (Err e) = λ n is. inr (number n is)

      -- what the device held then it holds after the sync, answered or not
      now : (c : Image) → disk.held mid ≡ Some c → disk.held new ≡ Some c
      now c held = calm.held ∙ held

      crashed : m.tells old ≡ true → (c : Image) → MayLeave disk mid c → MayLeave disk old c ⊎ (disk.held new ≡ Some c)
      crashed told c left = at (crash_one old mid w empty pends.synced pends.keeps.tells (λ i is. inr (one i is)) told c left)
        where
          at : MayLeave disk old c ⊎ (disk.held mid ≡ Some c) → MayLeave disk old c ⊎ (disk.held new ≡ Some c)
          at (inl before) = inl before
          at (inr held) = inr (now c held)

      in_between : m.tells old ≡ true → (c : Image) → MayLeave disk old c ⊎ (disk.held mid ≡ Some c) → MayLeave disk old c ⊎ MayLeave disk new c
      in_between told c (inl before) = inl before
      in_between told c (inr held) =
          let found = device_holds m law new (syncs.keeps.tells ∙ pends.keeps.tells ∙ told) in
          let same : c ≡ found.0 = let a = now c held in let b = found.1 in cc in
          inr (subst (λ (i : Image). MayLeave disk new i) (sym same) found.2)

  -- where nothing is pending, a crash leaves what the device holds
  durable : (v : V) → m.pending v ≡ [] → m.tells v ≡ true → (c : Image) → MayLeave disk v c → disk.held v ≡ Some c
  durable v empty told c left =
      let base = law.told v told in
      let is : c ≡ base.0 = reaches_none base.0 (m.pending v) c empty (law.leaves v base.0 c told base.1 left) in
      rw (empty, base.1, is) refl

  pub none_pending : {T E : Type 0} (old new : V) (result : Result T E) → m.failed old ≡ false → Syncs m old new result
      → OnOk result (m.pending new ≡ [])
  none_pending old new (Ok x) whole syncs = syncs.none_pending whole
  none_pending old new (Err e) whole syncs = tt

  pub settled : {T E : Type 0} (old new : V) (result : Result T E) → OnOk result (m.pending new ≡ []) → m.tells new ≡ m.tells old
      → OnOk result (m.tells old ≡ true → (c : Image) → MayLeave disk new c → disk.held new ≡ Some c)
  settled old new (Ok x) empty same = λ told c left. durable new empty (same ∙ told) c left
  settled old new (Err e) empty same = tt

-- What is known of the device is known of the disk that forces page writes onto it.
module _ {V : Type 0} (m : DeviceMeaning V) where
  rose_sum : (a b r s : ℕ) → r ≤ s → Rose a b → Rose (a + r) (b + s)
  rose_sum a b r s le (inl lt) = inl (omega (arith, le, lt))
  rose_sum a b r s le (inr end) = inr (omega (arith, le, end))

  keeps_forced : {T E : Type 0} (old new : ForcedWrites V) (result : Result T E) → new.refused ≡ old.refused
      → Keeps (as_disk m) old.device new.device result → Keeps (forced_meaning m) old new result
  keeps_forced {T} {E} old new result same keeps = record {
    size = keeps.size;
    tells = keeps.tells;
    most_writes = refl;
    time = λ told. let t = keeps.time told in record { later = t.later; nothing_else = t.nothing_else; keeps = t.keeps };
    never_falls = let a = keeps.never_falls in omega (arith, a, same);
    cause = λ no. rose_sum (m.faults old.device) (m.faults new.device) old.refused new.refused (omega (arith, same)) (keeps.cause no);
    steady = by result keeps.steady;
  }
    where
      by : (result : Result T E) → OnOk result (m.faults new.device ≡ m.faults old.device)
          → OnOk result (m.faults new.device + new.refused ≡ m.faults old.device + old.refused)
      by (Ok x) is = omega (arith, is, same)
      by (Err e) is = tt

  pub keeps_counted : {T E : Type 0} (old mid : ForcedWrites V) (count : ℕ) (result : Result T E) → Keeps (forced_meaning m) old mid result
      → Keeps (forced_meaning m) old (record mid { failed_writes = count }) result
  keeps_counted old mid count result keeps = record {
    size = keeps.size;
    tells = keeps.tells;
    most_writes = keeps.most_writes;
    time = λ told. let t = keeps.time told in record { later = t.later; nothing_else = t.nothing_else; keeps = t.keeps };
    never_falls = keeps.never_falls;
    cause = keeps.cause;
    steady = keeps.steady;
  }

  pub calm_forced : {T E : Type 0} (old new : ForcedWrites V) (result : Result T E) → new.refused ≡ old.refused
      → Calm (as_disk m) old.device new.device result → Calm (forced_meaning m) old new result
  calm_forced old new result same calm = record {
    keeps = keeps_forced old new result same calm.keeps;
    count = calm.count;
    held = calm.held;
    crash = calm.crash;
    asked = refl;
  }

  pub writes_forced : {T E : Type 0} (old new : ForcedWrites V) (page : ℕ) (bytes : List ℕ) (result : Result T E) → new.refused ≡ old.refused
      → Writes (as_disk m) old.device new.device page bytes result → Writes (forced_meaning m) old new page bytes result
  writes_forced old new page bytes result same writes = record {
    count = writes.count;
    stored = writes.stored;
    failed = writes.failed;
    failed_count = writes.failed_count;
    crash = writes.crash;
    untold = writes.untold;
    asked = omega arith;
    unread = record { reads = refl; was_read = λ n. refl };
    keeps = keeps_forced old new result same writes.keeps;
  }

-- What a call left, with one failure more counted or none.
module _ {V : Type 0} (m : DeviceMeaning V) where
  pub calm_counted : {T E : Type 0} (old mid new : ForcedWrites V) (result : Result T E) → new ≡ record mid { failed_writes = new.failed_writes }
      → Calm (forced_meaning m) old mid result → Calm (forced_meaning m) old new result
  calm_counted old mid new result same calm = subst (λ (d : ForcedWrites V). Calm (forced_meaning m) old d result) (sym same) (record {
    keeps = keeps_counted m old mid new.failed_writes result calm.keeps;
    count = calm.count;
    held = calm.held;
    crash = calm.crash;
    asked = calm.asked;
  })

  pub writes_counted : {T E : Type 0} (old mid new : ForcedWrites V) (page : ℕ) (bytes : List ℕ) (result : Result T E)
      → new ≡ record mid { failed_writes = new.failed_writes } → Writes (forced_meaning m) old mid page bytes result
      → Writes (forced_meaning m) old new page bytes result
  writes_counted old mid new page bytes result same writes = subst (λ (d : ForcedWrites V). Writes (forced_meaning m) old d page bytes result) (sym same) (record {
    count = writes.count;
    stored = writes.stored;
    failed = writes.failed;
    failed_count = writes.failed_count;
    crash = writes.crash;
    untold = writes.untold;
    asked = writes.asked;
    unread = record { reads = writes.unread.reads; was_read = writes.unread.was_read };
    keeps = keeps_counted m old mid new.failed_writes result writes.keeps;
  })

  pub durable_counted : {T E : Type 0} (old mid new : ForcedWrites V) (result : Result T E) → new ≡ record mid { failed_writes = new.failed_writes }
      → OnOk result (m.tells old.device ≡ true → (c : Image) → MayLeave (forced_meaning m) mid c → (forced_meaning m).held mid ≡ Some c)
      → OnOk result (m.tells old.device ≡ true → (c : Image) → MayLeave (forced_meaning m) new c → (forced_meaning m).held new ≡ Some c)
  durable_counted old mid new result same durable = subst (λ (d : ForcedWrites V). OnOk result (m.tells old.device ≡ true → (c : Image)
      → MayLeave (forced_meaning m) d c → (forced_meaning m).held d ≡ Some c)) (sym same) durable

  pub forced_counted : {T E : Type 0} (mid new : V) (result : Result T E) → new ≡ mid → OnOk result (m.pending mid ≡ [])
      → OnOk result (m.pending new ≡ [])
  forced_counted mid new result same empty = subst (λ (d : V). OnOk result (m.pending d ≡ [])) (sym same) empty

  pub cause_counted : {T E : Type 0} (old mid new : V) (result : Result T E) → new ≡ mid
      → (IsErr result → (m.failed old ≡ true) ⊎ Rose (m.faults old) (m.faults mid))
      → IsErr result → (m.failed old ≡ true) ⊎ Rose (m.faults old) (m.faults new)
  cause_counted old mid new result same cause =
      subst (λ (d : V). IsErr result → (m.failed old ≡ true) ⊎ Rose (m.faults old) (m.faults d)) (sym same) cause

  pub failed_counted : {T E : Type 0} (old mid new : ForcedWrites V) (result : Result T E) → mid.failed_writes ≡ old.failed_writes
      → mid.failed_writes ≤ new.failed_writes → (IsErr result → Rose mid.failed_writes new.failed_writes)
      → OnOk result (new.failed_writes ≡ mid.failed_writes) → CountsFailedWrite (forced_meaning m) old new result
  failed_counted {T} {E} old mid new result before more rose steady = record {
    never_falls = omega (arith, before, more);
    cause = λ no. subst (λ (k : ℕ). Rose k new.failed_writes) before (rose no);
    steady = by result steady;
  }
    where
      by : (result : Result T E) → OnOk result (new.failed_writes ≡ mid.failed_writes) → OnOk result (new.failed_writes ≡ old.failed_writes)
      by (Ok x) same = same ∙ before
      by (Err e) same = tt

-- A fault that is handed on.
module _ {D : Type 0} (m : Meaning D) where
  keeps_given : {T E U F : Type 0} (old new : D) (e : F) (given : Result T E) → IsErr given → Keeps {T = U} m old new (Err e) → Keeps m old new given
  keeps_given {T} {E} old new e given is keeps = record {
    size = keeps.size;
    tells = keeps.tells;
    most_writes = keeps.most_writes;
    time = keeps.time;
    never_falls = keeps.never_falls;
    cause = λ no. keeps.cause refl;
    steady = at given is;
  }
    where
      at : (given : Result T E) → IsErr given → OnOk given (m.faults new ≡ m.faults old)
      at (Ok x) failed = absurd (let h = failed in cc)
      at (Err f) failed = tt

  pub calm_given : {T E U F : Type 0} (old new : D) (e : F) (given : Result T E) → IsErr given → Calm {T = U} m old new (Err e) → Calm m old new given
  calm_given old new e given is calm = record {
    keeps = keeps_given old new e given is calm.keeps;
    count = calm.count;
    held = calm.held;
    crash = calm.crash;
    asked = calm.asked;
  }

  pub writes_given : {T E U F : Type 0} (old new : D) (page : ℕ) (bytes : List ℕ) (e : F) (given : Result T E) → IsErr given
      → Writes {T = U} m old new page bytes (Err e) → Writes m old new page bytes given
  writes_given {T} {E} old new page bytes e (Ok x) is writes = absurd (let h = is in cc)
  writes_given {T} {E} old new page bytes e (Err f) is writes = record {
    count = tt;
    stored = tt;
    failed = writes.failed;
    failed_count = writes.failed_count;
    crash = writes.crash;
    untold = writes.untold;
    asked = writes.asked;
    unread = writes.unread;
    keeps = keeps_given old new e (Err f) is writes.keeps;
  }
