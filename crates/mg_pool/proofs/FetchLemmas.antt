-- What a call leaves that reads of the disk and writes no page.
use Rattle.std.proofs.Common.{◌≡◌, ◌≢◌, ◌≤◌, ℕ, ◌+◌, ◌-◌, ◌⊎◌, Bool, true, false, inl, inr, List, Option, Some, None, is_some, cond, Bor, sym, ◌∙◌, ap, refl, subst, arith}
use Rattle.std.specs.Prelude.{Result, Ok, Err, OnOk, IsErrAnd, IsSome, min, ◌^◌}
use Rattle.std.specs.Option.{option_copied}
use Rattle.std.proofs.lemmas.Bool.{cases_eq}
use Rattle.mg_base.specs.Disk.{Calm, Elapses, FailsNoWrite, KeepsReads, Meaning, ReadsPage, Rose}
use Rattle.mg_pool.specs.declared.fault.PoolFault.{PoolFault}
use Rattle.mg_pool.specs.declared.fault.PoolFault.TheVariants.{DiskRead, DiskWrite, Offline, Absent, Memory}
use Rattle.mg_pool.specs.declared.pool.Pool.{Pool}
use Rattle.mg_pool.specs.Clean.{CleanPages, IsFull, KeepsClean, PutsClean, kept_in}
use Rattle.mg_pool.specs.Dirty.{DirtyPages, content_of, is_dirty}
use Rattle.mg_pool.specs.Fault.{OnlyRefuses, StaysOnline, TellsFault}
use Rattle.mg_pool.specs.Pool.{HasAtMost, IsCounted, IsOnDisk, IsPool, KeepsContent, resident}
use Rattle.mg_pool.specs.Reading.{Fetches, Stay}
use Rattle.mg_pool.specs.ReadingLaws.{stay_still}
use Rattle.mg_pool.proofs.PoolLemmas.{counted_calm, on_disk_calm, size_stays, some_copied, within_calm}
use Rattle.mg_pool.proofs.RunLemmas.{CountsNow}

-- the disk's content is as it was, after one call of it or several
pub record Quiet {D : Type 0} (m : Meaning D) (old new : D) : Type 0 where
  pub size : (n : ℕ) → m.size old ≡ Some n → m.size new ≡ Some n
  pub content : KeepsContent m old new
  pub on_disk : (p : ℕ) → IsOnDisk m old p → IsOnDisk m new p
  pub counted : IsCounted m old → IsCounted m new
  pub within : (most : ℕ) → HasAtMost m old most → HasAtMost m new most

pub quiet_none : {D : Type 0} (m : Meaning D) (disk : D) → Quiet m disk disk
quiet_none m disk = record {
  size = λ n is. is;
  content = record {
    held = refl;
    tells = refl;
    most_writes = refl;
    never_falls = omega arith;
    failed_writes = omega arith;
    crash = λ told image may. may;
    time = λ told. record {
      later = omega arith;
      nothing_else = λ t image early left. inl left;
      keeps = λ t image early left. left;
    };
    asked = refl;
  };
  on_disk = λ p there. there;
  counted = λ there. there;
  within = λ most has. has;
}

pub quiet_call : {D T E : Type 0} (m : Meaning D) (old new : D) (result : Result T E) → Calm m old new result → FailsNoWrite m old new
    → Quiet m old new
quiet_call m old new result calm none = record {
  size = λ n is. size_stays m old new result n is calm.keeps;
  content = record {
    held = calm.held;
    tells = calm.keeps.tells;
    most_writes = calm.keeps.most_writes;
    never_falls = calm.keeps.never_falls;
    failed_writes = omega (arith, none);
    crash = calm.crash;
    time = calm.keeps.time;
    asked = calm.asked;
  };
  on_disk = λ p there. on_disk_calm m old new result calm p there;
  counted = λ there. counted_calm m old new result calm there;
  within = λ most has. within_calm m old new result calm most has;
}

elapses_then : {D : Type 0} (m : Meaning D) → CountsNow m → (a b c : D) → m.tells a ≡ true → KeepsContent m a b → KeepsContent m b c → Elapses m a c
elapses_then m counts a b c told first second =
    let one = first.time told in
    let two = second.time (first.tells ∙ told) in
    record {
      later = let l = one.later in let k = two.later in omega arith;
      nothing_else = λ t image early left. elim (two.nothing_else t image (let l = one.later in omega arith) left) [
        | inr now ↦ inr now
        | inl then_ ↦ elim (one.nothing_else t image early then_) [
          | inl before ↦ inl before
          | inr middle ↦ inl (counts a t image told early (first.crash told image middle))
        ]
      ];
      keeps = λ t image early left. two.keeps t image (let l = one.later in omega arith) (one.keeps t image early left);
    }

pub quiet_then : {D : Type 0} (m : Meaning D) → CountsNow m → (a b c : D) → Quiet m a b → Quiet m b c → Quiet m a c
quiet_then m counts a b c first second =
    let one = first.content in
    let two = second.content in
    record {
      size = λ n is. second.size n (first.size n is);
      content = record {
        held = two.held ∙ one.held;
        tells = two.tells ∙ one.tells;
        most_writes = two.most_writes ∙ one.most_writes;
        never_falls = let f = one.never_falls in let s = two.never_falls in omega arith;
        failed_writes = let f = one.failed_writes in let s = two.failed_writes in omega arith;
        crash = λ told image may. one.crash told image (two.crash (one.tells ∙ told) image may);
        time = λ told. elapses_then m counts a b c told one two;
        asked = two.asked ∙ one.asked;
      };
      on_disk = λ p there. second.on_disk p (first.on_disk p there);
      counted = λ there. second.counted (first.counted there);
      within = λ most has. second.within most (first.within most has);
    }

-- What was read.

pub reads_none : {D : Type 0} (m : Meaning D) (disk : D) → KeepsReads m disk disk
reads_none m disk = record { reads = refl; was_read = λ n. refl }

pub reads_at_most : {D : Type 0} (m : Meaning D) (old new : D) (page : ℕ) → KeepsReads m old new → ReadsPage m old new page
reads_at_most m old new page keeps = record {
  reads = let k = keeps.reads in omega arith;
  alone = λ n was. inl (sym (keeps.was_read n) ∙ was);
}

pub reads_then : {D : Type 0} (m : Meaning D) (a b c : D) (page : ℕ) → KeepsReads m a b → ReadsPage m b c page → ReadsPage m a c page
reads_then m a b c page first second = record {
  reads = let f = first.reads in let s = second.reads in omega arith;
  alone = λ n was. elim (second.alone n was) [
    | inl before ↦ inl (sym (first.was_read n) ∙ before)
    | inr here ↦ inr here
  ];
}

-- What the pool is then.

-- the same pages are in memory, with the same contents
pub record LeavesPages {D L : Type 0} (m : Meaning D) (old new : Pool D L) (page : ℕ) : Type 0 where
  pub pool : IsPool m new
  pub geometry : new.geometry ≡ old.geometry
  pub dirty : new.dirty ≡ old.dirty
  pub graph : new.graph ≡ old.graph
  pub same : (p : ℕ) → resident new p ≡ resident old p
  pub disk : KeepsContent m old.disk new.disk
  pub reads : Fetches m old new page

pool_quiet : {D L : Type 0} (m : Meaning D) (old : Pool D L) (disk : D) (faults : ℕ) → IsPool m old → Quiet m old.disk disk → IsPool m (record old { disk = disk; faults = faults })
pool_quiet m old disk faults pool quiet = record {
  size = quiet.size old.geometry.size pool.size;
  page_size = pool.page_size;
  room = pool.room;
  few = pool.few;
  graph_room = pool.graph_room;
  tied = pool.tied;
  apart = pool.apart;
  whole = pool.whole;
  on_disk = λ online page bytes there. quiet.on_disk page (pool.on_disk online page bytes there);
  counted = λ online told. quiet.counted (pool.counted online told);
  clean = λ told image held. pool.clean (sym quiet.content.tells ∙ told) image (sym quiet.content.held ∙ held);
  below = pool.below;
  kept_below = pool.kept_below;
  within = quiet.within old.geometry.limit pool.within;
  noted = λ told image held. pool.noted (sym quiet.content.tells ∙ told) image (sym quiet.content.held ∙ held);
}

pub leaves_pages : {D L : Type 0} (m : Meaning D) (old : Pool D L) (disk : D) (faults : ℕ) (new : Pool D L) (page : ℕ) → new ≡ record old { disk = disk; faults = faults } → IsPool m old → Quiet m old.disk disk
    → ReadsPage m old.disk disk page → (IsSome (resident old page) → KeepsReads m old.disk disk) → LeavesPages m old new page
leaves_pages {D} {L} m old disk faults new page is pool quiet once none = subst (λ (p : Pool D L). LeavesPages m old p page) (sym is) (record {
  pool = pool_quiet m old disk faults pool quiet;
  geometry = refl;
  dirty = refl;
  graph = refl;
  same = λ p. refl;
  disk = quiet.content;
  reads = record { once = once; none = none; stay = record { there = λ p is. inl is; full = λ full. full } };
})

pub leaves_all : {D L : Type 0} (m : Meaning D) (old : Pool D L) (page : ℕ) → IsPool m old → LeavesPages m old old page
leaves_all m old page pool = record {
  pool = pool;
  geometry = refl;
  dirty = refl;
  graph = refl;
  same = λ p. refl;
  disk = (quiet_none m old.disk).content;
  reads = record {
    once = reads_at_most m old.disk old.disk page (reads_none m old.disk);
    none = λ there. reads_none m old.disk;
    stay = stay_still old;
  };
}

-- whether a page is in memory, as the call that looks for it tells
pub shown_so : {D L : Type 0} (pool : Pool D L) (page : ℕ) (r : Option (Bor (List ℕ))) (b v : Bool) → option_copied r ≡ resident pool page → b ≡ is_some r → b ≡ v → is_some (resident pool page) ≡ v
shown_so pool page r b v copied is told = ap is_some (sym copied) ∙ (some_copied r ∙ (sym is ∙ told))

-- the same clean pages are kept where the table is as before
pub keeps_same : (old new : CleanPages) → new ≡ old → KeepsClean old new
keeps_same old new is = subst (λ (c : CleanPages). KeepsClean old c) (sym is) (record { same = λ p. refl; full = λ full. full; room = refl })

-- the same as before, with a table of the same clean pages
pub leaves_cleaned : {D L : Type 0} (m : Meaning D) (old middle new : Pool D L) (page : ℕ) → new ≡ record middle { clean = new.clean } → KeepsClean middle.clean new.clean → LeavesPages m old middle page → LeavesPages m old new page
leaves_cleaned {D} {L} m old middle new page is keeps left =
    let same = keeps.same in
    let found : (p : ℕ) → resident (record middle { clean = new.clean }) p ≡ resident middle p = λ p. ap (cond (is_dirty middle.dirty p) (content_of middle.dirty p)) (same p) in
    let pool = left.pool in
    subst (λ (p : Pool D L). LeavesPages m old p page) (sym is) (record {
      pool = record {
        size = pool.size;
        page_size = pool.page_size;
        room = pool.room;
        few = pool.few;
        graph_room = pool.graph_room;
        tied = pool.tied;
        apart = λ p dirty. same p ∙ pool.apart p dirty;
        whole = λ p bytes there. pool.whole p bytes (sym (same p) ∙ there);
        on_disk = λ online p bytes there. pool.on_disk online p bytes (sym (same p) ∙ there);
        counted = pool.counted;
        clean = λ told image held p bytes there. pool.clean told image held p bytes (sym (same p) ∙ there);
        below = pool.below;
        kept_below = λ p bytes there. pool.kept_below p bytes (sym (same p) ∙ there);
        within = pool.within;
        noted = pool.noted;
      };
      geometry = left.geometry;
      dirty = left.dirty;
      graph = left.graph;
      same = λ p. found p ∙ left.same p;
      disk = left.disk;
      reads = record {
        once = left.reads.once;
        none = left.reads.none;
        stay = record {
          there = λ p is. elim (left.reads.stay.there p is) [
            | inl still ↦ inl (ap is_some (found p) ∙ still)
            | inr full ↦ inr (keeps.full full)
          ];
          full = λ full. keeps.full (left.reads.stay.full full);
        };
      };
    })

dirty_or_kept : (b : Bool) (c was now : Option (List ℕ)) (P : Type 0) → (is_some was ≡ true → (is_some now ≡ true) ⊎ P) → is_some (cond b c was) ≡ true → (is_some (cond b c now) ≡ true) ⊎ P
dirty_or_kept true c was now P stays is = inl is
dirty_or_kept false c was now P stays is = stays is

-- a page that is put beside the clean ones is in memory, and so are those that were, until there is no room
pub put_stays : {D L : Type 0} (old new : Pool D L) (page : ℕ) (content : List ℕ) → new.dirty ≡ old.dirty → is_dirty old.dirty page ≡ false → PutsClean old.clean new.clean page content
    → IsSome (resident new page) × Stay old new
put_stays old new page content same out puts = (
  there,
  record {
    there = λ p was. elim (cases_eq p page) [
      | inl e ↦ inl (subst (λ (q : ℕ). IsSome (resident new q)) (sym e) there)
      | inr apart ↦ subst (λ (d : DirtyPages). (is_some (cond (is_dirty d p) (content_of d p) (kept_in new.clean p)) ≡ true) ⊎ IsFull new.clean) (sym same) (dirty_or_kept (is_dirty old.dirty p) (content_of old.dirty p) (kept_in old.clean p) (kept_in new.clean p) (IsFull new.clean) (λ is. still p apart is) was)
    ];
    full = puts.full;
  },
)
  where
    there : is_some (cond (is_dirty new.dirty page) (content_of new.dirty page) (kept_in new.clean page)) ≡ true
    there = rw (same, out, puts.here) refl

    still : (p : ℕ) → p ≢ page → is_some (kept_in old.clean p) ≡ true → (is_some (kept_in new.clean p) ≡ true) ⊎ IsFull new.clean
    still p apart is = elim (puts.stays p apart is) [
      | inl kept ↦ inl kept
      | inr full ↦ inr (puts.full full)
    ]

is_there : {X : Type 0} (o : Option X) → is_some o ≡ true → (x : X) × (o ≡ Some x)
is_there None some = absurd cc
is_there (Some x) some = (x, refl)

clean_there : (b : Bool) (c d : Option (List ℕ)) → b ≡ false → is_some (cond b c d) ≡ true → is_some d ≡ true
clean_there true c d is there = absurd cc
clean_there false c d is there = there

-- a page in memory is dirty or on the disk
pub present : {D L : Type 0} (m : Meaning D) (pool : Pool D L) (page : ℕ) → IsPool m pool → pool.offline ≡ None → IsSome (resident pool page) → (is_dirty pool.dirty page ≡ true) ⊎ IsOnDisk m pool.disk page
present m pool page is_pool online there = at (is_dirty pool.dirty page) refl
  where
    at : (b : Bool) → is_dirty pool.dirty page ≡ b → (is_dirty pool.dirty page ≡ true) ⊎ IsOnDisk m pool.disk page
    at true is = inl is
    at false is =
        let clean = is_there (kept_in pool.clean page) (clean_there (is_dirty pool.dirty page) (content_of pool.dirty page) (kept_in pool.clean page) is there) in
        inr (is_pool.on_disk online page clean.0 clean.1)

-- What the answer tells.

pub rose_now : {D T E : Type 0} (m : Meaning D) (old new : D) (e : E) → Calm {T = T} {E = E} m old new (Err e) → Rose (m.faults old) (m.faults new)
rose_now m old new e calm = calm.keeps.cause refl

pub rose_then : (a b c : ℕ) → a ≤ b → Rose b c → Rose a c
rose_then a b c le (inl rose) = inl (omega arith)
rose_then a b c le (inr full) = inr full

-- the disk failed at a reading call
pub tells_read : {D L : Type 0} (T : Type 0) (m : Meaning D) (old : Pool D L) (disk : D) (new : Pool D L) (e : PoolFault) → new ≡ record old { disk = disk; faults = new.faults } → new.faults ≡ min (old.faults + 1) (2 ^ 64 - 1) → e ≡ DiskRead new.faults → old.offline ≡ None
    → Rose (m.faults old.disk) (m.faults disk) → FailsNoWrite m old.disk disk → TellsFault {T = T} m old new (Err e)
tells_read {D} {L} T m old disk new e is count told online rose none =
    subst (λ (f : PoolFault). TellsFault {T = T} m old new (Err f)) (sym told) (
      online,
      ap (λ (p : Pool D L). p.offline) is ∙ online,
      (refl, count, subst (λ (p : Pool D L). Rose (m.faults old.disk) (m.faults p.disk)) (sym is) rose),
      subst (λ (p : Pool D L). FailsNoWrite m old.disk p.disk) (sym is) none,
    )

all_same : (a b c d e : ℕ) → b ≡ d → c ≡ e → ◌≡◌ {A = ℕ × ℕ × ℕ} (a, b, c) (a, d, e)
all_same a b c d e first second =
    subst (λ (x : ℕ). ◌≡◌ {A = ℕ × ℕ × ℕ} (a, b, c) (a, x, e)) first
    (subst (λ (y : ℕ). ◌≡◌ {A = ℕ × ℕ × ℕ} (a, b, c) (a, b, y)) second refl)

-- no call of the disk failed
pub stays_online : {D L : Type 0} (m : Meaning D) (old : Pool D L) (disk : D) → old.offline ≡ None → m.faults disk ≡ m.faults old.disk → FailsNoWrite m old.disk disk
    → StaysOnline m old (record old { disk = disk })
stays_online m old disk online steady none =
    (online, online, all_same old.faults (m.faults disk) (m.failed_writes disk) (m.faults old.disk) (m.failed_writes old.disk) steady none)

-- the call was refused
pub refused : {D L T : Type 0} (m : Meaning D) (pool : Pool D L) (r : Result T PoolFault) (e : PoolFault) → IsErrAnd r (λ y. y ≡ e) → TellsFault {T = T} m pool pool (Err e) → OnlyRefuses {T = T} (Err e)
    → TellsFault {T = T} m pool pool r × (n : ℕ) × (r ≡ Err (Offline n))
refused m pool (Ok x) e same told only = absurd same
refused m pool (Err y) (DiskRead n) same told only = absurd only
refused m pool (Err y) (DiskWrite n) same told only = absurd only
refused {D} {L} {T} m pool (Err y) (Offline n) same told only = (subst (λ (f : PoolFault). TellsFault {T = T} m pool pool (Err f)) (sym same) told, n, ap Err same)
refused m pool (Err y) (Absent n) same told only = absurd only
refused m pool (Err y) Memory same told only = absurd only

pub no_ok : {T E : Type 0} (r : Result T E) (e : E) (P : Type 0) → r ≡ Err e → OnOk r P
no_ok (Ok x) e P is = absurd cc
no_ok (Err y) e P is = tt

-- one answer is no other

pub ok_no_err : {T E : Type 0} (x : T) (e : E) → ◌≡◌ {A = Result T E} (Ok x) (Err e) → ⊥
ok_no_err x e is = cc

pub offline_no_absent : {T : Type 0} (r : Result T PoolFault) (n k : ℕ) → r ≡ Err (Offline n) → r ≡ Err (Absent k) → ⊥
offline_no_absent r n k is other = cc

pub offline_no_write : {T : Type 0} (r : Result T PoolFault) (n k : ℕ) → r ≡ Err (Offline n) → r ≡ Err (DiskWrite k) → ⊥
offline_no_write r n k is other = cc

pub read_no_offline : {T : Type 0} (e : PoolFault) (n k : ℕ) → e ≡ DiskRead n → ◌≡◌ {A = Result T PoolFault} (Err e) (Err (Offline k)) → ⊥
read_no_offline e n k is other = cc

pub read_no_absent : {T : Type 0} (e : PoolFault) (n k : ℕ) → e ≡ DiskRead n → ◌≡◌ {A = Result T PoolFault} (Err e) (Err (Absent k)) → ⊥
read_no_absent e n k is other = cc

pub read_no_write : {T : Type 0} (e : PoolFault) (n k : ℕ) → e ≡ DiskRead n → ◌≡◌ {A = Result T PoolFault} (Err e) (Err (DiskWrite k)) → ⊥
read_no_write e n k is other = cc

pub absent_no_offline : {T : Type 0} (n k : ℕ) → ◌≡◌ {A = Result T PoolFault} (Err (Absent n)) (Err (Offline k)) → ⊥
absent_no_offline n k other = cc

pub absent_same : {T : Type 0} (n k : ℕ) → ◌≡◌ {A = Result T PoolFault} (Err (Absent n)) (Err (Absent k)) → n ≡ k
absent_same n k other = cc

pub absent_no_write : {T : Type 0} (n k : ℕ) → ◌≡◌ {A = Result T PoolFault} (Err (Absent n)) (Err (DiskWrite k)) → ⊥
absent_no_write n k other = cc

pub memory_no_offline : {T : Type 0} (k : ℕ) → ◌≡◌ {A = Result T PoolFault} (Err Memory) (Err (Offline k)) → ⊥
memory_no_offline k other = cc

pub memory_no_absent : {T : Type 0} (k : ℕ) → ◌≡◌ {A = Result T PoolFault} (Err Memory) (Err (Absent k)) → ⊥
memory_no_absent k other = cc

pub memory_no_write : {T : Type 0} (k : ℕ) → ◌≡◌ {A = Result T PoolFault} (Err Memory) (Err (DiskWrite k)) → ⊥
memory_no_write k other = cc
