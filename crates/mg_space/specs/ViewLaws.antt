-- Laws of calls that only read, for those who make several of them.
use Rattle.std.specs.Prelude.{◌≡◌, ◌≢◌, ◌<◌, ◌≤◌, ◌⊎◌, ◌+◌, ◌-◌, ◌^◌, min, ℕ, true, List, length, Option, Some, Result, Ok, Err, unwrap_or}
use Rattle.std.proofs.Common.{refl, sym, ap, subst, ◌∙◌, arith, inl, inr}
use Rattle.mg_base.specs.Disk.{FailsNoWrite, MayLeave, Meaning, Rose}
use Rattle.mg_base.specs.Image.{Image}
use Rattle.mg_base.specs.declared.geometry.Geometry.{Geometry}
use Rattle.mg_pool.specs.Fault.{Counts, MeetsNoFault, TellsFault, fault_counts}
use Rattle.mg_pool.specs.Pool.{IsPool, KeepsContent}
use Rattle.mg_pool.specs.declared.fault.PoolFault.{PoolFault}
use Rattle.mg_pool.specs.declared.fault.PoolFault.TheVariants.{DiskRead, DiskWrite, Offline, Absent, Memory}
use Rattle.mg_pool.specs.declared.pool.Pool.{Pool}
use Rattle.mg_pool.specs.Batch.{Changed, PutsPage, content_in}
use Rattle.mg_pool.specs.Dirty.{DirtyPages}
use Rattle.mg_pool.specs.Pool.{shown}
use Rattle.mg_space.specs.View.{AreWhole, KeepsStore, Tells, viewed}
use Rattle.std.proofs.lemmas.Bool.{cases_eq}

-- what a crash now may leave is among what a crash since an earlier moment might have left: a law of
-- every disk
abbrev pub CountsNow : {D : Type 0} → Meaning D → Type 0
CountsNow {D} m = (disk : D) (t : ℕ) (c : Image) → m.tells disk ≡ true → t ≤ m.moment disk
    → MayLeave m disk c → m.left disk t c

pub same_content : {D : Type 0} (m : Meaning D) (disk : D) → KeepsContent m disk disk
same_content m disk = record {
  held = refl;
  tells = refl;
  most_writes = refl;
  never_falls = omega arith;
  failed_writes = omega arith;
  crash = λ told c may. may;
  time = λ told. record {
    later = omega arith;
    nothing_else = λ t c early left. inl left;
    keeps = λ t c early left. left;
  };
  asked = refl;
}

pub content_on : {D : Type 0} (m : Meaning D) → CountsNow m → (a b c : D) → KeepsContent m a b
    → KeepsContent m b c → KeepsContent m a c
content_on m counts a b c first second = record {
  held = second.held ∙ first.held;
  tells = second.tells ∙ first.tells;
  most_writes = second.most_writes ∙ first.most_writes;
  never_falls = let f = first.never_falls in let s = second.never_falls in omega arith;
  failed_writes = let f = first.failed_writes in let s = second.failed_writes in omega arith;
  crash = λ told image may. first.crash told image (second.crash (first.tells ∙ told) image may);
  time = λ told. let f = first.time told in let s = second.time (first.tells ∙ told) in record {
    later = let x = f.later in let y = s.later in omega arith;
    nothing_else = λ t image early left. at told t image early
        (s.nothing_else t image (let x = f.later in omega arith) left);
    keeps = λ t image early left. s.keeps t image (let x = f.later in omega arith)
        (f.keeps t image early left);
  };
  asked = second.asked ∙ first.asked;
}
  where
    at : m.tells a ≡ true → (t : ℕ) (image : Image) → t ≤ m.moment a
        → m.left b t image ⊎ MayLeave m c image → m.left a t image ⊎ MayLeave m c image
    at told t image early (inl before) = on ((first.time told).nothing_else t image early before)
      where
        on : m.left a t image ⊎ MayLeave m b image → m.left a t image ⊎ MayLeave m c image
        on (inl then_) = inl then_
        on (inr now) = inl (counts a t image told early (first.crash told image now))
    at told t image early (inr now) = inr now

-- a call that did nothing has only read
pub keeps_itself : {D L : Type 0} (m : Meaning D) (store : Pool D L) → IsPool m store
    → KeepsStore m store store
keeps_itself m store pool = record {
  pool = pool;
  geometry = refl;
  dirty = refl;
  graph = refl;
  offline = refl;
  disk = same_content m store.disk;
}

-- a call has noted the room of a page, and nothing else: it has only read
pub keeps_noted : {D L : Type 0} (m : Meaning D) (old new : Pool D L) → IsPool m new
    → new ≡ record old { rooms = new.rooms } → KeepsStore m old new
keeps_noted {D} {L} m old new pool same = record {
  pool = pool;
  geometry = ap (λ (p : Pool D L). p.geometry) same;
  dirty = ap (λ (p : Pool D L). p.dirty) same;
  graph = ap (λ (p : Pool D L). p.graph) same;
  offline = ap (λ (p : Pool D L). p.offline) same;
  disk = subst (λ (p : Pool D L). KeepsContent m old.disk p.disk) (sym same) (same_content m old.disk);
}

pub faults_noted : {D L : Type 0} (m : Meaning D) (old new : Pool D L)
    → new ≡ record old { rooms = new.rooms } → MeetsNoFault m old new
faults_noted {D} {L} m old new same = ap (λ (p : Pool D L). fault_counts m p) same

-- two calls that have only read are one
pub keeps_on : {D L : Type 0} (m : Meaning D) → CountsNow m → (a b c : Pool D L)
    → KeepsStore m a b → KeepsStore m b c → KeepsStore m a c
keeps_on m counts a b c first second = record {
  pool = second.pool;
  geometry = second.geometry ∙ first.geometry;
  dirty = second.dirty ∙ first.dirty;
  graph = second.graph ∙ first.graph;
  offline = second.offline ∙ first.offline;
  disk = content_on m counts a.disk b.disk c.disk first.disk second.disk;
}

-- the disk tells the same image after calls that have only read
pub tells_on : {D L : Type 0} (m : Meaning D) (a b : Pool D L) (image : Image) → KeepsStore m a b
    → Tells m a.disk image → Tells m b.disk image
tells_on m a b image kept tells = record {
  told = kept.disk.tells ∙ tells.told;
  held = kept.disk.held ∙ tells.held;
}

-- after a call that has only read one sees the same pages
pub viewed_on : {D L : Type 0} (m : Meaning D) (a b : Pool D L) (image : Image) (batch : Changed)
    → KeepsStore m a b → viewed b image batch ≡ viewed a image batch
viewed_on m a b image batch kept = ap (λ (dirty : DirtyPages). λ (n : ℕ).
    unwrap_or (content_in batch.pages n) (shown dirty image n)) kept.dirty

-- the page that a batch puts has the new content, and every other page its old one
pub viewed_here : {D L : Type 0} (store : Pool D L) (image : Image) (old new : Changed) (page : ℕ)
    (bytes : List ℕ) → PutsPage old new page bytes → viewed store image new page ≡ bytes
viewed_here store image old new page bytes puts =
    ap (λ (o : Option (List ℕ)). unwrap_or o (shown store.dirty image page)) puts.here

pub viewed_else : {D L : Type 0} (store : Pool D L) (image : Image) (old new : Changed) (page : ℕ)
    (bytes : List ℕ) → PutsPage old new page bytes
    → (n : ℕ) → n ≢ page → viewed store image new n ≡ viewed store image old n
viewed_else store image old new page bytes puts n ne =
    ap (λ (o : Option (List ℕ)). unwrap_or o (shown store.dirty image n)) (puts.others n ne)

-- a batch to which a content of one page was put, of a page below the limit, has such contents still
pub whole_on : (g : Geometry) (old new : Changed) (page : ℕ) (bytes : List ℕ)
    → AreWhole g old.pages → length bytes ≡ g.size → page < g.limit → PutsPage old new page bytes
    → AreWhole g new.pages
whole_on g old new page bytes whole len below puts n content is = at (cases_eq n page)
  where
    at : (n ≡ page) ⊎ (n ≢ page) → (length content ≡ g.size) × (n < g.limit)
    at (inl same) =
        let put : Some bytes ≡ Some content = sym puts.here
        ∙ (ap (content_in new.pages) (sym same) ∙ is) in
        let equal : bytes ≡ content = cc in (
          ap (λ (b : List ℕ). length b) (sym equal) ∙ len,
          subst (λ (k : ℕ). k < g.limit) (sym same) below,
        )
    at (inr ne) = whole n content (sym (puts.others n ne) ∙ is)

rose_on : (a b c : ℕ) → a ≤ b → Rose b c → Rose a c
rose_on a b c le (inl more) = inl (omega arith)
rose_on a b c le (inr end) = inr end

counts_on : {D L : Type 0} (m : Meaning D) (a b c : Pool D L) (n : ℕ) → KeepsStore m a b
    → MeetsNoFault m a b → Counts m b c n → Counts m a c n
counts_on m a b c n kept same counts = (
  counts.0,
  counts.1 ∙ ap (λ (c : ℕ × ℕ × ℕ). min (c.0 + 1) (2 ^ 64 - 1)) same,
  rose_on (m.faults a.disk) (m.faults b.disk) (m.faults c.disk) kept.disk.never_falls counts.2,
)

none_failed_of : {D L : Type 0} (m : Meaning D) (a b : Pool D L) → MeetsNoFault m a b → FailsNoWrite m a.disk b.disk
none_failed_of m a b same = ap (λ (c : ℕ × ℕ × ℕ). c.2) same

-- the fault of a call after others that answered, and have only read, is told for all of them
pub fault_on : {D L T : Type 0} (m : Meaning D) (a b c : Pool D L) (result : Result T PoolFault)
    → KeepsStore m a b → MeetsNoFault m a b → TellsFault m b c result → TellsFault m a c result
fault_on m a b c (Ok x) kept same tells =
    (sym kept.offline ∙ tells.0, tells.1, tells.2 ∙ same)
fault_on m a b c (Err (DiskRead n)) kept same tells = (
  sym kept.offline ∙ tells.0,
  tells.1,
  counts_on m a b c n kept same tells.2,
  tells.3 ∙ none_failed_of m a b same,
)
fault_on m a b c (Err (DiskWrite n)) kept same tells = (
  sym kept.offline ∙ tells.0,
  tells.1,
  counts_on m a b c n kept same tells.2,
  rose_on (m.failed_writes a.disk) (m.failed_writes b.disk) (m.failed_writes c.disk) kept.disk.failed_writes tells.3,
)
fault_on m a b c (Err (Offline n)) kept same tells =
    (sym kept.offline ∙ tells.0, tells.1, tells.2 ∙ same)
fault_on m a b c (Err (Absent n)) kept same tells =
    (sym kept.offline ∙ tells.0, tells.1, tells.2 ∙ same)
fault_on m a b c (Err Memory) kept same tells =
    (sym kept.offline ∙ tells.0, tells.1, tells.2 ∙ same)
