-- The writing of a new database, page after page.
use Rattle.std.proofs.Common.{◌≡◌, ◌≢◌, ◌<◌, ◌≤◌, ◌⊎◌, ◌+◌, ◌^◌, ◌-◌, min, ℕ, zero, suc, true, List, Some, refl, sym, ap, subst, ◌∙◌, arith, inl, inr, Result, Ok, Err, OnOk}
use Rattle.std.specs.Prelude.{IsErrAnd}
use Rattle.std.proofs.lemmas.Bool.{cases_eq, cases_lt, eq-eqb, ne_eqb}
use Rattle.mg_base.specs.Disk.{MayLeave, Meaning, Rose}
use Rattle.mg_base.specs.Image.{Image, blank, page_at}
use Rattle.mg_base.specs.Moments.{LeavesOnly, goes_on, joined, leaves_as, started}
use Rattle.mg_base.specs.declared.geometry.Geometry.{Geometry}
use Rattle.mg_base.specs.declared.geometry.TheConstants.{GREATEST_LIMIT}
use Rattle.mg_image.specs.Form.{Coding, packed_coding}
use Rattle.mg_image.specs.NewDatabase.{IsNewPage}
use Rattle.mg_careful.specs.declared.graph.Order.{Order}
use Rattle.mg_pool.specs.declared.batch.BatchPage.{BatchPage}
use Rattle.mg_pool.specs.Change.{Changes}
use Rattle.mg_pool.specs.Fault.{Counts, OnlyRefuses, OnlyWrites, StaysOnline, TellsFault}
use Rattle.mg_pool.specs.Pool.{KeepsContent}
use Rattle.mg_pool.specs.Refusal.{LeavesRefused}
use Rattle.mg_pool.specs.Run.{TimeGoesOn}
use Rattle.mg_pool.specs.declared.fault.PoolFault.{PoolFault}
use Rattle.mg_pool.specs.declared.fault.PoolFault.TheVariants.{DiskRead, DiskWrite, Offline, Absent, Memory}
use Rattle.mg_pool.specs.declared.pool.Pool.{Pool}
use Rattle.mg_space.specs.View.{Tells}
use Rattle.mg_space.specs.ViewLaws.{CountsNow}
use Rattle.mg_format.specs.Format.{FormatDone, HasNew, HasPages, HasWrittenUpTo, HoldsPages, IsMade, IsUnmadeImage, LeavesNew, SaysAlike, WritesNew, with_page}

-- ---- faults of several calls

-- after calls that answered, and met no fault, a fault is told for all of them
pub tells_after : {D L T : Type 0} (m : Meaning D) (a b c : Pool D L) (result : Result T PoolFault)
    → StaysOnline m a b → m.faults b.disk ≡ m.faults a.disk → TellsFault m b c result
    → TellsFault m a c result
tells_after m a b c (Ok x) stays same tells = (stays.0, tells.1, tells.2 ∙ stays.2)
tells_after m a b c (Err (DiskRead n)) stays same tells =
    (stays.0, tells.1, counted m a b c n stays same tells.2, tells.3 ∙ ap (λ (c : ℕ × ℕ × ℕ). c.2) stays.2)
  where
    counted : {D L : Type 0} (m : Meaning D) (a b c : Pool D L) (n : ℕ) → StaysOnline m a b
        → m.faults b.disk ≡ m.faults a.disk → Counts m b c n → Counts m a c n
    counted m a b c n stays same counts = (
      counts.0,
      counts.1 ∙ ap (λ (c : ℕ × ℕ × ℕ). min (c.0 + 1) (2 ^ 64 - 1)) stays.2,
      subst (λ (x : ℕ). Rose x (m.faults c.disk)) same counts.2,
    )
tells_after m a b c (Err (DiskWrite n)) stays same tells = (
  stays.0,
  tells.1,
  counted m a b c n stays same tells.2,
  subst (λ (x : ℕ). Rose x (m.failed_writes c.disk)) (ap (λ (c : ℕ × ℕ × ℕ). c.2) stays.2) tells.3,
)
  where
    counted : {D L : Type 0} (m : Meaning D) (a b c : Pool D L) (n : ℕ) → StaysOnline m a b
        → m.faults b.disk ≡ m.faults a.disk → Counts m b c n → Counts m a c n
    counted m a b c n stays same counts = (
      counts.0,
      counts.1 ∙ ap (λ (c : ℕ × ℕ × ℕ). min (c.0 + 1) (2 ^ 64 - 1)) stays.2,
      subst (λ (x : ℕ). Rose x (m.faults c.disk)) same counts.2,
    )
tells_after m a b c (Err (Offline n)) stays same tells =
    (stays.0 ∙ sym stays.1 ∙ tells.0, tells.1, tells.2 ∙ stays.2)
tells_after m a b c (Err (Absent n)) stays same tells = (stays.0, tells.1, tells.2 ∙ stays.2)
tells_after m a b c (Err Memory) stays same tells = (stays.0, tells.1, tells.2 ∙ stays.2)

-- ---- what a disk says of itself

-- it stays over two calls
pub says_then : {D : Type 0} (m : Meaning D) (old mid new : D) → SaysAlike m old mid → SaysAlike m mid new
    → SaysAlike m old new
says_then m old mid new first next = record {
  tells = next.tells ∙ first.tells;
  most_writes = next.most_writes ∙ first.most_writes;
}

-- over none
pub says_still : {D : Type 0} (m : Meaning D) (disk : D) → SaysAlike m disk disk
says_still m disk = record { tells = refl; most_writes = refl }

-- and as time goes on
pub says_on : {D : Type 0} (m : Meaning D) (old new : D) → TimeGoesOn m old new → SaysAlike m old new
says_on m old new time = record { tells = time.tells; most_writes = time.most_writes }

-- a change of one page leaves a disk that says what it said
changed_says : {D L : Type 0} (m : Meaning D) (old new : Pool D L) (pages : List BatchPage) (orders : List Order)
    → Changes m old new pages orders → SaysAlike m old.disk new.disk
changed_says {D} m old new pages orders changes = subst (λ (disk : D). SaysAlike m old.disk disk)
    (sym (changes.enters.disk ∙ changes.puts.disk)) (says_on m old.disk changes.ready.disk changes.written.time)

-- so does one that is refused, and a page write that fails
refused_says : {D L : Type 0} (T : Type 0) (m : Meaning D) (old new : Pool D L) (fault : PoolFault)
    → LeavesRefused {T = T} m old new (Err fault) → SaysAlike m old.disk new.disk
refused_says T m old new (DiskRead n) left = absurd left
refused_says T m old new (DiskWrite n) left = record {
  tells = left.fails.time.tells ∙ left.written.tells;
  most_writes = left.fails.time.most_writes ∙ left.written.time.most_writes;
}
refused_says {D} {L} T m old new (Offline n) left = subst (λ (s : Pool D L). SaysAlike m old.disk s.disk) (sym left)
    (says_still m old.disk)
refused_says T m old new (Absent n) left = absurd left
refused_says {D} {L} T m old new Memory left = subst (λ (s : Pool D L). SaysAlike m old.disk s.disk) (sym left)
    (says_still m old.disk)

pub change_says : {D L : Type 0} (m : Meaning D) (old new : Pool D L) (pages : List BatchPage)
    (orders : List Order) (result : Result (Unit {0}) PoolFault) → OnOk result (Changes m old new pages orders)
    → LeavesRefused m old new result → SaysAlike m old.disk new.disk
change_says m old new pages orders (Ok x) changes left = changed_says m old new pages orders changes
change_says m old new pages orders (Err fault) changes left = refused_says (Unit {0}) m old new fault left

pub fail_says : {D L : Type 0} (T : Type 0) (m : Meaning D) (old mid new : Pool D L) (fault : PoolFault)
    → SaysAlike m old.disk mid.disk → LeavesRefused {T = T} m mid new (Err fault)
    → SaysAlike m old.disk new.disk
fail_says T m old mid new fault before left = says_then m old.disk mid.disk new.disk before
    (refused_says T m mid new fault left)

-- ---- the settling

-- what a settle promises where the disk tells its images
pub told_so : {T E : Type 0} (result : Result T E) (Given P : Type 0) → Given
    → OnOk result (Given → P) → OnOk result P
told_so (Ok x) Given P given stays = stays given
told_so (Err e) Given P given stays = tt

-- the count has not fallen over page writes that answered and the settling behind them
pub never_fell : {T E : Type 0} (result : Result T E) (start mid last end : ℕ) → mid ≡ start → last ≡ mid → last ≤ end
    → OnOk result (start ≤ end)
never_fell (Ok x) start mid last end first then_ more = omega (arith, first, then_, more)
never_fell (Err e) start mid last end first then_ more = tt

-- a page write by the size of an equal geometry
pub sized : {D E : Type 0} (m : Meaning D) (a b : Geometry) → a ≡ b → {old new : D} {image : Image}
    {n : ℕ} {result : Result (Unit {0}) E} → WritesNew m old new a.size image n result
    → WritesNew m old new b.size image n result
sized m a b same {old} {new} {image} {n} {result} writes =
    subst (λ (g : Geometry). WritesNew m old new g.size image n result) same writes

-- ---- images

-- a page behind the seven is that of a new database where it is zero
behind : (coding : Coding) (size n : ℕ) (page : List ℕ) → 7 ≤ n → page ≡ blank size
    → IsNewPage coding size n page
behind coding size zero page past is = absurd (omega arith)
behind coding size (suc zero) page past is = absurd (omega arith)
behind coding size (suc (suc zero)) page past is = absurd (omega arith)
behind coding size (suc (suc (suc zero))) page past is = absurd (omega arith)
behind coding size (suc (suc (suc (suc zero)))) page past is = absurd (omega arith)
behind coding size (suc (suc (suc (suc (suc zero))))) page past is = absurd (omega arith)
behind coding size (suc (suc (suc (suc (suc (suc zero)))))) page past is = absurd (omega arith)
behind coding size (suc (suc (suc (suc (suc (suc (suc n))))))) page past is = is

module _ (size : ℕ) (j : Image) (n : ℕ) (bytes : List ℕ)
    (is_new : IsNewPage packed_coding size n bytes) (unmade : IsUnmadeImage size j) where
  same_unmade : (c : Image) → HasPages size c (page_at size j) → IsUnmadeImage size c
  same_unmade c same = record {
    header = same 0 ∙ unmade.header;
    others = λ p some below. subst (λ (page : List ℕ). (page ≡ blank size)
        ⊎ IsNewPage packed_coding size p page) (sym (same p)) (unmade.others p some below);
  }

  put_page_is : (c : Image) (p : ℕ) → HasPages size c (with_page (page_at size j) n bytes)
      → p ≡ n → page_at size c p ≡ bytes
  put_page_is c p put e = put p ∙ rw (eq-eqb p n e) refl

  other_page_is : (c : Image) (p : ℕ) → HasPages size c (with_page (page_at size j) n bytes)
      → p ≢ n → page_at size c p ≡ page_at size j p
  other_page_is c p put ne = put p ∙ rw (ne_eqb p n ne) refl

  new_at : (c : Image) (p : ℕ) → HasPages size c (with_page (page_at size j) n bytes)
      → p ≡ n → IsNewPage packed_coding size p (page_at size c p)
  new_at c p put e = subst (λ (page : List ℕ). IsNewPage packed_coding size p page)
      (sym (put_page_is c p put e))
      (subst (λ (k : ℕ). IsNewPage packed_coding size k bytes) (sym e) is_new)

  put_unmade : (c : Image) → 1 ≤ n → HasPages size c (with_page (page_at size j) n bytes)
      → IsUnmadeImage size c
  put_unmade c some put = record {
    header = other_page_is c 0 put (λ e. absurd (omega arith)) ∙ unmade.header;
    others = λ p one below. at p one below (cases_eq p n);
  }
    where
      at : (p : ℕ) → 1 ≤ p → p < GREATEST_LIMIT → (p ≡ n) ⊎ (p ≢ n)
          → (page_at size c p ≡ blank size)
          ⊎ IsNewPage packed_coding size p (page_at size c p)
      at p one below (inl e) = inr (new_at c p put e)
      at p one below (inr ne) = subst (λ (page : List ℕ). (page ≡ blank size)
          ⊎ IsNewPage packed_coding size p page) (sym (other_page_is c p put ne))
          (unmade.others p one below)

  put_made : (c : Image) → n ≡ 0
      → ((p : ℕ) → 1 ≤ p → p < 7 → IsNewPage packed_coding size p (page_at size j p))
      → HasPages size c (with_page (page_at size j) n bytes) → IsMade size c
  put_made c last made put p below = at (cases_eq p n)
    where
      far : 7 ≤ p → (page_at size j p ≡ blank size)
          ⊎ IsNewPage packed_coding size p (page_at size j p)
          → IsNewPage packed_coding size p (page_at size j p)
      far past (inl is) = behind packed_coding size p (page_at size j p) past is
      far past (inr is) = is

      near : 1 ≤ p → (p < 7) ⊎ (7 ≤ p) → IsNewPage packed_coding size p (page_at size j p)
      near some (inl less) = made p some less
      near some (inr past) = far past (unmade.others p some below)

      at : (p ≡ n) ⊎ (p ≢ n) → IsNewPage packed_coding size p (page_at size c p)
      at (inl e) = new_at c p put e
      at (inr ne) = subst (λ (page : List ℕ). IsNewPage packed_coding size p page)
          (sym (other_page_is c p put ne)) (near (some (λ e. ne (e ∙ sym last))) (cases_lt p 7))
        where
          some : p ≢ 0 → 1 ≤ p
          some off = omega (arith, off)

-- ---- page after page

module _ {D : Type 0} (m : Meaning D) (counts : CountsNow m) (start : D) (size : ℕ) where
  pub begun : (image : Image) → Tells m start image → IsUnmadeImage size image
      → HasWrittenUpTo m start start size 1
  begun image tells unmade = record {
    image = image;
    tells = tells;
    unmade = unmade;
    made = λ p some less. absurd (omega arith);
    crash = started m start (LeavesNew m start size) (λ c may. inl may);
  }

  module _ (mid : D) (n : ℕ) (upto : HasWrittenUpTo m start mid size n) where
    before : (c : Image) → MayLeave m mid c → LeavesNew m start size c
    before c may = upto.crash.each c
        (counts mid (m.moment start) c upto.tells.told upto.crash.later may)

    -- a page from 1 to 6 is written, or its page write fails
    module _ {E : Type 0} (new : D) (result : Result (Unit {0}) E) (some : 1 ≤ n)
        (writes : WritesNew m mid new size upto.image n result) where
      pub leaves : LeavesOnly m start new (LeavesNew m start size)
      leaves = joined m start mid new (LeavesNew m start size) upto.crash
          (leaves_as m mid new _ (LeavesNew m start size) turn writes.crash)
        where
          turn : (c : Image) → MayLeave m mid c ⊎ (HasPages size c (page_at size upto.image)
              ⊎ HasPages size c (with_page (page_at size upto.image) n writes.bytes))
              → LeavesNew m start size c
          turn c (inl may) = before c may
          turn c (inr (inl same)) = inr (inl
              (same_unmade size upto.image n writes.bytes writes.is_new upto.unmade c same))
          turn c (inr (inr put)) = inr (inl
              (put_unmade size upto.image n writes.bytes writes.is_new upto.unmade c some put))

      pub goes : HoldsPages m new size (with_page (page_at size upto.image) n writes.bytes)
          → HasWrittenUpTo m start new size (n + 1)
      goes holds = record {
        image = holds.image;
        tells = holds.tells;
        unmade = put_unmade size upto.image n writes.bytes writes.is_new upto.unmade holds.image
            some holds.pages_are;
        made = λ p one less. at p one less (cases_eq p n);
        crash = leaves;
      }
        where
          at : (p : ℕ) → 1 ≤ p → p < n + 1 → (p ≡ n) ⊎ (p ≢ n)
              → IsNewPage packed_coding size p (page_at size holds.image p)
          at p one less (inl e) = new_at size upto.image n writes.bytes writes.is_new upto.unmade
              holds.image p holds.pages_are e
          at p one less (inr ne) = subst (λ (page : List ℕ). IsNewPage packed_coding size p page)
              (sym (other_page_is size upto.image n writes.bytes writes.is_new upto.unmade
              holds.image p holds.pages_are ne)) (upto.made p one (omega (arith, ne)))

  -- the header is written last
  module _ (mid : D) (upto : HasWrittenUpTo m start mid size 7) {E : Type 0} (new : D)
      (result : Result (Unit {0}) E) (writes : WritesNew m mid new size upto.image 0 result) where
    pub last_leaves : LeavesOnly m start new (LeavesNew m start size)
    last_leaves = joined m start mid new (LeavesNew m start size) upto.crash
        (leaves_as m mid new _ (LeavesNew m start size) turn writes.crash)
      where
        turn : (c : Image) → MayLeave m mid c ⊎ (HasPages size c (page_at size upto.image)
            ⊎ HasPages size c (with_page (page_at size upto.image) 0 writes.bytes))
            → LeavesNew m start size c
        turn c (inl may) = before mid 7 upto c may
        turn c (inr (inl same)) = inr (inl
            (same_unmade size upto.image 0 writes.bytes writes.is_new upto.unmade c same))
        turn c (inr (inr put)) = inr (inr
            (put_made size upto.image 0 writes.bytes writes.is_new upto.unmade c refl upto.made put))

    -- and settled
    module _ {F : Type 0} (settled : D) (answer : Result (Unit {0}) F)
        (told : m.tells new ≡ true) (keeps : KeepsContent m new settled) where
      settled_leaves : LeavesOnly m start settled (LeavesNew m start size)
      settled_leaves = goes_on m start new settled (LeavesNew m start size) last_leaves
          (keeps.time told) (λ c may. last_leaves.each c
          (counts new (m.moment start) c told last_leaves.later (keeps.crash told c may)))

      pub formatted : HoldsPages m new size (with_page (page_at size upto.image) 0 writes.bytes)
          → OnOk answer ((image : Image) → MayLeave m settled image → m.held settled ≡ Some image)
          → FormatDone m start settled size answer
      formatted holds durable = record {
        crash = settled_leaves;
        made = by answer durable;
      }
        where
          by : (r : Result (Unit {0}) F)
              → OnOk r ((image : Image) → MayLeave m settled image → m.held settled ≡ Some image)
              → OnOk r (HasNew m settled size)
          by (Ok x) stays = record {
            image = holds.image;
            tells = record {
              told = keeps.tells ∙ holds.tells.told;
              held = keeps.held ∙ holds.tells.held;
            };
            made = put_made size upto.image 0 writes.bytes writes.is_new upto.unmade holds.image refl
                upto.made holds.pages_are;
            settled = λ c may.
                let is : Some c ≡ Some holds.image =
                sym (stays c may) ∙ (keeps.held ∙ holds.tells.held) in cc;
          }
          by (Err e) stays = tt

-- ---- a fault that is handed on

writes_turned : (S T : Type 0) (fault : PoolFault) → OnlyWrites {T = S} (Err fault) → OnlyWrites {T = T} (Err fault)
writes_turned S T (DiskRead n) own = own
writes_turned S T (DiskWrite n) own = tt
writes_turned S T (Offline n) own = tt
writes_turned S T (Absent n) own = own
writes_turned S T Memory own = own

pub writes_as : {T : Type 0} (S : Type 0) (r : Result T PoolFault) (fault : PoolFault)
    → IsErrAnd r (λ given. given ≡ fault) → OnlyWrites {T = S} (Err fault) → OnlyWrites r
writes_as S (Ok x) fault is own = tt
writes_as {T} S (Err e) fault is own =
    subst (λ (f : PoolFault). OnlyWrites {T = T} (Err f)) (sym is) (writes_turned S T fault own)

tells_turned : {D L : Type 0} (S T : Type 0) (m : Meaning D) (a b : Pool D L) (fault : PoolFault)
    → TellsFault {T = S} m a b (Err fault) → TellsFault {T = T} m a b (Err fault)
tells_turned S T m a b (DiskRead n) told = told
tells_turned S T m a b (DiskWrite n) told = told
tells_turned S T m a b (Offline n) told = told
tells_turned S T m a b (Absent n) told = told
tells_turned S T m a b Memory told = told

pub tells_as : {D L T : Type 0} (S : Type 0) (m : Meaning D) (a b : Pool D L) (r : Result T PoolFault)
    (fault : PoolFault) → IsErrAnd r (λ given. given ≡ fault) → TellsFault {T = S} m a b (Err fault)
    → TellsFault m a b r
tells_as S m a b (Ok x) fault is told = absurd is
tells_as {D} {L} {T} S m a b (Err e) fault is told =
    subst (λ (f : PoolFault). TellsFault {T = T} m a b (Err f)) (sym is) (tells_turned S T m a b fault told)

pub refusal_writes : (fault : PoolFault) → OnlyRefuses {T = Unit {0}} (Err fault)
    → OnlyWrites {T = Unit {0}} (Err fault)
refusal_writes (DiskRead n) refuses = refuses
refusal_writes (DiskWrite n) refuses = absurd refuses
refusal_writes (Offline n) refuses = tt
refusal_writes (Absent n) refuses = refuses
refusal_writes Memory refuses = refuses

-- a call that answered after others that did
pub stays_after : {D L : Type 0} (m : Meaning D) (a b c : Pool D L) → StaysOnline m a b → StaysOnline m b c
    → StaysOnline m a c
stays_after m a b c first second = (first.0, second.1, second.2 ∙ first.2)
