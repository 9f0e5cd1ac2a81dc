-- A fault that is handed on: the answer that hands it on is as that of the call that met it.
use Rattle.std.proofs.Common.{◌≡◌, ◌∙◌, ◌<◌, ◌^◌, ℕ, true, List, ap, arith, length, subst, sym}
use Rattle.std.specs.Prelude.{Result, Ok, Err, IsErr, IsErrAnd, OnErr, OnOk}
use Rattle.mg_base.specs.Disk.{Meaning}
use Rattle.mg_base.specs.Geometry.{is_page_size}
use Rattle.mg_base.specs.declared.damage.Damaged.{Damaged}
use Rattle.mg_base.specs.declared.geometry.Geometry.{Geometry}
use Rattle.mg_pool.specs.Batch.{Changed}
use Rattle.mg_pool.specs.Fault.{StaysOnline, TellsFault}
use Rattle.mg_pool.specs.declared.pool.Pool.{Pool}
use Rattle.mg_space.specs.HandedLaws.{out_of_memory}
use Rattle.mg_space.specs.Taking.{IsGeometry, PutsInventory}
use Rattle.mg_space.specs.View.{ReadsAlone, pool_answer}
use Rattle.mg_space.specs.declared.fault.SpaceFault.{SpaceFault}
use Rattle.mg_space.specs.declared.fault.SpaceFault.TheVariants as faults
use Rattle.mg_heap.specs.HandedLaws.{reads_same}
use Rattle.mg_heap.specs.Reading.{ReadsData}

-- what is said of an answer holds where there is none
pub no_answer_on : {T E : Type 0} (P : Type 0) (result : Result T E) → IsErr result → OnOk result P
no_answer_on P (Ok x) err = absurd cc
no_answer_on P (Err e) err = tt

-- what holds anyway holds where there is a fault
pub on_err : {T E : Type 0} (P : Type 0) (result : Result T E) → P → OnErr result P
on_err P (Ok x) holds = tt
on_err P (Err e) holds = holds

-- ---- what is told of the cache's faults

-- a page is damaged, after calls that met no fault
pub fault_damage : {D L T : Type 0} (m : Meaning D) (a b : Pool D L) (result : Result T SpaceFault)
    (damage : Damaged) → IsErr result → IsErrAnd result (λ given. given ≡ faults.Damaged damage)
    → StaysOnline m a b → TellsFault m a b (pool_answer result)
fault_damage m a b (Ok x) damage err is online = absurd cc
fault_damage {T = T} m a b (Err e) damage err is online =
    let Q : SpaceFault → Type 0 = λ f. TellsFault m a b (pool_answer {T = T} (Err f)) in
    subst Q (sym is) online

-- ---- which faults are handed on

alone_as : (A T : Type 0) (fault : SpaceFault) → ReadsAlone {T = A} (Err fault)
    → ReadsAlone {T = T} (Err fault)
alone_as A T (faults.Full limit) own = own
alone_as A T (faults.Damaged damage) own = own
alone_as A T (faults.Pool fault) own = own

pub alone_same : {T : Type 0} (A : Type 0) (result : Result T SpaceFault) (fault : SpaceFault)
    → IsErr result → IsErrAnd result (λ given. given ≡ fault) → ReadsAlone {T = A} (Err fault)
    → ReadsAlone result
alone_same A (Ok x) fault err is own = tt
alone_same {T = T} A (Err e) fault err is own =
    subst (λ (f : SpaceFault). ReadsAlone {T = T} (Err f)) (sym is) (alone_as A T fault own)

pub alone_memory : {T : Type 0} (result : Result T SpaceFault)
    → IsErrAnd result (λ given. given ≡ out_of_memory) → ReadsAlone result
alone_memory (Ok x) is = tt
alone_memory {T = T} (Err e) is = subst (λ (f : SpaceFault). ReadsAlone {T = T} (Err f)) (sym is) tt

pub reads_memory : {T : Type 0} (result : Result T SpaceFault)
    → IsErrAnd result (λ given. given ≡ out_of_memory) → ReadsData result
reads_memory (Ok x) is = tt
reads_memory {T = T} (Err e) is = subst (λ (f : SpaceFault). ReadsData {T = T} (Err f)) (sym is) tt

pub reads_damage : {T : Type 0} (result : Result T SpaceFault) (damage : Damaged)
    → IsErrAnd result (λ given. given ≡ faults.Damaged damage) → ReadsData result
reads_damage (Ok x) damage is = tt
reads_damage {T = T} (Err e) damage is =
    subst (λ (f : SpaceFault). ReadsData {T = T} (Err f)) (sym is) tt

-- a call that reads data pages is one that reads
pub alone_of : {T : Type 0} (result : Result T SpaceFault) → ReadsData result → ReadsAlone result
alone_of (Ok x) reads = tt
alone_of (Err (faults.Full limit)) reads = tt
alone_of (Err (faults.Damaged damage)) reads = tt
alone_of (Err (faults.Pool fault)) reads = reads

pub alone_read : {T : Type 0} (A : Type 0) (result : Result T SpaceFault) (fault : SpaceFault)
    → IsErr result → IsErrAnd result (λ given. given ≡ fault) → ReadsData {T = A} (Err fault)
    → ReadsAlone result
alone_read A result fault err is reads = alone_of result (reads_same A result fault err is reads)

-- ---- what a later call requires

pub size_later : (a b : Geometry) → a ≡ b → IsGeometry b → is_page_size a.size ≡ true
size_later a b same lawful = ap (λ (g : Geometry). is_page_size g.size) same ∙ lawful.size

-- a page that was taken is one of the pages that a database may have
pub taken_small : (g : Geometry) (old new : Changed) (n : ℕ) → IsGeometry g → PutsInventory g old new n
    → n < 2 ^ 31
taken_small g old new n lawful puts =
    let below = puts.below in omega (arith, below)

-- bytes of a page that were read in another form
pub length_as : (slice read : List ℕ) (a b : Geometry) → slice ≡ read → length read ≡ a.size → b ≡ a
    → length slice ≡ b.size
length_as slice read a b same len geometry = ap (length {A = ℕ}) same
    ∙ (len ∙ sym (ap (λ (g : Geometry). g.size) geometry))
