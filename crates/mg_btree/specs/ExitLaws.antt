-- What a call leaves of the cache whose later parts only fill a batch.
use Rattle.std.proofs.Common.{◌≡◌, refl, subst, ℕ, None, Result, Ok, Err}
use Rattle.std.specs.Prelude.{IsErrAnd}
use Rattle.mg_base.specs.Disk.{Meaning}
use Rattle.mg_base.specs.declared.damage.Damaged.{Damaged}
use Rattle.mg_node.specs.declared.entry.Entry.{Entry}
use Rattle.mg_pool.specs.Fault.{StaysOnline, TellsFault}
use Rattle.mg_pool.specs.Pool.{IsPool}
use Rattle.mg_pool.specs.Batch.{Changed}
use Rattle.mg_pool.specs.declared.fault.PoolFault.TheVariants.{Memory}
use Rattle.mg_pool.specs.declared.pool.Pool.{Pool}
use Rattle.mg_space.specs.View.{pool_answer}
use Rattle.mg_space.specs.ViewLaws.{keeps_itself}
use Rattle.mg_space.specs.declared.fault.SpaceFault.{SpaceFault}
use Rattle.mg_space.specs.declared.fault.SpaceFault.TheVariants.{Full, Pool as OfPool, Damaged as OfPage}
use Rattle.mg_btree.specs.declared.halves.Halves.{Halves}
use Rattle.mg_btree.specs.declared.halves.PageBytes.{PageBytes}
use Rattle.mg_btree.specs.Making.{SplitsIn}
use Rattle.mg_btree.specs.Reading.{Reads}

-- after a call that answered a cache stayed online
pub online_then : {D L A : Type 0} (m : Meaning D) (old a : Pool D L) (result : Result A SpaceFault) (x : A)
    → result ≡ Ok x → Reads m old a result → StaysOnline m old a
online_then m old a result x is reads = subst (λ r. TellsFault m old a (pool_answer r)) is reads.fault

pub online_itself : {D L : Type 0} (m : Meaning D) (store : Pool D L) → IsPool m store
    → store.offline ≡ None → Reads {T = Unit {0}} m store store (Ok tt)
online_itself m store pool online = record {
  keeps = keeps_itself m store pool;
  fault = (online, online, refl);
  own = tt;
}

pub reads_itself : {D L A : Type 0} (m : Meaning D) (store : Pool D L) (x : A) → IsPool m store
    → store.offline ≡ None → Reads m store store (Ok x)
reads_itself m store x pool online = record {
  keeps = keeps_itself m store pool;
  fault = (online, online, refl);
  own = tt;
}

-- and is so where what follows only runs out of memory, or finds damage
pub reads_ok : {D L A B : Type 0} (m : Meaning D) (old a : Pool D L) (first : Result A SpaceFault) (x : A)
    (y : B) → first ≡ Ok x → Reads m old a first → Reads m old a (Ok y)
reads_ok m old a first x y is reads = record {
  keeps = reads.keeps;
  fault = online_then m old a first x is reads;
  own = tt;
}

pub reads_memory : {D L A B : Type 0} (m : Meaning D) (old a : Pool D L) (first : Result A SpaceFault) (x : A)
    (result : Result B SpaceFault) → first ≡ Ok x → Reads m old a first
    → IsErrAnd result (λ f. f ≡ OfPool Memory) → Reads m old a result
reads_memory m old a first x (Ok y) is reads none = absurd none
reads_memory m old a first x (Err fault) is reads same = rw same (record {
  keeps = reads.keeps;
  fault = online_then m old a first x is reads;
  own = tt;
})

pub reads_damage : {D L A B : Type 0} (m : Meaning D) (old a : Pool D L) (first : Result A SpaceFault) (x : A)
    (result : Result B SpaceFault) (damage : Damaged) → first ≡ Ok x → Reads m old a first
    → result ≡ Err (OfPage damage) → Reads m old a result
reads_damage m old a first x result damage is reads same = rw same (record {
  keeps = reads.keeps;
  fault = online_then m old a first x is reads;
  own = tt;
})

pub reads_split : {D L A : Type 0} (m : Meaning D) (old a : Pool D L) (first : Result A SpaceFault) (x : A)
    (size : ℕ) (second last : Changed) (halves : Halves) (above : PageBytes) (e : Entry)
    (result : Result PageBytes SpaceFault) → first ≡ Ok x → Reads m old a first
    → SplitsIn size second last halves above e result → Reads m old a result
reads_split m old a first x size second last halves above e (Ok half) is reads splits =
    reads_ok m old a first x half is reads
reads_split m old a first x size second last halves above e (Err (Full limit)) is reads none = absurd none
reads_split m old a first x size second last halves above e (Err (OfPage damage)) is reads has =
    reads_damage m old a first x (Err (OfPage damage)) damage is reads refl
reads_split m old a first x size second last halves above e (Err (OfPool fault)) is reads same =
    rw same (record {
      keeps = reads.keeps;
      fault = online_then m old a first x is reads;
      own = tt;
    })
