-- How a write comes to be refused before it changes a page: stage by stage, what was read and noted since its start.
use Rattle.std.proofs.Common.{◌≡◌, ◌⊎◌, inl, inr, ◌≤◌, ◌<◌, ◌+◌, ◌-◌, ◌^◌, ℕ, true, Option, None, Some, Err, refl, sym, ap, ◌∙◌, subst, arith}
use Rattle.std.specs.Prelude.{min}
use Rattle.std.proofs.Math.Nat.{min-eq_left, min-eq_right}
use Rattle.std.proofs.lemmas.Bool.{cases_lt}
use Rattle.mg_base.specs.declared.damage.Damaged.{Damaged as Damage}
use Rattle.mg_base.specs.declared.numbers.TxNo.{TxNo}
use Rattle.mg_base.specs.Disk.{Meaning, Rose}
use Rattle.mg_base.specs.Image.{Image}
use Rattle.mg_model.specs.declared.answer.Answer.TheVariants.{No}
use Rattle.mg_model.specs.declared.refusal.Refusal.{Refusal}
use Rattle.mg_model.specs.declared.refusal.Refusal.TheVariants.{DatabaseFull, DiskRead, DiskWrite, Offline, Damaged}
use Rattle.mg_model.specs.Legal.{is_outer}
use Rattle.mg_model.specs.Machine.{waited_on}
use Rattle.mg_image.specs.Form.{Pages}
use Rattle.mg_heap.specs.Reading.{ReadsData}
use Rattle.mg_pool.specs.Dirty.{DirtyPages}
use Rattle.mg_pool.specs.Fault.{TellsFault}
use Rattle.mg_pool.specs.Pool.{IsPool, shown}
use Rattle.mg_pool.specs.declared.fault.PoolFault.TheVariants as pool_faults
use Rattle.mg_pool.specs.declared.pool.Pool.{Pool}
use Rattle.mg_space.specs.View.{KeepsStore, Tells, pool_answer}
use Rattle.mg_space.specs.ViewLaws.{CountsNow, keeps_itself, keeps_on, tells_on}
use Rattle.mg_space.specs.declared.fault.SpaceFault.{SpaceFault}
use Rattle.mg_space.specs.declared.fault.SpaceFault.TheVariants as faults
use Rattle.mg_space.specs.declared.links.FireLinks.{FireLinks}
use Rattle.mg_waits.specs.Waits.{NowWaits, edges_in}
use Rattle.mg_core.specs.declared.parts.Core.{Core}
use Rattle.mg_core.specs.Events.{EndsWait}
use Rattle.mg_core.specs.Obstacles.{NotesWait}
use Rattle.mg_core.specs.Putting.{CountsOne}
use Rattle.mg_core.specs.Reading.{FailsReading, OnlyReads}
use Rattle.mg_core.specs.RefusingLaws.{full_is}
use Rattle.mg_core.specs.Refusing.{CountsFault, IsRefusal, OneMore}
use Rattle.mg_engine_meaning_laws.specs.Frames.{MayAnswer}
use Rattle.mg_engine_meaning_laws.specs.Meaning.{Places}
use Rattle.mg_engine_change_laws.specs.memory.Notes.{AreCounts, HasRead}
use Rattle.mg_engine_change_laws.specs.rows.Stops.{IsPlain, IsStopped}

-- ---- counts

min_cases : (a b : ℕ) → (min a b ≡ a) ⊎ (min a b ≡ b)
min_cases a b = at (cases_lt a b)
  where
    at : (a < b) ⊎ (b ≤ a) → (min a b ≡ a) ⊎ (min a b ≡ b)
    at (inl less) = inl (min-eq_left (omega (arith, less)))
    at (inr past) = inr (min-eq_right past)

grown : (old new : ℕ) → old ≤ 2 ^ 64 - 1 → OneMore old new → old ≤ new
grown old new fits more = at (min_cases (old + 1) (2 ^ 64 - 1))
  where
    at : (min (old + 1) (2 ^ 64 - 1) ≡ old + 1) ⊎ (min (old + 1) (2 ^ 64 - 1) ≡ 2 ^ 64 - 1) → old ≤ new
    at (inl is) = let all : new ≡ old + 1 = more ∙ is in omega (arith, all)
    at (inr is) = let all : new ≡ 2 ^ 64 - 1 = more ∙ is in omega (arith, all, fits)

pub rose_one : (old new : ℕ) → OneMore old new → Rose old new
rose_one old new more = at (min_cases (old + 1) (2 ^ 64 - 1))
  where
    at : (min (old + 1) (2 ^ 64 - 1) ≡ old + 1) ⊎ (min (old + 1) (2 ^ 64 - 1) ≡ 2 ^ 64 - 1) → Rose old new
    at (inl is) = inl (let all : new ≡ old + 1 = more ∙ is in omega (arith, all))
    at (inr is) = inr (let all : new ≡ 2 ^ 64 - 1 = more ∙ is in omega (arith, all))

pub rose_later : (a b c : ℕ) → a ≤ b → Rose b c → Rose a c
rose_later a b c less (inl more) = inl (omega (arith, less, more))
rose_later a b c less (inr end) = inr end

same_least : (a b : ℕ) → b ≡ a → a ≤ b
same_least a b same = omega (arith, same)

pub risen : (fault : SpaceFault) (damage now shortages later : ℕ) → damage ≤ 2 ^ 64 - 1 → shortages ≤ 2 ^ 64 - 1
    → CountsFault fault damage now shortages later → (damage ≤ now) × (shortages ≤ later)
risen (faults.Full limit) damage now shortages later fits few counts =
    (same_least damage now counts.0, grown shortages later few counts.1)
risen (faults.Damaged d) damage now shortages later fits few counts =
    (grown damage now fits counts.0, same_least shortages later counts.1)
risen (faults.Pool (pool_faults.Absent n)) damage now shortages later fits few counts =
    (grown damage now fits counts.0, same_least shortages later counts.1)
risen (faults.Pool (pool_faults.DiskRead n)) damage now shortages later fits few counts =
    (same_least damage now counts.0, same_least shortages later counts.1)
risen (faults.Pool (pool_faults.DiskWrite n)) damage now shortages later fits few counts =
    (same_least damage now counts.0, same_least shortages later counts.1)
risen (faults.Pool (pool_faults.Offline n)) damage now shortages later fits few counts =
    (same_least damage now counts.0, same_least shortages later counts.1)
risen (faults.Pool pool_faults.Memory) damage now shortages later fits few counts =
    (same_least damage now counts.0, same_least shortages later counts.1)

-- one who is refused for a fault waits for nobody
pub fault_waits : (fault : SpaceFault) (refusal : Refusal) → IsRefusal fault refusal
    → waited_on (No refusal) ≡ None
fault_waits (faults.Full limit) refusal its = ap (λ (r : Refusal). waited_on (No r)) (full_is refusal its).1
fault_waits (faults.Damaged d) refusal its = ap (λ (r : Refusal). waited_on (No r)) its
fault_waits (faults.Pool (pool_faults.Absent n)) refusal its = ap (λ (r : Refusal). waited_on (No r)) its
fault_waits (faults.Pool (pool_faults.DiskRead n)) refusal its = ap (λ (r : Refusal). waited_on (No r)) its
fault_waits (faults.Pool (pool_faults.DiskWrite n)) refusal its = ap (λ (r : Refusal). waited_on (No r)) its
fault_waits (faults.Pool (pool_faults.Offline n)) refusal its = ap (λ (r : Refusal). waited_on (No r)) its
fault_waits (faults.Pool pool_faults.Memory) refusal its = ap (λ (r : Refusal). waited_on (No r)) its

-- ---- one stage more

-- the wait is over
pub ended_read : {D : Type 0} (m : Meaning D) (old new : Core D) (t : ℕ) → IsPool m old.store → EndsWait old new t
    → HasRead m old new t
ended_read {D} m old new t pool ends = subst (λ (c : Core D). HasRead m old c t) (sym ends.same) (record {
  keeps = keeps_itself m old.store pool;
  over = ends.over;
  same = refl;
})

-- pages were read
pub reads_on : {D : Type 0} (m : Meaning D) (counts_now : CountsNow m) (old mid new : Core D) (t : ℕ)
    → HasRead m old mid t → OnlyReads m mid new → HasRead m old new t
reads_on {D} m counts_now old mid new t read reads = subst (λ (c : Core D). HasRead m old c t) (sym reads.same)
    (record {
      keeps = keeps_on m counts_now old.store mid.store new.store read.keeps reads.keeps;
      over = read.over;
      same = ap (λ (c : Core D). record c { store = new.store }) read.same;
    })

-- what was told of the pages then is so at the start
pub told_before : {D : Type 0} (m : Meaning D) (old mid : Core D) (t : ℕ) → HasRead m old mid t
    → (Q : Core D → Pages → Type 0)
    → ((image : Image) → Tells m mid.store.disk image → Q mid (shown mid.store.dirty image))
    → (image : Image) → Tells m old.store.disk image
    → Q (record old { store = mid.store; waits = mid.waits }) (shown old.store.dirty image)
told_before {D} m old mid t read Q told image tells =
    subst (λ (d : DirtyPages). Q (record old { store = mid.store; waits = mid.waits }) (shown d image))
    read.keeps.dirty (subst (λ (c : Core D). Q c (shown mid.store.dirty image)) read.same
    (told image (tells_on m old.store mid.store image read.keeps tells)))

-- ---- the call is refused

module _ {D P : Type 0} (m : Meaning D) (places : Places P) (counts_now : CountsNow m) (old mid new : Core D) (t : ℕ)
    (online : old.store.offline ≡ None) (fits : AreCounts old) (read : HasRead m old mid t) (refusal : Refusal) where
  mid_damage : mid.damage ≡ old.damage
  mid_damage = ap (λ (c : Core D). c.damage) read.same

  mid_shortages : mid.shortages ≡ old.shortages
  mid_shortages = ap (λ (c : Core D). c.shortages) read.same

  mid_online : mid.store.offline ≡ None
  mid_online = read.keeps.offline ∙ online

  -- a refusal that comes of no fault
  plain_may : (c : Core D) → c.store.offline ≡ None → IsPlain refusal → MayAnswer m places old c (Some refusal)
  plain_may c up plain = at refusal plain
    where
      at : (r : Refusal) → IsPlain r → MayAnswer m places old c (Some r)
      at (DatabaseFull limit) is = absurd is
      at (DiskRead n) is = absurd is
      at (DiskWrite n) is = absurd is
      at (Offline n) is = absurd is
      at (Damaged page field found wanted) is = absurd is
      at r is = record { cause = tt; offline = rw online tt; down = up ∙ sym online }

  -- it is told, and nothing else has happened
  pub told_stops : new ≡ mid → IsPlain refusal → waited_on (No refusal) ≡ None
      → IsStopped m places old new t refusal
  told_stops same plain none = subst (λ (c : Core D). IsStopped m places old c t refusal) (sym same) (record {
    notes = record {
      keeps = read.keeps;
      waits = subst (λ (who : Option ℕ). NowWaits (edges_in old.waits) (edges_in mid.waits) t who) (sym none)
          read.over;
      damage = same_least old.damage mid.damage mid_damage;
      shortages = same_least old.shortages mid.shortages mid_shortages;
      same = read.same ∙ ap (λ (n : ℕ). record old {
        store = mid.store;
        waits = mid.waits;
        damage = n;
        shortages = old.shortages;
      }) (sym mid_damage) ∙ ap (λ (n : ℕ). record old {
        store = mid.store;
        waits = mid.waits;
        damage = mid.damage;
        shortages = n;
      }) (sym mid_shortages);
    };
    may = plain_may mid mid_online plain;
  })

  -- the transaction waits
  pub wait_stops : (by : TxNo) → NotesWait mid new t by refusal → IsStopped m places old new t refusal
  wait_stops by notes = subst (λ (c : Core D). IsStopped m places old c t refusal) (sym same) (record {
    notes = record {
      keeps = read.keeps;
      waits = subst (λ (who : Option ℕ). NowWaits (edges_in old.waits) (edges_in new.waits) t who)
          (sym (ap (λ (r : Refusal). waited_on (No r)) notes.is)) (record {
            its = notes.waits.its;
            others = λ u ne. notes.waits.others u ne ∙ read.over.others u ne;
          });
      damage = omega arith;
      shortages = omega arith;
      same = refl;
    };
    may = plain_may (record old { store = mid.store; waits = new.waits }) mid_online
        (subst IsPlain (sym notes.is) tt);
  })
    where
      same : new ≡ record old { store = mid.store; waits = new.waits }
      same = notes.same ∙ ap (λ (c : Core D). record c { waits = new.waits }) read.same

  -- a fault is told and counted
  module _ (fault : SpaceFault) (store : Pool D FireLinks) (is : IsRefusal fault refusal)
      (own : ReadsData {T = Unit {0}} (Err fault))
      (told : TellsFault m mid.store store (pool_answer {T = Unit {0}} (Err fault)))
      (keeps : KeepsStore m mid.store store)
      (counts : CountsFault fault mid.damage new.damage mid.shortages new.shortages)
      (same : new ≡ record mid { store = store; damage = new.damage; shortages = new.shortages }) where
    abbrev c : Core D
    c = record old { store = store; waits = mid.waits; damage = new.damage; shortages = new.shortages }

    is_now : new ≡ record old {
      store = store;
      waits = mid.waits;
      damage = new.damage;
      shortages = new.shortages;
    }
    is_now = same ∙ ap (λ (x : Core D). record x { store = store; damage = new.damage; shortages = new.shortages })
        read.same

    counts_old : CountsFault fault old.damage new.damage old.shortages new.shortages
    counts_old = subst (λ (n : ℕ). CountsFault fault n new.damage old.shortages new.shortages) mid_damage
        (subst (λ (n : ℕ). CountsFault fault mid.damage new.damage n new.shortages) mid_shortages counts)

    up : store.offline ≡ None
    up = keeps.offline ∙ mid_online

    fault_may : (f : SpaceFault) → IsRefusal f refusal → ReadsData {T = Unit {0}} (Err f)
        → TellsFault m mid.store store (pool_answer {T = Unit {0}} (Err f))
        → CountsFault f old.damage new.damage old.shortages new.shortages
        → MayAnswer m places old (record old {
          store = store;
          waits = mid.waits;
          damage = new.damage;
          shortages = new.shortages;
        }) (Some refusal)
    fault_may (faults.Full limit) its reads tells counted = absurd reads
    fault_may (faults.Damaged d) its reads tells counted = subst (λ (r : Refusal). MayAnswer m places old c (Some r))
        (sym its) (record { cause = rose_one old.damage new.damage counted.0; offline = rw online tt; down = up ∙ sym online })
    fault_may (faults.Pool (pool_faults.Absent n)) its reads tells counted = absurd reads
    fault_may (faults.Pool (pool_faults.DiskWrite n)) its reads tells counted = absurd reads
    fault_may (faults.Pool (pool_faults.DiskRead n)) its reads tells counted =
        subst (λ (r : Refusal). MayAnswer m places old c (Some r)) (sym its) (record {
          cause = rose_later (m.faults old.store.disk) (m.faults mid.store.disk) (m.faults store.disk)
              read.keeps.disk.never_falls tells.2.2;
          offline = rw online tt;
          down = up ∙ sym online;
        })
    fault_may (faults.Pool (pool_faults.Offline n)) its reads tells counted =
        let both : None ≡ Some n = sym mid_online ∙ tells.0 in absurd cc
    fault_may (faults.Pool pool_faults.Memory) its reads tells counted =
        subst (λ (r : Refusal). MayAnswer m places old c (Some r)) (sym its)
        (record { cause = tt; offline = rw online tt; down = up ∙ sym online })

    pub fault_stops : IsStopped m places old new t refusal
    fault_stops = subst (λ (x : Core D). IsStopped m places old x t refusal) (sym is_now) (record {
      notes = record {
        keeps = keeps_on m counts_now old.store mid.store store read.keeps keeps;
        waits = subst (λ (who : Option ℕ). NowWaits (edges_in old.waits) (edges_in mid.waits) t who)
            (sym (fault_waits fault refusal is)) read.over;
        damage = (risen fault old.damage new.damage old.shortages new.shortages fits.damage fits.shortages
            counts_old).0;
        shortages = (risen fault old.damage new.damage old.shortages new.shortages fits.damage fits.shortages
            counts_old).1;
        same = refl;
      };
      may = fault_may fault is own told counts_old;
    })

  -- pages were not read
  pub unread_stops : (why : Pool D FireLinks → Pages → SpaceFault → Type 0) → FailsReading m mid new why refusal
      → IsStopped m places old new t refusal
  unread_stops why fails = fault_stops fails.fault new.store fails.is fails.own fails.told fails.keeps fails.counts
      fails.same

  -- a damage is told that was not read
  pub damage_stops : (d : Damage) → IsPool m mid.store → mid.store.offline ≡ None
      → CountsOne mid new (faults.Damaged d) refusal → IsStopped m places old new t refusal
  damage_stops d pool up one = fault_stops (faults.Damaged d) mid.store one.is tt
      (up, up, refl) (keeps_itself m mid.store pool) one.counts one.same

-- an answer from outside
pub fault_outer : (fault : SpaceFault) (refusal : Refusal) → IsRefusal fault refusal → is_outer (No refusal) ≡ true
fault_outer (faults.Full limit) refusal its = ap (λ (r : Refusal). is_outer (No r)) (full_is refusal its).1
fault_outer (faults.Damaged d) refusal its = ap (λ (r : Refusal). is_outer (No r)) its
fault_outer (faults.Pool (pool_faults.Absent n)) refusal its = ap (λ (r : Refusal). is_outer (No r)) its
fault_outer (faults.Pool (pool_faults.DiskRead n)) refusal its = ap (λ (r : Refusal). is_outer (No r)) its
fault_outer (faults.Pool (pool_faults.DiskWrite n)) refusal its = ap (λ (r : Refusal). is_outer (No r)) its
fault_outer (faults.Pool (pool_faults.Offline n)) refusal its = ap (λ (r : Refusal). is_outer (No r)) its
fault_outer (faults.Pool pool_faults.Memory) refusal its = ap (λ (r : Refusal). is_outer (No r)) its
