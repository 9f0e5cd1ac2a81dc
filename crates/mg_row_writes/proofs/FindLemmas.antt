-- What is read over a fresh batch, and after pages were only read.
use Rattle.std.proofs.Common.{◌≡◌, ◌==◌, ℕ, Bool, true, false, List, [], Option, None, Some, Result, Ok, Err, inl, inr, refl, subst, sym}
use Rattle.std.specs.Prelude.{IsErr, IsErrAnd, MatchResult, unwrap_or}
use Rattle.mg_base.specs.Disk.{Meaning}
use Rattle.mg_base.specs.Image.{Image}
use Rattle.mg_base.specs.declared.damage.Damaged.{Damaged}
use Rattle.mg_base.specs.declared.numbers.RecId.{RecId}
use Rattle.mg_base.specs.declared.transaction.TxState.{TxState}
use Rattle.mg_heap.specs.Table.{IsTable, RefusesTable}
use Rattle.mg_image.specs.Form.{Pages}
use Rattle.mg_model.specs.declared.table.Table.{Table}
use Rattle.mg_pool.specs.Batch.{Changed, content_in}
use Rattle.mg_pool.specs.Dirty.{DirtyPages}
use Rattle.mg_pool.specs.Pool.{shown}
use Rattle.mg_pool.specs.declared.batch.BatchPage.{BatchPage}
use Rattle.mg_pool.specs.declared.pool.Pool.{Pool}
use Rattle.mg_snap.specs.Live.{State}
use Rattle.mg_space.specs.View.{KeepsStore, Tells, viewed}
use Rattle.mg_space.specs.ViewLaws.{tells_on}
use Rattle.mg_space.specs.declared.fault.SpaceFault.{SpaceFault}
use Rattle.mg_space.specs.declared.fault.SpaceFault.TheVariants as faults
use Rattle.mg_value.specs.declared.value.Value.{Value}
use Rattle.mg_chain.specs.Refusals.{RefusesChain}
use Rattle.mg_seek.specs.CandidateLaws.{its_record}
use Rattle.mg_seek.specs.Candidates.{AreEnough, FoundAmong, RefusesCandidate, RefusesCandidates}
use Rattle.mg_seek.specs.Refusals.{RefusesRecord, bad_body, bad_chain}
use Rattle.mg_seek.specs.Rows.{RefusesRowOf}
use Rattle.mg_seek.specs.Speaking.{IsTableDamage, RefusesTableRows, bad_among, no_walk}
use Rattle.mg_seek.specs.TableRecords.{AreTableRecords, records_in}
use Rattle.mg_seek.specs.Versions.{IsFirst, wants}
use Rattle.mg_seek.specs.declared.walk.Placed.{Placed}
use Rattle.mg_seek.specs.declared.whose.Wanted.TheVariants.{Any}
use Rattle.mg_row_writes.specs.Befores.{IsBeforeBy, IsBeforeIn, IsBeforeOf, OwnBefore, before_other}
use Rattle.mg_row_writes.specs.declared.before.Before.{Before}
use Rattle.mg_row_writes.specs.Finding.{MayTell, SpeaksThere}

-- a fault that a call met is handed on
pub handed_on : {T : Type 0} (result : Result T SpaceFault) (fault : SpaceFault)
    (P : T → Type 0) (Q : SpaceFault → Type 0) → IsErr result
    → IsErrAnd result (λ given. given ≡ fault) → Q fault → MatchResult result P Q
handed_on (Ok x) fault P Q err is holds = absurd cc
handed_on (Err e) fault P Q err is holds = subst Q (sym is) holds

-- ---- what is seen

-- one who fills a fresh batch sees what the cache shows
pub through_empty : {D L T : Type 0} (store : Pool D L) (image : Image) (batch : Changed)
    (result : Result T SpaceFault) (P : Pages → T → Type 0)
    (Q : List BatchPage → Pages → SpaceFault → Type 0) → batch.pages ≡ []
    → MatchResult result (P (viewed store image batch)) (Q batch.pages (viewed store image batch))
    → MatchResult result (P (shown store.dirty image)) (Q [] (shown store.dirty image))
through_empty store image batch result P Q empty given =
    let R : List BatchPage → Type 0 = λ pages. MatchResult result
    (P (λ n. unwrap_or (content_in pages n) (shown store.dirty image n)))
    (Q pages (λ n. unwrap_or (content_in pages n) (shown store.dirty image n))) in
    subst R empty given

-- candidates that are given are enough
pub are_enough : (state : ℕ → TxState) (live : State) (view : Pages) (table : Table) (key : Value)
    (given : Option (List RecId)) (candidates : List RecId) → given ≡ Some candidates
    → MayTell state live view table key given → AreEnough state live view table key candidates
are_enough state live view table key given candidates is may = subst (MayTell state live view table key) is may

-- what is seen once pages were read was seen before
pub as_before : {D L : Type 0} (m : Meaning D) (a b : Pool D L) (image : Image) (P : Pages → Type 0)
    → KeepsStore m a b → Tells m a.disk image → (Tells m b.disk image → P (shown b.dirty image))
    → P (shown a.dirty image)
as_before m a b image P kept tells later = subst (λ (d : DirtyPages). P (shown d image)) kept.dirty
    (later (tells_on m a b image kept tells))

-- a table whose chain of pointer pages breaks is not read
pub unwalked : {D L : Type 0} (m : Meaning D) (store : Pool D L) (pages : List BatchPage) (view : Pages)
    (takes : ℕ → Bool) (table : Table) (fault : SpaceFault) → RefusesTable m store pages view table.pointer.0 fault
    → RefusesTableRows m store pages view takes table fault
unwalked m store pages view takes table (faults.Full most) refused = refused
unwalked m store pages view takes table (faults.Damaged it) refused = no_walk it (inl refused)
unwalked m store pages view takes table (faults.Pool fault) refused = tt

-- one candidate that speaks for the key is enough, where the table's pointer pages are as wanted
module _ (state : ℕ → TxState) (live : State) (view : Pages) (table : Table) (key : Value)
    (candidates : List RecId) (pointers data_pages : List ℕ)
    (walked : IsTable view table.pointer.0 pointers data_pages) where
  its_records : AreTableRecords view table.pointer.0 (records_in view data_pages)
  its_records = record { pointers = pointers; data_pages = data_pages; table = walked; are = refl }

  module _ {D L : Type 0} (m : Meaning D) (store : Pool D L) (takes : ℕ → Bool) where
    damaged_in_place : (it : Damaged) (rec : RecId)
        → RefusesCandidate m store [] view takes table rec (faults.Damaged it)
        → IsTableDamage m store [] view takes table it
    damaged_in_place it rec (inl (at, broken)) = no_walk it (inl (record {
      pointers = broken.pointers;
      page = broken.page;
      leads = broken.leads;
      some = broken.some;
      refused = broken.refused;
    }))
    damaged_in_place it rec (inr (its, damaged)) = bad_among (records_in view data_pages) it its_records (record {
      rec = rec;
      among = its_record view table.pointer.0 (records_in view data_pages) its_records rec its;
      damaged = damaged;
    })

    pub told_in_place : (result : Result (Option RecId) SpaceFault)
        → MatchResult result (FoundAmong state live view table key candidates)
        (RefusesCandidates m store [] view takes table candidates)
        → MatchResult result (SpeaksThere state live view table key) (RefusesTableRows m store [] view takes table)
    told_in_place (Ok None) none = tt
    told_in_place (Ok (Some rec)) found = record {
      records = records_in view data_pages;
      of_table = its_records;
      speaks = (
        its_record view table.pointer.0 (records_in view data_pages) its_records rec found.1.its,
        found.1.speaks,
      );
    }
    told_in_place (Err (faults.Full most)) refused = refused
    told_in_place (Err (faults.Damaged it)) refused = damaged_in_place it refused.rec refused.refused
    told_in_place (Err (faults.Pool fault)) refused = tt

-- what is seen over a fresh batch
pub empty_seen : {D L : Type 0} (store : Pool D L) (image : Image) (batch : Changed)
    (P : List BatchPage → Pages → Type 0) → batch.pages ≡ [] → P batch.pages (viewed store image batch)
    → P [] (shown store.dirty image)
empty_seen store image batch P empty given = subst (λ (pages : List BatchPage).
    P pages (λ n. unwrap_or (content_in pages n) (shown store.dirty image n))) empty given

-- a chain that is not followed refuses its record
pub chain_refuses : {D L : Type 0} (m : Meaning D) (store : Pool D L) (pages : List BatchPage)
    (view : Pages) (takes : ℕ → Bool) (table : Table) (rec : RecId) (fault : SpaceFault)
    → RefusesChain m store pages view rec fault → RefusesRecord m store pages view takes table rec fault
chain_refuses m store pages view takes table rec (faults.Full most) given = given
chain_refuses m store pages view takes table rec (faults.Damaged it) given = bad_chain it given
chain_refuses m store pages view takes table rec (faults.Pool fault) given = given

-- a body that is not read refuses its record
pub body_refuses : {D L : Type 0} (m : Meaning D) (store : Pool D L) (pages : List BatchPage)
    (view : Pages) (takes : ℕ → Bool) (table : Table) (rec : RecId) (p : Placed) (fault : SpaceFault)
    → IsFirst view takes rec (Some p) → RefusesRowOf table p fault
    → RefusesRecord m store pages view takes table rec fault
body_refuses m store pages view takes table rec p (faults.Full most) first given = given
body_refuses m store pages view takes table rec p (faults.Damaged it) first given = bad_body p it first given
body_refuses m store pages view takes table rec p (faults.Pool fault) first given = tt

-- what stands in a record, by its newest version
pub before_by : (state : ℕ → TxState) (live : State) (t : ℕ) (view : Pages) (table : Table) (rec : RecId)
    (found newest : Option Placed) (b : Before) → IsFirst view (wants state live Any) rec found → found ≡ newest
    → IsBeforeOf state t table rec newest b → IsBeforeIn state live t view table rec b
before_by state live t view table rec found newest b first same is = record {
  newest = found;
  first = first;
  is = subst (λ (o : Option Placed). IsBeforeOf state t table rec o b) (sym same) is;
}

-- by one of the transaction's own
pub own_by : (state : ℕ → TxState) (t : ℕ) (table : Table) (rec : RecId) (p : Placed) (b : Before)
    → (p.version.tx.0 == t) ≡ true → OwnBefore table rec p.version b → IsBeforeOf state t table rec (Some p) b
own_by state t table rec p b own is = subst (λ (o : Bool). IsBeforeBy o state table rec p.version b) (sym own) is

pub other_by : (state : ℕ → TxState) (t : ℕ) (table : Table) (rec : RecId) (p : Placed) (b : Before)
    → (p.version.tx.0 == t) ≡ false → b ≡ before_other state rec p.version.tx.0
    → IsBeforeOf state t table rec (Some p) b
other_by state t table rec p b other is = subst (λ (o : Bool). IsBeforeBy o state table rec p.version b) (sym
    other) is

pub own_comes : {D L : Type 0} (m : Meaning D) (store : Pool D L) (view : Pages) (state : ℕ → TxState)
    (live : State) (t : ℕ) (table : Table) (rec : RecId) (found : Option Placed) (p : Placed)
    (result : Result Before SpaceFault) → IsFirst view (wants state live Any) rec found → found ≡ Some p
    → (p.version.tx.0 == t) ≡ true
    → MatchResult result (OwnBefore table rec p.version) (RefusesRowOf table p)
    → MatchResult result (IsBeforeIn state live t view table rec)
    (RefusesRecord m store [] view (wants state live Any) table rec)
own_comes m store view state live t table rec found p (Ok b) first same own given =
    before_by state live t view table rec found (Some p) b first same (own_by state t table rec p b own given)
own_comes m store view state live t table rec found p (Err fault) first same own given =
    body_refuses m store [] view (wants state live Any) table rec p fault
    (subst (λ (o : Option Placed). IsFirst view (wants state live Any) rec o) same first) given
