-- Lemmas on records: what is found of one, once, and how its refusals are handed on.
use Rattle.std.proofs.Common.{◌≡◌, ◌∙◌, ◌⊎◌, inl, inr, ℕ, Bool, true, false, List, Option, None, Some, refl, sym, ap, subst, Result, Ok, Err}
use Rattle.std.specs.Prelude.{IsErr, IsErrAnd, MatchResult, IsTrue, ◌↔◌}
use Rattle.std.proofs.lemmas.Bool.{false≢true}
use Rattle.mg_base.specs.Disk.{Meaning}
use Rattle.mg_base.specs.Image.{Image}
use Rattle.mg_base.specs.declared.numbers.RecId.{RecId}
use Rattle.mg_base.specs.declared.numbers.TxNo.{TxNo}
use Rattle.mg_base.specs.declared.transaction.TxState.{TxState}
use Rattle.mg_chain.specs.Chains.{Meets, newest_link}
use Rattle.mg_chain.specs.Refusals.{RefusesChain}
use Rattle.mg_heap.specs.Reading.{ReadsData}
use Rattle.mg_image.specs.Form.{Pages, Row, packed_coding}
use Rattle.mg_image.specs.ReadingLaws.{RowsAreOne}
use Rattle.mg_image.specs.RecordRules.{columns_for}
use Rattle.mg_image.specs.Records.{Cells, cells_of, key_of}
use Rattle.mg_model.specs.declared.table.Table.{Table}
use Rattle.mg_pool.specs.Batch.{Changed}
use Rattle.mg_pool.specs.Fault.{StaysOnline, TellsFault}
use Rattle.mg_pool.specs.declared.batch.BatchPage.{BatchPage}
use Rattle.mg_pool.specs.declared.fault.PoolFault.{PoolFault}
use Rattle.mg_pool.specs.declared.fault.PoolFault.TheVariants as pool_faults
use Rattle.mg_pool.specs.declared.pool.Pool.{Pool}
use Rattle.mg_snap.specs.Live.{State}
use Rattle.mg_space.specs.View.{KeepsStore, Tells, pool_answer, viewed}
use Rattle.mg_space.specs.ViewLaws.{tells_on, viewed_on}
use Rattle.mg_space.specs.declared.fault.SpaceFault.{SpaceFault}
use Rattle.mg_space.specs.declared.fault.SpaceFault.TheVariants as faults
use Rattle.mg_value.specs.declared.value.Value.{Value}
use Rattle.mg_version.specs.declared.cell.Cell.TheVariants as cells
use Rattle.mg_version.specs.declared.cell.Link.{Link}
use Rattle.mg_version.specs.declared.cell.Version.{Version}
use Rattle.mg_seek.specs.declared.walk.Placed.{Placed}
use Rattle.mg_seek.specs.declared.whose.Wanted.TheVariants.{Any, Living, SeenBy}
use Rattle.mg_seek.specs.Refusals.{IsRecordDamage, RefusesRecord, bad_body, bad_chain}
use Rattle.mg_seek.specs.Rows.{GivesRow, IsKeyFound, IsRowFound, IsRowOr, RefusesRowOf}
use Rattle.mg_seek.specs.Speaking.{Speaks, is_erased_for_all}
use Rattle.mg_seek.specs.Versions.{FirstAt, IsFirst, is_it, is_older, placed, stops, wants}
use Rattle.mg_seek.specs.Views.{IsKeyOf, IsRowSeen}

-- ---- what a later call tells

-- a clause on the pages as a later call saw them is one as they were at the start
pub as_kept : {D L : Type 0} (m : Meaning D) (a b : Pool D L) (image : Image) (batch : Changed)
    (P : Pages → Type 0) → KeepsStore m a b → Tells m a.disk image
    → (Tells m b.disk image → P (viewed b image batch)) → P (viewed a image batch)
as_kept m a b image batch P kept tells later =
    subst P (viewed_on m a b image batch kept) (later (tells_on m a b image kept tells))

-- ---- the first version is one

same_version : (v w : Version) → Some (cells.Version v) ≡ Some (cells.Version w) → v ≡ w
same_version v w same = cc

meets_once : (h : Cells) (l : Link) (v w : Version) → Meets h l v → Meets h l w → v ≡ w
meets_once h l v w first second = same_version v w (sym first.cell ∙ second.cell)

-- what comes from a link on begins so
abbrev Opens : (h : Cells) (takes : ℕ → Bool) → Option Link → Option Placed → Type 0
Opens h takes None found = found ≡ None
Opens h takes (Some l) found = (v : Version) × Meets h l v
    × (((takes v.tx.0 ≡ true) × (found ≡ Some (placed l.rec v)))
    ⊎ ((takes v.tx.0 ≡ false) × FirstAt h takes v.back found))

opens : (h : Cells) (takes : ℕ → Bool) (link : Option Link) (found : Option Placed)
    → FirstAt h takes link found → Opens h takes link found
opens h takes link found stops = refl
opens h takes link found (is_it l v meets taken) = (v, meets, inl (taken, refl))
opens h takes link found (is_older l v out meets other rest) = (v, meets, inr (other, rest))

pub first_once : (h : Cells) (takes : ℕ → Bool) (link : Option Link) (a b : Option Placed)
    → FirstAt h takes link a → FirstAt h takes link b → a ≡ b
first_once h takes link a b stops second = sym (opens h takes None b second)
first_once h takes link a b (is_it l v meets taken) second = at (opens h takes (Some l) b second)
  where
    at : Opens h takes (Some l) b → Some (placed l.rec v) ≡ b
    at (w, others, inl (its, is)) =
        ap (λ (x : Version). Some (placed l.rec x)) (meets_once h l v w meets others) ∙ sym is
    at (w, others, inr (not_, rest)) = absurd (false≢true (sym not_
        ∙ ap (λ (x : Version). takes x.tx.0) (sym (meets_once h l v w meets others)) ∙ taken))
first_once h takes link a b (is_older l v out meets other rest) second =
    at (opens h takes (Some l) b second) (λ later. first_once h takes v.back out b rest later)
  where
    at : Opens h takes (Some l) b → (FirstAt h takes v.back b → out ≡ b) → out ≡ b
    at (w, others, inl (its, is)) more = absurd (false≢true (sym other
        ∙ ap (λ (x : Version). takes x.tx.0) (meets_once h l v w meets others) ∙ its))
    at (w, others, inr (not_, later)) more = more
        (subst (λ (x : Version). FirstAt h takes x.back b) (sym (meets_once h l v w meets others)) later)

pub row_once : RowsAreOne packed_coding → (table : Table) (v : Version) (a b : Row)
    → GivesRow table v a → GivesRow table v b → a ≡ b
row_once one table v a b first second = one (columns_for table v.deleted) v.format v.body a b
    first.coded second.coded first.storable second.storable

-- ---- refusals

module _ {D L : Type 0} (m : Meaning D) (store : Pool D L) (pages : List BatchPage)
    (view : Pages) (takes : ℕ → Bool) (table : Table) (rec : RecId) where
  pub chain_refuses : (fault : SpaceFault) → RefusesChain m store pages view rec fault
      → RefusesRecord m store pages view takes table rec fault
  chain_refuses (faults.Full most) refuses = refuses
  chain_refuses (faults.Damaged it) refuses = bad_chain it refuses
  chain_refuses (faults.Pool fault) refuses = tt

  pub body_refuses : (found : Option Placed) (p : Placed) → IsFirst view takes rec found
      → found ≡ Some p → (fault : SpaceFault) → RefusesRowOf table p fault
      → RefusesRecord m store pages view takes table rec fault
  body_refuses found p first is (faults.Full most) refuses = refuses
  body_refuses found p first is (faults.Damaged it) refuses =
      bad_body p it (subst (IsFirst view takes rec) is first) refuses
  body_refuses found p first is (faults.Pool fault) refuses = tt

row_fault_as : (T : Type 0) (table : Table) (p : Placed) (fault : SpaceFault) → RefusesRowOf table p fault
    → (pool_answer {T = T} (Err fault) ≡ Ok tt)
    ⊎ (pool_answer {T = T} (Err fault) ≡ Err pool_faults.Memory)
row_fault_as T table p (faults.Full most) refuses = absurd refuses
row_fault_as T table p (faults.Damaged it) refuses = inl refl
row_fault_as T table p (faults.Pool fault) refuses = inr (ap Err refuses)

-- a body that is not read is no fault of the cache, but for memory
pub row_fault : {D L T : Type 0} (m : Meaning D) (a b : Pool D L) (table : Table) (p : Placed)
    (result : Result T SpaceFault) (fault : SpaceFault) → IsErr result
    → IsErrAnd result (λ given. given ≡ fault) → RefusesRowOf table p fault → StaysOnline m a b
    → TellsFault m a b (pool_answer result)
row_fault m a b table p (Ok x) fault err is refuses stays = absurd cc
row_fault {T = T} m a b table p (Err given) fault err is refuses stays =
    at (row_fault_as T table p given (subst (RefusesRowOf table p) (sym is) refuses))
  where
    at : (pool_answer {T = T} (Err given) ≡ Ok tt)
        ⊎ (pool_answer {T = T} (Err given) ≡ Err pool_faults.Memory)
        → TellsFault m a b (pool_answer {T = T} (Err given))
    at (inl told) = subst (λ (answer : Result (Unit {0}) PoolFault). TellsFault m a b answer) (sym told) stays
    at (inr told) = subst (λ (answer : Result (Unit {0}) PoolFault). TellsFault m a b answer) (sym told) stays

reads_row : (T : Type 0) (table : Table) (p : Placed) (fault : SpaceFault) → RefusesRowOf table p fault
    → ReadsData {T = T} (Err fault)
reads_row T table p (faults.Full most) refuses = refuses
reads_row T table p (faults.Damaged it) refuses = tt
reads_row T table p (faults.Pool fault) refuses =
    subst (λ (f : PoolFault). ReadsData {T = T} (Err (faults.Pool f))) (sym refuses) tt

pub row_reads : {T : Type 0} (table : Table) (p : Placed) (result : Result T SpaceFault)
    (fault : SpaceFault) → IsErr result → IsErrAnd result (λ given. given ≡ fault)
    → RefusesRowOf table p fault → ReadsData result
row_reads table p (Ok x) fault err is refuses = absurd cc
row_reads {T = T} table p (Err given) fault err is refuses =
    reads_row T table p given (subst (RefusesRowOf table p) (sym is) refuses)

-- ---- the row that is seen

module _ (state : ℕ → TxState) (live : State) (t : TxNo) (view : Pages) (table : Table) (rec : RecId)
  where
    its_row : (p : Placed) (b : Bool) (row : Option Row) → p.version.deleted ≡ b
        → IsRowOr b table p.version row → IsRowFound table (Some p) row
    its_row p b row is given = subst (λ (x : Bool). IsRowOr x table p.version row) (sym is) given

    pub none_seen : (found : Option Placed) → IsFirst view (wants state live (SeenBy t)) rec found
        → found ≡ None → IsRowSeen state live t view table rec None
    none_seen found first is = record {
      found = found;
      first = first;
      gives = subst (λ (x : Option Placed). IsRowFound table x None) (sym is) refl;
    }

    pub erased_seen : (found : Option Placed) (p : Placed)
        → IsFirst view (wants state live (SeenBy t)) rec found
        → found ≡ Some p → p.version.deleted ≡ true → IsRowSeen state live t view table rec None
    erased_seen found p first is erased = record {
      found = found;
      first = first;
      gives = subst (λ (x : Option Placed). IsRowFound table x None) (sym is)
          (its_row p true None erased refl);
    }

    pub row_seen : (found : Option Placed) (p : Placed) (row : Row)
        → IsFirst view (wants state live (SeenBy t)) rec found → found ≡ Some p
        → p.version.deleted ≡ false → GivesRow table p.version row
        → IsRowSeen state live t view table rec (Some row)
    row_seen found p row first is alive given = record {
      found = found;
      first = first;
      gives = subst (λ (x : Option Placed). IsRowFound table x (Some row)) (sym is)
          (its_row p false (Some row) alive (row, refl, given));
    }

-- ---- the key

pub no_key : (state : ℕ → TxState) (live : State) (view : Pages) (table : Table) (rec : RecId)
    (found : Option Placed) → IsFirst view (wants state live Any) rec found → found ≡ None
    → IsKeyOf state live view table rec None
no_key state live view table rec found first is = record {
  newest = found;
  first = first;
  gives = subst (λ (x : Option Placed). IsKeyFound table x None) (sym is) refl;
}

pub key_given : (state : ℕ → TxState) (live : State) (view : Pages) (table : Table) (rec : RecId)
    (found : Option Placed) (p : Placed) (row : Row) (key : Value)
    → IsFirst view (wants state live Any) rec found → found ≡ Some p → GivesRow table p.version row
    → key ≡ key_of table row → IsKeyOf state live view table rec (Some key)
key_given state live view table rec found p row key first is given keyed = record {
  newest = found;
  first = first;
  gives = subst (λ (x : Option Placed). IsKeyFound table x (Some key)) (sym is)
      (row, given, ap (λ (v : Value). Some v) keyed);
}

-- ---- whether a record speaks

same_some : {A : Type 0} (a b : A) → Some a ≡ Some b → a ≡ b
same_some a b same = cc

module _ (state : ℕ → TxState) (live : State) (view : Pages) (table : Table) (key : Value) (rec : RecId)
  where
    same_newest : (found : Option Placed) (p q : Placed) → IsFirst view (wants state live Living) rec found
        → found ≡ Some p → IsFirst view (wants state live Living) rec (Some q) → p ≡ q
    same_newest found p q first is other = same_some p q (sym is
        ∙ first_once (cells_of view) (wants state live Living) (newest_link view rec) found (Some q) first
        other)

    pub none_speaks : (found : Option Placed) → IsFirst view (wants state live Living) rec found
        → found ≡ None → IsTrue false ↔ Speaks state live view table key rec
    none_speaks found first is = ((λ no_. absurd (false≢true no_)), (λ speaks. absurd (at speaks)))
      where
        at : Speaks state live view table key rec → ⊥
        at speaks =
            let same : None ≡ Some speaks.newest = sym is
            ∙ first_once (cells_of view) (wants state live Living) (newest_link view rec) found
            (Some speaks.newest) first speaks.living in
            absurd cc

    pub erased_silent : (found : Option Placed) (p : Placed)
        → IsFirst view (wants state live Living) rec found → found ≡ Some p
        → is_erased_for_all state live p.version ≡ true
        → IsTrue false ↔ Speaks state live view table key rec
    erased_silent found p first is erased =
        ((λ no_. absurd (false≢true no_)), (λ speaks. absurd (at speaks)))
      where
        at : Speaks state live view table key rec → ⊥
        at speaks = false≢true (sym speaks.stays
            ∙ ap (λ (x : Placed). is_erased_for_all state live x.version)
            (sym (same_newest found p speaks.newest first is speaks.living)) ∙ erased)

    pub speaks_by_key : RowsAreOne packed_coding → (found : Option Placed) (p : Placed) (row : Row)
        (b : Bool) → IsFirst view (wants state live Living) rec found → found ≡ Some p
        → is_erased_for_all state live p.version ≡ false → GivesRow table p.version row
        → IsTrue b ↔ (key_of table row ≡ key)
        → IsTrue b ↔ Speaks state live view table key rec
    speaks_by_key one found p row b first is stays given keyed = (
      (λ yes_. record {
        newest = p;
        living = subst (IsFirst view (wants state live Living) rec) is first;
        stays = stays;
        row = row;
        given = given;
        keyed = keyed.0 yes_;
      }),
      (λ speaks. keyed.1 (at speaks)),
    )
      where
        at : Speaks state live view table key rec → key_of table row ≡ key
        at speaks =
            let same : p ≡ speaks.newest = same_newest found p speaks.newest first is speaks.living in
            let its : GivesRow table p.version speaks.row =
            subst (λ (x : Placed). GivesRow table x.version speaks.row) (sym same) speaks.given in
            ap (key_of table) (row_once one table p.version row speaks.row given its) ∙ speaks.keyed
