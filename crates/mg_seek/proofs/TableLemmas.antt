-- Lemmas on the records of a table.
use Rattle.std.proofs.Common.{◌≡◌, ◌<◌, ◌≤◌, ◌+◌, ◌∷◌, [], ◌++◌, ◌∙◌, ◌⊎◌, inl, inr, ℕ, zero, suc, List, Option, None, Some, length, drop, drop-cons, get_or, refl, sym, ap, subst, arith, add-one, append_assoc, Bool, Result, Ok, Err}
use Rattle.std.specs.Prelude.{MatchResult}
use Rattle.mg_base.specs.Disk.{Meaning}
use Rattle.mg_base.specs.declared.numbers.PageNo.{PageNo}
use Rattle.mg_base.specs.declared.numbers.RecId.{RecId}
use Rattle.mg_base.specs.declared.transaction.TxState.{TxState}
use Rattle.mg_heap.specs.Table.{IsTable, RefusesTable}
use Rattle.mg_heap.specs.Walk.{RefusesTableData, RefusesWalk, RefusesWalkOf}
use Rattle.mg_image.specs.Form.{Pages}
use Rattle.mg_model.specs.declared.table.Table.{Table}
use Rattle.mg_pool.specs.declared.batch.BatchPage.{BatchPage}
use Rattle.mg_pool.specs.declared.pool.Pool.{Pool}
use Rattle.mg_snap.specs.Live.{State}
use Rattle.mg_space.specs.declared.fault.SpaceFault.{SpaceFault}
use Rattle.mg_space.specs.declared.fault.SpaceFault.TheVariants as faults
use Rattle.mg_value.specs.declared.value.Value.{Value}
use Rattle.mg_seek.specs.Refusals.{RefusesRecord}
use Rattle.mg_seek.specs.Speaking.{RefusesRecords, RefusesTableRows, SpeaksAmong, Speaks, bad_among, no_walk}
use Rattle.mg_seek.specs.TableRecords.{AreTableRecords, IsAmong, record_at, records_below, records_in, records_on}

-- ---- the pages of a table

opens : (ds : List ℕ) (place n : ℕ) → place < length ds → n ≡ get_or ds place 0
    → drop place ds ≡ n ∷ drop (place + 1) ds
opens ds place n inside is = drop-cons ds place 0 inside
    ∙ (ap (λ (m : ℕ). m ∷ drop (suc place) ds) (sym is)
    ∙ ap (λ (k : ℕ). n ∷ drop k ds) (sym (add-one place)))

-- the records of one page more are listed
pub page_listed : (view : Pages) (ds : List ℕ) (place n : ℕ) (old new all : List RecId)
    → place < length ds → n ≡ get_or ds place 0 → new ≡ old ++ records_on (view n) n
    → old ++ records_in view (drop place ds) ≡ all → new ++ records_in view (drop (place + 1) ds) ≡ all
page_listed view ds place n old new all inside is more whole =
    let rest : List RecId = records_in view (drop (place + 1) ds) in
    ap (λ (rs : List RecId). rs ++ rest) more
    ∙ append_assoc old (records_on (view n) n) rest
    ∙ ap (λ (ns : List ℕ). old ++ records_in view ns) (sym (opens ds place n inside is)) ∙ whole

drop_past : (ds : List ℕ) (place : ℕ) → length ds ≤ place → drop place ds ≡ []
drop_past [] zero le = refl
drop_past [] (suc place) le = refl
drop_past (d ∷ ds) zero le = absurd (omega arith)
drop_past (d ∷ ds) (suc place) le = drop_past ds place (omega arith)

append_nil : (rs : List RecId) → rs ++ [] ≡ rs
append_nil [] = refl
append_nil (x ∷ rs) = ap (λ (xs : List RecId). x ∷ xs) (append_nil rs)

-- no page is left
pub pages_listed : (view : Pages) (ds : List ℕ) (place : ℕ) (old all : List RecId)
    → length ds ≤ place → old ++ records_in view (drop place ds) ≡ all → old ≡ all
pages_listed view ds place old all past whole = sym (append_nil old)
    ∙ ap (λ (ns : List ℕ). old ++ records_in view ns) (sym (drop_past ds place past)) ∙ whole

pub page_broken : {D L : Type 0} (m : Meaning D) (store : Pool D L) (batch : List BatchPage)
    (pages : Pages) (owner place at : ℕ) (ds : List ℕ) (n : PageNo) (fault : SpaceFault)
    → place < length ds → n.0 ≡ get_or ds place 0 → at ≡ place
    → RefusesTableData m store batch (pages n.0) owner at n fault
    → RefusesWalkOf m store batch pages owner ds fault
page_broken m store batch pages owner place at ds n (faults.Full limit) inside is same refused = refused
page_broken m store batch pages owner place at ds n (faults.Damaged damage) inside is same refused = record {
  place = place;
  inside = inside;
  page = n;
  listed = sym is;
  refused = subst (λ (k : ℕ). RefusesTableData m store batch (pages n.0) owner k n (faults.Damaged damage))
      same refused;
}
page_broken m store batch pages owner place at ds n (faults.Pool fault) inside is same refused = tt

pub table_broken : {D L : Type 0} (m : Meaning D) (store : Pool D L) (batch : List BatchPage)
    (pages : Pages) (owner : ℕ) (fault : SpaceFault) → RefusesTable m store batch pages owner fault
    → RefusesWalk m store batch pages owner fault
table_broken m store batch pages owner (faults.Full limit) refused = refused
table_broken m store batch pages owner (faults.Damaged damage) refused = inl refused
table_broken m store batch pages owner (faults.Pool fault) refused = tt

walk_broken : {D L : Type 0} (m : Meaning D) (store : Pool D L) (batch : List BatchPage)
    (pages : Pages) (owner : ℕ) (ps ds : List ℕ) (fault : SpaceFault) → IsTable pages owner ps ds
    → RefusesWalkOf m store batch pages owner ds fault → RefusesWalk m store batch pages owner fault
walk_broken m store batch pages owner ps ds (faults.Full limit) table refused = refused
walk_broken m store batch pages owner ps ds (faults.Damaged damage) table refused =
    inr (record { pointers = ps; data_pages = ds; table = table; broken = refused })
walk_broken m store batch pages owner ps ds (faults.Pool fault) table refused = tt

-- the records of the pages that a table lists are those of the table
pub table_listed : {D L V : Type 0} (m : Meaning D) (store : Pool D L) (batch : List BatchPage)
    (pages : Pages) (owner : ℕ) (ps ds : List ℕ) (items : V → List RecId) (result : Result V SpaceFault)
    → IsTable pages owner ps ds
    → MatchResult result (λ records. items records ≡ records_in pages ds)
    (RefusesWalkOf m store batch pages owner ds)
    → MatchResult result (λ records. AreTableRecords pages owner (items records))
    (RefusesWalk m store batch pages owner)
table_listed m store batch pages owner ps ds items (Ok records) table is =
    record { pointers = ps; data_pages = ds; table = table; are = is }
table_listed m store batch pages owner ps ds items (Err fault) table refused =
    walk_broken m store batch pages owner ps ds fault table refused

-- one slot more of a page is listed
pub slot_listed : (b : List ℕ) (n slot : ℕ) (start old new : List RecId)
    → old ≡ start ++ records_below b n slot → new ≡ old ++ record_at b n slot
    → new ≡ start ++ records_below b n (slot + 1)
slot_listed b n slot start old new is more = rw (add-one slot) (more
    ∙ ap (λ (rs : List RecId). rs ++ record_at b n slot) is
    ∙ append_assoc start (records_below b n slot) (record_at b n slot))

-- no record is left
pub none_left : (recs : List RecId) → 0 ≡ length recs → recs ≡ []
none_left [] is = refl
none_left (x ∷ recs) is = absurd (omega (arith, is))

-- ---- rows of a table

module _ {D L : Type 0} (m : Meaning D) (store : Pool D L) (pages : List BatchPage)
    (view : Pages) (takes : ℕ → Bool) (table : Table) where
  pub walk_refuses : (fault : SpaceFault) → RefusesWalk m store pages view table.pointer.0 fault
      → RefusesTableRows m store pages view takes table fault
  walk_refuses (faults.Full most) refused = refused
  walk_refuses (faults.Damaged it) refused = no_walk it refused
  walk_refuses (faults.Pool fault) refused = tt

  pub record_refuses : (records : List RecId) (rec : RecId) (fault : SpaceFault) → IsAmong records rec
      → RefusesRecord m store pages view takes table rec fault
      → RefusesRecords m store pages view takes table records fault
  record_refuses records rec (faults.Full most) among refused = refused
  record_refuses records rec (faults.Damaged it) among refused =
      record { rec = rec; among = among; damaged = refused }
  record_refuses records rec (faults.Pool fault) among refused = tt

  pub records_refuse : (records : List RecId) (fault : SpaceFault)
      → AreTableRecords view table.pointer.0 records
      → RefusesRecords m store pages view takes table records fault
      → RefusesTableRows m store pages view takes table fault
  records_refuse records (faults.Full most) are refused = refused
  records_refuse records (faults.Damaged it) are refused = bad_among records it are refused
  records_refuse records (faults.Pool fault) are refused = tt

  -- what is found among the records of a table is found of the table
  pub of_table : {V : Type 0} (records : List RecId) (P Q : V → Type 0) (result : Result V SpaceFault)
      → AreTableRecords view table.pointer.0 records → ((x : V) → P x → Q x)
      → MatchResult result P (RefusesRecords m store pages view takes table records)
      → MatchResult result Q (RefusesTableRows m store pages view takes table)
  of_table records P Q (Ok x) are gives found = gives x found
  of_table records P Q (Err fault) are gives refused = records_refuse records fault are refused

-- ---- which of some records speaks

module _ (state : ℕ → TxState) (live : State) (view : Pages) (table : Table) (key : Value) where
  -- one that does not speak is passed over
  pub passed_over : (rec : RecId) (later : List RecId) (found : Option RecId)
      → (Speaks state live view table key rec → ⊥) → SpeaksAmong state live view table key later found
      → SpeaksAmong state live view table key (rec ∷ later) found
  passed_over rec later None silent others = (silent, others)
  passed_over rec later (Some speaker) silent found = (inr found.0, found.1)
