-- What an answer to wait tells: it is for a transaction that is active, and closes no cycle.
use Rattle.std.specs.Prelude.{◌≡◌, ◌⊎◌, ℕ, ◌==◌, Bool, true, false, List, Option, Some, None, cond, refl}
use Rattle.std.proofs.Common.{sym, ◌∙◌, ap, subst, inl, inr}
use Rattle.std.proofs.lemmas.Bool.{false≢true}
use Rattle.mg_base.specs.declared.transaction.TxState.{TxState}
use Rattle.mg_base.specs.declared.transaction.TxState.TheVariants.{Active, Limbo, Dead, Committed}
use Rattle.mg_base.specs.declared.numbers.TxNo.{TxNo}
use Rattle.mg_value.specs.declared.value.Value.{Value}
use Rattle.mg_model.specs.declared.answer.Answer.{Answer}
use Rattle.mg_model.specs.declared.answer.Answer.TheVariants.{Fine, Tx, Rows, No}
use Rattle.mg_model.specs.declared.refusal.Refusal.TheVariants.{Waits, TransactionLimit, DuplicateKey, NoRow, ReadOnly, NoTable}
use Rattle.mg_model.specs.declared.event.Event.{Event}
use Rattle.mg_model.specs.declared.event.Event.TheVariants.{Begin, Look, Find, Claim, Insert, Change, Erase, Mark, UndoMark, Savepoint, BackTo, Prepare, Commit, Rollback, Decide}
use Rattle.mg_model.specs.declared.opening.Opening.{Opening}
use Rattle.mg_model.specs.Catalog.{key_in}
use Rattle.mg_model.specs.History.{Entry, Entries, transaction_of}
use Rattle.mg_model.specs.Machine.{next_number, state_of, waited_on}
use Rattle.mg_model.specs.Answers.{Told, told, is_active, closes, number, verdict_by, verdict, past, if_active, if_limbo, catalog_of, has_table, has_row, if_writable, obstacle, table_obstacle, claim_obstacle, answer_insert, answer_give, answer_claim, answer_find, answer}
use Rattle.mg_model.specs.Legal.{is_outer, IsLawful}

-- ---- what an answer to wait tells

-- where t is told to wait, it is for a transaction that is active, and closes no cycle
abbrev IsOpenWait : Told → ℕ → Answer → Type 0
IsOpenWait k t said = (w : TxNo) → said ≡ No (Waits w)
    → (is_active (k.state w.0) ≡ true) × (closes k t w.0 ≡ false)

module _ (k : Told) (t : ℕ) where
  wait_choice : (b : Bool) (x y : Answer) → IsOpenWait k t x → IsOpenWait k t y
      → IsOpenWait k t (cond b x y)
  wait_choice true x y first second = first
  wait_choice false x y first second = second

  wait_verdict : (u : ℕ) → IsOpenWait k t (verdict k t u)
  wait_verdict u = at (k.state u) refl (k.mode t).wait (closes k t u) refl
    where
      at : (s : TxState) → k.state u ≡ s → (waits : Bool) → (closing : Bool)
          → closes k t u ≡ closing → IsOpenWait k t (verdict_by s waits closing u)
      at Active is true true closing w said = absurd cc
      at Active is true false closing w said =
          let named : number u ≡ w = cc in
          let same : w.0 ≡ u = sym (ap (λ n. n.0) named) in (
            ap (λ v. is_active (k.state v)) same ∙ ap is_active is,
            ap (λ v. closes k t v) same ∙ closing,
          )
      at Active is false c closing w said = absurd cc
      at Limbo is waits c closing w said = absurd cc
      at Dead is waits c closing w said = absurd cc
      at Committed is waits c closing w said = absurd cc

  wait_past : (found : Option ℕ) (next : Answer) → IsOpenWait k t next
      → IsOpenWait k t (past k t found next)
  wait_past None next more = more
  wait_past (Some u) next more = wait_verdict u

  wait_if_active : (s : TxState) (next : Answer) → IsOpenWait k t next
      → IsOpenWait k t (if_active s next)
  wait_if_active Active next more = more
  wait_if_active Limbo next more = λ w said. absurd cc
  wait_if_active Dead next more = λ w said. absurd cc
  wait_if_active Committed next more = λ w said. absurd cc

  wait_if_limbo : (s : TxState) → IsOpenWait k t (if_limbo s)
  wait_if_limbo Active w said = absurd cc
  wait_if_limbo Limbo w said = absurd cc
  wait_if_limbo Dead w said = absurd cc
  wait_if_limbo Committed w said = absurd cc

  wait_fine : IsOpenWait k t Fine
  wait_fine w said = absurd cc

  wait_writable : (table : List ℕ) (next : Answer) → IsOpenWait k t next
      → IsOpenWait k t (if_writable k t table next)
  wait_writable table next more =
      wait_choice (k.mode t).read_only (No ReadOnly) _ (λ w said. absurd cc)
      (wait_choice (has_table k t table) next (No NoTable) more (λ w said. absurd cc))

  wait_insert : (table : List ℕ) (key : Value) → IsOpenWait k t (answer_insert k t table key)
  wait_insert table key =
      wait_writable table _ (wait_past (table_obstacle k t table) _
      (wait_choice (has_row k t table key) (No DuplicateKey) _ (λ w said. absurd cc)
      (wait_past (obstacle k t table key) Fine wait_fine)))

  wait_give : (table : List ℕ) (key : Value) → IsOpenWait k t (answer_give k t table key)
  wait_give table key =
      wait_writable table _ (wait_past (table_obstacle k t table) _
      (wait_choice (has_row k t table key) _ (No NoRow)
      (wait_past (obstacle k t table key) Fine wait_fine) (λ w said. absurd cc)))

  wait_claim : (table : List ℕ) → IsOpenWait k t (answer_claim k t table)
  wait_claim table =
      wait_writable table _ (wait_past (claim_obstacle k t table) Fine wait_fine)

-- the same of the transaction whose event it is; where there is none, nobody waits
abbrev IsOpenWaitOf : Told → Option ℕ → Answer → Type 0
IsOpenWaitOf k None said = (w : TxNo) → said ≡ No (Waits w) → ⊥
IsOpenWaitOf k (Some t) said = IsOpenWait k t said

begin_waits_not : (b : Bool) (x : TxNo) (w : TxNo)
    → cond b (No TransactionLimit) (Tx x) ≡ No (Waits w) → ⊥
begin_waits_not true x w said = cc
begin_waits_not false x w said = cc

wait_find : (k : Told) (t : ℕ) (b : Bool) (rows : List (List Value))
    → IsOpenWait k t (cond b (Rows rows) (No NoTable))
wait_find k t true rows w said = absurd cc
wait_find k t false rows w said = absurd cc

answer_waits : (o : Opening) (h : Entries) (event : Event)
    → IsOpenWaitOf (told o h) (transaction_of event) (answer o h event)
answer_waits o h (Begin session mode) =
    begin_waits_not (next_number o h == o.limit.0) (number (next_number o h))
answer_waits o h (Decide u commit) = wait_if_limbo (told o h) u.0 (state_of o h u.0)
answer_waits o h (Find u table test) =
    wait_if_active (told o h) u.0 (state_of o h u.0) (answer_find (told o h) u.0 table test)
    (wait_find (told o h) u.0 (has_table (told o h) u.0 table) _)
answer_waits o h (Claim u table) =
    wait_if_active (told o h) u.0 (state_of o h u.0) _ (wait_claim (told o h) u.0 table)
answer_waits o h (Insert u table row) =
    wait_if_active (told o h) u.0 (state_of o h u.0) _
    (wait_insert (told o h) u.0 table (key_in (catalog_of (told o h) u.0) table row))
answer_waits o h (Change u table key row) =
    wait_if_active (told o h) u.0 (state_of o h u.0) _ (wait_give (told o h) u.0 table key)
answer_waits o h (Erase u table key) =
    wait_if_active (told o h) u.0 (state_of o h u.0) _ (wait_give (told o h) u.0 table key)
answer_waits o h (Look u) =
    wait_if_active (told o h) u.0 (state_of o h u.0) Fine (wait_fine (told o h) u.0)
answer_waits o h (Mark u) =
    wait_if_active (told o h) u.0 (state_of o h u.0) Fine (wait_fine (told o h) u.0)
answer_waits o h (UndoMark u) =
    wait_if_active (told o h) u.0 (state_of o h u.0) Fine (wait_fine (told o h) u.0)
answer_waits o h (Savepoint u name) =
    wait_if_active (told o h) u.0 (state_of o h u.0) Fine (wait_fine (told o h) u.0)
answer_waits o h (BackTo u name) =
    wait_if_active (told o h) u.0 (state_of o h u.0) Fine (wait_fine (told o h) u.0)
answer_waits o h (Prepare u) =
    wait_if_active (told o h) u.0 (state_of o h u.0) Fine (wait_fine (told o h) u.0)
answer_waits o h (Commit u) =
    wait_if_active (told o h) u.0 (state_of o h u.0) Fine (wait_fine (told o h) u.0)
answer_waits o h (Rollback u) =
    wait_if_active (told o h) u.0 (state_of o h u.0) Fine (wait_fine (told o h) u.0)

waited_is : (said : Answer) (v : ℕ) → waited_on said ≡ Some v → said ≡ No (Waits (number v))
waited_is (No (Waits on)) v is =
    let same : on.0 ≡ v = cc in ap (λ n. No (Waits (number n))) same
waited_is (No refusal) v is = absurd cc
waited_is Fine v is = absurd cc
waited_is (Tx t) v is = absurd cc
waited_is (Rows rows) v is = absurd cc

-- a lawful entry by which t waits on v
pub entry_waits : (o : Opening) (h : Entries) (e : Entry) → IsLawful o h e → (t v : ℕ)
    → transaction_of e.event ≡ Some t → waited_on e.answer ≡ Some v
    → (is_active (state_of o h v) ≡ true) × (closes (told o h) t v ≡ false)
entry_waits o h e lawful t v is_of_t waits = at lawful
  where
    at : (e.answer ≡ answer o h e.event) ⊎ (is_outer e.answer ≡ true)
        → (is_active (state_of o h v) ≡ true) × (closes (told o h) t v ≡ false)
    at (inl is) =
        let P : Option ℕ → Type 0 = λ it. IsOpenWaitOf (told o h) it (answer o h e.event) in
        let told_so : IsOpenWait (told o h) t (answer o h e.event) =
        subst P is_of_t (answer_waits o h e.event) in
        told_so (number v) (sym is ∙ waited_is e.answer v waits)
    at (inr outer) =
        absurd (false≢true (sym (ap is_outer (waited_is e.answer v waits)) ∙ outer))
