-- Legal histories, and the events of a history that outlast a crash.
use Rattle.std.specs.Prelude.{◌≡◌, ◌≢◌, ◌⊎◌, ℕ, ◌+◌, ◌≤◌, ◌&&◌, nat_lt, Bool, true, false, List, [], ◌∷◌, if◌then◌else◌}
use Rattle.mg_base.specs.declared.transaction.TxState.{TxState}
use Rattle.mg_base.specs.declared.transaction.TxState.TheVariants.{Active, Limbo, Dead, Committed}
use Rattle.mg_value.specs.declared.value.Value.{Value}
use Rattle.mg_model.specs.declared.answer.Answer.{Answer}
use Rattle.mg_model.specs.declared.answer.Answer.TheVariants.{Fine, Tx, Rows, No}
use Rattle.mg_model.specs.declared.refusal.Refusal.TheVariants.{DatabaseFull, DiskRead, DiskWrite, Offline, Damaged, Memory}
use Rattle.mg_model.specs.declared.event.Event.{Event}
use Rattle.mg_model.specs.declared.event.Event.TheVariants.{Begin, Look, Find, Claim, Insert, Change, Erase, Mark, UndoMark, Savepoint, BackTo, Prepare, Commit, Rollback, Decide}
use Rattle.mg_model.specs.declared.change.Change.{Change as AnyChange}
use Rattle.mg_model.specs.declared.opening.Opening.{Opening}
use Rattle.mg_model.specs.History.{Entry, Entries, entry}
use Rattle.mg_model.specs.Changes.{has_change}
use Rattle.mg_model.specs.Machine.{opening_state, state_of, deeds_by, steps, database, own}
use Rattle.mg_model.specs.Answers.{answer}

-- an answer from outside the machine: want of pages or memory, a fault of the disk, or damage
abbrev pub is_outer : Answer → Bool
is_outer (No (DatabaseFull limit)) = true
is_outer (No (DiskRead faults)) = true
is_outer (No (DiskWrite faults)) = true
is_outer (No (Offline faults)) = true
is_outer (No (Damaged page field found wanted)) = true
is_outer (No Memory) = true
is_outer (No refusal) = false
is_outer Fine = false
is_outer (Tx t) = false
is_outer (Rows rows) = false

-- A history may begin so: numbers are drawn from 1 on, changes are listed of transactions in limbo
-- alone, and those of one key are of one transaction. It is what laws of histories take; an opening
-- that a database gives is whole (`IsOpening`).
pub record MayBegin (o : Opening) : Type 0 where
  pub first : 1 ≤ o.next.0
  pub in_limbo : (t : ℕ) → opening_state o t ≢ Limbo → deeds_by t (steps o []) ≡ []
  pub one_writer : (t u : ℕ) (table : List ℕ) (key : Value)
      → has_change (own o [] t) table key ≡ true → has_change (own o [] u) table key ≡ true
      → t ≡ u

-- two answers are the same; their rows are by `same_row`
abbrev pub same_answer : Answer → Answer → Type 0
same_answer a b = a ≡ b

-- an entry is lawful: its answer is the machine's on what was before, or comes from outside
abbrev pub IsLawful : Opening → Entries → Entry → Type 0
IsLawful o h e = same_answer e.answer (answer o h e.event) ⊎ (is_outer e.answer ≡ true)

-- a history is legal: each of its entries is lawful
abbrev pub IsLegal : Opening → Entries → Type 0
IsLegal o [] = Unit {0}
IsLegal o (e ∷ h) = IsLawful o h e × IsLegal o h

-- an event that outlasts a crash, once it took effect
abbrev pub is_lasting : Event → Bool
is_lasting (Prepare t) = true
is_lasting (Commit t) = true
is_lasting (Decide t commit) = true
is_lasting (Begin session mode) = false
is_lasting (Look t) = false
is_lasting (Find t table test) = false
is_lasting (Claim t table) = false
is_lasting (Insert t table row) = false
is_lasting (Change t table key row) = false
is_lasting (Erase t table key) = false
is_lasting (Mark t) = false
is_lasting (UndoMark t) = false
is_lasting (Savepoint t name) = false
is_lasting (BackTo t name) = false
is_lasting (Rollback t) = false

abbrev pub is_fine : Answer → Bool
is_fine Fine = true
is_fine (Tx t) = false
is_fine (Rows rows) = false
is_fine (No refusal) = false

abbrev pub is_durable : Entry → Bool
is_durable e = is_lasting e.event && is_fine e.answer

-- how many durable events a history has
abbrev pub durable_count : Entries → ℕ
durable_count [] = 0
durable_count (e ∷ h) = if is_durable e then durable_count h + 1 else durable_count h

-- the history up to its k-th durable event, or its last one where it has fewer; before the first
-- one there is the opening
abbrev pub after_durable : Entries → ℕ → Entries
after_durable [] k = []
after_durable (e ∷ h) k =
    if is_durable e && nat_lt (durable_count h) k then e ∷ h else after_durable h k

-- a transaction is in limbo
abbrev pub is_limbo : TxState → Bool
is_limbo Active = false
is_limbo Limbo = true
is_limbo Dead = false
is_limbo Committed = false

-- what outlasts a crash after the k-th durable event: the database, which transactions are in
-- limbo, and their changes
abbrev pub durable_database : Opening → Entries → ℕ → List AnyChange
durable_database o h k = database o (after_durable h k)

abbrev pub durable_limbo : Opening → Entries → ℕ → ℕ → Bool
durable_limbo o h k t = is_limbo (state_of o (after_durable h k) t)

abbrev pub durable_changes : Opening → Entries → ℕ → ℕ → List AnyChange
durable_changes o h k t = own o (after_durable h k) t

-- a history with the durable event that is under way, or whose call ended in a failed page write,
-- taken as effective
abbrev pub with_asked : Entries → Event → Entries
with_asked h event = entry event Fine ∷ h
