-- What an entry of a legal history may do.
use Rattle.std.specs.Prelude.{◌≡◌, ◌⊎◌, ℕ, ◌==◌, ◌&&◌, ◌||◌, not, Bool, true, false, List, [], ◌∷◌, Option, Some, None, cond, refl}
use Rattle.std.proofs.Common.{sym, ◌∙◌, ap, inl, inr}
use Rattle.std.proofs.lemmas.Bool.{false≢true}
use Rattle.mg_base.specs.declared.transaction.TxState.{TxState}
use Rattle.mg_base.specs.declared.transaction.TxState.TheVariants.{Active, Limbo, Dead, Committed}
use Rattle.mg_value.specs.declared.value.Value.{Value}
use Rattle.mg_model.specs.declared.answer.Answer.{Answer}
use Rattle.mg_model.specs.declared.answer.Answer.TheVariants.{Fine, Tx, Rows, No}
use Rattle.mg_model.specs.declared.refusal.Refusal.{Refusal}
use Rattle.mg_model.specs.declared.refusal.Refusal.TheVariants.{TransactionLimit, DuplicateKey, NoRow}
use Rattle.mg_model.specs.declared.event.Event.{Event}
use Rattle.mg_model.specs.declared.event.Event.TheVariants.{Begin, Look, Find, Claim, Insert, Change, Erase, Mark, UndoMark, Savepoint, BackTo, Prepare, Commit, Rollback, Decide}
use Rattle.mg_model.specs.declared.change.Deed.{Deed}
use Rattle.mg_model.specs.declared.change.Step.{Step}
use Rattle.mg_model.specs.declared.opening.Opening.{Opening}
use Rattle.mg_model.specs.Changes.{same_name}
use Rattle.mg_model.specs.Catalog.{catalog_name, table_key, key_in}
use Rattle.mg_model.specs.History.{Entry, Entries, Effect, Begins, Looks, Makes, Gives, Marks, Saves, TakesBack, Ends, Nothing, decided, effect_with, effect_of}
use Rattle.mg_model.specs.Machine.{next_number, state_of}
use Rattle.mg_model.specs.Answers.{Told, told, is_committed, is_open, is_active, can_hinder, changes_key, newest_by, obstacle, table_obstacle, verdict_by, closes, past, if_active, if_limbo, catalog_of, has_table, has_row, if_writable, answer_insert, answer_give, answer, number}
use Rattle.mg_model.specs.Legal.{is_outer, IsLawful}

-- what an entry may do after a legal history: the number that it draws is the next one, a
-- transaction that does something is active, nothing hinders what it writes, and one that comes to
-- its end was active or in limbo
abbrev pub IsAllowed : Opening → Entries → Effect → Type 0
IsAllowed o h (Begins t mode) = t ≡ next_number o h
IsAllowed o h (Looks t) = state_of o h t ≡ Active
IsAllowed o h (Makes t table row) = (state_of o h t ≡ Active)
    × (obstacle (told o h) t table (key_in (catalog_of (told o h) t) table row) ≡ None)
IsAllowed o h (Gives t table key row) = (state_of o h t ≡ Active)
    × (obstacle (told o h) t table key ≡ None)
IsAllowed o h (Marks t) = state_of o h t ≡ Active
IsAllowed o h (Saves t name) = state_of o h t ≡ Active
IsAllowed o h (TakesBack t point) = state_of o h t ≡ Active
IsAllowed o h (Ends t end) = (is_open (state_of o h t) ≡ true) × (is_active end ≡ false)
IsAllowed o h Nothing = Unit {0}

-- ---- what an answer that is no refusal tells

pub active_from_fine : (s : TxState) (next : Answer) → Fine ≡ if_active s next
    → (s ≡ Active) × (Fine ≡ next)
active_from_fine Active next is = (refl, is)
active_from_fine Limbo next is = absurd cc
active_from_fine Dead next is = absurd cc
active_from_fine Committed next is = absurd cc

open_from_active : (s : TxState) → s ≡ Active → is_open s ≡ true
open_from_active s is = ap is_open is

open_from_fine : (s : TxState) → Fine ≡ if_limbo s → is_open s ≡ true
open_from_fine Active is = refl
open_from_fine Limbo is = refl
open_from_fine Dead is = absurd cc
open_from_fine Committed is = absurd cc

decided_ends : (commit : Bool) → is_active (decided commit) ≡ false
decided_ends true = refl
decided_ends false = refl

pub fine_by_true : (b : Bool) (r : Refusal) (next : Answer) → Fine ≡ cond b (No r) next → Fine ≡ next
fine_by_true true r next is = absurd cc
fine_by_true false r next is = is

pub fine_by_false : (b : Bool) (r : Refusal) (next : Answer) → Fine ≡ cond b next (No r) → Fine ≡ next
fine_by_false true r next is = is
fine_by_false false r next is = absurd cc

dead_from_fine : (s : TxState) (waits closing : Bool) (u : ℕ)
    → Fine ≡ verdict_by s waits closing u → s ≡ Dead
dead_from_fine Active true true u is = absurd cc
dead_from_fine Active true false u is = absurd cc
dead_from_fine Active false closing u is = absurd cc
dead_from_fine Limbo waits closing u is = absurd cc
dead_from_fine Dead waits closing u is = refl
dead_from_fine Committed waits closing u is = absurd cc

-- who is found passes the test
pub found_passes : (who : ℕ → Bool) (what : Deed → Bool) (all : List Step) (u : ℕ)
    → newest_by who what all ≡ Some u → who u ≡ true
found_passes who what [] u is = absurd cc
found_passes who what (s ∷ all) u is =
    at (who s.by.0) refl (what s.deed) (found_passes who what all u) is
  where
    at : (a : Bool) → who s.by.0 ≡ a → (b : Bool)
        → (newest_by who what all ≡ Some u → who u ≡ true)
        → cond (a && b) (Some s.by.0) (newest_by who what all) ≡ Some u → who u ≡ true
    at true passes true more is = let same : s.by.0 ≡ u = cc in ap who (sym same) ∙ passes
    at true passes false more is = more is
    at false passes b more is = more is

dead_hinders_not : (apart saw : Bool) (s : TxState) → s ≡ Dead
    → (apart && (is_open s || (is_committed s && saw))) ≡ true → ⊥
dead_hinders_not true saw Active dead hinders = absurd cc
dead_hinders_not true saw Limbo dead hinders = absurd cc
dead_hinders_not true saw Dead dead hinders = false≢true hinders
dead_hinders_not true saw Committed dead hinders = absurd cc
dead_hinders_not false saw s dead hinders = false≢true hinders

pub none_from_fine : (k : Told) (t : ℕ) (found : Option ℕ) (next : Answer)
    → ((u : ℕ) → found ≡ Some u → can_hinder k t u ≡ true) → Fine ≡ past k t found next
    → (found ≡ None) × (Fine ≡ next)
none_from_fine k t None next hinders is = (refl, is)
none_from_fine k t (Some u) next hinders is =
    absurd (dead_hinders_not (not (u == t)) (not (k.saw t u)) (k.state u)
    (dead_from_fine (k.state u) (k.mode t).wait (closes k t u) u is) (hinders u refl))

pub obstacle_hinders : (k : Told) (t : ℕ) (table : List ℕ) (key : Value) (u : ℕ)
    → obstacle k t table key ≡ Some u → can_hinder k t u ≡ true
obstacle_hinders k t table key u is =
    found_passes (can_hinder k t) (changes_key table key) k.steps u is

pub table_obstacle_hinders : (k : Told) (t : ℕ) (table : List ℕ) (u : ℕ)
    → table_obstacle k t table ≡ Some u → can_hinder k t u ≡ true
table_obstacle_hinders k t table u is = at (same_name table catalog_name) is
  where
    at : (b : Bool) → cond b None (obstacle k t catalog_name (table_key table)) ≡ Some u
        → can_hinder k t u ≡ true
    at true is = absurd cc
    at false is = obstacle_hinders k t catalog_name (table_key table) u is

past_table_from_fine : (k : Told) (t : ℕ) (table : List ℕ) (next : Answer)
    → Fine ≡ if_writable k t table (past k t (table_obstacle k t table) next) → Fine ≡ next
past_table_from_fine k t table next is =
    (none_from_fine k t (table_obstacle k t table) next (table_obstacle_hinders k t table)
    (fine_by_false (has_table k t table) _ _ (fine_by_true (k.mode t).read_only _ _ is))).1

insert_from_fine : (k : Told) (t : ℕ) (table : List ℕ) (key : Value)
    → Fine ≡ answer_insert k t table key → obstacle k t table key ≡ None
insert_from_fine k t table key is =
    (none_from_fine k t (obstacle k t table key) Fine (obstacle_hinders k t table key)
    (fine_by_true (has_row k t table key) DuplicateKey _ (past_table_from_fine k t table _ is))).0

give_from_fine : (k : Told) (t : ℕ) (table : List ℕ) (key : Value)
    → Fine ≡ answer_give k t table key → obstacle k t table key ≡ None
give_from_fine k t table key is =
    (none_from_fine k t (obstacle k t table key) Fine (obstacle_hinders k t table key)
    (fine_by_false (has_row k t table key) NoRow _ (past_table_from_fine k t table _ is))).0

begun_from_tx : (next limit : ℕ) (u : ℕ)
    → Tx (number u) ≡ cond (next == limit) (No TransactionLimit) (Tx (number next)) → u ≡ next
begun_from_tx next limit u is = at (next == limit) is
  where
    at : (b : Bool) → Tx (number u) ≡ cond b (No TransactionLimit) (Tx (number next)) → u ≡ next
    at true is = absurd cc
    at false is = let same : number u ≡ number next = cc in ap (λ n. n.0) same

-- ---- a lawful entry does what is allowed

allowed_fine : (o : Opening) (h : Entries) (event : Event) → Fine ≡ answer o h event
    → IsAllowed o h (effect_with event Fine)
allowed_fine o h (Begin session mode) is = tt
allowed_fine o h (Find t table test) is = tt
allowed_fine o h (Claim t table) is = tt
allowed_fine o h (Look t) is = (active_from_fine (state_of o h t.0) Fine is).0
allowed_fine o h (Mark t) is = (active_from_fine (state_of o h t.0) Fine is).0
allowed_fine o h (UndoMark t) is = (active_from_fine (state_of o h t.0) Fine is).0
allowed_fine o h (Savepoint t name) is = (active_from_fine (state_of o h t.0) Fine is).0
allowed_fine o h (BackTo t name) is = (active_from_fine (state_of o h t.0) Fine is).0
allowed_fine o h (Insert t table row) is =
    let parts = active_from_fine (state_of o h t.0)
    (answer_insert (told o h) t.0 table (key_in (catalog_of (told o h) t.0) table row)) is in (
      parts.0,
      insert_from_fine (told o h) t.0 table
          (key_in (catalog_of (told o h) t.0) table row) parts.1,
    )
allowed_fine o h (Change t table key row) is =
    let parts = active_from_fine (state_of o h t.0) (answer_give (told o h) t.0 table key) is in
    (parts.0, give_from_fine (told o h) t.0 table key parts.1)
allowed_fine o h (Erase t table key) is =
    let parts = active_from_fine (state_of o h t.0) (answer_give (told o h) t.0 table key) is in
    (parts.0, give_from_fine (told o h) t.0 table key parts.1)
allowed_fine o h (Prepare t) is =
    (open_from_active (state_of o h t.0) (active_from_fine (state_of o h t.0) Fine is).0, refl)
allowed_fine o h (Commit t) is =
    (open_from_active (state_of o h t.0) (active_from_fine (state_of o h t.0) Fine is).0, refl)
allowed_fine o h (Rollback t) is =
    (open_from_active (state_of o h t.0) (active_from_fine (state_of o h t.0) Fine is).0, refl)
allowed_fine o h (Decide t commit) is = (open_from_fine (state_of o h t.0) is, decided_ends commit)

allowed_tx : (o : Opening) (h : Entries) (event : Event) (u : ℕ)
    → Tx (number u) ≡ answer o h event → IsAllowed o h (effect_with event (Tx (number u)))
allowed_tx o h (Begin session mode) u is = begun_from_tx (next_number o h) o.limit.0 u is
allowed_tx o h event u is = tt

pub lawful_is_allowed : (o : Opening) (h : Entries) (e : Entry) → IsLawful o h e
    → IsAllowed o h (effect_of e)
lawful_is_allowed o h e lawful = at e.answer lawful
  where
    at : (said : Answer) → (said ≡ answer o h e.event) ⊎ (is_outer said ≡ true)
        → IsAllowed o h (effect_with e.event said)
    at Fine (inl is) = allowed_fine o h e.event is
    at Fine (inr outer) = absurd (false≢true outer)
    at (Tx u) (inl is) = allowed_tx o h e.event u.0 is
    at (Tx u) (inr outer) = absurd (false≢true outer)
    at (Rows rows) lawful = tt
    at (No refusal) lawful = tt
