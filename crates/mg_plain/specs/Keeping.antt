-- What the plain machine keeps, what that tells, and which history it stands for.
use Rattle.std.specs.Prelude.{◌≡◌, ℕ, ◌+◌, ◌-◌, ◌<◌, ◌≤◌, ◌&&◌, ◌==◌, nat_le, Bool, true, false, List, [], ◌∷◌, length, drop, ◌++◌, Option, Some, None, slice_index_or, slice_set, if◌then◌else◌}
use Rattle.mg_base.specs.declared.numbers.TxNo.{TxNo}
use Rattle.mg_base.specs.declared.transaction.TxState.{TxState}
use Rattle.mg_base.specs.declared.transaction.TxState.TheVariants.{Active, Limbo, Dead, Committed}
use Rattle.mg_model.specs.declared.change.Change.{Change}
use Rattle.mg_model.specs.declared.change.Step.{Step}
use Rattle.mg_model.specs.declared.answer.Answer.{Answer}
use Rattle.mg_model.specs.declared.answer.Answer.TheVariants.{Fine, Tx, Rows, No}
use Rattle.mg_model.specs.declared.refusal.Refusal.TheVariants.{Waits}
use Rattle.mg_model.specs.declared.change.Deed.{Deed}
use Rattle.mg_model.specs.declared.change.Deed.TheVariants.{Marked, Saved}
use Rattle.mg_model.specs.declared.event.Event.{Event}
use Rattle.mg_model.specs.declared.event.Mode.{Mode}
use Rattle.mg_plain.specs.declared.known.BegunBy.{BegunBy}
use Rattle.mg_plain.specs.declared.known.Known.{Known}
use Rattle.mg_model.specs.declared.opening.Opening.{Opening}
use Rattle.mg_model.specs.History.{Entries, Effect, Begins, Looks, Makes, Gives, Marks, Saves, TakesBack, Ends, Nothing, transaction_of, effect_with}
use Rattle.mg_model.specs.Machine.{next_number, mode_of, state_of, last_wait, steps, database, base, changes_by, cut_at_base, step, changed, taken_back}
use Rattle.mg_model.specs.Answers.{Told, is_committed, catalog_of}
use Rattle.mg_model.specs.Catalog.{key_in}

-- what the plain machine keeps
pub record Keeping : Type 0 where
  -- the number that can't be drawn
  pub limit : ℕ
  -- how many changes the opening's database has
  pub opened : ℕ
  -- what is known of each transaction by its number, from 0 up to the one below the next
  pub known : List Known
  -- the transactions that were committed since the opening, in that order
  pub committed : List TxNo
  -- the steps that stand, and the changes of the database, the newest first
  pub steps : List Step
  pub database : List Change
  -- the session that has begun a number, or was to begin it: what was noted last counts
  pub begun_by : List BegunBy

-- the session of a number, the first one that is noted of it
abbrev pub session_in : List BegunBy → ℕ → Option ℕ
session_in [] t = None
session_in (noted ∷ more) t = if noted.number == t then Some noted.session else session_in more t

-- what is known of a number that was not drawn
abbrev pub unknown : ℕ → Known
unknown opened = record {
  state = Dead;
  mode = record { read_only = true; wait = false; snapshot = true };
  base = opened;
  saw = 0;
  place = 0;
  waits = None;
}

-- what is known of a transaction of the opening
abbrev pub known_at_opening : ℕ → TxState → Known
known_at_opening opened state = record (unknown opened) { state = state }

-- the base of each number lies within a database of so many changes
abbrev pub LieWithin : ℕ → ℕ → List Known → Type 0
LieWithin count opened known = (t : ℕ) → (slice_index_or known t (unknown opened)).base ≤ count

-- what is known of a transaction
abbrev pub known_of : Keeping → ℕ → Known
known_of k t = slice_index_or k.known t (unknown k.opened)

abbrev pub number_in : Option TxNo → Option ℕ
number_in None = None
number_in (Some t) = Some t.0

-- the database when a transaction took its base: the older part of the changes
abbrev pub base_in : Keeping → ℕ → List Change
base_in k t = drop (length k.database - (known_of k t).base) k.database

-- whether a transaction was committed when another one took its base
abbrev pub saw_in : Keeping → ℕ → ℕ → Bool
saw_in k t u = is_committed (known_of k u).state && nat_le (known_of k u).place (known_of k t).saw

-- what is kept, as what a history tells
abbrev pub told_in : Keeping → Told
told_in k = record {
  next = length k.known;
  limit = k.limit;
  mode = λ t. (known_of k t).mode;
  state = λ t. (known_of k t).state;
  saw = saw_in k;
  last_wait = λ t. number_in (known_of k t).waits;
  steps = k.steps;
  view = λ t. changes_by t k.steps ++ base_in k t;
}

-- What is kept stands for a history.
pub record StandsFor (o : Opening) (h : Entries) (k : Keeping) : Type 0 where
  pub limit : k.limit ≡ o.limit.0
  pub next : length k.known ≡ next_number o h
  pub mode : (t : ℕ) → (known_of k t).mode ≡ mode_of h t
  pub state : (t : ℕ) → (known_of k t).state ≡ state_of o h t
  pub saw : (t u : ℕ) → saw_in k t u ≡ is_committed (state_of o (cut_at_base h t) u)
  pub last_wait : (t : ℕ) → number_in (known_of k t).waits ≡ last_wait h t
  pub steps_are : k.steps ≡ steps o h
  pub database_is : k.database ≡ database o h
  pub base : (t : ℕ) → base_in k t ≡ base o h t
  -- bases, places and sights are of what has been
  pub opened : k.opened ≤ length k.database
  pub bases : LieWithin (length k.database) k.opened k.known
  pub sights : (t : ℕ) → (known_of k t).saw ≤ length k.committed
  pub places : (t : ℕ) → (known_of k t).place ≤ length k.committed
  pub first : 0 < length k.known

-- ---- what is kept after an entry

-- what is known of one transaction becomes this
abbrev pub with_known : Keeping → ℕ → Known → Keeping
with_known k t known = record k { known = slice_set k.known t known }

abbrev pub noted_in : Option ℕ → Option TxNo → Keeping → Keeping
noted_in None on k = k
noted_in (Some t) on k = with_known k t (record (known_of k t) { waits = on })

-- what a transaction waits on after an answer
abbrev pub waits_by : Answer → Option TxNo
waits_by Fine = None
waits_by (Tx t) = None
waits_by (Rows rows) = None
waits_by (No (Waits on)) = Some on
waits_by (No refusal) = None

-- a session is to begin the next number
abbrev pub with_session : ℕ → Keeping → Keeping
with_session session k = record k {
  begun_by = record { number = length k.known; session = session } ∷ k.begun_by;
}

-- no transaction is forgotten, and each stays that of its session
pub record Grows (k new : Keeping) : Type 0 where
  pub known : length k.known ≤ length new.known
  pub begun_by : new.begun_by ≡ k.begun_by

-- a transaction takes its base
abbrev pub rebased : ℕ → Keeping → Keeping
rebased t k = with_known k t (record (known_of k t) { base = length k.database; saw = length k.committed })

-- a statement of it begins: under READ COMMITTED it takes a new base
abbrev pub looked : ℕ → Keeping → Keeping
looked t k = if (known_of k t).mode.snapshot then k else rebased t k

-- a step more stands
abbrev pub stepped : ℕ → Deed → Keeping → Keeping
stepped t deed k = record k { steps = step t deed ∷ k.steps }

-- a transaction comes to limbo, or to its end
abbrev pub ended : ℕ → TxState → Keeping → Keeping
ended t Committed k = record k {
  known = slice_set k.known t (record (known_of k t) { state = Committed; place = length k.committed + 1 });
  committed = k.committed ++ record { 0 = t } ∷ [];
  database = changes_by t k.steps ++ k.database;
}
ended t Active k = with_known k t (record (known_of k t) { state = Active })
ended t Limbo k = with_known k t (record (known_of k t) { state = Limbo })
ended t Dead k = with_known k t (record (known_of k t) { state = Dead })

-- a transaction more is known, which has its base now
abbrev pub begun : Mode → Keeping → Keeping
begun mode k = record k {
  known = k.known ++ record {
    state = Active;
    mode = mode;
    base = length k.database;
    saw = length k.committed;
    place = 0;
    waits = None;
  } ∷ [];
}

-- what is kept after an effect
abbrev pub kept_by : Effect → Keeping → Keeping
kept_by (Begins t mode) k = begun mode k
kept_by (Looks t) k = looked t k
kept_by (Makes t table row) k =
    stepped t (changed table (key_in (catalog_of (told_in k) t) table row) (Some row)) k
kept_by (Gives t table key row) k = stepped t (changed table key row) k
kept_by (Marks t) k = stepped t Marked k
kept_by (Saves t name) k = stepped t (Saved name) k
kept_by (TakesBack t point) k = record k { steps = taken_back t point k.steps }
kept_by (Ends t end) k = ended t end k
kept_by Nothing k = k

-- what is kept after an event with its answer
abbrev pub kept_after : Event → Answer → Keeping → Keeping
kept_after event answer k =
    noted_in (transaction_of event) (waits_by answer) (kept_by (effect_with event answer) k)
