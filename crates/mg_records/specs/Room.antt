-- How many of the free pages calls may take, and that they are refused for want of pages only where fewer are free.
use Rattle.std.specs.Prelude.{◌≡◌, true, ℕ, ◌+◌, ◌*◌, List, length, Option, Some, if◌then◌else◌}
use Rattle.mg_model.specs.declared.change.Point.{Point}
use Rattle.mg_model.specs.declared.change.Step.{Step}
use Rattle.mg_model.specs.declared.opening.Opening.{Opening}
use Rattle.mg_model.specs.declared.refusal.Refusal.{Refusal}
use Rattle.mg_model.specs.declared.refusal.Refusal.TheVariants.{DatabaseFull}
use Rattle.mg_model.specs.History.{Entries}
use Rattle.mg_model.specs.Machine.{deeds_by, has_point, steps}
use Rattle.mg_undo.specs.Machine.{changes_since, first_of}
use Rattle.mg_records.specs.Meaning.{Means}

-- ---- what a call may take

-- At most so many of the free pages are taken; and a call that is refused for want of pages had fewer.
pub record TakesAtMost {R P : Type 0} (m : Means R P) (old new : R) (refusal : Option Refusal) (most : ℕ)
    : Type 0 where
  pub left : (count : ℕ) → m.has_free old (count + most) → m.has_free new count
  pub enough : m.has_free old most → (limit : ℕ) → refusal ≡ Some (DatabaseFull limit) → ⊥

-- so it is where the keeper stood for a history and tells what a crash may leave
abbrev pub TakesFew : {R P : Type 0} → Means R P → R → R → Option Refusal → ℕ → Type 0
TakesFew m old new refusal most = (o : Opening) (h : Entries) → m.stands old o h → m.tells old ≡ true
    → TakesAtMost m old new refusal most

-- ---- how many that is

-- a transaction begins
abbrev pub pages_of_begin : ℕ
pages_of_begin = 2

-- no table has an index yet
abbrev pub most_indexes : ℕ
most_indexes = 0

-- a row is written, and an entry in each index of its table
abbrev pub pages_of_row : ℕ
pages_of_row = 5 + 20 * most_indexes

-- a table with so many columns is made; the tables of the catalog have no index

abbrev pub pages_of_table : ℕ → ℕ
pages_of_table columns = 4 + 5 * (columns + 1)

-- how many records are taken back with a transaction to a point: those that it has changed since; none, where there is
-- no such point
abbrev pub records_back : ℕ → Point → List Step → ℕ
records_back t point steps =
    if has_point t point steps then length (first_of (changes_since point (deeds_by t steps))) else 0

-- a row is written for each record that is taken back
abbrev pub TakesFewBack : {R P : Type 0} → Means R P → R → R → Option Refusal → ℕ → Point → Type 0
TakesFewBack m old new refusal t point = (o : Opening) (h : Entries) → m.stands old o h → m.tells old ≡ true
    → TakesAtMost m old new refusal (pages_of_row * records_back t point (steps o h))
