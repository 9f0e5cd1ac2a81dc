-- How many of the free pages the entries of a history may take, and what a keeper owes that was promised so many.
use Rattle.std.specs.Prelude.{◌≡◌, ◌≤◌, ◌<◌, ℕ, ◌+◌, ◌*◌, ◌==◌, Bool, true, false, [], ◌∷◌, slice_index_or, if◌then◌else◌}
use Rattle.mg_base.specs.Fields.{byte}
use Rattle.mg_value.specs.declared.shape.TheConstants.{MOST_COLUMNS}
use Rattle.mg_value.specs.declared.value.Value.TheVariants.{Null}
use Rattle.mg_model.specs.declared.answer.Answer.{Answer}
use Rattle.mg_model.specs.declared.answer.Answer.TheVariants.{No}
use Rattle.mg_model.specs.declared.change.Point.TheVariants.{LastMark, SavepointNamed}
use Rattle.mg_model.specs.declared.event.Event.{Event}
use Rattle.mg_model.specs.declared.event.Event.TheVariants as events
use Rattle.mg_model.specs.declared.opening.Opening.{Opening}
use Rattle.mg_model.specs.declared.refusal.Refusal.TheVariants.{DatabaseFull}
use Rattle.mg_model.specs.Catalog.{catalog_name, count_said, text_of}
use Rattle.mg_model.specs.Changes.{Cells, same_name}
use Rattle.mg_model.specs.History.{Entries}
use Rattle.mg_model.specs.Legal.{is_fine}
use Rattle.mg_model.specs.Machine.{steps}
use Rattle.mg_records.specs.Meaning.{Means}
use Rattle.mg_records.specs.Room.{pages_of_begin, pages_of_row, pages_of_table, records_back}

-- ---- how many that is

-- a row of the catalog is a table's: its key begins with T
abbrev pub is_table_row : Cells → Bool
is_table_row row = byte (text_of (slice_index_or row 0 Null)) 0 == 84

-- The row of the catalog is one of a table that is made: the table's own row takes four pages more than another one.
-- Where it is refused the table is, with all its columns.
abbrev pub pages_of_catalog : Bool → Cells → ℕ
pages_of_catalog true row = if is_table_row row then pages_of_table 0 else pages_of_row
pages_of_catalog false row = pages_of_table (if is_table_row row then count_said row else MOST_COLUMNS)

-- what an event may take, which was answered so
abbrev pub pages_of : Opening → Entries → Event → Answer → ℕ
pages_of o h (events.Begin session mode) answer = pages_of_begin
pages_of o h (events.Look t) answer = 0
pages_of o h (events.Find t table filter) answer = 0
pages_of o h (events.Claim t table) answer = 0
pages_of o h (events.Insert t table row) answer =
    if same_name table catalog_name then pages_of_catalog (is_fine answer) row else pages_of_row
pages_of o h (events.Change t table key row) answer = pages_of_row
pages_of o h (events.Erase t table key) answer = pages_of_row
pages_of o h (events.Mark t) answer = 0
pages_of o h (events.UndoMark t) answer = pages_of_row * records_back t.0 LastMark (steps o h)
pages_of o h (events.Savepoint t name) answer = 0
pages_of o h (events.BackTo t name) answer = pages_of_row * records_back t.0 (SavepointNamed name) (steps o h)
pages_of o h (events.Prepare t) answer = 0
pages_of o h (events.Commit t) answer = 0
pages_of o h (events.Rollback t) answer = 0
pages_of o h (events.Decide t commit) answer = 0

-- all entries of a history together
abbrev pub pages_needed : Opening → Entries → ℕ
pages_needed o [] = 0
pages_needed o (e ∷ h) = pages_of o h e.event e.answer + pages_needed o h

-- ---- why a history is refused for want of pages

-- an event that may take pages
abbrev pub takes_pages : Event → Bool
takes_pages (events.Begin session mode) = true
takes_pages (events.Insert t table row) = true
takes_pages (events.Change t table key row) = true
takes_pages (events.Erase t table key) = true
takes_pages (events.UndoMark t) = true
takes_pages (events.BackTo t name) = true
takes_pages event = false

-- An entry behind a history is answered DATABASE FULL only where its event may take pages, and it needs more, with the
-- entries before it, than the opening promises to be free; and it names the page limit.
abbrev pub IsFullForCause : ℕ → Opening → Entries → Event → Answer → Type 0
IsFullForCause limit o h event answer = (named : ℕ) → answer ≡ No (DatabaseFull named)
    → (named ≡ limit) × (takes_pages event ≡ true) × (o.free < pages_of o h event answer + pages_needed o h)

-- each entry of a history is, if one is
abbrev pub AreFullForCause : ℕ → Opening → Entries → Type 0
AreFullForCause limit o [] = Unit {0}
AreFullForCause limit o (e ∷ h) = IsFullForCause limit o h e.event e.answer × AreFullForCause limit o h

-- ---- keepers that were promised pages

-- A keeper stands for a history whose opening promises that so many pages are free: those that its entries do not need
-- are free still, and an entry is answered DATABASE FULL only where those up to it may need more.
pub record StandsWithRoom {R P : Type 0} (m : Means R P) (r : R) (o : Opening) (h : Entries) : Type 0 where
  pub stands : m.stands r o h
  pub left : (count : ℕ) → pages_needed o h + count ≤ o.free → m.has_free r count
  pub full : AreFullForCause (m.page_limit r) o h

-- what a keeper means that stands so for each of its histories
abbrev pub with_room : {R P : Type 0} → Means R P → Means R P
with_room m = record {
  stands = λ r o h. StandsWithRoom m r o h;
  table = m.table;
  is_free = m.is_free;
  works = m.works;
  was_given = m.was_given;
  is_place = m.is_place;
  has_record = m.has_record;
  to_come = m.to_come;
  still = m.still;
  unwritten = m.unwritten;
  is_asked = m.is_asked;
  is_written = m.is_written;
  tells = m.tells;
  moment = m.moment;
  left = m.left;
  holds = m.holds;
  faults = m.faults;
  failed_writes = m.failed_writes;
  damage = m.damage;
  shortages = m.shortages;
  page_limit = m.page_limit;
  has_free = m.has_free;
  reserves_ends = m.reserves_ends;
  asked = m.asked;
  most_writes = m.most_writes;
  down = m.down;
  is_size = m.is_size;
}
