-- The plain machine as a keeper of records: it has no pages, each session may begin a transaction at
-- any time, and a place is how many of the rows that the transaction sees, in key order, a walk has come
-- to.
use Rattle.std.specs.Prelude.{◌≡◌, ℕ, ◌+◌, ◌-◌, ◌<◌, ◌≤◌, Bool, true, false, List, [], ◌∷◌, drop, length, Option, Some, None, Result, Ok, Err, get_or, slice_get, if◌then◌else◌}
use Rattle.mg_base.specs.declared.memory.Memory.{Memory}
use Rattle.mg_base.specs.Geometry.{is_page_size}
use Rattle.mg_base.specs.declared.numbers.TxNo.{TxNo}
use Rattle.mg_value.specs.declared.shape.Shape.{Shape}
use Rattle.mg_value.specs.declared.shape.TheConstants.{MOST_COLUMNS}
use Rattle.mg_value.specs.declared.value.Value.TheVariants.{Null}
use Rattle.mg_model.specs.declared.opening.Opening.{Opening}
use Rattle.mg_model.specs.declared.refusal.Refusal.{Refusal}
use Rattle.mg_model.specs.declared.table.Index.{Index}
use Rattle.mg_model.specs.declared.table.Table.{Table}
use Rattle.mg_model.specs.Changes.{Cells, KeyedRows, rows_of, same_key}
use Rattle.mg_model.specs.History.{Entries}
use Rattle.mg_model.specs.Answers.{catalog_of}
use Rattle.mg_records.specs.declared.found.Found.{Found}
use Rattle.mg_records.specs.Meaning.{Means}
use Rattle.mg_records.specs.Keeping.{refusal_in}
use Rattle.mg_records.specs.Reading.{shape_named}
use Rattle.mg_records.specs.Writing.{InsertsEach}
use Rattle.mg_tending.specs.Collecting.{Collecting}
use Rattle.mg_plain.specs.Obeying.{is_inner, ViewsStay}
use Rattle.mg_plain.specs.declared.plain.Plain.{Plain}
use Rattle.mg_plain.specs.Keeping.{Grows, Keeping, StandsFor, session_in, told_in}
use Rattle.mg_plain.specs.Kept.{kept}

-- the rows of a table that a transaction sees with their keys, in key order
abbrev pub rows_seen : Keeping → ℕ → List ℕ → KeyedRows
rows_seen k t name = rows_of ((told_in k).view t) name

-- how many rows stand up to a place, that row included
abbrev pub behind : Option ℕ → ℕ
behind None = 0
behind (Some place) = place

-- the primary index of a table, which has no pages either
abbrev pub primary : List ℕ → ℕ → Index
primary name column = record { name = name; column = column; root = record { 0 = 0 } }

-- the table with a shape, which has no pages, with its primary index
abbrev pub with_shape : List ℕ → Option Shape → Option Table
with_shape name None = None
with_shape name (Some shape) =
    Some (record { name = name; shape = shape; pointer = record { 0 = 0 }; indexes = primary name shape.key ∷ [] })

-- a shape has no more columns than tables have
abbrev pub FewColumns : Option Shape → Type 0
FewColumns None = Unit {0}
FewColumns (Some shape) = length shape.columns ≤ MOST_COLUMNS

-- the shape of a table that a transaction sees
abbrev pub shape_kept : Keeping → ℕ → List ℕ → Option Shape
shape_kept k t name = shape_named (catalog_of (told_in k) t) name

-- a number that was drawn was begun by a session
abbrev pub WorksFor : Keeping → ℕ → ℕ → Type 0
WorksFor k t session = (t < length k.known) × (session_in k.begun_by t ≡ Some session)

abbrev pub means : Means Plain ℕ
means = record {
  stands = λ p o h. StandsFor o h (kept p);
  table = λ p t name. with_shape name (shape_kept (kept p) t name);
  is_free = λ p session. Unit {0};
  works = λ p t session. WorksFor (kept p) t session;
  was_given = λ p table. Unit {0};
  is_place = λ p table place. Unit {0};
  has_record = λ p t table place. (0 < place) × (place ≤ length (rows_seen (kept p) t table.name));
  to_come = λ p t table after rows. rows ≡ drop (behind after) (rows_seen (kept p) t table.name);
  still = λ p t table after. length (rows_seen (kept p) t table.name) - behind after;
  unwritten = λ p. 0;
  is_asked = λ p t. Unit {0};
  is_written = λ p t. Unit {0};
  tells = λ p. false;
  moment = λ p. 0;
  left = λ p t image. ⊥;
  holds = λ p o h least image. ⊥;
  faults = λ p. 0;
  failed_writes = λ p. 0;
  damage = λ p. 0;
  shortages = λ p. 0;
  page_limit = λ p. 0;
  has_free = λ p count. Unit {0};
  reserves_ends = false;
  asked = λ p. 0;
  most_writes = λ p. None;
  down = λ p. None;
  is_size = λ p size. is_page_size size;
}

-- It keeps the history and computes each row from that, so there is no version at any place.
abbrev pub keeps_none : Collecting Plain ℕ
keeps_none = record {
  has_record = λ p table place. Unit {0};
  kept = λ p place versions. versions ≡ [];
  speaks = λ p table key place. Unit {0};
  silent = λ p table key. Unit {0};
  is_committed = λ p table. Unit {0};
}

-- Rows were brought into the catalog one after another, until one was refused.
pub record InsertsAll (old new : Plain) (t : TxNo) (rows : List Cells)
    (result : Result (Unit {0}) Refusal) : Type 0 where
  pub inserts : (o : Opening) (h : Entries) → StandsFor o h (kept old)
      → InsertsEach means new o t rows h (refusal_in result)
  pub inner : is_inner (refusal_in result) ≡ true
  pub views : ViewsStay (kept old) (kept new) (Some t.0)
  pub grows : Grows (kept old) (kept new)

-- some of the rows were brought in: what becomes of those that are left becomes of all
abbrev pub GoesOn : Plain → Plain → TxNo → List Cells → List Cells → Type 0
GoesOn old now t rows left = (o : Opening) (h : Entries) → StandsFor o h (kept old)
    → (so_far : Entries) × StandsFor o so_far (kept now)
    × ((new : Plain) (refusal : Option Refusal) → InsertsEach means new o t left so_far refusal
    → InsertsEach means new o t rows h refusal)

-- the row with a number among rows, with the place behind it; none past the last one
abbrev pub FoundAt : KeyedRows → ℕ → Result (Option (Found ℕ)) Memory → Type 0
FoundAt rows at (Ok None) = None ≡ slice_get rows at
FoundAt rows at (Ok (Some found)) = (found.place ≡ at + 1) × (found.row ≡ slice_get rows at) × (at < length rows)
FoundAt rows at (Err memory) = Unit {0}

-- each row stands under the value that it has at a place
abbrev pub stand_under : ℕ → KeyedRows → Bool
stand_under place [] = true
stand_under place (r ∷ rows) = if same_key (get_or r.1 place Null) r.0 then stand_under place rows else false
