-- Rows of bits: a relation between places, and its closure.
use Rattle.std.specs.Prelude.{◌≡◌, ℕ, ◌<◌, ◌≤◌, nat_lt, Option, Some, None, if◌then◌else◌, Bool, true, false, ◌||◌, ◌&&◌, ◌==◌, not, List, [], length, slice_index_or}
use Rattle.std.specs.List.{list_any}
use Rattle.mg_careful.specs.Precedence.{Orders, Precedes}

-- the bit of a row at a column, false outside
abbrev pub bit : List (List Bool) → ℕ → ℕ → Bool
bit rows row column = slice_index_or (slice_index_or rows row []) column false

-- as many rows as this, each as long
pub record IsSquare (size : ℕ) (rows : List (List Bool)) : Type 0 where
  pub rows_long : length rows ≡ size
  pub row_long : (i : ℕ) → i < size → length (slice_index_or rows i []) ≡ size

-- a row has no bit that is set
abbrev pub is_blank : List Bool → Bool
is_blank row = not (list_any (λ b. b) row)

-- a relation holds exactly where a chain of orders leads from the one to the other
pub record IsClosure (ordered after : Orders) : Type 0 where
  pub sound : (a b : ℕ) → after a b ≡ true → Precedes ordered a b
  pub whole : (a b : ℕ) → Precedes ordered a b → after a b ≡ true

-- the orders, with one more
abbrev pub with_order : Orders → ℕ → ℕ → Orders
with_order ordered first later a b = ordered a b || (a == first && b == later)

-- a closure, with what one more order closes: whatever is or precedes the first one now precedes
-- whatever is the later one or is preceded by it
abbrev pub with_closed : Orders → ℕ → ℕ → Orders
with_closed after first later a b =
    after a b || ((a == first || after a first) && (b == later || after later b))

-- the orders, without those of one member
abbrev pub without : Orders → ℕ → Orders
without ordered gone a b = ordered a b && (not (a == gone) && not (b == gone))

-- of the orders that a table has, a row for each later one, those before a place in the table
abbrev pub orders_until : List (List Bool) → ℕ → ℕ → Orders
orders_until before later first a b = bit before b a && (nat_lt b later || (b == later && nat_lt a first))

-- whether a member is the goal or leads to it, and nothing is ordered before it
abbrev pub is_ready_at : List (List Bool) → List (List Bool) → ℕ → ℕ → Bool
is_ready_at before after goal place =
    (place == goal || bit after place goal) && is_blank (slice_index_or before place [])

-- the page at a place that is ready, none elsewhere
abbrev pub ready_page_at : List (Option ℕ) → List (List Bool) → List (List Bool) → ℕ → ℕ → Option ℕ
ready_page_at pages before after goal place =
    if is_ready_at before after goal place then slice_index_or pages place None else None

-- the lesser of two numbers, where there are two
abbrev pub lesser_of : Option ℕ → Option ℕ → Option ℕ
lesser_of None b = b
lesser_of (Some m) None = Some m
lesser_of (Some m) (Some n) = if nat_lt m n then Some m else Some n

-- the least number among those that a function gives below an index, none where it gives none
pub record IsLeast (given : ℕ → Option ℕ) (below : ℕ) (least : Option ℕ) : Type 0 where
  pub found : (m : ℕ) → least ≡ Some m → (k : ℕ) × (k < below) × (given k ≡ Some m)
  pub least_of : (k n : ℕ) → k < below → given k ≡ Some n → (m : ℕ) × (least ≡ Some m) × (m ≤ n)
