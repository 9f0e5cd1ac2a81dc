-- What a graph of pages says: which pages are entered, and which is ordered before which.
use Rattle.std.specs.Prelude.{◌≡◌, ℕ, ◌+◌, ◌≤◌, Bool, true, false, ◌||◌, ◌&&◌, ◌==◌, nat_lt, not, ◌⊎◌}
use Rattle.std.specs.Prelude.{List, [], ◌∷◌, length, Option, Some, None, is_some, count_by, slice_index_or, if◌then◌else◌}
use Rattle.mg_careful.specs.Precedence.{Orders, Precedes}
use Rattle.mg_careful.specs.Rows.{bit, IsSquare, IsClosure, with_order}

-- the pages of a graph, each at a place of its own, and for each place the row of the places whose
-- pages are ordered directly before its page
pub record PageGraph : Type 0 where
  pub pages : List (Option ℕ)
  pub before : List (List Bool)

-- whether a place has this page
abbrev pub has_page : ℕ → Option ℕ → Bool
has_page page None = false
has_page page (Some p) = p == page

-- the place of a page; the number of places where no place has it
abbrev pub place_of : List (Option ℕ) → ℕ → ℕ
place_of [] page = 0
place_of (x ∷ xs) page = if has_page page x then 0 else (place_of xs page + 1)

-- whether a page is entered
unfoldable pub is_entered : PageGraph → ℕ → Bool
is_entered g page = nat_lt (place_of g.pages page) (length g.pages)

-- whether one entered page is ordered directly before another
unfoldable pub is_ordered : PageGraph → Orders
is_ordered g first later =
    is_entered g first
    && (is_entered g later && bit g.before (place_of g.pages later) (place_of g.pages first))

-- how many pages are entered
unfoldable pub entered_count : PageGraph → ℕ
entered_count g = count_by is_some g.pages

-- how many pages can be entered at one time
unfoldable pub room_of : PageGraph → ℕ
room_of g = length g.pages

-- a graph without pages and orders, with room for this many pages
pub record IsBlankGraph (g : PageGraph) (most : ℕ) : Type 0 where
  pub entered : (page : ℕ) → is_entered g page ≡ false
  pub ordered : (a b : ℕ) → is_ordered g a b ≡ false
  pub count : entered_count g ≡ 0
  pub room : room_of g ≡ most

-- one page is entered, if it was not; the orders stay
pub record EntersPage (old new : PageGraph) (page : ℕ) : Type 0 where
  pub entered : (p : ℕ) → is_entered new p ≡ (is_entered old p || p == page)
  pub ordered : (a b : ℕ) → is_ordered new a b ≡ is_ordered old a b
  pub count : entered_count new
      ≡ (if is_entered old page then entered_count old else (entered_count old + 1))
  pub room : room_of new ≡ room_of old

-- one page is no longer entered, and its orders are gone; all others stay
pub record ClearsPage (old new : PageGraph) (page : ℕ) : Type 0 where
  pub entered : (p : ℕ) → is_entered new p ≡ (is_entered old p && not (p == page))
  pub ordered : (a b : ℕ) → is_ordered new a b
      ≡ (is_ordered old a b && (not (a == page) && not (b == page)))
  pub count : entered_count old
      ≡ (if is_entered old page then (entered_count new + 1) else entered_count new)
  pub room : room_of new ≡ room_of old

-- one direct order more; the entered pages stay
pub record AddsOrder (old new : PageGraph) (first later : ℕ) : Type 0 where
  pub entered : (p : ℕ) → is_entered new p ≡ is_entered old p
  pub ordered : (a b : ℕ) → is_ordered new a b ≡ with_order (is_ordered old) first later a b
  pub count : entered_count new ≡ entered_count old
  pub room : room_of new ≡ room_of old

-- a page may be written towards a goal: it is the goal or precedes it, and no page precedes it
pub record IsReady (g : PageGraph) (goal page : ℕ) : Type 0 where
  pub due : (page ≡ goal) ⊎ Precedes (is_ordered g) page goal
  pub free : (q : ℕ) → is_ordered g q page ≡ false

-- the page of least number that may be written towards a goal
pub record IsFirstReady (g : PageGraph) (goal page : ℕ) : Type 0 where
  pub ready : IsReady g goal page
  pub least : (q : ℕ) → IsReady g goal q → page ≤ q

-- what the fields of a graph keep: a page stands at one place, orders are between places that
-- have pages, `after` is the closure of `before`, and no page precedes itself
pub record IsGraph (pages : List (Option ℕ)) (before after : List (List Bool)) (row : List Bool) : Type 0 where
  pub before_square : IsSquare (length pages) before
  pub after_square : IsSquare (length pages) after
  pub row_long : length row ≡ length pages
  pub once : (i j page : ℕ) → slice_index_or pages i None ≡ Some page
      → slice_index_or pages j None ≡ Some page → i ≡ j
  pub used : (a b : ℕ) → bit before b a ≡ true
      → (is_some (slice_index_or pages a None) ≡ true) × (is_some (slice_index_or pages b None) ≡ true)
  pub closure : IsClosure (λ a b. bit before b a) (bit after)
  pub acyclic : (a : ℕ) → bit after a a ≡ false

-- a graph has no cycle: no page precedes itself
abbrev pub IsAcyclic : PageGraph → Type 0
IsAcyclic g = (page : ℕ) → Precedes (is_ordered g) page page → ⊥
