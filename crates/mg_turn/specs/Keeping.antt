-- The rule of the table: there is one legal history.
use Rattle.std.specs.Prelude.{◌≡◌, ◌≢◌, ◌⊎◌, ◌==◌, if◌then◌else◌, ℕ, ◌+◌, ◌-◌, ◌<◌, ◌≤◌, List, [], ◌∷◌, ◌++◌, length, slice_index, Some}
use mathlib.Core.Option.{some}
use lib.ListN.{get_elem?}
use Rattle.std.specs.Int.{bit_at}
use Rattle.atomic_table.specs.Table.{State}
use Rattle.mg_turn.specs.declared.rule.Entry.{Entry}
use Rattle.mg_turn.specs.declared.rule.Gathered.{Gathered}
use Rattle.mg_turn.specs.declared.rule.Slot.{Slot}
use Rattle.mg_turn.specs.declared.rule.View.{View}
use Rattle.mg_turn.specs.declared.served.End.{End}
use Rattle.mg_turn.specs.Histories.{Has, calls_by, EndIn, Leads}
use Rattle.mg_turn.specs.Tells.{bit_of}

-- the words show that the transaction ended so
abbrev pub Shows : List ℕ → ℕ → ℕ → End → Type 0
Shows words start t end = bit_at (slice_index words (2 + (t - start))) (bit_of end) ≡ 1

module _ {V C R : Type 0} where
  -- 1 for a view whose parent has this name, else 0
  abbrev pub is_child : ℕ → View V C R → ℕ
  is_child name v = if v.parent == name then 1 else 0

  -- how many seats were split from the one of this name and not joined back
  abbrev pub children_of : ℕ → List (View V C R) → ℕ
  children_of name [] = 0
  children_of name (v ∷ vs) = is_child name v + children_of name vs

  -- there is a seat of this number, and it was not joined to another
  abbrev pub Lives : List (View V C R) → ℕ → Type 0
  Lives views j = (v : View V C R) × (get_elem? views j ≡ some v) × (0 < v.live)

  -- these are all calls of a seat that was joined
  pub record IsGathered (views : List (View V C R)) (log : List (Entry C R)) (g : Gathered C R) : Type 0 where
    pub seat : ℕ
    pub name : g.name ≡ seat + 1
    pub there : seat < length views
    pub spent : (v : View V C R) → get_elem? views seat ≡ some v → v.live ≡ 0
    pub own : calls_by g.name log ≡ g.entries

  -- how a live seat stands among the others
  pub record IsTied (views : List (View V C R)) (log : List (Entry C R)) (j : ℕ) (v : View V C R) : Type 0 where
    pub gathered : (g : Gathered C R) → Has g v.gathered → IsGathered views log g
    pub children : v.children ≡ children_of (j + 1) views
    pub parent : ((j ≡ 0) × (v.parent ≡ 0)) ⊎ ((p : ℕ) × (v.parent ≡ p + 1) × (p < j) × Lives views p)

  -- a live seat has this name, or was joined by it
  abbrev pub IsCovered : List (View V C R) → ℕ → Type 0
  IsCovered views name = (j : ℕ) × (v : View V C R) × (get_elem? views j ≡ some v) × (0 < v.live)
      × ((name ≡ j + 1) ⊎ ((g : Gathered C R) × Has g v.gathered × (g.name ≡ name)))

module _ {V C R : Type 0} (answers : V → C → R → V → Type 0) (ends : C → R → ℕ → End → Type 0) (from : V) (start : ℕ) where
  -- what a live seat knows is so
  pub record FitsIn (words : List ℕ) (log : List (Entry C R)) (j : ℕ) (v : View V C R) : Type 0 where
    pub opening : v.from ≡ Some from
    pub start_is : v.start ≡ start
    pub name : 0 < v.name → v.name ≡ j + 1
    pub seen : (between : List (Entry C R)) × (log ≡ between ++ v.seen)
    pub own : calls_by (j + 1) log ≡ v.mine
    pub waits : 0 < v.phase → (slice_index words 1 ≤ v.number) × (v.number < slice_index words 0)
    pub has : v.phase ≡ 2 → (v.number ≡ slice_index words 1) × (v.seen ≡ log)
    pub known : (t : ℕ) (end : End) → Has (t, end) v.known → (start ≤ t) × Shows words start t end × EndIn ends log t end

  -- the rule: one legal history leaves the value, and the seats and the words stand to it as they must
  pub record Kept (s : State (Slot V C R) (View V C R)) : Type 0 where
    -- the history, newest first
    pub log : List (Entry C R)
    pub size : length s.words ≡ 65538
    -- the ticket that is served is not past the next one
    pub order : slice_index s.words 1 ≤ slice_index s.words 0
    -- the value at home is the one that the history leaves
    pub home : (x : Slot V C R) → get_elem? s.homes 0 ≡ some (some x) → Leads answers from log x.value
    -- the value is at home, or a seat has it
    pub out : ((x : Slot V C R) × (get_elem? s.homes 0 ≡ some (some x))) ⊎ ((j : ℕ) × (v : View V C R) × (get_elem? s.views j ≡ some v) × (v.phase ≡ 2))
    pub fits : (j : ℕ) (v : View V C R) → get_elem? s.views j ≡ some v → 0 < v.live → FitsIn s.words log j v
    pub tied : (j : ℕ) (v : View V C R) → get_elem? s.views j ≡ some v → 0 < v.live → IsTied s.views log j v
    -- no two seats have the same ticket
    pub apart : (i j : ℕ) (v w : View V C R) → get_elem? s.views i ≡ some v → get_elem? s.views j ≡ some w → i ≢ j → 0 < v.phase → 0 < w.phase → v.number ≢ w.number
    pub spent : (j : ℕ) (v : View V C R) → get_elem? s.views j ≡ some v → v.live ≡ 0 → (v.phase ≡ 0) × (v.parent ≡ 0)
    -- some live seat has seen the whole history
    pub latest : (j : ℕ) × (v : View V C R) × (get_elem? s.views j ≡ some v) × (0 < v.live) × (v.seen ≡ log)
    -- each entry is a live seat's, or was gathered by one
    pub covered : (e : Entry C R) → Has e log → IsCovered s.views e.by
    -- a seat that there is not has no entry
    pub strangers : (j : ℕ) → length s.views ≤ j → calls_by (j + 1) log ≡ []
    -- an end that a word shows stands in the history
    pub shown : (t : ℕ) (end : End) → start ≤ t → Shows s.words start t end → EndIn ends log t end
