-- What each step of a seat tells.
use Rattle.std.specs.Prelude.{◌≡◌, ◌≢◌, ℕ, ◌+◌, ◌-◌, ◌%◌, ◌/◌, ◌==◌, ◌<◌, if◌then◌else◌, List, [], ◌∷◌, ◌++◌, Option, Some, None}
use Rattle.atomic_table.specs.Table.{Me, Step}
use Rattle.mg_turn.specs.declared.rule.Deed.{Deed}
use Rattle.mg_turn.specs.declared.rule.Entry.{Entry}
use Rattle.mg_turn.specs.declared.rule.Slot.{Slot}
use Rattle.mg_turn.specs.declared.rule.View.{View}
use Rattle.mg_turn.specs.declared.served.End.{End}
use Rattle.mg_turn.specs.declared.served.End.TheVariants.{Committed, Dead, Limbo}
use Rattle.mg_turn.specs.Histories.{Has, entry, EndIn, Leads, calls_by}
use Rattle.mg_turn.specs.Views.{named, waiting, holding, served_one, knowing}

-- the place of an end's bit in its transaction's word
abbrev pub bit_of : End → ℕ
bit_of Committed = 0
bit_of Dead = 1
bit_of Limbo = 2

-- the word with that bit alone
abbrev pub mask_of : End → ℕ
mask_of Committed = 1
mask_of Dead = 2
mask_of Limbo = 4

-- the end that a word shows: the first of its bits
abbrev pub end_in : ℕ → Option End
end_in n = if (n % 2 == 1) then (Some Committed)
    else (if (n / 2 % 2 == 1) then (Some Dead) else (if (n / 4 % 2 == 1) then (Some Limbo) else None))

module _ {V C R : Type 0} where
  -- a seat gets its name, and nothing else of it changes
  abbrev pub Names : Step (Slot V C R) → Me (Slot V C R) (View V C R) → ℕ → Me (Slot V C R) (View V C R) → Type 0
  Names st m n m' = (name : ℕ) × (0 < name) × (m' ≡ (named name m.0, m.1))

  -- a seat draws the ticket that it found, or, where another came between, nothing changes
  abbrev pub Draws : Step (Slot V C R) → Me (Slot V C R) (View V C R) → ℕ → Me (Slot V C R) (View V C R) → Type 0
  Draws st m n m' = (n ≡ st.first → m' ≡ (waiting st.first m.0, m.1)) × (n ≢ st.first → m' ≡ m)

  -- the turn is passed: the history of the seat is longer by the call that was served
  abbrev pub Passes : Step (Slot V C R) → Me (Slot V C R) (View V C R) → ℕ → Me (Slot V C R) (View V C R) → Type 0
  Passes st m n m' = (x : Slot V C R) (d : Deed C R) → m.1 ≡ (0, x) ∷ [] → x.last ≡ Some d
      → m' ≡ (served_one d.call.value d.reply.value m.0, [])

  -- a seat posts an end, which it knows from now on
  abbrev pub Posts : Step (Slot V C R) → Me (Slot V C R) (View V C R) → ℕ → Me (Slot V C R) (View V C R) → Type 0
  Posts st m n m' = (end : End) → st.first ≡ mask_of end → m' ≡ (knowing (m.0.start + (st.word - 2)) end m.0, m.1)

  -- what a read of the end of t makes of what is known
  abbrev pub known_after : ℕ → Option End → View V C R → View V C R
  known_after t None v = v
  known_after t (Some end) v = knowing t end v

  -- nothing is known of the end of t
  abbrev pub IsOpen : ℕ → View V C R → Type 0
  IsOpen t v = (end : End) → Has (t, end) v.known → ⊥

  -- a seat reads a word: it knows the end that this shows, and knew none where it shows none
  abbrev pub Finds : Step (Slot V C R) → Me (Slot V C R) (View V C R) → ℕ → Me (Slot V C R) (View V C R) → Type 0
  Finds st m n m' = (m' ≡ (known_after (m.0.start + (st.word - 2)) (end_in n) m.0, m.1))
      × (end_in n ≡ None → IsOpen (m.0.start + (st.word - 2)) m.0)

module _ {V C R : Type 0} (answers : V → C → R → V → Type 0) where
  -- the value that a seat holds has answered a call, which is noted beside it
  abbrev pub Made : Me (Slot V C R) (View V C R) → C → R → Me (Slot V C R) (View V C R) → Type 0
  Made m call reply m' = (x : Slot V C R) × (y : Slot V C R) × (m.1 ≡ (0, x) ∷ []) × (m' ≡ (m.0, (0, y) ∷ []))
      × ((d : Deed C R) × (y.last ≡ Some d) × (d.call.value ≡ call) × (d.reply.value ≡ reply)
      × answers x.value call reply y.value)

  -- the value that a seat holds may be put back: the history with the call beside it leaves it
  abbrev pub MayPass : Me (Slot V C R) (View V C R) → Type 0
  MayPass m = (x : Slot V C R) × (d : Deed C R) × (from : V) × (m.1 ≡ (0, x) ∷ []) × (x.last ≡ Some d)
      × (m.0.from ≡ Some from)
      × Leads answers from (entry m.0.name d.call.value d.reply.value ∷ m.0.seen) x.value

module _ {V C R : Type 0} (answers : V → C → R → V → Type 0) (ends : C → R → ℕ → End → Type 0) where
  -- a seat has the value, with the history that leaves it, which begins with what the seat had seen
  -- and has the ends that it knows
  pub record Takes (v : View V C R) (log : List (Entry C R)) (x : Slot V C R) : Type 0 where
    pub seen : (between : List (Entry C R)) × (log ≡ between ++ v.seen)
    pub legal : (from : V) × (v.from ≡ Some from) × Leads answers from log x.value
    pub known : (t : ℕ) (end : End) → Has (t, end) v.known → EndIn ends log t end
    pub own : 0 < v.name → calls_by v.name log ≡ v.mine

  -- a seat has taken the value
  abbrev pub Taken : Me (Slot V C R) (View V C R) → Me (Slot V C R) (View V C R) → Type 0
  Taken m m' = (log : List (Entry C R)) × (x : Slot V C R)
      × (m' ≡ (holding log m.0, (0, x) ∷ m.1)) × Takes m.0 log x

  -- a seat looks whether its ticket is served: then it has the value, else nothing changes
  abbrev pub Looks : Step (Slot V C R) → Me (Slot V C R) (View V C R) → ℕ → Me (Slot V C R) (View V C R) → Type 0
  Looks st m n m' = (n ≡ m.0.number → Taken m m') × (n ≢ m.0.number → m' ≡ m)
