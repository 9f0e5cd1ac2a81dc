-- What the calls promise.
use Rattle.std.specs.Prelude.{◌≡◌, ◌⊎◌, ℕ, ◌<◌, List, [], ◌∷◌, ◌++◌, Some}
use Rattle.atomic_table.specs.declared.shared.Seat.{Seat}
use Rattle.mg_turn.specs.declared.lock.Lock.{Lock}
use Rattle.mg_turn.specs.declared.rule.Entry.{Entry}
use Rattle.mg_turn.specs.declared.rule.Gathered.{Gathered}
use Rattle.mg_turn.specs.declared.rule.Slot.{Slot}
use Rattle.mg_turn.specs.declared.rule.View.{View}
use Rattle.mg_turn.specs.declared.served.End.{End}
use Rattle.mg_turn.specs.Histories.{Has, entry, calls_by, EndIn, Leads}

module _ {V C R : Type 0} where
  -- what a seat knows
  abbrev pub view : Seat (Slot V C R) (View V C R) → View V C R
  view seat = seat.me.0

  -- between two calls of a seat that has its name
  pub record IsAtRest (v : View V C R) : Type 0 where
    pub live : 0 < v.live
    pub named : 0 < v.name
    pub idle : v.phase ≡ 0

  -- a seat of this turn, between two of its calls
  abbrev pub IsReady : {K P : Type 0} → Lock (Slot V C R) (View V C R) K P → Seat (Slot V C R) (View V C R) → Type 0
  IsReady turn seat = (seat.table_id ≡ turn.table.shared.table_id) × (seat.me.1 ≡ [])
      × (seat.me.0.start ≡ turn.first) × IsAtRest seat.me.0

  -- the same seat, with its name, its family and what it gathered
  pub record IsSame (v w : View V C R) : Type 0 where
    pub opening : w.from ≡ v.from
    pub start : w.start ≡ v.start
    pub name : w.name ≡ v.name
    pub gathered : w.gathered ≡ v.gathered
    pub parent : w.parent ≡ v.parent
    pub children : w.children ≡ v.children

  -- the same seat, with the same family: what it keeps between its splits and joins
  pub record IsKin (v w : View V C R) : Type 0 where
    pub opening : w.from ≡ v.from
    pub start : w.start ≡ v.start
    pub name : w.name ≡ v.name
    pub parent : w.parent ≡ v.parent
    pub children : w.children ≡ v.children

  -- all calls are this seat's or those of seats that were joined to it, and of each it has all
  pub record IsWhole (v : View V C R) : Type 0 where
    pub own : calls_by v.name v.seen ≡ v.mine
    pub gathered : (g : Gathered C R) → Has g v.gathered → calls_by g.name v.seen ≡ g.entries
    pub all : (e : Entry C R) → Has e v.seen → (e.by ≡ v.name) ⊎ ((g : Gathered C R) × Has g v.gathered × (g.name ≡ e.by))

module _ {V C R : Type 0} (answers : V → C → R → V → Type 0) where
  -- the history that was seen is legal, and leaves this value
  abbrev pub Stands : View V C R → V → Type 0
  Stands v value = (from : V) × (v.from ≡ Some from) × Leads answers from v.seen value

module _ {V C R : Type 0} (answers : V → C → R → V → Type 0) (ends : C → R → ℕ → End → Type 0) where
  -- A call was served: what was seen begins with all that had been seen, ends with this call and its
  -- reply, is legal, and has each end that was known; of this seat's name it has the seat's own calls.
  pub record Extends (v : View V C R) (call : C) (reply : R) (w : View V C R) : Type 0 where
    pub seen : (between : List (Entry C R)) × (w.seen ≡ entry v.name call reply ∷ (between ++ v.seen))
    pub legal : (left : V) × Stands answers w left
    pub mine : w.mine ≡ entry v.name call reply ∷ v.mine
    pub own : calls_by w.name w.seen ≡ w.mine
    pub known : w.known ≡ v.known
    pub ended : (t : ℕ) (end : End) → Has (t, end) v.known → EndIn ends w.seen t end
    pub same : IsSame v w
    pub at_rest : IsAtRest w
