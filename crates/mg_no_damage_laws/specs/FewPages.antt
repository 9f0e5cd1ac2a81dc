-- What it is that a call of an engine takes few pages.
use Rattle.std.specs.Prelude.{◌≡◌, ℕ, ◌+◌, ◌*◌, true, Option, Some}
use Rattle.mg_base.specs.Disk.{Meaning}
use Rattle.mg_core.specs.declared.parts.Core.{Core}
use Rattle.mg_engine_meaning_laws.specs.FreePages.{CoreHasFree}
use Rattle.mg_engine_meaning_laws.specs.Standings.{StandsFor}
use Rattle.mg_model.specs.declared.change.Point.{Point}
use Rattle.mg_model.specs.declared.opening.Opening.{Opening}
use Rattle.mg_model.specs.declared.refusal.Refusal.{Refusal}
use Rattle.mg_model.specs.declared.refusal.Refusal.TheVariants.{DatabaseFull}
use Rattle.mg_model.specs.History.{Entries}
use Rattle.mg_model.specs.Machine.{steps}
use Rattle.mg_records.specs.Room.{pages_of_row, records_back}

-- At most so many of the free pages are taken; and a call that is refused for want of pages had fewer.
pub record CoreTakes {D : Type 0} (m : Meaning D) (old new : Core D) (refusal : Option Refusal) (most : ℕ) : Type 0
  where
    pub left : (count : ℕ) → CoreHasFree m old (count + most) → CoreHasFree m new count
    pub enough : CoreHasFree m old most → (limit : ℕ) → refusal ≡ Some (DatabaseFull limit) → ⊥

-- so it is where the engine stood for a history and its disk tells what a crash may leave
abbrev pub RoomStands : {D : Type 0} → Meaning D → Core D → Core D → Option Refusal → ℕ → Type 0
RoomStands m old new refusal most = (o : Opening) (h : Entries) → StandsFor m old o h
    → m.tells old.store.disk ≡ true → CoreTakes m old new refusal most

-- a row is written for each record that is taken back to a point
abbrev pub RoomStandsBack : {D : Type 0} → Meaning D → Core D → Core D → Option Refusal → ℕ → Point → Type 0
RoomStandsBack m old new refusal t point = (o : Opening) (h : Entries) → StandsFor m old o h
    → m.tells old.store.disk ≡ true
    → CoreTakes m old new refusal (pages_of_row * records_back t point (steps o h))
