-- What comes before a commit's end, and what adds no entry: a commit is asked for, and pages are written.
use Rattle.std.specs.Prelude.{◌≡◌, ◌≢◌, ℕ, true, None, Some}
use Rattle.mg_base.specs.Disk.{Meaning}
use Rattle.mg_base.specs.Image.{Image}
use Rattle.mg_base.specs.declared.transaction.TxState.TheVariants.{Active}
use Rattle.mg_model.specs.declared.opening.Opening.{Opening}
use Rattle.mg_model.specs.History.{Entries}
use Rattle.mg_model.specs.Machine.{state_of}
use Rattle.mg_image.specs.Form.{Form}
use Rattle.mg_pool.specs.Dirty.{MarksAll}
use Rattle.mg_pool.specs.Pool.{shown}
use Rattle.mg_pool.specs.Refusal.{FailsWrites}
use Rattle.mg_pool.specs.Run.{HasWritten}
use Rattle.mg_pool.specs.declared.fault.PoolFault.{PoolFault}
use Rattle.mg_pool.specs.declared.pool.Pool.{Pool}
use Rattle.mg_pool_overlay_laws.specs.Needs.{Asked, Sessions}
use Rattle.mg_space.specs.View.{Tells}
use Rattle.mg_lasting_laws.specs.Crashes.{HoldsAcknowledged, LeavesSince}
use Rattle.mg_lasting_laws.specs.Lasting.{LastsOn, LeftOn}
use Rattle.mg_engine_step_laws.specs.standing.Standing.{Standing, Stands}

-- those that are active have asked for their commit or not, and by their sessions, as before
abbrev pub KeepAsking : Opening → Entries → Asked → Asked → Sessions → Sessions → Type 0
KeepAsking o h asked now_asked session now_session = (u : ℕ) → state_of o h u ≡ Active
    → (now_asked u ≡ asked u) × (now_session u ≡ session u)

-- a cache lasts on where that is so
abbrev pub AsksOtherwise : (D L : Type 0) → Meaning D → Form → Type 0
AsksOtherwise D L m form = (o : Opening) (h : Entries) (pool : Pool D L) (asked now_asked : Asked)
    (session now_session : Sessions) → KeepAsking o h asked now_asked session now_session
    → LastsOn m form o h pool asked session → LastsOn m form o h pool now_asked now_session

-- An active transaction asks for its commit: all dirty pages are marked for its session, which is no other
-- active one's, and nothing else has changed.
pub record AsksNow {D L : Type 0} (o : Opening) (h : Entries) (before after : Pool D L) (t : ℕ)
    (asked now_asked : Asked) (session : Sessions) : Type 0 where
  pub marks : MarksAll before.dirty after.dirty (session t)
  pub same : after ≡ record before { dirty = after.dirty }
  pub asks : now_asked t ≡ true
  pub others : (u : ℕ) → u ≢ t → now_asked u ≡ asked u
  pub apart : (u : ℕ) → state_of o h u ≡ Active → session u ≡ session t → u ≡ t

-- the engine stands as it did, and its cache lasts on
abbrev pub AskingGoesOn : (D L : Type 0) → Meaning D → Form → Type 0
AskingGoesOn D L m form = (size : ℕ) (o : Opening) (h : Entries) (t : ℕ) (s : Standing)
    (before after : Pool D L) (i : Image) (asked now_asked : Asked) (session : Sessions)
    → Stands form size o h s (Some (shown before.dirty i)) → LastsOn m form o h before asked session
    → AsksNow o h before after t asked now_asked session
    → Stands form size o h s (Some (shown after.dirty i))
    × LastsOn m form o h after now_asked session

-- pages are written, each after those that precede it: the engine stands as it did, its cache lasts on, and
-- each crash since then left the history
abbrev pub PageWritesGoOn : (D L : Type 0) → Meaning D → Form → Type 0
PageWritesGoOn D L m form = (size : ℕ) (o : Opening) (h : Entries) (s : Standing)
    (before after : Pool D L) (i j : Image) (asked : Asked) (session : Sessions)
    → Stands form size o h s (Some (shown before.dirty i)) → LastsOn m form o h before asked session
    → HasWritten m before after → Tells m before.disk i → m.held after.disk ≡ Some j
    → Stands form size o h s (Some (shown after.dirty j)) × LastsOn m form o h after asked session
    × LeavesSince m before.disk after.disk (HoldsAcknowledged form before.dirty.size o h)

-- pages are written, and then a page write fails: memory stands as it did, and each crash since then left
-- the history, and leaves it
abbrev pub PageWritesFail : (D L : Type 0) → Meaning D → Form → Type 0
PageWritesFail D L m form = (size : ℕ) (o : Opening) (h : Entries) (s : Standing)
    (before after : Pool D L) (i : Image) (fault : PoolFault) (asked : Asked) (session : Sessions)
    → Stands form size o h s (Some (shown before.dirty i)) → LastsOn m form o h before asked session
    → FailsWrites m before after fault → Tells m before.disk i → m.tells after.disk ≡ true
    → Stands form size o h s None × LeftOn m form o h after
    × LeavesSince m before.disk after.disk (HoldsAcknowledged form before.dirty.size o h)
