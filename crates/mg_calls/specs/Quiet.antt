-- What calls leave that give no event which outlasts a crash.
use Rattle.std.specs.Prelude.{◌≡◌, ℕ, true, false, ◌∷◌, Option, None}
use Rattle.mg_base.specs.Image.{Image}
use Rattle.mg_model.specs.declared.opening.Opening.{Opening}
use Rattle.mg_model.specs.History.{Entries, Entry}
use Rattle.mg_model.specs.Legal.{durable_count, is_lasting}
use Rattle.mg_records.specs.Meaning.{Means}
use Rattle.mg_records.specs.Crashing.{LeavesOnly, LeavesQuietly}
use Rattle.mg_records.specs.Keeping.{Elapses, FindsNoDamage, MeetsNoDamage}
use Rattle.mg_records.specs.Sessions.{SessionsStay}

-- a history has gone on by events that no crash could lose
pub data IsQuietly (h : Entries) : Entries → Type 0 where
  as_it_was : IsQuietly h h
  with_entry : {longer : Entries} (e : Entry) → is_lasting e.event ≡ false → IsQuietly h longer
      → IsQuietly h (e ∷ longer)

-- each history for which a keeper stood has gone on so
abbrev pub GoesOnQuietly : {R P : Type 0} → Means R P → R → R → Type 0
GoesOnQuietly m old new = (o : Opening) (h : Entries) → m.stands old o h
    → (longer : Entries) × m.stands new o longer × IsQuietly h longer

-- What such calls leave of crashes, of damage and of sessions; a transaction may have ended.
pub record AreQuiet {R P : Type 0} (m : Means R P) (old new : R) (ends : Option ℕ) : Type 0 where
  pub goes_on : GoesOnQuietly m old new
  pub tells : m.tells new ≡ m.tells old
  pub time : m.tells old ≡ true → Elapses m old new
  pub holds : (o : Opening) (h : Entries) (least : ℕ) (c : Image) → m.holds old o h least c
      → m.holds new o h least c
  pub undamaged : MeetsNoDamage m old new
  pub crash : LeavesQuietly m old new
  pub sessions : SessionsStay m old new None ends

-- What such calls leave of one history: it has gone on so, no page was found damaged, and what a crash
-- since might have left holds it with all its durable events.
pub record IsQuietAt {R P : Type 0} (m : Means R P) (old new : R) (o : Opening) (h : Entries) : Type 0
  where
    pub longer : Entries
    pub stands : m.stands new o longer
    pub quietly : IsQuietly h longer
    pub undamaged : FindsNoDamage m old new
    pub crash : m.tells old ≡ true → LeavesOnly m old new (m.holds new o h (durable_count h))

-- What such calls leave whatever the history: what an image holds it holds still, and sessions stay.
pub record AreCalm {R P : Type 0} (m : Means R P) (old new : R) (ends : Option ℕ) : Type 0 where
  pub tells : m.tells new ≡ m.tells old
  pub time : m.tells old ≡ true → Elapses m old new
  pub holds : (o : Opening) (h : Entries) (least : ℕ) (c : Image) → m.holds old o h least c
      → m.holds new o h least c
  pub sessions : SessionsStay m old new None ends
