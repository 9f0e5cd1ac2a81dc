-- What an entry of a history makes of what is in memory and on the pages.
use Rattle.std.specs.Prelude.{◌≡◌, ◌≢◌, ◌⊎◌, ◌<◌, ℕ, true, false, List, [], ◌∷◌, Option, None, Some}
use Rattle.mg_base.specs.declared.transaction.TxState.TheVariants.{Active}
use Rattle.mg_model.specs.declared.answer.Answer.{Answer}
use Rattle.mg_model.specs.declared.opening.Opening.{Opening}
use Rattle.mg_model.specs.Answers.{is_open}
use Rattle.mg_model.specs.Effects.{is_its}
use Rattle.mg_model.specs.History.{Entries, Entry, effect_of, transaction_of}
use Rattle.mg_model.specs.Legal.{IsLawful, IsLegal, MayBegin}
use Rattle.mg_model.specs.Machine.{next_after, opening_state, own, state_after, waited_on}
use Rattle.mg_model.specs.Openings.{Each, IsOpening, everyone}
use Rattle.mg_chain.specs.Bases.{live_after}
use Rattle.mg_snap.specs.Live.{is_among, unended_in}
use Rattle.mg_waits.specs.Waits.{Edges, NowWaits}
use Rattle.mg_generation_laws.specs.After.{leaves_versions}
use Rattle.mg_image.specs.Form.{Form, Pages}
use Rattle.mg_image.specs.Inventory.{next_of}
use Rattle.mg_image.specs.Records.{Reading}
use Rattle.mg_image.specs.Sound.{IsSoundBy}
use Rattle.mg_image.specs.Tables.{Layout}
use Rattle.mg_image_overlay_laws.specs.records.Fronts.{is_dead}
use Rattle.mg_overlay_laws.specs.Overlays.{left_state}
use Rattle.mg_engine_step_laws.specs.standing.Standing.{FindsTables, Remembers, RemembersOne, ShowsHistory, ShowsIfKnown, Standing, Stands}

-- ---- memory

-- What is in memory of one transaction stays.
pub record KeepsOne (s new : Standing) (t : ℕ) : Type 0 where
  pub mode : new.mode t ≡ s.mode t
  pub session : new.session t ≡ s.session t
  pub undo : new.undo t ≡ s.undo t
  pub number : new.number t ≡ s.number t
  pub table : (name : List ℕ) → new.table t name ≡ s.table t name

-- the wait that an event of a transaction was answered is noted, or its wait is over
abbrev pub Notes : Option ℕ → Answer → Edges → Edges → Type 0
Notes None answer old new = (t : ℕ) → new t ≡ old t
Notes (Some t) answer old new = NowWaits old new t (waited_on answer)

-- Memory follows an entry: numbers, states, bases and waits as its effect says, what is known of its own
-- transaction is what the longer history says, and that of each other active one stays.
pub record FollowsEntry (o : Opening) (h : Entries) (e : Entry) (s new : Standing) : Type 0 where
  pub limit : new.limit ≡ s.limit
  pub next : new.next ≡ next_after (effect_of e) s.next
  pub state : (t : ℕ) → new.state t ≡ state_after (effect_of e) t (s.state t)
  pub live : new.live ≡ live_after (effect_of e) (λ t. (s.mode t).snapshot) s.live
  pub waits : Notes (transaction_of e.event) e.answer s.waits new.waits
  pub others : (t : ℕ) → is_its t e ≡ false → s.state t ≡ Active → KeepsOne s new t
  pub its : (t : ℕ) → is_its t e ≡ true → new.state t ≡ Active → RemembersOne o (e ∷ h) new t
  -- the session of one that begins has no other active one
  pub apart : (t u : ℕ) → is_its t e ≡ true → is_its u e ≡ false → new.state t ≡ Active
      → new.state u ≡ Active → new.session t ≢ new.session u

-- so it is what the longer history says
abbrev pub MemoryFollows : Type 0
MemoryFollows = (o : Opening) (h : Entries) (e : Entry) (s new : Standing) → MayBegin o
    → IsLegal o (e ∷ h) → Remembers o h s → FollowsEntry o h e s new → Remembers o (e ∷ h) new

-- Memory is what a history without entries says: the numbers and states of the opening, no bases, and
-- nobody waits.
pub record IsFirst (o : Opening) (s : Standing) : Type 0 where
  pub limit : s.limit ≡ o.limit.0
  pub next : s.next ≡ o.next.0
  pub state : (t : ℕ) → s.state t ≡ opening_state o t
  pub live_next : s.live.next ≡ o.next.0
  pub unended : (t : ℕ) → is_among (unended_in s.live) t ≡ is_open (opening_state o t)
  pub no_bases : Each (λ e. e.base ≡ None) s.live.entered
  pub waits : (t : ℕ) → s.waits t ≡ None

abbrev pub MemoryBegins : Type 0
MemoryBegins = (o : Opening) (s : Standing) → IsOpening o → IsFirst o s → Remembers o [] s

-- ---- pages

-- a transaction goes on to find its tables where it found them: it sees the same, and has changed the same
pub record KeepsTables (o : Opening) (h : Entries) (e : Entry) (s new : Standing) (t : ℕ) : Type 0 where
  pub active : s.state t ≡ Active
  pub own_same : own o (e ∷ h) t ≡ own o h t
  pub number : new.number t ≡ s.number t
  pub table : (name : List ℕ) → new.table t name ≡ s.table t name

-- each active one does, but for that of the entry
abbrev pub OthersKeepTables : Type 0
OthersKeepTables = (o : Opening) (h : Entries) (e : Entry) (s new : Standing)
    → FollowsEntry o h e s new → (t : ℕ) → is_its t e ≡ false → new.state t ≡ Active
    → KeepsTables o h e s new t

-- Pages on which no record is changed: with the layout and the reading under which they were sound before
-- they are so later, the same transactions that were drawn are dead, and each active one finds its tables.
pub record PagesStay (form : Form) (size : ℕ) (o : Opening) (h : Entries) (e : Entry)
    (s new : Standing) (pages later : Pages) : Type 0 where
  pub quiet : leaves_versions (effect_of e) ≡ true
  pub sound : (layout : Layout) (r : Reading)
      → IsSoundBy form size (left_state everyone s.state) pages layout r
      → IsSoundBy form size (left_state everyone new.state) later layout r
  pub alive : (t : ℕ) → t < next_of pages → is_dead (new.state t) ≡ is_dead (s.state t)
  pub next : next_of later ≡ new.next
  pub tables : (layout : Layout) (r : Reading)
      → IsSoundBy form size (left_state everyone new.state) later layout r → (t : ℕ)
      → new.state t ≡ Active → KeepsTables o h e s new t ⊎ FindsTables o (e ∷ h) new layout t

-- they go on to show the history
abbrev pub ShowsOn : Form → Type 0
ShowsOn form = (size : ℕ) (o : Opening) (h : Entries) (e : Entry) (s new : Standing)
    (pages later : Pages) → MayBegin o → IsLegal o (e ∷ h)
    → PagesStay form size o h e s new pages later → ShowsHistory form size o h s pages
    → ShowsHistory form size o (e ∷ h) new later

-- ---- both

-- an engine stands for a history with one entry more, where memory follows it and the pages show it
abbrev pub StandsOn : Form → Type 0
StandsOn form = (size : ℕ) (o : Opening) (h : Entries) (e : Entry) (s new : Standing)
    (pages later : Option Pages) → Stands form size o h s pages → IsLawful o h e
    → FollowsEntry o h e s new → ShowsIfKnown form size o (e ∷ h) new later
    → Stands form size o (e ∷ h) new later
