-- What becomes of pages on which no record is changed: idle entries, a number drawn, a commit.
use Rattle.std.specs.Prelude.{◌≡◌, ◌⊎◌, ℕ, true, ◌∷◌}
use Rattle.mg_base.specs.declared.transaction.TxState.{TxState}
use Rattle.mg_base.specs.declared.transaction.TxState.TheVariants.{Active, Committed}
use Rattle.mg_model.specs.declared.event.Mode.{Mode}
use Rattle.mg_model.specs.declared.opening.Opening.{Opening}
use Rattle.mg_model.specs.History.{Begins, Ends, Entries, Entry, effect_of}
use Rattle.mg_model.specs.Legal.{IsLegal, MayBegin}
use Rattle.mg_model.specs.Openings.{everyone}
use Rattle.mg_generation_laws.specs.After.{leaves_versions}
use Rattle.mg_image.specs.Form.{Form, Pages}
use Rattle.mg_image.specs.Inventory.{next_of}
use Rattle.mg_image.specs.Records.{Reading}
use Rattle.mg_image.specs.Sound.{IsSoundBy}
use Rattle.mg_image.specs.Tables.{Layout}
use Rattle.mg_overlay_laws.specs.Overlays.{left_state}
use Rattle.mg_engine_step_laws.specs.standing.Following.{FollowsEntry, KeepsTables}
use Rattle.mg_engine_step_laws.specs.standing.Standing.{FindsTables, Remembers, ShowsHistory, Standing}

-- Each active transaction finds its tables afterwards: as before, or otherwise, whatever the layout.
abbrev pub FindsAfter : Form → ℕ → Opening → Entries → Entry → Standing → Standing → Pages → Type 0
FindsAfter form size o h e s new later = (layout : Layout) (r : Reading)
    → IsSoundBy form size (left_state everyone new.state) later layout r → (t : ℕ)
    → new.state t ≡ Active → KeepsTables o h e s new t ⊎ FindsTables o (e ∷ h) new layout t

-- pages that are sound stay so, under the same states, with their layout and reading
abbrev pub StaySound : Form → ℕ → (ℕ → TxState) → Pages → Pages → Type 0
StaySound form size state pages later = (layout : Layout) (r : Reading)
    → IsSoundBy form size state pages layout r → IsSoundBy form size state later layout r

-- an entry after which all states, the next number and the pages are as before
abbrev pub IdleShows : Form → Type 0
IdleShows form = (size : ℕ) (o : Opening) (h : Entries) (e : Entry) (s new : Standing) (pages : Pages)
    → MayBegin o → IsLegal o (e ∷ h) → leaves_versions (effect_of e) ≡ true
    → ((t : ℕ) → new.state t ≡ s.state t) → new.next ≡ s.next
    → FindsAfter form size o h e s new pages → ShowsHistory form size o h s pages
    → ShowsHistory form size o (e ∷ h) new pages

-- a transaction begins, and its number is drawn on the pages
abbrev pub BeginShows : Form → Type 0
BeginShows form = (size : ℕ) (o : Opening) (h : Entries) (e : Entry) (t : ℕ) (mode : Mode)
    (s new : Standing) (pages later : Pages) → MayBegin o → IsLegal o (e ∷ h)
    → effect_of e ≡ Begins t mode → Remembers o h s → FollowsEntry o h e s new
    → StaySound form size (left_state everyone new.state) pages later → next_of later ≡ new.next
    → FindsAfter form size o h e s new later → ShowsHistory form size o h s pages
    → ShowsHistory form size o (e ∷ h) new later

-- a transaction is committed, and its bits are changed on the pages
abbrev pub CommitShows : Form → Type 0
CommitShows form = (size : ℕ) (o : Opening) (h : Entries) (e : Entry) (t : ℕ) (s new : Standing)
    (pages later : Pages) → MayBegin o → IsLegal o (e ∷ h) → effect_of e ≡ Ends t Committed
    → s.state t ≡ Active → FollowsEntry o h e s new
    → StaySound form size (left_state everyone new.state) pages later → next_of later ≡ new.next
    → FindsAfter form size o h e s new later → ShowsHistory form size o h s pages
    → ShowsHistory form size o (e ∷ h) new later
