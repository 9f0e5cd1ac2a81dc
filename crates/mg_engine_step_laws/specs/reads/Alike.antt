-- When the walks of a transaction go on although another one has begun, ended or written: it takes the versions that
-- it took, and the pages of the tables that it walks over show it what they showed.
use Rattle.std.specs.Prelude.{◌≡◌, ℕ, Bool, true, false, ◌∷◌, Option}
use Rattle.mg_base.specs.Fields.{byte}
use Rattle.mg_base.specs.declared.numbers.RecId.{RecId}
use Rattle.mg_chain.specs.Chains.{takes_version}
use Rattle.mg_engine_step_laws.specs.standing.Known.{IsShown}
use Rattle.mg_engine_step_laws.specs.reads.Walking.{AreToCome, WalkPlace}
use Rattle.mg_image.specs.Form.{Pages, packed_form}
use Rattle.mg_image.specs.Inventory.{is_used}
use Rattle.mg_image.specs.Records.{Reading, shown}
use Rattle.mg_image.specs.Sound.{IsSoundBy}
use Rattle.mg_image.specs.Tables.{Has, Layout}
use Rattle.mg_model.specs.declared.opening.Opening.{Opening}
use Rattle.mg_model.specs.declared.table.Table.{Table}
use Rattle.mg_model.specs.Changes.{KeyedRows}
use Rattle.mg_model.specs.Effects.{is_its}
use Rattle.mg_model.specs.History.{Entries, Entry}
use Rattle.mg_model.specs.Legal.{IsLegal, MayBegin}
use Rattle.mg_model.specs.Openings.{everyone}
use Rattle.mg_overlay_laws.specs.Overlays.{left_state}
use Rattle.mg_slots.specs.declared.page.TheConstants.{DATA_KIND}
use Rattle.mg_engine_step_laws.specs.standing.Following.{FollowsEntry}
use Rattle.mg_engine_step_laws.specs.standing.Standing.{Remembers, Standing}

-- ---- memory

-- a transaction takes the versions of the same writers as before
abbrev pub TakesAlike : Standing → Standing → ℕ → Type 0
TakesAlike s new u =
    (by : ℕ) → takes_version new.state new.live u by ≡ takes_version s.state s.live u by

-- so does each one whose entry it is not: whoever begins or ends is seen by no other one, before and afterwards
abbrev pub OthersTakeAlike : Type 0
OthersTakeAlike = (o : Opening) (h : Entries) (e : Entry) (s new : Standing) (u : ℕ) → MayBegin o
    → IsLegal o (e ∷ h) → Remembers o h s → FollowsEntry o h e s new → is_its u e ≡ false
    → TakesAlike s new u

-- ---- pages

-- each used data page is as it was
abbrev pub DataPagesStay : ℕ → Pages → Pages → Type 0
DataPagesStay size pages later = (n : ℕ) → is_used size pages n ≡ true → byte (pages n) 0 ≡ DATA_KIND
    → later n ≡ pages n

-- A table that was shown by one layout and is by another stands as it did: on the same data pages, which are as
-- they were, and of each of its records the row that counts is the one that counted.
pub record StandsAlike (counted counts : ℕ → Bool) (pages later : Pages) (a b : Layout) (r q : Reading)
    (table : Table) (was : IsShown a table) (is_ : IsShown b table) : Type 0 where
  pub data_pages : is_.stands.stand.data_pages ≡ was.stands.stand.data_pages
  pub contents : (n : ℕ) → Has was.stands.stand.data_pages n → later n ≡ pages n
  pub rows : (p : RecId) → Has was.stands.stand.data_pages p.page.0
      → shown counts (q p) ≡ shown counted (r p)

-- Pages that are sound under another layout and reading, where a table stands as it did.
pub record GoesAlike (size : ℕ) (s new : Standing) (pages later : Pages) (u : ℕ) (table : Table)
    (a : Layout) (r : Reading) (was : IsShown a table) : Type 0 where
  pub layout : Layout
  pub reading : Reading
  pub sound : IsSoundBy packed_form size (left_state everyone new.state) later layout reading
  pub is_ : IsShown layout table
  pub alike : StandsAlike (takes_version s.state s.live u) (takes_version new.state new.live u) pages later a
      layout r reading table was is_

-- ---- walks

-- a walk goes on over a table that stands as it did
abbrev pub WalksGoAlike : Type 0
WalksGoAlike = (size : ℕ) (s new : Standing) (pages later : Pages) (u : ℕ) (table : Table)
    (after : Option WalkPlace) (rows : KeyedRows)
    → ((layout : Layout) (r : Reading) → IsSoundBy packed_form size (left_state everyone s.state) pages layout r
    → (was : IsShown layout table) → GoesAlike size s new pages later u table layout r was)
    → AreToCome size s pages u table after rows → AreToCome size new later u table after rows

-- so it does where all data pages are as they were, and layout and reading stay
abbrev pub WalksStayOver : Type 0
WalksStayOver = (size : ℕ) (s new : Standing) (pages later : Pages) (u : ℕ) (table : Table)
    (after : Option WalkPlace) (rows : KeyedRows) → TakesAlike s new u → DataPagesStay size pages later
    → ((layout : Layout) (r : Reading) → IsSoundBy packed_form size (left_state everyone s.state) pages layout r
    → IsSoundBy packed_form size (left_state everyone new.state) later layout r)
    → AreToCome size s pages u table after rows → AreToCome size new later u table after rows
