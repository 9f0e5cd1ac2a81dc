-- How the versions of a record are passed, from the newest committed one on: each is kept or dropped.
use Rattle.std.specs.Prelude.{◌≡◌, ℕ, ◌≤◌, Bool, true, false, List, [], ◌∷◌, ◌++◌, length, Option, None, Some}
use Rattle.mg_base.specs.Disk.{Meaning}
use Rattle.mg_base.specs.Image.{Image}
use Rattle.mg_base.specs.declared.numbers.PageNo.{PageNo}
use Rattle.mg_base.specs.declared.numbers.RecId.{RecId}
use Rattle.mg_base.specs.declared.transaction.TxState.{TxState}
use Rattle.mg_chain.specs.Chains.{Meets}
use Rattle.mg_chain.specs.Dropping.{DropsBehind, RefusesDrop}
use Rattle.mg_chain.specs.Refusals.{RefusesVersion}
use Rattle.mg_chain.specs.Writing.{link_to}
use Rattle.mg_image.specs.Form.{Pages}
use Rattle.mg_image.specs.Records.{cells_of}
use Rattle.mg_image.specs.declared.entry.Entry.{Entry}
use Rattle.mg_model.specs.Answers.{is_committed}
use Rattle.mg_pool.specs.Fault.{StaysOnline}
use Rattle.mg_pool.specs.Pool.{IsPool, shown}
use Rattle.mg_pool.specs.declared.pool.Pool.{Pool}
use Rattle.mg_batches.specs.Batches.{ChangesOwn, FailsOwn, nothing_yet}
use Rattle.mg_snap.specs.Live.{State, needed}
use Rattle.mg_space.specs.View.{KeepsStore, Tells}
use Rattle.mg_space.specs.declared.fault.SpaceFault.{SpaceFault}
use Rattle.mg_space.specs.declared.links.FireLinks.{FireLinks}
use Rattle.mg_version.specs.declared.cell.Link.{Link}
use Rattle.mg_version.specs.declared.cell.Version.{Version}
use Rattle.mg_collecting.specs.Leaving.{HasInOrder, LeavesTold, first_link}
use Rattle.mg_collecting.specs.Remaining.{needed_behind, without_unneeded}
use Rattle.mg_collecting.specs.Steps.{FailsReading, Steps}
use Rattle.mg_collecting.specs.declared.passing.Passed.{Passed}
use Rattle.mg_collecting.specs.declared.passing.Stand.{Stand}

-- ---- one version is dropped

-- the version that a link meets leads nowhere
pub record LeadsNowhere (view : Pages) (l : Link) : Type 0 where
  pub version : Version
  pub meets : Meets (cells_of view) l version
  pub ends : version.back ≡ None

-- The version behind another one is dropped in a batch of its own, or there is none.
abbrev pub DropsOwn : {D : Type 0} → Meaning D → Pool D FireLinks → Pool D FireLinks → Link → Bool → Type 0
DropsOwn m before after newer true =
    (gone : Link) × ChangesOwn m before after (λ image batch. DropsBehind before image nothing_yet batch newer gone)
DropsOwn m before after newer false = KeepsStore m before after × StaysOnline m before after
    × ((image : Image) → Tells m before.disk image → LeadsNowhere (shown before.dirty image) newer)

-- it is not dropped
abbrev pub FailsDrop : {D : Type 0} → Meaning D → Pool D FireLinks → Pool D FireLinks → PageNo → Link → SpaceFault
    → Type 0
FailsDrop m before after holder newer fault =
    FailsOwn m before after (λ image batch. (gone : Link) × DropsBehind before image nothing_yet batch newer gone)
    (λ image f. RefusesDrop m before after image nothing_yet holder.0 newer f) fault

-- ---- one version is passed

-- A version is passed that stands behind another one: it is kept, or it is dropped.
pub data Passes {D : Type 0} (m : Meaning D) (before after : Pool D FireLinks) (live : State) (at : Stand)
    (older : Link) (passed : Passed) : Type 0 where
  keeps_it : (version : Version) → needed live at.newer.0 older.tx.0 ≡ true → KeepsStore m before after
      → StaysOnline m before after
      → ((image : Image) → Tells m before.disk image → Meets (cells_of (shown before.dirty image)) older version)
      → passed ≡ record {
        stand = record { holder = at.kept.rec.page; kept = older; newer = older.tx; next = version.back };
        gone = false;
      }
      → Passes m before after live at older passed
  drops_it : (version : Version) (ready : Pool D FireLinks) (gone : Bool)
      → needed live at.newer.0 older.tx.0 ≡ false → KeepsStore m before ready → StaysOnline m before ready
      → ((image : Image) → Tells m before.disk image → Meets (cells_of (shown before.dirty image)) older version)
      → DropsOwn m ready after at.kept gone
      → passed ≡ record {
        stand = record { holder = at.holder; kept = at.kept; newer = older.tx; next = version.back };
        gone = gone;
      }
      → Passes m before after live at older passed

-- it is not read, or it is not dropped
pub data FailsPass {D : Type 0} (m : Meaning D) (before after : Pool D FireLinks) (at : Stand) (older : Link)
    (fault : SpaceFault) : Type 0 where
  unread : FailsReading m before after
      (λ image f. RefusesVersion m after [] (shown before.dirty image) at.kept.rec.page.0 older f) fault
      → FailsPass m before after at older fault
  undropped : (ready : Pool D FireLinks) → KeepsStore m before ready → StaysOnline m before ready
      → FailsDrop m ready after at.holder at.kept fault → FailsPass m before after at older fault

-- ---- where the pass stands

-- the page where the link to the first version stands that comes behind these
abbrev pub holder_of : ℕ → List Entry → ℕ
holder_of page [] = page
holder_of page (e ∷ es) = holder_of e.at.page.0 es

-- A list of versions is passed up to one that is committed and stays: what stands in front of it stays, and of those
-- behind it what is needed behind the version that was passed last.
pub record StandsAt (state : ℕ → TxState) (live : State) (rec : RecId) (all now : List Entry) (at : Stand) : Type 0 where
  pub front : List Entry
  pub kept : Entry
  pub rest : List Entry
  pub now_is : now ≡ front ++ kept ∷ rest
  pub goal : without_unneeded state live all ≡ front ++ kept ∷ needed_behind state live at.newer.0 rest
  pub holder : holder_of rec.page.0 front ≡ at.holder.0
  pub link : at.kept ≡ link_to kept.at kept.version.tx
  pub next : at.next ≡ first_link rest
  pub committed : is_committed (state kept.version.tx.0) ≡ true
  pub covered : needed live kept.version.tx.0 at.newer.0 ≡ false

-- Where a record's versions are passed first: at the newest committed one, if it is the newest or the second. If not, all
-- stay.
abbrev pub StartsAt : (ℕ → TxState) → State → RecId → List Entry → Option Stand → Type 0
StartsAt state live rec es None = without_unneeded state live es ≡ es
StartsAt state live rec es (Some at) = StandsAt state live rec es es at

-- Of these versions some are left by now, and the pass stands among them, with so many at most behind it.
pub record IsPassed (state : ℕ → TxState) (live : State) (rec : RecId) (old now : Pages) (es : List Entry)
    (gone : Bool) (at : Stand) (most : ℕ) : Type 0 where
  pub left : List Entry
  pub leaves : LeavesTold old now rec es left gone
  pub stands : StandsAt state live rec es left at
  pub few : length stands.rest ≤ most

-- Some versions of a record were passed, and so many at most are left to be passed.
pub record HasPassed {D : Type 0} (m : Meaning D) (start now : Pool D FireLinks) (state : ℕ → TxState) (live : State)
    (rec : RecId) (gone : Bool) (at : Stand) (most : ℕ) : Type 0 where
  pub pool : IsPool m now
  pub geometry : now.geometry ≡ start.geometry
  pub steps : Steps m state live rec start gone now
  pub passed : (i j : Image) → Tells m start.disk i → Tells m now.disk j → (es : List Entry)
      → HasInOrder (cells_of (shown start.dirty i)) rec es
      → IsPassed state live rec (shown start.dirty i) (shown now.dirty j) es gone at most
