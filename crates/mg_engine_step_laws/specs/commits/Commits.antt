-- A transaction is committed: its bits are changed, written and settled, and the engine stands for the history
-- with the commit. Or a page write failed.
use Rattle.std.specs.Prelude.{◌≡◌, ℕ, true, false, ◌∷◌, None, Some}
use Rattle.mg_base.specs.Disk.{Meaning}
use Rattle.mg_base.specs.Image.{Image}
use Rattle.mg_base.specs.declared.numbers.TxNo.{TxNo}
use Rattle.mg_base.specs.declared.transaction.TxState.TheVariants.{Active, Committed}
use Rattle.mg_model.specs.declared.event.Event.TheVariants.{Commit}
use Rattle.mg_model.specs.declared.opening.Opening.{Opening}
use Rattle.mg_model.specs.History.{Ends, Entries, Entry, effect_of}
use Rattle.mg_model.specs.Legal.{IsLawful, is_durable}
use Rattle.mg_image.specs.Form.{Form}
use Rattle.mg_pool.specs.Dirty.{DirtyPages, IsLeastPage, is_marked}
use Rattle.mg_pool.specs.Pool.{IsPool, shown}
use Rattle.mg_pool.specs.declared.fault.PoolFault.TheVariants as faults
use Rattle.mg_pool.specs.declared.pool.Pool.{Pool}
use Rattle.mg_pool_overlay_laws.specs.Needs.{Asked, Sessions}
use Rattle.mg_space.specs.View.{Tells}
use Rattle.mg_txlist.specs.Ending.{CommitsBits, FailsCommit}
use Rattle.mg_txlist.specs.declared.list.TxList.{TxList}
use Rattle.mg_tie_laws.specs.CommitTies.{ShowsTip}
use Rattle.mg_lasting_laws.specs.Crashes.{LeavesHistory, may_last}
use Rattle.mg_lasting_laws.specs.Lasting.{LastsOn, LeftOn}
use Rattle.mg_engine_step_laws.specs.standing.Following.{FollowsEntry}
use Rattle.mg_engine_step_laws.specs.standing.QuietPages.{FindsAfter}
use Rattle.mg_engine_step_laws.specs.standing.Standing.{Standing, Stands}
use Rattle.mg_engine_step_laws.specs.commits.ListShows.{ListShows}
use Rattle.mg_engine_step_laws.specs.commits.PageWrites.{KeepAsking}

-- ---- what is asked

-- A transaction has asked for its commit, and each page that was marked for it then is written.
pub record HasNoneLeft (dirty : DirtyPages) (asked : Asked) (session : Sessions) (t : ℕ) : Type 0
  where
    pub has_asked : asked t ≡ true
    pub none_marked : IsLeastPage (λ page. is_marked dirty page (session t)) None

-- The transaction list has set the bits of a transaction on its page, which was written, and the disk was
-- settled. The list had the page as the cache shows it, and the disk tells its images.
pub record CommitsOver {D L : Type 0} (m : Meaning D) (old now : TxList) (before after : Pool D L)
    (i j : Image) (t : ℕ) : Type 0 where
  pub pool : IsPool m before
  pub commits : CommitsBits m old now before after t
  pub tells : Tells m before.disk i
  pub held : m.held after.disk ≡ Some j
  pub shows : ShowsTip old before.geometry.size (shown before.dirty i) t

-- ---- what comes of it

-- The engine stands for the history with the entry, its cache lasts with it, and each crash since then left
-- the history with the entry or without it; at the end none leaves it without. If the list had all pages of
-- transactions as the cache showed them, it goes on so.
pub record HasEnded {D L : Type 0} (m : Meaning D) (form : Form) (size : ℕ) (o : Opening)
    (h : Entries) (e : Entry) (new : Standing) (old now : TxList) (before after : Pool D L) (i j : Image)
    (asked : Asked) (session : Sessions) : Type 0 where
  pub stands : Stands form size o (e ∷ h) new (Some (shown after.dirty j))
  pub lasts : LastsOn m form o (e ∷ h) after asked session
  pub leaves : LeavesHistory m before.disk after.disk form before.dirty.size o h (e ∷ h)
  pub lists : ListShows old size (shown before.dirty i) → ListShows now size (shown after.dirty j)

-- a transaction is committed that has no page left to be written
abbrev pub CommitsGoOn : (D L : Type 0) → Meaning D → Form → Type 0
CommitsGoOn D L m form = (o : Opening) (h : Entries) (e : Entry) (t : ℕ) (s new : Standing)
    (old now : TxList) (before after : Pool D L) (i j : Image) (asked now_asked : Asked)
    (session now_session : Sessions)
    → Stands form before.geometry.size o h s (Some (shown before.dirty i))
    → LastsOn m form o h before asked session → HasNoneLeft before.dirty asked session t
    → CommitsOver m old now before after i j t
    → IsLawful o h e → is_durable e ≡ true → may_last e ≡ false → effect_of e ≡ Ends t Committed
    → s.state t ≡ Active → KeepAsking o (e ∷ h) asked now_asked session now_session
    → FollowsEntry o h e s new
    → FindsAfter form before.geometry.size o h e s new (shown after.dirty j)
    → HasEnded m form before.geometry.size o h e new old now before after i j now_asked now_session

-- ---- a page write that failed

-- A commit was under way whose bits were not changed, not written or not settled, since a page write failed:
-- the event is answered so, memory is as before, and each crash since then left the history with the event
-- taken as effective, or without it.
pub record HasFailed {D L : Type 0} (m : Meaning D) (form : Form) (size : ℕ) (o : Opening)
    (h : Entries) (e : Entry) (new : Standing) (before after : Pool D L) : Type 0 where
  pub stands : Stands form size o (e ∷ h) new None
  pub lasts : LeftOn m form o (e ∷ h) after
  pub leaves : LeavesHistory m before.disk after.disk form before.dirty.size o h (e ∷ h)

-- a commit's page writes failed
abbrev pub CommitsFail : (D L : Type 0) → Meaning D → Form → Type 0
CommitsFail D L m form = (o : Opening) (h : Entries) (e : Entry) (t : TxNo) (s new : Standing)
    (old : TxList) (before after : Pool D L) (i : Image) (n : ℕ) (asked : Asked) (session : Sessions)
    → Stands form before.geometry.size o h s (Some (shown before.dirty i))
    → LastsOn m form o h before asked session → HasNoneLeft before.dirty asked session t.0
    → IsPool m before → FailsCommit m old before after t.0 (faults.DiskWrite n)
    → Tells m before.disk i → m.tells after.disk ≡ true
    → ShowsTip old before.geometry.size (shown before.dirty i) t.0
    → IsLawful o h e → e.event ≡ Commit t → may_last e ≡ true → s.state t.0 ≡ Active
    → FollowsEntry o h e s new
    → HasFailed m form before.geometry.size o h e new before after
