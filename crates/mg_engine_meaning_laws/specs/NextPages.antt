-- A dirty page is written, as a keeper of records owes it.
use Rattle.std.specs.Prelude.{◌≡◌, ◌≤◌, ◌+◌, Option, None, Some, Result, Ok, Err}
use Rattle.mg_base.specs.Disk.{Meaning}
use Rattle.mg_base.specs.declared.numbers.PageNo.{PageNo}
use Rattle.mg_model.specs.declared.refusal.Refusal.{Refusal}
use Rattle.mg_records.specs.Crashing.{LeavesQuietly}
use Rattle.mg_records.specs.Keeping.{Reads, refusal_in}
use Rattle.mg_records.specs.Meaning.{Means}
use Rattle.mg_records.specs.Sessions.{SessionsStay}
use Rattle.mg_core.specs.declared.parts.Core.{Core}
use Rattle.mg_core.specs.Committing.{WritesPage}
use Rattle.mg_core.specs.Cores.{IsCore}
use Rattle.mg_engine_meaning_laws.specs.Meaning.{Places, means}

-- one page less is unwritten; where none was, nothing has changed; where a page write failed no more are than before
abbrev pub WritesNext : {R P : Type 0} → Means R P → R → R → Result (Option PageNo) Refusal → Type 0
WritesNext m old new (Ok None) = (m.unwritten old ≡ 0) × (new ≡ old)
WritesNext m old new (Ok (Some page)) = m.unwritten old ≡ m.unwritten new + 1
WritesNext m old new (Err refusal) = m.unwritten new ≤ m.unwritten old

-- A page write adds no entry: all goes on as it was, and each crash leaves the history.
pub record WritesPages {D P : Type 0} (m : Meaning D) (places : Places P) (old new : Core D)
    (result : Result (Option PageNo) Refusal) : Type 0 where
  pub next : WritesNext (means m places) old new result
  pub reads : Reads (means m places) old new (refusal_in result) None
  pub crash : LeavesQuietly (means m places) old new
  pub sessions : SessionsStay (means m places) old new None None

abbrev pub NextPagesGoOn : (D P : Type 0) → Meaning D → Type 0
NextPagesGoOn D P m = (places : Places P) (old new : Core D) (result : Result (Option PageNo) Refusal)
    → IsCore m old → WritesPage m old new result → WritesPages m places old new result
