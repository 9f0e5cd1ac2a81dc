-- What is known of a keeper of records is known of it with the room that openings promise, as far as it speaks of no
-- history that it comes to stand for.
use Rattle.std.specs.Prelude.{ℕ, true, false, Bool, List, Option, Some, None, Result, Ok, Err, IfOk}
use Rattle.mg_base.specs.Image.{Image}
use Rattle.mg_model.specs.declared.answer.Answer.{Answer}
use Rattle.mg_model.specs.declared.change.Point.{Point}
use Rattle.mg_model.specs.declared.event.Event.{Event}
use Rattle.mg_model.specs.declared.refusal.Refusal.{Refusal}
use Rattle.mg_model.specs.declared.refusal.Refusal.TheVariants as refusals
use Rattle.mg_model.specs.declared.table.Table.{Table}
use Rattle.mg_model.specs.Changes.{KeyedRows}
use Rattle.mg_records.specs.declared.found.Found.{Found}
use Rattle.mg_records.specs.Adding.{AnswersAll}
use Rattle.mg_records.specs.Committing.{WritesOne}
use Rattle.mg_records.specs.Crashing.{CrashesHold, HoldsOn, LeavesOnly, LeavesQuietly, LeavesWith}
use Rattle.mg_records.specs.Keeping.{Causes, CommitsStay, Elapses, Keeps, Leaves, MeetsNoDamage}
use Rattle.mg_records.specs.Meaning.{Means}
use Rattle.mg_records.specs.Needed.{with_room}
use Rattle.mg_records.specs.Reading.{IsTableGiven, Nears, TablesAreSeen, TellsTable, Visits, WalksAreWhole}
use Rattle.mg_records.specs.Room.{TakesAtMost, TakesFew, TakesFewBack}
use Rattle.mg_records.specs.Sessions.{SessionsAreOne, SessionsStay}

module _ {R P : Type 0} (m : Means R P) where
  -- ---- of each keeper

  pub seen_with : TablesAreSeen m → TablesAreSeen (with_room m)
  seen_with seen r o h t name table has = seen r o h t name table has.stands

  pub whole_with : WalksAreWhole m → WalksAreWhole (with_room m)
  whole_with whole r o h t table has = whole r o h t table has.stands

  pub crashes_with : CrashesHold m → CrashesHold (with_room m)
  crashes_with crashes r o h has = crashes r o h has.stands

  pub lasts_with : HoldsOn m → HoldsOn (with_room m)
  lasts_with lasts = record {
    more = lasts.more;
    fewer = lasts.fewer;
    longer = λ r o h e least c has. lasts.longer r o h e least c has.stands;
    least = lasts.least;
  }

  pub one_with : SessionsAreOne m → SessionsAreOne (with_room m)
  one_with one = one

  -- ---- what a call is refused by

  module _ (old new : R) where
    causes_with : (refusal : Option Refusal) → Causes m old new refusal → Causes (with_room m) old new refusal
    causes_with None cause = tt
    causes_with (Some (refusals.DiskRead count)) cause = cause
    causes_with (Some (refusals.DiskWrite count)) cause = cause
    causes_with (Some (refusals.Damaged page field found wanted)) cause = cause
    causes_with (Some (refusals.DatabaseFull limit)) cause = cause
    causes_with (Some (refusals.Offline count)) cause = cause
    causes_with (Some (refusals.UpdateConflict by)) cause = tt
    causes_with (Some (refusals.LockConflict by)) cause = tt
    causes_with (Some (refusals.Waits on)) cause = tt
    causes_with (Some (refusals.Deadlock by)) cause = tt
    causes_with (Some (refusals.InLimbo by)) cause = tt
    causes_with (Some refusals.DuplicateKey) cause = tt
    causes_with (Some refusals.NoRow) cause = tt
    causes_with (Some refusals.ReadOnly) cause = tt
    causes_with (Some refusals.NoTransaction) cause = tt
    causes_with (Some (refusals.NotActive state)) cause = tt
    causes_with (Some refusals.NoTable) cause = tt
    causes_with (Some refusals.TableExists) cause = tt
    causes_with (Some (refusals.RowTooLong len limit)) cause = tt
    causes_with (Some refusals.TransactionLimit) cause = tt
    causes_with (Some (refusals.NotADatabase field found)) cause = tt
    causes_with (Some refusals.Memory) cause = tt

    elapses_with : Elapses m old new → Elapses (with_room m) old new
    elapses_with time = record { later = time.later; keeps = time.keeps }

    pub keeps_with : (refusal : Option Refusal) → Keeps m old new refusal → Keeps (with_room m) old new refusal
    keeps_with refusal kept = record {
      faults = kept.faults;
      damage = kept.damage;
      shortages = kept.shortages;
      cause = causes_with refusal kept.cause;
      offline = kept.offline;
      down = kept.down;
      tells = kept.tells;
      most_writes = kept.most_writes;
      time = λ told. elapses_with (kept.time told);
      page_limit = kept.page_limit;
      sizes = kept.sizes;
      holds = kept.holds;
      given = kept.given;
      places = kept.places;
    }

    -- ---- what goes on as it was

    pub commits_with : (who : Option ℕ) → CommitsStay m old new who → CommitsStay (with_room m) old new who
    commits_with who stay = record { asked = stay.asked; written = stay.written }

    pub leaves_with : (refusal : Option Refusal) (tables walks : Option ℕ) → Leaves m old new refusal tables walks
        → Leaves (with_room m) old new refusal tables walks
    leaves_with refusal tables walks leaves = record {
      keeps = keeps_with refusal leaves.keeps;
      tables_stay = leaves.tables_stay;
      walks_stay = leaves.walks_stay;
      commits = commits_with walks leaves.commits;
    }

    pub sessions_with : (begins ends : Option ℕ) → SessionsStay m old new begins ends
        → SessionsStay (with_room m) old new begins ends
    sessions_with begins ends stay = record { free = stay.free; works = stay.works; ended = stay.ended }

    pub undamaged_with : MeetsNoDamage m old new → MeetsNoDamage (with_room m) old new
    undamaged_with none o h has = none o h has.stands

    -- ---- free pages

    taken_with : (refusal : Option Refusal) (most : ℕ) → TakesAtMost m old new refusal most
        → TakesAtMost (with_room m) old new refusal most
    taken_with refusal most takes = record { left = takes.left; enough = takes.enough }

    pub room_with : (refusal : Option Refusal) (most : ℕ) → TakesFew m old new refusal most
        → TakesFew (with_room m) old new refusal most
    room_with refusal most takes o h has told = taken_with refusal most (takes o h has.stands told)

    pub back_with : (refusal : Option Refusal) (t : ℕ) (point : Point) → TakesFewBack m old new refusal t point
        → TakesFewBack (with_room m) old new refusal t point
    back_with refusal t point takes o h has told =
        let it = takes o h has.stands told in record { left = it.left; enough = it.enough }

    -- ---- what a crash leaves

    only_with : (Q : Image → Type 0) → LeavesOnly m old new Q → LeavesOnly (with_room m) old new Q
    only_with Q only = record { each = only.each; before = only.before }

    pub quietly_with : LeavesQuietly m old new → LeavesQuietly (with_room m) old new
    quietly_with leaves o h has told =
        let it = leaves o h has.stands told in record { each = it.each; before = it.before }

    pub crash_with : (event : Event) (answer : Answer) → LeavesWith m old new event answer
        → LeavesWith (with_room m) old new event answer
    crash_with event answer leaves o h has told =
        let it = leaves o h has.stands told in record { each = it.each; before = it.before }

    -- ---- answers

    pub written_with : (t : ℕ) (result : Result Bool Refusal) → WritesOne m old new t result
        → WritesOne (with_room m) old new t result
    written_with t (Ok true) one = one
    written_with t (Ok false) one = one
    written_with t (Err refusal) one = one

    pub nears_with : (t : ℕ) (table : Table) (after : Option P) (result : Result (Option (Found P)) Refusal)
        → Nears m old new t table after result → Nears (with_room m) old new t table after result
    nears_with t table after (Ok (Some found)) nears = nears
    nears_with t table after (Ok None) nears = tt
    nears_with t table after (Err refusal) nears = tt

  module _ (r : R) where
    pub answers_with : {T : Type 0} (t : ℕ) (result : Result T Refusal) → AnswersAll m r t result
        → AnswersAll (with_room m) r t result
    answers_with t result answers o h has = answers o h has.stands

    pub visits_with : (t : ℕ) (table : Table) (result : Result (Option (Found P)) Refusal) (rows : KeyedRows)
        → Visits m r t table result rows → Visits (with_room m) r t table result rows
    visits_with t table (Ok None) rows visits = visits
    visits_with t table (Ok (Some found)) rows visits = visits
    visits_with t table (Err refusal) rows visits = tt

    given_is : (t : ℕ) (name : List ℕ) (table : Table) → IsTableGiven m r t name table
        → IsTableGiven (with_room m) r t name table
    given_is t name table given = record {
      named = given.named;
      again = given.again;
      given = given.given;
      few = given.few;
    }

    pub given_with : (t : ℕ) (name : List ℕ) (result : Result Table Refusal) → IfOk result (IsTableGiven m r t name)
        → IfOk result (IsTableGiven (with_room m) r t name)
    given_with t name (Ok table) given = given_is t name table given
    given_with t name (Err refusal) given = tt

    pub table_with : (t : ℕ) (name : List ℕ) (result : Result Table Refusal) → TellsTable m r t name result
        → TellsTable (with_room m) r t name result
    table_with t name (Ok table) tells = λ o h has. tells o h has.stands
    table_with t name (Err refusals.NoTable) tells = λ o h has. tells o h has.stands
    table_with t name (Err (refusals.DiskRead count)) tells = λ o h has. tells o h has.stands
    table_with t name (Err (refusals.DiskWrite count)) tells = λ o h has. tells o h has.stands
    table_with t name (Err (refusals.Damaged page field found wanted)) tells = λ o h has. tells o h has.stands
    table_with t name (Err (refusals.DatabaseFull limit)) tells = λ o h has. tells o h has.stands
    table_with t name (Err (refusals.Offline count)) tells = λ o h has. tells o h has.stands
    table_with t name (Err (refusals.UpdateConflict by)) tells = λ o h has. tells o h has.stands
    table_with t name (Err (refusals.LockConflict by)) tells = λ o h has. tells o h has.stands
    table_with t name (Err (refusals.Waits on)) tells = λ o h has. tells o h has.stands
    table_with t name (Err (refusals.Deadlock by)) tells = λ o h has. tells o h has.stands
    table_with t name (Err (refusals.InLimbo by)) tells = λ o h has. tells o h has.stands
    table_with t name (Err refusals.DuplicateKey) tells = λ o h has. tells o h has.stands
    table_with t name (Err refusals.NoRow) tells = λ o h has. tells o h has.stands
    table_with t name (Err refusals.ReadOnly) tells = λ o h has. tells o h has.stands
    table_with t name (Err refusals.NoTransaction) tells = λ o h has. tells o h has.stands
    table_with t name (Err (refusals.NotActive state)) tells = λ o h has. tells o h has.stands
    table_with t name (Err refusals.TableExists) tells = λ o h has. tells o h has.stands
    table_with t name (Err (refusals.RowTooLong len limit)) tells = λ o h has. tells o h has.stands
    table_with t name (Err refusals.TransactionLimit) tells = λ o h has. tells o h has.stands
    table_with t name (Err (refusals.NotADatabase field found)) tells = λ o h has. tells o h has.stands
    table_with t name (Err refusals.Memory) tells = λ o h has. tells o h has.stands
