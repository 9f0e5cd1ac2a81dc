-- The making of a table.
use Rattle.std.proofs.Common.{◌≡◌, ℕ, false, List, ◌++◌, Option, Some, None}
use Rattle.mg_base.specs.declared.numbers.TxNo.{TxNo}
use Rattle.mg_value.specs.declared.shape.Shape.{Shape}
use Rattle.mg_model.specs.declared.opening.Opening.{Opening}
use Rattle.mg_model.specs.declared.refusal.Refusal.{Refusal}
use Rattle.mg_model.specs.History.{Entries}
use Rattle.mg_records.specs.Meaning.{Means}
use Rattle.mg_records.specs.Crashing.{LeavesQuietly}
use Rattle.mg_records.specs.Keeping.{Leaves, MeetsNoDamage}
use Rattle.mg_records.specs.Sessions.{SessionsStay}
use Rattle.mg_records.specs.Writing.{MakesTable, rows_made}
use Rattle.mg_calls.specs.declared.writing.Written.{Written}
use Rattle.mg_calls.specs.declared.writing.Written.TheVariants as written
use Rattle.mg_calls.specs.Quiet.{AreQuiet, GoesOnQuietly}
use Rattle.mg_calls.specs.QuietLaws.{quiet_one}
use Rattle.mg_calls.specs.TableLaws.{inserted_quietly, rows_come}
use Rattle.mg_calls.specs.Tables.{MakesOne, RowsCome}
use Rattle.mg_calls.specs.Undoing.{Undoes, is_waiting}

-- the call's entries come
pub table_comes : {R P : Type 0} (m : Means R P) (old new : R) (t : TxNo) (name : List ℕ)
    (shape : Shape) (refusal : Option Refusal) → MakesTable m old new t name shape refusal
    → (o : Opening) (h : Entries) → m.stands old o h
    → RowsCome m new o h t (rows_made name shape) refusal
table_comes m old new t name shape refusal makes o h stands =
    rows_come m new o t (rows_made name shape) h refusal (makes o h stands)

-- the table is refused, and its statement undone
pub table_undone : {R P : Type 0} (m : Means R P) (old mid new : R) (t : TxNo) (name : List ℕ)
    (shape : Shape) (refusal : Refusal) (result : Written) → is_waiting refusal ≡ false
    → MakesTable m old mid t name shape (Some refusal)
    → ((o : Opening) (h : Entries) → m.stands mid o h → Undoes m new o h t refusal result)
    → (o : Opening) (h : Entries) → m.stands old o h
    → MakesOne m new o h t (rows_made name shape) result
table_undone m old mid new t name shape refusal result final makes undoes o h stands =
    by result (undoes o (come.entries ++ h) come.stands)
  where
    come : RowsCome m mid o h t (rows_made name shape) (Some refusal)
    come = table_comes m old mid t name shape (Some refusal) makes o h stands

    by : (result : Written) → Undoes m new o (come.entries ++ h) t refusal result
        → MakesOne m new o h t (rows_made name shape) result
    by written.Done is = absurd is
    by (written.Waits on) is = absurd is
    by (written.Refused answer) is = record {
      first = refusal;
      final = final;
      entries = come.entries;
      inserted = come.inserted;
      lawful = come.lawful;
      undone = is;
    }
    by (written.RolledBack answer) is = record {
      first = refusal;
      final = final;
      entries = come.entries;
      inserted = come.inserted;
      lawful = come.lawful;
      undone = is;
    }

-- the call alone is quiet
pub quiet_table : {R P : Type 0} (m : Means R P) (old new : R) (t : TxNo) (name : List ℕ)
    (shape : Shape) (refusal tables walks : _) → MakesTable m old new t name shape refusal
    → Leaves m old new refusal tables walks → MeetsNoDamage m old new → LeavesQuietly m old new
    → SessionsStay m old new None None → AreQuiet m old new None
quiet_table m old new t name shape refusal tables walks makes leaves undamaged crash sessions =
    quiet_one m old new refusal None leaves.keeps undamaged crash sessions goes
  where
    goes : GoesOnQuietly m old new
    goes o h stands =
        let come = table_comes m old new t name shape refusal makes o h stands in (
          come.entries ++ h,
          come.stands,
          inserted_quietly t (rows_made name shape) refusal come.entries h come.inserted,
        )
