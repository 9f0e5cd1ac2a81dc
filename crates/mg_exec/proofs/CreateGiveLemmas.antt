-- Each step of CREATE TABLE gives what it says next.
use Rattle.std.proofs.Common.{◌≡◌, true, List, [], ◌∷◌, ◌++◌, Option, Some, Err, inl, inr, refl, sym, ap, subst}
use Rattle.mg_base.specs.declared.numbers.TxNo.{TxNo}
use Rattle.mg_model.specs.declared.answer.Answer.TheVariants.{Fine, No}
use Rattle.mg_model.specs.declared.event.Event.TheVariants as events
use Rattle.mg_model.specs.declared.opening.Opening.{Opening}
use Rattle.mg_model.specs.declared.refusal.Refusal.{Refusal}
use Rattle.mg_model.specs.declared.refusal.Refusal.TheVariants.{Waits}
use Rattle.mg_model.specs.Catalog.{catalog_name}
use Rattle.mg_model.specs.Changes.{Cells}
use Rattle.mg_model.specs.History.{Entries, entry}
use Rattle.mg_records.specs.Meaning.{Means}
use Rattle.mg_records.specs.Writing.{rows_made}
use Rattle.mg_rows.specs.declared.statement_fault.StatementFault.TheVariants.{Engine}
use Rattle.mg_calls.specs.declared.writing.Written.{Written}
use Rattle.mg_calls.specs.declared.writing.Written.TheVariants as written
use Rattle.mg_calls.specs.TableLaws.{inserted_quietly}
use Rattle.mg_calls.specs.Tables.{AreInserted, MakesOne, MarksAndMakes, none_left, one_came, one_refused}
use Rattle.mg_exec.specs.declared.phase.NewTable.{NewTable}
use Rattle.mg_exec.specs.declared.phase.Turn.{Turn}
use Rattle.mg_exec.specs.Creating.{Creates, Retries, turned_table}
use Rattle.mg_exec.specs.Statements.{Asked, Gives, HasTried, IsToMake, LetsGoOn, created, its_look, mark_set, no_mark, not_created, tried}
use Rattle.mg_exec.proofs.EntryLemmas.{goes_after, gives_after, gives_behind, one_more, over, refused_gives, rolled_by, undone_by}

-- the last entry of a try that waits is the one that waits
waits_last : (t : TxNo) (rows : List Cells) (told : Option Refusal) (on : TxNo) (more : Entries)
    → AreInserted t rows told more → told ≡ Some (Waits on) → LetsGoOn more (Err (Engine (Waits on)))
waits_last t rows told on more none_left is = absurd cc
waits_last t rows told on more (one_came {rows = rest} {more = behind} row came) is =
    goes_after behind (entry (events.Insert t catalog_name row) Fine ∷ []) (Err (Engine (Waits on)))
    (waits_last t rest told on behind came is)
waits_last t rows told on more (one_refused row rest stop) is = ap No (inside stop (Waits on) is)
  where
    inside : (a b : Refusal) → ◌≡◌ {A = Option Refusal} (Some a) (Some b) → a ≡ b
    inside a b same = cc

-- its table is made, waits, or is refused
pub making : {R P : Type 0} (m : Means R P) (new : R) (o : Opening) (looked h : Entries) (a : Asked)
    (table : NewTable) (given : Entries) (result : Written) → IsToMake o looked a table.name table.shape
    → HasTried a.t (rows_made table.name table.shape) (its_look a) given
    → MakesOne m new o h a.t (rows_made table.name table.shape) result
    → Gives {P = P} m new o looked h a given (turned_table table result)
making m new o looked h a table given written.Done is was come = record {
  more = come.entries;
  lawful = come.lawful;
  quietly = inserted_quietly a.t (rows_made table.name table.shape) _ come.entries h come.inserted;
  stands = come.stands;
  so = created table.name table.shape given come.entries is was come.inserted refl refl;
  goes_on = over true refl;
}
making m new o looked h a table given (written.Waits on) is was come = record {
  more = come.entries;
  lawful = come.lawful;
  quietly = inserted_quietly a.t (rows_made table.name table.shape) _ come.entries h come.inserted;
  stands = come.stands;
  so = (is, tried on was come.inserted);
  goes_on = λ on_. waits_last a.t (rows_made table.name table.shape) (Some (Waits on)) on come.entries
      come.inserted refl;
}
making m new o looked h a table given (written.Refused answer) is was come =
    let u = undone_by m new o (come.entries ++ h) a.t come.first answer come.undone in
    gives_after m new o looked h a given come.entries _ come.lawful
    (inserted_quietly a.t (rows_made table.name table.shape) (Some come.first) come.entries h come.inserted)
    (refused_gives m new o looked (come.entries ++ h) a (come.entries ++ given) _ come.first answer u
    (not_created table.name table.shape given come.entries u.undoing (come.entries ++ h) come.first answer
    is was come.inserted come.final refl u.by refl refl) refl)
making m new o looked h a table given (written.RolledBack answer) is was come =
    let u = rolled_by m new o (come.entries ++ h) a.t come.first answer come.undone in
    gives_after m new o looked h a given come.entries _ come.lawful
    (inserted_quietly a.t (rows_made table.name table.shape) (Some come.first) come.entries h come.inserted)
    (refused_gives m new o looked (come.entries ++ h) a (come.entries ++ given) _ come.first answer u.0 (
      not_created table.name table.shape given come.entries u.0.undoing (come.entries ++ h) come.first answer
          is was come.inserted come.final refl u.0.by refl refl,
      u.1,
    ) refl)

pub retrying : {R P : Type 0} (m : Means R P) (new : R) (o : Opening) (looked h : Entries) (a : Asked)
    (table : NewTable) (given : Entries) (turn : Turn P) → IsToMake o looked a table.name table.shape
    → HasTried a.t (rows_made table.name table.shape) (its_look a) given
    → Retries m new o h a.t table turn → Gives m new o looked h a given turn
retrying {P = P} m new o looked h a table given turn is was tries =
    subst (λ (turn : Turn P). Gives m new o looked h a given turn) (sym tries.stands_so)
    (making m new o looked h a table given tries.result is was tries.makes)

-- its mark is set, and its table made
marking : {R P : Type 0} (m : Means R P) (new : R) (o : Opening) (looked h : Entries) (a : Asked)
    (table : NewTable) (result : Written) → IsToMake o looked a table.name table.shape
    → MarksAndMakes m new o h a.t (rows_made table.name table.shape) result
    → Gives {P = P} m new o looked h a (its_look a) (turned_table table result)
marking {P = P} m new o looked h a table result is (inl refused) =
    subst (λ (result : Written). Gives {P = P} m new o looked h a (its_look a) (turned_table table result))
    (sym refused.1)
    (one_more m new o looked h a _ _ _ refl refused.2.lawful refused.2.stands
    (no_mark table.name table.shape refused.0 is refl refl) (over true refl))
marking m new o looked h a table result is (inr goes) =
    gives_behind m new o looked h a (its_look a) (entry (events.Mark a.t) Fine) _ refl goes.0
    (making m new o looked (entry (events.Mark a.t) Fine ∷ h) a table
    (entry (events.Mark a.t) Fine ∷ its_look a) result is mark_set goes.1)

pub creating : {R P : Type 0} (m : Means R P) (new : R) (o : Opening) (looked h : Entries) (a : Asked)
    (table : NewTable) (turn : Turn P) → IsToMake o looked a table.name table.shape
    → Creates m new o h a.t table turn → Gives m new o looked h a (its_look a) turn
creating {P = P} m new o looked h a table turn is creates =
    subst (λ (turn : Turn P). Gives m new o looked h a (its_look a) turn) (sym creates.stands_so)
    (marking m new o looked h a table creates.result is creates.makes)
