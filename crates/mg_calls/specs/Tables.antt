-- The making of a table by a statement that has set its mark.
use Rattle.std.specs.Prelude.{◌≡◌, ◌⊎◌, List, [], ◌∷◌, ◌++◌, false, Option, Some, None}
use Rattle.mg_base.specs.declared.numbers.TxNo.{TxNo}
use Rattle.mg_model.specs.declared.answer.Answer.TheVariants.{Fine, No}
use Rattle.mg_model.specs.declared.event.Event.TheVariants.{Insert, Mark}
use Rattle.mg_model.specs.declared.opening.Opening.{Opening}
use Rattle.mg_model.specs.declared.refusal.Refusal.{Refusal}
use Rattle.mg_model.specs.declared.refusal.Refusal.TheVariants.{Waits}
use Rattle.mg_model.specs.Catalog.{catalog_name}
use Rattle.mg_model.specs.Changes.{Cells}
use Rattle.mg_model.specs.History.{Entries, entry}
use Rattle.mg_model.specs.Legal.{IsLawful}
use Rattle.mg_records.specs.Meaning.{Means}
use Rattle.mg_calls.specs.declared.writing.Written.{Written}
use Rattle.mg_calls.specs.declared.writing.Written.TheVariants as written
use Rattle.mg_calls.specs.Undoing.{Undoes, is_waiting}
use Rattle.mg_calls.specs.Writes.{Comes}

-- each of these entries is lawful behind those before it
abbrev pub AreLawful : Opening → Entries → Entries → Type 0
AreLawful o h [] = Unit {0}
AreLawful o h (e ∷ more) = IsLawful o (more ++ h) e × AreLawful o h more

-- The entries, the newest first, by which rows come into the catalog one after another: all of them, or
-- those up to one that is refused so.
pub data AreInserted (t : TxNo) : List Cells → Option Refusal → Entries → Type 0 where
  none_left : AreInserted t [] None []
  one_came : {rows : List Cells} {refusal : Option Refusal} {more : Entries} (row : Cells)
      → AreInserted t rows refusal more
      → AreInserted t (row ∷ rows) refusal (more ++ entry (Insert t catalog_name row) Fine ∷ [])
  one_refused : (row : Cells) (rows : List Cells) (refusal : Refusal)
      → AreInserted t (row ∷ rows) (Some refusal) (entry (Insert t catalog_name row) (No refusal) ∷ [])

-- rows came into the catalog, all of them or up to one that was refused so
pub record RowsCome {R P : Type 0} (m : Means R P) (new : R) (o : Opening) (h : Entries) (t : TxNo)
    (rows : List Cells) (refusal : Option Refusal) : Type 0 where
  pub entries : Entries
  pub inserted : AreInserted t rows refusal entries
  pub lawful : AreLawful o h entries
  pub stands : m.stands new o (entries ++ h)

-- one of the rows was refused, and then the statement was undone
pub record RowsComeToNothing {R P : Type 0} (m : Means R P) (new : R) (o : Opening) (h : Entries)
    (t : TxNo) (rows : List Cells) (result : Written) : Type 0 where
  pub first : Refusal
  pub final : is_waiting first ≡ false
  pub entries : Entries
  pub inserted : AreInserted t rows (Some first) entries
  pub lawful : AreLawful o h entries
  pub undone : Undoes m new o (entries ++ h) t first result

-- The rows of a new table come into the catalog; one of them waits, and the making is to be tried again;
-- or one is refused, and the statement is undone, or the transaction rolled back.
abbrev pub MakesOne : {R P : Type 0} → Means R P → R → Opening → Entries → TxNo → List Cells → Written
    → Type 0
MakesOne m new o h t rows written.Done = RowsCome m new o h t rows None
MakesOne m new o h t rows (written.Waits on) = RowsCome m new o h t rows (Some (Waits on))
MakesOne m new o h t rows (written.Refused answer) =
    RowsComeToNothing m new o h t rows (written.Refused answer)
MakesOne m new o h t rows (written.RolledBack answer) =
    RowsComeToNothing m new o h t rows (written.RolledBack answer)

-- the statement's mark is set, and then the rows come; or the mark is refused
abbrev pub MarksAndMakes : {R P : Type 0} → Means R P → R → Opening → Entries → TxNo → List Cells
    → Written → Type 0
MarksAndMakes m new o h t rows result =
    ((refusal : Refusal) × (result ≡ written.Refused refusal) × Comes m new o h (Mark t) (No refusal))
    ⊎ (IsLawful o h (entry (Mark t) Fine)
    × MakesOne m new o (entry (Mark t) Fine ∷ h) t rows result)
