-- What the plain machine tells as a keeper of records is what the history tells.
use Rattle.std.specs.Prelude.{◌≡◌, ℕ, List, [], ◌∷◌, ◌++◌, Option, Some, None, IsPermutation}
use Rattle.std.proofs.Common.{refl, sym, ap, subst, arith, ◌∙◌}
use Rattle.std.proofs.lemmas.Bool.{false≢true}
use Rattle.std.proofs.lemmas.List.Sorted.{IsPermutation-refl}
use Rattle.mg_value.specs.declared.shape.Shape.{Shape}
use Rattle.mg_model.specs.declared.change.Change.{Change}
use Rattle.mg_model.specs.declared.opening.Opening.{Opening}
use Rattle.mg_model.specs.declared.table.Table.{Table}
use Rattle.mg_model.specs.Changes.{KeyedRows, row_at, rows_of}
use Rattle.mg_model.specs.Catalog.{catalog_name}
use Rattle.mg_model.specs.History.{Entries}
use Rattle.mg_model.specs.Machine.{changes_by, view}
use Rattle.mg_model.specs.Answers.{told}
use Rattle.mg_records.specs.Committing.{PagesAreFew}
use Rattle.mg_records.specs.Crashing.{CrashesHold, HoldsOn}
use Rattle.mg_records.specs.Reading.{TablesAreSeen, WalksAreWhole, shape_named}
use Rattle.mg_records.specs.Sessions.{SessionsAreOne}
use Rattle.mg_plain.specs.Keeping.{Keeping, StandsFor, told_in}
use Rattle.mg_plain.specs.Kept.{kept}
use Rattle.mg_plain.specs.Records.{means, primary, rows_seen, shape_kept, with_shape}

-- a transaction sees what the history says
pub same_view : (o : Opening) (h : Entries) (k : Keeping) (t : ℕ) → StandsFor o h k
    → (told_in k).view t ≡ view o h t
same_view o h k t s = λ i. changes_by t (s.steps_are i) ++ s.base t i

pub same_shape : (o : Opening) (h : Entries) (k : Keeping) (t : ℕ) (name : List ℕ) → StandsFor o h k
    → shape_kept k t name ≡ shape_named (row_at (view o h t) catalog_name) name
same_shape o h k t name s =
    ap (λ (cs : List Change). shape_named (row_at cs catalog_name) name) (same_view o h k t s)

pub same_rows : (o : Opening) (h : Entries) (k : Keeping) (t : ℕ) (name : List ℕ) → StandsFor o h k
    → rows_seen k t name ≡ rows_of (view o h t) name
same_rows o h k t name s =
    ap (λ (cs : List Change). rows_of cs name) (same_view o h k t s)

-- the table with a shape has the name, and the shape
shaped : (name : List ℕ) (shape : Option Shape) (table : Table) → with_shape name shape ≡ Some table
    → (table.name ≡ name) × (shape ≡ Some table.shape)
shaped name None table is = absurd cc
shaped name (Some shape) table is =
    let same : record { name = name; shape = shape; pointer = record { 0 = 0 }; indexes = primary name shape.key ∷ [] } ≡ table = cc in
    (ap (λ (t : Table). t.name) (sym same), ap (λ (t : Table). Some t.shape) same)

pub tables_are_seen : TablesAreSeen means
tables_are_seen p o h t name table s active is =
    let parts = shaped name (shape_kept (kept p) t name) table is in
    (parts.0, sym (same_shape o h (kept p) t name s) ∙ parts.1)

pub walks_are_whole : WalksAreWhole means
walks_are_whole p o h t table s active is =
    let rows = rows_seen (kept p) t table.name in (
      rows,
      refl,
      subst (λ (found : KeyedRows). IsPermutation rows found)
          (same_rows o h (kept p) t table.name s) (IsPermutation-refl rows),
    )

-- it tells of no crash, so no image holds anything of it
pub crashes_hold : CrashesHold means
crashes_hold p o h s told = absurd (false≢true told)

pub holds_on : HoldsOn means
holds_on = record {
  more = λ p o h e least image none is. is;
  fewer = λ p o h e least image none is. is;
  longer = λ p o h e least image s up is. is;
  least = λ p o h few many image le is. is;
}

-- it tells one session of a number
pub sessions_are_one : SessionsAreOne means
sessions_are_one p t n k first second = let both : Some n ≡ Some k = sym first.1 ∙ second.1 in cc both

-- it has no page that is not written
pub pages_are_few : PagesAreFew means
pages_are_few p = omega arith
