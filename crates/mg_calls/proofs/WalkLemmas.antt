-- A walk that comes to a further record, or to its end.
use Rattle.std.proofs.Common.{◌≡◌, ℕ, ◌<◌, [], ◌∷◌, ◌++◌, Option, Some, None, Ok, append-nil, append_assoc, refl, sym, ap, subst, ◌∙◌}
use Rattle.std.specs.Prelude.{IsPermutation}
use Rattle.mg_model.specs.declared.opening.Opening.{Opening}
use Rattle.mg_model.specs.declared.refusal.Refusal.{Refusal}
use Rattle.mg_model.specs.declared.table.Table.{Table}
use Rattle.mg_model.specs.Changes.{Cells, KeyedRows, rows_of}
use Rattle.mg_model.specs.History.{Entries}
use Rattle.mg_model.specs.Machine.{view}
use Rattle.mg_value.specs.declared.value.Value.{Value}
use Rattle.mg_records.specs.Keeping.{Reads}
use Rattle.mg_records.specs.Meaning.{Means}
use Rattle.mg_records.specs.declared.found.Found.{Found}
use Rattle.mg_records.specs.Reading.{IsPlace, Nears, Visits, with_found}
use Rattle.mg_calls.specs.declared.walking.Walk.{Walk}
use Rattle.mg_calls.specs.Walks.{HasCome, IsOnItsWay, rows_in}

placed : {R P : Type 0} (m : Means R P) (old new : R) (table : Table) (place : Option P)
    → ((place : P) → m.is_place old table place → m.is_place new table place)
    → IsPlace m old table place → IsPlace m new table place
placed m old new table None stays is = tt
placed m old new table (Some place) stays is = stays place is

-- a call that adds no entry leaves a walk on its way
pub still_on_way : {R P : Type 0} (m : Means R P) (old new : R) (t : ℕ) (walk : Walk P)
    (refusal : Option Refusal) (walks : Option ℕ) → Reads m old new refusal walks → IsOnItsWay m old t walk
    → IsOnItsWay m new t walk
still_on_way m old new t walk refusal walks reads way = record {
  table = reads.tables t walk.table.name walk.table refl way.table;
  place = placed m old new walk.table walk.place (reads.keeps.places walk.table) way.place;
}

-- what a visit tells where it found a record, and at the end; the walk stood at the place that was copied
pub found_place : {R P : Type 0} (m : Means R P) (old new : R) (t : ℕ) (table : Table) (copied : Option P)
    (given : Option (Found P)) (found : Found P) → given ≡ Some found → Nears m old new t table copied (Ok given)
    → m.is_place new table found.place
found_place {P = P} m old new t table copied given found is near =
    (subst (λ (x : Option (Found P)). Nears m old new t table copied (Ok x)) is near).0

pub found_nearer : {R P : Type 0} (m : Means R P) (old new : R) (t : ℕ) (table : Table)
    (copied place : Option P) (given : Option (Found P)) (found : Found P) → copied ≡ place → given ≡ Some found
    → Nears m old new t table copied (Ok given)
    → m.still new t table (Some found.place) < m.still old t table place
found_nearer {P = P} m old new t table copied place given found same is near =
    subst (λ (x : Option P). m.still new t table (Some found.place) < m.still old t table x) same
    (subst (λ (x : Option (Found P)). Nears m old new t table copied (Ok x)) is near).1

behind : (row : Option (Value × Cells)) (visited rest more : KeyedRows) → rest ≡ with_found row more
    → visited ++ rest ≡ (visited ++ rows_in row) ++ more
behind None visited rest more is =
    ap (λ (rows : KeyedRows). visited ++ rows) is
    ∙ ap (λ (rows : KeyedRows). rows ++ more) (sym (append-nil visited))
behind (Some row) visited rest more is =
    ap (λ (rows : KeyedRows). visited ++ rows) is ∙ sym (append_assoc visited (row ∷ []) more)

-- it comes to a record, and to its row, if there is one
pub come_on : {R P : Type 0} (m : Means R P) (new : R) (o : Opening) (h : Entries) (t : ℕ) (walk : Walk P)
    (given : Option (Found P)) (found : Found P) (visited rest : KeyedRows) → given ≡ Some found
    → walk.place ≡ Some found.place → Visits m new t walk.table (Ok given) rest
    → IsPermutation (visited ++ rest) (rows_of (view o h t) walk.table.name)
    → HasCome m new o h t walk (visited ++ rows_in found.row)
come_on {P = P} m new o h t walk given found visited rest is stands visits whole =
    let next : Visits m new t walk.table (Ok (Some found)) rest =
    subst (λ (x : Option (Found P)). Visits m new t walk.table (Ok x) rest) is visits in
    record {
      rest = next.0;
      to_come = subst (λ (x : Option P). m.to_come new t walk.table x next.0) (sym stands) next.2;
      whole = subst (λ (rows : KeyedRows). IsPermutation rows (rows_of (view o h t) walk.table.name))
          (behind found.row visited rest next.0 next.1) whole;
    }

-- at its end it has come to all rows
pub come_to_end : {R P : Type 0} (m : Means R P) (new : R) (t : ℕ) (table : Table) (given : Option (Found P))
    (visited rest seen : KeyedRows) → given ≡ None → Visits m new t table (Ok given) rest
    → IsPermutation (visited ++ rest) seen → IsPermutation visited seen
come_to_end {P = P} m new t table given visited rest seen is visits whole =
    subst (λ (rows : KeyedRows). IsPermutation rows seen)
    (ap (λ (rows : KeyedRows). visited ++ rows)
    (subst (λ (x : Option (Found P)). Visits m new t table (Ok x) rest) is visits) ∙ append-nil visited) whole
