-- What is known of the rows of a new table that came into the catalog.
use Rattle.std.proofs.Common.{[], ◌∷◌, ◌++◌, List, Option, Some, None, inl, inr, refl, sym, subst}
use Rattle.std.proofs.lemmas.List.{append_assoc}
use Rattle.mg_base.specs.declared.numbers.TxNo.{TxNo}
use Rattle.mg_model.specs.declared.answer.Answer.TheVariants.{Fine, No}
use Rattle.mg_model.specs.declared.event.Event.TheVariants.{Insert}
use Rattle.mg_model.specs.declared.opening.Opening.{Opening}
use Rattle.mg_model.specs.declared.refusal.Refusal.{Refusal}
use Rattle.mg_model.specs.Catalog.{catalog_name}
use Rattle.mg_model.specs.Changes.{Cells}
use Rattle.mg_model.specs.History.{Entries, Entry, entry}
use Rattle.mg_model.specs.Legal.{IsLawful}
use Rattle.mg_records.specs.Meaning.{Means}
use Rattle.mg_records.specs.Writing.{InsertsEach}
use Rattle.mg_calls.specs.Quiet.{IsQuietly, as_it_was, with_entry}
use Rattle.mg_calls.specs.QuietLaws.{quietly_then}
use Rattle.mg_calls.specs.Tables.{AreInserted, AreLawful, RowsCome, none_left, one_came, one_refused}

-- entries behind one more are lawful with it
pub lawful_behind : (o : Opening) (h : Entries) (e : Entry) (more : Entries) → IsLawful o h e
    → AreLawful o (e ∷ h) more → AreLawful o h (more ++ e ∷ [])
lawful_behind o h e [] lawful are = (lawful, tt)
lawful_behind o h e (x ∷ more) lawful are = (
  subst (λ (h : Entries). IsLawful o h x) (sym (append_assoc more (e ∷ []) h)) are.0,
  lawful_behind o h e more lawful are.1,
)

pub rows_come : {R P : Type 0} (m : Means R P) (new : R) (o : Opening) (t : TxNo) (rows : List Cells)
    (h : Entries) (refusal : Option Refusal) → InsertsEach m new o t rows h refusal
    → RowsCome m new o h t rows refusal
rows_come m new o t [] h None stands =
    record { entries = []; inserted = none_left; lawful = tt; stands = stands }
rows_come m new o t [] h (Some refusal) never = absurd never
rows_come m new o t (row ∷ rows) h refusal (inl came) =
    let e = entry (Insert t catalog_name row) Fine in
    let c = rows_come m new o t rows (e ∷ h) refusal came.1 in
    record {
      entries = c.entries ++ e ∷ [];
      inserted = one_came row c.inserted;
      lawful = lawful_behind o h e c.entries came.0 c.lawful;
      stands = subst (λ (h : Entries). m.stands new o h) (sym (append_assoc c.entries (e ∷ []) h)) c.stands;
    }
rows_come m new o t (row ∷ rows) h refusal (inr stop) =
    subst (λ (told : Option Refusal). RowsCome m new o h t (row ∷ rows) told) (sym stop.1)
    (record {
      entries = entry (Insert t catalog_name row) (No stop.0) ∷ [];
      inserted = one_refused row rows stop.0;
      lawful = (stop.2, tt);
      stands = stop.3;
    })

-- no crash could lose them
pub inserted_quietly : (t : TxNo) (rows : List Cells) (refusal : Option Refusal) (more h : Entries)
    → AreInserted t rows refusal more → IsQuietly h (more ++ h)
inserted_quietly t rows refusal more h none_left = as_it_was
inserted_quietly t rows refusal more h (one_came {rows = rest} {more = behind} row came) =
    let e = entry (Insert t catalog_name row) Fine in
    subst (λ (longer : Entries). IsQuietly h longer) (sym (append_assoc behind (e ∷ []) h))
    (quietly_then h (e ∷ h) (behind ++ e ∷ h) (with_entry e refl as_it_was)
    (inserted_quietly t rest refusal behind (e ∷ h) came))
inserted_quietly t rows refusal more h (one_refused row rest stop) =
    with_entry (entry (Insert t catalog_name row) (No stop)) refl as_it_was
