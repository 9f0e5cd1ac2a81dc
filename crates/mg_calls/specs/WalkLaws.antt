-- A walk goes on where calls for other transactions come between its steps.
use Rattle.std.proofs.Common.{◌≡◌, ℕ, false, List, ◌∷◌, ◌++◌, Option, Some, None, sym, ap, subst}
use Rattle.std.specs.Prelude.{IsPermutation}
use Rattle.mg_model.specs.declared.change.Change.{Change}
use Rattle.mg_model.specs.declared.opening.Opening.{Opening}
use Rattle.mg_model.specs.declared.refusal.Refusal.{Refusal}
use Rattle.mg_model.specs.Changes.{KeyedRows, rows_of}
use Rattle.mg_model.specs.Effects.{is_its}
use Rattle.mg_model.specs.EntryLaws.{view_others_entry}
use Rattle.mg_model.specs.History.{Entries, Entry}
use Rattle.mg_model.specs.Machine.{is_of, view}
use Rattle.mg_records.specs.Meaning.{Means}
use Rattle.mg_records.specs.Reading.{IsPlace}
use Rattle.mg_calls.specs.declared.walking.Walk.{Walk}
use Rattle.mg_calls.specs.Frames.{Frames}
use Rattle.mg_calls.specs.Walks.{HasCome, IsOnItsWay}

-- an entry that is not the transaction's leaves the rows that it sees
rows_stay : (o : Opening) (h : Entries) (e : Entry) (t : ℕ) (name : List ℕ) → is_its t e ≡ false
    → rows_of (view o (e ∷ h) t) name ≡ rows_of (view o h t) name
rows_stay o h e t name others =
    ap (λ (cs : List Change). rows_of cs name) (view_others_entry o h e t others)

-- calls for another transaction u leave a walk of t where it is
abbrev pub WalksGoOn : {R P : Type 0} → Means R P → Type 0
WalksGoOn {R = R} {P = P} m = (old new : R) (o : Opening) (h : Entries) (e : Entry) (t u : ℕ)
    (refusal : Option Refusal) (walk : Walk P) (visited : KeyedRows) → Frames m old new u refusal
    → is_of t (Some u) ≡ false → is_its t e ≡ false → HasCome m old o h t walk visited
    → HasCome m new o (e ∷ h) t walk visited

pub walks_go_on : {R P : Type 0} (m : Means R P) → WalksGoOn m
walks_go_on m old new o h e t u refusal walk visited frames apart others come = record {
  rest = come.rest;
  to_come = frames.walks t walk.table walk.place come.rest apart come.to_come;
  whole = subst (λ (rows : KeyedRows). IsPermutation (visited ++ come.rest) rows)
      (sym (rows_stay o h e t walk.table.name others)) come.whole;
}

placed : {R P : Type 0} (m : Means R P) (old new : R) (walk : Walk P) (place : Option P)
    → ((place : P) → m.is_place old walk.table place → m.is_place new walk.table place)
    → IsPlace m old walk.table place → IsPlace m new walk.table place
placed m old new walk None stays is = tt
placed m old new walk (Some place) stays is = stays place is

-- and it is still on its way
abbrev pub WalksStayReady : {R P : Type 0} → Means R P → Type 0
WalksStayReady {R = R} {P = P} m = (old new : R) (t u : ℕ) (refusal : Option Refusal) (walk : Walk P)
    → Frames m old new u refusal → is_of t (Some u) ≡ false → IsOnItsWay m old t walk
    → IsOnItsWay m new t walk

pub walks_stay_ready : {R P : Type 0} (m : Means R P) → WalksStayReady m
walks_stay_ready m old new t u refusal walk frames apart way = record {
  table = frames.tables t walk.table.name walk.table apart way.table;
  place = placed m old new walk walk.place (frames.places walk.table) way.place;
}
