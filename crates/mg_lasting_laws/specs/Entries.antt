-- What entries of a history bring to the database and leave of each transaction's own changes.
use Rattle.std.proofs.Common.{◌≡◌, ◌≢◌, ◌==◌, ℕ, Bool, true, false, List, [], ◌∷◌, ◌++◌, Option, None, Some, refl, sym, ap, ◌∙◌}
use Rattle.std.specs.Prelude.{cond}
use Rattle.std.proofs.lemmas.Bool.{eq-eqb, false≢true, ne_eqb}
use Rattle.mg_base.specs.declared.transaction.TxState.{TxState}
use Rattle.mg_base.specs.declared.transaction.TxState.TheVariants.{Committed}
use Rattle.mg_value.specs.declared.value.Value.{Value}
use Rattle.mg_model.specs.declared.change.Change.{Change}
use Rattle.mg_model.specs.declared.change.Deed.{Deed}
use Rattle.mg_model.specs.declared.opening.Opening.{Opening}
use Rattle.mg_model.specs.Answers.{catalog_of, told}
use Rattle.mg_model.specs.Catalog.{CatalogRows}
use Rattle.mg_model.specs.Changes.{Cells, has_change, is_at, row_at}
use Rattle.mg_model.specs.DeedLaws.{deeds_after, deeds_after_entry}
use Rattle.mg_model.specs.Effects.{changes_of, commits, doer, is_its}
use Rattle.mg_model.specs.EntryLaws.{database_after_entry, own_others_entry}
use Rattle.mg_model.specs.History.{Begins, Effect, Ends, Entries, Entry, Gives, Looks, Makes, Marks, Nothing, Saves, TakesBack, effect_of}
use Rattle.mg_model.specs.Machine.{changes_in, database, deeds_by, is_of, next_after, next_number, own, state_after, state_of, steps}
use Rattle.mg_model.specs.RowLaws.{row_at-append}
use Rattle.mg_image.specs.Histories.{newest_at, row_change}
use Rattle.mg_image_overlay_laws.specs.transactions.CommitHeld.{after_change}
use Rattle.mg_image_overlay_laws.specs.transactions.CommitLaws.{BringsChanges, LeavesOthers}
use Rattle.mg_overlay_laws.specs.Overlays.{OthersStay}

-- an effect draws no number, ends nobody, and changes no row
abbrev pub is_idle : Effect → Bool
is_idle (Begins t mode) = false
is_idle (Looks t) = true
is_idle (Makes t table row) = false
is_idle (Gives t table key row) = false
is_idle (Marks t) = true
is_idle (Saves t name) = true
is_idle (TakesBack t point) = false
is_idle (Ends t end) = false
is_idle Nothing = true

module _ (f : Effect) (idle : is_idle f ≡ true) where
  none_committed : commits f ≡ None
  none_committed = at f idle
    where
      at : (f : Effect) → is_idle f ≡ true → commits f ≡ None
      at (Begins t mode) is = absurd (false≢true is)
      at (Looks t) is = refl
      at (Makes t table row) is = absurd (false≢true is)
      at (Gives t table key row) is = absurd (false≢true is)
      at (Marks t) is = refl
      at (Saves t name) is = refl
      at (TakesBack t point) is = absurd (false≢true is)
      at (Ends t end) is = absurd (false≢true is)
      at Nothing is = refl

  next_stays : (next : ℕ) → next_after f next ≡ next
  next_stays next = at f idle
    where
      at : (f : Effect) → is_idle f ≡ true → next_after f next ≡ next
      at (Begins t mode) is = absurd (false≢true is)
      at (Looks t) is = refl
      at (Makes t table row) is = refl
      at (Gives t table key row) is = refl
      at (Marks t) is = refl
      at (Saves t name) is = refl
      at (TakesBack t point) is = refl
      at (Ends t end) is = refl
      at Nothing is = refl

  state_stays : (t : ℕ) (old : TxState) → state_after f t old ≡ old
  state_stays t old = at f idle
    where
      at : (f : Effect) → is_idle f ≡ true → state_after f t old ≡ old
      at (Begins u mode) is = absurd (false≢true is)
      at (Looks u) is = refl
      at (Makes u table row) is = refl
      at (Gives u table key row) is = refl
      at (Marks u) is = refl
      at (Saves u name) is = refl
      at (TakesBack u point) is = refl
      at (Ends u end) is = absurd (false≢true is)
      at Nothing is = refl

  changes_stay : (t : ℕ) (catalog : CatalogRows) (old : List Deed)
      → changes_in (deeds_after f t catalog old) ≡ changes_in old
  changes_stay t catalog old = at f idle
    where
      marked : (b : Bool) (d : Deed) → changes_in (d ∷ old) ≡ changes_in old
          → changes_in (cond b (d ∷ old) old) ≡ changes_in old
      marked true d same = same
      marked false d same = refl

      at : (f : Effect) → is_idle f ≡ true → changes_in (deeds_after f t catalog old) ≡ changes_in old
      at (Begins u mode) is = refl
      at (Looks u) is = refl
      at (Makes u table row) is = absurd (false≢true is)
      at (Gives u table key row) is = absurd (false≢true is)
      at (Marks u) is = marked (u == t) _ refl
      at (Saves u name) is = marked (u == t) _ refl
      at (TakesBack u point) is = absurd (false≢true is)
      at (Ends u end) is = refl
      at Nothing is = refl

-- the database stays where nobody is committed
pub same_database : (o : Opening) (h : Entries) (e : Entry) → commits (effect_of e) ≡ None
    → database o (e ∷ h) ≡ database o h
same_database o h e none = database_after_entry o h e
    ∙ ap (λ (c : Option ℕ). changes_of c (own o h) ++ database o h) none

-- an idle entry leaves the database, the states, the next number, and each one's own changes
module _ (o : Opening) (h : Entries) (e : Entry) (idle : is_idle (effect_of e) ≡ true) where
  pub idle_database : database o (e ∷ h) ≡ database o h
  idle_database = same_database o h e (none_committed (effect_of e) idle)

  pub idle_next : next_number o (e ∷ h) ≡ next_number o h
  idle_next = next_stays (effect_of e) idle (next_number o h)

  pub idle_state : (t : ℕ) → state_of o (e ∷ h) t ≡ state_of o h t
  idle_state t = state_stays (effect_of e) idle t (state_of o h t)

  pub idle_own : (t : ℕ) → own o (e ∷ h) t ≡ own o h t
  idle_own t = ap changes_in (deeds_after_entry o h e t)
      ∙ changes_stay (effect_of e) idle t (catalog_of (told o h) t) (deeds_by t (steps o h))

-- an entry of a transaction leaves all others' changes; it leaves the database, where it commits nobody
pub leaves_others : (o : Opening) (h : Entries) (e : Entry) (t : ℕ)
    → ((u : ℕ) → u ≢ t → is_its u e ≡ false) → commits (effect_of e) ≡ None → LeavesOthers o h e t
leaves_others o h e t others none = record {
  rows = λ name key. ap (λ (cs : List Change). row_at cs name key) (same_database o h e none);
  others = λ u ne. own_others_entry o h e u (others u ne);
}

-- the row that changes give a key, over the one that it has
given_row : (cs : List Change) (name : List ℕ) (key : Value) (old : Option Cells)
    → cond (has_change cs name key) (row_at cs name key) old ≡ after_change (newest_at cs name key) old
given_row [] name key old = refl
given_row (c ∷ cs) name key old = at (is_at c name key) (given_row cs name key old)
  where
    given : (row : Option Cells) → row ≡ after_change (Some (row_change row)) old
    given None = refl
    given (Some row) = refl

    at : (b : Bool) → cond (has_change cs name key) (row_at cs name key) old
        ≡ after_change (newest_at cs name key) old
        → cond (cond b true (has_change cs name key)) (cond b c.row (row_at cs name key)) old
        ≡ after_change (cond b (Some (row_change c.row)) (newest_at cs name key)) old
    at true more = given c.row
    at false more = more

-- a transaction that is committed brings its own changes to the database
pub brings_changes : (o : Opening) (h : Entries) (e : Entry) (t : ℕ) → effect_of e ≡ Ends t Committed
    → BringsChanges o h e t
brings_changes o h e t is = record {
  rows = λ name key. ap (λ (cs : List Change). row_at cs name key) whole
      ∙ (row_at-append (own o h t) (database o h) name key
      ∙ given_row (own o h t) name key (row_at (database o h) name key));
  others = λ u ne. own_others_entry o h e u (others u ne);
}
  where
    whole : database o (e ∷ h) ≡ own o h t ++ database o h
    whole = database_after_entry o h e
        ∙ ap (λ (f : Effect). changes_of (commits f) (own o h) ++ database o h) is

    others : (u : ℕ) → u ≢ t → is_its u e ≡ false
    others u ne = ap (λ (f : Effect). is_of u (doer f)) is ∙ ne_eqb t u (λ same. ne (sym same))

-- a transaction's end changes its state alone
module _ (o : Opening) (h : Entries) (e : Entry) (t : ℕ) (end : TxState)
    (is : effect_of e ≡ Ends t end) where
  pub end_here : state_of o (e ∷ h) t ≡ end
  end_here = ap (λ (f : Effect). state_after f t (state_of o h t)) is ∙ rw (eq-eqb t t refl) refl

  pub end_others : OthersStay (state_of o h) (state_of o (e ∷ h)) t
  end_others u ne = ap (λ (f : Effect). state_after f u (state_of o h u)) is
      ∙ rw (ne_eqb t u (λ same. ne (sym same))) refl

  pub end_next : next_number o (e ∷ h) ≡ next_number o h
  end_next = ap (λ (f : Effect). next_after f (next_number o h)) is
