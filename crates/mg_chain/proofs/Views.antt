-- What a transaction sees of a record, and the machine's view.
use Rattle.std.specs.Prelude.{◌≡◌, ℕ, ◌==◌, ◌||◌, Bool, true, false, List, [], ◌∷◌, Option, Some, None, cond, refl}
use Rattle.std.proofs.Common.{sym, ◌∙◌, ap}
use Rattle.std.proofs.lemmas.Bool.{false≢true, both_ways, ne_eqb}
use Rattle.mg_base.specs.declared.transaction.TxState.{TxState}
use Rattle.mg_base.specs.declared.transaction.TxState.TheVariants.{Active, Limbo, Dead, Committed}
use Rattle.mg_generation_laws.specs.Generations.{generation, shown_by, sees as sees_told}
use Rattle.mg_generation_laws.specs.Laws.{VersionsShowViews}
use Rattle.mg_image.specs.Records.{shown, writer}
use Rattle.mg_image.specs.declared.entry.Entry.{Entry}
use Rattle.mg_model.specs.Answers.{is_committed, is_open, told}
use Rattle.mg_model.specs.Changes.{Cells}
use Rattle.mg_model.specs.History.{Entries}
use Rattle.mg_model.specs.Machine.{state_of}
use Rattle.mg_model.specs.declared.opening.Opening.{Opening}
use Rattle.mg_snap.specs.Live.{State}
use Rattle.mg_chain.specs.Chains.{first_taken, takes_version}
use Rattle.mg_chain.specs.Views.{is_dead, row_given, generations_in, first_entry, BaseIsTold, SeesItsView, FoundIsShown}

no_dead : (s : TxState) → is_dead s ≡ true → is_committed s ≡ false
no_dead Active dead = absurd (false≢true dead)
no_dead Limbo dead = refl
no_dead Dead dead = refl
no_dead Committed dead = absurd (false≢true dead)

not_open : (s : TxState) → is_dead s ≡ true → is_open s ≡ false
not_open Active dead = absurd (false≢true dead)
not_open Limbo dead = absurd (false≢true dead)
not_open Dead dead = refl
not_open Committed dead = refl

module _ (o : Opening) (h : Entries) (live : State) (t : ℕ) (open_ : is_open (state_of o h t) ≡ true)
    (base : BaseIsTold o h live t) where
  abbrev takes : ℕ → Bool
  takes = takes_version (state_of o h) live t

  takes_told : (u : ℕ) → takes u ≡ sees_told (told o h) t u
  takes_told u = ap (λ b. u == t || b) (base u)

  dead_not_taken : (u : ℕ) → is_dead (state_of o h u) ≡ true → takes u ≡ false
  dead_not_taken u dead =
      let other : (u == t) ≡ false = ne_eqb u t (λ same. both_ways (is_open (state_of o h u))
      (not_open (state_of o h u) dead)
      (ap (λ n. is_open (state_of o h n)) same ∙ open_)) in
      let none : is_committed (state_of o h u) ≡ false = no_dead (state_of o h u) dead in
      rw other (rw none refl)

  shown_is : (es : List Entry)
      → shown takes es ≡ shown_by (sees_told (told o h) t) (generations_in (state_of o h) es)
  shown_is [] = refl
  shown_is (e ∷ es) = at (is_dead (state_of o h (writer e))) refl (shown_is es)
    where
      at : (b : Bool) → is_dead (state_of o h (writer e)) ≡ b
          → shown takes es ≡ shown_by (sees_told (told o h) t) (generations_in (state_of o h) es)
          → cond (takes (writer e)) (row_given e) (shown takes es)
          ≡ shown_by (sees_told (told o h) t) (cond b (generations_in (state_of o h) es)
          (generation (writer e) (row_given e) ∷ generations_in (state_of o h) es))
      at true dead more =
          let none : takes (writer e) ≡ false = dead_not_taken (writer e) dead in
          ap (λ c. cond c (row_given e) (shown takes es)) none ∙ more
      at false alive more =
          ap (λ c. cond c (row_given e) (shown takes es)) (takes_told (writer e))
          ∙ ap (λ (row : Option Cells). cond (sees_told (told o h) t (writer e)) (row_given e) row)
          more

pub sees_its_view : VersionsShowViews → SeesItsView
sees_its_view law o h table key es live t gens open_ base =
    law o h table key (generations_in (state_of o h) es) t gens open_
    ∙ sym (shown_is o h live t open_ base es)

found_row : (takes : ℕ → Bool) (es : List Entry) (e : Entry) → first_entry takes es ≡ Some e
    → (first_taken takes es ≡ Some e.version) × (shown takes es ≡ row_given e)
found_row takes [] e is = absurd cc
found_row takes (d ∷ es) e is = at (takes (writer d)) is (found_row takes es e)
  where
    at : (b : Bool) → cond b (Some d) (first_entry takes es) ≡ Some e
        → (first_entry takes es ≡ Some e
        → (first_taken takes es ≡ Some e.version) × (shown takes es ≡ row_given e))
        → (cond b (Some d.version) (first_taken takes es) ≡ Some e.version)
        × (cond b (row_given d) (shown takes es) ≡ row_given e)
    at true is more =
        let same : d ≡ e = cc in (ap (λ (x : Entry). Some x.version) same, ap row_given same)
    at false is more = more is

found_none : (takes : ℕ → Bool) (es : List Entry) → first_entry takes es ≡ None
    → (first_taken takes es ≡ None) × (shown takes es ≡ None)
found_none takes [] is = (refl, refl)
found_none takes (d ∷ es) is = at (takes (writer d)) is (found_none takes es)
  where
    at : (b : Bool) → cond b (Some d) (first_entry takes es) ≡ None
        → (first_entry takes es ≡ None
        → (first_taken takes es ≡ None) × (shown takes es ≡ None))
        → (cond b (Some d.version) (first_taken takes es) ≡ None)
        × (cond b (row_given d) (shown takes es) ≡ None)
    at true is more = absurd cc
    at false is more = more is

pub found_is_shown : FoundIsShown
found_is_shown = record { row = found_row; none = found_none }
