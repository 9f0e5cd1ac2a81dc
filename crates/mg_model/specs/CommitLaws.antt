-- Where the changes of a database come from in a legal history: from the opening, or from a
-- transaction that is committed.
use Rattle.std.specs.Prelude.{◌≡◌, ◌⊎◌, ℕ, ◌==◌, Bool, true, false, List, [], ◌∷◌, ◌++◌, Option, Some, None, cond, refl}
use Rattle.std.proofs.Common.{sym, ◌∙◌, ap, inl, inr, subst}
use Rattle.std.proofs.lemmas.Bool.{eq-eqb}
use Rattle.mg_base.specs.declared.transaction.TxState.{TxState}
use Rattle.mg_base.specs.declared.transaction.TxState.TheVariants.{Active, Limbo, Dead, Committed}
use Rattle.mg_model.specs.declared.change.Change.{Change}
use Rattle.mg_model.specs.declared.change.Step.{Step}
use Rattle.mg_model.specs.declared.opening.Opening.{Opening}
use Rattle.mg_model.specs.History.{Entry, Entries, Effect, Begins, Looks, Makes, Gives, Marks, Saves, TakesBack, Ends, Nothing, effect_of}
use Rattle.mg_model.specs.Changes.{row_at}
use Rattle.mg_model.specs.Catalog.{CatalogRows, catalog_name}
use Rattle.mg_model.specs.Machine.{state_after, state_of, opening_rows, takes_base, mode_of, changes_by, steps_after, steps, database, base, own, view, cut_at_base}
use Rattle.mg_model.specs.Answers.{is_committed}
use Rattle.mg_model.specs.Legal.{MayBegin, IsLegal}
use Rattle.mg_model.specs.Effects.{commits, changes_of}
use Rattle.mg_model.specs.EntryLaws.{database_after_entry, base_is_cut}
use Rattle.mg_model.specs.NumberLaws.{committed_stays, committed_keeps}

-- a change is in a list
abbrev pub Has : List Change → Change → Type 0
Has [] c = ⊥
Has (x ∷ xs) c = (c ≡ x) ⊎ Has xs c

pub has_either : (xs ys : List Change) (c : Change) → Has (xs ++ ys) c → Has xs c ⊎ Has ys c
has_either [] ys c has = inr has
has_either (x ∷ xs) ys c (inl is) = inl (inl is)
has_either (x ∷ xs) ys c (inr has) =
    elim (has_either xs ys c has) [ inl left ↦ inl (inr left) | inr right ↦ inr right ]

-- a change was made by a transaction that is committed
pub record IsCommitted (o : Opening) (h : Entries) (c : Change) : Type 0 where
  pub by : ℕ
  pub committed : is_committed (state_of o h by) ≡ true
  pub made : Has (own o h by) c

-- a change is the opening's, or was made by a transaction that is committed
abbrev pub IsSettled : Opening → Entries → Change → Type 0
IsSettled o h c = Has (opening_rows o) c ⊎ IsCommitted o h c

-- what commits a transaction leaves it committed, and all steps as they are
record IsCommit (f : Effect) (t : ℕ) (old : TxState) (catalog : ℕ → CatalogRows) (all : List Step)
    : Type 0 where
  ends : state_after f t old ≡ Committed
  leaves : steps_after f catalog all ≡ all

is_commit : (f : Effect) (t : ℕ) (old : TxState) (catalog : ℕ → CatalogRows) (all : List Step)
    → commits f ≡ Some t → IsCommit f t old catalog all
is_commit (Ends u Committed) t old catalog all is =
    let same : u ≡ t = cc in
    let its : (u == t) ≡ true = eq-eqb u t same in
    record { ends = rw its refl; leaves = refl }
is_commit (Ends u Active) t old catalog all is = absurd cc
is_commit (Ends u Limbo) t old catalog all is = absurd cc
is_commit (Ends u Dead) t old catalog all is = absurd cc
is_commit (Begins u mode) t old catalog all is = absurd cc
is_commit (Looks u) t old catalog all is = absurd cc
is_commit (Makes u table row) t old catalog all is = absurd cc
is_commit (Gives u table key row) t old catalog all is = absurd cc
is_commit (Marks u) t old catalog all is = absurd cc
is_commit (Saves u name) t old catalog all is = absurd cc
is_commit (TakesBack u point) t old catalog all is = absurd cc
is_commit Nothing t old catalog all is = absurd cc

has_along : (xs ys : List Change) (c : Change) → xs ≡ ys → Has xs c → Has ys c
has_along xs ys c same has = let P : List Change → Type 0 = λ cs. Has cs c in subst P same has

module _ (o : Opening) (opening : MayBegin o) where
  commits_now : (h : Entries) (e : Entry) (c : Change) (t : ℕ) → commits (effect_of e) ≡ Some t
      → Has (own o h t) c → IsCommitted o (e ∷ h) c
  commits_now h e c t is has =
      let commit = is_commit (effect_of e) t (state_of o h t)
      (λ u. row_at (changes_by u (steps o h) ++ base o h u) catalog_name) (steps o h) is in
      record {
        by = t;
        committed = ap is_committed commit.ends;
        made = has_along (own o h t) (own o (e ∷ h) t) c
            (sym (ap (changes_by t) commit.leaves)) has;
      }

  pub committed_goes_on : (h : Entries) (e : Entry) (c : Change) → IsLegal o (e ∷ h)
      → IsCommitted o h c → IsCommitted o (e ∷ h) c
  committed_goes_on h e c legal it = record {
    by = it.by;
    committed = ap is_committed (committed_stays o opening h e legal it.by it.committed)
        ∙ it.committed;
    made = has_along (own o h it.by) (own o (e ∷ h) it.by) c
        (sym (committed_keeps o opening h e legal it.by it.committed)) it.made;
  }

  -- each change of the database is the opening's, or one of a transaction that is committed
  pub database_is_settled : (h : Entries) → IsLegal o h → (c : Change) → Has (database o h) c
      → IsSettled o h c
  database_is_settled [] legal c has = inl has
  database_is_settled (e ∷ h) legal c has =
      elim (has_either (changes_of (commits (effect_of e)) (own o h)) (database o h) c
      (has_along (database o (e ∷ h)) _ c (database_after_entry o h e) has)) [
        | inl now ↦ inr (at (commits (effect_of e)) refl now)
        | inr before ↦ elim (database_is_settled h legal.1 c before) [
          | inl first ↦ inl first
          | inr it ↦ inr (committed_goes_on h e c legal it)
        ]
      ]
    where
      at : (it : Option ℕ) → commits (effect_of e) ≡ it → Has (changes_of it (own o h)) c
          → IsCommitted o (e ∷ h) c
      at None is has = absurd has
      at (Some t) is has = commits_now h e c t is has

  pub legal_at_base : (h : Entries) → IsLegal o h → (t : ℕ) → IsLegal o (cut_at_base h t)
  legal_at_base [] legal t = tt
  legal_at_base (e ∷ h) legal t =
      at (takes_base (effect_of e) t (mode_of h t).snapshot) (legal_at_base h legal.1 t)
    where
      at : (b : Bool) → IsLegal o (cut_at_base h t) → IsLegal o (cond b h (cut_at_base h t))
      at true more = legal.1
      at false more = more

  -- each change of a view is the transaction's own, the opening's, or one of a transaction that was
  -- committed when it took its base
  pub view_is_settled : (h : Entries) → IsLegal o h → (t : ℕ) (c : Change) → Has (view o h t) c
      → Has (own o h t) c ⊎ IsSettled o (cut_at_base h t) c
  view_is_settled h legal t c has =
      elim (has_either (own o h t) (base o h t) c has) [
        | inl its ↦ inl its
        | inr based ↦ inr (database_is_settled (cut_at_base h t) (legal_at_base h legal t) c
            (has_along (base o h t) (database o (cut_at_base h t)) c (base_is_cut o h t) based))
      ]
