-- In a legal history who was committed at an earlier moment is committed still, and what a history
-- was at a moment is what it ends with.
use Rattle.std.specs.Prelude.{◌≡◌, ℕ, ◌&&◌, nat_lt, Bool, true, false, [], ◌∷◌, ◌++◌, cond, refl}
use Rattle.std.proofs.Common.{◌∙◌, ap}
use Rattle.std.proofs.lemmas.Bool.{false≢true, false_from_ne_true}
use Rattle.mg_base.specs.declared.transaction.TxState.{TxState}
use Rattle.mg_base.specs.declared.transaction.TxState.TheVariants.{Active, Limbo, Dead, Committed}
use Rattle.mg_model.specs.declared.opening.Opening.{Opening}
use Rattle.mg_model.specs.History.{Entry, Entries, effect_of}
use Rattle.mg_model.specs.Machine.{opening_state, state_of, mode_of, takes_base, cut_at_base}
use Rattle.mg_model.specs.Answers.{is_committed, is_open}
use Rattle.mg_model.specs.Legal.{MayBegin, IsLegal, is_durable, durable_count, after_durable}
use Rattle.mg_model.specs.NumberLaws.{committed_stays}

pub committed_is : (s : TxState) → is_committed s ≡ true → s ≡ Committed
committed_is Active is = absurd (false≢true is)
committed_is Limbo is = absurd (false≢true is)
committed_is Dead is = absurd (false≢true is)
committed_is Committed is = refl

pub not_both : (s : TxState) → is_open s ≡ true → is_committed s ≡ true → ⊥
not_both Active opened was = false≢true was
not_both Limbo opened was = false≢true was
not_both Dead opened was = false≢true was
not_both Committed opened was = false≢true opened

pub open_is_not_committed : (s : TxState) → is_open s ≡ true → is_committed s ≡ false
open_is_not_committed s opened =
    false_from_ne_true (is_committed s) (λ was. not_both s opened was)

-- what a history ends with, the newest entries first: what it was at an earlier moment
abbrev pub EndsWith : Entries → Entries → Type 0
EndsWith h before = (since : Entries) × (h ≡ since ++ before)

pub ends_with_base : (h : Entries) (t : ℕ) → EndsWith h (cut_at_base h t)
ends_with_base [] t = ([], refl)
ends_with_base (e ∷ h) t =
    at (takes_base (effect_of e) t (mode_of h t).snapshot) (ends_with_base h t)
  where
    at : (b : Bool) → EndsWith h (cut_at_base h t)
        → EndsWith (e ∷ h) (cond b h (cut_at_base h t))
    at true more = (e ∷ [], refl)
    at false more = (e ∷ more.0, ap (λ g. e ∷ g) more.1)

pub ends_with_durable : (h : Entries) (k : ℕ) → EndsWith h (after_durable h k)
ends_with_durable [] k = ([], refl)
ends_with_durable (e ∷ h) k =
    at (is_durable e && nat_lt (durable_count h) k) (ends_with_durable h k)
  where
    at : (b : Bool) → EndsWith h (after_durable h k)
        → EndsWith (e ∷ h) (cond b (e ∷ h) (after_durable h k))
    at true more = ([], refl)
    at false more = (e ∷ more.0, ap (λ g. e ∷ g) more.1)

module _ (o : Opening) (opening : MayBegin o) where
  committed_on : (h : Entries) (e : Entry) → IsLegal o (e ∷ h) → (u : ℕ)
      → is_committed (state_of o h u) ≡ true → is_committed (state_of o (e ∷ h) u) ≡ true
  committed_on h e legal u was = ap is_committed (committed_stays o opening h e legal u was) ∙ was

  -- who was committed at an earlier moment is committed
  pub committed_later : (h since before : Entries) → IsLegal o h → h ≡ since ++ before → (u : ℕ)
      → is_committed (state_of o before u) ≡ true → is_committed (state_of o h u) ≡ true
  committed_later h [] before legal is u was = ap (λ g. is_committed (state_of o g u)) is ∙ was
  committed_later [] (x ∷ since) before legal is u was = absurd cc
  committed_later (e ∷ h) (x ∷ since) before legal is u was =
      let rest : h ≡ since ++ before = cc in
      committed_on h e legal u (committed_later h since before legal.1 rest u was)

  -- who has not ended was not committed at an earlier moment
  pub open_was_not_committed : (h : Entries) → IsLegal o h → (u : ℕ)
      → is_open (state_of o h u) ≡ true → (since before : Entries) → h ≡ since ++ before
      → is_committed (state_of o before u) ≡ false
  open_was_not_committed h legal u opened since before is =
      false_from_ne_true (is_committed (state_of o before u)) (λ was.
      not_both (state_of o h u) opened (committed_later h since before legal is u was))

  -- who was committed when the history began is committed
  pub committed_from_first : (h : Entries) → IsLegal o h → (u : ℕ)
      → is_committed (opening_state o u) ≡ true → is_committed (state_of o h u) ≡ true
  committed_from_first [] legal u was = was
  committed_from_first (e ∷ h) legal u was =
      committed_on h e legal u (committed_from_first h legal.1 u was)
