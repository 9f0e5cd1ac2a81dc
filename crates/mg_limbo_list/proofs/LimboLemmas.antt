-- The list of the transactions in limbo, one number after another.
use Rattle.std.specs.Prelude.{◌≡◌, ◌≢◌, ◌⊎◌, ◌↔◌, ◌<◌, ◌≤◌, ◌+◌, ◌++◌, ℕ, List, [], ◌∷◌}
use Rattle.std.proofs.Common.{refl, sym, ap, ◌∙◌, inl, inr, arith}
use Rattle.std.proofs.lemmas.Bool.{cases_eq, cases_lt}
use Rattle.mg_base.specs.declared.numbers.TxNo.{TxNo}
use Rattle.mg_base.specs.declared.transaction.TxState.{TxState}
use Rattle.mg_base.specs.declared.transaction.TxState.TheVariants.{Active, Limbo, Dead, Committed}
use Rattle.mg_image.specs.Form.{Pages}
use Rattle.mg_image.specs.Inventory.{next_of, state_at}
use Rattle.mg_limbo_list.specs.Limbo.{AscendFrom, Has, IsLimboBelow, IsLimboList, with_limbo}
use Rattle.mg_limbo_list.proofs.TipsLemmas.{state_past, state_zero}

-- a transaction by its number
abbrev numbered : ℕ → TxNo
numbered n = record { 0 = n }

-- one more is one of them, or it is that
has_push : (list : List TxNo) (n t : ℕ) → Has (list ++ numbered n ∷ []) t ↔ (Has list t ⊎ (t ≡ n))
has_push [] n t = (
  λ has. elim has [ inl is ↦ inr is | inr none ↦ absurd none ],
  λ has. elim has [ inl none ↦ absurd none | inr is ↦ inl is ],
)
has_push (u ∷ us) n t = let rest = has_push us n t in (
  λ has. elim has [
    | inl is ↦ inl (inl is)
    | inr later ↦ elim (rest.0 later) [
      | inl before ↦ inl (inr before)
      | inr is ↦ inr is
    ]
  ],
  λ has. elim has [
    | inl before ↦ elim before [
      | inl is ↦ inl is
      | inr later ↦ inr (rest.1 (inl later))
    ]
    | inr is ↦ inr (rest.1 (inr is))
  ],
)

ascend_push : (least : ℕ) (list : List TxNo) (n : ℕ) → AscendFrom least list
    → ((t : ℕ) → Has list t → t < n) → least ≤ n → AscendFrom least (list ++ numbered n ∷ [])
ascend_push least [] n ascend below from = (from, tt)
ascend_push least (u ∷ us) n ascend below from = (
  ascend.0,
  ascend_push (u.0 + 1) us n ascend.1 (λ t has. below t (inr has))
      (let here = below u.0 (inl refl) in omega (arith, here)),
)

-- the system's transaction is not in limbo
pub limbo_none : (size : ℕ) (pages : Pages) → IsLimboBelow (state_at size pages) 1 []
limbo_none size pages = record {
  ascend = tt;
  members = λ t. (λ has. absurd has, λ found. none t found.0 found.1);
}
  where
    zero_state : (t : ℕ) → t ≡ 0 → state_at size pages t ≡ Committed
    zero_state t is = ap (state_at size pages) is ∙ sym (state_zero size pages)

    none : (t : ℕ) → t < 1 → state_at size pages t ≡ Limbo → ⊥
    none t below is = let other = zero_state t (omega (arith, below)) in absurd cc

-- one that is not in limbo is passed over
passes_over : (state : ℕ → TxState) (n : ℕ) (list : List TxNo) → IsLimboBelow state n list
    → state n ≢ Limbo → IsLimboBelow state (n + 1) list
passes_over state n list before other = record {
  ascend = before.ascend;
  members = λ t. (
    λ has. let found = (before.members t).0 has in (omega (arith, found.0), found.1),
    λ found. (before.members t).1 (less t found.0 found.1 (cases_lt t n), found.1),
  );
}
  where
    last : (t : ℕ) → t < n + 1 → n ≤ t → t ≡ n
    last t below past = omega (arith, below, past)

    less : (t : ℕ) → t < n + 1 → state t ≡ Limbo → (t < n) ⊎ (n ≤ t) → t < n
    less t below is (inl inside) = inside
    less t below is (inr past) =
        absurd (other (sym (ap state (last t below past)) ∙ is))

takes_in : (state : ℕ → TxState) (n : ℕ) (list : List TxNo) → IsLimboBelow state n list
    → state n ≡ Limbo → IsLimboBelow state (n + 1) (list ++ numbered n ∷ [])
takes_in state n list before is = record {
  ascend = ascend_push 0 list n before.ascend (λ t has. ((before.members t).0 has).0) (omega arith);
  members = λ t. (
    λ has. elim ((has_push list n t).0 has) [
      | inl here ↦ let found = (before.members t).0 here in (omega (arith, found.0), found.1)
      | inr same ↦ (omega (arith, same), ap state same ∙ is)
    ],
    λ found. (has_push list n t).1 (at t found.0 found.1 (cases_lt t n)),
  );
}
  where
    at : (t : ℕ) → t < n + 1 → state t ≡ Limbo → (t < n) ⊎ (n ≤ t) → Has list t ⊎ (t ≡ n)
    at t below found (inl inside) = inl ((before.members t).1 (inside, found))
    at t below found (inr past) = inr (omega (arith, below, past))

-- one number more
pub limbo_more : (state : ℕ → TxState) (n : ℕ) (list : List TxNo) → IsLimboBelow state n list
    → (now : TxState) → now ≡ state n → IsLimboBelow state (n + 1) (with_limbo list n now)
limbo_more state n list before Active is = passes_over state n list before (λ other. absurd cc)
limbo_more state n list before Limbo is = takes_in state n list before (sym is)
limbo_more state n list before Dead is = passes_over state n list before (λ other. absurd cc)
limbo_more state n list before Committed is = passes_over state n list before (λ other. absurd cc)

-- those below the next number are all
pub limbo_all : (size : ℕ) (pages : Pages) (n : ℕ) (list : List TxNo)
    → IsLimboBelow (state_at size pages) n list → next_of pages ≤ n
    → IsLimboList (state_at size pages) list
limbo_all size pages n list below end = record {
  ascend = below.ascend;
  members = λ t. (
    λ has. ((below.members t).0 has).1,
    λ is. (below.members t).1 (at t is (cases_lt t n) (cases_eq t 0), is),
  );
}
  where
    none : (t : ℕ) → state_at size pages t ≡ Limbo → t ≢ 0 → n ≤ t → ⊥
    none t is some past =
        let other = state_past size pages t some (omega (arith, end, past)) in absurd cc

    system : (t : ℕ) → state_at size pages t ≡ Limbo → t ≡ 0 → ⊥
    system t is zero_ =
        let other = ap (state_at size pages) zero_ ∙ sym (state_zero size pages) in absurd cc

    at : (t : ℕ) → state_at size pages t ≡ Limbo → (t < n) ⊎ (n ≤ t) → (t ≡ 0) ⊎ (t ≢ 0) → t < n
    at t is (inl inside) which = inside
    at t is (inr past) (inl zero_) = absurd (system t is zero_)
    at t is (inr past) (inr some) = absurd (none t is some past)
