-- The bytes between the quotes of a text.
use Rattle.std.proofs.Common.{◌≡◌, ℕ, zero, suc, ◌+◌, ◌<◌, ◌≤◌, Bool, true, false, if◌then◌else◌, List, [], ◌∷◌, ◌++◌, length, drop, get_or, refl, sym, ◌∙◌, ap, subst, arith, append_assoc, append-nil, length-drop, eq-eqb}
use Rattle.std.specs.Prelude.{◌==◌}
use Rattle.std.proofs.lemmas.Bool.{eqb-true}
use Rattle.std.proofs.lemmas.List.{drop-drop}
use Rattle.std.proofs.lemmas.Grind.{common_steps}
use Rattle.mg_sql.specs.declared.token.Kind.TheVariants as kinds
use Rattle.mg_sql.specs.Spelling.{IsSpelled, doubled, quoted}

-- a text was read up to a place: this is the value so far, and some is left
pub record Half (bytes : List ℕ) (at : ℕ) (value : List ℕ) : Type 0 where
  pub rest : List ℕ
  pub is : bytes ≡ quoted (value ++ rest)
  pub here : drop at bytes ≡ doubled rest ++ 39 ∷ []

at_drop : (bytes : List ℕ) (at : ℕ) → get_or (drop at bytes) 0 0 ≡ get_or bytes at 0
at_drop [] zero = refl
at_drop [] (suc at) = refl
at_drop (b ∷ bs) zero = refl
at_drop (b ∷ bs) (suc at) = at_drop bs at

pub step : (bytes : List ℕ) (at : ℕ) (value : List ℕ) (b width : ℕ) → b ≡ get_or bytes at 0 → width ≡ (if b == 39 then 2 else 1) → at + 1 < length bytes → Half bytes at value → Half bytes (at + width) (value ++ b ∷ [])
step bytes at value b width is wide low h = by h.rest h.is h.here where
  by : (rest : List ℕ) → bytes ≡ quoted (value ++ rest) → drop at bytes ≡ doubled rest ++ 39 ∷ [] → Half bytes (at + width) (value ++ b ∷ [])
  by [] e here = absurd (omega (arith, length-drop at bytes, ap length here))
  by (c ∷ rest) e here = on (c == 39) refl where
    first : (x : ℕ) (xs : List ℕ) → drop at bytes ≡ x ∷ xs → b ≡ x
    first x xs d = is ∙ sym (at_drop bytes at) ∙ ap (λ ys. get_or ys 0 0) d

    whole : b ≡ c → bytes ≡ quoted ((value ++ b ∷ []) ++ rest)
    whole same = e ∙ ap quoted (sym (append_assoc value (b ∷ []) rest ∙ ap (λ x. value ++ x ∷ rest) same))

    further : (n : ℕ) → width ≡ n → (xs : List ℕ) → drop n (drop at bytes) ≡ xs → drop (at + width) bytes ≡ xs
    further n same xs d = ap (λ k. drop (at + k) bytes) same ∙ sym (drop-drop n at bytes) ∙ d

    on : (t : Bool) → (c == 39) ≡ t → Half bytes (at + width) (value ++ b ∷ [])
    on true t = let d : drop at bytes ≡ 39 ∷ 39 ∷ (doubled rest ++ 39 ∷ []) = rw t at here in
        let f = first 39 _ d in let c39 = eqb-true c 39 t in
        record { rest = rest; is = whole (f ∙ sym c39); here = further 2 (wide ∙ ap (λ x. if x == 39 then 2 else 1) f) _ (ap (λ ys. drop 2 ys) d) }
    on false t = let d : drop at bytes ≡ c ∷ (doubled rest ++ 39 ∷ []) = rw t at here in
        let f = first c _ d in
        let w : width ≡ 1 = wide ∙ ap (λ x. if x == 39 then 2 else 1) f ∙ ap (λ x. if x then 2 else 1) t in
        record { rest = rest; is = whole f; here = further 1 w _ (ap (λ ys. drop 1 ys) d) }

pub start : (bytes : List ℕ) → IsSpelled kinds.Text bytes → Half bytes 1 []
start bytes s = record { rest = s.0; is = s.1; here = ap (λ xs. drop 1 xs) s.1 }

pub done : (bytes : List ℕ) (at : ℕ) (value : List ℕ) → length bytes ≤ at + 1 → Half bytes at value → bytes ≡ quoted value
done bytes at value high h = by h.rest h.is h.here where
  by : (rest : List ℕ) → bytes ≡ quoted (value ++ rest) → drop at bytes ≡ doubled rest ++ 39 ∷ [] → bytes ≡ quoted value
  by [] e here = e ∙ ap quoted (append-nil value)
  by (c ∷ rest) e here = on (c == 39) refl where
    on : (t : Bool) → (c == 39) ≡ t → bytes ≡ quoted value
    on true t = let d : drop at bytes ≡ 39 ∷ 39 ∷ (doubled rest ++ 39 ∷ []) = rw t at here in absurd (omega (arith, length-drop at bytes, ap length d))
    on false t = let d : drop at bytes ≡ c ∷ (doubled rest ++ 39 ∷ []) = rw t at here in
        absurd (let l : length (drop at bytes) ≡ suc (length (doubled rest ++ 39 ∷ [])) = ap length d in omega (arith, length-drop at bytes, l, some rest)) where
          some : (xs : List ℕ) → 0 < length (doubled xs ++ 39 ∷ [])
          some xs = by_list (doubled xs) where
            by_list : (ys : List ℕ) → 0 < length (ys ++ 39 ∷ [])
            by_list [] = omega arith
            by_list (y ∷ ys) = omega arith
