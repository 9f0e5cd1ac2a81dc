-- Laws of the key bytes of texts: they order as the texts, and tell where they end.
use Rattle.std.specs.Prelude.{◌≡◌, ◌≢◌, ℕ, ◌*◌, ◌≤◌, ◌⊎◌, List, [], ◌∷◌, ◌++◌, length}
use Rattle.std.specs.List.{flat_map}
use Rattle.std.specs.Ordering.{nat_cmp, ordering_then}
use Rattle.std.specs.Cmp.Lexicographic.{slice_cmp}
use Rattle.std.specs.declared.cmp.Ordering.{Ordering}
use Rattle.std.specs.declared.cmp.Ordering.TheVariants.{Less, Equal, Greater}
use Rattle.std.proofs.Common.{refl, sym, ap, ◌∙◌, arith, inl, inr}
use Rattle.std.proofs.lemmas.Bool.{cases_eq, ne_eqb}
use Rattle.std.proofs.lemmas.Cmp.{ranked}
use Rattle.mg_sortkey.specs.KeyBytes.{escaped}
use Rattle.mg_sortkey.specs.declared.tags.TheConstants.{ESCAPE}
use Rattle.mg_sortkey.specs.NumberLaws.{nat_greater, nat_less}

abbrev pub tail : List ℕ → List ℕ
tail text = flat_map escaped text ++ 0 ∷ 0 ∷ []

tail-other : (x : ℕ) (xs : List ℕ) → x ≢ 0 → tail (x ∷ xs) ≡ x ∷ tail xs
tail-other x xs ne = rw (ne_eqb x 0 ne) refl

tail-zero : (x : ℕ) (xs : List ℕ) → x ≡ 0 → tail (x ∷ xs) ≡ 0 ∷ ESCAPE ∷ tail xs
tail-zero x xs is = rw is refl

both_cons : (x y : ℕ) (xs ys us vs : List ℕ) → slice_cmp nat_cmp us vs ≡ slice_cmp nat_cmp xs ys
    → tail (x ∷ xs) ≡ x ∷ us → tail (y ∷ ys) ≡ y ∷ vs
    → slice_cmp nat_cmp (tail (x ∷ xs)) (tail (y ∷ ys)) ≡ slice_cmp nat_cmp (x ∷ xs) (y ∷ ys)
both_cons x y xs ys us vs same xt yt =
    ap (λ (t : List ℕ). slice_cmp nat_cmp t (tail (y ∷ ys))) xt ∙
    (ap (λ (t : List ℕ). slice_cmp nat_cmp (x ∷ us) t) yt ∙
    ap (λ (o : Ordering). ordering_then (nat_cmp x y) o) same)

heads_differ : (x y u v : ℕ) (xs ys us vs s t : List ℕ) → s ≡ u ∷ us → t ≡ v ∷ vs
    → nat_cmp u v ≡ nat_cmp x y → x ≢ y
    → slice_cmp nat_cmp s t ≡ slice_cmp nat_cmp (x ∷ xs) (y ∷ ys)
heads_differ x y u v xs ys us vs s t s_is t_is same apart =
    ap (λ (l : List ℕ). slice_cmp nat_cmp l t) s_is ∙
    (ap (λ (l : List ℕ). slice_cmp nat_cmp (u ∷ us) l) t_is ∙
    (ap (λ (o : Ordering). ordering_then o (slice_cmp nat_cmp us vs)) same ∙
    decided (nat_cmp x y) (slice_cmp nat_cmp us vs) (slice_cmp nat_cmp xs ys)
    (λ e. apart (ranked x y Equal (sym e)))))
  where
    decided : (o p q : Ordering) → (o ≡ Equal → ⊥) → ordering_then o p ≡ ordering_then o q
    decided Less p q ne = refl
    decided Equal p q ne = absurd (ne refl)
    decided Greater p q ne = refl

pub text_order : (s t : List ℕ) → slice_cmp nat_cmp (tail s) (tail t) ≡ slice_cmp nat_cmp s t
text_order [] [] = refl
text_order [] (y ∷ ys) = by (cases_eq y 0)
  where
    by : (y ≡ 0) ⊎ (y ≢ 0) → slice_cmp nat_cmp (tail []) (tail (y ∷ ys)) ≡ Less
    by (inl is) = rw is refl
    by (inr ne) = rw (tail-other y ys ne, nat_less 0 y (omega arith)) refl
text_order (x ∷ xs) [] = by (cases_eq x 0)
  where
    by : (x ≡ 0) ⊎ (x ≢ 0) → slice_cmp nat_cmp (tail (x ∷ xs)) (tail []) ≡ Greater
    by (inl is) = rw is refl
    by (inr ne) = rw (tail-other x xs ne, nat_greater x 0 (omega arith)) refl
text_order (x ∷ xs) (y ∷ ys) = by (text_order xs ys) (cases_eq x 0) (cases_eq y 0)
  where
    by : slice_cmp nat_cmp (tail xs) (tail ys) ≡ slice_cmp nat_cmp xs ys
        → (x ≡ 0) ⊎ (x ≢ 0) → (y ≡ 0) ⊎ (y ≢ 0)
        → slice_cmp nat_cmp (tail (x ∷ xs)) (tail (y ∷ ys)) ≡ slice_cmp nat_cmp (x ∷ xs) (y ∷ ys)
    by rest (inl is) (inl also) =
        both_cons x y xs ys (ESCAPE ∷ tail xs) (ESCAPE ∷ tail ys) rest
        (tail-zero x xs is ∙ ap (λ (n : ℕ). n ∷ ESCAPE ∷ tail xs) (sym is))
        (tail-zero y ys also ∙ ap (λ (n : ℕ). n ∷ ESCAPE ∷ tail ys) (sym also))
    by rest (inl is) (inr ne) =
        heads_differ x y 0 y xs ys (ESCAPE ∷ tail xs) (tail ys) _ _ (tail-zero x xs is)
        (tail-other y ys ne) (ap (λ (n : ℕ). nat_cmp n y) (sym is)) (λ e. ne (sym e ∙ is))
    by rest (inr ne) (inl also) =
        heads_differ x y x 0 xs ys (tail xs) (ESCAPE ∷ tail ys) _ _ (tail-other x xs ne)
        (tail-zero y ys also) (ap (λ (n : ℕ). nat_cmp x n) (sym also)) (λ e. ne (e ∙ also))
    by rest (inr ne) (inr other) =
        both_cons x y xs ys (tail xs) (tail ys) rest (tail-other x xs ne) (tail-other y ys other)

-- what follows the bytes of a text is told
pub text_ends : (s t more rest : List ℕ) → tail s ++ more ≡ tail t ++ rest → (s ≡ t) × (more ≡ rest)
text_ends [] [] more rest e = (refl, cc)
text_ends [] (y ∷ ys) more rest e = by (cases_eq y 0)
  where
    by : (y ≡ 0) ⊎ (y ≢ 0) → ([] ≡ y ∷ ys) × (more ≡ rest)
    by (inl is) =
        let f : 0 ∷ 0 ∷ more ≡ 0 ∷ ESCAPE ∷ (tail ys ++ rest) =
        e ∙ ap (λ (t : List ℕ). t ++ rest) (tail-zero y ys is) in
        let second : ◌≡◌ {A = ℕ} 0 ESCAPE = cc in absurd (omega (arith, second))
    by (inr ne) =
        let f : 0 ∷ 0 ∷ more ≡ y ∷ (tail ys ++ rest) =
        e ∙ ap (λ (t : List ℕ). t ++ rest) (tail-other y ys ne) in
        let first : ◌≡◌ {A = ℕ} 0 y = cc in absurd (ne (sym first))
text_ends (x ∷ xs) [] more rest e = by (cases_eq x 0)
  where
    by : (x ≡ 0) ⊎ (x ≢ 0) → (x ∷ xs ≡ []) × (more ≡ rest)
    by (inl is) =
        let f : 0 ∷ ESCAPE ∷ (tail xs ++ more) ≡ 0 ∷ 0 ∷ rest =
        sym (ap (λ (t : List ℕ). t ++ more) (tail-zero x xs is)) ∙ e in
        let second : ◌≡◌ {A = ℕ} ESCAPE 0 = cc in absurd (omega (arith, second))
    by (inr ne) =
        let f : x ∷ (tail xs ++ more) ≡ 0 ∷ 0 ∷ rest =
        sym (ap (λ (t : List ℕ). t ++ more) (tail-other x xs ne)) ∙ e in
        let first : ◌≡◌ {A = ℕ} x 0 = cc in absurd (ne first)
text_ends (x ∷ xs) (y ∷ ys) more rest e =
    by (λ f. text_ends xs ys more rest f) (cases_eq x 0) (cases_eq y 0)
  where
    by : (tail xs ++ more ≡ tail ys ++ rest → (xs ≡ ys) × (more ≡ rest))
        → (x ≡ 0) ⊎ (x ≢ 0) → (y ≡ 0) ⊎ (y ≢ 0) → (x ∷ xs ≡ y ∷ ys) × (more ≡ rest)
    by so (inl is) (inl also) =
        let f : 0 ∷ ESCAPE ∷ (tail xs ++ more) ≡ 0 ∷ ESCAPE ∷ (tail ys ++ rest) =
        sym (ap (λ (t : List ℕ). t ++ more) (tail-zero x xs is)) ∙
        (e ∙ ap (λ (t : List ℕ). t ++ rest) (tail-zero y ys also)) in
        let g : tail xs ++ more ≡ tail ys ++ rest = cc in
        let both = so g in (rw (is, also, both.0) refl, both.1)
    by so (inl is) (inr ne) =
        let f : 0 ∷ ESCAPE ∷ (tail xs ++ more) ≡ y ∷ (tail ys ++ rest) =
        sym (ap (λ (t : List ℕ). t ++ more) (tail-zero x xs is)) ∙
        (e ∙ ap (λ (t : List ℕ). t ++ rest) (tail-other y ys ne)) in
        let first : ◌≡◌ {A = ℕ} 0 y = cc in absurd (ne (sym first))
    by so (inr ne) (inl also) =
        let f : x ∷ (tail xs ++ more) ≡ 0 ∷ ESCAPE ∷ (tail ys ++ rest) =
        sym (ap (λ (t : List ℕ). t ++ more) (tail-other x xs ne)) ∙
        (e ∙ ap (λ (t : List ℕ). t ++ rest) (tail-zero y ys also)) in
        let first : ◌≡◌ {A = ℕ} x 0 = cc in absurd (ne first)
    by so (inr ne) (inr other) =
        let f : x ∷ (tail xs ++ more) ≡ y ∷ (tail ys ++ rest) =
        sym (ap (λ (t : List ℕ). t ++ more) (tail-other x xs ne)) ∙
        (e ∙ ap (λ (t : List ℕ). t ++ rest) (tail-other y ys other)) in
        let first : ◌≡◌ {A = ℕ} x y = cc in
        let g : tail xs ++ more ≡ tail ys ++ rest = cc in
        let both = so g in (rw (first, both.0) refl, both.1)

pub short_text : (text : List ℕ) → length (flat_map escaped text) ≤ 2 * length text
short_text [] = omega arith
short_text (x ∷ xs) = by (short_text xs) (cases_eq x 0)
  where
    by : length (flat_map escaped xs) ≤ 2 * length xs → (x ≡ 0) ⊎ (x ≢ 0)
        → length (flat_map escaped (x ∷ xs)) ≤ 2 * length (x ∷ xs)
    by rest (inl is) = rw is (omega arith)
    by rest (inr ne) = rw (ne_eqb x 0 ne) (omega arith)
