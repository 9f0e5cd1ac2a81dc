-- A line is of one form: its first three bytes tell which.
use Rattle.std.proofs.Common.{◌≡◌, ◌⊎◌, inl, inr, ◌<◌, ◌≤◌, ◌+◌, ℕ, ℤ, Bool, true, false, List, [], ◌∷◌, ◌++◌, length, take, drop, get_or, FitsSigned, refl, sym, ap, ◌∙◌, arith}
use Rattle.std.specs.Prelude.{◌==◌, codes, cond}
use Rattle.std.proofs.lemmas.Fmt.{decimal_injective, signed_decimal_injective}
use Rattle.std.specs.Fmt.{decimal, signed_decimal}
use Rattle.std.proofs.lemmas.Bool.{ne_eqb}
use Rattle.std.proofs.lemmas.List.{get_or_append_left, length-append}
use Rattle.std.specs.Int.{w64}
use Rattle.mg_script.specs.Spelling.{AreSpelled, IsFirst}
use Rattle.mg_script.specs.Laws.{LinesSayOneThing}
use Rattle.mg_script.specs.Lines.{Asks, IsLine, letter}
use Rattle.mg_script.specs.declared.line.LineKind.{LineKind}
use Rattle.mg_script.specs.declared.line.LineKind.TheVariants.{Sql, Held, Step, Go, Write, Collect, Sweep, Prepare, Put, Get, Silent, Bad}
use Rattle.mg_script.specs.declared.line.Session.{Session}
use Rattle.mg_script.specs.declared.line.TheConstants.{MOST_STEPS, SESSIONS}
use Rattle.mg_script.proofs.SplittingLemmas.{first_spelled, number_apart, rest_spelled, same_rest, seam}

-- a number for each form
abbrev form : LineKind → ℕ
form (Sql session sql) = 1
form (Held session sql) = 2
form (Step session most) = 3
form (Go session) = 4
form (Write most) = 5
form Collect = 6
form (Sweep most) = 7
form (Prepare session) = 8
form (Put key value) = 9
form (Get key) = 10
form Silent = 11
form Bad = 12

-- the form that the first bytes of a line tell
abbrev told : ℕ → ℕ → ℕ → ℕ
told a b c =
    cond (a == 0) 11 (cond (a == 45) 11 (cond (b == 58) 1 (cond (b == 126) 2 (cond (b == 99) 6 (cond (b == 119) 5
    (cond (b == 103) (cond (c == 111) 4 10) (cond (b == 115) (cond (c == 116) 3 7) (cond (c == 114) 8 9))))))))

abbrev of_text : List ℕ → ℕ
of_text text = told (get_or text 0 0) (get_or text 1 0) (get_or text 2 0)

-- a line tells its form
lettered : (s : Session) (b c : ℕ) (rest : List ℕ) → of_text (letter s ∷ b ∷ c ∷ rest)
    ≡ told 64 b c
lettered s b c rest =
    rw (ne_eqb (65 + s.0) 0 (omega arith), ne_eqb (65 + s.0) 45 (omega arith)) refl

tells : (text : List ℕ) (k : LineKind) → Asks text k → of_text text ≡ form k
tells text (Sql session sql) asks = rw asks.spelled (lettered session 58 32 sql)
tells text (Held session sql) asks = rw asks.spelled (lettered session 126 32 sql)
tells text (Step session most) asks = rw asks.spelled refl
tells text (Go session) asks = rw asks.spelled refl
tells text (Write most) asks = rw asks.spelled refl
tells text Collect asks = rw asks refl
tells text (Sweep most) asks = rw asks.spelled refl
tells text (Prepare session) asks = rw asks.spelled refl
tells text (Put key value) asks = rw asks.spelled refl
tells text (Get key) asks = rw asks.spelled refl
tells text Silent (inl none) = rw none refl
tells [] Silent (inr dashes) = refl
tells (a ∷ []) Silent (inr dashes) = absurd cc
tells (a ∷ b ∷ more) Silent (inr dashes) =
    let first : a ≡ 45 = cc in rw first refl
tells text Bad asks = absurd asks

-- two lines of one form that are spelled alike say the same
same_session : (s u : Session) → letter s ≡ letter u → s ≡ u
same_session s u is =
    let same : s.0 ≡ u.0 = omega (arith, is) in
    ap (λ (n : ℕ). (record { 0 = n })) same

same_front : (s u : Session) (a b : List ℕ) → letter s ∷ a ≡ letter u ∷ b → (s ≡ u) × (a ≡ b)
same_front s u a b is =
    let first : letter s ≡ letter u = cc in
    let rest : a ≡ b = cc in (same_session s u first, rest)

-- the blank behind the first number is the first one
first_at : (text : List ℕ) (first second : ℤ) → AreSpelled text (codes " ") first second
    → IsFirst text 32 (length (signed_decimal first))
first_at text first second are = record {
  below = rw are.spelled (omega (arith, length-append {A = ℕ}));
  here = ap (λ (xs : List ℕ). get_or xs (length (signed_decimal first)) 0) are.spelled
      ∙ seam text (codes " ") (omega arith) (omega arith) (signed_decimal first) (signed_decimal second) (codes " ") (omega arith);
  before = λ k lt is.
      number_apart 32 (omega arith) first are.first_fits k lt
      (sym (get_or_append_left (signed_decimal first) (32 ∷ signed_decimal second) 0 k lt)
      ∙ (ap (λ (xs : List ℕ). get_or xs k 0) (sym are.spelled) ∙ is));
}

-- two numbers in a row are told by their text
same_numbers : (text : List ℕ) (k v l w : ℤ) → AreSpelled text (codes " ") k v
    → AreSpelled text (codes " ") l w → (k ≡ l) × (v ≡ w)
same_numbers text k v l w a b =
    let end = length (signed_decimal k) in
    let at = first_at text k v a in
    let one : signed_decimal k ≡ signed_decimal l =
    first_spelled text (codes " ") (omega arith) (omega arith) k v end at a
    ∙ sym (first_spelled text (codes " ") (omega arith) (omega arith) l w end at b) in
    let two : codes " " ++ signed_decimal v ≡ codes " " ++ signed_decimal w =
    sym (rest_spelled text (codes " ") (omega arith) (omega arith) k v end at a)
    ∙ rest_spelled text (codes " ") (omega arith) (omega arith) l w end at b in (
      signed_decimal_injective k l a.first_fits.sfits b.first_fits.sfits one,
      signed_decimal_injective v w a.second_fits.sfits b.second_fits.sfits
          (same_rest (codes " ") (signed_decimal v) (signed_decimal w) two),
    )

same : (text : List ℕ) (a b : LineKind) → form a ≡ form b → Asks text a → Asks text b → a ≡ b
same text (Sql s t) (Sql u v) alike x y =
    let two = same_front s u (codes ": " ++ t) (codes ": " ++ v) (sym x.spelled ∙ y.spelled) in
    let texts : t ≡ v = same_rest (codes ": ") t v two.1 in
    rw (two.0, texts) refl
same text (Held s t) (Held u v) alike x y =
    let two = same_front s u (codes "~ " ++ t) (codes "~ " ++ v) (sym x.spelled ∙ y.spelled) in
    let texts : t ≡ v = same_rest (codes "~ ") t v two.1 in
    rw (two.0, texts) refl
same text (Step s m) (Step u n) alike x y =
    let xm : m ≤ MOST_STEPS = x.at_most in
    let yn : n ≤ MOST_STEPS = y.at_most in
    let two = same_front s u (32 ∷ decimal m) (32 ∷ decimal n)
    (same_rest (codes "@step ") (letter s ∷ (32 ∷ decimal m)) (letter u ∷ (32 ∷ decimal n)) (sym x.spelled ∙ y.spelled)) in
    let numbers : m ≡ n =
    decimal_injective m n (omega (arith, xm)) (omega (arith, yn)) (same_rest (codes " ") (decimal m) (decimal n) two.1) in
    rw (two.0, numbers) refl
same text (Go s) (Go u) alike x y =
    ap (λ (v : Session). Go v) (same_front s u [] []
    (same_rest (codes "@go ") (letter s ∷ []) (letter u ∷ []) (sym x.spelled ∙ y.spelled))).0
same text (Write m) (Write n) alike x y =
    let xm = x.fits in let yn = y.fits in
    ap (λ (k : ℕ). Write k) (decimal_injective m n (omega (arith, xm)) (omega (arith, yn))
    (same_rest (codes "@write ") (decimal m) (decimal n) (sym x.spelled ∙ y.spelled)))
same text Collect Collect alike x y = refl
same text (Sweep m) (Sweep n) alike x y =
    let xm = x.fits in let yn = y.fits in
    ap (λ (k : ℕ). Sweep k) (decimal_injective m n (omega (arith, xm)) (omega (arith, yn))
    (same_rest (codes "@sweep ") (decimal m) (decimal n) (sym x.spelled ∙ y.spelled)))
same text (Prepare s) (Prepare u) alike x y =
    ap (λ (v : Session). Prepare v) (same_front s u [] []
    (same_rest (codes "@prepare ") (letter s ∷ []) (letter u ∷ []) (sym x.spelled ∙ y.spelled))).0
same text (Put k v) (Put l w) alike x y =
    let rest : signed_decimal k ++ (32 ∷ signed_decimal v) ≡ signed_decimal l ++ (32 ∷ signed_decimal w) =
    same_rest (codes "@put ") (signed_decimal k ++ (32 ∷ signed_decimal v))
    (signed_decimal l ++ (32 ∷ signed_decimal w)) (sym x.spelled ∙ y.spelled) in
    let both = same_numbers (signed_decimal k ++ (32 ∷ signed_decimal v)) k v l w
    (record { first_fits = x.key_fits; second_fits = x.value_fits; spelled = refl })
    (record { first_fits = y.key_fits; second_fits = y.value_fits; spelled = rest }) in
    rw (both.0, both.1) refl
same text (Get k) (Get l) alike x y =
    ap (λ (z : ℤ). Get z) (signed_decimal_injective k l x.key_fits.sfits y.key_fits.sfits
    (same_rest (codes "@get ") (signed_decimal k) (signed_decimal l) (sym x.spelled ∙ y.spelled)))
same text Silent Silent alike x y = refl
same text Bad b alike x y = absurd x
same text a b alike x y = absurd (omega (arith, alike))

pub one_form : LinesSayOneThing
one_form text Bad Bad a b = refl
one_form text Bad b none asks = absurd (none b asks)
one_form text a Bad asks none = absurd (none a asks)
one_form text a b x y = same text a b (sym (tells text a x) ∙ tells text b y) x y
