use Rattle.std.proofs.Common.{◌≡◌, ℕ, ◌+◌, ◌-◌, ◌*◌, ◌<◌, ◌∷◌, [], List, ◌++◌, length, take, get_or, min, refl, sym, ◌∙◌, ap, arith}
use Rattle.std.proofs.lemmas.List.{take_more}
use Rattle.mg_sql.specs.Spelling.{number, number_from}
use Rattle.mg_sql.proofs.values.number_of.Goals as goal

number_snoc : (n : ℕ) (ds : List ℕ) (d : ℕ) → number_from n (ds ++ d ∷ []) ≡ 10 * number_from n ds + (d - 48)
number_snoc n [] d = refl
number_snoc n (e ∷ ds) d = number_snoc (10 * n + (e - 48)) ds d

step : (n m x r d k : ℕ) → n ≡ min 18446744073709551615 m → x ≡ min (n * 10) 18446744073709551615 → r ≡ min (x + d) 18446744073709551615 → k ≡ 10 * m + d → r ≡ min 18446744073709551615 k
step n m x r d k a b e f = omega arith

pub loop-digit-preserved : goal.loop-digit-preserved
loop-digit-preserved c =
    step c.loop-digit.number (number (take c.loop-digit.digit-index c.args.digits.now)) c.saturating_mul.result c.saturating_add-number.result
    (get_or c.args.digits.now c.loop-digit.digit-index 0 - 48) (number (take (c.loop-digit.digit-index + 1) c.args.digits.now))
    c.loop-digit.invariant c.saturating_mul.ensures c.saturating_add-number.ensures
    (ap number (take_more c.args.digits.now c.loop-digit.digit-index 0 c.loop-digit-test.true) ∙ number_snoc 0 (take c.loop-digit.digit-index c.args.digits.now) (get_or c.args.digits.now c.loop-digit.digit-index 0))
