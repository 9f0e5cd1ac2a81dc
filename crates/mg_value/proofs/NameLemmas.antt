-- A name is stored with zeros behind it.
use Rattle.std.proofs.Common.{◌≡◌, ℕ, ◌-◌, ◌≤◌, List, ◌++◌, length, take, drop, replicate, sym, ap, subst, ◌∙◌, refl, arith}
use Rattle.std.proofs.lemmas.List.{drop-replicate, take_at, length-append, length-replicate}
use Rattle.mg_value.specs.Names.{IsName}

pub stored_name : (bytes copied : List ℕ) → copied ≡ bytes → IsName bytes
    → (length bytes ≤ 31) × (length (copied ++ drop (length bytes) (replicate 31 0)) ≡ 31)
    × (copied ++ drop (length bytes) (replicate 31 0) ≡ take (length bytes) (copied ++ drop (length bytes) (replicate 31 0)) ++ replicate (31 - length bytes) 0)
    × IsName (take (length bytes) (copied ++ drop (length bytes) (replicate 31 0)))
stored_name bytes copied same name =
    let most : length bytes ≤ 31 = name.most in
    let whole : copied ++ drop (length bytes) (replicate 31 0) ≡ bytes ++ replicate (31 - length bytes) 0 =
    ap (λ (t : List ℕ). t ++ drop (length bytes) (replicate 31 0)) same ∙ ap (λ (t : List ℕ). bytes ++ t) (drop-replicate (length bytes) 31 0) in
    let front : take (length bytes) (copied ++ drop (length bytes) (replicate 31 0)) ≡ bytes = ap (take (length bytes)) whole ∙ take_at bytes (replicate (31 - length bytes) 0) (length bytes) refl in (
      most,
      omega (arith, ap length whole, length-append bytes (replicate (31 - length bytes) 0), length-replicate {A = ℕ} (31 - length bytes) 0),
      whole ∙ ap (λ (t : List ℕ). t ++ replicate (31 - length bytes) 0) (sym front),
      subst IsName (sym front) name,
    )
