-- A way of waits, one turn on.
use Rattle.std.proofs.Common.{◌≡◌, ℕ, suc, ◌+◌, ◌-◌, ◌<◌, Option, Some, refl, arith, ◌∙◌, ap}
use Rattle.std.proofs.lemmas.Bool.{ne_eqb}
use Rattle.mg_model.specs.Answers.{leads_to}

pub leads_on : (waits : ℕ → Option ℕ) (most u v t : ℕ) → (u ≡ t → ⊥) → waits u ≡ Some v
    → leads_to waits (suc most) u t ≡ leads_to waits most v t
leads_on waits most u v t apart on = rw (ne_eqb u t apart, on) refl

-- with the turns that are left counted from an end
pub leads_next : (waits : ℕ → Option ℕ) (end counter u v t : ℕ) → counter < end → (u ≡ t → ⊥)
    → waits u ≡ Some v
    → leads_to waits (end - counter) u t ≡ leads_to waits (end - (counter + 1)) v t
leads_next waits end counter u v t below apart on =
    let more : end - counter ≡ suc (end - (counter + 1)) = omega arith in
    ap (λ (n : ℕ). leads_to waits n u t) more ∙ leads_on waits (end - (counter + 1)) u v t apart on
