-- What stood before stays in front of what was put behind it.
use Rattle.std.proofs.Common.{◌≡◌, ℕ, List, ◌++◌, length, take, drop, sym, ap, ◌∙◌, append_assoc}
use Rattle.std.proofs.Math.Seq.{take-append_seam}
use Rattle.std.proofs.lemmas.List.{take-append-drop}
use Rattle.mg_value.specs.Values.{KeepsFront}

pub front_before : (old x mid new : List ℕ) → mid ≡ old ++ x → KeepsFront mid new → KeepsFront old new
front_before old x mid new is front =
    let rest : List ℕ = drop (length mid) new in
    let whole : new ≡ mid ++ rest = sym (take-append-drop (length mid) new)
    ∙ ap (λ (before : List ℕ). before ++ rest) front in
    ap (λ (all : List ℕ). take (length old) all)
    (whole ∙ ap (λ (before : List ℕ). before ++ rest) is ∙ append_assoc old x rest)
    ∙ take-append_seam old (x ++ rest)
