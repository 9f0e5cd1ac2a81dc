-- A list that grows twice at its end has grown at its end.
use Rattle.std.proofs.Common.{ℕ, ◌≤◌, List, length, take, sym, ap, ◌∙◌, arith}
use Rattle.std.proofs.lemmas.List.{take-take, length-take}
use Rattle.mg_value.specs.Values.{KeepsFront}

pub keeps_front_twice : (a b c : List ℕ) → KeepsFront a b → KeepsFront b c → KeepsFront a c
keeps_front_twice a b c h k =
    let shorter : length a ≤ length b = omega (arith, ap length h, length-take (length a) b) in
    sym (take-take (length a) (length b) c shorter) ∙ ap (take (length a)) k ∙ h
