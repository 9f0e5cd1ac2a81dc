-- Who needs what: a version that nobody needs for one that nobody needs for a third, nobody needs for that.
use Rattle.std.proofs.Common.{◌≡◌, refl, ℕ, ◌&&◌, ◌||◌, not, Bool, true, false, List, [], ◌∷◌}
use Rattle.std.specs.Prelude.{is_some}
use Rattle.std.specs.List.{list_any}
use Rattle.mg_snap.specs.Live.{Entered, State, base_sees, needed, wants_older}

neither : (a b : Bool) → (a || b) ≡ false → (a ≡ false) × (b ≡ false)
neither false false is = (refl, refl)
neither false true is = absurd cc
neither true b is = absurd cc

-- of one base that is there or not, and what it sees of three
one_base : (some a b c : Bool) → (some && (b && not a)) ≡ false → (some && (c && not b)) ≡ false
    → (some && (c && not a)) ≡ false
one_base false a b c first second = refl
one_base true true true true first second = refl
one_base true true true false first second = refl
one_base true true false true first second = refl
one_base true true false false first second = refl
one_base true false true true first second = absurd cc
one_base true false true false first second = refl
one_base true false false true first second = absurd cc
one_base true false false false first second = refl

among_on : (es : List Entered) (a b c : ℕ) → list_any (wants_older a b) es ≡ false
    → list_any (wants_older b c) es ≡ false → list_any (wants_older a c) es ≡ false
among_on [] a b c first second = refl
among_on (e ∷ es) a b c first second =
    let one = neither (wants_older a b e) (list_any (wants_older a b) es) first in
    let two = neither (wants_older b c e) (list_any (wants_older b c) es) second in
    rw (one_base (is_some e.base) (base_sees e.base a) (base_sees e.base b) (base_sees e.base c) one.0 two.0)
    (among_on es a b c one.1 two.1)

pub unneeded_on : (live : State) (a b c : ℕ) → needed live a b ≡ false → needed live b c ≡ false
    → needed live a c ≡ false
unneeded_on live a b c first second = among_on live.entered a b c first second

itself : (some a : Bool) → (some && (a && not a)) ≡ false
itself false a = refl
itself true true = refl
itself true false = refl

among_itself : (es : List Entered) (a : ℕ) → list_any (wants_older a a) es ≡ false
among_itself [] a = refl
among_itself (e ∷ es) a = rw (itself (is_some e.base) (base_sees e.base a)) (among_itself es a)

-- nobody sees a version without seeing it
pub unneeded_itself : (live : State) (a : ℕ) → needed live a a ≡ false
unneeded_itself live a = among_itself live.entered a
