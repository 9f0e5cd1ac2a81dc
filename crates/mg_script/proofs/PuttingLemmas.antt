-- Pieces that are put one behind the other.
use Rattle.std.proofs.Common.{◌≡◌, ℕ, List, ◌++◌, Result, Ok, Err, OnOk, append_assoc}
use Rattle.mg_base.specs.declared.memory.Memory.{Memory}

-- what follows of an Ok
pub on_ok : {T : Type 0} (r : Result T Memory) (P Q : Type 0) → (P → Q) → OnOk r P → OnOk r Q
on_ok (Ok x) P Q gives p = gives p
on_ok (Err e) P Q gives p = tt

-- words, and a number behind other words
pub worded_put : (old mid new a w x b y : List ℕ) → w ≡ x → mid ≡ old ++ (a ++ w)
    → new ≡ mid ++ (b ++ y) → new ≡ old ++ (a ++ x ++ b ++ y)
worded_put old mid new a w x b y same first second =
    rw (second, first, same) (simp append_assoc)

-- a number, a word, and two numbers more
pub damaged_put : (old one two three new a p b w f c x d y : List ℕ) → w ≡ f → one ≡ old ++ (a ++ p)
    → two ≡ one ++ (b ++ w) → three ≡ two ++ (c ++ x) → new ≡ three ++ (d ++ y)
    → new ≡ old ++ (a ++ p ++ b ++ f ++ c ++ x ++ d ++ y)
damaged_put old one two three new a p b w f c x d y same first second third fourth =
    rw (fourth, third, second, first, same) (simp append_assoc)
