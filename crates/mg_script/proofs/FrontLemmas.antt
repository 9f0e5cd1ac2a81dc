-- What was put behind a text by calls one after another, and what of it stays in front.
use Rattle.std.proofs.Common.{◌≡◌, ℕ, ◌≤◌, ◌<◌, ◌+◌, List, [], ◌∷◌, ◌++◌, length, take, get_or, Result, Ok, Err, OnOk, sym, ap, ◌∙◌, arith, append_assoc, append-nil}
use Rattle.std.proofs.Math.Seq.{take-append_seam}
use Rattle.std.proofs.lemmas.List.{take-take, length-take, take_more}
use Rattle.std.proofs.lemmas.List.Concat.{flat_map-append}
use Rattle.std.specs.List.{flat_map}
use Rattle.mg_base.specs.declared.memory.Memory.{Memory}
use Rattle.mg_value.specs.Values.{KeepsFront}

-- nothing was put
pub front_same : (old : List ℕ) → KeepsFront old old
front_same old = ap (take (length old)) (sym (append-nil old)) ∙ take-append_seam old []

-- nothing could be put
pub front_kept : (old new : List ℕ) → new ≡ old → KeepsFront old new
front_kept old new is = ap (take (length old)) is ∙ front_same old

-- something was put behind
pub front_longer : (old new more : List ℕ) → new ≡ old ++ more → KeepsFront old new
front_longer old new more is = ap (take (length old)) is ∙ take-append_seam old more

-- two calls
pub front_twice : (a b c : List ℕ) → KeepsFront a b → KeepsFront b c → KeepsFront a c
front_twice a b c h k =
    let shorter : length a ≤ length b = omega (arith, ap length h, length-take (length a) b) in
    sym (take-take (length a) (length b) c shorter) ∙ ap (take (length a)) k ∙ h

-- two pieces
pub both_put : (old mid new x y : List ℕ) → mid ≡ old ++ x → new ≡ mid ++ y → new ≡ old ++ (x ++ y)
both_put old mid new x y first second =
    second ∙ ap (λ (m : List ℕ). m ++ y) first ∙ append_assoc old x y

-- a last piece, where it could be put
pub last_put : {T : Type 0} (r : Result T Memory) (old mid new x y all : List ℕ) → x ++ y ≡ all → mid ≡ old ++ x
    → OnOk r (new ≡ mid ++ y) → OnOk r (new ≡ old ++ all)
last_put (Ok t) old mid new x y all are first second =
    both_put old mid new x y first second ∙ ap (λ (m : List ℕ). old ++ m) are
last_put (Err e) old mid new x y all are first second = tt

-- the piece of one more item
pub item_put : {A : Type 0} (f : A → List ℕ) (items : List A) (i : ℕ) (d : A) (old mid new : List ℕ)
    → i < length items → mid ≡ old ++ flat_map f (take i items) → new ≡ mid ++ f (get_or items i d)
    → new ≡ old ++ flat_map f (take (i + 1) items)
item_put f items i d old mid new below before one =
    let here : List ℕ = f (get_or items i d) in
    let more : flat_map f (take (i + 1) items) ≡ flat_map f (take i items) ++ here =
    ap (flat_map f) (take_more items i d below)
    ∙ flat_map-append f (take i items) (get_or items i d ∷ [])
    ∙ ap (λ (m : List ℕ). flat_map f (take i items) ++ m) (append-nil here) in
    both_put old mid new (flat_map f (take i items)) here before one ∙ ap (λ (m : List ℕ). old ++ m) (sym more)
