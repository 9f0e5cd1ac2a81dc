-- What was put behind a text by calls one after another.
use Rattle.std.proofs.Common.{◌≡◌, ℕ, ◌<◌, ◌+◌, true, List, [], ◌∷◌, ◌++◌, length, take, get_or, Result, Ok, Err, OnOk, sym, ap, ◌∙◌, append_assoc, append-nil}
use Rattle.std.proofs.lemmas.List.{take_more}
use Rattle.std.proofs.lemmas.List.Concat.{flat_map-append}
use Rattle.std.specs.declared.alloc.Global.{Global}
use Rattle.std.specs.declared.vec.Vec.{Vec}
use Rattle.std.specs.List.{flat_map}
use Rattle.mg_base.specs.declared.memory.Memory.{Memory}
use Rattle.mg_interleavings.specs.declared.answered.Answered.{Answered}
use Rattle.mg_interleavings.specs.Texts.{said_at_once}
use Rattle.mg_trace.specs.declared.trace.Trace.{Trace}
use Rattle.mg_trace.specs.Putting.{Puts}
use Rattle.mg_storm_report.specs.Report.{answers_from, answers_in, session_of}

-- two pieces
pub both_put : (old mid new x y : List ℕ) → mid ≡ old ++ x → new ≡ mid ++ y → new ≡ old ++ (x ++ y)
both_put old mid new x y first second =
    second ∙ ap (λ (m : List ℕ). m ++ y) first ∙ append_assoc old x y

-- three pieces, where the last one could be put
pub last_put : {T : Type 0} (r : Result T Memory) (old one two new x y z : List ℕ) → one ≡ old ++ x → two ≡ one ++ y
    → OnOk r (new ≡ two ++ z) → OnOk r (new ≡ old ++ (x ++ (y ++ z)))
last_put (Ok t) old one two new x y z first second third =
    both_put old one new x (y ++ z) first (both_put one two new y z second third)
last_put (Err e) old one two new x y z first second third = tt

-- the piece of one more item
pub item_put : {A : Type 0} (f : A → List ℕ) (items : List A) (i : ℕ) (d : A) (old mid new : List ℕ)
    → i < length items → mid ≡ old ++ flat_map f (take i items) → new ≡ mid ++ f (get_or items i d)
    → new ≡ old ++ flat_map f (take (i + 1) items)
item_put f items i d old mid new below before one =
    let here : List ℕ = f (get_or items i d) in
    let more : flat_map f (take (i + 1) items) ≡ flat_map f (take i items) ++ here =
    ap (flat_map f) (take_more items i d below)
    ∙ flat_map-append f (take i items) (get_or items i d ∷ [])
    ∙ ap (λ (m : List ℕ). flat_map f (take i items) ++ m) (append-nil here) in
    both_put old mid new (flat_map f (take i items)) here before one ∙ ap (λ (m : List ℕ). old ++ m) (sym more)

-- the answers of one session more
pub answers_on : (out next : List ℕ) (s : ℕ) (rest later : List (Vec Answered Global)) (own : Vec Answered Global)
    (all : List ℕ) → rest ≡ own ∷ later → next ≡ out ++ flat_map (said_at_once (session_of s)) own.items
    → out ++ answers_from s (answers_in rest) ≡ all → next ++ answers_from (s + 1) (answers_in later) ≡ all
answers_on out next s rest later own all split put is =
    let here : List ℕ = flat_map (said_at_once (session_of s)) own.items in
    ap (λ (m : List ℕ). m ++ answers_from (s + 1) (answers_in later)) put
    ∙ append_assoc out here (answers_from (s + 1) (answers_in later))
    ∙ ap (λ (vs : List (Vec Answered Global)). out ++ answers_from s (answers_in vs)) (sym split) ∙ is

-- a first piece, and two behind it
pub three_put : (one two new x y z : List ℕ) → one ≡ x → two ≡ one ++ y → new ≡ two ++ z → new ≡ x ++ (y ++ z)
three_put one two new x y z first second third =
    both_put one two new y z second third ∙ ap (λ (m : List ℕ). m ++ (y ++ z)) first

-- a text that was put behind nothing
pub alone_put : (old new : Trace) (piece : List ℕ) → old.text.items ≡ [] → Puts old new piece → new.whole ≡ true
    → new.text.items ≡ piece
alone_put old new piece none puts whole =
    (puts.whole whole).1 ∙ ap (λ (m : List ℕ). m ++ piece) none
