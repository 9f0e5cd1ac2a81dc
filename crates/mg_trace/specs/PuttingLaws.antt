-- What pieces come to that are put one behind the other.
use Rattle.std.proofs.Common.{◌≡◌, inl, inr, ℕ, ◌≤◌, Bool, true, false, List, [], ◌∷◌, ◌++◌, length, take, refl, sym, ap, ◌∙◌, subst, arith, append_assoc, append-nil}
use Rattle.std.proofs.Math.Seq.{take-append_seam}
use Rattle.std.proofs.lemmas.Bool.{true≢false}
use Rattle.std.proofs.lemmas.List.{take-take, length-take}
use Rattle.mg_value.specs.Values.{KeepsFront}
use Rattle.mg_model.specs.declared.answer.Answer.{Answer}
use Rattle.mg_model.specs.declared.event.Event.{Event}
use Rattle.mg_model.specs.History.{Entries, entry}
use Rattle.mg_trace.specs.declared.trace.Trace.{Trace}
use Rattle.mg_trace.specs.Text.{end_text, event_text, history_text, line_text}
use Rattle.mg_trace.specs.Putting.{AddsLine, EndsLine, Has, IsBeginning, Puts}

-- nothing was put
pub front_same : (old : List ℕ) → KeepsFront old old
front_same old = ap (take (length old)) (sym (append-nil old)) ∙ take-append_seam old []

-- something was put behind
pub front_longer : (old new more : List ℕ) → new ≡ old ++ more → KeepsFront old new
front_longer old new more is = ap (take (length old)) is ∙ take-append_seam old more

-- two calls
pub front_twice : (a b c : List ℕ) → KeepsFront a b → KeepsFront b c → KeepsFront a c
front_twice a b c h k =
    let shorter : length a ≤ length b = omega (arith, ap length h, length-take (length a) b) in
    sym (take-take (length a) (length b) c shorter) ∙ ap (take (length a)) k ∙ h

-- what was there is there still, and so are its places
pub front_within : (old new : List ℕ) (place : ℕ) → KeepsFront old new → place ≤ length old → place ≤ length new
front_within old new place h within = omega (arith, ap length h, length-take (length old) new)

-- no piece
pub puts_none : (t : Trace) → Puts t t []
puts_none t = record { whole = λ w. (w, sym (append-nil t.text.items)); front = front_same t.text.items }

-- two pieces
pub puts_both : (old mid new : Trace) (x y : List ℕ) → Puts old mid x → Puts mid new y → Puts old new (x ++ y)
puts_both old mid new x y first second = record {
  whole = λ w. let s = second.whole w in let f = first.whole s.0 in
      (f.0, s.1 ∙ ap (λ (m : List ℕ). m ++ y) f.1 ∙ append_assoc old.text.items x y);
  front = front_twice old.text.items mid.text.items new.text.items first.front second.front;
}

-- the same piece, told otherwise
pub puts_as : (old new : Trace) (x y : List ℕ) → x ≡ y → Puts old new x → Puts old new y
puts_as old new x y is put = subst (λ (z : List ℕ). Puts old new z) is put

-- a piece, and the end of the line
pub ends_behind : (old mid new : Trace) (begun : ℕ) (x y : List ℕ) → Puts old mid x → EndsLine mid new begun y
    → EndsLine old new begun (x ++ y)
ends_behind old mid new begun x y first second = record {
  whole = λ w. let s = second.whole w in let f = first.whole s.0 in
      (f.0, s.1 ∙ ap (λ (m : List ℕ). m ++ y) f.1 ∙ append_assoc old.text.items x y);
  short = λ w within. second.short w (front_within old.text.items mid.text.items begun first.front within)
      ∙ sym (take-take begun (length old.text.items) mid.text.items within) ∙ ap (take begun) first.front;
}

-- a piece that is cut back with its line
pub ends_cut : (old mid new : Trace) (begun : ℕ) (piece : List ℕ) → Puts old mid piece → new.whole ≡ false
    → new.text.items ≡ take begun mid.text.items → EndsLine old new begun piece
ends_cut old mid new begun piece put whole cut = record {
  whole = λ w. absurd (true≢false (sym w ∙ whole));
  short = λ w within. cut ∙ sym (take-take begun (length old.text.items) mid.text.items within)
      ∙ ap (take begun) put.front;
}

-- an event, and the end of its line
pub line_added : (old mid new : Trace) (begun : ℕ) (event : Event) (answer : Answer) → begun ≡ length old.text.items
    → Puts old mid (event_text event) → EndsLine mid new begun (end_text answer) → AddsLine old new event answer
line_added old mid new begun event answer is first second = record {
  whole = λ w. let s = second.whole w in let f = first.whole s.0 in (
    f.0,
    s.1 ∙ ap (λ (m : List ℕ). m ++ end_text answer) f.1
        ∙ append_assoc old.text.items (event_text event) (end_text answer),
  );
  short = λ w. second.short w (front_within old.text.items mid.text.items begun first.front (omega (arith, is)))
      ∙ ap (λ (n : ℕ). take n mid.text.items) is ∙ first.front;
}

-- a trace without a text has a history without an entry
pub has_none : (t : Trace) → t.text.items ≡ [] → Has t []
has_none t empty = record { whole = λ w. empty; beginning = empty }

-- a trace that is whole has the text of the longer history
has_text : (old new : Trace) (h : Entries) (event : Event) (answer : Answer) → AddsLine old new event answer → Has old h
    → new.whole ≡ true → new.text.items ≡ history_text (entry event answer ∷ h)
has_text old new h event answer adds has w =
    let a = adds.whole w in
    a.1 ∙ ap (λ (m : List ℕ). m ++ line_text (entry event answer)) (has.whole a.0)

-- any trace has that of a beginning of it
has_beginning : (old new : Trace) (h : Entries) (event : Event) (answer : Answer) (b : Bool) → new.whole ≡ b
    → AddsLine old new event answer → Has old h → IsBeginning new.text.items (entry event answer ∷ h)
has_beginning old new h event answer true w adds has = inl (has_text old new h event answer adds has w)
has_beginning old new h event answer false w adds has =
    inr (subst (λ (m : List ℕ). IsBeginning m h) (sym (adds.short w)) has.beginning)

-- a trace that has a history has the longer one, once the line of its entry is added
pub has_one : (old new : Trace) (h : Entries) (event : Event) (answer : Answer) → AddsLine old new event answer
    → Has old h → Has new (entry event answer ∷ h)
has_one old new h event answer adds has = record {
  whole = has_text old new h event answer adds has;
  beginning = has_beginning old new h event answer new.whole refl adds has;
}
