-- What calls put behind a trace's text.
use Rattle.std.specs.Prelude.{◌≡◌, ◌⊎◌, ℕ, ◌≤◌, true, false, List, [], ◌∷◌, ◌++◌, length, take}
use Rattle.mg_value.specs.Values.{KeepsFront}
use Rattle.mg_model.specs.declared.answer.Answer.{Answer}
use Rattle.mg_model.specs.declared.event.Event.{Event}
use Rattle.mg_model.specs.History.{Entries, entry}
use Rattle.mg_trace.specs.declared.trace.Trace.{Trace}
use Rattle.mg_trace.specs.Text.{history_text, line_text}

-- A piece is put whole; where memory was short, now or before, a part of it may stand there.
pub record Puts (old new : Trace) (piece : List ℕ) : Type 0 where
  pub whole : new.whole ≡ true → (old.whole ≡ true) × (new.text.items ≡ old.text.items ++ piece)
  pub front : KeepsFront old.text.items new.text.items

-- The last piece of a line is put; where memory was short, the line, which has begun there, is taken away.
pub record EndsLine (old new : Trace) (begun : ℕ) (piece : List ℕ) : Type 0 where
  pub whole : new.whole ≡ true → (old.whole ≡ true) × (new.text.items ≡ old.text.items ++ piece)
  pub short : new.whole ≡ false → begun ≤ length old.text.items → new.text.items ≡ take begun old.text.items

-- A line is put whole, or, where memory was short, now or before, nothing is.
pub record AddsLine (old new : Trace) (event : Event) (answer : Answer) : Type 0 where
  pub whole : new.whole ≡ true
      → (old.whole ≡ true) × (new.text.items ≡ old.text.items ++ line_text (entry event answer))
  pub short : new.whole ≡ false → new.text.items ≡ old.text.items

-- a trace goes no further: its text is that of a beginning of the history from here on
pub record Stops (old new : Trace) : Type 0 where
  pub whole : new.whole ≡ false
  pub text : new.text.items ≡ old.text.items

-- a text is that of a history, or of what it was before
abbrev pub IsBeginning : List ℕ → Entries → Type 0
IsBeginning text [] = text ≡ []
IsBeginning text (e ∷ h) = (text ≡ history_text (e ∷ h)) ⊎ IsBeginning text h

-- A trace has a history: its text is that of the history, or, where memory was short, of a beginning of it.
pub record Has (trace : Trace) (h : Entries) : Type 0 where
  pub whole : trace.whole ≡ true → trace.text.items ≡ history_text h
  pub beginning : IsBeginning trace.text.items h
