-- What a call adds to the history.
use Rattle.std.specs.Prelude.{◌≡◌, ℕ, true, false, ◌∷◌, Option, Some, None, Result, Ok, Err}
use Rattle.mg_base.specs.declared.numbers.TxNo.{TxNo}
use Rattle.mg_base.specs.declared.transaction.TxState.TheVariants.{Active}
use Rattle.mg_model.specs.declared.answer.Answer.{Answer}
use Rattle.mg_model.specs.declared.answer.Answer.TheVariants.{Fine, Tx, No}
use Rattle.mg_model.specs.declared.event.Event.{Event}
use Rattle.mg_model.specs.declared.opening.Opening.{Opening}
use Rattle.mg_model.specs.declared.refusal.Refusal.{Refusal}
use Rattle.mg_model.specs.declared.refusal.Refusal.TheVariants.{DatabaseFull, NotActive}
use Rattle.mg_model.specs.History.{Entries, entry}
use Rattle.mg_model.specs.Machine.{state_of}
use Rattle.mg_model.specs.Answers.{is_active}
use Rattle.mg_model.specs.Legal.{IsLawful, is_outer}
use Rattle.mg_records.specs.Meaning.{Means}

-- the call adds one entry, which is lawful, to each history that the value stands for
abbrev pub Adds : {R P : Type 0} → Means R P → R → R → Event → Answer → Type 0
Adds m old new event answer = (o : Opening) (h : Entries) → m.stands old o h
    → IsLawful o h (entry event answer) × m.stands new o (entry event answer ∷ h)

-- the answers that results are
abbrev pub fine_or : Result (Unit {0}) Refusal → Answer
fine_or (Ok x) = Fine
fine_or (Err r) = No r

abbrev pub number_or : Result TxNo Refusal → Answer
number_or (Ok t) = Tx t
number_or (Err r) = No r

-- the number that was drawn
abbrev pub drawn_in : Result TxNo Refusal → Option ℕ
drawn_in (Ok t) = Some t.0
drawn_in (Err r) = None

-- a call that gives no event is refused: its transaction isn't active, or from outside; it takes no page, so never for
-- want of pages
abbrev pub IsRefused : Opening → Entries → ℕ → Refusal → Type 0
IsRefused o h t (NotActive state) = (state_of o h t ≡ state) × (is_active state ≡ false)
IsRefused o h t (DatabaseFull limit) = ⊥
IsRefused o h t refusal = is_outer (No refusal) ≡ true

-- a call that gives no event is answered: its transaction is active, or it is refused
abbrev pub Answers : {T : Type 0} → Opening → Entries → ℕ → Result T Refusal → Type 0
Answers o h t (Ok x) = state_of o h t ≡ Active
Answers o h t (Err r) = IsRefused o h t r

-- the same of each history that the value stands for
abbrev pub AnswersAll : {R P T : Type 0} → Means R P → R → ℕ → Result T Refusal → Type 0
AnswersAll m old t result =
    (o : Opening) (h : Entries) → m.stands old o h → Answers o h t result
