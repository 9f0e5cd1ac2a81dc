-- The transactions that sessions have begun: each has a number of its own, which was drawn before.
use Rattle.std.specs.Prelude.{◌≡◌, ◌≢◌, ◌<◌, ◌+◌, ◌==◌, ℕ, Bool, true, false, [], ◌∷◌, Some, refl, if◌then◌else◌}
use Rattle.std.proofs.Common.{inl, inr, sym, ◌∙◌, arith}
use Rattle.std.proofs.lemmas.Bool.{eqb-true}
use Rattle.mg_base.specs.declared.numbers.TxNo.{TxNo}
use Rattle.mg_model.specs.declared.answer.Answer.{Answer}
use Rattle.mg_model.specs.declared.answer.Answer.TheVariants.{Tx, No}
use Rattle.mg_model.specs.declared.event.Event.{Event}
use Rattle.mg_model.specs.declared.event.Event.TheVariants.{Begin}
use Rattle.mg_model.specs.declared.event.Mode.{Mode}
use Rattle.mg_model.specs.declared.opening.Opening.{Opening}
use Rattle.mg_model.specs.declared.refusal.Refusal.TheVariants.{TransactionLimit}
use Rattle.mg_model.specs.Answers.{number}
use Rattle.mg_model.specs.History.{Entries, entry}
use Rattle.mg_model.specs.Legal.{IsLawful, IsLegal}
use Rattle.mg_model.specs.Machine.{next_number}
use Rattle.mg_model.specs.NumberLaws.{next_number_grows}
use Rattle.mg_transcript.specs.Sessions.{begun_after, last_begun}

-- the number that is drawn is the next one
pub drawn_next : (o : Opening) (h : Entries) (session : ℕ) (mode : Mode) (t : TxNo)
    → IsLawful o h (entry (Begin session mode) (Tx t)) → t.0 ≡ next_number o h
drawn_next o h session mode t (inl is) = at (next_number o h == o.limit.0) is
  where
    at : (b : Bool) → Tx t ≡ (if b then No TransactionLimit else Tx (number (next_number o h)))
        → t.0 ≡ next_number o h
    at true is = absurd cc
    at false is = cc is
drawn_next o h session mode t (inr outer) = absurd cc

same_number : (t u : TxNo) → Some t ≡ Some u → u.0 ≡ t.0
same_number t u is = cc is

-- ---- it was drawn

pub begun_below : (o : Opening) (h : Entries) (s : ℕ) (u : TxNo) → IsLegal o h
    → last_begun h s ≡ Some u → u.0 < next_number o h
begun_below o [] s u legal begun = absurd cc
begun_below o (e ∷ h) s u legal begun =
    at e.event e.answer legal.0 begun (λ before. begun_below o h s u legal.1 before)
  where
    at : (event : Event) (answer : Answer) → IsLawful o h (entry event answer)
        → begun_after event answer s (last_begun h s) ≡ Some u
        → (last_begun h s ≡ Some u → u.0 < next_number o h)
        → u.0 < next_number o (entry event answer ∷ h)
    at (Begin session mode) (Tx t) lawful begun before = on (session == s) begun
      where
        on : (b : Bool) → (if b then Some t else last_begun h s) ≡ Some u
            → u.0 < next_number o h + 1
        on true begun = omega (arith, same_number t u begun, drawn_next o h session mode t lawful)
        on false begun = omega (arith, before begun)
    at event answer lawful begun before =
        omega (arith, before begun, next_number_grows o h (entry event answer))

-- ---- of two sessions it is not the same

pub begun_apart : (o : Opening) (h : Entries) (s k : ℕ) (u v : TxNo) → IsLegal o h → s ≢ k
    → last_begun h s ≡ Some u → last_begun h k ≡ Some v → u.0 ≢ v.0
begun_apart o [] s k u v legal apart first second = absurd cc
begun_apart o (e ∷ h) s k u v legal apart first second =
    at e.event e.answer legal.0 first second
    (λ a b. begun_apart o h s k u v legal.1 apart a b)
    (λ a. begun_below o h s u legal.1 a) (λ b. begun_below o h k v legal.1 b)
  where
    at : (event : Event) (answer : Answer) → IsLawful o h (entry event answer)
        → begun_after event answer s (last_begun h s) ≡ Some u
        → begun_after event answer k (last_begun h k) ≡ Some v
        → (last_begun h s ≡ Some u → last_begun h k ≡ Some v → u.0 ≢ v.0)
        → (last_begun h s ≡ Some u → u.0 < next_number o h)
        → (last_begun h k ≡ Some v → v.0 < next_number o h) → u.0 ≢ v.0
    at (Begin session mode) (Tx t) lawful first second both below_s below_k =
        on (session == s) (session == k) refl refl first second
      where
        on : (a b : Bool) → (session == s) ≡ a → (session == k) ≡ b
            → (if a then Some t else last_begun h s) ≡ Some u
            → (if b then Some t else last_begun h k) ≡ Some v → u.0 ≢ v.0
        on true true is_s is_k first second = λ same.
            apart (sym (eqb-true session s is_s) ∙ eqb-true session k is_k)
        on true false is_s is_k first second = λ same. absurd (omega (
          arith,
          same,
          below_k second,
          same_number t u first,
          drawn_next o h session mode t lawful,
        ))
        on false true is_s is_k first second = λ same. absurd (omega (
          arith,
          same,
          below_s first,
          same_number t v second,
          drawn_next o h session mode t lawful,
        ))
        on false false is_s is_k first second = both first second
    at event answer lawful first second both below_s below_k = both first second

-- ---- the laws

-- what a session has begun has a number that was drawn
abbrev pub BegunAreDrawn : Type 0
BegunAreDrawn = (o : Opening) (h : Entries) (s : ℕ) (u : TxNo) → IsLegal o h
    → last_begun h s ≡ Some u → u.0 < next_number o h

-- and what two sessions have begun are two transactions
abbrev pub BegunAreApart : Type 0
BegunAreApart = (o : Opening) (h : Entries) (s k : ℕ) (u v : TxNo) → IsLegal o h → s ≢ k
    → last_begun h s ≡ Some u → last_begun h k ≡ Some v → u.0 ≢ v.0
