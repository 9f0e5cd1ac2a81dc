-- Which sessions have an active transaction.
use Rattle.std.specs.Prelude.{◌≡◌, ℕ, true, false, Option, Some, None, Result, Ok, Err, if◌then◌else◌}
use Rattle.mg_base.specs.declared.numbers.TxNo.{TxNo}
use Rattle.mg_model.specs.declared.refusal.Refusal.{Refusal}
use Rattle.mg_model.specs.Machine.{is_of}
use Rattle.mg_records.specs.Meaning.{Means}
use Rattle.mg_records.specs.TakingBack.{is_given_up}

-- Sessions stay as they are, but for one that begins a transaction and one whose transaction ends, which
-- is free then.
pub record SessionsStay {R P : Type 0} (m : Means R P) (old new : R) (begins ends : Option ℕ) : Type 0
  where
    pub free : (session : ℕ) → is_of session begins ≡ false → m.is_free old session
        → m.is_free new session
    pub works : (t session : ℕ) → is_of t ends ≡ false → m.works old t session
        → m.works new t session
    pub ended : (t session : ℕ) → is_of t ends ≡ true → m.works old t session
        → m.is_free new session

-- a transaction was begun by one session
abbrev pub SessionsAreOne : {R P : Type 0} → Means R P → Type 0
SessionsAreOne {R = R} m = (r : R) (t n k : ℕ) → m.works r t n → m.works r t k → n ≡ k

-- the session that has begun a transaction
abbrev pub begun_in : ℕ → Result TxNo Refusal → Option ℕ
begun_in session (Ok t) = Some session
begun_in session (Err refusal) = None

-- the transaction that a call has ended
abbrev pub ended_in : {T : Type 0} → ℕ → Result T Refusal → Option ℕ
ended_in t (Ok x) = Some t
ended_in t (Err refusal) = None

-- the transaction that was to be taken back, and had to be given up
abbrev pub given_up_in : {T : Type 0} → ℕ → Result T Refusal → Option ℕ
given_up_in t (Ok x) = None
given_up_in t (Err refusal) = if is_given_up refusal then Some t else None
