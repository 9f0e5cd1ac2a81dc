-- What is kept at an opening stands for the history without entries.
use Rattle.std.proofs.Common.{◌≡◌, ℕ, zero, suc, ◌+◌, ◌-◌, ◌==◌, ◌&&◌, nat_le, false, List, [], ◌∷◌, length, map, drop, inl, inr, refl, sym, ◌∙◌, ap, subst, get_or, arith}
use Rattle.std.proofs.lemmas.Bool.{ne_eqb, le-leb}
use Rattle.std.proofs.lemmas.Bool.Decides.{leb_tells}
use Rattle.std.proofs.lemmas.List.{get_or_past}
use Rattle.std.proofs.Math.Bool.{and-true}
use Rattle.mg_base.specs.declared.numbers.TxNo.{TxNo}
use Rattle.mg_base.specs.declared.transaction.TxState.{TxState}
use Rattle.mg_base.specs.declared.transaction.TxState.TheVariants.{Dead, Committed}
use Rattle.mg_model.specs.declared.change.Change.{Change}
use Rattle.mg_model.specs.declared.change.Step.{Step}
use Rattle.mg_plain.specs.declared.known.BegunBy.{BegunBy}
use Rattle.mg_plain.specs.declared.known.Known.{Known}
use Rattle.mg_model.specs.declared.opening.Opening.{Opening}
use Rattle.mg_model.specs.Machine.{opening_state, opening_rows, limbo_step}
use Rattle.mg_model.specs.Answers.{is_committed}
use Rattle.mg_plain.specs.Beginning.{known_all}
use Rattle.mg_plain.specs.Keeping.{Keeping, known_of, known_at_opening, number_in, StandsFor}

-- what is kept at an opening
abbrev pub first_kept : Opening → Keeping
first_kept o = record {
  limit = o.limit.0;
  opened = length (opening_rows o);
  known = known_all (length (opening_rows o)) o.states;
  committed = [];
  steps = map limbo_step o.limbo;
  database = opening_rows o;
  begun_by = [];
}

-- the state of a number, by the list of states
state_at : Opening → ℕ → TxState
state_at o t = get_or (Committed ∷ o.states) t Dead

get_or_map : (n : ℕ) (states : List TxState) (t : ℕ)
    → get_or (map (λ s. known_at_opening n s) states) t (known_at_opening n Dead) ≡ known_at_opening n (get_or states t Dead)
get_or_map n [] t = refl
get_or_map n (s ∷ states) zero = refl
get_or_map n (s ∷ states) (suc t) = get_or_map n states t

known_first : (o : Opening) (t : ℕ)
    → known_of (first_kept o) t ≡ known_at_opening (length (opening_rows o)) (state_at o t)
unfolding state_at
known_first o zero = refl
known_first o (suc t) = get_or_map (length (opening_rows o)) o.states t

state_first : (o : Opening) → length o.states + 1 ≡ o.next.0 → (t : ℕ) → state_at o t ≡ opening_state o t
unfolding state_at
state_first o counted zero = refl
state_first o counted (suc t) =
    let some : (suc t == 0) ≡ false = ne_eqb (suc t) 0 (λ e. omega (arith, e)) in
    let before : suc t - 1 ≡ t = omega arith in
    rw some (elim (leb_tells (suc (suc t)) o.next.0) [
      | inl below ↦ rw below.0 (ap (λ (n : ℕ). get_or o.states n Dead) (sym before))
      | inr past ↦ rw past.0 (get_or_past o.states t Dead (let p = past.1 in omega (arith, counted)))
    ])

as_many : (n : ℕ) (states : List TxState)
    → length (map (λ s. known_at_opening n s) states) ≡ length states
as_many n [] = refl
as_many n (s ∷ states) = let more = as_many n states in omega (arith, more)

pub stands_first : (o : Opening) → length o.states + 1 ≡ o.next.0 → StandsFor o [] (first_kept o)
stands_first o counted =
    let n = length (opening_rows o) in
    let known = known_first o in
    let states : (t : ℕ) → (known_of (first_kept o) t).state ≡ opening_state o t =
    λ t. ap (λ (x : Known). x.state) (known t) ∙ state_first o counted t in
    let none : n - n ≡ 0 = omega arith in
    record {
      limit = refl;
      next = let l = as_many n o.states in omega (arith, l, counted);
      mode = λ t. ap (λ (x : Known). x.mode) (known t);
      state = states;
      saw = λ t u. (λ i. is_committed (states u i) && nat_le (known u i).place (known t i).saw)
          ∙ (rw (le-leb 0 0 (omega arith)) (and-true (is_committed (opening_state o u))));
      last_wait = λ t. ap (λ (x : Known). number_in x.waits) (known t);
      steps_are = refl;
      database_is = refl;
      base = λ t. ap (λ (x : Known). drop (n - x.base) (opening_rows o)) (known t) ∙ ap (λ (m : ℕ). drop m (opening_rows o)) none;
      opened = omega arith;
      bases = λ t. rw (known t) (omega arith);
      sights = λ t. rw (known t) (omega arith);
      places = λ t. rw (known t) (omega arith);
      first = omega arith;
    }

-- the same, of what was made part by part
pub stands_made : (o : Opening) (opened : ℕ) (known : List Known) (committed : List TxNo) (steps : List Step) (database : List Change)
    (begun_by : List BegunBy) → length o.states + 1 ≡ o.next.0 → opened ≡ length database → known ≡ known_all opened o.states → committed ≡ []
    → steps ≡ map limbo_step o.limbo → database ≡ opening_rows o → begun_by ≡ []
    → StandsFor o [] (record { limit = o.limit.0; opened = opened; known = known; committed = committed; steps = steps; database = database; begun_by = begun_by })
stands_made o opened known committed steps database begun_by counted opened_is known_is committed_is steps_is database_is begun_is =
    let count : opened ≡ length (opening_rows o) = opened_is ∙ ap length database_is in
    subst (λ (k : Keeping). StandsFor o [] k)
    (sym (λ i. record {
      limit = o.limit.0;
      opened = count i;
      known = (known_is ∙ ap (λ (m : ℕ). known_all m o.states) count) i;
      committed = committed_is i;
      steps = steps_is i;
      database = database_is i;
      begun_by = begun_is i;
    }))
    (stands_first o counted)
