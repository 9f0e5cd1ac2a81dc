-- What the death of a transaction makes of the versions of a key.
use Rattle.std.specs.Prelude.{◌≡◌, ◌≢◌, ℕ, ◌==◌, Bool, true, false, List, [], ◌∷◌, cond, refl}
use Rattle.std.proofs.Common.{sym, ◌∙◌, ap}
use Rattle.std.proofs.lemmas.Bool.{false≢true, both_ways, eqb-true, eq-eqb, ne_eqb}
use Rattle.mg_base.specs.declared.transaction.TxState.{TxState}
use Rattle.mg_base.specs.declared.transaction.TxState.TheVariants.{Dead, Committed}
use Rattle.mg_value.specs.declared.value.Value.{Value}
use Rattle.mg_model.specs.declared.opening.Opening.{Opening}
use Rattle.mg_model.specs.History.{Entry, Entries}
use Rattle.mg_model.specs.Changes.{has_change, row_at}
use Rattle.mg_model.specs.Machine.{state_of, changes_by, steps, database, own}
use Rattle.mg_model.specs.Answers.{told, is_committed, is_open, changes_key, newest_by}
use Rattle.mg_model.specs.Legal.{MayBegin, IsLegal}
use Rattle.mg_model.specs.HinderLaws.{stands}
use Rattle.mg_generation_laws.specs.Generations.{are_on_top, Generation, EachGeneration, EachOlder, is_newest_by, newest_row, without_newest_by, AreGenerations}
use Rattle.mg_generation_laws.specs.ListLaws.{order_without, each_as, each_with, each_without, older_as, older_without, without_other, shown_without, first_without}
use Rattle.mg_generation_laws.specs.CommittedLaws.{not_both, open_was_not_committed}
use Rattle.mg_generation_laws.specs.OnwardLaws.{top_on, order_on, committed_is_still, shows_on, shows_here, newest_on}

-- a committed writer is not one that has not ended
apart : (state : ℕ → TxState) (n t : ℕ) → state n ≡ Committed → is_open (state t) ≡ true
    → (n == t) ≡ false
apart state n t was opened =
    ne_eqb n t (λ same. not_both (state t) opened
    (ap is_committed (ap state (sym same) ∙ was)))

module _ (state : ℕ → TxState) where
  -- without its newest, none of the versions is of a transaction that has not ended
  pub left_are_others : (t : ℕ) (gs : List Generation)
      → EachOlder (λ g. state g.writer ≡ Committed) gs → is_open (state t) ≡ true
      → EachGeneration (λ g. (g.writer == t) ≡ false) (without_newest_by t gs)
  left_are_others t [] backs opened = tt
  left_are_others t (g ∷ gs) backs opened = at (g.writer == t) refl
    where
      older : EachGeneration (λ g. (g.writer == t) ≡ false) gs
      older = each_as (λ g. state g.writer ≡ Committed) (λ g. (g.writer == t) ≡ false) gs
          (λ g was. apart state g.writer t was opened) backs

      at : (b : Bool) → (g.writer == t) ≡ b
          → EachGeneration (λ g. (g.writer == t) ≡ false) (cond b gs (g ∷ gs))
      at true its = older
      at false other = (other, older)

  -- the newest of another one that has not ended is so without it
  pub newest_without : (t u : ℕ) (gs : List Generation)
      → EachOlder (λ g. state g.writer ≡ Committed) gs → (t == u) ≡ false
      → is_open (state u) ≡ true
      → is_newest_by u (without_newest_by t gs) ≡ is_newest_by u gs
  newest_without t u [] backs other opened = refl
  newest_without t u (g ∷ gs) backs other opened = at (g.writer == t) refl
    where
      none : (gs : List Generation) → EachGeneration (λ g. state g.writer ≡ Committed) gs
          → is_newest_by u gs ≡ false
      none [] backs = refl
      none (x ∷ gs) backs = apart state x.writer u backs.0 opened

      at : (b : Bool) → (g.writer == t) ≡ b
          → is_newest_by u (cond b gs (g ∷ gs)) ≡ (g.writer == u)
      at true its =
          none gs backs ∙ sym (ap (λ n. n == u) (eqb-true g.writer t its) ∙ other)
      at false not_its = refl

pub both_newest : (t u : ℕ) (gs : List Generation) → is_newest_by t gs ≡ true
    → is_newest_by u gs ≡ true → (t == u) ≡ true
both_newest t u [] one other = absurd (false≢true one)
both_newest t u (g ∷ gs) one other =
    ap (λ n. n == u) (sym (eqb-true g.writer t one)) ∙ other

-- what another one that has not ended gives, it gives without the newest of t
pub gives_without : (o : Opening) (h : Entries) (table : List ℕ) (key : Value)
    (gs : List Generation) → AreGenerations o h table key gs → (t u : ℕ) → (t == u) ≡ false
    → is_open (state_of o h u) ≡ true → is_newest_by u (without_newest_by t gs) ≡ true
    → row_at (own o h u) table key ≡ newest_row (without_newest_by t gs)
gives_without o h table key gs it t u other opened newest = at (is_newest_by t gs) refl
  where
    first : is_newest_by u gs ≡ true
    first = sym (newest_without (state_of o h) t u gs it.backs other opened) ∙ newest

    at : (b : Bool) → is_newest_by t gs ≡ b
        → row_at (own o h u) table key ≡ newest_row (without_newest_by t gs)
    at true its = absurd (both_ways (t == u) other (both_newest t u gs its first))
    at false not_its = it.gives u opened first ∙ ap newest_row (sym (without_other t gs not_its))

module _ (o : Opening) (opening : MayBegin o) (h : Entries) (e : Entry) (legal : IsLegal o (e ∷ h))
    (table : List ℕ) (key : Value) (gs : List Generation) (it : AreGenerations o h table key gs)
    (t : ℕ) (opened : is_open (state_of o h t) ≡ true)
    (states : (u : ℕ) → state_of o (e ∷ h) u ≡ cond (t == u) Dead (state_of o h u))
    (same : database o (e ∷ h) ≡ database o h) (more : steps o (e ∷ h) ≡ steps o h) where
  dies : state_of o (e ∷ h) t ≡ Dead
  dies =
      let its : (t == t) ≡ true = eq-eqb t t refl in
      states t ∙ ap (λ b. cond b Dead (state_of o h t)) its

  stays : (u : ℕ) → (t == u) ≡ false → state_of o (e ∷ h) u ≡ state_of o h u
  stays u other = states u ∙ ap (λ b. cond b Dead (state_of o h u)) other

  -- who has not ended is another one
  other_open : (u : ℕ) → is_open (state_of o (e ∷ h) u) ≡ true → (t == u) ≡ false
  other_open u now =
      ne_eqb t u (λ is. both_ways (is_open (state_of o (e ∷ h) u))
      (ap is_open (ap (state_of o (e ∷ h)) (sym is) ∙ dies)) now)

  was : (u : ℕ) → is_open (state_of o (e ∷ h) u) ≡ true → is_open (state_of o h u) ≡ true
  was u now = sym (ap is_open (stays u (other_open u now))) ∙ now

  nobody_new : (u : ℕ)
      → is_committed (state_of o (e ∷ h) u) ≡ is_committed (state_of o h u)
  nobody_new u = ap is_committed (states u) ∙ at (t == u) refl
    where
      closed : (b : Bool) → b ≡ is_committed (state_of o h t) → false ≡ b
      closed false is = refl
      closed true is = absurd (not_both (state_of o h t) opened (sym is))

      at : (b : Bool) → (t == u) ≡ b
          → is_committed (cond b Dead (state_of o h u)) ≡ is_committed (state_of o h u)
      at false other = refl
      at true its =
          closed (is_committed (state_of o h t)) refl
          ∙ ap (λ n. is_committed (state_of o h n)) (eqb-true t u its)

  -- a transaction that comes to be dead takes its version along
  pub go_on_dead : AreGenerations o (e ∷ h) table key (without_newest_by t gs)
  go_on_dead = record {
    alive = each_with (λ g. state_of o h g.writer ≢ Dead) (λ g. (g.writer == t) ≡ false)
        (λ g. state_of o (e ∷ h) g.writer ≢ Dead) (without_newest_by t gs)
        (λ g alive other dead. alive (sym (stays g.writer (turned g.writer other)) ∙ dead))
        (each_without (λ g. state_of o h g.writer ≢ Dead) t gs it.alive)
        (left_are_others (state_of o h) t gs it.backs opened);
    backs = older_as (λ g. state_of o h g.writer ≡ Committed)
        (λ g. state_of o (e ∷ h) g.writer ≡ Committed) (without_newest_by t gs)
        (λ g. committed_is_still o opening h e legal table key g.writer)
        (older_without (λ g. state_of o h g.writer ≡ Committed) t gs it.backs);
    open_ = λ u now.
        ap (λ all. has_change (changes_by u all) table key) more ∙ it.open_ u (was u now)
        ∙ sym (newest_without (state_of o h) t u gs it.backs (other_open u now) (was u now));
    gives = λ u now newest.
        ap (λ all. row_at (changes_by u all) table key) more
        ∙ gives_without o h table key gs it t u (other_open u now) (was u now) newest;
    shows = shows_on o opening h e legal table key gs it (without_newest_by t gs)
        (shows_here o opening h e legal table key gs it same (λ u alive. nobody_new u)
        ∙ sym (shown_without (λ u. is_committed (state_of o (e ∷ h) u)) t gs
        (ap is_committed dies)))
        (λ since before is. sym (shown_without (λ u. is_committed (state_of o before u)) t gs
        (open_was_not_committed o opening h legal.1 t opened since before is)));
    top = λ u now.
        ap (are_on_top (λ v. stands (state_of o (e ∷ h) v)) table key u) more
        ∙ top_on o opening h e legal table key gs it u (was u now);
    order = order_without (told o (e ∷ h)).saw t gs
        (order_on o opening h e legal table key gs it);
    newest = λ who news.
        ap (newest_by who (changes_key table key)) more
        ∙ newest_on o opening h e legal table key gs it who news
        ∙ sym (first_without who t gs (news.dead t dies));
  }
    where
      turned : (n : ℕ) → (n == t) ≡ false → (t == n) ≡ false
      turned n other =
          ne_eqb t n (λ is. both_ways (n == t) other (eq-eqb n t (sym is)))
