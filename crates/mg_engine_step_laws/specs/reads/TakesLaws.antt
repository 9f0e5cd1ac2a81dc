-- What another transaction does changes nothing of whose versions one takes.
use Rattle.std.proofs.Common.{◌≡◌, ◌≢◌, ◌⊎◌, inl, inr, ◌==◌, ◌&&◌, ◌||◌, refl, sym, ap, ◌∙◌, ℕ, Bool, true, false, ◌∷◌, arith}
use Rattle.std.proofs.lemmas.Bool.{cases_eq, eq-eqb, false≢true, ne_eqb}
use Rattle.mg_base.specs.declared.transaction.TxState.{TxState}
use Rattle.mg_base.specs.declared.transaction.TxState.TheVariants.{Active, Committed, Dead, Limbo}
use Rattle.mg_chain.specs.Bases.{live_after}
use Rattle.mg_chain.specs.Chains.{takes_version}
use Rattle.mg_model.specs.declared.opening.Opening.{Opening}
use Rattle.mg_model.specs.Answers.{is_committed, is_open}
use Rattle.mg_model.specs.Effects.{doer}
use Rattle.mg_model.specs.History.{Begins, Effect, Ends, Entries, Entry, Gives, Looks, Makes, Marks, Nothing, Saves, TakesBack, effect_of}
use Rattle.mg_model.specs.Legal.{IsLegal, MayBegin}
use Rattle.mg_model.specs.LegalLaws.{IsAllowed, lawful_is_allowed}
use Rattle.mg_model.specs.Machine.{is_of, state_after, state_of}
use Rattle.mg_model.specs.NumberLaws.{undrawn_is_dead}
use Rattle.mg_snap.specs.Live.{State as Bases, sees}
use Rattle.mg_snap.specs.LiveLaws.{others_change_nothing}
use Rattle.mg_engine_step_laws.specs.standing.Following.{FollowsEntry}
use Rattle.mg_engine_step_laws.specs.standing.Standing.{Remembers, Standing}
use Rattle.mg_engine_step_laws.specs.reads.Alike.{OthersTakeAlike}

-- who is another one
other_one : (t u : ℕ) → (t == u) ≡ false → t ≢ u
other_one t u not_ same = false≢true (sym not_ ∙ eq-eqb t u same)

-- a base of another one sees whom it saw
same_sees : (f : Effect) (keeps : ℕ → Bool) (live : Bases) (u by : ℕ) → is_of u (doer f) ≡ false
    → sees (live_after f keeps live) u by ≡ sees live u by
same_sees (Begins t mode) keeps live u by not_ = others_change_nothing.enter live t u by (other_one t u not_)
same_sees (Looks t) keeps live u by not_ = at (keeps t)
  where
    at : (b : Bool) → sees (live_after (Looks t) (λ v. b) live) u by ≡ sees live u by
    at true = refl
    at false = others_change_nothing.rebase live t u by (other_one t u not_)
same_sees (Makes t table row) keeps live u by not_ = refl
same_sees (Gives t table key row) keeps live u by not_ = refl
same_sees (Marks t) keeps live u by not_ = refl
same_sees (Saves t name) keeps live u by not_ = refl
same_sees (TakesBack t point) keeps live u by not_ = refl
same_sees (Ends t Active) keeps live u by not_ = refl
same_sees (Ends t Limbo) keeps live u by not_ = others_change_nothing.limbo live t u by (other_one t u not_)
same_sees (Ends t Dead) keeps live u by not_ = others_change_nothing.leave live t u by (other_one t u not_)
same_sees (Ends t Committed) keeps live u by not_ = others_change_nothing.leave live t u by (other_one t u not_)
same_sees Nothing keeps live u by not_ = refl

not_committed : (s : TxState) → is_open s ≡ true → is_committed s ≡ false
not_committed Active open_ = refl
not_committed Limbo open_ = refl
not_committed Dead open_ = refl
not_committed Committed open_ = absurd (false≢true open_)

-- a writer counts by its state and by the base, and whoever changes its state is not seen
module _ (o : Opening) (h : Entries) (e : Entry) (s new : Standing) (u : ℕ) (opening : MayBegin o)
    (legal : IsLegal o (e ∷ h)) (memory : Remembers o h s) (follows : FollowsEntry o h e s new)
    (not_its : is_of u (doer (effect_of e)) ≡ false) (by : ℕ) where
  sees_same : sees new.live u by ≡ sees s.live u by
  sees_same = ap (λ (live : Bases). sees live u by) follows.live
      ∙ same_sees (effect_of e) (λ t. (s.mode t).snapshot) s.live u by not_its

  -- where it was open it was not seen, and neither is it now
  unseen : is_open (s.state by) ≡ true → sees s.live u by ≡ false
  unseen open_ = at (sees s.live u by) refl
    where
      at : (b : Bool) → sees s.live u by ≡ b → sees s.live u by ≡ false
      at false is = is
      at true is = absurd (false≢true (sym (memory.live.hides u by is).1
          ∙ (sym (ap is_open (memory.state by)) ∙ open_)))

  and_false : (b : Bool) → (b && false) ≡ false
  and_false true = refl
  and_false false = refl

  abbrev counted : Bool
  counted = is_committed (s.state by) && sees s.live u by

  abbrev counts : Bool
  counts = is_committed (new.state by) && sees new.live u by

  -- its state is as it was
  stays : new.state by ≡ s.state by → counts ≡ counted
  stays same = ap (λ (x : TxState). is_committed x && sees new.live u by) same
      ∙ ap (λ (b : Bool). is_committed (s.state by) && b) sees_same

  -- it was open
  ends : is_open (s.state by) ≡ true → counts ≡ counted
  ends open_ =
      let hidden : sees s.live u by ≡ false = unseen open_ in
      ap (λ (b : Bool). is_committed (new.state by) && b) (sees_same ∙ hidden)
      ∙ (and_false (is_committed (new.state by))
      ∙ sym (ap (λ (b : Bool). b && sees s.live u by) (not_committed (s.state by) open_)))

  -- it was not drawn, and is active now
  begins : s.state by ≡ Dead → new.state by ≡ Active → counts ≡ counted
  begins dead active = ap (λ (x : TxState). is_committed x && sees new.live u by) active
      ∙ sym (ap (λ (x : TxState). is_committed x && sees s.live u by) dead)

  by_effect : (f : Effect) → effect_of e ≡ f → IsAllowed o h f
      → new.state by ≡ state_after f by (s.state by) → counts ≡ counted
  by_effect (Begins t mode) is allowed now = at (cases_eq t by)
    where
      at : (t ≡ by) ⊎ (t ≢ by) → counts ≡ counted
      at (inl same) = begins (memory.state by
          ∙ undrawn_is_dead o opening h legal.1 by (let number = allowed in omega (arith, number, same)))
          (now ∙ rw (eq-eqb t by same) refl)
      at (inr ne) = stays (now ∙ rw (ne_eqb t by ne) refl)
  by_effect (Ends t end) is allowed now = at (cases_eq t by)
    where
      at : (t ≡ by) ⊎ (t ≢ by) → counts ≡ counted
      at (inl same) = ends (ap is_open (memory.state by)
          ∙ (sym (ap (λ (v : ℕ). is_open (state_of o h v)) same) ∙ allowed.0))
      at (inr ne) = stays (now ∙ rw (ne_eqb t by ne) refl)
  by_effect (Looks t) is allowed now = stays now
  by_effect (Makes t table row) is allowed now = stays now
  by_effect (Gives t table key row) is allowed now = stays now
  by_effect (Marks t) is allowed now = stays now
  by_effect (Saves t name) is allowed now = stays now
  by_effect (TakesBack t point) is allowed now = stays now
  by_effect Nothing is allowed now = stays now

  pub takes_alike : takes_version new.state new.live u by ≡ takes_version s.state s.live u by
  takes_alike = ap (λ (b : Bool). by == u || b) (by_effect (effect_of e) refl
      (lawful_is_allowed o h e legal.0) (follows.state by))

pub others_take_alike : OthersTakeAlike
others_take_alike o h e s new u opening legal memory follows not_its by =
    takes_alike o h e s new u opening legal memory follows not_its by
