-- What an entry of a legal history leaves of the versions of a key that it doesn't change.
use Rattle.std.specs.Prelude.{◌≡◌, ◌≢◌, ◌⊎◌, ℕ, ◌≤◌, ◌&&◌, Bool, true, false, List, [], ◌∷◌, ◌++◌, refl}
use Rattle.std.proofs.Common.{sym, ◌∙◌, ap, inl, inr, subst}
use Rattle.std.proofs.lemmas.Bool.{both_ways, ne_eqb, and_left, and_right, cases_lt}
use Rattle.mg_base.specs.declared.transaction.TxState.{TxState}
use Rattle.mg_base.specs.declared.transaction.TxState.TheVariants.{Active, Limbo, Dead, Committed}
use Rattle.mg_value.specs.declared.value.Value.{Value}
use Rattle.mg_model.specs.declared.change.Deed.{Deed}
use Rattle.mg_model.specs.declared.opening.Opening.{Opening}
use Rattle.mg_model.specs.History.{Entry, Entries}
use Rattle.mg_model.specs.Changes.{has_change, row_at}
use Rattle.mg_model.specs.Machine.{next_number, state_of, changes_in, steps, database, own}
use Rattle.mg_model.specs.Answers.{told, is_committed, is_open, changes_key, newest_by}
use Rattle.mg_model.specs.Legal.{MayBegin, IsLegal}
use Rattle.mg_model.specs.HinderLaws.{stands}
use Rattle.mg_model.specs.OverlapLaws.{saw_goes_on}
use Rattle.mg_model.specs.NumberLaws.{undrawn_has_no_deeds, committed_stays, dead_stays}
use Rattle.mg_generation_laws.specs.Generations.{are_on_top, AreSeenInOrder, Generation, shown_by, first_writer, EachGeneration, is_newest_by, PassesNews, AreGenerations}
use Rattle.mg_generation_laws.specs.ListLaws.{order_as, each_as, older_as, shown_as, first_as}
use Rattle.mg_generation_laws.specs.TopLaws.{none_is_on_top, on_top_as}
use Rattle.mg_generation_laws.specs.StepLaws.{SayTheSame, newest_as}

-- a dead transaction wrote none of the versions that are alive
pub dead_is_not_newest : (state : ℕ → TxState) (t : ℕ) (gs : List Generation)
    → EachGeneration (λ g. state g.writer ≢ Dead) gs → state t ≡ Dead → is_newest_by t gs ≡ false
dead_is_not_newest state t [] alive dead = refl
dead_is_not_newest state t (g ∷ gs) alive dead =
    ne_eqb g.writer t (λ same. alive.0 (ap state same ∙ dead))

module _ (o : Opening) (opening : MayBegin o) (h : Entries) (e : Entry) (legal : IsLegal o (e ∷ h))
    (table : List ℕ) (key : Value) where
  -- nothing of the key stands of a transaction
  abbrev HasNone : ℕ → Type 0
  HasNone t = (state_of o h t ≡ Dead) × (has_change (own o h t) table key ≡ false)

  undrawn_has_none : (t : ℕ) → next_number o h ≤ t → has_change (own o h t) table key ≡ false
  undrawn_has_none t above =
      ap (λ (deeds : List Deed). has_change (changes_in deeds) table key)
      (undrawn_has_no_deeds o opening h legal.1 t above)

  -- a transaction that has not ended had not ended before, or had no change of the key
  pub was_open : (t : ℕ) → is_open (state_of o (e ∷ h) t) ≡ true
      → (is_open (state_of o h t) ≡ true) ⊎ HasNone t
  was_open t now = at (state_of o h t) refl
    where
      closed : (s : TxState) → state_of o (e ∷ h) t ≡ s → is_open s ≡ false → ⊥
      closed s is ended = both_ways (is_open s) ended (sym (ap is_open is) ∙ now)

      at : (s : TxState) → state_of o h t ≡ s → (is_open s ≡ true) ⊎ HasNone t
      at Active is = inl refl
      at Limbo is = inl refl
      at Committed is =
          absurd (closed Committed (committed_stays o opening h e legal t (ap is_committed is) ∙ is)
          refl)
      at Dead is = elim (cases_lt t (next_number o h)) [
        | inl below ↦ absurd (closed Dead (dead_stays o opening h e legal t below is) refl)
        | inr above ↦ inr (is, undrawn_has_none t above)
      ]

  -- a transaction with a change of the key that is dead stays dead
  pub dead_with_change : (t : ℕ) → has_change (own o h t) table key ≡ true
      → state_of o h t ≡ Dead → state_of o (e ∷ h) t ≡ Dead
  dead_with_change t has dead = elim (cases_lt t (next_number o h)) [
    | inl below ↦ dead_stays o opening h e legal t below dead
    | inr above ↦ absurd (both_ways (has_change (own o h t) table key)
        (undrawn_has_none t above) has)
  ]

  pub committed_is_still : (t : ℕ) → state_of o h t ≡ Committed → state_of o (e ∷ h) t ≡ Committed
  committed_is_still t was = committed_stays o opening h e legal t (ap is_committed was) ∙ was

  module _ (gs : List Generation) (it : AreGenerations o h table key gs) where
    -- what other versions show at each moment of the longer history
    pub shows_on : (now : List Generation)
        → row_at (database o (e ∷ h)) table key
        ≡ shown_by (λ u. is_committed (state_of o (e ∷ h) u)) now
        → ((since before : Entries) → h ≡ since ++ before
        → shown_by (λ u. is_committed (state_of o before u)) gs
        ≡ shown_by (λ u. is_committed (state_of o before u)) now)
        → (since before : Entries) → (e ∷ h) ≡ since ++ before
        → row_at (database o before) table key
        ≡ shown_by (λ u. is_committed (state_of o before u)) now
    shows_on now here same [] before is =
        let P : Entries → Type 0 = λ g. row_at (database o g) table key
        ≡ shown_by (λ u. is_committed (state_of o g u)) now in subst P is here
    shows_on now here same (x ∷ since) before is =
        let rest : h ≡ since ++ before = cc in
        it.shows since before rest ∙ same since before rest

    -- where the database is as it was, and nobody is newly committed, what they show is as it was
    pub shows_here : database o (e ∷ h) ≡ database o h
        → ((u : ℕ) → state_of o h u ≢ Dead
        → is_committed (state_of o (e ∷ h) u) ≡ is_committed (state_of o h u))
        → row_at (database o (e ∷ h)) table key
        ≡ shown_by (λ u. is_committed (state_of o (e ∷ h) u)) gs
    shows_here same committed =
        ap (λ cs. row_at cs table key) same ∙ it.shows [] h refl
        ∙ sym (shown_as (λ u. is_committed (state_of o (e ∷ h) u))
        (λ u. is_committed (state_of o h u)) gs
        (each_as (λ g. state_of o h g.writer ≢ Dead)
        (λ g. is_committed (state_of o (e ∷ h) g.writer) ≡ is_committed (state_of o h g.writer)) gs
        (λ g. committed g.writer) it.alive))

    -- who saw whom goes on to have seen it
    pub order_on : AreSeenInOrder (told o (e ∷ h)).saw gs
    order_on = order_as (told o h).saw (told o (e ∷ h)).saw gs
        (saw_goes_on o opening h e legal.1) it.order

    -- who passes, of those that stand
    abbrev standing : (ℕ → Bool) → ℕ → Bool
    standing who u = who u && stands (state_of o h u)

    standing_news : (who : ℕ → Bool) → PassesNews o (e ∷ h) who → PassesNews o h (standing who)
    standing_news who news = record {
      dead = λ u is. and_right (who u) (stands (state_of o h u)) (ap stands is);
      old = λ u is. and_left (who u) (stands (state_of o h u)) (news.old u is);
    }

    with_true : (b c : Bool) → c ≡ true → b ≡ (b && c)
    with_true true c is = sym is
    with_true false c is = refl

    alive_stands : (s : TxState) → s ≢ Dead → stands s ≡ true
    alive_stands Active alive = refl
    alive_stands Limbo alive = refl
    alive_stands Dead alive = absurd (alive refl)
    alive_stands Committed alive = refl

    changed_stands : (who : ℕ → Bool) → PassesNews o (e ∷ h) who → (u : ℕ)
        → has_change (own o h u) table key ≡ true → who u ≡ standing who u
    changed_stands who news u has = at (state_of o h u) refl
      where
        at : (s : TxState) → state_of o h u ≡ s → who u ≡ (who u && stands s)
        at Active is = with_true (who u) true refl
        at Limbo is = with_true (who u) true refl
        at Committed is = with_true (who u) true refl
        at Dead is =
            let off : who u ≡ false = news.dead u (dead_with_change u has is) in
            off ∙ sym (and_left (who u) false off)

    -- whose changes were the newest has the newest of those who stand still
    pub top_on : (t : ℕ) → is_open (state_of o h t) ≡ true
        → are_on_top (λ u. stands (state_of o (e ∷ h) u)) table key t (steps o h) ≡ true
    top_on t was =
        on_top_as table key (λ u. stands (state_of o h u)) (λ u. stands (state_of o (e ∷ h) u)) t
        (steps o h) stood (it.top t was)
      where
        stood : (u : ℕ) → has_change (own o h u) table key ≡ true
            → stands (state_of o (e ∷ h) u) ≡ true → stands (state_of o h u) ≡ true
        stood u has now = at (state_of o h u) refl
          where
            at : (s : TxState) → state_of o h u ≡ s → stands s ≡ true
            at Active is = refl
            at Limbo is = refl
            at Committed is = refl
            at Dead is = sym (ap stands (dead_with_change u has is)) ∙ now

    -- who wrote the key last, of all that pass, is the first of them
    pub newest_on : (who : ℕ → Bool) → PassesNews o (e ∷ h) who
        → newest_by who (changes_key table key) (steps o h) ≡ first_writer who gs
    newest_on who news =
        newest_as table key who (standing who) (steps o h) (changed_stands who news)
        ∙ it.newest (standing who) (standing_news who news)
        ∙ sym (first_as who (standing who) gs
        (each_as (λ g. state_of o h g.writer ≢ Dead) (λ g. who g.writer ≡ standing who g.writer) gs
        (λ g alive. with_true (who g.writer) (stands (state_of o h g.writer))
        (alive_stands (state_of o h g.writer) alive)) it.alive))

    -- an entry by which no writer dies and whose steps say the same of the key leaves its versions,
    -- as far as the database has the row that they show then
    pub go_on_same : ((u : ℕ) → state_of o h u ≢ Dead → state_of o (e ∷ h) u ≢ Dead)
        → SayTheSame (steps o (e ∷ h)) (steps o h) table key
        → row_at (database o (e ∷ h)) table key
        ≡ shown_by (λ u. is_committed (state_of o (e ∷ h) u)) gs
        → AreGenerations o (e ∷ h) table key gs
    go_on_same survive say here = record {
      alive = each_as (λ g. state_of o h g.writer ≢ Dead) (λ g. state_of o (e ∷ h) g.writer ≢ Dead)
          gs (λ g. survive g.writer) it.alive;
      backs = older_as (λ g. state_of o h g.writer ≡ Committed)
          (λ g. state_of o (e ∷ h) g.writer ≡ Committed) gs
          (λ g. committed_is_still g.writer) it.backs;
      open_ = λ t now. elim (was_open t now) [
        | inl was ↦ say.changes t ∙ it.open_ t was
        | inr none ↦ say.changes t ∙ none.1
            ∙ sym (dead_is_not_newest (state_of o h) t gs it.alive none.0)
      ];
      gives = λ t now newest. elim (was_open t now) [
        | inl was ↦ say.rows t ∙ it.gives t was newest
        | inr none ↦ absurd (both_ways (is_newest_by t gs)
            (dead_is_not_newest (state_of o h) t gs it.alive none.0) newest)
      ];
      shows = shows_on gs here (λ since before is. refl);
      top = λ t now. elim (was_open t now) [
        | inl was ↦ say.top (λ u. stands (state_of o (e ∷ h) u)) t ∙ top_on t was
        | inr none ↦ none_is_on_top table key (λ u. stands (state_of o (e ∷ h) u)) t
            (steps o (e ∷ h))
            (say.changes t ∙ none.1)
      ];
      order = order_on;
      newest = λ who news. say.newest who ∙ newest_on who news;
    }
