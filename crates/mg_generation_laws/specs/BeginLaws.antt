-- The versions that a history begins with.
use Rattle.std.specs.Prelude.{◌≡◌, ℕ, ◌==◌, Bool, true, false, List, [], ◌∷◌, ◌++◌, Option, Some, None, refl}
use Rattle.std.proofs.Common.{sym, ◌∙◌, ap, subst}
use Rattle.std.proofs.lemmas.Bool.{ne_eqb, false≢true, both_ways, eq-eqb, eqb-true}
use Rattle.mg_base.specs.declared.transaction.TxState.{TxState}
use Rattle.mg_base.specs.declared.transaction.TxState.TheVariants.{Active, Limbo, Dead, Committed}
use Rattle.mg_value.specs.declared.value.Value.{Value}
use Rattle.mg_model.specs.declared.opening.Opening.{Opening}
use Rattle.mg_model.specs.History.{Entries}
use Rattle.mg_model.specs.Changes.{Cells, has_change, row_at}
use Rattle.mg_model.specs.Machine.{opening_rows, opening_state, database, state_of, steps, own}
use Rattle.mg_model.specs.Answers.{is_committed, is_open, changes_key, newest_by}
use Rattle.mg_model.specs.LegalLaws.{found_passes}
use Rattle.mg_model.specs.Legal.{MayBegin}
use Rattle.mg_model.specs.HinderLaws.{stands, none_hinders}
use Rattle.mg_generation_laws.specs.Generations.{are_on_top, Generation, shown_by, first_writer, EachGeneration, EachOlder, is_newest_by, PassesNews, AreGenerations, AreFirst, versions_of_row}
use Rattle.mg_generation_laws.specs.ListLaws.{older_as, order_of_older, each_as, nobody_first}
use Rattle.mg_generation_laws.specs.TopLaws.{none_is_on_top, only_is_on_top}
use Rattle.mg_generation_laws.specs.StepLaws.{newest_has}

-- the newest, where it passes, is the first that passes
newest_is_first : (who : ℕ → Bool) (u : ℕ) (gs : List Generation) → is_newest_by u gs ≡ true
    → who u ≡ true → first_writer who gs ≡ Some u
newest_is_first who u [] its passes = absurd (false≢true its)
newest_is_first who u (g ∷ gs) its passes =
    let same : g.writer ≡ u = eqb-true g.writer u its in
    let here : who g.writer ≡ true = ap who same ∙ passes in
    rw here (ap Some same)

nothing_before : (since before : Entries) → [] ≡ since ++ before → [] ≡ before
nothing_before [] before is = is
nothing_before (x ∷ since) before is = absurd cc

module _ (o : Opening) (table : List ℕ) (key : Value) where
  first_newest : (gs : List Generation) → AreFirst o table key gs → (who : ℕ → Bool)
      → PassesNews o [] who
      → newest_by who (changes_key table key) (steps o []) ≡ first_writer who gs
  first_newest gs it who news = at (newest_by who (changes_key table key) (steps o [])) refl
    where
      passes_open : (u : ℕ) → who u ≡ true → (s : TxState) → opening_state o u ≡ s
          → is_open (opening_state o u) ≡ true
      passes_open u passes Active is = ap is_open is
      passes_open u passes Limbo is = ap is_open is
      passes_open u passes Dead is = absurd (both_ways (who u) (news.dead u is) passes)
      passes_open u passes Committed is = absurd (both_ways (who u) (news.old u is) passes)

      older : (gs : List Generation)
          → EachGeneration (λ g. opening_state o g.writer ≡ Committed) gs
          → EachGeneration (λ g. who g.writer ≡ false) gs
      older gs each =
          each_as (λ g. opening_state o g.writer ≡ Committed) (λ g. who g.writer ≡ false) gs
          (λ g is. news.old g.writer is) each

      nobody : (gs : List Generation)
          → EachOlder (λ g. opening_state o g.writer ≡ Committed) gs
          → ((t : ℕ) → is_open (opening_state o t) ≡ true
          → has_change (own o [] t) table key ≡ is_newest_by t gs)
          → newest_by who (changes_key table key) (steps o []) ≡ None
          → EachGeneration (λ g. who g.writer ≡ false) gs
      nobody [] backs open_ none = tt
      nobody (g ∷ gs) backs open_ none = (newest (who g.writer) refl, older gs backs)
        where
          newest : (b : Bool) → who g.writer ≡ b → b ≡ false
          newest false off = refl
          newest true passes =
              let itself : (g.writer == g.writer) ≡ true = eq-eqb g.writer g.writer refl in
              let has : has_change (own o [] g.writer) table key ≡ true =
              open_ g.writer (passes_open g.writer passes (opening_state o g.writer) refl)
              ∙ itself in
              sym passes ∙ none_hinders who table key (steps o []) g.writer none has

      at : (found : Option ℕ)
          → newest_by who (changes_key table key) (steps o []) ≡ found
          → found ≡ first_writer who gs
      at None is = sym (nobody_first who gs (nobody gs it.backs it.open_ is))
      at (Some u) is =
          let passes : who u ≡ true =
          found_passes who (changes_key table key) (steps o []) u is in
          let its : is_newest_by u gs ≡ true =
          sym (it.open_ u (passes_open u passes (opening_state o u) refl))
          ∙ newest_has table key who (steps o []) u is in
          sym (newest_is_first who u gs its passes)

  -- a transaction in limbo that has changed the key is the only one
  first_top : (who : ℕ → Bool) (t : ℕ) → MayBegin o
      → are_on_top who table key t (steps o []) ≡ true
  first_top who t opening = at (has_change (own o [] t) table key) refl
    where
      at : (b : Bool) → has_change (own o [] t) table key ≡ b
          → are_on_top who table key t (steps o []) ≡ true
      at false none = none_is_on_top table key who t (steps o []) none
      at true has =
          only_is_on_top table key who t (steps o [])
          (λ u its. eq-eqb u t (opening.one_writer u t table key its has))

  -- what an opening says of a key are its versions when the history begins
  pub generations_begin : (gs : List Generation) → MayBegin o → AreFirst o table key gs
      → AreGenerations o [] table key gs
  generations_begin gs opening it = record {
    alive = it.alive;
    backs = it.backs;
    open_ = it.open_;
    gives = it.gives;
    shows = λ since before is.
        let P : Entries → Type 0 = λ g. row_at (database o g) table key
        ≡ shown_by (λ u. is_committed (state_of o g u)) gs in
        subst P (nothing_before since before is) it.shows;
    order = order_of_older (λ t u. is_committed (opening_state o u)) gs
        (older_as (λ g. opening_state o g.writer ≡ Committed)
        (λ g. (t : ℕ) → is_committed (opening_state o g.writer) ≡ true) gs
        (λ g was t. ap is_committed was) it.backs);
    top = λ t opened. first_top (λ u. stands (opening_state o u)) t opening;
    newest = first_newest gs it;
  }

-- ---- a key that no transaction in limbo has changed

-- the system is no transaction that has not ended
not_the_system : (o : Opening) (t : ℕ) → is_open (opening_state o t) ≡ true → (0 == t) ≡ false
not_the_system o t opened =
    ne_eqb 0 t (λ is. both_ways (is_open (opening_state o t))
    (ap is_open (ap (opening_state o) (sym is))) opened)

-- the row of a key that no transaction in limbo has changed is its version
pub row_begins : (o : Opening) (table : List ℕ) (key : Value)
    → ((t : ℕ) → has_change (own o [] t) table key ≡ false)
    → AreFirst o table key (versions_of_row (row_at (opening_rows o) table key))
row_begins o table key none = at (row_at (opening_rows o) table key) refl
  where
    at : (row : Option Cells) → row_at (opening_rows o) table key ≡ row
        → AreFirst o table key (versions_of_row row)
    at None is = record {
      alive = tt;
      backs = tt;
      open_ = λ t opened. none t;
      gives = λ t opened newest. absurd (false≢true newest);
      shows = is;
    }
    at (Some row) is = record {
      alive = (λ dead. absurd cc, tt);
      backs = tt;
      open_ = λ t opened. none t ∙ sym (not_the_system o t opened);
      gives = λ t opened newest. absurd (both_ways (0 == t) (not_the_system o t opened) newest);
      shows = is;
    }
