-- What each entry of a legal history makes of the versions of a key.
use Rattle.std.specs.Prelude.{◌≡◌, ◌≢◌, ℕ, ◌≤◌, ◌==◌, ◌&&◌, Bool, true, false, List, [], ◌∷◌, ◌++◌, Option, Some, None, cond, refl}
use Rattle.std.specs.Cmp.Lexicographic.{same_text}
use Rattle.std.proofs.Common.{sym, ◌∙◌, ap, arith}
use Rattle.std.proofs.lemmas.Bool.{false≢true, both_ways, eqb-true, eq-eqb, ne_eqb, and_parts}
use Rattle.mg_base.specs.declared.transaction.TxState.{TxState}
use Rattle.mg_base.specs.declared.transaction.TxState.TheVariants.{Active, Limbo, Dead, Committed}
use Rattle.mg_value.specs.declared.value.Value.{Value}
use Rattle.mg_model.specs.declared.change.Change.{Change}
use Rattle.mg_model.specs.declared.change.Deed.TheVariants.{Changed, Marked, Saved}
use Rattle.mg_model.specs.declared.change.Step.{Step}
use Rattle.mg_model.specs.declared.event.Mode.{Mode}
use Rattle.mg_model.specs.declared.opening.Opening.{Opening}
use Rattle.mg_model.specs.Catalog.{catalog_name, key_in}
use Rattle.mg_model.specs.Changes.{Cells, same_name, same_key, has_change, row_at}
use Rattle.mg_model.specs.History.{Entry, Entries, Effect, Begins, Looks, Makes, Gives, Marks, Saves, TakesBack, Ends, Nothing, effect_of}
use Rattle.mg_model.specs.Machine.{next_number, state_after, state_of, changes_by, changed, step, steps_after, steps, database_after, database, base, own}
use Rattle.mg_model.specs.Answers.{told, is_committed, is_open, catalog_of, obstacle}
use Rattle.mg_model.specs.Legal.{MayBegin, IsLegal}
use Rattle.mg_model.specs.RowLaws.{row_at-append, same_from_same_key}
use Rattle.mg_model.specs.LegalLaws.{IsAllowed, lawful_is_allowed}
use Rattle.mg_model.specs.NumberLaws.{undrawn_is_dead}
use Rattle.mg_generation_laws.specs.Generations.{Generation, shown_by, EachOlder, is_newest_by, put, AreFirst, AreGenerations}
use Rattle.mg_generation_laws.specs.After.{key_made, after_end, generations_after, generations_with, generations_of}
use Rattle.mg_generation_laws.specs.ListLaws.{each_as, shown_as, newest_is_shown, wrote_none, older_as}
use Rattle.mg_generation_laws.specs.CommittedLaws.{not_both, open_is_not_committed}
use Rattle.mg_generation_laws.specs.StepLaws.{SayTheSame, same_itself, same_along, same_after_step}
use Rattle.mg_generation_laws.specs.OnwardLaws.{shows_here, go_on_same}
use Rattle.mg_generation_laws.specs.WriteLaws.{go_on_write}
use Rattle.mg_generation_laws.specs.BeginLaws.{generations_begin}
use Rattle.mg_generation_laws.specs.TakenBackLaws.{generations_taken_back}
use Rattle.mg_generation_laws.specs.DeadLaws.{go_on_dead}

module _ (o : Opening) (opening : MayBegin o) (h : Entries) (e : Entry) (legal : IsLegal o (e ∷ h))
  where
    -- an effect makes all that an entry leaves
    record Does (f : Effect) : Type 0 where
      states : (u : ℕ) → state_of o (e ∷ h) u ≡ state_after f u (state_of o h u)
      rows : database o (e ∷ h) ≡ database_after f (own o h) (database o h)
      all : steps o (e ∷ h) ≡ steps_after f
          (λ u. row_at (changes_by u (steps o h) ++ base o h u) catalog_name) (steps o h)

    does : (f : Effect) → effect_of e ≡ f → Does f
    does f is = record {
      states = λ u. ap (λ f. state_after f u (state_of o h u)) is;
      rows = ap (λ f. database_after f (own o h) (database o h)) is;
      all = ap (λ f. steps_after f
          (λ u. row_at (changes_by u (steps o h) ++ base o h u) catalog_name) (steps o h)) is;
    }

    module _ (table : List ℕ) (key : Value) (gs : List Generation)
        (it : AreGenerations o h table key gs) where
      -- nobody's state changes, nor the database, and the steps say the same of the key
      still : ((u : ℕ) → state_of o (e ∷ h) u ≡ state_of o h u)
          → database o (e ∷ h) ≡ database o h
          → SayTheSame (steps o (e ∷ h)) (steps o h) table key
          → AreGenerations o (e ∷ h) table key gs
      still states same say =
          go_on_same o opening h e legal table key gs it
          (λ u alive dead. alive (sym (states u) ∙ dead)) say
          (shows_here o opening h e legal table key gs it same
          (λ u alive. ap is_committed (states u)))

      all_same : (others : List Step) → steps o (e ∷ h) ≡ others → others ≡ steps o h
          → SayTheSame (steps o (e ∷ h)) (steps o h) table key
      all_same others is same =
          same_along table key (steps o (e ∷ h)) (steps o h) (steps o h) (is ∙ same)
          (same_itself table key (steps o h))

      -- a state that is the transaction's alone
      at_other : (b : Bool) (s now : TxState) → (b ≡ true → s ≡ Dead → ⊥) → (cond b s now ≡ Dead)
          → (now ≢ Dead) → ⊥
      at_other true s now not_dead dead alive = not_dead refl dead
      at_other false s now not_dead dead alive = alive dead

      begun : (t : ℕ) (mode : Mode) → Does (Begins t mode) → IsAllowed o h (Begins t mode)
          → AreGenerations o (e ∷ h) table key gs
      begun t mode did allowed =
          go_on_same o opening h e legal table key gs it
          (λ u alive dead. at_other (t == u) Active (state_of o h u) (λ its is. cc)
          (sym (did.states u) ∙ dead) alive)
          (all_same (steps o h) did.all refl)
          (shows_here o opening h e legal table key gs it did.rows
          (λ u alive. ap is_committed (did.states u) ∙ at u (t == u) refl))
        where
          new_number : (u : ℕ) → (t == u) ≡ true → next_number o h ≤ u
          new_number u its = let same : t ≡ u = eqb-true t u its in omega arith

          at : (u : ℕ) (b : Bool) → (t == u) ≡ b
              → is_committed (cond b Active (state_of o h u)) ≡ is_committed (state_of o h u)
          at u true its =
              sym (ap is_committed (undrawn_is_dead o opening h legal.1 u (new_number u its)))
          at u false other = refl

      -- a change of a transaction, of this key or of another one
      written : (t : ℕ) (named : List ℕ) (given : Value) (row : Option Cells)
          → state_of o h t ≡ Active → obstacle (told o h) t named given ≡ None
          → ((u : ℕ) → state_of o (e ∷ h) u ≡ state_of o h u) → database o (e ∷ h) ≡ database o h
          → steps o (e ∷ h) ≡ step t (changed named given row) ∷ steps o h
          → AreGenerations o (e ∷ h) table key
          (cond (same_name named table && same_key given key) (put t row gs) gs)
      written t named given row active none states same more =
          at (same_name named table && same_key given key) refl
        where
          change : Change
          change = record { table = named; key = given; row = row }

          at : (b : Bool) → (same_name named table && same_key given key) ≡ b
              → AreGenerations o (e ∷ h) table key (cond b (put t row gs) gs)
          at false other =
              still states same (same_along table key (steps o (e ∷ h))
              (step t (Changed change) ∷ steps o h) (steps o h) more
              (same_after_step table key t (Changed change) (steps o h) other))
          at true is =
              let parts = and_parts (same_name named table) (same_key given key) is in
              let name : named ≡ table = same_text named table (sym parts.0) in
              let one_key : given ≡ key = same_from_same_key given key parts.1 in
              let free : obstacle (told o h) t table key ≡ None =
              ap (obstacle (told o h) t table) (sym one_key)
              ∙ ap (λ n. obstacle (told o h) t n given) (sym name) ∙ none in
              go_on_write o opening h e legal table key gs it t change active free is states same
              more

      ended : (t : ℕ) (end : TxState) → Does (Ends t end) → IsAllowed o h (Ends t end)
          → AreGenerations o (e ∷ h) table key (after_end t end gs)
      ended t Active did allowed = absurd (false≢true (sym allowed.1))
      ended t Dead did allowed =
          go_on_dead o opening h e legal table key gs it t allowed.0 did.states did.rows did.all
      ended t Limbo did allowed =
          go_on_same o opening h e legal table key gs it
          (λ u alive dead. at_other (t == u) Limbo (state_of o h u) (λ its is. cc)
          (sym (did.states u) ∙ dead) alive)
          (all_same (steps o h) did.all refl)
          (shows_here o opening h e legal table key gs it did.rows
          (λ u alive. ap is_committed (did.states u) ∙ at u (t == u) refl))
        where
          at : (u : ℕ) (b : Bool) → (t == u) ≡ b
              → is_committed (cond b Limbo (state_of o h u)) ≡ is_committed (state_of o h u)
          at u true its =
              let same : t ≡ u = eqb-true t u its in
              sym (open_is_not_committed (state_of o h u)
              (ap (λ n. is_open (state_of o h n)) (sym same) ∙ allowed.0))
          at u false other = refl
      ended t Committed did allowed =
          go_on_same o opening h e legal table key gs it
          (λ u alive dead. at_other (t == u) Committed (state_of o h u) (λ its is. cc)
          (sym (did.states u) ∙ dead) alive)
          (all_same (steps o h) did.all refl)
          (ap (λ cs. row_at cs table key) did.rows
          ∙ row_at-append (own o h t) (database o h) table key
          ∙ at (has_change (own o h t) table key) refl)
        where
          now : ℕ → Bool
          now u = is_committed (state_of o (e ∷ h) u)

          counts : now t ≡ true
          counts =
              let its : (t == t) ≡ true = eq-eqb t t refl in
              ap is_committed (did.states t ∙ ap (λ b. cond b Committed (state_of o h t)) its)

          as_before : (u : ℕ) → (u == t) ≡ false → is_committed (state_of o h u) ≡ now u
          as_before u other =
              let apart : (t == u) ≡ false =
              ne_eqb t u (λ is. both_ways (u == t) other (eq-eqb u t (sym is))) in
              sym (ap is_committed (did.states u
              ∙ ap (λ b. cond b Committed (state_of o h u)) apart))

          older : EachOlder (λ g. (g.writer == t) ≡ false) gs
          older = older_as (λ g. state_of o h g.writer ≡ Committed)
              (λ g. (g.writer == t) ≡ false) gs
              (λ g was. ne_eqb g.writer t (λ is. not_both (state_of o h t) allowed.0
              (ap is_committed (ap (state_of o h) (sym is) ∙ was)))) it.backs

          at : (b : Bool) → has_change (own o h t) table key ≡ b
              → cond b (row_at (own o h t) table key) (row_at (database o h) table key)
              ≡ shown_by now gs
          at true has =
              let its : is_newest_by t gs ≡ true = sym (it.open_ t allowed.0) ∙ has in
              it.gives t allowed.0 its ∙ sym (newest_is_shown now t gs its counts)
          at false without =
              let other : is_newest_by t gs ≡ false = sym (it.open_ t allowed.0) ∙ without in
              it.shows [] h refl
              ∙ shown_as (λ u. is_committed (state_of o h u)) now gs
              (each_as (λ g. (g.writer == t) ≡ false)
              (λ g. is_committed (state_of o h g.writer) ≡ now g.writer) gs
              (λ g. as_before g.writer) (wrote_none t gs other older))

      by_effect : (f : Effect) → effect_of e ≡ f → Does f → IsAllowed o h f
          → AreGenerations o (e ∷ h) table key
          (generations_after f (key_made o h f) (own o (e ∷ h)) table key gs)
      by_effect (Begins t mode) is did allowed = begun t mode did allowed
      by_effect (Looks t) is did allowed =
          still did.states did.rows (all_same (steps o h) did.all refl)
      by_effect (Makes t named row) is did allowed =
          written t named (key_in (catalog_of (told o h) t) named row) (Some row) allowed.0
          allowed.1
          did.states did.rows did.all
      by_effect (Gives t named given row) is did allowed =
          written t named given row allowed.0 allowed.1 did.states did.rows did.all
      by_effect (Marks t) is did allowed =
          still did.states did.rows (same_along table key (steps o (e ∷ h))
          (step t Marked ∷ steps o h) (steps o h) did.all
          (same_after_step table key t Marked (steps o h) refl))
      by_effect (Saves t name) is did allowed =
          still did.states did.rows (same_along table key (steps o (e ∷ h))
          (step t (Saved name) ∷ steps o h) (steps o h) did.all
          (same_after_step table key t (Saved name) (steps o h) refl))
      by_effect (TakesBack t point) is did allowed =
          generations_taken_back o opening h e legal table key gs it t point is
      by_effect (Ends t end) is did allowed = ended t end did allowed
      by_effect Nothing is did allowed =
          still did.states did.rows (all_same (steps o h) did.all refl)

      -- an entry makes of the versions what its effect says
      pub generations_go_on : AreGenerations o (e ∷ h) table key
          (generations_with o h e table key gs)
      generations_go_on =
          by_effect (effect_of e) refl (does (effect_of e) refl)
          (lawful_is_allowed o h e legal.0)

-- a legal history that begins with these versions of a key has these
pub generations_come : (o : Opening) → MayBegin o → (table : List ℕ) (key : Value)
    (first : List Generation) → AreFirst o table key first → (h : Entries) → IsLegal o h
    → AreGenerations o h table key (generations_of o first h table key)
generations_come o opening table key first begin [] legal =
    generations_begin o table key first opening begin
generations_come o opening table key first begin (e ∷ h) legal =
    generations_go_on o opening h e legal table key (generations_of o first h table key)
    (generations_come o opening table key first begin h legal.1)
