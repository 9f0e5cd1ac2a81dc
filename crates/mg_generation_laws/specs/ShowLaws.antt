-- The versions of a key tell what each transaction sees of it, what the database has and what
-- outlasts a crash.
use Rattle.std.specs.Prelude.{◌≡◌, ℕ, ◌==◌, ◌||◌, Bool, true, false, List, [], ◌∷◌, cond, refl}
use Rattle.std.proofs.Common.{sym, ◌∙◌, ap}
use Rattle.std.proofs.lemmas.Bool.{eq-eqb, ne_eqb}
use Rattle.mg_base.specs.declared.transaction.TxState.TheVariants.{Committed}
use Rattle.mg_value.specs.declared.value.Value.{Value}
use Rattle.mg_model.specs.declared.opening.Opening.{Opening}
use Rattle.mg_model.specs.History.{Entry, Entries, Ends, effect_of}
use Rattle.mg_model.specs.Changes.{has_change, row_at}
use Rattle.mg_model.specs.Machine.{state_after, state_of, database, base, own, view, cut_at_base}
use Rattle.mg_model.specs.Answers.{told, is_committed, is_open}
use Rattle.mg_model.specs.Legal.{after_durable, durable_database}
use Rattle.mg_model.specs.RowLaws.{row_at-append}
use Rattle.mg_model.specs.EntryLaws.{base_is_cut}
use Rattle.mg_generation_laws.specs.Generations.{Generation, shown_by, EachOlder, is_newest_by, newest_row, sees, AreGenerations}
use Rattle.mg_generation_laws.specs.ListLaws.{each_as, older_as, shown_as, newest_is_shown, wrote_none}
use Rattle.mg_generation_laws.specs.CommittedLaws.{not_both, EndsWith, ends_with_base, ends_with_durable}

module _ (o : Opening) (h : Entries) (table : List ℕ) (key : Value) (gs : List Generation)
    (it : AreGenerations o h table key gs) where
  moment_shows : (before : Entries) → EndsWith h before
      → row_at (database o before) table key
      ≡ shown_by (λ u. is_committed (state_of o before u)) gs
  moment_shows before ends = it.shows ends.0 before ends.1

  -- the database has the row that they show by who is committed
  pub database_shows : row_at (database o h) table key
      ≡ shown_by (λ u. is_committed (state_of o h u)) gs
  database_shows = moment_shows h ([], refl)

  -- what outlasts a crash has the row that they show by who was committed after that durable event
  pub durable_shows : (k : ℕ) → row_at (durable_database o h k) table key
      ≡ shown_by (λ u. is_committed (state_of o (after_durable h k) u)) gs
  durable_shows k = moment_shows (after_durable h k) (ends_with_durable h k)

  -- a transaction that has not ended sees the newest version that is its own or was committed when
  -- it took its base
  pub view_shows : (t : ℕ) → is_open (state_of o h t) ≡ true
      → row_at (view o h t) table key ≡ shown_by (sees (told o h) t) gs
  view_shows t opened =
      row_at-append (own o h t) (base o h t) table key
      ∙ at (has_change (own o h t) table key) refl
    where
      older : EachOlder (λ g. (g.writer == t) ≡ false) gs
      older = older_as (λ g. state_of o h g.writer ≡ Committed) (λ g. (g.writer == t) ≡ false) gs
          (λ g was. ne_eqb g.writer t (λ is. not_both (state_of o h t) opened
          (ap is_committed (ap (state_of o h) (sym is) ∙ was)))) it.backs

      itself : sees (told o h) t t ≡ true
      itself =
          let its : (t == t) ≡ true = eq-eqb t t refl in
          ap (λ b. b || (told o h).saw t t) its

      at : (b : Bool) → has_change (own o h t) table key ≡ b
          → cond b (row_at (own o h t) table key) (row_at (base o h t) table key)
          ≡ shown_by (sees (told o h) t) gs
      at true has =
          let its : is_newest_by t gs ≡ true = sym (it.open_ t opened) ∙ has in
          it.gives t opened its ∙ sym (newest_is_shown (sees (told o h) t) t gs its itself)
      at false without =
          let other : is_newest_by t gs ≡ false = sym (it.open_ t opened) ∙ without in
          ap (λ cs. row_at cs table key) (base_is_cut o h t)
          ∙ moment_shows (cut_at_base h t) (ends_with_base h t)
          ∙ shown_as ((told o h).saw t) (sees (told o h) t) gs
          (each_as (λ g. (g.writer == t) ≡ false)
          (λ g. (told o h).saw t g.writer ≡ sees (told o h) t g.writer) gs
          (λ g apart. sym (ap (λ b. b || (told o h).saw t g.writer) apart))
          (wrote_none t gs other older))

-- once a transaction is committed whose version is the newest, the database has its row
pub commit_shows : (o : Opening) (h : Entries) (e : Entry) (t : ℕ) (gs : List Generation)
    → effect_of e ≡ Ends t Committed → is_newest_by t gs ≡ true
    → shown_by (λ u. is_committed (state_of o (e ∷ h) u)) gs ≡ newest_row gs
commit_shows o h e t gs is newest =
    newest_is_shown (λ u. is_committed (state_of o (e ∷ h) u)) t gs newest
    (ap is_committed (ap (λ f. state_after f t (state_of o h t)) is ∙ ends))
  where
    ends : cond (t == t) Committed (state_of o h t) ≡ Committed
    ends = let its : (t == t) ≡ true = eq-eqb t t refl in rw its refl
