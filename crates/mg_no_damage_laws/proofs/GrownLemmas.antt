-- In a catalog that grows each key for which somebody speaks has a row: no version gives it none, but one that all see.
use Rattle.std.proofs.Common.{◌≡◌, ◌≢◌, ◌∙◌, ◌==◌, ◌&&◌, ◌++◌, cond, ℕ, Bool, true, false, List, [], ◌∷◌, Option, None, Some, refl, sym, ap, subst}
use Rattle.std.specs.Prelude.{IsSome, if◌then◌else◌}
use Rattle.std.proofs.lemmas.Bool.{eq-eqb, eqb-true, false≢true, ne_eqb}
use Rattle.mg_base.specs.declared.transaction.TxState.{TxState}
use Rattle.mg_base.specs.declared.transaction.TxState.TheVariants.{Active, Committed, Dead, Limbo}
use Rattle.mg_generation_laws.specs.CommittedLaws.{committed_from_first}
use Rattle.mg_generation_laws.specs.Generations.{AreGenerations, Generation, PassesNews, first_writer, shown_by}
use Rattle.mg_generation_laws.specs.GarbageLaws.{BeginAlike, begin_alike, begins_so, both_empty, erased_all}
use Rattle.mg_generation_laws.specs.Kept.{IsErasedForAll, IsSeenByAll, StandFor}
use Rattle.mg_grown_catalog_laws.specs.Grown.{CatalogGrows, CommittedRowsStay, OwnRowsAreNew}
use Rattle.mg_model.specs.Answers.{catalog_of, changes_key, is_committed, is_open, newest_by, told}
use Rattle.mg_model.specs.Catalog.{catalog_name}
use Rattle.mg_model.specs.Changes.{Cells, has_change, is_at, row_at}
use Rattle.mg_model.specs.CommitLaws.{legal_at_base}
use Rattle.mg_model.specs.DeedLaws.{deeds_after, deeds_after_entry}
use Rattle.mg_model.specs.Effects.{changes_of, commits, if_committed}
use Rattle.mg_model.specs.EntryLaws.{database_after_entry}
use Rattle.mg_model.specs.History.{Begins, Effect, Ends, Entries, Gives, Looks, Makes, Marks, Nothing, Saves, TakesBack, effect_of}
use Rattle.mg_model.specs.Legal.{IsLegal, MayBegin}
use Rattle.mg_model.specs.LegalLaws.{IsAllowed, lawful_is_allowed}
use Rattle.mg_model.specs.Machine.{changes_by, changes_in, cut_at_base, database, deeds_by, opening_state, own, state_after, state_of, steps}
use Rattle.mg_model.specs.NumberLaws.{committed_keeps}
use Rattle.mg_model.specs.RowLaws.{row_at-append}
use Rattle.mg_model.specs.declared.change.Change.{Change}
use Rattle.mg_model.specs.declared.change.Deed.{Deed}
use Rattle.mg_model.specs.declared.change.Deed.TheVariants.{Changed, Marked, Saved}
use Rattle.mg_model.specs.declared.change.Step.{Step}
use Rattle.mg_model.specs.declared.opening.Opening.{Opening}
use Rattle.mg_value.specs.declared.value.Value.{Value}

-- ---- who is committed by an effect

-- who has come to be committed by it
commits_it : (f : Effect) (u : ℕ) (s : TxState) → is_committed s ≡ false → is_committed (state_after f u s) ≡ true
    → commits f ≡ Some u
commits_it (Begins v mode) u s not_ now = absurd (at (v == u) now)
  where
    at : (b : Bool) → is_committed (if b then Active else s) ≡ true → ⊥
    at true is = false≢true is
    at false is = false≢true (sym not_ ∙ is)
commits_it (Looks v) u s not_ now = absurd (false≢true (sym not_ ∙ now))
commits_it (Makes v table row) u s not_ now = absurd (false≢true (sym not_ ∙ now))
commits_it (Gives v table key row) u s not_ now = absurd (false≢true (sym not_ ∙ now))
commits_it (Marks v) u s not_ now = absurd (false≢true (sym not_ ∙ now))
commits_it (Saves v name) u s not_ now = absurd (false≢true (sym not_ ∙ now))
commits_it (TakesBack v point) u s not_ now = absurd (false≢true (sym not_ ∙ now))
commits_it (Ends v end) u s not_ now = at (v == u) refl now
  where
    by : (x : TxState) → v ≡ u → is_committed x ≡ true → if_committed x v ≡ Some u
    by Active same is = absurd (false≢true is)
    by Limbo same is = absurd (false≢true is)
    by Dead same is = absurd (false≢true is)
    by Committed same is = ap Some same

    at : (b : Bool) → (v == u) ≡ b → is_committed (if b then end else s) ≡ true → if_committed end v ≡ Some u
    at true same is = by end (eqb-true v u same) is
    at false other is = absurd (false≢true (sym not_ ∙ is))
commits_it Nothing u s not_ now = absurd (false≢true (sym not_ ∙ now))

ends_by : (f : Effect) (u : ℕ) → commits f ≡ Some u → f ≡ Ends u Committed
ends_by (Ends v Committed) u is = let same : v ≡ u = cc in ap (λ (w : ℕ). Ends w Committed) same
ends_by (Ends v Active) u is = absurd cc
ends_by (Ends v Limbo) u is = absurd cc
ends_by (Ends v Dead) u is = absurd cc
ends_by (Begins v mode) u is = absurd cc
ends_by (Looks v) u is = absurd cc
ends_by (Makes v table row) u is = absurd cc
ends_by (Gives v table key row) u is = absurd cc
ends_by (Marks v) u is = absurd cc
ends_by (Saves v name) u is = absurd cc
ends_by (TakesBack v point) u is = absurd cc
ends_by Nothing u is = absurd cc

-- ---- who has changed a key

-- where the newest step of a transaction at a key is there, it has changed the key
has_changed : (all : List Step) (w : ℕ) (table : List ℕ) (key : Value)
    → newest_by (λ (u : ℕ). u == w) (changes_key table key) all ≡ Some w
    → has_change (changes_by w all) table key ≡ true
has_changed [] w table key is = absurd cc
has_changed (s ∷ all) w table key is = at (s.by.0 == w) s.deed is (has_changed all w table key)
  where
    by : (k : Bool) → (if k then Some s.by.0 else newest_by (λ (u : ℕ). u == w) (changes_key table key) all) ≡ Some w
        → (newest_by (λ (u : ℕ). u == w) (changes_key table key) all ≡ Some w
        → has_change (changes_by w all) table key ≡ true)
        → (if k then true else has_change (changes_by w all) table key) ≡ true
    by true it more = refl
    by false it more = more it

    at : (b : Bool) (d : Deed)
        → (if b && changes_key table key d then Some s.by.0
        else newest_by (λ (u : ℕ). u == w) (changes_key table key) all) ≡ Some w
        → (newest_by (λ (u : ℕ). u == w) (changes_key table key) all ≡ Some w
        → has_change (changes_by w all) table key ≡ true)
        → has_change (changes_in (if b then d ∷ deeds_by w all else deeds_by w all)) table key ≡ true
    at false d it more = more it
    at true Marked it more = more it
    at true (Saved name) it more = more it
    at true (Changed c) it more = by (is_at c table key) it more

open_one : (x : TxState) → x ≡ Active → is_open x ≡ true
open_one x is = ap is_open is

-- ---- the rows of a catalog that grows

module _ (stay : CommittedRowsStay) (new : OwnRowsAreNew) (o : Opening) (opening : MayBegin o) where
  -- what a transaction has changed in the catalog has a row there once it is committed
  committed_some : (h : Entries) → IsLegal o h → CatalogGrows o h → (u : ℕ) (key : Value)
      → is_committed (state_of o h u) ≡ true → has_change (own o h u) catalog_name key ≡ true
      → IsSome (row_at (database o h) catalog_name key)
  committed_some [] legal grows u key committed has = absurd (false≢true
      (sym (ap (λ (ds : List Deed). has_change (changes_in ds) catalog_name key) (opening.in_limbo u not_limbo)) ∙ has))
    where
      not_limbo : opening_state o u ≢ Limbo
      not_limbo is = false≢true (sym (ap is_committed is) ∙ committed)
  committed_some (e ∷ h) legal grows u key committed has = at (is_committed (state_of o h u)) refl
      (committed_some h legal.1 fewer u key)
    where
      fewer : CatalogGrows o h
      fewer = record { limbo = grows.limbo; entries = grows.entries.1 }

      stays : (x : Option Cells) → row_at (database o h) catalog_name key ≡ x → IsSome x
          → IsSome (row_at (database o (e ∷ h)) catalog_name key)
      stays None is some = absurd (false≢true some)
      stays (Some row) is some = subst IsSome (sym (stay o h e key row opening legal fewer is)) refl

      -- it is committed just now: its own row comes into the database
      now : commits (effect_of e) ≡ Some u → IsSome (row_at (database o (e ∷ h)) catalog_name key)
      now it = subst IsSome (sym here) (new o h u key opening legal.1 fewer was_open had).0
        where
          own_same : own o (e ∷ h) u ≡ own o h u
          own_same = ap changes_in (deeds_after_entry o h e u
              ∙ ap (λ (f : Effect). deeds_after f u (catalog_of (told o h) u) (deeds_by u (steps o h)))
              (ends_by (effect_of e) u it))

          had : has_change (own o h u) catalog_name key ≡ true
          had = ap (λ (cs : List Change). has_change cs catalog_name key) (sym own_same) ∙ has

          was_open : is_open (state_of o h u) ≡ true
          was_open = (subst (IsAllowed o h) (ends_by (effect_of e) u it) (lawful_is_allowed o h e legal.0)).0

          here : row_at (database o (e ∷ h)) catalog_name key ≡ row_at (own o h u) catalog_name key
          here = ap (λ (cs : List Change). row_at cs catalog_name key) (database_after_entry o h e)
              ∙ (ap (λ (x : Option ℕ). row_at (changes_of x (own o h) ++ database o h) catalog_name key) it
              ∙ (row_at-append (own o h u) (database o h) catalog_name key
              ∙ ap (λ (b : Bool). cond b (row_at (own o h u) catalog_name key) (row_at (database o h) catalog_name key))
              had))

      at : (b : Bool) → is_committed (state_of o h u) ≡ b
          → (is_committed (state_of o h u) ≡ true → has_change (own o h u) catalog_name key ≡ true
          → IsSome (row_at (database o h) catalog_name key))
          → IsSome (row_at (database o (e ∷ h)) catalog_name key)
      at true was more = stays (row_at (database o h) catalog_name key) refl (more was
          (ap (λ (cs : List Change). has_change cs catalog_name key)
          (sym (committed_keeps o opening h e legal u was)) ∙ has))
      at false was more = now (commits_it (effect_of e) u (state_of o h u) was committed)

  -- who was committed when the history began is seen by all
  seen_from_first : (h : Entries) → IsLegal o h → (w : ℕ) → opening_state o w ≡ Committed → state_of o h w ≡ Committed
      → IsSeenByAll o h w
  seen_from_first h legal w was is = record {
    committed = is;
    saw = λ t active. committed_from_first o opening (cut_at_base h t) (legal_at_base o opening h legal t) w
        (ap is_committed was);
  }

  module _ (h : Entries) (legal : IsLegal o h) (grows : CatalogGrows o h) (key : Value) (d : Generation)
      (ds : List Generation) (are : AreGenerations o h catalog_name key (d ∷ ds))
      (stays : IsSeenByAll o h d.writer → ⊥) (none : d.row ≡ None) where
    own_row : is_open (state_of o h d.writer) ≡ true → ⊥
    own_row open_ =
        let mine : (d.writer == d.writer) ≡ true = eq-eqb d.writer d.writer refl in
        let some = (new o h d.writer key opening legal grows open_ (are.open_ d.writer open_ ∙ mine)).0 in
        false≢true (subst IsSome (are.gives d.writer open_ mine ∙ none) some)

    passes : state_of o h d.writer ≡ Committed → PassesNews o h (λ (u : ℕ). u == d.writer)
    passes is = record {
      dead = λ u gone. ne_eqb u d.writer (λ same.
          let both : Committed ≡ Dead = sym is ∙ (ap (state_of o h) (sym same) ∙ gone) in absurd cc);
      old = λ u was. ne_eqb u d.writer (λ same.
          stays (seen_from_first h legal d.writer (ap (opening_state o) (sym same) ∙ was) is));
    }

    committed_row : state_of o h d.writer ≡ Committed → ⊥
    committed_row is = false≢true (subst IsSome (are.shows [] h refl ∙ (shown ∙ none))
        (committed_some h legal grows d.writer key (ap is_committed is)
        (has_changed (steps o h) d.writer catalog_name key
        (are.newest (λ (u : ℕ). u == d.writer) (passes is) ∙ first))))
      where
        shown : shown_by (λ (u : ℕ). is_committed (state_of o h u)) (d ∷ ds) ≡ d.row
        shown = ap (λ (b : Bool). if b then d.row else shown_by (λ (u : ℕ). is_committed (state_of o h u)) ds)
            (ap is_committed is)

        first : first_writer (λ (u : ℕ). u == d.writer) (d ∷ ds) ≡ Some d.writer
        first = ap (λ (b : Bool). if b then Some d.writer else first_writer (λ (u : ℕ). u == d.writer) ds)
            (eq-eqb d.writer d.writer refl)

    none_given : ⊥
    none_given = at (state_of o h d.writer) refl
      where
        at : (x : TxState) → state_of o h d.writer ≡ x → ⊥
        at Active is = own_row (ap is_open is)
        at Limbo is = own_row (ap is_open is)
        at Dead is = are.alive.0 is
        at Committed is = committed_row is

  -- the newest version of a key for which somebody speaks gives a row
  pub gives_row : (h : Entries) → IsLegal o h → CatalogGrows o h → (key : Value) (g : Generation)
      (gs : List Generation) → StandFor o h catalog_name key (g ∷ gs) → (IsErasedForAll o h (g ∷ gs) → ⊥)
      → IsSome g.row
  gives_row h legal grows key g gs stand stays = row g.row refl
    where
      at : AreGenerations o h catalog_name key stand.all → BeginAlike o h stand.all (g ∷ gs) → g.row ≡ None → ⊥
      at are (both_empty all_is chain_is) no_row = absurd cc
      at are (erased_all gone chain_is) no_row = absurd cc
      at are (begins_so d ds cs all_is chain_is) no_row =
          let one : g ≡ d = cc in
          none_given h legal grows key d ds (subst (AreGenerations o h catalog_name key) all_is are)
          (λ seen. stays (subst (IsSeenByAll o h) (ap (λ (x : Generation). x.writer) (sym one)) seen, no_row))
          (ap (λ (x : Generation). x.row) (sym one) ∙ no_row)

      row : (x : Option Cells) → g.row ≡ x → IsSome x
      row None is = absurd (at stand.are (begin_alike o h stand.all (g ∷ gs) stand.thinned) is)
      row (Some cells) is = refl
