-- What an active transaction sees of a catalog that grows stands newest.
use Rattle.std.proofs.Common.{◌≡◌, ◌⊎◌, inl, inr, ◌==◌, ◌&&◌, ◌||◌, cond, ℕ, Bool, true, false, List, [], ◌∷◌, None, Some, refl, sym, ap, ◌∙◌, subst}
use Rattle.std.proofs.lemmas.Bool.{eq-eqb, eqb-true, false≢true, ne_eqb}
use Rattle.mg_base.specs.declared.transaction.TxState.{TxState}
use Rattle.mg_base.specs.declared.transaction.TxState.TheVariants.{Active, Committed, Dead, Limbo}
use Rattle.mg_value.specs.declared.value.Value.{Value}
use Rattle.mg_model.specs.declared.change.Deed.{Deed}
use Rattle.mg_model.specs.declared.change.Deed.TheVariants.{Changed, Marked, Saved}
use Rattle.mg_model.specs.declared.change.Step.{Step}
use Rattle.mg_model.specs.declared.opening.Opening.{Opening}
use Rattle.mg_model.specs.Answers.{catalog_of, changes_key, is_committed, is_open, newest_by, told}
use Rattle.mg_model.specs.Catalog.{catalog_name}
use Rattle.mg_model.specs.Changes.{Cells, has_change, is_at, row_at}
use Rattle.mg_model.specs.DeedLaws.{deeds_after, deeds_after_entry}
use Rattle.mg_model.specs.Effects.{commits}
use Rattle.mg_model.specs.History.{Begins, Effect, Ends, Entries, Gives, Looks, Makes, Marks, Nothing, Saves, TakesBack, effect_of}
use Rattle.mg_model.specs.Legal.{IsLegal, MayBegin}
use Rattle.mg_model.specs.LegalLaws.{IsAllowed, lawful_is_allowed}
use Rattle.mg_model.specs.Machine.{base, changes_by, changes_in, cut_at_base, database, deeds_by, mode_of, opening_state, own, state_after, state_of, steps, takes_base, view}
use Rattle.mg_model.specs.NumberLaws.{committed_keeps, committed_stays}
use Rattle.mg_model.specs.RowLaws.{row_at-append}
use Rattle.mg_generation_laws.specs.Generations.{AreGenerations, Generation, sees}
use Rattle.mg_generation_laws.specs.GarbageLaws.{BeginAlike, begin_alike, begins_so, both_empty, erased_all}
use Rattle.mg_generation_laws.specs.Kept.{StandFor}
use Rattle.mg_grown_catalog_laws.specs.Grown.{BasesAreWithin, CatalogGrows, OwnRowsAreNew}
use Rattle.mg_engine_step_laws.specs.tables.Seen.{NewestIsSeen}

-- ---- who commits

ends_by : (f : Effect) (u : ℕ) → commits f ≡ Some u → f ≡ Ends u Committed
ends_by (Ends v Committed) u is = let same : v ≡ u = cc in ap (λ (w : ℕ). Ends w Committed) same
ends_by (Ends v Active) u is = absurd cc
ends_by (Ends v Limbo) u is = absurd cc
ends_by (Ends v Dead) u is = absurd cc
ends_by (Begins v mode) u is = absurd cc
ends_by (Looks v) u is = absurd cc
ends_by (Makes v table row) u is = absurd cc
ends_by (Gives v table key row) u is = absurd cc
ends_by (Marks v) u is = absurd cc
ends_by (Saves v name) u is = absurd cc
ends_by (TakesBack v point) u is = absurd cc
ends_by Nothing u is = absurd cc

base_commits_none : (f : Effect) (t : ℕ) (snapshot : Bool) → takes_base f t snapshot ≡ true → commits f ≡ None
base_commits_none (Begins v mode) t snapshot is = refl
base_commits_none (Looks v) t snapshot is = refl
base_commits_none (Makes v table row) t snapshot is = absurd (false≢true is)
base_commits_none (Gives v table key row) t snapshot is = absurd (false≢true is)
base_commits_none (Marks v) t snapshot is = absurd (false≢true is)
base_commits_none (Saves v name) t snapshot is = absurd (false≢true is)
base_commits_none (TakesBack v point) t snapshot is = absurd (false≢true is)
base_commits_none (Ends v end) t snapshot is = absurd (false≢true is)
base_commits_none Nothing t snapshot is = absurd (false≢true is)

-- who is committed after an effect was so before, or is committed by it
newly : (f : Effect) (u : ℕ) (old : TxState) → is_committed (state_after f u old) ≡ true
    → (is_committed old ≡ true) ⊎ (commits f ≡ Some u)
newly (Begins v mode) u old is = at (v == u) is
  where
    at : (b : Bool) → is_committed (cond b Active old) ≡ true
        → (is_committed old ≡ true) ⊎ (commits (Begins v mode) ≡ Some u)
    at true is_ = absurd (false≢true is_)
    at false is_ = inl is_
newly (Looks v) u old is = inl is
newly (Makes v table row) u old is = inl is
newly (Gives v table key row) u old is = inl is
newly (Marks v) u old is = inl is
newly (Saves v name) u old is = inl is
newly (TakesBack v point) u old is = inl is
newly (Ends v end) u old is = at (v == u) refl end is
  where
    at : (b : Bool) → (v == u) ≡ b → (x : TxState) → is_committed (cond b x old) ≡ true
        → (is_committed old ≡ true) ⊎ (commits (Ends v x) ≡ Some u)
    at true same Committed is_ = inr (ap Some (eqb-true v u same))
    at true same Active is_ = absurd (false≢true is_)
    at true same Limbo is_ = absurd (false≢true is_)
    at true same Dead is_ = absurd (false≢true is_)
    at false other x is_ = inl is_
newly Nothing u old is = inl is

-- ---- whose step is the newest

-- of whom a step changes a key, the changes have it
has_step : (table : List ℕ) (key : Value) (all : List Step) (u : ℕ)
    → newest_by (λ v. v == u) (changes_key table key) all ≡ Some u
    → has_change (changes_by u all) table key ≡ true
has_step table key [] u is = absurd cc
has_step table key (s ∷ all) u is = at s.deed (s.by.0 == u) is (has_step table key all u)
  where
    at : (deed : Deed) (b : Bool)
        → cond (b && changes_key table key deed) (Some s.by.0)
        (newest_by (λ v. v == u) (changes_key table key) all) ≡ Some u
        → (newest_by (λ v. v == u) (changes_key table key) all ≡ Some u
        → has_change (changes_by u all) table key ≡ true)
        → has_change (changes_in (cond b (deed ∷ deeds_by u all) (deeds_by u all))) table key ≡ true
    at deed false is_ more = more is_
    at Marked true is_ more = more is_
    at (Saved name) true is_ more = more is_
    at (Changed c) true is_ more = by (is_at c table key) is_
      where
        by : (b : Bool)
            → cond b (Some s.by.0) (newest_by (λ v. v == u) (changes_key table key) all) ≡ Some u
            → cond b true (has_change (changes_by u all) table key) ≡ true
        by true some = refl
        by false later = more later

-- ---- who has changed a key of the catalog that a base has

module _ (within : BasesAreWithin) (new : OwnRowsAreNew) (o : Opening) (opening : MayBegin o) where
  -- who is committed, and has changed it, was committed when the base was taken
  since : (h : Entries) → IsLegal o h → CatalogGrows o h → (t u : ℕ) (key : Value) (row : Cells)
      → row_at (base o h t) catalog_name key ≡ Some row → is_committed (state_of o h u) ≡ true
      → has_change (own o h u) catalog_name key ≡ true
      → is_committed (state_of o (cut_at_base h t) u) ≡ true
  since [] legal grows t u key row is committed has = committed
  since (e ∷ h) legal grows t u key row is committed has =
      at (takes_base (effect_of e) t (mode_of h t).snapshot) refl is
      (newly (effect_of e) u (state_of o h u) committed) (since h legal.1 fewer t u key row)
    where
      fewer : CatalogGrows o h
      fewer = record { limbo = grows.limbo; entries = grows.entries.1 }

      -- who is committed by the entry was open before it, and had changed the key at which the base had a row
      never : commits (effect_of e) ≡ Some u → row_at (base o h t) catalog_name key ≡ Some row → ⊥
      never ends based =
          let open_ : is_open (state_of o h u) ≡ true =
          (subst (IsAllowed o h) (ends_by (effect_of e) u ends) (lawful_is_allowed o h e legal.0)).0 in
          let own_same : own o (e ∷ h) u ≡ own o h u = ap changes_in (deeds_after_entry o h e u
          ∙ ap (λ (f : Effect). deeds_after f u (catalog_of (told o h) u) (deeds_by u (steps o h)))
          (ends_by (effect_of e) u ends)) in
          let none = (new o h u key opening legal.1 fewer open_
          (subst (λ cs. has_change cs catalog_name key ≡ true) own_same has)).1 in
          let there = within o h t key row opening legal.1 fewer based in
          let both : None ≡ Some row = sym none ∙ there in absurd cc

      at : (b : Bool) → takes_base (effect_of e) t (mode_of h t).snapshot ≡ b
          → row_at (cond b (database o h) (base o h t)) catalog_name key ≡ Some row
          → (is_committed (state_of o h u) ≡ true) ⊎ (commits (effect_of e) ≡ Some u)
          → (row_at (base o h t) catalog_name key ≡ Some row → is_committed (state_of o h u) ≡ true
          → has_change (own o h u) catalog_name key ≡ true
          → is_committed (state_of o (cut_at_base h t) u) ≡ true)
          → is_committed (state_of o (cond b h (cut_at_base h t)) u) ≡ true
      at true takes is_ (inl was) more = was
      at true takes is_ (inr ends) more =
          let both = sym (base_commits_none (effect_of e) t (mode_of h t).snapshot takes) ∙ ends in absurd cc
      at false keeps is_ (inl was) more = more is_ was (subst (λ cs. has_change cs catalog_name key ≡ true)
          (committed_keeps o opening h e legal u was) has)
      at false keeps is_ (inr ends) more = absurd (never ends is_)

  -- who was committed when the history began is so ever since
  old_stays : (h : Entries) → IsLegal o h → (u : ℕ) → opening_state o u ≡ Committed
      → is_committed (state_of o h u) ≡ true
  old_stays [] legal u old = ap is_committed old
  old_stays (e ∷ h) legal u old = let was = old_stays h legal.1 u old in
      ap is_committed (committed_stays o opening h e legal u was) ∙ was

  old_seen : (h : Entries) → IsLegal o h → (t u : ℕ) → opening_state o u ≡ Committed
      → is_committed (state_of o (cut_at_base h t) u) ≡ true
  old_seen [] legal t u old = ap is_committed old
  old_seen (e ∷ h) legal t u old = at (takes_base (effect_of e) t (mode_of h t).snapshot)
      (old_seen h legal.1 t u old)
    where
      at : (b : Bool) → is_committed (state_of o (cut_at_base h t) u) ≡ true
          → is_committed (state_of o (cond b h (cut_at_base h t)) u) ≡ true
      at true more = old_stays h legal.1 u old
      at false more = more

  -- ---- the newest version

  module _ (h : Entries) (legal : IsLegal o h) (grows : CatalogGrows o h) (t : ℕ) (key : Value) (row : Cells)
      (active : state_of o h t ≡ Active) (seen : row_at (view o h t) catalog_name key ≡ Some row) where
    -- one that its writer wrote is seen, if it is not the transaction's own and its base has the row
    of_other : (g : Generation) (gs : List Generation) → AreGenerations o h catalog_name key (g ∷ gs)
        → (g.writer == t) ≡ false → row_at (base o h t) catalog_name key ≡ Some row
        → (told o h).saw t g.writer ≡ true
    of_other g gs are other based = at (state_of o h g.writer) refl
      where
        mine : (g.writer == g.writer) ≡ true
        mine = eq-eqb g.writer g.writer refl

        not_open : is_open (state_of o h g.writer) ≡ true → ⊥
        not_open open_ =
            let none = (new o h g.writer key opening legal grows open_
            (are.open_ g.writer open_ ∙ mine)).1 in
            let there = within o h t key row opening legal grows based in
            let both : None ≡ Some row = sym none ∙ there in absurd cc

        by_steps : state_of o h g.writer ≡ Committed → (opening_state o g.writer ≡ Committed → ⊥)
            → newest_by (λ v. v == g.writer) (changes_key catalog_name key) (steps o h) ≡ Some g.writer
        by_steps committed late = are.newest (λ v. v == g.writer) (record {
          dead = λ v dead. ne_eqb v g.writer (λ same.
              let both : Dead ≡ Committed = sym dead ∙ (ap (state_of o h) same ∙ committed) in absurd cc);
          old = λ v old. ne_eqb v g.writer (λ same. late (ap (opening_state o) (sym same) ∙ old));
        }) ∙ rw mine refl

        late_seen : state_of o h g.writer ≡ Committed → (opening_state o g.writer ≡ Committed → ⊥)
            → (told o h).saw t g.writer ≡ true
        late_seen committed late = since h legal grows t g.writer key row based (ap is_committed committed)
            (has_step catalog_name key (steps o h) g.writer (by_steps committed late))

        on : state_of o h g.writer ≡ Committed → (x : TxState) → opening_state o g.writer ≡ x
            → (told o h).saw t g.writer ≡ true
        on committed Committed old = old_seen h legal t g.writer old
        on committed Active first = late_seen committed (λ old.
            let both : Active ≡ Committed = sym first ∙ old in absurd cc)
        on committed Limbo first = late_seen committed (λ old.
            let both : Limbo ≡ Committed = sym first ∙ old in absurd cc)
        on committed Dead first = late_seen committed (λ old.
            let both : Dead ≡ Committed = sym first ∙ old in absurd cc)

        at : (x : TxState) → state_of o h g.writer ≡ x → (told o h).saw t g.writer ≡ true
        at Active is = absurd (not_open (ap is_open is))
        at Limbo is = absurd (not_open (ap is_open is))
        at Dead is = absurd (are.alive.0 is)
        at Committed is = on is (opening_state o g.writer) refl

    -- one of those that the history says is seen
    of_first : (g : Generation) (gs : List Generation) → AreGenerations o h catalog_name key (g ∷ gs)
        → sees (told o h) t g.writer ≡ true
    of_first g gs are = at (g.writer == t) refl
      where
        either : (b : Bool) → (b || true) ≡ true
        either true = refl
        either false = refl

        at : (b : Bool) → (g.writer == t) ≡ b → ((g.writer == t) || (told o h).saw t g.writer) ≡ true
        at true own_ = rw own_ refl
        at false other =
            let not_changed : has_change (own o h t) catalog_name key ≡ false =
            are.open_ t (ap is_open active) ∙ other in
            let based : row_at (base o h t) catalog_name key ≡ Some row =
            sym (row_at-append (own o h t) (base o h t) catalog_name key ∙ rw not_changed refl) ∙ seen in
            rw (of_other g gs are other based) (either (g.writer == t))

    saw_seen : (u : ℕ) → (told o h).saw t u ≡ true → sees (told o h) t u ≡ true
    saw_seen u saw = rw saw (at (u == t))
      where
        at : (b : Bool) → (b || true) ≡ true
        at true = refl
        at false = refl

    of_stand : (g : Generation) (gs : List Generation) → StandFor o h catalog_name key (g ∷ gs)
        → sees (told o h) t g.writer ≡ true
    of_stand g gs stand = at stand.are (begin_alike o h stand.all (g ∷ gs) stand.thinned)
      where
        at : AreGenerations o h catalog_name key stand.all → BeginAlike o h stand.all (g ∷ gs)
            → sees (told o h) t g.writer ≡ true
        at are (begins_so first rest cs all_is chain_is) =
            let one : g ≡ first = cc in
            ap (λ (x : Generation). sees (told o h) t x.writer) one
            ∙ of_first first rest (subst (AreGenerations o h catalog_name key) all_is are)
        at are (both_empty all_is chain_is) = absurd cc
        at are (erased_all gone chain_is) = absurd cc

-- ---- the law

pub newest_is_seen : BasesAreWithin → OwnRowsAreNew → NewestIsSeen
newest_is_seen within new o h t key row newest older opening legal grows active stand seen =
    of_stand within new o opening h legal grows t key row active seen newest older stand
