-- Pages on which all is taken back show the history that has the entry.
use Rattle.mg_base.specs.declared.numbers.RecId.{RecId}
use Rattle.mg_base.specs.declared.transaction.TxState.{TxState}
use Rattle.mg_base.specs.declared.transaction.TxState.TheVariants.{Active}
use Rattle.mg_engine_step_laws.specs.backs.Again.{AreTaken}
use Rattle.mg_engine_step_laws.specs.standing.BareLaws.{bare_has_found}
use Rattle.mg_engine_step_laws.specs.standing.OwnChains.{IsOwnTold, change_there, newest_second, none_second, own_told, row_of, row_there}
use Rattle.mg_engine_step_laws.specs.backs.Shown.{IsTakenBack, ShowsBack, ShowsFirst, ShowsMidway}
use Rattle.mg_generation_laws.specs.After.{generations_after, generations_back, generations_with, key_made}
use Rattle.mg_generation_laws.specs.Generations.{Generation, is_newest_by, newest_row, put, without_newest_by}
use Rattle.mg_generation_laws.specs.Kept.{IsErasedForAll, StandFor}
use Rattle.mg_image.specs.Form.{Form, Pages}
use Rattle.mg_image.specs.Histories.{newest_at}
use Rattle.mg_image.specs.RecordRules.{Facts, table_in}
use Rattle.mg_image.specs.Records.{Reading, record_key}
use Rattle.mg_image.specs.Sound.{IsSoundBy, facts_by}
use Rattle.mg_image.specs.Tables.{stands_of, table_at}
use Rattle.mg_image.specs.declared.entry.Entry.{Entry as Read}
use Rattle.mg_model.specs.Changes.{Cells, has_change, row_at}
use Rattle.mg_model.specs.History.{Effect, Entries, Entry, TakesBack, effect_of}
use Rattle.mg_model.specs.Legal.{IsLegal, MayBegin}
use Rattle.mg_model.specs.Machine.{next_after, own, state_after, state_of}
use Rattle.mg_model.specs.Openings.{everyone}
use Rattle.mg_model.specs.declared.change.Change.{Change}
use Rattle.mg_model.specs.declared.change.Point.{Point}
use Rattle.mg_model.specs.declared.opening.Opening.{Opening}
use Rattle.mg_model.specs.declared.table.Table.{Table}
use Rattle.mg_overlay_laws.specs.Overlays.{left_by, left_state}
use Rattle.mg_seek.specs.Histories.{told_versions}
use Rattle.mg_engine_step_laws.specs.standing.ChainLaws.{erased_still}
use Rattle.mg_engine_step_laws.specs.standing.Following.{FollowsEntry, KeepsTables}
use Rattle.mg_engine_step_laws.specs.standing.StandingLaws.{IsChainOf}
use Rattle.mg_engine_step_laws.specs.standing.QuietPages.{FindsAfter}
use Rattle.mg_engine_step_laws.specs.standing.ShowsLaws.{tables_kept}
use Rattle.mg_engine_step_laws.specs.standing.Standing.{FindsTables, Remembers, ShowsHistory, Standing}
use Rattle.mg_engine_step_laws.specs.standing.Versions.{HaveVersions, IsRecordOf, SpeaksFor, SpeaksOrSilent}
use Rattle.mg_engine_step_laws.specs.standing.VersionsLaws.{versions_follow}
use Rattle.mg_value.specs.declared.value.Value.{Value}
use Rattle.std.proofs.Common.{Bool, List, None, Option, Some, [], ap, false, if◌then◌else◌, inl, inr, is_some, refl, subst, sym, true, ℕ, ◌∙◌, ◌∷◌, ◌≡◌, ◌≢◌, ◌⊎◌}
use Rattle.std.proofs.Math.Path.{fun_ext}
use Rattle.std.proofs.lemmas.Bool.{eqb-true, false≢true}
use Rattle.mg_image.specs.Records as records

-- ---- who speaks then

-- a record that has versions goes on to speak
abbrev pub spoken_if : List Read → RecId → Option RecId
spoken_if [] p = None
spoken_if (e ∷ es) p = Some p

abbrev pub still_spoken : Reading → Option RecId → Option RecId
still_spoken r None = None
still_spoken r (Some p) = spoken_if (r p) p

spoken_some : (es : List Read) (p : RecId) → es ≢ [] → spoken_if es p ≡ Some p
spoken_some [] p some = absurd (some refl)
spoken_some (e ∷ es) p some = refl

module _ (form : Form) (size : ℕ) (o : Opening) (h : Entries) (e : Entry) (point : Point) (t : ℕ)
    (whole : List Change) (s new : Standing) (begun pages : Pages) (first : ShowsHistory form size o h s begun)
    (opening : MayBegin o) (legal : IsLegal o (e ∷ h)) (back : effect_of e ≡ TakesBack t point)
    (memory : Remembers o h s) (active : s.state t ≡ Active) (taken : AreTaken o h e t whole)
    (follows : FollowsEntry o h e s new) (shown_ : ShowsMidway form size o h e t whole [] s begun first pages) where
  abbrev f : Facts
  f = facts_by (left_state everyone s.state) begun first.layout

  abbrev g : Facts
  g = facts_by (left_state everyone s.state) pages shown_.layout

  abbrev own_left : List Change
  own_left = own o (e ∷ h) t

  abbrev speaks : List ℕ → Value → Option RecId
  speaks = first.versions.speaker

  abbrev later : List ℕ → Value → Option RecId
  later name key = still_spoken shown_.reading (speaks name key)

  is_active_t : state_of o h t ≡ Active
  is_active_t = sym (memory.state t) ∙ active

  goes_back : (name : List ℕ) (key : Value) (gs : List Generation)
      → generations_with o h e name key gs ≡ generations_back own_left t name key gs
  goes_back name key gs = ap (λ (x : Effect). generations_after x (key_made o h x) (own o (e ∷ h)) name key gs) back

  -- a key that has nothing to take back has the own change that it had
  same_change : (name : List ℕ) (key : Value) → newest_at whole name key ≡ None
      → newest_at own_left name key ≡ newest_at (own o h t) name key
  same_change name key none = sym (newest_second whole own_left name key none) ∙ taken name key

  left_still : (name : List ℕ) (key : Value) (chain : List Generation) → newest_at whole name key ≡ None
      → StandFor o h name key chain → generations_back own_left t name key chain ≡ chain
  left_still name key chain none stand = at (has_change own_left name key) refl
    where
      tells : IsOwnTold o h t name key chain
      tells = own_told o h t name key chain is_active_t stand

      has_is : has_change own_left name key ≡ is_newest_by t chain
      has_is = change_there own_left name key ∙ (ap is_some (same_change name key none)
          ∙ (sym (change_there (own o h t) name key) ∙ tells.has_))

      row_is : row_at own_left name key ≡ row_at (own o h t) name key
      row_is = row_there own_left name key ∙ (ap row_of (same_change name key none)
          ∙ sym (row_there (own o h t) name key))

      put_same : (gs : List Generation) (row : Option Cells) → is_newest_by t gs ≡ true → row ≡ newest_row gs
          → put t row gs ≡ gs
      put_same [] row newest is = absurd cc
      put_same (x ∷ xs) row newest is =
          let its : x.writer ≡ t = eqb-true x.writer t newest in
          rw newest (λ i. record { writer = sym its i; row = is i } ∷ xs)

      without_same : (gs : List Generation) → is_newest_by t gs ≡ false → without_newest_by t gs ≡ gs
      without_same [] off = refl
      without_same (x ∷ xs) off = rw off refl

      at : (b : Bool) → has_change own_left name key ≡ b
          → (if has_change own_left name key then put t (row_at own_left name key) chain
          else without_newest_by t chain) ≡ chain
      at true is =
          let newest : is_newest_by t chain ≡ true = sym has_is ∙ is in
          rw is (put_same chain (row_at own_left name key) newest (row_is ∙ tells.gives newest))
      at false is = rw is (without_same chain (sym has_is ∙ is))

  -- ---- the keys

  one_of : (p : RecId) (a b : Table) → table_in f p ≡ Some a → table_in f p ≡ Some b → a ≡ b
  one_of p a b is also = let both : Some a ≡ Some b = sym is ∙ also in cc

  -- the record's versions are those of the longer history, whichever are left
  told_to : (name : List ℕ) (key : Value) (p : RecId) (its : IsRecordOf f first.reading name key p)
      (gs : List Generation) → told_versions f.state its.table (shown_.reading p) ≡ gs
      → (shown_.reading p ≢ [] → record_key its.table (shown_.reading p) ≡ key)
      → IsChainOf g shown_.reading name key (spoken_if (shown_.reading p) p) gs
  told_to name key p its gs told keyed = at (shown_.reading p) refl
    where
      at : (es : List Read) → shown_.reading p ≡ es → IsChainOf g shown_.reading name key (spoken_if es p) gs
      at [] is = sym told ∙ ap (told_versions f.state its.table) is
      at (x ∷ xs) is =
          let some : shown_.reading p ≢ [] = λ none. let both : x ∷ xs ≡ [] = sym is ∙ none in absurd cc in (
            record {
              table = its.table;
              of_table = shown_.stays p its.table its.of_table;
              named = its.named;
              some = some;
              keyed = keyed some;
            },
            sym told,
          )

  keys_by : (name : List ℕ) (key : Value) (p : RecId) → speaks name key ≡ Some p
      → (its : IsRecordOf f first.reading name key p)
      → StandFor o h name key (told_versions f.state its.table (first.reading p))
      → IsChainOf g shown_.reading name key (spoken_if (shown_.reading p) p)
      (generations_back own_left t name key (told_versions f.state its.table (first.reading p)))
  keys_by name key p spoken its stand = at (newest_at whole name key) refl (shown_.each_record p)
    where
      back_here : IsTakenBack o h e t f first.reading shown_.reading speaks p
          → IsChainOf g shown_.reading name key (spoken_if (shown_.reading p) p)
          (generations_back own_left t name key (told_versions f.state its.table (first.reading p)))
      back_here it = told_to name key p its (generations_back own_left t name key
          (told_versions f.state its.table (first.reading p)))
          (ap (λ (x : Table). told_versions f.state x (shown_.reading p)) same ∙ (it.told
          ∙ (ap (λ (x : Table). generations_back own_left t x.name (record_key x (first.reading p))
          (told_versions f.state x (first.reading p))) (sym same)
          ∙ (ap (λ (n : List ℕ). generations_back own_left t n (record_key its.table (first.reading p))
          (told_versions f.state its.table (first.reading p))) its.named
          ∙ ap (λ (k : Value). generations_back own_left t name k
          (told_versions f.state its.table (first.reading p))) its.keyed))))
          (λ some. ap (λ (x : Table). record_key x (shown_.reading p)) same ∙ (it.keyed some
          ∙ (ap (λ (x : Table). record_key x (first.reading p)) (sym same) ∙ its.keyed)))
        where
          same : its.table ≡ it.table
          same = one_of p its.table it.table its.of_table it.of

      still_here : shown_.reading p ≡ first.reading p → newest_at whole name key ≡ None
          → IsChainOf g shown_.reading name key (spoken_if (shown_.reading p) p)
          (generations_back own_left t name key (told_versions f.state its.table (first.reading p)))
      still_here same none = told_to name key p its (generations_back own_left t name key
          (told_versions f.state its.table (first.reading p)))
          (ap (told_versions f.state its.table) same
          ∙ sym (left_still name key (told_versions f.state its.table (first.reading p)) none stand))
          (λ some. ap (record_key its.table) same ∙ its.keyed)

      at : (c : Option records.Change) → newest_at whole name key ≡ c
          → (shown_.reading p ≡ first.reading p)
          ⊎ IsTakenBack o h e t f first.reading shown_.reading speaks p
          → IsChainOf g shown_.reading name key (spoken_if (shown_.reading p) p)
          (generations_back own_left t name key (told_versions f.state its.table (first.reading p)))
      at c is (inr it) = back_here it
      at None is (inl same) = still_here same is
      at (Some c) is (inl same) = back_here (shown_.done name key (λ none.
          let both : Some c ≡ None = sym is ∙ none in absurd cc) refl p spoken)

  -- where no record speaks, the transaction has no change
  nothing_back : (name : List ℕ) (key : Value) → StandFor o h name key []
      → generations_back own_left t name key [] ≡ []
  nothing_back name key stand = rw none_has refl
    where
      own_none : newest_at (own o h t) name key ≡ None
      own_none = at (newest_at (own o h t) name key) refl
        where
          at : (c : Option records.Change) → newest_at (own o h t) name key ≡ c
              → newest_at (own o h t) name key ≡ None
          at None is = is
          at (Some c) is = absurd (false≢true (sym ((own_told o h t name key [] is_active_t stand).has_)
              ∙ (change_there (own o h t) name key ∙ ap is_some is)))

      none_has : has_change own_left name key ≡ false
      none_has = change_there own_left name key
          ∙ ap is_some (none_second whole own_left name key (taken name key ∙ own_none))

  keys : (name : List ℕ) (key : Value) (speaker : Option RecId) → speaks name key ≡ speaker
      → SpeaksFor o h f first.reading name key speaker → (chain : List Generation)
      → IsChainOf f first.reading name key speaker chain
      → IsChainOf g shown_.reading name key (still_spoken shown_.reading speaker)
      (generations_with o h e name key chain)
  keys name key None spoken stand chain is = goes_back name key chain
      ∙ (ap (generations_back own_left t name key) is ∙ nothing_back name key stand)
  keys name key (Some p) spoken (its, stand) chain (one, is) =
      subst (IsChainOf g shown_.reading name key (spoken_if (shown_.reading p) p))
      (sym (goes_back name key chain ∙ ap (generations_back own_left t name key) (is
      ∙ ap (λ (x : Table). told_versions f.state x (first.reading p))
      (one_of p one.table its.table one.of_table its.of_table))))
      (keys_by name key p spoken its stand)

  -- ---- the silent ones

  others : (p : RecId) (table : Table) → table_in g p ≡ Some table
      → SpeaksOrSilent o (e ∷ h) g shown_.reading later p table
  others p table of = at (shown_.new p table of) (shown_.each_record p)
    where
      speaks_on : (name : List ℕ) (key : Value) → speaks name key ≡ Some p → shown_.reading p ≢ []
          → later name key ≡ Some p
      speaks_on name key spoken some = ap (still_spoken shown_.reading) spoken
          ∙ spoken_some (shown_.reading p) p some

      -- it speaks, if it has a version
      or_none : (shown_.reading p ≢ [] → later table.name (record_key table (shown_.reading p)) ≡ Some p)
          → SpeaksOrSilent o (e ∷ h) g shown_.reading later p table
      or_none speaks_it = by (shown_.reading p) refl
        where
          by : (es : List Read) → shown_.reading p ≡ es
              → SpeaksOrSilent o (e ∷ h) g shown_.reading later p table
          by [] is = inl (ap (told_versions g.state table) is)
          by (x ∷ xs) is = inr (inr (speaks_it (λ none.
              let both : x ∷ xs ≡ [] = sym is ∙ none in absurd cc)))

      still : (shown_.reading p ≡ first.reading p) → table_in f p ≡ Some table
          → SpeaksOrSilent o h f first.reading speaks p table
          → SpeaksOrSilent o (e ∷ h) g shown_.reading later p table
      still same was (inl empty) = inl (ap (told_versions g.state table) same ∙ empty)
      still same was (inr (inl gone)) = inr (inl (erased_still o opening h e legal
          (told_versions g.state table (shown_.reading p))
          (subst (λ (es : List Read). IsErasedForAll o h (told_versions g.state table es)) (sym same) gone)))
      still same was (inr (inr spoken)) = or_none (λ some. speaks_on table.name
          (record_key table (shown_.reading p))
          (ap (λ (es : List Read). speaks table.name (record_key table es)) same ∙ spoken) some)

      at : (table_at (stands_of first.layout) p.page.0 ≡ Some table)
          ⊎ ((first.reading p ≡ []) × (shown_.reading p ≡ []))
          → (shown_.reading p ≡ first.reading p)
          ⊎ IsTakenBack o h e t f first.reading shown_.reading speaks p
          → SpeaksOrSilent o (e ∷ h) g shown_.reading later p table
      at (inr (none, now_)) record_ = inl (ap (told_versions g.state table) now_)
      at (inl was) (inl same) = still same was (first.versions.others p table was)
      at (inl was) (inr it) = or_none (λ some. speaks_on table.name (record_key table (shown_.reading p))
          (ap (λ (x : Table). speaks x.name (record_key x (shown_.reading p))) (one_of p table it.table was it.of)
          ∙ (ap (speaks it.table.name) (it.keyed some) ∙ it.spoke)) some)

  versions_back : HaveVersions o (e ∷ h) g shown_.reading
  versions_back = versions_follow o h e f g first.reading shown_.reading first.versions later opening legal (record {
    keys = λ name key chain is. keys name key (speaks name key) refl (first.versions.speaks name key) chain is;
    others = others;
  })

  -- ---- the whole

  states_same : (u : ℕ) → new.state u ≡ s.state u
  states_same u = follows.state u ∙ ap (λ (x : Effect). state_after x u (s.state u)) back

  state_is : left_state everyone new.state ≡ left_state everyone s.state
  state_is = fun_ext (λ u. ap (left_by true) (states_same u))

  sound_now : IsSoundBy form size (left_state everyone new.state) pages shown_.layout shown_.reading
  sound_now = subst (λ (x : ℕ → TxState). IsSoundBy form size x pages shown_.layout shown_.reading) (sym state_is)
      shown_.sound

  pub shows_back : FindsAfter form size o h e s new pages → ShowsHistory form size o (e ∷ h) new pages
  shows_back finds = record {
    layout = shown_.layout;
    reading = shown_.reading;
    sound = sound_now;
    next = shown_.next ∙ sym (follows.next ∙ ap (λ (x : Effect). next_after x s.next) back);
    versions = subst (λ (x : ℕ → TxState). HaveVersions o (e ∷ h) (facts_by x pages shown_.layout) shown_.reading)
        (sym state_is) versions_back;
    tables = λ u its. at u its (finds shown_.layout shown_.reading sound_now u its);
    found = bare_has_found form size (left_state everyone new.state) pages shown_.layout shown_.reading sound_now
        shown_.bare new.state new.live;
    bare = shown_.bare;
  }
    where
      at : (u : ℕ) → new.state u ≡ Active
          → KeepsTables o h e s new u ⊎ FindsTables o (e ∷ h) new shown_.layout u
          → FindsTables o (e ∷ h) new shown_.layout u
      at u its (inr found) = found
      at u its (inl keeps) = tables_kept o h e s new shown_.layout u keeps
          (shown_.tables u (sym (states_same u) ∙ its))

pub pages_back : (form : Form) → ShowsBack form
pages_back form size o h e point t whole s new begun pages first opening legal back memory active taken follows
    finds shown_ = shows_back form size o h e point t whole s new begun pages first opening legal back memory active
    taken follows shown_ finds

pub pages_first : (form : Form) → ShowsFirst form
pages_first form size o h e t whole s pages first = record {
  layout = first.layout;
  reading = first.reading;
  sound = first.sound;
  next = first.next;
  stays = λ p table is. is;
  new = λ p table is. inl is;
  tables = first.tables;
  bare = first.bare;
  each_record = λ p. inl refl;
  not_yet = λ name key c is p spoken. refl;
  done = λ name key some none. absurd (some none);
}
