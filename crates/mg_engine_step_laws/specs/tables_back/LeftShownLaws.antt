-- Pages on which all is taken back, also rows of the catalog with their tables, show the history that has the entry.
use Rattle.std.proofs.Common.{◌≡◌, ◌≢◌, ◌⊎◌, inl, inr, refl, sym, ap, ◌∙◌, subst, ℕ, Bool, true, false, List, [], ◌∷◌, Option, None, Some}
use Rattle.std.specs.Prelude.{if◌then◌else◌, is_some}
use Rattle.std.proofs.lemmas.Bool.{eqb-true, false≢true}
use Rattle.mg_base.specs.declared.numbers.RecId.{RecId}
use Rattle.mg_base.specs.declared.transaction.TxState.{TxState}
use Rattle.mg_base.specs.declared.transaction.TxState.TheVariants.{Active, Committed, Limbo}
use Rattle.mg_value.specs.declared.value.Value.{Value}
use Rattle.mg_engine_step_laws.specs.standing.ChainLaws.{erased_still}
use Rattle.mg_engine_step_laws.specs.standing.Standing.{Remembers, ShowsHistory, Standing}
use Rattle.mg_engine_step_laws.specs.standing.StandingLaws.{IsChainOf}
use Rattle.mg_engine_step_laws.specs.standing.Versions.{HaveVersions, IsRecordOf, SpeaksFor, SpeaksOrSilent}
use Rattle.mg_engine_step_laws.specs.standing.VersionsLaws.{versions_follow}
use Rattle.mg_engine_step_laws.specs.backs.Again.{AreTaken}
use Rattle.mg_engine_step_laws.specs.standing.OwnChains.{IsOwnTold, change_there, newest_second, none_second, own_told, row_of, row_there}
use Rattle.mg_engine_step_laws.specs.backs.Shown.{IsTakenBack, ShowsMidway}
use Rattle.mg_engine_step_laws.specs.backs.ShownEnd.{spoken_if, still_spoken}
use Rattle.mg_engine_step_laws.specs.backs.ToldBack.{told_out}
use Rattle.mg_generation_laws.specs.After.{generations_after, generations_back, generations_with, key_made}
use Rattle.mg_generation_laws.specs.Generations.{Generation, generation, is_newest_by, newest_row, put, without_newest_by}
use Rattle.mg_generation_laws.specs.Kept.{IsErasedForAll, StandFor}
use Rattle.mg_image.specs.declared.entry.Entry.{Entry as Read}
use Rattle.mg_image.specs.Form.{Form, Pages}
use Rattle.mg_image.specs.Histories.{newest_at}
use Rattle.mg_image.specs.ReadingLaws.{RowsAreOne}
use Rattle.mg_image.specs.RecordRules.{Facts, table_in}
use Rattle.mg_image.specs.Records.{Reading, record_key, writer}
use Rattle.mg_image.specs.Records as records
use Rattle.mg_image.specs.Sound.{facts_by}
use Rattle.mg_image.specs.Tables.{Layout, has, stands_of, table_at}
use Rattle.mg_image_overlay_laws.specs.records.Fronts.{is_dead, living}
use Rattle.mg_image_overlay_laws.specs.pages.Kinds.{HasNoSequences}
use Rattle.mg_model.specs.Catalog.{catalog_name, table_key}
use Rattle.mg_model.specs.Changes.{Cells, has_change, row_at}
use Rattle.mg_model.specs.History.{Effect, Entries, Entry, TakesBack, effect_of}
use Rattle.mg_model.specs.Legal.{IsLegal, MayBegin}
use Rattle.mg_model.specs.Machine.{own, state_of}
use Rattle.mg_model.specs.Openings.{everyone}
use Rattle.mg_model.specs.declared.change.Change.{Change}
use Rattle.mg_model.specs.declared.change.Point.{Point}
use Rattle.mg_model.specs.declared.opening.Opening.{Opening}
use Rattle.mg_model.specs.declared.table.Table.{Table}
use Rattle.mg_overlay_laws.specs.Overlays.{left_by, left_state}
use Rattle.mg_seek.specs.Histories.{told_all, told_given, told_versions}
use Rattle.mg_engine_step_laws.specs.tables_back.LeftRecords.{catalog_in, fate, gone_there, reads_catalog, reads_left, reads_none, silent, whose}
use Rattle.mg_engine_step_laws.specs.tables_back.LeftShown.{TakesTables}
use Rattle.mg_engine_step_laws.specs.tables_back.Taken.{HasGone, IsLeft, layout_left, reading_left}
use Rattle.mg_engine_step_laws.specs.tables_back.TakenNames.{catalog_named, other_name}

spoken_some : (es : List Read) (p : RecId) → es ≢ [] → spoken_if es p ≡ Some p
spoken_some [] p some = absurd (some refl)
spoken_some (x ∷ xs) p some = refl

module _ (form : Form) (one : RowsAreOne form.coding) (no_pages : HasNoSequences form) (size : ℕ) (o : Opening)
    (h : Entries) (e : Entry) (point : Point) (t : ℕ) (whole left : List Change) (s : Standing) (begun pages later : Pages)
    (first : ShowsHistory form size o h s begun) (mid : ShowsMidway form size o h e t whole left s begun first pages)
    (gone : Value → Bool) (opening : MayBegin o) (legal : IsLegal o (e ∷ h)) (back : effect_of e ≡ TakesBack t point)
    (memory : Remembers o h s) (active : s.state t ≡ Active) (taken : AreTaken o h e t whole)
    (it : TakesTables form size o h e t left s mid.layout mid.reading pages later gone)
    (nothing : (name : List ℕ) (key : Value) → name ≢ catalog_name → gone (table_key name) ≡ true
    → newest_at (own o (e ∷ h) t) name key ≡ None) where
  abbrev state : ℕ → TxState
  state = left_state everyone s.state

  abbrev f : Facts
  f = facts_by (left_state everyone s.state) begun first.layout

  abbrev a : Layout
  a = mid.layout

  abbrev g : Facts
  g = facts_by (left_state everyone s.state) later (layout_left gone mid.layout it.c)

  abbrev now : Reading
  now = reading_left gone mid.layout it.c mid.reading it.rc

  abbrev own_left : List Change
  own_left = own o (e ∷ h) t

  abbrev speaks : List ℕ → Value → Option RecId
  speaks = first.versions.speaker

  abbrev speaks_then : List ℕ → Value → Option RecId
  speaks_then name key = still_spoken now (speaks name key)

  is_active_t : state_of o h t ≡ Active
  is_active_t = sym (memory.state t) ∙ active

  limbo : left_state everyone s.state t ≡ Limbo
  limbo = ap (left_by true) active

  goes_back : (name : List ℕ) (key : Value) (gs : List Generation)
      → generations_with o h e name key gs ≡ generations_back own_left t name key gs
  goes_back name key gs = ap (λ (x : Effect). generations_after x (key_made o h x) (own o (e ∷ h)) name key gs) back

  -- ---- the transaction's changes

  -- a key that has nothing to take back has the own change that it had
  same_change : (name : List ℕ) (key : Value) → newest_at whole name key ≡ None
      → newest_at own_left name key ≡ newest_at (own o h t) name key
  same_change name key none = sym (newest_second whole own_left name key none) ∙ taken name key

  left_still : (name : List ℕ) (key : Value) (chain : List Generation) → newest_at whole name key ≡ None
      → StandFor o h name key chain → generations_back own_left t name key chain ≡ chain
  left_still name key chain none stand = at (has_change own_left name key) refl
    where
      tells : IsOwnTold o h t name key chain
      tells = own_told o h t name key chain is_active_t stand

      has_is : has_change own_left name key ≡ is_newest_by t chain
      has_is = change_there own_left name key ∙ (ap is_some (same_change name key none)
          ∙ (sym (change_there (own o h t) name key) ∙ tells.has_))

      row_is : row_at own_left name key ≡ row_at (own o h t) name key
      row_is = row_there own_left name key ∙ (ap row_of (same_change name key none)
          ∙ sym (row_there (own o h t) name key))

      put_same : (gs : List Generation) (row : Option Cells) → is_newest_by t gs ≡ true → row ≡ newest_row gs
          → put t row gs ≡ gs
      put_same [] row newest is = absurd cc
      put_same (x ∷ xs) row newest is =
          let its : x.writer ≡ t = eqb-true x.writer t newest in
          rw newest (λ i. record { writer = sym its i; row = is i } ∷ xs)

      without_same : (gs : List Generation) → is_newest_by t gs ≡ false → without_newest_by t gs ≡ gs
      without_same [] off = refl
      without_same (x ∷ xs) off = rw off refl

      at : (b : Bool) → has_change own_left name key ≡ b
          → (if has_change own_left name key then put t (row_at own_left name key) chain
          else without_newest_by t chain) ≡ chain
      at true is =
          let newest : is_newest_by t chain ≡ true = sym has_is ∙ is in
          rw is (put_same chain (row_at own_left name key) newest (row_is ∙ tells.gives newest))
      at false is = rw is (without_same chain (sym has_is ∙ is))

  -- what has nothing has nothing of it
  back_none : (name : List ℕ) (key : Value) → newest_at own_left name key ≡ None
      → generations_back own_left t name key [] ≡ []
  back_none name key none =
      let has_none : has_change own_left name key ≡ false = change_there own_left name key ∙ ap is_some none in
      rw has_none refl

  -- where no record speaks, the transaction has no change
  nothing_back : (name : List ℕ) (key : Value) → StandFor o h name key []
      → generations_back own_left t name key [] ≡ []
  nothing_back name key stand = back_none name key (none_second whole own_left name key (taken name key ∙ own_none))
    where
      own_none : newest_at (own o h t) name key ≡ None
      own_none = at (newest_at (own o h t) name key) refl
        where
          at : (c : Option records.Change) → newest_at (own o h t) name key ≡ c
              → newest_at (own o h t) name key ≡ None
          at None is = is
          at (Some c) is = absurd (false≢true (sym ((own_told o h t name key [] is_active_t stand).has_)
              ∙ (change_there (own o h t) name key ∙ ap is_some is)))

  -- a key of the catalog that goes is still to be taken back
  left_there : (key : Value) → gone key ≡ true → (c : records.Change) × (newest_at left catalog_name key ≡ Some c)
  left_there key lost = at (newest_at left catalog_name key) refl
    where
      at : (x : Option records.Change) → newest_at left catalog_name key ≡ x
          → (c : records.Change) × (newest_at left catalog_name key ≡ Some c)
      at (Some c) is = (c, is)
      at None is = absurd (false≢true (sym (it.keys key ∙ ap is_some is) ∙ lost))

  -- every other one is taken back
  left_none : (name : List ℕ) (key : Value) → (name ≡ catalog_name → gone key ≡ false) → newest_at left name key ≡ None
  left_none name key stays = at (newest_at left name key) refl
    where
      at : (x : Option records.Change) → newest_at left name key ≡ x → newest_at left name key ≡ None
      at None is = is
      at (Some c) is =
          let named : name ≡ catalog_name = it.rows name key c is in
          absurd (false≢true (sym (stays named) ∙ (it.keys key
          ∙ (ap (λ (n : List ℕ). is_some (newest_at left n key)) (sym named) ∙ ap is_some is))))

  -- ---- tables

  one_of : (p : RecId) (x y : Table) → table_in f p ≡ Some x → table_in f p ≡ Some y → x ≡ y
  one_of p x y is also = let both : Some x ≡ Some y = sym is ∙ also in cc

  -- a record of the first pages, in the middle: of the catalog or of another table
  stood : (p : RecId) (table : Table) → table_in f p ≡ Some table
      → ((has mid.layout.catalog.data_pages p.page.0 ≡ true) × (mid.layout.catalog.table ≡ table))
      ⊎ ((has mid.layout.catalog.data_pages p.page.0 ≡ false) × (table_at mid.layout.tables p.page.0 ≡ Some table))
  stood p table of = at (has mid.layout.catalog.data_pages p.page.0) refl (mid.stays p table of)
    where
      at : (b : Bool) → has mid.layout.catalog.data_pages p.page.0 ≡ b
          → (if b then Some mid.layout.catalog.table else table_at mid.layout.tables p.page.0) ≡ Some table
          → ((has mid.layout.catalog.data_pages p.page.0 ≡ true) × (mid.layout.catalog.table ≡ table))
          ⊎ ((has mid.layout.catalog.data_pages p.page.0 ≡ false) × (table_at mid.layout.tables p.page.0 ≡ Some table))
      at true on is = inl (on, cc)
      at false off is = inr (off, is)

  its_fate : (p : RecId) → has mid.layout.catalog.data_pages p.page.0 ≡ true
      → HasGone gone mid.layout.catalog.table t (mid.reading p) (it.rc p)
      ⊎ IsLeft gone (facts_by (left_state everyone s.state) pages mid.layout) mid.layout.catalog.table (mid.reading p)
      (it.rc p)
  its_fate p on = fate form one no_pages size o h e t left s mid.layout mid.reading pages later gone active mid.sound it
      nothing p on

  -- ---- the record that speaks for a key of the catalog that goes

  gone_speaks : (key : Value) → gone key ≡ true → (p : RecId) → speaks catalog_name key ≡ Some p
      → HasGone gone mid.layout.catalog.table t (mid.reading p) (it.rc p)
  gone_speaks key lost p spoken = by (gone_there form one no_pages size o h e t left s mid.layout mid.reading pages later
      gone active mid.sound it nothing key lost)
    where
      by : (q : RecId) × (has mid.layout.catalog.data_pages q.page.0 ≡ true)
          × HasGone gone mid.layout.catalog.table t (mid.reading q) (it.rc q)
          × (record_key mid.layout.catalog.table (mid.reading q) ≡ key)
          → HasGone gone mid.layout.catalog.table t (mid.reading p) (it.rc p)
      by (q, on, went, keyed) = subst (λ (x : RecId). HasGone gone mid.layout.catalog.table t (mid.reading x) (it.rc x))
          (one_speaker (at (mid.new q mid.layout.catalog.table of_mid) (mid.each_record q))) went
        where
          of_mid : table_at (stands_of mid.layout) q.page.0 ≡ Some mid.layout.catalog.table
          of_mid = rw on refl

          named : mid.layout.catalog.table.name ≡ catalog_name
          named = catalog_named form size state pages mid.layout mid.reading mid.sound

          some : mid.reading q ≢ []
          some none_ = let both : went.version ∷ [] ≡ [] = sym went.alone ∙ none_ in absurd cc

          one_speaker : speaks catalog_name key ≡ Some q → q ≡ p
          one_speaker also = let both : Some q ≡ Some p = sym also ∙ spoken in cc

          alive : is_dead (left_state everyone s.state (writer went.version)) ≡ false
          alive = ap (λ (u : ℕ). is_dead (left_state everyone s.state u)) went.its ∙ ap is_dead limbo

          -- its version counts, and is nobody's whom all see
          told_is : (table : Table) → told_versions (left_state everyone s.state) table (went.version ∷ []) ≢ []
          told_is table none_ =
              let both : generation (writer went.version) (told_given table went.version) ∷ [] ≡ [] =
              sym (told_alive table) ∙ none_ in absurd cc
            where
              told_alive : (x : Table) → told_versions (left_state everyone s.state) x (went.version ∷ [])
                  ≡ generation (writer went.version) (told_given x went.version) ∷ []
              told_alive x = let kept : living (left_state everyone s.state) (went.version ∷ []) ≡ went.version ∷ [] =
                  rw alive refl in ap (told_all x) kept

          in_first : mid.reading q ≡ first.reading q
              → table_at (stands_of first.layout) q.page.0 ≡ Some mid.layout.catalog.table
              → SpeaksOrSilent o h f first.reading speaks q mid.layout.catalog.table → speaks catalog_name key ≡ Some q
          in_first same of (inl none_) = absurd (told_is mid.layout.catalog.table
              (ap (told_versions (left_state everyone s.state) mid.layout.catalog.table) (sym went.alone ∙ same) ∙ none_))
          in_first same of (inr (inl erased)) = absurd (seen_not (subst (IsErasedForAll o h)
              (ap (told_versions (left_state everyone s.state) mid.layout.catalog.table) (sym same ∙ went.alone)) erased))
            where
              seen_not : IsErasedForAll o h (told_versions (left_state everyone s.state) mid.layout.catalog.table
                  (went.version ∷ [])) → ⊥
              seen_not erased_ = never (subst (IsErasedForAll o h) told_alive erased_)
                where
                  told_alive : told_versions (left_state everyone s.state) mid.layout.catalog.table (went.version ∷ [])
                      ≡ generation (writer went.version) (told_given mid.layout.catalog.table went.version) ∷ []
                  told_alive = let kept : living (left_state everyone s.state) (went.version ∷ []) ≡ went.version ∷ [] =
                      rw alive refl in ap (told_all mid.layout.catalog.table) kept

                  never : IsErasedForAll o h (generation (writer went.version)
                      (told_given mid.layout.catalog.table went.version) ∷ []) → ⊥
                  never (seen, none_) = let both : Active ≡ Committed = sym is_active_t
                      ∙ (ap (state_of o h) (sym went.its) ∙ seen.committed) in absurd cc
          in_first same of (inr (inr spoke)) = ap (λ (n : List ℕ). speaks n key) (sym named)
              ∙ (ap (speaks mid.layout.catalog.table.name) (sym keyed
              ∙ ap (record_key mid.layout.catalog.table) same) ∙ spoke)

          at : (table_at (stands_of first.layout) q.page.0 ≡ Some mid.layout.catalog.table)
              ⊎ ((first.reading q ≡ []) × (mid.reading q ≡ []))
              → (mid.reading q ≡ first.reading q) ⊎ IsTakenBack o h e t f first.reading mid.reading speaks q
              → speaks catalog_name key ≡ Some q
          at (inr (none_first, none_now)) each = absurd (some none_now)
          at (inl of) (inl same) = in_first same of (first.versions.others q mid.layout.catalog.table of)
          at (inl of) (inr took) =
              let its : mid.layout.catalog.table ≡ took.table = one_of q mid.layout.catalog.table took.table of took.of in
              ap (λ (n : List ℕ). speaks n key) (sym named)
              ∙ (ap (λ (x : Table). speaks x.name key) its
              ∙ (ap (speaks took.table.name) (sym keyed ∙ (ap (λ (x : Table). record_key x (mid.reading q)) its
              ∙ took.keyed some)) ∙ took.spoke))

  -- ---- the keys

  -- the record's versions are those of the longer history, whichever are left
  told_to : (name : List ℕ) (key : Value) (p : RecId) (its : IsRecordOf f first.reading name key p)
      (gs : List Generation) → table_in g p ≡ Some its.table
      → told_versions f.state its.table (reading_left gone mid.layout it.c mid.reading it.rc p) ≡ gs
      → (reading_left gone mid.layout it.c mid.reading it.rc p ≢ []
      → record_key its.table (reading_left gone mid.layout it.c mid.reading it.rc p) ≡ key)
      → IsChainOf g (reading_left gone mid.layout it.c mid.reading it.rc) name key
      (spoken_if (reading_left gone mid.layout it.c mid.reading it.rc p) p) gs
  told_to name key p its gs of told keyed = at (now p) refl
    where
      at : (es : List Read) → now p ≡ es → IsChainOf g now name key (spoken_if es p) gs
      at [] is = sym told ∙ ap (told_versions f.state its.table) is
      at (x ∷ xs) is =
          let some : now p ≢ [] = λ none. let both : x ∷ xs ≡ [] = sym is ∙ none in absurd cc in (
            record {
              table = its.table;
              of_table = of;
              named = its.named;
              some = some;
              keyed = keyed some;
            },
            sym told,
          )

  -- nothing is read of it, and nothing is told
  told_none : (name : List ℕ) (key : Value) (p : RecId) (gs : List Generation)
      → reading_left gone mid.layout it.c mid.reading it.rc p ≡ [] → gs ≡ []
      → IsChainOf g (reading_left gone mid.layout it.c mid.reading it.rc) name key
      (spoken_if (reading_left gone mid.layout it.c mid.reading it.rc p) p) gs
  told_none name key p gs none_read none_told =
      subst (λ (es : List Read). IsChainOf g now name key (spoken_if es p) gs) (sym none_read) none_told

  -- in the middle its versions were those, if the key was taken back
  told_mid : (name : List ℕ) (key : Value) (p : RecId) → speaks name key ≡ Some p
      → (its : IsRecordOf f first.reading name key p)
      → StandFor o h name key (told_versions f.state its.table (first.reading p)) → newest_at left name key ≡ None
      → (told_versions f.state its.table (mid.reading p)
      ≡ generations_back own_left t name key (told_versions f.state its.table (first.reading p)))
      × (mid.reading p ≢ [] → record_key its.table (mid.reading p) ≡ key)
  told_mid name key p spoken its stand none = at (newest_at whole name key) refl (mid.each_record p)
    where
      back_here : IsTakenBack o h e t f first.reading mid.reading speaks p
          → (told_versions f.state its.table (mid.reading p)
          ≡ generations_back own_left t name key (told_versions f.state its.table (first.reading p)))
          × (mid.reading p ≢ [] → record_key its.table (mid.reading p) ≡ key)
      back_here took = (
        ap (λ (x : Table). told_versions f.state x (mid.reading p)) same ∙ (took.told
            ∙ (ap (λ (x : Table). generations_back own_left t x.name (record_key x (first.reading p))
            (told_versions f.state x (first.reading p))) (sym same)
            ∙ (ap (λ (n : List ℕ). generations_back own_left t n (record_key its.table (first.reading p))
            (told_versions f.state its.table (first.reading p))) its.named
            ∙ ap (λ (k : Value). generations_back own_left t name k
            (told_versions f.state its.table (first.reading p))) its.keyed))),
        λ some. ap (λ (x : Table). record_key x (mid.reading p)) same ∙ (took.keyed some
            ∙ (ap (λ (x : Table). record_key x (first.reading p)) (sym same) ∙ its.keyed)),
      )
        where
          same : its.table ≡ took.table
          same = one_of p its.table took.table its.of_table took.of

      at : (c : Option records.Change) → newest_at whole name key ≡ c
          → (mid.reading p ≡ first.reading p) ⊎ IsTakenBack o h e t f first.reading mid.reading speaks p
          → (told_versions f.state its.table (mid.reading p)
          ≡ generations_back own_left t name key (told_versions f.state its.table (first.reading p)))
          × (mid.reading p ≢ [] → record_key its.table (mid.reading p) ≡ key)
      at c is (inr took) = back_here took
      at None is (inl same) = (
        ap (told_versions f.state its.table) same
            ∙ sym (left_still name key (told_versions f.state its.table (first.reading p)) is stand),
        λ some. ap (record_key its.table) same ∙ its.keyed,
      )
      at (Some c) is (inl same) = back_here (mid.done name key (λ none_.
          let both : Some c ≡ None = sym is ∙ none_ in absurd cc) none p spoken)

  keys_by : (name : List ℕ) (key : Value) (p : RecId) → speaks name key ≡ Some p
      → (its : IsRecordOf f first.reading name key p)
      → StandFor o h name key (told_versions f.state its.table (first.reading p))
      → IsChainOf g (reading_left gone mid.layout it.c mid.reading it.rc) name key
      (spoken_if (reading_left gone mid.layout it.c mid.reading it.rc p) p)
      (generations_back own_left t name key (told_versions f.state its.table (first.reading p)))
  keys_by name key p spoken its stand = at (stood p its.table its.of_table)
    where
      -- it is read as in the middle
      as_mid : newest_at left name key ≡ None
          → reading_left gone mid.layout it.c mid.reading it.rc p ≡ mid.reading p → table_in g p ≡ Some its.table
          → IsChainOf g (reading_left gone mid.layout it.c mid.reading it.rc) name key
          (spoken_if (reading_left gone mid.layout it.c mid.reading it.rc p) p)
          (generations_back own_left t name key (told_versions f.state its.table (first.reading p)))
      as_mid none reads of =
          let both = told_mid name key p spoken its stand none in
          told_to name key p its (generations_back own_left t name key (told_versions f.state its.table (first.reading p)))
          of (ap (told_versions f.state its.table) reads ∙ both.0)
          (λ some. ap (record_key its.table) reads ∙ both.1 (λ none_. some (reads ∙ none_)))

      at : ((has mid.layout.catalog.data_pages p.page.0 ≡ true) × (mid.layout.catalog.table ≡ its.table))
          ⊎ ((has mid.layout.catalog.data_pages p.page.0 ≡ false) × (table_at mid.layout.tables p.page.0 ≡ Some its.table))
          → IsChainOf g (reading_left gone mid.layout it.c mid.reading it.rc) name key
          (spoken_if (reading_left gone mid.layout it.c mid.reading it.rc p) p)
          (generations_back own_left t name key (told_versions f.state its.table (first.reading p)))
      at (inl (on, cat_)) = by (gone key) refl
        where
          in_catalog : name ≡ catalog_name
          in_catalog = sym its.named ∙ (ap (λ (x : Table). x.name) (sym cat_)
              ∙ catalog_named form size state pages mid.layout mid.reading mid.sound)

          reads : reading_left gone mid.layout it.c mid.reading it.rc p ≡ it.rc p
          reads = reads_catalog form one no_pages size o h e t left s mid.layout mid.reading pages later gone active
              mid.sound it nothing p on

          -- a row that goes: the transaction's version was the only one
          goes : gone key ≡ true → HasGone gone mid.layout.catalog.table t (mid.reading p) (it.rc p)
              → IsChainOf g (reading_left gone mid.layout it.c mid.reading it.rc) name key
              (spoken_if (reading_left gone mid.layout it.c mid.reading it.rc p) p)
              (generations_back own_left t name key (told_versions f.state its.table (first.reading p)))
          goes lost went =
              let there = left_there key lost in
              let still : mid.reading p ≡ first.reading p = mid.not_yet name key there.0
              (ap (λ (n : List ℕ). newest_at left n key) in_catalog ∙ there.1) p spoken in
              let no_change : newest_at own_left name key ≡ None =
              ap (λ (n : List ℕ). newest_at own_left n key) in_catalog ∙ it.none key lost in
              let alive : is_dead (left_state everyone s.state (writer went.version)) ≡ false =
              ap (λ (u : ℕ). is_dead (left_state everyone s.state u)) went.its ∙ ap is_dead limbo in
              told_none name key p (generations_back own_left t name key
              (told_versions f.state its.table (first.reading p))) (reads ∙ went.none)
              (ap (λ (es : List Read). generations_back own_left t name key (told_versions f.state its.table es))
              (sym still ∙ went.alone)
              ∙ sym (told_out state its.table t own_left name key went.version [] went.its alive tt no_change))

          by : (b : Bool) → gone key ≡ b
              → IsChainOf g (reading_left gone mid.layout it.c mid.reading it.rc) name key
              (spoken_if (reading_left gone mid.layout it.c mid.reading it.rc p) p)
              (generations_back own_left t name key (told_versions f.state its.table (first.reading p)))
          by true lost = goes lost (gone_speaks key lost p (ap (λ (n : List ℕ). speaks n key) (sym in_catalog) ∙ spoken))
          by false stays = split (its_fate p on)
            where
              none : newest_at left name key ≡ None
              none = left_none name key (λ named. stays)

              split : HasGone gone mid.layout.catalog.table t (mid.reading p) (it.rc p)
                  ⊎ IsLeft gone (facts_by (left_state everyone s.state) pages mid.layout) mid.layout.catalog.table
                  (mid.reading p) (it.rc p)
                  → IsChainOf g (reading_left gone mid.layout it.c mid.reading it.rc) name key
                  (spoken_if (reading_left gone mid.layout it.c mid.reading it.rc p) p)
                  (generations_back own_left t name key (told_versions f.state its.table (first.reading p)))
              split (inr kept) = as_mid none (reads ∙ kept.same) (catalog_in form one no_pages size o h e t left s
                  mid.layout mid.reading pages later gone active mid.sound it nothing p on
                  ∙ ap (λ (x : Table). Some x) cat_)
              split (inl went) =
                  let some : mid.reading p ≢ [] = λ none_.
                  let both : went.version ∷ [] ≡ [] = sym went.alone ∙ none_ in absurd cc in
                  let key_is : record_key mid.layout.catalog.table (mid.reading p) ≡ key =
                  ap (λ (x : Table). record_key x (mid.reading p)) cat_
                  ∙ (told_mid name key p spoken its stand none).1 some in
                  absurd (false≢true (sym stays ∙ (ap gone (sym key_is) ∙ went.keyed)))
      at (inr (off, is)) = by (gone (table_key its.table.name)) refl
        where
          other : its.table.name ≢ catalog_name
          other = other_name form size state pages mid.layout mid.reading mid.sound p.page.0 its.table is

          none : newest_at left name key ≡ None
          none = left_none name key (λ named. absurd (other (its.named ∙ named)))

          by : (b : Bool) → gone (table_key its.table.name) ≡ b
              → IsChainOf g (reading_left gone mid.layout it.c mid.reading it.rc) name key
              (spoken_if (reading_left gone mid.layout it.c mid.reading it.rc p) p)
              (generations_back own_left t name key (told_versions f.state its.table (first.reading p)))
          by false stays =
              let both = reads_left form one no_pages size o h e t left s mid.layout mid.reading pages later gone active
              mid.sound it nothing p its.table off is stays in as_mid none both.0 both.1
          by true lost = told_none name key p (generations_back own_left t name key
              (told_versions f.state its.table (first.reading p)))
              (reads_none form one no_pages size o h e t left s mid.layout mid.reading pages later gone active mid.sound it
              nothing p its.table off is lost) (sym (told_mid name key p spoken its stand none).0
              ∙ silent form one no_pages size o h e t left s mid.layout mid.reading pages later gone active mid.sound it
              nothing p its.table off is lost)

  keys : (name : List ℕ) (key : Value) (speaker : Option RecId) → speaks name key ≡ speaker
      → SpeaksFor o h f first.reading name key speaker → (chain : List Generation)
      → IsChainOf f first.reading name key speaker chain
      → IsChainOf g (reading_left gone mid.layout it.c mid.reading it.rc) name key
      (still_spoken (reading_left gone mid.layout it.c mid.reading it.rc) speaker)
      (generations_with o h e name key chain)
  keys name key None spoken stand chain is = goes_back name key chain
      ∙ (ap (generations_back own_left t name key) is ∙ nothing_back name key stand)
  keys name key (Some p) spoken (its, stand) chain (one_, is) =
      subst (IsChainOf g now name key (spoken_if (now p) p))
      (sym (goes_back name key chain ∙ ap (generations_back own_left t name key) (is
      ∙ ap (λ (x : Table). told_versions f.state x (first.reading p))
      (one_of p one_.table its.table one_.of_table its.of_table))))
      (keys_by name key p spoken its stand)

  -- ---- the silent ones

  others_mid : (p : RecId) (table : Table) → reading_left gone mid.layout it.c mid.reading it.rc p ≡ mid.reading p
      → table_at (stands_of mid.layout) p.page.0 ≡ Some table
      → SpeaksOrSilent o (e ∷ h) g (reading_left gone mid.layout it.c mid.reading it.rc)
      (λ name key. still_spoken (reading_left gone mid.layout it.c mid.reading it.rc) (speaks name key)) p table
  others_mid p table reads of = at (mid.new p table of) (mid.each_record p)
    where
      speaks_on : (name : List ℕ) (key : Value) → speaks name key ≡ Some p → now p ≢ []
          → still_spoken now (speaks name key) ≡ Some p
      speaks_on name key spoken some = ap (still_spoken now) spoken ∙ spoken_some (now p) p some

      -- it speaks, if it has a version
      or_none : (now p ≢ [] → still_spoken now (speaks table.name (record_key table (now p))) ≡ Some p)
          → SpeaksOrSilent o (e ∷ h) g now (λ name key. still_spoken now (speaks name key)) p table
      or_none speaks_it = by (now p) refl
        where
          by : (es : List Read) → now p ≡ es
              → SpeaksOrSilent o (e ∷ h) g now (λ name key. still_spoken now (speaks name key)) p table
          by [] is = inl (ap (told_versions g.state table) is)
          by (x ∷ xs) is = inr (inr (speaks_it (λ none.
              let both : x ∷ xs ≡ [] = sym is ∙ none in absurd cc)))

      still : now p ≡ first.reading p → table_in f p ≡ Some table → SpeaksOrSilent o h f first.reading speaks p table
          → SpeaksOrSilent o (e ∷ h) g now (λ name key. still_spoken now (speaks name key)) p table
      still same was (inl empty) = inl (ap (told_versions g.state table) same ∙ empty)
      still same was (inr (inl lost)) = inr (inl (erased_still o opening h e legal (told_versions g.state table (now p))
          (subst (λ (es : List Read). IsErasedForAll o h (told_versions g.state table es)) (sym same) lost)))
      still same was (inr (inr spoken)) = or_none (λ some. speaks_on table.name (record_key table (now p))
          (ap (λ (es : List Read). speaks table.name (record_key table es)) same ∙ spoken) some)

      at : (table_at (stands_of first.layout) p.page.0 ≡ Some table) ⊎ ((first.reading p ≡ []) × (mid.reading p ≡ []))
          → (mid.reading p ≡ first.reading p) ⊎ IsTakenBack o h e t f first.reading mid.reading speaks p
          → SpeaksOrSilent o (e ∷ h) g now (λ name key. still_spoken now (speaks name key)) p table
      at (inr (none, now_)) record_ = inl (ap (told_versions g.state table) (reads ∙ now_))
      at (inl was) (inl same) = still (reads ∙ same) was (first.versions.others p table was)
      at (inl was) (inr took) = or_none (λ some. speaks_on table.name (record_key table (now p))
          (ap (λ (x : Table). speaks x.name (record_key x (now p))) (one_of p table took.table was took.of)
          ∙ (ap (speaks took.table.name) (ap (record_key took.table) reads ∙ took.keyed (λ none_. some (reads ∙ none_)))
          ∙ took.spoke)) some)

  others : (p : RecId) (table : Table) → table_in g p ≡ Some table
      → SpeaksOrSilent o (e ∷ h) g (reading_left gone mid.layout it.c mid.reading it.rc)
      (λ name key. still_spoken (reading_left gone mid.layout it.c mid.reading it.rc) (speaks name key)) p table
  others p table of = at (whose form one no_pages size o h e t left s mid.layout mid.reading pages later gone active
      mid.sound it nothing p table of)
    where
      at : ((has mid.layout.catalog.data_pages p.page.0 ≡ true) × (mid.layout.catalog.table ≡ table))
          ⊎ ((has mid.layout.catalog.data_pages p.page.0 ≡ false) × (table_at mid.layout.tables p.page.0 ≡ Some table)
          × (gone (table_key table.name) ≡ false))
          → SpeaksOrSilent o (e ∷ h) g now (λ name key. still_spoken now (speaks name key)) p table
      at (inr (off, is, stays)) = others_mid p table (reads_left form one no_pages size o h e t left s mid.layout
          mid.reading pages later gone active mid.sound it nothing p table off is stays).0 (rw off is)
      at (inl (on, cat_)) = split (its_fate p on)
        where
          reads : reading_left gone mid.layout it.c mid.reading it.rc p ≡ it.rc p
          reads = reads_catalog form one no_pages size o h e t left s mid.layout mid.reading pages later gone active
              mid.sound it nothing p on

          split : HasGone gone mid.layout.catalog.table t (mid.reading p) (it.rc p)
              ⊎ IsLeft gone (facts_by (left_state everyone s.state) pages mid.layout) mid.layout.catalog.table
              (mid.reading p) (it.rc p)
              → SpeaksOrSilent o (e ∷ h) g now (λ name key. still_spoken now (speaks name key)) p table
          split (inl went) = inl (ap (told_versions g.state table) (reads ∙ went.none))
          split (inr kept) = others_mid p table (reads ∙ kept.same) (rw on (ap (λ (x : Table). Some x) cat_))

  pub versions_left : HaveVersions o (e ∷ h) (facts_by (left_state everyone s.state) later
      (layout_left gone mid.layout it.c)) (reading_left gone mid.layout it.c mid.reading it.rc)
  versions_left = versions_follow o h e f g first.reading now first.versions
      (λ name key. still_spoken now (speaks name key)) opening legal (record {
        keys = λ name key chain is. keys name key (speaks name key) refl (first.versions.speaks name key) chain is;
        others = others;
      })
