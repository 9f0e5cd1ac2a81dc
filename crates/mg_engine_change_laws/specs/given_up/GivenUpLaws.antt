-- Pages on which some of a transaction's changes are taken back show the history where it is rolled back.
use Rattle.std.proofs.Common.{◌≡◌, ◌≢◌, ◌⊎◌, inl, inr, ap, refl, sym, subst, ◌∙◌, ℕ, Bool, true, false, List, [], ◌∷◌, Option, None, Some}
use Rattle.std.specs.Prelude.{cond, if◌then◌else◌, is_some, map}
use Rattle.std.proofs.lemmas.Bool.{eq-eqb, false≢true, ne_eqb}
use Rattle.mg_base.specs.declared.numbers.RecId.{RecId}
use Rattle.mg_base.specs.declared.transaction.TxState.{TxState}
use Rattle.mg_base.specs.declared.transaction.TxState.TheVariants.{Active, Committed, Dead, Limbo}
use Rattle.mg_engine_meaning_laws.specs.PlainTables.{HasPlainTables}
use Rattle.mg_engine_step_laws.specs.reads.TableAnswers.{shown_key}
use Rattle.mg_engine_step_laws.specs.backs.Again.{AreTaken}
use Rattle.mg_engine_step_laws.specs.standing.Bare.{IsBare}
use Rattle.mg_engine_step_laws.specs.standing.BareLaws.{bare_by, bare_has_found}
use Rattle.mg_engine_step_laws.specs.standing.OwnChains.{change_there, none_second, own_told}
use Rattle.mg_engine_step_laws.specs.backs.Shown.{IsTakenBack, ShowsMidway}
use Rattle.mg_engine_meaning_laws.specs.AlikeTables.{versions_alike}
use Rattle.mg_engine_meaning_laws.specs.Falling.{Falls, HasAlike, alike, goes, read_alike, same_back, one_still, stays_unless, all_but}
use Rattle.mg_engine_change_laws.specs.given_up.Dying.{DiesMidway, GoesForOthers, StaysForOthers, versions_die_midway}
use Rattle.mg_engine_change_laws.specs.given_up.GivenUp.{GivenUpIsShown, GivesUp}
use Rattle.mg_engine_change_laws.specs.backs.OwnVersions.{back_without, behind_none, told_dead}
use Rattle.mg_generation_laws.specs.After.{generations_back, leaves_versions}
use Rattle.mg_generation_laws.specs.Generations.{Generation, is_newest_by, put, without_newest_by}
use Rattle.mg_generation_laws.specs.Kept.{IsErasedForAll, StandFor}
use Rattle.mg_grown_catalog_laws.specs.Grown.{CatalogGrows, SeenIsNotMade}
use Rattle.mg_image.specs.Catalog.{IsSameTable, committed_with}
use Rattle.mg_image.specs.Form.{Pages, Row, packed_coding, packed_form}
use Rattle.mg_image.specs.Histories.{newest_at}
use Rattle.mg_image.specs.ReadingLaws.{RowsAreOne}
use Rattle.mg_image.specs.RecordRules.{EachBack, Facts, table_in}
use Rattle.mg_image.specs.Records.{Reading, key_of, record_key, shown as shown_row, writer}
use Rattle.mg_image.specs.Sound.{IsSoundBy, facts_by}
use Rattle.mg_image.specs.Tables.{Layout, Stand, stands_of}
use Rattle.mg_image.specs.declared.entry.Entry.{Entry as Read}
use Rattle.mg_image_overlay_laws.specs.records.Fronts.{is_dead}
use Rattle.mg_image_overlay_laws.specs.tables.TableOwners.{IsOneOf, has_stand}
use Rattle.mg_model.specs.Answers.{catalog_of, is_open, told}
use Rattle.mg_model.specs.Catalog.{catalog_name, shape_said, table_key}
use Rattle.mg_model.specs.CatalogRules.{HasTableOf}
use Rattle.mg_model.specs.Changes.{Cells, has_change, row_at, same_name}
use Rattle.mg_model.specs.Effects.{doer}
use Rattle.mg_model.specs.History.{Effect, Entries, Entry}
use Rattle.mg_model.specs.Legal.{IsLegal, MayBegin}
use Rattle.mg_model.specs.Machine.{is_of, next_after, own, state_after, state_of, view}
use Rattle.mg_model.specs.Openings.{everyone}
use Rattle.mg_model.specs.declared.change.Change.{Change}
use Rattle.mg_model.specs.declared.opening.Opening.{Opening}
use Rattle.mg_model.specs.declared.table.Table.{Table}
use Rattle.mg_overlay_laws.specs.Overlays.{left_by, left_state}
use Rattle.mg_records.specs.Reading.{shape_seen}
use Rattle.mg_seek.specs.Histories.{told_versions}
use Rattle.mg_engine_step_laws.specs.standing.Following.{KeepsTables, OthersKeepTables}
use Rattle.mg_engine_step_laws.specs.standing.StandingLaws.{VersionsStay}
use Rattle.mg_engine_step_laws.specs.standing.Standing.{FindsTables, HasFirstPage, IsSeenAs, Remembers, ShowsHistory, Standing}
use Rattle.mg_engine_step_laws.specs.standing.Versions.{HaveVersions, IsRecordOf, SpeaksFor, SpeaksOrSilent, told_version}
use Rattle.mg_image_overlay_laws.specs.tables.OneTable.{one_table, stands_in, table_at_stands}
use Rattle.mg_value.specs.declared.shape.Shape.{Shape}
use Rattle.mg_value.specs.declared.value.Value.{Value}
use Rattle.mg_image_overlay_laws.specs.tables.Growing.{IsTableOf}
use Rattle.mg_engine_change_laws.specs.given_up.EngineGivenUp.{states_now}

-- a deletion that all see is no active transaction's
not_erased : (o : Opening) (h : Entries) (t : ℕ) (gs : List Generation) → state_of o h t ≡ Active
    → IsErasedForAll o h gs → is_newest_by t gs ≡ false
not_erased o h t [] active none = absurd none
not_erased o h t (g ∷ gs) active (seen, none) = ne_eqb g.writer t (λ same.
    let both : Active ≡ Committed = sym active ∙ (ap (state_of o h) (sym same) ∙ seen.committed) in absurd cc)

-- ---- first pages

first_page_named : (stands : List Stand) (name : List ℕ) (page : ℕ) → HasFirstPage stands name page
    → (x : Table) × (IsOneOf (map (λ stand. stand.table) stands) x × ((x.name ≡ name) × (x.pointer.0 ≡ page)))
first_page_named [] name page is = absurd is
first_page_named (s ∷ ss) name page (inl (named, first)) = (s.table, (inl refl, (named, first)))
first_page_named (s ∷ ss) name page (inr more) =
    let (x, (one, both)) = first_page_named ss name page more in (x, (inr one, both))

has_first_page : (stands : List Stand) (x : Table) (name : List ℕ) (page : ℕ)
    → IsOneOf (map (λ stand. stand.table) stands) x → x.name ≡ name → x.pointer.0 ≡ page
    → HasFirstPage stands name page
has_first_page [] x name page one named first = absurd one
has_first_page (s ∷ ss) x name page (inl same) named first = inl (
  ap (λ (y : Table). y.name) same ∙ named,
  ap (λ (y : Table). y.pointer.0) same ∙ first,
)
has_first_page (s ∷ ss) x name page (inr more) named first = inr (has_first_page ss x name page more named first)

-- ---- own changes

-- a transaction that has a change left after it took back had one before
change_before : (o : Opening) (h : Entries) (e : Entry) (t : ℕ) (whole : List Change) (name : List ℕ) (key : Value)
    → AreTaken o h e t whole → has_change (own o (e ∷ h) t) name key ≡ true
    → has_change (own o h t) name key ≡ true
change_before o h e t whole name key taken left = at (has_change (own o h t) name key) refl
  where
    none_of : (cs : List Change) → has_change cs name key ≡ false → newest_at cs name key ≡ None
    none_of cs off = by (newest_at cs name key) refl
      where
        by : (x : _) → newest_at cs name key ≡ x → newest_at cs name key ≡ None
        by None is = is
        by (Some c) is = absurd (false≢true (sym off ∙ (change_there cs name key ∙ ap is_some is)))

    at : (b : Bool) → has_change (own o h t) name key ≡ b → has_change (own o h t) name key ≡ true
    at true is = is
    at false off =
        let none : newest_at (own o (e ∷ h) t) name key ≡ None =
        none_second whole (own o (e ∷ h) t) name key (taken name key ∙ none_of (own o h t) off) in
        absurd (false≢true (sym (change_there (own o (e ∷ h) t) name key ∙ ap is_some none) ∙ left))

-- ---- the pages

module _ (one : RowsAreOne packed_coding) (seen_law : SeenIsNotMade) (stay : VersionsStay)
    (keep : OthersKeepTables) (size : ℕ) (o : Opening) (h : Entries) (e refused rolled : Entry) (t : ℕ)
    (whole left : List Change) (s mid new : Standing) (begun pages : Pages)
    (shows : ShowsHistory packed_form size o h s begun) (opening : MayBegin o)
    (legal : IsLegal o (rolled ∷ refused ∷ h)) (memory : Remembers o h s) (grows : CatalogGrows o h)
    (plain : HasPlainTables size s.state pages)
    (taken : AreTaken o h e t whole) (gives : GivesUp o h refused rolled t s mid new)
    (midway : ShowsMidway packed_form size o h e t whole left s begun shows pages) (b : Layout) (q : Reading)
    (second : IsSoundBy packed_form size (left_state everyone new.state) pages b q) where
  abbrev before : ℕ → TxState
  before = left_state everyone s.state

  abbrev now : ℕ → TxState
  now = left_state everyone new.state

  was_active : state_of o h t ≡ Active
  was_active = sym (memory.state t) ∙ gives.active

  mid_state : (u : ℕ) → mid.state u ≡ s.state u
  mid_state u = gives.first.state u ∙ ap (λ (f : Effect). state_after f u (s.state u)) gives.nothing

  dead_now : new.state t ≡ Dead
  dead_now = gives.then_.state t ∙ (ap (λ (f : Effect). state_after f t (mid.state t)) gives.dies
      ∙ rw (eq-eqb t t refl) refl)

  others_now : (u : ℕ) → u ≢ t → new.state u ≡ s.state u
  others_now u ne = gives.then_.state u ∙ (ap (λ (f : Effect). state_after f u (mid.state u)) gives.dies
      ∙ (rw (ne_eqb t u (λ same. ne (sym same))) refl ∙ mid_state u))

  limbo : before t ≡ Limbo
  limbo = ap (left_by true) gives.active

  others_left : (u : ℕ) → u ≢ t → now u ≡ before u
  others_left u ne = ap (left_by true) (others_now u ne)

  falls : Falls before now t
  falls = record { limbo = limbo; dead = ap (left_by true) dead_now; others = others_left }

  abbrev a : Layout
  a = midway.layout

  abbrev r : Reading
  r = midway.reading

  abbrev r0 : Reading
  r0 = shows.reading

  -- tables have the same indexes in both
  same_there : (x y : Table) → IsTableOf a x → IsTableOf b y → IsSameTable x y → x.indexes ≡ y.indexes
  same_there = plain.agree everyone (all_but t) a b r q midway.sound
      (subst (λ (x : ℕ → TxState). IsSoundBy packed_form size x pages b q)
      (sym (states_now o h refused rolled t s mid new gives)) second)

  abbrev f0 : Facts
  f0 = facts_by before begun shows.layout

  abbrev f : Facts
  f = facts_by before pages a

  abbrev g : Facts
  g = facts_by now pages b

  -- ---- the versions

  -- the tables in the middle that stay
  abbrev merged : Option Table → Option Table → Option Table
  merged None x = None
  merged (Some y) x = x

  abbrev staying : Facts
  staying = record g { table_of = λ n. merged (g.table_of n) (f.table_of n) }

  to_alike : (n : ℕ) (y : Table) → g.table_of n ≡ Some y → HasAlike f n y
  to_alike n y of = alike packed_form one size before now t falls pages a b r q midway.sound second n y of

  backs : (p : RecId) → EachBack (λ v. before (writer v) ≡ Committed) (r p)
  backs p = at (table_in f p) refl
    where
      at : (x : Option Table) → table_in f p ≡ x → EachBack (λ v. before (writer v) ≡ Committed) (r p)
      at None none = subst (EachBack (λ v. before (writer v) ≡ Committed))
          (sym (midway.sound.records.outside p none)) tt
      at (Some x) of = (midway.sound.records.each p x of).backs

  backs0 : (p : RecId) (x : Table) → table_in f0 p ≡ Some x
      → EachBack (λ v. before (writer v) ≡ Committed) (r0 p)
  backs0 p x of = (shows.sound.records.each p x of).backs

  one_of : (p : RecId) (x y : Table) → table_in f0 p ≡ Some x → table_in f0 p ≡ Some y → x ≡ y
  one_of p x y is also = let both : Some x ≡ Some y = sym is ∙ also in cc

  -- what others count of a record is what they counted at first
  without_same : (p : RecId) (x : Table) → table_in f0 p ≡ Some x
      → without_newest_by t (told_versions before x (r p)) ≡ without_newest_by t (told_versions before x (r0 p))
  without_same p x of = at (midway.each_record p)
    where
      at : (r p ≡ r0 p) ⊎ IsTakenBack o h e t f0 r0 r shows.versions.speaker p
          → without_newest_by t (told_versions before x (r p)) ≡ without_newest_by t (told_versions before x (r0 p))
      at (inl same) = ap (λ (es : List Read). without_newest_by t (told_versions before x es)) same
      at (inr it) =
          let is : it.table ≡ x = one_of p it.table x it.of of in
          ap (λ (y : Table). without_newest_by t (told_versions before y (r p))) (sym is)
          ∙ (ap (without_newest_by t) it.told
          ∙ (back_without before t limbo (own o (e ∷ h) t) it.table.name (record_key it.table (r0 p)) it.table (r0 p)
          (backs0 p it.table it.of)
          ∙ ap (λ (y : Table). without_newest_by t (told_versions before y (r0 p))) is))

  keyed_same : (p : RecId) (x : Table) → table_in f0 p ≡ Some x → r p ≢ []
      → record_key x (r p) ≡ record_key x (r0 p)
  keyed_same p x of some = at (midway.each_record p)
    where
      at : (r p ≡ r0 p) ⊎ IsTakenBack o h e t f0 r0 r shows.versions.speaker p
          → record_key x (r p) ≡ record_key x (r0 p)
      at (inl same) = ap (record_key x) same
      at (inr it) =
          let is : it.table ≡ x = one_of p it.table x it.of of in
          ap (λ (y : Table). record_key y (r p)) (sym is)
          ∙ (it.keyed some ∙ ap (λ (y : Table). record_key y (r0 p)) is)

  records : (p : RecId) (x : Table) → table_in f0 p ≡ Some x
      → StaysForOthers f0 staying r0 q t p x ⊎ GoesForOthers f0 staying r0 t p x
  records p x of = at (table_in g p) refl
    where
      there : table_in f p ≡ Some x
      there = midway.stays p x of

      at : (y : Option Table) → table_in g p ≡ y
          → StaysForOthers f0 staying r0 q t p x ⊎ GoesForOthers f0 staying r0 t p x
      at (Some y) also =
          let same : q p ≡ r p =
          read_alike packed_form one size before now t falls pages a b r q midway.sound second p y also in
          inl (record {
            there = ap (λ (z : Option Table). merged z (table_in f p)) also ∙ there;
            told = ap (told_versions now x) same
                ∙ (told_dead before t limbo now falls.dead others_left x (r p) (backs p) ∙ without_same p x of);
            keyed = λ some. ap (record_key x) same ∙ keyed_same p x of (λ none. some (same ∙ none));
          })
      at None gone = inr (record {
        gone = ap (λ (z : Option Table). merged z (table_in f p)) gone;
        none = sym (without_same p x of)
            ∙ goes packed_form one size before now t falls pages a b r q midway.sound second p x there gone;
      })

  dies : DiesMidway f0 staying r0 q t
  dies = record { records = records; new = λ p x of. by p x of (table_in g p) refl }
    where
      by : (p : RecId) (x : Table) → table_in staying p ≡ Some x → (y : Option Table) → table_in g p ≡ y
          → (table_in f0 p ≡ Some x) ⊎ (q p ≡ [])
      by p x of None none =
          let both : None ≡ Some x = sym (ap (λ (z : Option Table). merged z (table_in f p)) none) ∙ of in absurd cc
      by p x of (Some y) also =
          let there : table_in f p ≡ Some x = sym (ap (λ (z : Option Table). merged z (table_in f p)) also) ∙ of in
          at (midway.new p x there)
        where
          at : (table_in f0 p ≡ Some x) ⊎ ((r0 p ≡ []) × (r p ≡ []))
              → (table_in f0 p ≡ Some x) ⊎ (q p ≡ [])
          at (inl was) = inl was
          at (inr (none, empty)) = inr (read_alike packed_form one size before now t falls pages a b r q midway.sound
              second p y also ∙ empty)

  versions_refused : HaveVersions o (refused ∷ h) f0 r0
  versions_refused = stay o h refused f0 f0 r0 opening legal.1 (ap leaves_versions gives.nothing) (λ n. refl)
      (λ p. refl) shows.versions

  stay_versions : HaveVersions o (rolled ∷ refused ∷ h) staying q
  stay_versions = versions_die_midway o (refused ∷ h) rolled f0 staying r0 q t opening legal gives.dies dies
      versions_refused

  pub versions_now : HaveVersions o (rolled ∷ refused ∷ h) g q
  versions_now = versions_alike o (rolled ∷ refused ∷ h) staying g q refl to from stay_versions
    where
      to : (n : ℕ) (y : Table) → g.table_of n ≡ Some y → HasAlike staying n y
      to n y of =
          let it = to_alike n y of in
          record {
            its = it.its;
            there = ap (λ (z : Option Table). merged z (f.table_of n)) of ∙ it.there;
            same = it.same;
          }

      from : (n : ℕ) (x : Table) → staying.table_of n ≡ Some x → HasAlike g n x
      from n x of = at (g.table_of n) refl
        where
          at : (z : Option Table) → g.table_of n ≡ z → HasAlike g n x
          at None none =
              let both : None ≡ Some x = sym (ap (λ (z : Option Table). merged z (f.table_of n)) none) ∙ of in
              absurd cc
          at (Some y) there =
              let it = to_alike n y there in
              let first : f.table_of n ≡ Some x =
              sym (ap (λ (z : Option Table). merged z (f.table_of n)) there) ∙ of in
              let both : Some it.its ≡ Some x = sym it.there ∙ first in
              let same : it.its ≡ x = cc in
              record {
                its = y;
                there = there;
                same = same_back x y (subst (λ (z : Table). IsSameTable z y) same it.same);
              }

  -- ---- who finds its tables

  -- the row of a table that another active transaction sees is not the transaction's
  module _ (u : ℕ) (active_u : state_of o h u ≡ Active) (apart : u ≢ t) (name : List ℕ) (row : Cells)
      (sees : row_at (view o h u) catalog_name (table_key name) ≡ Some row) (p : RecId) (v : Read)
      (vs : List Read) (shown_ : Row) (of : table_in f p ≡ Some a.catalog.table) (first : r p ≡ v ∷ vs)
      (shows_it : shown_row (committed_with f (λ w. true)) (r p) ≡ Some shown_)
      (keyed : key_of a.catalog.table shown_ ≡ table_key name) (its : writer v ≡ t) where
    abbrev cat : Table
    cat = a.catalog.table

    named : cat.name ≡ catalog_name
    named = ap (λ (x : Table). x.name) midway.sound.catalog

    some_read : r p ≢ []
    some_read none = let both : v ∷ vs ≡ [] = sym first ∙ none in absurd cc

    key_is : record_key cat (r p) ≡ table_key name
    key_is = sym (shown_key f (committed_with f (λ w. true)) cat (record_key cat (r p)) (r p) shown_
        (midway.sound.records.each p cat of).each shows_it) ∙ keyed

    unmade : has_change (own o h t) catalog_name (table_key name) ≡ false
    unmade = seen_law o h t u (table_key name) row opening legal.1.1 grows (ap is_open was_active) active_u
        (λ same. apart (sym same)) sees

    not_changed : (n : List ℕ) (k : Value) → n ≡ catalog_name → k ≡ table_key name
        → has_change (own o h t) n k ≡ true → ⊥
    not_changed n k is also has_ = false≢true (sym unmade
        ∙ subst (λ (x : List ℕ). has_change (own o h t) x (table_key name) ≡ true) is
        (subst (λ (x : Value). has_change (own o h t) n x ≡ true) also has_))

    alive : is_dead (before (writer v)) ≡ false
    alive = ap (λ (w : ℕ). is_dead (before w)) its ∙ ap is_dead limbo

    told_is : told_versions before cat (r p) ≡ told_version cat v ∷ map (told_version cat) vs
    told_is = ap (told_versions before cat) first
        ∙ ap (λ (d : Bool). map (told_version cat) (if d then vs else v ∷ vs)) alive

    newest : is_newest_by t (told_versions before cat (r p)) ≡ true
    newest = ap (is_newest_by t) told_is ∙ eq-eqb (writer v) t its

    -- the record is as it was at first
    module _ (was : table_in f0 p ≡ Some cat) (same : r p ≡ r0 p) where
      newest0 : is_newest_by t (told_versions before cat (r0 p)) ≡ true
      newest0 = ap (λ (es : List Read). is_newest_by t (told_versions before cat es)) (sym same) ∙ newest

      key0 : record_key cat (r0 p) ≡ table_key name
      key0 = ap (record_key cat) (sym same) ∙ key_is

      changed_ : StandFor o h cat.name (record_key cat (r0 p)) (told_versions before cat (r0 p)) → ⊥
      changed_ stand = not_changed cat.name (record_key cat (r0 p)) named key0
          ((own_told o h t cat.name (record_key cat (r0 p)) (told_versions before cat (r0 p)) was_active stand).has_
          ∙ newest0)

      spoken : (x : Option RecId) → SpeaksFor o h f0 r0 cat.name (record_key cat (r0 p)) x → x ≡ Some p → ⊥
      spoken None none some = absurd cc
      spoken (Some p2) (its_record, stand) some =
          let same2 : p2 ≡ p = cc in
          on p2 same2 its_record stand
        where
          on : (p2 : RecId) → p2 ≡ p → (its_record : IsRecordOf f0 r0 cat.name (record_key cat (r0 p)) p2)
              → StandFor o h cat.name (record_key cat (r0 p)) (told_versions before its_record.table (r0 p2)) → ⊥
          on p2 same2 record_ stand =
              let table_is : record_.table ≡ cat = one_of p record_.table cat
              (ap (table_in f0) (sym same2) ∙ record_.of_table) was in
              changed_ (subst (λ (x : Table). StandFor o h cat.name (record_key cat (r0 p))
              (told_versions before x (r0 p))) table_is (subst (λ (x : RecId). StandFor o h cat.name
              (record_key cat (r0 p)) (told_versions before record_.table (r0 x))) same2 stand))

      as_first : SpeaksOrSilent o h f0 r0 shows.versions.speaker p cat → ⊥
      as_first (inl empty) = let both : true ≡ false = sym newest0 ∙ ap (is_newest_by t) empty in absurd cc
      as_first (inr (inl gone)) = false≢true (sym (not_erased o h t (told_versions before cat (r0 p)) was_active gone)
          ∙ newest0)
      as_first (inr (inr speaks)) = spoken (shows.versions.speaker cat.name (record_key cat (r0 p)))
          (shows.versions.speaks cat.name (record_key cat (r0 p))) speaks

    -- it is taken back: then the transaction has a change left there
    taken_back : IsTakenBack o h e t f0 r0 r shows.versions.speaker p → table_in f0 p ≡ Some cat → ⊥
    taken_back it was = at (has_change (own o (e ∷ h) t) it.table.name (record_key it.table (r0 p))) refl
      where
        is : it.table ≡ cat
        is = one_of p it.table cat it.of was

        newest_then : is_newest_by t (generations_back (own o (e ∷ h) t) t it.table.name (record_key it.table (r0 p))
            (told_versions before it.table (r0 p))) ≡ true
        newest_then = ap (is_newest_by t) (sym it.told)
            ∙ (ap (λ (x : Table). is_newest_by t (told_versions before x (r p))) is ∙ newest)

        at : (c : Bool) → has_change (own o (e ∷ h) t) it.table.name (record_key it.table (r0 p)) ≡ c → ⊥
        at true left_one = not_changed it.table.name (record_key it.table (r0 p))
            (ap (λ (x : Table). x.name) is ∙ named)
            (sym (it.keyed some_read) ∙ (ap (λ (x : Table). record_key x (r p)) is ∙ key_is))
            (change_before o h e t whole it.table.name (record_key it.table (r0 p)) taken left_one)
        at false none = false≢true (sym (behind_none before t limbo it.table (r0 p) (backs0 p it.table it.of))
            ∙ (ap (λ (c : Bool). is_newest_by t (if c then put t (row_at (own o (e ∷ h) t) it.table.name
            (record_key it.table (r0 p))) (told_versions before it.table (r0 p))
            else without_newest_by t (told_versions before it.table (r0 p)))) (sym none) ∙ newest_then))

    not_its : ⊥
    not_its = at (midway.new p cat of)
      where
        at : (table_in f0 p ≡ Some cat) ⊎ ((r0 p ≡ []) × (r p ≡ [])) → ⊥
        at (inr (none, empty)) = some_read empty
        at (inl was) = by (midway.each_record p)
          where
            by : (r p ≡ r0 p) ⊎ IsTakenBack o h e t f0 r0 r shows.versions.speaker p → ⊥
            by (inl same) = as_first was same (shows.versions.others p cat was)
            by (inr it) = taken_back it was

  module _ (u : ℕ) (active_now : new.state u ≡ Active) where
    apart : u ≢ t
    apart same = let both : Active ≡ Dead = sym active_now ∙ (ap new.state same ∙ dead_now) in absurd cc

    active_then : s.state u ≡ Active
    active_then = sym (others_now u apart) ∙ active_now

    active_told : state_of o h u ≡ Active
    active_told = sym (memory.state u) ∙ active_then

    keeps_first : KeepsTables o h refused s mid u
    keeps_first = keep o h refused s mid gives.first u (ap (λ (x : Effect). is_of u (doer x)) gives.nothing)
        (mid_state u ∙ active_then)

    keeps_then : KeepsTables o (refused ∷ h) rolled mid new u
    keeps_then = keep o (refused ∷ h) rolled mid new gives.then_ u (ap (λ (x : Effect). is_of u (doer x)) gives.dies
        ∙ ne_eqb t u (λ same. apart (sym same))) active_now

    finds : FindsTables o h s a u
    finds = midway.tables u active_then

    -- a table that it sees stays
    seen : (name : List ℕ) (table : Table) → new.table u name ≡ Some table
        → IsOneOf (map (λ stand. stand.table) b.tables) table
    seen name table some = on (finds.seen name table was)
      where
        was : s.table u name ≡ Some table
        was = sym (keeps_then.table name ∙ keeps_first.table name) ∙ some

        told_row : (x : Option Shape) → shape_seen o h u name ≡ x → IsSeenAs name x (Some table)
            → (table.name ≡ name) × ((row : Cells) × (row_at (view o h u) catalog_name (table_key name) ≡ Some row))
        told_row None none seen_as = absurd seen_as
        told_row (Some shape) seen_ seen_as = (seen_as.0, by (same_name name catalog_name) seen_)
          where
            row_by : (x : Option Cells) → shape_said (catalog_of (told o h) u) name x ≡ Some shape
                → row_at (view o h u) catalog_name (table_key name) ≡ x
                → (row : Cells) × (row_at (view o h u) catalog_name (table_key name) ≡ Some row)
            row_by None none is_row = absurd cc
            row_by (Some row) some_ is_row = (row, is_row)

            by : (c : Bool) → cond c None (shape_said (catalog_of (told o h) u) name
                (row_at (view o h u) catalog_name (table_key name))) ≡ Some shape
                → (row : Cells) × (row_at (view o h u) catalog_name (table_key name) ≡ Some row)
            by true none = absurd cc
            by false said = row_by (row_at (view o h u) catalog_name (table_key name)) said refl

        its_row : (table.name ≡ name)
            × ((row : Cells) × (row_at (view o h u) catalog_name (table_key name) ≡ Some row))
        its_row = told_row (shape_seen o h u name) refl
            (subst (IsSeenAs name (shape_seen o h u name)) was ((memory.active u active_told).table name))

        on : IsOneOf (map (λ stand. stand.table) a.tables) table
            → IsOneOf (map (λ stand. stand.table) b.tables) table
        on one_ = one_still packed_form one size before now t falls pages a b r q midway.sound second same_there table one_
            (stays_unless packed_form one size before now t falls pages a b r q midway.sound second table one_
            (λ p v vs row of first shows_it keyed its. not_its u active_told apart name its_row.1.0 its_row.1.1 p v vs row
            of first shows_it (keyed ∙ ap table_key its_row.0) its))

    number_same : new.number u ≡ s.number u
    number_same = keeps_then.number ∙ keeps_first.number

    -- and one that it has changed stays where it was
    changed : (name : List ℕ) (key : Value) → has_change (own o (rolled ∷ refused ∷ h) u) name key ≡ true
        → HasFirstPage (stands_of b) name (new.number u name)
    changed name key has_ = subst (λ (n : List ℕ → ℕ). HasFirstPage (stands_of b) name (n name)) (sym number_same)
        (at (versions_now.speaker name key) (versions_now.speaks name key))
      where
        active_last : state_of o (rolled ∷ refused ∷ h) u ≡ Active
        active_last = ap (λ (x : Effect). state_after x u (state_of o (refused ∷ h) u)) gives.dies
            ∙ (rw (ne_eqb t u (λ same. apart (sym same))) refl
            ∙ (ap (λ (x : Effect). state_after x u (state_of o h u)) gives.nothing ∙ active_told))

        own_same : own o (rolled ∷ refused ∷ h) u ≡ own o h u
        own_same = keeps_then.own_same ∙ keeps_first.own_same

        it : (x : Table) × (IsOneOf (map (λ stand. stand.table) (stands_of a)) x
            × ((x.name ≡ name) × (x.pointer.0 ≡ s.number u name)))
        it = first_page_named (stands_of a) name (s.number u name) (finds.changed name key
            (ap (λ (cs : List Change). has_change cs name key) (sym own_same) ∙ has_))

        at : (x : Option RecId) → SpeaksFor o (rolled ∷ refused ∷ h) g q name key x
            → HasFirstPage (stands_of b) name (s.number u name)
        at None none = absurd (false≢true (sym
            ((own_told o (rolled ∷ refused ∷ h) u name key [] active_last none).has_) ∙ has_))
        at (Some p) (its, stand) =
            let from = to_alike p.page.0 its.table its.of_table in
            let same : from.its ≡ it.0 = one_table packed_form size before pages a r midway.sound from.its it.0
            (table_at_stands a p.page.0 from.its from.there) (stands_in a it.0 it.1.0)
            (from.same.name ∙ (its.named ∙ sym it.1.1.0)) in
            has_first_page (stands_of b) its.table name (s.number u name)
            (has_stand (stands_of b) p.page.0 its.table its.of_table) its.named
            (ap (λ (x : _). x.0) (sym from.same.pointer)
            ∙ (ap (λ (x : Table). x.pointer.0) same ∙ it.1.1.1))

    found : FindsTables o (rolled ∷ refused ∷ h) new b u
    found = record { seen = seen; changed = changed }

  bare_now : IsBare b
  bare_now = bare_by b (λ its there. (plain.each (all_but t) b q
      (subst (λ (x : ℕ → TxState). IsSoundBy packed_form size x pages b q)
      (sym (states_now o h refused rolled t s mid new gives)) second) its there).no_index)

  pub shows_now : ShowsHistory packed_form size o (rolled ∷ refused ∷ h) new pages
  shows_now = record {
    layout = b;
    reading = q;
    sound = second;
    next = midway.next ∙ sym (gives.then_.next ∙ (ap (λ (x : Effect). next_after x mid.next) gives.dies
        ∙ (gives.first.next ∙ ap (λ (x : Effect). next_after x s.next) gives.nothing)));
    versions = versions_now;
    tables = found;
    found = bare_has_found packed_form size now pages b q second bare_now new.state new.live;
    bare = bare_now;
  }

pub given_up_is_shown : RowsAreOne packed_coding → SeenIsNotMade → VersionsStay → OthersKeepTables → GivenUpIsShown
given_up_is_shown one seen_law stay keep size o h e refused rolled t whole left s mid new begun pages shows opening
    legal memory grows plain taken gives midway layout reading sound = shows_now one seen_law stay keep size o h e refused
    rolled t whole left s mid new begun pages shows opening legal memory grows plain taken gives midway layout reading sound
