-- A rollback takes the engine on to the history that has it.
use Rattle.std.proofs.Common.{◌≡◌, ◌≢◌, ◌⊎◌, inl, inr, ◌==◌, ap, refl, sym, subst, ◌∙◌, ℕ, Bool, true, false, not, List, [], ◌∷◌, ◌++◌, Option, None, Some}
use Rattle.std.specs.Prelude.{cond, if◌then◌else◌, map}
use Rattle.std.proofs.Math.Path.{fun_ext}
use Rattle.std.proofs.lemmas.Bool.{cases_eq, eq-eqb, eqb-true, false≢true, ne_eqb}
use Rattle.mg_base.specs.Disk.{Meaning}
use Rattle.mg_base.specs.Image.{Image}
use Rattle.mg_base.specs.declared.numbers.RecId.{RecId}
use Rattle.mg_base.specs.declared.transaction.TxState.{TxState}
use Rattle.mg_base.specs.declared.transaction.TxState.TheVariants.{Active, Committed, Dead, Limbo}
use Rattle.mg_grown_catalog_laws.specs.Grown.{CatalogGrows, SeenIsNotMade}
use Rattle.mg_value.specs.declared.shape.Shape.{Shape}
use Rattle.mg_value.specs.declared.value.Value.{Value}
use Rattle.mg_model.specs.declared.change.Change.{Change}
use Rattle.mg_model.specs.declared.opening.Opening.{Opening}
use Rattle.mg_model.specs.declared.table.Table.{Table}
use Rattle.mg_model.specs.Answers.{catalog_of, is_open, told}
use Rattle.mg_model.specs.Catalog.{catalog_name, shape_said, table_key}
use Rattle.mg_model.specs.CatalogRules.{HasTableOf}
use Rattle.mg_model.specs.Changes.{Cells, has_change, row_at, same_name}
use Rattle.mg_model.specs.Effects.{doer}
use Rattle.mg_model.specs.History.{Effect, Ends, Entries, Entry, effect_of}
use Rattle.mg_model.specs.Laws.{OpeningsBegin}
use Rattle.mg_model.specs.Legal.{IsLegal, MayBegin}
use Rattle.mg_model.specs.Machine.{is_of, next_after, own, state_after, state_of, view}
use Rattle.mg_model.specs.Openings.{everyone}
use Rattle.mg_records.specs.Reading.{shape_seen}
use Rattle.mg_generation_laws.specs.Generations.{Generation, is_newest_by, without_newest_by}
use Rattle.mg_generation_laws.specs.GarbageLaws.{BeginAlike, begin_alike, begins_so, both_empty, erased_all}
use Rattle.mg_generation_laws.specs.Kept.{IsErasedForAll, StandFor}
use Rattle.mg_image.specs.declared.entry.Entry.{Entry as Read}
use Rattle.mg_image.specs.Catalog.{IsSameTable, committed_with}
use Rattle.mg_image.specs.Form.{Pages, Row, packed_coding, packed_form}
use Rattle.mg_image.specs.ReadingLaws.{RowsAreOne}
use Rattle.mg_image.specs.RecordRules.{EachBack, Facts, table_in}
use Rattle.mg_image.specs.Records.{Reading, key_of, record_key, shown as shown_row, writer}
use Rattle.mg_image.specs.Sound.{IsSoundBy, facts_by}
use Rattle.mg_image.specs.Tables.{Layout, Stand, stands_of}
use Rattle.mg_image_overlay_laws.specs.records.Fronts.{is_dead}
use Rattle.mg_image_overlay_laws.specs.tables.TableOwners.{IsOneOf, has_stand}
use Rattle.mg_image_overlay_laws.specs.kept.KeptImages.{IsKept}
use Rattle.mg_overlay_laws.specs.Overlays.{left_by, left_state}
use Rattle.mg_pool.specs.Pool.{cache_of, shown}
use Rattle.mg_pool_overlay_laws.specs.Needs.{needs_by}
use Rattle.mg_seek.specs.Histories.{told_versions}
use Rattle.mg_lasting_laws.specs.Lasting.{Lasts}
use Rattle.mg_engine_step_laws.specs.standing.Bare.{IsBare}
use Rattle.mg_engine_step_laws.specs.standing.BareLaws.{bare_by, bare_has_found}
use Rattle.mg_engine_step_laws.specs.standing.Ending.{Dies, GoesWithTable, StaysRecord, VersionsDie}
use Rattle.mg_engine_step_laws.specs.standing.Following.{FollowsEntry, KeepsTables, OthersKeepTables, StandsOn}
use Rattle.mg_engine_step_laws.specs.standing.Standing.{FindsTables, HasFirstPage, IsSeenAs, ShowsHistory, Standing, Stands}
use Rattle.mg_engine_step_laws.specs.standing.Versions.{HaveVersions, IsRecordOf, SpeaksFor, SpeaksOrSilent, told_version}
use Rattle.mg_image_overlay_laws.specs.tables.OneTable.{one_table, stands_in, table_at_stands}
use Rattle.mg_engine_step_laws.specs.reads.TableAnswers.{shown_key}
use Rattle.mg_engine_step_laws.specs.commits.PageWrites.{AsksOtherwise}
use Rattle.mg_engine_step_laws.specs.commits.Idle.{RollbackLastsOn}
use Rattle.mg_engine_step_laws.specs.writes.GoesOn.{PoolIsKept}
use Rattle.mg_engine_meaning_laws.specs.AlikeTables.{versions_alike}
use Rattle.mg_engine_meaning_laws.specs.Falling.{Falls, HasAlike, alike, all_but, goes, read_alike, same_back, one_still, stays_unless}
use Rattle.mg_engine_step_laws.specs.tables.ChosenTables.{newest_changed, not_open}
use Rattle.mg_engine_meaning_laws.specs.Rollbacks.{RollbacksGoOn}
use Rattle.mg_engine_meaning_laws.specs.PlainTables.{HasPlainTables}
use Rattle.mg_image_overlay_laws.specs.tables.Growing.{IsTableOf}

-- ---- own changes, by the versions of a key

-- where no version stands for a key no open transaction has changed it
none_changed : (o : Opening) (h : Entries) (name : List ℕ) (key : Value) (u : ℕ)
    → is_open (state_of o h u) ≡ true → StandFor o h name key [] → has_change (own o h u) name key ≡ false
none_changed o h name key u open_ stand =
    stand.are.open_ u open_ ∙ at (begin_alike o h stand.all [] stand.thinned)
  where
    on : (gs : List Generation) → IsErasedForAll o h gs → (b : Bool) → is_newest_by u gs ≡ b
        → is_newest_by u gs ≡ false
    on gs gone false off = off
    on gs gone true newest = absurd (not_open o h u gs open_ gone newest)

    at : BeginAlike o h stand.all [] → is_newest_by u stand.all ≡ false
    at (begins_so g gs cs all_is chain_is) = absurd cc
    at (both_empty all_is chain_is) = ap (is_newest_by u) all_is
    at (erased_all gone chain_is) = on stand.all gone (is_newest_by u stand.all) refl

-- ---- first pages

first_page_named : (stands : List Stand) (name : List ℕ) (page : ℕ) → HasFirstPage stands name page
    → (x : Table) × (IsOneOf (map (λ stand. stand.table) stands) x × ((x.name ≡ name) × (x.pointer.0 ≡ page)))
first_page_named [] name page is = absurd is
first_page_named (s ∷ ss) name page (inl (named, first)) = (s.table, (inl refl, (named, first)))
first_page_named (s ∷ ss) name page (inr more) =
    let (x, (one, both)) = first_page_named ss name page more in (x, (inr one, both))

has_first_page : (stands : List Stand) (x : Table) (name : List ℕ) (page : ℕ)
    → IsOneOf (map (λ stand. stand.table) stands) x → x.name ≡ name → x.pointer.0 ≡ page
    → HasFirstPage stands name page
has_first_page [] x name page one named first = absurd one
has_first_page (s ∷ ss) x name page (inl same) named first = inl (
  ap (λ (y : Table). y.name) same ∙ named,
  ap (λ (y : Table). y.pointer.0) same ∙ first,
)
has_first_page (s ∷ ss) x name page (inr more) named first = inr (has_first_page ss x name page more named first)

-- ---- the pages

module _ (one : RowsAreOne packed_coding) (seen_law : SeenIsNotMade) (die : VersionsDie)
    (keep : OthersKeepTables) (size : ℕ) (o : Opening) (h : Entries) (e : Entry) (t : ℕ) (s new : Standing)
    (pages : Pages) (stands : Stands packed_form size o h s (Some pages)) (opening : MayBegin o)
    (legal : IsLegal o (e ∷ h)) (is : effect_of e ≡ Ends t Dead) (active : s.state t ≡ Active)
    (grows : CatalogGrows o h) (follows : FollowsEntry o h e s new) (plain : HasPlainTables size s.state pages)
    (kept : IsKept packed_form size o h (left_state (all_but t) (state_of o h)) pages pages) where
  shows : ShowsHistory packed_form size o h s pages
  shows = stands.shows

  abbrev before : ℕ → TxState
  before = left_state everyone s.state

  abbrev now : ℕ → TxState
  now = left_state everyone new.state

  was_active : state_of o h t ≡ Active
  was_active = sym (stands.memory.state t) ∙ active

  dead_now : new.state t ≡ Dead
  dead_now = follows.state t ∙ (ap (λ (f : Effect). state_after f t (s.state t)) is
      ∙ rw (eq-eqb t t refl) refl)

  others_now : (u : ℕ) → u ≢ t → new.state u ≡ s.state u
  others_now u ne = follows.state u ∙ (ap (λ (f : Effect). state_after f u (s.state u)) is
      ∙ rw (ne_eqb t u (λ same. ne (sym same))) refl)

  falls : Falls before now t
  falls = record {
    limbo = ap (left_by true) active;
    dead = ap (left_by true) dead_now;
    others = λ u ne. ap (left_by true) (others_now u ne);
  }

  now_is : (u : ℕ) → left_state (all_but t) (state_of o h) u ≡ now u
  now_is u = at (cases_eq u t)
    where
      at : (u ≡ t) ⊎ (u ≢ t) → left_by (not (u == t)) (state_of o h u) ≡ left_by true (new.state u)
      at (inl same) =
          let its : (u == t) ≡ true = eq-eqb u t same in
          let was : state_of o h u ≡ Active = ap (state_of o h) same ∙ was_active in
          let dead : new.state u ≡ Dead = ap new.state same ∙ dead_now in
          rw (its, was, dead) refl
      at (inr ne) =
          let other : (u == t) ≡ false = ne_eqb u t ne in
          let same : new.state u ≡ state_of o h u = others_now u ne ∙ stands.memory.state u in
          rw (other, same) refl

  abbrev a : Layout
  a = shows.layout

  abbrev b : Layout
  b = kept.layout

  abbrev r : Reading
  r = shows.reading

  abbrev q : Reading
  q = kept.reading

  second : IsSoundBy packed_form size now pages b q
  second = subst (λ (x : ℕ → TxState). IsSoundBy packed_form size x pages b q) (fun_ext now_is) kept.sound

  -- tables have the same indexes in both
  same_there : (x y : Table) → IsTableOf a x → IsTableOf b y → IsSameTable x y → x.indexes ≡ y.indexes
  same_there = plain.agree everyone (all_but t) a b r q shows.sound
      (subst (λ (x : ℕ → TxState). IsSoundBy packed_form size (left_state (all_but t) x) pages b q)
      (sym (fun_ext stands.memory.state)) kept.sound)

  abbrev f : Facts
  f = facts_by before pages a

  abbrev g : Facts
  g = facts_by now pages b

  -- ---- the versions

  -- the first layout's tables that stay
  abbrev merged : Option Table → Option Table → Option Table
  merged None x = None
  merged (Some y) x = x

  abbrev staying : Facts
  staying = record g { table_of = λ n. merged (g.table_of n) (f.table_of n) }

  to_alike : (n : ℕ) (y : Table) → g.table_of n ≡ Some y → HasAlike f n y
  to_alike n y of = alike packed_form one size before now t falls pages a b r q shows.sound second n y of

  none_read : (p : RecId) → table_in f p ≡ None → r p ≡ []
  none_read p none = shows.sound.records.outside p none

  backs : (p : RecId) → EachBack (λ v. f.state (writer v) ≡ Committed) (r p)
  backs p = at (table_in f p) refl
    where
      at : (x : Option Table) → table_in f p ≡ x → EachBack (λ v. f.state (writer v) ≡ Committed) (r p)
      at None none = subst (EachBack (λ v. f.state (writer v) ≡ Committed)) (sym (none_read p none)) tt
      at (Some x) of = (shows.sound.records.each p x of).backs

  records : (p : RecId) → StaysRecord f staying r q p ⊎ GoesWithTable f staying r t p
  records p = at (table_in g p) refl (table_in f p) refl
    where
      at : (y : Option Table) → table_in g p ≡ y → (x : Option Table) → table_in f p ≡ x
          → StaysRecord f staying r q p ⊎ GoesWithTable f staying r t p
      at (Some y) there x of = inl (record {
        table = ap (λ (z : Option Table). merged z (table_in f p)) there;
        versions = read_alike packed_form one size before now t falls pages a b r q shows.sound second p y there;
      })
      at None gone None none = inl (record {
        table = ap (λ (z : Option Table). merged z (table_in f p)) gone ∙ sym none;
        versions = second.records.outside p gone ∙ sym (none_read p none);
      })
      at None gone (Some x) of = inr (record {
        gone = ap (λ (z : Option Table). merged z (table_in f p)) gone;
        its = λ table is_table.
            let both : Some x ≡ Some table = sym of ∙ is_table in
            let same : x ≡ table = cc in
            subst (λ (z : Table). without_newest_by t (told_versions f.state z (r p)) ≡ []) same
            (goes packed_form one size before now t falls pages a b r q shows.sound second p x of gone);
      })

  dies : Dies f staying r q t
  dies = record {
    before = λ committed. let both : Limbo ≡ Committed = sym falls.limbo ∙ committed in absurd cc;
    dead = falls.dead;
    others = falls.others;
    backs = backs;
    records = records;
  }

  stay_versions : HaveVersions o (e ∷ h) staying q
  stay_versions = die o h e f staying r q t opening legal is dies shows.versions

  pub versions_now : HaveVersions o (e ∷ h) g q
  versions_now = versions_alike o (e ∷ h) staying g q refl to from stay_versions
    where
      to : (n : ℕ) (y : Table) → g.table_of n ≡ Some y → HasAlike staying n y
      to n y of =
          let it = to_alike n y of in
          record {
            its = it.its;
            there = ap (λ (z : Option Table). merged z (f.table_of n)) of ∙ it.there;
            same = it.same;
          }

      from : (n : ℕ) (x : Table) → staying.table_of n ≡ Some x → HasAlike g n x
      from n x of = at (g.table_of n) refl
        where
          at : (z : Option Table) → g.table_of n ≡ z → HasAlike g n x
          at None none =
              let both : None ≡ Some x = sym (ap (λ (z : Option Table). merged z (f.table_of n)) none) ∙ of in
              absurd cc
          at (Some y) there =
              let it = to_alike n y there in
              let first : f.table_of n ≡ Some x =
              sym (ap (λ (z : Option Table). merged z (f.table_of n)) there) ∙ of in
              let both : Some it.its ≡ Some x = sym it.there ∙ first in
              let same : it.its ≡ x = cc in
              record {
                its = y;
                there = there;
                same = same_back x y (subst (λ (z : Table). IsSameTable z y) same it.same);
              }

  -- ---- who finds its tables

  -- the row of a table that another active transaction sees is not the transaction's
  not_its : (u : ℕ) → state_of o h u ≡ Active → u ≢ t → (name : List ℕ) (row : Cells)
      → row_at (view o h u) catalog_name (table_key name) ≡ Some row → (p : RecId) (v : Read)
      (vs : List Read) (shown_ : Row) → table_in f p ≡ Some a.catalog.table → r p ≡ v ∷ vs
      → shown_row (committed_with f (λ w. true)) (r p) ≡ Some shown_
      → key_of a.catalog.table shown_ ≡ table_key name → writer v ≢ t
  not_its u active_u apart name row sees p v vs shown_ of first shows_it keyed its =
      at (shows.versions.others p a.catalog.table of)
    where
      cat : Table
      cat = a.catalog.table

      named : cat.name ≡ catalog_name
      named = ap (λ (x : Table). x.name) shows.sound.catalog

      key_is : record_key cat (r p) ≡ table_key name
      key_is = sym (shown_key f (committed_with f (λ w. true)) cat (record_key cat (r p)) (r p) shown_
          (shows.sound.records.each p cat of).each shows_it) ∙ keyed

      unmade : has_change (own o h t) catalog_name (table_key name) ≡ false
      unmade = seen_law o h t u (table_key name) row opening legal.1 grows (ap is_open was_active) active_u
          (λ same. apart (sym same)) sees

      alive : is_dead (f.state (writer v)) ≡ false
      alive = ap (λ (w : ℕ). is_dead (f.state w)) its ∙ ap is_dead falls.limbo

      told_is : told_versions f.state cat (r p) ≡ told_version cat v ∷ map (told_version cat) vs
      told_is = ap (told_versions f.state cat) first
          ∙ ap (λ (d : Bool). map (told_version cat) (if d then vs else v ∷ vs)) alive

      newest : is_newest_by t (told_versions f.state cat (r p)) ≡ true
      newest = ap (is_newest_by t) told_is ∙ eq-eqb (writer v) t its

      changed_ : StandFor o h cat.name (record_key cat (r p)) (told_versions f.state cat (r p)) → ⊥
      changed_ stand =
          let has_ = newest_changed o h cat.name (record_key cat (r p)) (told_versions f.state cat (r p)) t
          (ap is_open was_active) stand newest in
          let there : has_change (own o h t) catalog_name (table_key name) ≡ true =
          subst (λ (n : List ℕ). has_change (own o h t) n (table_key name) ≡ true) named
          (subst (λ (k : Value). has_change (own o h t) cat.name k ≡ true) key_is has_) in
          false≢true (sym unmade ∙ there)

      spoken : (x : Option RecId) → SpeaksFor o h f r cat.name (record_key cat (r p)) x → x ≡ Some p → ⊥
      spoken None none some = absurd cc
      spoken (Some p2) (its_record, stand) some =
          let same : p2 ≡ p = cc in
          on p2 same its_record stand
        where
          on : (p2 : RecId) → p2 ≡ p → (its_record : IsRecordOf f r cat.name (record_key cat (r p)) p2)
              → StandFor o h cat.name (record_key cat (r p)) (told_versions f.state its_record.table (r p2)) → ⊥
          on p2 same record_ stand =
              let both : Some record_.table ≡ Some cat = sym record_.of_table
              ∙ (ap (table_in f) same ∙ of) in
              let table_is : record_.table ≡ cat = cc in
              changed_ (subst (λ (x : Table). StandFor o h cat.name (record_key cat (r p))
              (told_versions f.state x (r p))) table_is (subst (λ (x : RecId). StandFor o h cat.name
              (record_key cat (r p)) (told_versions f.state record_.table (r x))) same stand))

      at : SpeaksOrSilent o h f r shows.versions.speaker p cat → ⊥
      at (inl empty) = let both : told_version cat v ∷ map (told_version cat) vs ≡ [] = sym told_is ∙ empty in
          absurd cc
      at (inr (inl gone)) = not_open o h t (told_versions f.state cat (r p)) (ap is_open was_active) gone newest
      at (inr (inr speaks)) = spoken (shows.versions.speaker cat.name (record_key cat (r p)))
          (shows.versions.speaks cat.name (record_key cat (r p))) speaks

  module _ (u : ℕ) (active_now : new.state u ≡ Active) where
    apart : u ≢ t
    apart same = let both : Active ≡ Dead = sym active_now ∙ (ap new.state same ∙ dead_now) in absurd cc

    active_then : s.state u ≡ Active
    active_then = sym (others_now u apart) ∙ active_now

    active_told : state_of o h u ≡ Active
    active_told = sym (stands.memory.state u) ∙ active_then

    keeps : KeepsTables o h e s new u
    keeps = keep o h e s new follows u (ap (λ (x : Effect). is_of u (doer x)) is
        ∙ ne_eqb t u (λ same. apart (sym same))) active_now

    finds : FindsTables o h s a u
    finds = shows.tables u active_then

    -- a table that it sees stays
    seen : (name : List ℕ) (table : Table) → new.table u name ≡ Some table
        → IsOneOf (map (λ stand. stand.table) b.tables) table
    seen name table some = on (finds.seen name table was)
      where
        was : s.table u name ≡ Some table
        was = sym (keeps.table name) ∙ some

        told_row : (x : Option Shape) → shape_seen o h u name ≡ x → IsSeenAs name x (Some table)
            → (table.name ≡ name) × ((row : Cells) × (row_at (view o h u) catalog_name (table_key name) ≡ Some row))
        told_row None none seen_as = absurd seen_as
        told_row (Some shape) seen_ seen_as = (seen_as.0, by (same_name name catalog_name) seen_)
          where
            row_by : (x : Option Cells) → shape_said (catalog_of (told o h) u) name x ≡ Some shape
                → row_at (view o h u) catalog_name (table_key name) ≡ x
                → (row : Cells) × (row_at (view o h u) catalog_name (table_key name) ≡ Some row)
            row_by None none is_row = absurd cc
            row_by (Some row) some_ is_row = (row, is_row)

            by : (c : Bool) → cond c None (shape_said (catalog_of (told o h) u) name
                (row_at (view o h u) catalog_name (table_key name))) ≡ Some shape
                → (row : Cells) × (row_at (view o h u) catalog_name (table_key name) ≡ Some row)
            by true none = absurd cc
            by false said = row_by (row_at (view o h u) catalog_name (table_key name)) said refl

        its_row : (table.name ≡ name)
            × ((row : Cells) × (row_at (view o h u) catalog_name (table_key name) ≡ Some row))
        its_row = told_row (shape_seen o h u name) refl
            (subst (IsSeenAs name (shape_seen o h u name)) was ((stands.memory.active u active_told).table name))

        on : IsOneOf (map (λ stand. stand.table) a.tables) table
            → IsOneOf (map (λ stand. stand.table) b.tables) table
        on one_ = one_still packed_form one size before now t falls pages a b r q shows.sound second same_there table one_
            (stays_unless packed_form one size before now t falls pages a b r q shows.sound second table one_
            (λ p v vs row of first shows_it keyed. not_its u active_told apart name its_row.1.0 its_row.1.1 p v vs row of
            first shows_it (keyed ∙ ap table_key its_row.0)))

    -- and one that it has changed stays where it was
    changed : (name : List ℕ) (key : Value) → has_change (own o (e ∷ h) u) name key ≡ true
        → HasFirstPage (stands_of b) name (new.number u name)
    changed name key has_ = subst (λ (n : List ℕ → ℕ). HasFirstPage (stands_of b) name (n name)) (sym keeps.number)
        (at (versions_now.speaker name key) (versions_now.speaks name key))
      where
        open_now : is_open (state_of o (e ∷ h) u) ≡ true
        open_now = ap is_open (ap (λ (x : Effect). state_after x u (state_of o h u)) is
            ∙ (rw (ne_eqb t u (λ same. apart (sym same))) refl ∙ active_told))

        it : (x : Table) × (IsOneOf (map (λ stand. stand.table) (stands_of a)) x
            × ((x.name ≡ name) × (x.pointer.0 ≡ s.number u name)))
        it = first_page_named (stands_of a) name (s.number u name) (finds.changed name key
            (ap (λ (cs : List Change). has_change cs name key) (sym keeps.own_same) ∙ has_))

        at : (x : Option RecId) → SpeaksFor o (e ∷ h) g q name key x
            → HasFirstPage (stands_of b) name (s.number u name)
        at None none = absurd (false≢true (sym (none_changed o (e ∷ h) name key u open_now none) ∙ has_))
        at (Some p) (its, stand) =
            let from = to_alike p.page.0 its.table its.of_table in
            let same : from.its ≡ it.0 = one_table packed_form size before pages a r shows.sound from.its it.0
            (table_at_stands a p.page.0 from.its from.there) (stands_in a it.0 it.1.0)
            (from.same.name ∙ (its.named ∙ sym it.1.1.0)) in
            has_first_page (stands_of b) its.table name (s.number u name)
            (has_stand (stands_of b) p.page.0 its.table its.of_table) its.named
            (ap (λ (x : _). x.0) (sym from.same.pointer)
            ∙ (ap (λ (x : Table). x.pointer.0) same ∙ it.1.1.1))

    found : FindsTables o (e ∷ h) new b u
    found = record { seen = seen; changed = changed }

  bare_now : IsBare b
  bare_now = bare_by b (λ its there. (plain.each (all_but t) b q
      (subst (λ (x : ℕ → TxState). IsSoundBy packed_form size (left_state (all_but t) x) pages b q)
      (sym (fun_ext stands.memory.state)) kept.sound) its there).no_index)

  pub shows_now : ShowsHistory packed_form size o (e ∷ h) new pages
  shows_now = record {
    layout = b;
    reading = q;
    sound = second;
    next = shows.next ∙ (sym (ap (λ (x : Effect). next_after x s.next) is) ∙ sym follows.next);
    versions = versions_now;
    tables = found;
    found = bare_has_found packed_form size now pages b q second bare_now new.state new.live;
    bare = bare_now;
  }

-- ---- the engine

pub rollbacks_go_on : (D L : Type 0) (m : Meaning D) → RowsAreOne packed_coding → SeenIsNotMade → VersionsDie
    → OthersKeepTables → OpeningsBegin → PoolIsKept packed_form D L → RollbackLastsOn D L m packed_form
    → AsksOtherwise D L m packed_form → StandsOn packed_form → RollbacksGoOn D L m
rollbacks_go_on D L m one seen_law die keep begins pool_kept rollback_lasts otherwise stands_on o h e t s new
    pool i asked now_asked session now_session stands lasts is_pool held grows plain lawful passing no_failure is
    active keep_asking follows = (
      stands_on pool.geometry.size o h e s new (Some (shown pool.dirty i)) (Some (shown pool.dirty i)) stands
          lawful follows (shows_now one seen_law die keep pool.geometry.size o h e t s new (shown pool.dirty i)
          stands opening (lawful, stands.legal) is active grows follows plain kept),
      otherwise o (e ∷ h) pool asked now_asked session now_session keep_asking
          (rollback_lasts o h e t pool asked session passing no_failure is
          (sym (stands.memory.state t) ∙ active) lasts),
    )
  where
    opening : MayBegin o
    opening = begins o stands.opening

    image_is : lasts.image ≡ i
    image_is = let both : Some lasts.image ≡ Some i = sym lasts.held ∙ held in cc

    were : Lasts packed_form pool.geometry.size o h (cache_of pool.dirty pool.graph i) asked
        (needs_by asked session pool.dirty)
    were = subst (λ (n : ℕ). Lasts packed_form n o h (cache_of pool.dirty pool.graph i) asked
        (needs_by asked session pool.dirty)) is_pool.page_size
        (subst (λ (k : Image). Lasts packed_form pool.dirty.size o h (cache_of pool.dirty pool.graph k) asked
        (needs_by asked session pool.dirty)) image_is lasts.lasts)

    kept : IsKept packed_form pool.geometry.size o h (left_state (all_but t) (state_of o h)) (shown pool.dirty i)
        (shown pool.dirty i)
    kept = pool_kept pool.geometry.size o h (state_of o h) asked session pool i (all_but t) were.every
