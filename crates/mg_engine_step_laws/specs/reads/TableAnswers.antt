-- The rows of the catalog that a transaction sees say the tables that the history tells.
use Rattle.std.proofs.Common.{◌≡◌, ◌≢◌, ◌⊎◌, inl, inr, refl, sym, ap, ◌∙◌, subst, ℕ, Bool, true, false, ◌&&◌, ◌==◌, ◌||◌, List, [], ◌∷◌, Option, None, Some, cond}
use Rattle.std.specs.Prelude.{if◌then◌else◌, map}
use Rattle.std.specs.Cmp.Lexicographic.{same_text}
use Rattle.std.specs.Str.{bytes_eq}
use Rattle.std.proofs.lemmas.Bool.{false≢true, ne_eqb}
use Rattle.mg_base.specs.declared.numbers.RecId.{RecId}
use Rattle.mg_base.specs.declared.numbers.TxNo.{TxNo}
use Rattle.mg_base.specs.declared.transaction.TxState.{TxState}
use Rattle.mg_base.specs.declared.transaction.TxState.TheVariants.{Active, Committed, Dead, Limbo}
use Rattle.mg_value.specs.declared.shape.Shape.{Shape}
use Rattle.mg_value.specs.declared.value.Value.{Value}
use Rattle.mg_model.specs.declared.opening.Opening.{Opening}
use Rattle.mg_model.specs.declared.table.Table.{Table}
use Rattle.mg_model.specs.Answers.{catalog_of, is_active, is_committed, told}
use Rattle.mg_model.specs.Catalog.{catalog_name, catalog_shape, shape_in, shape_said, table_key, told_cells, told_if_there}
use Rattle.mg_model.specs.CatalogRules.{AreTables, EachTable, HasTableOf, IsTable}
use Rattle.mg_model.specs.Changes.{row_at, same_key, same_name}
use Rattle.mg_model.specs.History.{Entries}
use Rattle.mg_model.specs.Legal.{IsLegal, MayBegin}
use Rattle.mg_model.specs.Machine.{state_of, view}
use Rattle.mg_model.specs.Openings.{everyone}
use Rattle.mg_catalog.specs.LawfulLaws.{table_row_of}
use Rattle.mg_catalog.specs.ByKey.{by_key, row_key}
use Rattle.mg_catalog.specs.KeyLaws.{keys_equal, same_key_self}
use Rattle.mg_records.specs.Reading.{shape_seen}
use Rattle.mg_generation_laws.specs.Kept.{IsErasedForAll}
use Rattle.mg_chain.specs.Chains.{newest_link, takes_version}
use Rattle.mg_snap.specs.Live.{sees}
use Rattle.mg_image.specs.declared.entry.Entry.{Entry}
use Rattle.mg_image.specs.Form.{Pages, Row, packed_coding}
use Rattle.mg_image.specs.Held.{told_row}
use Rattle.mg_image.specs.RecordRules.{Each, Facts, IsVersion, table_in}
use Rattle.mg_image.specs.Records.{Chain, Reading, cells_of, key_of, record_key, shown, writer}
use Rattle.mg_image_overlay_laws.specs.records.Fronts.{is_dead, living}
use Rattle.mg_image_opening_laws.specs.Catalogs.{shape_named}
use Rattle.mg_image_opening_laws.specs.Told.{shape_told}
use Rattle.mg_overlay_laws.specs.Overlays.{left_state}
use Rattle.mg_image_overlay_laws.specs.tables.Growing.{IsTableOf}
use Rattle.mg_image_overlay_laws.specs.tables.OneTable.{stands_in}
use Rattle.mg_seek.specs.Readings.{RowsOfReadings}
use Rattle.mg_seek.specs.Histories.{HasSpeaker}
use Rattle.mg_seek.specs.TableRecords.{IsAmong, records_in}
use Rattle.mg_seek.specs.TableRows.{AreSeen, FindsNamed, with_row}
use Rattle.mg_seek.specs.Views.{IsRowSeen}
use Rattle.mg_engine_step_laws.specs.standing.Standing.{IsSeenAs, Standing}
use Rattle.mg_engine_step_laws.specs.standing.Versions.{SpeaksFor, SpeaksOrSilent, told_version}
use Rattle.mg_engine_step_laws.specs.standing.Known.{IsShown, KnowsPages, catalog_is_shown, die_alike, facts_shown, speaker_of}
use Rattle.mg_engine_step_laws.specs.reads.KeyAnswers.{has_speaker, read_at}
use Rattle.mg_engine_step_laws.specs.reads.AnswersLaws.{NothingAtKeys, RowsAtKeys}
use Rattle.mg_engine_step_laws.specs.standing.Listed.{is_listed, page_listed}
use Rattle.mg_engine_step_laws.specs.reads.Tables.{TablesAreTold}
use Rattle.mg_engine_step_laws.specs.tables.TablePages.{data_there, table_there}
use Rattle.mg_heap.specs.TableLaws.{table_once}

-- ---- a record that shows a row speaks

-- versions that do not count show nothing
pub shown_living : (f : Facts) (counts : ℕ → Bool)
    → ((u : ℕ) → is_dead (f.state u) ≡ true → counts u ≡ false) → (es : List Entry)
    → shown counts es ≡ shown counts (living f.state es)
shown_living f counts dead [] = refl
shown_living f counts dead (e ∷ es) = at (is_dead (f.state (writer e))) refl
  where
    at : (b : Bool) → is_dead (f.state (writer e)) ≡ b
        → shown counts (e ∷ es) ≡ shown counts (cond b es (e ∷ es))
    at true gone = rw (dead (writer e) gone) refl
    at false alive = refl

-- the key of a shown row is the record's
pub shown_key : (f : Facts) (counts : ℕ → Bool) (table : Table) (key : Value) (es : List Entry) (row : Row)
    → Each (IsVersion packed_coding f table key) es → shown counts es ≡ Some row → key_of table row ≡ key
shown_key f counts table key [] row each is = absurd cc
shown_key f counts table key (e ∷ es) row each is = at (counts (writer e)) e.version.deleted is
    (λ more. shown_key f counts table key es row each.1 more)
  where
    at : (b d : Bool) → cond b (cond d None (Some e.row)) (shown counts es) ≡ Some row
        → (shown counts es ≡ Some row → key_of table row ≡ key) → key_of table row ≡ key
    at true true none more = absurd cc
    at true false some more = let same : e.row ≡ row = cc in ap (key_of table) (sym same) ∙ each.0.keyed
    at false d later more = more later

module _ (rows_law : RowsOfReadings) (rows_at : RowsAtKeys) (nothing : NothingAtKeys) (size : ℕ)
    (o : Opening) (h : Entries) (s : Standing) (pages : Pages) (knows : KnowsPages size o h s pages)
    (t : TxNo) (opening : MayBegin o) (legal : IsLegal o h) (active : state_of o h t.0 ≡ Active) where
  abbrev f : Facts
  f = facts_shown size o h s pages knows

  abbrev r : Reading
  r = knows.shows.reading

  abbrev cat : Table
  cat = knows.shows.layout.catalog.table

  abbrev counts : ℕ → Bool
  counts = takes_version s.state s.live t.0

  named : cat.name ≡ catalog_name
  named = ap (λ (x : Table). x.name) knows.shows.sound.catalog

  shown_cat : IsShown knows.shows.layout cat
  shown_cat = catalog_is_shown knows.shows.layout

  cat_stands : IsTableOf knows.shows.layout cat
  cat_stands = stands_in knows.shows.layout cat (inl refl)

  dead_off : (u : ℕ) → is_dead (f.state u) ≡ true → counts u ≡ false
  dead_off u dead = at (s.state u) refl
    where
      gone : is_dead (s.state u) ≡ true
      gone = ap is_dead (knows.memory.state u) ∙ (sym (die_alike size o h s pages knows u) ∙ dead)

      at : (x : TxState) → s.state u ≡ x → counts u ≡ false
      at Dead is =
          let other : (u == t.0) ≡ false = ne_eqb u t.0 (λ same.
          let both : Active ≡ Dead = sym (knows.memory.state t.0 ∙ active) ∙ (ap s.state (sym same) ∙ is) in
          absurd cc) in rw (other, is) refl
      at Active is = absurd (false≢true (ap is_dead (sym is) ∙ gone))
      at Limbo is = absurd (false≢true (ap is_dead (sym is) ∙ gone))
      at Committed is = absurd (false≢true (ap is_dead (sym is) ∙ gone))

  -- whom all active ones see, this one sees
  counts_seen : (u : ℕ) → state_of o h u ≡ Committed → (told o h).saw t.0 u ≡ true → counts u ≡ true
  counts_seen u committed saw =
      let base = knows.memory.live.base t.0 u active in
      let both : (is_committed (s.state u) && sees s.live t.0 u) ≡ true =
      ap (λ (x : TxState). is_committed x && sees s.live t.0 u) (knows.memory.state u) ∙ (base ∙ saw) in
      rw both (either (u == t.0))
    where
      either : (b : Bool) → (b || true) ≡ true
      either true = refl
      either false = refl

  pub shows_speaks : (rec : RecId) (row : Row) → table_in f rec ≡ Some cat → shown counts (r rec) ≡ Some row
      → speaker_of size o h s pages knows cat.name (key_of cat row) ≡ Some rec
  shows_speaks rec row of shows = at (knows.shows.versions.others rec cat of)
    where
      alive : shown counts (living f.state (r rec)) ≡ Some row
      alive = sym (shown_living f counts dead_off (r rec)) ∙ shows

      at : SpeaksOrSilent o h f r knows.shows.versions.speaker rec cat
          → speaker_of size o h s pages knows cat.name (key_of cat row) ≡ Some rec
      at (inr (inr speaks)) = ap (knows.shows.versions.speaker cat.name)
          (shown_key f counts cat (record_key cat (r rec)) (r rec) row
          (knows.shows.sound.records.each rec cat of).each shows) ∙ speaks
      at (inl empty) = none (living f.state (r rec)) empty alive
        where
          none : (es : List Entry) → map (told_version cat) es ≡ [] → shown counts es ≡ Some row
              → speaker_of size o h s pages knows cat.name (key_of cat row) ≡ Some rec
          none [] is some = absurd cc
          none (e ∷ es) is some = absurd cc
      at (inr (inl erased)) = gone (living f.state (r rec)) erased alive
        where
          gone : (es : List Entry) → IsErasedForAll o h (map (told_version cat) es) → shown counts es ≡ Some row
              → speaker_of size o h s pages knows cat.name (key_of cat row) ≡ Some rec
          gone [] is some = absurd is
          gone (e ∷ es) is some = by e.version.deleted is.1 some
            where
              counted : counts (writer e) ≡ true
              counted = counts_seen (writer e) is.0.committed (is.0.saw t.0 (ap is_active active))

              by : (d : Bool) → cond d None (Some (told_row cat e.row)) ≡ None
                  → cond (counts (writer e)) (cond d None (Some e.row)) (shown counts es) ≡ Some row
                  → speaker_of size o h s pages knows cat.name (key_of cat row) ≡ Some rec
              by true none_ some_ =
                  let nothing_ : None ≡ Some row = subst (λ (b : Bool).
                  cond b None (shown counts es) ≡ Some row) counted some_ in absurd cc
              by false none_ some_ = absurd cc

  -- ---- the rows that are seen

  row_law : (rec : RecId) (row : Option Row) → table_in f rec ≡ Some cat
      → IsRowSeen s.state s.live t pages cat rec row → row ≡ shown counts (r rec)
  row_law rec row of seen = rows_law s.state s.live t pages cat rec row f r
      (read_at size o h s pages knows cat rec of) seen

  -- the catalog's key stands first in its rows
  key_is : (row : Row) → key_of cat row ≡ row_key row
  key_is row = ap (λ (x : Table). key_of x row) knows.shows.sound.catalog

  -- A row is that of one of some records, with this key.
  pub record IsRowOf (recs : List RecId) (key : Value) (row : Row) : Type 0 where
    pub rec : RecId
    pub among : IsAmong recs rec
    pub seen : IsRowSeen s.state s.live t pages cat rec (Some row)
    pub keyed : key_of cat row ≡ key

  -- the row with a key among those that are seen
  row_found : (recs : List RecId) (rows : List Row) (key : Value) (row : Row)
      → AreSeen s.state s.live t pages cat recs rows → by_key rows key ≡ Some row
      → IsRowOf recs key row
  row_found [] rows key row seen is =
      let none : None ≡ Some row = ap (λ (xs : List Row). by_key xs key) (sym seen) ∙ is in absurd cc
  row_found (rec ∷ recs) rows key row (found, later, here, rest, are) is =
      at found here (subst (λ (xs : List Row). by_key xs key ≡ Some row) are is)
      (λ more. row_found recs later key row rest more)
    where
      further : IsRowOf recs key row → IsRowOf (rec ∷ recs) key row
      further it = record { rec = it.rec; among = inr it.among; seen = it.seen; keyed = it.keyed }

      at : (x : Option Row) → IsRowSeen s.state s.live t pages cat rec x
          → by_key (with_row x later) key ≡ Some row
          → (by_key later key ≡ Some row → IsRowOf recs key row) → IsRowOf (rec ∷ recs) key row
      at None seen_ is_ more = further (more is_)
      at (Some first) seen_ is_ more = by (same_key (row_key first) key) refl is_
        where
          by : (b : Bool) → same_key (row_key first) key ≡ b
              → cond b (Some first) (by_key later key) ≡ Some row → IsRowOf (rec ∷ recs) key row
          by true same some =
              let it : first ≡ row = cc in
              record {
                rec = rec;
                among = inl refl;
                seen = subst (λ (x : Row). IsRowSeen s.state s.live t pages cat rec (Some x)) it seen_;
                keyed = ap (key_of cat) (sym it) ∙ (key_is first ∙ keys_equal (row_key first) key same);
              }
          by false other some = further (more some)

  -- where there is none with a key, no record shows one
  none_found : (recs : List RecId) (rows : List Row) (key : Value)
      → AreSeen s.state s.live t pages cat recs rows → by_key rows key ≡ None → (rec : RecId)
      → IsAmong recs rec → (row : Row) → ((x : RecId) → IsAmong recs x → table_in f x ≡ Some cat)
      → shown counts (r rec) ≡ Some row → key_of cat row ≡ key → ⊥
  none_found [] rows key seen is rec among row of shows keyed = among
  none_found (first ∷ recs) rows key (found, later, here, rest, are) is rec among row of shows keyed =
      at (subst (λ (xs : List Row). by_key xs key ≡ None) are is) among
      (λ none_later more. none_found recs later key rest none_later rec more row
      (λ y among_. of y (inr among_)) shows keyed)
    where
      behind : (y : Option Row) → by_key (with_row y later) key ≡ None → by_key later key ≡ None
      behind None none = none
      behind (Some its) none = by (same_key (row_key its) key) none
        where
          by : (b : Bool) → cond b (Some its) (by_key later key) ≡ None → by_key later key ≡ None
          by true some = absurd cc
          by false none_ = none_

      at : by_key (with_row found later) key ≡ None → (first ≡ rec) ⊎ IsAmong recs rec
          → (by_key later key ≡ None → IsAmong recs rec → ⊥) → ⊥
      at is_ (inr more) later_none = later_none (behind found is_) more
      at is_ (inl same) later_none =
          let its : found ≡ Some row = row_law first found (of first (inl refl)) here
          ∙ (ap (λ (y : RecId). shown counts (r y)) same ∙ shows) in
          let now : by_key (row ∷ later) key ≡ None =
          subst (λ (z : Option Row). by_key (with_row z later) key ≡ None) its is_ in
          let its_key : same_key (row_key row) key ≡ true =
          ap (same_key (row_key row)) (sym keyed ∙ key_is row) ∙ same_key_self (row_key row) in
          let there : by_key (row ∷ later) key ≡ Some row = rw its_key refl in
          let both : Some row ≡ None = sym there ∙ now in absurd cc

  -- each of the records has its row
  seen_of : (recs : List RecId) (rows : List Row) (rec : RecId)
      → AreSeen s.state s.live t pages cat recs rows → IsAmong recs rec
      → (row : Option Row) × IsRowSeen s.state s.live t pages cat rec row
  seen_of [] rows rec seen among = absurd among
  seen_of (first ∷ recs) rows rec (found, later, here, rest, are) (inl same) =
      (found, subst (λ (y : RecId). IsRowSeen s.state s.live t pages cat y found) same here)
  seen_of (first ∷ recs) rows rec (found, later, here, rest, are) (inr more) =
      seen_of recs later rec rest more

  -- ---- they are the view's

  module _ (recs : List RecId) (rows : List Row) (seen : AreSeen s.state s.live t pages cat recs rows)
      (all : (rec : RecId) (e : Entry) (es : List Entry) → table_in f rec ≡ Some cat
      → r rec ≡ e ∷ es → IsAmong recs rec)
      (of_all : (rec : RecId) → IsAmong recs rec → table_in f rec ≡ Some cat) where
    told_is : (row : Row) → told_row cat row ≡ told_cells row
    told_is row = ap (λ (n : List ℕ). if bytes_eq n catalog_name then told_cells row else row) named

    rows_told : (key : Value) → catalog_of (told o h) t.0 key ≡ told_if_there (by_key rows key)
    rows_told key = ap (λ (n : List ℕ). row_at (view o h t.0) n key) (sym named) ∙ at (by_key rows key) refl
      where
        spoken : Option RecId
        spoken = speaker_of size o h s pages knows cat.name key

        has : HasSpeaker o h f r cat key spoken
        has = has_speaker size o h s pages knows cat cat_stands key

        silent : by_key rows key ≡ None → (x : Option RecId) → spoken ≡ x
            → row_at (view o h t.0) cat.name key ≡ None
        silent is None none = (nothing o h cat.name key t.0 opening legal (has.none none) active).0
        silent is (Some rec) some = on (r rec) refl
          where
            of : table_in f rec ≡ Some cat
            of = (has.some rec some).0

            spoke : SpeaksFor o h f r cat.name key (Some rec)
            spoke = subst (SpeaksFor o h f r cat.name key) some (knows.shows.versions.speaks cat.name key)

            on : (es : List Entry) → r rec ≡ es → row_at (view o h t.0) cat.name key ≡ None
            on [] empty = absurd (spoke.0.some empty)
            on (e ∷ es) are_ = by its.0 its.1 (row_law rec its.0 of its.1)
              where
                among : IsAmong recs rec
                among = all rec e es of are_

                its : (row : Option Row) × IsRowSeen s.state s.live t pages cat rec row
                its = seen_of recs rows rec seen among

                by : (x : Option Row) → IsRowSeen s.state s.live t pages cat rec x
                    → x ≡ shown counts (r rec) → row_at (view o h t.0) cat.name key ≡ None
                by None here none_ = rows_at size o h s pages knows cat key rec t None shown_cat some active here
                by (Some row) here shows = absurd (none_found recs rows key seen is rec among row of_all
                    (sym shows) (shown_key f counts cat (record_key cat (r rec)) (r rec) row
                    (knows.shows.sound.records.each rec cat of).each (sym shows) ∙ (has.some rec some).1))

        at : (x : Option Row) → by_key rows key ≡ x
            → row_at (view o h t.0) cat.name key ≡ told_if_there (by_key rows key)
        at None is = silent is spoken refl ∙ ap told_if_there (sym is)
        at (Some row) is =
            let it = row_found recs rows key row seen is in
            let of = of_all it.rec it.among in
            let shows : shown counts (r it.rec) ≡ Some row = sym (row_law it.rec (Some row) of it.seen) in
            let speaks : spoken ≡ Some it.rec = subst (λ (k : Value).
            speaker_of size o h s pages knows cat.name k ≡ Some it.rec) it.keyed
            (shows_speaks it.rec row of shows) in
            let sees_it : row_at (view o h t.0) cat.name key ≡ Some (told_row cat row) =
            rows_at size o h s pages knows cat key it.rec t (Some row) shown_cat speaks active it.seen in
            sees_it ∙ (ap Some (told_is row) ∙ ap told_if_there (sym is))

    -- ---- the table of a name

    module _ (tables : List Table) (name : List ℕ) (are : AreTables (by_key rows) tables) where
      shapes : shape_in (catalog_of (told o h) t.0) name ≡ shape_in (by_key rows) name
      shapes = shape_told (catalog_of (told o h) t.0) (by_key rows) are.lawful rows_told name

      -- one that is found is told
      told_table : (table : Table) → table.name ≡ name → IsTable (by_key rows) table
          → shape_seen o h t.0 name ≡ Some table.shape
      told_table table same is = at (same_name name catalog_name) refl
        where
          stored : shape_in (by_key rows) name ≡ Some table.shape
          stored = ap (shape_in (by_key rows)) (sym same) ∙ shape_named (by_key rows) are.lawful table is

          apart : name ≢ catalog_name
          apart catalog = (table_row_of (by_key rows) table.name is.row
              (are.lawful (table_key table.name) is.row is.there)).other (same ∙ catalog)

          at : (b : Bool) → same_name name catalog_name ≡ b → shape_seen o h t.0 name ≡ Some table.shape
          at true yes_ = absurd (apart (same_text name catalog_name (sym yes_)))
          at false no_ =
              let both : shape_in (catalog_of (told o h) t.0) name ≡ Some table.shape = shapes ∙ stored in
              rw no_ (subst (λ (b : Bool). cond b (Some catalog_shape) (shape_said (catalog_of (told o h) t.0) name
              (catalog_of (told o h) t.0 (table_key name))) ≡ Some table.shape) no_ both)

      -- where none is found, none is told
      none_told : (HasTableOf tables name → ⊥) → shape_seen o h t.0 name ≡ None
      none_told none = at (same_name name catalog_name) (by_key rows (table_key name)) refl
        where
          at : (b : Bool) (x : Option Row) → by_key rows (table_key name) ≡ x
              → cond b None (shape_said (catalog_of (told o h) t.0) name
              (catalog_of (told o h) t.0 (table_key name))) ≡ None
          at true x is = refl
          at false None is = ap (shape_said (catalog_of (told o h) t.0) name)
              (rows_told (table_key name) ∙ ap told_if_there is)
          at false (Some row) is = absurd (none (are.whole name row is))

      found_told : (ts : List Table) (found : Option Table) → EachTable (IsTable (by_key rows)) ts
          → FindsNamed ts name found
          → ((found ≡ None) × (HasTableOf ts name → ⊥))
          ⊎ ((table : Table) × (found ≡ Some table) × (table.name ≡ name) × IsTable (by_key rows) table)
      found_told [] found each finds = inl (finds, (λ has. has))
      found_told (first ∷ ts) found each (inl (same, is)) = inr (first, is, same, each.0)
      found_told (first ∷ ts) found each (inr (other, later)) =
          at (found_told ts found each.1 later)
        where
          at : ((found ≡ None) × (HasTableOf ts name → ⊥))
              ⊎ ((table : Table) × (found ≡ Some table) × (table.name ≡ name)
              × IsTable (by_key rows) table)
              → ((found ≡ None) × (HasTableOf (first ∷ ts) name → ⊥))
              ⊎ ((table : Table) × (found ≡ Some table) × (table.name ≡ name)
              × IsTable (by_key rows) table)
          at (inl (none, no_one)) = inl (none, none_of)
            where
              none_of : HasTableOf (first ∷ ts) name → ⊥
              none_of (inl same) = other same
              none_of (inr more) = no_one more
          at (inr it) = inr it

      pub name_told : (found : Option Table) → FindsNamed tables name found
          → IsSeenAs name (shape_seen o h t.0 name) found
      name_told found finds = at (found_told tables found are.each finds)
        where
          at : ((found ≡ None) × (HasTableOf tables name → ⊥))
              ⊎ ((table : Table) × (found ≡ Some table) × (table.name ≡ name)
              × IsTable (by_key rows) table)
              → IsSeenAs name (shape_seen o h t.0 name) found
          at (inl (none, no_one)) = subst (λ (x : Option Table). IsSeenAs name (shape_seen o h t.0 name) x)
              (sym none) (subst (λ (x : Option Shape). IsSeenAs name x None) (sym (none_told no_one)) tt)
          at (inr (table, some, same, is)) = subst (λ (x : Option Table).
              IsSeenAs name (shape_seen o h t.0 name) x) (sym some)
              (subst (λ (x : Option Shape). IsSeenAs name x (Some table)) (sym (told_table table same is))
              (same, refl))

-- ---- the law

pub tables_told : RowsOfReadings → RowsAtKeys → NothingAtKeys → TablesAreTold
tables_told rows_law rows_at nothing size o h s pages knows t name found opening legal active seen =
    name_told rows_law rows_at nothing size o h s pages knows t opening legal active seen.seen.records seen.rows
    seen.seen.seen all of_all seen.names.0 name seen.names.1 found seen.names.2
  where
    facts : Facts
    facts = facts_shown size o h s pages knows

    catalog : Table
    catalog = knows.shows.layout.catalog.table

    stands : IsTableOf knows.shows.layout catalog
    stands = stands_in knows.shows.layout catalog (inl refl)

    pages_are : seen.seen.records ≡ records_in pages stands.stand.data_pages
    pages_are = seen.seen.of_table.are ∙ ap (records_in pages) (table_once pages catalog.pointer.0
        seen.seen.of_table.pointers seen.seen.of_table.data_pages stands.stand.pointers
        stands.stand.data_pages seen.seen.of_table.table
        (table_there size (left_state everyone s.state) pages knows.shows.layout knows.shows.reading
        knows.shows.sound catalog stands))

    all : (rec : RecId) (e : Entry) (es : List Entry) → table_in facts rec ≡ Some catalog
        → knows.shows.reading rec ≡ e ∷ es → IsAmong seen.seen.records rec
    all rec e es of some = subst (λ (xs : List RecId). IsAmong xs rec) (sym pages_are)
        (is_listed pages stands.stand.data_pages rec e es
        ((data_there size (left_state everyone s.state) pages knows.shows.layout knows.shows.reading
        knows.shows.sound catalog stands rec.page.0).0 of)
        (subst (Chain (cells_of pages) (newest_link pages rec)) some
        (knows.shows.sound.records.reads rec catalog of)))

    of_all : (rec : RecId) → IsAmong seen.seen.records rec → table_in facts rec ≡ Some catalog
    of_all rec among = (data_there size (left_state everyone s.state) pages knows.shows.layout
        knows.shows.reading knows.shows.sound catalog stands rec.page.0).1
        (page_listed pages stands.stand.data_pages rec
        (subst (λ (xs : List RecId). IsAmong xs rec) pages_are among))
