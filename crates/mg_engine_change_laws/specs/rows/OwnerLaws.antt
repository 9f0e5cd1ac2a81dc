-- A table that a transaction sees it may write into: a committed row of the catalog names it, or the row is its own.
use Rattle.std.proofs.Common.{◌≡◌, ◌≢◌, ◌⊎◌, inl, inr, ◌&&◌, ◌||◌, ◌++◌, cond, ℕ, Bool, true, false, List, [], ◌∷◌, Option, None, Some, refl, sym, ap, ◌∙◌, subst}
use Rattle.std.specs.Prelude.{if◌then◌else◌, map}
use Rattle.std.proofs.Math.Path.{fun_ext}
use Rattle.mg_model.specs.ReadLaws.{same_name_itself}
use Rattle.std.proofs.lemmas.Bool.{cases_eq, eq-eqb, eqb-true, false≢true}
use Rattle.mg_base.specs.declared.numbers.RecId.{RecId}
use Rattle.mg_base.specs.declared.transaction.TxState.{TxState}
use Rattle.mg_base.specs.declared.transaction.TxState.TheVariants.{Active, Committed, Dead, Limbo}
use Rattle.mg_value.specs.declared.shape.Shape.{Shape}
use Rattle.mg_value.specs.declared.value.Value.{Value}
use Rattle.mg_grown_catalog_laws.specs.Grown.{CatalogGrows, SeenIsNotMade}
use Rattle.mg_image_overlay_laws.specs.tables.Growing.{IsTableOf}
use Rattle.mg_generation_laws.specs.Generations.{Generation, is_newest_by}
use Rattle.mg_generation_laws.specs.GarbageLaws.{BeginAlike, begin_alike, begins_so, both_empty, erased_all}
use Rattle.mg_generation_laws.specs.Kept.{IsErasedForAll, StandFor}
use Rattle.mg_image.specs.Catalog.{committed_with}
use Rattle.mg_image.specs.Form.{Pages, Row, packed_coding, packed_form}
use Rattle.mg_image.specs.Held.{Shows}
use Rattle.mg_image.specs.ReadingLaws.{RowsAreOne}
use Rattle.mg_image.specs.RecordRules.{Each, EachBack, Facts, IsInLimbo, TakesKey, committed_in, table_in}
use Rattle.mg_image.specs.Records.{Reading, key_of, record_key, shown, writer}
use Rattle.mg_image.specs.Sound.{facts_by}
use Rattle.mg_image.specs.Tables.{EachStand, Layout, stands_of}
use Rattle.mg_image.specs.declared.entry.Entry.{Entry}
use Rattle.mg_image_overlay_laws.specs.records.Fronts.{is_dead}
use Rattle.mg_image_overlay_laws.specs.tables.TableOwners.{IsOneOf, one_each}
use Rattle.mg_image_overlay_laws.specs.kept.KeptImages.{IsKept}
use Rattle.mg_model.specs.Answers.{catalog_of, is_committed, is_open, told}
use Rattle.mg_model.specs.Catalog.{CatalogRows, catalog_name, shape_said, table_key}
use Rattle.mg_model.specs.CatalogRules.{IsTable}
use Rattle.mg_model.specs.Changes.{Cells, has_change, row_at, same_name}
use Rattle.mg_model.specs.History.{Entries}
use Rattle.mg_model.specs.Laws.{OpeningsBegin}
use Rattle.mg_model.specs.Legal.{is_limbo}
use Rattle.mg_model.specs.Machine.{own, state_of, view}
use Rattle.mg_model.specs.Openings.{everyone}
use Rattle.mg_model.specs.declared.opening.Opening.{Opening}
use Rattle.mg_model.specs.declared.table.Table.{Table}
use Rattle.mg_image_overlay_laws.specs.names.NamedTables.{IsNamedFor, NamesTellTables}
use Rattle.mg_overlay_laws.specs.Overlays.{left_by, left_state}
use Rattle.mg_records.specs.Reading.{shape_named, shape_seen}
use Rattle.mg_seek.specs.Histories.{told_all, told_versions}
use Rattle.mg_engine_step_laws.specs.tables.ChosenTables.{newest_changed, not_open}
use Rattle.mg_engine_step_laws.specs.standing.Standing.{ShowsHistory, Standing, Stands}
use Rattle.mg_engine_step_laws.specs.standing.Versions.{IsRecordOf, SpeaksFor, SpeaksOrSilent}
use Rattle.mg_image_overlay_laws.specs.tables.OneTable.{one_standing}
use Rattle.mg_engine_step_laws.specs.reads.TableAnswers.{shown_key}
use Rattle.mg_engine_meaning_laws.specs.PlainTables.{HasPlainTables}
use Rattle.mg_engine_step_laws.specs.writes.Knowing.{HasRowsOf, MayWriteInto}
use Rattle.mg_noted_laws.specs.ChoiceTables.{none_by_rows, stands_by_committed, stands_by_row}
use Rattle.mg_engine_change_laws.specs.rows.Owners.{SeenMayBeWritten}

-- ---- a name under which a transaction sees a table

row_seen : (rows : CatalogRows) (name : List ℕ) (shape : Shape) → shape_named rows name ≡ Some shape
    → (same_name name catalog_name ≡ false) × ((row : Cells) × (rows (table_key name) ≡ Some row))
row_seen rows name shape is = at (same_name name catalog_name) refl is
  where
    by : (x : Option Cells) → rows (table_key name) ≡ x → shape_said rows name x ≡ Some shape
        → (row : Cells) × (rows (table_key name) ≡ Some row)
    by None none said = absurd cc
    by (Some row) there said = (row, there)

    at : (b : Bool) → same_name name catalog_name ≡ b
        → (if b then None else shape_said rows name (rows (table_key name))) ≡ Some shape
        → (same_name name catalog_name ≡ false) × ((row : Cells) × (rows (table_key name) ≡ Some row))
    at true named said = absurd cc
    at false off said = (off, by (rows (table_key name)) refl said)

-- ---- who counts in a record

pub committed_only : (f : Facts) (u : ℕ) → committed_with f (λ t. false) u ≡ committed_in f u
committed_only f u = at (f.state u)
  where
    at : (x : TxState) → (is_committed x || (is_limbo x && false)) ≡ is_committed x
    at Active = refl
    at Limbo = refl
    at Dead = refl
    at Committed = refl

-- behind the newest version all are committed
shown_back : (f : Facts) (counts : ℕ → Bool) → ((u : ℕ) → f.state u ≡ Committed → counts u ≡ true)
    → (es : List Entry) → Each (λ e. f.state (writer e) ≡ Committed) es → shown counts es ≡ shown (committed_in f) es
shown_back f counts all [] each = refl
shown_back f counts all (e ∷ es) each =
    let here_ : counts (writer e) ≡ true = all (writer e) each.0 in
    let too : committed_in f (writer e) ≡ true = ap is_committed each.0 in rw (here_, too) refl

with_committed : (f : Facts) (who : ℕ → Bool) (u : ℕ) → f.state u ≡ Committed → committed_with f who u ≡ true
with_committed f who u is = ap (λ (x : TxState). is_committed x || (is_limbo x && who u)) is

-- one that counts is committed, or in limbo and chosen
counting : (x : TxState) (w : Bool) → (is_committed x || (is_limbo x && w)) ≡ true
    → (x ≡ Committed) ⊎ ((x ≡ Limbo) × (w ≡ true))
counting Active w is = absurd (false≢true is)
counting Limbo w is = inr (refl, is)
counting Dead w is = absurd (false≢true is)
counting Committed w is = inl refl

-- The newest version of a record is one in limbo, whose row it gives.
pub record IsLimboRow (f : Facts) (es : List Entry) (row : Row) : Type 0 where
  pub newest : Entry
  pub older : List Entry
  pub is_ : es ≡ newest ∷ older
  pub limbo : f.state (writer newest) ≡ Limbo
  pub alive : newest.version.deleted ≡ false
  pub its : newest.row ≡ row

-- a row that counts is committed, or that of the newest version, which is in limbo
row_counts : (f : Facts) (who : ℕ → Bool) (es : List Entry) (row : Row)
    → EachBack (λ e. f.state (writer e) ≡ Committed) es → shown (committed_with f who) es ≡ Some row
    → (shown (committed_in f) es ≡ Some row) ⊎ (IsLimboRow f es row × ((e : Entry) (older : List Entry) → es ≡ e ∷ older
    → who (writer e) ≡ true))
row_counts f who [] row backs is = absurd cc
row_counts f who (e ∷ es) row backs is = at (committed_with f who (writer e)) refl
  where
    limbo_row : (d : Bool) → e.version.deleted ≡ d → f.state (writer e) ≡ Limbo → who (writer e) ≡ true
        → cond d None (Some e.row) ≡ Some row
        → (shown (committed_in f) (e ∷ es) ≡ Some row) ⊎ (IsLimboRow f (e ∷ es) row
        × ((d : Entry) (older : List Entry) → e ∷ es ≡ d ∷ older → who (writer d) ≡ true))
    limbo_row true gone limbo chosen some = absurd cc
    limbo_row false kept limbo chosen some = inr (
      record { newest = e; older = es; is_ = refl; limbo = limbo; alive = kept; its = same some },
      λ d older same_. ap (λ (x : Entry). who (writer x)) (sym (first d older same_)) ∙ chosen,
    )
      where
        same : Some e.row ≡ Some row → e.row ≡ row
        same both = cc

        first : (d : Entry) (older : List Entry) → e ∷ es ≡ d ∷ older → e ≡ d
        first d older both = cc

    by : (f.state (writer e) ≡ Committed) ⊎ ((f.state (writer e) ≡ Limbo) × (who (writer e) ≡ true))
        → cond e.version.deleted None (Some e.row) ≡ Some row
        → (shown (committed_in f) (e ∷ es) ≡ Some row) ⊎ (IsLimboRow f (e ∷ es) row
        × ((d : Entry) (older : List Entry) → e ∷ es ≡ d ∷ older → who (writer d) ≡ true))
    by (inl committed) some = inl (rw (ap is_committed committed) some)
    by (inr (limbo, chosen)) some = limbo_row e.version.deleted refl limbo chosen some

    off_counts : committed_with f who (writer e) ≡ false → committed_in f (writer e) ≡ false
    off_counts off = no (committed_in f (writer e)) refl
      where
        no : (b : Bool) → committed_in f (writer e) ≡ b → committed_in f (writer e) ≡ false
        no false is_ = is_
        no true is_ = absurd (false≢true (sym off ∙ ap (λ (b : Bool). b || (is_limbo (f.state (writer e))
            && who (writer e))) is_))

    at : (b : Bool) → committed_with f who (writer e) ≡ b
        → (shown (committed_in f) (e ∷ es) ≡ Some row) ⊎ (IsLimboRow f (e ∷ es) row
        × ((d : Entry) (older : List Entry) → e ∷ es ≡ d ∷ older → who (writer d) ≡ true))
    at true on = by (counting (f.state (writer e)) (who (writer e)) on) (sym (at_true on) ∙ is)
      where
        at_true : committed_with f who (writer e) ≡ true
            → shown (committed_with f who) (e ∷ es) ≡ cond e.version.deleted None (Some e.row)
        at_true on_ = rw on_ refl
    at false off = inl (at_off (off_counts off) ∙ (sym (shown_back f (committed_with f who)
        (λ u. with_committed f who u) es backs) ∙ (sym (at_false off) ∙ is)))
      where
        at_off : committed_in f (writer e) ≡ false → shown (committed_in f) (e ∷ es) ≡ shown (committed_in f) es
        at_off off_ = rw off_ refl

        at_false : committed_with f who (writer e) ≡ false
            → shown (committed_with f who) (e ∷ es) ≡ shown (committed_with f who) es
        at_false off_ = rw off_ refl

-- its key is taken
row_takes : (f : Facts) (who : ℕ → Bool) (es : List Entry) (row : Row)
    → EachBack (λ e. f.state (writer e) ≡ Committed) es → shown (committed_with f who) es ≡ Some row → TakesKey f es
row_takes f who es row backs is = at (row_counts f who es row backs is)
  where
    at : (shown (committed_in f) es ≡ Some row) ⊎ (IsLimboRow f es row × ((e : Entry) (older : List Entry)
        → es ≡ e ∷ older → who (writer e) ≡ true)) → TakesKey f es
    at (inl committed) = inl (row, committed)
    at (inr (limbo, chosen)) = inr (in_limbo es limbo)
      where
        in_limbo : (xs : List Entry) → IsLimboRow f xs row → IsInLimbo f xs
        in_limbo [] it = let both : [] ≡ it.newest ∷ it.older = it.is_ in absurd cc
        in_limbo (x ∷ xs) it = let same : x ≡ it.newest = first it.is_ in
            ap (λ (y : Entry). f.state (writer y)) same ∙ it.limbo
          where
            first : x ∷ xs ≡ it.newest ∷ it.older → x ≡ it.newest
            first both = cc

-- ---- the table

module _ (one : RowsAreOne packed_coding) (names_tell : NamesTellTables packed_form) (seen_law : SeenIsNotMade)
    (begin : OpeningsBegin) (size : ℕ) (o : Opening) (h : Entries) (s : Standing) (pages : Pages)
    (stands : Stands packed_form size o h s (Some pages)) (t : ℕ) (name : List ℕ) (shape : Shape) (its : Table)
    (kept : (chosen : ℕ → Bool) → IsKept packed_form size o h (left_state chosen s.state) pages pages)
    (plain : HasPlainTables size s.state pages) (grows : CatalogGrows o h) (active : state_of o h t ≡ Active)
    (seen : shape_seen o h t name ≡ Some shape) (there : IsTableOf stands.shows.layout its)
    (its_name : its.name ≡ name) where
  abbrev shows : ShowsHistory packed_form size o h s pages
  shows = stands.shows

  abbrev a : Layout
  a = stands.shows.layout

  abbrev r : Reading
  r = stands.shows.reading

  abbrev f : Facts
  f = facts_by (left_state everyone s.state) pages stands.shows.layout

  abbrev cat : Table
  cat = stands.shows.layout.catalog.table

  cat_named : cat.name ≡ catalog_name
  cat_named = ap (λ (x : Table). x.name) shows.sound.catalog

  its_state : s.state t ≡ Active
  its_state = stands.memory.state t ∙ active

  row_there : (row : Cells) × (row_at (view o h t) catalog_name (table_key name) ≡ Some row)
  row_there = (row_seen (catalog_of (told o h) t) name shape seen).1

  off_catalog : name ≢ catalog_name
  off_catalog same = false≢true (sym (row_seen (catalog_of (told o h) t) name shape seen).0
      ∙ (ap (λ (n : List ℕ). same_name n catalog_name) same ∙ same_name_itself catalog_name))

  -- it is one of the tables
  is_one : IsOneOf (map (λ stand. stand.table) shows.layout.tables) its
  is_one = at (one_standing a its there)
    where
      at : (cat ≡ its) ⊎ IsOneOf (map (λ stand. stand.table) shows.layout.tables) its
          → IsOneOf (map (λ stand. stand.table) shows.layout.tables) its
      at (inl same) = absurd (off_catalog (sym its_name ∙ (ap (λ (x : Table). x.name) (sym same) ∙ cat_named)))
      at (inr is) = is

  -- its row, where all count
  said : IsTable shows.sound.names.all.rows its
  said = one_each (IsTable shows.sound.names.all.rows) (map (λ stand. stand.table) shows.layout.tables) its
      shows.sound.names.all.are_tables.each is_one

  shown_at : (p : RecId) × Shows f (committed_with f (λ u. true)) r p cat said.row
      × (key_of cat said.row ≡ table_key its.name)
  shown_at = shows.sound.names.all.are_rows.whole (table_key its.name) said.row said.there

  abbrev p : RecId
  p = shown_at.0

  of : table_in f p ≡ Some cat
  of = shown_at.1.of_table

  backs_of : (q : RecId) → table_in f q ≡ Some cat → EachBack (λ e. f.state (writer e) ≡ Committed) (r q)
  backs_of q is = (shows.sound.records.each q cat is).backs

  key_here : (q : RecId) (counts : ℕ → Bool) (row : Row) → table_in f q ≡ Some cat → shown counts (r q) ≡ Some row
      → key_of cat row ≡ record_key cat (r q)
  key_here q counts row is some = shown_key f counts cat (record_key cat (r q)) (r q) row
      (shows.sound.records.each q cat is).each some

  key_is : record_key cat (r p) ≡ table_key its.name
  key_is = sym (key_here p (committed_with f (λ u. true)) said.row of shown_at.1.row_shown) ∙ shown_at.2

  -- the newest version there, where it is in limbo, is its own: it sees the row
  its_own : IsLimboRow f (r p) said.row → (e : Entry) (older : List Entry) → r p ≡ e ∷ older
      → f.state (writer e) ≡ Limbo → writer e ≡ t
  its_own limbo_row e older is limbo = at (cases_eq (writer e) t)
    where
      open_left : (x : TxState) → left_by true x ≡ Limbo → is_open x ≡ true
      open_left Active same = refl
      open_left Limbo same = refl
      open_left Dead same = absurd cc
      open_left Committed same = absurd cc

      open_ : is_open (state_of o h (writer e)) ≡ true
      open_ = ap is_open (sym (stands.memory.state (writer e))) ∙ open_left (s.state (writer e)) limbo

      newest : is_newest_by (writer e) (told_versions f.state cat (r p)) ≡ true
      newest = ap (λ (es : List Entry). is_newest_by (writer e) (told_versions f.state cat es)) is
          ∙ (ap (λ (d : Bool). is_newest_by (writer e) (told_all cat (if d then older else e ∷ older)))
          (ap is_dead limbo) ∙ eq-eqb (writer e) (writer e) refl)

      changed_by : StandFor o h cat.name (record_key cat (r p)) (told_versions f.state cat (r p))
          → has_change (own o h (writer e)) catalog_name (table_key name) ≡ true
      changed_by stand = subst (λ (n : List ℕ). has_change (own o h (writer e)) n (table_key name) ≡ true) cat_named
          (subst (λ (k : Value). has_change (own o h (writer e)) cat.name k ≡ true) (key_is ∙ ap table_key its_name)
          (newest_changed o h cat.name (record_key cat (r p)) (told_versions f.state cat (r p)) (writer e) open_ stand
          newest))

      spoken : (x : Option RecId) → SpeaksFor o h f r cat.name (record_key cat (r p)) x → x ≡ Some p
          → has_change (own o h (writer e)) catalog_name (table_key name) ≡ true
      spoken None none some = absurd cc
      spoken (Some p2) (record_, stand) some = on p2 (same some) record_ stand
        where
          same : Some p2 ≡ Some p → p2 ≡ p
          same both = cc

          on : (p2 : RecId) → p2 ≡ p → (record_ : IsRecordOf f r cat.name (record_key cat (r p)) p2)
              → StandFor o h cat.name (record_key cat (r p)) (told_versions f.state record_.table (r p2))
              → has_change (own o h (writer e)) catalog_name (table_key name) ≡ true
          on p2 same_ record_ stand_ =
              let both : Some record_.table ≡ Some cat = sym record_.of_table ∙ (ap (table_in f) same_ ∙ of) in
              let table_is : record_.table ≡ cat = cc in
              changed_by (subst (λ (x : Table). StandFor o h cat.name (record_key cat (r p))
              (told_versions f.state x (r p))) table_is (subst (λ (q : RecId). StandFor o h cat.name
              (record_key cat (r p)) (told_versions f.state record_.table (r q))) same_ stand_))

      changed_ : has_change (own o h (writer e)) catalog_name (table_key name) ≡ true
      changed_ = by (shows.versions.others p cat of)
        where
          erased_not : (chain : List Generation) → is_newest_by (writer e) chain ≡ true → IsErasedForAll o h chain → ⊥
          erased_not chain newest_ gone = not_open o h (writer e) chain open_ gone newest_

          by : SpeaksOrSilent o h f r shows.versions.speaker p cat
              → has_change (own o h (writer e)) catalog_name (table_key name) ≡ true
          by (inl empty) = absurd (false≢true (sym (ap (is_newest_by (writer e)) empty) ∙ newest))
          by (inr (inl gone)) = absurd (erased_not (told_versions f.state cat (r p)) newest gone)
          by (inr (inr speaks)) = spoken (shows.versions.speaker cat.name (record_key cat (r p)))
              (shows.versions.speaks cat.name (record_key cat (r p))) speaks

      at : (writer e ≡ t) ⊎ (writer e ≢ t) → writer e ≡ t
      at (inl same) = same
      at (inr ne) = absurd (false≢true (sym (seen_law o h (writer e) t (table_key name) row_there.0
          (begin o stands.opening) stands.legal grows open_ active ne row_there.1) ∙ changed_))

  -- ---- a committed row names it

  module _ (row : Row) (committed : shown (committed_in f) (r p) ≡ Some row) where
    row_keyed : key_of cat row ≡ table_key its.name
    row_keyed = key_here p (committed_in f) row of committed ∙ key_is

    named_rows : HasRowsOf f r cat t its.name
    named_rows = inl (record {
      place = p;
      row = row;
      shows = record { of_table = of; row_shown = committed };
      keyed = row_keyed;
    })

    named_for : IsNamedFor packed_form size t s.state pages its
    named_for chosen layout q sound = inl (stands_by_committed one size s.state pages a r shows.sound chosen layout q
        sound (plain.agree everyone chosen a layout r q shows.sound sound) its there p row (record {
          of_table = of;
          row_shown = ap (λ (c : ℕ → Bool). shown c (r p)) (fun_ext (committed_only f)) ∙ committed;
        }) row_keyed)

  -- ---- its own row does

  module _ (none : shown (committed_in f) (r p) ≡ None) (it : IsLimboRow f (r p) said.row) where
    mine : writer it.newest ≡ t
    mine = its_own it it.newest it.older it.is_ it.limbo

    made_rows : HasRowsOf f r cat t its.name
    made_rows = inr (record {
      place = p;
      version = it.newest;
      limbo = record { of_table = of; older = it.older; newest = it.is_; limbo = it.limbo };
      its_own = mine;
      alive = it.alive;
      keyed = ap (key_of cat) it.its ∙ shown_at.2;
    })

    -- where it counts its row does
    counts_too : (chosen : ℕ → Bool) → chosen t ≡ true
        → shown (committed_with f (λ u. chosen u || is_limbo (s.state u))) (r p) ≡ Some said.row
    counts_too chosen is =
        let on : committed_with f (λ u. chosen u || is_limbo (s.state u)) (writer it.newest) ≡ true =
        ap (λ (x : TxState). is_committed x || (is_limbo x && (chosen (writer it.newest)
        || is_limbo (s.state (writer it.newest))))) it.limbo
        ∙ ap (λ (b : Bool). b || is_limbo (s.state (writer it.newest))) (ap chosen mine ∙ is) in
        ap (shown (committed_with f (λ u. chosen u || is_limbo (s.state u)))) it.is_
        ∙ (rw (on, it.alive) (ap Some it.its))

    -- and where it does not, no row of the name does
    no_row : (chosen : ℕ → Bool) → chosen t ≡ false → (q : RecId) (row : Row)
        → Shows f (committed_with f (λ u. chosen u || is_limbo (s.state u))) r q cat row
        → key_of cat row ≡ table_key name → ⊥
    no_row chosen off q row shows_ keyed = at (row_counts f (λ u. chosen u || is_limbo (s.state u)) (r q) row (backs_of q shows_.of_table) shows_.row_shown)
      where
        same_place_ : q ≡ p
        same_place_ = shows.sound.records.keys q p cat shows_.of_table of
            (row_takes f (λ u. chosen u || is_limbo (s.state u)) (r q) row (backs_of q shows_.of_table)
            shows_.row_shown)
            (row_takes f (λ u. true) (r p) said.row (backs_of p of) shown_at.1.row_shown)
            (sym (key_here q (committed_with f (λ u. chosen u || is_limbo (s.state u))) row shows_.of_table
            shows_.row_shown) ∙ (keyed ∙ (ap table_key (sym its_name) ∙ sym key_is)))

        at : (shown (committed_in f) (r q) ≡ Some row) ⊎ (IsLimboRow f (r q) row × ((e : Entry) (older : List Entry)
            → r q ≡ e ∷ older → (chosen (writer e) || is_limbo (s.state (writer e))) ≡ true)) → ⊥
        at (inl committed) =
            let both : None ≡ Some row = sym none ∙ (ap (λ (x : RecId). shown (committed_in f) (r x)) (sym same_place_)
            ∙ committed) in absurd cc
        at (inr (limbo_row, chosen_)) = false≢true (sym not_ ∙ chosen_ it.newest it.older
            (ap r same_place_ ∙ it.is_))
          where
            not_ : (chosen (writer it.newest) || is_limbo (s.state (writer it.newest))) ≡ false
            not_ = ap (λ (u : ℕ). chosen u || is_limbo (s.state u)) mine
                ∙ (ap (λ (b : Bool). b || is_limbo (s.state t)) off ∙ ap is_limbo its_state)

    made_for : IsNamedFor packed_form size t s.state pages its
    made_for chosen layout q sound = at (chosen t) refl
      where
        at : (b : Bool) → chosen t ≡ b → IsTableOf layout its
            ⊎ ((left_state chosen s.state t ≡ Dead) × EachStand (λ stand. stand.table.name ≢ its.name) (stands_of layout))
        at true is = inl (stands_by_row one size s.state pages a r shows.sound chosen layout q sound
            (plain.agree everyone chosen a layout r q shows.sound sound) its there p said.row
            (record { of_table = of; row_shown = counts_too chosen is }) shown_at.2)
        at false off = inr (
          ap (λ (b : Bool). left_by b (s.state t)) off ∙ ap (left_by false) its_state,
          subst (λ (n : List ℕ). EachStand (λ stand. stand.table.name ≢ n) (stands_of layout)) (sym its_name)
              (none_by_rows one size s.state pages a r shows.sound chosen layout q sound
              (plain.agree everyone chosen a layout r q shows.sound sound) name off_catalog (no_row chosen off)),
        )

  -- ---- both

  whole : IsNamedFor packed_form size t s.state pages its → HasRowsOf f r cat t its.name
      → MayWriteInto packed_form size s.state pages stands.shows.layout stands.shows.reading t its
  whole named rows = record {
    stands = there;
    whose = names_tell size t o h s.state pages its its_state kept named;
    no_catalog = λ same. off_catalog (sym its_name ∙ (ap (λ (x : Table). x.name) same ∙ cat_named));
    rows = rows;
  }

  pub may_write : MayWriteInto packed_form size s.state pages stands.shows.layout stands.shows.reading t its
  may_write = at (shown (committed_in f) (r p)) refl
    where
      limbo_row : shown (committed_in f) (r p) ≡ None → IsLimboRow f (r p) said.row
      limbo_row none = by (row_counts f (λ u. true) (r p) said.row (backs_of p of) shown_at.1.row_shown)
        where
          by : (shown (committed_in f) (r p) ≡ Some said.row) ⊎ (IsLimboRow f (r p) said.row × ((e : Entry)
              (older : List Entry) → r p ≡ e ∷ older → true ≡ true)) → IsLimboRow f (r p) said.row
          by (inl committed) = let both : None ≡ Some said.row = sym none ∙ committed in absurd cc
          by (inr (it, chosen)) = it

      at : (x : Option Row) → shown (committed_in f) (r p) ≡ x
          → MayWriteInto packed_form size s.state pages stands.shows.layout stands.shows.reading t its
      at (Some row) is = whole (named_for row is) (named_rows row is)
      at None is = whole (made_for is (limbo_row is)) (made_rows is (limbo_row is))

pub seen_may_be_written : RowsAreOne packed_coding → NamesTellTables packed_form → SeenIsNotMade → OpeningsBegin
    → SeenMayBeWritten
seen_may_be_written one names_tell seen_law begin size o h s pages stands t name shape its kept plain grows active seen
    there its_name = may_write one names_tell seen_law begin size o h s pages stands t name shape its kept plain grows
    active seen there its_name
