-- A table in which a record has a transaction's own version may be written into by it: a committed row of the catalog
-- names it, or one of its own.
use Rattle.std.proofs.Common.{◌≡◌, ◌≢◌, ◌⊎◌, inl, inr, ◌&&◌, ◌||◌, cond, ℕ, Bool, true, false, List, [], ◌∷◌, Option, None, Some, refl, sym, ap, ◌∙◌, subst}
use Rattle.std.proofs.Math.Path.{fun_ext}
use Rattle.std.proofs.lemmas.Bool.{false≢true}
use Rattle.mg_base.specs.declared.numbers.RecId.{RecId}
use Rattle.mg_base.specs.declared.transaction.TxState.{TxState}
use Rattle.mg_base.specs.declared.transaction.TxState.TheVariants.{Active, Committed, Dead, Limbo}
use Rattle.mg_engine_step_laws.specs.reads.TableAnswers.{shown_key}
use Rattle.mg_engine_change_laws.specs.keys.BackTables.{ItsTablesMayBeWritten}
use Rattle.mg_engine_meaning_laws.specs.PlainTables.{HasPlainTables}
use Rattle.mg_noted_laws.specs.ChoiceTables.{none_by_rows, stands_by_committed, stands_by_row}
use Rattle.mg_engine_change_laws.specs.rows.OwnerLaws.{IsLimboRow}
use Rattle.mg_engine_step_laws.specs.writes.Knowing.{HasRowsOf, MayWriteInto}
use Rattle.mg_image_overlay_laws.specs.tables.Growing.{IsTableOf}
use Rattle.mg_image.specs.Catalog.{HasMade, IsNamed, MayStandIn, committed_with}
use Rattle.mg_image.specs.Form.{Pages, Row, packed_coding, packed_form}
use Rattle.mg_image.specs.Held.{Shows}
use Rattle.mg_image.specs.ReadingLaws.{RowsAreOne}
use Rattle.mg_image.specs.RecordRules.{Each, EachBack, Facts, IsInLimbo, TakesKey, committed_in, table_in}
use Rattle.mg_image.specs.Records.{Reading, key_of, record_key, shown, writer}
use Rattle.mg_image.specs.Sound.{IsSoundBy, facts_by}
use Rattle.mg_image.specs.Tables.{EachStand, Layout, stands_of}
use Rattle.mg_image.specs.declared.entry.Entry.{Entry}
use Rattle.mg_image_overlay_laws.specs.kept.KeptImages.{IsKept}
use Rattle.mg_model.specs.Answers.{is_committed}
use Rattle.mg_model.specs.Catalog.{catalog_name, table_key}
use Rattle.mg_model.specs.History.{Entries}
use Rattle.mg_model.specs.Legal.{is_limbo}
use Rattle.mg_model.specs.Openings.{everyone}
use Rattle.mg_model.specs.declared.opening.Opening.{Opening}
use Rattle.mg_model.specs.declared.table.Table.{Table}
use Rattle.mg_image_overlay_laws.specs.names.NamedTables.{IsNamedFor, NamesTellTables}
use Rattle.mg_overlay_laws.specs.Overlays.{left_by, left_state}
use Rattle.mg_engine_step_laws.specs.standing.Standing.{Standing}
use Rattle.mg_image_overlay_laws.specs.tables.OneTable.{table_at_stands}

-- ---- who counts in a record

committed_only : (f : Facts) (u : ℕ) → committed_with f (λ t. false) u ≡ committed_in f u
committed_only f u = at (f.state u)
  where
    at : (x : TxState) → (is_committed x || (is_limbo x && false)) ≡ is_committed x
    at Active = refl
    at Limbo = refl
    at Dead = refl
    at Committed = refl

-- behind the newest version all are committed
shown_back : (f : Facts) (counts : ℕ → Bool) → ((u : ℕ) → f.state u ≡ Committed → counts u ≡ true)
    → (es : List Entry) → Each (λ e. f.state (writer e) ≡ Committed) es → shown counts es ≡ shown (committed_in f) es
shown_back f counts all [] each = refl
shown_back f counts all (e ∷ es) each =
    let here_ : counts (writer e) ≡ true = all (writer e) each.0 in
    let too : committed_in f (writer e) ≡ true = ap is_committed each.0 in rw (here_, too) refl

with_committed : (f : Facts) (who : ℕ → Bool) (u : ℕ) → f.state u ≡ Committed → committed_with f who u ≡ true
with_committed f who u is = ap (λ (x : TxState). is_committed x || (is_limbo x && who u)) is

-- one that counts is committed, or in limbo and chosen
counting : (x : TxState) (w : Bool) → (is_committed x || (is_limbo x && w)) ≡ true
    → (x ≡ Committed) ⊎ ((x ≡ Limbo) × (w ≡ true))
counting Active w is = absurd (false≢true is)
counting Limbo w is = inr (refl, is)
counting Dead w is = absurd (false≢true is)
counting Committed w is = inl refl

-- a row that counts is committed, or that of the newest version, which is in limbo
row_counts : (f : Facts) (who : ℕ → Bool) (es : List Entry) (row : Row)
    → EachBack (λ e. f.state (writer e) ≡ Committed) es → shown (committed_with f who) es ≡ Some row
    → (shown (committed_in f) es ≡ Some row) ⊎ (IsLimboRow f es row × ((e : Entry) (older : List Entry) → es ≡ e ∷ older
    → who (writer e) ≡ true))
row_counts f who [] row backs is = absurd cc
row_counts f who (e ∷ es) row backs is = at (committed_with f who (writer e)) refl
  where
    limbo_row : (d : Bool) → e.version.deleted ≡ d → f.state (writer e) ≡ Limbo → who (writer e) ≡ true
        → cond d None (Some e.row) ≡ Some row
        → (shown (committed_in f) (e ∷ es) ≡ Some row) ⊎ (IsLimboRow f (e ∷ es) row
        × ((d : Entry) (older : List Entry) → e ∷ es ≡ d ∷ older → who (writer d) ≡ true))
    limbo_row true gone limbo chosen some = absurd cc
    limbo_row false kept limbo chosen some = inr (
      record { newest = e; older = es; is_ = refl; limbo = limbo; alive = kept; its = same some },
      λ d older same_. ap (λ (x : Entry). who (writer x)) (sym (first d older same_)) ∙ chosen,
    )
      where
        same : Some e.row ≡ Some row → e.row ≡ row
        same both = cc

        first : (d : Entry) (older : List Entry) → e ∷ es ≡ d ∷ older → e ≡ d
        first d older both = cc

    by : (f.state (writer e) ≡ Committed) ⊎ ((f.state (writer e) ≡ Limbo) × (who (writer e) ≡ true))
        → cond e.version.deleted None (Some e.row) ≡ Some row
        → (shown (committed_in f) (e ∷ es) ≡ Some row) ⊎ (IsLimboRow f (e ∷ es) row
        × ((d : Entry) (older : List Entry) → e ∷ es ≡ d ∷ older → who (writer d) ≡ true))
    by (inl committed) some = inl (rw (ap is_committed committed) some)
    by (inr (limbo, chosen)) some = limbo_row e.version.deleted refl limbo chosen some

    off_counts : committed_with f who (writer e) ≡ false → committed_in f (writer e) ≡ false
    off_counts off = no (committed_in f (writer e)) refl
      where
        no : (b : Bool) → committed_in f (writer e) ≡ b → committed_in f (writer e) ≡ false
        no false is_ = is_
        no true is_ = absurd (false≢true (sym off ∙ ap (λ (b : Bool). b || (is_limbo (f.state (writer e))
            && who (writer e))) is_))

    at : (b : Bool) → committed_with f who (writer e) ≡ b
        → (shown (committed_in f) (e ∷ es) ≡ Some row) ⊎ (IsLimboRow f (e ∷ es) row
        × ((d : Entry) (older : List Entry) → e ∷ es ≡ d ∷ older → who (writer d) ≡ true))
    at true on = by (counting (f.state (writer e)) (who (writer e)) on) (sym (at_true on) ∙ is)
      where
        at_true : committed_with f who (writer e) ≡ true
            → shown (committed_with f who) (e ∷ es) ≡ cond e.version.deleted None (Some e.row)
        at_true on_ = rw on_ refl
    at false off = inl (at_off (off_counts off) ∙ (sym (shown_back f (committed_with f who)
        (λ u. with_committed f who u) es backs) ∙ (sym (at_false off) ∙ is)))
      where
        at_off : committed_in f (writer e) ≡ false → shown (committed_in f) (e ∷ es) ≡ shown (committed_in f) es
        at_off off_ = rw off_ refl

        at_false : committed_with f who (writer e) ≡ false
            → shown (committed_with f who) (e ∷ es) ≡ shown (committed_with f who) es
        at_false off_ = rw off_ refl

-- its key is taken
row_takes : (f : Facts) (who : ℕ → Bool) (es : List Entry) (row : Row)
    → EachBack (λ e. f.state (writer e) ≡ Committed) es → shown (committed_with f who) es ≡ Some row → TakesKey f es
row_takes f who es row backs is = at (row_counts f who es row backs is)
  where
    at : (shown (committed_in f) es ≡ Some row) ⊎ (IsLimboRow f es row × ((e : Entry) (older : List Entry)
        → es ≡ e ∷ older → who (writer e) ≡ true)) → TakesKey f es
    at (inl committed) = inl (row, committed)
    at (inr (limbo, chosen)) = inr (in_limbo es limbo)
      where
        in_limbo : (xs : List Entry) → IsLimboRow f xs row → IsInLimbo f xs
        in_limbo [] it = let both : [] ≡ it.newest ∷ it.older = it.is_ in absurd cc
        in_limbo (x ∷ xs) it = let same : x ≡ it.newest = first it.is_ in
            ap (λ (y : Entry). f.state (writer y)) same ∙ it.limbo
          where
            first : x ∷ xs ≡ it.newest ∷ it.older → x ≡ it.newest
            first both = cc

-- ---- the table

module _ (one : RowsAreOne packed_coding) (names_tell : NamesTellTables packed_form) (size : ℕ) (o : Opening)
    (h : Entries) (s : Standing) (pages : Pages) (a : Layout) (r : Reading)
    (sound : IsSoundBy packed_form size (left_state everyone s.state) pages a r)
    (kept : (chosen : ℕ → Bool) → IsKept packed_form size o h (left_state chosen s.state) pages pages)
    (plain : HasPlainTables size s.state pages) (t : ℕ) (active : s.state t ≡ Active) (its : Table)
    (off_catalog : its.name ≢ catalog_name) (there : IsTableOf a its) where
  abbrev f : Facts
  f = facts_by (left_state everyone s.state) pages a

  abbrev cat : Table
  cat = a.catalog.table

  cat_named : cat.name ≡ catalog_name
  cat_named = ap (λ (x : Table). x.name) sound.catalog

  backs_of : (q : RecId) → table_in f q ≡ Some cat → EachBack (λ e. f.state (writer e) ≡ Committed) (r q)
  backs_of q is = (sound.records.each q cat is).backs

  key_here : (q : RecId) (counts : ℕ → Bool) (row : Row) → table_in f q ≡ Some cat → shown counts (r q) ≡ Some row
      → key_of cat row ≡ record_key cat (r q)
  key_here q counts row is some = shown_key f counts cat (record_key cat (r q)) (r q) row
      (sound.records.each q cat is).each some

  whole : IsNamedFor packed_form size t s.state pages its → HasRowsOf f r cat t its.name
      → MayWriteInto packed_form size s.state pages a r t its
  whole named rows = record {
    stands = there;
    whose = names_tell size t o h s.state pages its active kept named;
    no_catalog = λ same. off_catalog (ap (λ (x : Table). x.name) same ∙ cat_named);
    rows = rows;
  }

  -- ---- a committed row names it

  named_for : IsNamed f r cat its.name → IsNamedFor packed_form size t s.state pages its
  named_for named chosen layout q also = inl (stands_by_committed one size s.state pages a r sound chosen layout q
      also (plain.agree everyone chosen a layout r q sound also) its
      there named.place named.row (record {
        of_table = named.shows.of_table;
        row_shown = ap (λ (c : ℕ → Bool). shown c (r named.place)) (fun_ext (committed_only f)) ∙ named.shows.row_shown;
      }) named.keyed)

  by_named : IsNamed f r cat its.name → MayWriteInto packed_form size s.state pages a r t its
  by_named named = whole (named_for named) (inl named)

  -- ---- its own row does

  module _ (made : HasMade f r cat t its.name) where
    abbrev p : RecId
    p = made.place

    key_is : record_key cat (r made.place) ≡ table_key its.name
    key_is = ap (record_key cat) made.limbo.newest ∙ made.keyed

    -- where it counts its row does
    counts_too : (chosen : ℕ → Bool) → chosen t ≡ true
        → shown (committed_with f (λ u. chosen u || is_limbo (s.state u))) (r made.place) ≡ Some made.version.row
    counts_too chosen is =
        let on : committed_with f (λ u. chosen u || is_limbo (s.state u)) (writer made.version) ≡ true =
        ap (λ (x : TxState). is_committed x || (is_limbo x && (chosen (writer made.version)
        || is_limbo (s.state (writer made.version))))) made.limbo.limbo
        ∙ ap (λ (b : Bool). b || is_limbo (s.state (writer made.version))) (ap chosen made.its_own ∙ is) in
        ap (shown (committed_with f (λ u. chosen u || is_limbo (s.state u)))) made.limbo.newest
        ∙ (rw (on, made.alive) refl)

    in_limbo : TakesKey f (r made.place)
    in_limbo = inr (subst (IsInLimbo f) (sym made.limbo.newest) made.limbo.limbo)

    -- and where it does not, no row of the name does
    no_row : shown (committed_in f) (r made.place) ≡ None → (chosen : ℕ → Bool) → chosen t ≡ false → (q : RecId)
        (row : Row) → Shows f (committed_with f (λ u. chosen u || is_limbo (s.state u))) r q cat row
        → key_of cat row ≡ table_key its.name → ⊥
    no_row none chosen off q row shows_ keyed = at (row_counts f (λ u. chosen u || is_limbo (s.state u)) (r q) row
        (backs_of q shows_.of_table) shows_.row_shown)
      where
        same_place_ : q ≡ made.place
        same_place_ = sound.records.keys q made.place cat shows_.of_table made.limbo.of_table
            (row_takes f (λ u. chosen u || is_limbo (s.state u)) (r q) row (backs_of q shows_.of_table)
            shows_.row_shown) in_limbo
            (sym (key_here q (committed_with f (λ u. chosen u || is_limbo (s.state u))) row shows_.of_table
            shows_.row_shown) ∙ (keyed ∙ sym key_is))

        not_ : (chosen (writer made.version) || is_limbo (s.state (writer made.version))) ≡ false
        not_ = ap (λ (u : ℕ). chosen u || is_limbo (s.state u)) made.its_own
            ∙ (ap (λ (b : Bool). b || is_limbo (s.state t)) off ∙ ap is_limbo active)

        at : (shown (committed_in f) (r q) ≡ Some row) ⊎ (IsLimboRow f (r q) row × ((e : Entry) (older : List Entry)
            → r q ≡ e ∷ older → (chosen (writer e) || is_limbo (s.state (writer e))) ≡ true)) → ⊥
        at (inl committed) =
            let both : None ≡ Some row = sym none ∙ (ap (λ (x : RecId). shown (committed_in f) (r x)) (sym same_place_)
            ∙ committed) in absurd cc
        at (inr (limbo_row, chosen_)) = false≢true (sym not_ ∙ chosen_ made.version made.limbo.older
            (ap r same_place_ ∙ made.limbo.newest))

    made_for : shown (committed_in f) (r made.place) ≡ None → IsNamedFor packed_form size t s.state pages its
    made_for none chosen layout q also = at (chosen t) refl
      where
        at : (b : Bool) → chosen t ≡ b → IsTableOf layout its
            ⊎ ((left_state chosen s.state t ≡ Dead) × EachStand (λ stand. stand.table.name ≢ its.name) (stands_of layout))
        at true is = inl (stands_by_row one size s.state pages a r sound chosen layout q also
            (plain.agree everyone chosen a layout r q sound also) its
            there made.place made.version.row
            (record { of_table = made.limbo.of_table; row_shown = counts_too chosen is }) made.keyed)
        at false off = inr (
          ap (λ (b : Bool). left_by b (s.state t)) off ∙ ap (left_by false) active,
          none_by_rows one size s.state pages a r sound chosen layout q also
              (plain.agree everyone chosen a layout r q sound also)
              its.name off_catalog (no_row none chosen off),
        )

    by_made : MayWriteInto packed_form size s.state pages a r t its
    by_made = at (shown (committed_in f) (r made.place)) refl
      where
        at : (x : Option Row) → shown (committed_in f) (r made.place) ≡ x
            → MayWriteInto packed_form size s.state pages a r t its
        at (Some row) is = by_named (record {
          place = made.place;
          row = row;
          shows = record { of_table = made.limbo.of_table; row_shown = is };
          keyed = key_here made.place (committed_in f) row made.limbo.of_table is ∙ key_is;
        })
        at None none = whole (made_for none) (inr made)

  -- ---- both

  pub may_write : (d : Entry) → writer d ≡ t → MayStandIn f r cat its d
      → MayWriteInto packed_form size s.state pages a r t its
  may_write d own (inl named) = absurd (off_catalog named)
  may_write d own (inr (inl named)) = by_named named
  may_write d own (inr (inr (inl dead))) =
      let limbo : left_state everyone s.state (writer d) ≡ Limbo =
      ap (left_state everyone s.state) own ∙ ap (left_by true) active in
      let both : Limbo ≡ Dead = sym limbo ∙ dead in absurd cc
  may_write d own (inr (inr (inr made))) = by_made (subst (λ (u : ℕ). HasMade f r cat u its.name) own made)

pub its_tables_may_be_written : RowsAreOne packed_coding → NamesTellTables packed_form → ItsTablesMayBeWritten
its_tables_may_be_written one names_tell size o h s pages layout reading sound kept plain t active its off_catalog rec
    newest older of read own = may_write one names_tell size o h s pages layout reading sound kept plain t active its
    off_catalog (table_at_stands layout rec.page.0 its of) newest own
    (subst (Each (MayStandIn (facts_by (left_state everyone s.state) pages layout) reading layout.catalog.table its)) read
    (sound.own_tables rec its of)).0
