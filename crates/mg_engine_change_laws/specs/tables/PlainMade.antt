-- Tables stay plain where one is made: under each choice the tables are those that there were, and the new one where its
-- maker counts as in limbo.
use Rattle.std.proofs.Common.{◌≡◌, ◌⊎◌, inl, inr, refl, sym, ap, ◌∙◌, subst, ◌==◌, ◌||◌, ◌&&◌, not, arith, ℕ, suc, Bool, true, false, List, [], ◌∷◌, map}
use Rattle.std.specs.Prelude.{All}
use Rattle.std.proofs.Math.Path.{fun_ext}
use Rattle.std.proofs.lemmas.Bool.{eq-eqb, eqb-true}
use Rattle.std.specs.Cmp.Lexicographic.{slice_cmp}
use Rattle.std.specs.Ordering.{nat_cmp}
use Rattle.std.specs.declared.cmp.Ordering.{Ordering}
use Rattle.std.specs.declared.cmp.Ordering.TheVariants.{Less, Equal, Greater}
use Rattle.mg_base.specs.declared.transaction.TxState.{TxState}
use Rattle.mg_value.specs.declared.shape.Column.{Column}
use Rattle.mg_value.specs.declared.shape.Shape.{Shape}
use Rattle.mg_model.specs.declared.opening.Opening.{Opening}
use Rattle.mg_model.specs.declared.table.Table.{Table}
use Rattle.mg_model.specs.Changes.{by_order}
use Rattle.mg_model.specs.History.{Entries}
use Rattle.mg_header.specs.HeaderPage.{header_in}
use Rattle.mg_image.specs.Catalog.{IsSameTable, catalog_table}
use Rattle.mg_image.specs.Form.{Pages, Row, packed_coding, packed_form}
use Rattle.mg_image.specs.ReadingLaws.{RowsAreOne}
use Rattle.mg_image.specs.Records.{Reading}
use Rattle.mg_image.specs.Sound.{IsSoundBy}
use Rattle.mg_image.specs.Tables.{Layout, Stand, stands_of}
use Rattle.mg_image_overlay_laws.specs.kept.KeptImages.{AreFrontStands, IsKept}
use Rattle.mg_image_overlay_laws.specs.pages.Kinds.{HasNoSequences}
use Rattle.mg_image_overlay_laws.specs.tables.TableOwners.{IsOneOf}
use Rattle.mg_overlay_laws.specs.Overlays.{left_state, without}
use Rattle.mg_table_batch.specs.Filling.{table_at}
use Rattle.mg_image_overlay_laws.specs.tables.Growing.{IsTableOf}
use Rattle.mg_image_overlay_laws.specs.tables.OneLayout.{sound_once}
use Rattle.mg_image_overlay_laws.specs.tables.OneTable.{one_standing, one_table, stands_in}
use Rattle.mg_engine_change_laws.specs.tables.Joined.{layout_with, stands_with}
use Rattle.mg_engine_change_laws.specs.tables.JoinedBatch.{HasJoined}
use Rattle.mg_engine_change_laws.specs.tables.JoinedSound.{joined_sound}
use Rattle.mg_engine_change_laws.specs.tables.Rows.{reading_with}
use Rattle.mg_engine_meaning_laws.specs.PlainLaws.{HasStood}
use Rattle.mg_engine_meaning_laws.specs.PlainTables.{AreFirst, HasPlainTables, IsPlainTable}
use Rattle.mg_noted_laws.specs.ChoiceTables.{table_in_first}
use Rattle.mg_model.specs.Openings.{everyone}
use Rattle.mg_engine_change_laws.specs.tables.StandMade.{stand_at}

none_in : HasNoSequences packed_form
none_in page n is = is

-- all columns came with the table
pub all_first : (columns : List Column) → All (λ (c : Column). c.since ≡ 1) columns → AreFirst columns
all_first [] all = tt
all_first (c ∷ cs) all = (all 0 c (omega arith), all_first cs (λ k d below. all (suc k) d (omega (arith, below))))

-- one of the tables with one more is that one, or one of them
among_with : (s : Stand) (ss : List Stand) (x : Table) → IsOneOf (map (λ y. y.table) (stands_with s ss)) x
    → (s.table ≡ x) ⊎ IsOneOf (map (λ y. y.table) ss) x
among_with s [] x (inl same) = inl same
among_with s [] x (inr none) = absurd none
among_with s (u ∷ us) x is = at (slice_cmp nat_cmp s.table.name u.table.name) is (among_with s us x)
  where
    at : (o : Ordering) → IsOneOf (map (λ y. y.table) (by_order o (s ∷ u ∷ us) (s ∷ u ∷ us) (u ∷ stands_with s us))) x
        → (IsOneOf (map (λ y. y.table) (stands_with s us)) x → (s.table ≡ x) ⊎ IsOneOf (map (λ y. y.table) us) x)
        → (s.table ≡ x) ⊎ IsOneOf (map (λ y. y.table) (u ∷ us)) x
    at Less (inl same) more = inl same
    at Less (inr there) more = inr there
    at Equal (inl same) more = inl same
    at Equal (inr there) more = inr there
    at Greater (inl same) more = inr (inl same)
    at Greater (inr there) more = by (more there)
      where
        by : (s.table ≡ x) ⊎ IsOneOf (map (λ y. y.table) us) x → (s.table ≡ x) ⊎ IsOneOf (map (λ y. y.table) (u ∷ us)) x
        by (inl same) = inl same
        by (inr deeper) = inr (inr deeper)

-- that one is one of them, and each of them is
pub new_one : (s : Stand) (ss : List Stand) → IsOneOf (map (λ y. y.table) (stands_with s ss)) s.table
new_one s [] = inl refl
new_one s (u ∷ us) = at (slice_cmp nat_cmp s.table.name u.table.name) (new_one s us)
  where
    at : (o : Ordering) → IsOneOf (map (λ y. y.table) (stands_with s us)) s.table
        → IsOneOf (map (λ y. y.table) (by_order o (s ∷ u ∷ us) (s ∷ u ∷ us) (u ∷ stands_with s us))) s.table
    at Less more = inl refl
    at Equal more = inl refl
    at Greater more = inr more

pub old_one : (s : Stand) (ss : List Stand) (x : Table) → IsOneOf (map (λ y. y.table) ss) x
    → IsOneOf (map (λ y. y.table) (stands_with s ss)) x
old_one s [] x is = absurd is
old_one s (u ∷ us) x is = at (slice_cmp nat_cmp s.table.name u.table.name) is (old_one s us x)
  where
    at : (o : Ordering) → IsOneOf (map (λ y. y.table) (u ∷ us)) x
        → (IsOneOf (map (λ y. y.table) us) x → IsOneOf (map (λ y. y.table) (stands_with s us)) x)
        → IsOneOf (map (λ y. y.table) (by_order o (s ∷ u ∷ us) (s ∷ u ∷ us) (u ∷ stands_with s us))) x
    at Less there more = inr there
    at Equal there more = inr there
    at Greater (inl same) more = inl same
    at Greater (inr deeper) more = inr (more deeper)

-- tables of one of two fronts are those of the other
front_tables : (xs ys : List Stand) → AreFrontStands xs ys → (x : Table) → IsOneOf (map (λ y. y.table) ys) x
    → IsOneOf (map (λ y. y.table) xs) x
front_tables [] [] fronts x is = is
front_tables [] (y ∷ ys) fronts x is = absurd fronts
front_tables (z ∷ zs) [] fronts x is = absurd fronts
front_tables (z ∷ zs) (y ∷ ys) fronts x (inl same) = inl (fronts.0.table ∙ same)
front_tables (z ∷ zs) (y ∷ ys) fronts x (inr more) = inr (front_tables zs ys fronts.1 x more)

-- whoever is chosen, and one more
abbrev raised : ℕ → (ℕ → Bool) → ℕ → Bool
raised t chosen u = u == t || chosen u

raised_back : (t : ℕ) (chosen : ℕ → Bool) → chosen t ≡ false → (u : ℕ) → without t (raised t chosen) u ≡ chosen u
raised_back t chosen off u = at (u == t) refl
  where
    at : (b : Bool) → (u == t) ≡ b → (not b && (b || chosen u)) ≡ chosen u
    at true is = sym (ap chosen (eqb-true u t is) ∙ off)
    at false is = refl

raised_on : (t : ℕ) (chosen : ℕ → Bool) → raised t chosen t ≡ true
raised_on t chosen = rw (eq-eqb t t refl) refl

module _ (one : RowsAreOne packed_coding) (size : ℕ) (o : Opening) (h : Entries) (state : ℕ → TxState) (t : ℕ)
    (pool later : Pages) (rows : List Row) (name : List ℕ) (shape : Shape) (page : ℕ)
    (first : AreFirst shape.columns)
    (kept : (chosen : ℕ → Bool) → IsKept packed_form size o h (left_state chosen state) pool pool)
    (joined : (chosen : ℕ → Bool) → chosen t ≡ true → HasJoined packed_form size (left_state (without t chosen) state)
    (left_state chosen state) t pool later rows (stand_at name shape page) (kept chosen).layout (kept chosen).reading)
    (plain : HasPlainTables size state pool) where
  -- ---- where the maker counts, the tables that there were stand with the new one

  module _ (chosen : ℕ → Bool) (on : chosen t ≡ true) where
    sound_with : IsSoundBy packed_form size (left_state chosen state) later
        (layout_with (kept chosen).layout (joined chosen on).batch.layout (stand_at name shape page))
        (reading_with (joined chosen on).made (kept chosen).reading)
    sound_with = joined_sound packed_form size (left_state (without t chosen) state) (left_state chosen state) t pool later
        (kept chosen).layout (joined chosen on).batch.layout (kept chosen).reading (joined chosen on).batch.reading
        (joined chosen on).made (stand_at name shape page) (joined chosen on).raises (kept chosen).sound
        (joined chosen on).batch.sound (joined chosen on).joins

    catalog_same : (kept chosen).layout.catalog.table ≡ (joined chosen on).batch.layout.catalog.table
    catalog_same = (kept chosen).sound.catalog
        ∙ (ap (λ (bytes : List ℕ). catalog_table (header_in bytes).catalog.0) (sym (joined chosen on).batch.header)
        ∙ sym (joined chosen on).batch.sound.catalog)

  module _ (chosen : ℕ → Bool) (layout : Layout) (r : Reading)
      (sound : IsSoundBy packed_form size (left_state chosen state) later layout r) (x : Table)
      (its : IsTableOf layout x) where
    where_on : chosen t ≡ true → (table_at name shape page ≡ x) ⊎ HasStood size state pool x
    where_on on = by (one_standing (layout_with (kept chosen).layout (joined chosen on).batch.layout
        (stand_at name shape page)) x (subst (λ (l : Layout). IsTableOf l x) same its))
      where
        same : layout ≡ layout_with (kept chosen).layout (joined chosen on).batch.layout (stand_at name shape page)
        same = (sound_once packed_form one none_in size (left_state chosen state) later layout
            (layout_with (kept chosen).layout (joined chosen on).batch.layout (stand_at name shape page)) r
            (reading_with (joined chosen on).made (kept chosen).reading) sound (sound_with chosen on)).0

        was : IsOneOf (map (λ z. z.table) (stands_of (kept chosen).layout)) x → HasStood size state pool x
        was is = record {
          chosen = chosen;
          before = (kept chosen).layout;
          reading = (kept chosen).reading;
          sound = (kept chosen).sound;
          there = stands_in (kept chosen).layout x is;
        }

        others : (table_at name shape page ≡ x) ⊎ IsOneOf (map (λ z. z.table) (kept chosen).layout.tables) x
            → (table_at name shape page ≡ x) ⊎ HasStood size state pool x
        others (inl new) = inl new
        others (inr old) = inr (was (inr old))

        by : IsOneOf (map (λ z. z.table) (stands_of (layout_with (kept chosen).layout (joined chosen on).batch.layout
            (stand_at name shape page)))) x → (table_at name shape page ≡ x) ⊎ HasStood size state pool x
        by (inl cat) = inr (was (inl (catalog_same chosen on ∙ cat)))
        by (inr table) = others (among_with (stand_at name shape page) (kept chosen).layout.tables x table)

    where_off : chosen t ≡ false → HasStood size state pool x
    where_off off = record {
      chosen = chosen;
      before = it.batch.was;
      reading = it.batch.in_was;
      sound = subst (λ (st : ℕ → TxState). IsSoundBy packed_form size st pool it.batch.was it.batch.in_was) states
          it.batch.was_sound;
      there = stands_in it.batch.was x (front_tables (stands_of it.batch.was) (stands_of it.batch.layout)
          it.batch.behind.stands x (one_standing it.batch.layout x (subst (λ (l : Layout). IsTableOf l x) same its)));
    }
      where
        it : HasJoined packed_form size (left_state (without t (raised t chosen)) state)
            (left_state (raised t chosen) state) t pool later rows (stand_at name shape page)
            (kept (raised t chosen)).layout (kept (raised t chosen)).reading
        it = joined (raised t chosen) (raised_on t chosen)

        states : left_state (without t (raised t chosen)) state ≡ left_state chosen state
        states = ap (λ (c : ℕ → Bool). left_state c state) (fun_ext (raised_back t chosen off))

        same : layout ≡ it.batch.layout
        same = (sound_once packed_form one none_in size (left_state chosen state) later layout it.batch.layout r
            it.batch.reading sound (subst (λ (st : ℕ → TxState). IsSoundBy packed_form size st later it.batch.layout
            it.batch.reading) states it.batch.sound)).0

    -- a table that stands then is the new one, or stood before
    new_or_stood : (table_at name shape page ≡ x) ⊎ HasStood size state pool x
    new_or_stood = at (chosen t) refl
      where
        at : (b : Bool) → chosen t ≡ b → (table_at name shape page ≡ x) ⊎ HasStood size state pool x
        at true on = where_on on
        at false off = inr (where_off off)

  -- with all that are active in limbo the tables that there were stand with the new one
  abbrev with_it : Layout
  with_it = layout_with (kept everyone).layout (joined everyone refl).batch.layout (stand_at name shape page)

  -- so one that stood before and has the new one's name is that
  is_new : (y : Table) → HasStood size state pool y → name ≡ y.name → table_at name shape page ≡ y
  is_new y stood named = one_table packed_form size (left_state everyone state) later
      (layout_with (kept everyone).layout (joined everyone refl).batch.layout (stand_at name shape page))
      (reading_with (joined everyone refl).made (kept everyone).reading) (sound_with everyone refl)
      (table_at name shape page) y (stands_in with_it (table_at name shape page)
      (inr (new_one (stand_at name shape page) (kept everyone).layout.tables)))
      (stands_in with_it y (by (one_standing (kept everyone).layout y there))) named
    where
      there : IsTableOf (kept everyone).layout y
      there = table_in_first one size state pool (kept everyone).layout (kept everyone).reading (kept everyone).sound
          stood.chosen stood.before stood.reading stood.sound (plain.agree everyone stood.chosen (kept everyone).layout
          stood.before (kept everyone).reading stood.reading (kept everyone).sound stood.sound) y stood.there

      by : ((kept everyone).layout.catalog.table ≡ y) ⊎ IsOneOf (map (λ z. z.table) (kept everyone).layout.tables) y
          → IsOneOf (map (λ z. z.table) (stands_of (layout_with (kept everyone).layout
          (joined everyone refl).batch.layout (stand_at name shape page)))) y
      by (inl cat) = inl (sym (catalog_same everyone refl) ∙ cat)
      by (inr table) = inr (old_one (stand_at name shape page) (kept everyone).layout.tables y table)

  its_plain : (x : Table) → (table_at name shape page ≡ x) ⊎ HasStood size state pool x → IsPlainTable x
  its_plain x (inl new) = subst IsPlainTable new (record { no_index = refl; first = first })
  its_plain x (inr stood) = plain.each stood.chosen stood.before stood.reading stood.sound x stood.there

  both_agree : (x y : Table) → (table_at name shape page ≡ x) ⊎ HasStood size state pool x
      → (table_at name shape page ≡ y) ⊎ HasStood size state pool y → IsSameTable x y → x.indexes ≡ y.indexes
  both_agree x y (inl new) (inl also) same = ap (λ (z : Table). z.indexes) (sym new ∙ also)
  both_agree x y (inl new) (inr stood) same = ap (λ (z : Table). z.indexes)
      (sym new ∙ is_new y stood (ap (λ (z : Table). z.name) new ∙ same.name))
  both_agree x y (inr stood) (inl new) same = ap (λ (z : Table). z.indexes)
      (sym (is_new x stood (ap (λ (z : Table). z.name) new ∙ sym same.name)) ∙ new)
  both_agree x y (inr stood) (inr also) same = plain.agree stood.chosen also.chosen stood.before also.before stood.reading
      also.reading stood.sound also.sound x y stood.there also.there same

  pub plain_made : HasPlainTables size state later
  plain_made = record {
    each = λ chosen layout r sound x its. its_plain x (new_or_stood chosen layout r sound x its);
    agree = λ chosen other a b r s sound also x y there it same.
        both_agree x y (new_or_stood chosen a r sound x there) (new_or_stood other b s also y it) same;
  }
