-- What an engine knows of its pages, where all active transactions count, is so under each choice that has the
-- writer.
use Rattle.mg_base.specs.declared.numbers.RecId.{RecId}
use Rattle.mg_base.specs.declared.transaction.TxState.{TxState}
use Rattle.mg_base.specs.declared.transaction.TxState.TheVariants.{Active, Committed, Dead, Limbo}
use Rattle.mg_engine_step_laws.specs.writes.Knowing.{HasRowsOf}
use Rattle.mg_engine_step_laws.specs.tables.SameRecords.{catalog_stands, same_catalog, same_page, same_record}
use Rattle.mg_image_overlay_laws.specs.tables.Growing.{IsTableOf}
use Rattle.mg_image.specs.Form.{Form, Pages}
use Rattle.mg_image.specs.ReadingLaws.{RowsAreOne}
use Rattle.mg_image.specs.RecordRules.{Facts, IsInLimbo, TakesKey, committed_in}
use Rattle.mg_image.specs.Records.{Reading, writer}
use Rattle.mg_image.specs.Sound.{IsSoundBy, facts_by}
use Rattle.mg_image.specs.Tables.{Layout, stands_of, table_at}
use Rattle.mg_image.specs.declared.entry.Entry.{Entry}
use Rattle.mg_model.specs.Answers.{is_committed}
use Rattle.mg_model.specs.Openings.{everyone}
use Rattle.mg_model.specs.declared.table.Table.{Table}
use Rattle.mg_overlay_laws.specs.Overlays.{left_by, left_state}
use Rattle.std.proofs.Common.{Bool, List, Some, [], ap, false, inl, inr, refl, subst, sym, true, ℕ, ◌∙◌, ◌∷◌, ◌≡◌}
use Rattle.std.proofs.Math.Path.{fun_ext}
use Rattle.mg_image.specs.Records as records

-- ---- who counts

same_committed : (c : Bool) (x : TxState) → is_committed (left_by c x) ≡ is_committed (left_by true x)
same_committed true x = refl
same_committed false Active = refl
same_committed false Limbo = refl
same_committed false Dead = refl
same_committed false Committed = refl

limbo_too : (c : Bool) (x : TxState) → left_by c x ≡ Limbo → left_by true x ≡ Limbo
limbo_too true x is = is
limbo_too false Active is = absurd cc
limbo_too false Limbo is = refl
limbo_too false Dead is = absurd cc
limbo_too false Committed is = absurd cc

module _ (form : Form) (one : RowsAreOne form.coding) (size : ℕ) (state : ℕ → TxState) (pages : Pages)
    (all : Layout) (r : Reading) (whole : IsSoundBy form size (left_state everyone state) pages all r)
    (chosen : ℕ → Bool) (layout : Layout) (s : Reading)
    (sound : IsSoundBy form size (left_state chosen state) pages layout s) where
  abbrev f : Facts
  f = facts_by (left_state everyone state) pages all

  abbrev g : Facts
  g = facts_by (left_state chosen state) pages layout

  counts : committed_in g ≡ committed_in f
  counts = fun_ext (λ u. same_committed (chosen u) (state u))

  cat_is : layout.catalog.table ≡ all.catalog.table
  cat_is = same_catalog form size (left_state chosen state) (left_state everyone state) pages layout all s r
      sound whole

  cat_there : IsTableOf layout all.catalog.table
  cat_there = subst (IsTableOf layout) cat_is (catalog_stands layout)

  -- a table of both: its records are read alike, and whose key is taken is taken where all count
  module _ (table : Table) (in_all : IsTableOf all table) (its : IsTableOf layout table) where
    pub placed : (n : ℕ) → table_at (stands_of all) n ≡ Some table → table_at (stands_of layout) n ≡ Some table
    placed = same_page form one size (left_state everyone state) (left_state chosen state) pages all layout r s
        whole sound table in_all its

    pub read : (p : RecId) → table_at (stands_of all) p.page.0 ≡ Some table → r p ≡ s p
    read = same_record form one size (left_state everyone state) (left_state chosen state) pages all layout r s
        whole sound table in_all its

    pub placed_back : (n : ℕ) → table_at (stands_of layout) n ≡ Some table
        → table_at (stands_of all) n ≡ Some table
    placed_back = same_page form one size (left_state chosen state) (left_state everyone state) pages layout all
        s r sound whole table its in_all

    pub takes_too : (q : RecId) → table_at (stands_of layout) q.page.0 ≡ Some table → TakesKey g (s q)
        → TakesKey f (r q)
    takes_too q of takes = subst (TakesKey f) (sym same) (by takes)
      where
        same : r q ≡ s q
        same = read q (placed_back q.page.0 of)

        limbo : (es : List Entry) → IsInLimbo g es → IsInLimbo f es
        limbo [] is = is
        limbo (e ∷ es) is = limbo_too (chosen (writer e)) (state (writer e)) is

        by : TakesKey g (s q) → TakesKey f (s q)
        by (inl (row, shows)) = inl (row, subst (λ (c : ℕ → Bool). records.shown c (s q) ≡ Some row) counts shows)
        by (inr is) = inr (limbo (s q) is)

  -- whose rows a table may have
  pub rows_too : (t : ℕ) (name : List ℕ) → left_state chosen state t ≡ Limbo
      → HasRowsOf f r all.catalog.table t name → HasRowsOf g s layout.catalog.table t name
  rows_too t name its_limbo rows = subst (λ (c : Table). HasRowsOf g s c t name) (sym cat_is) (by rows)
    where
      there : (p : RecId) → table_at (stands_of all) p.page.0 ≡ Some all.catalog.table
          → table_at (stands_of layout) p.page.0 ≡ Some all.catalog.table
      there p of = placed all.catalog.table (catalog_stands all) cat_there p.page.0 of

      same : (p : RecId) → table_at (stands_of all) p.page.0 ≡ Some all.catalog.table → r p ≡ s p
      same p of = read all.catalog.table (catalog_stands all) cat_there p of

      by : HasRowsOf f r all.catalog.table t name → HasRowsOf g s all.catalog.table t name
      by (inl named) = inl (record {
        place = named.place;
        row = named.row;
        shows = record {
          of_table = there named.place named.shows.of_table;
          row_shown = subst (λ (c : ℕ → Bool). records.shown c (s named.place) ≡ Some named.row) (sym counts)
              (subst (λ (es : List Entry). records.shown (committed_in f) es ≡ Some named.row)
              (same named.place named.shows.of_table) named.shows.row_shown);
        };
        keyed = named.keyed;
      })
      by (inr made) = inr (record {
        place = made.place;
        version = made.version;
        limbo = record {
          of_table = there made.place made.limbo.of_table;
          older = made.limbo.older;
          newest = sym (same made.place made.limbo.of_table) ∙ made.limbo.newest;
          limbo = ap (left_state chosen state) made.its_own ∙ its_limbo;
        };
        its_own = made.its_own;
        alive = made.alive;
        keyed = made.keyed;
      })
