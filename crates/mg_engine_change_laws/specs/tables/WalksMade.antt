-- The walks of all others go on where a table is made: the catalog has the data pages that it had and more, every other
-- table its own, and no row of the maker counts for them.
use Rattle.std.proofs.Common.{◌≡◌, ◌≢◌, ◌⊎◌, inl, inr, refl, sym, ap, ◌∙◌, subst, ℕ, Bool, true, false, List, [], ◌∷◌, ◌++◌, Option, map}
use Rattle.std.specs.Cmp.Lexicographic.{slice_cmp}
use Rattle.std.specs.Ordering.{nat_cmp}
use Rattle.std.specs.declared.cmp.Ordering.{Ordering}
use Rattle.std.specs.declared.cmp.Ordering.TheVariants.{Less, Equal, Greater}
use Rattle.mg_base.specs.declared.numbers.RecId.{RecId}
use Rattle.mg_base.specs.declared.transaction.TxState.{TxState}
use Rattle.mg_base.specs.declared.transaction.TxState.TheVariants.{Active}
use Rattle.mg_chain.specs.Chains.{takes_version}
use Rattle.mg_model.specs.declared.table.Table.{Table}
use Rattle.mg_model.specs.Answers.{is_committed}
use Rattle.mg_model.specs.Changes.{by_order}
use Rattle.mg_model.specs.Openings.{everyone}
use Rattle.mg_overlay_laws.specs.Overlays.{left_state}
use Rattle.mg_seek.specs.Walks.{keyed}
use Rattle.mg_header.specs.HeaderPage.{header_in}
use Rattle.mg_image.specs.Catalog.{catalog_table}
use Rattle.mg_image.specs.declared.entry.Entry.{Entry}
use Rattle.mg_image.specs.Form.{Pages, Row, packed_coding, packed_form}
use Rattle.mg_image.specs.ReadingLaws.{RowsAreOne}
use Rattle.mg_image.specs.Records.{Reading, shown}
use Rattle.mg_image.specs.Sound.{HasTablePages, IsSoundBy}
use Rattle.mg_image.specs.Tables.{EachStand, Has, IsOnce, Layout, Stand, has, stands_of}
use Rattle.mg_image_overlay_laws.specs.pages.Grow.{each_mid}
use Rattle.mg_image_overlay_laws.specs.kept.KeptImages.{IsFrontOf}
use Rattle.mg_image_overlay_laws.specs.pages.Reach.{has_it, has_so, once_apart}
use Rattle.mg_image_overlay_laws.specs.pages.Growth.{has_back}
use Rattle.mg_image_overlay_laws.specs.tables.TableOwners.{IsOneOf}
use Rattle.mg_image_overlay_laws.specs.tables.Growing.{IsTableOf}
use Rattle.mg_image_overlay_laws.specs.kept.Knowing.{its_pages}
use Rattle.mg_image_overlay_laws.specs.tables.OneChain.{same_stand}
use Rattle.mg_image_overlay_laws.specs.tables.OneLayout.{sound_once}
use Rattle.mg_image_overlay_laws.specs.tables.OneTable.{stands_in}
use Rattle.mg_engine_change_laws.specs.tables.Joined.{IsMade, layout_with, stands_with}
use Rattle.mg_engine_change_laws.specs.tables.JoinedBatch.{HasJoined}
use Rattle.mg_engine_change_laws.specs.tables.JoinedRows.{cases_made}
use Rattle.mg_engine_change_laws.specs.tables.Rows.{MadeRow, reading_with}
use Rattle.mg_engine_step_laws.specs.standing.Known.{IsShown}
use Rattle.mg_engine_step_laws.specs.standing.Standing.{Standing}
use Rattle.mg_engine_step_laws.specs.tables.TablePages.{data_once}
use Rattle.mg_engine_change_laws.specs.rows.RowWalks.{ShowsOn, row_at_record}
use Rattle.mg_engine_change_laws.specs.rows.RowWalksLaws.{row_walks_go_on}
use Rattle.mg_engine_change_laws.specs.rows.WalkLaws.{over_shown, unseen}
use Rattle.mg_engine_change_laws.specs.rows.Walks.{OthersWalkOn}

-- ---- lists

-- what is behind a front
record HasMore (ns all : List ℕ) : Type 0 where
  more : List ℕ
  is_ : all ≡ ns ++ more

behind_front : (ns all : List ℕ) → IsFrontOf ns all → HasMore ns all
behind_front [] all front = record { more = all; is_ = refl }
behind_front (n ∷ ns) [] front = absurd front
behind_front (n ∷ ns) (m ∷ ms) front =
    let it = behind_front ns ms front.1 in
    record {
      more = it.more;
      is_ = (λ i. sym front.0 i ∷ ms) ∙ ap (λ (ks : List ℕ). n ∷ ks) it.is_;
    }

nothing_more : (ns : List ℕ) → ns ≡ ns ++ []
nothing_more [] = refl
nothing_more (n ∷ ns) = ap (λ (ks : List ℕ). n ∷ ks) (nothing_more ns)

-- a table that was there is there with one more
one_with : (s : Stand) (ss : List Stand) (x : Table) → IsOneOf (map (λ y. y.table) ss) x
    → IsOneOf (map (λ y. y.table) (stands_with s ss)) x
one_with s [] x is = absurd is
one_with s (u ∷ us) x is = at (slice_cmp nat_cmp s.table.name u.table.name) is (one_with s us x)
  where
    at : (o : Ordering) → IsOneOf (map (λ y. y.table) (u ∷ us)) x
        → (IsOneOf (map (λ y. y.table) us) x → IsOneOf (map (λ y. y.table) (stands_with s us)) x)
        → IsOneOf (map (λ y. y.table) (by_order o (s ∷ u ∷ us) (s ∷ u ∷ us) (u ∷ stands_with s us))) x
    at Less there more = inr there
    at Equal there more = inr there
    at Greater (inl same) more = inl same
    at Greater (inr deeper) more = inr (more deeper)

each_one : (ss all : List Stand) → ((x : Table) → IsOneOf (map (λ y. y.table) ss) x
    → IsOneOf (map (λ y. y.table) all) x) → (P : Stand → Type 0) → EachStand P ss
    → EachStand (λ y. P y × IsOneOf (map (λ z. z.table) all) y.table) ss
each_one [] all within P each = tt
each_one (s ∷ ss) all within P each =
    ((each.0, within s.table (inl refl)), each_one ss all (λ x is. within x (inr is)) P each.1)

each_inr : (P Q : Stand → Type 0) (ss : List Stand) → EachStand Q ss → EachStand (λ y. P y ⊎ Q y) ss
each_inr P Q [] each = tt
each_inr P Q (s ∷ ss) each = (inr each.0, each_inr P Q ss each.1)

-- ---- a walk

module _ (one : RowsAreOne packed_coding) (size : ℕ) (s : Standing) (dead : ℕ → TxState) (t : ℕ) (pages later : Pages)
    (rows : List Row) (stand : Stand) (a : Layout) (r : Reading)
    (joined : HasJoined packed_form size dead (left_state everyone s.state) t pages later rows stand a r)
    (sound : IsSoundBy packed_form size (left_state everyone s.state) pages a r)
    (sound_now : IsSoundBy packed_form size (left_state everyone s.state) later
    (layout_with a joined.batch.layout stand) (reading_with joined.made r)) (active : s.state t ≡ Active) where
  abbrev c : Layout
  c = joined.batch.layout

  abbrev d : Layout
  d = joined.batch.was

  abbrev now : Layout
  now = layout_with a joined.batch.layout stand

  abbrev read_now : Reading
  read_now = reading_with joined.made r

  module _ (u : ℕ) (apart : u ≢ t) (table : Table) where
    abbrev counts : ℕ → Bool
    counts = takes_version s.state s.live u

    off : takes_version s.state s.live u t ≡ false
    off = unseen s t u (ap is_committed active) apart

    -- of each record the row counts that counted
    rows_all : (p : RecId) → row_at_record (takes_version s.state s.live u) table (reading_with joined.made r) p
        ≡ row_at_record (takes_version s.state s.live u) table r p
    rows_all p = at (cases_made joined.made r p)
      where
        at : ((row : MadeRow) × IsMade joined.made row × (row.at ≡ p)
            × (reading_with joined.made r p ≡ row.first ∷ [])) ⊎ (reading_with joined.made r p ≡ r p)
            → row_at_record (takes_version s.state s.live u) table (reading_with joined.made r) p
            ≡ row_at_record (takes_version s.state s.live u) table r p
        at (inr same) = ap (λ (es : List Entry). keyed table (shown counts es) []) same
        at (inl (row, is, here_, reads)) = ap (λ (es : List Entry). keyed table (shown counts es) []) reads
            ∙ (ap (λ (x : Option Row). keyed table x [])
            (over_shown row.first [] t (joined.joins.rows row is).its counts off)
            ∙ ap (λ (es : List Entry). keyed table (shown counts es) [])
            (sym (ap r (sym here_) ∙ (joined.joins.rows row is).empty)))

    module _ (was : IsShown a table) where
      -- ---- it is the catalog

      module _ (its_catalog : was.stands.stand.table ≡ a.catalog.table) where
        cat_now : c.catalog.table ≡ was.its
        cat_now = joined.batch.sound.catalog
            ∙ (ap (λ (bytes : List ℕ). catalog_table (header_in bytes).catalog.0) joined.batch.header
            ∙ (sym sound.catalog ∙ (sym its_catalog ∙ was.stands.table_is)))

        stand_was : d.catalog ≡ was.stands.stand
        stand_was = same_stand packed_form.in_primary size pages d.catalog was.stands.stand
            joined.batch.was_sound.tables.0
            (its_pages packed_form size (left_state everyone s.state) pages a r sound was.its was.stands)
            (joined.batch.was_sound.catalog ∙ (sym sound.catalog ∙ sym its_catalog))

        first_was : a.catalog ≡ was.stands.stand
        first_was = same_stand packed_form.in_primary size pages a.catalog was.stands.stand sound.tables.0
            (its_pages packed_form size (left_state everyone s.state) pages a r sound was.its was.stands)
            (sym its_catalog)

        behind : HasMore was.stands.stand.data_pages c.catalog.data_pages
        behind = behind_front was.stands.stand.data_pages c.catalog.data_pages
            (subst (λ (x : Stand). IsFrontOf x.data_pages c.catalog.data_pages) stand_was
            joined.batch.behind.stands.0.data_pages)

        abbrev stands_now : IsTableOf (layout_with a joined.batch.layout stand) was.its
        stands_now = record {
          before = [];
          stand = c.catalog;
          after = stands_with stand a.tables;
          is_ = refl;
          table_is = cat_now;
        }

        none_there : (p : RecId) → Has behind.more p.page.0
            → row_at_record (takes_version s.state s.live u) table (reading_with joined.made r) p ≡ []
        none_there p is = rows_all p ∙ at (joined.joins.fresh p
            (has_so c.catalog.data_pages p.page.0 (subst (λ (ns : List ℕ). Has ns p.page.0) (sym behind.is_)
            (has_back was.stands.stand.data_pages behind.more p.page.0 is))))
          where
            at : (has a.catalog.data_pages p.page.0 ≡ true) ⊎ (r p ≡ [])
                → row_at_record (takes_version s.state s.live u) table r p ≡ []
            at (inr none) = ap (λ (es : List Entry). keyed table (shown counts es) []) none
            at (inl there) = absurd (once_apart was.stands.stand.data_pages behind.more p.page.0
                (subst IsOnce behind.is_ (data_once size (left_state everyone s.state) later now read_now sound_now was.its
                stands_now)) (subst (λ (x : Stand). Has x.data_pages p.page.0) first_was
                (has_it a.catalog.data_pages p.page.0 there)) is)

        catalog_on : ShowsOn size s s later u table a r was
        catalog_on = record {
          layout = layout_with a joined.batch.layout stand;
          reading = reading_with joined.made r;
          sound = sound_now;
          is_ = record { its = was.its; stands = stands_now; same = was.same };
          same = record {
            more = behind.more;
            data_pages = behind.is_;
            rows = λ p is. rows_all p;
            none = none_there;
          };
        }

      -- ---- it is another table

      module _ (pages_later : HasTablePages packed_form.in_primary size later was.stands.stand)
          (among : IsOneOf (map (λ y. y.table) a.tables) was.stands.stand.table) where
        found : IsTableOf (layout_with a joined.batch.layout stand) was.its
        found = stands_in now was.its (inr (one_with stand a.tables was.its
            (subst (IsOneOf (map (λ y. y.table) a.tables)) was.stands.table_is among)))

        same_pages : found.stand ≡ was.stands.stand
        same_pages = same_stand packed_form.in_primary size later found.stand was.stands.stand
            (its_pages packed_form size (left_state everyone s.state) later now read_now sound_now was.its found)
            pages_later (found.table_is ∙ sym was.stands.table_is)

        table_on : ShowsOn size s s later u table a r was
        table_on = record {
          layout = layout_with a joined.batch.layout stand;
          reading = reading_with joined.made r;
          sound = sound_now;
          is_ = record { its = was.its; stands = found; same = was.same };
          same = record {
            more = [];
            data_pages = ap (λ (x : Stand). x.data_pages) same_pages ∙ nothing_more was.stands.stand.data_pages;
            rows = λ p is. rows_all p;
            none = λ p is. absurd is;
          };
        }

      abbrev Either : Stand → Type 0
      Either x = (x.table ≡ a.catalog.table) ⊎ (HasTablePages packed_form.in_primary size later x
          × IsOneOf (map (λ y. y.table) a.tables) x.table)

      each_either : EachStand Either (stands_of a)
      each_either = (
        inl refl,
        each_inr (λ x. x.table ≡ a.catalog.table)
            (λ x. HasTablePages packed_form.in_primary size later x × IsOneOf (map (λ y. y.table) a.tables) x.table)
            a.tables (each_one a.tables a.tables (λ x is. is) (HasTablePages packed_form.in_primary size later)
            joined.joins.tables_pages),
      )

      shows_on : ShowsOn size s s later u table a r was
      shows_on = at (each_mid Either was.stands.before was.stands.after was.stands.stand
          (subst (EachStand Either) was.stands.is_ each_either))
        where
          at : Either was.stands.stand → ShowsOn size s s later u table a r was
          at (inl cat) = catalog_on cat
          at (inr (there, among)) = table_on there among

    everywhere : (b : Layout) (q : Reading) → IsSoundBy packed_form size (left_state everyone s.state) pages b q
        → (was : IsShown b table) → ShowsOn size s s later u table b q was
    everywhere b q second =
        let same : (a ≡ b) × (r ≡ q) = sound_once packed_form one (λ page n is. is) size
        (left_state everyone s.state) pages a b r q sound second in
        subst (λ (x : Reading). (was : IsShown b table) → ShowsOn size s s later u table b x was) same.1
        (subst (λ (l : Layout). (was : IsShown l table) → ShowsOn size s s later u table l r was) same.0 shows_on)

  pub walks_made : OthersWalkOn size s pages later t
  walks_made u apart also table after_ its_rows =
      row_walks_go_on size s s pages later u table after_ its_rows (everywhere u apart table)
