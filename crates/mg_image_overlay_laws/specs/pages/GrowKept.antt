-- A table of the pool gets a data page: what an overlay has to be it is afterwards, with the page and
-- without.
use Rattle.mg_pointer.specs.PointerPage.{next_in}
use Rattle.mg_image_overlay_laws.specs.pages.Kinds.{pointers_of}
use Rattle.mg_base.specs.declared.numbers.RecId.{RecId}
use Rattle.mg_base.specs.declared.transaction.TxState.{TxState}
use Rattle.mg_base.specs.declared.transaction.TxState.TheVariants.{Limbo}
use Rattle.mg_header.specs.declared.header.Header.{Header}
use Rattle.mg_image.specs.Form.{Form, Pages, Row}
use Rattle.mg_image.specs.Held.{AreChanges, Changes, Database, HasLimbo, IsChangedAt, IsHeld, IsHeldAt, Shows}
use Rattle.mg_image.specs.Histories.{newest_at}
use Rattle.mg_image.specs.Inventory.{header_of, is_used, last_sequence, next_of, tip_page}
use Rattle.mg_image.specs.RecordRules.{Facts, committed_in, table_in}
use Rattle.mg_image.specs.Records.{Change, Reading, shown}
use Rattle.mg_image.specs.Sound.{IsSoundBy, facts_by}
use Rattle.mg_image.specs.Tables.{Has, Layout, Stand, stands_of}
use Rattle.mg_image.specs.declared.entry.Entry.{Entry}
use Rattle.mg_image_overlay_laws.specs.pages.BehindTrees.{trees_with}
use Rattle.mg_image_overlay_laws.specs.pages.Frame.{KeepsLinked, facts_same, frame_sound, header_as, tip_kept}
use Rattle.mg_image_overlay_laws.specs.records.Fronts.{HasFronts}
use Rattle.mg_image_overlay_laws.specs.pages.Grow.{GrowsImage, grow_sound, header_is, its_table, last_is, other_table, tip_is, with_grown}
use Rattle.mg_image_overlay_laws.specs.pages.Growth.{grown}
use Rattle.mg_image_overlay_laws.specs.kept.Rest.{div_grows}
use Rattle.mg_image_overlay_laws.specs.kept.KeptImages.{AllBehind, AreFrontStands, IsBehind, IsFrontOf, IsFrontStand, IsKept, StandsBehind, all_trees}
use Rattle.mg_model.specs.Changes.{row_at}
use Rattle.mg_model.specs.History.{Entries}
use Rattle.mg_model.specs.Machine.{database, own}
use Rattle.mg_model.specs.declared.opening.Opening.{Opening}
use Rattle.mg_model.specs.declared.table.Table.{Table}
use Rattle.mg_tip.specs.TipPage.{places}
use Rattle.mg_value.specs.declared.value.Value.{Value}
use Rattle.std.proofs.Common.{Bool, List, None, Some, [], ap, arith, inl, inr, refl, subst, sym, true, ℕ, ◌++◌, ◌-◌, ◌∙◌, ◌∷◌, ◌≡◌, ◌≢◌, ◌≤◌, ◌⊎◌}
use Rattle.std.proofs.lemmas.Bool.{cases_eq}

-- What `IsKept` says, of these layouts.
pub record KeptAs (form : Form) (size : ℕ) (o : Opening) (h : Entries) (state : ℕ → TxState)
    (pool image : Pages) (of_pool layout : Layout) : Type 0 where
  pub in_pool : Reading
  pub reading : Reading
  pub sound : IsSoundBy form size state image layout reading
  pub pool_sound : IsSoundBy form size state pool of_pool in_pool
  pub behind : IsBehind size pool image of_pool layout
  pub fronts : HasFronts (facts_by state pool of_pool) (facts_by state image layout) in_pool reading
  pub rows : Database
  pub held : IsHeld (facts_by state image layout) (committed_in (facts_by state image layout)) reading rows
  pub rows_are : (name : List ℕ) (key : Value) → rows name key ≡ row_at (database o h) name key
  pub changes : Changes
  pub changed : AreChanges (facts_by state image layout) reading changes
  pub changes_are : (t : ℕ) (name : List ℕ) (key : Value) → state t ≡ Limbo
      → changes t name key ≡ newest_at (own o h t) name key

pub kept_as : (form : Form) (size : ℕ) (o : Opening) (h : Entries) (state : ℕ → TxState)
    (pool image : Pages) (kept : IsKept form size o h state pool image)
    → KeptAs form size o h state pool image kept.of_pool kept.layout
kept_as form size o h state pool image kept = record {
  in_pool = kept.in_pool;
  reading = kept.reading;
  sound = kept.sound;
  pool_sound = kept.pool_sound;
  behind = kept.behind;
  fronts = kept.fronts;
  rows = kept.rows;
  held = kept.held;
  rows_are = kept.rows_are;
  changes = kept.changes;
  changed = kept.changed;
  changes_are = kept.changes_are;
}

pub kept_of : (form : Form) (size : ℕ) (o : Opening) (h : Entries) (state : ℕ → TxState)
    (pool image : Pages) (of_pool layout : Layout)
    → KeptAs form size o h state pool image of_pool layout → IsKept form size o h state pool image
kept_of form size o h state pool image of_pool layout as_ = record {
  of_pool = of_pool;
  in_pool = as_.in_pool;
  layout = layout;
  reading = as_.reading;
  sound = as_.sound;
  pool_sound = as_.pool_sound;
  behind = as_.behind;
  fronts = as_.fronts;
  rows = as_.rows;
  held = as_.held;
  rows_are = as_.rows_are;
  changes = as_.changes;
  changed = as_.changed;
  changes_are = as_.changes_are;
}

-- ---- what is held, where a page comes to be one of a table, and no record begins on it

-- Two facts differ in one page, which comes to be of a table.
pub record IsOnePageMore (f g : Facts) (n : ℕ) (table : Table) : Type 0 where
  pub was : f.table_of n ≡ None
  pub is : g.table_of n ≡ Some table
  pub others : (m : ℕ) → m ≢ n → g.table_of m ≡ f.table_of m

module _ (state : ℕ → TxState) (old new : Pages) (layout layout_after : Layout) (n : ℕ)
    (table : Table) (r : Reading)
    (more : IsOnePageMore (facts_by state old layout) (facts_by state new layout_after) n table)
    (empty : (p : RecId) → p.page.0 ≡ n → r p ≡ []) where
  abbrev f : Facts
  f = facts_by state old layout

  abbrev g : Facts
  g = facts_by state new layout_after

  of_before : (p : RecId) (other : Table) → table_in g p ≡ Some other
      → (r p ≡ []) ⊎ (table_in f p ≡ Some other)
  of_before p other of = at (cases_eq p.page.0 n)
    where
      at : (p.page.0 ≡ n) ⊎ (p.page.0 ≢ n) → (r p ≡ []) ⊎ (table_in f p ≡ Some other)
      at (inl same) = inl (empty p same)
      at (inr ne) = inr (sym (more.others p.page.0 ne) ∙ of)

  of_after : (p : RecId) (other : Table) → table_in f p ≡ Some other → table_in g p ≡ Some other
  of_after p other of = at (cases_eq p.page.0 n)
    where
      at : (p.page.0 ≡ n) ⊎ (p.page.0 ≢ n) → table_in g p ≡ Some other
      at (inl same) =
          let both : Some other ≡ None = sym of ∙ (ap f.table_of same ∙ more.was) in absurd cc
      at (inr ne) = more.others p.page.0 ne ∙ of

  shows_was : (counts : ℕ → Bool) (p : RecId) (other : Table) (row : Row)
      → Shows g counts r p other row → Shows f counts r p other row
  shows_was counts p other row shows = at (of_before p other shows.of_table)
    where
      at : (r p ≡ []) ⊎ (table_in f p ≡ Some other) → Shows f counts r p other row
      at (inl none) =
          let both : None ≡ Some row = ap (shown counts) (sym none) ∙ shows.row_shown in absurd cc
      at (inr of) = record { of_table = of; row_shown = shows.row_shown }

  limbo_was : (p : RecId) (other : Table) (e : Entry) → HasLimbo g r p other e → HasLimbo f r p other e
  limbo_was p other e has = at (of_before p other has.of_table)
    where
      at : (r p ≡ []) ⊎ (table_in f p ≡ Some other) → HasLimbo f r p other e
      at (inl none) =
          let both : [] ≡ e ∷ has.older = sym none ∙ has.newest in absurd cc
      at (inr of) = record {
        of_table = of;
        older = has.older;
        newest = has.newest;
        limbo = has.limbo;
      }

  pub grown_held : (db : Database) → IsHeld f (committed_in f) r db → IsHeld g (committed_in g) r db
  grown_held db held = record {
    there = λ p other row shows has. held.there p other row (shows_was (committed_in f) p other row shows) has;
    whole = λ name key row is. at name key row (held.whole name key row is);
    tables = held.tables;
  }
    where
      at : (name : List ℕ) (key : Value) (row : Row) → IsHeldAt f (committed_in f) r name key row
          → IsHeldAt g (committed_in g) r name key row
      at name key row it = record {
        place = it.place;
        table = it.table;
        stored = it.stored;
        shows = record {
          of_table = of_after it.place it.table it.shows.of_table;
          row_shown = it.shows.row_shown;
        };
        named = it.named;
        keyed = it.keyed;
        told = it.told;
      }

  pub grown_changes : (changes : Changes) → AreChanges f r changes → AreChanges g r changes
  grown_changes changes are = record {
    there = λ p other e has. are.there p other e (limbo_was p other e has);
    whole = λ t name key change is. at t name key change (are.whole t name key change is);
  }
    where
      at : (t : ℕ) (name : List ℕ) (key : Value) (change : Change) → IsChangedAt f r t name key change
          → IsChangedAt g r t name key change
      at t name key change it = record {
        place = it.place;
        table = it.table;
        version = it.version;
        limbo = record {
          of_table = of_after it.place it.table it.limbo.of_table;
          older = it.limbo.older;
          newest = it.limbo.newest;
          limbo = it.limbo.limbo;
        };
        its_own = it.its_own;
        named = it.named;
        keyed = it.keyed;
        told = it.told;
      }

-- ---- lists

pub front_last : (ms ns : List ℕ) (n : ℕ) → IsFrontOf ms ns → IsFrontOf ms (ns ++ (n ∷ []))
front_last [] ns n front = tt
front_last (m ∷ ms) [] n front = absurd front
front_last (m ∷ ms) (k ∷ ks) n front = (front.0, front_last ms ks n front.1)

pub front_both : (ms ns : List ℕ) (n : ℕ) → ms ≡ ns → IsFrontOf (ms ++ (n ∷ [])) (ns ++ (n ∷ []))
front_both ms ns n same = subst (λ (ks : List ℕ). IsFrontOf (ks ++ (n ∷ [])) (ns ++ (n ∷ []))) (sym same)
    (self (ns ++ (n ∷ [])))
  where
    self : (ks : List ℕ) → IsFrontOf ks ks
    self [] = tt
    self (k ∷ ks) = (refl, self ks)

-- a table that gets a data page has the pointer pages that it had
pub pointers_grown : (before after : List Stand) (stand : Stand) (n : ℕ)
    → pointers_of (before ++ (grown stand n ∷ after)) ≡ pointers_of (before ++ (stand ∷ after))
pointers_grown [] after stand n = refl
pointers_grown (other ∷ before) after stand n =
    ap (λ (ns : List ℕ). other.pointers ++ ns) (pointers_grown before after stand n)

-- stands that are behind others, joined
pub fronts_joined : (before' after' before after : List Stand) (stand' stand : Stand)
    → AreFrontStands before' before → IsFrontStand stand' stand → AreFrontStands after' after
    → AreFrontStands (before' ++ (stand' ∷ after')) (before ++ (stand ∷ after))
fronts_joined [] after' [] after stand' stand first mid last = (mid, last)
fronts_joined [] after' (b ∷ before) after stand' stand first mid last = absurd first
fronts_joined (a ∷ before') after' [] after stand' stand first mid last = absurd first
fronts_joined (a ∷ before') after' (b ∷ before) after stand' stand first mid last =
    (first.0, fronts_joined before' after' before after stand' stand first.1 mid last)

-- ---- the pool grows

module _ (form : Form) (size : ℕ) (o : Opening) (h : Entries) (state : ℕ → TxState)
    (pool changed image laid : Pages) (catalog : Stand) (sequences : List ℕ)
    (before after : List Stand) (stand : Stand) (front : List ℕ) (q n : ℕ)
    (grows : GrowsImage form size pool changed (catalog ∷ before) after stand front q n sequences) where
  abbrev pub of_pool : Layout
  of_pool = record { catalog = catalog; tables = before ++ (stand ∷ after); sequences = sequences }

  abbrev pub of_pool_after : Layout
  of_pool_after = record { catalog = catalog; tables = with_grown before stand n after; sequences = sequences }

  -- an image that is behind the pool is behind the grown one, where its header and its pages of
  -- transactions stay
  module _ (layout layout_after : Layout)
      (kept : KeptAs form size o h state pool image of_pool layout)
      (used : (m : ℕ) → is_used size laid m ≡ true → is_used size changed m ≡ true)
      (header : header_of laid ≡ header_of image)
      (tip_same : (sequence : ℕ) → sequence ≤ last_sequence size image
      → (tip_page size laid sequence ≡ tip_page size image sequence)
      × (laid (tip_page size laid sequence) ≡ image (tip_page size image sequence)))
      (last_same : last_sequence size laid ≡ last_sequence size image)
      (stands : AreFrontStands (stands_of layout_after) (stands_of of_pool_after))
      (chained : (m : ℕ) → Has (pointers_of (stands_of layout_after)) m → next_in (laid m) ≢ 0
      → laid m ≡ changed m)
      (trees : StandsBehind changed laid (stands_of of_pool_after) (stands_of layout_after)) where
    pool_header : header_of changed ≡ header_of pool
    pool_header = header_is size pool changed grows.header_page grows.stand_grows.used grows.lengths
        kept.pool_sound.header kept.pool_sound.transactions grows.tips

    pub grown_behind : IsBehind size changed laid of_pool_after layout_after
    grown_behind = record {
      next = subst (λ (h : Header). h.next.0 ≤ next_of changed) (sym header)
          (subst (λ (h : Header). next_of image ≤ h.next.0) (sym pool_header) kept.behind.next);
      used = used;
      stands = stands;
      chained = chained;
      tips = λ sequence below. tips sequence (subst (λ (m : ℕ). sequence ≤ m) last_same below);
      trees = trees;
    }
      where
        last_within : last_sequence size image ≤ last_sequence size pool
        last_within = div_grows (next_of image - 1) (next_of pool - 1) (places size)
            (let next = kept.behind.next in omega arith)

        tips : (sequence : ℕ) → sequence ≤ last_sequence size image
            → (tip_page size laid sequence ≡ tip_page size changed sequence)
            × (laid (tip_page size laid sequence) ≡ changed (tip_page size changed sequence))
        tips sequence below =
            let within : sequence ≤ last_sequence size pool = omega (arith, below, last_within) in
            let page : tip_page size changed sequence ≡ tip_page size pool sequence =
            tip_is size pool changed grows.header_page grows.stand_grows.used grows.lengths
            kept.pool_sound.header kept.pool_sound.transactions grows.tips sequence within in
            let content : changed (tip_page size changed sequence) ≡ pool (tip_page size pool sequence) =
            ap changed page ∙ grows.tips sequence within in (
              (tip_same sequence below).0 ∙ ((kept.behind.tips sequence below).0 ∙ sym page),
              (tip_same sequence below).1 ∙ ((kept.behind.tips sequence below).1 ∙ sym content),
            )

  pub pool_grown : (r : Reading) → IsSoundBy form size state pool of_pool r
      → IsSoundBy form size state changed of_pool_after r
  pool_grown r sound = grow_sound form size state pool changed catalog sequences r before after stand
      front q n sound grows

  -- the table has the trees that it had
  trees_out : (stands : List Stand) → StandsBehind changed laid (stands_of of_pool) stands
      → StandsBehind changed laid (stands_of of_pool_after) stands
  trees_out stands = subst (λ (ts : List (List (List (List ℕ)))). AllBehind changed laid ts (all_trees stands))
      (sym (trees_with (catalog ∷ before) after stand (grown stand n) refl))

  -- ---- an overlay that does not reach the page

  pub grow_out : (layout : Layout) → KeptAs form size o h state pool image of_pool layout
      → KeepsLinked form size image laid layout
      → ((m : ℕ) → is_used size laid m ≡ true → is_used size changed m ≡ true)
      → AreFrontStands (stands_of layout) (stands_of of_pool_after)
      → ((m : ℕ) → Has (pointers_of (stands_of layout)) m → next_in (laid m) ≢ 0 → laid m ≡ changed m)
      → StandsBehind changed laid (stands_of of_pool) (stands_of layout)
      → KeptAs form size o h state changed laid of_pool_after layout
  grow_out layout kept keeps used stands chained trees = record {
    in_pool = kept.in_pool;
    reading = kept.reading;
    sound = frame_sound form size state image laid layout kept.reading kept.sound keeps;
    pool_sound = pool_grown kept.in_pool kept.pool_sound;
    behind = grown_behind layout layout kept used
        (header_as form size state image laid layout kept.reading kept.sound keeps)
        tips (last_is size image laid keeps.header_page keeps.used keeps.lengths kept.sound.header
        kept.sound.transactions (tip_kept form size state image laid layout kept.reading kept.sound keeps))
        stands chained (trees_out (stands_of layout) trees);
    fronts = record { state = λ t. refl; fronts = kept.fronts.fronts };
    rows = kept.rows;
    held = subst (λ (g : Facts). IsHeld g (committed_in g) kept.reading kept.rows) (sym facts) kept.held;
    rows_are = kept.rows_are;
    changes = kept.changes;
    changed = subst (λ (g : Facts). AreChanges g kept.reading kept.changes) (sym facts) kept.changed;
    changes_are = kept.changes_are;
  }
    where
      facts : facts_by state laid layout ≡ facts_by state image layout
      facts = facts_same form size state image laid layout kept.reading kept.sound keeps

      tips : (sequence : ℕ) → sequence ≤ last_sequence size image
          → (tip_page size laid sequence ≡ tip_page size image sequence)
          × (laid (tip_page size laid sequence) ≡ image (tip_page size image sequence))
      tips sequence below =
          let page : tip_page size laid sequence ≡ tip_page size image sequence =
          tip_is size image laid keeps.header_page keeps.used keeps.lengths kept.sound.header
          kept.sound.transactions
          (tip_kept form size state image laid layout kept.reading kept.sound keeps) sequence below in (
            page,
            ap laid page
                ∙ tip_kept form size state image laid layout kept.reading kept.sound keeps sequence below,
          )

  -- ---- one that does

  module _ (catalog' : Stand) (sequences' : List ℕ) (before' after' : List Stand) (stand' : Stand)
      (grows' : GrowsImage form size image laid (catalog' ∷ before') after' stand' front q n sequences')
    where
      abbrev pub layout' : Layout
      layout' = record { catalog = catalog'; tables = before' ++ (stand' ∷ after'); sequences = sequences' }

      abbrev pub layout_after' : Layout
      layout_after' = record {
        catalog = catalog';
        tables = with_grown before' stand' n after';
        sequences = sequences';
      }

      pub grow_in : (kept : KeptAs form size o h state pool image of_pool layout')
          → ((m : ℕ) → is_used size laid m ≡ true → is_used size changed m ≡ true)
          → IsFrontStand catalog' catalog → AreFrontStands before' before → IsFrontStand stand' stand
          → AreFrontStands after' after → stand'.data_pages ≡ stand.data_pages
          → ((m : ℕ) → Has (pointers_of (stands_of layout')) m → next_in (laid m) ≢ 0
          → laid m ≡ changed m)
          → StandsBehind changed laid (stands_of of_pool) (stands_of layout')
          → KeptAs form size o h state changed laid of_pool_after layout_after'
      grow_in kept used first fronts_before mid fronts_after data_same chained trees = record {
        in_pool = kept.in_pool;
        reading = kept.reading;
        sound = grow_sound form size state image laid catalog' sequences' kept.reading before' after'
            stand' front q n kept.sound grows';
        pool_sound = pool_grown kept.in_pool kept.pool_sound;
        behind = grown_behind layout' layout_after' kept used
            (header_is size image laid grows'.header_page grows'.stand_grows.used grows'.lengths
            kept.sound.header kept.sound.transactions grows'.tips) tips
            (last_is size image laid grows'.header_page grows'.stand_grows.used grows'.lengths
            kept.sound.header kept.sound.transactions grows'.tips) (
              first,
              fronts_joined before' after' before after (grown stand' n) (grown stand n)
                  fronts_before (record {
                    table = mid.table;
                    pointers = mid.pointers;
                    data_pages = front_both stand'.data_pages stand.data_pages n data_same;
                  }) fronts_after,
            )
            (λ m is. chained m (subst (λ (ns : List ℕ). Has ns m)
            (pointers_grown (catalog' ∷ before') after' stand' n) is))
            (subst (AllBehind changed laid (all_trees (stands_of of_pool_after)))
            (sym (trees_with (catalog' ∷ before') after' stand' (grown stand' n) refl))
            (trees_out (stands_of layout') trees));
        fronts = record { state = λ t. refl; fronts = kept.fronts.fronts };
        rows = kept.rows;
        held = grown_held state image laid layout' layout_after' n stand'.table kept.reading more empty
            kept.rows kept.held;
        rows_are = kept.rows_are;
        changes = kept.changes;
        changed = grown_changes state image laid layout' layout_after' n stand'.table kept.reading more
            empty kept.changes kept.changed;
        changes_are = kept.changes_are;
      }
        where
          tips : (sequence : ℕ) → sequence ≤ last_sequence size image
              → (tip_page size laid sequence ≡ tip_page size image sequence)
              × (laid (tip_page size laid sequence) ≡ image (tip_page size image sequence))
          tips sequence below =
              let page : tip_page size laid sequence ≡ tip_page size image sequence =
              tip_is size image laid grows'.header_page grows'.stand_grows.used grows'.lengths
              kept.sound.header kept.sound.transactions grows'.tips sequence below in
              (page, ap laid page ∙ grows'.tips sequence below)

          more : IsOnePageMore (facts_by state image layout') (facts_by state laid layout_after') n
              stand'.table
          more = record {
            was = grows'.no_table;
            is = its_table (catalog' ∷ before') after' stand' n grows'.no_table;
            others = λ m ne. other_table (catalog' ∷ before') after' stand' n m ne;
          }

          empty : (p : RecId) → p.page.0 ≡ n → kept.reading p ≡ []
          empty p same = kept.sound.records.outside p
              (ap (λ (m : ℕ). (facts_by state image layout').table_of m) same ∙ grows'.no_table)
