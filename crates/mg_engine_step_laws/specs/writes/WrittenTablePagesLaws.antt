-- Each table has the data pages that it had, in their order, and more, where versions of records are written.
use Rattle.std.proofs.Common.{◌≡◌, ap, refl, sym, subst, ◌∙◌, ℕ, false, List, [], ◌∷◌, Option}
use Rattle.std.specs.Prelude.{map}
use Rattle.mg_base.specs.declared.transaction.TxState.{TxState}
use Rattle.mg_careful.specs.Precedence.{Orders}
use Rattle.mg_engine_step_laws.specs.writes.WrittenTablePages.{FirstsKeepPages, HasLater, KeepsPages, MovesKeepPages, PagesAreKeptOn, PushesKeepPages, ReplacementsKeepPages, TakingOutKeepsPages}
use Rattle.mg_engine_step_laws.specs.writes.Reads.{grown_to}
use Rattle.mg_image_overlay_laws.specs.tables.Growing.{EndsAt, Grows, TableEnd}
use Rattle.mg_image_overlay_laws.specs.tables.GrowingLaws.{StandsTo, grows_part}
use Rattle.mg_image.specs.Form.{Form, Pages}
use Rattle.mg_image.specs.ReadingLaws.{RowsAreOne}
use Rattle.mg_image.specs.Records.{Reading}
use Rattle.mg_image.specs.Sound.{IsSoundBy}
use Rattle.mg_image.specs.Tables.{Layout, Stand, stands_of}
use Rattle.mg_image_overlay_laws.specs.pages.DataPages.{ChangesData}
use Rattle.mg_image_overlay_laws.specs.pages.Kinds.{HasNoSequences}
use Rattle.mg_image_overlay_laws.specs.pages.Trees.{trees_stay}
use Rattle.mg_image_overlay_laws.specs.kept.KeptImages.{AreFrontStands, IsFrontOf, IsKept}
use Rattle.mg_model.specs.History.{Entries}
use Rattle.mg_model.specs.declared.opening.Opening.{Opening}
use Rattle.mg_model.specs.declared.table.Table.{Table}
use Rattle.mg_image_overlay_laws.specs.tables.OneChain.{same_stands}
use Rattle.mg_image_overlay_laws.specs.tables.OneLayout.{sound_once}
use Rattle.mg_image_overlay_laws.specs.pages.DataKept.{IsDataChanged, data_more, data_self}

-- ---- fronts

front_self : (ns : List ℕ) → IsFrontOf ns ns
front_self [] = tt
front_self (n ∷ ns) = (refl, front_self ns)

front_then : (xs ys zs : List ℕ) → IsFrontOf xs ys → IsFrontOf ys zs → IsFrontOf xs zs
front_then [] ys zs first second = tt
front_then (x ∷ xs) [] zs first second = absurd first
front_then (x ∷ xs) (y ∷ ys) [] first second = absurd second
front_then (x ∷ xs) (y ∷ ys) (z ∷ zs) first second =
    (first.0 ∙ second.0, front_then xs ys zs first.1 second.1)

stands_self : (ss : List Stand) → AreFrontStands ss ss
stands_self [] = tt
stands_self (s ∷ ss) = (
  record { table = refl; pointers = front_self s.pointers; data_pages = front_self s.data_pages },
  stands_self ss,
)

stands_then : (xs ys zs : List Stand) → AreFrontStands xs ys → AreFrontStands ys zs → AreFrontStands xs zs
stands_then [] [] [] first second = tt
stands_then [] [] (z ∷ zs) first second = absurd second
stands_then [] (y ∷ ys) zs first second = absurd first
stands_then (x ∷ xs) [] zs first second = absurd first
stands_then (x ∷ xs) (y ∷ ys) [] first second = absurd second
stands_then (x ∷ xs) (y ∷ ys) (z ∷ zs) first second = (
  record {
    table = first.0.table ∙ second.0.table;
    pointers = front_then x.pointers y.pointers z.pointers first.0.pointers second.0.pointers;
    data_pages = front_then x.data_pages y.data_pages z.data_pages first.0.data_pages second.0.data_pages;
  },
  stands_then xs ys zs first.1 second.1,
)

pub pages_are_kept_on : PagesAreKeptOn
pages_are_kept_on a b c first second = stands_then (stands_of a) (stands_of b) (stands_of c) first second

-- ---- data pages changed

-- the tables of a layout of later pages are those of one of before
tables_same : (a b : Layout) → b.catalog.table ≡ a.catalog.table
    → map (λ s. s.table) b.tables ≡ map (λ s. s.table) a.tables
    → map (λ (s : Stand). s.table) (stands_of a) ≡ map (λ (s : Stand). s.table) (stands_of b)
tables_same a b catalog names = (λ i. sym catalog i ∷ map (λ (s : Stand). s.table) a.tables)
    ∙ ap (λ (ts : List Table). b.catalog.table ∷ ts) (sym names)

-- where data pages alone are changed, each table has its pages
still : (form : Form) (size : ℕ) (state : ℕ → TxState) (old new : Pages) (a b : Layout) (r : Reading)
    → IsDataChanged form size old new a → IsSoundBy form size state new b r → b.catalog.table ≡ a.catalog.table
    → map (λ s. s.table) b.tables ≡ map (λ s. s.table) a.tables → stands_of a ≡ stands_of b
still form size state old new a b r changed sound catalog names = same_stands form.in_primary size new (stands_of a)
    (stands_of b) changed.tables sound.tables (tables_same a b catalog names)

module _ (form : Form) (size : ℕ) (state : ℕ → TxState) (old new : Pages) (layout : Layout) (r : Reading)
    (changed : IsDataChanged form size old new layout) (after : HasLater form size state new layout r) where
  data_keeps : KeepsPages form size state new layout r after
  data_keeps = subst (AreFrontStands (stands_of layout)) (still form size state old new layout after.now after.reading
      changed after.sound after.grown.catalog after.grown.names) (stands_self (stands_of layout))

-- ---- a table has got pages

module _ (form : Form) (one : RowsAreOne form.coding) (none : HasNoSequences form) (size : ℕ) (o : Opening)
    (h : Entries) (state : ℕ → TxState) (pool grown : Pages) (layout : Layout) (r : Reading) (table : Table)
    (orders : Orders) (batch : ℕ → Option (List ℕ)) (end final : TableEnd)
    (kept : IsKept form size o h state pool pool) (sound : IsSoundBy form size state pool layout r)
    (row : Grows form.in_primary size table.pointer.0 orders batch pool end grown final)
    (ends : EndsAt layout table end) where
  pub to : StandsTo form size state pool grown layout r table final
  to = grown_to form one none size state pool grown layout r sound table orders batch end final row ends

  part : IsKept form size o h state grown pool
  part = grows_part form (sound_once form one none) none size (trees_stay form size) state table o h orders batch
      (λ n. false) pool (λ a b ordered in_batch in_set. absurd cc) pool grown end final row layout r sound ends kept

  before_is : part.layout ≡ layout
  before_is = (sound_once form one none size state pool part.layout layout part.reading r part.sound sound).0

  grown_is : part.of_pool ≡ to.layout
  grown_is = (sound_once form one none size state grown part.of_pool to.layout part.in_pool r part.pool_sound
      to.sound).0

  growth_keeps : AreFrontStands (stands_of layout) (stands_of to.layout)
  growth_keeps = subst (λ (l : Layout). AreFrontStands (stands_of layout) (stands_of l)) grown_is
      (subst (λ (l : Layout). AreFrontStands (stands_of l) (stands_of part.of_pool)) before_is part.behind.stands)

  -- and then data pages were changed
  module _ (new : Pages) (changed : IsDataChanged form size grown new to.layout)
      (after : HasLater form size state new layout r) where
    pub then_keeps : KeepsPages form size state new layout r after
    then_keeps = subst (AreFrontStands (stands_of layout)) (still form size state grown new to.layout after.now
        after.reading changed after.sound (after.grown.catalog ∙ sym to.grown.catalog)
        (after.grown.names ∙ sym to.grown.names)) growth_keeps

-- ---- some data pages, one after another

module _ (form : Form) (size : ℕ) (state : ℕ → TxState) (old : Pages) (layout : Layout) (r : Reading)
    (sound : IsSoundBy form size state old layout r) where
  changed_one : (new : Pages) (a : ℕ) → ChangesData form.in_primary old new a → IsDataChanged form size old new layout
  changed_one new a change = data_more form size state old layout r sound old new a
      (data_self form size state old layout r sound) change

  changed_two : (mid new : Pages) (a b : ℕ) → ChangesData form.in_primary old mid a
      → ChangesData form.in_primary mid new b → IsDataChanged form size old new layout
  changed_two mid new a b first second = data_more form size state old layout r sound mid new b
      (changed_one mid a first) second

  changed_three : (mid turned new : Pages) (a b c : ℕ) → ChangesData form.in_primary old mid a
      → ChangesData form.in_primary mid turned b → ChangesData form.in_primary turned new c
      → IsDataChanged form size old new layout
  changed_three mid turned new a b c first second third = data_more form size state old layout r sound turned new c
      (changed_two mid turned a b first second) third

-- ---- the laws

module _ (form : Form) (one : RowsAreOne form.coding) (none : HasNoSequences form) where
  pub pushes_keep_pages : PushesKeepPages form
  pushes_keep_pages size o h state pool grown mid changed layout r table orders batch end final p x v l link kept
      sound
      row ends pushes after = then_keeps form one none size o h state pool grown layout r table orders batch end final
      kept sound row ends changed
      (changed_two form size state grown (to form one none size o h state pool grown layout r table orders batch
      end final kept sound row ends).layout r (to form one none size o h state pool grown layout r table orders
      batch end final kept sound row ends).sound mid changed x.page.0 p.page.0 pushes.put_page pushes.slot_page)
      after

  pub firsts_keep_pages : FirstsKeepPages form
  firsts_keep_pages size o h state pool grown mid changed layout r table orders batch end final p x v link kept sound
      row ends adds after = then_keeps form one none size o h state pool grown layout r table orders batch end final
      kept sound row ends changed
      (changed_two form size state grown (to form one none size o h state pool grown layout r table orders batch
      end final kept sound row ends).layout r (to form one none size o h state pool grown layout r table orders
      batch end final kept sound row ends).sound mid changed x.page.0 p.page.0 adds.put_page adds.slot_page) after

  pub moves_keep_pages : MovesKeepPages form
  moves_keep_pages size o h state pool grown mid turned changed layout r table orders batch end final p x v n l link
      kept sound row ends moves after = then_keeps form one none size o h state pool grown layout r table orders batch
      end final kept sound row ends changed
      (changed_three form size state grown (to form one none size o h state pool grown layout r table orders batch
      end final kept sound row ends).layout r (to form one none size o h state pool grown layout r table orders
      batch end final kept sound row ends).sound mid turned changed n.at.page.0 p.page.0 x.page.0 moves.put_page
      moves.slot_page
      moves.frees.page) after

  pub replacements_keep_pages : ReplacementsKeepPages form
  replacements_keep_pages size state pool changed layout r v n sound replaces after =
      data_keeps form size state pool changed layout r
      (changed_one form size state pool layout r sound changed n.at.page.0 replaces.page) after

  pub taking_out_keeps_pages : TakingOutKeepsPages form
  taking_out_keeps_pages size state pool turned changed layout r p x v l sound takes after =
      data_keeps form size state pool changed layout r
      (changed_two form size state pool layout r sound turned changed p.page.0 x.page.0 takes.slot_page
      takes.frees.page) after
