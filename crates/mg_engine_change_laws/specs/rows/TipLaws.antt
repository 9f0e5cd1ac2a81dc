-- The pages of transactions stay where versions of records are written: a table grows, and data pages are changed.
use Rattle.std.proofs.Common.{◌≤◌, ap, subst, ◌∙◌, ℕ, false, List, Option}
use Rattle.mg_base.specs.declared.transaction.TxState.{TxState}
use Rattle.mg_careful.specs.Precedence.{Orders}
use Rattle.mg_model.specs.declared.opening.Opening.{Opening}
use Rattle.mg_model.specs.declared.table.Table.{Table}
use Rattle.mg_model.specs.History.{Entries}
use Rattle.mg_engine_step_laws.specs.commits.ListShows.{BehindKeepsTips, TipsStayOn}
use Rattle.mg_engine_step_laws.specs.writes.Reads.{grown_to}
use Rattle.mg_image_overlay_laws.specs.tables.Growing.{EndsAt, Grows, TableEnd}
use Rattle.mg_image_overlay_laws.specs.tables.GrowingLaws.{StandsTo, grows_part}
use Rattle.mg_header.specs.declared.header.Header.{Header}
use Rattle.mg_header.specs.HeaderPage.{header_in}
use Rattle.mg_image.specs.Form.{Form, Pages}
use Rattle.mg_image.specs.Inventory.{last_sequence}
use Rattle.mg_image.specs.ReadingLaws.{RowsAreOne}
use Rattle.mg_image.specs.Records.{Reading}
use Rattle.mg_image.specs.Sound.{IsSoundBy}
use Rattle.mg_image.specs.Tables.{Layout}
use Rattle.mg_image_overlay_laws.specs.pages.DataPages.{ChangesData, header_same, last_same, tip_content, tip_same}
use Rattle.mg_image_overlay_laws.specs.pages.Kinds.{HasNoSequences}
use Rattle.mg_image_overlay_laws.specs.pages.Trees.{trees_stay}
use Rattle.mg_image_overlay_laws.specs.kept.KeptImages.{IsKept}
use Rattle.mg_image_overlay_laws.specs.tables.OneLayout.{sound_once}
use Rattle.mg_image_overlay_laws.specs.pages.DataKept.{IsDataChanged, data_more, data_self}
use Rattle.mg_engine_change_laws.specs.rows.Tips.{FirstsKeepTips, GrowthKeepsTips, KeepsTips, MovesKeepTips, PushesKeepTips, ReplacementsKeepTips, TakingOutKeepsTips}

module _ (on : TipsStayOn) where
  pub tips_then : (size : ℕ) (a b c : Pages) → KeepsTips size a b → KeepsTips size b c → KeepsTips size a c
  tips_then size a b c first second = record {
    tips = on size a b c second.next first.tips second.tips;
    next = second.next ∙ first.next;
    catalog = second.catalog ∙ first.catalog;
  }

-- one data page was changed, after others
data_tips : (form : Form) (size : ℕ) (old mid new : Pages) (b : ℕ) (layout : Layout)
    → IsDataChanged form size old mid layout → ChangesData form.in_primary mid new b → KeepsTips size mid new
data_tips form size old mid new b layout was change = record {
  tips = λ sequence below. let within : sequence ≤ last_sequence size mid =
      subst (λ (n : ℕ). sequence ≤ n) (last_same form.in_primary size mid new b change was.header was.inventory
      was.transactions) below in (
        tip_same form.in_primary size mid new b change was.header was.inventory was.transactions sequence within,
        tip_content form.in_primary size mid new b change was.header was.inventory was.transactions sequence within,
      );
  next = ap (λ (h : Header). h.next.0) (header_same form.in_primary size mid new b change was.header was.inventory
      was.transactions);
  catalog = ap (λ (h : Header). h.catalog.0) (header_same form.in_primary size mid new b change was.header
      was.inventory was.transactions);
}

module _ (on : TipsStayOn) (form : Form) (size : ℕ) (state : ℕ → TxState) (old : Pages) (layout : Layout) (r : Reading)
    (sound : IsSoundBy form size state old layout r) where
  same : IsDataChanged form size old old layout
  same = data_self form size state old layout r sound

  -- one data page
  pub one_tips : (new : Pages) (a : ℕ) → ChangesData form.in_primary old new a → KeepsTips size old new
  one_tips new a change = data_tips form size old old new a layout same change

  -- two of them
  pub two_tips : (mid new : Pages) (a b : ℕ) → ChangesData form.in_primary old mid a
      → ChangesData form.in_primary mid new b → KeepsTips size old new
  two_tips mid new a b first second = tips_then on size old mid new (one_tips mid a first)
      (data_tips form size old mid new b layout (data_more form size state old layout r sound old mid a same first)
      second)

  -- three
  pub three_tips : (mid turned new : Pages) (a b c : ℕ) → ChangesData form.in_primary old mid a
      → ChangesData form.in_primary mid turned b → ChangesData form.in_primary turned new c → KeepsTips size old new
  three_tips mid turned new a b c first second third = tips_then on size old turned new
      (two_tips mid turned a b first second) (data_tips form size old turned new c layout
      (data_more form size state old layout r sound mid turned b
      (data_more form size state old layout r sound old mid a same first) second) third)

-- ---- a table has got pages

module _ (on : TipsStayOn) (behind : BehindKeepsTips) (form : Form) (one : RowsAreOne form.coding)
    (none : HasNoSequences form) (size : ℕ) (o : Opening) (h : Entries) (state : ℕ → TxState) (pool grown : Pages)
    (layout : Layout) (r : Reading) (table : Table) (orders : Orders) (batch : ℕ → Option (List ℕ))
    (end final : TableEnd) (kept : IsKept form size o h state pool pool)
    (sound : IsSoundBy form size state pool layout r)
    (row : Grows form.in_primary size table.pointer.0 orders batch pool end grown final)
    (ends : EndsAt layout table end) where
  to : StandsTo form size state pool grown layout r table final
  to = grown_to form one none size state pool grown layout r sound table orders batch end final row ends

  part : IsKept form size o h state grown pool
  part = grows_part form (sound_once form one none) none size (trees_stay form size) state table o h orders batch
      (λ n. false) pool (λ a b ordered in_batch in_set. absurd cc) pool grown end final row layout r sound ends kept

  pub grown_tips : KeepsTips size pool grown
  grown_tips = record {
    tips = behind size pool grown part.layout part.of_pool part.behind
        (ap (λ (page : List ℕ). (header_in page).next.0) to.header);
    next = ap (λ (page : List ℕ). (header_in page).next.0) to.header;
    catalog = ap (λ (page : List ℕ). (header_in page).catalog.0) to.header;
  }

  pub then_two : (mid changed : Pages) (a b : ℕ) → ChangesData form.in_primary grown mid a
      → ChangesData form.in_primary mid changed b → KeepsTips size pool changed
  then_two mid changed a b first second = tips_then on size pool grown changed grown_tips
      (two_tips on form size state grown to.layout r to.sound mid changed a b first second)

  pub then_three : (mid turned changed : Pages) (a b c : ℕ) → ChangesData form.in_primary grown mid a
      → ChangesData form.in_primary mid turned b → ChangesData form.in_primary turned changed c
      → KeepsTips size pool changed
  then_three mid turned changed a b c first second third = tips_then on size pool grown changed grown_tips
      (three_tips on form size state grown to.layout r to.sound mid turned changed a b c first second third)

-- ---- the laws

module _ (on : TipsStayOn) (behind : BehindKeepsTips) (form : Form) (one : RowsAreOne form.coding)
    (none : HasNoSequences form) where
  pub growth_keeps_tips : GrowthKeepsTips form
  growth_keeps_tips size o h state pool grown layout r table orders batch end final kept sound row ends =
      grown_tips on behind form one none size o h state pool grown layout r table orders batch end final kept sound row
      ends

  pub pushes_keep_tips : PushesKeepTips form
  pushes_keep_tips size o h state pool grown mid changed layout r table orders batch end final p x v l link kept sound
      row ends pushes =
      then_two on behind form one none size o h state pool grown layout r table orders batch end final kept sound row
      ends mid changed x.page.0 p.page.0 pushes.put_page pushes.slot_page

  pub firsts_keep_tips : FirstsKeepTips form
  firsts_keep_tips size o h state pool grown mid changed layout r table orders batch end final p x v link kept sound row
      ends adds =
      then_two on behind form one none size o h state pool grown layout r table orders batch end final kept sound row
      ends mid changed x.page.0 p.page.0 adds.put_page adds.slot_page

  pub moves_keep_tips : MovesKeepTips form
  moves_keep_tips size o h state pool grown mid turned changed layout r table orders batch end final p x v n l link kept
      sound row ends moves =
      then_three on behind form one none size o h state pool grown layout r table orders batch end final kept sound row
      ends mid turned changed n.at.page.0 p.page.0 x.page.0 moves.put_page moves.slot_page moves.frees.page

  pub replacements_keep_tips : ReplacementsKeepTips form
  replacements_keep_tips size state pool changed layout r v n sound replaces =
      one_tips on form size state pool layout r sound changed n.at.page.0 replaces.page

  pub taking_out_keeps_tips : TakingOutKeepsTips form
  taking_out_keeps_tips size state pool turned changed layout r p x v l sound takes =
      two_tips on form size state pool layout r sound turned changed p.page.0 x.page.0 takes.slot_page takes.frees.page
