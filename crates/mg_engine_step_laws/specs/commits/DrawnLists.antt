-- A number is drawn: the list goes on to have the pages of transactions as the cache shows them.
use Rattle.std.proofs.Common.{◌≡◌, ◌≢◌, ◌⊎◌, inl, inr, ap, sym, subst, ◌∙◌, arith, ℕ, suc, ◌+◌, ◌-◌, ◌/◌, ◌<◌, ◌≤◌, ◌++◌, [], ◌∷◌, List, Option, None, Some, length}
use Rattle.std.specs.Prelude.{slice_index_or}
use Rattle.std.proofs.Math.ListN.{get_or-append}
use Rattle.std.proofs.Math.Seq.{get_or-append_seam}
use Rattle.std.proofs.lemmas.Bool.{cases_lt}
use Rattle.mg_base.specs.Disk.{Meaning}
use Rattle.mg_base.specs.Image.{Image}
use Rattle.mg_base.specs.declared.transaction.TxState.{TxState}
use Rattle.mg_careful.specs.declared.graph.Order.{Order}
use Rattle.mg_tip.specs.TipPage.{new_tip_page, places}
use Rattle.mg_image.specs.Form.{Form, Pages}
use Rattle.mg_image.specs.Inventory.{header_of, last_sequence, next_of, tip_page}
use Rattle.mg_image.specs.ReadingLaws.{RowsAreOne}
use Rattle.mg_image.specs.Records.{Reading}
use Rattle.mg_image.specs.Sound.{IsSoundBy}
use Rattle.mg_image.specs.Reached.{linked_pages}
use Rattle.mg_image.specs.Tables.{Has, Layout}
use Rattle.mg_image_overlay_laws.specs.transactions.Begins.{markers_are}
use Rattle.mg_image_overlay_laws.specs.pages.Frame.{KeepsLinked}
use Rattle.mg_image_overlay_laws.specs.pages.Grow.{tip_is}
use Rattle.mg_image_overlay_laws.specs.pages.Kinds.{HasNoSequences}
use Rattle.mg_image_overlay_laws.specs.kept.Rest.{div_grows}
use Rattle.mg_image_overlay_laws.specs.pages.Trees.{trees_stay}
use Rattle.mg_image_overlay_laws.specs.pages.Draw.{DrawsNumber, tip_content as number_content, tip_same as number_tip}
use Rattle.mg_pool.specs.Pool.{shown}
use Rattle.mg_pool.specs.declared.pool.Pool.{Pool}
use Rattle.mg_space.specs.Taking.{TakesPage}
use Rattle.mg_space.specs.View.{viewed}
use Rattle.mg_image_overlay_laws.specs.pages.DrawPage.{DrawsPage, tip_content as page_content, tip_last as page_last, tip_same as page_tip}
use Rattle.mg_txlist.specs.Drawing.{AddsPage, DrawsOn, RaisesHead, on_last, on_new}
use Rattle.mg_txlist.specs.TxList.{next_said, no_page, tip_in}
use Rattle.mg_txlist.specs.declared.list.TipPage.{TipPage}
use Rattle.mg_txlist.specs.declared.list.TxList.{TxList}
use Rattle.mg_tie_laws.specs.CommitTies.{ShowsTip}
use Rattle.mg_tie_laws.specs.DrawTies.{DrawsFrom, with_header}
use Rattle.mg_engine_step_laws.specs.commits.DrawnPages.{draws, its_page, keeps, kept_tip, made_raised, mid_sound, number, off_page, view_is}
use Rattle.mg_engine_step_laws.specs.commits.ListShows.{DrawsKeepList, ListShows}
use Rattle.mg_engine_step_laws.specs.commits.TipPages.{within_last}

module _ (form : Form) (one : RowsAreOne form.coding) (none : HasNoSequences form) {D L : Type 0}
    (m : Meaning D) (old new : TxList) (before after : Pool D L) (i j : Image)
    (from : DrawsFrom m old new before after i j) (state : ℕ → TxState) (layout : Layout) (r : Reading)
    (sound : IsSoundBy form before.geometry.size state (shown before.dirty i) layout r)
    (shows : ListShows old before.geometry.size (shown before.dirty i)) where
  abbrev size : ℕ
  size = before.geometry.size

  abbrev pool : Pages
  pool = shown before.dirty i

  abbrev view : Pages
  view = viewed before i from.draws.batch

  some_next : 1 ≤ next_of pool
  some_next = (markers_are size pool sound.header).0

  sized : new.size ≡ size
  sized = from.adds.size ∙ from.size

  -- the list had each page that was there, whichever number is named
  was : (t : ℕ) → t / places size ≤ last_sequence size pool → ShowsTip old size pool t
  was t within = at (cases_lt t (next_of pool))
    where
      at : (t < next_of pool) ⊎ (next_of pool ≤ t) → ShowsTip old size pool t
      at (inl below) = shows t below
      at (inr past) =
          let least = some_next in
          let grows : (next_of pool - 1) / places size ≤ t / places size =
          div_grows (next_of pool - 1) t (places size) (omega (arith, past)) in
          let same : (next_of pool - 1) / places size ≡ t / places size = omega (arith, grows, within) in
          let it = shows (next_of pool - 1) (omega (arith, least)) in
          record {
            sized = it.sized;
            page = subst (λ (q : ℕ). (tip_in old q).page ≡ tip_page size pool q) same it.page;
            bytes = subst (λ (q : ℕ). (tip_in old q).bytes ≡ pool (tip_page size pool q)) same it.bytes;
          }

  count : length old.pages.items ≡ last_sequence size pool + 1
  count = from.was.count ∙ (ap (λ (k : ℕ). (next_said old - 1) / places k + 1) from.size
      ∙ ap (λ (k : ℕ). (k - 1) / places size + 1) from.next)

  -- ---- on the last page

  on_its_page : (raises : RaisesHead size pool view (header_of pool).last_tip.0)
      (others : (p : ℕ) → p ≢ 0 → view p ≡ pool p) → AddsPage old new None → ListShows new size view
  on_its_page raises others adds t below = record {
    sized = sized;
    page = ap (λ (x : TipPage). x.page) same ∙ ((was t within).page
        ∙ sym (number_tip form size state pool view layout r none (trees_stay form size) sound draws_number
        (t / places size) within));
    bytes = ap (λ (x : TipPage). x.bytes) same ∙ ((was t within).bytes
        ∙ sym (number_content form size state pool view layout r none (trees_stay form size) sound draws_number
        (t / places size) within));
  }
    where
      draws_number : DrawsNumber size pool view
      draws_number = number form one none m old new before after i j from state layout r sound raises others adds

      within : t / places size ≤ last_sequence size pool
      within = subst (λ (k : ℕ). t / places size ≤ k) draws_number.room
          (within_last size t (next_of view) below)

      same : tip_in new (t / places size) ≡ tip_in old (t / places size)
      same = ap (λ (items : List TipPage). slice_index_or items (t / places size) no_page) adds

  -- ---- on a new page

  module _ (made : TipPage) (taken : Pages) (takes : TakesPage before.geometry pool taken made.page)
      (bytes_are : made.bytes ≡ new_tip_page size made.page (next_said old / places size)
      (header_of pool).last_tip.0) (there : view made.page ≡ made.bytes)
      (raises : RaisesHead size pool view made.page)
      (others : (p : ℕ) → p ≢ 0 → p ≢ made.page → view p ≡ taken p)
      (adds : AddsPage old new (Some made)) where
    abbrev mid : Pages
    mid = with_header view pool

    items : (q : ℕ) → tip_in new q ≡ slice_index_or (old.pages.items ++ (made ∷ [])) q no_page
    items q = ap (λ (xs : List TipPage). slice_index_or xs q no_page) adds

    linked : KeepsLinked form size pool mid layout
    linked = keeps form one none m old new before after i j from state layout r sound made taken takes bytes_are
        there raises others adds

    sound_mid : IsSoundBy form size state mid layout r
    sound_mid = mid_sound form one none m old new before after i j from state layout r sound made taken takes
        bytes_are there raises others adds

    drawn : DrawsPage size mid view made.page
    drawn = draws form one none m old new before after i j from state layout r sound made taken takes bytes_are
        there raises others adds

    off : Has (linked_pages size mid layout) made.page → ⊥
    off = off_page form one none m old new before after i j from state layout r sound made taken takes bytes_are
        there raises others adds

    stays : (q : ℕ) → q ≤ last_sequence size pool
        → mid (tip_page size pool q) ≡ pool (tip_page size pool q)
    stays = kept_tip form one none m old new before after i j from state layout r sound made taken takes bytes_are
        there raises others adds

    mid_tip : (q : ℕ) → q ≤ last_sequence size pool → tip_page size mid q ≡ tip_page size pool q
    mid_tip = tip_is size pool mid linked.header_page linked.used linked.lengths sound.header
        sound.transactions stays

    on_new_page : ListShows new size view
    on_new_page t below = at (cases_lt t (next_of pool))
      where
        raised : next_of view ≡ next_of pool + 1
        raised = made_raised form one none m old new before after i j from state layout r sound made taken takes
            bytes_are there raises others adds

        at : (t < next_of pool) ⊎ (next_of pool ≤ t) → ShowsTip new size view t
        at (inl before_) = record {
          sized = sized;
          page = ap (λ (x : TipPage). x.page) same ∙ ((was t within).page
              ∙ sym (page_tip form size state mid view layout r none (trees_stay form size) sound_mid made.page
              drawn off (t / places size) within ∙ mid_tip (t / places size) within));
          bytes = ap (λ (x : TipPage). x.bytes) same ∙ ((was t within).bytes
              ∙ sym (page_content form size state mid view layout r none (trees_stay form size) sound_mid
              made.page drawn off (t / places size) within
              ∙ (ap mid (mid_tip (t / places size) within) ∙ stays (t / places size) within)));
        }
          where
            within : t / places size ≤ last_sequence size pool
            within = within_last size t (next_of pool) before_

            same : tip_in new (t / places size) ≡ tip_in old (t / places size)
            same = items (t / places size) ∙ get_or-append old.pages.items (made ∷ []) no_page (t / places size)
                (let long = count in omega (arith, long, within))
        at (inr past) = record {
          sized = sized;
          page = ap (λ (x : TipPage). x.page) here ∙ sym last;
          bytes = ap (λ (x : TipPage). x.bytes) here ∙ (sym there ∙ ap view (sym last));
        }
          where
            number_is : t ≡ next_of pool
            number_is = omega (arith, below, past, raised)

            its : t / places size ≡ suc (last_sequence size pool)
            its = ap (λ (k : ℕ). k / places size) number_is ∙ its_page form one none m old new before after i j
                from state layout r sound made taken takes bytes_are there raises others adds

            last : tip_page size view (t / places size) ≡ made.page
            last = page_last form size state mid view layout r none (trees_stay form size) sound_mid made.page
                drawn off (t / places size) its

            here : tip_in new (t / places size) ≡ made
            here = items (t / places size)
                ∙ (ap (λ (q : ℕ). slice_index_or (old.pages.items ++ (made ∷ [])) q no_page)
                (let long = count in omega (arith, long, its))
                ∙ get_or-append_seam old.pages.items made [] no_page)

  -- ---- both

  by_page : (page : Option TipPage) (os : List Order)
      → DrawsOn before.geometry (next_said old) pool view page os → AddsPage old new page
      → ListShows new size view
  by_page page os (on_last raises others) adds = on_its_page raises others adds
  by_page page os (on_new made taken takes bytes_are there raises others) adds =
      on_new_page made taken takes bytes_are there raises others adds

  pub drawn_list : ListShows new size (shown after.dirty j)
  drawn_list = subst (ListShows new size) (sym (view_is form one none m old new before after i j from state
      layout r sound)) (by_page from.draws.page from.draws.batch.orders (from.draws.views i from.tells)
      from.draws.adds)

pub draws_keep_list : (D L : Type 0) (m : Meaning D) (form : Form) → RowsAreOne form.coding
    → HasNoSequences form → DrawsKeepList D L m form
draws_keep_list D L m form one none old new before after i j state layout r from sound shows =
    drawn_list form one none m old new before after i j from state layout r sound shows
