-- A number that the transaction list draws leaves each sound image sound, and says on the pages what it is.
use Rattle.std.proofs.Common.{div-le_self, ◌≡◌, ◌≢◌, ◌⊎◌, ◌<◌, ◌≤◌, ◌+◌, ◌-◌, ◌/◌, ◌%◌, ◌^◌, inl, inr, ap, refl, sym, subst, ◌∙◌, arith, ℕ, suc, false, List, Option, None, Some}
use Rattle.std.proofs.lemmas.Bool.{cases_eq, eq-eqb, lt-ltb, ne_eqb}
use Rattle.mg_base.specs.Disk.{Meaning}
use Rattle.mg_base.specs.Image.{Image}
use Rattle.mg_base.specs.declared.transaction.TxState.{TxState}
use Rattle.mg_base.specs.declared.transaction.TxState.TheVariants.{Active, Committed, Dead, Limbo}
use Rattle.mg_careful.specs.declared.graph.Order.{Order}
use Rattle.mg_header.specs.declared.header.Header.{Header}
use Rattle.mg_tip.specs.TipPage.{new_tip_page, places, state_in}
use Rattle.mg_image.specs.Form.{Form, Pages}
use Rattle.mg_image.specs.Inventory.{bits_state, header_of, inventory_page, last_sequence, next_of, oldest_active_of, oldest_of, settled, state_at, tip_before, tip_page}
use Rattle.mg_image.specs.Reached.{linked_pages}
use Rattle.mg_image.specs.ReadingLaws.{RowsAreOne}
use Rattle.mg_image.specs.Records.{Reading}
use Rattle.mg_image.specs.Sound.{HasNoOldLimbo, IsSoundBy, IsUndrawn}
use Rattle.mg_image.specs.Tables.{Has, Layout}
use Rattle.mg_image_overlay_laws.specs.transactions.Begins.{markers_are}
use Rattle.mg_image_overlay_laws.specs.pages.Frame.{KeepsLinked, frame_sound, tip_kept}
use Rattle.mg_image_overlay_laws.specs.pages.Grow.{tip_is}
use Rattle.mg_image_overlay_laws.specs.pages.GrownFacts.{PassesNoDead}
use Rattle.mg_image_overlay_laws.specs.pages.Kinds.{HasNoSequences}
use Rattle.mg_image_overlay_laws.specs.kept.Rest.{div_grows}
use Rattle.mg_image_overlay_laws.specs.pages.Trees.{trees_stay}
use Rattle.mg_image_overlay_laws.specs.pages.Draw.{DrawsNumber, draw_sound as number_sound, tip_content as number_content}
use Rattle.mg_image_overlay_laws.specs.pages.DrawPage.{DrawsPage, draw_sound as page_sound, page_same as page_there, tip_content as page_content, tip_last as page_last}
use Rattle.mg_image_overlay_laws.specs.pages.TakePart.{OccupiesPage, keeps_linked, off, taken_whole}
use Rattle.mg_pool.specs.Pool.{shown}
use Rattle.mg_pool.specs.declared.pool.Pool.{Pool}
use Rattle.mg_space.specs.View.{viewed}
use Rattle.mg_tie_laws.specs.Changed.{changed_batches_are}
use Rattle.mg_txlist.specs.Drawing.{AddsPage, DrawsOn, RaisesHead, on_last, on_new}
use Rattle.mg_txlist.specs.TxList.{next_said}
use Rattle.mg_tie_laws.specs.DrawTies.{DrawsFrom, draws_number, its_sequence, next_last, raised_is, raised_next, same_last, tip_draws, tip_occupied, with_header}
use Rattle.mg_space.specs.Taking.{TakesPage, region_of}
use Rattle.mg_txlist.specs.declared.list.TipPage.{TipPage}
use Rattle.mg_txlist.specs.declared.list.TxList.{TxList}

-- ---- what is said of transactions

-- A number was drawn on the pages: the next one is one higher, and what is said of those before is as it was;
-- of the number itself nothing has come, as of one that is dead.
pub record IsDrawn (size : ℕ) (old new : Pages) : Type 0 where
  pub next : next_of new ≡ next_of old + 1
  pub before : (t : ℕ) → t < next_of old → state_at size new t ≡ state_at size old t
  pub here : state_at size new (next_of old) ≡ Dead

-- bits of one that was not drawn are those of a dead one
undrawn_dead : (s : TxState) → IsUndrawn s → settled s ≡ Dead
undrawn_dead Active is = refl
undrawn_dead Dead is = refl
undrawn_dead Limbo is = absurd is
undrawn_dead Committed is = absurd is

said_of : (size : ℕ) (pages : Pages) (t : ℕ) → t ≢ 0 → t < next_of pages
    → state_at size pages t ≡ settled (bits_state size pages t)
unfolding state_at
said_of size pages t some below = rw (ne_eqb t 0 some, lt-ltb t (next_of pages) below) refl

said_zero : (size : ℕ) (pages : Pages) (t : ℕ) → t ≡ 0 → state_at size pages t ≡ Committed
unfolding state_at
said_zero size pages t zero = rw (eq-eqb t 0 zero) refl

-- a number is drawn where the bits of those before stay, and its own are those of one that was not
drawn_by : (size : ℕ) (old new : Pages) → 1 ≤ next_of old → next_of new ≡ next_of old + 1
    → ((t : ℕ) → t < next_of old → bits_state size new t ≡ bits_state size old t)
    → IsUndrawn (bits_state size new (next_of old)) → IsDrawn size old new
drawn_by size old new some next same undrawn = record {
  next = next;
  before = λ t below. by t below (cases_eq t 0);
  here = said_of size new (next_of old) (λ e. omega (arith, e, some)) (omega (arith, next))
      ∙ undrawn_dead (bits_state size new (next_of old)) undrawn;
}
  where
    by : (t : ℕ) → t < next_of old → (t ≡ 0) ⊎ (t ≢ 0) → state_at size new t ≡ state_at size old t
    by t below (inl zero) = said_zero size new t zero ∙ sym (said_zero size old t zero)
    by t below (inr ne) = said_of size new t ne (omega (arith, below, next))
        ∙ (ap settled (same t below) ∙ sym (said_of size old t ne below))

within_last : (size t next : ℕ) → t < next → t / places size ≤ (next - 1) / places size
within_last size t next below = div_grows t (next - 1) (places size) (omega (arith, below))

-- ---- the pages

module _ (form : Form) (one : RowsAreOne form.coding) (none : HasNoSequences form) {D L : Type 0}
    (m : Meaning D) (old new : TxList) (before after : Pool D L) (i j : Image)
    (from : DrawsFrom m old new before after i j) (state : ℕ → TxState) (layout : Layout) (r : Reading)
    (sound : IsSoundBy form before.geometry.size state (shown before.dirty i) layout r) where
  abbrev size : ℕ
  size = before.geometry.size

  abbrev pool : Pages
  pool = shown before.dirty i

  abbrev view : Pages
  view = viewed before i from.draws.batch

  some_next : 1 ≤ next_of pool
  some_next = (markers_are size pool sound.header).0

  none_old : (last : ℕ) → RaisesHead size pool view last → HasNoOldLimbo state view
  none_old last raises t below = sound.limbo t (subst (λ (k : ℕ). t < k) same below)
    where
      same : oldest_active_of view ≡ oldest_active_of pool
      same = sym (ap (λ (x : Header). x.oat.0) (raised_is size last pool view raises).2)

  -- the oldest interesting transaction stays, so it passes over nobody
  none_passed : (last : ℕ) → RaisesHead size pool view last → PassesNoDead state pool view
  none_passed last raises t above below =
      let same : oldest_of view ≡ oldest_of pool =
      sym (ap (λ (x : Header). x.oit.0) (raised_is size last pool view raises).2) in
      absurd (omega (arith, same, above, below))

  -- ---- on the last page

  module _ (raises : RaisesHead size pool view (header_of pool).last_tip.0)
      (others : (p : ℕ) → p ≢ 0 → view p ≡ pool p) (adds_page : AddsPage old new None) where
    pub number : DrawsNumber size pool view
    number = draws_number size pool view raises others (same_last old new size pool view from.was from.now
        from.adds from.size from.next (raised_next size (header_of pool).last_tip.0 pool view raises) adds_page)

    last_sound : IsSoundBy form size state view layout r
    last_sound = number_sound form size state pool view layout r none (trees_stay form size) sound number
        (none_old (header_of pool).last_tip.0 raises) (none_passed (header_of pool).last_tip.0 raises)

    content : (t : ℕ) → t / places size ≤ last_sequence size pool
        → bits_state size view t ≡ bits_state size pool t
    content t within = ap (λ (page : List ℕ). state_in page (t % places size))
        (number_content form size state pool view layout r none (trees_stay form size) sound number
        (t / places size) within)

    pub raised : next_of view ≡ next_of pool + 1
    raised = raised_next size (header_of pool).last_tip.0 pool view raises

    on_last_page : next_of pool / places size ≡ last_sequence size pool
    on_last_page =
        let at : next_of view - 1 ≡ next_of pool = omega (arith, raised) in
        sym (ap (λ (k : ℕ). k / places size) at) ∙ number.room

    last_drawn : IsDrawn size pool view
    last_drawn = drawn_by size pool view some_next raised
        (λ t below. content t (within_last size t (next_of pool) below))
        (subst IsUndrawn (sym (content (next_of pool) (omega (arith, on_last_page))))
        (sound.transactions.undrawn (next_of pool) (omega arith) on_last_page))

  -- ---- on a new page

  module _ (made : TipPage) (taken : Pages) (takes : TakesPage before.geometry pool taken made.page)
      (bytes_are : made.bytes ≡ new_tip_page size made.page (next_said old / places size)
      (header_of pool).last_tip.0) (there : view made.page ≡ made.bytes)
      (raises : RaisesHead size pool view made.page)
      (others : (p : ℕ) → p ≢ 0 → p ≢ made.page → view p ≡ taken p)
      (adds_page : AddsPage old new (Some made)) where
    abbrev mid : Pages
    mid = with_header view pool

    abbrev at : ℕ
    at = inventory_page size (region_of size made.page)

    pub made_raised : next_of view ≡ next_of pool + 1
    made_raised = raised_next size made.page pool view raises

    more : last_sequence size view ≡ suc (last_sequence size pool)
    more = next_last old new size pool view from.was from.now from.adds from.size from.next made_raised made
        adds_page

    seq_is : next_said old / places size ≡ suc (last_sequence size pool)
    seq_is = sym (its_sequence old new size pool view from.was from.now from.adds from.size from.next
        made_raised) ∙ more

    made_there : view made.page ≡ new_tip_page size made.page (next_said old / places size)
        (header_of pool).last_tip.0
    made_there = there ∙ bytes_are

    small_seq : next_said old / places size < 2 ^ 32
    small_seq =
        let few : next_said old / places size ≤ next_said old = div-le_self (next_said old) (places size) in
        let most = from.was.most in omega (arith, few, most)

    small_last : (header_of pool).last_tip.0 < 2 ^ 32
    small_last =
        let below = (sound.transactions.each (last_sequence size pool) (omega arith)).below in
        let zero_ : last_sequence size pool - last_sequence size pool ≡ 0 = omega arith in
        let its : tip_page size pool (last_sequence size pool) ≡ (header_of pool).last_tip.0 =
        ap (tip_before pool (header_of pool).last_tip.0) zero_ in omega (arith, below, its)

    occupies : OccupiesPage size pool mid at made.page
    occupies = tip_occupied before.geometry from.geometry pool taken view made.page
        (header_of pool).last_tip.0 (next_said old / places size) takes made_there takes.free.no_header
        others sound.header.whole

    pub draws : DrawsPage size mid view made.page
    draws = tip_draws before.geometry from.geometry pool taken view made.page
        (header_of pool).last_tip.0 (next_said old / places size) takes made_there takes.free.no_header
        others sound.header.whole raises more seq_is refl small_seq small_last

    pub keeps : KeepsLinked form size pool mid layout
    keeps = keeps_linked form size state pool mid pool mid at made.page none (trees_stay form size) occupies
        layout r sound (λ k is. is) (taken_whole pool mid at made.page occupies.others)

    pub mid_sound : IsSoundBy form size state mid layout r
    mid_sound = frame_sound form size state pool mid layout r sound keeps

    pub off_page : Has (linked_pages size mid layout) made.page → ⊥
    off_page = off form size state pool mid pool mid at made.page none (trees_stay form size) occupies
        layout r sound (λ k is. is) (taken_whole pool mid at made.page occupies.others)

    new_sound : IsSoundBy form size state view layout r
    new_sound = page_sound form size state mid view layout r none (trees_stay form size) mid_sound made.page
        draws off_page (none_old made.page raises) (none_passed made.page raises)

    pub kept_tip : (sequence : ℕ) → sequence ≤ last_sequence size pool
        → mid (tip_page size pool sequence) ≡ pool (tip_page size pool sequence)
    kept_tip = tip_kept form size state pool mid layout r sound keeps

    mid_bits : (t : ℕ) → t / places size ≤ last_sequence size pool
        → bits_state size mid t ≡ bits_state size pool t
    mid_bits t within = ap (λ (page : List ℕ). state_in page (t % places size))
        (ap mid (tip_is size pool mid keeps.header_page keeps.used keeps.lengths sound.header
        sound.transactions kept_tip (t / places size) within) ∙ kept_tip (t / places size) within)

    mid_last : last_sequence size mid ≡ last_sequence size pool
    mid_last = refl

    view_bits : (t : ℕ) → t / places size ≤ last_sequence size pool
        → bits_state size view t ≡ bits_state size mid t
    view_bits t within = ap (λ (page : List ℕ). state_in page (t % places size))
        (page_content form size state mid view layout r none (trees_stay form size) mid_sound made.page draws
        off_page (t / places size) within)

    pub its_page : next_of pool / places size ≡ suc (last_sequence size pool)
    its_page = ap (λ (k : ℕ). k / places size) (sym from.next) ∙ seq_is

    own_undrawn : IsUndrawn (bits_state size view (next_of pool))
    own_undrawn = subst IsUndrawn (sym (ap (λ (n : ℕ). state_in (view n) (next_of pool % places size))
        (page_last form size state mid view layout r none (trees_stay form size) mid_sound made.page draws
        off_page (next_of pool / places size) its_page)
        ∙ ap (λ (page : List ℕ). state_in page (next_of pool % places size))
        (page_there form size state mid view layout r none (trees_stay form size) mid_sound made.page draws
        off_page))) (draws.undrawn (next_of pool % places size))

    new_drawn : IsDrawn size pool view
    new_drawn = drawn_by size pool view some_next made_raised
        (λ t below. view_bits t (within_last size t (next_of pool) below)
        ∙ mid_bits t (within_last size t (next_of pool) below)) own_undrawn

  -- ---- both

  by_page : (page : Option TipPage) (os : List Order)
      → DrawsOn before.geometry (next_said old) pool view page os → AddsPage old new page
      → IsSoundBy form size state view layout r × IsDrawn size pool view
  by_page page os (on_last raises others) adds_page =
      (last_sound raises others adds_page, last_drawn raises others adds_page)
  by_page page os (on_new made taken takes bytes_are there raises others) adds_page = (
    new_sound made taken takes bytes_are there raises others adds_page,
    new_drawn made taken takes bytes_are there raises others adds_page,
  )

  pub view_is : shown after.dirty j ≡ view
  view_is = (changed_batches_are D L m before from.draws.ready after i j from.draws.batch (λ t. false) (λ t. 0)
      from.draws.keeps from.draws.frame from.tells from.held).pool

  pub drawn_pages : IsSoundBy form size state (shown after.dirty j) layout r
      × IsDrawn size pool (shown after.dirty j)
  drawn_pages = subst (λ (pages : Pages). IsSoundBy form size state pages layout r × IsDrawn size pool pages)
      (sym view_is) (by_page from.draws.page from.draws.batch.orders (from.draws.views i from.tells)
      from.draws.adds)
