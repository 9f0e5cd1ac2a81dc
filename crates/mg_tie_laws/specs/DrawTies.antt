-- A number that the transaction list draws keeps every overlay.
use Rattle.std.proofs.Common.{◌≡◌, ◌≢◌, ◌⊎◌, inl, inr, ap, sym, subst, ◌∙◌, refl, arith, suc, ℕ, ◌+◌, ◌-◌, ◌/◌, ◌%◌, ◌<◌, ◌≤◌, ◌^◌, Bool, true, false, List, [], ◌∷◌, ◌++◌, length, Option, None, Some}
use Rattle.std.specs.Prelude.{if◌then◌else◌, ◌==◌, ◌&&◌, ◌||◌, unwrap_or}
use Rattle.std.proofs.Math.Nat.{div-le_self}
use Rattle.std.proofs.lemmas.Bool.{cases_eq, eq-eqb, ne_eqb}
use Rattle.mg_base.specs.Checks.{PassesAll}
use Rattle.mg_base.specs.Disk.{Meaning}
use Rattle.mg_base.specs.Image.{Image}
use Rattle.mg_base.specs.declared.geometry.Geometry.{Geometry}
use Rattle.mg_base.specs.declared.transaction.TxState.{TxState}
use Rattle.mg_base.specs.declared.transaction.TxState.TheVariants.{Active, Committed, Limbo}
use Rattle.mg_careful.specs.declared.graph.Order.{Order}
use Rattle.mg_header.specs.HeaderPage.{database_checks, page_checks}
use Rattle.mg_header.specs.HeaderPageLaws.{reading_ok}
use Rattle.mg_header.specs.declared.header.Header.{Header}
use Rattle.mg_image.specs.Form.{Form, Pages}
use Rattle.mg_image.specs.Inventory.{header_of, inventory_page, is_used, last_sequence, next_of, oldest_active_of, oldest_of, tip_before, tip_page}
use Rattle.mg_image.specs.Sound.{IsUndrawn}
use Rattle.mg_image_overlay_laws.specs.pages.Kinds.{HasNoSequences}
use Rattle.mg_image_overlay_laws.specs.kept.KeptImages.{IsKept, keeping}
use Rattle.mg_model.specs.declared.opening.Opening.{Opening}
use Rattle.mg_model.specs.History.{Entries}
use Rattle.mg_overlay_laws.specs.BatchLaws.{good_of_pool}
use Rattle.mg_overlay_laws.specs.Overlays.{left_by, left_state}
use Rattle.mg_image_overlay_laws.specs.pages.Draw.{DrawsNumber, draw_every}
use Rattle.mg_pip.specs.PipPage.{bits, used_in}
use Rattle.mg_pool.specs.Batch.{Changed, content_in, lists}
use Rattle.mg_pool.specs.Pool.{shown}
use Rattle.mg_pool.specs.declared.pool.Pool.{Pool}
use Rattle.mg_pool_overlay_laws.specs.Needs.{Asked, Sessions}
use Rattle.mg_space.specs.Taking.{IsGeometry, TakesPage, region_of}
use Rattle.mg_space.specs.TakingLaws.{page_sizes, takes_bit}
use Rattle.mg_space.specs.View.{Tells, viewed}
use Rattle.mg_tie_laws.specs.Changed.{BatchIsChanged, KeptIn, cache_over, changed_batches_are, needs_in}
use Rattle.mg_tie_laws.specs.Occupied.{taken_are_occupied}
use Rattle.mg_image_overlay_laws.specs.pages.DrawPage.{DrawsPage, draw_page_every}
use Rattle.mg_image_overlay_laws.specs.pages.TakePart.{OccupiesPage}
use Rattle.mg_tip.specs.TipPage.{new_tip_page, places, prev_in, state_in, tip_checks}
use Rattle.mg_tip.specs.TipPageLaws.{length-new_tip_page, new_page_active, new_page_passes, new_page_prev}
use Rattle.mg_txlist.specs.Drawing.{AddsNumber, AddsPage, DrawsIn, DrawsOn, RaisesHead, last_orders, on_last, on_new, raised_header, tip_orders}
use Rattle.mg_txlist.specs.TxList.{IsTxList, next_said}
use Rattle.mg_txlist.specs.declared.list.TipPage.{TipPage}
use Rattle.mg_txlist.specs.declared.list.TxList.{TxList}

-- The list was drawn from, and lies over the pages: its next number was that of the header.
pub record DrawsFrom {D L : Type 0} (m : Meaning D) (old new : TxList) (before after : Pool D L)
    (i j : Image) : Type 0 where
  pub geometry : IsGeometry before.geometry
  pub size : old.size ≡ before.geometry.size
  pub was : IsTxList old
  pub now : IsTxList new
  pub adds : AddsNumber old new
  pub draws : DrawsIn m old new before after
  pub tells : Tells m before.disk i
  pub held : m.held after.disk ≡ Some j
  pub next : next_said old ≡ next_of (shown before.dirty i)

-- every overlay is kept; the history is as it was
abbrev pub DrawRowKeeps : Form → (D L : Type 0) → Meaning D → Type 0
DrawRowKeeps form D L m = (old new : TxList) (before after : Pool D L) (i j : Image) (asked : Asked)
    (session : Sessions) (o : Opening) (h : Entries) (state : ℕ → TxState)
    → DrawsFrom m old new before after i j
    → KeptIn form before.geometry.size o h state asked session before i
    → KeptIn form before.geometry.size o h state asked session after j

-- ---- the header

pub raised_is : (size last : ℕ) (old new : Pages) → RaisesHead size old new last
    → PassesAll (database_checks (new 0) size) × PassesAll (page_checks (new 0))
    × (raised_header (header_of old) last ≡ header_of new)
raised_is size last old new raises =
    reading_ok (new 0) size (raised_header (header_of old) last) raises.reads

pub raised_next : (size last : ℕ) (old new : Pages) → RaisesHead size old new last
    → next_of new ≡ next_of old + 1
raised_next size last old new raises = sym (ap (λ (h : Header). h.next.0) (raised_is size last old new raises).2)

pub draws_number : (size : ℕ) (old new : Pages) → RaisesHead size old new (header_of old).last_tip.0
    → ((m : ℕ) → m ≢ 0 → new m ≡ old m) → last_sequence size new ≡ last_sequence size old
    → DrawsNumber size old new
draws_number size old new raises others room =
    let is = raised_is size (header_of old).last_tip.0 old new raises in
    let next : next_of new ≡ next_of old + 1 =
    raised_next size (header_of old).last_tip.0 old new raises in
    record {
      others = others;
      next = omega (arith, next);
      room = room;
      tip = sym (ap (λ (h : Header). h.last_tip.0) is.2);
      catalog = sym (ap (λ (h : Header). h.catalog.0) is.2);
      len = raises.len;
      database = is.0;
      fields = is.1;
    }

-- ---- the sequences

-- how many pages the list has, over the next number
last_of_list : (list : TxList) (size : ℕ) → IsTxList list → list.size ≡ size
    → length list.pages.items ≡ (next_said list - 1) / places size + 1
last_of_list list size is same = is.count
    ∙ ap (λ (k : ℕ). (next_said list - 1) / places k + 1) same

module _ (old new : TxList) (size : ℕ) (pool view : Pages) (was : IsTxList old) (now : IsTxList new)
    (adds : AddsNumber old new) (size_is : old.size ≡ size) (next : next_said old ≡ next_of pool)
    (raised : next_of view ≡ next_of pool + 1) where
  old_count : length old.pages.items ≡ last_sequence size pool + 1
  old_count = last_of_list old size was size_is ∙ ap (λ (k : ℕ). (k - 1) / places size + 1) next

  new_count : length new.pages.items ≡ last_sequence size view + 1
  new_count = last_of_list new size now (adds.size ∙ size_is)
      ∙ ap (λ (k : ℕ). (k - 1) / places size + 1)
      (adds.next ∙ (ap (λ (k : ℕ). k + 1) next ∙ sym raised))

  pub same_last : AddsPage old new None → last_sequence size view ≡ last_sequence size pool
  same_last same =
      let lengths : length new.pages.items ≡ length old.pages.items = ap length same in
      let first = old_count in let second = new_count in omega (arith, lengths, first, second)

  pub next_last : (page : TipPage) → AddsPage old new (Some page)
      → last_sequence size view ≡ suc (last_sequence size pool)
  next_last page more =
      let long : length new.pages.items ≡ length old.pages.items + 1 =
      ap length more ∙ length_more old.pages.items page in
      let first = old_count in let second = new_count in omega (arith, long, first, second)
    where
      length_more : (items : List TipPage) (x : TipPage) → length (items ++ (x ∷ [])) ≡ length items + 1
      length_more [] x = refl
      length_more (y ∷ ys) x = let rest : length (ys ++ (x ∷ [])) ≡ length ys + 1 = length_more ys x in
          omega (arith, rest)

  -- the sequence of the page of the number that is drawn
  pub its_sequence : last_sequence size view ≡ next_said old / places size
  its_sequence =
      let number : next_of view - 1 ≡ next_said old = omega (arith, raised, next) in
      ap (λ (k : ℕ). k / places size) number

-- ---- a new page of transactions

-- pages with the header page of others
abbrev pub with_header : Pages → Pages → Pages
with_header pages others m = if m == 0 then others 0 else pages m

header_here : (pages others : Pages) → with_header pages others 0 ≡ others 0
header_here pages others = refl

header_else : (pages others : Pages) (m : ℕ) → m ≢ 0 → with_header pages others m ≡ pages m
header_else pages others m ne = rw (ne_eqb m 0 ne) refl

module _ (g : Geometry) (lawful : IsGeometry g) (pool taken view : Pages) (page last seq : ℕ)
    (takes : TakesPage g pool taken page) (made : view page ≡ new_tip_page g.size page seq last)
    (some : page ≢ 0) (others : (m : ℕ) → m ≢ 0 → m ≢ page → view m ≡ taken m)
    (whole : (m : ℕ) → length (pool m) ≡ g.size) where
  abbrev i : ℕ
  i = inventory_page g.size (region_of g.size page)

  abbrev mid : Pages
  mid = with_header view pool

  mid_page : mid page ≡ new_tip_page g.size page seq last
  mid_page = header_else view pool page some ∙ made

  mid_else : (m : ℕ) → m ≢ 0 → m ≢ page → mid m ≡ taken m
  mid_else m off_header off_page = header_else view pool m off_header ∙ others m off_header off_page

  mid_others : (m : ℕ) → m ≢ i → m ≢ page → mid m ≡ pool m
  mid_others m off_bits off_page = at (cases_eq m 0)
    where
      at : (m ≡ 0) ⊎ (m ≢ 0) → mid m ≡ pool m
      at (inl e) = ap mid e ∙ (header_here view pool ∙ ap pool (sym e))
      at (inr ne) = mid_else m ne off_page ∙ takes.others m off_bits

  bits_off : (k : ℕ) → inventory_page g.size k ≢ 0
  bits_off k e = omega (arith, e)

  mid_bits : (k : ℕ) → mid (inventory_page g.size k) ≡ taken (inventory_page g.size k)
  mid_bits k = mid_else (inventory_page g.size k) (bits_off k) (takes.free.no_inventory k)

  mid_whole : (m : ℕ) → length (mid m) ≡ g.size
  mid_whole m = at (cases_eq m page) (cases_eq m i)
    where
      at : (m ≡ page) ⊎ (m ≢ page) → (m ≡ i) ⊎ (m ≢ i) → length (mid m) ≡ g.size
      at (inl e) at_i = ap (λ (k : ℕ). length (mid k)) e
          ∙ (ap length mid_page ∙ length-new_tip_page g.size page seq last)
      at (inr off) (inl e) = ap (λ (k : ℕ). length (mid k)) e
          ∙ (ap length (mid_bits (region_of g.size page)) ∙ takes.len)
      at (inr off) (inr off_i) = ap length (mid_others m off_i off) ∙ whole m

  pub tip_occupied : OccupiesPage g.size pool mid i page
  tip_occupied = taken_are_occupied g pool taken pool mid page lawful takes (record {
    before = λ k. refl;
    after = mid_bits;
    others = mid_others;
    whole = mid_whole;
  })

  module _ (raises : RaisesHead g.size pool view page)
      (more : last_sequence g.size view ≡ suc (last_sequence g.size pool))
      (seq_is : seq ≡ suc (last_sequence g.size pool)) (last_is : last ≡ (header_of pool).last_tip.0)
      (small_seq : seq < 2 ^ 32) (small_last : last < 2 ^ 32) where
    pub tip_draws : DrawsPage g.size mid view page
    tip_draws =
        let is = raised_is g.size page pool view raises in
        let next : next_of view ≡ next_of pool + 1 = raised_next g.size page pool view raises in
        let long : 24 ≤ g.size = let least = (page_sizes g.size lawful.size).0 in omega (arith, least) in
        record {
          others = λ m ne. sym (header_else view pool m ne);
          next = omega (arith, next);
          more = more;
          tip = sym (ap (λ (h : Header). h.last_tip.0) is.2);
          before = ap prev_in mid_page ∙ (new_page_prev g.size page seq last (omega (arith, long)) small_last
              ∙ last_is);
          wanted = record {
            below = tip_occupied.below;
            used = tip_occupied.bit;
            fields = subst (λ (k : ℕ). PassesAll (tip_checks (mid page) page k)) seq_is
                (subst (λ (b : List ℕ). PassesAll (tip_checks b page seq)) (sym mid_page)
                (new_page_passes g.size page seq last (omega (arith, long))
                (let below = tip_occupied.below in omega (arith, below)) small_seq small_last
                (λ first. absurd (not_first (sym first ∙ seq_is)))));
          };
          undrawn = λ place. subst IsUndrawn (sym (ap (λ (b : List ℕ). state_in b place) mid_page
              ∙ new_page_active g.size page seq last place)) tt;
          catalog = sym (ap (λ (h : Header). h.catalog.0) is.2);
          len = raises.len;
          database = is.0;
          fields = is.1;
        }
      where
        not_first : 0 ≡ suc (last_sequence g.size pool) → ⊥
        not_first e = absurd cc

-- ---- the batch

-- of a page whose inventory page two images have alike one says that it is used where the other does
bits_on : (size : ℕ) (pool taken : Pages) (page : ℕ)
    → pool (inventory_page size (region_of size page)) ≡ taken (inventory_page size (region_of size page))
    → is_used size taken page ≡ true → is_used size pool page ≡ true
unfolding is_used
bits_on size pool taken page same used = ap (λ (b : List ℕ). used_in b (page % bits size)) same ∙ used

lists_first : (page at : ℕ) (more : List Order) → lists (record { first = page; later = 0 }
    ∷ record { first = at; later = 0 } ∷ more) page 0 ≡ true
lists_first page at more = rw (eq-eqb page page refl) refl

lists_second : (page at : ℕ) (more : List Order) → lists (record { first = page; later = 0 }
    ∷ record { first = at; later = 0 } ∷ more) at 0 ≡ true
lists_second page at more = by (page == at)
  where
    by : (b : Bool) → ((b && true) || (((at == at) && true) || lists more at 0)) ≡ true
    by true = refl
    by false = rw (eq-eqb at at refl) refl

module _ (form : Form) (none : HasNoSequences form) {D L : Type 0} (m : Meaning D) (old new : TxList)
    (before after : Pool D L) (i j : Image) (asked : Asked) (session : Sessions) (o : Opening)
    (h : Entries) (state : ℕ → TxState) (from : DrawsFrom m old new before after i j)
    (every : KeptIn form before.geometry.size o h state asked session before i) where
  abbrev size : ℕ
  size = before.geometry.size

  abbrev pool : Pages
  pool = shown before.dirty i

  abbrev batch : Changed
  batch = from.draws.batch

  abbrev view : Pages
  view = viewed before i batch

  it : BatchIsChanged before after i j batch asked session
  it = changed_batches_are D L m before from.draws.ready after i j batch asked session from.draws.keeps
      from.draws.frame from.tells from.held

  -- whoever is active or in limbo is not below the oldest active one
  start : IsKept form size o h (left_state (λ t. true) state) pool pool
  start = good_of_pool (keeping form size o h) state (cache_over before i) (needs_in asked session before)
      it.changes.was_clean (λ t p needs. (it.left t p needs).0) every (λ t. true)

  never : (t : ℕ) → t < oldest_active_of pool → (state t ≢ Active) × (state t ≢ Limbo)
  never t below = (
    (λ is. start.sound.limbo t below (ap (left_by true) is)),
    (λ is. start.sound.limbo t below (ap (left_by true) is)),
  )

  -- the oldest active one stays
  oldest_stays : (last : ℕ) → RaisesHead size pool view last → (t : ℕ)
      → t < oldest_active_of (cache_over after j).pool → (state t ≢ Active) × (state t ≢ Limbo)
  oldest_stays last raises t below = never t (subst (λ (k : ℕ). t < k) same below)
    where
      same : oldest_active_of (cache_over after j).pool ≡ oldest_active_of pool
      same = ap (λ (pages : Pages). oldest_active_of pages) it.pool
          ∙ sym (ap (λ (x : Header). x.oat.0) (raised_is size last pool view raises).2)

  -- the oldest interesting one stays, so it passes over nobody
  none_passed : (last : ℕ) → RaisesHead size pool view last → (t : ℕ)
      → oldest_of pool ≤ t → t < oldest_of (cache_over after j).pool → state t ≡ Committed
  none_passed last raises t above below =
      let same : oldest_of (cache_over after j).pool ≡ oldest_of pool =
      ap (λ (pages : Pages). oldest_of pages) it.pool
      ∙ sym (ap (λ (x : Header). x.oit.0) (raised_is size last pool view raises).2) in
      absurd (omega (arith, same, above, below))

  by_page : (page : Option TipPage) (os : List Order) → DrawsOn before.geometry (next_said old) pool view page os
      → AddsPage old new page → batch.orders ≡ os
      → KeptIn form size o h state asked session after j
  by_page page os (on_last raises others) adds_page orders_are =
      draw_every form none size o h state (cache_over before i) (cache_over after j) it.gone
      (content_in batch.pages) (lists batch.orders) (needs_in asked session before)
      (needs_in asked session after) it.changes it.left
      (subst (DrawsNumber size pool) (sym it.pool) (draws_number size pool view raises others
      (same_last old new size pool view from.was from.now from.adds from.size from.next
      (raised_next size (header_of pool).last_tip.0 pool view raises) adds_page)))
      (oldest_stays (header_of pool).last_tip.0 raises)
      (none_passed (header_of pool).last_tip.0 raises) every
  by_page page os (on_new made taken takes bytes_are there raises others) adds_page orders_are =
      draw_page_every form none size o h state (cache_over before i) (cache_over after j)
      (with_header view pool) it.gone (content_in batch.pages) (lists batch.orders)
      (needs_in asked session before) (needs_in asked session after)
      (inventory_page size (region_of size made.page)) made.page it.changes it.left occupies
      (subst (λ (pages : Pages). DrawsPage size (with_header view pool) pages made.page) (sym it.pool) draws)
      (record {
        bits = ordered (inventory_page size (region_of size made.page)) (lists_second made.page
            (inventory_page size (region_of size made.page))
            (last_orders size made.page (header_of pool).last_tip.0));
        page_first = ordered made.page (lists_first made.page
            (inventory_page size (region_of size made.page))
            (last_orders size made.page (header_of pool).last_tip.0));
        bits_in = has_bits;
      }) (oldest_stays made.page raises) (none_passed made.page raises) every
    where
      more : last_sequence size view ≡ suc (last_sequence size pool)
      more = next_last old new size pool view from.was from.now from.adds from.size from.next
          (raised_next size made.page pool view raises) made adds_page

      seq_is : next_said old / places size ≡ suc (last_sequence size pool)
      seq_is = sym (its_sequence old new size pool view from.was from.now from.adds from.size from.next
          (raised_next size made.page pool view raises)) ∙ more

      made_there : view made.page ≡ new_tip_page size made.page (next_said old / places size)
          (header_of pool).last_tip.0
      made_there = there ∙ bytes_are

      small_seq : next_said old / places size < 2 ^ 32
      small_seq =
          let few : next_said old / places size ≤ next_said old = div-le_self (next_said old) (places size) in
          let most = from.was.most in omega (arith, few, most)

      small_last : (header_of pool).last_tip.0 < 2 ^ 32
      small_last =
          let below = (start.sound.transactions.each (last_sequence size pool) (omega arith)).below in
          let zero_ : last_sequence size pool - last_sequence size pool ≡ 0 = omega arith in
          let its : tip_page size pool (last_sequence size pool) ≡ (header_of pool).last_tip.0 =
          ap (tip_before pool (header_of pool).last_tip.0) zero_ in omega (arith, below, its)

      occupies : OccupiesPage size pool (with_header view pool)
          (inventory_page size (region_of size made.page)) made.page
      occupies = tip_occupied before.geometry from.geometry pool taken view made.page
          (header_of pool).last_tip.0 (next_said old / places size) takes made_there takes.free.no_header
          others start.sound.header.whole

      draws : DrawsPage size (with_header view pool) view made.page
      draws = tip_draws before.geometry from.geometry pool taken view made.page
          (header_of pool).last_tip.0 (next_said old / places size) takes made_there takes.free.no_header
          others start.sound.header.whole raises more seq_is refl small_seq small_last

      ordered : (a : ℕ) → lists (tip_orders size made.page (header_of pool).last_tip.0) a 0 ≡ true
          → lists batch.orders a 0 ≡ true
      ordered a is = subst (λ (os : List Order). lists os a 0 ≡ true) (sym orders_are) is

      -- the inventory page has another content, so the batch has it
      has_bits : content_in batch.pages (inventory_page size (region_of size made.page)) ≢ None
      has_bits none_ = let both : true ≡ false = sym now_used ∙ takes.free.unused in absurd cc
        where
          same : view (inventory_page size (region_of size made.page))
              ≡ pool (inventory_page size (region_of size made.page))
          same = ap (λ (c : Option (List ℕ)). unwrap_or c
              (pool (inventory_page size (region_of size made.page)))) none_

          now_used : is_used size pool made.page ≡ true
          now_used = bits_on size pool taken made.page (sym same
              ∙ others (inventory_page size (region_of size made.page))
              (bits_off before.geometry from.geometry pool taken view made.page
              (header_of pool).last_tip.0 (next_said old / places size) takes made_there
              takes.free.no_header others start.sound.header.whole (region_of size made.page))
              (takes.free.no_inventory (region_of size made.page)))
              (takes_bit before.geometry pool taken made.page from.geometry takes)

  pub draw_row : KeptIn form size o h state asked session after j
  draw_row = by_page from.draws.page batch.orders (from.draws.views i from.tells) from.draws.adds refl

pub draw_row_keeps : (form : Form) → HasNoSequences form → (D L : Type 0) (m : Meaning D)
    → DrawRowKeeps form D L m
draw_row_keeps form none D L m old new before after i j asked session o h state from every =
    draw_row form none m old new before after i j asked session o h state from every
