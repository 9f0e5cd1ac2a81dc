-- A number that is drawn, and the bits of a commit, by what an engine knows of the pages.
use Rattle.std.specs.Prelude.{◌≡◌, ◌≢◌, ◌<◌, ◌≤◌, ◌⊎◌, ◌==◌, ◌&&◌, ◌-◌, ◌/◌, ◌^◌, ℕ, Bool, true, false, List, [], ◌∷◌, Ok, Err, Option, None, Some, Result, is_ok}
use Rattle.std.proofs.Common.{inl, inr, refl, sym, subst, ap, ◌∙◌, arith}
use Rattle.std.proofs.lemmas.Bool.{and_parts, both_ways, cases_eq, eq-eqb, eqb-true, or_cases}
use Rattle.mg_base.specs.Disk.{Meaning}
use Rattle.mg_base.specs.Image.{Image}
use Rattle.mg_base.specs.declared.geometry.TheConstants.{GREATEST_LIMIT}
use Rattle.mg_base.specs.declared.transaction.TxState.{TxState}
use Rattle.mg_base.specs.declared.transaction.TxState.TheVariants.{Active}
use Rattle.mg_careful.specs.declared.links.Demand.{Demand}
use Rattle.mg_careful.specs.CarefulWrite.{Cache, DemandSet, Has, IsIn}
use Rattle.mg_demand_laws.specs.DrawDemands.{SaysNumber, draw_wants}
use Rattle.mg_header.specs.HeaderPage.{reading}
use Rattle.mg_header.specs.declared.header.HeadFault.{HeadFault}
use Rattle.mg_header.specs.declared.header.Header.{Header}
use Rattle.mg_image.specs.Form.{Pages, packed_form}
use Rattle.mg_image.specs.Inventory.{header_of, last_sequence, next_of, tip_before, tip_page}
use Rattle.mg_image.specs.Records.{Reading}
use Rattle.mg_image.specs.Sound.{IsSoundBy}
use Rattle.mg_image.specs.Tables.{Layout}
use Rattle.mg_model.specs.Answers.{is_active, is_committed}
use Rattle.mg_pool.specs.Batch.{Changed, content_in, is_in, lists, one_page, orders_of}
use Rattle.mg_pool.specs.Dirty.{is_marked}
use Rattle.mg_pool.specs.Pool.{shown}
use Rattle.mg_pool.specs.declared.pool.Pool.{Pool}
use Rattle.mg_space.specs.Demands.{bit_demand}
use Rattle.mg_space.specs.View.{viewed}
use Rattle.mg_space.specs.declared.links.TheConstants.{HEADER, NEXT, TRANSACTIONS}
use Rattle.mg_tip.specs.TipPage.{places}
use Rattle.mg_txlist.specs.Ending.{header_first}
use Rattle.mg_txlist.specs.TxList.{next_said, tip_in}
use Rattle.mg_txlist.specs.declared.list.TipPage.{TipPage}
use Rattle.mg_txlist.specs.declared.list.TxList.{TxList}
use Rattle.mg_tie_laws.specs.DrawTies.{DrawsFrom}
use Rattle.mg_image_overlay_laws.specs.kept.Rest.{div_grows}
use Rattle.mg_demand_laws.specs.KindLaws.{tip_kind}
use Rattle.mg_demand_laws.specs.Met.{has_back, in_listed, of_listed}
use Rattle.mg_demand_laws.specs.Wanting.{IsWanting, want_of}
use Rattle.mg_demand_laws.specs.EndTies.{KnowsEnd, with_page}
use Rattle.mg_demand_laws.specs.PoolTies.{cache_over}
use Rattle.mg_demand_laws.specs.SettleTies.{CommitSettles}
use Rattle.mg_demand_laws.specs.Wants.{AreOrderly, IsTaken, WantsBit, is_head, taken_is, tip_passes}
use Rattle.mg_demand_laws.specs.Chained.{IsChained}
use Rattle.mg_demand_laws.specs.NumberTies.{commit_keeps, draw_keeps, drawn_none}
use Rattle.mg_engine_demand_laws.specs.Bearing.{Fates, IsBorne, IsBorneWith, Marks, PaysFor, asks}
use Rattle.mg_engine_demand_laws.specs.FateLaws.{committing_keeps, telling_keeps}
use Rattle.mg_engine_demand_laws.specs.Numbers.{CommitsIn, CommitsKeep, DrawsKeep, HasBegun}
use Rattle.mg_engine_demand_laws.specs.StoreLaws.{change_geometry, reads_told, same_store}
use Rattle.mg_engine_demand_laws.specs.Stores.{BatchPays, ChangesStore, PageWritesKeep, StoreBears, StoreBearsWith, StoreChangesKeep, WantsAll}
use Rattle.mg_engine_demand_laws.specs.TipLaws.{WantsTip, tip_wanted}

-- ---- a draw

module _ (size : ℕ) (state : ℕ → TxState) (pages : Pages) (layout : Layout) (r : Reading)
    (sound : IsSoundBy packed_form size state pages layout r) (wanted : DemandSet) (was : IsWanting size pages wanted)
    (head : IsIn wanted (want_of 0 HEADER 0 0)) (small : next_of pages < 2 ^ 32) where
  tip_there : (sequence : ℕ) → sequence ≤ last_sequence size pages
      → WantsTip size wanted (tip_page size pages sequence) sequence
  tip_there sequence within = tip_wanted size pages wanted was head sound.transactions.each small sequence within

  tip_taken : (n sequence : ℕ) → WantsTip size wanted n sequence → IsTaken size pages n
  tip_taken n sequence tip = taken_is size pages wanted was n 3 head tip.bit
      (tip_kind (pages n) n sequence (tip_passes size pages wanted was n sequence tip.page)) (omega arith)
      (want_of n TRANSACTIONS sequence 0) tip.page refl

  last_is : tip_page size pages (last_sequence size pages) ≡ (header_of pages).last_tip.0
  last_is =
      let none : last_sequence size pages - last_sequence size pages ≡ 0 = omega arith in
      ap (λ (k : ℕ). tip_before pages (header_of pages).last_tip.0 k) none

  last_tip : WantsTip size wanted (header_of pages).last_tip.0 (last_sequence size pages)
  last_tip = subst (λ (n : ℕ). WantsTip size wanted n (last_sequence size pages)) last_is
      (tip_there (last_sequence size pages) (omega arith))

  pub says_number : (t : ℕ) → next_of pages ≡ t → 1 ≤ t → SaysNumber size pages t
  says_number t next some = record {
    header = (header (reading (pages 0) size) refl).0;
    reads = (header (reading (pages 0) size) refl).1;
    next_is = next;
    some = some;
    most = omega (arith, next, small);
    last = subst (λ (n : ℕ). n < GREATEST_LIMIT) last_is
        (sound.transactions.each (last_sequence size pages) (omega arith)).below;
    last_some = (tip_taken (header_of pages).last_tip.0 (last_sequence size pages) last_tip).off_header;
    last_used = (tip_taken (header_of pages).last_tip.0 (last_sequence size pages) last_tip).used;
  }
    where
      header : (o : Result Header HeadFault) → reading (pages 0) size ≡ o
          → (h : Header) × (reading (pages 0) size ≡ Ok h)
      header (Ok h) is = (h, is)
      header (Err fault) is =
          let ok : is_ok (reading (pages 0) size) ≡ true = is_head size pages wanted was head in
          let bad : is_ok (reading (pages 0) size) ≡ false = ap is_ok is in absurd (both_ways _ bad ok)

  -- ---- the end of a transaction

  pub knows_end : (list : TxList) (t : ℕ) → list.size ≡ size → t < next_of pages
      → (tip_in list (t / places size)).page ≡ tip_page size pages (t / places size)
      → (tip_in list (t / places size)).bytes ≡ pages (tip_page size pages (t / places size))
      → KnowsEnd list pages t wanted
  knows_end list t sized drawn page bytes = record {
    bytes = subst (λ (k : ℕ). (tip_in list k).bytes ≡ pages (tip_in list k).page) (sym same)
        (bytes ∙ ap pages (sym page));
    page = subst (λ (k : ℕ). IsIn wanted (want_of (tip_in list k).page TRANSACTIONS k 0)) (sym same)
        (subst (λ (n : ℕ). IsIn wanted (want_of n TRANSACTIONS (t / places size) 0)) (sym page) its.page);
    bit = subst (λ (k : ℕ). WantsBit list.size wanted (tip_in list k).page) (sym same)
        (subst (λ (k : ℕ). WantsBit k wanted (tip_in list (t / places size)).page) (sym sized)
        (subst (WantsBit size wanted) (sym page) its.bit));
    header = head;
    drawn = drawn;
  }
    where
      same : t / places list.size ≡ t / places size
      same = ap (λ (k : ℕ). t / places k) sized

      its : WantsTip size wanted (tip_page size pages (t / places size)) (t / places size)
      its = tip_there (t / places size) (div_grows t (next_of pages - 1) (places size) (omega (arith, drawn)))

next_there : (size t : ℕ) (page : Option TipPage) → Has (draw_wants size t page) (want_of 0 NEXT t 0)
next_there size t None = inl refl
next_there size t (Some page) = has_back (bit_demand size page.page) _ _ (inr (inl refl))

module _ {D L : Type 0} (m : Meaning D) (old now : TxList) (before after : Pool D L) (i j : Image) (fates : Fates)
    (layout : Layout) (r : Reading) (state : ℕ → TxState) (from : DrawsFrom m old now before after i j)
    (sound : IsSoundBy packed_form before.geometry.size state (shown before.dirty i) layout r) where
  abbrev t : ℕ
  t = next_said old

  drawn_store : ChangesStore m before after i j from.draws.batch
  drawn_store = record {
    ready = from.draws.ready;
    same_dirty = from.draws.keeps.dirty;
    same_graph = from.draws.keeps.graph;
    told = reads_told m before from.draws.ready i from.draws.keeps from.tells;
    frame = from.draws.frame;
    geometry = change_geometry m from.draws.ready after from.draws.batch.pages from.draws.batch.orders
        from.draws.changes ∙ from.draws.keeps.geometry;
    later_in = from.draws.lawful.later_in;
    held = from.held;
  }

  draw_pays : (wanted : DemandSet) → WantsAll before.geometry.size (shown before.dirty i) fates layout wanted
      → BatchPays before i fates layout layout (want_of 0 NEXT t 0 ∷ []) wanted from.draws.batch
  draw_pays wanted all it on_disk lasting for has = record {
    pays = draw_keeps before.geometry t (shown before.dirty i) (viewed before i from.draws.batch) from.draws.page
        from.draws.batch.orders (content_in from.draws.batch.pages) it on_disk wanted from.geometry
        (says_number before.geometry.size state (shown before.dirty i) layout r sound wanted all.wants all.header
        (let most = from.was.most in let next = from.next in omega (arith, most, next)) t (sym from.next)
        (let some = from.was.some in omega (arith, some)))
        (from.draws.views i from.tells) from.draws.first lasting all.wants all.header all.orderly all.chained;
    own = λ d h is. absurd ((drawn_none before.geometry.size t from.draws.page d
        (of_listed (draw_wants before.geometry.size t from.draws.page) d h)).0.0 is);
    tables = λ table its. inl its;
    newly = λ d h. elim h [
      | inl same ↦ (
        (λ is. let two : d.what ≡ 2 = ap (λ (x : Demand). x.what) same in omega (arith, two, is)),
        in_listed (draw_wants before.geometry.size t from.draws.page) d
            (subst (Has (draw_wants before.geometry.size t from.draws.page)) (sym same)
            (next_there before.geometry.size t from.draws.page)),
      )
      | inr none ↦ absurd none
    ];
  }

module _ (old new : Fates) (t : ℕ) (has : HasBegun old new t) where
  committed_before : (u : ℕ) → (u ≡ t) ⊎ (u ≢ t) → is_committed (new.state u) ≡ is_committed (old.state u)
  committed_before u (inl same) = ap is_committed (ap new.state same ∙ has.here)
      ∙ (sym has.undrawn ∙ ap is_committed (ap old.state (sym same)))
  committed_before u (inr other) = ap is_committed (has.others u other)

  none_asks : (x y : Bool) → y ≡ false → (x && y) ≡ true → ⊥
  none_asks true y is asked = both_ways y is asked
  none_asks false y is asked = absurd cc

  asked_before : (u : ℕ) → asks new u ≡ true → (u ≡ t) ⊎ (u ≢ t)
      → (asks old u ≡ true) × (new.session u ≡ old.session u)
  asked_before u asked (inl same) = absurd (none_asks (is_active (new.state t)) (new.asked t) has.not_asked
      (ap (asks new) (sym same) ∙ asked))
  asked_before u asked (inr other) = has.asking u other asked

  active_before : (wanted : DemandSet) → IsIn wanted (want_of 0 NEXT t 0) → (u : ℕ) → new.state u ≡ Active
      → (u ≡ t) ⊎ (u ≢ t) → (old.state u ≡ Active) ⊎ IsIn wanted (want_of 0 NEXT u 0)
  active_before wanted drawn u active (inl same) =
      inr (subst (λ (k : ℕ). IsIn wanted (want_of 0 NEXT k 0)) (sym same) drawn)
  active_before wanted drawn u active (inr other) = inl (sym (has.others u other) ∙ active)

  -- it begins where its number is wanted
  begun_bears : (size : ℕ) (cache : Cache) (marks : Marks) (layout : Layout) (roots : DemandSet)
      → IsBorneWith size cache marks old layout roots (want_of 0 NEXT t 0 ∷ []) → IsBorne size cache marks new layout roots
  begun_bears size cache marks layout roots drawn = telling_keeps size cache marks old new layout layout roots drawn.borne
      (record {
        committed = λ u. committed_before u (cases_eq u t);
        asking = λ u asked. asked_before u asked (cases_eq u t);
        active = λ u active. active_before drawn.borne.of_pool (drawn.brought (want_of 0 NEXT t 0) (inl refl)) u active
            (cases_eq u t);
        tables = λ table its. its;
      })

pub draws_keep : (D L : Type 0) (m : Meaning D) → StoreChangesKeep D L m → DrawsKeep D L m
draws_keep D L m law old now before after i j fates begun layout r roots state from sound has borne =
    begun_bears fates begun (next_said old) has after.geometry.size (cache_over after j) (is_marked after.dirty) layout roots
    (law before after i j from.draws.batch fates layout layout roots (want_of 0 NEXT (next_said old) 0 ∷ [])
    (drawn_store m old now before after i j fates layout r state from sound) borne
    (draw_pays m old now before after i j fates layout r state from sound))

-- ---- a commit

-- the page of the batch that sets bits is the later one of its order
bits_later : (page a b : ℕ) (bytes : List ℕ)
    → lists (orders_of header_first (record { 0 = page })) a b ≡ true → is_in (one_page page bytes) b ≡ true
bits_later page a b bytes is = elim (or_cases ((0 == a) && (page == b)) false is) [
  | inl order ↦
      let same : page ≡ b = eqb-true page b (and_parts (0 == a) (page == b) order).1 in
      subst (λ (k : ℕ). is_in (one_page page bytes) k ≡ true) same (rw (eq-eqb page page refl) refl)
  | inr none ↦ absurd cc
]

module _ {D L : Type 0} (m : Meaning D) (old now : TxList) (before after : Pool D L) (i k j : Image) (t : ℕ)
    (fates : Fates) (layout : Layout) (r : Reading) (state : ℕ → TxState)
    (it : CommitsIn m old now before after i k j t)
    (sound : IsSoundBy packed_form before.geometry.size state (shown before.dirty i) layout r) where
  abbrev page : ℕ
  page = (tip_in old (t / places old.size)).page

  abbrev batch : Changed
  batch = record {
    pages = one_page page it.commits.bytes;
    orders = orders_of header_first (record { 0 = page });
  }

  abbrev changed : Pool D L
  changed = it.commits.settles.changed

  bits_store : ChangesStore m before changed i k batch
  bits_store = record {
    ready = before;
    same_dirty = refl;
    same_graph = refl;
    told = it.tells;
    frame = it.commits.settles.changes.frame;
    geometry = change_geometry m before changed batch.pages batch.orders it.commits.settles.changes.changes;
    later_in = λ a b is. bits_later page a b it.commits.bytes is;
    held = it.midway.held;
  }

  module _ (wanted : DemandSet) (all : WantsAll before.geometry.size (shown before.dirty i) fates layout wanted) where
    knows : KnowsEnd old (shown before.dirty i) t wanted
    knows = knows_end before.geometry.size state (shown before.dirty i) layout r sound wanted all.wants all.header
        (let small = it.small in omega (arith, small)) old t it.shows.sized it.drawn it.shows.page it.shows.bytes

    bits_pay : BatchPays before i fates layout layout [] wanted batch
    bits_pay last on_disk lasting for has = subst (λ (s : ℕ). PaysFor s (shown before.dirty i)
        (with_page (shown before.dirty i) page it.commits.bytes) (content_in batch.pages) (lists batch.orders) fates layout
        layout [] last on_disk wanted) it.shows.sized (record {
          pays = commit_keeps D L m old now before after (shown before.dirty i) t it.commits (content_in batch.pages) last
              on_disk wanted knows lasting
              (subst (λ (s : ℕ). IsWanting s (shown before.dirty i) wanted) (sym it.shows.sized) all.wants)
              (subst (λ (s : ℕ). AreOrderly s (shown before.dirty i) wanted) (sym it.shows.sized) all.orderly)
              (subst (λ (s : ℕ). IsChained s (shown before.dirty i) wanted) (sym it.shows.sized) all.chained);
          own = λ d h is. elim (of_listed (want_of 0 NEXT t 0 ∷ []) d h) [
            | inl same ↦ let two : d.what ≡ 2 = ap (λ (x : Demand). x.what) same in absurd (omega (arith, two, is))
            | inr none ↦ absurd none
          ];
          tables = λ table its. inl its;
          newly = λ d h. absurd h;
        })

pub commits_keep : (D L : Type 0) (m : Meaning D) → StoreChangesKeep D L m → PageWritesKeep D L m → CommitSettles
    → CommitsKeep D L m
commits_keep D L m law writes settles old now before after i k j t fates ended layout r roots state it sound done borne =
    same_store it.commits.settles.written after j ended layout roots
    (ap (λ (s : Pool D L). s.geometry) it.commits.settles.same)
    (ap (λ (s : Pool D L). s.dirty) it.commits.settles.same) (ap (λ (s : Pool D L). s.graph) it.commits.settles.same)
    (writes it.commits.settles.changed it.commits.settles.written k j ended layout roots it.commits.settles.writes it.midway
    (sym it.commits.settles.settles.held ∙ it.held) bits.borne)
  where
    settled : StoreBears before i ended layout roots
    settled = committing_keeps settles before.geometry.size (cache_over before i) (is_marked before.dirty) fates ended layout
        roots t borne done

    bits : StoreBearsWith it.commits.settles.changed k ended layout roots []
    bits = law before it.commits.settles.changed i k
        (batch m old now before after i k j t fates layout r state it sound) ended layout layout roots []
        (bits_store m old now before after i k j t fates layout r state it sound) settled
        (bits_pay m old now before after i k j t ended layout r state it sound)
