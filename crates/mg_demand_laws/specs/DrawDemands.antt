-- What the drawing of a number pays: its batch is the header, and where the number is the first of a
-- transaction inventory page, that page and the inventory page with its bit.
use Rattle.std.specs.Prelude.{◌≡◌, ◌≢◌, ◌⊎◌, ◌<◌, ◌≤◌, ◌^◌, ◌/◌, ◌%◌, ◌+◌, ◌-◌, ◌*◌, ◌==◌, ◌&&◌, ◌++◌, ℕ, Bool, true, List, [], ◌∷◌, Option, None, Some, Ok, if◌then◌else◌}
use Rattle.std.proofs.Common.{inl, inr, refl, sym, subst, ap, ◌∙◌, arith}
use Rattle.std.proofs.Math.Nat.{div-le_self, mod-lt, mod-add-div', suc-mul, zero-mul}
use Rattle.std.specs.Prelude.{suc}
use Rattle.std.proofs.lemmas.Bool.{and_from, both_ways, cases_eq, eq-eqb, lt-ltb, ne_eqb, not_from_false, or_left, or_right}
use Rattle.std.proofs.lemmas.Nat.{div-mul-add}
use Rattle.mg_base.specs.declared.geometry.Geometry.{Geometry}
use Rattle.mg_careful.specs.declared.graph.Order.{Order}
use Rattle.mg_careful.specs.declared.links.Demand.{Demand}
use Rattle.mg_careful.specs.CarefulWrite.{DemandSet, Has, IsIn, either, listed}
use Rattle.mg_demand_laws.specs.Bearing.{IsPaid}
use Rattle.mg_header.specs.HeaderPage.{header_in, reading}
use Rattle.mg_header.specs.HeaderPageLaws.{reading_ok}
use Rattle.mg_header.specs.declared.header.Header.{Header}
use Rattle.mg_image.specs.Form.{Pages}
use Rattle.mg_image.specs.Inventory.{header_of, inventory_page, is_used, next_of}
use Rattle.mg_pool.specs.Batch.{lists}
use Rattle.mg_space.specs.Demands.{bit_demand, demand, linked}
use Rattle.mg_space.specs.Taking.{IsGeometry, TakesPage, region_of}
use Rattle.mg_space.specs.TakingLaws.{page_sizes, takes_bit}
use Rattle.mg_space.specs.declared.links.TheConstants.{BIT, HEADER, NEXT, TRANSACTIONS}
use Rattle.mg_tip.specs.TipPage.{new_tip_page, places}
use Rattle.mg_base.specs.declared.geometry.TheConstants.{GREATEST_LIMIT}
use Rattle.mg_careful.specs.Precedence.{Orders}
use Rattle.mg_txlist.specs.Drawing.{DrawsOn, IsTipFor, RaisesHead, may_precede, on_last, on_new, orders_before, raised_header, tip_orders}
use Rattle.mg_txlist.specs.declared.list.TipPage.{TipPage}
use Rattle.mg_demand_laws.specs.KindLaws.{from_want}
use Rattle.mg_demand_laws.specs.Met.{has_either, has_front, in_listed, is_demand}
use Rattle.mg_demand_laws.specs.NumberLaws.{header_pays}
use Rattle.mg_demand_laws.specs.Steps.{RaisesHeader, number_more}
use Rattle.mg_demand_laws.specs.TakeLaws.{bit_is_elsewhere, make_pays, take_pays, taken_is_unwanted}
use Rattle.mg_demand_laws.specs.TipLaws.{made_tip}
use Rattle.mg_demand_laws.specs.Wanting.{IsWanting, Pays, want_of}
use Rattle.mg_demand_laws.specs.WantingLaws.{either_cases, in_one, in_other, two_listed}

-- What is known of the header when a number is drawn.
pub record SaysNumber (size : ℕ) (old : Pages) (t : ℕ) : Type 0 where
  pub header : Header
  pub reads : reading (old 0) size ≡ Ok header
  pub next_is : next_of old ≡ t
  pub some : 1 ≤ t
  pub most : t < 2 ^ 32
  -- its last transaction inventory page is one that a database may have, and is marked as used
  pub last : (header_of old).last_tip.0 < GREATEST_LIMIT
  pub last_some : (header_of old).last_tip.0 ≢ 0
  pub last_used : is_used size old (header_of old).last_tip.0 ≡ true

-- what is newly wanted: the number; and where it gets a page, that page, behind the one before, with its bit
abbrev pub draw_wants : ℕ → ℕ → Option TipPage → List Demand
draw_wants size t None = want_of 0 NEXT t 0 ∷ []
draw_wants size t (Some page) = bit_demand size page.page
    ++ want_of page.page TRANSACTIONS (t / places size) 0 ∷ want_of 0 NEXT t 0 ∷ []

-- the law of drawing
abbrev pub DrawsPay : Type 0
DrawsPay = (g : Geometry) (t : ℕ) (old new : Pages) (page : Option TipPage) (orders : List Order)
    (settled : ℕ → Bool) (on_disk wanted : DemandSet) → IsGeometry g → SaysNumber g.size old t
    → DrawsOn g t old new page orders → IsTipFor g.size t page
    → IsWanting g.size old wanted → IsIn wanted (want_of 0 HEADER 0 0)
    → Pays g.size old new (lists orders) settled on_disk wanted (listed (draw_wants g.size t page))

-- the numbers of one page but the first have the sequence of the number before
same_sequence : (t p : ℕ) → t % p ≢ 0 → t % p < p → (t - 1) / p ≡ t / p
same_sequence t p some low =
    let whole = mod-add-div' t p in
    let before : t - 1 ≡ t / p * p + (t % p - 1) = omega (arith, whole, some) in
    ap (λ (k : ℕ). k / p) before ∙ div-mul-add (t / p) p (t % p - 1) (omega (arith, some, low))

-- the first of a page has the next sequence
next_sequence : (t p : ℕ) → t % p ≡ 0 → 1 ≤ t → 0 < p → (t / p ≢ 0) × ((t - 1) / p ≡ t / p - 1)
next_sequence t p first some wide = (is_some, is_next)
  where
    whole : t ≡ t / p * p
    whole = let all = mod-add-div' t p in omega (arith, all, first)

    is_some : t / p ≢ 0
    is_some none = let zero_ : t / p * p ≡ 0 * p = ap (λ (k : ℕ). k * p) none in
        let nothing : 0 * p ≡ 0 = zero-mul p in
        let all = whole in omega (arith, zero_, nothing, all, some)

    is_next : (t - 1) / p ≡ t / p - 1
    is_next =
        let one_less : suc (t / p - 1) ≡ t / p = (let ne = is_some in omega (arith, ne)) in
        let more : suc (t / p - 1) * p ≡ (t / p - 1) * p + p = suc-mul (t / p - 1) p in
        let same : suc (t / p - 1) * p ≡ t / p * p = ap (λ (k : ℕ). k * p) one_less in
        let all = whole in
        let before : t - 1 ≡ (t / p - 1) * p + (p - 1) = omega (arith, more, same, all, wide) in
        ap (λ (k : ℕ). k / p) before ∙ div-mul-add (t / p - 1) p (p - 1) (omega (arith, wide))

module _ (g : Geometry) (t : ℕ) (old new : Pages) (settled : ℕ → Bool) (on_disk wanted : DemandSet) (lawful : IsGeometry g) (says : SaysNumber g.size old t) (was : IsWanting g.size old wanted) (header_in_ : IsIn wanted (want_of 0 HEADER 0 0)) where
  abbrev size : ℕ
  size = g.size

  wide : 0 < places size
  wide = let sizes = page_sizes size lawful.size in let least = sizes.0 in omega (arith, least)

  low : t % places size < places size
  low = mod-lt t wide

  -- what the new header says
  head_is : (last : ℕ) → RaisesHead size old new last → raised_header (header_of old) last ≡ header_of new
  head_is last raises = (reading_ok (new 0) size (raised_header (header_of old) last) raises.reads).2

  next_now : (last : ℕ) → RaisesHead size old new last → next_of new ≡ next_of old + 1
  next_now last raises = ap (λ (h : Header). h.next.0) (sym (head_is last raises))

  raises_from : (mid : Pages) (last : ℕ) → RaisesHead size old new last → mid 0 ≡ old 0
      → ((p : ℕ) → p ≢ 0 → new p ≡ mid p) → RaisesHeader size mid new last
  raises_from mid last raises same others = record {
    others = others;
    len = raises.len;
    was = says.header;
    was_read = ap (λ (page : List ℕ). reading page size) same ∙ says.reads;
    is = raised_header (header_of old) last;
    reads = raises.reads;
    next = next_now last raises ∙ ap (λ (page : List ℕ). (header_in page).next.0 + 1) (sym same);
    last_is = ap (λ (h : Header). h.last_tip.0) (sym (head_is last raises));
    catalog = ap (λ (h : Header). h.catalog) (sym (head_is last raises))
        ∙ ap (λ (page : List ℕ). (header_in page).catalog) (sym same);
  }

  draw_last : RaisesHead size old new (header_of old).last_tip.0 → ((p : ℕ) → p ≢ 0 → new p ≡ old p)
      → t % places size ≢ 0
      → Pays size old new (lists []) settled on_disk wanted (listed (draw_wants size t None))
  draw_last raises others inner = subst (λ (k : ℕ). Pays size old new (lists []) settled on_disk wanted (number_more k))
      says.next_is
      (header_pays size old new (header_of old).last_tip.0 (lists []) settled on_disk wanted
      (raises_from old (header_of old).last_tip.0 raises refl others) was
      (was.used (want_of 0 HEADER 0 0) header_in_) (λ e there. inl (subst
      (λ (s : ℕ). Has (linked size (header_of old).last_tip.0 TRANSACTIONS s 0) e) sequence_same there)))
    where
      sequence_same : (next_of new - 1) / places size ≡ (next_of old - 1) / places size
      sequence_same =
          let now : next_of new - 1 ≡ t = (let next = next_now (header_of old).last_tip.0 raises in
          let is = says.next_is in omega (arith, next, is)) in
          ap (λ (k : ℕ). k / places size) now
          ∙ (sym (same_sequence t (places size) inner low)
          ∙ ap (λ (k : ℕ). (k - 1) / places size) (sym says.next_is))

  module _ (page : TipPage) (taken : Pages) (takes : TakesPage g old taken page.page) (bytes_are : page.bytes ≡ new_tip_page size page.page (t / places size) (header_of old).last_tip.0) (put : new page.page ≡ page.bytes) (raises : RaisesHead size old new page.page) (others : (p : ℕ) → p ≢ 0 → p ≢ page.page → new p ≡ taken p) (first : t % places size ≡ 0) (off_header : page.page ≢ 0) where
    abbrev n : ℕ
    n = page.page

    abbrev s : ℕ
    s = t / places size

    abbrev last : ℕ
    last = (header_of old).last_tip.0

    abbrev orders : List Order
    orders = tip_orders size n last

    -- the page is made, and the header is as it was
    made : Pages
    made p = if p == n then new n else taken p

    made_here : made n ≡ new n
    unfolding made
    made_here = rw (eq-eqb n n refl) refl

    made_else : (p : ℕ) → p ≢ n → made p ≡ taken p
    unfolding made
    made_else p ne = rw (ne_eqb p n ne) refl

    abbrev more_bit : DemandSet
    more_bit = listed (bit_demand size n)

    abbrev more_tip : DemandSet
    more_tip = listed (want_of n TRANSACTIONS s 0 ∷ [])

    abbrev wanted_bit : DemandSet
    wanted_bit = either wanted more_bit

    abbrev wanted_tip : DemandSet
    wanted_tip = either wanted_bit more_tip

    sequences : (s ≢ 0) × ((t - 1) / places size ≡ s - 1)
    sequences = next_sequence t (places size) first says.some wide

    bit_step : Pays size old taken (lists orders) settled on_disk wanted more_bit
    bit_step = take_pays g old taken n (lists orders) settled on_disk wanted lawful takes was

    unwanted : (d : Demand) → IsIn wanted_bit d → d.target ≢ n
    unwanted d h = elim (either_cases wanted more_bit d h) [
      | inl x ↦ taken_is_unwanted g old taken n (lists orders) settled on_disk wanted lawful takes was d x
      | inr y ↦ bit_is_elsewhere g old taken n (lists orders) settled on_disk wanted lawful takes was d y
    ]

    -- the last page may come before the new one
    precedes : may_precede n last ≡ true
    precedes = and_from _ _ (not_from_false _ (ne_eqb last 0 says.last_some))
        (and_from _ _ (not_from_false _ (ne_eqb last n apart)) (lt-ltb last GREATEST_LIMIT says.last))
      where
        apart : last ≢ n
        apart same = both_ways _ takes.free.unused
            (subst (λ (k : ℕ). is_used size old k ≡ true) same says.last_used)

    orders_are : lists orders ≡ lists (orders_before size n 0 ++ orders_before size last n)
    orders_are = ap (λ (b : Bool). lists (orders_before size n 0 ++ (if b then orders_before size last n else []))) precedes

    last_first : (k : ℕ) → (k ≡ last) ⊎ (k ≡ inventory_page size (region_of size last))
        → lists orders k n ≡ true
    last_first k which = subst (λ (o : Orders). o k n ≡ true) (sym orders_are)
        (or_right (n == k && 0 == n) _
        (or_right (inventory_page size (region_of size n) == k && 0 == n) _ (at which)))
      where
        at : (k ≡ last) ⊎ (k ≡ inventory_page size (region_of size last))
            → lists (orders_before size last n) k n ≡ true
        at (inl is) = or_left _ _ (and_from _ _ (eq-eqb last k (sym is)) (eq-eqb n n refl))
        at (inr is) = or_right (last == k && n == n) _ (or_left _ _
            (and_from _ _ (eq-eqb (inventory_page size (region_of size last)) k (sym is)) (eq-eqb n n refl)))

    before_first : (e : Demand) → Has (linked size last TRANSACTIONS (s - 1) 0) e → lists orders e.target n ≡ true
    before_first e there = elim (has_either (demand last TRANSACTIONS (s - 1) 0) (bit_demand size last) e there) [
      | inl x ↦ last_first e.target (inl (ap (λ (y : Demand). y.target) (is_demand last TRANSACTIONS (s - 1) 0 e x)))
      | inr y ↦ last_first e.target (inr (ap (λ (z : Demand). z.target)
          (is_demand (inventory_page size (region_of size last)) BIT last 0 e y)))
    ]

    -- the page before is wanted of the header, and ordered before this one
    before_paid : (e : Demand) → Has (linked size (header_of old).last_tip.0 TRANSACTIONS (s - 1) 0) e
        → IsPaid (lists orders) on_disk wanted_bit more_tip (want_of n TRANSACTIONS s 0) e
    before_paid e there =
        let same : (next_of old - 1) / places size ≡ s - 1 =
        ap (λ (k : ℕ). (k - 1) / places size) says.next_is ∙ sequences.1 in
        let link = subst (λ (k : ℕ). Has (linked size (header_of old).last_tip.0 TRANSACTIONS k 0) e) (sym same) there in
        record {
          is_wanted = inl (in_one wanted more_bit e (was.keeps.in_turn (want_of 0 HEADER 0 0) e header_in_
              (from_want size old wanted was (old 0) (was.whole 0) (want_of 0 HEADER 0 0) (want_of 0 HEADER 0 0) e refl
              (has_front (linked size (header_of old).last_tip.0 TRANSACTIONS ((next_of old - 1) / places size) 0)
              _ e link))));
          is_first = inr (inl (before_first e there));
        }

    tip_step : Pays size taken made (lists orders) settled on_disk wanted_bit more_tip
    tip_step = make_pays size taken made n (lists orders) settled on_disk wanted_bit more_tip bit_step.wants
        (made_tip size taken made n s (header_of old).last_tip.0 (lists orders) settled on_disk wanted_bit (record {
          others = made_else;
          is = made_here ∙ (put ∙ bytes_are);
          off_inventory = takes.free.no_inventory;
          used = takes_bit g old taken n lawful takes;
          small = (
            let below = takes.free.below in omega (arith, below),
            (let most = says.most in let less = div-le_self t (places size) in omega (arith, most, less)),
            (let low_ = says.last in omega (arith, low_)),
          );
          some = sequences.0;
        }) bit_step.wants unwanted before_paid)

    header_page : made 0 ≡ old 0
    header_page = made_else 0 (λ none. off_header (sym none))
        ∙ takes.others 0 (λ none. omega (arith, none))

    made_new : (p : ℕ) → p ≢ 0 → new p ≡ made p
    made_new p ne = elim (cases_eq p n) [
      | inl same ↦ subst (λ (k : ℕ). new k ≡ made k) (sym same) (sym made_here)
      | inr apart ↦ others p ne apart ∙ sym (made_else p apart)
    ]

    in_tip : IsIn wanted_tip (want_of 0 HEADER 0 0)
    in_tip = in_one wanted_bit more_tip (want_of 0 HEADER 0 0) (in_one wanted more_bit (want_of 0 HEADER 0 0) header_in_)

    now_sequence : (next_of new - 1) / places size ≡ s
    now_sequence =
        let now : next_of new - 1 ≡ t = (let next = next_now n raises in
        let is = says.next_is in omega (arith, next, is)) in ap (λ (k : ℕ). k / places size) now

    page_ordered : lists orders n 0 ≡ true
    page_ordered = or_left _ _ (and_from _ _ (eq-eqb n n refl) refl)

    bit_ordered : lists orders (inventory_page size (region_of size n)) 0 ≡ true
    bit_ordered = or_right (n == inventory_page size (region_of size n) && true) _
        (or_left _ _ (and_from _ _ (eq-eqb (inventory_page size (region_of size n)) (inventory_page size (region_of size n)) refl) refl))

    -- the header leads to the new page
    link_paid : (e : Demand) → Has (linked size n TRANSACTIONS ((next_of new - 1) / places size) 0) e
        → IsPaid (lists orders) on_disk wanted_tip (number_more (next_of made)) (want_of 0 HEADER 0 0) e
    link_paid e there = elim (has_either (demand n TRANSACTIONS s 0) (bit_demand size n) e
        (subst (λ (k : ℕ). Has (linked size n TRANSACTIONS k 0) e) now_sequence there)) [
          | inl x ↦ subst (λ (y : Demand). IsPaid (lists orders) on_disk wanted_tip (number_more (next_of made)) (want_of 0 HEADER 0 0) y)
              (sym (is_demand n TRANSACTIONS s 0 e x)) (record {
                is_wanted = inl (in_other wanted_bit more_tip (want_of n TRANSACTIONS s 0)
                    (in_listed (want_of n TRANSACTIONS s 0 ∷ []) (want_of n TRANSACTIONS s 0) (inl refl)));
                is_first = inr (inl page_ordered);
              })
          | inr y ↦ record {
            is_wanted = inl (in_one wanted_bit more_tip e (in_other wanted more_bit e
                (in_listed (bit_demand size n) e y)));
            is_first = inr (inl (subst (λ (z : Demand). lists orders z.target 0 ≡ true)
                (sym (is_demand (inventory_page size (region_of size n)) BIT n 0 e y)) bit_ordered));
          }
        ]

    head_step : Pays size made new (lists orders) settled on_disk wanted_tip (number_more (next_of made))
    head_step = header_pays size made new n (lists orders) settled on_disk wanted_tip
        (raises_from made n raises header_page made_new) tip_step.wants
        (tip_step.wants.used (want_of 0 HEADER 0 0) in_tip) (λ e there. inr (link_paid e there))

    next_made : next_of made ≡ t
    next_made = ap (λ (p : List ℕ). (header_in p).next.0) header_page ∙ says.next_is

    draw_new : Pays size old new (lists orders) settled on_disk wanted (listed (draw_wants size t (Some page)))
    draw_new = two_listed size old taken new (lists orders) settled on_disk wanted (bit_demand size n)
        (want_of n TRANSACTIONS s 0 ∷ want_of 0 NEXT t 0 ∷ []) bit_step
        (two_listed size taken made new (lists orders) settled on_disk wanted_bit (want_of n TRANSACTIONS s 0 ∷ [])
        (want_of 0 NEXT t 0 ∷ []) tip_step
        (subst (λ (k : ℕ). Pays size made new (lists orders) settled on_disk wanted_tip (number_more k))
        next_made head_step))

pub draws_pay : DrawsPay
draws_pay g t old new page orders settled on_disk wanted lawful says draws tip was header_in_ =
    at page orders draws tip
  where
    at : (page : Option TipPage) (orders : List Order) → DrawsOn g t old new page orders
        → IsTipFor g.size t page
        → Pays g.size old new (lists orders) settled on_disk wanted (listed (draw_wants g.size t page))
    at None orders (on_last raises others) inner =
        draw_last g t old new settled on_disk wanted lawful says was header_in_ raises others inner
    at (Some page) orders (on_new p taken takes bytes_are put raises others) tip =
        draw_new g t old new settled on_disk wanted lawful says was header_in_ p taken takes bytes_are put
        raises others tip.0 tip.1
