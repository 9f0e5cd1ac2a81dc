-- The orders with which a batch ends lead upward by the ranks of its pages, and so it is lawful.
use Rattle.std.proofs.Common.{◌≡◌, ◌≢◌, inl, inr, ◌∙◌, ◌≤◌, ◌<◌, ◌++◌, ◌∷◌, [], ℕ, Bool, true, false, List, Option, None, Some, refl, sym, ap, subst, arith}
use Rattle.std.specs.Prelude.{if◌then◌else◌}
use Rattle.mg_careful.specs.declared.graph.Order.{Order}
use Rattle.mg_chain.specs.Orders.{before_page, first_orders, move_orders, out_orders, push_orders, slot_orders, unchanged_page, version_orders}
use Rattle.mg_heap.specs.Growth.{AddsOrders}
use Rattle.mg_image.specs.Tables.{Has}
use Rattle.mg_pool.specs.Batch.{Changed, IsLawful, is_in}
use Rattle.mg_pool.specs.declared.batch.BatchPage.{BatchPage}
use Rattle.mg_version.specs.declared.cell.Link.{Link}
use Rattle.mg_no_damage_laws.specs.Lawful.{AreGood, IsGood, good_before, good_both, good_lawful, good_orders}
use Rattle.mg_no_damage_laws.specs.RankLaws.{rank_f, rank_low, rank_none, rank_of, rank_s, rank_s_most, rank_some}

-- A batch before its last orders: its pages, none of which is the header, have their ranks.
pub record IsBatch (size f s a : ℕ) (b : Changed) : Type 0 where
  pub q : ℕ
  pub p : ℕ
  pub good : IsGood size (rank_of f s q p a) 8 b
  pub f_in : is_in b.pages f ≡ true
  pub s_in : is_in b.pages s ≡ true
  pub q_in : is_in b.pages q ≡ true
  pub p_in : is_in b.pages p ≡ true
  pub a_in : is_in b.pages a ≡ true
  pub f_some : f ≢ 0
  pub s_some : s ≢ 0
  pub q_some : q ≢ 0
  pub p_some : p ≢ 0
  pub a_some : a ≢ 0

-- a page that a batch does not change
unchanged : (pages : List BatchPage) (back : Option Link) (x : ℕ) → Has (unchanged_page pages back) x
    → is_in pages x ≡ false
unchanged pages None x there = absurd there
unchanged pages (Some link) x there = at (is_in pages link.rec.page.0) refl there
  where
    at : (b : Bool) → is_in pages link.rec.page.0 ≡ b → Has (if b then [] else link.rec.page.0 ∷ []) x
        → is_in pages x ≡ false
    at true is none = absurd none
    at false is (inl same) = ap (is_in pages) same ∙ is
    at false is (inr none) = absurd none

module _ (size f s a : ℕ) (b : Changed) (it : IsBatch size f s a b) where
  abbrev rank : ℕ → ℕ
  rank = rank_of f s it.q it.p a

  apart : (x y : ℕ) → is_in b.pages x ≡ false → is_in b.pages y ≡ true → x ≢ y
  apart x y out there same = let both : true ≡ false = sym there ∙ (ap (is_in b.pages) (sym same) ∙ out) in absurd cc

  -- a page that is not in the batch, and the header
  rank_out : (x : ℕ) → is_in b.pages x ≡ false → rank x ≡ 0
  rank_out x out = rank_none f s it.q it.p a x (apart x f out it.f_in) (apart x s out it.s_in)
      (apart x it.q out it.q_in) (apart x it.p out it.p_in) (apart x a out it.a_in)

  rank_head : rank 0 ≡ 0
  rank_head = rank_none f s it.q it.p a 0 (λ e. it.f_some (sym e)) (λ e. it.s_some (sym e)) (λ e. it.q_some (sym e))
      (λ e. it.p_some (sym e)) (λ e. it.a_some (sym e))

  some_rank : 1 ≤ rank a
  some_rank = rank_some f s it.q it.p a

  slot_rank : 4 ≤ rank s
  slot_rank = rank_s f s it.q it.p a

  -- ---- the orders

  pub version_good : (back : Option Link) → AreGood rank b (version_orders b.pages a back)
  version_good back = good_both rank b (before_page (0 ∷ []) a) (before_page (unchanged_page b.pages back) a)
      (good_before rank b (0 ∷ []) a it.a_in (λ x there off. head x there))
      (good_before rank b (unchanged_page b.pages back) a it.a_in
      (λ x there off. let none = rank_out x (unchanged b.pages back x there) in let some = some_rank in
      omega (arith, none, some)))
    where
      head : (x : ℕ) → Has (0 ∷ []) x → rank x < rank a
      head x (inl same) = subst (λ (k : ℕ). rank k < rank a) (sym same)
          (let none = rank_head in let some = some_rank in omega (arith, none, some))
      head x (inr none) = absurd none

  -- pages that are neither the slot's nor the freed one's come before the slot's
  pub pointers_good : (pointers : List ℕ) → ((x : ℕ) → Has pointers x → x ≢ s → x ≢ f)
      → AreGood rank b (before_page pointers s)
  pointers_good pointers off_f = good_before rank b pointers s it.s_in (λ x there off.
      let low = rank_low f s it.q it.p a x (off_f x there off) off in let high = slot_rank in
      omega (arith, low, high))

  pub slot_good : (pointers : List ℕ) → (a ≢ s → a ≢ f) → ((x : ℕ) → Has pointers x → x ≢ s → x ≢ f)
      → AreGood rank b (slot_orders a s pointers)
  slot_good pointers a_off off_f = good_both rank b (before_page (0 ∷ a ∷ []) s) (before_page pointers s)
      (good_before rank b (0 ∷ a ∷ []) s it.s_in (λ x there off. first x there off)) (pointers_good pointers off_f)
    where
      first : (x : ℕ) → Has (0 ∷ a ∷ []) x → x ≢ s → rank x < rank s
      first x (inl same) off = subst (λ (k : ℕ). rank k < rank s) (sym same)
          (let none = rank_head in let high = slot_rank in omega (arith, none, high))
      first x (inr (inl same)) off = subst (λ (k : ℕ). rank k < rank s) (sym same)
          (let off_s : a ≢ s = (λ e. off (same ∙ e)) in
          let low = rank_low f s it.q it.p a a (a_off off_s) off_s in let high = slot_rank in
          omega (arith, low, high))
      first x (inr (inr none)) off = absurd none

  freed_good : AreGood rank b (before_page (s ∷ []) f)
  freed_good = good_before rank b (s ∷ []) f it.f_in (λ x there off. last x there off)
    where
      last : (x : ℕ) → Has (s ∷ []) x → x ≢ f → rank x < rank f
      last x (inl same) off = subst (λ (k : ℕ). rank k < rank f) (sym same)
          (let most = rank_s_most f s it.q it.p a (λ e. off (same ∙ e)) in let top = rank_f f s it.q it.p a in
          omega (arith, most, top))
      last x (inr none) off = absurd none

  back_good : (back : Option Link) → AreGood rank b (before_page (unchanged_page b.pages back) s)
  back_good back = good_before rank b (unchanged_page b.pages back) s it.s_in (λ x there off.
      let none = rank_out x (unchanged b.pages back x there) in let high = slot_rank in omega (arith, none, high))

  -- ---- the batch

  ends : (new : Changed) (orders : List Order) → AddsOrders b new orders → AreGood rank b orders
      → IsLawful size new.pages new.orders
  ends new orders adds are = good_lawful size rank 8 new (good_orders size rank 8 b new orders it.good adds are)
      (omega arith)

  pub pushed_lawful : (new : Changed) (back : Option Link) (pointers : List ℕ) → (a ≢ s → a ≢ f)
      → ((x : ℕ) → Has pointers x → x ≢ s → x ≢ f) → AddsOrders b new (push_orders b.pages a s back pointers)
      → IsLawful size new.pages new.orders
  pushed_lawful new back pointers a_off off_f adds = ends new (push_orders b.pages a s back pointers) adds
      (good_both rank b (version_orders b.pages a back) (slot_orders a s pointers) (version_good back)
      (slot_good pointers a_off off_f))

  pub first_lawful : (new : Changed) (pointers slot_pointers : List ℕ) → (a ≢ s → a ≢ f)
      → ((x : ℕ) → Has pointers x → x ≢ s → x ≢ f) → ((x : ℕ) → Has slot_pointers x → x ≢ s → x ≢ f)
      → AddsOrders b new (first_orders b.pages a s pointers slot_pointers) → IsLawful size new.pages new.orders
  first_lawful new pointers slot_pointers a_off off_f off_slot adds =
      ends new (first_orders b.pages a s pointers slot_pointers) adds
      (good_both rank b (push_orders b.pages a s None pointers) (before_page slot_pointers s)
      (good_both rank b (version_orders b.pages a None) (slot_orders a s pointers) (version_good None)
      (slot_good pointers a_off off_f)) (pointers_good slot_pointers off_slot))

  pub moved_lawful : (new : Changed) (back : Option Link) (pointers slot_pointers : List ℕ) → (a ≢ s → a ≢ f)
      → ((x : ℕ) → Has pointers x → x ≢ s → x ≢ f) → ((x : ℕ) → Has slot_pointers x → x ≢ s → x ≢ f)
      → AddsOrders b new (move_orders b.pages a s back pointers slot_pointers f)
      → IsLawful size new.pages new.orders
  moved_lawful new back pointers slot_pointers a_off off_f off_slot adds =
      ends new (move_orders b.pages a s back pointers slot_pointers f) adds
      (good_both rank b (push_orders b.pages a s back pointers ++ before_page slot_pointers s)
      (before_page (s ∷ []) f)
      (good_both rank b (push_orders b.pages a s back pointers) (before_page slot_pointers s)
      (good_both rank b (version_orders b.pages a back) (slot_orders a s pointers) (version_good back)
      (slot_good pointers a_off off_f)) (pointers_good slot_pointers off_slot)) freed_good)

  pub out_lawful : (new : Changed) (back : Option Link) (slot_pointers : List ℕ)
      → ((x : ℕ) → Has slot_pointers x → x ≢ s → x ≢ f)
      → AddsOrders b new (out_orders b.pages s back slot_pointers f) → IsLawful size new.pages new.orders
  out_lawful new back slot_pointers off_slot adds = ends new (out_orders b.pages s back slot_pointers f) adds
      (good_both rank b (before_page (unchanged_page b.pages back) s ++ before_page slot_pointers s)
      (before_page (s ∷ []) f)
      (good_both rank b (before_page (unchanged_page b.pages back) s) (before_page slot_pointers s) (back_good back)
      (pointers_good slot_pointers off_slot)) freed_good)
