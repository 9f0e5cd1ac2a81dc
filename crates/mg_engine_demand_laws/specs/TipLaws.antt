-- The transaction inventory pages of a sound image are wanted, since its header is: the header demands the last one, and
-- each the one before it.
use Rattle.std.specs.Prelude.{◌≡◌, ◌≢◌, ◌<◌, ◌≤◌, ◌-◌, ◌^◌, ℕ, zero, suc, Bool, [], if◌then◌else◌}
use Rattle.std.proofs.Common.{refl, sym, subst, arith}
use Rattle.std.proofs.Math.Nat.{div-le_self}
use Rattle.std.proofs.lemmas.Bool.{ne_eqb}
use Rattle.mg_base.specs.declared.geometry.TheConstants.{GREATEST_LIMIT}
use Rattle.mg_careful.specs.declared.links.Demand.{Demand}
use Rattle.mg_careful.specs.CarefulWrite.{DemandSet, Has, IsIn}
use Rattle.mg_image.specs.Form.{Pages}
use Rattle.mg_image.specs.Inventory.{header_of, inventory_page, last_sequence, next_of, tip_before, tip_page}
use Rattle.mg_image.specs.Sound.{HasTips}
use Rattle.mg_space.specs.Demands.{bit_demand, demand, drawn_demands, header_demands, linked, tip_demands}
use Rattle.mg_space.specs.Taking.{region_of}
use Rattle.mg_space.specs.declared.links.TheConstants.{BIT, HEADER, POINTER, TRANSACTIONS}
use Rattle.mg_tip.specs.TipPage.{places, prev_in}
use Rattle.mg_demand_laws.specs.KindLaws.{from_want}
use Rattle.mg_demand_laws.specs.Met.{has_back, has_front}
use Rattle.mg_demand_laws.specs.Wanting.{IsWanting, want_of}
use Rattle.mg_demand_laws.specs.TableTies.{bit_wanted, demand_there}
use Rattle.mg_demand_laws.specs.Wants.{WantsBit}

-- A transaction inventory page is wanted, with its bit.
pub record WantsTip (size : ℕ) (wanted : DemandSet) (n sequence : ℕ) : Type 0 where
  pub page : IsIn wanted (want_of n TRANSACTIONS sequence 0)
  pub bit : WantsBit size wanted n

module _ (size : ℕ) (pages : Pages) (wanted : DemandSet) (was : IsWanting size pages wanted)
    (head : IsIn wanted (want_of 0 HEADER 0 0)) (tips : HasTips size pages) (small : next_of pages < 2 ^ 32) where
  abbrev last : ℕ
  last = last_sequence size pages

  abbrev at_back : ℕ → ℕ
  at_back k = tip_before pages (header_of pages).last_tip.0 k

  last_small : last < 2 ^ 32
  last_small = let less = div-le_self (next_of pages - 1) (places size) in omega (arith, less, small)

  below : (k : ℕ) → k ≤ last → at_back k < GREATEST_LIMIT
  below k within =
      let there = (tips (last - k) (omega (arith, within))).below in
      let same : last - (last - k) ≡ k = omega (arith, within) in
      subst (λ (i : ℕ). at_back i < GREATEST_LIMIT) same there

  -- what a link to such a page demands
  linked_page : (n sequence : ℕ) → n < GREATEST_LIMIT → sequence < 2 ^ 32
      → Has (linked size n TRANSACTIONS sequence 0) (want_of n TRANSACTIONS sequence 0)
      × Has (linked size n TRANSACTIONS sequence 0) (want_of (inventory_page size (region_of size n)) BIT n 0)
  linked_page n sequence low few = (
    has_front (demand n TRANSACTIONS sequence 0) (bit_demand size n) (want_of n TRANSACTIONS sequence 0)
        (demand_there n TRANSACTIONS sequence 0 (omega (arith, low)) few (omega arith)),
    has_back (demand n TRANSACTIONS sequence 0) (bit_demand size n)
        (want_of (inventory_page size (region_of size n)) BIT n 0) (bit_wanted size n low),
  )

  -- the header demands it
  of_header : (e : Demand) → Has (header_demands size (pages 0)) e → IsIn wanted e
  of_header e made = was.keeps.in_turn (want_of 0 HEADER 0 0) e head (from_want size pages wanted was (pages 0)
      (was.whole 0) (want_of 0 HEADER 0 0) (want_of 0 HEADER 0 0) e refl made)

  -- one of them does
  of_tip : (n sequence : ℕ) → IsIn wanted (want_of n TRANSACTIONS sequence 0) → (e : Demand)
      → Has (tip_demands size (pages n) sequence) e → IsIn wanted e
  of_tip n sequence h e made = was.keeps.in_turn (want_of n TRANSACTIONS sequence 0) e h (from_want size pages wanted was
      (pages n) (was.whole n) (want_of n TRANSACTIONS sequence 0) (want_of n TRANSACTIONS sequence 0) e refl made)

  before_it : (n sequence : ℕ) → sequence ≢ 0 → (e : Demand)
      → Has (linked size (prev_in (pages n)) TRANSACTIONS (sequence - 1) 0) e → Has (tip_demands size (pages n) sequence) e
  before_it n sequence some e h = has_back (drawn_demands size (pages n) sequence (places size)) _ e
      (subst (λ (b : Bool). Has (if b then [] else linked size (prev_in (pages n)) TRANSACTIONS (sequence - 1) 0) e)
      (sym (ne_eqb sequence 0 some)) h)

  wanted_back : (k : ℕ) → k ≤ last → WantsTip size wanted (at_back k) (last - k)
  wanted_back zero within =
      let none : last ≡ last - 0 = omega arith in
      let parts = linked_page (at_back 0) last (below 0 within) last_small in
      let whole = has_front (linked size (header_of pages).last_tip.0 TRANSACTIONS last 0)
      (linked size (header_of pages).catalog.0 POINTER (header_of pages).catalog.0 0) in
      subst (WantsTip size wanted (at_back 0)) none (record {
        page = of_header (want_of (at_back 0) TRANSACTIONS last 0) (whole _ parts.0);
        bit = of_header (want_of (inventory_page size (region_of size (at_back 0))) BIT (at_back 0) 0) (whole _ parts.1);
      })
  wanted_back (suc k) within =
      let at = wanted_back k (omega (arith, within)) in
      let some : last - k ≢ 0 = (λ none. omega (arith, none, within)) in
      let next : last - suc k ≡ last - k - 1 = omega (arith, within) in
      let parts = linked_page (at_back (suc k)) (last - k - 1) (below (suc k) within)
      (let small_ = last_small in omega (arith, small_)) in
      record {
        page = subst (λ (s : ℕ). IsIn wanted (want_of (at_back (suc k)) TRANSACTIONS s 0)) (sym next)
            (of_tip (at_back k) (last - k) at.page _ (before_it (at_back k) (last - k) some _ parts.0));
        bit = of_tip (at_back k) (last - k) at.page _ (before_it (at_back k) (last - k) some _ parts.1);
      }

  -- the page of each sequence is wanted
  pub tip_wanted : (sequence : ℕ) → sequence ≤ last → WantsTip size wanted (tip_page size pages sequence) sequence
  tip_wanted sequence within =
      let same : last - (last - sequence) ≡ sequence = omega (arith, within) in
      subst (WantsTip size wanted (tip_page size pages sequence)) same (wanted_back (last - sequence) (omega arith))
