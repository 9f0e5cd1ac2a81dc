-- What a new number pays: its header, its transaction inventory page, its bits.
use Rattle.std.specs.Prelude.{◌≡◌, ◌≢◌, ◌⊎◌, ◌<◌, ◌/◌, ◌+◌, ◌-◌, ℕ, true, List, [], ◌∷◌, length, Ok, is_ok, Bool}
use Rattle.std.proofs.Common.{inl, inr, refl, sym, subst, ap, ◌∙◌, arith}
use Rattle.std.proofs.lemmas.Bool.{lt-ltb}
use Rattle.mg_base.specs.Checks.{common_checks}
use Rattle.mg_base.specs.Fields.{byte}
use Rattle.mg_base.specs.declared.numbers.PageNo.{PageNo}
use Rattle.mg_careful.specs.declared.links.Demand.{Demand}
use Rattle.mg_careful.specs.Precedence.{Orders}
use Rattle.mg_careful.specs.CarefulWrite.{DemandSet, Has, IsIn, listed}
use Rattle.mg_demand_laws.specs.Bearing.{IsPaid}
use Rattle.mg_header.specs.HeaderPage.{header_in, reading}
use Rattle.mg_header.specs.HeaderPageLaws.{reading_ok}
use Rattle.mg_header.specs.declared.header.Header.{Header}
use Rattle.mg_image.specs.Form.{Pages}
use Rattle.mg_image.specs.Inventory.{header_of, inventory_page, is_used, next_of}
use Rattle.mg_space.specs.Demands.{demands_by, demands_of, header_demands, is_header, linked, meets_of}
use Rattle.mg_space.specs.declared.links.TheConstants.{HEADER, NEXT, POINTER, TRANSACTIONS}
use Rattle.mg_tip.specs.TipPage.{places}
use Rattle.mg_demand_laws.specs.KindLaws.{as_want, from_want, header_alone}
use Rattle.mg_demand_laws.specs.Met.{has_back, has_either, has_front, met_is, of_header, of_listed, of_next}
use Rattle.mg_demand_laws.specs.Steps.{RaisesHeader, number_more}
use Rattle.mg_demand_laws.specs.TakeLaws.{used_same}
use Rattle.mg_demand_laws.specs.VersionLaws.{none_may_go}
use Rattle.mg_demand_laws.specs.Wanting.{IsWanting, Pays, want_of}
use Rattle.mg_demand_laws.specs.WantingLaws.{page_pays}

-- a header page is one by its kind
pub header_kind : (size : ℕ) (page : List ℕ) (h : Header) → reading page size ≡ Ok h → byte page 0 ≡ 1
unfolding common_checks
header_kind size page h reads = (reading_ok page size h reads).1.0

module _ (size : ℕ) (old new : Pages) (last : ℕ) (orders : Orders) (settled : ℕ → Bool) (on_disk wanted : DemandSet) (raises : RaisesHeader size old new last) (was : IsWanting size old wanted) (used_zero : is_used size old 0 ≡ true)
    -- the last transaction inventory page stands as it was, or it is paid for
    (paid : (e : Demand) → Has (linked size last TRANSACTIONS ((next_of new - 1) / places size) 0) e
    → Has (linked size (header_of old).last_tip.0 TRANSACTIONS ((next_of old - 1) / places size) 0) e
    ⊎ IsPaid orders on_disk wanted (number_more (next_of old)) (want_of 0 HEADER 0 0) e) where
  abbrev more : DemandSet
  more = number_more (next_of old)

  off_inventory : (region : ℕ) → inventory_page size region ≢ 0
  off_inventory region none = omega (arith, none)

  still_used : (m : ℕ) → is_used size old m ≡ true → is_used size new m ≡ true
  still_used m is = used_same size old new 0 raises.others off_inventory m ∙ is

  is_head : is_header size (new 0) ≡ true
  is_head = ap is_ok raises.reads

  on_header : (d : Demand) → IsIn wanted d → d.target ≡ 0 → (d ≡ want_of 0 HEADER d.a d.b)
      ⊎ ((d ≡ want_of 0 NEXT d.a d.b) × (d.a < next_of old))
  on_header d h same = at (header_alone size old wanted was d h
      (ap (λ (n : ℕ). byte (old n) 0) same ∙ header_kind size (old 0) raises.was raises.was_read))
    where
      at : (d ≡ want_of 0 HEADER d.a d.b) ⊎ ((d ≡ want_of 0 NEXT d.a d.b) × (d.a < (header_in (old d.target)).next.0))
          → (d ≡ want_of 0 HEADER d.a d.b) ⊎ ((d ≡ want_of 0 NEXT d.a d.b) × (d.a < next_of old))
      at (inl is) = inl is
      at (inr (is, below)) = inr (is, subst (λ (n : ℕ). d.a < (header_in (old n)).next.0) same below)

  number_met : (d : Demand) → d ≡ want_of 0 NEXT d.a d.b → d.a < next_of new → meets_of (new 0) d ≡ true
  number_met d is below = met_is size (new 0) d was.lawful raises.len
      (of_next is is_head (lt-ltb d.a (next_of new) below))

  is_number : (d : Demand) → IsIn more d → d ≡ want_of 0 NEXT (next_of old) 0
  is_number d h = at (of_listed (want_of 0 NEXT (next_of old) 0 ∷ []) d h)
    where
      at : Has (want_of 0 NEXT (next_of old) 0 ∷ []) d → d ≡ want_of 0 NEXT (next_of old) 0
      at (inl same) = same
      at (inr none) = absurd none

  still_met : (d : Demand) → IsIn wanted d → d.target ≡ 0 → meets_of (new 0) d ≡ true
  still_met d h same = at (on_header d h same)
    where
      at : (d ≡ want_of 0 HEADER d.a d.b) ⊎ ((d ≡ want_of 0 NEXT d.a d.b) × (d.a < next_of old))
          → meets_of (new 0) d ≡ true
      at (inl is) = met_is size (new 0) d was.lawful raises.len (of_header is is_head)
      at (inr (is, below)) = number_met d is (let next = raises.next in omega (arith, below, next))

  header_links : (d e : Demand) → d ≡ want_of 0 HEADER d.a d.b → d.target ≡ 0
      → Has (demands_of (new 0) d) e
      → Has (demands_of (old 0) d) e ⊎ IsPaid orders on_disk wanted more d e
  header_links d e is same made =
      at (has_either (linked size (header_of new).last_tip.0 TRANSACTIONS ((next_of new - 1) / places size) 0)
      _ e (as_want size old wanted was (new 0) raises.len (want_of 0 HEADER d.a d.b) d e is made))
    where
      stood : Has (header_demands size (old 0)) e → Has (demands_of (old 0) d) e
      stood = λ there. from_want size old wanted was (old 0) (was.whole 0) (want_of 0 HEADER d.a d.b) d e is there

      first : Has (linked size (header_of old).last_tip.0 TRANSACTIONS ((next_of old - 1) / places size) 0) e
          ⊎ IsPaid orders on_disk wanted more (want_of 0 HEADER 0 0) e
          → Has (demands_of (old 0) d) e ⊎ IsPaid orders on_disk wanted more d e
      first (inl there) = inl (stood (has_front _ _ e there))
      first (inr pays) = inr (record {
        is_wanted = pays.is_wanted;
        is_first = subst (λ (n : ℕ). (e.target ≡ n) ⊎ ((orders e.target n ≡ true) ⊎ IsIn on_disk e)) (sym same)
            pays.is_first;
      })

      at : Has (linked size (header_of new).last_tip.0 TRANSACTIONS ((next_of new - 1) / places size) 0) e
          ⊎ Has (linked size (header_of new).catalog.0 POINTER (header_of new).catalog.0 0) e
          → Has (demands_of (old 0) d) e ⊎ IsPaid orders on_disk wanted more d e
      at (inl tip) = first (paid e (subst (λ (n : ℕ). Has (linked size n TRANSACTIONS
          ((next_of new - 1) / places size) 0) e) raises.last_is tip))
      at (inr catalog) = inl (stood (has_back
          (linked size (header_of old).last_tip.0 TRANSACTIONS ((next_of old - 1) / places size) 0) _ e
          (subst (λ (c : PageNo). Has (linked size c.0 POINTER c.0 0) e) raises.catalog catalog)))

  next_links : (page : List ℕ) → length page ≡ size → (d e : Demand) → d ≡ want_of 0 NEXT d.a d.b
      → Has (demands_of page d) e → ⊥
  next_links page len d e is made = as_want size old wanted was page len (want_of 0 NEXT d.a d.b) d e is made

  still_links : (d e : Demand) → IsIn wanted d → d.target ≡ 0 → Has (demands_of (new 0) d) e
      → Has (demands_of (old 0) d) e ⊎ IsPaid orders on_disk wanted more d e
  still_links d e h same made = at (on_header d h same)
    where
      at : (d ≡ want_of 0 HEADER d.a d.b) ⊎ ((d ≡ want_of 0 NEXT d.a d.b) × (d.a < next_of old))
          → Has (demands_of (old 0) d) e ⊎ IsPaid orders on_disk wanted more d e
      at (inl is) = header_links d e is same made
      at (inr (is, below)) = absurd (next_links (new 0) raises.len d e is made)

  pub header_pays : Pays size old new orders settled on_disk wanted more
  header_pays = page_pays size old new 0 orders settled on_disk wanted more was (record {
    others = raises.others;
    len = raises.len;
    used = still_used;
    still = still_met;
    links = still_links;
    leaves = λ d e h same made may apart. absurd (none_may_go size old wanted was settled 0
        (λ five. let one = header_kind size (old 0) raises.was raises.was_read in omega (arith, five, one))
        d e h same made may);
    kept_data = λ d h same is. absurd (let five = was.on_data d h is in
        let one = header_kind size (old 0) raises.was raises.was_read in
        let there : byte (old d.target) 0 ≡ byte (old 0) 0 = ap (λ (n : ℕ). byte (old n) 0) same in
        omega (arith, five, one, there));
    met = λ d h. subst (λ (x : Demand). meets_of (new x.target) x ≡ true) (sym (is_number d h))
        (number_met (want_of 0 NEXT (next_of old) 0) refl (let next = raises.next in omega (arith, next)));
    new_links = λ d e h made. absurd (next_links (new d.target)
        (ap (λ (x : Demand). length (new x.target)) (is_number d h) ∙ raises.len) d e
        (subst (λ (x : Demand). x ≡ want_of 0 NEXT x.a x.b) (sym (is_number d h)) refl) made);
    new_used = λ d h. subst (λ (x : Demand). is_used size new x.target ≡ true) (sym (is_number d h))
        (still_used 0 used_zero);
    new_data = λ d h is. absurd (let what : d.what ≡ 2 = ap (λ (x : Demand). x.what) (is_number d h) in
        omega (arith, what, is));
  })
