-- What a new transaction inventory page pays, and what the bits of a transaction pay.
use Rattle.std.specs.Prelude.{◌≡◌, ◌≢◌, ◌⊎◌, ◌<◌, ◌≤◌, ◌^◌, ◌+◌, ◌-◌, ◌*◌, ◌==◌, ℕ, zero, suc, Bool, true, false, List, [], ◌∷◌, length, if◌then◌else◌}
use Rattle.std.proofs.Common.{inl, inr, refl, sym, subst, ap, ◌∙◌, arith}
use Rattle.std.proofs.lemmas.Bool.{both_ways, cases_eq, eq-eqb, lt-ltb}
use Rattle.mg_base.specs.Checks.{PassesAll}
use Rattle.mg_base.specs.Fields.{byte, u32_at}
use Rattle.mg_base.specs.declared.transaction.TxState.{TxState}
use Rattle.mg_careful.specs.declared.links.Demand.{Demand}
use Rattle.mg_careful.specs.Precedence.{Orders}
use Rattle.mg_careful.specs.CarefulWrite.{DemandSet, Has, IsIn, listed}
use Rattle.mg_demand_laws.specs.Bearing.{IsPaid}
use Rattle.mg_image.specs.Form.{Pages}
use Rattle.mg_image.specs.Inventory.{inventory_page, is_used, next_of}
use Rattle.mg_space.specs.Demands.{demand, demands_of, drawn_demands, is_decided, is_header, linked, meets_of, tip_demands}
use Rattle.mg_space.specs.TakingLaws.{page_sizes}
use Rattle.mg_space.specs.declared.links.TheConstants.{NEXT, TRANSACTIONS}
use Rattle.mg_tip.specs.TipPage.{SetsState, new_tip_page, places, prev_in, state_in, tip_checks}
use Rattle.mg_tip.specs.TipPageLaws.{length-new_tip_page, new_page_active, new_page_passes, new_page_prev, same_prev, same_tests}
use Rattle.mg_demand_laws.specs.KindLaws.{as_want, from_want, tip_alone, tip_kind, tip_seq}
use Rattle.mg_demand_laws.specs.Met.{has_back, has_either, has_front, in_listed, is_demand, met_is, of_listed, of_next, of_tip}
use Rattle.mg_demand_laws.specs.Steps.{MakesPage, MakesTip, SetsBits, number_more}
use Rattle.mg_demand_laws.specs.TakeLaws.{used_same}
use Rattle.mg_demand_laws.specs.VersionLaws.{none_may_go}
use Rattle.mg_demand_laws.specs.Wanting.{IsWanting, Pays, want_of}
use Rattle.mg_demand_laws.specs.WantingLaws.{page_pays}

pub one_of : (want d : Demand) → IsIn (listed (want ∷ [])) d → d ≡ want
one_of want d h = at (of_listed (want ∷ []) d h)
  where
    at : Has (want ∷ []) d → d ≡ want
    at (inl same) = same
    at (inr none) = absurd none

-- ---- a new page

-- a new transaction inventory page demands the one before it
new_demands : (size n s prev : ℕ) → 20 ≤ size → prev < 2 ^ 32 → (e : Demand)
    → Has (tip_demands size (new_tip_page size n s prev) s) e → (s ≢ 0)
    × Has (linked size prev TRANSACTIONS (s - 1) 0) e
new_demands size n s prev fits small e h =
    at (has_either (drawn_demands size (new_tip_page size n s prev) s (places size)) _ e h)
  where
    none : (k : ℕ) → Has (drawn_demands size (new_tip_page size n s prev) s k) e → ⊥
    none zero there = there
    none (suc k) there = elim (has_either (drawn_demands size (new_tip_page size n s prev) s k) _ e there) [
      | inl x ↦ none k x
      | inr y ↦ subst (λ (st : TxState). Has (if is_decided st then demand 0 NEXT (s * places size + k) 0 else []) e)
          (new_page_active size n s prev k) y
    ]

    before : (b : Bool) → (s == 0) ≡ b
        → Has (if b then [] else linked size (prev_in (new_tip_page size n s prev)) TRANSACTIONS (s - 1) 0) e
        → (s ≢ 0) × Has (linked size prev TRANSACTIONS (s - 1) 0) e
    before true is there = absurd there
    before false is there = (
      λ none_. both_ways _ is (eq-eqb s 0 none_),
      subst (λ (p : ℕ). Has (linked size p TRANSACTIONS (s - 1) 0) e) (new_page_prev size n s prev fits small) there,
    )

    at : Has (drawn_demands size (new_tip_page size n s prev) s (places size)) e
        ⊎ Has (if s == 0 then [] else linked size (prev_in (new_tip_page size n s prev)) TRANSACTIONS (s - 1) 0) e
        → (s ≢ 0) × Has (linked size prev TRANSACTIONS (s - 1) 0) e
    at (inl x) = absurd (none (places size) x)
    at (inr y) = before (s == 0) refl y

module _ (size : ℕ) (old new : Pages) (n s prev : ℕ) (orders : Orders) (settled : ℕ → Bool) (on_disk wanted : DemandSet) (makes : MakesTip size old new n s prev) (was : IsWanting size old wanted) (unwanted : (d : Demand) → IsIn wanted d → d.target ≢ n)
    -- the page before is paid for
    (paid : (e : Demand) → Has (linked size prev TRANSACTIONS (s - 1) 0) e
    → IsPaid orders on_disk wanted (listed (want_of n TRANSACTIONS s 0 ∷ [])) (want_of n TRANSACTIONS s 0) e) where
  abbrev tip_more : DemandSet
  tip_more = listed (want_of n TRANSACTIONS s 0 ∷ [])

  fits : 20 ≤ size
  fits = let sizes = page_sizes size was.lawful in let least = sizes.0 in omega (arith, least)

  len_is : length (new n) ≡ size
  len_is = ap (λ (page : List ℕ). length page) makes.is ∙ length-new_tip_page size n s prev

  passes : PassesAll (tip_checks (new n) n s)
  passes = subst (λ (page : List ℕ). PassesAll (tip_checks page n s)) (sym makes.is)
      (new_page_passes size n s prev fits makes.small.0 makes.small.1 makes.small.2
      (λ none. absurd (makes.some none)))

  tip_links : (d e : Demand) → IsIn tip_more d → Has (demands_of (new n) d) e
      → IsPaid orders on_disk wanted tip_more d e
  tip_links d e h made =
      let is = one_of (want_of n TRANSACTIONS s 0) d h in
      let there = as_want size old wanted was (new n) len_is (want_of n TRANSACTIONS s 0) d e is made in
      let link = new_demands size n s prev fits makes.small.2 e
      (subst (λ (page : List ℕ). Has (tip_demands size page s) e) makes.is there) in
      subst (λ (x : Demand). IsPaid orders on_disk wanted tip_more x e) (sym is) (paid e link.1)

  pub made_tip : MakesPage size old new n orders on_disk wanted tip_more
  made_tip = record {
    others = makes.others;
    len = len_is;
    off_inventory = makes.off_inventory;
    used = makes.used;
    unwanted = unwanted;
    aimed = λ d h. ap (λ (x : Demand). x.target) (one_of (want_of n TRANSACTIONS s 0) d h);
    met = λ d h. subst (λ (x : Demand). meets_of (new n) x ≡ true) (sym (one_of (want_of n TRANSACTIONS s 0) d h))
        (met_is size (new n) (want_of n TRANSACTIONS s 0) was.lawful len_is (of_tip refl passes));
    links = tip_links;
    on_data = λ d h is. absurd (let what : d.what ≡ 3 =
        ap (λ (x : Demand). x.what) (one_of (want_of n TRANSACTIONS s 0) d h) in omega (arith, what, is));
  }

-- ---- the bits of a transaction

module _ (size : ℕ) (old new : Pages) (n s place : ℕ) (state : TxState) (orders : Orders) (settled : ℕ → Bool) (on_disk wanted : DemandSet) (sets : SetsBits size old new n s place state) (was : IsWanting size old wanted) (used_zero : is_used size old 0 ≡ true)
    -- the header is written before the page
    (order : orders 0 n ≡ true) where
  abbrev t : ℕ
  t = s * places size + place

  abbrev bits_more : DemandSet
  bits_more = number_more t

  whole : length (new n) ≡ size
  whole = sets.sets.len ∙ was.whole n

  head_same : new 0 ≡ old 0
  head_same = sets.others 0 (λ none. sets.off_header (sym none))

  on_tip : (d : Demand) → IsIn wanted d → d.target ≡ n → (d ≡ want_of d.target TRANSACTIONS d.a d.b)
      × (d.a ≡ s)
  on_tip d h same =
      let alone = tip_alone size old wanted was d h (λ none. sets.off_header (sym same ∙ none))
      (ap (λ (m : ℕ). byte (old m) 0) same ∙ tip_kind (old n) n s sets.passes) in (
        alone.0,
        tip_seq (old n) n d.a s
            (subst (λ (m : ℕ). PassesAll (tip_checks (old m) m d.a)) same alone.1) sets.passes,
      )

  still_tip : (d : Demand) → IsIn wanted d → d.target ≡ n → meets_of (new n) d ≡ true
  still_tip d h same =
      let it = on_tip d h same in
      met_is size (new n) d was.lawful whole (of_tip it.0
      (subst (λ (m : ℕ). PassesAll (tip_checks (new n) m d.a)) (sym same)
      (subst (λ (k : ℕ). PassesAll (tip_checks (new n) n k)) (sym it.1)
      (subst PassesAll (sym (same_tests (old n) (new n) n s sets.sets.front)) sets.passes))))

  number_paid : (d : Demand) → d.target ≡ n → IsPaid orders on_disk wanted bits_more d (want_of 0 NEXT t 0)
  number_paid d same = record {
    is_wanted = inr (in_listed (want_of 0 NEXT t 0 ∷ []) (want_of 0 NEXT t 0) (inl refl));
    is_first = inr (inl (subst (λ (m : ℕ). orders 0 m ≡ true) (sym same) order));
  }

  -- the places below one: the states are as they were, but for this one
  of_states : (d e : Demand) → d.target ≡ n → (k : ℕ) → Has (drawn_demands size (new n) s k) e
      → Has (drawn_demands size (old n) s k) e ⊎ IsPaid orders on_disk wanted bits_more d e
  of_states d e same zero h = absurd h
  of_states d e same (suc k) h = elim (has_either (drawn_demands size (new n) s k) _ e h) [
    | inl x ↦ elim (of_states d e same k x) [
      | inl then_ ↦ inl (has_front (drawn_demands size (old n) s k) _ e then_)
      | inr paid ↦ inr paid
    ]
    | inr y ↦ elim (cases_eq k place) [
      | inl here ↦ at (is_decided (state_in (new n) k)) here y
      | inr other ↦ inl (has_back (drawn_demands size (old n) s k) _ e
          (subst (λ (st : TxState). Has (if is_decided st then demand 0 NEXT (s * places size + k) 0 else []) e)
          (sets.sets.others k other) y))
    ]
  ]
    where
      at : (b : Bool) → k ≡ place → Has (if b then demand 0 NEXT (s * places size + k) 0 else []) e
          → Has (drawn_demands size (old n) s (suc k)) e ⊎ IsPaid orders on_disk wanted bits_more d e
      at true here y =
          let is : e ≡ want_of 0 NEXT t 0 = is_demand 0 NEXT (s * places size + k) 0 e y
          ∙ ap (λ (p : ℕ). want_of 0 NEXT (s * places size + p) 0) here in
          inr (subst (λ (x : Demand). IsPaid orders on_disk wanted bits_more d x) (sym is) (number_paid d same))
      at false here y = absurd y

  tip_still_links : (d e : Demand) → IsIn wanted d → d.target ≡ n → Has (demands_of (new n) d) e
      → Has (demands_of (old n) d) e ⊎ IsPaid orders on_disk wanted bits_more d e
  tip_still_links d e h same made =
      let it = on_tip d h same in
      let is : d ≡ want_of d.target TRANSACTIONS s d.b = it.0
      ∙ ap (λ (k : ℕ). want_of d.target TRANSACTIONS k d.b) it.1 in
      at is (has_either (drawn_demands size (new n) s (places size)) _ e
      (as_want size old wanted was (new n) whole (want_of d.target TRANSACTIONS s d.b) d e is made))
    where
      stood : d ≡ want_of d.target TRANSACTIONS s d.b → Has (tip_demands size (old n) s) e
          → Has (demands_of (old n) d) e
      stood is there = from_want size old wanted was (old n) (was.whole n)
          (want_of d.target TRANSACTIONS s d.b) d e is there

      at : d ≡ want_of d.target TRANSACTIONS s d.b → Has (drawn_demands size (new n) s (places size)) e
          ⊎ Has (if s == 0 then [] else linked size (prev_in (new n)) TRANSACTIONS (s - 1) 0) e
          → Has (demands_of (old n) d) e ⊎ IsPaid orders on_disk wanted bits_more d e
      at is (inl x) = elim (of_states d e same (places size) x) [
        | inl then_ ↦ inl (stood is (has_front (drawn_demands size (old n) s (places size)) _ e then_))
        | inr paid ↦ inr paid
      ]
      at is (inr y) = inl (stood is (has_back (drawn_demands size (old n) s (places size)) _ e
          (subst (λ (p : ℕ). Has (if s == 0 then [] else linked size p TRANSACTIONS (s - 1) 0) e)
          (same_prev (old n) (new n) sets.sets.front) y)))

  pub bits_pay : Pays size old new orders settled on_disk wanted bits_more
  bits_pay = page_pays size old new n orders settled on_disk wanted bits_more was (record {
    others = sets.others;
    len = whole;
    used = λ m is. used_same size old new n sets.others sets.off_inventory m ∙ is;
    still = still_tip;
    links = tip_still_links;
    leaves = λ d e h same made may apart. absurd (none_may_go size old wanted was settled n
        (λ five. let three = tip_kind (old n) n s sets.passes in omega (arith, five, three)) d e h same made may);
    kept_data = λ d h same is. absurd (let what : d.what ≡ 3 = ap (λ (x : Demand). x.what) (on_tip d h same).0 in
        omega (arith, what, is));
    met = λ d h. subst (λ (x : Demand). meets_of (new x.target) x ≡ true) (sym (one_of (want_of 0 NEXT t 0) d h))
        (met_is size (new 0) (want_of 0 NEXT t 0) was.lawful
        (ap (λ (page : List ℕ). length page) head_same ∙ was.whole 0)
        (of_next refl (ap (is_header size) head_same ∙ sets.head)
        (lt-ltb t (next_of new) (subst (λ (page : List ℕ). t < u32_at page 28) (sym head_same) sets.drawn))));
    new_links = λ d e h made. absurd (let is = one_of (want_of 0 NEXT t 0) d h in
        as_want size old wanted was (new d.target)
        (ap (λ (x : Demand). length (new x.target)) is
        ∙ (ap (λ (page : List ℕ). length page) head_same ∙ was.whole 0)) (want_of 0 NEXT t 0) d e is made);
    new_used = λ d h. subst (λ (x : Demand). is_used size new x.target ≡ true) (sym (one_of (want_of 0 NEXT t 0) d h))
        (used_same size old new n sets.others sets.off_inventory 0 ∙ used_zero);
    new_data = λ d h is. absurd (let what : d.what ≡ 2 = ap (λ (x : Demand). x.what) (one_of (want_of 0 NEXT t 0) d h) in
        omega (arith, what, is));
  })
