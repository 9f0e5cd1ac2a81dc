-- What the pages of a table pay as it grows: an entry more, a next pointer page, a new data page.
use Rattle.std.specs.Prelude.{◌≡◌, ◌≢◌, ◌⊎◌, ◌<◌, ◌+◌, ◌*◌, ◌++◌, ◌==◌, ℕ, zero, suc, Bool, true, false, List, [], ◌∷◌, length, if◌then◌else◌}
use Rattle.std.proofs.Common.{inl, inr, refl, sym, subst, ap, ◌∙◌, arith, length-append}
use Rattle.mg_base.specs.Checks.{PassesAll, common_checks}
use Rattle.mg_base.specs.Fields.{byte, u32_at}
use Rattle.mg_careful.specs.declared.links.Demand.{Demand}
use Rattle.mg_careful.specs.Precedence.{Orders}
use Rattle.mg_careful.specs.CarefulWrite.{DemandSet, Has, IsIn, listed}
use Rattle.mg_demand_laws.specs.Bearing.{IsPaid}
use Rattle.mg_image.specs.Form.{Pages}
use Rattle.mg_image.specs.Inventory.{inventory_page, is_used}
use Rattle.mg_pointer.specs.PointerPage.{AddsEntry, SetsNext, capacity, count_in, entries_of, first_entries, next_in, place_of, pointer_checks}
use Rattle.mg_slots.specs.DataPage.{slot_count}
use Rattle.mg_slots.specs.declared.page.TheConstants.{DATA_KIND}
use Rattle.mg_space.specs.Demands.{demands_of, entry_demand, entry_demands, linked, meets_of, pointer_demands, slot_demands}
use Rattle.mg_space.specs.declared.links.TheConstants.{DATA, POINTER}
use Rattle.mg_demand_laws.specs.KindLaws.{as_want, from_want, kind_of, pointer_alone, pointer_is, pointer_kind}
use Rattle.mg_demand_laws.specs.Met.{has_back, has_either, has_front, met_is, of_data, of_listed, of_pointer}
use Rattle.mg_demand_laws.specs.Steps.{LinksNext, ListsData, MakesPage, MakesTablePage, no_more}
use Rattle.mg_demand_laws.specs.TakeLaws.{used_same}
use Rattle.mg_demand_laws.specs.TipLaws.{one_of}
use Rattle.mg_demand_laws.specs.VersionLaws.{none_may_go}
use Rattle.mg_demand_laws.specs.Wanting.{IsWanting, Pays, want_of}
use Rattle.mg_demand_laws.specs.WantingLaws.{page_pays}

none_in : (d : Demand) → IsIn no_more d → ⊥
none_in d h = of_listed [] d h

-- ---- entries

pub length-first : (page : List ℕ) (n : ℕ) → length (first_entries page n) ≡ n
length-first page zero = refl
length-first page (suc n) =
    let before = length-first page n in
    let whole = length-append (first_entries page n) (u32_at page (place_of n) ∷ []) in
    omega (arith, before, whole)

last_same : (xs ys : List ℕ) (x y : ℕ) → xs ++ x ∷ [] ≡ ys ++ y ∷ [] → x ≡ y
last_same [] [] x y same = cc
last_same [] (b ∷ []) x y same = absurd cc
last_same [] (b ∷ c ∷ ys) x y same = absurd cc
last_same (a ∷ []) [] x y same = absurd cc
last_same (a ∷ c ∷ xs) [] x y same = absurd cc
last_same (a ∷ xs) (b ∷ ys) x y same =
    last_same xs ys x y (let rest : xs ++ x ∷ [] ≡ ys ++ y ∷ [] = cc in rest)

-- the entries that two pages share demand the same
entries_as : (size : ℕ) (one other : List ℕ) (owner at k : ℕ)
    → ((j : ℕ) → j < k → u32_at one (place_of j) ≡ u32_at other (place_of j)) → (e : Demand)
    → Has (entry_demands size one owner at k) e → Has (entry_demands size other owner at k) e
entries_as size one other owner at zero same e h = h
entries_as size one other owner at (suc k) same e h =
    elim (has_either (entry_demands size one owner at k) _ e h) [
      | inl x ↦ has_front (entry_demands size other owner at k) _ e
          (entries_as size one other owner at k (λ j less. same j (omega (arith, less))) e x)
      | inr y ↦ has_back (entry_demands size other owner at k) _ e
          (subst (λ (m : ℕ). Has (linked size m DATA owner (at * capacity size + k)) e)
          (same k (omega arith)) y)
    ]

-- four bytes that are the same are one number
same_u32 : (one other : List ℕ) (p : ℕ)
    → ((i : ℕ) → i < 4 → byte one (p + i) ≡ byte other (p + i)) → u32_at one p ≡ u32_at other p
same_u32 one other p same =
    let a : byte one p ≡ byte other p = subst (λ (k : ℕ). byte one k ≡ byte other k) (omega arith)
    (same 0 (omega arith)) in
    let b = same 1 (omega arith) in
    let c = same 2 (omega arith) in
    let d = same 3 (omega arith) in omega (arith, a, b, c, d)

module _ (size : ℕ) (old new : Pages) (q n owner at : ℕ) (orders : Orders) (settled : ℕ → Bool) (on_disk wanted : DemandSet) (lists : ListsData size old new q n owner at) (was : IsWanting size old wanted)
    -- the data page is paid for, at its place behind the entries that were there
    (paid : (e : Demand) → Has (linked size n DATA owner (at * capacity size + count_in (old q))) e
    → IsPaid orders on_disk wanted no_more (want_of q POINTER owner at) e) where
  abbrev c : ℕ
  c = count_in (old q)

  whole : length (new q) ≡ size
  whole = lists.adds.len ∙ was.whole q

  on_pointer : (d : Demand) → IsIn wanted d → d.target ≡ q → d ≡ want_of q POINTER owner at
  on_pointer d h same =
      let alone = pointer_alone size old wanted was d h (λ none. lists.off_header (sym same ∙ none))
      (ap (λ (m : ℕ). byte (old m) 0) same ∙ pointer_kind (old q) q owner at lists.was_passes) in
      let its = pointer_is (old q) q d.a d.b owner at
      (subst (λ (m : ℕ). PassesAll (pointer_checks (old m) m d.a d.b)) same alone.1) lists.was_passes in
      alone.0 ∙ (ap (λ (m : ℕ). want_of m POINTER d.a d.b) same
      ∙ (ap (λ (m : ℕ). want_of q POINTER m d.b) its.0 ∙ ap (λ (m : ℕ). want_of q POINTER owner m) its.1))

  count_is : count_in (new q) ≡ suc c
  unfolding entries_of
  count_is =
      let one = length-first (new q) (count_in (new q)) in
      let two = length-first (old q) c in
      let three = ap (λ (ns : List ℕ). length ns) lists.adds.entries in
      let four = length-append (first_entries (old q) c) (n ∷ []) in
      omega (arith, one, two, three, four)

  last_is : u32_at (new q) (place_of c) ≡ n
  unfolding entries_of
  last_is = last_same (first_entries (new q) c) (first_entries (old q) c) (u32_at (new q) (place_of c)) n
      (ap (first_entries (new q)) (sym count_is) ∙ lists.adds.entries)

  same_entry : (j : ℕ) → j < c → u32_at (new q) (place_of j) ≡ u32_at (old q) (place_of j)
  same_entry j less = same_u32 (new q) (old q) (place_of j) (λ i low. lists.adds.outside (place_of j + i)
      (λ past. omega (arith, past)) (λ past. absurd (omega (arith, past, less, low))))

  pointer_links : (d e : Demand) → IsIn wanted d → d.target ≡ q → Has (demands_of (new q) d) e
      → Has (demands_of (old q) d) e ⊎ IsPaid orders on_disk wanted no_more d e
  pointer_links d e h same made =
      cases (has_either (entry_demands size (new q) owner at (count_in (new q))) _ e
      (as_want size old wanted was (new q) whole (want_of q POINTER owner at) d e is made))
    where
      is : d ≡ want_of q POINTER owner at
      is = on_pointer d h same

      stood : Has (pointer_demands size (old q) owner at) e → Has (demands_of (old q) d) e
      stood there = from_want size old wanted was (old q) (was.whole q) (want_of q POINTER owner at) d e is there

      entry : Has (entry_demands size (new q) owner at (suc c)) e
          → Has (demands_of (old q) d) e ⊎ IsPaid orders on_disk wanted no_more d e
      entry there = elim (has_either (entry_demands size (new q) owner at c) _ e there) [
        | inl x ↦ inl (stood (has_front (entry_demands size (old q) owner at c) _ e
            (entries_as size (new q) (old q) owner at c same_entry e x)))
        | inr y ↦ inr (subst (λ (x : Demand). IsPaid orders on_disk wanted no_more x e) (sym is)
            (paid e (subst (λ (m : ℕ). Has (linked size m DATA owner (at * capacity size + c)) e) last_is y)))
      ]

      cases : Has (entry_demands size (new q) owner at (count_in (new q))) e
          ⊎ Has (if next_in (new q) == 0 then [] else linked size (next_in (new q)) POINTER owner (at + 1)) e
          → Has (demands_of (old q) d) e ⊎ IsPaid orders on_disk wanted no_more d e
      cases (inl x) = entry (subst (λ (k : ℕ). Has (entry_demands size (new q) owner at k) e) count_is x)
      cases (inr y) = inl (stood (has_back (entry_demands size (old q) owner at c) _ e
          (subst (λ (m : ℕ). Has (if m == 0 then [] else linked size m POINTER owner (at + 1)) e)
          lists.adds.next y)))

  pub entry_pays : Pays size old new orders settled on_disk wanted no_more
  entry_pays = page_pays size old new q orders settled on_disk wanted no_more was (record {
    others = lists.others;
    len = whole;
    used = λ m is. used_same size old new q lists.others lists.off_inventory m ∙ is;
    still = λ d h same. subst (λ (x : Demand). meets_of (new q) x ≡ true) (sym (on_pointer d h same))
        (met_is size (new q) (want_of q POINTER owner at) was.lawful whole (of_pointer refl lists.passes));
    links = pointer_links;
    leaves = λ d e h same made may apart. absurd (none_may_go size old wanted was settled q
        (λ five. let four = pointer_kind (old q) q owner at lists.was_passes in omega (arith, five, four))
        d e h same made may);
    kept_data = λ d h same is. absurd (let what : d.what ≡ 4 =
        ap (λ (x : Demand). x.what) (on_pointer d h same) in omega (arith, what, is));
    met = λ d h. absurd (none_in d h);
    new_links = λ d e h made. absurd (none_in d h);
    new_used = λ d h. absurd (none_in d h);
    new_data = λ d h is. absurd (none_in d h);
  })

-- ---- a next pointer page

module _ (size : ℕ) (old new : Pages) (q p owner at : ℕ) (orders : Orders) (settled : ℕ → Bool) (on_disk wanted : DemandSet) (links : LinksNext size old new q p owner at) (was : IsWanting size old wanted)
    -- the next page is paid for
    (paid : (e : Demand) → Has (linked size p POINTER owner (at + 1)) e
    → IsPaid orders on_disk wanted no_more (want_of q POINTER owner at) e) where
  next_whole : length (new q) ≡ size
  next_whole = links.sets.len ∙ was.whole q

  on_last : (d : Demand) → IsIn wanted d → d.target ≡ q → d ≡ want_of q POINTER owner at
  on_last d h same =
      let alone = pointer_alone size old wanted was d h (λ none. links.off_header (sym same ∙ none))
      (ap (λ (m : ℕ). byte (old m) 0) same ∙ pointer_kind (old q) q owner at links.was_passes) in
      let its = pointer_is (old q) q d.a d.b owner at
      (subst (λ (m : ℕ). PassesAll (pointer_checks (old m) m d.a d.b)) same alone.1) links.was_passes in
      alone.0 ∙ (ap (λ (m : ℕ). want_of m POINTER d.a d.b) same
      ∙ (ap (λ (m : ℕ). want_of q POINTER m d.b) its.0 ∙ ap (λ (m : ℕ). want_of q POINTER owner m) its.1))

  count_same : count_in (new q) ≡ count_in (old q)
  count_same =
      let one = links.sets.outside 20 (λ past. omega (arith, past)) in
      let two = links.sets.outside 21 (λ past. omega (arith, past)) in omega (arith, one, two)

  entry_same : (j : ℕ) → j < count_in (old q)
      → u32_at (new q) (place_of j) ≡ u32_at (old q) (place_of j)
  entry_same j less = same_u32 (new q) (old q) (place_of j)
      (λ i low. links.sets.outside (place_of j + i) (λ past. omega (arith, past)))

  next_links : (d e : Demand) → IsIn wanted d → d.target ≡ q → Has (demands_of (new q) d) e
      → Has (demands_of (old q) d) e ⊎ IsPaid orders on_disk wanted no_more d e
  next_links d e h same made =
      cases (has_either (entry_demands size (new q) owner at (count_in (new q))) _ e
      (as_want size old wanted was (new q) next_whole (want_of q POINTER owner at) d e is made))
    where
      is : d ≡ want_of q POINTER owner at
      is = on_last d h same

      next : (b : Bool) → Has (if b then [] else linked size (next_in (new q)) POINTER owner (at + 1)) e
          → Has (demands_of (old q) d) e ⊎ IsPaid orders on_disk wanted no_more d e
      next true y = absurd y
      next false y = inr (subst (λ (x : Demand). IsPaid orders on_disk wanted no_more x e) (sym is)
          (paid e (subst (λ (m : ℕ). Has (linked size m POINTER owner (at + 1)) e) links.sets.next_set y)))

      cases : Has (entry_demands size (new q) owner at (count_in (new q))) e
          ⊎ Has (if next_in (new q) == 0 then [] else linked size (next_in (new q)) POINTER owner (at + 1)) e
          → Has (demands_of (old q) d) e ⊎ IsPaid orders on_disk wanted no_more d e
      cases (inl x) = inl (from_want size old wanted was (old q) (was.whole q) (want_of q POINTER owner at) d e is
          (has_front (entry_demands size (old q) owner at (count_in (old q))) _ e
          (entries_as size (new q) (old q) owner at (count_in (old q)) entry_same e
          (subst (λ (k : ℕ). Has (entry_demands size (new q) owner at k) e) count_same x))))
      cases (inr y) = next (next_in (new q) == 0) y

  pub next_pays : Pays size old new orders settled on_disk wanted no_more
  next_pays = page_pays size old new q orders settled on_disk wanted no_more was (record {
    others = links.others;
    len = next_whole;
    used = λ m is. used_same size old new q links.others links.off_inventory m ∙ is;
    still = λ d h same. subst (λ (x : Demand). meets_of (new q) x ≡ true) (sym (on_last d h same))
        (met_is size (new q) (want_of q POINTER owner at) was.lawful next_whole (of_pointer refl links.passes));
    links = next_links;
    leaves = λ d e h same made may apart. absurd (none_may_go size old wanted was settled q
        (λ five. let four = pointer_kind (old q) q owner at links.was_passes in omega (arith, five, four))
        d e h same made may);
    kept_data = λ d h same is. absurd (let what : d.what ≡ 4 =
        ap (λ (x : Demand). x.what) (on_last d h same) in omega (arith, what, is));
    met = λ d h. absurd (none_in d h);
    new_links = λ d e h made. absurd (none_in d h);
    new_used = λ d h. absurd (none_in d h);
    new_data = λ d h is. absurd (none_in d h);
  })

-- ---- pages that are made

module _ (size : ℕ) (old new : Pages) (n owner place : ℕ) (orders : Orders) (settled : ℕ → Bool) (on_disk wanted : DemandSet) (makes : MakesTablePage size old new n) (was : IsWanting size old wanted) (unwanted : (d : Demand) → IsIn wanted d → d.target ≢ n) where
  abbrev data_more : DemandSet
  data_more = listed (want_of n DATA owner place ∷ [])

  -- a new data page has no cell, and demands nothing
  pub made_data : PassesAll (common_checks (new n) n DATA_KIND owner place) → slot_count (new n) ≡ 0
      → MakesPage size old new n orders on_disk wanted data_more
  made_data passes empty = record {
    others = makes.others;
    len = makes.len;
    off_inventory = makes.off_inventory;
    used = makes.used;
    unwanted = unwanted;
    aimed = λ d h. ap (λ (x : Demand). x.target) (one_of (want_of n DATA owner place) d h);
    met = λ d h. subst (λ (x : Demand). meets_of (new n) x ≡ true) (sym (one_of (want_of n DATA owner place) d h))
        (met_is size (new n) (want_of n DATA owner place) was.lawful makes.len (of_data refl passes));
    links = λ d e h made. absurd (subst (λ (k : ℕ). Has (slot_demands (new n) k) e) empty
        (as_want size old wanted was (new n) makes.len (want_of n DATA owner place) d e
        (one_of (want_of n DATA owner place) d h) made));
    on_data = λ d h is. kind_of (new n) n DATA_KIND owner place passes;
  }

module _ (size : ℕ) (old new : Pages) (p n owner at : ℕ) (orders : Orders) (settled : ℕ → Bool) (on_disk wanted : DemandSet) (makes : MakesTablePage size old new p) (was : IsWanting size old wanted) (unwanted : (d : Demand) → IsIn wanted d → d.target ≢ p)
    -- its data page is paid for
    (paid : (e : Demand) → Has (linked size n DATA owner (at * capacity size)) e
    → IsPaid orders on_disk wanted (listed (want_of p POINTER owner at ∷ [])) (want_of p POINTER owner at) e) where
  abbrev pointer_more : DemandSet
  pointer_more = listed (want_of p POINTER owner at ∷ [])

  -- a new pointer page with one entry
  pub made_pointer : PassesAll (pointer_checks (new p) p owner at) → entries_of (new p) ≡ n ∷ []
      → next_in (new p) ≡ 0 → MakesPage size old new p orders on_disk wanted pointer_more
  unfolding entries_of
  made_pointer passes entries last = record {
    others = makes.others;
    len = makes.len;
    off_inventory = makes.off_inventory;
    used = makes.used;
    unwanted = unwanted;
    aimed = λ d h. ap (λ (x : Demand). x.target) (one_of (want_of p POINTER owner at) d h);
    met = λ d h. subst (λ (x : Demand). meets_of (new p) x ≡ true) (sym (one_of (want_of p POINTER owner at) d h))
        (met_is size (new p) (want_of p POINTER owner at) was.lawful makes.len (of_pointer refl passes));
    links = λ d e h made.
        let is = one_of (want_of p POINTER owner at) d h in
        subst (λ (x : Demand). IsPaid orders on_disk wanted pointer_more x e) (sym is)
        (cases e (has_either (entry_demands size (new p) owner at (count_in (new p))) _ e
        (as_want size old wanted was (new p) makes.len (want_of p POINTER owner at) d e is made)));
    on_data = λ d h is. absurd (let what : d.what ≡ 4 =
        ap (λ (x : Demand). x.what) (one_of (want_of p POINTER owner at) d h) in omega (arith, what, is));
  }
    where
      one : count_in (new p) ≡ 1
      one =
          let long = length-first (new p) (count_in (new p)) in
          let is = ap (λ (ns : List ℕ). length ns) entries in omega (arith, long, is)

      first : u32_at (new p) (place_of 0) ≡ n
      first = last_same [] [] (u32_at (new p) (place_of 0)) n
          (ap (first_entries (new p)) (sym one) ∙ entries)

      entry : (e : Demand) → Has (entry_demands size (new p) owner at 1) e
          → IsPaid orders on_disk wanted pointer_more (want_of p POINTER owner at) e
      entry e there = elim (has_either [] (entry_demand size (new p) owner at 0) e there) [
        | inl x ↦ absurd x
        | inr y ↦ paid e (subst (λ (k : ℕ). Has (linked size n DATA owner k) e)
            (let same : at * capacity size + 0 ≡ at * capacity size = omega arith in same)
            (subst (λ (m : ℕ). Has (linked size m DATA owner (at * capacity size + 0)) e) first y))
      ]

      cases : (e : Demand) → Has (entry_demands size (new p) owner at (count_in (new p))) e
          ⊎ Has (if next_in (new p) == 0 then [] else linked size (next_in (new p)) POINTER owner (at + 1)) e
          → IsPaid orders on_disk wanted pointer_more (want_of p POINTER owner at) e
      cases e (inl x) = entry e (subst (λ (k : ℕ). Has (entry_demands size (new p) owner at k) e) one x)
      cases e (inr y) = absurd (subst (λ (m : ℕ). Has (if m == 0 then []
          else linked size m POINTER owner (at + 1)) e) last y)
