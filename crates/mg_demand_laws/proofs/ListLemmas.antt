-- Lists of demands, chains and levels of pages, and the page inventory.
use Rattle.std.specs.Prelude.{◌≡◌, ◌≢◌, ◌<◌, ◌+◌, ◌/◌, ◌==◌, ◌&&◌, ◌||◌, ◌⊎◌, ◌++◌, ℕ, zero, suc, Bool, true, false, nat_lt, List, [], ◌∷◌, length, if◌then◌else◌}
use Rattle.std.proofs.Common.{arith, length-append, inl, inr, refl, sym, subst, ap, ◌∙◌}
use Rattle.std.proofs.lemmas.Bool.{eq-eqb, eqb-true, or_cases, or_right}
use Rattle.mg_base.specs.Fields.{u32_at}
use Rattle.mg_base.specs.Geometry.{is_page_size}
use Rattle.mg_base.specs.declared.geometry.TheConstants.{GREATEST_LIMIT}
use Rattle.mg_careful.specs.declared.links.Demand.{Demand}
use Rattle.mg_careful.specs.CarefulWrite.{Has}
use Rattle.mg_image.specs.Form.{Pages}
use Rattle.mg_image.specs.Indexes.{EachPage, Levels, above, first_level, lowest}
use Rattle.mg_image.specs.Inventory.{inventory_page}
use Rattle.mg_image.specs.Tables.{EachFrom, LinkChain, has}
use Rattle.mg_image.specs.Tables.{Has as HasPage, ended as chain_ended, goes as chain_goes}
use Rattle.mg_node.specs.NodePage.{right_in}
use Rattle.mg_pip.specs.PipPage.{bits}
use Rattle.mg_pointer.specs.PointerPage.{first_entries, place_of}
use Rattle.mg_space.specs.Demands.{bit_demand, demand, linked}
use Rattle.mg_space.specs.declared.links.TheConstants.{BIT}

-- ---- lists of demands

abbrev pub mk : ℕ → ℕ → ℕ → ℕ → Demand
mk target what a b = record { target = target; what = what; a = a; b = b }

pub either : (ds es : List Demand) (e : Demand) → Has (ds ++ es) e → Has ds e ⊎ Has es e
either [] es e h = inr h
either (d ∷ ds) es e (inl same) = inl (inl same)
either (d ∷ ds) es e (inr h) = elim (either ds es e h) [
  | inl x ↦ inl (inr x)
  | inr y ↦ inr y
]

pub where_true : (c : Bool) (x e : Demand) → Has (if c then x ∷ [] else []) e → e ≡ x
where_true true x e (inl same) = same
where_true true x e (inr h) = absurd h
where_true false x e h = absurd h

pub is_demand : (target what a b : ℕ) (e : Demand) → Has (demand target what a b) e → e ≡ mk target what a b
unfolding demand
is_demand target what a b e h =
    where_true (nat_lt target 4294967296 && nat_lt a 4294967296 && nat_lt b 4294967296)
    (mk target what a b) e h

-- a property of what a page is demanded for, and of its bit, is one of all that is linked
pub is_linked : (P : Demand → Type 0) (size target what a b : ℕ) → P (mk target what a b)
    → P (mk (inventory_page size (target / bits size)) BIT target 0) → (e : Demand)
    → Has (linked size target what a b) e → P e
is_linked P size target what a b one bit e h =
    elim (either (demand target what a b) (bit_demand size target) e h) [
      | inl x ↦ subst P (sym (is_demand target what a b e x)) one
      | inr y ↦ subst P (sym (is_demand (inventory_page size (target / bits size)) BIT target 0 e y)) bit
    ]

-- ---- chains and lists of pages

pub each_front : (P : ℕ → ℕ → Type 0) (at : ℕ) (ms ns : List ℕ) → EachFrom P at (ms ++ ns) → EachFrom P at ms
each_front P at [] ns each = tt
each_front P at (m ∷ ms) ns each = (each.0, each_front P (suc at) ms ns each.1)

pub each_back : (P : ℕ → ℕ → Type 0) (at : ℕ) (ms ns : List ℕ) → EachFrom P at (ms ++ ns)
    → EachFrom P (at + length ms) ns
each_back P at [] ns each = subst (λ (k : ℕ). EachFrom P k ns) (omega arith) each
each_back P at (m ∷ ms) ns each =
    subst (λ (k : ℕ). EachFrom P k ns) (omega arith) (each_back P (suc at) ms ns each.1)

pub length-first : (page : List ℕ) (n : ℕ) → length (first_entries page n) ≡ n
length-first page zero = refl
length-first page (suc n) = let before = length-first page n in
    let whole = length-append (first_entries page n) (u32_at page (place_of n) ∷ []) in
    omega (arith, before, whole)

pub head_in : (next : ℕ → ℕ) (first : ℕ) (ns : List ℕ) → LinkChain next first ns → first ≢ 0
    → HasPage ns first
head_in next first ns chain_ended ne = absurd (ne refl)
head_in next first ns (chain_goes n more some rest) ne = inl refl

pub next_in_chain : (next : ℕ → ℕ) (first : ℕ) (ns : List ℕ) → LinkChain next first ns → (n : ℕ)
    → HasPage ns n → next n ≢ 0 → HasPage ns (next n)
next_in_chain next first ns chain_ended n h ne = absurd h
next_in_chain next first ns (chain_goes m more some rest) n (inl same) ne =
    inr (subst (λ (k : ℕ). HasPage more (next k)) (sym same)
    (head_in next (next m) more rest (λ none. ne (ap next same ∙ none))))
next_in_chain next first ns (chain_goes m more some rest) n (inr h) ne =
    inr (next_in_chain next (next m) more rest n h ne)

pub each_page : (P : ℕ → Type 0) (ns : List ℕ) → EachPage P ns → (n : ℕ) → HasPage ns n → P n
each_page P [] each n h = absurd h
each_page P (m ∷ ns) each n (inl same) = subst P (sym same) each.0
each_page P (m ∷ ns) each n (inr h) = each_page P ns each.1 n h

pub has_front : (ms ns : List ℕ) (n : ℕ) → HasPage ms n → HasPage (ms ++ ns) n
has_front [] ns n h = absurd h
has_front (m ∷ ms) ns n (inl same) = inl same
has_front (m ∷ ms) ns n (inr h) = inr (has_front ms ns n h)

pub has_back : (ms ns : List ℕ) (n : ℕ) → HasPage ns n → HasPage (ms ++ ns) n
has_back [] ns n h = h
has_back (m ∷ ms) ns n h = inr (has_back ms ns n h)

pub has_so : (ns : List ℕ) (n : ℕ) → HasPage ns n → has ns n ≡ true
has_so [] n h = absurd h
has_so (m ∷ ns) n (inl same) = rw (eq-eqb n m same) refl
has_so (m ∷ ns) n (inr h) = or_right (n == m) _ (has_so ns n h)

pub has_it : (ns : List ℕ) (n : ℕ) → has ns n ≡ true → HasPage ns n
has_it [] n is = absurd cc
has_it (m ∷ ns) n is = elim (or_cases (n == m) _ is) [
  | inl same ↦ inl (eqb-true n m same)
  | inr more ↦ inr (has_it ns n more)
]

-- ---- levels

-- where a page of a level has a right neighbour, this is one of the level
abbrev pub IsLevel : Pages → List ℕ → Type 0
IsLevel pages level = (n : ℕ) → HasPage level n → right_in (pages n) ≢ 0
    → HasPage level (right_in (pages n))

abbrev pub AreLevels : Pages → List (List ℕ) → Type 0
AreLevels pages [] = Unit {0}
AreLevels pages (level ∷ below) = IsLevel pages level × AreLevels pages below

pub are_levels : (pages : Pages) (root : ℕ) (levels : List (List ℕ)) → Levels pages root levels
    → AreLevels pages levels
are_levels pages root levels (lowest n level chain) =
    (next_in_chain (λ m. right_in (pages m)) root level chain, tt)
are_levels pages root levels (above n level next below chain under) =
    (next_in_chain (λ m. right_in (pages m)) root level chain, are_levels pages _ (next ∷ below) under)

pub root_there : (pages : Pages) (root : ℕ) (levels : List (List ℕ)) → Levels pages root levels → root ≢ 0
    → HasPage (first_level levels) root
root_there pages root levels (lowest n level chain) ne =
    head_in (λ m. right_in (pages m)) root level chain ne
root_there pages root levels (above n level next below chain under) ne =
    head_in (λ m. right_in (pages m)) root level chain ne

-- ---- the page inventory

-- the inventory page of each page below the greatest limit is below it too
pub inside : (size : ℕ) → is_page_size size ≡ true → (n : ℕ) → n < GREATEST_LIMIT
    → inventory_page size (n / bits size) < GREATEST_LIMIT
inside size is n below = four (or_cases _ _ is)
  where
    so : (k : ℕ) → inventory_page k (n / bits k) < GREATEST_LIMIT → size ≡ k
        → inventory_page size (n / bits size) < GREATEST_LIMIT
    so k fits same = subst (λ (m : ℕ). inventory_page m (n / bits m) < GREATEST_LIMIT) (sym same) fits

    one : ((size == 1024) ≡ true) ⊎ ((size == 2048) ≡ true)
        → inventory_page size (n / bits size) < GREATEST_LIMIT
    one (inl is) = so 1024 (omega (arith, below)) (eqb-true size 1024 is)
    one (inr is) = so 2048 (omega (arith, below)) (eqb-true size 2048 is)

    two : ((size == 1024 || size == 2048) ≡ true) ⊎ ((size == 4096) ≡ true)
        → inventory_page size (n / bits size) < GREATEST_LIMIT
    two (inl is) = one (or_cases _ _ is)
    two (inr is) = so 4096 (omega (arith, below)) (eqb-true size 4096 is)

    three : ((size == 1024 || size == 2048 || size == 4096) ≡ true) ⊎ ((size == 8192) ≡ true)
        → inventory_page size (n / bits size) < GREATEST_LIMIT
    three (inl is) = two (or_cases _ _ is)
    three (inr is) = so 8192 (omega (arith, below)) (eqb-true size 8192 is)

    four : ((size == 1024 || size == 2048 || size == 4096 || size == 8192) ≡ true)
        ⊎ ((size == 16384) ≡ true) → inventory_page size (n / bits size) < GREATEST_LIMIT
    four (inl is) = three (or_cases _ _ is)
    four (inr is) = so 16384 (omega (arith, below)) (eqb-true size 16384 is)
