-- The pages of a table from a pointer page on: the first of them and the others.
use Rattle.std.specs.Prelude.{◌≡◌, ◌≢◌, ◌<◌, ◌≤◌, ◌+◌, ◌++◌, ℕ, zero, suc, false, List, [], ◌∷◌, length}
use Rattle.std.proofs.Common.{refl, sym, inl, inr, arith, subst, length-append}
use Rattle.std.proofs.lemmas.Bool.{cases_lt}
use Rattle.mg_base.specs.Checks.{PassesAll}
use Rattle.mg_base.specs.Fields.{u32_at}
use Rattle.mg_base.specs.Image.{Image, page_at}
use Rattle.mg_check_data.specs.DataRung.{DataLaw}
use Rattle.mg_check_inventory.specs.ImagePages.{IsWholeImage}
use Rattle.mg_check_tables.proofs.PointerLemmas.{pointer_none}
use Rattle.mg_check_tables.specs.TableRung.{HasEntries, HasPagesFrom, IsChainFinding, TableLaw, seat_of}
use Rattle.mg_check_tables.specs.TableRung.{of_page, of_entry, of_next}
use Rattle.mg_findings.specs.declared.finding.Finding.{Finding}
use Rattle.mg_header.specs.HeaderPage.{page_checks}
use Rattle.mg_image.specs.Form.{Pages}
use Rattle.mg_image.specs.Sound.{IsTableData, IsTablePointer}
use Rattle.mg_image.specs.Tables.{EachFrom, PointerChain, ended, entries_in, goes}
use Rattle.mg_pointer.specs.PointerPage.{count_in, entries_of, first_entries, next_in, place_of}

-- ---- lists of which each member has a property at its place

each_append : (P : ℕ → ℕ → Type 0) (at : ℕ) (xs ys : List ℕ) → EachFrom P at xs
    → EachFrom P (at + length xs) ys → EachFrom P at (xs ++ ys)
each_append P at [] ys first rest = subst (λ (k : ℕ). EachFrom P k ys) (none at) rest
  where
    none : (k : ℕ) → k + 0 ≡ k
    none k = omega arith
each_append P at (x ∷ xs) ys first rest = (
  first.0,
  each_append P (suc at) xs ys first.1
      (subst (λ (k : ℕ). EachFrom P k ys) (more at (length xs)) rest),
)
  where
    more : (k m : ℕ) → k + suc m ≡ suc k + m
    more k m = omega arith

each_parts : (P : ℕ → ℕ → Type 0) (at : ℕ) (xs ys : List ℕ) → EachFrom P at (xs ++ ys)
    → EachFrom P at xs × EachFrom P (at + length xs) ys
each_parts P at [] ys each = (tt, subst (λ (k : ℕ). EachFrom P k ys) (none at) each)
  where
    none : (k : ℕ) → k ≡ k + 0
    none k = omega arith
each_parts P at (x ∷ xs) ys each =
    let rest = each_parts P (suc at) xs ys each.1 in (
      (each.0, rest.0),
      subst (λ (k : ℕ). EachFrom P k ys) (more at (length xs)) rest.1,
    )
  where
    more : (k m : ℕ) → suc k + m ≡ k + suc m
    more k m = omega arith

-- ---- the entries of a pointer page

length_first : (b : List ℕ) (m : ℕ) → length (first_entries b m) ≡ m
length_first b zero = refl
length_first b (suc m) = let before = length_first b m in
    omega (arith, before, length-append (first_entries b m) (u32_at b (place_of m) ∷ []))

each_first : (P : ℕ → ℕ → Type 0) (b : List ℕ) (at m : ℕ)
    → ((i : ℕ) → i < m → P (at + i) (u32_at b (place_of i))) → EachFrom P at (first_entries b m)
each_first P b at zero all = tt
each_first P b at (suc m) all = each_append P at (first_entries b m) (u32_at b (place_of m) ∷ [])
    (each_first P b at m (λ i below. all i (omega (arith, below)))) (
      subst (λ (k : ℕ). P (at + k) (u32_at b (place_of m))) (sym (length_first b m))
          (all m (omega arith)),
      tt,
    )

first_each : (P : ℕ → ℕ → Type 0) (b : List ℕ) (at m : ℕ) → EachFrom P at (first_entries b m)
    → (i : ℕ) → i < m → P (at + i) (u32_at b (place_of i))
first_each P b at zero each i below = absurd (omega (arith, below))
first_each P b at (suc m) each i below =
    let both = each_parts P at (first_entries b m) (u32_at b (place_of m) ∷ []) each in
    elim (cases_lt i m) [
      | inl less ↦ first_each P b at m both.0 i less
      | inr past ↦ subst (λ (k : ℕ). P (at + k) (u32_at b (place_of k))) (last i m below past)
          (subst (λ (k : ℕ). P (at + k) (u32_at b (place_of m))) (length_first b m) both.1.0)
    ]
  where
    last : (i m : ℕ) → i < suc m → m ≤ i → m ≡ i
    last i m below past = omega (arith, below, past)

-- the data pages of this pointer page, and then the others
each_entries : (P : ℕ → ℕ → Type 0) (pages : Pages) (n place : ℕ) (ns : List ℕ)
    → ((i : ℕ) → i < count_in (pages n) → P (place + i) (u32_at (pages n) (place_of i)))
    → EachFrom P (place + count_in (pages n)) (entries_in pages ns)
    → EachFrom P place (entries_in pages (n ∷ ns))
unfolding entries_of
each_entries P pages n place ns all rest =
    let m = count_in (pages n) in
    each_append P place (first_entries (pages n) m) (entries_in pages ns)
    (each_first P (pages n) place m all)
    (subst (λ (k : ℕ). EachFrom P (place + k) (entries_in pages ns)) (sym (length_first (pages n) m)) rest)

entries_each : (P : ℕ → ℕ → Type 0) (pages : Pages) (n place : ℕ) (ns : List ℕ)
    → EachFrom P place (entries_in pages (n ∷ ns))
    → ((i : ℕ) → i < count_in (pages n) → P (place + i) (u32_at (pages n) (place_of i)))
    × EachFrom P (place + count_in (pages n)) (entries_in pages ns)
unfolding entries_of
entries_each P pages n place ns each =
    let m = count_in (pages n) in
    let both = each_parts P place (first_entries (pages n) m) (entries_in pages ns) each in (
      first_each P (pages n) place m both.0,
      subst (λ (k : ℕ). EachFrom P (place + k) (entries_in pages ns)) (length_first (pages n) m) both.1,
    )

-- ---- the first pointer page and the others

module _ (size : ℕ) (pages : Pages) (owner : ℕ) where
  pub pages_none : (n at place : ℕ) → n ≡ 0 → HasPagesFrom size pages owner n at place
  pages_none n at place is = record {
    pointers = [];
    chain = subst (λ (k : ℕ). PointerChain pages k []) (sym is) ended;
    each = tt;
    data_pages = tt;
  }

  pub pages_more : (n at place next count : ℕ) → n ≢ 0
      → IsTablePointer size pages owner at n → HasEntries size pages owner n place
      → next ≡ next_in (pages n) → count ≡ count_in (pages n)
      → HasPagesFrom size pages owner next (at + 1) (place + count)
      → HasPagesFrom size pages owner n at place
  pages_more n at place next count some pointer entries goes_on many rest = record {
    pointers = n ∷ rest.pointers;
    chain = goes n rest.pointers some
        (subst (λ (k : ℕ). PointerChain pages k rest.pointers) goes_on rest.chain);
    each = (
      pointer,
      subst (λ (k : ℕ). EachFrom (IsTablePointer size pages owner) k rest.pointers) (one at) rest.each,
    );
    data_pages = each_entries (IsTableData false size pages owner) pages n place rest.pointers entries
        (subst (λ (k : ℕ). EachFrom (IsTableData false size pages owner) (place + k)
        (entries_in pages rest.pointers)) many rest.data_pages);
  }
    where
      one : (k : ℕ) → k + 1 ≡ suc k
      one k = omega arith

  -- What is known of the first one, and of the others.
  pub record HasFirst (n at place : ℕ) : Type 0 where
    pub pointer : IsTablePointer size pages owner at n
    pub entries : HasEntries size pages owner n place
    pub rest : HasPagesFrom size pages owner (next_in (pages n)) (at + 1)
        (place + count_in (pages n))

  first_of : (n at place : ℕ) (ns : List ℕ) → n ≢ 0 → PointerChain pages n ns
      → EachFrom (IsTablePointer size pages owner) at ns
      → EachFrom (IsTableData false size pages owner) place (entries_in pages ns)
      → HasFirst n at place
  first_of n at place ns some ended each data_pages = absurd (some refl)
  first_of n at place ns some (goes m ms other more) each data_pages =
      let both = entries_each (IsTableData false size pages owner) pages m place ms data_pages in
      record {
        pointer = each.0;
        entries = both.0;
        rest = record {
          pointers = ms;
          chain = more;
          each = subst (λ (k : ℕ). EachFrom (IsTablePointer size pages owner) k ms) (one at) each.1;
          data_pages = both.1;
        };
      }
    where
      one : (k : ℕ) → suc k ≡ k + 1
      one k = omega arith

  pub pages_first : (n at place : ℕ) → n ≢ 0 → HasPagesFrom size pages owner n at place
      → HasFirst n at place
  pages_first n at place some has =
      first_of n at place has.pointers some has.chain has.each has.data_pages

-- ---- the law

pub chain_none : DataLaw → (size : ℕ) (image : Image) → IsWholeImage size image
    → PassesAll (page_checks (page_at size image 0)) → (owner holder n at place : ℕ) (f : Finding)
    → IsChainFinding size (page_at size image) (length image) owner holder n at place f
    → HasPagesFrom size (page_at size image) owner n at place → ⊥
chain_none law size image whole header owner holder n at place f (of_page _ _ _ _ _ some found) has =
    pointer_none size image holder n owner at some
    (pages_first size (page_at size image) owner n at place some has).pointer f found
chain_none law size image whole header owner holder n at place f (of_entry _ _ _ _ _ some none found) has =
    law size image whole header (seat_of (page_at size image) owner n place found.0)
    ((pages_first size (page_at size image) owner n at place some has).entries found.0 found.1) f found.2
chain_none law size image whole header owner holder n at place f (of_next _ _ _ _ _ some none found) has =
    chain_none law size image whole header owner n (next_in (page_at size image n)) (at + 1)
    (place + count_in (page_at size image n)) f found
    (pages_first size (page_at size image) owner n at place some has).rest

pub table_law : DataLaw → TableLaw
table_law law size image whole header holder first has f found = elim found [
  | inl none ↦ has.some none.0
  | inr chain ↦ chain_none law size image whole header first holder first 0 0 f chain has.whole
]
