-- Laws of a pointer page, for those who stand above it.
use Rattle.std.specs.Prelude.{◌≡◌, ◌<◌, ◌≤◌, ◌+◌, ◌*◌, ◌^◌, ℕ, zero, suc, List, [], ◌∷◌, ◌++◌, length, min, slice_index}
use Rattle.std.proofs.Common.{get_or, refl, sym, ap, ◌∙◌, arith, inl, inr}
use Rattle.std.proofs.lemmas.Bool.{cases_eq}
use Rattle.std.proofs.lemmas.List.{get_or_push, get_or_append_left, length_push}
use Rattle.mg_base.specs.Fields.{u16_at, u32_at, new_page, length-new_page}
use Rattle.mg_base.specs.Checks.{Check, PassesAll, common_checks}
use Rattle.mg_base.specs.CheckLaws.{new_page_zero, new_passes, passes-append}
use Rattle.mg_pointer.specs.declared.page.TheConstants.{POINTER_KIND, ENTRIES_AT, ENTRY_LEN}
use Rattle.mg_pointer.specs.PointerPage.{IsPointerPage, capacity, count_in, entries_of, first_entries, new_pointer_page, next_in, pointer_checks, rest_checks}

pub length-first_entries : (page : List ℕ) (n : ℕ) → length (first_entries page n) ≡ n
length-first_entries page zero = refl
length-first_entries page (suc n) =
    let so_far = length-first_entries page n in
    omega (arith, length_push (first_entries page n) (u32_at page (24 + 4 * n)))

-- the list is as long as the count says
pub length-entries_of : (page : List ℕ) → length (entries_of page) ≡ count_in page
unfolding entries_of
length-entries_of page = length-first_entries page (count_in page)

first_entry : (page : List ℕ) (n i : ℕ) → i < n
    → get_or (first_entries page n) i 0 ≡ u32_at page (24 + 4 * i)
first_entry page zero i inside = absurd (omega arith)
first_entry page (suc n) i inside = elim (cases_eq i n) [
  | inl last ↦ (let len : length (first_entries page n) ≡ i =
      length-first_entries page n ∙ sym last in
      get_or_push (first_entries page n) (u32_at page (24 + 4 * n)) 0 i len ∙
      ap (λ (k : ℕ). u32_at page (24 + 4 * k)) (sym last))
  | inr before ↦ (let shorter : i < length (first_entries page n) =
      omega (arith, length-first_entries page n) in
      get_or_append_left (first_entries page n) (u32_at page (24 + 4 * n) ∷ []) 0 i shorter ∙
      first_entry page n i (omega arith))
]

-- the data page at a place of the list stands in the field of that place
pub entry_at : (page : List ℕ) (i : ℕ) → i < count_in page
    → slice_index (entries_of page) i ≡ u32_at page (ENTRIES_AT + ENTRY_LEN * i)
unfolding entries_of
entry_at page i inside = first_entry page (count_in page) i inside

-- pages whose fields agree so far have the same first entries
pub same_entries : (a b : List ℕ) (n : ℕ) → ((i : ℕ) → i < n
    → u32_at a (24 + 4 * i) ≡ u32_at b (24 + 4 * i)) → first_entries a n ≡ first_entries b n
same_entries a b zero same = refl
same_entries a b (suc n) same =
    let so_far : first_entries a n ≡ first_entries b n =
    same_entries a b n (λ i inside. same i (omega arith)) in
    let last : u32_at a (24 + 4 * n) ≡ u32_at b (24 + 4 * n) = same n (omega arith) in
    ap (λ (x : List ℕ). x ++ u32_at a (24 + 4 * n) ∷ []) so_far ∙
    ap (λ (x : ℕ). first_entries b n ++ x ∷ []) last

new_count : (size page owner seq : ℕ) → count_in (new_page size page POINTER_KIND owner seq) ≡ 0
new_count size page owner seq =
    omega (
      arith,
      new_page_zero size page POINTER_KIND owner seq 20 (omega arith),
      new_page_zero size page POINTER_KIND owner seq 21 (omega arith),
    )

-- a new page has no entries
pub new_page_empty : (size page owner seq : ℕ)
    → entries_of (new_pointer_page size page owner seq) ≡ []
unfolding new_pointer_page entries_of
new_page_empty size page owner seq =
    ap (first_entries (new_page size page POINTER_KIND owner seq)) (new_count size page owner seq)

-- a new page has no next page
pub new_page_next : (size page owner seq : ℕ) → next_in (new_pointer_page size page owner seq) ≡ 0
unfolding new_pointer_page
new_page_next size page owner seq = omega (
  arith,
  new_page_zero size page POINTER_KIND owner seq 16 (omega arith),
  new_page_zero size page POINTER_KIND owner seq 17 (omega arith),
  new_page_zero size page POINTER_KIND owner seq 18 (omega arith),
  new_page_zero size page POINTER_KIND owner seq 19 (omega arith),
)

-- a new page passes its tests
pub new_page_passes : (size page owner seq : ℕ) → ENTRIES_AT ≤ size → page < 2 ^ 32 → owner < 2 ^ 32
    → seq < 2 ^ 32 → PassesAll (pointer_checks (new_pointer_page size page owner seq) page owner seq)
unfolding new_pointer_page pointer_checks
new_page_passes size page owner seq fits small_page small_owner small_seq =
    let made : List ℕ = new_page size page POINTER_KIND owner seq in
    let common =
    new_passes size page POINTER_KIND owner seq (omega arith) small_page small_owner small_seq in
    let count : count_in made ≡ 0 = new_count size page owner seq in
    let count_fits : count_in made ≡ min (count_in made) (capacity (length made)) = omega arith in
    let unused : u16_at made 22 ≡ 0 = omega (
      arith,
      new_page_zero size page POINTER_KIND owner seq 22 (omega arith),
      new_page_zero size page POINTER_KIND owner seq 23 (omega arith),
    ) in
    passes-append (common_checks made page POINTER_KIND owner seq) (rest_checks made) common
    (count_fits, (unused, tt))

-- a new page has the size that was asked for
pub length-new_pointer_page : (size page owner seq : ℕ)
    → length (new_pointer_page size page owner seq) ≡ size
unfolding new_pointer_page
length-new_pointer_page size page owner seq = length-new_page size page POINTER_KIND owner seq

passes_behind : (first others : List Check) → PassesAll (first ++ others) → PassesAll others
passes_behind [] others passes = passes
passes_behind (check ∷ checks) others passes = passes_behind checks others passes.1

-- a page that passes its tests may be read
pub page_that_passes : (b : List ℕ) (page owner seq : ℕ) → ENTRIES_AT ≤ length b → length b ≤ 2 ^ 16
    → PassesAll (pointer_checks b page owner seq) → IsPointerPage b
unfolding pointer_checks
page_that_passes b page owner seq least most passes =
    let rest = passes_behind (common_checks b page POINTER_KIND owner seq) (rest_checks b) passes in
    let count : count_in b ≡ min (count_in b) (capacity (length b)) = rest.0 in
    record { least = least; most = most; count = omega arith }

-- a new page may be read
pub new_page_lawful : (size page owner seq : ℕ) → ENTRIES_AT ≤ size → size ≤ 2 ^ 16
    → IsPointerPage (new_pointer_page size page owner seq)
unfolding new_pointer_page
new_page_lawful size page owner seq least most =
    let len : length (new_page size page POINTER_KIND owner seq) ≡ size =
    length-new_page size page POINTER_KIND owner seq in
    record {
      least = omega (arith, len);
      most = omega (arith, len);
      count =
          omega (arith, new_count size page owner seq);
    }
