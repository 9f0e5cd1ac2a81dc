-- A new data page.
use Rattle.std.proofs.Common.{take, Ok, ◌^◌, ◌≡◌, ◌≢◌, ℕ, ◌+◌, ◌<◌, ◌≤◌, ◌⊎◌, inl, inr, None, List, length, replicate, refl, arith, ap, ◌∙◌}
use Rattle.std.proofs.Math.ListN.{set}
use Rattle.std.proofs.lemmas.Bool.{cases_lt}
use Rattle.std.proofs.lemmas.List.{get_or-set_other, get_or-replicate, get_or_past, length-replicate}
use Rattle.mg_base.specs.declared.fields.TheConstants.{COMMON}
use Rattle.mg_base.specs.Fields.{byte, with_u16, with_u32, new_page, byte_apart, byte_apart16, u16_again, u16_apart, length-with_u16, length-new_page, take-with_u16}
use Rattle.mg_base.specs.declared.numbers.PageNo.{PageNo}
use Rattle.mg_slots.specs.Verdict.{common_verdict}
use Rattle.mg_slots.specs.VerdictLaws.{new_page_passes, same_common}
use Rattle.mg_slots.specs.declared.page.TheConstants.{DATA_KIND, COUNT_AT, LOW_AT, LEAST_SIZE, GREATEST_SIZE}
use Rattle.mg_slots.specs.DataPage.{Cells, IsLaid, IsNewPage, cell_of, slot_count, low_of}
use Rattle.mg_slots.proofs.LaidLemmas.{laid_cells, laid_lawful}

blank_byte : (size k : ℕ) → byte (replicate size 0) k ≡ 0
blank_byte size k = at (cases_lt k size)
  where
    at : (k < size) ⊎ (size ≤ k) → byte (replicate size 0) k ≡ 0
    at (inl lt) = get_or-replicate size k 0 0 lt
    at (inr past) = get_or_past (replicate size 0) k 0 (omega (
      arith,
      length-replicate {A =
          ℕ} size 0,
    ))

blank_behind : (size page kind owner seq k : ℕ) → COMMON ≤ k
    → byte (new_page size page kind owner seq) k ≡ 0
blank_behind size page kind owner seq k le =
    let first : List ℕ = set (replicate size 0) 0 kind in
    let not_kind : k ≢ 0 = omega arith in
    byte_apart (with_u32 (with_u32 first 4 page) 8 owner) 12 seq k (λ from. omega arith)
    ∙ (byte_apart (with_u32 first 4 page) 8 owner k (λ from. omega arith)
    ∙ (byte_apart first 4 page k (λ from. omega arith)
    ∙ (get_or-set_other (replicate size 0) 0 k kind 0 not_kind ∙ blank_byte size k)))

pub new_page_is : (b : List ℕ) (size page owner seq : ℕ) → LEAST_SIZE ≤ size
    → size ≤ GREATEST_SIZE → b ≡ with_u16 (new_page size page DATA_KIND owner seq) LOW_AT size
    → IsNewPage b size page owner seq
new_page_is b size page owner seq least greatest is =
    let none : Cells = λ s. None in
    let first : List ℕ = new_page size page DATA_KIND owner seq in
    let len_first : length first ≡ size = length-new_page size page DATA_KIND owner seq in
    let len_b : length b ≡ size = ap length is ∙ (length-with_u16 first LOW_AT size ∙ len_first) in
    let count_first : slot_count first ≡ 0 = omega (
      arith,
      blank_behind size page DATA_KIND owner seq COUNT_AT
          (omega arith),
      blank_behind size page DATA_KIND owner seq (COUNT_AT + 1) (omega arith),
    ) in
    let count_b : slot_count b ≡ 0 = ap slot_count is
    ∙ (u16_apart first LOW_AT size COUNT_AT (λ lt. absurd (omega arith)) ∙ count_first) in
    let low_b : low_of b ≡ size = ap low_of is ∙ u16_again first LOW_AT size (omega arith)
    (omega arith) in
    let laid : IsLaid b none 0 = record {
      each = λ s lt. absurd (omega arith);
      blank = λ k from to. ap (λ p. byte p k) is ∙ (byte_apart16 first LOW_AT size k
          (λ le. omega arith) ∙ blank_behind size page DATA_KIND owner seq k (omega arith));
    } in
    let cells : cell_of b ≡ none = laid_cells b none 0 laid count_b (omega arith) (λ s le. refl) in
    record {
      bytes = is;
      len = len_b;
      count = count_b;
      none = λ s. ap (λ f. f s) cells;
      lawful = laid_lawful b none 0 (omega arith) (omega arith) laid count_b (omega arith)
          (omega arith) (record { last = λ s e. absurd (omega arith); beyond = λ s le. refl });
      packed = rw (count_b, cells) laid;
    }

-- its common part is as wanted
pub new_page_common : (b : List ℕ) (size : ℕ) (page : PageNo) (owner seq : ℕ) → LEAST_SIZE ≤ size
    → page.0 < 2 ^ 32 → owner < 2 ^ 32 → seq < 2 ^ 32
    → b ≡ with_u16 (new_page size page.0 DATA_KIND owner seq) LOW_AT size
    → common_verdict b page DATA_KIND owner seq ≡ Ok tt
new_page_common b size page owner seq least small_page small_owner small_seq is =
    same_common (new_page size page.0 DATA_KIND owner seq) b page DATA_KIND owner seq (ap
    (take COMMON) is ∙ take-with_u16
    (new_page size page.0 DATA_KIND owner seq) LOW_AT size COMMON (omega arith))
    ∙ new_page_passes size page DATA_KIND owner seq (omega arith) small_page small_owner small_seq
