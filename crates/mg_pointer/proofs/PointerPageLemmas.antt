-- What a write to a pointer page changes, and how its tests follow each other.
use Rattle.std.proofs.Common.{◌≡◌, ℕ, suc, ◌+◌, ◌*◌, ◌^◌, ◌<◌, List, [], ◌∷◌, ◌++◌, Ok, Err, length, ap, ◌∙◌, arith}
use Rattle.mg_base.specs.Fields.{u32_at, with_u16, with_u32, byte_apart, byte_apart16, u16_again, u32_again, u16_apart32, u32_apart, u32_apart16, length-with_u16, length-with_u32, take-with_u16, take-with_u32}
use Rattle.mg_base.specs.declared.numbers.PageNo.{PageNo}
use Rattle.mg_base.specs.declared.damage.Damaged.{Damaged}
use Rattle.mg_base.specs.Checks.{verdict, common_checks}
use Rattle.mg_base.specs.CheckLaws.{verdict-append_ok, verdict-append_err}
use Rattle.mg_pointer.specs.PointerPage.{AddsEntry, IsPointerPage, SetsNext, capacity, count_in, entries_of, first_entries, pointer_checks, rest_checks}
use Rattle.mg_pointer.specs.PointerPageLaws.{same_entries}

-- the number of the next page is exchanged
pub sets_next : (old : List ℕ) (next : ℕ) → IsPointerPage old → next < 2 ^ 32
    → SetsNext old (with_u32 old 16 next) next
unfolding entries_of
sets_next old next is small =
    let least = is.least in
    let count : count_in (with_u32 old 16 next) ≡ count_in old =
    u16_apart32 old 16 next 20 (omega arith) in
    let len : length (with_u32 old 16 next) ≡ length old = length-with_u32 old 16 next in
    record {
      next_set = u32_again old 16 next (omega arith) small;
      entries = ap (first_entries (with_u32 old 16 next)) count
          ∙ same_entries (with_u32 old 16 next) old (count_in old)
          (λ i inside. u32_apart old 16 next (24 + 4 * i) (λ below. omega arith));
      len = len;
      front = take-with_u32 old 16 next 16 (omega arith);
      outside = λ at apart. byte_apart old 16 next at apart;
      page = record {
        least = omega (arith, len);
        most = omega (arith, len, is.most);
        count =
            omega (arith, count, len, is.count);
      };
    }

-- an entry is written behind the others, and then counted
pub adds_entry : (old : List ℕ) (entry : ℕ) → IsPointerPage old
    → count_in old < capacity (length old) → entry < 2 ^ 32
    → AddsEntry old (with_u16 (with_u32 old (24 + 4 * count_in old) entry) 20 (count_in old
    + 1)) entry
unfolding entries_of
adds_entry old entry is room small =
    let count : ℕ = count_in old in
    let at : ℕ = 24 + 4 * count in
    let written : List ℕ = with_u32 old at entry in
    let new : List ℕ = with_u16 written 20 (count + 1) in
    let most = is.most in
    let written_len : length written ≡ length old = length-with_u32 old at entry in
    let len : length new ≡ length old = length-with_u16 written 20 (count + 1) ∙ written_len in
    let counted : count_in new ≡ suc count = u16_again written 20 (count
    + 1) (omega (arith, written_len)) (omega arith) ∙ omega arith in
    let others : (i : ℕ) → i < count → u32_at new (24 + 4 * i) ≡ u32_at old (24 + 4 * i) =
    λ i inside.
    u32_apart16 written 20 (count + 1) (24 + 4 * i) (λ below. omega arith) ∙
    u32_apart old at entry (24 + 4 * i) (λ below. omega arith) in
    let last : u32_at new at ≡ entry = u32_apart16 written 20 (count
    + 1) at (λ below. omega arith) ∙ u32_again old at entry (omega arith) small in
    record {
      entries = ap (first_entries new) counted
          ∙ (ap (λ (x : List ℕ). x ++ u32_at new at ∷ []) (same_entries new old count others) ∙
          ap (λ (x : ℕ). first_entries old count ++ x ∷ []) last);
      next = u32_apart16 written 20 (count + 1) 16 (λ below. omega arith) ∙
          u32_apart old at entry 16 (λ below. omega arith);
      len = len;
      front = take-with_u16 written 20 (count + 1) 16 (omega arith) ∙
          take-with_u32 old at entry 16 (omega arith);
      outside = λ k count_apart entry_apart. byte_apart16 written 20 (count + 1) k count_apart ∙
          byte_apart old at entry k entry_apart;
      page = record {
        least = omega (arith, len, is.least);
        most = omega (arith, len, is.most);
        count = omega (arith, counted, len);
      };
    }

-- damage of the common part comes first
pub pointer_damaged : (page : PageNo) (b : List ℕ) (owner seq : ℕ) (damage : Damaged)
    → verdict page (common_checks b page.0 4 owner seq) ≡ Err damage
    → verdict page (pointer_checks b page.0 owner seq) ≡ Err damage
unfolding pointer_checks
pointer_damaged page b owner seq damage err =
    verdict-append_err page (common_checks b page.0 4 owner seq) (rest_checks b) damage err

-- behind a sound common part the rest decides
pub pointer_rest : (page : PageNo) (b : List ℕ) (owner seq : ℕ)
    → verdict page (common_checks b page.0 4 owner seq) ≡ Ok tt
    → verdict page (pointer_checks b page.0 owner seq) ≡ verdict page (rest_checks b)
unfolding pointer_checks
pointer_rest page b owner seq ok =
    verdict-append_ok page (common_checks b page.0 4 owner seq) (rest_checks b) ok
