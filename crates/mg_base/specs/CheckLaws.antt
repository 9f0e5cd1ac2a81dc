-- Laws of tests: what several tests in a row say, and which pages pass.
use Rattle.std.specs.Prelude.{◌≡◌, ℕ, ◌<◌, ◌≤◌, ◌^◌, List, [], ◌∷◌, ◌++◌, length, take, replicate, Ok, Err}
use Rattle.std.proofs.Common.{get_or, refl, arith, ap, sym, ◌∙◌, inl, inr}
use Rattle.std.proofs.Math.ListN.{set}
use Rattle.std.proofs.lemmas.Bool.{cases_eq, cases_lt, eq-eqb, ne_eqb}
use Rattle.std.proofs.lemmas.List.{get_or-take, get_or-set_same, get_or-set_other, get_or-replicate, get_or_past, length-set, length-replicate}
use Rattle.mg_base.specs.Checks.{Check, verdict, common_checks, PassesAll}
use Rattle.mg_base.specs.Fields.{byte, u32_at, with_u32, new_page, byte_apart, u32_apart, u32_again, length-with_u32}
use Rattle.mg_base.specs.declared.fields.TheConstants.{COMMON}
use Rattle.mg_base.specs.declared.numbers.PageNo.{PageNo}
use Rattle.mg_base.specs.declared.damage.Damaged.{Damaged}

-- one test more, which finds what is wanted
verdict-same : (page : PageNo) (check : Check) (checks : List Check) → check.1 ≡ check.2
    → verdict page (check ∷ checks) ≡ verdict page checks
verdict-same page check checks same = rw (eq-eqb check.1 check.2 same) refl

verdict-differs : (page : PageNo) (check : Check) (checks : List Check) → (check.1 ≡ check.2 → ⊥)
    → verdict page (check ∷ checks) ≡ Err (record {
      page = page;
      field = check.0;
      found = check.1;
      wanted = check.2;
    })
verdict-differs page check checks differs = rw (ne_eqb check.1 check.2 differs) refl

-- a page has no damage exactly where each test finds what is wanted
pub verdict_from_passes : (page : PageNo) (checks : List Check) → PassesAll checks
    → verdict page checks ≡ Ok tt
verdict_from_passes page [] passes = refl
verdict_from_passes page (check ∷ checks) passes = verdict-same page check checks passes.0 ∙
    verdict_from_passes page checks passes.1

pub passes_from_verdict : (page : PageNo) (checks : List Check) → verdict page checks ≡ Ok tt
    → PassesAll checks
passes_from_verdict page [] ok = tt
passes_from_verdict page (check ∷ checks) ok =
    elim (cases_eq check.1 check.2) [
      | inl same ↦ (
        same,
        passes_from_verdict page checks (sym (verdict-same page check checks same) ∙ ok),
      )
      | inr differs ↦ absurd (let no = verdict-differs page check checks differs in cc)
    ]

-- tests that follow others count where the others find no difference
pub verdict-append_ok : (page : PageNo) (first others : List Check) → verdict page first ≡ Ok tt
    → verdict page (first ++ others) ≡ verdict page others
verdict-append_ok page [] others ok = refl
verdict-append_ok page (check ∷ checks) others ok =
    elim (cases_eq check.1 check.2) [
      | inl same ↦ verdict-same page check (checks ++ others) same ∙
          verdict-append_ok page checks others (sym (verdict-same page check checks same) ∙ ok)
      | inr differs ↦ absurd (let no = verdict-differs page check checks differs in cc)
    ]

pub verdict-append_err : (page : PageNo) (first others : List Check) (damage : Damaged)
    → verdict page first ≡ Err damage → verdict page (first ++ others) ≡ Err damage
verdict-append_err page [] others damage err = absurd cc
verdict-append_err page (check ∷ checks) others damage err =
    elim (cases_eq check.1 check.2) [
      | inl same ↦ verdict-same page check (checks ++ others) same ∙
          verdict-append_err page checks others damage (sym (verdict-same page check checks same) ∙
          err)
      | inr differs ↦ verdict-differs page check (checks ++ others) differs ∙
          (sym (verdict-differs page check checks differs) ∙ err)
    ]

pub passes-append : (first others : List Check) → PassesAll first → PassesAll others
    → PassesAll (first ++ others)
passes-append [] others passes also = also
passes-append (check ∷ checks) others passes also =
    (passes.0, passes-append checks others passes.1 also)

-- two pages that begin alike have the same bytes there
pub byte_front : (a b : List ℕ) (n i : ℕ) → take n a ≡ take n b → i < n → byte a i ≡ byte b i
byte_front a b n i same inside = sym (get_or-take n a i 0 inside) ∙
    (ap (λ (x : List ℕ). get_or x i 0) same ∙ get_or-take n b i 0 inside)

-- two pages with one common part have the same tests of it
pub front_checks : (a b : List ℕ) (page kind owner seq : ℕ) → take COMMON a ≡ take COMMON b
    → common_checks a page kind owner seq ≡ common_checks b page kind owner seq
unfolding common_checks
front_checks a b page kind owner seq same =
    let at : (i : ℕ) → i < 16 → get_or a i 0 ≡ get_or b i 0 =
    λ i inside. byte_front a b 16 i same inside in
    rw (
      at 0 (omega arith),
      at 1 (omega arith),
      at 2 (omega arith),
      at 3 (omega arith),
      at 4 (omega arith),
      at 5 (omega arith),
      at 6 (omega arith),
      at 7 (omega arith),
      at 8 (omega arith),
      at 9 (omega arith),
      at 10 (omega arith),
      at 11 (omega arith),
      at 12 (omega arith),
      at 13 (omega arith),
      at 14 (omega arith),
      at 15 (omega arith),
    ) refl

-- the common part that was made passes its tests
pub new_passes : (size page kind owner seq : ℕ) → COMMON ≤ size → page < 2 ^ 32 → owner < 2 ^ 32
    → seq < 2 ^ 32 → PassesAll (common_checks (new_page size page kind owner seq) page kind owner seq)
unfolding common_checks
new_passes size page kind owner seq fits small_page small_owner small_seq =
    let blank : List ℕ = replicate size 0 in
    let kinded : List ℕ = set blank 0 kind in
    let named : List ℕ = with_u32 kinded 4 page in
    let owned : List ℕ = with_u32 named 8 owner in
    let len_blank : length blank ≡ size = length-replicate {A = ℕ} size 0 in
    let len_kinded : length kinded ≡ size = length-set {A = ℕ} blank 0 kind ∙ len_blank in
    let len_named : length named ≡ size = length-with_u32 kinded 4 page ∙ len_kinded in
    let len_owned : length owned ≡ size = length-with_u32 named 8 owner ∙ len_named in
    let kind_is : byte (with_u32 owned 12 seq) 0 ≡ kind = byte_apart owned 12 seq 0 (omega arith) ∙
    (byte_apart named 8 owner 0 (omega arith) ∙
    (byte_apart kinded 4 page 0 (omega arith) ∙
    get_or-set_same blank 0 kind 0 (omega (arith, len_blank)))) in
    let flags_is : byte (with_u32 owned 12 seq) 1 ≡ 0 = byte_apart owned 12 seq 1 (omega arith) ∙
    (byte_apart named 8 owner 1 (omega arith) ∙
    (byte_apart kinded 4 page 1 (omega arith) ∙
    (get_or-set_other blank 0 1 kind 0 (omega arith) ∙
    get_or-replicate size 1 0 0 (omega arith)))) in
    let third : byte (with_u32 owned 12 seq) 2 ≡ 0 = byte_apart owned 12 seq 2 (omega arith) ∙
    (byte_apart named 8 owner 2 (omega arith) ∙
    (byte_apart kinded 4 page 2 (omega arith) ∙
    (get_or-set_other blank 0 2 kind 0 (omega arith) ∙
    get_or-replicate size 2 0 0 (omega arith)))) in
    let fourth : byte (with_u32 owned 12 seq) 3 ≡ 0 = byte_apart owned 12 seq 3 (omega arith) ∙
    (byte_apart named 8 owner 3 (omega arith) ∙
    (byte_apart kinded 4 page 3 (omega arith) ∙
    (get_or-set_other blank 0 3 kind 0 (omega arith) ∙
    get_or-replicate size 3 0 0 (omega arith)))) in
    let own_is : u32_at (with_u32 owned 12 seq) 4 ≡ page = u32_apart owned 12 seq 4 (omega arith) ∙
    (u32_apart named 8 owner 4 (omega arith) ∙
    u32_again kinded 4 page (omega (arith, len_kinded)) small_page) in
    let owner_is : u32_at (with_u32 owned 12 seq) 8 ≡ owner =
    u32_apart owned 12 seq 8 (omega arith) ∙
    u32_again named 8 owner (omega (arith, len_named)) small_owner in
    let seq_is : u32_at (with_u32 owned 12 seq) 12 ≡ seq =
    u32_again owned 12 seq (omega (arith, len_owned)) small_seq in
    (kind_is, (flags_is, (omega (arith, third, fourth), (own_is, (owner_is, (seq_is, tt))))))

-- behind the common part of a new page each byte is zero
pub new_page_zero : (size page kind owner seq at : ℕ) → 16 ≤ at
    → byte (new_page size page kind owner seq) at ≡ 0
new_page_zero size page kind owner seq at behind =
    let blank : List ℕ = replicate size 0 in
    let kinded : List ℕ = set blank 0 kind in
    let named : List ℕ = with_u32 kinded 4 page in
    let owned : List ℕ = with_u32 named 8 owner in
    let blank_at : byte blank at ≡ 0 = elim (cases_lt at size) [
      | inl inside ↦ get_or-replicate size at 0 0 inside
      | inr past ↦ get_or_past blank at 0 (omega (arith, length-replicate {A = ℕ} size 0))
    ] in
    byte_apart owned 12 seq at (omega arith) ∙
    (byte_apart named 8 owner at (omega arith) ∙
    (byte_apart kinded 4 page at (omega arith) ∙
    (get_or-set_other blank 0 at kind 0 (omega arith) ∙ blank_at)))
