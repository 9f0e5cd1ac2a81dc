-- Tests of pages, and what they say.
use Rattle.std.specs.Prelude.{IsOk}
use Rattle.mg_base.specs.Checks.{PassesAll, common_checks}
use Rattle.mg_base.specs.Fields.{u32_at}
use Rattle.mg_base.specs.declared.fields.TheConstants.{SEQUENCE_AT}
use Rattle.mg_pointer.specs.declared.page.TheConstants.{POINTER_KIND}
use Rattle.mg_pointer.specs.PointerPage.{pointer_checks, rest_checks}
use Rattle.mg_slots.specs.DataPage.{IsDataPage}
use Rattle.mg_slots.specs.Verdict.{common_verdict}
use Rattle.mg_slots.specs.declared.page.TheConstants.{DATA_KIND}
use Rattle.mg_image.specs.Tables.{LinkChain}
use Rattle.mg_reading.specs.ChainLaws.{page_opens}
use Rattle.mg_reading.specs.Readable.{HasPointers, HasSlots}
use Rattle.std.proofs.Common.{suc, ◌≡◌, ◌≢◌, ◌+◌, [], ◌∷◌, ◌++◌, ◌↔◌, ◌<◌, ◌≤◌, ◌⊎◌, inl, inr, refl, sym, ap, ◌∙◌, ℕ, Bool, true, false, List, length, IsTrue, Result, Ok, Err, arith}
use Rattle.std.specs.Prelude.{is_ok}
use Rattle.std.proofs.lemmas.Bool.{cases_lt}
use Rattle.std.proofs.lemmas.List.{get_or_past, length-replicate}
use Rattle.mg_base.specs.Checks.{Check, verdict}
use Rattle.mg_base.specs.CheckLaws.{passes_from_verdict, verdict_from_passes}
use Rattle.mg_base.specs.Image.{blank, page_at}
use Rattle.mg_base.specs.declared.damage.Damaged.{Damaged}
use Rattle.mg_base.specs.declared.geometry.TheConstants.{GREATEST_LIMIT}
use Rattle.mg_base.specs.declared.numbers.PageNo.{PageNo}
use Rattle.mg_header.specs.declared.header.Header.{Header}
use Rattle.mg_header.specs.declared.header.HeadFault.{HeadFault}
use Rattle.mg_header.specs.HeaderPage.{reading}
use Rattle.mg_header.specs.HeaderPageLaws.{reading_ok, reads}
use Rattle.mg_image.specs.Form.{Pages}
use Rattle.mg_image.specs.Inventory.{is_used}
use Rattle.mg_reading.specs.Kept.{IsKept}
use Rattle.mg_image.specs.Reached.{IsAsWanted}
use Rattle.mg_pointer.specs.PointerPage.{IsPointerPage, entries_of, next_in}
use Rattle.mg_pointer.specs.PointerPageLaws.{page_that_passes}
use Rattle.mg_reading.specs.ChainLaws.{IsRun, each_push, entries_push, run_more}
use Rattle.mg_image.specs.Tables.{EachFrom, entries_in}
use Rattle.mg_image.specs.Sound.{HasHeader, IsTablePointer}

-- a test that says nothing against a page has passed
pub ok_is : (test : Result (Unit {0}) Damaged) → IsTrue (is_ok test) → test ≡ Ok tt
ok_is (Ok u) yes_ = refl
ok_is (Err e) yes_ = absurd cc

pub is_ok_of : (test : Result (Unit {0}) Damaged) → test ≡ Ok tt → IsTrue (is_ok test)
is_ok_of test is = rw is refl

-- a page that is taken is as wanted exactly where its test has passed
pub wanted_where_ok : (size : ℕ) (pages : Pages) (n : ℕ) (page : PageNo) (checks : List Check)
    (test : Result (Unit {0}) Damaged) → test ≡ verdict page checks → n < GREATEST_LIMIT
    → is_used size pages n ≡ true → IsTrue (is_ok test) ↔ IsAsWanted size pages n checks
wanted_where_ok size pages n page checks test is below used = (
  λ passed. record {
    below = below;
    used = used;
    fields = passes_from_verdict page checks (sym is ∙ ok_is test passed);
  },
  λ wanted. is_ok_of test (is ∙ verdict_from_passes page checks wanted.fields),
)

-- each page of an image has its size
pub whole_pages : (size : ℕ) (pages : List (List ℕ)) (zeros : List ℕ) → IsKept size pages zeros
    → (n : ℕ) → length (page_at size pages n) ≡ size
whole_pages size pages zeros kept n = at (cases_lt n (length pages))
  where
    at : (n < length pages) ⊎ (length pages ≤ n) → length (page_at size pages n) ≡ size
    at (inl below) = kept.whole n (blank size) below
    at (inr past) = ap length (get_or_past pages n (blank size) past) ∙
        length-replicate {A = ℕ} size 0

-- a header that is read is lawful exactly where its page is used
pub header_where_read : (size : ℕ) (pages : List (List ℕ)) (zeros : List ℕ)
    (read : Result Header HeadFault) (used : Bool) → IsKept size pages zeros
    → read ≡ reading (page_at size pages 0) size → is_ok read ≡ true
    → used ≡ is_used size (page_at size pages) 0
    → IsTrue used ↔ HasHeader size (page_at size pages)
header_where_read size pages zeros (Ok h) used kept is passed bit =
    let tests = reading_ok (page_at size pages 0) size h (sym is) in (
      λ taken. record {
        lawful_size = kept.lawful;
        whole = whole_pages size pages zeros kept;
        database = tests.0;
        fields = tests.1;
        used = sym bit ∙ taken;
      },
      λ has. bit ∙ has.used,
    )
header_where_read size pages zeros (Err e) used kept is passed bit = absurd cc

-- a header that is not read is not lawful
pub header_unread : (size : ℕ) (pages : List (List ℕ)) (read : Result Header HeadFault)
    → read ≡ reading (page_at size pages 0) size → is_ok read ≡ false
    → HasHeader size (page_at size pages) → ⊥
header_unread size pages (Ok h) is failed has = cc
header_unread size pages (Err e) is failed has =
    let ok = reads (page_at size pages 0) size has.database has.fields in cc

-- a page that is as wanted for a pointer page may be read
pub pointer_lawful : (size : ℕ) (pages : Pages) (owner at n : ℕ) → 1024 ≤ length (pages n)
    → length (pages n) ≤ 16384 → IsTablePointer size pages owner at n → IsPointerPage (pages n)
pointer_lawful size pages owner at n least most wanted =
    page_that_passes (pages n) n owner at (omega arith) (omega arith) wanted.fields

-- What the loop over a chain of pointer pages keeps.
abbrev pub IsFollowed : ℕ → Pages → ℕ → List ℕ → List ℕ → ℕ → Type 0
IsFollowed size pages owner ns ds n =
    IsRun (λ k. next_in (pages k)) owner ns n
    × EachFrom (IsTablePointer size pages owner) 0 ns
    × (ds ≡ entries_in pages ns)

-- one pointer page more is followed
pub followed_more : (size : ℕ) (pages : Pages) (owner : ℕ) (ns ds ms es : List ℕ) (n at next : ℕ)
    → IsFollowed size pages owner ns ds n → n ≢ 0 → at ≡ length ns
    → IsTablePointer size pages owner at n → es ≡ ds ++ entries_of (pages n) → ms ≡ ns ++ n ∷ []
    → next ≡ next_in (pages n) → IsFollowed size pages owner ms es next
followed_more size pages owner ns ds ms es n at next follows some at_is wanted es_is ms_is next_is =
    rw (ms_is, next_is) (
      run_more (λ k. next_in (pages k)) owner ns n follows.0 some,
      each_push (IsTablePointer size pages owner) 0 ns n follows.1 (rw (sym place) wanted),
      es_is ∙ (ap (λ (x : List ℕ). x ++ entries_of (pages n)) follows.2 ∙ sym (entries_push pages ns n)),
    )
  where
    place : at ≡ 0 + length ns
    place = omega arith

-- a test that says no, where there is nothing
pub neither : (P : Type 0) → (P → ⊥) → IsTrue false ↔ P
neither P none = (λ passed. absurd cc, λ is. absurd (none is))

common_at : (b : List ℕ) (page kind owner at : ℕ) (rest : List Check)
    → PassesAll (common_checks b page kind owner at ++ rest) → u32_at b SEQUENCE_AT ≡ at
unfolding common_checks
common_at b page kind owner at rest passes = passes.1.1.1.1.1.0

common_alone : (b : List ℕ) (page kind owner at : ℕ)
    → PassesAll (common_checks b page kind owner at) → u32_at b SEQUENCE_AT ≡ at
unfolding common_checks
common_alone b page kind owner at passes = passes.1.1.1.1.1.0

-- a pointer page names its place
pub pointer_at : (size : ℕ) (pages : Pages) (owner at n : ℕ)
    → IsTablePointer size pages owner at n → u32_at (pages n) SEQUENCE_AT ≡ at
unfolding pointer_checks
pointer_at size pages owner at n is =
    common_at (pages n) n POINTER_KIND owner at (rest_checks (pages n)) is.fields

-- a data page names its place
pub slots_at : (size : ℕ) (pages : Pages) (owner at n : ℕ) → HasSlots size pages owner at n
    → u32_at (pages n) SEQUENCE_AT ≡ at
slots_at size pages owner at n is = common_alone (pages n) n DATA_KIND owner at is.0.fields

-- a page that is as wanted for a data page has lawful slots exactly where the test has passed
pub slots_where_ok : (size : ℕ) (pages : Pages) (owner at n : ℕ) (page : List ℕ)
    → page ≡ pages n
    → IsAsWanted size pages n (common_checks (pages n) n DATA_KIND owner at)
    → (r : Result (Unit {0}) Damaged)
    → (IsOk r ↔ ((common_verdict page (record { 0 = n }) DATA_KIND owner at ≡ Ok tt)
    × IsDataPage page)) → (b : Bool) → b ≡ is_ok r → IsTrue b ↔ HasSlots size pages owner at n
slots_where_ok size pages owner at n page same wanted r when b is = (
  λ passed. (wanted, rw same at ((when.0 (sym is ∙ passed)).1)),
  λ has. is ∙ when.1 (rw same (
    verdict_from_passes (record { 0 = n })
        (common_checks (pages n) n DATA_KIND owner at) wanted.fields,
    has.1,
  )),
)

each_at : (P : ℕ → ℕ → Type 0) (at : ℕ) (ns : List ℕ) (n : ℕ) (later : List ℕ)
    → EachFrom P at (ns ++ n ∷ later) → P (at + length ns) n
each_at P at [] n later each = rw (nothing at) each.0
  where
    nothing : (at : ℕ) → at + 0 ≡ at
    nothing at = omega arith
each_at P at (m ∷ ms) n later each =
    rw (further at (length ms)) (each_at P (suc at) ms n later each.1)
  where
    further : (at k : ℕ) → at + suc k ≡ suc at + k
    further at k = omega arith

-- where the page that follows is not as wanted, there are no pointer pages of the owner
pub no_pointers : (size : ℕ) (pages : Pages) (owner : ℕ) (ns : List ℕ) (n : ℕ)
    (place : ℕ) → IsRun (λ k. next_in (pages k)) owner ns n → n ≢ 0 → place ≡ length ns
    → (IsTablePointer size pages owner place n → ⊥) → HasPointers size pages owner → ⊥
no_pointers size pages owner ns n place run some is_place none (all, chain, each) =
    let begun = run.begins all chain in
    at begun.0 begun.1 (page_opens (λ k. next_in (pages k)) n begun.0 begun.2)
  where
    place_is : (len : ℕ) → place ≡ len → place ≡ 0 + len
    place_is len same = omega arith

    at : (rest : List ℕ) → all ≡ ns ++ rest
        → ((n ≡ 0) × (rest ≡ [])) ⊎ ((later : List ℕ) × (rest ≡ n ∷ later)
        × LinkChain (λ k. next_in (pages k)) (next_in (pages n)) later) → ⊥
    at rest is (inl (zero_, empty)) = some zero_
    at rest is (inr (later, opens, more)) = none (rw (place_is (length ns) is_place)
        (each_at (IsTablePointer size pages owner) 0 ns n later (rw (is, opens) at each)))
