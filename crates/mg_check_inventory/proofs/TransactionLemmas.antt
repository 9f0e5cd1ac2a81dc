-- The chain of transaction inventory pages, from the last one back.
use Rattle.std.specs.Prelude.{get_or, ◌≡◌, ◌≢◌, ◌↔◌, ◌<◌, ◌≤◌, ◌⊎◌, ◌+◌, ◌*◌, ◌-◌, ◌/◌, ◌%◌, ℕ, zero, suc, true, List, length, min, Result, Ok, Err, IsErrAnd}
use Rattle.std.proofs.Common.{refl, sym, ap, ◌∙◌, inl, inr, arith, subst}
use Rattle.std.proofs.lemmas.Bool.{cases_eq, cases_lt, ne_eqb}
use Rattle.std.proofs.lemmas.List.{get_or_past, get_or_read}
use Rattle.std.proofs.lemmas.Nat.{div-mul-add, mod-mul-add, mul-add-lt}
use Rattle.mg_base.specs.Checks.{PassesAll, common_checks, verdict}
use Rattle.mg_base.specs.Fields.{byte, u32_at}
use Rattle.mg_base.specs.Image.{Image, blank, page_at}
use Rattle.mg_base.specs.declared.damage.Damaged.{Damaged}
use Rattle.mg_base.specs.declared.geometry.TheConstants.{GREATEST_LIMIT}
use Rattle.mg_check_pages.specs.PageTests.{UndrawnLaw, undrawn_test}
use Rattle.mg_findings.specs.declared.finding.Finding.{Finding}
use Rattle.mg_findings.specs.Findings.{HasNone, IsFirst, OfFirst, Tells}
use Rattle.mg_findings.specs.RungLaws.{none_of_rungs}
use Rattle.mg_header.specs.declared.header.TheConstants.{NEXT_AT}
use Rattle.mg_header.specs.HeaderPage.{page_checks}
use Rattle.mg_image.specs.Form.{Pages}
use Rattle.mg_image.specs.Inventory.{header_of, is_used, last_sequence, next_of, tip_before, tip_page}
use Rattle.mg_image.specs.Reached.{IsAsWanted}
use Rattle.mg_image.specs.Sound.{HasNoneUndrawn, HasTransactions, IsUndrawn}
use Rattle.mg_tip.specs.TipPage.{places, prev_in, state_in, tip_checks}
use Rattle.mg_check_inventory.specs.ImagePages.{IsWholeImage, bit_checks, lawful_link, link_checks, numbered, presence_checks}
use Rattle.mg_check_inventory.specs.TransactionRung.{IsChainFinding, IsContentFinding, IsPageFinding, IsThereFinding, IsTipFinding, TransactionLaw, drawn_on}
use Rattle.mg_check_inventory.specs.TestLaws.{bit_is_set, first_handed, none_where_passed, none_where_passes, passes_where_none, set_is_one}

-- ---- one page

-- a link is lawful where it leads neither to the header page nor past the limit
lawful_at : (n : ℕ) → n ≢ 0 → lawful_link n ≡ min n (GREATEST_LIMIT - 1)
lawful_at n some = rw (ne_eqb n 0 some) refl

pub lawful_below : (n : ℕ) → n ≡ lawful_link n → n < GREATEST_LIMIT
lawful_below n is = elim (cases_eq n 0) [
  | inl none ↦ omega (arith, none)
  | inr some ↦ let at = lawful_at n some in omega (arith, is, at)
]

lawful_some : (n : ℕ) → n ≢ 0 → n < GREATEST_LIMIT → n ≡ lawful_link n
lawful_some n some below = let at = lawful_at n some in omega (arith, at, below)

-- What a sound image asks of the transaction inventory page of a sequence, as it is tested.
record IsGoodTip (size : ℕ) (pages : Pages) (count n sequence : ℕ) : Type 0 where
  link : n ≡ lawful_link n
  there : n < count
  fields : PassesAll (tip_checks (pages n) n sequence)
  numbers : HasNone (IsFirst (undrawn_test (pages n) (numbered n) (drawn_on size pages sequence))
      (places size))
  used : is_used size pages n ≡ true

there_from_presence : (count n : ℕ) → PassesAll (presence_checks count n) → n < count
there_from_presence count n passes = omega (arith, passes.0)

presence_from_there : (count n : ℕ) → n < count → PassesAll (presence_checks count n)
presence_from_there count n there = (omega (arith, there), tt)

good_from_none : (size : ℕ) (pages : Pages) (count holder n sequence : ℕ)
    → HasNone (IsTipFinding size pages count holder n sequence (drawn_on size pages sequence))
    → IsGoodTip size pages count n sequence
good_from_none size pages count holder n sequence none =
    let from = drawn_on size pages sequence in
    let linked = (none_of_rungs (Tells (verdict (numbered holder) (link_checks n)))
    (IsThereFinding size pages count n sequence from)).0 none in
    let present = (none_of_rungs (Tells (verdict (numbered n) (presence_checks count n)))
    (IsPageFinding size pages n sequence from)).0 linked.1 in
    let tested = (none_of_rungs (Tells (verdict (numbered n) (tip_checks (pages n) n sequence)))
    (IsContentFinding size pages n from)).0 present.1 in
    let content = (none_of_rungs
    (IsFirst (undrawn_test (pages n) (numbered n) from) (places size))
    (Tells (verdict (numbered n) (bit_checks size pages n)))).0 tested.1 in
    record {
      link = (passes_where_none (numbered holder) (link_checks n) linked.0).0;
      there = there_from_presence count n
          (passes_where_none (numbered n) (presence_checks count n) present.0);
      fields = passes_where_none (numbered n) (tip_checks (pages n) n sequence) tested.0;
      numbers = content.0;
      used = bit_is_set (is_used size pages n)
          (passes_where_none (numbered n) (bit_checks size pages n) content.1).0;
    }

none_from_good : (size : ℕ) (pages : Pages) (count holder n sequence : ℕ)
    → IsGoodTip size pages count n sequence
    → HasNone (IsTipFinding size pages count holder n sequence (drawn_on size pages sequence))
none_from_good size pages count holder n sequence good =
    let from = drawn_on size pages sequence in
    let content = (none_of_rungs
    (IsFirst (undrawn_test (pages n) (numbered n) from) (places size))
    (Tells (verdict (numbered n) (bit_checks size pages n)))).1 (
      good.numbers,
      none_where_passes (numbered n) (bit_checks size pages n)
          (set_is_one (is_used size pages n) good.used, tt),
    )
    in
    let tested = (none_of_rungs (Tells (verdict (numbered n) (tip_checks (pages n) n sequence)))
    (IsContentFinding size pages n from)).1 (
      none_where_passes (numbered n) (tip_checks (pages n) n sequence) good.fields,
      content,
    )
    in
    let present = (none_of_rungs (Tells (verdict (numbered n) (presence_checks count n)))
    (IsPageFinding size pages n sequence from)).1 (
      none_where_passes (numbered n) (presence_checks count n)
          (presence_from_there count n good.there),
      tested,
    )
    in
    (none_of_rungs (Tells (verdict (numbered holder) (link_checks n)))
    (IsThereFinding size pages count n sequence from)).1
    (none_where_passes (numbered holder) (link_checks n) (good.link, tt), present)

-- ---- the chain

-- a step back from the page before is one more from this one
back_step : (pages : Pages) (n j : ℕ)
    → tip_before pages (prev_in (pages n)) j ≡ tip_before pages n (suc j)
back_step pages n zero = refl
back_step pages n (suc j) = ap (λ (m : ℕ). prev_in (pages m)) (back_step pages n j)

-- the last one has the last sequence
none_between : (left k : ℕ) → 0 + k + 1 ≡ suc left → left ≡ k
none_between left k is = omega (arith, is)

-- where nothing is found of a chain, each page of it is as is asked
good_of_chain : (size : ℕ) (pages : Pages) (count left holder n : ℕ)
    → HasNone (IsChainFinding size pages count holder n left) → (j k : ℕ) → j + k + 1 ≡ left
    → IsGoodTip size pages count (tip_before pages n j) k
good_of_chain size pages count zero holder n none j k is = absurd (omega (arith, is))
good_of_chain size pages count (suc left) holder n none zero k is =
    subst (λ (m : ℕ). IsGoodTip size pages count n m) (none_between left k is)
    (good_from_none size pages count holder n left ((none_of_rungs
    (IsTipFinding size pages count holder n left (drawn_on size pages left))
    (IsChainFinding size pages count n (prev_in (pages n)) left)).0 none).0)
good_of_chain size pages count (suc left) holder n none (suc j) k is =
    subst (λ (m : ℕ). IsGoodTip size pages count m k) (back_step pages n j)
    (good_of_chain size pages count left n (prev_in (pages n)) ((none_of_rungs
    (IsTipFinding size pages count holder n left (drawn_on size pages left))
    (IsChainFinding size pages count n (prev_in (pages n)) left)).0 none).1 j k
    (omega (arith, is)))

-- and the other way round
chain_of_good : (size : ℕ) (pages : Pages) (count left holder n : ℕ)
    → ((j k : ℕ) → j + k + 1 ≡ left → IsGoodTip size pages count (tip_before pages n j) k)
    → HasNone (IsChainFinding size pages count holder n left)
chain_of_good size pages count zero holder n all = λ f found. found
chain_of_good size pages count (suc left) holder n all = (none_of_rungs
    (IsTipFinding size pages count holder n left (drawn_on size pages left))
    (IsChainFinding size pages count n (prev_in (pages n)) left)).1 (
      none_from_good size pages count holder n left (all 0 left (omega arith)),
      chain_of_good size pages count left n (prev_in (pages n)) (λ j k is.
          subst (λ (m : ℕ). IsGoodTip size pages count m k) (sym (back_step pages n j))
          (all (suc j) k (omega (arith, is)))),
    )

-- ---- the loop

-- what is found of a chain is what is found of its first page, or else of the others
chain_step : (size : ℕ) (pages : Pages) (count holder n left : ℕ) → 0 < left → (f : Finding)
    → IsChainFinding size pages count holder n left f
    ↔ OfFirst (IsTipFinding size pages count holder n (left - 1) (drawn_on size pages (left - 1)))
    (IsChainFinding size pages count n (prev_in (pages n)) (left - 1)) f
chain_step size pages count holder n left some f = (
  λ found. subst (λ (k : ℕ). IsChainFinding size pages count holder n k f) before found,
  λ found. subst (λ (k : ℕ). IsChainFinding size pages count holder n k f) (sym before) found,
)
  where
    before : left ≡ suc (left - 1)
    before = omega (arith, some)

-- what a test of the first page tells, with the numbers that are drawn on it
tip_found : (size : ℕ) (pages : Pages) (count holder n sequence from : ℕ)
    (test : Result (Unit {0}) Damaged) → from ≡ drawn_on size pages sequence
    → ((f : Finding) → Tells test f ↔ IsTipFinding size pages count holder n sequence from f)
    → (f : Finding) → Tells test f
    ↔ IsTipFinding size pages count holder n sequence (drawn_on size pages sequence) f
tip_found size pages count holder n sequence from test is tells f =
    subst (λ (k : ℕ). Tells test f ↔ IsTipFinding size pages count holder n sequence k f) is (tells f)

-- the page that an index names
pub page_named : (size : ℕ) (image : Image) (n : ℕ) (page bytes : List ℕ) → n < length image
    → page ≡ get_or image n page → bytes ≡ page → bytes ≡ page_at size image n
page_named size image n page bytes inside at is =
    is ∙ get_or_read image n page inside at (blank size)

-- how many numbers are drawn, by the numbers that are read
pub drawn_is : (size : ℕ) (pages : Pages) (header : List ℕ) (next on sequence drawn : ℕ)
    → header ≡ pages 0 → next ≡ u32_at header NEXT_AT → on ≡ places size
    → drawn ≡ next - sequence * on → drawn ≡ drawn_on size pages sequence
drawn_is size pages header next on sequence drawn at read is told =
    told ∙ (ap (λ (k : ℕ). k - sequence * on) (read ∙ ap (λ (b : List ℕ). u32_at b NEXT_AT) at)
    ∙ ap (λ (k : ℕ). next_of pages - sequence * k) is)

-- something is found of the first page
pub chain_stops : (size : ℕ) (pages : Pages) (count holder n left from : ℕ) (Whole : Finding → Type 0)
    (test result : Result (Unit {0}) Damaged) (damage : Damaged) → 0 < left
    → ((f : Finding) → Whole f ↔ IsChainFinding size pages count holder n left f)
    → from ≡ drawn_on size pages (left - 1)
    → ((f : Finding) → Tells test f ↔ IsTipFinding size pages count holder n (left - 1) from f)
    → test ≡ Err damage → IsErrAnd result (λ d. d ≡ damage) → (f : Finding)
    → Tells result f ↔ Whole f
chain_stops size pages count holder n left from Whole test result damage some same drawn tells is
    handed f =
    let first = first_handed
    (IsTipFinding size pages count holder n (left - 1) (drawn_on size pages (left - 1)))
    (IsChainFinding size pages count n (prev_in (pages n)) (left - 1)) test result damage is handed
    (tip_found size pages count holder n (left - 1) from test drawn tells) f in
    let step = chain_step size pages count holder n left some f in (
      λ told. (same f).1 (step.1 (first.0 told)),
      λ whole. first.1 (step.0 ((same f).0 whole)),
    )

-- nothing is found of it
pub chain_goes_on : (size : ℕ) (pages : Pages) (count holder n left from prev : ℕ)
    (Whole : Finding → Type 0) (test : Result (Unit {0}) Damaged) → 0 < left
    → ((f : Finding) → Whole f ↔ IsChainFinding size pages count holder n left f)
    → from ≡ drawn_on size pages (left - 1)
    → ((f : Finding) → Tells test f ↔ IsTipFinding size pages count holder n (left - 1) from f)
    → test ≡ Ok tt → prev ≡ prev_in (pages n) → (f : Finding)
    → Whole f ↔ IsChainFinding size pages count n prev (left - 1) f
chain_goes_on size pages count holder n left from prev Whole test some same drawn tells is back f =
    subst (λ (m : ℕ). Whole f ↔ IsChainFinding size pages count n m (left - 1) f) (sym back) (
      λ whole. elim (step.0 ((same f).0 whole)) [
        | inl here ↦ absurd (none f here)
        | inr later ↦ later.1
      ],
      λ found. (same f).1 (step.1 (inr (none, found))),
    )
  where
    step : IsChainFinding size pages count holder n left f
        ↔ OfFirst (IsTipFinding size pages count holder n (left - 1) (drawn_on size pages (left - 1)))
        (IsChainFinding size pages count n (prev_in (pages n)) (left - 1)) f
    step = chain_step size pages count holder n left some f

    none : HasNone
        (IsTipFinding size pages count holder n (left - 1) (drawn_on size pages (left - 1)))
    none = none_where_passed
        (IsTipFinding size pages count holder n (left - 1) (drawn_on size pages (left - 1))) test is
        (tip_found size pages count holder n (left - 1) from test drawn tells)

-- ---- the law

tip_kind : (b : List ℕ) (n sequence : ℕ) → PassesAll (tip_checks b n sequence) → byte b 0 ≡ 3
unfolding tip_checks common_checks
tip_kind b n sequence passes = passes.0

header_kind : (b : List ℕ) → PassesAll (page_checks b) → byte b 0 ≡ 1
unfolding common_checks
header_kind b passes = passes.0

blank_kind : (size : ℕ) → byte (blank size) 0 ≡ 0
blank_kind zero = refl
blank_kind (suc size) = refl

-- a transaction inventory page is not the header page
tip_some : (pages : Pages) (n sequence : ℕ) → PassesAll (page_checks (pages 0))
    → PassesAll (tip_checks (pages n) n sequence) → n ≢ 0
tip_some pages n sequence header passes is =
    let one = header_kind (pages 0) header in
    let three = tip_kind (pages n) n sequence passes in
    let same : byte (pages n) 0 ≡ byte (pages 0) 0 = ap (λ (m : ℕ). byte (pages m) 0) is in
    omega (arith, one, three, same)

-- and it is there
tip_there : (size : ℕ) (image : Image) (n sequence : ℕ)
    → PassesAll (tip_checks (page_at size image n) n sequence) → n < length image
tip_there size image n sequence passes = at (cases_lt n (length image))
  where
    none : page_at size image n ≡ blank size → ⊥
    none is =
        let three = tip_kind (page_at size image n) n sequence passes in
        let same : byte (page_at size image n) 0 ≡ byte (blank size) 0 =
        ap (λ (b : List ℕ). byte b 0) is in
        let nothing = blank_kind size in
        omega (arith, three, same, nothing)

    at : (n < length image) ⊎ (length image ≤ n) → n < length image
    at (inl inside) = inside
    at (inr past) = absurd (none (get_or_past image n (blank size) past))

-- the numbers from a place of the last page on are those that are not drawn
from_least : (t p last next : ℕ) → 0 < p → t / p ≡ last → next ≤ t → next - last * p ≤ t % p
from_least t p last next some on past =
    let same : last * p + t % p ≡ t = rw (sym on) (omega arith) in
    omega (arith, same, past)

-- on each page before the last all numbers are drawn
all_drawn : (next p k last place : ℕ) → 0 < p → last ≡ (next - 1) / p → k < last → place < p
    → next - k * p ≤ place → ⊥
all_drawn next p k last place some is before inside past =
    let least = mul-add-lt k p place last before inside in
    let most : p * last ≤ next - 1 = rw is (omega arith) in
    omega (arith, least, most, past)

undrawn_there : (size : ℕ) (pages : Pages) (place : ℕ) → HasNoneUndrawn size pages
    → place < places size → next_of pages - last_sequence size pages * places size ≤ place
    → IsUndrawn (state_in (pages (tip_page size pages (last_sequence size pages))) place)
undrawn_there size pages place none inside past =
    let on = div-mul-add (last_sequence size pages) (places size) place inside in
    let here = mod-mul-add (last_sequence size pages) (places size) place inside in
    subst (λ (k : ℕ). IsUndrawn (state_in (pages (tip_page size pages (last_sequence size pages))) k))
    here
    (subst (λ (s : ℕ). IsUndrawn (state_in (pages (tip_page size pages s))
    ((last_sequence size pages * places size + place) % places size))) on
    (none (last_sequence size pages * places size + place)
    (least (next_of pages) (last_sequence size pages * places size) past) on))
  where
    least : (next drawn : ℕ) → next - drawn ≤ place → next ≤ drawn + place
    least next drawn past = omega (arith, past)

-- what is asked of each page says that transactions are as a sound image asks it
transactions_from_good : UndrawnLaw → (size : ℕ) (pages : Pages) (count : ℕ) → 0 < places size
    → ((j k : ℕ) → j + k + 1 ≡ last_sequence size pages + 1
    → IsGoodTip size pages count (tip_before pages (header_of pages).last_tip.0 j) k)
    → HasTransactions size pages
transactions_from_good law size pages count some all = record {
  each = λ sequence on. wanted (tip_page size pages sequence) sequence
      (all (last_sequence size pages - sequence) sequence (omega (arith, on)));
  undrawn = λ t past on. undrawn t past on;
}
  where
    wanted : (n sequence : ℕ) → IsGoodTip size pages count n sequence
        → IsAsWanted size pages n (tip_checks (pages n) n sequence)
    wanted n sequence good = record {
      below = lawful_below n good.link;
      used = good.used;
      fields = good.fields;
    }

    inside : (t p : ℕ) → 0 < p → t % p < p
    inside t p some = omega arith

    undrawn : (t : ℕ) → next_of pages ≤ t → t / places size ≡ last_sequence size pages
        → IsUndrawn (state_in (pages (tip_page size pages (t / places size))) (t % places size))
    undrawn t past on =
        let last = last_sequence size pages in
        let n = tip_page size pages last in
        rw on ((law (pages n) (numbered n) (drawn_on size pages last) (places size)).0
        (all (last - last) last (omega arith)).numbers (t % places size)
        (from_least t (places size) last (next_of pages) some on past)
        (inside t (places size) some))

good_from_transactions : UndrawnLaw → (size : ℕ) (image : Image) → 0 < places size
    → PassesAll (page_checks (page_at size image 0))
    → HasTransactions size (page_at size image) → (j k : ℕ)
    → j + k + 1 ≡ last_sequence size (page_at size image) + 1
    → IsGoodTip size (page_at size image) (length image)
    (tip_before (page_at size image) (header_of (page_at size image)).last_tip.0 j) k
good_from_transactions law size image some header has j k is =
    subst (λ (m : ℕ). IsGoodTip size (page_at size image) (length image)
    (tip_before (page_at size image) (header_of (page_at size image)).last_tip.0 m) k)
    (steps (last_sequence size (page_at size image)) is) (good (has.each k (on (last_sequence size (page_at size image)) is)))
  where
    on : (last : ℕ) → j + k + 1 ≡ last + 1 → k ≤ last
    on last is = omega (arith, is)

    steps : (last : ℕ) → j + k + 1 ≡ last + 1 → last - k ≡ j
    steps last is = omega (arith, is)

    equal : (last : ℕ) → k ≤ last → last ≤ k → last ≡ k
    equal last most least = omega (arith, most, least)

    undrawn : (place : ℕ) → drawn_on size (page_at size image) k ≤ place → place < places size
        → (k < last_sequence size (page_at size image)) ⊎ (last_sequence size (page_at size image) ≤ k)
        → IsUndrawn (state_in ((page_at size image) (tip_page size (page_at size image) k)) place)
    undrawn place past inside (inl before) = absurd (all_drawn (next_of (page_at size image)) (places size) k
        (last_sequence size (page_at size image)) place some refl before inside past)
    undrawn place past inside (inr least) =
        let same = equal (last_sequence size (page_at size image)) (on (last_sequence size (page_at size image)) is) least in
        subst (λ (s : ℕ). IsUndrawn (state_in ((page_at size image) (tip_page size (page_at size image) s)) place)) same
        (undrawn_there size (page_at size image) place has.undrawn inside
        (subst (λ (s : ℕ). next_of (page_at size image) - s * places size ≤ place) (sym same) past))

    good : IsAsWanted size (page_at size image) (tip_page size (page_at size image) k) (tip_checks ((page_at size image) (tip_page size (page_at size image) k)) (tip_page size (page_at size image) k) k)
        → IsGoodTip size (page_at size image) (length image) (tip_page size (page_at size image) k) k
    good wanted = record {
      link = lawful_some (tip_page size (page_at size image) k) (tip_some (page_at size image) (tip_page size (page_at size image) k) k header wanted.fields) wanted.below;
      there = tip_there size image (tip_page size (page_at size image) k) k wanted.fields;
      fields = wanted.fields;
      numbers = (law ((page_at size image) (tip_page size (page_at size image) k)) (numbered (tip_page size (page_at size image) k)) (drawn_on size (page_at size image) k) (places size)).1
          (λ place past inside. undrawn place past inside (cases_lt k (last_sequence size (page_at size image))));
      used = wanted.used;
    }

pub transaction_law : UndrawnLaw → ((size : ℕ) (image : Image) → IsWholeImage size image → 0 < places size)
    → TransactionLaw
transaction_law law room size image whole header = (
  λ none. (
    bit_is_set (is_used size (page_at size image) 0) (passes_where_none (numbered 0)
        (bit_checks size (page_at size image) 0) (λ f told. none f (inl told))).0,
    transactions_from_good law size (page_at size image) (length image) (room size image whole)
        (good_of_chain size (page_at size image) (length image)
        (last_sequence size (page_at size image) + 1) 0
        (header_of (page_at size image)).last_tip.0 (λ f found. none f (inr found))),
  ),
  λ both. λ f found. elim found [
    | inl told ↦ none_where_passes (numbered 0) (bit_checks size (page_at size image) 0)
        (set_is_one (is_used size (page_at size image) 0) both.0, tt) f told
    | inr found ↦ chain_of_good size (page_at size image) (length image)
        (last_sequence size (page_at size image) + 1) 0
        (header_of (page_at size image)).last_tip.0
        (good_from_transactions law size image (room size image whole) header both.1) f found
  ],
)
