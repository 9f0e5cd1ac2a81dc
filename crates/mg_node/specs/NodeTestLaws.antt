-- Laws of the tests of an index page: which pages pass.
use Rattle.std.specs.Prelude.{◌≡◌, ℕ, zero, suc, ◌+◌, ◌-◌, ◌*◌, ◌/◌, ◌<◌, ◌≤◌, min, max, Bool, true, false, List, [], ◌∷◌, ◌++◌, length, if◌then◌else◌}
use Rattle.std.proofs.Common.{refl, sym, subst, ◌∙◌, arith}
use Rattle.mg_base.specs.Checks.{Check, PassesAll}
use Rattle.mg_base.specs.CheckLaws.{passes-append}
use Rattle.mg_node.specs.declared.entry.TheConstants.{CONTENT_AT}
use Rattle.mg_node.specs.EntryTestLaws.{order_from, order_is}
use Rattle.mg_node.specs.NodePage.{IsNodePage, count_in, end_in, end_of, entries_of, first_at, has_high, has_low, high_at, high_of, is_inner, key_len, low_of, place_of}
use Rattle.mg_node.specs.NodeReading.{IsLaidOut}
use Rattle.mg_node.specs.NodeTests.{HasEnough, content_tests, fence_tests, field_tests, key_tests, most_entries, order_test}
use Rattle.mg_node.specs.NodeWalk.{least_len, place_from}
use Rattle.mg_node.specs.NodeWalkLaws.{length-entries_of, place_from-least, place_of-walk}

pub passes-split : (first others : List Check) → PassesAll (first ++ others)
    → PassesAll first × PassesAll others
passes-split [] others passes = (tt, passes)
passes-split (check ∷ checks) others passes =
    let rest = passes-split checks others passes.1 in ((passes.0, rest.0), rest.1)

-- Keys.

pub keys_from_tests : (w : Bool) (page : List ℕ) (at n : ℕ) → PassesAll (key_tests w page at n)
    → (i : ℕ) → i < n → key_len page (place_from w page at i) ≤ length page / 8
keys_from_tests w page at zero passes i below = absurd (omega arith)
keys_from_tests w page at (suc n) passes zero below = let here = passes.0 in omega arith
keys_from_tests w page at (suc n) passes (suc i) below =
    keys_from_tests w page (end_of w page at) n passes.1 i (omega arith)

pub tests_from_keys : (w : Bool) (page : List ℕ) (at n : ℕ)
    → ((i : ℕ) → i < n → key_len page (place_from w page at i) ≤ length page / 8)
    → PassesAll (key_tests w page at n)
tests_from_keys w page at zero keys = tt
tests_from_keys w page at (suc n) keys = (
  let here : key_len page at ≤ length page / 8 = keys 0 (omega arith) in omega arith,
  tests_from_keys w page (end_of w page at) n (λ i below. keys (suc i) (omega arith)),
)

fence_from_tests : (there : Bool) (page : List ℕ) (at : ℕ) → PassesAll (fence_tests there page at)
    → there ≡ true → key_len page at ≤ length page / 8
fence_from_tests true page at passes is = let here = passes.0 in omega arith
fence_from_tests false page at passes is = absurd cc

tests_from_fence : (there : Bool) (page : List ℕ) (at : ℕ)
    → (there ≡ true → key_len page at ≤ length page / 8) → PassesAll (fence_tests there page at)
tests_from_fence true page at short =
    (let here : key_len page at ≤ length page / 8 = short refl in omega arith, tt)
tests_from_fence false page at short = tt

-- The whole page.

at_most : (n m : ℕ) → n ≡ min n m → n ≤ m
at_most n m e = omega arith

is_least : (n m : ℕ) → n ≤ m → n ≡ min n m
is_least n m le = omega arith

fits : (w : Bool) (len count first behind : ℕ) → CONTENT_AT ≤ first
    → first + count * least_len w ≤ behind → behind ≤ len → count ≤ (len - CONTENT_AT) / least_len w
fits true len count first behind from walk inside = omega arith
fits false len count first behind from walk inside = omega arith

end_behind : (w : Bool) (page : List ℕ) (at : ℕ) → at ≤ end_of w page at
end_behind true page at = omega arith
end_behind false page at = omega arith

pub choose_up : (there : Bool) (low end start : ℕ) → low ≤ start → start ≤ end
    → low ≤ (if there then end else start)
choose_up true low end start from up = omega arith
choose_up false low end start from up = from

-- the fences stand behind the fields
pub high_at-from : (page : List ℕ) → CONTENT_AT ≤ high_at page
high_at-from page = choose_up (has_low page) CONTENT_AT (end_of false page CONTENT_AT) CONTENT_AT
    (omega arith) (end_behind false page CONTENT_AT)

pub first_at-from : (page : List ℕ) → CONTENT_AT ≤ first_at page
first_at-from page = choose_up (has_high page) CONTENT_AT (end_of false page (high_at page)) (high_at page)
    (high_at-from page) (end_behind false page (high_at page))

-- the entries of a page that end within it are no more than fit
pub few_enough : (page : List ℕ) → place_of page (count_in page) ≤ length page
    → count_in page ≤ most_entries page
few_enough page inside =
    fits (is_inner page) (length page) (count_in page) (first_at page)
    (place_from (is_inner page) page (first_at page) (count_in page)) (first_at-from page)
    (place_from-least (is_inner page) page (first_at page) (count_in page))
    (rw (sym (place_of-walk page (count_in page))) inside)

few_from : (inner : Bool) (count most : ℕ) → count ≡ max (if inner then 2 else 0) (min count most)
    → inner ≡ true → 2 ≤ count
few_from true count most e is = omega arith
few_from false count most e is = absurd cc

count_is : (inner : Bool) (count most : ℕ) → (inner ≡ true → 2 ≤ count) → count ≤ most
    → count ≡ max (if inner then 2 else 0) (min count most)
count_is true count most enough few = let two = enough refl in omega arith
count_is false count most enough few = omega arith

-- the tests of a page but that of its order
abbrev pub laid_out_tests : List ℕ → List Check
laid_out_tests page =
    field_tests page
    ++ fence_tests (has_low page) page CONTENT_AT
    ++ fence_tests (has_high page) page (high_at page)
    ++ key_tests (is_inner page) page (first_at page) (count_in page)

-- what the tests but that of the order say
pub record PassesLaidOut (page : List ℕ) : Type 0 where
  pub laid_out : IsLaidOut page
  pub ends : end_in page ≡ place_of page (count_in page)
  pub enough : HasEnough page

pub laid_out_from_tests : (page : List ℕ) → PassesAll (laid_out_tests page) → PassesLaidOut page
laid_out_from_tests page passes =
    let low = fence_tests (has_low page) page CONTENT_AT in
    let high = fence_tests (has_high page) page (high_at page) in
    let keys = key_tests (is_inner page) page (first_at page) (count_in page) in
    let to_high = passes-split (field_tests page ++ low ++ high) keys passes in
    let to_low = passes-split (field_tests page ++ low) high to_high.0 in
    let front = passes-split (field_tests page) low to_low.0 in
    let short = keys_from_tests (is_inner page) page (first_at page) (count_in page) to_high.1 in
    let inside = at_most (end_in page) (length page) front.0.1.1.0 in
    record {
      laid_out = record {
        low = fence_from_tests (has_low page) page CONTENT_AT front.1;
        high = fence_from_tests (has_high page) page (high_at page) to_low.1;
        keys = λ n below. rw (place_of-walk page n) (short n below);
        inside = subst (λ (n : ℕ). n ≤ length page) front.0.1.0 inside;
      };
      ends = front.0.1.0;
      enough = few_from (is_inner page) (count_in page) (most_entries page) front.0.0;
    }

-- a page that passes the tests behind the common part is lawful, and an inner one has two entries
pub node_from_tests : (page : List ℕ) → PassesAll (content_tests page)
    → IsNodePage page × HasEnough page
unfolding content_tests
node_from_tests page passes =
    let parts = passes-split (laid_out_tests page) (order_test page ∷ []) passes in
    let laid = laid_out_from_tests page parts.0 in
    let order = order_from (is_inner page) (low_of page) (high_of page) (entries_of page)
    (parts.1.0 ∙ sym (length-entries_of page)) in (
      record {
        low_key = laid.laid_out.low;
        high_key = laid.laid_out.high;
        keys = laid.laid_out.keys;
        ends = laid.ends;
        inside = subst (λ (n : ℕ). n ≤ length page) (sym laid.ends) laid.laid_out.inside;
        ascending = order.0;
        between = order.1;
        first = order.2;
      },
      laid.enough,
    )

-- a lawful page passes the tests behind the common part, an inner one if it has two entries
pub tests_from_node : (page : List ℕ) → IsNodePage page → HasEnough page
    → PassesAll (content_tests page)
unfolding content_tests
tests_from_node page is enough =
    let low = fence_tests (has_low page) page CONTENT_AT in
    let high = fence_tests (has_high page) page (high_at page) in
    let keys = key_tests (is_inner page) page (first_at page) (count_in page) in
    let few = few_enough page (subst (λ (n : ℕ). n ≤ length page) is.ends is.inside) in
    let front : PassesAll (field_tests page) = (
      count_is (is_inner page) (count_in page) (most_entries page) enough few,
      (is.ends, (is_least (end_in page) (length page) is.inside, tt)),
    ) in
    let short = λ (i : ℕ) (below : i < count_in page).
    subst (λ (at : ℕ). key_len page at ≤ length page / 8) (place_of-walk page i) (is.keys i below) in
    passes-append (field_tests page ++ low ++ high ++ keys) (order_test page ∷ [])
    (passes-append (field_tests page ++ low ++ high) keys
    (passes-append (field_tests page ++ low) high
    (passes-append (field_tests page) low front
    (tests_from_fence (has_low page) page CONTENT_AT is.low_key))
    (tests_from_fence (has_high page) page (high_at page) is.high_key))
    (tests_from_keys (is_inner page) page (first_at page) (count_in page) short)) (
      order_is (is_inner page) (low_of page) (high_of page) (entries_of page) is.ascending is.between
          is.first ∙ length-entries_of page,
      tt,
    )
