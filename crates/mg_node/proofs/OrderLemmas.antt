-- The order of the entries of a page that is laid out, read in their places.
use Rattle.std.specs.Prelude.{◌≡◌, ◌+◌, ◌-◌, ◌<◌, ◌≤◌, ℕ, suc, Bool, true, false, List, length, Option, Some, None, if◌then◌else◌}
use Rattle.std.proofs.Common.{refl, sym, ◌∙◌, arith}
use Rattle.mg_node.specs.declared.entry.Entry.{Entry}
use Rattle.mg_node.specs.NodePage.{count_in, end_of, entries_of, entry_at, first_at, high_of, is_inner, low_of, place_of}
use Rattle.mg_node.specs.NodeReading.{IsLaidOut}
use Rattle.mg_node.specs.NodeTests.{is_between, may_begin, may_follow, ordered_behind, ordered_front}
use Rattle.mg_node.specs.NodeWalk.{entries_from}
use Rattle.mg_node.specs.NodeWalkLaws.{entries_of-walk}
use Rattle.mg_node.proofs.NodeLemmas.{entry_within}

-- what stands before the child does not depend on whether there is one
pub end_without_child : (w : Bool) (page : List ℕ) (at : ℕ) → end_of false page at ≤ end_of w page at
end_without_child true page at = omega arith
end_without_child false page at = omega arith

pub entry_inside : (page : List ℕ) (n at : ℕ) → IsLaidOut page → at ≡ place_of page n
    → n < count_in page → end_of false page at ≤ length page
entry_inside page n at is at_is below =
    let within = entry_within page is n below in
    let ends = within.ends in
    let without = end_without_child (is_inner page) page (place_of page n) in
    rw at_is (omega arith)

-- the place of an entry is within the page, also one behind the last entry
pub place_inside : (page : List ℕ) (n at : ℕ) → IsLaidOut page → at ≡ place_of page n
    → n < count_in page → at ≤ length page
place_inside page n at is at_is below =
    let inside = entry_inside page n at is at_is below in omega arith

-- whether an entry lies between the fences does not depend on its child
between_blind : (low high : Option Entry) (w : Bool) (page : List ℕ) (at : ℕ)
    → is_between low high (entry_at w page at) ≡ is_between low high (entry_at false page at)
between_blind None None w page at = refl
between_blind None (Some top) w page at = refl
between_blind (Some fence) None w page at = refl
between_blind (Some fence) (Some top) w page at = refl

follow_blind : (low high : Option Entry) (w : Bool) (page : List ℕ) (before at : ℕ)
    → may_follow low high (entry_at w page before) (entry_at w page at)
    ≡ may_follow low high (entry_at false page before) (entry_at false page at)
follow_blind None None w page before at = refl
follow_blind None (Some top) w page before at = refl
follow_blind (Some fence) None w page before at = refl
follow_blind (Some fence) (Some top) w page before at = refl

begin_blind : (inner : Bool) (low high : Option Entry) (w : Bool) (page : List ℕ) (at : ℕ)
    → may_begin inner low high (entry_at w page at)
    ≡ may_begin inner low high (entry_at false page at)
begin_blind inner None None w page at = refl
begin_blind inner None (Some top) w page at = refl
begin_blind inner (Some fence) None w page at = refl
begin_blind inner (Some fence) (Some top) w page at = refl

stops : (p : Bool) (n : ℕ) → p ≡ false → (if p then suc n else 0) ≡ 0
stops true n e = absurd cc
stops false n e = refl

goes : (p : Bool) (n : ℕ) → p ≡ true → (if p then suc n else 0) ≡ n + 1
goes true n e = omega arith
goes false n e = absurd cc

-- an entry that may not follow ends the front
pub behind_stops : (low high : Option Entry) (w : Bool) (page : List ℕ) (before at m n : ℕ) (all : ℕ)
    → n < m → at ≡ end_of w page before
    → false ≡ may_follow low high (entry_at false page before) (entry_at false page at)
    → all ≡ n + ordered_behind low high (entry_at w page before)
    (entries_from w page (end_of w page before) (m - n))
    → n ≡ all
behind_stops low high w page before at m n all below at_is stop is =
    let more : m - n ≡ suc (m - (n + 1)) = omega arith in
    let next = end_of w page before in
    let said : may_follow low high (entry_at w page before) (entry_at w page next) ≡ false =
    follow_blind low high w page before next ∙ sym (rw at_is at stop) in
    let none = stops (may_follow low high (entry_at w page before) (entry_at w page next))
    (ordered_behind low high (entry_at w page next) (entries_from w page (end_of w page next) (m - (n + 1)))) said in
    let here = rw more at is in
    omega (arith, here, none)

-- an entry that may follow is one more of the front
pub behind_goes : (low high : Option Entry) (w : Bool) (page : List ℕ) (before at m n : ℕ) (all : ℕ)
    → n < m → at ≡ end_of w page before
    → true ≡ may_follow low high (entry_at false page before) (entry_at false page at)
    → all ≡ n + ordered_behind low high (entry_at w page before)
    (entries_from w page (end_of w page before) (m - n))
    → all ≡ n + 1 + ordered_behind low high (entry_at w page at)
    (entries_from w page (end_of w page at) (m - (n + 1)))
behind_goes low high w page before at m n all below at_is go is =
    let more : m - n ≡ suc (m - (n + 1)) = omega arith in
    let next = end_of w page before in
    let said : may_follow low high (entry_at w page before) (entry_at w page next) ≡ true =
    follow_blind low high w page before next ∙ sym (rw at_is at go) in
    let one = goes (may_follow low high (entry_at w page before) (entry_at w page next))
    (ordered_behind low high (entry_at w page next) (entries_from w page (end_of w page next) (m - (n + 1)))) said in
    let here = rw more at is in
    rw at_is (omega (arith, here, one))

-- a page without entries
pub front_empty : (page : List ℕ) → count_in page ≡ 0
    → 0 ≡ ordered_front (is_inner page) (low_of page) (high_of page) (entries_of page)
front_empty page none = rw (entries_of-walk page, none) refl

front_opens : (page : List ℕ) (more : ℕ) → more + 1 ≡ count_in page
    → ordered_front (is_inner page) (low_of page) (high_of page) (entries_of page)
    ≡ (if may_begin (is_inner page) (low_of page) (high_of page) (entry_at false page (first_at page))
    then suc (ordered_behind (low_of page) (high_of page)
    (entry_at (is_inner page) page (first_at page))
    (entries_from (is_inner page) page (end_of (is_inner page) page (first_at page)) more))
    else 0)
front_opens page more is =
    let count : count_in page ≡ suc more = omega arith in
    rw (
      entries_of-walk page,
      count,
      sym (begin_blind (is_inner page) (low_of page) (high_of page) (is_inner page) page (first_at page)),
    )
    refl

-- a first entry that may not begin
pub front_stops : (page : List ℕ) (more : ℕ) → more + 1 ≡ count_in page
    → false ≡ may_begin (is_inner page) (low_of page) (high_of page) (entry_at false page (first_at page))
    → 0 ≡ ordered_front (is_inner page) (low_of page) (high_of page) (entries_of page)
front_stops page more is stop = sym (front_opens page more is ∙ stops _ _ (sym stop))

-- a first entry that may begin
pub front_goes : (page : List ℕ) (more : ℕ) → more + 1 ≡ count_in page
    → true ≡ may_begin (is_inner page) (low_of page) (high_of page) (entry_at false page (first_at page))
    → 1 + ordered_behind (low_of page) (high_of page) (entry_at (is_inner page) page (first_at page))
    (entries_from (is_inner page) page (end_of (is_inner page) page (first_at page)) more)
    ≡ ordered_front (is_inner page) (low_of page) (high_of page) (entries_of page)
front_goes page more is go =
    let n = ordered_behind (low_of page) (high_of page) (entry_at (is_inner page) page (first_at page))
    (entries_from (is_inner page) page (end_of (is_inner page) page (first_at page)) more) in
    let one = goes (may_begin (is_inner page) (low_of page) (high_of page)
    (entry_at false page (first_at page))) n (sym go) in
    let opened = front_opens page more is in
    omega (arith, one, opened)
