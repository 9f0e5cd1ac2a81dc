-- How many bytes the two pages of a split take, and what that leaves.
use Rattle.std.specs.Prelude.{◌≡◌, ℕ, zero, suc, ◌+◌, ◌-◌, ◌*◌, ◌/◌, ◌<◌, ◌≤◌, ◌⊎◌, Bool, true, false, List, [], ◌∷◌, ◌++◌, length, if◌then◌else◌}
use Rattle.std.proofs.Common.{refl, sym, ap, ◌∙◌, arith, inl, inr, subst}
use Rattle.std.proofs.lemmas.Bool.{cases_lt}
use Rattle.std.proofs.lemmas.List.{same_from_push}
use Rattle.mg_node.specs.declared.entry.Entry.{Entry}
use Rattle.mg_node.specs.declared.entry.TheConstants.{CONTENT_AT}
use Rattle.mg_node.specs.NodePage.{IsNodePage, count_in, end_in, end_of, entries_of, entry_at, first_at, has_high, has_low, high_at, is_inner, key_len, place_of}
use Rattle.mg_node.specs.NodeTestLaws.{choose_up, high_at-from}
use Rattle.mg_node.specs.NodeWalk.{entries_from, least_len, place_from}
use Rattle.mg_node.specs.NodeWalkLaws.{end_of-least, entries_from-add, entries_of-walk, place_from-least, place_of-walk}
use Rattle.mg_node_writing.specs.NodeChanges.{entries_len, most_need, room_in}
use Rattle.mg_node_writing.specs.Splits.{IsHalf, IsShortestHalf}
use Rattle.mg_node_writing.proofs.SeatLemmas.{place_ends}
use Rattle.mg_node_writing.proofs.SpliceLemmas.{key_long}

-- an entry takes so many bytes at most
entry_most : (page : List ℕ) (n : ℕ) → IsNodePage page → n < count_in page
    → place_of page (suc n) ≤ place_of page n + least_len (is_inner page) + length page / 8
entry_most page n is below =
    let key = is.keys n below in
    let long = end_of-least (is_inner page) page (place_of page n) in omega (arith, key, long)

fence_most : (there : Bool) (page : List ℕ) (at most : ℕ) → (there ≡ true → key_len page at ≤ most)
    → (if there then end_of false page at else at) ≤ at + 8 + most
fence_most true page at most short =
    let key = short refl in let long = end_of-least false page at in omega (arith, key, long)
fence_most false page at most short = omega arith

least_len-bounds : (w : Bool) → (8 ≤ least_len w) × (least_len w ≤ 12)
least_len-bounds true = (omega arith, omega arith)
least_len-bounds false = (omega arith, omega arith)

-- the numbers of a split
pub record SplitNumbers (page : List ℕ) (n : ℕ) : Type 0 where
  pub some : 2 ≤ n
  pub others : n + 2 ≤ count_in page
  pub above : first_at page ≤ place_of page n
  pub below : place_of page n ≤ end_in page
  -- both pages have room for any entry
  pub right_room : (fence : ℕ) → fence ≤ 8 + length page / 8
      → CONTENT_AT + fence + (first_at page - high_at page) + (end_in page - place_of page n)
      + most_need page ≤ length page
  pub left_room : (fence : ℕ) → fence ≤ 8 + length page / 8
      → high_at page + fence + (place_of page n - first_at page) + most_need page ≤ length page

-- the arithmetic of a split, over plain numbers
kept_more : (size most least first end at before : ℕ) → most ≡ size / 8 → 1024 ≤ size → 8 ≤ least
    → least ≤ 12 → size - end < least + most → end ≤ size → first ≤ 28 + 2 * (8 + most)
    → first ≤ before → end - first ≤ 2 * (at - first) → 2 * (before - first) < end - first
    → at ≤ before + least + most → at ≤ end → (first + (least + most) < at) × (at + (least + most) < end)
kept_more size most least first end at before most_is big least_from least_to full inside fences up
    enough short step below = (omega arith, omega arith)

rooms : (size most least first high end at before fence : ℕ) → most ≡ size / 8 → 1024 ≤ size
    → 8 ≤ least → least ≤ 12 → end ≤ size → 28 ≤ high → high ≤ first → high ≤ 28 + 8 + most
    → first ≤ high + 8 + most → first ≤ before → end - first ≤ 2 * (at - first)
    → 2 * (before - first) < end - first → at ≤ before + least + most → at ≤ end → fence ≤ 8 + most
    → (28 + fence + (first - high) + (end - at) + (least + most) ≤ size)
    × (high + fence + (at - first) + (least + most) ≤ size)
rooms size most least first high end at before fence most_is big least_from least_to inside high_from
    high_up high_most first_most up enough short step below fence_is = (omega arith, omega arith)

two_first : (page : List ℕ) (n : ℕ) → IsNodePage page → n ≤ count_in page
    → first_at page + (least_len (is_inner page) + length page / 8) < place_of page n → 2 ≤ n
two_first page zero is within more = absurd (omega arith)
two_first page (suc zero) is within more =
    let step = entry_most page 0 is (omega (arith, within)) in absurd (omega (arith, step, more))
two_first page (suc (suc n)) is within more = omega arith

two_last : (page : List ℕ) (n m : ℕ) → IsNodePage page → n + m ≡ count_in page
    → place_of page n + (least_len (is_inner page) + length page / 8) < end_in page → 2 ≤ m
two_last page n zero is all more =
    let ends = is.ends in
    let same : count_in page ≡ n = omega (arith, all) in
    let place = ap (place_of page) same in absurd (omega (arith, place, ends, more))
two_last page n (suc zero) is all more =
    let ends = is.ends in
    let same : count_in page ≡ suc n = omega (arith, all) in
    let step = entry_most page n is (omega (arith, all)) in
    let place = ap (place_of page) same in absurd (omega (arith, place, ends, more, step))
two_last page n (suc (suc m)) is all more = omega arith

pub split_numbers : (page : List ℕ) (n : ℕ) → 1024 ≤ length page → IsNodePage page → IsHalf page n
    → room_in page < most_need page → SplitNumbers page n
split_numbers page n big is half full = at n refl
  where
    at : (k : ℕ) → k ≡ n → SplitNumbers page n
    at zero k_is =
        let enough = half.enough in
        let none : place_of page n ≡ first_at page = ap (place_of page) (sym k_is) in
        let low = fence_most (has_low page) page CONTENT_AT (length page / 8) is.low_key in
        let high = fence_most (has_high page) page (high_at page) (length page / 8) is.high_key in
        let bounds = least_len-bounds (is_inner page) in
        let inside = is.inside in
        absurd (omega (arith, enough, none, low, high, bounds.0, bounds.1, full, inside))
    at (suc k) k_is =
        let low = fence_most (has_low page) page CONTENT_AT (length page / 8) is.low_key in
        let high = fence_most (has_high page) page (high_at page) (length page / 8) is.high_key in
        let bounds = least_len-bounds (is_inner page) in
        let within = half.within in
        let below : k < count_in page = omega (arith, within, k_is) in
        let step = entry_most page k is below in
        let here : place_of page n ≡ place_of page (suc k) = ap (place_of page) (sym k_is) in
        let step_here : place_of page n
        ≤ place_of page k + least_len (is_inner page) + length page / 8 = omega (arith, step, here) in
        let short = half.least k (omega (arith, k_is)) in
        let enough = half.enough in
        let inside = is.inside in
        let ends = place_ends page n is within in
        let before_walk = place_of-walk page k in
        let before_least = place_from-least (is_inner page) page (first_at page) k in
        let up : first_at page ≤ place_of page k = omega (arith, before_walk, before_least) in
        let more = kept_more (length page) (length page / 8) (least_len (is_inner page))
        (first_at page) (end_in page) (place_of page n) (place_of page k) refl big bounds.0 bounds.1 full
        inside (omega (arith, low, high)) up enough short step_here ends in
        let high_from = high_at-from page in
        let high_up : high_at page ≤ first_at page =
        choose_up (has_high page) (high_at page) (end_of false page (high_at page)) (high_at page)
        (omega arith) (let e = end_of-least false page (high_at page) in omega (arith, e)) in
        let room = λ (fence : ℕ) (short_fence : fence ≤ 8 + length page / 8).
        rooms (length page) (length page / 8) (least_len (is_inner page)) (first_at page) (high_at page)
        (end_in page) (place_of page n) (place_of page k) fence refl big bounds.0 bounds.1 inside high_from
        high_up (omega (arith, low)) (omega (arith, high)) up enough short step_here ends short_fence in
        record {
          some = two_first page n is within more.0;
          others = let two = two_last page n (count_in page - n) is (omega (arith, within)) more.1 in
              omega (arith, two, within);
          above = omega (arith, more.0);
          below = ends;
          right_room = λ fence short_fence. (room fence short_fence).0;
          left_room = λ fence short_fence. (room fence short_fence).1;
        }

-- How many bytes entries take is told by their places.
walk_len : (w : Bool) (page : List ℕ) (at n : ℕ) → place_from w page at n ≤ length page
    → place_from w page at n ≡ at + entries_len w (entries_from w page at n)
walk_len w page at zero inside = omega arith
walk_len w page at (suc n) inside =
    let up = place_from-least w page (end_of w page at) n in
    let rest = walk_len w page (end_of w page at) n inside in
    let key = key_long w page at (omega (arith, up, inside)) in
    let long = end_of-least w page at in omega (arith, rest, key, long)

pub shortest_half : (old left : List ℕ) (n : ℕ) → IsNodePage old → IsHalf old n → 1 ≤ n
    → entries_of left ≡ entries_from (is_inner old) old (first_at old) n → IsShortestHalf old left
shortest_half old left n is half some left_is = record {
  half = subst (λ (es : List Entry). entries_len (is_inner old) (entries_of old) ≤ 2 * entries_len (is_inner old) es)
      (sym left_is) (let all = all_len in let enough = half.enough in let here = front_len n half.within in
      omega (arith, all, enough, here));
  shortest = λ front last parts. by (n - 1) (omega arith) front last parts;
}
  where
    front_len : (k : ℕ) → k ≤ count_in old
        → place_of old k ≡ first_at old
        + entries_len (is_inner old) (entries_from (is_inner old) old (first_at old) k)
    front_len k within =
        let place = place_of-walk old k in
        let ends = place_ends old k is within in
        let inside = is.inside in
        let len = walk_len (is_inner old) old (first_at old) k (omega (arith, place, ends, inside)) in
        omega (arith, place, len)

    all_len : end_in old ≡ first_at old + entries_len (is_inner old) (entries_of old)
    all_len = is.ends ∙ (front_len (count_in old) (omega arith) ∙
        ap (λ (es : List Entry). first_at old + entries_len (is_inner old) es) (sym (entries_of-walk old)))

    by : (k : ℕ) → k + 1 ≡ n → (front : List Entry) (last : Entry) → entries_of left ≡ front ++ last ∷ []
        → 2 * entries_len (is_inner old) front < entries_len (is_inner old) (entries_of old)
    by k k_is front last parts =
        let walk : entries_from (is_inner old) old (first_at old) n
        ≡ entries_from (is_inner old) old (first_at old) k
        ++ entry_at (is_inner old) old
        (place_from (is_inner old) old (first_at old) k) ∷ [] =
        ap (entries_from (is_inner old) old (first_at old)) (sym k_is) ∙
        sym (entries_from-add (is_inner old) old (first_at old) k 1) in
        let same = same_from_push front (entries_from (is_inner old) old (first_at old) k) last
        (entry_at (is_inner old) old (place_from (is_inner old) old (first_at old) k))
        (sym parts ∙ (left_is ∙ walk)) in
        let within = half.within in
        let len = front_len k (omega (arith, within)) in
        let short = half.least k (omega arith) in
        let all = all_len in
        subst (λ (es : List Entry). 2 * entries_len (is_inner old) es
        < entries_len (is_inner old) (entries_of old)) (sym same.0)
        (omega (arith, len, short, all))

-- one entry more has less than half of the bytes before it
pub half_goes : (page : List ℕ) (n : ℕ)
    → ((i : ℕ) → i < n → 2 * (place_of page i - first_at page) < end_in page - first_at page)
    → 2 * (place_of page n - first_at page) < end_in page - first_at page
    → (i : ℕ) → i < n + 1 → 2 * (place_of page i - first_at page) < end_in page - first_at page
half_goes page n before here i below = by (cases_lt i n)
  where
    by : (i < n) ⊎ (n ≤ i) → 2 * (place_of page i - first_at page) < end_in page - first_at page
    by (inl less) = before i less
    by (inr past) =
        let same : n ≡ i = omega arith in
        subst (λ (k : ℕ). 2 * (place_of page k - first_at page) < end_in page - first_at page) same here
