-- A split, whole.
use Rattle.std.specs.Prelude.{◌≡◌, ℕ, suc, ◌+◌, ◌-◌, ◌/◌, ◌<◌, ◌≤◌, false, List, ◌++◌, length}
use Rattle.std.proofs.Common.{refl, sym, ap, ◌∙◌, arith, subst}
use Rattle.mg_base.specs.Checks.{PassesAll, common_checks}
use Rattle.mg_base.specs.Fields.{byte, u32_at}
use Rattle.mg_node.specs.declared.entry.Entry.{Entry}
use Rattle.mg_node.specs.declared.entry.TheConstants.{CONTENT_AT}
use Rattle.mg_node.specs.NodePage.{IsNodePage, count_in, end_in, end_of, entry_at, first_at, is_inner, key_len, node_checks, place_of}
use Rattle.mg_node.specs.NodeTestLaws.{high_at-from}
use Rattle.mg_node.specs.NodeWalk.{entries_from, least_len}
use Rattle.mg_node.specs.NodeWalkLaws.{end_of-least}
use Rattle.mg_node_writing.specs.MoveLaws.{entry_stands, len_stands}
use Rattle.mg_node_writing.specs.NodeChanges.{most_need, room_in}
use Rattle.mg_node_writing.specs.Splits.{IsHalf, IsShortestHalf, KeepsLower, SplitsNode, TakesUpper}
use Rattle.mg_node_writing.proofs.SeatLemmas.{plain_ends, two_parts}
use Rattle.mg_node_writing.proofs.SizeLemmas.{SplitNumbers, shortest_half}
use Rattle.mg_node_writing.proofs.SplitSays.{lower_says, same_walk, upper_says}
use Rattle.mg_node_writing.proofs.SpliceLemmas.{take_same, u16_same}

-- all that a split is to do
pub record SplitDone (old left right : List ℕ) (number : ℕ) : Type 0 where
  pub splits : SplitsNode old left right number
  pub half : IsShortestHalf old left
  pub left_lawful : IsNodePage left
  pub right_lawful : IsNodePage right
  pub left_two : 2 ≤ count_in left
  pub right_two : 2 ≤ count_in right
  pub left_room : most_need left ≤ room_in left
  pub right_room : most_need right ≤ room_in right

same_need : (a b : List ℕ) → is_inner a ≡ is_inner b → length a ≡ length b
    → most_need a ≡ most_need b
same_need a b inner size =
    let least = ap least_len inner in
    let eighth : length a / 8 ≡ length b / 8 = ap (λ (n : ℕ). n / 8) size in
    omega (arith, least, eighth)

u32_common : (a b : List ℕ) (i : ℕ) → 8 ≤ i → i + 4 ≤ 16
    → ((k : ℕ) → k < 16 → (4 ≤ k → 8 ≤ k) → byte a k ≡ byte b k) → u32_at a i ≡ u32_at b i
u32_common a b i from inside same =
    let b0 = same i (omega arith) (λ le. omega arith) in
    let b1 = same (i + 1) (omega arith) (λ le. omega arith) in
    let b2 = same (i + 2) (omega arith) (λ le. omega arith) in
    let b3 = same (i + 3) (omega arith) (λ le. omega arith) in omega (arith, b0, b1, b2, b3)

-- the common part of the right page is that of another page of the owner
upper_fields : (old new : List ℕ) (number owner : ℕ)
    → ((k : ℕ) → k < 16 → (4 ≤ k → 8 ≤ k) → byte new k ≡ byte old k) → u32_at new 4 ≡ number
    → PassesAll (node_checks old (u32_at old 4) owner) → PassesAll (node_checks new number owner)
unfolding common_checks
upper_fields old new number owner same own_is (kind, (flags, (none, (own, (owned, (seq, rest)))))) = (
  same 0 (omega arith) (λ le. omega arith) ∙ kind,
  (
    same 1 (omega arith) (λ le. omega arith) ∙ flags,
    (
      u16_same new old 2 (same 2 (omega arith) (λ le. omega arith))
          (same 3 (omega arith) (λ le. omega arith)) ∙ none,
      (
        own_is,
        (
          u32_common new old 8 (omega arith) (omega arith) same ∙ owned,
          (u32_common new old 12 (omega arith) (omega arith) same ∙ seq, tt),
        ),
      ),
    ),
  ),
)

pub split_done : (old left right : List ℕ) (number n from : ℕ) → IsNodePage old → IsHalf old n
    → SplitNumbers old n → from ≡ place_of old n
    → TakesUpper old right number from (count_in old - n) → KeepsLower old left right number from n
    → SplitDone old left right number
split_done old left right number n from is half numbers from_is upper lower =
    let w = is_inner old in
    let others = numbers.others in
    let some = numbers.some in
    let k = n - 1 in
    let m = count_in old - n - 1 in
    let n_is : n ≡ suc k = omega (arith, some) in
    let m_is : count_in old - n ≡ suc m = omega (arith, others) in
    let count : count_in old ≡ n + suc m = omega (arith, others) in
    let upper_m : TakesUpper old right number from (suc m) =
    subst (TakesUpper old right number from) m_is upper in
    let fl = 8 + key_len old from in
    let key : key_len old from ≤ length old / 8 =
    subst (λ (x : ℕ). key_len old x ≤ length old / 8) (sym from_is) (is.keys n (omega (arith, others))) in
    let right_rooms = numbers.right_room fl (omega (arith, key)) in
    let left_rooms = numbers.left_room fl (omega (arith, key)) in
    let right_size = upper.size in
    let right_end = upper.end_is in
    let right_inside : end_in right ≤ length right =
    omega (arith, right_rooms, right_size, right_end, from_is) in
    let up = upper_says old right number from n m is from_is count upper_m right_inside in
    let other_key : key_len right CONTENT_AT ≡ key_len old from =
    len_stands old right from CONTENT_AT fl upper.low (omega arith) in
    let long = end_of-least false old from in
    let other_fence : entry_at false right CONTENT_AT ≡ entry_at false old from =
    entry_stands false old right from CONTENT_AT fl upper.low (omega (arith, long)) in
    let left_size = lower.size in
    let left_end = lower.end_is in
    let left_inside : end_in left ≤ length left =
    omega (arith, left_rooms, left_size, left_end, from_is, other_key) in
    let down = lower_says old left right number from n m is from_is count (high_at-from old) other_key
    other_fence lower left_inside in
    let left_need = same_need left old down.inner left_size in
    let right_need = same_need right old up.inner right_size in
    let left_count = lower.count_is in
    let right_count = upper.count_is in
    record {
      splits = record {
        left_size = left_size;
        right_size = right_size;
        left_front = take_same left old 16 left_size lower.common;
        right_fields = λ owner passes. upper_fields old right number owner upper.common upper.own passes;
        left_level = lower.level;
        right_level = upper.level;
        goes_to = lower.right;
        goes_on = upper.right;
        low = down.low;
        middle = down.high ∙ sym up.low;
        high = up.high;
        first = entry_at w old (first_at old);
        kept = entries_from w old (end_of w old (first_at old)) k;
        given = entry_at w old from;
        rest = entries_from w old (end_of w old from) m;
        left_is = down.entries ∙ ap (entries_from w old (first_at old)) n_is;
        right_is = up.entries;
        was = two_parts old n (omega (arith, others)) ∙
            (ap (λ (x : ℕ). entries_from w old (first_at old) x
            ++ entries_from w old (place_of old n) (count_in old - n)) n_is ∙
            ap (λ (es : List Entry). entries_from w old (first_at old) (suc k) ++ es)
            (same_walk old w w (place_of old n) from (count_in old - n) (suc m) refl (sym from_is) m_is));
        fence = up.low;
      };
      half = shortest_half old left n is half (omega (arith, some)) down.entries;
      left_lawful = down.lawful;
      right_lawful = up.lawful;
      left_two = omega (arith, left_count, some);
      right_two = omega (arith, right_count, others);
      left_room = omega (arith, left_need, left_rooms, left_size, left_end, from_is, other_key);
      right_room = omega (arith, right_need, right_rooms, right_size, right_end, from_is);
    }

-- the fence between the pages is short, and stands within the page that is split
pub record FenceShort (page : List ℕ) (from : ℕ) : Type 0 where
  pub short : 8 + key_len page from ≤ 8 + length page / 8
  pub inside : from + 8 + key_len page from ≤ length page

pub fence_short : (page : List ℕ) (n from : ℕ) → IsNodePage page → SplitNumbers page n
    → from ≡ place_of page n → FenceShort page from
fence_short page n from is numbers from_is =
    let others = numbers.others in
    let key : key_len page from ≤ length page / 8 =
    subst (λ (x : ℕ). key_len page x ≤ length page / 8) (sym from_is) (is.keys n (omega (arith, others))) in
    let ends = plain_ends page n from is from_is (omega (arith, others)) in
    record { short = omega (arith, key); inside = omega (arith, ends) }
