-- What a page says after bytes of its entries were moved.
use Rattle.std.specs.Prelude.{◌≡◌, ℕ, zero, suc, ◌+◌, ◌-◌, ◌/◌, ◌%◌, ◌<◌, ◌≤◌, ◌==◌, ◌⊎◌, Bool, true, false, nat_lt, List, ◌++◌, length, take, drop, Option, Some, None, if◌then◌else◌}
use Rattle.std.proofs.Common.{refl, sym, ap, ◌∙◌, arith, get_or, subst, lit≤, inl, inr}
use Rattle.std.proofs.lemmas.Bool.{cases_lt}
use Rattle.std.proofs.lemmas.List.{ext_get_or, get_or-take, length-drop, length-take}
use Rattle.mg_base.specs.Fields.{byte, u16_at}
use Rattle.mg_node.specs.declared.entry.Entry.{Entry}
use Rattle.mg_node.specs.declared.entry.TheConstants.{CONTENT_AT, FENCES_AT, KEY_AT, LEVEL_AT}
use Rattle.mg_node.specs.NodePage.{AreAscending, AreBetween, BeginsAsInner, IsNodePage, count_in, end_in, end_of, entries_of, entry_at, first_at, has_high, has_low, high_at, high_of, is_inner, key_len, level_in, low_of, place_of, right_in}
use Rattle.mg_node.specs.NodeReading.{IsLaidOut}
use Rattle.mg_node.specs.NodeTestLaws.{choose_up, first_at-from, high_at-from}
use Rattle.mg_node.specs.NodeWalk.{entries_from, place_from}
use Rattle.mg_node.specs.NodeWalkLaws.{end_of-least, entries_from-add, entries_of-walk, place_from-add, place_from-least, place_of-walk}
use Rattle.mg_node_writing.specs.MoveLaws.{end_stands, entry_stands, len_stands, stands_behind, walk_stands}
use Rattle.mg_node_writing.specs.Moves.{Stands}
use Rattle.mg_node_writing.specs.NodeChanges.{KeepsNode}
use Rattle.mg_node_writing.specs.Splices.{ShortKeys, Splices}

pub u16_same : (a b : List ℕ) (i : ℕ) → byte a i ≡ byte b i → byte a (i + 1) ≡ byte b (i + 1)
    → u16_at a i ≡ u16_at b i
u16_same a b i e f = omega (arith, e, f)

-- Keys.

pub key_long : (w : Bool) (page : List ℕ) (at : ℕ) → end_of w page at ≤ length page
    → length (take (key_len page at) (drop (at + KEY_AT) page)) ≡ key_len page at
key_long true page at inside =
    let a = length-take (key_len page at) (drop (at + KEY_AT) page) in
    let b = length-drop (at + KEY_AT) page in omega (arith, a, b)
key_long false page at inside =
    let a = length-take (key_len page at) (drop (at + KEY_AT) page) in
    let b = length-drop (at + KEY_AT) page in omega (arith, a, b)

pub keys_from_short : (w : Bool) (page : List ℕ) (most at n : ℕ)
    → place_from w page at n ≤ length page → ShortKeys most (entries_from w page at n)
    → (i : ℕ) → i < n → key_len page (place_from w page at i) ≤ most
keys_from_short w page most at zero inside short i below = absurd (omega arith)
keys_from_short w page most at (suc n) inside short zero below =
    let up = place_from-least w page (end_of w page at) n in
    let long = key_long w page at (omega (arith, up)) in
    let here = short.0 in omega (arith, long, here)
keys_from_short w page most at (suc n) inside short (suc i) below =
    keys_from_short w page most (end_of w page at) n inside short.1 i (omega arith)

pub short_from_keys : (w : Bool) (page : List ℕ) (most at n : ℕ)
    → place_from w page at n ≤ length page
    → ((i : ℕ) → i < n → key_len page (place_from w page at i) ≤ most)
    → ShortKeys most (entries_from w page at n)
short_from_keys w page most at zero inside keys = tt
short_from_keys w page most at (suc n) inside keys =
    let up = place_from-least w page (end_of w page at) n in
    let long = key_long w page at (omega (arith, up)) in
    let here : key_len page at ≤ most = keys 0 (omega arith) in (
      omega (arith, long, here),
      short_from_keys w page most (end_of w page at) n inside (λ i below. keys (suc i) (omega arith)),
    )

-- The fences.

pub fence_stays : (there there' : Bool) (old new : List ℕ) (at limit : ℕ) → there' ≡ there
    → Stands old new at at (limit - at) → at ≤ limit
    → (if there then end_of false old at else at) ≤ limit
    → ((if there' then end_of false new at else at) ≡ (if there then end_of false old at else at))
    × ((if there' then Some (entry_at false new at) else None)
    ≡ (if there then Some (entry_at false old at) else None))
    × (there ≡ true → key_len new at ≡ key_len old at)
fence_stays true there' old new at limit same s le inside =
    let two : 2 ≤ limit - at = omega arith in
    let ends = end_stands false old new at at (limit - at) s two in
    let entry = entry_stands false old new at at (limit - at) s (omega arith) in (
      rw same (omega (arith, ends)),
      rw (same, entry) refl,
      λ is. len_stands old new at at (limit - at) s two,
    )
fence_stays false there' old new at limit same s le inside =
    (rw same refl, rw same refl, λ is. absurd cc)

-- the fields before the entries, the fences, and where the entries begin, are as before
pub record SameHead (old new : List ℕ) : Type 0 where
  pub inner : is_inner new ≡ is_inner old
  pub there_low : has_low new ≡ has_low old
  pub there_high : has_high new ≡ has_high old
  pub low : low_of new ≡ low_of old
  pub high : high_of new ≡ high_of old
  pub first : first_at new ≡ first_at old
  pub low_key : has_low old ≡ true → key_len new CONTENT_AT ≡ key_len old CONTENT_AT
  pub high_key : has_high old ≡ true → key_len new (high_at new) ≡ key_len old (high_at old)

-- what stands from a place on up to a limit stands there from a later place on
pub higher : (old new : List ℕ) (low limit at : ℕ) → Stands old new low low (limit - low)
    → low ≤ at → at ≤ limit → Stands old new at at (limit - at)
higher old new low limit at s from up =
    let same : limit - low - (at - low) ≡ limit - at = omega arith in
    subst (λ (k : ℕ). Stands old new at at k) same
    (stands_behind old new low low (limit - low) (at - low) s (omega arith) at at
    (omega arith) (omega arith))

pub head_stays : (old new : List ℕ) (at : ℕ) → first_at old ≤ at
    → Stands old new CONTENT_AT CONTENT_AT (at - CONTENT_AT)
    → level_in new ≡ level_in old → u16_at new FENCES_AT ≡ u16_at old FENCES_AT → SameHead old new
head_stays old new at first s level fences =
    let from = high_at-from old in
    let up : high_at old ≤ first_at old =
    choose_up (has_high old) (high_at old) (end_of false old (high_at old)) (high_at old) (omega arith)
    (let e = end_of-least false old (high_at old) in omega (arith, e)) in
    let there_low : has_low new ≡ has_low old = ap (λ (n : ℕ). n % 2 == 1) fences in
    let there_high : has_high new ≡ has_high old = ap (λ (n : ℕ). n / 2 % 2 == 1) fences in
    let low = fence_stays (has_low old) (has_low new) old new CONTENT_AT at there_low s
    (omega (arith, from, up)) (omega (arith, up)) in
    let moved : high_at new ≡ high_at old = low.0 in
    let behind : Stands old new (high_at old) (high_at old) (at - high_at old) =
    higher old new CONTENT_AT at (high_at old) s from (omega (arith, up)) in
    let high = fence_stays (has_high old) (has_high new) old new (high_at old) at there_high behind
    (omega (arith, up)) first in
    record {
      inner = ap (λ (n : ℕ). nat_lt 0 n) level;
      there_low = there_low;
      there_high = there_high;
      low = low.1;
      high = ap (λ (x : ℕ). if has_high new then Some (entry_at false new x) else None) moved ∙ high.1;
      first = ap (λ (x : ℕ). if has_high new then end_of false new x else x) moved ∙ high.0;
      low_key = low.2;
      high_key = λ is. ap (key_len new) moved ∙ high.2 is;
    }

-- A page whose entries behind a place were moved.

-- a page keeps its head; it has the first entries as before, then so many at the place, then those
-- that were moved
pub record SplicedPage (old new : List ℕ) (at from n r j m : ℕ) : Type 0 where
  pub size : length new ≡ length old
  pub level : level_in new ≡ level_in old
  pub right : right_in new ≡ right_in old
  pub head : SameHead old new
  pub was : entries_of old ≡ entries_from (is_inner old) old (first_at old) n
      ++ (entries_from (is_inner old) old at r ++ entries_from (is_inner old) old from m)
  pub entries : entries_of new ≡ entries_from (is_inner old) old (first_at old) n
      ++ (entries_from (is_inner old) new at j ++ entries_from (is_inner old) old from m)
  pub ends : end_in new ≡ place_of new (count_in new)

pub take_same : (a b : List ℕ) (n : ℕ) → length a ≡ length b
    → ((k : ℕ) → k < n → byte a k ≡ byte b k) → take n a ≡ take n b
take_same a b n size same = ext_get_or 0 (take n a) (take n b) long each
  where
    long : length (take n a) ≡ length (take n b)
    long = let x = length-take n a in let y = length-take n b in omega (arith, x, y)

    each : (i : ℕ) → i < length (take n a) → get_or (take n a) i 0 ≡ get_or (take n b) i 0
    each i below =
        let x = length-take n a in
        let short : i < n = omega (arith, x) in
        get_or-take n a i 0 short ∙ (same i short ∙ sym (get_or-take n b i 0 short))

-- three walks one behind the other
three_walks : (w : Bool) (page : List ℕ) (first at from n j m : ℕ) → place_from w page first n ≡ at
    → place_from w page at j ≡ from
    → entries_from w page first (n + (j + m))
    ≡ entries_from w page first n ++ (entries_from w page at j ++ entries_from w page from m)
three_walks w page first at from n j m at_is from_is =
    sym (entries_from-add w page first n (j + m)) ∙
    ap (λ (es : List Entry). entries_from w page first n ++ es)
    (ap (λ (x : ℕ). entries_from w page x (j + m)) at_is ∙
    (sym (entries_from-add w page at j m) ∙
    ap (λ (es : List Entry). entries_from w page at j ++ es)
    (ap (λ (x : ℕ). entries_from w page x m) from_is)))

three_places : (w : Bool) (page : List ℕ) (first at from n j m : ℕ) → place_from w page first n ≡ at
    → place_from w page at j ≡ from
    → place_from w page first (n + (j + m)) ≡ place_from w page from m
three_places w page first at from n j m at_is from_is =
    sym (place_from-add w page first n (j + m)) ∙
    (ap (λ (x : ℕ). place_from w page x (j + m)) at_is ∙
    (sym (place_from-add w page at j m) ∙ ap (λ (x : ℕ). place_from w page x m) from_is))

pub splice_says : (old new : List ℕ) (at from to n r j m : ℕ) → IsLaidOut old
    → end_in old ≡ place_of old (count_in old) → Splices old new at from to
    → at ≡ place_of old n → from ≡ place_from (is_inner old) old at r
    → count_in old ≡ n + (r + m) → to ≡ place_from (is_inner old) new at j
    → count_in new ≡ n + (j + m) → end_in new ≤ length new → SplicedPage old new at from n r j m
splice_says old new at from to n r j m laid ends s at_is from_is count to_is count_new inside =
    let w = is_inner old in
    let first = first_at old in
    let from_first = first_at-from old in
    let at_walk : place_from w old first n ≡ at = sym (place_of-walk old n) ∙ sym at_is in
    let at_up : first ≤ at = up_from w old first n at at_walk in
    let from_up : at ≤ from = up_from w old at r from (sym from_is) in
    let old_end : end_in old ≡ place_from w old from m =
    ends ∙ (place_of-walk old (count_in old) ∙ (ap (place_from w old first) count ∙
    three_places w old first at from n r m at_walk (sym from_is))) in
    let end_up : from ≤ end_in old = up_from w old from m (end_in old) (sym old_end) in
    let end_inside : end_in old ≤ length old =
    let i = laid.inside in omega (arith, i, ends) in
    let size = s.size in
    let s_head : Stands old new CONTENT_AT CONTENT_AT (at - CONTENT_AT) = record {
      bytes = λ k below. s.before (CONTENT_AT + k) (omega arith) (omega arith) (λ le. omega arith) (λ le. omega arith);
      there = omega (arith, at_up, from_first, from_up, end_up, end_inside);
      here = omega (arith, at_up, from_first, from_up, end_up, end_inside, size);
    } in
    let level : level_in new ≡ level_in old = u16_same new old LEVEL_AT
    (s.before 16 (lit≤ tt) (omega (arith, at_up, from_first)) (λ le. omega arith) (λ le. omega arith))
    (s.before 17 (lit≤ tt) (omega (arith, at_up, from_first)) (λ le. omega arith) (λ le. omega arith)) in
    let fences : u16_at new FENCES_AT ≡ u16_at old FENCES_AT = u16_same new old FENCES_AT
    (s.before 26 (lit≤ tt) (omega (arith, at_up, from_first)) (λ le. omega arith) (λ le. omega arith))
    (s.before 27 (lit≤ tt) (omega (arith, at_up, from_first)) (λ le. omega arith) (λ le. omega arith)) in
    let right : right_in new ≡ right_in old =
    let b0 = s.before 20 (lit≤ tt) (omega (arith, at_up, from_first)) (λ le. omega arith) (λ le. omega arith) in
    let b1 = s.before 21 (lit≤ tt) (omega (arith, at_up, from_first)) (λ le. omega arith) (λ le. omega arith) in
    let b2 = s.before 22 (lit≤ tt) (omega (arith, at_up, from_first)) (λ le. omega arith) (λ le. omega arith) in
    let b3 = s.before 23 (lit≤ tt) (omega (arith, at_up, from_first)) (λ le. omega arith) (λ le. omega arith) in
    omega (arith, b0, b1, b2, b3) in
    let head = head_stays old new at at_up s_head level fences in
    let s_front = higher old new CONTENT_AT at first s_head from_first at_up in
    let front = walk_stands w old new first first (at - first) n s_front
    (omega (arith, at_walk, at_up)) in
    let new_at : place_from w new first n ≡ at = let p = front.1 in omega (arith, p, at_walk) in
    let s_end = s.end in
    let s_back : Stands old new from to (end_in old - from) = record {
      bytes = λ k below. s.moved k (omega arith);
      there = omega (arith, end_up, end_inside);
      here = omega (arith, end_up, s_end, inside);
    } in
    let back = walk_stands w old new from to (end_in old - from) m s_back
    (omega (arith, old_end, end_up)) in
    let new_end : end_in new ≡ place_from w new to m =
    let p = back.1 in omega (arith, p, s_end, old_end) in
    let walk_new : entries_of new ≡ entries_from w new first (n + (j + m)) =
    entries_of-walk new ∙ same_walk new (is_inner new) w (first_at new) first (count_in new)
    (n + (j + m)) head.inner head.first count_new in
    let place_new : place_of new (count_in new) ≡ place_from w new first (n + (j + m)) =
    place_of-walk new (count_in new) ∙ same_place new (is_inner new) w (first_at new) first
    (count_in new) (n + (j + m)) head.inner head.first count_new in
    record {
      size = size;
      level = level;
      right = right;
      head = head;
      was = entries_of-walk old ∙ (ap (entries_from w old first) count ∙
          three_walks w old first at from n r m at_walk (sym from_is));
      entries = walk_new ∙ (three_walks w new first at to n j m new_at (sym to_is) ∙
          (ap (λ (es : List Entry). es ++ (entries_from w new at j ++ entries_from w new to m)) front.0 ∙
          ap (λ (es : List Entry). entries_from w old first n ++ (entries_from w new at j ++ es)) back.0));
      ends = new_end ∙ (sym (three_places w new first at to n j m new_at (sym to_is)) ∙ sym place_new);
    }
  where
    up_from : (v : Bool) (page : List ℕ) (x k y : ℕ) → place_from v page x k ≡ y → x ≤ y
    up_from v page x k y is = let least = place_from-least v page x k in omega (arith, least, is)

    same_walk : (page : List ℕ) (v w : Bool) (x y k l : ℕ) → v ≡ w → x ≡ y → k ≡ l
        → entries_from v page x k ≡ entries_from w page y l
    same_walk page v w x y k l a b c = rw (a, b, c) refl

    same_place : (page : List ℕ) (v w : Bool) (x y k l : ℕ) → v ≡ w → x ≡ y → k ≡ l
        → place_from v page x k ≡ place_from w page y l
    same_place page v w x y k l a b c = rw (a, b, c) refl

-- A spliced page is lawful where its entries are in order.
pub lawful_spliced : (old new : List ℕ) (at from n r j m : ℕ) → IsNodePage old
    → SplicedPage old new at from n r j m → end_in new ≤ length new
    → ShortKeys (length old / 8) (entries_of new) → AreAscending (entries_of new)
    → AreBetween (low_of old) (high_of old) (entries_of new)
    → (is_inner old ≡ true → BeginsAsInner (low_of old) (entries_of new)) → IsNodePage new
lawful_spliced old new at from n r j m is spliced inside short ascending between begins =
    let head = spliced.head in
    let size : length new ≡ length old = spliced.size in
    let place_new = place_of-walk new (count_in new) in
    let walk_inside : place_from (is_inner new) new (first_at new) (count_in new) ≤ length new =
    let e = spliced.ends in omega (arith, e, place_new, inside) in
    let short_walk : ShortKeys (length old / 8)
    (entries_from (is_inner new) new (first_at new) (count_in new)) =
    subst (ShortKeys (length old / 8)) (entries_of-walk new) short in
    record {
      low_key = λ there. let old_there : has_low old ≡ true = sym head.there_low ∙ there in
          let key = head.low_key old_there in let was = is.low_key old_there in
          omega (arith, key, was, size);
      high_key = λ there. let old_there : has_high old ≡ true = sym head.there_high ∙ there in
          let key = head.high_key old_there in let was = is.high_key old_there in
          omega (arith, key, was, size);
      keys = λ i below. let key = keys_from_short (is_inner new) new (length old / 8) (first_at new)
          (count_in new) walk_inside short_walk i below in
          let place = ap (key_len new) (place_of-walk new i) in
          omega (arith, key, place, size);
      ends = spliced.ends;
      inside = inside;
      ascending = ascending;
      between = subst (λ (f : Option Entry). AreBetween f (high_of new) (entries_of new)) (sym head.low)
          (subst (λ (f : Option Entry). AreBetween (low_of old) f (entries_of new)) (sym head.high) between);
      first = λ inner. subst (λ (f : Option Entry). BeginsAsInner f (entries_of new)) (sym head.low)
          (begins (sym head.inner ∙ inner));
    }

-- what a spliced page keeps, with its common part
pub keeps_node : (old new : List ℕ) (at from to n r j m : ℕ) → Splices old new at from to → 18 ≤ at
    → ((k : ℕ) → k < 16 → byte new k ≡ byte old k) → SplicedPage old new at from n r j m
    → KeepsNode old new
keeps_node old new at from to n r j m s far common spliced = record {
  size = spliced.size;
  front = take_same new old 18 spliced.size each;
  level = spliced.level;
  right = spliced.right;
  low = spliced.head.low;
  high = spliced.head.high;
}
  where
    each : (k : ℕ) → k < 18 → byte new k ≡ byte old k
    each k below = by (cases_lt k 16)
      where
        by : (k < 16) ⊎ (16 ≤ k) → byte new k ≡ byte old k
        by (inl less) = common k less
        by (inr more) = s.before k more (omega arith) (λ le. omega arith) (λ le. omega arith)
