-- What the two pages of a split say.
use Rattle.std.specs.Prelude.{◌≡◌, ℕ, suc, ◌+◌, ◌-◌, ◌/◌, ◌<◌, ◌≤◌, Bool, true, false, nat_lt, List, [], ◌∷◌, ◌++◌, length, Option, Some, None, if◌then◌else◌}
use Rattle.std.specs.Ordering.{ordering_reverse}
use Rattle.std.specs.declared.cmp.Ordering.{Ordering}
use Rattle.std.specs.declared.cmp.Ordering.TheVariants.{Less, Equal, Greater}
use Rattle.std.proofs.Common.{refl, sym, ap, ◌∙◌, arith, inl, inr, subst}
use Rattle.std.proofs.lemmas.Cmp.{alike_right}
use Rattle.mg_node.specs.declared.entry.Entry.{Entry}
use Rattle.mg_node.specs.declared.entry.TheConstants.{CONTENT_AT}
use Rattle.mg_node.specs.EntryOrderLaws.{cmp_from_parts, entry_cmp_total}
use Rattle.mg_node.specs.NodePage.{AreAscending, AreBetween, BeginsAsInner, IsAtLeast, IsBelow, IsNodePage, count_in, end_in, end_of, entries_of, entry_at, entry_cmp, first_at, has_high, has_low, high_at, high_of, is_inner, key_len, low_of, place_of}
use Rattle.mg_node.specs.NodeWalk.{entries_from, place_from}
use Rattle.mg_node.specs.NodeWalkLaws.{end_of-least, entries_of-walk, place_from-add, place_from-least, place_of-walk}
use Rattle.mg_node_writing.specs.MoveLaws.{end_stands, entry_stands, len_stands, walk_stands}
use Rattle.mg_node_writing.specs.Moves.{Stands}
use Rattle.mg_node_writing.specs.Splices.{EachBelow, HasEntry, ShortKeys}
use Rattle.mg_node_writing.specs.Splits.{KeepsLower, TakesUpper}
use Rattle.mg_node_writing.proofs.InsertLemmas.{short_of}
use Rattle.mg_node_writing.proofs.ListLemmas.{ascending_back, ascending_front, before_back, front_below, short_back, short_front}
use Rattle.mg_node_writing.proofs.SeatLemmas.{two_parts}
use Rattle.mg_node_writing.proofs.SpliceLemmas.{keys_from_short}

there_is : {A : Type 0} (there : Bool) (x y : A) → there ≡ true → (if there then x else y) ≡ x
there_is true x y is = refl
there_is false x y is = absurd cc

pub same_walk : (page : List ℕ) (v w : Bool) (x y k l : ℕ) → v ≡ w → x ≡ y → k ≡ l
    → entries_from v page x k ≡ entries_from w page y l
same_walk page v w x y k l a b c = rw (a, b, c) refl

same_place : (page : List ℕ) (v w : Bool) (x y k l : ℕ) → v ≡ w → x ≡ y → k ≡ l
    → place_from v page x k ≡ place_from w page y l
same_place page v w x y k l a b c = rw (a, b, c) refl

-- a lawful page, from what it says
node_from_parts : (page : List ℕ) (most : ℕ) → length page / 8 ≡ most
    → (has_low page ≡ true → key_len page CONTENT_AT ≤ most)
    → (has_high page ≡ true → key_len page (high_at page) ≤ most)
    → end_in page ≡ place_of page (count_in page) → end_in page ≤ length page
    → ShortKeys most (entries_of page) → AreAscending (entries_of page)
    → AreBetween (low_of page) (high_of page) (entries_of page)
    → (is_inner page ≡ true → BeginsAsInner (low_of page) (entries_of page)) → IsNodePage page
node_from_parts page most most_is low high ends inside short ascending between begins =
    let place = place_of-walk page (count_in page) in
    let walk_inside : place_from (is_inner page) page (first_at page) (count_in page) ≤ length page =
    omega (arith, ends, place, inside) in
    let keys = keys_from_short (is_inner page) page most (first_at page) (count_in page) walk_inside
    (subst (ShortKeys most) (entries_of-walk page) short) in
    record {
      low_key = λ there. let k = low there in omega (arith, k, most_is);
      high_key = λ there. let k = high there in omega (arith, k, most_is);
      keys = λ i below. let k = keys i below in
          let same = ap (key_len page) (place_of-walk page i) in omega (arith, k, same, most_is);
      ends = ends;
      inside = inside;
      ascending = ascending;
      between = between;
      first = begins;
    }

-- a fence that stands at another place
fence_moves : (there there' : Bool) (old new : List ℕ) (from to at : ℕ) → there' ≡ there → at ≡ to
    → Stands old new from to ((if there then end_of false old from else from) - from)
    → ((if there' then Some (entry_at false new at) else None)
    ≡ (if there then Some (entry_at false old from) else None))
    × ((if there' then end_of false new at else at)
    ≡ to + ((if there then end_of false old from else from) - from))
    × (there ≡ true → key_len new at ≡ key_len old from)
fence_moves true there' old new from to at same at_is s =
    let long = end_of-least false old from in
    let entry = entry_stands false old new from to (end_of false old from - from) s
    (omega (arith, long)) in
    let ends = end_stands false old new from to (end_of false old from - from) s
    (omega (arith, long)) in (
      rw (same, at_is, entry) refl,
      rw (same, at_is) (omega (arith, ends, long)),
      λ is. ap (key_len new) at_is ∙
          len_stands old new from to (end_of false old from - from) s (omega (arith, long)),
    )
fence_moves false there' old new from to at same at_is s =
    (rw same refl, rw (same, at_is) (omega arith), λ is. absurd cc)

-- Lists between other fences.

above_is_at_least : (f fence : Entry) → IsBelow fence f → IsAtLeast f fence
above_is_at_least f fence less is =
    let turned = entry_cmp_total.antisymm f fence ∙ ap ordering_reverse less in
    let both : ◌≡◌ {A = Ordering} Less Greater = sym is ∙ turned in absurd cc

above_fence : (low high : Option Entry) (fence : Entry) (es : List Entry)
    → ((f : Entry) → HasEntry es f → IsBelow fence f) → AreBetween low high es
    → AreBetween (Some fence) high es
above_fence low high fence [] above between = tt
above_fence low high fence (e ∷ es) above between = (
  above_is_at_least e fence (above e (inl refl)),
  between.1,
  above_fence low high fence es (λ f has. above f (inr has)) between.2,
)

tied_at_least : (f fence : Entry) → entry_cmp f fence ≡ Equal → IsAtLeast f fence
tied_at_least f fence tie is =
    let both : ◌≡◌ {A = Ordering} Less Equal = sym is ∙ tie in absurd cc

-- the upper entries lie between the first of them as a fence and the high fence
upper_between : (low high : Option Entry) (fence given : Entry) (rest : List Entry)
    → entry_cmp given fence ≡ Equal → AreAscending (given ∷ rest) → AreBetween low high (given ∷ rest)
    → AreBetween (Some fence) high (given ∷ rest)
upper_between low high fence given rest tie ascending between = (
  tied_at_least given fence tie,
  between.1,
  above_fence low high fence rest
      (λ f has. sym (entry_cmp_total.congr given fence f tie) ∙ before_back given rest ascending f has)
      between.2,
)

-- the lower entries lie between the low fence and the first upper entry as a fence
lower_between : (low high : Option Entry) (fence given : Entry) (es : List Entry)
    → entry_cmp given fence ≡ Equal → EachBelow es given → AreBetween low high es
    → AreBetween low (Some fence) es
lower_between low high fence given [] tie below between = tt
lower_between low high fence given (e ∷ es) tie below between = (
  between.0,
  sym (alike_right entry_cmp_total given fence e tie) ∙ below.0,
  lower_between low high fence given es tie below.1 between.2,
)

between_back : (low high : Option Entry) (front back : List Entry)
    → AreBetween low high (front ++ back) → AreBetween low high back
between_back low high [] back between = between
between_back low high (f ∷ fs) back between = between_back low high fs back between.2

between_front : (low high : Option Entry) (front back : List Entry)
    → AreBetween low high (front ++ back) → AreBetween low high front
between_front low high [] back between = tt
between_front low high (f ∷ fs) back between =
    (between.0, between.1, between_front low high fs back between.2)

begins_front : (low : Option Entry) (front back : List Entry)
    → BeginsAsInner low (front ++ back) → BeginsAsInner low front
begins_front low [] back begins = tt
begins_front low (f ∷ fs) back begins = begins

-- an entry and the fence that it becomes stand at one place
tie_fence : (w : Bool) (page : List ℕ) (at : ℕ)
    → entry_cmp (entry_at w page at) (entry_at false page at) ≡ Equal
tie_fence w page at = cmp_from_parts (entry_at w page at) (entry_at false page at) refl refl refl

-- The right page.

pub record UpperPage (old new : List ℕ) (from m : ℕ) : Type 0 where
  pub inner : is_inner new ≡ is_inner old
  pub low : low_of new ≡ Some (entry_at false old from)
  pub high : high_of new ≡ high_of old
  pub entries : entries_of new ≡ entries_from (is_inner old) old from m
  pub lawful : IsNodePage new

pub upper_says : (old new : List ℕ) (number from n m : ℕ) → IsNodePage old → from ≡ place_of old n
    → count_in old ≡ n + suc m → TakesUpper old new number from (suc m) → end_in new ≤ length new
    → UpperPage old new from (suc m)
upper_says old new number from n m is from_is count t inside =
    let w = is_inner old in
    let fl = 8 + key_len old from in
    let long = end_of-least false old from in
    let inner : is_inner new ≡ w = ap (λ (x : ℕ). nat_lt 0 x) t.level in
    let fence : entry_at false new CONTENT_AT ≡ entry_at false old from =
    entry_stands false old new from CONTENT_AT fl t.low (omega (arith, long)) in
    let low : low_of new ≡ Some (entry_at false old from) =
    there_is (has_low new) (Some (entry_at false new CONTENT_AT)) None t.there_low ∙
    ap (λ (e : Entry). Some e) fence in
    let ends_low = end_stands false old new from CONTENT_AT fl t.low (omega arith) in
    let high_place : high_at new ≡ CONTENT_AT + fl =
    there_is (has_low new) (end_of false new CONTENT_AT) CONTENT_AT t.there_low ∙
    omega (arith, ends_low, long) in
    let high = fence_moves (has_high old) (has_high new) old new (high_at old) (CONTENT_AT + fl)
    (high_at new) t.there_high high_place t.high in
    let first : first_at new ≡ CONTENT_AT + fl + (first_at old - high_at old) = high.1 in
    let old_place : place_from w old from (suc m) ≡ end_in old =
    ap (λ (x : ℕ). place_from w old x (suc m)) (from_is ∙ place_of-walk old n) ∙
    (place_from-add w old (first_at old) n (suc m) ∙
    (ap (place_from w old (first_at old)) (sym count) ∙
    (sym (place_of-walk old (count_in old)) ∙ sym is.ends))) in
    let from_end : from ≤ end_in old =
    let up = place_from-least w old from (suc m) in omega (arith, up, old_place) in
    let walk = walk_stands w old new from (CONTENT_AT + fl + (first_at old - high_at old))
    (end_in old - from) (suc m) t.entries (omega (arith, old_place, from_end)) in
    let entries : entries_of new ≡ entries_from w old from (suc m) =
    entries_of-walk new ∙ (same_walk new (is_inner new) w (first_at new)
    (CONTENT_AT + fl + (first_at old - high_at old)) (count_in new) (suc m) inner first t.count_is ∙
    walk.0) in
    let place : place_of new (count_in new)
    ≡ place_from w new (CONTENT_AT + fl + (first_at old - high_at old)) (suc m) =
    place_of-walk new (count_in new) ∙ same_place new (is_inner new) w (first_at new)
    (CONTENT_AT + fl + (first_at old - high_at old)) (count_in new) (suc m) inner first t.count_is in
    let walk_place = walk.1 in
    let end_is = t.end_is in
    let ends : end_in new ≡ place_of new (count_in new) =
    omega (arith, place, walk_place, end_is, old_place, from_end) in
    let within : n ≤ count_in old = omega (arith, count) in
    let front = entries_from w old (first_at old) n in
    let back = entries_from w old from (suc m) in
    let rest = entries_from w old (end_of w old from) m in
    let parts : entries_of old ≡ front ++ back =
    two_parts old n within ∙ ap (λ (es : List Entry). front ++ es)
    (same_walk old w w (place_of old n) from (count_in old - n) (suc m) refl (sym from_is)
    (omega (arith, count))) in
    let most = length old / 8 in
    let short : ShortKeys most back =
    short_back most front back (subst (ShortKeys most) parts (short_of old is)) in
    let ascending : AreAscending back =
    ascending_back front back (subst AreAscending parts is.ascending) in
    let between : AreBetween (low_of old) (high_of old) back =
    between_back (low_of old) (high_of old) front back
    (subst (AreBetween (low_of old) (high_of old)) parts is.between) in
    let size = t.size in
    let here : AreBetween (Some (entry_at false old from)) (high_of old) back =
    upper_between (low_of old) (high_of old) (entry_at false old from) (entry_at w old from) rest
    (tie_fence w old from) ascending between in
    record {
      inner = inner;
      low = low;
      high = high.0;
      entries = entries;
      lawful = node_from_parts new most (ap (λ (x : ℕ). x / 8) size)
          (λ there. let k = len_stands old new from CONTENT_AT fl t.low (omega arith) in
          let long_key = key_of_given in omega (arith, k, long_key))
          (λ there. let old_there : has_high old ≡ true = sym t.there_high ∙ there in
          let k = high.2 old_there in let was = is.high_key old_there in omega (arith, k, was))
          ends inside (subst (ShortKeys most) (sym entries) short)
          (subst AreAscending (sym entries) ascending)
          (subst (λ (f : Option Entry). AreBetween f (high_of new) (entries_of new)) (sym low)
          (subst (λ (f : Option Entry). AreBetween (Some (entry_at false old from)) f (entries_of new))
          (sym high.0)
          (subst (AreBetween (Some (entry_at false old from)) (high_of old)) (sym entries) here)))
          (λ is_inner_page. subst (λ (f : Option Entry). BeginsAsInner f (entries_of new)) (sym low)
          (subst (BeginsAsInner (Some (entry_at false old from))) (sym entries)
          (record { key = refl; rec = refl })));
    }
  where
    key_of_given : key_len old from ≤ length old / 8
    key_of_given =
        let below : n < count_in old = omega (arith, count) in
        subst (λ (x : ℕ). key_len old x ≤ length old / 8) (sym from_is) (is.keys n below)

-- The left page.

pub record LowerPage (old new : List ℕ) (fence : Entry) (n : ℕ) : Type 0 where
  pub inner : is_inner new ≡ is_inner old
  pub low : low_of new ≡ low_of old
  pub high : high_of new ≡ Some fence
  pub entries : entries_of new ≡ entries_from (is_inner old) old (first_at old) n
  pub lawful : IsNodePage new

pub lower_says : (old new other : List ℕ) (number from n m : ℕ) → IsNodePage old
    → from ≡ place_of old n → count_in old ≡ n + suc m → CONTENT_AT ≤ high_at old
    → key_len other CONTENT_AT ≡ key_len old from
    → entry_at false other CONTENT_AT ≡ entry_at false old from
    → KeepsLower old new other number from n → end_in new ≤ length new
    → LowerPage old new (entry_at false old from) n
lower_says old new other number from n m is from_is count high_from other_key other_fence t inside =
    let w = is_inner old in
    let fl = 8 + key_len other CONTENT_AT in
    let long = end_of-least false other CONTENT_AT in
    let inner : is_inner new ≡ w = ap (λ (x : ℕ). nat_lt 0 x) t.level in
    let low = fence_moves (has_low old) (has_low new) old new CONTENT_AT CONTENT_AT CONTENT_AT
    t.there_low refl t.low in
    let high_place : high_at new ≡ high_at old =
    let moved = low.1 in omega (arith, moved, high_from) in
    let fence : entry_at false new (high_at old) ≡ entry_at false old from =
    entry_stands false other new CONTENT_AT (high_at old) fl t.high (omega (arith, long)) ∙ other_fence in
    let high : high_of new ≡ Some (entry_at false old from) =
    there_is (has_high new) (Some (entry_at false new (high_at new))) None t.there_high ∙
    (ap (λ (x : ℕ). Some (entry_at false new x)) high_place ∙ ap (λ (e : Entry). Some e) fence) in
    let ends_high = end_stands false other new CONTENT_AT (high_at old) fl t.high (omega arith) in
    let first : first_at new ≡ high_at old + fl =
    there_is (has_high new) (end_of false new (high_at new)) (high_at new) t.there_high ∙
    (ap (end_of false new) high_place ∙ omega (arith, ends_high, long)) in
    let at_walk : place_from w old (first_at old) n ≡ from = sym (from_is ∙ place_of-walk old n) in
    let up = place_from-least w old (first_at old) n in
    let walk = walk_stands w old new (first_at old) (high_at old + fl) (from - first_at old) n t.entries
    (omega (arith, at_walk, up)) in
    let entries : entries_of new ≡ entries_from w old (first_at old) n =
    entries_of-walk new ∙ (same_walk new (is_inner new) w (first_at new) (high_at old + fl)
    (count_in new) n inner first t.count_is ∙ walk.0) in
    let place : place_of new (count_in new) ≡ place_from w new (high_at old + fl) n =
    place_of-walk new (count_in new) ∙ same_place new (is_inner new) w (first_at new)
    (high_at old + fl) (count_in new) n inner first t.count_is in
    let walk_place = walk.1 in
    let end_is = t.end_is in
    let ends : end_in new ≡ place_of new (count_in new) =
    omega (arith, place, walk_place, end_is, at_walk, up) in
    let within : n ≤ count_in old = omega (arith, count) in
    let front = entries_from w old (first_at old) n in
    let back = entries_from w old from (suc m) in
    let rest = entries_from w old (end_of w old from) m in
    let parts : entries_of old ≡ front ++ back =
    two_parts old n within ∙ ap (λ (es : List Entry). front ++ es)
    (same_walk old w w (place_of old n) from (count_in old - n) (suc m) refl (sym from_is)
    (omega (arith, count))) in
    let most = length old / 8 in
    let short : ShortKeys most front =
    short_front most front back (subst (ShortKeys most) parts (short_of old is)) in
    let all_ascending : AreAscending (front ++ back) = subst AreAscending parts is.ascending in
    let between : AreBetween (low_of old) (high_of old) front =
    between_front (low_of old) (high_of old) front back
    (subst (AreBetween (low_of old) (high_of old)) parts is.between) in
    let here : AreBetween (low_of old) (Some (entry_at false old from)) front =
    lower_between (low_of old) (high_of old) (entry_at false old from) (entry_at w old from) front
    (tie_fence w old from) (front_below front rest (entry_at w old from) all_ascending) between in
    let size = t.size in
    record {
      inner = inner;
      low = low.0;
      high = high;
      entries = entries;
      lawful = node_from_parts new most (ap (λ (x : ℕ). x / 8) size)
          (λ there. let old_there : has_low old ≡ true = sym t.there_low ∙ there in
          let k = low.2 old_there in let was = is.low_key old_there in omega (arith, k, was))
          (λ there. let same = ap (key_len new) high_place in
          let k = len_stands other new CONTENT_AT (high_at old) fl t.high (omega arith) in
          let was = key_of_given in omega (arith, same, k, other_key, was))
          ends inside (subst (ShortKeys most) (sym entries) short)
          (subst AreAscending (sym entries) (ascending_front front back all_ascending))
          (subst (λ (f : Option Entry). AreBetween f (high_of new) (entries_of new)) (sym low.0)
          (subst (λ (f : Option Entry). AreBetween (low_of old) f (entries_of new)) (sym high)
          (subst (AreBetween (low_of old) (Some (entry_at false old from))) (sym entries) here)))
          (λ is_inner_page. subst (λ (f : Option Entry). BeginsAsInner f (entries_of new)) (sym low.0)
          (subst (BeginsAsInner (low_of old)) (sym entries)
          (begins_front (low_of old) front back
          (subst (BeginsAsInner (low_of old)) parts
          (is.first (sym inner ∙ is_inner_page))))));
    }
  where
    key_of_given : key_len old from ≤ length old / 8
    key_of_given =
        let below : n < count_in old = omega (arith, count) in
        subst (λ (x : ℕ). key_len old x ≤ length old / 8) (sym from_is) (is.keys n below)
