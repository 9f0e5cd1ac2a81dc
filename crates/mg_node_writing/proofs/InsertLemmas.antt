-- A page into which an entry is put, and one out of which it is taken.
use Rattle.std.specs.Prelude.{◌≡◌, ℕ, suc, ◌+◌, ◌-◌, ◌/◌, ◌<◌, ◌≤◌, Bool, true, false, List, ◌∷◌, ◌++◌, length, Option}
use Rattle.std.proofs.Common.{refl, sym, ap, ◌∙◌, arith, subst}
use Rattle.mg_base.specs.Fields.{byte}
use Rattle.mg_node.specs.declared.entry.Entry.{Entry}
use Rattle.mg_node.specs.NodePage.{AreAscending, AreBetween, BeginsAsInner, IsNodePage, count_in, end_in, end_of, entries_of, entry_at, first_at, high_of, is_inner, key_len, low_of, place_of}
use Rattle.mg_node.specs.NodeReading.{IsBeforeFirst}
use Rattle.mg_node.specs.NodeTestLaws.{few_enough}
use Rattle.mg_node.specs.NodeWalk.{entries_from, least_len}
use Rattle.mg_node.specs.NodeWalkLaws.{end_of-least, entries_of-walk, place_of-walk}
use Rattle.mg_node_writing.specs.MoveLaws.{end_stands, entry_stands}
use Rattle.mg_node_writing.specs.Moves.{Puts, PutsEntry, Stands, as_placed, entry_len}
use Rattle.mg_node_writing.specs.NodeChanges.{InsertsEntry, KeepsNode, RemovesEntry, TakesEntry, room_in}
use Rattle.mg_node_writing.specs.Splices.{Closes, IsSeat, Opens, SetsEnd, ShortKeys, Splices, StandsAt}
use Rattle.mg_node_writing.proofs.ListLemmas.{ascending_insert, ascending_remove, begins_insert, between_insert, between_remove, short_append, short_back, short_front}
use Rattle.mg_node_writing.proofs.SeatLemmas.{laid_out_of, place_behind, seated}
use Rattle.mg_node_writing.proofs.SpliceLemmas.{SplicedPage, keeps_node, lawful_spliced, short_from_keys, splice_says}

-- a lawful page has fewer entries than a field of two bytes can count
most_fit : (w : Bool) (len count : ℕ) → len ≤ 16384 → count ≤ (len - 28) / least_len w
    → count + 1 < 65536
most_fit true len count most few = omega arith
most_fit false len count most few = omega arith

pub count_small : (page : List ℕ) → IsNodePage page → length page ≤ 16384
    → count_in page + 1 < 65536
count_small page is most =
    most_fit (is_inner page) (length page) (count_in page) most
    (few_enough page (subst (λ (n : ℕ). n ≤ length page) is.ends is.inside))

entry_two : (w : Bool) (e : Entry) → 2 ≤ entry_len w e
entry_two true e = omega arith
entry_two false e = omega arith

-- the bytes of an insertion
pub opens : (old b1 b2 new : List ℕ) (w : Bool) (at end len count : ℕ) (e : Entry) → w ≡ is_inner old
    → end ≡ end_in old → len ≡ entry_len (is_inner old) e → count ≡ count_in old → 28 ≤ at → at ≤ end
    → end + len ≤ length old
    → Puts old old b1 at (at + len) (end - at) → PutsEntry w b1 b2 at e
    → SetsEnd b2 new (count + 1) (end + len) → Opens old new at e
opens old b1 b2 new w at end len count e w_is end_is len_is count_is far up room moved put set =
    let entry_long : entry_len w e ≡ len = ap (λ (v : Bool). entry_len v e) w_is ∙ sym len_is in
    let size2 = put.size in let size1 = moved.size in let size3 = set.size in
    let stays : Stands b2 new at at len = record {
      bytes = λ k below. set.others (at + k) (λ le. omega arith) (λ le. omega arith);
      there = omega (arith, size1, size2);
      here = omega (arith, size1, size2, size3);
    } in
    let put_end = put.end in
    let two = entry_two w e in
    let entry = entry_stands w b2 new at at len stays (omega (arith, put_end, entry_long)) in
    let ends = end_stands w b2 new at at len stays (omega (arith, two, entry_long)) in
    let set_end = set.end_is in
    record {
      common = λ k below. set.others k (λ le. omega arith) (λ le. omega arith) ∙
          (put.others k (λ le. omega arith) ∙ moved.others k (λ le. omega arith));
      splices = record {
        size = omega (arith, size1, size2, size3);
        before = λ k from below one two. set.others k one two ∙
            (put.others k (λ le. omega arith) ∙ moved.others k (λ le. omega arith));
        moved = λ k below. shifted k (omega (arith, end_is));
        end = omega (arith, set_end, end_is, len_is);
      };
      entry = subst (λ (v : Bool). entry_at v new at ≡ as_placed v e) w_is (entry ∙ put.entry);
      end_is = subst (λ (v : Bool). end_of v new at ≡ at + entry_len (is_inner old) e) w_is
          (omega (arith, ends, put_end, entry_long, len_is));
      count = let c = set.count_is in omega (arith, c, count_is);
    }
  where
    shifted : (k : ℕ) → k < end - at
        → byte new (at + entry_len (is_inner old) e + k) ≡ byte old (at + k)
    shifted k below =
        let long : entry_len w e ≡ len = ap (λ (v : Bool). entry_len v e) w_is ∙ sym len_is in
        let a = set.others (at + len + k) (λ le. omega arith) (λ le. omega arith) in
        let b = put.others (at + len + k) (λ le. omega (arith, long)) in
        let c = moved.bytes k below in
        subst (λ (x : ℕ). byte new (at + x + k) ≡ byte old (at + k)) len_is (a ∙ (b ∙ c))

-- an entry takes at least the bytes of one with an empty key
pub entry_behind : (w : Bool) (page : List ℕ) (at : ℕ) → at ≤ end_of w page at
entry_behind w page at = let long = end_of-least w page at in omega (arith, long)

-- an entry stands on a page as it is, where a leaf's has no child
placed_as_is : (w : Bool) (e : Entry) → (w ≡ false → e.child.0 ≡ 0) → as_placed w e ≡ e
placed_as_is true e leaf = refl
placed_as_is false e leaf =
    let none = leaf refl in
    ap (λ (c : ℕ). record { key = e.key; rec = e.rec; child = record { 0 = c } }) (sym none)

-- both parts of what an insertion is to do
pub record Inserted (old new : List ℕ) (e : Entry) : Type 0 where
  pub inserts : InsertsEntry old new e
  pub lawful : IsNodePage new

pub short_of : (page : List ℕ) → IsNodePage page → ShortKeys (length page / 8) (entries_of page)
short_of page is =
    let place = place_of-walk page (count_in page) in
    let ends = is.ends in let inside = is.inside in
    subst (ShortKeys (length page / 8)) (sym (entries_of-walk page))
    (short_from_keys (is_inner page) page (length page / 8) (first_at page) (count_in page)
    (omega (arith, place, ends, inside))
    (λ i below. subst (λ (x : ℕ). key_len page x ≤ length page / 8) (place_of-walk page i)
    (is.keys i below)))

pub inserted : (old new : List ℕ) (at n : ℕ) (e : Entry) → IsNodePage old → TakesEntry old e
    → IsSeat old e n → (StandsAt old n e → ⊥) → at ≡ place_of old n
    → entry_len (is_inner old) e ≤ room_in old → Opens old new at e → Inserted old new e
inserted old new at n e is takes seat apart at_is room o =
    let w = is_inner old in
    let m = count_in old - n in
    let s = seated old e n seat apart in
    let within = seat.within in
    let behind = place_behind old n in
    let end_splice = o.splices.end in
    let old_inside = is.inside in
    let size = o.splices.size in
    let count = o.count in
    let inside : end_in new ≤ length new = omega (arith, end_splice, room, size, old_inside) in
    let page : SplicedPage old new at at n 0 1 m =
    splice_says old new at at (at + entry_len w e) n 0 1 m (laid_out_of old is) is.ends o.splices at_is
    refl (omega (arith, within)) (sym o.end_is) (omega (arith, count, within)) inside in
    let front = entries_from w old (first_at old) n in
    let back = entries_from w old at m in
    let is_e : entry_at w new at ≡ e = o.entry ∙ placed_as_is w e takes.leaf in
    let entries : entries_of new ≡ front ++ e ∷ back =
    page.entries ∙ ap (λ (f : Entry). front ++ f ∷ back) is_e in
    let was : entries_of old ≡ front ++ back = page.was in
    let before : IsBeforeFirst e back =
    subst (λ (x : ℕ). IsBeforeFirst e (entries_from w old x m)) (sym at_is) s.before in
    let short = subst (ShortKeys (length old / 8)) was (short_of old is) in
    record {
      inserts = record {
        keeps = keeps_node old new at at (at + entry_len w e) n 0 1 m o.splices
            (omega (arith, behind, at_is)) o.common page;
        front = front;
        back = back;
        was = was;
        is = entries;
      };
      lawful = lawful_spliced old new at at n 0 1 m is page inside
          (subst (ShortKeys (length old / 8)) (sym entries)
          (short_append (length old / 8) front (e ∷ back)
          (short_front (length old / 8) front back short)
          (takes.short, short_back (length old / 8) front back short)))
          (subst AreAscending (sym entries)
          (ascending_insert front back e (subst AreAscending was is.ascending) s.below before))
          (subst (AreBetween (low_of old) (high_of old)) (sym entries)
          (between_insert (low_of old) (high_of old) front back e
          (subst (AreBetween (low_of old) (high_of old)) was is.between) takes.from takes.below))
          (λ inner. subst (BeginsAsInner (low_of old)) (sym entries)
          (begins_insert (low_of old) front back e
          (subst (BeginsAsInner (low_of old)) was (is.first inner)) before takes.from
          (λ none. takes.first inner (was ∙ none))));
    }

-- The bytes of a removal.
pub closes : (old b1 new : List ℕ) (at from end count : ℕ) → from ≡ end_of (is_inner old) old at
    → end ≡ end_in old → count ≡ count_in old → 28 ≤ at → at ≤ from → from ≤ end → 0 < count
    → Puts old old b1 from at (end - from) → SetsEnd b1 new (count - 1) (end - (from - at))
    → Closes old new at
closes old b1 new at from end count from_is end_is count_is far up inside some moved set =
    let size1 = moved.size in let size3 = set.size in
    let set_end = set.end_is in let set_count = set.count_is in record {
      common = λ k below. set.others k (λ le. omega arith) (λ le. omega arith) ∙
          moved.others k (λ le. omega arith);
      splices = subst (λ (x : ℕ). Splices old new at x at) from_is (record {
        size = omega (arith, size1, size3);
        before = λ k low below one two. set.others k one two ∙ moved.others k (λ le. omega arith);
        moved = λ k below. set.others (at + k) (λ le. omega arith) (λ le. omega arith) ∙
            moved.bytes k (omega (arith, end_is));
        end = omega (arith, set_end, end_is);
      });
      count = omega (arith, set_count, count_is);
    }

-- both parts of what a removal is to do
pub record Removed (old new : List ℕ) (e : Entry) : Type 0 where
  pub removes : RemovesEntry old new e
  pub lawful : (is_inner new ≡ true → BeginsAsInner (low_of new) (entries_of new)) → IsNodePage new

pub removed : (old new : List ℕ) (at n : ℕ) (e : Entry) → IsNodePage old → n < count_in old
    → at ≡ place_of old n → entry_at (is_inner old) old at ≡ e → Closes old new at → Removed old new e
removed old new at n e is below at_is is_e c =
    let w = is_inner old in
    let m = count_in old - suc n in
    let from = end_of w old at in
    let behind = place_behind old n in
    let end_splice = c.splices.end in
    let old_inside = is.inside in
    let size = c.splices.size in
    let count = c.count in
    let least = end_of-least w old at in
    let inside : end_in new ≤ length new = omega (arith, end_splice, size, old_inside, least) in
    let page : SplicedPage old new at from n 1 0 m =
    splice_says old new at from at n 1 0 m (laid_out_of old is) is.ends c.splices at_is
    refl (omega (arith, below)) refl (omega (arith, count, below)) inside in
    let front = entries_from w old (first_at old) n in
    let back = entries_from w old from m in
    let entries : entries_of new ≡ front ++ back = page.entries in
    let was : entries_of old ≡ front ++ e ∷ back =
    page.was ∙ ap (λ (f : Entry). front ++ f ∷ back) is_e in
    let short = subst (ShortKeys (length old / 8)) was (short_of old is) in
    record {
      removes = record {
        keeps = keeps_node old new at from at n 1 0 m c.splices (omega (arith, behind, at_is)) c.common
            page;
        front = front;
        back = back;
        was = was;
        is = entries;
      };
      lawful = λ begins. lawful_spliced old new at from n 1 0 m is page inside
          (subst (ShortKeys (length old / 8)) (sym entries)
          (short_append (length old / 8) front back
          (short_front (length old / 8) front (e ∷ back) short)
          (short_back (length old / 8) front (e ∷ back) short).1))
          (subst AreAscending (sym entries)
          (ascending_remove front back e (subst AreAscending was is.ascending)))
          (subst (AreBetween (low_of old) (high_of old)) (sym entries)
          (between_remove (low_of old) (high_of old) front back e
          (subst (AreBetween (low_of old) (high_of old)) was is.between)))
          (λ inner. subst (λ (f : Option Entry). BeginsAsInner f (entries_of new)) page.head.low
          (begins (page.head.inner ∙ inner)));
    }

-- a page that stays keeps all
pub stays : (page : List ℕ) → KeepsNode page page
stays page = record {
  size = refl;
  front = refl;
  level = refl;
  right = refl;
  low = refl;
  high = refl;
}

pub stays_as : (old new : List ℕ) → new ≡ old → KeepsNode old new
stays_as old new same = subst (KeepsNode old) (sym same) (stays old)
