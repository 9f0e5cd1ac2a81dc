-- Lemmas of a root that splits: its new content.
use Rattle.std.proofs.Common.{◌≡◌, ◌⊎◌, inl, inr, ◌∙◌, ap, refl, sym, subst, ◌<◌, ◌≤◌, ◌+◌, ◌/◌, ◌-◌, ℕ, zero, suc, Bool, true, false, List, [], ◌∷◌, ◌++◌, Some, None, take, drop, length, arith}
use Rattle.std.specs.Prelude.{nat_lt}
use Rattle.std.proofs.lemmas.Bool.{lt-ltb}
use Rattle.std.proofs.lemmas.List.{length-drop}
use Rattle.mg_base.specs.Fields.{u16_apart32, u16_at, with_u32}
use Rattle.mg_base.specs.declared.fields.TheConstants.{OWN_AT}
use Rattle.mg_node.specs.declared.entry.Entry.{Entry}
use Rattle.mg_node.specs.declared.entry.TheConstants.{CHILD_LEN, CONTENT_AT, END_AT, KEY_AT, RECORD_LEN}
use Rattle.mg_node.specs.NodePage.{AreAscending, IsBelow, IsLeast, IsNodePage, SamePlace, count_in, end_in, end_of, entries_of, entry_at, first_at, first_entries, has_high, has_low, high_at, high_of, is_inner, key_len, level_in, low_of, place_of}
use Rattle.mg_node.specs.NodeWalk.{least_len}
use Rattle.mg_node_writing.specs.ChangePromises.{InsertsBehindFirst}
use Rattle.mg_node_writing.specs.Moves.{entry_len}
use Rattle.mg_node_writing.specs.NewNodes.{CopiesNode, IsNewNode}
use Rattle.mg_node_writing.specs.NodeChanges.{InsertsEntry, IsEntryOf, TakesEntry, most_need, room_in}
use Rattle.mg_tree_overlay_laws.specs.DescentLaws.{ascends, last_has}
use Rattle.mg_image.specs.Indexes.{as_fence}
use Rattle.mg_btree.specs.ChangeLaws.{same_fields}
use Rattle.mg_btree.specs.Growing.{NamesOne, NamesTwo}
use Rattle.mg_btree.specs.Halves.{AreHalves, CoversBy, HasPlace, HasRoom, NamesMore}
use Rattle.mg_btree.specs.ParentLaws.{none_below_least}
use Rattle.mg_btree.specs.RoomLaws.{fence_by}
use Rattle.mg_btree.specs.SplitSteps.{IsGrownRoot, count_is}
use Rattle.mg_btree.specs.declared.halves.Halves.{Halves}

-- ---- a page that has no fences

no_low : (page : List ℕ) → low_of page ≡ None → has_low page ≡ false
no_low page is = at (has_low page) refl
  where
    at : (b : Bool) → has_low page ≡ b → b ≡ false
    at false same = refl
    at true same = let some : Some (entry_at false page CONTENT_AT) ≡ None = sym (rw same refl) ∙ is in absurd cc

no_high : (page : List ℕ) → high_of page ≡ None → has_high page ≡ false
no_high page is = at (has_high page) refl
  where
    at : (b : Bool) → has_high page ≡ b → b ≡ false
    at false same = refl
    at true same = let some : Some (entry_at false page (high_at page)) ≡ None = sym (rw same refl) ∙ is in absurd cc

first_is : (page : List ℕ) → low_of page ≡ None → high_of page ≡ None → first_at page ≡ 28
first_is page low high = rw (no_high page high, no_low page low) refl

none_count : (page : List ℕ) → entries_of page ≡ [] → count_in page ≡ 0
none_count page is = sym (count_is page) ∙ ap (λ (es : List Entry). length es) is

one_count : (page : List ℕ) (e : Entry) → entries_of page ≡ e ∷ [] → count_in page ≡ 1
one_count page e is = sym (count_is page) ∙ ap (λ (es : List Entry). length es) is

end_none : (page : List ℕ) → IsNodePage page → low_of page ≡ None → high_of page ≡ None
    → entries_of page ≡ [] → end_in page ≡ 28
end_none page lawful low high none = lawful.ends
    ∙ (ap (λ (n : ℕ). place_of page n) (none_count page none) ∙ first_is page low high)

one_there : (page : List ℕ) (e : Entry) → entries_of page ≡ e ∷ [] → count_in page ≡ 1
    → entry_at (is_inner page) page (first_at page) ≡ e
unfolding entries_of
one_there page e is one =
    let same : first_entries page 1 ≡ e ∷ [] = ap (λ (n : ℕ). first_entries page n) (sym one) ∙ is in
    let both : entry_at (is_inner page) page (first_at page) ∷ [] ≡ e ∷ [] = same in cc

empty_key : (n : ℕ) (xs : List ℕ) → take n xs ≡ [] → 0 < length xs → n ≡ 0
empty_key zero xs is some = refl
empty_key (suc n) [] is some = absurd (omega (arith, some))
empty_key (suc n) (x ∷ xs) is some = absurd cc

end_one : (page : List ℕ) (e : Entry) → IsNodePage page → low_of page ≡ None → high_of page ≡ None
    → entries_of page ≡ e ∷ [] → e.key ≡ [] → 1024 ≤ length page → end_in page ≤ 40
end_one page e lawful low high is empty least = bound (is_inner page) refl
  where
    at : first_at page ≡ 28
    at = first_is page low high

    key_none : take (key_len page (first_at page)) (drop (first_at page + KEY_AT) page) ≡ []
    key_none = ap (λ (x : Entry). x.key) (one_there page e is (one_count page e is)) ∙ empty

    long : 0 < length (drop (first_at page + KEY_AT) page)
    long = let len = length-drop (first_at page + KEY_AT) page in omega (arith, len, at, least)

    none : key_len page (first_at page) ≡ 0
    none = empty_key (key_len page (first_at page)) (drop (first_at page + KEY_AT) page) key_none long

    ends : end_in page ≡ end_of (is_inner page) page (first_at page)
    ends = lawful.ends ∙ ap (λ (n : ℕ). place_of page n) (one_count page e is)

    bound : (b : Bool) → is_inner page ≡ b → end_in page ≤ 40
    bound true inner =
        let end : end_in page ≡ first_at page + KEY_AT + key_len page (first_at page) + RECORD_LEN + CHILD_LEN =
        ends ∙ rw inner refl in omega (arith, end, at, none)
    bound false inner =
        let end : end_in page ≡ first_at page + KEY_AT + key_len page (first_at page) + RECORD_LEN + 0 =
        ends ∙ rw inner refl in omega (arith, end, at, none)

-- ---- the two entries of the new root

pub inner_of : (page : List ℕ) (level : ℕ) → level_in page ≡ level → 0 < level → is_inner page ≡ true
inner_of page level is some = lt-ltb 0 (level_in page) (omega (arith, is, some))

pub inner_next : (page : List ℕ) (level : ℕ) → level_in page ≡ level + 1 → is_inner page ≡ true
inner_next page level is = inner_of page (level + 1) is (omega arith)

no_entry : (page : List ℕ) (f : Entry) → entries_of page ≡ [] → IsEntryOf page f → ⊥
no_entry page f none is = at is.front (sym none ∙ is.is)
  where
    at : (front : List Entry) → [] ≡ front ++ f ∷ is.back → ⊥
    at [] same = cc
    at (x ∷ xs) same = cc

module _ (page : List ℕ) (number owner level : ℕ) (first : Entry) (new : IsNewNode page number owner level)
    (inner : 0 < level) (least : IsLeast first) where
  pub takes_first : TakesEntry page first
  takes_first = record {
    short = rw least.key (omega arith);
    from = rw new.low tt;
    below = rw new.high tt;
    leaf = λ leaf. let both : true ≡ false = sym (inner_of page level new.on_level inner) ∙ leaf in absurd cc;
    one_child = λ f has same. absurd (no_entry page f new.entries has);
    first = λ is empty. rw new.low least;
  }

  pub first_absent : IsEntryOf page first → ⊥
  first_absent = no_entry page first new.entries

  pub room_first : 1024 ≤ length page → entry_len (is_inner page) first ≤ room_in page
  room_first size =
      let end = end_none page new.lawful new.low new.high new.entries in
      let key : length first.key ≡ 0 = ap (λ (k : List ℕ). length k) least.key in
      at (is_inner page) end key
    where
      at : (b : Bool) → end_in page ≡ 28 → length first.key ≡ 0 → entry_len b first ≤ room_in page
      at true end key = omega (arith, end, key, size)
      at false end key = omega (arith, end, key, size)

one_entry : (front back : List Entry) (e : Entry) → [] ≡ front ++ back → front ++ e ∷ back ≡ e ∷ []
one_entry [] [] e is = refl
one_entry [] (x ∷ xs) e is = absurd cc
one_entry (x ∷ xs) back e is = absurd cc

pub has_first : (old page : List ℕ) (first : Entry) → entries_of old ≡ [] → InsertsEntry old page first
    → entries_of page ≡ first ∷ []
has_first old page first none is = is.is ∙ one_entry is.front is.back first (sym none ∙ is.was)

pub names_one : (size number owner level : ℕ) (first : Entry) (old page : List ℕ)
    → IsNewNode old number owner level → length old ≡ size → InsertsEntry old page first
    → IsNodePage page → NamesOne size number owner level first page
names_one size number owner level first old page new len inserts lawful = record {
  len = inserts.keeps.size ∙ len;
  fields = same_fields old page number owner inserts.keeps new.fields;
  lawful = lawful;
  on_level = inserts.keeps.level ∙ new.on_level;
  right = inserts.keeps.right ∙ new.right;
  low = inserts.keeps.low ∙ new.low;
  high = inserts.keeps.high ∙ new.high;
  is = has_first old page first new.entries inserts;
}

module _ (size number owner level : ℕ) (first second : Entry) (page : List ℕ)
    (one : NamesOne size number owner level first page) (inner : 0 < level) (least : IsLeast first)
    (apart : IsLeast second → ⊥) where
  pub one_inner : is_inner page ≡ true
  one_inner = inner_of page level one.on_level inner

  pub one_some : 0 < count_in page
  one_some = let count = one_count page first one.is in omega (arith, count)

  pub one_covers : CoversBy page second
  one_covers = (rw one.low tt, rw one.high tt)

  pub one_free : HasPlace (entries_of page) second → ⊥
  one_free has = at (subst (λ (es : List Entry). HasPlace es second) one.is has)
    where
      at : SamePlace second first ⊎ ⊥ → ⊥
      at (inl same) = apart (record {
        key = same.key ∙ least.key;
        page = ap (λ r. r.page.0) same.rec ∙ least.page;
        slot = ap (λ r. r.slot) same.rec ∙ least.slot;
      })
      at (inr none) = none

  pub one_room : 1024 ≤ size → length second.key ≤ size / 8 → HasRoom page second
  one_room least_size short =
      let len = one.len in
      let end = end_one page first one.lawful one.low one.high one.is least.key (omega (arith, len, least_size)) in
      at (is_inner page) end len
    where
      at : (b : Bool) → end_in page ≤ 40 → length page ≡ size → entry_len b second ≤ room_in page
      at true end len = omega (arith, end, len, least_size, short)
      at false end len = omega (arith, end, len, least_size, short)

  two_entries : (last : List ℕ) → InsertsBehindFirst page last second
      → entries_of last ≡ first ∷ second ∷ []
  two_entries last is = is.is ∙ at is.first is.front is.back (sym one.is ∙ is.was)
    where
      at : (x : Entry) (front back : List Entry) → first ∷ [] ≡ x ∷ front ++ back
          → x ∷ front ++ second ∷ back ≡ first ∷ second ∷ []
      at x [] [] same = let is_x : first ≡ x = cc in ap (λ (y : Entry). y ∷ second ∷ []) (sym is_x)
      at x [] (b ∷ bs) same = absurd cc
      at x (f ∷ fs) back same = absurd cc

  pub names_two : (last : List ℕ) → NamesMore page last second
      → NamesTwo size number owner level first second last
  names_two last names = record {
    len = names.keeps.size ∙ one.len;
    fields = same_fields page last number owner names.keeps one.fields;
    lawful = names.lawful;
    on_level = names.keeps.level ∙ one.on_level;
    right = names.keeps.right ∙ one.right;
    low = names.keeps.low ∙ one.low;
    high = names.keeps.high ∙ one.high;
    is = two_entries last names.inserts;
  }

-- ---- the halves of a copy

pub copy_full : (from to : List ℕ) (number : ℕ) → to ≡ with_u32 from OWN_AT number
    → CopiesNode from to number → room_in from < most_need from → room_in to < most_need to
copy_full from to number is copies full =
    let end : end_in to ≡ end_in from = ap (λ (b : List ℕ). u16_at b END_AT) is
    ∙ u16_apart32 from OWN_AT number END_AT (λ le. omega arith) in
    let inner : is_inner to ≡ is_inner from = ap (λ (k : ℕ). nat_lt 0 k) copies.level in
    let size = copies.size in
    at (is_inner to) (is_inner from) inner end size full
  where
    at : (b c : Bool) → b ≡ c → end_in to ≡ end_in from → length to ≡ length from
        → length from - end_in from < least_len c + length from / 8
        → length to - end_in to < least_len b + length to / 8
    at b c same end size less = rw (same, end, size) less

pub fence_not_least : (old : List ℕ) (own at : ℕ) (halves : Halves) → IsNodePage old
    → AreHalves old own at halves → IsLeast halves.fence → ⊥
fence_not_least old own at halves lawful is least =
    let splits = is.pair.splits in
    none_below_least splits.first halves.fence least
    (subst (λ (x : Entry). IsBelow splits.first x)
    (sym (fence_by old halves.left.bytes halves.right.bytes at halves.fence is.fence splits))
    (ascends splits.first (splits.kept ++ splits.given ∷ splits.rest) splits.given
    (subst AreAscending splits.was lawful.ascending) (last_has splits.kept splits.rest splits.given)))

pub halves_at : (old : List ℕ) (own n at : ℕ) (halves : Halves) → own ≡ n → AreHalves old own at halves
    → AreHalves old n at halves
halves_at old own n at halves same is = subst (λ (k : ℕ). AreHalves old k at halves) same is

pub grown_root : (size owner root level a b next : ℕ) (first fence : Entry) (page left right copy : List ℕ)
    (halves : Halves) (is : AreHalves copy a b halves) → next ≡ suc level
    → NamesTwo size root owner next first fence page → first.child.0 ≡ a → fence ≡ halves.fence
    → IsGrownRoot owner root level a b is.pair.splits.given page
grown_root size owner root level a b next first fence page left right copy halves is up names child same =
    record {
      fields = names.fields;
      lawful = names.lawful;
      on_level = names.on_level ∙ up;
      right = names.right;
      low = names.low;
      high = names.high;
      to_a = first;
      to_b = fence;
      is = names.is;
      a_child = child;
      b_child = ap (λ (e : Entry). e.child.0) same ∙ is.child;
      b_fence = ap (λ (e : Entry). as_fence e) same
          ∙ fence_by copy halves.left.bytes halves.right.bytes b halves.fence is.fence is.pair.splits;
    }
