-- Lawful index pages are laid out, and what is read of a page that is laid out.
use Rattle.std.proofs.Common.{◌≡◌, ◌<◌, ◌≤◌, ◌+◌, ◌/◌, ◌⊎◌, inl, inr, ◌++◌, [], ◌∷◌, ℕ, zero, suc, Bool, true, false, List, length, refl, sym, ap, subst, ◌∙◌, add-one, arith}
use Rattle.std.specs.Prelude.{slice_get, Option, Some, None, if◌then◌else◌}
use Rattle.std.proofs.lemmas.Bool.{cases_lt}
use Rattle.mg_node.specs.declared.entry.Entry.{Entry}
use Rattle.mg_node.specs.declared.node.Listed.{Listed}
use Rattle.mg_node.specs.declared.placed.Placed.{Placed}
use Rattle.mg_node.specs.declared.entry.TheConstants.{CONTENT_AT}
use Rattle.mg_node.specs.NodePage.{IsNodePage, count_in, end_of, entries_of, entry_at, first_at, first_entries, has_high, has_low, high_at, is_inner, key_len, place_of}
use Rattle.mg_node.specs.NodeTestLaws.{choose_up}
use Rattle.mg_node.specs.NodeWalkLaws.{entries_of-walk, entry-get, entry-get_past, place_of-walk}
use Rattle.mg_node.specs.NodeReading.{AreFirst, IsLaidOut, IsListOf, IsPlaced, IsWithin}

-- a place with a child or without ends behind where it begins
pub ends_behind : (with_child : Bool) (page : List ℕ) (at : ℕ) → at + 8 ≤ end_of with_child page at
ends_behind true page at = omega arith
ends_behind false page at = omega arith

-- entries stand one behind the other
pub places_ascend : (page : List ℕ) (m n : ℕ) → n ≤ m → place_of page n ≤ place_of page m
places_ascend page zero n le = let same : n ≡ 0 = omega arith in rw same (omega arith)
places_ascend page (suc m) n le = at (λ before. places_ascend page m n before) (cases_lt n (suc m))
  where
    at : (n ≤ m → place_of page n ≤ place_of page m) → (n < suc m) ⊎ (suc m ≤ n)
        → place_of page n ≤ place_of page (suc m)
    at earlier (inl before) =
        let up = earlier (omega arith) in
        let ends = ends_behind (is_inner page) page (place_of page m) in omega arith
    at earlier (inr past) = let same : n ≡ suc m = omega arith in rw same (omega arith)

-- each entry of a page that is laid out is within it
pub entry_within : (page : List ℕ) → IsLaidOut page → (n : ℕ) → n < count_in page
    → IsWithin (is_inner page) page (place_of page n)
entry_within page is n below =
    let up : place_of page (suc n) ≤ place_of page (count_in page) =
    places_ascend page (count_in page) (suc n) (omega arith) in
    record { key = is.keys n below; ends = let inside = is.inside in omega arith }

-- the first entry begins within the page
pub first_inside : (page : List ℕ) → IsLaidOut page → first_at page ≤ length page
first_inside page is =
    let up : first_at page ≤ place_of page (count_in page) =
    places_ascend page (count_in page) 0 (omega arith) in
    let inside = is.inside in omega arith

-- one entry more is read
pub first_more : (page : List ℕ) (n at : ℕ) (es more : List Entry) (placed : Placed)
    → AreFirst page n es at → IsPlaced (is_inner page) page at placed
    → more ≡ es ++ placed.entry ∷ [] → AreFirst page (n + 1) more placed.end
first_more page n at es more placed first is more_is = rw (add-one n) (record {
  entries = entries;
  next = is.end ∙ ap (end_of (is_inner page) page) first.next;
  inside = let ends = is.within.ends in let end = is.end in omega arith;
  keys = keys;
})
  where
    entries : more ≡ first_entries page (suc n)
    entries = rw (more_is, is.entry, first.entries, first.next) refl

    keys : (k : ℕ) → k < suc n → key_len page (place_of page k) ≤ length page / 8
    keys k below = by (cases_lt k n)
      where
        by : (k < n) ⊎ (n ≤ k) → key_len page (place_of page k) ≤ length page / 8
        by (inl before) = first.keys k before
        by (inr past) =
            let same : k ≡ n = omega arith in rw (same, sym first.next) is.within.key

-- the entries of a page are read
pub all_listed : (page : List ℕ) (n at : ℕ) (listed : Listed) → AreFirst page n listed.entries.items at
    → listed.end ≡ at → n ≡ count_in page → IsListOf page listed
unfolding entries_of
all_listed page n at listed first end_is count = record {
  entries = first.entries ∙ ap (first_entries page) count;
  end = end_is ∙ (first.next ∙ ap (place_of page) count);
  keys = rw (sym count) first.keys;
  inside = rw (sym count, sym first.next) first.inside;
}

-- an entry that is not within a page is none of a page that is laid out
pub not_laid_out : (page : List ℕ) (n at : ℕ) → at ≡ place_of page n → n < count_in page
    → (IsWithin (is_inner page) page at → ⊥) → IsLaidOut page → ⊥
not_laid_out page n at at_is below outside is = outside (rw at_is (entry_within page is n below))

-- Lawful pages.

pub laid_out_of : (page : List ℕ) → IsNodePage page → IsLaidOut page
laid_out_of page is = record {
  low = is.low_key;
  high = is.high_key;
  keys = is.keys;
  inside = subst (λ (n : ℕ). n ≤ length page) is.ends is.inside;
}

behind : (there : Bool) (end start : ℕ) → there ≡ true → end ≤ (if there then end else start)
behind true end start is = omega arith
behind false end start is = absurd cc

-- the fences of a page that is laid out are within it
pub high_within : (page : List ℕ) → IsLaidOut page → has_high page ≡ true
    → IsWithin false page (high_at page)
high_within page is there = record {
  key = is.high there;
  ends = let ends = behind (has_high page) (end_of false page (high_at page)) (high_at page) there in
      let inside = first_inside page is in omega arith;
}

-- the high fence begins within the page
pub high_at_inside : (page : List ℕ) → IsLaidOut page → high_at page ≤ length page
high_at_inside page is =
    let up = choose_up (has_high page) (high_at page) (end_of false page (high_at page)) (high_at page)
    (omega arith) (ends_behind_at page (high_at page)) in
    let inside = first_inside page is in omega arith
  where
    ends_behind_at : (p : List ℕ) (at : ℕ) → at ≤ end_of false p at
    ends_behind_at p at = omega arith

pub low_within : (page : List ℕ) → IsLaidOut page → has_low page ≡ true
    → IsWithin false page CONTENT_AT
low_within page is there = record {
  key = is.low there;
  ends = let ends = behind (has_low page) (end_of false page CONTENT_AT) CONTENT_AT there in
      let inside = high_at_inside page is in omega arith;
}

-- the entry at a place among the entries
pub got : (page : List ℕ) (i : ℕ) → i < count_in page
    → Some (entry_at (is_inner page) page (place_of page i)) ≡ slice_get (entries_of page) i
got page i below = rw (entries_of-walk page, place_of-walk page i)
    (sym (entry-get (is_inner page) page (first_at page) (count_in page) i below))

pub got_none : (page : List ℕ) (i : ℕ) → count_in page ≤ i
    → ◌≡◌ {A = Option Entry} None (slice_get (entries_of page) i)
got_none page i past = rw (entries_of-walk page)
    (sym (entry-get_past (is_inner page) page (first_at page) (count_in page) i past))
