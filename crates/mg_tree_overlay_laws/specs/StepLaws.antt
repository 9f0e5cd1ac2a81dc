-- Steps of an index tree: one page of it changes, and it is a tree again.
use Rattle.std.proofs.Common.{◌≡◌, ◌≢◌, ◌⊎◌, inl, inr, ◌∙◌, ap, refl, sym, subst, ◌<◌, ◌==◌, ℕ, zero, suc, Bool, true, false, List, [], ◌∷◌, ◌++◌, Option, Some, None, length, arith, eq-eqb}
use Rattle.std.specs.Prelude.{if◌then◌else◌}
use Rattle.std.proofs.lemmas.Bool.{cases_eq, ne_eqb}
use Rattle.mg_node.specs.declared.entry.Entry.{Entry}
use Rattle.mg_node.specs.NodePage.{count_in, entries_of, entry_at, first_entries, has_high, high_at, high_of, is_inner, level_in, low_of, place_of, right_in}
use Rattle.mg_image.specs.Form.{Pages}
use Rattle.mg_image.specs.Indexes.{AreChildren, EachPage, HasChildren, IsNode, Levels, above, first_child, first_level, lowest}
use Rattle.mg_image.specs.Tables.{Has, LinkChain, ended, goes}
use Rattle.mg_tree_overlay_laws.specs.TreeSteps.{StaysUsed, after}

-- ---- what a page of a tree says of other pages stays

pub children_stay : (old new : Pages) (below wide : List ℕ) (low : Option Entry) (es : List Entry)
    → ((m : ℕ) → Has below m → Has wide m × (low_of (new m) ≡ low_of (old m)))
    → HasChildren old below low es → HasChildren new wide low es
children_stay old new below wide low [] same is = tt
children_stay old new below wide low (e ∷ es) same is =
    ((same e.child.0 is.0).0, (same e.child.0 is.0).1 ∙ is.1, rest es is.2)
  where
    rest : (es : List Entry) → AreChildren old below es → AreChildren new wide es
    rest [] is = tt
    rest (f ∷ fs) is = ((same f.child.0 is.0).0, (same f.child.0 is.0).1 ∙ is.1, rest fs is.2)

pub high_tells : (page : List ℕ) (b : Bool) (high : Option Entry) → high_of page ≡ high
    → has_high page ≡ b → high ≡ (if b then Some (entry_at false page (high_at page)) else None)
high_tells page b high is has = sym is ∙ rw has refl

-- pages with the same high fence have one or not alike
pub same_high : (a b : List ℕ) → high_of a ≡ high_of b → has_high a ≡ has_high b
same_high a b same = at (has_high a) (has_high b) refl refl
  where
    at : (x y : Bool) → has_high a ≡ x → has_high b ≡ y → has_high a ≡ has_high b
    at true true i j = i ∙ sym j
    at false false i j = i ∙ sym j
    at true false i j = absurd (let e = sym (high_tells a true (high_of a) refl i) ∙ (same ∙ high_tells b false (high_of b) refl j) in cc)
    at false true i j = absurd (let e = sym (high_tells a false (high_of a) refl i) ∙ (same ∙ high_tells b true (high_of b) refl j) in cc)

pub node_stays : (size : ℕ) (old new : Pages) (owner level : ℕ) (below wide : List ℕ) (n : ℕ)
    → new n ≡ old n → StaysUsed size old new
    → (right_in (old n) ≢ 0 → low_of (new (right_in (old n))) ≡ low_of (old (right_in (old n))))
    → ((m : ℕ) → Has below m → Has wide m × (low_of (new m) ≡ low_of (old m)))
    → IsNode size old owner level below n → IsNode size new owner level wide n
node_stays size old new owner level below wide n same used right under node = record {
  wanted = record {
    below = node.wanted.below;
    used = used n node.wanted.used;
    fields = rw same node.wanted.fields;
  };
  lawful = rw same node.lawful;
  on_level = ap level_in same ∙ node.on_level;
  two = λ inner. rw same (node.two inner);
  children = λ inner. subst (λ (page : List ℕ). HasChildren new wide (low_of page) (entries_of page)) (sym same)
      (children_stay old new below wide (low_of (old n)) (entries_of (old n)) under (node.children inner));
  high = rw same node.high;
  fence = subst (λ (page : List ℕ). right_in page ≢ 0 → low_of (new (right_in page)) ≡ high_of page) (sym same)
      (λ some. right some ∙ node.fence some);
  apart = rw same node.apart;
}

-- ---- pages of a level

pub first_in : (next : ℕ → ℕ) (first : ℕ) (ns : List ℕ) → LinkChain next first ns → first ≢ 0
    → Has ns first
first_in next first ns ended some = absurd (some refl)
first_in next first ns (goes n ms other more) some = inl refl

pub has_some : (next : ℕ → ℕ) (first : ℕ) (ns : List ℕ) (n : ℕ) → LinkChain next first ns → Has ns n
    → n ≢ 0
has_some next first ns n ended has = absurd has
has_some next first ns n (goes k ks some more) (inl same) = λ zero_. some (sym same ∙ zero_)
has_some next first ns n (goes k ks some more) (inr later) = has_some next (next k) ks n more later

pub each_has : (P : ℕ → Type 0) (ns : List ℕ) (n : ℕ) → Has ns n → EachPage P ns → P n
each_has P [] n has each = absurd has
each_has P (m ∷ ms) n (inl same) each = rw same each.0
each_has P (m ∷ ms) n (inr later) each = each_has P ms n later each.1

pub has_wider : (l r : ℕ) (ns : List ℕ) (m : ℕ) → Has ns m → Has (after l r ns) m
has_wider l r [] m has = absurd has
has_wider l r (n ∷ ns) m has = at (n == l) has (has_wider l r ns m)
  where
    at : (b : Bool) → (m ≡ n) ⊎ Has ns m → (Has ns m → Has (after l r ns) m)
        → Has (if b then n ∷ r ∷ after l r ns else n ∷ after l r ns) m
    at true (inl same) more = inl same
    at false (inl same) more = inl same
    at true (inr later) more = inr (inr (more later))
    at false (inr later) more = inr (more later)

pub has_right : (l r : ℕ) (ns : List ℕ) → Has ns l → Has (after l r ns) r
has_right l r [] has = absurd has
has_right l r (n ∷ ns) has = at (cases_eq n l) has (has_right l r ns)
  where
    at : (n ≡ l) ⊎ (n ≢ l) → (l ≡ n) ⊎ Has ns l → (Has ns l → Has (after l r ns) r)
        → Has (if n == l then n ∷ r ∷ after l r ns else n ∷ after l r ns) r
    at (inl same) which more = rw (eq-eqb n l same) (inr (inl refl))
    at (inr other) (inl same) more = absurd (other (sym same))
    at (inr other) (inr later) more = rw (ne_eqb n l other) (inr (more later))

-- an inner page has a first child, on the level below
count_some : (page : List ℕ) (n : ℕ) → 0 < n → first_entries page n ≡ [] → ⊥
count_some page zero some empty = absurd (omega (arith, some))
count_some page (suc n) some empty = at (first_entries page n) empty
  where
    at : (es : List Entry) → es ++ entry_at (is_inner page) page (place_of page n) ∷ [] ≡ [] → ⊥
    at [] empty = cc
    at (e ∷ es) empty = cc

pub first_child_in : (size : ℕ) (pages : Pages) (owner level : ℕ) (below : List ℕ) (n : ℕ) → 0 < level
    → IsNode size pages owner level below n → Has below (first_child (entries_of (pages n)))
unfolding entries_of
first_child_in size pages owner level below n inner node =
    let two = node.two inner in
    at (entries_of (pages n)) (count_some (pages n) (count_in (pages n)) (omega (arith, two))) (node.children inner)
  where
    at : (es : List Entry) → (es ≡ [] → ⊥) → HasChildren pages below (low_of (pages n)) es
        → Has below (first_child es)
    at [] some is = absurd (some refl)
    at (e ∷ es) some is = is.0

pub entries_some : (size : ℕ) (pages : Pages) (owner level : ℕ) (below : List ℕ) (n : ℕ) → 0 < level
    → IsNode size pages owner level below n → 0 < length (entries_of (pages n))
unfolding entries_of
entries_some size pages owner level below n inner node =
    let two = node.two inner in
    at (entries_of (pages n)) (count_some (pages n) (count_in (pages n)) (omega (arith, two)))
  where
    at : (es : List Entry) → (es ≡ [] → ⊥) → 0 < length es
    at [] some = absurd (some refl)
    at (e ∷ es) some = omega arith

-- the first page of a tree stands on its first level
pub top_page : (pages : Pages) (n : ℕ) (levels : List (List ℕ)) → n ≢ 0 → Levels pages n levels
    → Has (first_level levels) n
top_page pages n levels some (lowest m level chain) = first_in (λ k. right_in (pages k)) m level chain some
top_page pages n levels some (above m level next lower chain more) =
    first_in (λ k. right_in (pages k)) m level chain some
