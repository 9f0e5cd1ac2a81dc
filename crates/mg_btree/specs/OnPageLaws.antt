-- Laws of what is read of an index page in its place.
use Rattle.std.proofs.Common.{◌≡◌, inl, inr, ◌∙◌, ap, refl, sym, subst, add-one, ◌<◌, ◌≤◌, ◌+◌, ◌-◌, ◌==◌, ℕ, suc, Bool, true, false, List, [], ◌∷◌, ◌++◌, length, arith}
use Rattle.std.specs.Prelude.{◌↔◌, IfSome, IsTrue}
use Rattle.std.specs.Ordering.{ordering_index, ordering_reverse}
use Rattle.std.specs.declared.cmp.Ordering.{Ordering}
use Rattle.std.specs.declared.cmp.Ordering.TheVariants.{Less, Equal, Greater}
use Rattle.mg_base.specs.Fields.{u32_at}
use Rattle.mg_node.specs.declared.entry.Entry.{Entry}
use Rattle.mg_node.specs.EntryOrderLaws.{entry_cmp_total}
use Rattle.mg_node.specs.NodePage.{AreAscending, IsBelow, IsNodePage, count_in, end_of, entries_of, entry_at, entry_cmp, first_at, has_high, high_at, high_of, is_inner, key_len, place_of}
use Rattle.mg_node.specs.NodeWalk.{entries_from, place_from}
use Rattle.mg_node.specs.NodeWalkLaws.{entries_from-add, entries_of-walk, place_from-ascends, place_of-walk}
use Rattle.mg_image.specs.Indexes.{HasEntry}
use Rattle.mg_tree_overlay_laws.specs.DescentLaws.{ascends, tail_ascends}
use Rattle.mg_btree.specs.OnPage.{IsAlong}
use Rattle.mg_btree.specs.Searching.{child_to}
use Rattle.mg_btree.specs.SearchLaws.{stays_to, taken_to}

-- ---- the order of two entries, read from either side

pub below_from : (e f : Entry) → entry_cmp f e ≡ Greater → IsBelow e f
below_from e f greater = entry_cmp_total.antisymm e f ∙ ap ordering_reverse greater

pub greater_from : (e f : Entry) → IsBelow e f → entry_cmp f e ≡ Greater
greater_from e f less = entry_cmp_total.antisymm f e ∙ ap ordering_reverse less

pub is_before_from : (e f : Entry) (o : Ordering) (b : Bool) → o ≡ entry_cmp f e
    → b ≡ (ordering_index o == 2) → IsTrue b ↔ IsBelow e f
is_before_from e f Less b is says = (
  (λ yes_. let both : true ≡ false = sym yes_ ∙ says in absurd cc),
  (λ below. let both : Less ≡ Greater = is ∙ greater_from e f below in absurd cc),
)
is_before_from e f Equal b is says = (
  (λ yes_. let both : true ≡ false = sym yes_ ∙ says in absurd cc),
  (λ below. let both : Equal ≡ Greater = is ∙ greater_from e f below in absurd cc),
)
is_before_from e f Greater b is says = ((λ yes_. below_from e f (sym is)), (λ below. says))

-- ---- places within a lawful page

place_ends : (page : List ℕ) → IsNodePage page → (n : ℕ) → n ≤ count_in page → place_of page n ≤ length page
place_ends page lawful n below =
    let up : place_of page n ≤ place_of page (count_in page) =
    subst (λ (k : ℕ). k ≤ place_of page (count_in page)) (sym (place_of-walk page n))
    (subst (λ (k : ℕ). place_from (is_inner page) page (first_at page) n ≤ k)
    (sym (place_of-walk page (count_in page)))
    (place_from-ascends (is_inner page) page (first_at page) n (count_in page) below)) in
    let ends = lawful.ends in
    let inside = lawful.inside in omega (arith, up, ends, inside)

pub high_fits : (page : List ℕ) → IsNodePage page → has_high page ≡ true
    → end_of false page (high_at page) ≤ length page
high_fits page lawful high =
    let first : first_at page ≤ length page = place_ends page lawful 0 (omega arith) in
    let is : first_at page ≡ end_of false page (high_at page) = rw high refl in
    subst (λ (k : ℕ). k ≤ length page) is first

pub is_under_none : (page : List ℕ) (e : Entry) → has_high page ≡ false
    → IsTrue true ↔ IfSome (high_of page) (λ fence. IsBelow e fence)
is_under_none page e none = rw none ((λ yes_. tt), (λ nothing. refl))

pub is_under_some : (page : List ℕ) (e : Entry) (b : Bool) → has_high page ≡ true
    → IsTrue b ↔ IsBelow e (entry_at false page (high_at page))
    → IsTrue b ↔ IfSome (high_of page) (λ fence. IsBelow e fence)
is_under_some page e b some is = rw some is

-- ---- along the entries

pub along_starts : (page : List ℕ) (e : Entry) (first : ℕ) → is_inner page ≡ true
    → first ≡ first_at page → first < 131124 → IsAlong page e 0 first 0
along_starts page e first inner is near = record {
  near = near;
  next = is;
  rest = λ left all.
      let same : left ≡ count_in page = omega (arith, all) in
      ap (child_to e 0) (ap (entries_from true page first) same
      ∙ (ap (λ (at : ℕ). entries_from true page at (count_in page)) is
      ∙ (ap (λ (w : Bool). entries_from w page (first_at page) (count_in page)) (sym inner)
      ∙ sym (entries_of-walk page))));
}

module _ (page : List ℕ) (e : Entry) (count at child : ℕ) (inner : is_inner page ≡ true)
    (along : IsAlong page e count at child) (more : count < count_in page) where
  next_place : end_of true page at ≡ place_of page (suc count)
  next_place = ap (end_of true page) along.next
      ∙ ap (λ (w : Bool). end_of w page (place_of page count)) (sym inner)

  pub along_fits : IsNodePage page → end_of true page at ≤ length page
  along_fits lawful = subst (λ (k : ℕ). k ≤ length page) (sym next_place)
      (place_ends page lawful (suc count) (omega (arith, more)))

  pub along_next : (end next : ℕ) → end ≡ end_of true page at → end < 131124
      → (IsBelow e (entry_at false page at) → ⊥) → next ≡ (entry_at true page at).child.0
      → IsAlong page e (count + 1) end next
  along_next end next end_is near past next_is = record {
    near = near;
    next = rw (add-one count) (end_is ∙ next_place);
    rest = λ left all.
        let rest_is = along.rest (suc left) (omega (arith, all)) in
        ap (λ (k : ℕ). child_to e next (entries_from true page k left)) end_is
        ∙ (ap (λ (k : ℕ). child_to e k (entries_from true page (end_of true page at) left))
        (next_is ∙ sym (taken_to (entry_cmp e (entry_at true page at)) child
        (entry_at true page at).child.0 past)) ∙ rest_is);
  }

  pub along_stops : IsNodePage page → IsBelow e (entry_at false page at)
      → child ≡ child_to e 0 (entries_of page)
  along_stops lawful below =
      let some : count + suc (count_in page - suc count) ≡ count_in page = omega (arith, more) in
      sym (stays_to e child (entries_from true page at (suc (count_in page - suc count)))
      (λ f has. above f has)) ∙ along.rest (suc (count_in page - suc count)) some
    where
      back_ascends : (front back : List Entry) → AreAscending (front ++ back) → AreAscending back
      back_ascends [] back all = all
      back_ascends (x ∷ xs) back all = back_ascends xs back (tail_ascends x (xs ++ back) all)

      ascending : AreAscending (entry_at true page at
          ∷ entries_from true page (end_of true page at) (count_in page - suc count))
      ascending =
          let some : count + suc (count_in page - suc count) ≡ count_in page = omega (arith, more) in
          back_ascends (entries_from (is_inner page) page (first_at page) count)
          (entries_from true page at (suc (count_in page - suc count)))
          (subst AreAscending (entries_of-walk page
          ∙ (ap (entries_from (is_inner page) page (first_at page)) (sym some)
          ∙ (sym (entries_from-add (is_inner page) page (first_at page) count
          (suc (count_in page - suc count)))
          ∙ ap (λ (es : List Entry). entries_from (is_inner page) page (first_at page) count ++ es)
          (ap (λ (k : ℕ). entries_from (is_inner page) page k (suc (count_in page - suc count)))
          (sym (along.next ∙ place_of-walk page count))
          ∙ ap (λ (w : Bool). entries_from w page at (suc (count_in page - suc count))) inner))))
          lawful.ascending)

      above : (f : Entry) → HasEntry (entry_at true page at
          ∷ entries_from true page (end_of true page at) (count_in page - suc count)) f → IsBelow e f
      above f (inl same) = subst (λ (x : Entry). IsBelow e x) (sym same) below
      above f (inr has) = entry_cmp_total.trans e (entry_at true page at) f below
          (ascends (entry_at true page at) (entries_from true page (end_of true page at)
          (count_in page - suc count)) f ascending has)

pub along_ends : (page : List ℕ) (e : Entry) (count at child : ℕ) → IsAlong page e count at child
    → count ≡ count_in page → child ≡ child_to e 0 (entries_of page)
along_ends page e count at child along all = along.rest 0 (omega (arith, all))

-- the child of an entry stands in the last four bytes of it
pub child_at : (page : List ℕ) (at end : ℕ) → end ≡ end_of true page at
    → u32_at page (end - 4) ≡ (entry_at true page at).child.0
child_at page at end is =
    let place : end - 4 ≡ at + 2 + key_len page at + 6 = omega (arith, is) in ap (u32_at page) place
