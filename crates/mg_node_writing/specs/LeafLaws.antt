-- What a leaf takes: its entries have no children, so none has another child.
use Rattle.std.specs.Prelude.{◌≡◌, ℕ, zero, suc, ◌≤◌, Bool, true, false, List, [], ◌∷◌, ◌++◌, length, Option, None, IfSome}
use Rattle.std.proofs.Common.{refl, sym, ap, ◌∙◌, inl, inr, subst}
use Rattle.mg_node.specs.declared.entry.Entry.{Entry}
use Rattle.mg_node.specs.NodePage.{IsAtLeast, IsBelow, IsNodePage, count_in, end_of, first_at, high_of, is_inner, low_of}
use Rattle.mg_node.specs.NodeTests.{longest_key}
use Rattle.mg_node.specs.NodeWalk.{entries_from}
use Rattle.mg_node.specs.NodeWalkLaws.{entries_of-walk}
use Rattle.mg_node_writing.specs.NodeChanges.{IsEntryOf, IsSized, TakesEntry}
use Rattle.mg_node_writing.specs.Splices.{HasEntry}

-- a lawful leaf without fences
pub record IsFreeLeaf (page : List ℕ) : Type 0 where
  pub sized : IsSized page
  pub lawful : IsNodePage page
  pub leaf : is_inner page ≡ false
  pub low : low_of page ≡ None
  pub high : high_of page ≡ None

has_of : (front back : List Entry) (e : Entry) → HasEntry (front ++ e ∷ back) e
has_of [] back e = inl refl
has_of (f ∷ fs) back e = inr (has_of fs back e)

no_child : (page : List ℕ) (at n : ℕ) (f : Entry) → HasEntry (entries_from false page at n) f
    → f.child.0 ≡ 0
no_child page at zero f has = absurd has
no_child page at (suc n) f (inl is) = ap (λ (e : Entry). e.child.0) is
no_child page at (suc n) f (inr has) = no_child page (end_of false page at) n f has

-- the entries of a leaf have no children
pub leaf_child : (page : List ℕ) → is_inner page ≡ false → (f : Entry) → IsEntryOf page f
    → f.child.0 ≡ 0
leaf_child page leaf f has =
    no_child page (first_at page) (count_in page) f
    (subst (λ (w : Bool). HasEntry (entries_from w page (first_at page) (count_in page)) f) leaf
    (subst (λ (es : List Entry). HasEntry es f) (sym has.is ∙ entries_of-walk page)
    (has_of has.front has.back f)))

-- a leaf takes each entry that lies between its fences, whose key is not too long and which has no
-- child
pub leaf_takes : (page : List ℕ) (e : Entry) → is_inner page ≡ false → e.child.0 ≡ 0
    → length e.key ≤ longest_key page → IfSome (low_of page) (λ fence. IsAtLeast e fence)
    → IfSome (high_of page) (λ fence. IsBelow e fence) → TakesEntry page e
leaf_takes page e leaf none short from below = record {
  short = short;
  from = from;
  below = below;
  leaf = λ is. none;
  one_child = λ f has same. ap (λ (n : ℕ). record { 0 = n })
      (none ∙ sym (leaf_child page leaf f has));
  first = λ is. let both : true ≡ false = sym is ∙ leaf in absurd cc;
}

-- a leaf without fences takes each entry whose key is not too long and which has no child
pub free_takes : (page : List ℕ) (e : Entry) → IsFreeLeaf page → e.child.0 ≡ 0
    → length e.key ≤ longest_key page → TakesEntry page e
free_takes page e is none short =
    leaf_takes page e is.leaf none short
    (subst (λ (f : Option Entry). IfSome f (λ fence. IsAtLeast e fence)) (sym is.low) tt)
    (subst (λ (f : Option Entry). IfSome f (λ fence. IsBelow e fence)) (sym is.high) tt)
