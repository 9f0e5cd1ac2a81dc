-- How many pages a tree has more after a split: one where a page below the root splits, two where the root does.
use Rattle.std.proofs.Common.{◌≡◌, ◌⊎◌, inl, inr, ◌∙◌, ap, refl, sym, subst, ◌≤◌, ◌+◌, ◌==◌, ℕ, suc, Bool, true, false, List, [], ◌∷◌, ◌++◌, length, arith}
use Rattle.std.specs.Prelude.{if◌then◌else◌}
use Rattle.std.proofs.lemmas.Bool.{eqb-true}
use Rattle.mg_image.specs.Indexes.{first_level}
use Rattle.mg_image.specs.Tables.{Has, IsOnce}
use Rattle.mg_tree_overlay_laws.specs.TreeHeightLaws.{length_both}
use Rattle.mg_tree_overlay_laws.specs.TreePages.{all_of}
use Rattle.mg_tree_overlay_laws.specs.TreeSteps.{after, grow_levels, split_levels}

module _ (l r : ℕ) where
  -- a page that is not there is followed by none
  after_none : (ns : List ℕ) → (Has ns l → ⊥) → length (after l r ns) ≡ length ns
  after_none [] none = refl
  after_none (n ∷ ns) none = at (n == l) refl (after_none ns (λ has. none (inr has)))
    where
      at : (b : Bool) → (n == l) ≡ b → length (after l r ns) ≡ length ns
          → length (if b then n ∷ r ∷ after l r ns else n ∷ after l r ns) ≡ length (n ∷ ns)
      at true is rest = absurd (none (inl (sym (eqb-true n l is))))
      at false is rest = ap suc rest

  -- one that stands there once is followed by one page
  after_once : (ns : List ℕ) → IsOnce ns → length (after l r ns) ≤ suc (length ns)
  after_once [] once = omega arith
  after_once (n ∷ ns) once = at (n == l) refl (after_once ns once.1)
    where
      at : (b : Bool) → (n == l) ≡ b → length (after l r ns) ≤ suc (length ns)
          → length (if b then n ∷ r ∷ after l r ns else n ∷ after l r ns) ≤ suc (length (n ∷ ns))
      at true is rest =
          let same = after_none ns (λ has. once.0 (subst (Has ns) (sym (eqb-true n l is)) has)) in
          omega (arith, same)
      at false is rest = omega (arith, rest)

  after_both : (ms ns : List ℕ) → after l r (ms ++ ns) ≡ after l r ms ++ after l r ns
  after_both [] ns = refl
  after_both (m ∷ ms) ns = at (m == l) (after_both ms ns)
    where
      at : (b : Bool) → after l r (ms ++ ns) ≡ after l r ms ++ after l r ns
          → (if b then m ∷ r ∷ after l r (ms ++ ns) else m ∷ after l r (ms ++ ns))
          ≡ (if b then m ∷ r ∷ after l r ms else m ∷ after l r ms) ++ after l r ns
      at true rest = ap (λ (ks : List ℕ). m ∷ r ∷ ks) rest
      at false rest = ap (λ (ks : List ℕ). m ∷ ks) rest

  -- the pages of split levels are those of the levels with one behind another
  split_pages : (levels : List (List ℕ)) → all_of (split_levels l r levels) ≡ after l r (all_of levels)
  split_pages [] = refl
  split_pages (level ∷ below) = ap (λ (ns : List ℕ). after l r level ++ ns) (split_pages below)
      ∙ sym (after_both level (all_of below))

  pub split_count : (levels : List (List ℕ)) → IsOnce (all_of levels)
      → length (all_of (split_levels l r levels)) ≤ suc (length (all_of levels))
  split_count levels once = subst (λ (ns : List ℕ). length ns ≤ suc (length (all_of levels)))
      (sym (split_pages levels)) (after_once (all_of levels) once)

pub grow_count : (root a b : ℕ) (levels : List (List ℕ)) → 1 ≤ length (first_level levels)
    → length (all_of (grow_levels root a b levels)) ≤ length (all_of levels) + 2
grow_count root a b [] some = omega arith
grow_count root a b (top ∷ below) some =
    let both = length_both top (all_of below) in omega (arith, some, both)
