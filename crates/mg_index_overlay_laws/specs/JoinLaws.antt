-- One change of the indexes after another is one.
use Rattle.std.proofs.Common.{◌≡◌, ◌⊎◌, inl, inr, subst, ℕ, List, [], ◌∷◌, Option}
use Rattle.mg_careful.specs.Precedence.{Orders}
use Rattle.mg_image.specs.Form.{Pages}
use Rattle.mg_tree_overlay_laws.specs.RowLaws.{GrowsBatch, row_append, row_as, row_more}
use Rattle.mg_tree_overlay_laws.specs.TreeBatches.{Add, ChangesTree, EntryChange, Remove, Stay}
use Rattle.mg_index_overlay_laws.specs.IndexBatches.{Follows, TreeChange, one_of}
use Rattle.mg_index_overlay_laws.specs.Laws.{ChangesJoin}

module _ (size : ℕ) (batch more : ℕ → Option (List ℕ)) (orders further : Orders)
    (old mid new : Pages) (wider : GrowsBatch batch more orders further) where
  -- two rows of one index, of which one at least leaves the entries
  two_rows : (owner root : ℕ) (first second : EntryChange) (levels between ends : List (List ℕ))
      → (first ≡ Stay) ⊎ (second ≡ Stay)
      → ChangesTree size owner root batch orders first old levels mid between
      → ChangesTree size owner root more further second mid between new ends
      → ChangesTree size owner root more further (one_of first second) old levels new ends
  two_rows owner root first second levels between ends one a b = at first second one
      (row_more size owner root batch more orders further first old mid levels between wider a) b
    where
      put_together : (change : EntryChange)
          → ChangesTree size owner root more further change old levels mid between
          → ChangesTree size owner root more further change mid between new ends
          → ChangesTree size owner root more further change old levels new ends
      put_together change x y = row_append size owner root more further change old mid new levels between
          ends x y

      at : (first second : EntryChange) → (first ≡ Stay) ⊎ (second ≡ Stay)
          → ChangesTree size owner root more further first old levels mid between
          → ChangesTree size owner root more further second mid between new ends
          → ChangesTree size owner root more further (one_of first second) old levels new ends
      at Stay second one x y = put_together second
          (row_as size owner root more further second old mid levels between x) y
      at (Add e) second (inl none) x y = absurd cc
      at (Add e) second (inr is) x y = put_together (Add e) x
          (row_as size owner root more further (Add e) mid new between ends
          (subst (λ (c : EntryChange). ChangesTree size owner root more further c mid between new ends) is y))
      at (Remove e) second (inl none) x y = absurd cc
      at (Remove e) second (inr is) x y = put_together (Remove e) x
          (row_as size owner root more further (Remove e) mid new between ends
          (subst (λ (c : EntryChange). ChangesTree size owner root more further c mid between new ends) is y))

  one_joined : (c d : TreeChange) → Follows c d
      → ChangesTree size c.owner c.root batch orders c.change old c.levels mid c.ends
      → ChangesTree size d.owner d.root more further d.change mid d.levels new d.ends
      → ChangesTree size c.owner c.root more further (one_of c.change d.change) old c.levels new d.ends
  one_joined c d follows a b = two_rows c.owner c.root c.change d.change c.levels c.ends d.ends follows.3 a
      (subst (λ (levels : List (List ℕ)). ChangesTree size c.owner c.root more further d.change mid levels
      new d.ends) follows.2
      (subst (λ (root : ℕ). ChangesTree size c.owner root more further d.change mid d.levels new d.ends)
      follows.1
      (subst (λ (owner : ℕ). ChangesTree size owner d.root more further d.change mid d.levels new d.ends)
      follows.0 b)))

pub changes_join : ChangesJoin
changes_join size batch more orders further old mid new [] [] wider follows a b = tt
changes_join size batch more orders further old mid new [] (d ∷ ds) wider follows a b = absurd follows
changes_join size batch more orders further old mid new (c ∷ cs) [] wider follows a b = absurd follows
changes_join size batch more orders further old mid new (c ∷ cs) (d ∷ ds) wider follows a b = (
  one_joined size batch more orders further old mid new wider c d follows.0 a.0 b.0,
  changes_join size batch more orders further old mid new cs ds wider follows.1 a.1 b.1,
)
