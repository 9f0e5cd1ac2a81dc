-- One tree among those of all tables grows by pages that none of them had: still no page stands twice.
use Rattle.std.proofs.Common.{◌⊎◌, inl, inr, ℕ, List, [], ◌∷◌}
use Rattle.std.specs.List.{flat_map}
use Rattle.mg_image.specs.Form.{Pages}
use Rattle.mg_image.specs.Indexes.{AreTrees}
use Rattle.mg_image.specs.Tables.{Has, IsOnce, Stand, tree_pages}
use Rattle.mg_image_overlay_laws.specs.pages.Growth.{has_back, has_either, has_front}
use Rattle.mg_image_overlay_laws.specs.pages.Reach.{once_apart, once_back}
use Rattle.mg_tree_overlay_laws.specs.TreePages.{all_of}
use Rattle.mg_model.specs.declared.table.Index.{Index}
use Rattle.mg_entry_overlay_laws.specs.Retreed.{Trees, trees_pages}
use Rattle.mg_tree_overlay_laws.specs.TreeOnceLaws.{once_both, tree_once}

module _ (X : Type 0) (f : X → List ℕ) (fresh : ℕ → Type 0) where
  -- each part has pages of its own alone
  abbrev pub StayWithin : List X → List X → Type 0
  StayWithin [] [] = Unit {0}
  StayWithin [] (n ∷ ns) = ⊥
  StayWithin (o ∷ os) [] = ⊥
  StayWithin (o ∷ os) (n ∷ ns) = ((m : ℕ) → Has (f n) m → Has (f o) m) × StayWithin os ns

  -- but one, which may have fresh ones
  abbrev pub OneGrows : List X → List X → Type 0
  OneGrows [] [] = Unit {0}
  OneGrows [] (n ∷ ns) = ⊥
  OneGrows (o ∷ os) [] = ⊥
  OneGrows (o ∷ os) (n ∷ ns) = (((m : ℕ) → Has (f n) m → Has (f o) m) × OneGrows os ns)
      ⊎ (((m : ℕ) → Has (f n) m → Has (f o) m ⊎ fresh m) × StayWithin os ns)

  abbrev pub EachOnce : List X → Type 0
  EachOnce [] = Unit {0}
  EachOnce (n ∷ ns) = IsOnce (f n) × EachOnce ns

  pub within_has : (os ns : List X) → StayWithin os ns → (m : ℕ) → Has (flat_map f ns) m → Has (flat_map f os) m
  within_has [] [] stay m has = has
  within_has [] (n ∷ ns) stay m has = absurd stay
  within_has (o ∷ os) [] stay m has = absurd has
  within_has (o ∷ os) (n ∷ ns) stay m has =
      at (has_either (f n) (flat_map f ns) m has) (within_has os ns stay.1 m)
    where
      at : Has (f n) m ⊎ Has (flat_map f ns) m → (Has (flat_map f ns) m → Has (flat_map f os) m) → Has (flat_map f (o ∷ os)) m
      at (inl a) more = has_front (f o) (flat_map f os) m (stay.0 m a)
      at (inr b) more = has_back (f o) (flat_map f os) m (more b)

  pub grown_has : (os ns : List X) → OneGrows os ns → (m : ℕ) → Has (flat_map f ns) m → Has (flat_map f os) m ⊎ fresh m
  grown_has [] [] grows m has = inl has
  grown_has [] (n ∷ ns) grows m has = absurd grows
  grown_has (o ∷ os) [] grows m has = absurd has
  grown_has (o ∷ os) (n ∷ ns) (inl grows) m has =
      at (has_either (f n) (flat_map f ns) m has) (grown_has os ns grows.1 m)
    where
      back : Has (flat_map f os) m ⊎ fresh m → Has (flat_map f (o ∷ os)) m ⊎ fresh m
      back (inl a) = inl (has_back (f o) (flat_map f os) m a)
      back (inr b) = inr b

      at : Has (f n) m ⊎ Has (flat_map f ns) m → (Has (flat_map f ns) m → Has (flat_map f os) m ⊎ fresh m)
          → Has (flat_map f (o ∷ os)) m ⊎ fresh m
      at (inl a) more = inl (has_front (f o) (flat_map f os) m (grows.0 m a))
      at (inr b) more = back (more b)
  grown_has (o ∷ os) (n ∷ ns) (inr grows) m has = at (has_either (f n) (flat_map f ns) m has)
    where
      front : Has (f o) m ⊎ fresh m → Has (flat_map f (o ∷ os)) m ⊎ fresh m
      front (inl a) = inl (has_front (f o) (flat_map f os) m a)
      front (inr b) = inr b

      at : Has (f n) m ⊎ Has (flat_map f ns) m → Has (flat_map f (o ∷ os)) m ⊎ fresh m
      at (inl a) = front (grows.0 m a)
      at (inr b) = inl (has_back (f o) (flat_map f os) m (within_has os ns grows.1 m b))

  within_once : (os ns : List X) → IsOnce (flat_map f os) → StayWithin os ns → EachOnce ns → IsOnce (flat_map f ns)
  within_once [] [] once stay each = tt
  within_once [] (n ∷ ns) once stay each = absurd stay
  within_once (o ∷ os) [] once stay each = tt
  within_once (o ∷ os) (n ∷ ns) once stay each = once_both (f n) (flat_map f ns) each.0
      (within_once os ns (once_back (f o) (flat_map f os) once) stay.1 each.1)
      (λ m here later. once_apart (f o) (flat_map f os) m once (stay.0 m here) (within_has os ns stay.1 m later))

  pub grown_once : (os ns : List X) → IsOnce (flat_map f os) → OneGrows os ns → EachOnce ns
      → ((m : ℕ) → Has (flat_map f os) m → fresh m → ⊥) → IsOnce (flat_map f ns)
  grown_once [] [] once grows each apart = tt
  grown_once [] (n ∷ ns) once grows each apart = absurd grows
  grown_once (o ∷ os) [] once grows each apart = tt
  grown_once (o ∷ os) (n ∷ ns) once (inl grows) each apart = once_both (f n) (flat_map f ns) each.0
      (grown_once os ns (once_back (f o) (flat_map f os) once) grows.1 each.1
      (λ m has. apart m (has_back (f o) (flat_map f os) m has)))
      (λ m here later. at m (grows.0 m here) (grown_has os ns grows.1 m later))
    where
      at : (m : ℕ) → Has (f o) m → Has (flat_map f os) m ⊎ fresh m → ⊥
      at m a (inl b) = once_apart (f o) (flat_map f os) m once a b
      at m a (inr b) = apart m (has_front (f o) (flat_map f os) m a) b
  grown_once (o ∷ os) (n ∷ ns) once (inr grows) each apart = once_both (f n) (flat_map f ns) each.0
      (within_once os ns (once_back (f o) (flat_map f os) once) grows.1 each.1)
      (λ m here later. at m (grows.0 m here) (within_has os ns grows.1 m later))
    where
      at : (m : ℕ) → Has (f o) m ⊎ fresh m → Has (flat_map f os) m → ⊥
      at m (inl a) b = once_apart (f o) (flat_map f os) m once a b
      at m (inr a) b = apart m (has_back (f o) (flat_map f os) m b) a

-- ---- the trees of tables

abbrev pub pages_in_trees : Stand → List ℕ
pages_in_trees s = tree_pages s.trees

each_tree_once : (size : ℕ) (pages : Pages) (owner : ℕ) (indexes : List Index) (trees : Trees)
    → AreTrees size pages owner indexes trees → (fresh : ℕ → Type 0) → EachOnce (List (List ℕ)) all_of fresh trees
each_tree_once size pages owner indexes [] are fresh = tt
each_tree_once size pages owner [] (t ∷ ts) are fresh = absurd are
each_tree_once size pages owner (i ∷ is) (t ∷ ts) are fresh =
    (tree_once size pages owner i.root.0 t are.0, each_tree_once size pages owner is ts are.1 fresh)

-- the trees of a table, of which one grows
pub table_once : (size : ℕ) (pages : Pages) (owner : ℕ) (indexes : List Index) (old new : Trees) (fresh : ℕ → Type 0)
    → IsOnce (tree_pages old) → OneGrows (List (List ℕ)) all_of fresh old new → AreTrees size pages owner indexes new
    → ((m : ℕ) → Has (tree_pages old) m → fresh m → ⊥) → IsOnce (tree_pages new)
table_once size pages owner indexes old new fresh once grows are apart =
    grown_once (List (List ℕ)) all_of fresh old new once grows (each_tree_once size pages owner indexes new are fresh) apart

-- and those of all tables, of which one table's do
pub tables_once : (ss ts : List Stand) (fresh : ℕ → Type 0) → IsOnce (trees_pages ss)
    → OneGrows Stand pages_in_trees fresh ss ts → EachOnce Stand pages_in_trees fresh ts
    → ((m : ℕ) → Has (trees_pages ss) m → fresh m → ⊥) → IsOnce (trees_pages ts)
tables_once ss ts fresh once grows each apart = grown_once Stand pages_in_trees fresh ss ts once grows each apart
