-- Pages beside a tree change, any number of them: that is a row of steps of the tree.
use Rattle.std.proofs.Common.{◌≡◌, ◌≢◌, ◌⊎◌, inl, inr, ◌∙◌, refl, sym, subst, ◌==◌, ℕ, Bool, true, false, List, [], ◌∷◌, Option, None, eq-eqb}
use Rattle.std.specs.Prelude.{if◌then◌else◌}
use Rattle.std.proofs.Math.Path.{fun_ext}
use Rattle.std.proofs.lemmas.Bool.{cases_eq, ne_eqb}
use Rattle.mg_careful.specs.Precedence.{Orders}
use Rattle.mg_image.specs.Form.{Pages}
use Rattle.mg_image.specs.Inventory.{is_used}
use Rattle.mg_image.specs.Tables.{Has}
use Rattle.mg_tree_overlay_laws.specs.BatchLaws.{used_as}
use Rattle.mg_tree_overlay_laws.specs.TreeSteps.{InTree, StaysUsed}
use Rattle.mg_tree_overlay_laws.specs.TreeBatches.{ChangesTree, EntryChange, beside, done, inventory_of}

-- ---- whether a page is one of a list, or of a tree

pub either_has : (ns : List ℕ) (n : ℕ) → Has ns n ⊎ (Has ns n → ⊥)
either_has [] n = inr (λ none. none)
either_has (m ∷ ms) n = at (cases_eq n m) (either_has ms n)
  where
    at : (n ≡ m) ⊎ (n ≢ m) → Has ms n ⊎ (Has ms n → ⊥) → Has (m ∷ ms) n ⊎ (Has (m ∷ ms) n → ⊥)
    at (inl same) more = inl (inl same)
    at (inr other) (inl has) = inl (inr has)
    at (inr other) (inr none) = inr no
      where
        no : Has (m ∷ ms) n → ⊥
        no (inl same) = other same
        no (inr has) = none has

pub either_in : (levels : List (List ℕ)) (n : ℕ) → InTree levels n ⊎ (InTree levels n → ⊥)
either_in [] n = inr (λ none. none)
either_in (level ∷ below) n = at (either_has level n) (either_in below n)
  where
    at : Has level n ⊎ (Has level n → ⊥) → InTree below n ⊎ (InTree below n → ⊥)
        → InTree (level ∷ below) n ⊎ (InTree (level ∷ below) n → ⊥)
    at (inl here) more = inl (inl here)
    at (inr off) (inl later) = inl (inr later)
    at (inr off) (inr none) = inr no
      where
        no : InTree (level ∷ below) n → ⊥
        no (inl here) = off here
        no (inr later) = none later

-- ---- some pages have their new content

abbrev pub moved : List ℕ → Pages → Pages → Pages
moved [] old new n = old n
moved (m ∷ ms) old new n = if n == m then new n else moved ms old new n

abbrev pub pushed : List ℕ → List ℕ → List ℕ
pushed [] below = below
pushed (m ∷ ms) below = pushed ms (m ∷ below)

pushed_keeps : (ms below : List ℕ) (n : ℕ) → Has below n → Has (pushed ms below) n
pushed_keeps [] below n has = has
pushed_keeps (m ∷ ms) below n has = pushed_keeps ms (m ∷ below) n (inr has)

pushed_has : (ms below : List ℕ) (n : ℕ) → Has ms n → Has (pushed ms below) n
pushed_has [] below n has = absurd has
pushed_has (m ∷ ms) below n (inl same) = pushed_keeps ms (m ∷ below) n (inl same)
pushed_has (m ∷ ms) below n (inr later) = pushed_has ms (m ∷ below) n later

module _ (size : ℕ) (old new : Pages) where
  -- a page has its new content or its old one
  either_moved : (ms : List ℕ) (n : ℕ)
      → (moved ms old new n ≡ new n) ⊎ (moved ms old new n ≡ old n)
  either_moved [] n = inr refl
  either_moved (m ∷ ms) n = at (n == m) (either_moved ms n)
    where
      at : (b : Bool) → (moved ms old new n ≡ new n) ⊎ (moved ms old new n ≡ old n)
          → ((if b then new n else moved ms old new n) ≡ new n)
          ⊎ ((if b then new n else moved ms old new n) ≡ old n)
      at true more = inl refl
      at false more = more

  moved_there : (ms : List ℕ) (n : ℕ) → Has ms n → moved ms old new n ≡ new n
  moved_there [] n has = absurd has
  moved_there (m ∷ ms) n (inl same) = rw (eq-eqb n m same) refl
  moved_there (m ∷ ms) n (inr later) = at (n == m) (moved_there ms n later)
    where
      at : (b : Bool) → moved ms old new n ≡ new n
          → (if b then new n else moved ms old new n) ≡ new n
      at true more = refl
      at false more = more

  moved_other : (m : ℕ) (ms : List ℕ) (n : ℕ) → n ≢ m
      → moved (m ∷ ms) old new n ≡ moved ms old new n
  moved_other m ms n other = rw (ne_eqb n m other) refl

  -- a page that stays is the same in each view
  moved_same : (ms : List ℕ) (n : ℕ) → new n ≡ old n → moved ms old new n ≡ old n
  moved_same ms n same = at (either_moved ms n)
    where
      at : (moved ms old new n ≡ new n) ⊎ (moved ms old new n ≡ old n) → moved ms old new n ≡ old n
      at (inl is) = is ∙ same
      at (inr is) = is

  moved_used : (m : ℕ) (ms : List ℕ) → StaysUsed size old new
      → StaysUsed size (moved ms old new) (moved (m ∷ ms) old new)
  moved_used m ms keeps n used = by (cases_eq (inventory_of size n) m)
    where
      same_view : moved (m ∷ ms) old new (inventory_of size n)
          ≡ moved ms old new (inventory_of size n) → is_used size (moved (m ∷ ms) old new) n ≡ true
      same_view same = used_as size (moved ms old new) (moved (m ∷ ms) old new) n same ∙ used

      here : inventory_of size n ≡ m → moved (m ∷ ms) old new (inventory_of size n)
          ≡ new (inventory_of size n)
      here is = moved_there (m ∷ ms) (inventory_of size n) (inl is)

      at : inventory_of size n ≡ m
          → (moved ms old new (inventory_of size n) ≡ new (inventory_of size n))
          ⊎ (moved ms old new (inventory_of size n) ≡ old (inventory_of size n))
          → is_used size (moved (m ∷ ms) old new) n ≡ true
      at is (inl later) = same_view (here is ∙ sym later)
      at is (inr before) = used_as size new (moved (m ∷ ms) old new) n (here is)
          ∙ keeps n (sym (used_as size old (moved ms old new) n before) ∙ used)

      by : (inventory_of size n ≡ m) ⊎ (inventory_of size n ≢ m)
          → is_used size (moved (m ∷ ms) old new) n ≡ true
      by (inl is) = at is (either_moved ms (inventory_of size n))
      by (inr other) = same_view (moved_other m ms (inventory_of size n) other)

  -- the pages of a list change one after another, but for those of the tree, which stay
  module _ (owner root : ℕ) (batch : ℕ → Option (List ℕ)) (orders : Orders) (change : EntryChange)
      (levels : List (List ℕ)) (keeps : StaysUsed size old new)
      (stays : (n : ℕ) → InTree levels n → new n ≡ old n) where
    skipped : (m : ℕ) (ms : List ℕ) → InTree levels m → moved (m ∷ ms) old new ≡ moved ms old new
    skipped m ms placed = fun_ext (λ n. at n (cases_eq n m))
      where
        at : (n : ℕ) → (n ≡ m) ⊎ (n ≢ m) → moved (m ∷ ms) old new n ≡ moved ms old new n
        at n (inl same) =
            let still : new n ≡ old n = stays n (subst (InTree levels) (sym same) placed) in
            moved_same (m ∷ ms) n still ∙ sym (moved_same ms n still)
        at n (inr other) = moved_other m ms n other

    rows : (ms below : List ℕ) → ((n : ℕ) → Has ms n → batch n ≢ None)
        → ChangesTree size owner root batch orders change (moved below old new) levels
        (moved (pushed ms below) old new) levels
    rows [] below put = done (moved below old new) levels
    rows (m ∷ ms) below put =
        at (either_in levels m) (rows ms (m ∷ below) (λ n has. put n (inr has)))
      where
        at : InTree levels m ⊎ (InTree levels m → ⊥)
            → ChangesTree size owner root batch orders change (moved (m ∷ below) old new) levels
            (moved (pushed ms (m ∷ below)) old new) levels
            → ChangesTree size owner root batch orders change (moved below old new) levels
            (moved (pushed ms (m ∷ below)) old new) levels
        at (inl placed) more = subst (λ (view : Pages). ChangesTree size owner root batch orders change view
            levels (moved (pushed ms (m ∷ below)) old new) levels) (skipped m below placed) more
        at (inr fresh) more = beside (moved below old new) (moved (m ∷ below) old new)
            (moved (pushed ms (m ∷ below)) old new) levels levels m (moved_other m below)
            (moved_used m below keeps) (put m (inl refl)) fresh more

    -- so all pages beside a tree may change at once
    pub beside_row : (ms : List ℕ) → ((n : ℕ) → Has ms n → batch n ≢ None)
        → ((n : ℕ) → (Has ms n → ⊥) → new n ≡ old n)
        → ChangesTree size owner root batch orders change old levels new levels
    beside_row ms put others = subst (λ (last : Pages). ChangesTree size owner root batch orders change old
        levels last levels) (fun_ext all) (rows ms [] put)
      where
        at : (n : ℕ) → Has ms n ⊎ (Has ms n → ⊥) → moved (pushed ms []) old new n ≡ new n
        at n (inl has) = moved_there (pushed ms []) n (pushed_has ms [] n has)
        at n (inr none) = moved_same (pushed ms []) n (others n none) ∙ sym (others n none)

        all : (n : ℕ) → moved (pushed ms []) old new n ≡ new n
        all n = at n (either_has ms n)
