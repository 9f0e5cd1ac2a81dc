-- What each order of a list is, for the lists of a split and of a root that splits.
use Rattle.std.proofs.Common.{◌≡◌, ◌⊎◌, inl, inr, subst, refl, ◌==◌, ℕ, Bool, true, false, List, [], ◌∷◌, ◌++◌}
use Rattle.std.specs.Prelude.{◌&&◌, ◌||◌}
use Rattle.std.proofs.lemmas.Bool.{and_parts, eqb-true, or_cases}
use Rattle.mg_base.specs.declared.numbers.PageNo.{PageNo}
use Rattle.mg_careful.specs.declared.graph.Order.{Order}
use Rattle.mg_pool.specs.Batch.{lists}
use Rattle.mg_tree_overlay_laws.specs.TreeBatches.{inventory_of}
use Rattle.mg_btree.specs.Ordering.{EachOrder, before, orders_for, orders_to, root_orders, split_orders}

-- these pages have a number among them
abbrev pub HasName : List PageNo → ℕ → Type 0
HasName [] n = ⊥
HasName (m ∷ ms) n = (n ≡ m.0) ⊎ HasName ms n

module _ (P : ℕ → ℕ → Type 0) where
  pub each_append : (xs ys : List Order) → EachOrder P xs → EachOrder P ys → EachOrder P (xs ++ ys)
  each_append [] ys first second a b is = second a b is
  each_append (o ∷ os) ys first second a b is =
      at (or_cases (o.first == a && o.later == b) (lists (os ++ ys) a b) is)
      (each_append os ys (λ x y there. first x y (later x y there)) second a b)
    where
      later : (x y : ℕ) → lists os x y ≡ true → lists (o ∷ os) x y ≡ true
      later x y there = put (o.first == x && o.later == y) there
        where
          put : (c : Bool) → lists os x y ≡ true → (c || lists os x y) ≡ true
          put true there = refl
          put false there = there

      here : (o.first == a && o.later == b) ≡ true → lists (o ∷ os) a b ≡ true
      here same = rw same refl

      at : ((o.first == a && o.later == b) ≡ true) ⊎ (lists (os ++ ys) a b ≡ true)
          → (lists (os ++ ys) a b ≡ true → P a b) → P a b
      at (inl same) more = first a b (here same)
      at (inr there) more = more there

  pub each_one : (x y : ℕ) (os : List Order) → P x y → EachOrder P os → EachOrder P (before x y ∷ os)
  each_one x y os this others a b is = at (or_cases (x == a && y == b) (lists os a b) is)
    where
      at : ((x == a && y == b) ≡ true) ⊎ (lists os a b ≡ true) → P a b
      at (inl same) =
          let both = and_parts (x == a) (y == b) same in
          subst (λ (k : ℕ). P k b) (eqb-true x a both.0) (subst (λ (k : ℕ). P x k) (eqb-true y b both.1) this)
      at (inr there) = others a b there

  pub each_none : EachOrder P []
  each_none a b is = absurd cc

  pub each_to : (size n later : ℕ) → P (inventory_of size n) later → P n later
      → EachOrder P (orders_to size n later)
  each_to size n later of_bit of_page = each_one (inventory_of size n) later (before n later ∷ []) of_bit
      (each_one n later [] of_page each_none)

  pub each_for : (size : ℕ) (ns : List PageNo) (later : ℕ) → ((m : ℕ) → P (inventory_of size m) later)
      → ((n : ℕ) → HasName ns n → P n later) → EachOrder P (orders_for size ns later)
  each_for size [] later of_bits of_pages = each_none
  each_for size (n ∷ ns) later of_bits of_pages =
      each_append (orders_to size n.0 later) (orders_for size ns later)
      (each_to size n.0 later (of_bits n.0) (of_pages n.0 (inl refl)))
      (each_for size ns later of_bits (λ m has. of_pages m (inr has)))

  pub each_split : (size : ℕ) (names : List PageNo) (l r p : ℕ)
      → ((m : ℕ) → P (inventory_of size m) r) → ((n : ℕ) → HasName names n → P n r)
      → P (inventory_of size r) l → P r l → P (inventory_of size r) p → P r p → P l p
      → EachOrder P (split_orders size names l r p)
  each_split size names l r p bits_r names_r bit_l right_l bit_p right_p left_p =
      each_append (orders_for size names r)
      (orders_to size r l ++ (orders_to size r p ++ (before l p ∷ [])))
      (each_for size names r bits_r names_r)
      (each_append (orders_to size r l) (orders_to size r p ++ (before l p ∷ []))
      (each_to size r l bit_l right_l)
      (each_append (orders_to size r p) (before l p ∷ []) (each_to size r p bit_p right_p)
      (each_one l p [] left_p each_none)))

  pub each_root : (size : ℕ) (left right : List PageNo) (root a b : ℕ)
      → ((m : ℕ) → P (inventory_of size m) b) → ((n : ℕ) → HasName right n → P n b)
      → ((m : ℕ) → P (inventory_of size m) a) → ((n : ℕ) → HasName left n → P n a)
      → ((m : ℕ) → P (inventory_of size m) root) → P a root → P b root
      → EachOrder P (root_orders size left right root a b)
  each_root size left right root a b bits_b names_b bits_a names_a bits_root a_root b_root =
      each_append (orders_for size right b)
      (orders_for size left a ++ (orders_to size a root ++ orders_to size b root))
      (each_for size right b bits_b names_b)
      (each_append (orders_for size left a) (orders_to size a root ++ orders_to size b root)
      (each_for size left a bits_a names_a)
      (each_append (orders_to size a root) (orders_to size b root)
      (each_to size a root (bits_root a) a_root) (each_to size b root (bits_root b) b_root)))

pub each_more : (P Q : ℕ → ℕ → Type 0) (os : List Order) → ((a b : ℕ) → P a b → Q a b) → EachOrder P os
    → EachOrder Q os
each_more P Q os more each a b is = more a b (each a b is)
