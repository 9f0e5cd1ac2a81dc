-- Rows of steps by their orders, and by the pages that they take: how they are put together.
use Rattle.std.specs.Prelude.{Bool, IsTrue, false}
use Rattle.std.proofs.Common.{◌≡◌, ◌≢◌, ◌⊎◌, inl, inr, ◌∙◌, ap, refl, subst, ℕ, true, List, [], ◌∷◌, ◌++◌, Option, None, length}
use Rattle.mg_base.specs.declared.geometry.Geometry.{Geometry}
use Rattle.mg_careful.specs.Precedence.{Orders}
use Rattle.mg_careful.specs.declared.graph.Order.{Order}
use Rattle.mg_node.specs.declared.entry.Entry.{Entry}
use Rattle.mg_node.specs.NodePage.{entries_of}
use Rattle.mg_image.specs.Form.{Pages}
use Rattle.mg_image.specs.Indexes.{HasEntry}
use Rattle.mg_image.specs.Tables.{Has}
use Rattle.mg_tree_overlay_laws.specs.TreeSteps.{InTree, StaysUsed, grow_levels, split_levels}
use Rattle.mg_tree_overlay_laws.specs.TreeBatches.{ChangesTree, EntryChange, IsAdded, Stay, beside, done, grows, inventory_of, leaf, splits}
use Rattle.mg_tree_overlay_laws.specs.RowLaws.{GrowsBatch}
use Rattle.mg_btree.specs.Halves.{HasRoom, names_in}
use Rattle.mg_btree.specs.Ordering.{root_orders, split_orders}
use Rattle.mg_btree.specs.RowOrders.{SplitsFull, row_next, row_orders}
use Rattle.mg_btree.specs.RowTakings.{TakesForTree, TakesItsPages}

-- ---- what a row takes, told of more pages

has_under : (taken wider : List ℕ) (page : ℕ) → ((n : ℕ) → Has taken n → Has wider n) → (n : ℕ)
    → Has (page ∷ taken) n → Has (page ∷ wider) n
has_under taken wider page more n (inl same) = inl same
has_under taken wider page more n (inr has) = inr (more n has)

-- where more pages were taken before, and a tree has more at its end
pub takes_more : (g : Geometry) (owner root : ℕ) (batch : ℕ → Option (List ℕ)) (orders : Orders)
    (change : EntryChange) (pool last : Pages) (levels ends : List (List ℕ))
    (row : ChangesTree g.size owner root batch orders change pool levels last ends) (taken wider : List ℕ)
    (at_end later : List (List ℕ)) → ((n : ℕ) → Has taken n → Has wider n)
    → ((n : ℕ) → InTree at_end n → InTree later n)
    → TakesItsPages g owner root batch orders change pool last levels ends row taken at_end
    → TakesItsPages g owner root batch orders change pool last levels ends row wider later
takes_more g owner root batch orders change pool last levels ends (done v ls) taken wider at_end later more
    on it = tt
takes_more g owner root batch orders change pool last levels ends
    (beside v next w ls es n others used some fresh rest) taken wider at_end later more on (inl (it, takes)) =
    inl (
      record { page = it.page; takes = it.takes; marks = it.marks; placed = on it.page it.placed },
      takes_more g owner root batch orders change next last levels ends rest (it.page ∷ taken)
          (it.page ∷ wider) at_end later (has_under taken wider it.page more) on takes,
    )
takes_more g owner root batch orders change pool last levels ends
    (beside v next w ls es n others used some fresh rest) taken wider at_end later more on
    (inr (is, len, takes)) = inr (
      more n is,
      len,
      takes_more g owner root batch orders change next last levels ends rest taken wider at_end later more on takes,
    )
takes_more g owner root batch orders change pool last levels ends
    (splits v split named w ls es l r p fence is order no_l no_p below fresh rest) taken wider at_end later
    more on (is_r, len_l, len_p, takes) = (
      more r is_r,
      len_l,
      len_p,
      takes_more g owner root batch orders change named last (split_levels l r levels) ends rest taken wider
          at_end later more on takes,
    )
takes_more g owner root batch orders change pool last levels ends
    (grows v grown w ls es a b is order no_root rest) taken wider at_end later more on
    (is_a, is_b, low, len, takes) = (
      (more a is_a.0, is_a.1),
      (more b is_b.0, is_b.1),
      low,
      len,
      takes_more g owner root batch orders change grown last (grow_levels root a b levels) ends rest taken wider
          at_end later more on takes,
    )
takes_more g owner root batch orders change pool last levels ends
    (leaf v next w ls es n is low entries some no_inventory rest) taken wider at_end later more on
    (placed, len, takes) = (
      placed,
      len,
      takes_more g owner root batch orders change next last levels ends rest taken wider at_end later more on takes,
    )

-- ---- rows

-- A row of steps with these orders, whose pages split only where the entry does not fit that a page is
-- to have next: last the one that is put in, and first this one. What it fills was taken by it, or before.
pub record RoomRow (g : Geometry) (owner root : ℕ) (batch : ℕ → Option (List ℕ)) (orders : Orders)
    (change : EntryChange) (pool : Pages) (levels : List (List ℕ)) (last : Pages)
    (ends : List (List ℕ)) (e first : Entry) (added : List Order) (taken : List ℕ) (at_end : List (List ℕ))
    : Type 0 where
  pub row : ChangesTree g.size owner root batch orders change pool levels last ends
  pub adds : row_orders g.size owner root batch orders change pool last levels ends row ≡ added
  pub full : SplitsFull g.size owner root batch orders change pool last levels ends row e
  pub next : row_next g.size owner root batch orders change pool last levels ends row e ≡ first
  pub takes : TakesItsPages g owner root batch orders change pool last levels ends row taken at_end

-- more pages were taken before
pub room_more : (g : Geometry) (owner root : ℕ) (batch : ℕ → Option (List ℕ)) (orders : Orders)
    (change : EntryChange) (pool last : Pages) (levels ends : List (List ℕ)) (e first : Entry)
    (added : List Order) (taken wider : List ℕ) (at_end : List (List ℕ)) → ((n : ℕ) → Has taken n → Has wider n)
    → RoomRow g owner root batch orders change pool levels last ends e first added taken at_end
    → RoomRow g owner root batch orders change pool levels last ends e first added wider at_end
room_more g owner root batch orders change pool last levels ends e first added taken wider at_end more is = record {
  row = is.row;
  adds = is.adds;
  full = is.full;
  next = is.next;
  takes = takes_more g owner root batch orders change pool last levels ends is.row taken wider at_end at_end more
      (λ n has. has) is.takes;
}

-- a page is taken first
pub takes_room : (g : Geometry) (owner root : ℕ) (batch : ℕ → Option (List ℕ)) (orders : Orders)
    (change : EntryChange) (pool between last : Pages) (levels ends : List (List ℕ)) (n : ℕ)
    (e first : Entry) (added : List Order) (taken : List ℕ) (at_end : List (List ℕ))
    → ((m : ℕ) → m ≢ n → between m ≡ pool m) → StaysUsed g.size pool between → batch n ≢ None
    → (InTree levels n → ⊥) → (it : TakesForTree g pool between n at_end)
    → RoomRow g owner root batch orders change between levels last ends e first added (it.page ∷ taken) at_end
    → RoomRow g owner root batch orders change pool levels last ends e first added taken at_end
takes_room g owner root batch orders change pool between last levels ends n e first added taken at_end others
    used some fresh it is = record {
      row = beside pool between last levels ends n others used some fresh is.row;
      adds = is.adds;
      full = is.full;
      next = is.next;
      takes = inl (it, is.takes);
    }

-- a page that was taken gets its content first
pub fills_room : (g : Geometry) (owner root : ℕ) (batch : ℕ → Option (List ℕ)) (orders : Orders)
    (change : EntryChange) (pool between last : Pages) (levels ends : List (List ℕ)) (n : ℕ)
    (e first : Entry) (added : List Order) (taken : List ℕ) (at_end : List (List ℕ))
    → ((m : ℕ) → m ≢ n → between m ≡ pool m) → StaysUsed g.size pool between → batch n ≢ None
    → (InTree levels n → ⊥) → Has taken n → length (between n) ≡ g.size
    → RoomRow g owner root batch orders change between levels last ends e first added taken at_end
    → RoomRow g owner root batch orders change pool levels last ends e first added taken at_end
fills_room g owner root batch orders change pool between last levels ends n e first added taken at_end others
    used some fresh is_taken len is = record {
      row = beside pool between last levels ends n others used some fresh is.row;
      adds = is.adds;
      full = is.full;
      next = is.next;
      takes = inr (is_taken, len, is.takes);
    }

pub ended : (xs : List Order) → xs ++ [] ≡ xs
ended [] = refl
ended (x ∷ xs) = ap (λ (os : List Order). x ∷ os) (ended xs)

pub joined : (xs ys zs : List Order) → xs ++ (ys ++ zs) ≡ (xs ++ ys) ++ zs
joined [] ys zs = refl
joined (x ∷ xs) ys zs = ap (λ (os : List Order). x ∷ os) (joined xs ys zs)

-- a row that leaves the entries, and then another one of a greater batch
pub append_room : (g : Geometry) (owner root : ℕ) (batch more_pages : ℕ → Option (List ℕ))
    (orders further : Orders) (change : EntryChange) (pool mid last : Pages)
    (levels halfway ends : List (List ℕ)) (e f : Entry) (added : List Order) (taken : List ℕ)
    (at_end : List (List ℕ)) → GrowsBatch batch more_pages orders further
    → (row : ChangesTree g.size owner root batch orders Stay pool levels mid halfway)
    → SplitsFull g.size owner root batch orders Stay pool mid levels halfway row f
    → TakesItsPages g owner root batch orders Stay pool mid levels halfway row taken at_end
    → RoomRow g owner root more_pages further change mid halfway last ends e f added taken at_end
    → RoomRow g owner root more_pages further change pool levels last ends e
    (row_next g.size owner root batch orders Stay pool mid levels halfway row f)
    (row_orders g.size owner root batch orders Stay pool mid levels halfway row ++ added) taken at_end
append_room g owner root batch more_pages orders further change pool mid last levels halfway ends e f
    added taken at_end wider (done v ls) full takes rest = rest
append_room g owner root batch more_pages orders further change pool mid last levels halfway ends e f
    added taken at_end wider (beside v next w ls es n others used some fresh more) full (inl (it, takes)) rest =
    takes_room g owner root more_pages further change pool next last levels ends n e
    (row_next g.size owner root batch orders Stay next mid levels halfway more f)
    (row_orders g.size owner root batch orders Stay next mid levels halfway more ++ added) taken at_end
    others used (wider.has n some) fresh it
    (append_room g owner root batch more_pages orders further change next mid last levels halfway ends
    e f added (it.page ∷ taken) at_end wider more full takes
    (room_more g owner root more_pages further change mid last halfway ends e f added taken (it.page ∷ taken)
    at_end (λ m has. inr has) rest))
append_room g owner root batch more_pages orders further change pool mid last levels halfway ends e f
    added taken at_end wider (beside v next w ls es n others used some fresh more) full (inr (is, len, takes)) rest =
    fills_room g owner root more_pages further change pool next last levels ends n e
    (row_next g.size owner root batch orders Stay next mid levels halfway more f)
    (row_orders g.size owner root batch orders Stay next mid levels halfway more ++ added) taken at_end
    others used (wider.has n some) fresh is len
    (append_room g owner root batch more_pages orders further change next mid last levels halfway ends
    e f added taken at_end wider more full takes rest)
append_room g owner root batch more_pages orders further change pool mid last levels halfway ends e f
    added taken at_end wider (splits v split named w ls es l r p fence is order no_l no_p below fresh more) full
    (is_r, len_l, len_p, takes) rest =
    let tail = append_room g owner root batch more_pages orders further change named mid last
    (split_levels l r levels) halfway ends e f added taken at_end wider more full.1 takes rest in record {
      row = splits pool split named last levels ends l r p fence is (record {
        right = wider.ordered r l order.right;
        bit = wider.ordered (inventory_of g.size r) l order.bit;
        left = wider.ordered l p order.left;
        has_left = wider.has l order.has_left;
        has_parent = wider.has p order.has_parent;
      }) no_l no_p below fresh tail.row;
      adds = ap (λ (os : List Order). split_orders g.size (names_in (pool r)) l r p ++ os) tail.adds
          ∙ joined (split_orders g.size (names_in (pool r)) l r p)
          (row_orders g.size owner root batch orders Stay named mid (split_levels l r levels) halfway more)
          added;
      full = (λ room. full.0 (subst (λ (x : Entry). HasRoom (pool l) x) tail.next room), tail.full);
      next = refl;
      takes = (is_r, len_l, len_p, tail.takes);
    }
append_room g owner root batch more_pages orders further change pool mid last levels halfway ends e f
    added taken at_end wider (grows v grown w ls es a b is order no_root more) full
    (is_a, is_b, low, len, takes) rest =
    let tail = append_room g owner root batch more_pages orders further change grown mid last
    (grow_levels root a b levels) halfway ends e f added taken at_end wider more full.1 takes rest in record {
      row = grows pool grown last levels ends a b is (record {
        first = wider.ordered a root order.first;
        second = wider.ordered b root order.second;
        first_bit = wider.ordered (inventory_of g.size a) root order.first_bit;
        second_bit = wider.ordered (inventory_of g.size b) root order.second_bit;
        has_root = wider.has root order.has_root;
      }) no_root tail.row;
      adds = ap (λ (os : List Order). root_orders g.size (names_in (pool a)) (names_in (pool b)) root a b ++ os)
          tail.adds
          ∙ joined (root_orders g.size (names_in (pool a)) (names_in (pool b)) root a b)
          (row_orders g.size owner root batch orders Stay grown mid (grow_levels root a b levels) halfway more)
          added;
      full = (λ room. full.0 (subst (λ (x : Entry). HasRoom (pool root) x) tail.next room), tail.full);
      next = tail.next;
      takes = (is_a, is_b, low, len, tail.takes);
    }
append_room g owner root batch more_pages orders further change pool mid last levels halfway ends e f
    added taken at_end wider (leaf v next w ls es n is low entries some no_inventory more) full
    (placed, len, takes) rest =
    let tail = append_room g owner root batch more_pages orders further change next mid last levels
    halfway ends e f added taken at_end wider more full takes rest in record {
      row = leaf pool next last levels ends n is low (record {
        keeps = λ x left has. entries.keeps x tt has;
        only = λ x has. none x (entries.only x has);
      }) (wider.has n some) no_inventory tail.row;
      adds = tail.adds;
      full = tail.full;
      next = tail.next;
      takes = (placed, len, tail.takes);
    }
  where
    none : (x : Entry) → HasEntry (entries_of (v n)) x ⊎ ⊥ → HasEntry (entries_of (v n)) x ⊎ IsAdded change x
    none x (inl has) = inl has
    none x (inr absurd_) = absurd absurd_

-- a test that is false refutes what makes it true
pub not_there : {P : Type 0} (result : Bool) → (P → IsTrue result) → result ≡ false → P → ⊥
not_there false made is p = let there = made p in absurd cc
not_there true made is p = absurd cc
