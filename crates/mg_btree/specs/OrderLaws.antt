-- Laws of batches that grow: of their pages, their orders, and of three pages that are put.
use Rattle.std.proofs.Common.{◌≡◌, ◌≢◌, ◌⊎◌, inl, inr, ◌∙◌, ap, refl, sym, subst, arith, ◌+◌, ◌≤◌, ℕ, Bool, true, false, ◌==◌, ◌&&◌, List, [], ◌∷◌, ◌++◌, Some, None, length, eq-eqb}
use Rattle.std.specs.Prelude.{if◌then◌else◌}
use Rattle.std.proofs.Math.Path.{fun_ext}
use Rattle.std.proofs.lemmas.Bool.{cases_eq, or_cases, or_left, or_right}
use Rattle.mg_base.specs.Image.{Image}
use Rattle.mg_base.specs.declared.numbers.PageNo.{PageNo}
use Rattle.mg_careful.specs.declared.graph.Order.{Order}
use Rattle.mg_image.specs.Form.{Pages}
use Rattle.mg_pool.specs.Batch.{Changed, PutsPage, content_in, is_in, lists}
use Rattle.mg_pool.specs.declared.batch.BatchPage.{BatchPage}
use Rattle.mg_pool.specs.declared.pool.Pool.{Pool}
use Rattle.mg_space.specs.Taking.{PutsInventory}
use Rattle.mg_space.specs.View.{viewed}
use Rattle.mg_space.specs.ViewLaws.{viewed_else, viewed_here}
use Rattle.mg_base.specs.declared.geometry.Geometry.{Geometry}
use Rattle.mg_tree_overlay_laws.specs.TreeBatches.{OrdersRoot, OrdersSplit, inventory_of}
use Rattle.mg_btree.specs.Ordering.{AddsOrders, AreLong, PutsThree, Widens, before, orders_for, orders_to, root_orders, split_orders}
use Rattle.mg_btree.specs.Rooms.{TakesAlone}
use Rattle.mg_btree.specs.SplitRows.{with_here, with_other, with_page}

-- ---- lists of orders

pub lists_left : (xs ys : List Order) (a b : ℕ) → lists xs a b ≡ true → lists (xs ++ ys) a b ≡ true
lists_left [] ys a b is = absurd cc
lists_left (o ∷ os) ys a b is =
    at (or_cases (o.first == a && o.later == b) (lists os a b) is) (lists_left os ys a b)
  where
    at : ((o.first == a && o.later == b) ≡ true) ⊎ (lists os a b ≡ true)
        → (lists os a b ≡ true → lists (os ++ ys) a b ≡ true) → lists (o ∷ (os ++ ys)) a b ≡ true
    at (inl here) more = or_left (o.first == a && o.later == b) (lists (os ++ ys) a b) here
    at (inr later) more = or_right (o.first == a && o.later == b) (lists (os ++ ys) a b) (more later)

pub lists_right : (xs ys : List Order) (a b : ℕ) → lists ys a b ≡ true → lists (xs ++ ys) a b ≡ true
lists_right [] ys a b is = is
lists_right (o ∷ os) ys a b is =
    or_right (o.first == a && o.later == b) (lists (os ++ ys) a b) (lists_right os ys a b is)

pub lists_here : (a b : ℕ) (os : List Order) → lists (before a b ∷ os) a b ≡ true
lists_here a b os = rw (eq-eqb a a refl, eq-eqb b b refl) refl

pub lists_next : (o : Order) (os : List Order) (a b : ℕ) → lists os a b ≡ true → lists (o ∷ os) a b ≡ true
lists_next o os a b is = or_right (o.first == a && o.later == b) (lists os a b) is

to_page : (size n later : ℕ) → lists (orders_to size n later) n later ≡ true
to_page size n later = lists_next (before (inventory_of size n) later) (before n later ∷ []) n later
    (lists_here n later [])

to_bit : (size n later : ℕ) → lists (orders_to size n later) (inventory_of size n) later ≡ true
to_bit size n later = lists_here (inventory_of size n) later (before n later ∷ [])

-- the orders of a split are those that its step wants
module _ (size : ℕ) (put new : Changed) (names : List PageNo) (l r p : ℕ)
    (adds : AddsOrders put new (split_orders size names l r p)) where
  in_split : (a b : ℕ) → lists (split_orders size names l r p) a b ≡ true → lists new.orders a b ≡ true
  in_split a b is = subst (λ (os : List Order). lists os a b ≡ true) (sym adds.added)
      (lists_right put.orders (split_orders size names l r p) a b is)

  pub split_ordered : content_in put.pages l ≢ None → content_in put.pages p ≢ None
      → OrdersSplit size (content_in new.pages) (lists new.orders) l r p
  split_ordered has_l has_p = record {
    right = in_split r l (lists_right (orders_for size names r)
        (orders_to size r l ++ (orders_to size r p ++ (before l p ∷ []))) r l
        (lists_left (orders_to size r l) (orders_to size r p ++ (before l p ∷ [])) r l (to_page size r l)));
    bit = in_split (inventory_of size r) l (lists_right (orders_for size names r)
        (orders_to size r l ++ (orders_to size r p ++ (before l p ∷ []))) (inventory_of size r) l
        (lists_left (orders_to size r l) (orders_to size r p ++ (before l p ∷ [])) (inventory_of size r) l
        (to_bit size r l)));
    left = in_split l p (lists_right (orders_for size names r)
        (orders_to size r l ++ (orders_to size r p ++ (before l p ∷ []))) l p
        (lists_right (orders_to size r l) (orders_to size r p ++ (before l p ∷ [])) l p
        (lists_right (orders_to size r p) (before l p ∷ []) l p (lists_here l p []))));
    has_left = subst (λ (pages : List BatchPage). content_in pages l ≢ None) (sym adds.same_pages) has_l;
    has_parent = subst (λ (pages : List BatchPage). content_in pages p ≢ None) (sym adds.same_pages) has_p;
  }

-- and so are those of a root
module _ (size : ℕ) (put new : Changed) (left right : List PageNo) (root a b : ℕ)
    (adds : AddsOrders put new (root_orders size left right root a b)) where
  in_root : (x y : ℕ) → lists (orders_to size a root ++ orders_to size b root) x y ≡ true
      → lists new.orders x y ≡ true
  in_root x y is = subst (λ (os : List Order). lists os x y ≡ true) (sym adds.added)
      (lists_right put.orders (root_orders size left right root a b) x y
      (lists_right (orders_for size right b)
      (orders_for size left a ++ (orders_to size a root ++ orders_to size b root)) x y
      (lists_right (orders_for size left a) (orders_to size a root ++ orders_to size b root) x y is)))

  pub root_ordered : content_in put.pages root ≢ None
      → OrdersRoot size (content_in new.pages) (lists new.orders) root a b
  root_ordered has_root = record {
    first = in_root a root (lists_left (orders_to size a root) (orders_to size b root) a root
        (to_page size a root));
    second = in_root b root (lists_right (orders_to size a root) (orders_to size b root) b root
        (to_page size b root));
    first_bit = in_root (inventory_of size a) root (lists_left (orders_to size a root)
        (orders_to size b root) (inventory_of size a) root (to_bit size a root));
    second_bit = in_root (inventory_of size b) root (lists_right (orders_to size a root)
        (orders_to size b root) (inventory_of size b) root (to_bit size b root));
    has_root = subst (λ (pages : List BatchPage). content_in pages root ≢ None) (sym adds.same_pages)
        has_root;
  }

-- ---- batches that grow

pub widens_same : (size : ℕ) (old new : Changed) → new ≡ old → Widens size old new
widens_same size old new same = subst (λ (b : Changed). Widens size old b) (sym same) (record {
  whole = λ whole. whole;
  has = λ n some. some;
  ordered = λ a b is. is;
})

pub widens_on : (size : ℕ) (a b c : Changed) → Widens size a b → Widens size b c → Widens size a c
widens_on size a b c first second = record {
  whole = λ whole. second.whole (first.whole whole);
  has = λ n some. second.has n (first.has n some);
  ordered = λ x y is. second.ordered x y (first.ordered x y is);
}

some_put : (old new : Changed) (page : ℕ) (bytes : List ℕ) → PutsPage old new page bytes
    → content_in new.pages page ≢ None
some_put old new page bytes puts none =
    let both : Some bytes ≡ None = sym puts.here ∙ none in absurd cc

-- a content of one page more
pub long_put : (size : ℕ) (old new : Changed) (n : ℕ) (bytes : List ℕ) → AreLong size old.pages
    → PutsPage old new n bytes → length bytes ≡ size → AreLong size new.pages
long_put size old new n bytes whole puts len page content is = at (cases_eq page n)
  where
    at : (page ≡ n) ⊎ (page ≢ n) → length content ≡ size
    at (inl same) =
        let both : Some bytes ≡ Some content =
        sym puts.here ∙ (ap (content_in new.pages) (sym same) ∙ is) in
        let one : bytes ≡ content = cc in
        ap length (sym one) ∙ len
    at (inr other) = whole page content (sym (puts.others page other) ∙ is)

pub widens_put : (old new : Changed) (page : ℕ) (bytes : List ℕ) → PutsPage old new page bytes
    → Widens (length bytes) old new
widens_put old new page bytes puts = record {
  whole = λ whole. long_put (length bytes) old new page bytes whole puts refl;
  has = λ n some. at n some (cases_eq n page);
  ordered = λ a b is. subst (λ (os : List Order). lists os a b ≡ true) (sym puts.same_orders) is;
}
  where
    at : (n : ℕ) → content_in old.pages n ≢ None → (n ≡ page) ⊎ (n ≢ page)
        → content_in new.pages n ≢ None
    at n some (inl same) = subst (λ (k : ℕ). content_in new.pages k ≢ None) (sym same)
        (some_put old new page bytes puts)
    at n some (inr other) = λ none. some (sym (puts.others n other) ∙ none)

pub widens_sized : (size : ℕ) (old new : Changed) (len : ℕ) → len ≡ size → Widens len old new
    → Widens size old new
widens_sized size old new len same widens = subst (λ (k : ℕ). Widens k old new) same widens

pub widens_orders : (size : ℕ) (old new : Changed) (more : List Order) → new.pages ≡ old.pages
    → new.orders ≡ old.orders ++ more → Widens size old new
widens_orders size old new more pages orders = record {
  whole = λ whole. subst (λ (ps : List BatchPage). AreLong size ps) (sym pages) whole;
  has = λ n some. subst (λ (ps : List BatchPage). content_in ps n ≢ None) (sym pages) some;
  ordered = λ a b is. subst (λ (os : List Order). lists os a b ≡ true) (sym orders)
      (lists_left old.orders more a b is);
}

pub widens_taken : (g : Geometry) (old new : Changed) (n : ℕ) → PutsInventory g old new n
    → Widens g.size old new
widens_taken g old new n puts = widens_sized g.size old new (length puts.bytes) puts.len
    (widens_put old new (inventory_of g.size n) puts.bytes puts.puts)

pub taken_put : (g : Geometry) (old new : Changed) (n : ℕ) → PutsInventory g old new n
    → content_in new.pages (inventory_of g.size n) ≢ None
taken_put g old new n puts = some_put old new (inventory_of g.size n) puts.bytes puts.puts

-- ---- how many pages a batch has more

-- a page that is put is one more, at most
pub put_few : (old new : Changed) (page : ℕ) (bytes : List ℕ) → PutsPage old new page bytes
    → length new.pages ≤ length old.pages + 1
put_few old new page bytes puts = at (is_in old.pages page) puts.count
  where
    at : (b : Bool) → length new.pages ≡ (if b then length old.pages else (length old.pages + 1))
        → length new.pages ≤ length old.pages + 1
    at true count = omega (arith, count)
    at false count = omega (arith, count)

pub taken_alone : (g : Geometry) (old new : Changed) (n : ℕ) → PutsInventory g old new n
    → TakesAlone 1 old new
taken_alone g old new n puts = record {
  orders = puts.puts.same_orders;
  few = put_few old new (inventory_of g.size n) puts.bytes puts.puts;
}

pub alone_next : (old mid new : Changed) → TakesAlone 1 old mid → TakesAlone 1 mid new
    → TakesAlone 2 old new
alone_next old mid new first second =
    let one = first.few in
    let two = second.few in
    record { orders = second.orders ∙ first.orders; few = omega (arith, one, two) }

-- ---- three pages that are put

module _ (old new : Changed) (a b c : ℕ) (of_a of_b of_c : List ℕ)
    (puts : PutsThree old new a b c of_a of_b of_c) where
  pub three_laid : {D L : Type 0} (store : Pool D L) (image : Image)
      → viewed store image new
      ≡ with_page (with_page (with_page (viewed store image old) a of_a) b of_b) c of_c
  three_laid store image = fun_ext (λ n. on n (cases_eq n c) (cases_eq n b) (cases_eq n a))
    where
      one : Pages
      one = with_page (viewed store image old) a of_a

      two : Pages
      two = with_page (with_page (viewed store image old) a of_a) b of_b

      on : (n : ℕ) → (n ≡ c) ⊎ (n ≢ c) → (n ≡ b) ⊎ (n ≢ b) → (n ≡ a) ⊎ (n ≢ a)
          → viewed store image new n ≡ with_page two c of_c n
      on n (inl same) of_b_ of_a_ = subst (λ (k : ℕ). viewed store image new k ≡ with_page two c of_c k)
          (sym same) (viewed_here store image puts.second new c of_c puts.puts_c ∙ sym (with_here two c of_c))
      on n (inr not_c) (inl same) of_a_ =
          viewed_else store image puts.second new c of_c puts.puts_c n not_c
          ∙ (subst (λ (k : ℕ). viewed store image puts.second k ≡ with_page one b of_b k) (sym same)
          (viewed_here store image puts.first puts.second b of_b puts.puts_b ∙ sym (with_here one b of_b))
          ∙ sym (with_other two c of_c n not_c))
      on n (inr not_c) (inr not_b) (inl same) =
          viewed_else store image puts.second new c of_c puts.puts_c n not_c
          ∙ (viewed_else store image puts.first puts.second b of_b puts.puts_b n not_b
          ∙ (subst (λ (k : ℕ). viewed store image puts.first k ≡ with_page (viewed store image old) a of_a k)
          (sym same) (viewed_here store image old puts.first a of_a puts.puts_a
          ∙ sym (with_here (viewed store image old) a of_a))
          ∙ (sym (with_other one b of_b n not_b) ∙ sym (with_other two c of_c n not_c))))
      on n (inr not_c) (inr not_b) (inr not_a) =
          viewed_else store image puts.second new c of_c puts.puts_c n not_c
          ∙ (viewed_else store image puts.first puts.second b of_b puts.puts_b n not_b
          ∙ (viewed_else store image old puts.first a of_a puts.puts_a n not_a
          ∙ (sym (with_other (viewed store image old) a of_a n not_a)
          ∙ (sym (with_other one b of_b n not_b) ∙ sym (with_other two c of_c n not_c)))))

  -- the orders stay
  pub three_orders : new.orders ≡ old.orders
  three_orders = puts.puts_c.same_orders ∙ (puts.puts_b.same_orders ∙ puts.puts_a.same_orders)

  -- they are three more, at most, and orders alone add none
  pub three_few : (last : Changed) → last.pages ≡ new.pages
      → length last.pages ≤ length old.pages + 3
  three_few last same =
      let all : length last.pages ≡ length new.pages = ap length same in
      let one = put_few old puts.first a of_a puts.puts_a in
      let two = put_few puts.first puts.second b of_b puts.puts_b in
      let three = put_few puts.second new c of_c puts.puts_c in
      omega (arith, all, one, two, three)

  -- each of them is in the batch
  pub third_there : content_in new.pages c ≢ None
  third_there = some_put puts.second new c of_c puts.puts_c

  pub second_there : content_in new.pages b ≢ None
  second_there = (widens_put puts.second new c of_c puts.puts_c).has b
      (some_put puts.first puts.second b of_b puts.puts_b)

  pub first_there : content_in new.pages a ≢ None
  first_there = (widens_put puts.second new c of_c puts.puts_c).has a
      ((widens_put puts.first puts.second b of_b puts.puts_b).has a
      (some_put old puts.first a of_a puts.puts_a))

-- orders that are added after pages were taken, and others put
pub added_after : (start first put last : Changed) (more : List Order) → first.orders ≡ start.orders
    → put.orders ≡ first.orders → last.orders ≡ put.orders ++ more → last.orders ≡ start.orders ++ more
added_after start first put last more taken same added =
    added ∙ ap (λ (os : List Order). os ++ more) (same ∙ taken)
