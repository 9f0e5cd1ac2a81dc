-- A split as a batch, laid in part on an image whose tree is behind the pool's.
use Rattle.std.proofs.Common.{◌≡◌, ◌≢◌, ◌⊎◌, inl, inr, ◌∙◌, ap, refl, sym, subst, ◌<◌, ◌≤◌, ◌==◌, ℕ, suc, Bool, true, false, List, [], ◌∷◌, ◌++◌, Option, length, arith}
use Rattle.std.specs.Prelude.{if◌then◌else◌}
use Rattle.std.proofs.Math.Path.{fun_ext}
use Rattle.std.proofs.lemmas.Bool.{cases_eq}
use Rattle.mg_careful.specs.CarefulWrite.{PageSet}
use Rattle.mg_node.specs.declared.entry.Entry.{Entry}
use Rattle.mg_node.specs.NodePage.{entries_of, high_of, level_in, low_of, right_in}
use Rattle.mg_image.specs.Form.{Pages}
use Rattle.mg_image.specs.Indexes.{AreChildren, AreNodes, HasChildren, HasEntry, IsNode, IsTree, first_level}
use Rattle.mg_image.specs.Inventory.{is_used}
use Rattle.mg_image.specs.Tables.{Has}
use Rattle.mg_tree_overlay_laws.specs.LeafLaws.{rewritten_finds, split_finds}
use Rattle.mg_tree_overlay_laws.specs.RewriteLaws.{names_keep, tree_rewritten}
use Rattle.mg_tree_overlay_laws.specs.SplitLaws.{tree_split}
use Rattle.mg_tree_overlay_laws.specs.StepLaws.{each_has, has_right, has_wider}
use Rattle.mg_tree_overlay_laws.specs.TreeSteps.{InTree, Names, Rewrites, Splits, StaysUsed, Under, after, split_levels}
use Rattle.mg_tree_overlay_laws.specs.TreesBehind.{HasChild, InLeaves, IsNamed, IsTreeBehind, SplitsNamed}

-- ---- where the left page stands

pub child_below : (pages : Pages) (below : List ℕ) (low : Option Entry) (es : List Entry) (n : ℕ)
    → HasChildren pages below low es → HasChild es n → Has below n
child_below pages below low [] n children has = absurd has
child_below pages below low (e ∷ es) n children (inl same) = subst (Has below) same children.0
child_below pages below low (e ∷ es) n children (inr later) = rest es children.2 later
  where
    rest : (es : List Entry) → AreChildren pages below es → HasChild es n → Has below n
    rest [] children has = absurd has
    rest (f ∷ fs) children (inl same) = subst (Has below) same children.0
    rest (f ∷ fs) children (inr later) = rest fs children.2 later

under_named : (size : ℕ) (pages : Pages) (owner : ℕ) (levels : List (List ℕ)) (p l : ℕ)
    → AreNodes size pages owner levels → 0 < level_in (pages p) → HasChild (entries_of (pages p)) l
    → Under (λ below. Has below l) levels p
under_named size pages owner [] p l nodes inner names = tt
under_named size pages owner (level ∷ below) p l nodes inner names = (
  λ has.
      let node = each_has (IsNode size pages owner (length below) (first_level below)) level p has nodes.0 in
      let on_level = node.on_level in
      child_below pages (first_level below) (low_of (pages p)) (entries_of (pages p)) l (node.children (omega arith)) names,
  under_named size pages owner below p l nodes.1 inner names,
)

pub level_less : (size : ℕ) (pages : Pages) (owner : ℕ) (levels : List (List ℕ)) (l : ℕ)
    → AreNodes size pages owner levels → InTree levels l → level_in (pages l) < length levels
level_less size pages owner [] l nodes has = absurd has
level_less size pages owner (level ∷ below) l nodes (inl has) =
    let node = each_has (IsNode size pages owner (length below) (first_level below)) level l has nodes.0 in
    let on_level = node.on_level in omega arith
level_less size pages owner (level ∷ below) l nodes (inr later) =
    let less = level_less size pages owner below l nodes.1 later in omega arith

under_there : (size : ℕ) (pages : Pages) (owner : ℕ) (levels : List (List ℕ)) (p l : ℕ)
    → AreNodes size pages owner levels → level_in (pages p) ≡ suc (level_in (pages l))
    → InTree levels l ⊎ (length levels ≤ level_in (pages l)) → Under (λ below. Has below l) levels p
under_there size pages owner [] p l nodes above_ where_ = tt
under_there size pages owner (level ∷ below) p l nodes above_ where_ =
    (λ has. here has where_, under_there size pages owner below p l nodes.1 above_ (next where_))
  where
    on : (m : ℕ) → Has level m → level_in (pages m) ≡ length below
    on m has = (each_has (IsNode size pages owner (length below) (first_level below)) level m has nodes.0).on_level

    next : InTree (level ∷ below) l ⊎ (suc (length below) ≤ level_in (pages l))
        → InTree below l ⊎ (length below ≤ level_in (pages l))
    next (inl (inl has)) = let at = on l has in inr (omega arith)
    next (inl (inr later)) = inl later
    next (inr far) = inr (omega arith)

    first : (below : List (List ℕ)) → AreNodes size pages owner below → length below ≡ suc (level_in (pages l))
        → InTree below l → Has (first_level below) l
    first [] nodes count has = absurd has
    first (top ∷ rest) nodes count (inl has) = has
    first (top ∷ rest) nodes count (inr later) =
        absurd (let less = level_less size pages owner rest l nodes.1 later in omega arith)

    here : Has level p → InTree (level ∷ below) l ⊎ (suc (length below) ≤ level_in (pages l))
        → Has (first_level below) l
    here has (inl (inl same)) = absurd (let a = on p has in let b = on l same in omega arith)
    here has (inl (inr later)) = first below nodes.1 (let a = on p has in omega arith) later
    here has (inr far) = absurd (let a = on p has in omega arith)

pub has_back : (l r : ℕ) (ns : List ℕ) (m : ℕ) → Has (after l r ns) m → (m ≡ r) ⊎ Has ns m
has_back l r [] m has = absurd has
has_back l r (n ∷ ns) m has = at (n == l) has (has_back l r ns m)
  where
    later : (m ≡ r) ⊎ Has ns m → (m ≡ r) ⊎ ((m ≡ n) ⊎ Has ns m)
    later (inl same) = inl same
    later (inr has) = inr (inr has)

    at : (b : Bool) → Has (if b then n ∷ r ∷ after l r ns else n ∷ after l r ns) m
        → (Has (after l r ns) m → (m ≡ r) ⊎ Has ns m) → (m ≡ r) ⊎ ((m ≡ n) ⊎ Has ns m)
    at true (inl same) more = inr (inl same)
    at true (inr (inl same)) more = inl same
    at true (inr (inr has)) more = later (more has)
    at false (inl same) more = inr (inl same)
    at false (inr has) more = later (more has)

pub tree_wider : (l r : ℕ) (levels : List (List ℕ)) (m : ℕ) → InTree levels m → InTree (split_levels l r levels) m
tree_wider l r [] m has = absurd has
tree_wider l r (level ∷ below) m (inl has) = inl (has_wider l r level m has)
tree_wider l r (level ∷ below) m (inr later) = inr (tree_wider l r below m later)

pub tree_right : (l r : ℕ) (levels : List (List ℕ)) → InTree levels l → InTree (split_levels l r levels) r
tree_right l r [] has = absurd has
tree_right l r (level ∷ below) (inl has) = inl (has_right l r level has)
tree_right l r (level ∷ below) (inr later) = inr (tree_right l r below later)

pub tree_back : (l r : ℕ) (levels : List (List ℕ)) (m : ℕ) → InTree (split_levels l r levels) m → (m ≡ r) ⊎ InTree levels m
tree_back l r [] m has = absurd has
tree_back l r (level ∷ below) m (inl has) = at (has_back l r level m has)
  where
    at : (m ≡ r) ⊎ Has level m → (m ≡ r) ⊎ InTree (level ∷ below) m
    at (inl same) = inl same
    at (inr has) = inr (inl has)
tree_back l r (level ∷ below) m (inr later) = at (tree_back l r below m later)
  where
    at : (m ≡ r) ⊎ InTree below m → (m ≡ r) ⊎ InTree (level ∷ below) m
    at (inl same) = inl same
    at (inr has) = inr (inr has)

pub under_split : (l r p : ℕ) (levels : List (List ℕ)) → p ≢ r → Under (λ below. Has below l) levels p
    → Under (λ below. Has below r) (split_levels l r levels) p
under_split l r p [] other under = tt
under_split l r p (level ∷ below) other under =
    (λ has. put below (under.0 (back (has_back l r level p has))), under_split l r p below other under.1)
  where
    back : (p ≡ r) ⊎ Has level p → Has level p
    back (inl same) = absurd (other same)
    back (inr has) = has

    put : (below : List (List ℕ)) → Has (first_level below) l → Has (first_level (split_levels l r below)) r
    put [] has = absurd has
    put (next ∷ rest) has = has_right l r next has

-- ---- a step of the pool is one of the image

pub splits_in : (size : ℕ) (pool split image mid : Pages) (owner l r : ℕ) → Splits size pool split owner l r
    → image l ≡ pool l → image r ≡ pool r → is_used size image r ≡ true → mid l ≡ split l
    → ((m : ℕ) → m ≢ l → mid m ≡ image m) → StaysUsed size image mid → Splits size image mid owner l r
splits_in size pool split image mid owner l r is image_l image_r r_used mid_l others used = record {
  others = others;
  used = used;
  apart = is.apart;
  some = is.some;
  left_fields = rw mid_l is.left_fields;
  left_lawful = rw mid_l is.left_lawful;
  right_wanted = record {
    below = is.right_wanted.below;
    used = r_used;
    fields = rw image_r is.right_wanted.fields;
  };
  right_lawful = rw image_r is.right_lawful;
  left_level = ap level_in mid_l ∙ (is.left_level ∙ ap level_in (sym image_l));
  right_level = ap level_in image_r ∙ (is.right_level ∙ ap level_in (sym image_l));
  goes_to = ap right_in mid_l ∙ is.goes_to;
  goes_on = ap right_in image_r ∙ (is.goes_on ∙ ap right_in (sym image_l));
  low = ap low_of mid_l ∙ (is.low ∙ ap low_of (sym image_l));
  middle = ap high_of mid_l ∙ (is.middle ∙ ap low_of (sym image_r));
  high = ap high_of image_r ∙ (is.high ∙ ap high_of (sym image_l));
  first = is.first;
  kept = is.kept;
  given = is.given;
  rest = is.rest;
  left_is = ap entries_of mid_l ∙ is.left_is;
  right_is = ap entries_of image_r ∙ is.right_is;
  was = ap entries_of image_l ∙ is.was;
  fence = ap low_of image_r ∙ is.fence;
  left_two = λ inner. rw mid_l (is.left_two (subst (λ (page : List ℕ). 0 < level_in page) image_l inner));
  right_two = λ inner. rw image_r (is.right_two (subst (λ (page : List ℕ). 0 < level_in page) image_l inner));
}

pub rewrites_in : (size : ℕ) (split named mid last : Pages) (owner p : ℕ) → Rewrites size split named owner p
    → mid p ≡ split p → last p ≡ named p → ((m : ℕ) → m ≢ p → last m ≡ mid m) → StaysUsed size mid last
    → Rewrites size mid last owner p
rewrites_in size split named mid last owner p is mid_p last_p others used = record {
  others = others;
  used = used;
  fields = rw last_p is.fields;
  lawful = rw last_p is.lawful;
  level = ap level_in last_p ∙ (is.level ∙ ap level_in (sym mid_p));
  right = ap right_in last_p ∙ (is.right ∙ ap right_in (sym mid_p));
  low = ap low_of last_p ∙ (is.low ∙ ap low_of (sym mid_p));
  high = ap high_of last_p ∙ (is.high ∙ ap high_of (sym mid_p));
  two = λ inner. rw last_p (is.two (subst (λ (page : List ℕ). 0 < level_in page) mid_p inner));
  first = λ inner. rw (last_p, mid_p) (is.first (subst (λ (page : List ℕ). 0 < level_in page) mid_p inner));
}

pub names_in : (split named mid last : Pages) (p : ℕ) (e : Entry) → Names split named p e
    → mid p ≡ split p → last p ≡ named p → mid e.child.0 ≡ split e.child.0 → Names mid last p e
names_in split named mid last p e is mid_p last_p mid_child = record {
  first = is.first;
  front = is.front;
  back = is.back;
  was = ap entries_of mid_p ∙ is.was;
  is = ap entries_of last_p ∙ is.is;
  fence = ap low_of mid_child ∙ is.fence;
}

-- ---- the batch

-- The same on an image of which a set has some pages: l only where r is in place, p only with l.
pub record LaysSplit (size : ℕ) (pool split named image mid last : Pages) (set_ : PageSet) (l r p : ℕ) : Type 0 where
  pub mid_others : (m : ℕ) → m ≢ l → mid m ≡ image m
  pub mid_in : set_ l ≡ true → mid l ≡ split l
  pub mid_out : set_ l ≡ false → mid l ≡ image l
  pub last_others : (m : ℕ) → m ≢ p → last m ≡ mid m
  pub last_in : set_ p ≡ true → last p ≡ named p
  pub last_out : set_ p ≡ false → last p ≡ mid p
  pub mid_used : StaysUsed size image mid
  pub last_used : StaysUsed size mid last
  pub left : set_ l ≡ true → (image l ≡ pool l) × (image r ≡ pool r) × (is_used size image r ≡ true)
  pub parent : set_ p ≡ true → (set_ l ≡ true) × (image p ≡ pool p)

-- What the image is then: a tree with no page less, that has each entry, behind the pool's new tree.
pub record IsSplitPart (size : ℕ) (named image last : Pages) (owner root : ℕ) (of_pool of_image : List (List ℕ)) : Type 0 where
  pub levels : List (List ℕ)
  pub tree : IsTree size last owner root levels
  pub finds : (e : Entry) → InLeaves image of_image e → InLeaves last levels e
  pub behind : IsTreeBehind named last of_pool levels

module _ (size : ℕ) (pool split named : Pages) (owner : ℕ) (of_pool : List (List ℕ)) (l r p : ℕ) (e : Entry)
    (is : SplitsNamed size pool split named owner of_pool l r p e) where
  named_l : named l ≡ split l
  named_l = is.rewrites.others l (λ same. is.apart.0 (sym same))

  named_r : named r ≡ pool r
  named_r = is.rewrites.others r (λ same. is.apart.1 (sym same)) ∙ is.splits.others r is.splits.apart

  split_p : split p ≡ pool p
  split_p = is.splits.others p is.apart.0

  child_parts : (xs ys : List Entry) (n : ℕ) → HasChild (xs ++ ys) n → HasChild xs n ⊎ HasChild ys n
  child_parts [] ys n has = inr has
  child_parts (x ∷ xs) ys n (inl same) = inl (inl same)
  child_parts (x ∷ xs) ys n (inr later) = at (child_parts xs ys n later)
    where
      at : HasChild xs n ⊎ HasChild ys n → HasChild (x ∷ xs) n ⊎ HasChild ys n
      at (inl has) = inl (inr has)
      at (inr has) = inr has

  child_more : (xs ys : List Entry) (n : ℕ) → HasChild (xs ++ ys) n → HasChild (xs ++ e ∷ ys) n
  child_more [] ys n has = inr has
  child_more (x ∷ xs) ys n (inl same) = inl same
  child_more (x ∷ xs) ys n (inr later) = inr (child_more xs ys n later)

  child_new : (xs ys : List Entry) → HasChild (xs ++ e ∷ ys) r
  child_new [] ys = inl is.child
  child_new (x ∷ xs) ys = inr (child_new xs ys)

  level_p : level_in (named p) ≡ level_in (pool p)
  level_p = is.rewrites.level ∙ ap level_in split_p

  right_named : IsNamed named (split_levels l r of_pool) r
  right_named = (
    p,
    tree_wider l r of_pool p is.parent.parent,
    (let level = is.parent.level in let same = level_p in omega arith),
    rw is.names.is (inr (child_new is.names.front is.names.back)),
  )

  stays_named : (n : ℕ) → IsNamed pool of_pool n → IsNamed named (split_levels l r of_pool) n
  stays_named n (m, placed, inner, names) = at (cases_eq m l) (cases_eq m p)
    where
      halves : InTree of_pool l → 0 < level_in (pool l) → HasChild (is.splits.first ∷ is.splits.kept) n ⊎ HasChild (is.splits.given ∷ is.splits.rest) n
          → IsNamed named (split_levels l r of_pool) n
      halves placed inner (inl has) = (
        l,
        tree_wider l r of_pool l placed,
        subst (λ (k : ℕ). 0 < k) (sym (ap level_in named_l ∙ is.splits.left_level)) inner,
        rw (named_l, is.splits.left_is) has,
      )
      halves placed inner (inr has) = (
        r,
        tree_right l r of_pool placed,
        subst (λ (k : ℕ). 0 < k) (sym (ap level_in named_r ∙ is.splits.right_level)) inner,
        rw (named_r, is.splits.right_is) has,
      )

      at : (m ≡ l) ⊎ (m ≢ l) → (m ≡ p) ⊎ (m ≢ p) → IsNamed named (split_levels l r of_pool) n
      at (inl same) which = halves (subst (InTree of_pool) same placed) (subst (λ (k : ℕ). 0 < level_in (pool k)) same inner)
          (child_parts (is.splits.first ∷ is.splits.kept) (is.splits.given ∷ is.splits.rest) n
          (subst (λ (es : List Entry). HasChild es n) is.splits.was
          (subst (λ (k : ℕ). HasChild (entries_of (pool k)) n) same names)))
      at (inr other) (inl same) = (
        p,
        tree_wider l r of_pool p is.parent.parent,
        subst (λ (k : ℕ). 0 < k) (sym level_p) (subst (λ (k : ℕ). 0 < level_in (pool k)) same inner),
        rw is.names.is (child_more (is.names.first ∷ is.names.front) is.names.back n
            (subst (λ (es : List Entry). HasChild es n) (ap entries_of (sym split_p) ∙ is.names.was)
            (subst (λ (k : ℕ). HasChild (entries_of (pool k)) n) same names))),
      )
      at (inr other) (inr apart) =
          let same : named m ≡ pool m = is.rewrites.others m apart ∙ is.splits.others m other in (
            m,
            tree_wider l r of_pool m placed,
            subst (λ (page : List ℕ). 0 < level_in page) (sym same) inner,
            subst (λ (page : List ℕ). HasChild (entries_of page) n) (sym same) names,
          )

  -- behind the pool's old tree an image is behind its new one, with no page less
  behind_stays : (image last : Pages) (of_image levels : List (List ℕ))
      → ((n : ℕ) → InTree of_image n → InTree levels n)
      → ((n : ℕ) → InTree levels n → (n ≡ r) ⊎ InTree of_image n) → IsTreeBehind pool image of_pool of_image
      → IsTreeBehind named last (split_levels l r of_pool) levels
  behind_stays image last of_image levels wider narrower behind = record {
    within = λ n has. two n (narrower n has);
    unnamed = λ n has. at n (tree_back l r of_pool n has);
  }
    where
      two : (n : ℕ) → (n ≡ r) ⊎ InTree of_image n → InTree (split_levels l r of_pool) n
      two n (inl same) = subst (InTree (split_levels l r of_pool)) (sym same) (tree_right l r of_pool is.parent.child)
      two n (inr has) = tree_wider l r of_pool n (behind.within n has)

      one : (n : ℕ) → IsNamed pool of_pool n ⊎ InTree of_image n
          → IsNamed named (split_levels l r of_pool) n ⊎ InTree levels n
      one n (inl names) = inl (stays_named n names)
      one n (inr has) = inr (wider n has)

      at : (n : ℕ) → (n ≡ r) ⊎ InTree of_pool n → IsNamed named (split_levels l r of_pool) n ⊎ InTree levels n
      at n (inl same) = inl (subst (IsNamed named (split_levels l r of_pool)) (sym same) right_named)
      at n (inr has) = one n (behind.unnamed n has)

  -- where the image has the pool's parent page, the left page stands below it
  pub under_left : (image : Pages) (of_image : List (List ℕ)) → AreNodes size image owner of_image
      → IsTreeBehind pool image of_pool of_image → image l ≡ pool l → image p ≡ pool p
      → Under (λ below. Has below l) of_image p
  under_left image of_image nodes behind image_l image_p = at is.parent.names
    where
      level : level_in (image p) ≡ suc (level_in (image l))
      level = ap level_in image_p ∙ (is.parent.level ∙ ap suc (ap level_in (sym image_l)))

      there : IsNamed pool of_pool l ⊎ InTree of_image l → (IsNamed pool of_pool l → ⊥) → InTree of_image l
      there (inl names) none = absurd (none names)
      there (inr has) none = has

      at : HasChild (entries_of (pool p)) l ⊎ (IsNamed pool of_pool l → ⊥) → Under (λ below. Has below l) of_image p
      at (inl names) = under_named size image owner of_image p l nodes (omega (arith, level))
          (subst (λ (page : List ℕ). HasChild (entries_of page) l) (sym image_p) names)
      at (inr none) = under_there size image owner of_image p l nodes level
          (inl (there (behind.unnamed l is.parent.child) none))

  -- the split's batch, laid in part
  pub split_part : (root : ℕ) (of_image : List (List ℕ)) (image mid last : Pages) (set_ : PageSet)
      → LaysSplit size pool split named image mid last set_ l r p → root ≢ l
      → (InTree of_image r → ⊥) → IsTreeBehind pool image of_pool of_image
      → IsTree size image owner root of_image
      → IsSplitPart size named image last owner root (split_levels l r of_pool) of_image
  split_part root of_image image mid last set_ lays other fresh behind tree =
      at (set_ l) refl (set_ p) refl
    where
      same_at : (old new : Pages) (n : ℕ) → ((m : ℕ) → m ≢ n → new m ≡ old m) → new n ≡ old n → new ≡ old
      same_at old new n others here = fun_ext (λ m. one m (cases_eq m n))
        where
          one : (m : ℕ) → (m ≡ n) ⊎ (m ≢ n) → new m ≡ old m
          one m (inl same) = rw same here
          one m (inr other) = others m other

      at : (b : Bool) → set_ l ≡ b → (c : Bool) → set_ p ≡ c
          → IsSplitPart size named image last owner root (split_levels l r of_pool) of_image
      at false i true j = absurd (let e = sym i ∙ (lays.parent j).0 in cc)
      at false i false j =
          let same : last ≡ image = same_at mid last p lays.last_others (lays.last_out j)
          ∙ same_at image mid l lays.mid_others (lays.mid_out i) in
          record {
            levels = of_image;
            tree = subst (λ (pages : Pages). IsTree size pages owner root of_image) (sym same) tree;
            finds = λ f on. subst (λ (pages : Pages). InLeaves pages of_image f) (sym same) on;
            behind = behind_stays image last of_image of_image (λ n has. has) (λ n has. inr has) behind;
          }
      at true i false j =
          let left = lays.left i in
          let steps = splits_in size pool split image mid owner l r is.splits left.0 left.1 left.2 (lays.mid_in i)
          lays.mid_others lays.mid_used in
          let same : last ≡ mid = same_at mid last p lays.last_others (lays.last_out j) in
          record {
            levels = split_levels l r of_image;
            tree = subst (λ (pages : Pages). IsTree size pages owner root (split_levels l r of_image)) (sym same)
                (tree_split size image mid owner l r root of_image steps other fresh tree);
            finds = λ f on. subst (λ (pages : Pages). InLeaves pages (split_levels l r of_image) f) (sym same)
                (split_finds size image mid owner l r of_image f steps on);
            behind = behind_stays image last of_image (split_levels l r of_image) (tree_wider l r of_image)
                (tree_back l r of_image) behind;
          }
      at true i true j =
          let left = lays.left i in
          let image_p = (lays.parent j).1 in
          let steps = splits_in size pool split image mid owner l r is.splits left.0 left.1 left.2 (lays.mid_in i)
          lays.mid_others lays.mid_used in
          let split_tree = tree_split size image mid owner l r root of_image steps other fresh tree in
          let mid_p : mid p ≡ split p = lays.mid_others p is.apart.0 ∙ (image_p ∙ sym split_p) in
          let mid_r : mid r ≡ split r = lays.mid_others r is.splits.apart
          ∙ (left.1 ∙ sym (is.splits.others r is.splits.apart)) in
          let changes = rewrites_in size split named mid last owner p is.rewrites mid_p (lays.last_in j)
          lays.last_others lays.last_used in
          let names = names_in split named mid last p e is.names mid_p (lays.last_in j)
          (subst (λ (k : ℕ). mid k ≡ split k) (sym is.child) mid_r) in
          let under = under_split l r p of_image is.apart.1
          (under_left image of_image tree.nodes behind left.0 image_p) in
          record {
            levels = split_levels l r of_image;
            tree = tree_rewritten size mid last owner p root (split_levels l r of_image) changes
                (names_keep mid last p e (split_levels l r of_image) names
                (subst (λ (k : ℕ). Under (λ below. Has below k) (split_levels l r of_image) p) (sym is.child) under))
                split_tree;
            finds = λ f on. rewritten_finds size mid last owner p (split_levels l r of_image) f changes
                (λ has. more f names) (split_finds size image mid owner l r of_image f steps on);
            behind = behind_stays image last of_image (split_levels l r of_image) (tree_wider l r of_image)
                (tree_back l r of_image) behind;
          }
        where
          put : (xs ys : List Entry) (f : Entry) → HasEntry (xs ++ ys) f → HasEntry (xs ++ e ∷ ys) f
          put [] ys f has = inr has
          put (x ∷ xs) ys f (inl same) = inl same
          put (x ∷ xs) ys f (inr later) = inr (put xs ys f later)

          more : (f : Entry) → Names mid last p e → HasEntry (entries_of (mid p)) f → HasEntry (entries_of (last p)) f
          more f names has = rw names.is (put (names.first ∷ names.front) names.back f
              (subst (λ (es : List Entry). HasEntry es f) names.was has))
