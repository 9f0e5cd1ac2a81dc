-- The other batches, laid in part: the root splits, and a leaf changes in place.
use Rattle.std.proofs.Common.{◌≡◌, ◌≢◌, ◌⊎◌, inl, inr, ◌∙◌, ap, refl, sym, subst, ◌<◌, ℕ, suc, Bool, true, false, List, [], ◌∷◌, ◌++◌, length, arith}
use Rattle.std.proofs.Math.Path.{fun_ext}
use Rattle.std.proofs.lemmas.Bool.{cases_eq}
use Rattle.mg_careful.specs.CarefulWrite.{PageSet}
use Rattle.mg_node.specs.declared.entry.Entry.{Entry}
use Rattle.mg_node.specs.NodePage.{entries_of, has_high, has_low, high_of, level_in, low_of, right_in}
use Rattle.mg_image.specs.Form.{Pages}
use Rattle.mg_image.specs.Indexes.{AreNodes, HasEntry, IsNode, IsTree, LevelChain, Levels, above, first_level, lowest}
use Rattle.mg_image.specs.Inventory.{is_used}
use Rattle.mg_image.specs.Tables.{Has, ended, goes}
use Rattle.mg_tree_overlay_laws.specs.GrowLaws.{tree_grown}
use Rattle.mg_tree_overlay_laws.specs.LeafLaws.{grown_finds, rewritten_finds}
use Rattle.mg_tree_overlay_laws.specs.RewriteLaws.{leaf_keeps, tree_rewritten}
use Rattle.mg_tree_overlay_laws.specs.SplitParts.{IsSplitPart, rewrites_in}
use Rattle.mg_tree_overlay_laws.specs.StepLaws.{each_has, first_in}
use Rattle.mg_tree_overlay_laws.specs.TreeSteps.{Grows, InTree, Rewrites, StaysUsed, grow_levels}
use Rattle.mg_tree_overlay_laws.specs.TreesBehind.{HasChild, InLeaves, IsNamed, IsTreeBehind}

-- a page that is not used stands in no tree
pub unused_fresh : (size : ℕ) (pages : Pages) (owner : ℕ) (levels : List (List ℕ)) (n : ℕ)
    → AreNodes size pages owner levels → (is_used size pages n ≡ true → ⊥) → InTree levels n → ⊥
unused_fresh size pages owner [] n nodes free has = has
unused_fresh size pages owner (level ∷ below) n nodes free (inl has) =
    free ((each_has (IsNode size pages owner (length below) (first_level below)) level n has nodes.0).wanted.used)
unused_fresh size pages owner (level ∷ below) n nodes free (inr later) =
    unused_fresh size pages owner below n nodes.1 free later

pub same_at : (old new : Pages) (n : ℕ) → ((m : ℕ) → m ≢ n → new m ≡ old m) → new n ≡ old n → new ≡ old
same_at old new n others here = fun_ext (λ m. one m (cases_eq m n))
  where
    one : (m : ℕ) → (m ≡ n) ⊎ (m ≢ n) → new m ≡ old m
    one m (inl same) = rw same here
    one m (inr other) = others m other

-- ---- a leaf changes in place

-- A page n has its new content where a set has it, and its old one else.
pub record LaysInPlace (size : ℕ) (pool changed image last : Pages) (set_ : PageSet) (n : ℕ) : Type 0 where
  pub others : (m : ℕ) → m ≢ n → last m ≡ image m
  pub there : set_ n ≡ true → last n ≡ changed n
  pub out : set_ n ≡ false → last n ≡ image n
  pub used : StaysUsed size image last
  pub was : set_ n ≡ true → image n ≡ pool n

-- The same levels, behind the pool, with each entry that the new content does not lose.
pub record IsLeafPart (size : ℕ) (pool changed image last : Pages) (owner root : ℕ) (of_pool of_image : List (List ℕ)) (n : ℕ)
    : Type 0 where
  pub tree : IsTree size last owner root of_image
  pub finds : (e : Entry) → (HasEntry (entries_of (pool n)) e → HasEntry (entries_of (changed n)) e)
      → InLeaves image of_image e → InLeaves last of_image e
  pub behind : IsTreeBehind changed last of_pool of_image

pub leaf_part : (size : ℕ) (pool changed image last : Pages) (owner root n : ℕ) (of_pool of_image : List (List ℕ))
    (set_ : PageSet) → Rewrites size pool changed owner n → level_in (pool n) ≡ 0
    → LaysInPlace size pool changed image last set_ n → IsTreeBehind pool image of_pool of_image
    → IsTree size image owner root of_image
    → IsLeafPart size pool changed image last owner root of_pool of_image n
leaf_part size pool changed image last owner root n of_pool of_image set_ is leaf lays behind tree =
    at (set_ n) refl
  where
    stays : (k : ℕ) → IsNamed pool of_pool k ⊎ InTree of_image k → IsNamed changed of_pool k ⊎ InTree of_image k
    stays k (inr has) = inr has
    stays k (inl (m, placed, inner, names)) = inl (one (cases_eq m n))
      where
        one : (m ≡ n) ⊎ (m ≢ n) → IsNamed changed of_pool k
        one (inl same) = absurd (let level = ap (λ (j : ℕ). level_in (pool j)) same in omega arith)
        one (inr other) = (
          m,
          placed,
          subst (λ (page : List ℕ). 0 < level_in page) (sym (is.others m other)) inner,
          subst (λ (page : List ℕ). HasChild (entries_of page) k) (sym (is.others m other)) names,
        )

    still : IsTreeBehind changed last of_pool of_image
    still = record {
      within = behind.within;
      unnamed = λ k has. stays k (behind.unnamed k has);
    }

    at : (b : Bool) → set_ n ≡ b → IsLeafPart size pool changed image last owner root of_pool of_image n
    at false i =
        let same : last ≡ image = same_at image last n lays.others (lays.out i) in
        record {
          tree = subst (λ (pages : Pages). IsTree size pages owner root of_image) (sym same) tree;
          finds = λ e keeps on. subst (λ (pages : Pages). InLeaves pages of_image e) (sym same) on;
          behind = still;
        }
    at true i =
        let changes = rewrites_in size pool changed image last owner n is (lays.was i) (lays.there i) lays.others lays.used in
        record {
          tree = tree_rewritten size image last owner n root of_image changes
              (leaf_keeps image last n of_image (ap level_in (lays.was i) ∙ leaf)) tree;
          finds = λ e keeps on. rewritten_finds size image last owner n of_image e changes
              (λ placed has. subst (λ (page : List ℕ). HasEntry (entries_of page) e) (sym (lays.there i))
              (keeps (subst (λ (page : List ℕ). HasEntry (entries_of page) e) (lays.was i) has))) on;
          behind = still;
        }

-- ---- the root splits

top_chain : (pages : Pages) (n : ℕ) (levels : List (List ℕ)) → Levels pages n levels
    → LevelChain pages n (first_level levels)
top_chain pages n levels (lowest m level chain) = chain
top_chain pages n levels (above m level next below chain more) = chain

-- the level of the root has the root alone
only_root : (pages : Pages) (root : ℕ) (ns : List ℕ) (n : ℕ) → LevelChain pages root ns → right_in (pages root) ≡ 0
    → Has ns n → n ≡ root
only_root pages root ns n ended zero_ has = absurd has
only_root pages root ns n (goes m ms some more) zero_ (inl same) = same
only_root pages root ns n (goes m ms some more) zero_ (inr later) = absurd (none (right_in (pages m)) ms more zero_ later)
  where
    none : (k : ℕ) (ms : List ℕ) → LevelChain pages k ms → k ≡ 0 → Has ms n → ⊥
    none k ms ended zero_ has = has
    none k ms (goes j js some rest) zero_ has = some zero_

pub root_in : (size : ℕ) (pages : Pages) (owner root : ℕ) (levels : List (List ℕ)) → root ≢ 0
    → IsTree size pages owner root levels → InTree levels root
root_in size pages owner root levels some tree = at levels (top_chain pages root levels tree.levels_from)
  where
    at : (levels : List (List ℕ)) → LevelChain pages root (first_level levels) → InTree levels root
    at [] chain = absurd (none root [] chain some refl)
      where
        none : (k : ℕ) (ns : List ℕ) → LevelChain pages k ns → k ≢ 0 → ns ≡ [] → ⊥
        none k ns ended some empty = some refl
        none k ns (goes j js other rest) some empty = cc
    at (level ∷ below) chain = inl (first_in (λ k. right_in (pages k)) root level chain some)

pub grow_wider : (size : ℕ) (pages : Pages) (owner root a b : ℕ) (levels : List (List ℕ)) (n : ℕ)
    → IsTree size pages owner root levels → InTree levels n → InTree (grow_levels root a b levels) n
grow_wider size pages owner root a b [] n tree has = absurd has
grow_wider size pages owner root a b (top ∷ below) n tree (inl has) =
    inl (inl (only_root pages root top n (top_chain pages root (top ∷ below) tree.levels_from) tree.root_right has))
grow_wider size pages owner root a b (top ∷ below) n tree (inr later) = inr (inr later)

grow_back : (root a b : ℕ) (levels : List (List ℕ)) (n : ℕ) → InTree (grow_levels root a b levels) n
    → (n ≡ root) ⊎ ((n ≡ a) ⊎ ((n ≡ b) ⊎ InTree levels n))
grow_back root a b [] n has = absurd has
grow_back root a b (top ∷ below) n (inl (inl same)) = inl same
grow_back root a b (top ∷ below) n (inl (inr none)) = absurd none
grow_back root a b (top ∷ below) n (inr (inl (inr (inr none)))) = absurd none
grow_back root a b (top ∷ below) n (inr (inl (inl same))) = inr (inl same)
grow_back root a b (top ∷ below) n (inr (inl (inr (inl same)))) = inr (inr (inl same))
grow_back root a b (top ∷ below) n (inr (inr later)) = inr (inr (inr (inr later)))

grow_new : (size : ℕ) (pages : Pages) (owner root a b : ℕ) (levels : List (List ℕ)) → IsTree size pages owner root levels
    → root ≢ 0 → InTree (grow_levels root a b levels) a × InTree (grow_levels root a b levels) b
    × InTree (grow_levels root a b levels) root
grow_new size pages owner root a b [] tree some = absurd (root_in size pages owner root [] some tree)
grow_new size pages owner root a b (top ∷ below) tree some =
    (inr (inl (inl refl)), inr (inl (inr (inl refl))), inl (inl refl))

-- The root has its new content where a set has it; then both new pages are in place.
pub record LaysGrow (size : ℕ) (pool grown image last : Pages) (set_ : PageSet) (root a b : ℕ) : Type 0 where
  pub page : LaysInPlace size pool grown image last set_ root
  pub first : set_ root ≡ true → (image a ≡ pool a) × (image b ≡ pool b)
      × (is_used size image a ≡ true) × (is_used size image b ≡ true)

pub grows_in : (size : ℕ) (pool grown image last : Pages) (owner root a b : ℕ) → Grows size pool grown owner root a b
    → image root ≡ pool root → image a ≡ pool a → image b ≡ pool b → is_used size image a ≡ true
    → is_used size image b ≡ true → last root ≡ grown root → ((m : ℕ) → m ≢ root → last m ≡ image m)
    → StaysUsed size image last → Grows size image last owner root a b
grows_in size pool grown image last owner root a b is image_root image_a image_b a_used b_used last_root others used = record {
  others = others;
  used = used;
  some = is.some;
  apart = is.apart;
  root_fields = rw last_root is.root_fields;
  root_lawful = rw last_root is.root_lawful;
  a_wanted = record { below = is.a_wanted.below; used = a_used; fields = rw image_a is.a_wanted.fields };
  a_lawful = rw image_a is.a_lawful;
  b_wanted = record { below = is.b_wanted.below; used = b_used; fields = rw image_b is.b_wanted.fields };
  b_lawful = rw image_b is.b_lawful;
  root_level = ap level_in last_root ∙ (is.root_level ∙ ap (λ (page : List ℕ). suc (level_in page)) (sym image_root));
  a_level = ap level_in image_a ∙ (is.a_level ∙ ap level_in (sym image_root));
  b_level = ap level_in image_b ∙ (is.b_level ∙ ap level_in (sym image_root));
  root_right = ap right_in last_root ∙ is.root_right;
  a_right = ap right_in image_a ∙ is.a_right;
  b_right = ap right_in image_b ∙ is.b_right;
  root_low = ap has_low last_root ∙ is.root_low;
  root_high = ap has_high last_root ∙ is.root_high;
  a_low = ap has_low image_a ∙ is.a_low;
  a_high = ap has_high image_a ∙ is.a_high;
  middle = ap high_of image_a ∙ (is.middle ∙ ap low_of (sym image_b));
  b_high = ap has_high image_b ∙ is.b_high;
  first = is.first;
  kept = is.kept;
  given = is.given;
  rest = is.rest;
  a_is = ap entries_of image_a ∙ is.a_is;
  b_is = ap entries_of image_b ∙ is.b_is;
  was = ap entries_of image_root ∙ is.was;
  fence = ap low_of image_b ∙ is.fence;
  a_two = λ inner. rw image_a (is.a_two (subst (λ (page : List ℕ). 0 < level_in page) image_root inner));
  b_two = λ inner. rw image_b (is.b_two (subst (λ (page : List ℕ). 0 < level_in page) image_root inner));
  to_a = is.to_a;
  to_b = is.to_b;
  root_two = rw last_root is.root_two;
  root_is = ap entries_of last_root ∙ is.root_is;
  a_child = is.a_child;
  b_child = is.b_child;
  b_fence = is.b_fence;
}

pub grow_part : (size : ℕ) (pool grown image last : Pages) (owner root a b : ℕ) (of_pool of_image : List (List ℕ))
    (set_ : PageSet) → Grows size pool grown owner root a b → LaysGrow size pool grown image last set_ root a b
    → IsTreeBehind pool image of_pool of_image → IsTree size pool owner root of_pool → IsTree size image owner root of_image
    → IsSplitPart size grown image last owner root (grow_levels root a b of_pool) of_image
grow_part size pool grown image last owner root a b of_pool of_image set_ is lays behind pool_tree tree =
    at (set_ root) refl
  where
    new : List (List ℕ)
    new = grow_levels root a b of_pool

    there : InTree new a × InTree new b × InTree new root
    there = grow_new size pool owner root a b of_pool pool_tree is.some.0

    parts : (xs ys : List Entry) (n : ℕ) → HasChild (xs ++ ys) n → HasChild xs n ⊎ HasChild ys n
    parts [] ys n has = inr has
    parts (x ∷ xs) ys n (inl same) = inl (inl same)
    parts (x ∷ xs) ys n (inr later) = one (parts xs ys n later)
      where
        one : HasChild xs n ⊎ HasChild ys n → HasChild (x ∷ xs) n ⊎ HasChild ys n
        one (inl has) = inl (inr has)
        one (inr has) = inr has

    by_root : (n : ℕ) → HasChild (is.to_a ∷ is.to_b ∷ []) n → IsNamed grown new n
    by_root n names = (root, there.2, (let level = is.root_level in omega arith), rw is.root_is names)

    stays_named : (n : ℕ) → IsNamed pool of_pool n → IsNamed grown new n
    stays_named n (m, placed, inner, names) = one (cases_eq m root)
      where
        halves : 0 < level_in (pool root) → HasChild (is.first ∷ is.kept) n ⊎ HasChild (is.given ∷ is.rest) n
            → IsNamed grown new n
        halves inner (inl has) = (
          a,
          there.0,
          subst (λ (k : ℕ). 0 < k) (sym (ap level_in (is.others a is.apart.0) ∙ is.a_level)) inner,
          rw (is.others a is.apart.0, is.a_is) has,
        )
        halves inner (inr has) = (
          b,
          there.1,
          subst (λ (k : ℕ). 0 < k) (sym (ap level_in (is.others b is.apart.1) ∙ is.b_level)) inner,
          rw (is.others b is.apart.1, is.b_is) has,
        )

        one : (m ≡ root) ⊎ (m ≢ root) → IsNamed grown new n
        one (inl same) = halves (subst (λ (k : ℕ). 0 < level_in (pool k)) same inner)
            (parts (is.first ∷ is.kept) (is.given ∷ is.rest) n (subst (λ (es : List Entry). HasChild es n) is.was
            (subst (λ (k : ℕ). HasChild (entries_of (pool k)) n) same names)))
        one (inr other) = (
          m,
          grow_wider size pool owner root a b of_pool m pool_tree placed,
          subst (λ (page : List ℕ). 0 < level_in page) (sym (is.others m other)) inner,
          subst (λ (page : List ℕ). HasChild (entries_of page) n) (sym (is.others m other)) names,
        )

    still : (levels : List (List ℕ)) → InTree levels root → ((n : ℕ) → InTree of_image n → InTree levels n)
        → ((n : ℕ) → InTree levels n → InTree new n) → IsTreeBehind grown last new levels
    still levels root_there wider within = record {
      within = within;
      unnamed = λ n has. one n (grow_back root a b of_pool n has);
    }
      where
        two : (n : ℕ) → IsNamed pool of_pool n ⊎ InTree of_image n → IsNamed grown new n ⊎ InTree levels n
        two n (inl names) = inl (stays_named n names)
        two n (inr has) = inr (wider n has)

        one : (n : ℕ) → (n ≡ root) ⊎ ((n ≡ a) ⊎ ((n ≡ b) ⊎ InTree of_pool n)) → IsNamed grown new n ⊎ InTree levels n
        one n (inl same) = inr (subst (InTree levels) (sym same) root_there)
        one n (inr (inl same)) = inl (by_root n (inl (is.a_child ∙ sym same)))
        one n (inr (inr (inl same))) = inl (by_root n (inr (inl (is.b_child ∙ sym same))))
        one n (inr (inr (inr has))) = two n (behind.unnamed n has)

    from_image : (n : ℕ) → InTree of_image n → InTree new n
    from_image n has = grow_wider size pool owner root a b of_pool n pool_tree (behind.within n has)

    at : (c : Bool) → set_ root ≡ c → IsSplitPart size grown image last owner root new of_image
    at false i =
        let same : last ≡ image = same_at image last root lays.page.others (lays.page.out i) in
        record {
          levels = of_image;
          tree = subst (λ (pages : Pages). IsTree size pages owner root of_image) (sym same) tree;
          finds = λ e on. subst (λ (pages : Pages). InLeaves pages of_image e) (sym same) on;
          behind = still of_image (root_in size image owner root of_image is.some.0 tree) (λ n has. has) from_image;
        }
    at true i =
        let first = lays.first i in
        let steps = grows_in size pool grown image last owner root a b is (lays.page.was i) first.0 first.1 first.2 first.3
        (lays.page.there i) lays.page.others lays.page.used in
        record {
          levels = grow_levels root a b of_image;
          tree = tree_grown size image last owner root a b of_image steps tree;
          finds = λ e on. grown_finds size image last owner root a b of_image e steps tree on;
          behind = still (grow_levels root a b of_image)
              (grow_new size image owner root a b of_image tree is.some.0).2
              (λ n has. grow_wider size image owner root a b of_image n tree has) narrower;
        }
      where
        narrow : (n : ℕ) → (n ≡ root) ⊎ ((n ≡ a) ⊎ ((n ≡ b) ⊎ InTree of_image n)) → InTree new n
        narrow n (inl same) = subst (InTree new) (sym same) there.2
        narrow n (inr (inl same)) = subst (InTree new) (sym same) there.0
        narrow n (inr (inr (inl same))) = subst (InTree new) (sym same) there.1
        narrow n (inr (inr (inr has))) = from_image n has

        narrower : (n : ℕ) → InTree (grow_levels root a b of_image) n → InTree new n
        narrower n has = narrow n (grow_back root a b of_image n has)
