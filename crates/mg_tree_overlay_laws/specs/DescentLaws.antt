-- The page on which a search goes down is the parent of the page that it comes to below.
use Rattle.std.proofs.Common.{◌≡◌, ◌≢◌, ◌⊎◌, inl, inr, ◌∙◌, ap, refl, sym, subst, ◌<◌, ℕ, suc, List, [], ◌∷◌, ◌++◌, Option, Some, None, length, arith}
use Rattle.std.specs.Prelude.{IfSome}
use Rattle.std.proofs.lemmas.Bool.{cases_eq}
use Rattle.std.proofs.lemmas.Cmp.{tied_itself}
use Rattle.mg_node.specs.declared.entry.Entry.{Entry}
use Rattle.mg_node.specs.NodePage.{AreAscending, IsAtLeast, IsBelow, entries_of, high_of, level_in, low_of, right_in}
use Rattle.mg_image.specs.Form.{Pages}
use Rattle.mg_image.specs.Indexes.{AreChildren, AreNodes, EachPage, Finds, HasChildren, HasEntry, IsLastUpTo, IsNode, IsTree, LevelChain, as_fence, first_level}
use Rattle.mg_image.specs.Tables.{Has, ended, goes}
use Rattle.mg_node.specs.EntryOrderLaws.{entry_cmp_total}
use Rattle.mg_tree_overlay_laws.specs.EntryLaws.{at_least_below, between_has, child_among, later_child}
use Rattle.mg_tree_overlay_laws.specs.FoundLaws.{found_in_leaves, from_between, from_first, high_left, neighbour, past_high, right_on}
use Rattle.mg_tree_overlay_laws.specs.GrowLaws.{AreChains, chains_of}
use Rattle.mg_tree_overlay_laws.specs.SplitParts.{child_below, level_less}
use Rattle.mg_tree_overlay_laws.specs.KeptLaws.{on_leaves}
use Rattle.mg_tree_overlay_laws.specs.PoolLaws.{leaf_tree}
use Rattle.mg_tree_overlay_laws.specs.StepLaws.{each_has}
use Rattle.mg_tree_overlay_laws.specs.TreeSteps.{InTree, Rewrites}
use Rattle.mg_tree_overlay_laws.specs.TreesBehind.{Covers, GoesRight, HasChild, IsFrom, IsNamed, IsParent, OnPages, leaves, over, stays}

pub not_below_itself : (e : Entry) → IsBelow e e → ⊥
not_below_itself e less = let same = tied_itself entry_cmp_total e in cc

-- then its low fence is behind that of the first one
pub record IsRight (pages : Pages) (e : Entry) (c l : ℕ) : Type 0 where
  pub fence : Entry
  pub low : low_of (pages l) ≡ Some fence
  pub reached : IsAtLeast e fence
  pub behind : IfSome (low_of (pages c)) (λ a. IsBelow a fence)

ranged_by : (low high : Option Entry) (a b : Entry) → low ≡ Some a → high ≡ Some b
    → IfSome low (λ x. IfSome high (λ y. IsBelow x y)) → IsBelow a b
ranged_by low high a b i j range = rw (i, j) at range

trans_low : (low : Option Entry) (a b : Entry) → IfSome low (λ x. IsBelow x a) → IsBelow a b → IfSome low (λ x. IsBelow x b)
trans_low None a b less more = tt
trans_low (Some x) a b less more = entry_cmp_total.trans x a b less more

range_high : (low high : Option Entry) (b : Entry) → high ≡ Some b → IfSome low (λ x. IfSome high (λ y. IsBelow x y))
    → IfSome low (λ x. IsBelow x b)
range_high None high b is range = tt
range_high (Some x) high b is range = rw is at range

pub ascends : (x : Entry) (es : List Entry) (z : Entry) → AreAscending (x ∷ es) → HasEntry es z → IsBelow x z
ascends x [] z all has = absurd has
ascends x (f ∷ fs) z all (inl same) = rw same all.0
ascends x (f ∷ fs) z all (inr later) = entry_cmp_total.trans x f z all.0 (ascends f fs z all.1 later)

pub tail_ascends : (x : Entry) (es : List Entry) → AreAscending (x ∷ es) → AreAscending es
tail_ascends x [] all = tt
tail_ascends x (f ∷ fs) all = all.1

pub last_has : (before after : List Entry) (last : Entry) → HasEntry (before ++ last ∷ after) last
last_has [] after last = inl refl
last_has (b ∷ bs) after last = inr (last_has bs after last)

pub before_below : (before after : List Entry) (last y : Entry) → AreAscending (before ++ last ∷ after) → HasEntry before y
    → IsBelow y last
before_below [] after last y all has = absurd has
before_below (b ∷ bs) after last y all (inl same) = rw same (ascends b (bs ++ last ∷ after) last all (last_has bs after last))
before_below (b ∷ bs) after last y all (inr later) =
    before_below bs after last y (tail_ascends b (bs ++ last ∷ after) all) later

parts_of : (before after : List Entry) (last y : Entry) → HasEntry (before ++ last ∷ after) y
    → HasEntry before y ⊎ ((y ≡ last) ⊎ HasEntry after y)
parts_of [] after last y (inl same) = inr (inl same)
parts_of [] after last y (inr later) = inr (inr later)
parts_of (b ∷ bs) after last y (inl same) = inl (inl same)
parts_of (b ∷ bs) after last y (inr later) = at (parts_of bs after last y later)
  where
    at : HasEntry bs y ⊎ ((y ≡ last) ⊎ HasEntry after y) → HasEntry (b ∷ bs) y ⊎ ((y ≡ last) ⊎ HasEntry after y)
    at (inl has) = inl (inr has)
    at (inr other) = inr other

child_of_last : (es : List Entry) (before after : List Entry) (last : Entry) → es ≡ before ++ last ∷ after → HasChild es last.child.0
child_of_last es before after last is = rw is (at before)
  where
    at : (before : List Entry) → HasChild (before ++ last ∷ after) last.child.0
    at [] = inl refl
    at (b ∷ bs) = inr (at bs)

-- the entry that names a page, and that page's low fence
named_by : (pages : Pages) (below : List ℕ) (low : Option Entry) (es : List Entry) (l : ℕ) → HasChildren pages below low es
    → HasChild es l → (y : Entry) × HasEntry es y × (y.child.0 ≡ l)
    × ((low_of (pages l) ≡ Some (as_fence y)) ⊎ (low_of (pages l) ≡ low))
named_by pages below low [] l are has = absurd has
named_by pages below low (x ∷ xs) l are (inl same) = (x, inl refl, same, inr (subst (λ (k : ℕ). low_of (pages k) ≡ low) same are.1))
named_by pages below low (x ∷ xs) l are (inr later) = let more = rest xs are.2 later in (more.0, inr more.1, more.2, inl more.3)
  where
    rest : (xs : List Entry) → AreChildren pages below xs → HasChild xs l → (y : Entry) × HasEntry xs y × (y.child.0 ≡ l)
        × (low_of (pages l) ≡ Some (as_fence y))
    rest [] are has = absurd has
    rest (y ∷ ys) are (inl same) = (y, inl refl, same, subst (λ (k : ℕ). low_of (pages k) ≡ Some (as_fence y)) same are.1)
    rest (y ∷ ys) are (inr later) = let more = rest ys are.2 later in (more.0, inr more.1, more.2, more.3)

module _ (size : ℕ) (pages : Pages) (owner : ℕ) where
  -- two pages of a level between whose fences one entry lies are one page
  pub one_page : (level : ℕ) (below : List ℕ) (x : Entry) (first : ℕ) (ns : List ℕ) (n m : ℕ) → LevelChain pages first ns
      → EachPage (IsNode size pages owner level below) ns → Has ns n → Has ns m
      → Covers pages n x → Covers pages m x → n ≡ m
  one_page level below x first ns n m ended nodes has other of_n of_m = absurd has
  one_page level below x first ns n m (goes k ms some more) nodes (inl i) (inl j) of_n of_m = i ∙ sym j
  one_page level below x first ns n m (goes k ms some more) nodes (inr i) (inr j) of_n of_m =
      one_page level below x (right_in (pages k)) ms n m more nodes.1 i j of_n of_m
  one_page level below x first ns n m (goes k ms some more) nodes (inl i) (inr j) of_n of_m =
      absurd (apart level below x k ms m more nodes j of_m.0 (subst (λ (h : ℕ). Covers pages h x) i of_n).1)
    where
      some_of : (h : ℕ) (ms : List ℕ) (m : ℕ) → LevelChain pages h ms → Has ms m → h ≢ 0
      some_of h ms m ended has = absurd has
      some_of h ms m (goes j js other rest) has = other

      apart : (level : ℕ) (below : List ℕ) (x : Entry) (k : ℕ) (ms : List ℕ) (m : ℕ) → LevelChain pages (right_in (pages k)) ms
          → EachPage (IsNode size pages owner level below) (k ∷ ms) → Has ms m
          → IsFrom pages x m → IfSome (high_of (pages k)) (λ high. IsBelow x high) → ⊥
      apart level below x k ms m more nodes has from before =
          let past = past_high size pages owner x level below k nodes.0 (some_of (right_in (pages k)) ms m more has)
          (from_first size pages owner x level below (right_in (pages k)) ms m more nodes.1 has from) in
          past.2 (subst (λ (h : Option Entry). IfSome h (λ high. IsBelow x high)) past.1 before)
  one_page level below x first ns n m (goes k ms some more) nodes (inr i) (inl j) of_n of_m =
      absurd (apart level below x k ms n more nodes i of_n.0 (subst (λ (h : ℕ). Covers pages h x) j of_m).1)
    where
      some_of : (h : ℕ) (ms : List ℕ) (m : ℕ) → LevelChain pages h ms → Has ms m → h ≢ 0
      some_of h ms m ended has = absurd has
      some_of h ms m (goes j js other rest) has = other

      apart : (level : ℕ) (below : List ℕ) (x : Entry) (k : ℕ) (ms : List ℕ) (m : ℕ) → LevelChain pages (right_in (pages k)) ms
          → EachPage (IsNode size pages owner level below) (k ∷ ms) → Has ms m
          → IsFrom pages x m → IfSome (high_of (pages k)) (λ high. IsBelow x high) → ⊥
      apart level below x k ms m more nodes has from before =
          let past = past_high size pages owner x level below k nodes.0 (some_of (right_in (pages k)) ms m more has)
          (from_first size pages owner x level below (right_in (pages k)) ms m more nodes.1 has from) in
          past.2 (subst (λ (h : Option Entry). IfSome h (λ high. IsBelow x high)) past.1 before)

  -- to the right on a level
  pub right_facts : (e : Entry) (level : ℕ) (below : List ℕ) (first : ℕ) (ns : List ℕ) (c l : ℕ) → LevelChain pages first ns
      → EachPage (IsNode size pages owner level below) ns → Has ns c
      → GoesRight pages e c l → Has ns l × ((l ≡ c) ⊎ IsRight pages e c l)
  right_facts e level below first ns c l chain nodes has stays = (has, inl refl)
  right_facts e level below first ns c l chain nodes has (over n fence way high past) =
      at (right_facts e level below first ns c n chain nodes has way)
    where
      at : Has ns n × ((n ≡ c) ⊎ IsRight pages e c n) → Has ns (right_in (pages n))
          × ((right_in (pages n) ≡ c) ⊎ IsRight pages e c (right_in (pages n)))
      at (placed, which) = (
        right_on size pages owner e first ns n chain placed some,
        inr (record {
          fence = fence;
          low = node.fence some ∙ high;
          reached = past;
          behind = one which;
        }),
      )
        where
          node : IsNode size pages owner level below n
          node = each_has (IsNode size pages owner level below) ns n placed nodes

          some : right_in (pages n) ≢ 0
          some = neighbour (right_in (pages n)) (sym (high_left (pages n) fence high) ∙ node.high)

          one : (n ≡ c) ⊎ IsRight pages e c n → IfSome (low_of (pages c)) (λ a. IsBelow a fence)
          one (inl same) = subst (λ (k : ℕ). IfSome (low_of (pages k)) (λ a. IsBelow a fence)) same
              (range_high (low_of (pages n)) (high_of (pages n)) fence high node.apart)
          one (inr right) = trans_low (low_of (pages c)) right.fence fence right.behind
              (ranged_by (low_of (pages n)) (high_of (pages n)) right.fence fence right.low high node.apart)

  -- no page of p's level names a page that was come to by going right from the child
  none_names : (e : Entry) (level : ℕ) (next : List ℕ) (first : ℕ) (ns : List ℕ) (p m l : ℕ) (last : Entry)
      → LevelChain pages first ns → EachPage (IsNode size pages owner (suc level) next) ns
      → Has ns p → Has ns m → Covers pages p e → IsLastUpTo (entries_of (pages p)) e last
      → IsRight pages e last.child.0 l → HasChild (entries_of (pages m)) l → ⊥
  none_names e level next first ns p m l last chain nodes has other covers up right names =
      at (named_by pages next (low_of (pages m)) (entries_of (pages m)) l (of_m.children (omega arith)) names)
    where
      of_p : IsNode size pages owner (suc level) next p
      of_p = each_has (IsNode size pages owner (suc level) next) ns p has nodes

      of_m : IsNode size pages owner (suc level) next m
      of_m = each_has (IsNode size pages owner (suc level) next) ns m other nodes

      children : HasChildren pages next (low_of (pages p)) (up.before ++ last ∷ up.after)
      children = subst (HasChildren pages next (low_of (pages p))) up.parts (of_p.children (omega arith))

      last_from : IfSome (low_of (pages p)) (λ fence. IsAtLeast last fence)
      last_from = from_between (low_of (pages p)) (high_of (pages p)) (entries_of (pages p)) last of_p.lawful.between
          (subst (λ (es : List Entry). HasEntry es last) (sym up.parts) (last_has up.before up.after last))

      f : Entry
      f = right.fence

      -- the fence lies on p
      from_low : (low : Option Entry) → IfSome low (λ a. IsAtLeast last a)
          → ((low_of (pages last.child.0) ≡ Some (as_fence last)) ⊎ (low_of (pages last.child.0) ≡ low))
          → IfSome low (λ a. IsAtLeast f a)
      from_low None from which = tt
      from_low (Some a) from (inl is) = λ less. from (entry_cmp_total.trans last f a
          (subst (λ (x : Option Entry). IfSome x (λ b. IsBelow b f)) is right.behind) less)
      from_low (Some a) from (inr is) = λ less. not_below_itself a (entry_cmp_total.trans a f a
          (subst (λ (x : Option Entry). IfSome x (λ b. IsBelow b f)) is right.behind) less)

      to_high : (high : Option Entry) → IfSome high (λ b. IsBelow e b) → IfSome high (λ b. IsBelow f b)
      to_high None before = tt
      to_high (Some b) before = at_least_below f e b right.reached before

      on_p : Covers pages p f
      on_p = (
        from_low (low_of (pages p)) last_from (child_among pages next (low_of (pages p)) up.before up.after last children).1,
        to_high (high_of (pages p)) covers.1,
      )

      same_page : Covers pages m f → m ≡ p
      same_page of = one_page (suc level) next f first ns m p chain nodes other has of on_p

      by_entry : (y : Entry) → y.child.0 ≡ l → f ≡ as_fence y
          → HasEntry up.before y ⊎ ((y ≡ last) ⊎ HasEntry up.after y) → ⊥
      by_entry y child is (inr (inr later)) = right.reached (rw is (up.then_behind y later))
      by_entry y child is (inr (inl same)) = not_below_itself f (subst (λ (x : Option Entry). IfSome x (λ b. IsBelow b f))
          (ap (λ (k : ℕ). low_of (pages k)) (ap (λ (z : Entry). z.child.0) (sym same) ∙ child) ∙ right.low) right.behind)
      by_entry y child is (inl earlier) = at_front up.before earlier children
          (before_below up.before up.after last y (subst AreAscending up.parts of_p.lawful.ascending) earlier)
        where
          at_front : (before : List Entry) → HasEntry before y → HasChildren pages next (low_of (pages p)) (before ++ last ∷ up.after)
              → IsBelow y last → ⊥
          at_front [] none are less = none
          at_front (b ∷ bs) there are less =
              let low = (later_child pages next bs up.after last are.2).1 in
              let back : IsBelow (as_fence last) f = subst (λ (x : Option Entry). IfSome x (λ b. IsBelow b f)) low right.behind in
              let again : IsBelow (as_fence last) (as_fence y) = subst (λ (g : Entry). IsBelow (as_fence last) g) is back in
              not_below_itself y (entry_cmp_total.trans y last y less again)

      first_child_case : low_of (pages m) ≡ Some f → m ≡ p → ⊥
      first_child_case low same = at_child (child_among pages next (low_of (pages p)) up.before up.after last children).1
        where
          low_p : low_of (pages p) ≡ Some f
          low_p = ap (λ (k : ℕ). low_of (pages k)) (sym same) ∙ low

          at_child : (low_of (pages last.child.0) ≡ Some (as_fence last)) ⊎ (low_of (pages last.child.0) ≡ low_of (pages p)) → ⊥
          at_child (inl is) = (subst (λ (x : Option Entry). IfSome x (λ b. IsAtLeast last b)) low_p last_from)
              (subst (λ (x : Option Entry). IfSome x (λ b. IsBelow b f)) is right.behind)
          at_child (inr is) = not_below_itself f (subst (λ (x : Option Entry). IfSome x (λ b. IsBelow b f)) (is ∙ low_p) right.behind)

      at : (y : Entry) × HasEntry (entries_of (pages m)) y × (y.child.0 ≡ l)
          × ((low_of (pages l) ≡ Some (as_fence y)) ⊎ (low_of (pages l) ≡ low_of (pages m))) → ⊥
      at (y, there, child, inl low) =
          let both : Some f ≡ Some (as_fence y) = sym right.low ∙ low in
          let is : f ≡ as_fence y = cc in
          let same = same_page (rw is (
            from_between (low_of (pages m)) (high_of (pages m)) (entries_of (pages m)) y of_m.lawful.between there,
            between_has (low_of (pages m)) (high_of (pages m)) (entries_of (pages m)) y of_m.lawful.between there,
          )) in
          by_entry y child is (parts_of up.before up.after last y
          (subst (λ (es : List Entry). HasEntry es y) up.parts (subst (λ (k : ℕ). HasEntry (entries_of (pages k)) y) same there)))
      at (y, there, child, inr low) =
          let low_m : low_of (pages m) ≡ Some f = sym low ∙ right.low in
          first_child_case low_m (same_page (
            rw low_m (not_below_itself f),
            subst (λ (x : Option Entry). IfSome x (λ a. IfSome (high_of (pages m)) (λ b. IsBelow a b))) low_m of_m.apart,
          ))

  named_level : (levels : List (List ℕ)) (m l : ℕ) → AreNodes size pages owner levels → InTree levels m
      → 0 < level_in (pages m) → HasChild (entries_of (pages m)) l → level_in (pages m) ≡ suc (level_in (pages l))
  named_level [] m l nodes placed inner names = absurd placed
  named_level (level ∷ below) m l nodes (inr later) inner names = named_level below m l nodes.1 later inner names
  named_level (level ∷ below) m l nodes (inl has) inner names = at below nodes.1 on_level
      (child_below pages (first_level below) (low_of (pages m)) (entries_of (pages m)) l
      (node.children (let same = on_level in omega (arith, inner, same))) names)
    where
      node : IsNode size pages owner (length below) (first_level below) m
      node = each_has (IsNode size pages owner (length below) (first_level below)) level m has nodes.0

      on_level : level_in (pages m) ≡ length below
      on_level = node.on_level

      at : (below : List (List ℕ)) → AreNodes size pages owner below → level_in (pages m) ≡ length below
          → Has (first_level below) l → level_in (pages m) ≡ suc (level_in (pages l))
      at [] nodes level has = absurd has
      at (next ∷ rest) nodes level has =
          let child = each_has (IsNode size pages owner (length rest) (first_level rest)) next l has nodes.0 in
          let child_level = child.on_level in omega arith

  parent_in : (e : Entry) (levels : List (List ℕ)) (p l : ℕ) (last : Entry) → AreChains pages levels
      → AreNodes size pages owner levels → InTree levels p → 0 < level_in (pages p)
      → Covers pages p e → IsLastUpTo (entries_of (pages p)) e last → GoesRight pages e last.child.0 l
      → IsParent pages levels p l
  parent_in e [] p l last chains nodes placed inner covers up way = absurd placed
  parent_in e (level ∷ []) p l last chains nodes (inl has) inner covers up way =
      let node = each_has (IsNode size pages owner 0 []) level p has nodes.0 in
      let on_level = node.on_level in absurd (omega arith)
  parent_in e (level ∷ next ∷ rest) p l last chains nodes (inl has) inner covers up way =
      at (right_facts e (length rest) (first_level rest) chains.1.0.0 next last.child.0 l chains.1.0.1 nodes.1.0 child way)
    where
      node : IsNode size pages owner (suc (length rest)) next p
      node = each_has (IsNode size pages owner (suc (length rest)) next) level p has nodes.0

      child : Has next last.child.0
      child = (child_among pages next (low_of (pages p)) up.before up.after last
          (subst (HasChildren pages next (low_of (pages p))) up.parts (node.children (omega arith)))).0

      at : Has next l × ((l ≡ last.child.0) ⊎ IsRight pages e last.child.0 l) → IsParent pages (level ∷ next ∷ rest) p l
      at (placed, which) = record {
        parent = inl has;
        child = inr (inl placed);
        level = let on_level = node.on_level in let low = child_level in omega (arith, on_level, low);
        names = names which;
      }
        where
          child_level : level_in (pages l) ≡ length rest
          child_level = (each_has (IsNode size pages owner (length rest) (first_level rest)) next l placed nodes.1.0).on_level

          none : IsRight pages e last.child.0 l → IsNamed pages (level ∷ next ∷ rest) l → ⊥
          none right (m, inl other, inner_m, names_m) = none_names e (length rest) next chains.0.0 level p m l last chains.0.1
              nodes.0 has other covers up right names_m
          none right (m, inr later, inner_m, names_m) =
              let less = level_less size pages owner (next ∷ rest) m nodes.1 later in
              let one_up = named_level (next ∷ rest) m l nodes.1 later inner_m names_m in
              let low = child_level in omega (arith, less, one_up, low)

          names : (l ≡ last.child.0) ⊎ IsRight pages e last.child.0 l
              → HasChild (entries_of (pages p)) l ⊎ (IsNamed pages (level ∷ next ∷ rest) l → ⊥)
          names (inl same) = inl (subst (HasChild (entries_of (pages p))) (sym same)
              (child_of_last (entries_of (pages p)) up.before up.after last up.parts))
          names (inr right) = inr (none right)
  parent_in e (level ∷ below) p l last chains nodes (inr later) inner covers up way =
      at (parent_in e below p l last chains.1 nodes.1 later inner covers up way)
    where
      at : IsParent pages below p l → IsParent pages (level ∷ below) p l
      at is = record {
        parent = inr is.parent;
        child = inr is.child;
        level = is.level;
        names = names is.names;
      }
        where
          none : (IsNamed pages below l → ⊥) → IsNamed pages (level ∷ below) l → ⊥
          none absent (m, inr there, inner_m, names_m) = absent (m, there, inner_m, names_m)
          none absent (m, inl there, inner_m, names_m) =
              let less = level_less size pages owner below p nodes.1 later in
              let node = each_has (IsNode size pages owner (length below) (first_level below)) level m there nodes.0 in
              let on_level = node.on_level in
              let one_up = named_level (level ∷ below) m l nodes (inl there) inner_m names_m in
              let same = is.level in omega arith

          names : HasChild (entries_of (pages p)) l ⊎ (IsNamed pages below l → ⊥)
              → HasChild (entries_of (pages p)) l ⊎ (IsNamed pages (level ∷ below) l → ⊥)
          names (inl has) = inl has
          names (inr absent) = inr (none absent)

-- a search for an entry goes down from a page p, by its last entry up to it, and to the right as far
-- as a page l: p is the parent of l
pub parent_of_descent : (size owner root : ℕ) (pages : Pages) (levels : List (List ℕ)) (e : Entry) (p l : ℕ) (last : Entry)
    → IsTree size pages owner root levels → InTree levels p → 0 < level_in (pages p)
    → Covers pages p e → IsLastUpTo (entries_of (pages p)) e last → GoesRight pages e last.child.0 l
    → IsParent pages levels p l
parent_of_descent size owner root pages levels e p l last tree placed inner covers up way =
    parent_in size pages owner e levels p l last (chains_of pages root levels tree.levels_from) tree.nodes placed
    inner covers up way

-- ---- an entry stands on one leaf

pub on_one : (pages : Pages) (e : Entry) (ns : List ℕ) → OnPages pages ns e
    → (m : ℕ) × Has ns m × HasEntry (entries_of (pages m)) e
on_one pages e [] on = absurd on
on_one pages e (n ∷ ns) (inl has) = (n, inl refl, has)
on_one pages e (n ∷ ns) (inr later) =
    let more = on_one pages e ns later in (more.0, inr more.1, more.2)

pub covers_own : (size : ℕ) (pages : Pages) (owner level : ℕ) (below : List ℕ) (n : ℕ) (e : Entry)
    → IsNode size pages owner level below n → HasEntry (entries_of (pages n)) e → Covers pages n e
covers_own size pages owner level below n e node has = (
  from_between (low_of (pages n)) (high_of (pages n)) (entries_of (pages n)) e node.lawful.between has,
  between_has (low_of (pages n)) (high_of (pages n)) (entries_of (pages n)) e node.lawful.between has,
)

one_leaf : (size : ℕ) (pages : Pages) (owner : ℕ) (levels : List (List ℕ)) (n m : ℕ) (e : Entry)
    → AreChains pages levels → AreNodes size pages owner levels → Has (leaves levels) n
    → Has (leaves levels) m → HasEntry (entries_of (pages n)) e → HasEntry (entries_of (pages m)) e
    → n ≡ m
one_leaf size pages owner [] n m e chains nodes has other there too = absurd has
one_leaf size pages owner (level ∷ []) n m e chains nodes has other there too =
    let of_n = each_has (IsNode size pages owner 0 []) level n has nodes.0 in
    let of_m = each_has (IsNode size pages owner 0 []) level m other nodes.0 in
    one_page size pages owner 0 [] e chains.0.0 level n m chains.0.1 nodes.0 has other
    (covers_own size pages owner 0 [] n e of_n there) (covers_own size pages owner 0 [] m e of_m too)
one_leaf size pages owner (level ∷ next ∷ below) n m e chains nodes has other there too =
    one_leaf size pages owner (next ∷ below) n m e chains.1 nodes.1 has other there too

-- what a leaf has lost is found no more
pub removed_is_gone : (size owner root : ℕ) (pool changed : Pages) (levels : List (List ℕ)) (n : ℕ)
    (e : Entry) → IsTree size pool owner root levels → InTree levels n → level_in (pool n) ≡ 0
    → HasEntry (entries_of (pool n)) e → Rewrites size pool changed owner n
    → (HasEntry (entries_of (changed n)) e → ⊥) → Finds changed e root → ⊥
removed_is_gone size owner root pool changed levels n e tree placed leaf has is gone found =
    let after_ = leaf_tree size pool changed owner root n levels is leaf tree in
    let there = on_one changed e (leaves levels)
    (found_in_leaves size changed owner root levels e after_ found) in
    at there.0 there.1 there.2 (cases_eq there.0 n)
  where
    at : (m : ℕ) → Has (leaves levels) m → HasEntry (entries_of (changed m)) e → (m ≡ n) ⊎ (m ≢ n) → ⊥
    at m on has_m (inl same) = gone (subst (λ (k : ℕ). HasEntry (entries_of (changed k)) e) same has_m)
    at m on has_m (inr other) = other (one_leaf size pool owner levels m n e
        (chains_of pool root levels tree.levels_from) tree.nodes on
        (on_leaves size pool owner levels n tree.nodes placed leaf)
        (subst (λ (page : List ℕ). HasEntry (entries_of page) e) (is.others m other) has_m) has)
