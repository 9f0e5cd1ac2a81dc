-- What the leaves of a tree have, before and after a step.
use Rattle.std.proofs.Common.{◌≡◌, ◌≢◌, ◌⊎◌, inl, inr, ◌∙◌, ap, refl, sym, subst, ◌≤◌, ◌==◌, ℕ, suc, List, [], ◌∷◌, ◌++◌, length, arith, eq-eqb}
use Rattle.std.specs.Prelude.{if◌then◌else◌}
use Rattle.std.proofs.lemmas.Bool.{cases_eq, ne_eqb}
use Rattle.mg_node.specs.declared.entry.Entry.{Entry}
use Rattle.mg_node.specs.NodePage.{entries_of, level_in, right_in}
use Rattle.mg_image.specs.Form.{Pages}
use Rattle.mg_image.specs.Indexes.{HasEntry, IsNode, IsTree, LevelChain, Levels, above, first_level, lowest}
use Rattle.mg_image.specs.Tables.{Has, ended, goes}
use Rattle.mg_tree_overlay_laws.specs.GrowLaws.{lower_apart}
use Rattle.mg_tree_overlay_laws.specs.StepLaws.{each_has, first_in, top_page}
use Rattle.mg_tree_overlay_laws.specs.TreeSteps.{Grows, InTree, Rewrites, Splits, after, grow_levels, split_levels}
use Rattle.mg_tree_overlay_laws.specs.TreesBehind.{InLeaves, OnPages, leaves}

pub leaves_in : (levels : List (List ℕ)) (n : ℕ) → Has (leaves levels) n → InTree levels n
leaves_in [] n has = absurd has
leaves_in (level ∷ []) n has = inl has
leaves_in (level ∷ next ∷ below) n has = inr (leaves_in (next ∷ below) n has)

pub pages_as : (old new : Pages) (ns : List ℕ) (e : Entry)
    → ((n : ℕ) → Has ns n → HasEntry (entries_of (old n)) e → HasEntry (entries_of (new n)) e)
    → OnPages old ns e → OnPages new ns e
pages_as old new [] e same on = absurd on
pages_as old new (n ∷ ns) e same (inl has) = inl (same n (inl refl) has)
pages_as old new (n ∷ ns) e same (inr later) =
    inr (pages_as old new ns e (λ m has. same m (inr has)) later)

pub page_has : (pages : Pages) (ns : List ℕ) (n : ℕ) (e : Entry) → Has ns n
    → HasEntry (entries_of (pages n)) e → OnPages pages ns e
page_has pages [] n e has there = absurd has
page_has pages (m ∷ ms) n e (inl same) there =
    inl (subst (λ (k : ℕ). HasEntry (entries_of (pages k)) e) same there)
page_has pages (m ∷ ms) n e (inr later) there = inr (page_has pages ms n e later there)

either : (xs ys : List Entry) (e : Entry) → HasEntry (xs ++ ys) e → HasEntry xs e ⊎ HasEntry ys e
either [] ys e has = inr has
either (x ∷ xs) ys e (inl same) = inl (inl same)
either (x ∷ xs) ys e (inr later) = at (either xs ys e later)
  where
    at : HasEntry xs e ⊎ HasEntry ys e → HasEntry (x ∷ xs) e ⊎ HasEntry ys e
    at (inl has) = inl (inr has)
    at (inr has) = inr has

-- ---- a page in place

pub rewritten_finds : (size : ℕ) (old new : Pages) (owner n : ℕ) (levels : List (List ℕ)) (e : Entry)
    → Rewrites size old new owner n
    → (Has (leaves levels) n → HasEntry (entries_of (old n)) e → HasEntry (entries_of (new n)) e)
    → InLeaves old levels e → InLeaves new levels e
rewritten_finds size old new owner n levels e is has = pages_as old new (leaves levels) e at_page
  where
    at_page : (m : ℕ) → Has (leaves levels) m → HasEntry (entries_of (old m)) e → HasEntry (entries_of (new m)) e
    at_page m on = at (cases_eq m n)
      where
        at : (m ≡ n) ⊎ (m ≢ n) → HasEntry (entries_of (old m)) e → HasEntry (entries_of (new m)) e
        at (inl same) = subst (λ (k : ℕ). HasEntry (entries_of (old k)) e → HasEntry (entries_of (new k)) e) (sym same)
            (has (subst (Has (leaves levels)) same on))
        at (inr other) = subst (λ (page : List ℕ). HasEntry (entries_of (old m)) e → HasEntry (entries_of page) e)
            (sym (is.others m other)) (λ there. there)

-- ---- a split

leaves_split : (l r : ℕ) (levels : List (List ℕ)) → leaves (split_levels l r levels) ≡ after l r (leaves levels)
leaves_split l r [] = refl
leaves_split l r (level ∷ []) = refl
leaves_split l r (level ∷ next ∷ below) = leaves_split l r (next ∷ below)

pages_split : (size : ℕ) (old new : Pages) (owner l r : ℕ) (ns : List ℕ) (e : Entry)
    → Splits size old new owner l r → OnPages old ns e → OnPages new (after l r ns) e
pages_split size old new owner l r [] e is on = absurd on
pages_split size old new owner l r (n ∷ ns) e is on =
    at (cases_eq n l) on (pages_split size old new owner l r ns e is)
  where
    parts : HasEntry (entries_of (old l)) e
        → HasEntry (entries_of (new l)) e ⊎ HasEntry (entries_of (new r)) e
    parts has = one (either (is.first ∷ is.kept) (is.given ∷ is.rest) e
        (subst (λ (es : List Entry). HasEntry es e) is.was has))
      where
        one : HasEntry (is.first ∷ is.kept) e ⊎ HasEntry (is.given ∷ is.rest) e
            → HasEntry (entries_of (new l)) e ⊎ HasEntry (entries_of (new r)) e
        one (inl has) = inl (rw is.left_is has)
        one (inr has) = inr (rw (is.others r is.apart, is.right_is) has)

    at : (n ≡ l) ⊎ (n ≢ l) → HasEntry (entries_of (old n)) e ⊎ OnPages old ns e
        → (OnPages old ns e → OnPages new (after l r ns) e)
        → OnPages new (if n == l then n ∷ r ∷ after l r ns else n ∷ after l r ns) e
    at (inl same) (inl has) more = rw (eq-eqb n l same) (two (parts
        (subst (λ (k : ℕ). HasEntry (entries_of (old k)) e) same has)))
      where
        two : HasEntry (entries_of (new l)) e ⊎ HasEntry (entries_of (new r)) e
            → OnPages new (n ∷ r ∷ after l r ns) e
        two (inl has) = inl (subst (λ (k : ℕ). HasEntry (entries_of (new k)) e) (sym same) has)
        two (inr has) = inr (inl has)
    at (inl same) (inr later) more = rw (eq-eqb n l same) (inr (inr (more later)))
    at (inr other) (inl has) more = rw (ne_eqb n l other)
        (inl (rw (is.others n other) has))
    at (inr other) (inr later) more = rw (ne_eqb n l other) (inr (more later))

pub split_finds : (size : ℕ) (old new : Pages) (owner l r : ℕ) (levels : List (List ℕ)) (e : Entry)
    → Splits size old new owner l r → InLeaves old levels e → InLeaves new (split_levels l r levels) e
split_finds size old new owner l r levels e is on = rw (leaves_split l r levels)
    (pages_split size old new owner l r (leaves levels) e is on)

-- ---- the root splits

pub grown_finds : (size : ℕ) (old new : Pages) (owner root a b : ℕ) (levels : List (List ℕ)) (e : Entry)
    → Grows size old new owner root a b → IsTree size old owner root levels
    → InLeaves old levels e → InLeaves new (grow_levels root a b levels) e
grown_finds size old new owner root a b [] e is tree on = absurd on
grown_finds size old new owner root a b (top ∷ []) e is tree on =
    top_level root (top ∷ []) top tree.levels_from refl refl on
  where
    parts : HasEntry (entries_of (old root)) e → OnPages new (a ∷ b ∷ []) e
    parts has = one (either (is.first ∷ is.kept) (is.given ∷ is.rest) e
        (subst (λ (es : List Entry). HasEntry es e) is.was has))
      where
        one : HasEntry (is.first ∷ is.kept) e ⊎ HasEntry (is.given ∷ is.rest) e → OnPages new (a ∷ b ∷ []) e
        one (inl has) = inl (rw (is.others a is.apart.0, is.a_is) has)
        one (inr has) = inr (inl (rw (is.others b is.apart.1, is.b_is) has))

    chain_ends : (first : ℕ) (ns : List ℕ) → LevelChain old first ns → first ≡ 0 → OnPages old ns e → ⊥
    chain_ends first ns ended zero_ on = on
    chain_ends first ns (goes n ms some more) zero_ on = some zero_

    only : (first : ℕ) (ns : List ℕ) → LevelChain old first ns → first ≡ root → OnPages old ns e
        → OnPages new (a ∷ b ∷ []) e
    only first ns ended same on = absurd on
    only first ns (goes n ms some more) same (inl has) = parts (subst (λ (k : ℕ). HasEntry (entries_of (old k)) e) same has)
    only first ns (goes n ms some more) same (inr later) = absurd (chain_ends (right_in (old n)) ms more
        (ap (λ (k : ℕ). right_in (old k)) same ∙ tree.root_right) later)

    top_level : (n : ℕ) (levels : List (List ℕ)) (top : List ℕ) → Levels old n levels → levels ≡ top ∷ [] → n ≡ root
        → OnPages old top e → OnPages new (a ∷ b ∷ []) e
    top_level n levels top (lowest m level chain) opens same on =
        let level_is : top ≡ level = cc in
        only m level chain same (subst (λ (ns : List ℕ). OnPages old ns e) level_is on)
    top_level n levels top (above m level next below chain more) opens same on = absurd cc
grown_finds size old new owner root a b (top ∷ next ∷ below) e is tree on =
    pages_as old new (leaves (next ∷ below)) e (λ m has there. rw (is.others m
    (lower_apart size old owner root (next ∷ below) tree.nodes.1 level m (leaves_in (next ∷ below) m has))) there) on
  where
    here : IsNode size old owner (suc (length below)) next root
    here = each_has (IsNode size old owner (suc (length below)) next) top root
        (top_has root (top ∷ next ∷ below) is.some.0 tree.levels_from) tree.nodes.0
      where
        top_has : (n : ℕ) (levels : List (List ℕ)) → n ≢ 0 → Levels old n levels → Has (first_level levels) n
        top_has n levels some (lowest m level chain) = first_in (λ k. right_in (old k)) m level chain some
        top_has n levels some (above m level following lower chain more) =
            first_in (λ k. right_in (old k)) m level chain some

    level : suc (length below) ≤ level_in (old root)
    level = let on_level = here.on_level in omega arith

-- ---- and no other entry comes

pub front_has : (xs ys : List Entry) (e : Entry) → HasEntry xs e → HasEntry (xs ++ ys) e
front_has [] ys e has = absurd has
front_has (x ∷ xs) ys e (inl same) = inl same
front_has (x ∷ xs) ys e (inr later) = inr (front_has xs ys e later)

pub back_has : (xs ys : List Entry) (e : Entry) → HasEntry ys e → HasEntry (xs ++ ys) e
back_has [] ys e has = has
back_has (x ∷ xs) ys e has = inr (back_has xs ys e has)

-- what pages have, others have, or it is something else
pub pages_back : (A : Type 0) (old new : Pages) (ns : List ℕ) (e : Entry)
    → ((n : ℕ) → Has ns n → HasEntry (entries_of (new n)) e → HasEntry (entries_of (old n)) e ⊎ A)
    → OnPages new ns e → OnPages old ns e ⊎ A
pages_back A old new [] e same on = absurd on
pages_back A old new (n ∷ ns) e same (inl has) = at (same n (inl refl) has)
  where
    at : HasEntry (entries_of (old n)) e ⊎ A → (HasEntry (entries_of (old n)) e ⊎ OnPages old ns e) ⊎ A
    at (inl there) = inl (inl there)
    at (inr other) = inr other
pages_back A old new (n ∷ ns) e same (inr later) =
    at (pages_back A old new ns e (λ m has. same m (inr has)) later)
  where
    at : OnPages old ns e ⊎ A → (HasEntry (entries_of (old n)) e ⊎ OnPages old ns e) ⊎ A
    at (inl there) = inl (inr there)
    at (inr other) = inr other

pub rewritten_back : (A : Type 0) (size : ℕ) (old new : Pages) (owner n : ℕ) (levels : List (List ℕ))
    (e : Entry) → Rewrites size old new owner n
    → (Has (leaves levels) n → HasEntry (entries_of (new n)) e → HasEntry (entries_of (old n)) e ⊎ A)
    → InLeaves new levels e → InLeaves old levels e ⊎ A
rewritten_back A size old new owner n levels e is has = pages_back A old new (leaves levels) e at_page
  where
    at_page : (m : ℕ) → Has (leaves levels) m → HasEntry (entries_of (new m)) e
        → HasEntry (entries_of (old m)) e ⊎ A
    at_page m on = at (cases_eq m n)
      where
        at : (m ≡ n) ⊎ (m ≢ n) → HasEntry (entries_of (new m)) e → HasEntry (entries_of (old m)) e ⊎ A
        at (inl same) = subst (λ (k : ℕ). HasEntry (entries_of (new k)) e
            → HasEntry (entries_of (old k)) e ⊎ A) (sym same) (has (subst (Has (leaves levels)) same on))
        at (inr other) = λ there. inl (subst (λ (page : List ℕ). HasEntry (entries_of page) e)
            (is.others m other) there)

pages_split_back : (size : ℕ) (old new : Pages) (owner l r : ℕ) (ns : List ℕ) (e : Entry)
    → Splits size old new owner l r → OnPages new (after l r ns) e → OnPages old ns e
pages_split_back size old new owner l r [] e is on = absurd on
pages_split_back size old new owner l r (n ∷ ns) e is on =
    at (cases_eq n l) on (pages_split_back size old new owner l r ns e is)
  where
    from_left : HasEntry (entries_of (new l)) e → HasEntry (entries_of (old l)) e
    from_left has = rw is.was (front_has (is.first ∷ is.kept) (is.given ∷ is.rest) e
        (subst (λ (es : List Entry). HasEntry es e) is.left_is has))

    from_right : HasEntry (entries_of (new r)) e → HasEntry (entries_of (old l)) e
    from_right has = rw is.was (back_has (is.first ∷ is.kept) (is.given ∷ is.rest) e
        (subst (λ (es : List Entry). HasEntry es e) (ap entries_of (is.others r is.apart) ∙ is.right_is) has))

    at : (n ≡ l) ⊎ (n ≢ l) → OnPages new (if n == l then n ∷ r ∷ after l r ns else n ∷ after l r ns) e
        → (OnPages new (after l r ns) e → OnPages old ns e)
        → HasEntry (entries_of (old n)) e ⊎ OnPages old ns e
    at (inl same) on more = two (rw (eq-eqb n l same) at on)
      where
        as_left : HasEntry (entries_of (old l)) e → HasEntry (entries_of (old n)) e
        as_left = subst (λ (k : ℕ). HasEntry (entries_of (old k)) e) (sym same)

        two : HasEntry (entries_of (new n)) e ⊎ (HasEntry (entries_of (new r)) e ⊎ OnPages new (after l r ns) e)
            → HasEntry (entries_of (old n)) e ⊎ OnPages old ns e
        two (inl has) = inl (as_left (from_left (subst (λ (k : ℕ). HasEntry (entries_of (new k)) e) same has)))
        two (inr (inl has)) = inl (as_left (from_right has))
        two (inr (inr later)) = inr (more later)
    at (inr other) on more = two (rw (ne_eqb n l other) at on)
      where
        two : HasEntry (entries_of (new n)) e ⊎ OnPages new (after l r ns) e
            → HasEntry (entries_of (old n)) e ⊎ OnPages old ns e
        two (inl has) = inl (subst (λ (page : List ℕ). HasEntry (entries_of page) e) (is.others n other) has)
        two (inr later) = inr (more later)

pub split_back : (size : ℕ) (old new : Pages) (owner l r : ℕ) (levels : List (List ℕ)) (e : Entry)
    → Splits size old new owner l r → InLeaves new (split_levels l r levels) e → InLeaves old levels e
split_back size old new owner l r levels e is on = pages_split_back size old new owner l r (leaves levels) e is
    (subst (λ (ns : List ℕ). OnPages new ns e) (leaves_split l r levels) on)

pub grown_back : (size : ℕ) (old new : Pages) (owner root a b : ℕ) (levels : List (List ℕ)) (e : Entry)
    → Grows size old new owner root a b → IsTree size old owner root levels
    → InLeaves new (grow_levels root a b levels) e → InLeaves old levels e
grown_back size old new owner root a b [] e is tree on = absurd on
grown_back size old new owner root a b (top ∷ []) e is tree on =
    page_has old top root e (top_page old root (top ∷ []) tree.rooted tree.levels_from) (parts on)
  where
    parts : OnPages new (a ∷ b ∷ []) e → HasEntry (entries_of (old root)) e
    parts (inl has) = rw is.was (front_has (is.first ∷ is.kept) (is.given ∷ is.rest) e
        (subst (λ (es : List Entry). HasEntry es e) (ap entries_of (is.others a is.apart.0) ∙ is.a_is) has))
    parts (inr (inl has)) = rw is.was (back_has (is.first ∷ is.kept) (is.given ∷ is.rest) e
        (subst (λ (es : List Entry). HasEntry es e) (ap entries_of (is.others b is.apart.1) ∙ is.b_is) has))
    parts (inr (inr none)) = absurd none
grown_back size old new owner root a b (top ∷ next ∷ below) e is tree on =
    pages_as new old (leaves (next ∷ below)) e (λ m has there.
    subst (λ (page : List ℕ). HasEntry (entries_of page) e) (is.others m
    (lower_apart size old owner root (next ∷ below) tree.nodes.1 level m (leaves_in (next ∷ below) m has)))
    there) on
  where
    here : IsNode size old owner (suc (length below)) next root
    here = each_has (IsNode size old owner (suc (length below)) next) top root
        (top_page old root (top ∷ next ∷ below) tree.rooted tree.levels_from) tree.nodes.0

    level : suc (length below) ≤ level_in (old root)
    level = let on_level = here.on_level in omega arith
