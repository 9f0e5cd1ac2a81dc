-- What mg_node_writing makes of single pages is a step of a tree: a split, an entry more on an inner
-- page, and the growth of the root.
use Rattle.std.proofs.Common.{◌≡◌, ◌≢◌, ◌∙◌, ap, refl, sym, subst, ◌<◌, ◌≤◌, ℕ, zero, suc, Bool, true, false, List, [], ◌∷◌, ◌++◌, Some, None, length, arith}
use Rattle.std.specs.Prelude.{if◌then◌else◌}
use Rattle.std.proofs.lemmas.List.{length-append}
use Rattle.mg_base.specs.Checks.{PassesAll, common_checks}
use Rattle.mg_base.specs.CheckLaws.{front_checks}
use Rattle.mg_base.specs.Fields.{u32_at}
use Rattle.mg_base.specs.declared.fields.TheConstants.{OWN_AT}
use Rattle.mg_base.specs.declared.geometry.TheConstants.{GREATEST_LIMIT}
use Rattle.mg_node.specs.declared.entry.Entry.{Entry}
use Rattle.mg_node.specs.declared.entry.TheConstants.{CONTENT_AT, NODE_KIND}
use Rattle.mg_node.specs.NodePage.{IsNodePage, count_in, entries_of, entry_at, first_entries, has_high, has_low, high_at, high_of, is_inner, level_in, low_of, node_checks, place_of, right_in}
use Rattle.mg_image.specs.Form.{Pages}
use Rattle.mg_image.specs.Indexes.{as_fence}
use Rattle.mg_image.specs.Inventory.{is_used}
use Rattle.mg_node_writing.specs.ChangePromises.{InsertsBehindFirst}
use Rattle.mg_node_writing.specs.NewNodes.{CopiesNode}
use Rattle.mg_node_writing.specs.NodeChanges.{KeepsNode}
use Rattle.mg_node_writing.specs.Splits.{SplitsNode}
use Rattle.mg_tree_overlay_laws.specs.TreeSteps.{Grows, Names, Rewrites, Splits}
use Rattle.mg_tree_overlay_laws.specs.TreeBatches.{IsNoInventory}
use Rattle.mg_btree.specs.ChangeLaws.{same_fields, used_stays}

-- the own number of a page that passes
own_is : (bytes : List ℕ) (n owner : ℕ) → PassesAll (node_checks bytes n owner) → u32_at bytes OWN_AT ≡ n
unfolding common_checks
own_is bytes n owner passes = passes.1.1.1.0

pub own_passes : (bytes : List ℕ) (n owner : ℕ) → PassesAll (node_checks bytes n owner)
    → PassesAll (node_checks bytes (u32_at bytes OWN_AT) owner)
own_passes bytes n owner passes =
    subst (λ (k : ℕ). PassesAll (node_checks bytes k owner)) (sym (own_is bytes n owner passes)) passes

-- a split of the content of a page, whose upper half is in place
pub splits_step : (size : ℕ) (old new : Pages) (owner l r : ℕ) (left right : List ℕ)
    → SplitsNode (old l) left right r → IsNodePage left → IsNodePage right → 2 ≤ count_in left
    → 2 ≤ count_in right → ((m : ℕ) → m ≢ l → new m ≡ old m) → new l ≡ left → old r ≡ right
    → IsNoInventory size l → r ≢ l → r ≢ 0 → r < GREATEST_LIMIT → is_used size old r ≡ true
    → PassesAll (node_checks (old l) l owner) → Splits size old new owner l r
splits_step size old new owner l r left right is left_lawful right_lawful left_two right_two others new_l
    old_r no_inventory apart some below used fields = record {
      others = others;
      used = used_stays size old new l others no_inventory;
      apart = apart;
      some = some;
      left_fields = rw new_l (subst PassesAll (sym (front_checks left (old l) l NODE_KIND owner 0 is.left_front)) fields);
      left_lawful = rw new_l left_lawful;
      right_wanted = record {
        below = below;
        used = used;
        fields = rw old_r (is.right_fields owner (own_passes (old l) l owner fields));
      };
      right_lawful = rw old_r right_lawful;
      left_level = ap level_in new_l ∙ is.left_level;
      right_level = ap level_in old_r ∙ is.right_level;
      goes_to = ap right_in new_l ∙ is.goes_to;
      goes_on = ap right_in old_r ∙ is.goes_on;
      low = ap low_of new_l ∙ is.low;
      middle = ap high_of new_l ∙ (is.middle ∙ ap low_of (sym old_r));
      high = ap high_of old_r ∙ is.high;
      first = is.first;
      kept = is.kept;
      given = is.given;
      rest = is.rest;
      left_is = ap entries_of new_l ∙ is.left_is;
      right_is = ap entries_of old_r ∙ is.right_is;
      was = is.was;
      fence = ap low_of old_r ∙ is.fence;
      left_two = λ inner. rw new_l left_two;
      right_two = λ inner. rw old_r right_two;
    }

-- ---- an inner page gets an entry more

length_first : (page : List ℕ) (n : ℕ) → length (first_entries page n) ≡ n
length_first page zero = refl
length_first page (suc n) =
    let more = length_first page n in
    let all = length-append (first_entries page n) (entry_at (is_inner page) page (place_of page n) ∷ []) in
    omega (arith, more, all)

pub count_is : (page : List ℕ) → length (entries_of page) ≡ count_in page
unfolding entries_of
count_is page = length_first page (count_in page)

two_of : (page : List ℕ) (first e : Entry) (front back : List Entry)
    → entries_of page ≡ first ∷ front ++ e ∷ back → 2 ≤ count_in page
two_of page first e front back is =
    let all = length-append front (e ∷ back) in
    let len : length (entries_of page) ≡ suc (length (front ++ e ∷ back)) = ap length is in
    let count = count_is page in omega (arith, all, len, count)

pub names_step : (old new : Pages) (p : ℕ) (bytes : List ℕ) (e : Entry)
    → InsertsBehindFirst (old p) bytes e → new p ≡ bytes → low_of (old e.child.0) ≡ Some (as_fence e)
    → Names old new p e
names_step old new p bytes e is new_p fence = record {
  first = is.first;
  front = is.front;
  back = is.back;
  was = is.was;
  is = ap entries_of new_p ∙ is.is;
  fence = fence;
}

pub inner_rewrites : (size : ℕ) (old new : Pages) (owner p : ℕ) (bytes : List ℕ) (e : Entry)
    → ((m : ℕ) → m ≢ p → new m ≡ old m) → new p ≡ bytes → IsNoInventory size p
    → PassesAll (node_checks (old p) p owner) → IsNodePage bytes → KeepsNode (old p) bytes
    → InsertsBehindFirst (old p) bytes e → Rewrites size old new owner p
inner_rewrites size old new owner p bytes e others is no_inventory fields lawful keeps inserts = record {
  others = others;
  used = used_stays size old new p others no_inventory;
  fields = rw is (same_fields (old p) bytes p owner keeps fields);
  lawful = rw is lawful;
  level = rw is keeps.level;
  right = rw is keeps.right;
  low = rw is keeps.low;
  high = rw is keeps.high;
  two = λ inner. rw is (two_of bytes inserts.first e inserts.front inserts.back inserts.is);
  first = λ inner. rw (is, inserts.is, inserts.was) refl;
}

-- ---- the root splits

no_fence : (b : Bool) (e : Entry) → (if b then Some e else None) ≡ None → b ≡ false
no_fence true e is = absurd cc
no_fence false e is = refl

some_fence : (b : Bool) (e f : Entry) → (if b then Some e else None) ≡ Some f → b ≡ true
some_fence true e f is = refl
some_fence false e f is = absurd cc

-- The root's new content: two entries for the pages to which its old content goes.
pub record IsGrownRoot (owner root level a b : ℕ) (given : Entry) (bytes : List ℕ) : Type 0 where
  pub fields : PassesAll (node_checks bytes root owner)
  pub lawful : IsNodePage bytes
  pub on_level : level_in bytes ≡ suc level
  pub right : right_in bytes ≡ 0
  pub low : low_of bytes ≡ None
  pub high : high_of bytes ≡ None
  pub to_a : Entry
  pub to_b : Entry
  pub is : entries_of bytes ≡ to_a ∷ to_b ∷ []
  pub a_child : to_a.child.0 ≡ a
  pub b_child : to_b.child.0 ≡ b
  pub b_fence : as_fence to_b ≡ as_fence given

pub grows_step : (size : ℕ) (old new : Pages) (owner root a b : ℕ) (copy left right grown : List ℕ)
    → CopiesNode (old root) copy a → (is : SplitsNode copy left right b) → IsNodePage left
    → IsNodePage right → 2 ≤ count_in left → 2 ≤ count_in right
    → IsGrownRoot owner root (level_in (old root)) a b is.given grown
    → ((m : ℕ) → m ≢ root → new m ≡ old m) → new root ≡ grown → old a ≡ left → old b ≡ right
    → IsNoInventory size root → (root ≢ 0) × (a ≢ 0) × (b ≢ 0) → (a ≢ root) × (b ≢ root)
    → (a < GREATEST_LIMIT) × (b < GREATEST_LIMIT)
    → (is_used size old a ≡ true) × (is_used size old b ≡ true)
    → PassesAll (node_checks (old root) root owner) → low_of (old root) ≡ None → high_of (old root) ≡ None
    → right_in (old root) ≡ 0 → Grows size old new owner root a b
grows_step size old new owner root a b copy left right grown copies is left_lawful right_lawful left_two
    right_two root_is others new_root old_a old_b no_inventory some apart below used fields low high last =
    record {
      others = others;
      used = used_stays size old new root others no_inventory;
      some = some;
      apart = apart;
      root_fields = rw new_root root_is.fields;
      root_lawful = rw new_root root_is.lawful;
      a_wanted = record { below = below.0; used = used.0; fields = rw old_a a_fields };
      a_lawful = rw old_a left_lawful;
      b_wanted = record {
        below = below.1;
        used = used.1;
        fields = rw old_b (is.right_fields owner (own_passes copy a owner copy_fields));
      };
      b_lawful = rw old_b right_lawful;
      root_level = ap level_in new_root ∙ root_is.on_level;
      a_level = ap level_in old_a ∙ (is.left_level ∙ copies.level);
      b_level = ap level_in old_b ∙ (is.right_level ∙ copies.level);
      root_right = ap right_in new_root ∙ root_is.right;
      a_right = ap right_in old_a ∙ is.goes_to;
      b_right = ap right_in old_b ∙ (is.goes_on ∙ (copies.right ∙ last));
      root_low = ap has_low new_root ∙ no_fence (has_low grown) (entry_at false grown CONTENT_AT) root_is.low;
      root_high = ap has_high new_root ∙ no_fence (has_high grown) (entry_at false grown (high_at grown)) root_is.high;
      a_low = ap has_low old_a ∙ no_fence (has_low left) (entry_at false left CONTENT_AT)
          (is.low ∙ (copies.low ∙ low));
      a_high = ap has_high old_a ∙ some_fence (has_high left) (entry_at false left (high_at left))
          (as_fence is.given) (is.middle ∙ is.fence);
      middle = ap high_of old_a ∙ (is.middle ∙ ap low_of (sym old_b));
      b_high = ap has_high old_b ∙ no_fence (has_high right) (entry_at false right (high_at right))
          (is.high ∙ (copies.high ∙ high));
      first = is.first;
      kept = is.kept;
      given = is.given;
      rest = is.rest;
      a_is = ap entries_of old_a ∙ is.left_is;
      b_is = ap entries_of old_b ∙ is.right_is;
      was = sym copies.entries ∙ is.was;
      fence = ap low_of old_b ∙ is.fence;
      a_two = λ inner. rw old_a left_two;
      b_two = λ inner. rw old_b right_two;
      to_a = root_is.to_a;
      to_b = root_is.to_b;
      root_two = rw new_root (two_of grown root_is.to_a root_is.to_b [] [] root_is.is);
      root_is = ap entries_of new_root ∙ root_is.is;
      a_child = root_is.a_child;
      b_child = root_is.b_child;
      b_fence = root_is.b_fence;
    }
  where
    copy_fields : PassesAll (node_checks copy a owner)
    copy_fields = copies.fields owner (own_passes (old root) root owner fields)

    a_fields : PassesAll (node_checks left a owner)
    a_fields = subst PassesAll (sym (front_checks left copy a NODE_KIND owner 0 is.left_front)) copy_fields
