-- What is read of a page makes it one of an index.
use Rattle.std.proofs.Common.{◌≡◌, ◌∙◌, ap, refl, sym, ◌<◌, ◌==◌, ℕ, zero, suc, Bool, true, false, List, Option, Some, None, length, arith, ◌↔◌, IsTrue, Result, Ok, Err}
use Rattle.std.specs.Prelude.{if◌then◌else◌, is_ok, is_some, not}
use Rattle.std.proofs.lemmas.List.{length_push}
use Rattle.mg_base.specs.Checks.{Check, verdict}
use Rattle.mg_base.specs.CheckLaws.{passes_from_verdict, verdict_from_passes}
use Rattle.mg_base.specs.declared.damage.Damaged.{Damaged}
use Rattle.mg_base.specs.declared.geometry.TheConstants.{GREATEST_LIMIT}
use Rattle.mg_base.specs.declared.numbers.PageNo.{PageNo}
use Rattle.mg_node.specs.declared.entry.Entry.{Entry}
use Rattle.mg_node.specs.declared.node.Node.{Node}
use Rattle.mg_node.specs.NodePage.{count_in, entries_of, entry_at, first_entries, has_high, high_at, high_of, is_inner, place_of}
use Rattle.mg_node.specs.NodeReading.{IsNodeOf}
use Rattle.mg_image.specs.Form.{Pages}
use Rattle.mg_image.specs.Indexes.{IsNode}
use Rattle.mg_image.specs.Inventory.{is_used}
use Rattle.mg_image.specs.Reached.{IsAsWanted}
use Rattle.mg_trees.specs.Trees.{HasFences, IsBounded, IsInner}

ok_is : (test : Result (Unit {0}) Damaged) → IsTrue (is_ok test) → test ≡ Ok tt
ok_is (Ok u) passed = refl
ok_is (Err e) passed = absurd cc

is_ok_of : (test : Result (Unit {0}) Damaged) → test ≡ Ok tt → IsTrue (is_ok test)
is_ok_of test is = rw is refl

-- a page that is taken is as wanted exactly where its test has passed
pub wanted_where_ok : (size : ℕ) (pages : Pages) (n : ℕ) (page : PageNo) (checks : List Check)
    (test : Result (Unit {0}) Damaged) → test ≡ verdict page checks → n < GREATEST_LIMIT
    → is_used size pages n ≡ true → IsTrue (is_ok test) ↔ IsAsWanted size pages n checks
wanted_where_ok size pages n page checks test is below used = (
  λ passed. record {
    below = below;
    used = used;
    fields = passes_from_verdict page checks (sym is ∙ ok_is test passed);
  },
  λ wanted. is_ok_of test (is ∙ verdict_from_passes page checks wanted.fields),
)

length-first_entries : (page : List ℕ) (n : ℕ) → length (first_entries page n) ≡ n
length-first_entries page zero = refl
length-first_entries page (suc n) =
    let pushed = length_push (first_entries page n)
    (entry_at (is_inner page) page (place_of page n)) in
    let before = length-first_entries page n in omega (arith, pushed, before)

-- a page has as many entries as it counts
pub length-entries_of : (page : List ℕ) → length (entries_of page) ≡ count_in page
unfolding entries_of
length-entries_of page = length-first_entries page (count_in page)

is_some-high_of : (page : List ℕ) → is_some (high_of page) ≡ has_high page
is_some-high_of page = at (has_high page)
  where
    fence : Bool → Option Entry
    fence b = if b then Some (entry_at false page (high_at page)) else None

    at : (b : Bool) → is_some (fence b) ≡ b
    at true = refl
    at false = refl

-- what was tested of a page makes it one of an index
pub node_of_parts : (size : ℕ) (pages : Pages) (owner level : ℕ) (below : List ℕ) (n : ℕ)
    (node : Node) → IsBounded size pages owner level n → IsNodeOf (pages n) node
    → (0 < level → IsInner pages below node) → HasFences pages node
    → IsNode size pages owner level below n
node_of_parts size pages owner level below n node is says inner fences = record {
  wanted = is.page.wanted;
  lawful = is.page.lawful;
  on_level = is.page.on_level;
  two = λ above. let two = (inner above).two in
      rw (says.entries, length-entries_of (pages n)) at two;
  children = λ above. let children = (inner above).children in
      rw (says.low, says.entries) at children;
  high = sym (is_some-high_of (pages n)) ∙ (ap is_some (sym says.high)
      ∙ (fences.high ∙ ap (λ (right : ℕ). not (right == 0)) says.right));
  fence = λ some. let fence = fences.fence (rw says.right some) in
      rw (says.right, says.high) at fence;
  apart = rw (says.low, says.high) at fences.apart;
}

-- an inner page of an index is one by its parts
pub inner_of_node : (size : ℕ) (pages : Pages) (owner level : ℕ) (below : List ℕ) (n : ℕ)
    (node : Node) → IsNodeOf (pages n) node → 0 < level
    → IsNode size pages owner level below n → IsInner pages below node
inner_of_node size pages owner level below n node says above is = record {
  two = rw (says.entries, length-entries_of (pages n)) (is.two above);
  children = rw (says.low, says.entries) (is.children above);
}

-- a page of an index has its fences by its parts
pub fences_of_node : (size : ℕ) (pages : Pages) (owner level : ℕ) (below : List ℕ) (n : ℕ)
    (node : Node) → IsNodeOf (pages n) node → IsNode size pages owner level below n
    → HasFences pages node
fences_of_node size pages owner level below n node says is = record {
  high = rw (says.high, says.right) (is_some-high_of (pages n) ∙ is.high);
  fence = λ some. rw (says.right, says.high) (is.fence (rw says.right at some));
  apart = rw (says.low, says.high) is.apart;
}
