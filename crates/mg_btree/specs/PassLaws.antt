-- Laws of a search on the levels above the one that it goes to.
use Rattle.std.proofs.Common.{◌≡◌, ◌∙◌, ap, sym, subst, ℕ, suc, List, Result, Ok, Err}
use Rattle.std.specs.Prelude.{IsErrAnd, IsOk}
use Rattle.mg_base.specs.Checks.{PassesAll}
use Rattle.mg_base.specs.Disk.{Meaning}
use Rattle.mg_base.specs.Image.{Image}
use Rattle.mg_base.specs.declared.damage.Damaged.{Damaged}
use Rattle.mg_base.specs.declared.numbers.PageNo.{PageNo}
use Rattle.mg_node.specs.declared.entry.Entry.{Entry}
use Rattle.mg_node.specs.NodePage.{IsNodePage, entries_of, level_in, node_checks}
use Rattle.mg_image.specs.Form.{Pages}
use Rattle.mg_pool.specs.Batch.{Changed}
use Rattle.mg_pool.specs.declared.pool.Pool.{Pool}
use Rattle.mg_space.specs.View.{KeepsStore, Tells, viewed}
use Rattle.mg_space.specs.ViewLaws.{tells_on}
use Rattle.mg_space.specs.declared.fault.SpaceFault.{SpaceFault}
use Rattle.mg_space.specs.declared.fault.SpaceFault.TheVariants.{Full, Pool as OfPool, Damaged as OfPage}
use Rattle.mg_btree.specs.declared.node.ReadNode.{ReadNode}
use Rattle.mg_btree.specs.Reading.{IsNodeOn, RefusesBytes}
use Rattle.mg_btree.specs.ReadingLaws.{blank_is_none}
use Rattle.mg_btree.specs.Searching.{BeginsAt, ComesTo, PassesTo, child_to}
use Rattle.mg_btree.specs.SearchLaws.{begins_down, begins_node, viewed_same}
use Rattle.mg_btree.specs.Ways.{IsOnWay}

module _ {D L : Type 0} (m : Meaning D) (old a : Pool D L) (batch : Changed) (owner level : ℕ) (e : Entry)
    (page at count : ℕ) (way : IsOnWay m old a batch owner level e page at count) where
  -- a page of the way is an index page of the level
  way_node : (image : Image) (root : ℕ) (levels : List (List ℕ)) → Tells m old.disk image
      → BeginsAt old.geometry.size (viewed old image batch) owner root levels e level page
      → IsNodeOn owner level at (viewed old image batch at)
  way_node image root levels tells begins =
      begins_node old.geometry.size (viewed old image batch) owner root levels e level at
      (way.begins image root levels tells begins)

  way_bytes : (image : Image) → Tells m old.disk image → (bytes : List ℕ)
      → ((image : Image) → Tells m a.disk image → bytes ≡ viewed a image batch at)
      → bytes ≡ viewed old image batch at
  way_bytes image tells bytes seen = seen image (tells_on m old a image way.keeps tells)
      ∙ ap (λ (pages : Pages). pages at) (viewed_same m old a image batch way.keeps)

  -- in a tree it is there
  pub pass_unread : (fault : SpaceFault) (result : Result PageNo SpaceFault)
      → IsErrAnd result (λ f. f ≡ fault)
      → ((image : Image) → Tells m a.disk image
      → RefusesBytes a.geometry.size (viewed a image batch at) fault)
      → (image : Image) (root : ℕ) (levels : List (List ℕ)) → Tells m old.disk image
      → BeginsAt old.geometry.size (viewed old image batch) owner root levels e level page
      → PassesTo old.geometry.size (viewed old image batch) owner root levels e level result
  pass_unread fault (Ok child) none refuses image root levels tells begins = absurd none
  pass_unread fault (Err f) same refuses image root levels tells begins =
      subst (λ (x : SpaceFault). PassesTo old.geometry.size (viewed old image batch) owner root levels e level
      (Err x)) (sym same) (by fault (subst (λ (pages : Pages). RefusesBytes a.geometry.size (pages at) fault)
      (viewed_same m old a image batch way.keeps) (refuses image (tells_on m old a image way.keeps tells))))
    where
      by : (fault : SpaceFault) → RefusesBytes a.geometry.size (viewed old image batch at) fault
          → PassesTo old.geometry.size (viewed old image batch) owner root levels e level (Err fault)
      by (Full limit) none = none
      by (OfPage damage) blank_ = blank_is_none a.geometry.size owner level at (viewed old image batch at) blank_
          (way_node image root levels tells begins)
      by (OfPool f) is = tt

  -- and passes the test
  pub pass_tested : (bytes : List ℕ) (tested : Result (Unit {0}) Damaged) (damage : Damaged)
      (result : Result PageNo SpaceFault) → tested ≡ Err damage
      → IsErrAnd result (λ f. f ≡ OfPage damage)
      → ((image : Image) → Tells m a.disk image → bytes ≡ viewed a image batch at)
      → (PassesAll (node_checks bytes at owner) × (level_in bytes ≡ level) → IsOk tested)
      → (image : Image) (root : ℕ) (levels : List (List ℕ)) → Tells m old.disk image
      → BeginsAt old.geometry.size (viewed old image batch) owner root levels e level page
      → PassesTo old.geometry.size (viewed old image batch) owner root levels e level result
  pass_tested bytes tested damage result failed is seen passes image root levels tells begins =
      absurd (never tested failed (passes (
        subst (λ (b : List ℕ). PassesAll (node_checks b at owner)) (sym (way_bytes image tells bytes seen))
            (way_node image root levels tells begins).fields,
        ap level_in (way_bytes image tells bytes seen) ∙ (way_node image root levels tells begins).on_level,
      )))
    where
      never : (tested : Result (Unit {0}) Damaged) → tested ≡ Err damage → IsOk tested → ⊥
      never (Ok x) same fine = cc
      never (Err d) same fine = cc

  -- it gives the child to go down by
  pub pass_down : (bytes : List ℕ) (child : ℕ)
      → ((image : Image) → Tells m a.disk image → bytes ≡ viewed a image batch at)
      → (IsNodePage bytes → child ≡ child_to e 0 (entries_of bytes))
      → (image : Image) (root : ℕ) (levels : List (List ℕ)) → Tells m old.disk image
      → BeginsAt old.geometry.size (viewed old image batch) owner root levels e level page
      → (lower : ℕ) → level ≡ suc lower
      → BeginsAt old.geometry.size (viewed old image batch) owner root levels e lower child
  pass_down bytes child seen child_is image root levels tells begins lower up =
      let same = way_bytes image tells bytes seen in
      let lawful : IsNodePage bytes = subst IsNodePage (sym same) (way_node image root levels tells begins).lawful in
      subst (BeginsAt old.geometry.size (viewed old image batch) owner root levels e lower)
      (sym (child_is lawful ∙ ap (λ (b : List ℕ). child_to e 0 (entries_of b)) same))
      (begins_down old.geometry.size (viewed old image batch) owner root levels e lower at
      (subst (λ (k : ℕ). BeginsAt old.geometry.size (viewed old image batch) owner root levels e k at) up
      (way.begins image root levels tells begins)))

-- below a page the search comes to where it comes from the child
pub comes_below : {D L : Type 0} (m : Meaning D) (old a : Pool D L) (batch : Changed)
    (owner from lower : ℕ) (e : Entry) (page : ℕ) (child : PageNo) (result : Result ReadNode SpaceFault)
    → KeepsStore m old a → from ≡ suc lower
    → ((image : Image) (root : ℕ) (levels : List (List ℕ)) → Tells m old.disk image
    → BeginsAt old.geometry.size (viewed old image batch) owner root levels e from page
    → PassesTo old.geometry.size (viewed old image batch) owner root levels e from (Ok child))
    → ((image : Image) (root : ℕ) (levels : List (List ℕ)) → Tells m a.disk image
    → BeginsAt a.geometry.size (viewed a image batch) owner root levels e lower child.0
    → ComesTo (viewed a image batch) levels result)
    → (image : Image) (root : ℕ) (levels : List (List ℕ)) → Tells m old.disk image
    → BeginsAt old.geometry.size (viewed old image batch) owner root levels e from page
    → ComesTo (viewed old image batch) levels result
comes_below m old a batch owner from lower e page child result keeps up first second image root levels tells
    begins =
    subst (λ (pages : Pages). ComesTo pages levels result) (viewed_same m old a image batch keeps)
    (second image root levels (tells_on m old a image keeps tells)
    (subst (λ (pages : Pages). BeginsAt a.geometry.size pages owner root levels e lower child.0)
    (sym (viewed_same m old a image batch keeps))
    (subst (λ (size : ℕ). BeginsAt size (viewed old image batch) owner root levels e lower child.0)
    (sym (ap (λ g. g.size) keeps.geometry)) (first image root levels tells begins lower up))))

-- a search that was refused above comes to no damage
pub pass_refused : (size : ℕ) (pages : Pages) (owner root : ℕ) (levels : List (List ℕ)) (e : Entry)
    (level : ℕ) (fault : SpaceFault) (result : Result ReadNode SpaceFault)
    → IsErrAnd result (λ f. f ≡ fault) → PassesTo size pages owner root levels e level (Err fault)
    → ComesTo pages levels result
pass_refused size pages owner root levels e level fault (Ok read) none passes = absurd none
pass_refused size pages owner root levels e level fault (Err f) same passes =
    subst (λ (x : SpaceFault). ComesTo pages levels (Err x)) (sym same) (by fault passes)
  where
    by : (fault : SpaceFault) → PassesTo size pages owner root levels e level (Err fault)
        → ComesTo pages levels (Err fault)
    by (Full limit) none = none
    by (OfPage damage) none = none
    by (OfPool f) is = tt
