-- Laws of where a search along a level goes on.
use Rattle.std.proofs.Common.{◌≡◌, ◌∙◌, ap, refl, sym, subst, ◌<◌, ◌+◌, ℕ, List, Option, Result, Ok, Err}
use Rattle.std.specs.Prelude.{IfSome, IsErrAnd}
use Rattle.mg_base.specs.Disk.{Meaning}
use Rattle.mg_base.specs.Image.{Image}
use Rattle.mg_base.specs.declared.damage.Damaged.{Damaged}
use Rattle.mg_base.specs.declared.numbers.PageNo.{PageNo}
use Rattle.mg_base.specs.declared.geometry.Geometry.{Geometry}
use Rattle.mg_node.specs.declared.entry.Entry.{Entry}
use Rattle.mg_node.specs.NodePage.{IsAtLeast, IsBelow, low_of}
use Rattle.mg_image.specs.Form.{Pages}
use Rattle.mg_pool.specs.Batch.{Changed}
use Rattle.mg_pool.specs.declared.pool.Pool.{Pool}
use Rattle.mg_space.specs.View.{Tells, viewed}
use Rattle.mg_space.specs.ViewLaws.{CountsNow, tells_on}
use Rattle.mg_space.specs.declared.fault.SpaceFault.{SpaceFault}
use Rattle.mg_space.specs.declared.fault.SpaceFault.TheVariants.{Damaged as OfPage}
use Rattle.mg_tree_overlay_laws.specs.TreeSteps.{InTree}
use Rattle.mg_btree.specs.declared.node.ReadNode.{ReadNode}
use Rattle.mg_btree.specs.declared.search.Landing.TheVariants.{Here, Right}
use Rattle.mg_btree.specs.Landings.{ComesBefore, LandsAt}
use Rattle.mg_btree.specs.Reading.{IsNodeOn, IsReadNode, Reads}
use Rattle.mg_btree.specs.SearchLaws.{viewed_same}
use Rattle.mg_btree.specs.Searching.{BeginsAt, ComesTo, IsReached}
use Rattle.mg_btree.specs.WayLaws.{way_next}
use Rattle.mg_btree.specs.Ways.{IsOnWay}

module _ {D L : Type 0} (m : Meaning D) (old a : Pool D L) (batch : Changed) (owner level : ℕ) (e : Entry)
    (page at count : ℕ) (way : IsOnWay m old a batch owner level e page at count) (read : ReadNode)
    (is : IsReadNode a.geometry.size owner level at read)
    (seen : (image : Image) → Tells m a.disk image → read.bytes ≡ viewed a image batch at) where
  read_bytes : (image : Image) → Tells m old.disk image → read.bytes ≡ viewed old image batch at
  read_bytes image tells = seen image (tells_on m old a image way.keeps tells)
      ∙ ap (λ (pages : Pages). pages at) (viewed_same m old a image batch way.keeps)

  -- the page at which it ends is reached
  pub here_reached : (found : ReadNode) → LandsAt read e (Here found)
      → IsReached old.geometry.size owner level e found
  here_reached found (same, from, below) =
      subst (IsReached old.geometry.size owner level e) (sym same) (record {
        len = is.len ∙ ap (λ g. g.size) way.keeps.geometry;
        is = subst (λ (n : ℕ). IsNodeOn owner level n read.bytes) (sym is.number) is.is;
        says = is.says;
        from = subst (λ (low : Option Entry). IfSome low (λ fence. IsAtLeast e fence)) is.says.low from;
        below = subst (λ (high : Option Entry). IfSome high (λ fence. IsBelow e fence)) is.says.high below;
      })

  -- it lies below the page limit, as the page that was read does
  pub here_below : (found : ReadNode) → LandsAt read e (Here found) → at < a.geometry.limit
      → found.page.0 < old.geometry.limit
  here_below found (same, from, below) low =
      subst (λ (g : Geometry). found.page.0 < g.limit) way.keeps.geometry
      (subst (λ (n : ℕ). n < a.geometry.limit)
      (sym (ap (λ (r : ReadNode). r.page.0) same ∙ is.number)) low)

  -- and is one of the tree
  pub here_comes : (found : ReadNode) → LandsAt read e (Here found)
      → (image : Image) (root : ℕ) (levels : List (List ℕ)) → Tells m old.disk image
      → BeginsAt old.geometry.size (viewed old image batch) owner root levels e level page
      → ComesTo (viewed old image batch) levels (Ok found)
  here_comes found (same, from, below) image root levels tells begins =
      subst (λ (r : ReadNode). ComesTo (viewed old image batch) levels (Ok r)) (sym same) (
        read_bytes image tells ∙ ap (viewed old image batch) (sym is.number),
        subst (InTree levels) (sym is.number) (way.begins image root levels tells begins).placed,
      )

  -- in a tree the entry does not come before the low fence
  pub landing_refused : (result : Result ReadNode SpaceFault) (damage : Damaged)
      → IsErrAnd result (λ fault. fault ≡ OfPage damage) → ComesBefore read e
      → (image : Image) (root : ℕ) (levels : List (List ℕ)) → Tells m old.disk image
      → BeginsAt old.geometry.size (viewed old image batch) owner root levels e level page
      → ComesTo (viewed old image batch) levels result
  landing_refused (Ok found) damage none before image root levels tells begins = absurd none
  landing_refused (Err fault) damage same before image root levels tells begins =
      absurd (before (subst (λ (low : Option Entry). IfSome low (λ fence. IsAtLeast e fence)) (sym is.says.low)
      (subst (λ (b : List ℕ). IfSome (low_of b) (λ fence. IsAtLeast e fence)) (sym (read_bytes image tells))
      (way.begins image root levels tells begins).from)))

  -- it goes on to the right
  pub landing_next : CountsNow m → (b : Pool D L) → Reads m a b (Ok read) → (next : PageNo)
      → LandsAt read e (Right next) → IsOnWay m old b batch owner level e page next.0 (count + 1)
  landing_next counts b reads next (same, past) =
      way_next m counts old a b batch owner level e page at count next.0 (Ok read) read read.bytes way refl
      reads seen (λ lawful before. past (subst (λ (high : Option Entry). IfSome high (λ fence. IsBelow e fence))
      (sym is.says.high) before)) (ap (λ n. n.0) same ∙ is.says.right)
