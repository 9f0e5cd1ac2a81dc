-- Two pages are taken, one after the other.
use Rattle.std.proofs.Common.{◌≡◌, ◌≢◌, sym, subst, ℕ, None, Result, Ok, Err, arith}
use Rattle.std.specs.Prelude.{IsErrAnd}
use Rattle.mg_base.specs.Disk.{Meaning}
use Rattle.mg_base.specs.Image.{Image}
use Rattle.mg_base.specs.declared.geometry.Geometry.{Geometry}
use Rattle.mg_image.specs.Form.{Pages}
use Rattle.mg_pool.specs.Batch.{Changed, content_in}
use Rattle.mg_pool.specs.declared.pool.Pool.{Pool}
use Rattle.mg_space.specs.Taking.{PutsInventory, RefusesTake, TakesPage}
use Rattle.mg_space.specs.View.{KeepsStore, viewed}
use Rattle.mg_space.specs.ViewLaws.{viewed_on}
use Rattle.mg_space.specs.declared.fault.SpaceFault.{SpaceFault}
use Rattle.mg_tree_overlay_laws.specs.TreeBatches.{inventory_of}
use Rattle.mg_btree.specs.declared.growing.TwoPages.{TwoPages}
use Rattle.mg_btree.specs.Growing.{TakesTwo}
use Rattle.mg_btree.specs.OrderLaws.{taken_put, widens_taken}
use Rattle.mg_btree.specs.Ordering.{Widens}
use Rattle.mg_btree.specs.RefusalLaws.{refuses_next, refuses_now}
use Rattle.mg_btree.specs.Rooms.{RefusesAfter}

pub two_err : (g : Geometry) (old new : Pages) (batch : Changed) (fault : SpaceFault)
    (result : Result TwoPages SpaceFault) → IsErrAnd result (λ f. f ≡ fault) → RefusesAfter g old 1 fault
    → TakesTwo g old new batch result
two_err g old new batch fault (Ok two) none refused = absurd none
two_err g old new batch fault (Err f) same refused = subst (RefusesAfter g old 1) (sym same) refused

-- the pages of a call behind another one
module _ {D L : Type 0} (m : Meaning D) (old a : Pool D L) (keeps : KeepsStore m old a) where
  pub widens_next : (mid last : Changed) (n : ℕ) → PutsInventory a.geometry mid last n
      → Widens old.geometry.size mid last
  widens_next mid last n puts = subst (λ (g : Geometry). Widens g.size mid last) keeps.geometry
      (widens_taken a.geometry mid last n puts)

  pub put_next : (mid last : Changed) (n : ℕ) → PutsInventory a.geometry mid last n
      → content_in last.pages (inventory_of old.geometry.size n) ≢ None
  put_next mid last n puts = subst (λ (g : Geometry). content_in last.pages (inventory_of g.size n) ≢ None)
      keeps.geometry (taken_put a.geometry mid last n puts)

  pub takes_next : (image : Image) (mid last : Changed) (n : ℕ)
      → TakesPage a.geometry (viewed a image mid) (viewed a image last) n
      → TakesPage old.geometry (viewed old image mid) (viewed old image last) n
  takes_next image mid last n takes =
      subst (λ (g : Geometry). TakesPage g (viewed old image mid) (viewed old image last) n) keeps.geometry
      (subst (λ (pages : Pages). TakesPage a.geometry pages (viewed old image last) n)
      (viewed_on m old a image mid keeps)
      (subst (λ (pages : Pages). TakesPage a.geometry (viewed a image mid) pages n)
      (viewed_on m old a image last keeps) takes))

  pub refused_next : (image : Image) (mid : Changed) (fault : SpaceFault)
      → RefusesTake a.geometry (viewed a image mid) fault
      → RefusesTake old.geometry (viewed old image mid) fault
  refused_next image mid fault refused =
      subst (λ (g : Geometry). RefusesTake g (viewed old image mid) fault) keeps.geometry
      (subst (λ (pages : Pages). RefusesTake a.geometry pages fault) (viewed_on m old a image mid keeps)
      refused)

pub second_refused : (g : Geometry) (old mid : Pages) (n : ℕ) (fault : SpaceFault)
    → TakesPage g old mid n → RefusesTake g mid fault → RefusesAfter g old 1 fault
second_refused g old mid n fault takes refused =
    refuses_next g old mid n 0 1 fault takes (omega arith) (refuses_now g mid 0 fault refused)
