use Rattle.std.proofs.Common.{arith, subst}
use Rattle.mg_base.specs.declared.geometry.Geometry.{Geometry}
use Rattle.mg_heap.specs.GrowthLaws.{whole_taken}
use Rattle.mg_pointer.specs.PointerPage.{new_pointer_page}
use Rattle.mg_pointer.specs.PointerPageLaws.{length-new_pointer_page}
use Rattle.mg_pool.specs.Batch.{PutsPage}
use Rattle.mg_pool.specs.declared.fault.PoolFault.TheVariants as pool_faults
use Rattle.mg_space.specs.BelowLaws.{taken_below}
use Rattle.mg_space.specs.Taking.{RefusesTake}
use Rattle.mg_space.specs.View.{viewed}
use Rattle.mg_space.specs.ViewLaws.{whole_on}
use Rattle.mg_space.specs.declared.fault.SpaceFault.TheVariants as faults
use Rattle.mg_table_batch.proofs.SeenLemmas.{handed_on}
use Rattle.mg_table_batch.proofs.first_page.take_first.Goals as goal

pub returns-in_err-page-clause-takes : goal.returns-in_err-page-clause-takes
returns-in_err-page-clause-takes g c = λ image tells. handed_on c.from_residual.result c.in_err-page.field-0.0 _
    (RefusesTake c.args.store.now.geometry (viewed c.args.store.now image c.args.batch.now))
    c.from_residual.ensures.0 c.from_residual.ensures.1 (c.in_err-page.ensures.takes image tells)

pub returns-in_err-make_first_page-clause-takes : goal.returns-in_err-make_first_page-clause-takes
returns-in_err-make_first_page-clause-takes g c = λ image tells.
    handed_on c.from_residual-in_err-make_first_page.result (faults.Pool pool_faults.Memory) _
    (RefusesTake c.args.store.now.geometry (viewed c.args.store.now image c.args.batch.now))
    c.from_residual-in_err-make_first_page.ensures.0 c.from_residual-in_err-make_first_page.ensures.1 tt

pub returns-clause-below : goal.returns-clause-below
returns-clause-below g c = omega (arith, c.in_ok-page.ensures.puts.below)

pub returns-clause-whole : goal.returns-clause-whole
returns-clause-whole g c = whole_on c.args.store.now.geometry c.take_page.new.batch c.make_first_page.new.batch
    c.in_ok-page.page.0
    (new_pointer_page c.args.store.now.geometry.size c.in_ok-page.page.0 c.in_ok-page.page.0 0)
    (whole_taken c.args.store.now.geometry c.args.batch.now c.take_page.new.batch c.in_ok-page.page.0
    c.requires.whole c.in_ok-page.ensures.puts)
    (length-new_pointer_page c.args.store.now.geometry.size c.in_ok-page.page.0 c.in_ok-page.page.0 0)
    (taken_below c.args.store.now.geometry c.in_ok-page.page.0 c.in_ok-page.ensures.puts.below)
    (subst (λ (g : Geometry). PutsPage c.take_page.new.batch c.make_first_page.new.batch c.in_ok-page.page.0
    (new_pointer_page g.size c.in_ok-page.page.0 c.in_ok-page.page.0 0)) c.in_ok-page.ensures.keeps.geometry
    c.in_ok-make_first_page.ensures.made)

pub returns-clause-takes : goal.returns-clause-takes
returns-clause-takes g c = λ image tells. record {
  taken = c.take_page.new.batch;
  bit = c.in_ok-page.ensures.puts;
  takes = c.in_ok-page.ensures.takes image tells;
  puts = subst (λ (g : Geometry). PutsPage c.take_page.new.batch c.make_first_page.new.batch c.in_ok-page.page.0
      (new_pointer_page g.size c.in_ok-page.page.0 c.in_ok-page.page.0 0)) c.in_ok-page.ensures.keeps.geometry
      c.in_ok-make_first_page.ensures.made;
}
