use Rattle.std.proofs.Common.{◌≡◌, ◌∙◌, ℕ, ap, arith, refl, subst}
use Rattle.mg_base.specs.declared.damage.Damaged.{Damaged}
use Rattle.mg_space.specs.declared.fault.SpaceFault.TheVariants as faults
use Rattle.mg_table_batch.specs.Making.{FailsTable, GrowsAsWanted, at_try, has_enough, most_pages, wants_more}
use Rattle.mg_table_batch.proofs.MakeLemmas.{tried_more, tried_once}
use Rattle.mg_table_batch.proofs.SeenLemmas.{handed_on}
use Rattle.mg_table_batch.proofs.making.make_table.Goals as goal

pub loop-init : goal.loop-init
loop-init g c = record {
  pool = c.requires.pool;
  geometry = refl;
  grows = has_enough c.args.store.now;
}

pub loop-preserved : goal.loop-preserved
loop-preserved g c = record {
  pool = c.in_ok-try_table.ensures.pool;
  geometry = c.in_ok-try_table.ensures.geometry ∙ c.loop.invariant.geometry;
  grows = tried_more g.D.Disk.meaning c.args.catalog.now c.args.t.0 c.args.name.now c.args.shape.now c.args.store.now
      c.loop.store c.try_table.new.store c.in_ok-try_table.field-0 c.if-branch.false c.loop.counter c.loop.invariant.grows
      c.in_ok-try_table.ensures.tries;
}

pub returns-in_err-try_table-clause-makes : goal.returns-in_err-try_table-clause-makes
returns-in_err-try_table-clause-makes g c = handed_on c.from_residual.result c.in_err-try_table.field-0.0 _
    (FailsTable g.D.Disk.meaning c.args.catalog.now c.args.t.0 c.args.name.now c.args.shape.now c.args.store.now c.try_table.new.store)
    c.from_residual.ensures.0 c.from_residual.ensures.1
    (at_try c.loop.store c.loop.counter c.loop.invariant.grows c.in_err-try_table.ensures.tries)

pub returns-then-branch-clause-makes : goal.returns-then-branch-clause-makes
returns-then-branch-clause-makes g c = tried_once g.D.Disk.meaning c.args.catalog.now c.args.t.0 c.args.name.now
    c.args.shape.now c.args.store.now c.loop.store c.try_table.new.store c.in_ok-try_table.field-0 c.if-branch.true
    c.loop.counter c.loop.invariant.grows c.in_ok-try_table.ensures.tries

pub returns-clause-makes : goal.returns-clause-makes
returns-clause-makes g c =
    let all : c.loop.counter ≡ most_pages = omega (arith, c.loop-test.false) in
    wants_more (subst (λ (count : ℕ). GrowsAsWanted g.D.Disk.meaning c.args.catalog.now c.args.t.0 c.args.name.now
    c.args.shape.now count c.args.store.now c.loop.store) all c.loop.invariant.grows)
    (ap (λ (it : Damaged). faults.Damaged it) c.unlawful.ensures)
