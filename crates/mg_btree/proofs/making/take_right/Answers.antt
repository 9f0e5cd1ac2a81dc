use Rattle.std.proofs.Common.{◌<◌, ℕ, refl, subst, sym, Ok}
use Rattle.mg_base.specs.declared.numbers.PageNo.{PageNo}
use Rattle.mg_pool.specs.declared.fault.PoolFault.TheVariants.{Memory}
use Rattle.mg_space.specs.View.{viewed}
use Rattle.mg_space.specs.declared.fault.SpaceFault.TheVariants.{Pool as OfPool}
use Rattle.mg_btree.specs.AboveLaws.{halves_own, right_refused, right_taken, sized_by}
use Rattle.mg_space.specs.BelowLaws.{taken_below}
use Rattle.mg_btree.specs.BelowLaws.{taken_whole}
use Rattle.mg_btree.specs.ExitLaws.{reads_memory, reads_ok}
use Rattle.mg_btree.specs.OrderLaws.{taken_alone, widens_same, widens_taken}
use Rattle.mg_btree.specs.ScanLaws.{reads_err}
use Rattle.mg_btree.proofs.making.take_right.Goals as goal

pub halve-requires-clause-sized : goal.halve-requires-clause-sized
halve-requires-clause-sized g c = sized_by c.args.store.now.geometry c.args.full.bytes
    c.requires.geometry c.requires.len

pub returns-in_err-at-clause-reads : goal.returns-in_err-at-clause-reads
returns-in_err-at-clause-reads g c = reads_err PageNo g.D.Disk.meaning c.args.store.now
    c.take_page.new.store c.in_err-at.field-0.0 c.from_residual.result c.from_residual.ensures.1
    (record { keeps = c.in_err-at.ensures.keeps; fault = c.in_err-at.ensures.fault; own = c.in_err-at.ensures.own })

pub returns-in_err-at-clause-widens : goal.returns-in_err-at-clause-widens
returns-in_err-at-clause-widens g c = widens_same c.args.store.now.geometry.size c.args.batch.now
    c.take_page.new.batch c.in_err-at.ensures.same

pub returns-in_err-at-clause-takes : goal.returns-in_err-at-clause-takes
returns-in_err-at-clause-takes g c = λ image tells. right_refused c.args.store.now.geometry
    (viewed c.args.store.now image c.args.batch.now) (viewed c.args.store.now image c.take_page.new.batch)
    c.take_page.new.batch c.in_err-at.field-0.0 c.from_residual.result c.from_residual.ensures.1
    (c.in_err-at.ensures.takes image tells)

pub returns-in_err-halve-clause-reads : goal.returns-in_err-halve-clause-reads
returns-in_err-halve-clause-reads g c = reads_memory g.D.Disk.meaning c.args.store.now
    c.take_page.new.store (Ok c.in_ok-at.at) c.in_ok-at.at c.from_residual-in_err-halve.result refl
    (record { keeps = c.in_ok-at.ensures.keeps; fault = c.in_ok-at.ensures.fault; own = c.in_ok-at.ensures.own })
    c.from_residual-in_err-halve.ensures.1

pub returns-in_err-halve-clause-widens : goal.returns-in_err-halve-clause-widens
returns-in_err-halve-clause-widens g c = widens_taken c.args.store.now.geometry c.args.batch.now
    c.take_page.new.batch c.in_ok-at.at.0 c.in_ok-at.ensures.puts

pub returns-in_err-halve-clause-takes : goal.returns-in_err-halve-clause-takes
returns-in_err-halve-clause-takes g c = λ image tells. right_refused c.args.store.now.geometry
    (viewed c.args.store.now image c.args.batch.now) (viewed c.args.store.now image c.take_page.new.batch)
    c.take_page.new.batch (OfPool Memory) c.from_residual-in_err-halve.result
    c.from_residual-in_err-halve.ensures.1 tt

pub returns-clause-reads : goal.returns-clause-reads
returns-clause-reads g c = reads_ok g.D.Disk.meaning c.args.store.now c.take_page.new.store
    (Ok c.in_ok-at.at) c.in_ok-at.at c.in_ok-halve.field-0 refl
    (record { keeps = c.in_ok-at.ensures.keeps; fault = c.in_ok-at.ensures.fault; own = c.in_ok-at.ensures.own })

pub returns-clause-widens : goal.returns-clause-widens
returns-clause-widens g c = widens_taken c.args.store.now.geometry c.args.batch.now
    c.take_page.new.batch c.in_ok-at.at.0 c.in_ok-at.ensures.puts

pub returns-clause-halves : goal.returns-clause-halves
returns-clause-halves g c = halves_own c.args.full c.in_ok-at.at.0 c.in_ok-halve.field-0
    c.in_ok-halve.ensures

pub returns-clause-takes : goal.returns-clause-takes
returns-clause-takes g c = λ image tells. right_taken c.args.store.now.geometry
    (viewed c.args.store.now image c.args.batch.now) (viewed c.args.store.now image c.take_page.new.batch)
    c.args.batch.now c.take_page.new.batch c.args.full c.in_ok-at.at.0 c.in_ok-halve.field-0
    c.in_ok-halve.ensures (c.in_ok-at.ensures.takes image tells) c.in_ok-at.ensures.puts

pub returns-clause-alone : goal.returns-clause-alone
returns-clause-alone g c = taken_alone c.args.store.now.geometry c.args.batch.now
    c.take_page.new.batch c.in_ok-at.at.0 c.in_ok-at.ensures.puts

pub returns-clause-whole : goal.returns-clause-whole
returns-clause-whole g c = taken_whole c.args.store.now.geometry c.args.batch.now c.take_page.new.batch
    c.in_ok-at.at.0 c.requires.whole c.in_ok-at.ensures.puts

pub returns-clause-right : goal.returns-clause-right
returns-clause-right g c = subst (λ (n : ℕ). n < c.args.store.now.geometry.limit)
    (sym c.in_ok-halve.ensures.right_own)
    (taken_below c.args.store.now.geometry c.in_ok-at.at.0 c.in_ok-at.ensures.puts.below)
