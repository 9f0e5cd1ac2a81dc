use Rattle.std.proofs.Common.{◌∙◌, ap, arith, length}
use Rattle.std.specs.Prelude.{Ok}
use Rattle.mg_pool.specs.Dirty.{DirtyPages}
use Rattle.mg_pool.specs.Pool.{shown}
use Rattle.mg_space.specs.HandedLaws.{no_answer, out_of_memory, own_as, told_as}
use Rattle.mg_space.specs.ViewLaws.{fault_on, keeps_itself, keeps_on, tells_on}
use Rattle.mg_space.specs.declared.fault.SpaceFault.TheVariants as faults
use Rattle.mg_txlist.specs.Chain.{tips_below}
use Rattle.mg_txlist.specs.Refusals.{RefusesTips}
use Rattle.mg_txlist.specs.declared.list.TipPage.{TipPage}
use Rattle.mg_txlist.proofs.ChainLemmas.{all_read, all_tested, counted, has_states, read_at, read_tested, read_whole}
use Rattle.mg_txlist.proofs.HandedLemmas.{geometry_on, own_memory, refusal_reads, stays_online, told_memory, told_then}
use Rattle.mg_txlist.proofs.ReadingLemmas.{read_front}
use Rattle.mg_txlist.proofs.RefusalLemmas.{err_as, holder_on, one_back, tips_refused}
use Rattle.mg_txlist.proofs.loading.load_pages.Goals as goal

pub loop-k-preserved : goal.loop-k-preserved
loop-k-preserved g c = record {
  keeps = keeps_on g.D.Disk.meaning g.met.D.Disk.counts_now c.args.store.now c.loop-k.store
      c.load_page.new.store c.loop-k.invariant.keeps c.in_ok-page.ensures.keeps;
  faults = c.in_ok-page.ensures.fault.2 ∙ c.loop-k.invariant.faults;
  read = ap (λ xs. length xs) c.in_ok-insert.ensures.items
      ∙ omega (arith, c.loop-k.invariant.read);
  whole = read_whole c.loop-k.store.geometry c.args.store.now.geometry c.in_ok-page.page
      c.loop-k.pages.items c.insert.new.self.items c.loop-k.at.0 c.loop-k.invariant.keeps.geometry
      c.in_ok-page.ensures.whole c.in_ok-page.ensures.page c.in_ok-page.ensures.below
      c.loop-k.invariant.whole c.in_ok-insert.ensures.items;
  tested = read_tested c.args.count c.loop-k.k c.in_ok-page.page c.loop-k.pages.items
      c.insert.new.self.items c.loop-k-test.true c.in_ok-page.ensures.tested
      c.loop-k.invariant.tested c.in_ok-insert.ensures.items;
  says = λ image tells. read_at g.D.Disk.meaning c.args.store.now c.loop-k.store image
      c.loop-k.invariant.keeps c.loop-k.pages.items c.insert.new.self.items c.args.last.0
      c.loop-k.at.0 c.args.count c.loop-k.k c.in_ok-page.page c.as_slice.result.now
      c.prev_of-at.result.0 c.loop-k-test.true (c.loop-k.invariant.says image tells)
      c.in_ok-page.ensures.page (c.in_ok-page.ensures.says image
      (tells_on g.D.Disk.meaning c.args.store.now c.loop-k.store image c.loop-k.invariant.keeps tells))
      c.as_slice.ensures c.prev_of-at.ensures c.in_ok-insert.ensures.items;
  stands = λ image tells. one_back (shown c.args.store.now.dirty image) c.args.last.0 c.loop-k.k
      c.loop-k.at.0 c.prev_of-at.result.0 c.as_slice.result.now c.in_ok-page.page.bytes
      (c.loop-k.invariant.stands image tells) c.as_slice.ensures
      (c.in_ok-page.ensures.says image
      (tells_on g.D.Disk.meaning c.args.store.now c.loop-k.store image c.loop-k.invariant.keeps tells)
      ∙ ap (λ (d : DirtyPages). shown d image c.loop-k.at.0) c.loop-k.invariant.keeps.dirty)
      c.prev_of-at.ensures;
  holds = λ image tells. holder_on (shown c.args.store.now.dirty image) c.args.last.0 c.loop-k.k c.loop-k.at
      (c.loop-k.invariant.stands image tells);
  reads = read_front g.D.Disk.meaning c.args.store.now c.loop-k.store c.load_page.new.store c.loop-k.at.0
      c.in_ok-page.page c.loop-k.pages.items c.insert.new.self.items c.loop-k.invariant.reads
      c.load_page.ensures.reads c.in_ok-page.ensures.page c.in_ok-insert.ensures.items;
}

pub returns-in_err-page-clause-refused : goal.returns-in_err-page-clause-refused
returns-in_err-page-clause-refused g c = λ image tells. err_as c.from_residual-in_err-page.result
    c.in_err-page.field-0.0
    (RefusesTips g.D.Disk.meaning c.load_page.new.store
    (shown c.args.store.now.dirty image) c.args.last.0 c.args.count) c.from_residual-in_err-page.ensures.1
    (tips_refused g.D.Disk.meaning c.args.store.now c.loop-k.store c.load_page.new.store image
    c.args.last.0 c.args.count c.loop-k.k c.loop-k.holder c.loop-k.at c.in_err-page.field-0.0
    c.loop-k.invariant.keeps tells c.loop-k-test.true (c.loop-k.invariant.holds image tells)
    (c.loop-k.invariant.stands image tells)
    (c.in_err-page.ensures.refused image))

pub returns-in_err-online-clause-keeps : goal.returns-in_err-online-clause-keeps
returns-in_err-online-clause-keeps g c = keeps_itself g.D.Disk.meaning c.args.store.now c.requires.pool

pub returns-in_err-online-clause-fault : goal.returns-in_err-online-clause-fault
returns-in_err-online-clause-fault g c = told_as (Unit {0}) g.D.Disk.meaning c.args.store.now c.args.store.now c.from_residual.result
    (faults.Pool c.in_err-online.field-0.0) c.from_residual.ensures.1 c.in_err-online.ensures.fault

pub returns-in_err-online-clause-own : goal.returns-in_err-online-clause-own
returns-in_err-online-clause-own g c = own_as (Unit {0}) c.from_residual.result (faults.Pool c.in_err-online.field-0.0) c.from_residual.ensures.1
    (refusal_reads c.in_err-online.field-0.0 c.in_err-online.ensures.refusal)

pub returns-in_err-online-clause-refused : goal.returns-in_err-online-clause-refused
returns-in_err-online-clause-refused g c = λ image tells. err_as c.from_residual.result (faults.Pool c.in_err-online.field-0.0)
    (RefusesTips g.D.Disk.meaning c.args.store.now
    (shown c.args.store.now.dirty image) c.args.last.0 c.args.count) c.from_residual.ensures.1 tt

pub returns-in_err-online-clause-count : goal.returns-in_err-online-clause-count
returns-in_err-online-clause-count g c = no_answer _ c.from_residual.result c.from_residual.ensures.0

pub returns-in_err-online-clause-whole : goal.returns-in_err-online-clause-whole
returns-in_err-online-clause-whole g c = no_answer _ c.from_residual.result c.from_residual.ensures.0

pub returns-in_err-online-clause-tested : goal.returns-in_err-online-clause-tested
returns-in_err-online-clause-tested g c = no_answer _ c.from_residual.result c.from_residual.ensures.0

pub returns-in_err-online-clause-reads : goal.returns-in_err-online-clause-reads
returns-in_err-online-clause-reads g c = no_answer _ c.from_residual.result c.from_residual.ensures.0

pub returns-in_err-online-clause-says : goal.returns-in_err-online-clause-says
returns-in_err-online-clause-says g c = λ image tells. no_answer _ c.from_residual.result c.from_residual.ensures.0

pub returns-in_err-page-clause-keeps : goal.returns-in_err-page-clause-keeps
returns-in_err-page-clause-keeps g c = keeps_on g.D.Disk.meaning g.met.D.Disk.counts_now c.args.store.now c.loop-k.store
    c.load_page.new.store c.loop-k.invariant.keeps c.load_page.ensures.keeps

pub returns-in_err-page-clause-fault : goal.returns-in_err-page-clause-fault
returns-in_err-page-clause-fault g c = told_then TipPage g.D.Disk.meaning c.args.store.now c.loop-k.store
    c.load_page.new.store c.from_residual-in_err-page.result c.in_err-page.field-0.0 c.from_residual-in_err-page.ensures.1
    c.loop-k.invariant.keeps c.loop-k.invariant.faults c.in_err-page.ensures.fault

pub returns-in_err-page-clause-own : goal.returns-in_err-page-clause-own
returns-in_err-page-clause-own g c = own_as TipPage c.from_residual-in_err-page.result c.in_err-page.field-0.0
    c.from_residual-in_err-page.ensures.1 c.in_err-page.ensures.own

pub returns-in_err-page-clause-count : goal.returns-in_err-page-clause-count
returns-in_err-page-clause-count g c = no_answer _ c.from_residual-in_err-page.result
    c.from_residual-in_err-page.ensures.0

pub returns-in_err-page-clause-whole : goal.returns-in_err-page-clause-whole
returns-in_err-page-clause-whole g c = no_answer _ c.from_residual-in_err-page.result
    c.from_residual-in_err-page.ensures.0

pub returns-in_err-page-clause-tested : goal.returns-in_err-page-clause-tested
returns-in_err-page-clause-tested g c = no_answer _ c.from_residual-in_err-page.result
    c.from_residual-in_err-page.ensures.0

pub returns-in_err-page-clause-reads : goal.returns-in_err-page-clause-reads
returns-in_err-page-clause-reads g c = no_answer _ c.from_residual-in_err-page.result
    c.from_residual-in_err-page.ensures.0

pub returns-in_err-page-clause-says : goal.returns-in_err-page-clause-says
returns-in_err-page-clause-says g c = λ image tells. no_answer _ c.from_residual-in_err-page.result
    c.from_residual-in_err-page.ensures.0

pub returns-in_err-insert-clause-keeps : goal.returns-in_err-insert-clause-keeps
returns-in_err-insert-clause-keeps g c = keeps_on g.D.Disk.meaning g.met.D.Disk.counts_now c.args.store.now c.loop-k.store
    c.load_page.new.store c.loop-k.invariant.keeps c.load_page.ensures.keeps

pub returns-in_err-insert-clause-fault : goal.returns-in_err-insert-clause-fault
returns-in_err-insert-clause-fault g c = told_memory g.D.Disk.meaning c.args.store.now c.load_page.new.store
    c.from_residual-in_err-insert.result c.from_residual-in_err-insert.ensures.1
    (fault_on {T = Unit {0}} g.D.Disk.meaning c.args.store.now c.loop-k.store c.load_page.new.store (Ok tt)
    c.loop-k.invariant.keeps c.loop-k.invariant.faults c.in_ok-page.ensures.fault)

pub returns-in_err-insert-clause-own : goal.returns-in_err-insert-clause-own
returns-in_err-insert-clause-own g c = own_memory c.from_residual-in_err-insert.result
    c.from_residual-in_err-insert.ensures.1

pub returns-in_err-insert-clause-refused : goal.returns-in_err-insert-clause-refused
returns-in_err-insert-clause-refused g c = λ image tells. err_as c.from_residual-in_err-insert.result out_of_memory
    (RefusesTips g.D.Disk.meaning c.load_page.new.store
    (shown c.args.store.now.dirty image) c.args.last.0 c.args.count) c.from_residual-in_err-insert.ensures.1 tt

pub returns-in_err-insert-clause-count : goal.returns-in_err-insert-clause-count
returns-in_err-insert-clause-count g c = no_answer _ c.from_residual-in_err-insert.result
    c.from_residual-in_err-insert.ensures.0

pub returns-in_err-insert-clause-whole : goal.returns-in_err-insert-clause-whole
returns-in_err-insert-clause-whole g c = no_answer _ c.from_residual-in_err-insert.result
    c.from_residual-in_err-insert.ensures.0

pub returns-in_err-insert-clause-tested : goal.returns-in_err-insert-clause-tested
returns-in_err-insert-clause-tested g c = no_answer _ c.from_residual-in_err-insert.result
    c.from_residual-in_err-insert.ensures.0

pub returns-in_err-insert-clause-reads : goal.returns-in_err-insert-clause-reads
returns-in_err-insert-clause-reads g c = no_answer _ c.from_residual-in_err-insert.result
    c.from_residual-in_err-insert.ensures.0

pub returns-in_err-insert-clause-says : goal.returns-in_err-insert-clause-says
returns-in_err-insert-clause-says g c = λ image tells. no_answer _ c.from_residual-in_err-insert.result
    c.from_residual-in_err-insert.ensures.0

pub returns-clause-keeps : goal.returns-clause-keeps
returns-clause-keeps g c = c.loop-k.invariant.keeps

pub returns-clause-fault : goal.returns-clause-fault
returns-clause-fault g c = stays_online g.D.Disk.meaning c.args.store.now c.loop-k.store c.loop-k.invariant.keeps
    c.loop-k.invariant.faults c.in_ok-online.ensures.fault.0

pub returns-clause-own : goal.returns-clause-own
returns-clause-own g c = tt

pub returns-clause-count : goal.returns-clause-count
returns-clause-count g c = counted (length c.loop-k.pages.items) c.loop-k.k c.args.count c.loop-k.invariant.read
    c.loop-k.auto.k-end c.loop-k-test.false

pub returns-clause-whole : goal.returns-clause-whole
returns-clause-whole g c = c.loop-k.invariant.whole

pub returns-clause-tested : goal.returns-clause-tested
returns-clause-tested g c = all_tested c.args.count c.loop-k.k c.loop-k.pages.items c.loop-k-test.false
    c.loop-k.invariant.tested

pub returns-clause-says : goal.returns-clause-says
returns-clause-says g c = λ image tells. all_read (shown c.args.store.now.dirty image)
    (tips_below (shown c.args.store.now.dirty image) c.args.last.0 c.args.count) c.loop-k.pages.items
    c.loop-k.at.0 c.args.count c.loop-k.k c.loop-k-test.false (c.loop-k.invariant.says image tells)

pub returns-clause-refused : goal.returns-clause-refused
returns-clause-refused g c = λ image tells. tt

pub returns-clause-reads : goal.returns-clause-reads
returns-clause-reads g c = c.loop-k.invariant.reads

pub load_page-requires-clause-pool : goal.load_page-requires-clause-pool
load_page-requires-clause-pool g c = c.loop-k.invariant.keeps.pool

pub load_page-requires-clause-geometry : goal.load_page-requires-clause-geometry
load_page-requires-clause-geometry g c = geometry_on g.D.Disk.meaning c.args.store.now c.loop-k.store
    c.loop-k.invariant.keeps c.requires.geometry

pub load_page-requires-clause-empty : goal.load_page-requires-clause-empty
load_page-requires-clause-empty g c = c.requires.empty

pub prev_of-at-requires : goal.prev_of-at-requires
prev_of-at-requires g c = has_states c.args.store.now.geometry c.loop-k.store.geometry c.in_ok-page.page.bytes
    c.as_slice.result.now c.requires.geometry c.loop-k.invariant.keeps.geometry
    c.in_ok-page.ensures.whole c.as_slice.ensures
