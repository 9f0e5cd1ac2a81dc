use Rattle.std.proofs.Common.{◌≡◌, refl, subst}
use Rattle.mg_directory.specs.Candidates.{Kept}
use Rattle.mg_noting.specs.Making.{Makes, RefusesMaking}
use Rattle.mg_pool.specs.Pool.{shown}
use Rattle.mg_seek.specs.Versions.{wants}
use Rattle.mg_seek.specs.declared.whose.Wanted.TheVariants.{Any}
use Rattle.mg_txlist.specs.TxList.{said}
use Rattle.mg_txlist.specs.declared.list.TxList.{TxList}
use Rattle.mg_core.specs.Noting.{WhyNotMade}
use Rattle.mg_core.proofs.StageLemmas.{core_read, core_read_counted, fails_reading}
use Rattle.mg_core.proofs.WriteLemmas.{core_noted, undirected}
use Rattle.mg_core.proofs.parts.Core.make_directory.Goals as goal

pub returns-in-Ok-clause-core : goal.returns-in-Ok-clause-core
returns-in-Ok-clause-core g c = core_noted g.D.Disk.meaning (record c.args.self.now { store = c.make_directory.new.store })
    c.make_directory.new.directories
    (core_read g.D.Disk.meaning c.args.self.now c.make_directory.new.store c.requires.core c.in-Ok.ensures.keeps)

pub returns-in-Ok-clause-makes : goal.returns-in-Ok-clause-makes
returns-in-Ok-clause-makes g c = record {
  keeps = c.in-Ok.ensures.keeps;
  online = c.in-Ok.ensures.fault;
  same = refl;
  makes = λ image tells. subst (λ (l : TxList). Makes (said l) c.args.self.now.live
      (shown c.args.self.now.store.dirty image) c.args.table.now c.args.self.now.directories
      c.make_directory.new.directories) c.new-states.ensures (c.in-Ok.ensures.makes image tells);
}

pub returns-in-Err-clause-core : goal.returns-in-Err-clause-core
returns-in-Err-clause-core g c = core_read_counted g.D.Disk.meaning c.args.self.now c.refuse.new.self c.make_directory.new.store
    c.requires.core c.in-Err.ensures.keeps
    (undirected c.args.self.now c.refuse.new.self c.make_directory.new.store c.make_directory.new.directories
    c.in-Err.ensures.same c.refuse.ensures.same)

pub returns-in-Err-clause-makes : goal.returns-in-Err-clause-makes
returns-in-Err-clause-makes g c = fails_reading (Unit {0}) g.D.Disk.meaning c.args.self.now c.refuse.new.self
    c.make_directory.new.store (WhyNotMade g.D.Disk.meaning c.args.self.now c.args.table.now) c.in-Err.fault
    c.refuse.result c.in-Err.ensures.keeps c.in-Err.ensures.fault c.in-Err.ensures.own
    (λ image tells. subst (λ (l : TxList). RefusesMaking g.D.Disk.meaning c.make_directory.new.store
    (shown c.args.self.now.store.dirty image) (wants (said l) c.args.self.now.live Any) c.args.table.now
    c.in-Err.fault) c.new-states.ensures (c.in-Err.ensures.makes image tells))
    c.refuse.ensures.refusal c.refuse.ensures.counts
    (undirected c.args.self.now c.refuse.new.self c.make_directory.new.store c.make_directory.new.directories
    c.in-Err.ensures.same c.refuse.ensures.same)
