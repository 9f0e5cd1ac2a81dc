use Rattle.std.proofs.Common.{◌<◌, ap, refl, sym, subst, Ok}
use Rattle.mg_base.specs.declared.geometry.Geometry.{Geometry}
use Rattle.mg_space.specs.Taking.{IsGeometry}
use Rattle.mg_space.specs.View.{AreWhole, viewed}
use Rattle.mg_btree.specs.Changing.{IsLeaf}
use Rattle.mg_btree.specs.LeafLaws.{leaf_ok, leaf_seen}
use Rattle.mg_btree.specs.ReadingLaws.{ok_of_err, reads_on}
use Rattle.mg_btree.specs.ScanLaws.{reads_err}
use Rattle.std.specs.Prelude.{IfOk}
use Rattle.mg_btree.specs.declared.node.ReadNode.{ReadNode}
use Rattle.mg_btree.specs.declared.root.Root.{Root}
use Rattle.mg_btree.proofs.ExitLemmas.{leaf_refused}
use Rattle.mg_btree.proofs.search.leaf_for.Goals as goal

pub returns-in_err-top-clause-reads : goal.returns-in_err-top-clause-reads
returns-in_err-top-clause-reads g c = reads_err Root g.D.Disk.meaning c.args.store.now
    c.root_of.new.store c.in_err-top.field-0.0 c.from_residual.result c.from_residual.ensures.1
    c.in_err-top.ensures.reads

pub returns-in_err-top-clause-leaf : goal.returns-in_err-top-clause-leaf
returns-in_err-top-clause-leaf g c = ok_of_err (IsLeaf c.args.store.now.geometry.size) _
    c.from_residual.result c.from_residual.ensures.1

pub returns-in_err-top-clause-seen : goal.returns-in_err-top-clause-seen
returns-in_err-top-clause-seen g c = λ image owner levels tells tree. leaf_refused
    c.args.store.now.geometry.size (viewed c.args.store.now image c.args.batch.now) owner c.args.root.0
    levels c.args.e.now c.in_err-top.field-0.0 c.from_residual.result c.from_residual.ensures.1
    (c.in_err-top.ensures.root image owner levels tells tree)

pub descend-requires-clause-pool : goal.descend-requires-clause-pool
descend-requires-clause-pool g c = c.in_ok-top.ensures.reads.keeps.pool

pub descend-requires-clause-geometry : goal.descend-requires-clause-geometry
descend-requires-clause-geometry g c = subst IsGeometry (sym c.in_ok-top.ensures.reads.keeps.geometry)
    c.requires.geometry

pub descend-requires-clause-whole : goal.descend-requires-clause-whole
descend-requires-clause-whole g c = subst (λ (x : Geometry). AreWhole x c.args.batch.now.pages)
    (sym c.in_ok-top.ensures.reads.keeps.geometry) c.requires.whole

pub returns-clause-reads : goal.returns-clause-reads
returns-clause-reads g c = reads_on g.D.Disk.meaning g.met.D.Disk.counts_now c.args.store.now
    c.root_of.new.store c.descend.new.store (Ok c.in_ok-top.top) c.in_ok-top.top c.descend.result refl
    c.in_ok-top.ensures.reads c.descend.ensures.reads

pub returns-clause-leaf : goal.returns-clause-leaf
returns-clause-leaf g c = leaf_ok c.args.store.now.geometry.size c.root_of.new.store.geometry.size
    c.in_ok-top.top.owner c.args.e.now c.descend.result
    (ap (λ (x : Geometry). x.size) c.in_ok-top.ensures.reads.keeps.geometry) c.descend.ensures.reached

pub returns-clause-seen : goal.returns-clause-seen
returns-clause-seen g c = leaf_seen g.D.Disk.meaning c.args.store.now c.root_of.new.store c.args.batch.now
    c.args.root.0 c.args.e.now c.in_ok-top.top c.descend.result c.in_ok-top.ensures.reads.keeps
    c.in_ok-top.ensures.root c.descend.ensures.reached c.descend.ensures.comes

pub returns-in_err-top-clause-below : goal.returns-in_err-top-clause-below
returns-in_err-top-clause-below g c = ok_of_err (λ (read : ReadNode). read.page.0
    < c.args.store.now.geometry.limit) _ c.from_residual.result c.from_residual.ensures.1

pub returns-clause-below : goal.returns-clause-below
returns-clause-below g c = subst (λ (k : Geometry). IfOk c.descend.result (λ read. read.page.0 < k.limit))
    c.in_ok-top.ensures.reads.keeps.geometry c.descend.ensures.below
