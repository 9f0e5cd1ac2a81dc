use Rattle.std.proofs.Common.{◌<◌, refl, sym, subst, Ok, Err}
use Rattle.mg_space.specs.View.{AreWhole, viewed}
use Rattle.mg_btree.specs.declared.node.ReadNode.{ReadNode}
use Rattle.mg_btree.specs.declared.root.Root.{Root}
use Rattle.mg_btree.specs.ExitLaws.{reads_ok}
use Rattle.mg_btree.specs.LeafLaws.{leaf_seen}
use Rattle.mg_btree.specs.PutAtLaws.{leaf_fails, leaf_finds, root_fails}
use Rattle.mg_btree.specs.ReadingLaws.{ok_of_err, reads_on}
use Rattle.mg_btree.specs.ScanLaws.{reads_err}
use Rattle.mg_base.specs.declared.geometry.Geometry.{Geometry}
use Rattle.mg_space.specs.Taking.{IsGeometry}
use Rattle.mg_btree.specs.Searching.{IsReached}
use Rattle.mg_btree.specs.declared.inserting.Leaf.{Leaf}
use Rattle.mg_btree.proofs.inserting.find_leaf.Goals as goal

pub returns-in_err-top-clause-reads : goal.returns-in_err-top-clause-reads
returns-in_err-top-clause-reads g c = reads_err Root g.D.Disk.meaning c.args.store.now
    c.root_of.new.store c.in_err-top.field-0.0 c.from_residual.result c.from_residual.ensures.1
    c.in_err-top.ensures.reads

pub returns-in_err-top-clause-finds : goal.returns-in_err-top-clause-finds
returns-in_err-top-clause-finds g c = λ image owner levels tells tree. root_fails
    (viewed c.args.store.now image c.args.batch.now) owner c.args.root.0 levels c.in_err-top.field-0.0
    c.from_residual.result c.from_residual.ensures.1 (c.in_err-top.ensures.root image owner levels tells tree)

pub returns-in_err-read-clause-reads : goal.returns-in_err-read-clause-reads
returns-in_err-read-clause-reads g c = reads_on g.D.Disk.meaning g.met.D.Disk.counts_now
    c.args.store.now c.root_of.new.store c.descend.new.store (Ok c.in_ok-top.top) c.in_ok-top.top
    c.from_residual-in_err-read.result refl c.in_ok-top.ensures.reads
    (reads_err ReadNode g.D.Disk.meaning c.root_of.new.store c.descend.new.store
    c.in_err-read.field-0.0 c.from_residual-in_err-read.result c.from_residual-in_err-read.ensures.1
    c.in_err-read.ensures.reads)

pub returns-in_err-read-clause-finds : goal.returns-in_err-read-clause-finds
returns-in_err-read-clause-finds g c = λ image owner levels tells tree. leaf_fails
    c.args.store.now.geometry.size (viewed c.args.store.now image c.args.batch.now) owner c.args.root.0
    levels c.args.e.now c.in_err-read.field-0.0 c.from_residual-in_err-read.result
    c.from_residual-in_err-read.ensures.1
    (leaf_seen g.D.Disk.meaning c.args.store.now c.root_of.new.store c.args.batch.now c.args.root.0
    c.args.e.now c.in_ok-top.top (Err c.in_err-read.field-0.0) c.in_ok-top.ensures.reads.keeps
    c.in_ok-top.ensures.root tt c.in_err-read.ensures.comes image owner levels tells tree)

pub returns-clause-reads : goal.returns-clause-reads
returns-clause-reads g c =
    let read = reads_on g.D.Disk.meaning g.met.D.Disk.counts_now c.args.store.now c.root_of.new.store
    c.descend.new.store (Ok c.in_ok-top.top) c.in_ok-top.top (Ok c.in_ok-read.read) refl
    c.in_ok-top.ensures.reads c.in_ok-read.ensures.reads in
    reads_ok g.D.Disk.meaning c.args.store.now c.descend.new.store (Ok c.in_ok-read.read)
    c.in_ok-read.read (record { top = c.in_ok-top.top; read = c.in_ok-read.read }) refl read

pub returns-clause-finds : goal.returns-clause-finds
returns-clause-finds g c = λ image owner levels tells tree. leaf_finds c.args.store.now.geometry.size
    (viewed c.args.store.now image c.args.batch.now) owner c.args.root.0 levels c.args.e.now
    c.in_ok-top.top c.in_ok-read.read (c.in_ok-top.ensures.root image owner levels tells tree)
    (leaf_seen g.D.Disk.meaning c.args.store.now c.root_of.new.store c.args.batch.now c.args.root.0
    c.args.e.now c.in_ok-top.top (Ok c.in_ok-read.read) c.in_ok-top.ensures.reads.keeps
    c.in_ok-top.ensures.root c.in_ok-read.ensures.reached c.in_ok-read.ensures.comes image owner levels
    tells tree)

pub descend-requires-clause-pool : goal.descend-requires-clause-pool
descend-requires-clause-pool g c = c.in_ok-top.ensures.reads.keeps.pool

pub descend-requires-clause-geometry : goal.descend-requires-clause-geometry
descend-requires-clause-geometry g c = subst IsGeometry (sym c.in_ok-top.ensures.reads.keeps.geometry)
    c.requires.geometry

pub descend-requires-clause-whole : goal.descend-requires-clause-whole
descend-requires-clause-whole g c = subst (λ (k : Geometry). AreWhole k c.args.batch.now.pages)
    (sym c.in_ok-top.ensures.reads.keeps.geometry) c.requires.whole

pub returns-in_err-top-clause-reached : goal.returns-in_err-top-clause-reached
returns-in_err-top-clause-reached g c = ok_of_err (λ (leaf : Leaf). IsReached
    c.args.store.now.geometry.size leaf.top.owner 0 c.args.e.now leaf.read) _ c.from_residual.result
    c.from_residual.ensures.1

pub returns-in_err-read-clause-reached : goal.returns-in_err-read-clause-reached
returns-in_err-read-clause-reached g c = ok_of_err (λ (leaf : Leaf). IsReached
    c.args.store.now.geometry.size leaf.top.owner 0 c.args.e.now leaf.read) _
    c.from_residual-in_err-read.result c.from_residual-in_err-read.ensures.1

pub returns-clause-reached : goal.returns-clause-reached
returns-clause-reached g c = subst (λ (k : Geometry). IsReached k.size c.in_ok-top.top.owner 0
    c.args.e.now c.in_ok-read.read) c.in_ok-top.ensures.reads.keeps.geometry c.in_ok-read.ensures.reached

pub returns-in_err-top-clause-below : goal.returns-in_err-top-clause-below
returns-in_err-top-clause-below g c = ok_of_err (λ (leaf : Leaf). leaf.read.page.0
    < c.args.store.now.geometry.limit) _ c.from_residual.result c.from_residual.ensures.1

pub returns-in_err-read-clause-below : goal.returns-in_err-read-clause-below
returns-in_err-read-clause-below g c = ok_of_err (λ (leaf : Leaf). leaf.read.page.0
    < c.args.store.now.geometry.limit) _ c.from_residual-in_err-read.result
    c.from_residual-in_err-read.ensures.1

pub returns-clause-below : goal.returns-clause-below
returns-clause-below g c = subst (λ (k : Geometry). c.in_ok-read.read.page.0 < k.limit)
    c.in_ok-top.ensures.reads.keeps.geometry c.in_ok-read.ensures.below
