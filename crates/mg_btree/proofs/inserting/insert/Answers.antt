use Rattle.std.proofs.Common.{refl, sym, subst, ◌≤◌, ◌<◌, ◌/◌, length, Ok}
use Rattle.std.specs.Prelude.{OnOk}
use Rattle.mg_base.specs.declared.geometry.Geometry.{Geometry}
use Rattle.mg_space.specs.View.{AreWhole, viewed}
use Rattle.mg_btree.specs.declared.inserting.Leaf.{Leaf}
use Rattle.mg_btree.specs.OrderLaws.{widens_same}
use Rattle.mg_btree.specs.Ordering.{Widens}
use Rattle.mg_btree.specs.PutAtLaws.{find_refused, insert_all}
use Rattle.mg_btree.specs.ReadingLaws.{reads_on}
use Rattle.mg_btree.specs.ScanLaws.{reads_err}
use Rattle.mg_btree.specs.Searching.{IsReached}
use Rattle.mg_space.specs.Taking.{IsGeometry}
use Rattle.mg_btree.proofs.inserting.insert.Goals as goal

pub returns-in_err-leaf-clause-reads : goal.returns-in_err-leaf-clause-reads
returns-in_err-leaf-clause-reads g c = reads_err Leaf g.D.Disk.meaning c.args.store.now
    c.find_leaf.new.store c.in_err-leaf.field-0.0 c.from_residual.result c.from_residual.ensures.1
    c.in_err-leaf.ensures.reads

pub returns-in_err-leaf-clause-widens : goal.returns-in_err-leaf-clause-widens
returns-in_err-leaf-clause-widens g c = widens_same c.args.store.now.geometry.size c.args.batch.now
    c.args.batch.now refl

pub returns-in_err-leaf-clause-inserts : goal.returns-in_err-leaf-clause-inserts
returns-in_err-leaf-clause-inserts g c = λ image owner levels tells tree no_inventory. find_refused
    c.args.store.now.geometry (viewed c.args.store.now image c.args.batch.now)
    (viewed c.find_leaf.new.store image c.args.batch.now) c.args.batch.now c.args.batch.now owner
    c.args.root.0 levels c.args.e.now c.in_err-leaf.field-0.0 c.from_residual.result
    (c.in_err-leaf.ensures.finds image owner levels tells tree) c.from_residual.ensures.1

pub returns-clause-reads : goal.returns-clause-reads
returns-clause-reads g c = reads_on g.D.Disk.meaning g.met.D.Disk.counts_now c.args.store.now
    c.find_leaf.new.store c.put_at.new.store (Ok c.in_ok-leaf.leaf) c.in_ok-leaf.leaf c.put_at.result
    refl c.in_ok-leaf.ensures.reads c.put_at.ensures.reads

pub returns-clause-widens : goal.returns-clause-widens
returns-clause-widens g c = subst (λ (k : Geometry). Widens k.size c.args.batch.now c.put_at.new.batch)
    c.in_ok-leaf.ensures.reads.keeps.geometry c.put_at.ensures.widens

pub returns-clause-inserts : goal.returns-clause-inserts
returns-clause-inserts g c = λ image owner levels tells tree no_inventory. insert_all g.D.Disk.meaning
    c.args.store.now c.find_leaf.new.store c.put_at.new.store image c.in_ok-leaf.ensures.reads.keeps
    c.put_at.ensures.reads.keeps c.args.batch.now c.put_at.new.batch owner c.args.root.0 levels
    c.in_ok-leaf.leaf c.args.e.now c.put_at.result tells tree no_inventory
    (c.in_ok-leaf.ensures.finds image owner levels tells tree) c.put_at.ensures.inserts

pub put_at-requires-clause-pool : goal.put_at-requires-clause-pool
put_at-requires-clause-pool g c = c.in_ok-leaf.ensures.reads.keeps.pool

pub put_at-requires-clause-geometry : goal.put_at-requires-clause-geometry
put_at-requires-clause-geometry g c = subst IsGeometry (sym c.in_ok-leaf.ensures.reads.keeps.geometry)
    c.requires.geometry

pub put_at-requires-clause-whole : goal.put_at-requires-clause-whole
put_at-requires-clause-whole g c = subst (λ (k : Geometry). AreWhole k c.args.batch.now.pages)
    (sym c.in_ok-leaf.ensures.reads.keeps.geometry) c.requires.whole

pub put_at-requires-clause-short : goal.put_at-requires-clause-short
put_at-requires-clause-short g c = subst (λ (k : Geometry). length c.args.e.now.key ≤ k.size / 8)
    (sym c.in_ok-leaf.ensures.reads.keeps.geometry) c.requires.short

pub put_at-requires-clause-reached : goal.put_at-requires-clause-reached
put_at-requires-clause-reached g c = subst (λ (k : Geometry). IsReached k.size
    c.in_ok-leaf.leaf.top.owner 0 c.args.e.now c.in_ok-leaf.leaf.read)
    (sym c.in_ok-leaf.ensures.reads.keeps.geometry) c.in_ok-leaf.ensures.reached

pub put_at-requires-clause-below : goal.put_at-requires-clause-below
put_at-requires-clause-below g c = subst (λ (k : Geometry). c.in_ok-leaf.leaf.read.page.0 < k.limit)
    (sym c.in_ok-leaf.ensures.reads.keeps.geometry) c.in_ok-leaf.ensures.below

pub returns-clause-whole : goal.returns-clause-whole
returns-clause-whole g c = subst (λ (k : Geometry). OnOk c.put_at.result (AreWhole k c.put_at.new.batch.pages))
    c.in_ok-leaf.ensures.reads.keeps.geometry c.put_at.ensures.whole
