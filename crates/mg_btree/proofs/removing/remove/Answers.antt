use Rattle.std.proofs.Common.{ap, refl, sym, subst, Ok}
use Rattle.mg_space.specs.View.{AreWhole, viewed}
use Rattle.mg_btree.specs.AboveLaws.{sized_by}
use Rattle.mg_btree.specs.ExitLaws.{reads_memory, reads_ok}
use Rattle.mg_btree.specs.LeafLaws.{orders_without, removes_says, whole_without, without_few}
use Rattle.mg_btree.specs.ScanLaws.{reads_err}
use Rattle.mg_btree.specs.declared.node.ReadNode.{ReadNode}
use Rattle.mg_btree.proofs.ExitLemmas.{absent_stays, few_same, on_err, remove_refused, remove_wants}
use Rattle.mg_btree.proofs.removing.remove.Goals as goal

pub returns-in_err-read-clause-reads : goal.returns-in_err-read-clause-reads
returns-in_err-read-clause-reads g c = reads_err ReadNode g.D.Disk.meaning c.args.store.now
    c.leaf_for.new.store c.in_err-read.field-0.0 c.from_residual.result c.from_residual.ensures.1
    c.in_err-read.ensures.reads

pub returns-in_err-read-clause-whole : goal.returns-in_err-read-clause-whole
returns-in_err-read-clause-whole g c = c.requires.whole

pub returns-in_err-read-clause-orders : goal.returns-in_err-read-clause-orders
returns-in_err-read-clause-orders g c = refl

pub returns-in_err-read-clause-absent : goal.returns-in_err-read-clause-absent
returns-in_err-read-clause-absent g c = λ is. refl

pub returns-in_err-read-clause-few : goal.returns-in_err-read-clause-few
returns-in_err-read-clause-few g c = few_same c.args.batch.now c.args.batch.now refl

pub returns-in_err-read-clause-same : goal.returns-in_err-read-clause-same
returns-in_err-read-clause-same g c = on_err c.from_residual.result refl

pub returns-in_err-read-clause-removes : goal.returns-in_err-read-clause-removes
returns-in_err-read-clause-removes g c = λ image owner levels tells tree no_inventory. remove_refused
    c.args.store.now.geometry.size (viewed c.args.store.now image c.args.batch.now)
    (viewed c.leaf_for.new.store image c.args.batch.now) c.args.batch.now owner c.args.root.0 levels
    c.args.e.now c.in_err-read.field-0.0 c.from_residual.result c.from_residual.ensures.1
    (c.in_err-read.ensures.seen image owner levels tells tree)

pub put_without-requires-clause-sized : goal.put_without-requires-clause-sized
put_without-requires-clause-sized g c = sized_by c.args.store.now.geometry c.in_ok-read.read.bytes
    c.requires.geometry c.in_ok-read.ensures.leaf.len

pub put_without-requires-clause-lawful : goal.put_without-requires-clause-lawful
put_without-requires-clause-lawful g c = c.in_ok-read.ensures.leaf.lawful

pub put_without-requires-clause-leaf : goal.put_without-requires-clause-leaf
put_without-requires-clause-leaf g c = c.in_ok-read.ensures.leaf.level

pub returns-in_err-put_without-clause-reads : goal.returns-in_err-put_without-clause-reads
returns-in_err-put_without-clause-reads g c = reads_memory g.D.Disk.meaning c.args.store.now
    c.leaf_for.new.store (Ok c.in_ok-read.read) c.in_ok-read.read
    c.from_residual-in_err-put_without.result refl c.in_ok-read.ensures.reads
    c.from_residual-in_err-put_without.ensures.1

pub returns-in_err-put_without-clause-whole : goal.returns-in_err-put_without-clause-whole
returns-in_err-put_without-clause-whole g c = subst (λ b. AreWhole c.args.store.now.geometry b.pages)
    (sym c.in_err-put_without.ensures.same) c.requires.whole

pub returns-in_err-put_without-clause-orders : goal.returns-in_err-put_without-clause-orders
returns-in_err-put_without-clause-orders g c = ap (λ b. b.orders) c.in_err-put_without.ensures.same

pub returns-in_err-put_without-clause-few : goal.returns-in_err-put_without-clause-few
returns-in_err-put_without-clause-few g c = few_same c.args.batch.now c.put_without.new.batch
    c.in_err-put_without.ensures.same

pub returns-in_err-put_without-clause-absent : goal.returns-in_err-put_without-clause-absent
returns-in_err-put_without-clause-absent g c = λ is. c.in_err-put_without.ensures.same

pub returns-in_err-put_without-clause-same : goal.returns-in_err-put_without-clause-same
returns-in_err-put_without-clause-same g c = on_err c.from_residual-in_err-put_without.result
    c.in_err-put_without.ensures.same

pub returns-in_err-put_without-clause-removes : goal.returns-in_err-put_without-clause-removes
returns-in_err-put_without-clause-removes g c = λ image owner levels tells tree no_inventory. remove_wants
    c.args.store.now.geometry.size (viewed c.args.store.now image c.args.batch.now)
    (viewed c.leaf_for.new.store image c.put_without.new.batch) c.put_without.new.batch owner
    c.args.root.0 levels c.args.e.now c.from_residual-in_err-put_without.result
    c.from_residual-in_err-put_without.ensures.1

pub returns-clause-reads : goal.returns-clause-reads
returns-clause-reads g c = reads_ok g.D.Disk.meaning c.args.store.now c.leaf_for.new.store
    (Ok c.in_ok-read.read) c.in_ok-read.read c.in_ok-put_without.field-0 refl c.in_ok-read.ensures.reads

pub returns-clause-whole : goal.returns-clause-whole
returns-clause-whole g c = whole_without c.args.store.now.geometry c.args.batch.now
    c.put_without.new.batch c.in_ok-read.read c.args.e.now c.in_ok-put_without.field-0 c.requires.whole
    c.in_ok-read.ensures.leaf.len c.in_ok-read.ensures.below c.in_ok-put_without.ensures.puts

pub returns-clause-orders : goal.returns-clause-orders
returns-clause-orders g c = orders_without c.args.batch.now c.put_without.new.batch c.in_ok-read.read
    c.args.e.now c.in_ok-put_without.field-0 c.in_ok-put_without.ensures.puts

pub returns-clause-absent : goal.returns-clause-absent
returns-clause-absent g c = λ is. absent_stays c.args.batch.now c.put_without.new.batch
    c.in_ok-read.read c.args.e.now c.in_ok-put_without.field-0 c.in_ok-put_without.ensures.puts is

pub returns-clause-removes : goal.returns-clause-removes
returns-clause-removes g c = λ image owner levels tells tree no_inventory.
    removes_says g.D.Disk.meaning c.args.store.now c.leaf_for.new.store c.args.batch.now
    c.put_without.new.batch image owner c.args.root.0 levels c.args.e.now c.in_ok-read.read
    c.in_ok-read.ensures.reads.keeps tree no_inventory
    (c.in_ok-read.ensures.seen image owner levels tells tree) c.in_ok-put_without.field-0
    c.in_ok-put_without.ensures.puts

pub returns-clause-few : goal.returns-clause-few
returns-clause-few g c = without_few c.args.batch.now c.put_without.new.batch c.in_ok-read.read
    c.args.e.now c.in_ok-put_without.field-0 c.in_ok-put_without.ensures.puts
