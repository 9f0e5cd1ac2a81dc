use Rattle.mg_space.specs.WholeLaws.{whole_kept}
use Rattle.std.proofs.Common.{rules, ◌-◌, ◌<◌, refl, subst, ℕ, Ok}
use Rattle.std.specs.Prelude.{IfOk}
use Rattle.mg_base.specs.declared.numbers.PageNo.{PageNo}
use Rattle.mg_space.specs.View.{viewed, AreWhole}
use Rattle.mg_btree.specs.declared.node.ReadNode.{ReadNode}
use Rattle.mg_btree.specs.PassLaws.{comes_below, pass_refused}
use Rattle.mg_btree.specs.ReadingLaws.{ok_of_err, reads_on}
use Rattle.mg_btree.specs.ScanLaws.{reads_err}
use Rattle.mg_base.specs.declared.geometry.Geometry.{Geometry}
use Rattle.mg_btree.specs.Searching.{BeginsAt, IsReached}
use Rattle.mg_btree.proofs.ExitLemmas.{some_above}
use Rattle.mg_btree.proofs.search.+descend.Goals as goal

pub returns-in_err-child-clause-reads : goal.returns-in_err-child-clause-reads
returns-in_err-child-clause-reads g t c = reads_err PageNo g.D.Disk.meaning c.args.store.now
    c.pass.new.store c.in_err-child.field-0.0 c.from_residual.result c.from_residual.ensures.1
    c.in_err-child.ensures.reads

pub returns-in_err-child-clause-comes : goal.returns-in_err-child-clause-comes
returns-in_err-child-clause-comes g t c = λ image root levels tells begins. pass_refused
    c.args.store.now.geometry.size (viewed c.args.store.now image c.args.batch.now) c.args.owner root
    levels c.args.e.now c.args.from c.in_err-child.field-0.0 c.from_residual.result
    c.from_residual.ensures.1 (c.in_err-child.ensures.passes image root levels tells begins)

pub returns-clause-reads : goal.returns-clause-reads
returns-clause-reads g t c = reads_on g.D.Disk.meaning g.met.D.Disk.counts_now c.args.store.now
    c.pass.new.store c.descend.new.store (Ok c.in_ok-child.child) c.in_ok-child.child c.descend.result refl
    c.in_ok-child.ensures.reads c.descend.ensures.reads

pub returns-clause-comes : goal.returns-clause-comes
returns-clause-comes g t c =
    let lower = c.requires.lower in
    let other = c.if-from-level.false in
    comes_below g.D.Disk.meaning c.args.store.now c.pass.new.store c.args.batch.now c.args.owner c.args.from
    (c.args.from - 1) c.args.e.now c.args.page.0 c.in_ok-child.child c.descend.result
    c.in_ok-child.ensures.reads.keeps (search rules) c.in_ok-child.ensures.passes
    c.descend.ensures.comes

pub returns-then-from-level-clause-comes : goal.returns-then-from-level-clause-comes
returns-then-from-level-clause-comes g t c = λ image root levels tells begins.
    c.land.ensures.comes image root levels tells
    (subst (λ (k : ℕ). BeginsAt c.args.store.now.geometry.size
    (viewed c.args.store.now image c.args.batch.now) c.args.owner root levels c.args.e.now k
    c.args.page.0) c.if-from-level.true begins)

pub pass-requires-clause-inner : goal.pass-requires-clause-inner
pass-requires-clause-inner g t c = some_above c.args.from c.args.level c.requires.lower c.if-from-level.false

pub returns-in_err-child-clause-reached : goal.returns-in_err-child-clause-reached
returns-in_err-child-clause-reached g t c = ok_of_err (IsReached c.args.store.now.geometry.size
    c.args.owner c.args.level c.args.e.now) _ c.from_residual.result c.from_residual.ensures.1

pub returns-clause-reached : goal.returns-clause-reached
returns-clause-reached g t c = subst (λ (k : Geometry). IfOk c.descend.result (IsReached k.size
    c.args.owner c.args.level c.args.e.now)) c.in_ok-child.ensures.reads.keeps.geometry
    c.descend.ensures.reached

pub returns-then-from-level-clause-below : goal.returns-then-from-level-clause-below
returns-then-from-level-clause-below g t c = c.land.ensures.below

pub returns-in_err-child-clause-below : goal.returns-in_err-child-clause-below
returns-in_err-child-clause-below g t c = ok_of_err (λ (read : ReadNode). read.page.0
    < c.args.store.now.geometry.limit) _ c.from_residual.result c.from_residual.ensures.1

pub returns-clause-below : goal.returns-clause-below
returns-clause-below g t c = subst (λ (k : Geometry). IfOk c.descend.result (λ read. read.page.0 < k.limit))
    c.in_ok-child.ensures.reads.keeps.geometry c.descend.ensures.below

pub descend-requires : goal.descend-requires
descend-requires g t c =
    let whole : AreWhole c.pass.new.store.geometry c.args.batch.now.pages =
    whole_kept g.D.Disk.meaning c.args.store.now c.pass.new.store c.args.batch.now.pages
    c.in_ok-child.ensures.reads.keeps c.requires.whole in
    (search rules)
