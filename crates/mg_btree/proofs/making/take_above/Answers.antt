use Rattle.std.proofs.Common.{◌∙◌, ◌+◌, ◌<◌, refl, subst, sym, Ok, Err, ℕ, arith}
use Rattle.mg_base.specs.declared.geometry.Geometry.{Geometry}
use Rattle.mg_space.specs.View.{AreWhole, viewed}
use Rattle.mg_btree.specs.declared.halves.Halves.{Halves}
use Rattle.mg_btree.specs.declared.making.Split.{Split}
use Rattle.mg_btree.specs.declared.node.ReadNode.{ReadNode}
use Rattle.mg_btree.specs.AboveLaws.{above_err, above_read, above_unread, fence_short}
use Rattle.mg_btree.specs.ExitLaws.{reads_ok}
use Rattle.mg_btree.specs.ReadingLaws.{ok_of_err, reads_on}
use Rattle.mg_btree.specs.ScanLaws.{reads_err}
use Rattle.mg_btree.specs.Searching.{IsReached}
use Rattle.mg_space.specs.Taking.{IsGeometry}
use Rattle.mg_btree.specs.Making.{IsSplit}
use Rattle.mg_btree.proofs.making.take_above.Goals as goal

pub descend-requires-clause-whole : goal.descend-requires-clause-whole
descend-requires-clause-whole g c = subst (λ (x : Geometry). AreWhole x c.take_right.new.batch.pages)
    (sym c.in_ok-halves.ensures.reads.keeps.geometry) c.in_ok-halves.ensures.whole

pub returns-in_err-halves-clause-reads : goal.returns-in_err-halves-clause-reads
returns-in_err-halves-clause-reads g c = reads_err Halves g.D.Disk.meaning c.args.store.now
    c.take_right.new.store c.in_err-halves.field-0.0 c.from_residual.result c.from_residual.ensures.1
    c.in_err-halves.ensures.reads

pub returns-in_err-halves-clause-takes : goal.returns-in_err-halves-clause-takes
returns-in_err-halves-clause-takes g c = λ image levels tells top stands. above_err
    c.args.store.now.geometry (viewed c.args.store.now image c.args.batch.now)
    (viewed c.args.store.now image c.take_right.new.batch) c.take_right.new.batch levels
    c.in_err-halves.field-0.0 c.from_residual.result c.from_residual.ensures.1
    (c.in_err-halves.ensures.takes image tells)

pub returns-in_err-above-clause-reads : goal.returns-in_err-above-clause-reads
returns-in_err-above-clause-reads g c = reads_on g.D.Disk.meaning g.met.D.Disk.counts_now
    c.args.store.now c.take_right.new.store c.descend.new.store (Ok c.in_ok-halves.halves)
    c.in_ok-halves.halves c.from_residual-in_err-above.result refl c.in_ok-halves.ensures.reads
    (reads_err ReadNode g.D.Disk.meaning c.take_right.new.store c.descend.new.store
    c.in_err-above.field-0.0 c.from_residual-in_err-above.result c.from_residual-in_err-above.ensures.1
    c.in_err-above.ensures.reads)

pub returns-in_err-above-clause-takes : goal.returns-in_err-above-clause-takes
returns-in_err-above-clause-takes g c = λ image levels tells top stands. above_unread g.D.Disk.meaning
    c.args.store.now c.take_right.new.store image c.in_ok-halves.ensures.reads.keeps c.requires.geometry
    c.args.batch.now c.take_right.new.batch c.args.top.owner c.args.top.page.0 c.args.top.level
    c.args.level levels c.args.full c.in_ok-halves.halves (Err c.in_err-above.field-0.0) tells top stands
    (c.in_ok-halves.ensures.takes image tells) c.in_err-above.ensures.comes c.in_err-above.field-0.0
    c.from_residual-in_err-above.result refl c.from_residual-in_err-above.ensures.1

pub returns-clause-reads : goal.returns-clause-reads
returns-clause-reads g c =
    let read = reads_on g.D.Disk.meaning g.met.D.Disk.counts_now c.args.store.now c.take_right.new.store
    c.descend.new.store (Ok c.in_ok-halves.halves) c.in_ok-halves.halves (Ok c.in_ok-above.above) refl
    c.in_ok-halves.ensures.reads c.in_ok-above.ensures.reads in
    reads_ok g.D.Disk.meaning c.args.store.now c.descend.new.store (Ok c.in_ok-above.above)
    c.in_ok-above.above (record { halves = c.in_ok-halves.halves; above = c.in_ok-above.above }) refl read

pub returns-clause-split : goal.returns-clause-split
returns-clause-split g c =
    let halves = c.in_ok-halves.ensures.halves in
    record {
      at = c.in_ok-halves.halves.right.page.0;
      halves = halves;
      short = fence_short c.args.store.now.geometry.size c.args.full.bytes
          c.in_ok-halves.halves.left.bytes c.in_ok-halves.halves.right.bytes c.in_ok-halves.halves.fence
          halves.pair.right_lawful halves.fence (halves.pair.splits.right_size ∙ c.requires.len);
      above = subst (λ (k : ℕ). IsReached c.args.store.now.geometry.size c.args.top.owner k
          c.in_ok-halves.halves.fence c.in_ok-above.above) (omega arith)
          (subst (λ (x : Geometry). IsReached x.size c.args.top.owner (c.args.level + 1)
          c.in_ok-halves.halves.fence c.in_ok-above.above) c.in_ok-halves.ensures.reads.keeps.geometry
          c.in_ok-above.ensures.reached);
    }

pub returns-clause-takes : goal.returns-clause-takes
returns-clause-takes g c = λ image levels tells top stands. above_read g.D.Disk.meaning
    c.args.store.now c.take_right.new.store image c.in_ok-halves.ensures.reads.keeps c.requires.geometry
    c.args.batch.now c.take_right.new.batch c.args.top.owner c.args.top.page.0 c.args.top.level
    c.args.level levels c.args.full c.in_ok-halves.halves (Ok c.in_ok-above.above) tells top stands
    (c.in_ok-halves.ensures.takes image tells) c.in_ok-above.ensures.comes c.in_ok-above.above
    (record { halves = c.in_ok-halves.halves; above = c.in_ok-above.above }) refl refl refl

pub descend-requires-clause-pool : goal.descend-requires-clause-pool
descend-requires-clause-pool g c = c.in_ok-halves.ensures.reads.keeps.pool

pub descend-requires-clause-geometry : goal.descend-requires-clause-geometry
descend-requires-clause-geometry g c = subst IsGeometry
    (sym c.in_ok-halves.ensures.reads.keeps.geometry) c.requires.geometry

pub returns-in_err-halves-clause-widens : goal.returns-in_err-halves-clause-widens
returns-in_err-halves-clause-widens g c = c.in_err-halves.ensures.widens

pub returns-in_err-halves-clause-split : goal.returns-in_err-halves-clause-split
returns-in_err-halves-clause-split g c = ok_of_err (IsSplit c.args.store.now.geometry.size
    c.args.top.owner c.args.level c.args.full) _ c.from_residual.result c.from_residual.ensures.1

pub returns-in_err-above-clause-widens : goal.returns-in_err-above-clause-widens
returns-in_err-above-clause-widens g c = c.in_ok-halves.ensures.widens

pub returns-in_err-above-clause-split : goal.returns-in_err-above-clause-split
returns-in_err-above-clause-split g c = ok_of_err (IsSplit c.args.store.now.geometry.size
    c.args.top.owner c.args.level c.args.full) _ c.from_residual-in_err-above.result
    c.from_residual-in_err-above.ensures.1

pub returns-clause-widens : goal.returns-clause-widens
returns-clause-widens g c = c.in_ok-halves.ensures.widens

pub returns-clause-alone : goal.returns-clause-alone
returns-clause-alone g c = c.in_ok-halves.ensures.alone

pub returns-in_err-halves-clause-right : goal.returns-in_err-halves-clause-right
returns-in_err-halves-clause-right g c = ok_of_err (λ (split : Split). split.halves.right.page.0
    < c.args.store.now.geometry.limit) _ c.from_residual.result c.from_residual.ensures.1

pub returns-in_err-halves-clause-above : goal.returns-in_err-halves-clause-above
returns-in_err-halves-clause-above g c = ok_of_err (λ (split : Split). split.above.page.0
    < c.args.store.now.geometry.limit) _ c.from_residual.result c.from_residual.ensures.1

pub returns-in_err-above-clause-right : goal.returns-in_err-above-clause-right
returns-in_err-above-clause-right g c = ok_of_err (λ (split : Split). split.halves.right.page.0
    < c.args.store.now.geometry.limit) _ c.from_residual-in_err-above.result
    c.from_residual-in_err-above.ensures.1

pub returns-in_err-above-clause-above : goal.returns-in_err-above-clause-above
returns-in_err-above-clause-above g c = ok_of_err (λ (split : Split). split.above.page.0
    < c.args.store.now.geometry.limit) _ c.from_residual-in_err-above.result
    c.from_residual-in_err-above.ensures.1

pub returns-clause-whole : goal.returns-clause-whole
returns-clause-whole g c = c.in_ok-halves.ensures.whole

pub returns-clause-right : goal.returns-clause-right
returns-clause-right g c = c.in_ok-halves.ensures.right

pub returns-clause-above : goal.returns-clause-above
returns-clause-above g c = subst (λ (x : Geometry). c.in_ok-above.above.page.0 < x.limit)
    c.in_ok-halves.ensures.reads.keeps.geometry c.in_ok-above.ensures.below
