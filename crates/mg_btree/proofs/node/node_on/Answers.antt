use Rattle.std.proofs.Common.{refl, subst, ℕ, List, ◌∙◌}
use Rattle.mg_node.specs.NodeReading.{IsNodeOf}
use Rattle.mg_space.specs.View.{viewed}
use Rattle.mg_btree.specs.Reading.{IsNodeOn, IsReadNode}
use Rattle.mg_btree.specs.ReadingLaws.{content_reads, content_seen, ok_of_err, refuses_on}
use Rattle.mg_btree.proofs.node.node_on.Goals as goal

pub returns-in_err-bytes-clause-seen : goal.returns-in_err-bytes-clause-seen
returns-in_err-bytes-clause-seen g c = λ image tells.
    refuses_on c.args.store.now.geometry.size c.args.owner c.args.level c.args.page.0
    (viewed c.args.store.now image c.args.batch.now c.args.page.0) c.in_err-bytes.field-0.0
    c.from_residual.result c.from_residual.ensures.1 (c.in_err-bytes.ensures.seen image tells)

pub returns-in_err-node-clause-reads : goal.returns-in_err-node-clause-reads
returns-in_err-node-clause-reads g c = content_reads _ g.D.Disk.meaning c.args.store.now
    c.bytes_of.new.store c.in_ok-bytes.bytes c.args.owner c.args.level c.args.page.0 c.as_slice.result.now
    c.in_err-node.field-0.0 c.from_residual-in_err-node.result c.in_ok-bytes.ensures.reads
    c.from_residual-in_err-node.ensures.1 c.in_err-node.ensures

pub returns-in_err-node-clause-read : goal.returns-in_err-node-clause-read
returns-in_err-node-clause-read g c = ok_of_err (IsReadNode c.args.store.now.geometry.size c.args.owner
    c.args.level c.args.page.0) _ c.from_residual-in_err-node.result c.from_residual-in_err-node.ensures.1

pub returns-in_err-node-clause-seen : goal.returns-in_err-node-clause-seen
returns-in_err-node-clause-seen g c = λ image tells. content_seen c.args.owner c.args.level c.args.page.0
    c.as_slice.result.now (viewed c.args.store.now image c.args.batch.now c.args.page.0)
    c.in_err-node.field-0.0 c.from_residual-in_err-node.result
    (c.as_slice.ensures ∙ c.in_ok-bytes.ensures.seen image tells) c.from_residual-in_err-node.ensures.1
    c.in_err-node.ensures

pub returns-clause-read : goal.returns-clause-read
returns-clause-read g c = record {
  number = refl;
  len = c.in_ok-bytes.ensures.len;
  is = subst (IsNodeOn c.args.owner c.args.level c.args.page.0) c.as_slice.ensures c.in_ok-node.ensures.0;
  says = subst (λ (b : List ℕ). IsNodeOf b c.in_ok-node.node) c.as_slice.ensures c.in_ok-node.ensures.1;
}
