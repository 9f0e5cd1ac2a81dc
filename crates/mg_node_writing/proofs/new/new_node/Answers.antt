use Rattle.std.proofs.Common.{◌∙◌, ap, length, arith, List, ℕ}
use Rattle.mg_base.specs.Fields.{with_u16}
use Rattle.mg_node_writing.proofs.NewLemmas.{new_node_is}
use Rattle.mg_node_writing.proofs.new.new_node.Goals as goal

pub returns-clause-new : goal.returns-clause-new
returns-clause-new c =
    let owner = c.ranges.owner in let level = c.ranges.level in
    let sized = c.requires.least in
    new_node_is (length c.args.b.now) c.args.page.0 c.args.owner c.args.level (omega arith)
    (omega arith) (omega arith) (omega arith) _
    (c.put_u16-2.ensures ∙ ap (λ (x : List ℕ). with_u16 x 24 28)
    (c.put_u16.ensures ∙ ap (λ (x : List ℕ). with_u16 x 16 c.args.level) c.new_common.ensures))
