use Rattle.std.proofs.Common.{◌∙◌, ap, arith, List, ℕ}
use Rattle.mg_base.specs.Fields.{with_u32}
use Rattle.mg_node_writing.proofs.NewLemmas.{copies}
use Rattle.mg_node_writing.proofs.new.copy_node.Goals as goal

pub returns-clause-copies : goal.returns-clause-copies
returns-clause-copies c =
    copies c.args.from.now c.put_u32.new.b c.args.page.0 c.requires.sized.least (omega arith)
    c.requires.lawful
    (c.put_u32.ensures ∙ ap (λ (x : List ℕ). with_u32 x 4 c.args.page.0) c.copy_from_slice.ensures.after)
