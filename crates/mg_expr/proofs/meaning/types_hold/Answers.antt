use Rattle.mg_expr.specs.TypingLaws.{types_hold}
use Rattle.mg_expr.proofs.meaning.types_hold.Goals as goal

pub returns : goal.returns
returns c = types_hold
