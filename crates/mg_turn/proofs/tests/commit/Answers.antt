use Rattle.std.proofs.Common.{rules, ◌≡◌, refl}
use Rattle.mg_turn.specs.Laws.{served_end}
use Rattle.mg_turn.specs.Promises.{view}
use Rattle.mg_turn.specs.declared.served.End.TheVariants.{Committed}
use Rattle.mg_turn.proofs.tests.commit.Goals as goal

pub post_end-requires-clause-ended : goal.post_end-requires-clause-ended
post_end-requires-clause-ended g c = let is : c.args.t ≡ c.from.result = search rules in
    served_end _ _ (view c.args.seat.now) (view c.serve.new.seat) c.from.result c.serve.result c.serve.ensures.extends c.args.t Committed (is, refl)
