use Rattle.std.proofs.Common.{◌≡◌}
use Rattle.rtrb.specs.declared.errors.PushError.TheVariants.{Full}
use Rattle.mg_behind.proofs.Does.{honest_push, told_push, pushed}
use Rattle.mg_behind.proofs.worker.Worker.hand_back.Goals as goal

pub invariant_of-self-clause-honest : goal.invariant_of-self-clause-honest
invariant_of-self-clause-honest g c = λ w.
    honest_push c.loop.self.receipts.end.past c.push.new.self.end.past c.loop.receipt (pushed (λ e. e ≡ Full c.loop.receipt) _ _ _ _ c.loop.receipt c.push.result c.push.ensures.ok c.push.ensures.full)
    (c.loop.self.honest w) (cc (c.requires.honest (cc (w, c.loop.invariant.3)), c.loop.invariant.5))

pub invariant_of-self-clause-told : goal.invariant_of-self-clause-told
invariant_of-self-clause-told g c = λ f is.
    told_push c.loop.self.receipts.end.past c.push.new.self.end.past c.loop.receipt c.loop.self.given (pushed (λ e. e ≡ Full c.loop.receipt) _ _ _ _ c.loop.receipt c.push.result c.push.ensures.ok c.push.ensures.full)
    (c.loop.self.told f) (cc (c.requires.told (cc (f, c.loop.invariant.3)), c.loop.invariant.5)) is
