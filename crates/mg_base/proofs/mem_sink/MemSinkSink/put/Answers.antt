-- It failed for want of room, or since the call is listed.
use Rattle.std.proofs.Common.{inl, inr, refl, arith, rules}
use Rattle.mg_base.proofs.mem_sink.MemSinkSink.put.Goals as goal
use Rattle.mg_base.proofs.mem_sink.MemSinkSink.put.Goals.{then-piece-self-via-then-piece-self, then-piece-self-via-else-piece-self+then-contains}

pub returns-then-piece-self-clause-fails : goal.returns-then-piece-self-clause-fails
returns-then-piece-self-clause-fails c = (
  λ failed. elim c.then-piece-self.branch [
    | then-piece-self-via-then-piece-self w ↦ inr (omega arith)
    | then-piece-self-via-else-piece-self+then-contains w ↦ inl (search rules)
  ],
  λ cause. refl,
)
