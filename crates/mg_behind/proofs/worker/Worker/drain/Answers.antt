use Rattle.mg_behind.proofs.Does.{did_same}
use Rattle.mg_behind.proofs.worker.Worker.drain.Goals as goal

pub invariant_of-self-clause-did : goal.invariant_of-self-clause-did
invariant_of-self-clause-did g c = λ o h. did_same g.D.Disk.meaning o.device c.loop.self.device c.loop.self.size _ _ c.loop.self.state c.slots_beside-left.ensures.looked.1 (c.loop.self.did o h)
