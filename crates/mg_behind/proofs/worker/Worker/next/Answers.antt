use Rattle.std.proofs.Common.{◌≡◌, length, true, false, refl, sym, ◌∙◌}
use Rattle.mg_behind.proofs.Does.{did_same, did_write, did_settle, did_odd, job_is}
use Rattle.mg_behind.proofs.worker.Worker.next.Goals as goal

pub invariant_of-self-clause-did : goal.invariant_of-self-clause-did
invariant_of-self-clause-did g c = λ o h. did_same g.D.Disk.meaning o.device c.args.self.now.device c.args.self.now.size _ _ c.args.self.now.state c.in_default.ensures.empty.0 (c.args.self.now.did o h)

pub invariant_of-self-then-failed-clause-did : goal.invariant_of-self-then-failed-clause-did
invariant_of-self-then-failed-clause-did g c = λ o h.
    did_write g.D.Disk.meaning o.device c.args.self.now.device c.write.new.self c.args.self.now.size _ _ c.args.self.now.state _ c.in-Ok.job.number c.in-Write.page _ c.write.result true c.in-Ok.job
    (c.args.self.now.did o h) c.requires c.in-Ok.ensures.ok.0 (sym c.is_err-failed.ensures.value ∙ c.if-failed.true) c.write.ensures.writes (job_is c.in-Ok.job _ (cc (c.in-Write.is, c.as_slice.ensures, c.bytes.view_is))) (λ n. absurd (cc (n))) (λ yes. refl)

pub invariant_of-self-else-failed-clause-did : goal.invariant_of-self-else-failed-clause-did
invariant_of-self-else-failed-clause-did g c = λ o h.
    did_write g.D.Disk.meaning o.device c.args.self.now.device c.write.new.self c.args.self.now.size _ _ c.args.self.now.state _ c.in-Ok.job.number c.in-Write.page _ c.write.result false c.in-Ok.job
    (c.args.self.now.did o h) c.requires c.in-Ok.ensures.ok.0 (sym c.is_err-failed.ensures.value ∙ c.if-failed.false) c.write.ensures.writes (job_is c.in-Ok.job _ (cc (c.in-Write.is, c.as_slice.ensures, c.bytes.view_is))) (λ n. c.requires) (λ yes. absurd (cc (yes)))

pub invariant_of-self-then-failed-2-clause-did : goal.invariant_of-self-then-failed-2-clause-did
invariant_of-self-then-failed-2-clause-did g c = λ o h.
    did_settle g.D.Disk.meaning o.device c.args.self.now.device c.settle.new.self c.args.self.now.size _ _ c.args.self.now.state _ c.in-Ok.job.number c.settle.result true c.in-Ok.job
    (c.args.self.now.did o h) c.requires c.in-Ok.ensures.ok.0 (sym c.is_err-failed-in-Settle.ensures.value ∙ c.if-failed-2.true) c.settle.ensures.calm c.settle.ensures.unread c.settle.ensures.durable (job_is c.in-Ok.job _ c.in-Settle.is) (λ n. absurd (cc (n))) (λ yes. refl)

pub invariant_of-self-else-failed-2-clause-did : goal.invariant_of-self-else-failed-2-clause-did
invariant_of-self-else-failed-2-clause-did g c = λ o h.
    did_settle g.D.Disk.meaning o.device c.args.self.now.device c.settle.new.self c.args.self.now.size _ _ c.args.self.now.state _ c.in-Ok.job.number c.settle.result false c.in-Ok.job
    (c.args.self.now.did o h) c.requires c.in-Ok.ensures.ok.0 (sym c.is_err-failed-in-Settle.ensures.value ∙ c.if-failed-2.false) c.settle.ensures.calm c.settle.ensures.unread c.settle.ensures.durable (job_is c.in-Ok.job _ c.in-Settle.is) (λ n. c.requires) (λ yes. absurd (cc (yes)))

pub invariant_of-self-then-len-self-clause-did : goal.invariant_of-self-then-len-self-clause-did
invariant_of-self-then-len-self-clause-did g c = λ o h.
    did_odd g.D.Disk.meaning o.device c.args.self.now.device c.args.self.now.size _ _ c.args.self.now.state _ c.in-Ok.job
    (c.args.self.now.did o h) c.in-Ok.ensures.ok.0 refl
    (λ whole. let long : length c.in-Write.bytes ≡ c.args.self.now.size = whole c.in-Write.page c.in-Write.bytes c.in-Write.is in c.if-len-self.true (cc (c.len.ensures, long)))
