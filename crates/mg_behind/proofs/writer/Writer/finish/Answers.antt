use Rattle.std.proofs.Common.{◌≡◌, ◌≤◌, ◌++◌, ℕ, length, sym, ap, ◌∙◌, subst}
use Rattle.rtrb.specs.Ring.{sent, received, known_items}
use Rattle.mg_behind.specs.Jobs.{EachWhole, after}
use Rattle.mg_behind.specs.Ends.{Ends}
use Rattle.mg_behind.specs.Mirror.{shown}
use Rattle.mg_behind.specs.Origin.{image_from}
use Rattle.mg_behind.proofs.Writing.{some_is}
use Rattle.mg_behind.proofs.Ending.{ends_so}
use Rattle.mg_behind.proofs.writer.Writer.finish.Goals as goal

pub returns-clause-ends : goal.returns-clause-ends
returns-clause-ends g c = λ o h.
    let m = g.D.Disk.meaning in
    let b = c.args.behind in
    let w = c.drain.new.self in
    let d = w.did o h in
    let size : b.line.size ≡ w.size = b.sizes ∙ some_is (sym (b.measured o h) ∙ d.measured) in
    subst (λ (j : ℕ). Ends m o.device w.device (sent b.line.jobs) (received b.line.receipts) j (shown b.mirror) b.refused) (sym w.count)
    (ends_so m o.device w.device w.size (received w.jobs) (sent b.line.jobs) o.image (shown b.mirror) b.refused w.state (received b.line.receipts) (sent w.receipts)
    d c.drain.ensures.front c.drain.ensures.all (subst (λ (n : ℕ). EachWhole n (sent b.line.jobs)) size b.line.whole)
    (b.mirrored ∙ ap (λ i. after i (sent b.line.jobs)) (ap image_from h)) (c.args.self.read o h)
    (known_items c.slots_beside-2.new.self, ap (λ xs. xs ++ known_items c.slots_beside-2.new.self) (sym c.slots_beside-2.ensures.looked.1) ∙ (c.slots_beside-2.ensures.fifo ∙ ap sent (sym c.drain.ensures.receipts)))
    (subst (λ (n : ℕ). length (sent w.receipts) ≤ n) w.count w.fewer) w.honest (λ f is. w.told f (is ∙ sym w.count)) (λ some. sym b.line.failures ∙ b.honest some))
