use Rattle.mg_chain.proofs.PushLemmas.{whole_ordered}
use Rattle.mg_heap.specs.ChangingLaws.{whole_at_most}
use Rattle.mg_space.specs.View.{AreWhole}
use Rattle.mg_pool.specs.Batch.{Changed}
use Rattle.std.proofs.Common.{subst, sym}
use Rattle.mg_space.specs.WholeLaws.{whole_kept, whole_as}
use Rattle.mg_space.specs.ViewLaws.{tells_on}
use Rattle.mg_chain.specs.Dropping.{RefusesLeadPast}
use Rattle.mg_chain.proofs.DropLemmas.{leads_past, leads_refused}
use Rattle.mg_chain.proofs.Steps.{handed_on}
use Rattle.mg_chain.proofs.dropping.lead_past.Goals as goal

pub returns-in_err-free-clause-leads : goal.returns-in_err-free-clause-leads
returns-in_err-free-clause-leads g c = λ image tells.
    handed_on c.from_residual-in_err-free.result c.in_err-free.field-0.0 _
    (RefusesLeadPast g.D.Disk.meaning c.args.store.now c.free.new.store image c.args.batch.now c.args.at
    c.args.gone c.args.version.now c.args.back) c.from_residual-in_err-free.ensures.0
    c.from_residual-in_err-free.ensures.1
    (leads_refused g.D.Disk.meaning c.args.store.now c.put_over.new.store c.in_ok-put_over.ensures.keeps image
    c.free.new.store c.args.batch.now c.put_over.new.batch c.args.at c.args.gone c.args.version.now c.args.back
    c.in_err-free.field-0.0 (c.in_ok-put_over.ensures.puts image tells)
    (c.in_err-free.ensures.frees image (tells_on g.D.Disk.meaning c.args.store.now c.put_over.new.store image
    c.in_ok-put_over.ensures.keeps tells)))

pub returns-clause-leads : goal.returns-clause-leads
returns-clause-leads g c = λ image tells.
    leads_past g.D.Disk.meaning c.args.store.now c.put_over.new.store c.in_ok-put_over.ensures.keeps image
    c.args.batch.now c.put_over.new.batch c.free.new.batch c.order_before.new.batch c.args.at c.args.gone
    c.args.version.now c.args.back (c.in_ok-put_over.ensures.puts image tells) c.in_ok-free.ensures.changes
    (c.in_ok-free.ensures.frees image (tells_on g.D.Disk.meaning c.args.store.now c.put_over.new.store image
    c.in_ok-put_over.ensures.keeps tells)) c.in_ok-order_before.ensures.adds

pub free-requires-clause-whole : goal.free-requires-clause-whole
free-requires-clause-whole g c = whole_kept g.D.Disk.meaning c.args.store.now
    c.put_over.new.store c.put_over.new.batch.pages
    c.in_ok-put_over.ensures.keeps
    c.in_ok-put_over.ensures.whole

pub returns-in_err-free-clause-whole : goal.returns-in_err-free-clause-whole
returns-in_err-free-clause-whole g c =
    subst (λ (b : Changed). AreWhole c.args.store.now.geometry b.pages)
    (sym c.in_err-free.ensures.same) c.in_ok-put_over.ensures.whole

pub returns-in_err-order_before-clause-whole : goal.returns-in_err-order_before-clause-whole
returns-in_err-order_before-clause-whole g c = whole_ordered c.args.store.now.geometry
    c.free.new.batch c.order_before.new.batch c.in_err-order_before.ensures.pages
    (whole_as c.put_over.new.store.geometry c.args.store.now.geometry c.free.new.batch.pages
    c.in_ok-put_over.ensures.keeps.geometry
    (whole_at_most c.put_over.new.store.geometry c.put_over.new.batch c.free.new.batch
    c.args.gone.page.0 (whole_kept g.D.Disk.meaning c.args.store.now c.put_over.new.store c.put_over.new.batch.pages
    c.in_ok-put_over.ensures.keeps c.in_ok-put_over.ensures.whole)
    c.in_ok-free.ensures.below c.in_ok-free.ensures.changes))

pub returns-clause-whole : goal.returns-clause-whole
returns-clause-whole g c = whole_ordered c.args.store.now.geometry
    c.free.new.batch c.order_before.new.batch c.in_ok-order_before.ensures.pages
    (whole_as c.put_over.new.store.geometry c.args.store.now.geometry c.free.new.batch.pages
    c.in_ok-put_over.ensures.keeps.geometry
    (whole_at_most c.put_over.new.store.geometry c.put_over.new.batch c.free.new.batch
    c.args.gone.page.0 (whole_kept g.D.Disk.meaning c.args.store.now c.put_over.new.store c.put_over.new.batch.pages
    c.in_ok-put_over.ensures.keeps c.in_ok-put_over.ensures.whole)
    c.in_ok-free.ensures.below c.in_ok-free.ensures.changes))
