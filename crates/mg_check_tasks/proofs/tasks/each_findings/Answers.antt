use Rattle.std.proofs.Common.{◌∙◌, ap, length}
use Rattle.std.specs.Prelude.{IfOk}
use Rattle.mg_base.specs.Image.{page_at}
use Rattle.rayon.proofs.ToStd.{slice-AllZip}
use Rattle.mg_check_tasks.specs.Tasks.{IsFoundOf}
use Rattle.mg_check_tasks.proofs.TaskLemmas.{if_ok}
use Rattle.mg_check_tasks.proofs.tasks.each_findings.Goals as goal

pub returns-in-Ok : goal.returns-in-Ok
returns-in-Ok g c =
    let slice = ap (λ it. it.base.slice.now) c.map.ensures.base
    ∙ ap (λ it. it.slice.now) c.with_min_len.ensures.base ∙ c.par_iter.ensures in
    let done = rw c.map.ensures.f at c.in-Ok.ensures in
    let chain = done.1 in
    if_ok _ (λ seat found. IsFoundOf c.args.size (page_at c.args.size c.args.pages.now)
    (length c.args.pages.now) seat found.items) (λ v. v.items) c.args.seats.now done.0 c.in-Ok.lists _
    (slice-AllZip chain.0 c.args.seats.now (chain.1 ∙ slice) (λ seat r. IfOk r (λ found. IsFoundOf
    c.args.size (page_at c.args.size c.args.pages.now) (length c.args.pages.now) seat found.items))
    done.0 chain.2) done.2
