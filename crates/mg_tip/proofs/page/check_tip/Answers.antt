use Rattle.std.proofs.Common.{◌∙◌, sym}
use Rattle.std.proofs.lemmas.Result.{err_from_is_err_and}
use Rattle.mg_tip.proofs.TipPageLemmas.{tip_damaged, tip_first}
use Rattle.mg_tip.proofs.page.check_tip.Goals as goal

pub returns-in_err-check_common : goal.returns-in_err-check_common
returns-in_err-check_common c =
    let p = err_from_is_err_and c.from_residual.result c.from_residual.ensures.1 in
    rw (p.1, p.2) (sym (tip_damaged c.args.page c.args.b.now c.args.seq _ (sym (c.in_err-check_common.ensures))))

pub returns-then-seq-eq0 : goal.returns-then-seq-eq0
returns-then-seq-eq0 c = c.check_field.ensures ∙
    rw c.get_u32.ensures (sym (tip_first c.args.page c.args.b.now c.args.seq c.if-seq-eq0.true (sym (c.in_ok-check_common.ensures))))
