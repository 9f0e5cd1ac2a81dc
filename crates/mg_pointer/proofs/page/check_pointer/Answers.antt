use Rattle.std.proofs.Common.{◌∙◌, sym}
use Rattle.std.proofs.lemmas.Result.{err_from_is_err_and}
use Rattle.mg_pointer.proofs.PointerPageLemmas.{pointer_damaged, pointer_rest}
use Rattle.mg_pointer.proofs.page.check_pointer.Goals as goal

pub returns-in_err-check_common : goal.returns-in_err-check_common
returns-in_err-check_common c =
    let p = err_from_is_err_and c.from_residual.result c.from_residual.ensures.1 in
    rw (p.1, p.2) (sym (pointer_damaged c.args.page c.args.b.now c.args.owner c.args.seq _ (sym
    (c.in_err-check_common.ensures))))

pub returns : goal.returns
returns c =
    c.check_rest.ensures ∙
    sym (pointer_rest c.args.page c.args.b.now c.args.owner c.args.seq (sym
    (c.in_ok-check_common.ensures)))
