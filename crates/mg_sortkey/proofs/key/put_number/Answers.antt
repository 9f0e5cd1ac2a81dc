use Rattle.std.proofs.Common.{ap, ◌∙◌}
use Rattle.std.specs.Int.{w64, cast_unsigned}
use Rattle.std.proofs.lemmas.Int.{to_z-of_z}
use Rattle.std.proofs.lemmas.Result.{IfOk-from_err}
use Rattle.mg_sortkey.proofs.KeyLemmas.{number_put}
use Rattle.mg_sortkey.proofs.key.put_number.Goals as goal

pub returns : goal.returns
returns c = number_put c.args.out.now.items c.push.new.self.items c.extend_from_slice.new.self.items
    c.to_be_bytes.result c.args.number c.cast_unsigned.result c.in_ok-push.ensures.items
    c.in_ok-extend_from_slice.ensures.items c.to_be_bytes.ensures
    (c.cast_unsigned.ensures ∙ ap (cast_unsigned w64) (to_z-of_z w64 c.args.number c.ranges.number))

pub returns-in_err-push : goal.returns-in_err-push
returns-in_err-push c = IfOk-from_err c.from_residual.result _ c.from_residual.ensures.0

pub returns-in_err-extend_from_slice : goal.returns-in_err-extend_from_slice
returns-in_err-extend_from_slice c = IfOk-from_err c.from_residual-in_err-extend_from_slice.result _
    c.from_residual-in_err-extend_from_slice.ensures.0
