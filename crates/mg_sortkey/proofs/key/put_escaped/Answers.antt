use Rattle.std.proofs.Common.{◌++◌, List, ℕ, ap, sym, ◌∙◌}
use Rattle.std.specs.List.{flat_map}
use Rattle.std.proofs.lemmas.List.{append-nil, take_all}
use Rattle.std.proofs.lemmas.Result.{IfOk-from_err}
use Rattle.mg_sortkey.specs.KeyBytes.{escaped}
use Rattle.mg_sortkey.proofs.KeyLemmas.{byte_put}
use Rattle.mg_sortkey.proofs.key.put_escaped.Goals as goal

pub loop-byte-init : goal.loop-byte-init
loop-byte-init c = sym (append-nil c.args.out.now.items)

pub loop-byte-preserved : goal.loop-byte-preserved
loop-byte-preserved c = byte_put c.args.out.now.items c.loop-byte.out.items c.put_byte.new.out.items
    c.args.text.now c.loop-byte.byte-index _ c.loop-byte-test.true c.loop-byte.invariant
    c.in_ok-put_byte.ensures

pub returns : goal.returns
returns c = c.loop-byte.invariant
    ∙ ap (λ (xs : List ℕ). c.args.out.now.items ++ flat_map escaped xs)
    (take_all c.loop-byte.byte-index c.args.text.now c.loop-byte-test.false)

pub returns-in_err-put_byte : goal.returns-in_err-put_byte
returns-in_err-put_byte c = IfOk-from_err c.from_residual.result _ c.from_residual.ensures.0
