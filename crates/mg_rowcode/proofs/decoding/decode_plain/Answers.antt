use Rattle.std.proofs.Common.{arith, ap, ◌≡◌, ◌∙◌}
use Rattle.mg_value.specs.Rows.{row_bytes}
use Rattle.mg_rowcode.specs.Reading.{near_to}
use Rattle.mg_rowcode.proofs.RowLemmas.{kinds_of, is_row, breaks_row, length-near}
use Rattle.mg_rowcode.proofs.decoding.decode_plain.Goals as goal

pub overflow_cast-result : goal.overflow_cast-result
overflow_cast-result c =
    let again_is : c.deref-2.result.now ≡ row_bytes c.args.columns.now (near_to c.args.columns.now c.args.plain.now) = c.deref-2.ensures.value ∙ c.in_ok-again.ensures.bytes ∙ ap (row_bytes c.args.columns.now) (c.deref.ensures.value ∙ c.in_ok-values.ensures.ok) in
    omega (arith, c.common_len-same.ensures.in_second, length-near c.args.columns.now c.args.plain.now c.deref-2.result.now again_is, c.columns_len-len.ensures.len, c.columns_len-len.ensures.most)

pub returns-then-same-plain-clause-err : goal.returns-then-same-plain-clause-err
returns-then-same-plain-clause-err c =
    let again_is : c.deref-2.result.now ≡ row_bytes c.args.columns.now (near_to c.args.columns.now c.args.plain.now) = c.deref-2.ensures.value ∙ c.in_ok-again.ensures.bytes ∙ ap (row_bytes c.args.columns.now) (c.deref.ensures.value ∙ c.in_ok-values.ensures.ok) in
    breaks_row c.args.columns.now c.args.plain.now c.deref-2.result.now c.common_len-same.result (kinds_of c.args.columns.now c.columns_len-len.ensures.kinds) (λ i. omega (arith, c.type_inv.plain i)) again_is c.common_len-same.ensures (λ le le'. omega (arith, c.if-same-plain.true))

pub overflow_cast-result-then-same-len : goal.overflow_cast-result-then-same-len
overflow_cast-result-then-same-len c =
    let again_is : c.deref-2.result.now ≡ row_bytes c.args.columns.now (near_to c.args.columns.now c.args.plain.now) = c.deref-2.ensures.value ∙ c.in_ok-again.ensures.bytes ∙ ap (row_bytes c.args.columns.now) (c.deref.ensures.value ∙ c.in_ok-values.ensures.ok) in
    omega (arith, c.common_len-same.ensures.in_second, length-near c.args.columns.now c.args.plain.now c.deref-2.result.now again_is, c.columns_len-len.ensures.len, c.columns_len-len.ensures.most)

pub returns-then-same-len-clause-err : goal.returns-then-same-len-clause-err
returns-then-same-len-clause-err c =
    let again_is : c.deref-2.result.now ≡ row_bytes c.args.columns.now (near_to c.args.columns.now c.args.plain.now) = c.deref-2.ensures.value ∙ c.in_ok-again.ensures.bytes ∙ ap (row_bytes c.args.columns.now) (c.deref.ensures.value ∙ c.in_ok-values.ensures.ok) in
    breaks_row c.args.columns.now c.args.plain.now c.deref-2.result.now c.common_len-same.result (kinds_of c.args.columns.now c.columns_len-len.ensures.kinds) (λ i. omega (arith, c.type_inv.plain i)) again_is c.common_len-same.ensures (λ le le'. omega (arith, c.if-same-len.true, c.len.ensures, c.deref-2.ensures.len))

pub returns-clause-ok : goal.returns-clause-ok
returns-clause-ok c =
    let values_is : c.deref-2.result.now ≡ row_bytes c.args.columns.now c.in_ok-values.values.items = c.deref-2.ensures.value ∙ c.in_ok-again.ensures.bytes ∙ ap (row_bytes c.args.columns.now) c.deref.ensures.value in
    is_row c.args.columns.now c.args.plain.now c.deref-2.result.now c.in_ok-values.values.items c.common_len-same.result c.in_ok-values.ensures.fits values_is c.common_len-same.ensures c.if-same-plain.false (omega (arith, c.if-same-len.false, c.len.ensures, c.deref-2.ensures.len))
