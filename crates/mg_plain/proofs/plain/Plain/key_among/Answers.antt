-- The first column that is the key decides.
use Rattle.std.proofs.Common.{◌≡◌, ◌∙◌, sym, ap, List, ℕ}
use Rattle.mg_value.specs.declared.value.Value.{Value}
use Rattle.mg_model.specs.Catalog.{column_key, is_key_row}
use Rattle.mg_model.specs.Answers.{catalog_of}
use Rattle.mg_plain.specs.Keeping.{told_in}
use Rattle.mg_plain.specs.Kept.{kept}
use Rattle.mg_plain.proofs.KeyLemmas.{key_here, key_behind}
use Rattle.mg_plain.proofs.plain.Plain.key_among.Goals as goal

pub returns-then-is_key_row : goal.returns-then-is_key_row
returns-then-is_key_row c =
    let rows = catalog_of (told_in (kept c.args.self.now)) c.args.t in
    let key : c.in_ok-key.key ≡ column_key c.args.table.now c.loop-place.place =
    c.in_ok-key.ensures ∙ ap (λ (name : List ℕ). column_key name c.loop-place.place) c.as_slice.ensures.bytes in
    sym (key_here rows c.args.table.now c.loop-place.place c.args.count c.loop-place-test.true
    (ap (λ (k : Value). is_key_row (rows k)) (sym key) ∙ sym c.if-is_key_row.ensures)) ∙ c.loop-place.invariant

pub loop-place-preserved : goal.loop-place-preserved
loop-place-preserved c =
    let rows = catalog_of (told_in (kept c.args.self.now)) c.args.t in
    let key : c.in_ok-key.key ≡ column_key c.args.table.now c.loop-place.place =
    c.in_ok-key.ensures ∙ ap (λ (name : List ℕ). column_key name c.loop-place.place) c.as_slice.ensures.bytes in
    sym (key_behind rows c.args.table.now c.loop-place.place c.args.count c.loop-place-test.true
    (ap (λ (k : Value). is_key_row (rows k)) (sym key) ∙ sym c.if-is_key_row.ensures)) ∙ c.loop-place.invariant
