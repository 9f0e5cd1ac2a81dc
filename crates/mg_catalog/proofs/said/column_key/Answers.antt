use Rattle.std.proofs.Common.{◌≡◌, ◌≤◌, ◌∙◌, ◌++◌, ap, sym, subst, refl, List, ℕ, length}
use Rattle.std.proofs.lemmas.Result.{IfOk-weaker}
use Rattle.mg_value.specs.declared.value.Value.TheVariants.{Text}
use Rattle.mg_model.specs.Catalog.{column_key}
use Rattle.mg_catalog.proofs.SaidLemmas.{key_put, key_short}
use Rattle.mg_catalog.proofs.said.column_key.Goals as goal

pub returns : goal.returns
returns c = IfOk-weaker c.text_of.result (λ value. value ≡ Text c.deref.result.now)
    (λ key. key ≡ column_key c.args.table.now c.args.place)
    (λ key is. is ∙ ap Text c.deref.ensures.value ∙ key_put c.new-text.result.items c.push.new.self.items
    c.extend_from_slice.new.self.items c.push-2.new.self.items c.push-3.new.self.items
    c.push-4.new.self.items c.args.table.now _ _ c.args.place c.new-text.ensures.items
    c.in_ok-push.ensures.items
    (c.in_ok-extend_from_slice.ensures.items
    ∙ ap (λ (xs : List ℕ). c.push.new.self.items ++ xs) c.as_slice.ensures.bytes)
    c.in_ok-push-2.ensures.items c.in_ok-push-3.ensures.items c.in_ok-push-4.ensures.items refl refl)
    c.text_of.ensures

pub text_of-requires : goal.text_of-requires
text_of-requires c = subst (λ (xs : List ℕ). length xs ≤ 40) (sym c.deref.ensures.value)
    (key_short c.new-text.result.items c.push.new.self.items
    c.extend_from_slice.new.self.items c.push-2.new.self.items c.push-3.new.self.items
    c.push-4.new.self.items c.args.table.now _ _ c.args.place c.new-text.ensures.items
    c.in_ok-push.ensures.items
    (c.in_ok-extend_from_slice.ensures.items
    ∙ ap (λ (xs : List ℕ). c.push.new.self.items ++ xs) c.as_slice.ensures.bytes)
    c.in_ok-push-2.ensures.items c.in_ok-push-3.ensures.items c.in_ok-push-4.ensures.items
    c.as_slice.ensures.named.most)
