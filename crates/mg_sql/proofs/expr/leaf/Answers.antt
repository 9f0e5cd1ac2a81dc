use Rattle.std.proofs.Common.{◌≡◌, ◌≢◌, ◌<◌, ℕ, zero, suc, Bool, true, false, List, [], ◌∷◌, ◌++◌, map, ◌+◌, ◌-◌, ◌*◌, ◌≤◌, length, Some, None, Ok, Err, refl, sym, ◌∙◌, ap, subst, arith}
use Rattle.mg_expr.specs.Trees.{Integer, tree_of}
use Rattle.mg_sql.specs.declared.token.Kind.TheVariants as kinds
use Rattle.mg_sql.specs.Tokens.{token}
use Rattle.mg_sql.specs.Lexing.{Lexes}
use Rattle.mg_sql.specs.Grammar.{Factor}
use Rattle.mg_sql.specs.Reading.{Reads, Refuses, Told}
use Rattle.mg_sql.proofs.ExprParts as parts
use Rattle.mg_sql.proofs.Parting.{no_minus, no_open}
use Rattle.mg_sql.proofs.Steps.{one_read, syntax_told, large_told, long_told, ahead_is, binds_six, not_opening, number_again, lexes_kind}
use Rattle.mg_sql.proofs.TreeSteps.{tree_of_null, tree_of_text, tree_of_name}
use Rattle.std.proofs.lemmas.Result.{err_from_is_err_and}
use Rattle.mg_sql.proofs.expr.leaf.Goals as goal

pub returns-in_err-integer-in-Integer-clause-keeps : goal.returns-in_err-integer-in-Integer-clause-keeps
returns-in_err-integer-in-Integer-clause-keeps c = c.in_err-integer-in-Integer.ensures.keeps

pub returns-in_err-integer-in-Integer-clause-told : goal.returns-in_err-integer-in-Integer-clause-told
returns-in_err-integer-in-Integer-clause-told c =
    let p = err_from_is_err_and c.from_residual.result c.from_residual.ensures.1 in rw (p.1, p.2)
    (let h = c.in_err-integer-in-Integer.ensures.told in subst (λ q. Told tree_of Factor 6 c.args.levels c.args.p.now q (Err c.in_err-integer-in-Integer.field-0.0)) (sym h.2)
    (large_told tree_of Factor 6 c.args.levels c.args.p.now _ h.0 c.in-Integer.is (ahead_is (λ x. Refuses Factor 6 c.args.levels false x c.args.p.now.text.now c.args.p.now.at c.args.p.now.at) c.args.p.now c.in-Integer.is (parts.integer_large c.args.levels h.1))))

pub returns-in_err-name-in-Name-clause-keeps : goal.returns-in_err-name-in-Name-clause-keeps
returns-in_err-name-in-Name-clause-keeps c = c.in_err-name-in-Name.ensures.keeps

pub returns-in_err-name-in-Name-clause-told : goal.returns-in_err-name-in-Name-clause-told
returns-in_err-name-in-Name-clause-told c =
    let p = err_from_is_err_and c.from_residual-in_err-name-in-Name.result c.from_residual-in_err-name-in-Name.ensures.1 in rw (p.1, p.2)
    (let h = c.in_err-name-in-Name.ensures.told in subst (λ q. Told tree_of Factor 6 c.args.levels c.args.p.now q (Err c.in_err-name-in-Name.field-0.0)) (sym h.2)
    (long_told tree_of Factor 6 c.args.levels c.args.p.now _ h.0 c.in-Name.is (ahead_is (λ x. Refuses Factor 6 c.args.levels false x c.args.p.now.text.now c.args.p.now.at c.args.p.now.at) c.args.p.now c.in-Name.is (parts.name_long c.args.levels h.1))))

pub returns-in_ok-integer-in-Integer-clause-keeps : goal.returns-in_ok-integer-in-Integer-clause-keeps
returns-in_ok-integer-in-Integer-clause-keeps c = c.in_ok-integer-in-Integer.ensures.keeps

pub returns-in_ok-integer-in-Integer-clause-told : goal.returns-in_ok-integer-in-Integer-clause-told
returns-in_ok-integer-in-Integer-clause-told c =
    let h = c.in_ok-integer-in-Integer.ensures.told in (
      subst (λ u. Reads Factor c.args.levels u c.args.p.now.text.now c.args.p.now.at c.integer.new.self.at) (sym (c.integer-in-Integer.ensures ∙ ap Integer (number_again c.in_ok-integer-in-Integer.field-0 _ h.0 h.1)))
          (parts.integer_read c.args.levels (lexes_kind c.args.p.now c.integer.new.self c.in-Integer.is h.2) h.1),
      binds_six _,
    )

pub returns-in_ok-text-in-Text-clause-keeps : goal.returns-in_ok-text-in-Text-clause-keeps
returns-in_ok-text-in-Text-clause-keeps c = c.in_ok-text-in-Text.ensures.keeps

pub returns-in_ok-text-in-Text-clause-told : goal.returns-in_ok-text-in-Text-clause-told
returns-in_ok-text-in-Text-clause-told c =
    let h = c.in_ok-text-in-Text.ensures.told in
    (rw (tree_of_text c.in_ok-text-in-Text.field-0) (parts.text_read c.args.levels _ (subst (λ b. Lexes c.args.p.now.text.now c.args.p.now.at (token kinds.Text b ∷ []) c.text.new.self.at) h.0 (lexes_kind c.args.p.now c.text.new.self c.in-Text.is h.1))), binds_six _)

pub returns-in_ok-name-in-Name-clause-keeps : goal.returns-in_ok-name-in-Name-clause-keeps
returns-in_ok-name-in-Name-clause-keeps c = c.in_ok-name-in-Name.ensures.keeps

pub returns-in_ok-name-in-Name-clause-told : goal.returns-in_ok-name-in-Name-clause-told
returns-in_ok-name-in-Name-clause-told c =
    let h = c.in_ok-name-in-Name.ensures.told in
    (rw (tree_of_name c.in_ok-name-in-Name.field-0, h.0) (parts.name_read c.args.levels (lexes_kind c.args.p.now c.name.new.self c.in-Name.is h.2) h.1), binds_six _)

pub returns-in-Null-clause-told : goal.returns-in-Null-clause-told
returns-in-Null-clause-told c =
    (rw tree_of_null (parts.null_read (one_read c.args.p.now c.advance.new.self c.args.levels c.in-Null.is c.advance.ensures.token)), binds_six _)

pub returns-in_default : goal.returns-in_default
returns-in_default c =
    record { keeps = record { text = refl; ready = c.requires.ready; forward = omega arith }; told = syntax_told tree_of Factor 6 c.args.levels c.args.p.now c.args.p.now _ c.syntax.ensures (parts.factor_wrong c.args.levels (not_opening c.args.p.now.kind (no_minus c.args.p.now.kind c.requires.bare) (no_open c.args.p.now.kind c.requires.bare) c.in_default.not-Integer c.in_default.not-Text c.in_default.not-Name c.in_default.not-Null)) }
