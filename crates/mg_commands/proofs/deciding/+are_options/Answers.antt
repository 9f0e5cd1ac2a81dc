use Rattle.std.proofs.Common.{◌≡◌, ◌∙◌, refl, sym, arith, length}
use Rattle.std.proofs.lemmas.Bool.{eqb-true}
use Rattle.mg_commands.proofs.OptionLemmas.{behind_two, none_follow}
use Rattle.mg_commands.proofs.deciding.+are_options.Goals as goal

pub returns-then-is_empty : goal.returns-then-is_empty
returns-then-is_empty t c =
    let empty : length c.args.words.now ≡ 0 = eqb-true (length c.args.words.now) 0
    (sym c.is_empty.ensures ∙ c.if-is_empty.true) in
    (λ _. none_follow c.args.left c.args.words.now empty, λ _. refl)

pub returns : goal.returns
returns t c =
    let two = c.if-words-lt2.false in
    behind_two c.args.left c.args.words.now c.split_at.result.1.now c.index-words-0.result c.index-words-1.result
    c.in-Some.switch c.are_options.result (omega (arith, two)) c.index-words-0.is c.index-words-1.is
    c.split_at.ensures.back c.in-Some.ensures (rw c.without.ensures at c.are_options.ensures)
