use Rattle.std.proofs.Common.{◌≡◌, ◌∙◌, sym, arith, length}
use Rattle.std.proofs.lemmas.Bool.{eqb-true}
use Rattle.mg_words.proofs.WordsLemmas.{behind_two, none_adds, none_left}
use Rattle.mg_words.proofs.reading.+read_options.Goals as goal

pub returns-then-is_empty : goal.returns-then-is_empty
returns-then-is_empty t c =
    let empty : length c.args.words.now ≡ 0 = eqb-true (length c.args.words.now) 0
    (sym c.is_empty.ensures ∙ c.if-is_empty.true) in
    none_left c.args.asked c.args.words.now empty

pub returns-in_default : goal.returns-in_default
returns-in_default t c =
    let two = c.if-words-lt2.false in
    none_adds c.args.asked c.args.words.now c.index-words-0.result c.index-words-1.result (omega (arith, two))
    c.index-words-0.is c.index-words-1.is c.in_default.ensures

pub returns : goal.returns
returns t c =
    let two = c.if-words-lt2.false in
    behind_two c.args.asked c.in-Some.more c.args.words.now c.index-words-0.result c.index-words-1.result
    c.read_options.result c.split_at.result.1.now (omega (arith, two)) c.index-words-0.is c.index-words-1.is
    c.split_at.ensures.back c.in-Some.ensures c.read_options.ensures
