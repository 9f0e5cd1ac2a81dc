use Rattle.std.proofs.Common.{◌≡◌, ℕ, refl, sym, ◌∙◌, ap, subst, arith, get_or, length}
use Rattle.mg_sql.specs.Spelling.{is_letter, is_digit, is_word_byte}
use Rattle.mg_sql.specs.Lexing.{Stands, ended}
use Rattle.mg_sql.proofs.Scanned.{word_stands, digits_stand, word_between, run_some, letter_runs}
use Rattle.mg_sql.proofs.Symbols.{one_stands, two_stands, none_stands, text_stands, no_text_stands}
use Rattle.mg_sql.proofs.Steps.{none_of}
use Rattle.mg_sql.proofs.scanning.symbol_at.Goals as goal

pub returns-in-Some : goal.returns-in-Some
returns-in-Some c = two_stands c.args.text.now c.args.at c.in-Some.kind c.requires.early c.requires.inside c.requires.other (sym c.in-Some.ensures)

pub returns-in-Some-single : goal.returns-in-Some-single
returns-in-Some-single c = one_stands c.args.text.now c.args.at c.in-Some-single.kind c.requires.early c.requires.inside c.requires.other (sym c.second.ensures ∙ none_of c.second.result c.in_default.not-Some) (sym c.in-Some-single.ensures)

pub returns-in-None : goal.returns-in-None
returns-in-None c = none_stands c.args.text.now c.args.at c.requires.early c.requires.inside c.requires.bare c.requires.other (sym c.second.ensures ∙ none_of c.second.result c.in_default.not-Some) (sym c.in-None.ensures)
