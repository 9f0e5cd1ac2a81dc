use Rattle.std.proofs.Common.{◌≡◌, ℕ, refl, sym, ◌∙◌, ap, subst, arith, get_or, length}
use Rattle.mg_sql.specs.Spelling.{is_letter, is_digit, is_word_byte}
use Rattle.mg_sql.specs.Lexing.{Stands, ended}
use Rattle.mg_sql.proofs.Scanned.{word_stands, digits_stand, word_between, run_some, letter_runs}
use Rattle.mg_sql.proofs.Symbols.{one_stands, two_stands, none_stands, text_stands, no_text_stands}
use Rattle.mg_sql.proofs.scanning.quoted_at.Goals as goal

pub returns-in-Some : goal.returns-in-Some
returns-in-Some c = text_stands c.args.text.now c.args.at c.in-Some.end c.requires.early c.requires.quote c.in-Some.ensures

pub returns-in-None : goal.returns-in-None
returns-in-None c = no_text_stands c.args.text.now c.args.at c.requires.early c.requires.inside c.requires.quote c.in-None.ensures
