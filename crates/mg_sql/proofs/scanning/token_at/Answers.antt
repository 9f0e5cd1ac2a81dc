use Rattle.std.proofs.Common.{◌≡◌, ℕ, refl, sym, ◌∙◌, ap, subst, arith, get_or, length}
use Rattle.mg_sql.specs.Spelling.{is_letter, is_digit, is_word_byte}
use Rattle.mg_sql.specs.Lexing.{Stands, ended, past}
use Rattle.mg_sql.proofs.Scanned.{word_stands, digits_stand, word_between, run_some, letter_runs}
use Rattle.mg_sql.proofs.Symbols.{one_stands, two_stands, none_stands, text_stands, no_text_stands}
use Rattle.mg_sql.proofs.scanning.token_at.Goals as goal

pub returns-then-is_past : goal.returns-then-is_past
returns-then-is_past c = past (sym c.is_past.ensures ∙ c.if-is_past.true)

pub returns-then-at-text : goal.returns-then-at-text
returns-then-at-text c = ended (sym c.is_past.ensures ∙ c.if-is_past.false) c.if-at-text.true

pub word_kind-requires : goal.word_kind-requires
word_kind-requires c = word_between c.args.text.now c.args.at c.word_end-end.result (sym c.is_letter.ensures ∙ c.if-is_letter.true) (letter_runs c.args.text.now c.args.at c.word_end-end.result (omega arith) (sym c.is_letter.ensures ∙ c.if-is_letter.true) c.word_end-end.ensures) c.word_end-end.ensures

pub returns-then-is_letter : goal.returns-then-is_letter
returns-then-is_letter c = word_stands c.args.text.now c.args.at c.word_end-end.result c.word_kind.result (sym c.is_past.ensures ∙ c.if-is_past.false) (sym c.is_letter.ensures ∙ c.if-is_letter.true) (letter_runs c.args.text.now c.args.at c.word_end-end.result (omega arith) (sym c.is_letter.ensures ∙ c.if-is_letter.true) c.word_end-end.ensures) c.word_end-end.ensures c.word_kind.ensures

pub returns-then-is_digit : goal.returns-then-is_digit
returns-then-is_digit c = digits_stand c.args.text.now c.args.at c.digits_end.result (sym c.is_past.ensures ∙ c.if-is_past.false) (sym c.is_digit.ensures ∙ c.if-is_digit.true) (run_some is_digit c.args.text.now c.args.at c.digits_end.result (omega arith) (sym c.is_digit.ensures ∙ c.if-is_digit.true) c.digits_end.ensures) c.digits_end.ensures
