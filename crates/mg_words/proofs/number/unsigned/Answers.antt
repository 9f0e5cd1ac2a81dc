-- The spelling of a number is ASCII, is parsed as that number, and is printed again.
use Rattle.std.proofs.Common.{◌≡◌, Ok, sym, ◌∙◌, arith}
use Rattle.std.proofs.lemmas.Fmt.{parse-decimal, IsAscii-decimal}
use Rattle.std.proofs.lemmas.Str.{IsUtf8-from_ascii}
use Rattle.std.specs.Fmt.{decimal}
use Rattle.std.specs.Str.{IsUtf8}
use Rattle.std.specs.Cmp.Lexicographic.{other_text}
use Rattle.mg_words.proofs.number.unsigned.Goals as goal

pub returns-in_default : goal.returns-in_default
returns-in_default c = λ n small is.
    let ascii : IsUtf8 (decimal n) = IsUtf8-from_ascii (decimal n) (IsAscii-decimal n (omega arith)) in
    c.in_default.ensures.cases.0 (rw is at ascii)

pub returns-in_default-parse : goal.returns-in_default-parse
returns-in_default-parse c = λ n small is.
    c.in_default-parse.not-Ok n (parse-decimal 32 n c.in-Ok.spelled.now c.parse.result small (omega arith) (c.in-Ok.ensures.cases.0 ∙ sym is) c.parse.ensures.value.0)

pub returns-else-eq : goal.returns-else-eq
returns-else-eq c = λ n small is.
    let parsed : c.parse.result ≡ Ok n = parse-decimal 32 n c.in-Ok.spelled.now c.parse.result small (omega arith) (c.in-Ok.ensures.cases.0 ∙ sym is) c.parse.ensures.value.0 in
    let read : c.parse.result ≡ Ok c.in-Ok-parse.number = c.in-Ok-parse.is in
    let same : c.in-Ok-parse.number ≡ n = cc in
    let printed : c.as_bytes.result.now ≡ decimal c.in-Ok-parse.number = c.as_bytes.ensures.value ∙ c.format.ensures.text in
    other_text c.as_bytes.result.now c.args.text.now c.if-eq.ensures (rw (printed, same) is)
