-- The spelling of a number is ASCII, is parsed as that number, and is printed again.
use Rattle.std.proofs.Common.{◌≡◌, FitsSigned, Ok, sym, ◌∙◌}
use Rattle.std.proofs.lemmas.Fmt.{parse-signed_decimal, IsAscii-signed}
use Rattle.std.proofs.lemmas.Str.{IsUtf8-from_ascii}
use Rattle.std.specs.Fmt.{signed_decimal}
use Rattle.std.specs.Str.{IsUtf8}
use Rattle.std.specs.Int.{w64}
use Rattle.std.proofs.lemmas.Int.{to_z-of_z}
use Rattle.std.specs.Cmp.Lexicographic.{other_text}
use Rattle.mg_words.proofs.number.signed.Goals as goal

pub returns-in_default : goal.returns-in_default
returns-in_default c = λ z fits is.
    let ascii : IsUtf8 (signed_decimal z) = IsUtf8-from_ascii (signed_decimal z) (IsAscii-signed z fits.sfits) in
    c.in_default.ensures.cases.0 (rw is at ascii)

pub returns-in_default-parse : goal.returns-in_default-parse
returns-in_default-parse c = λ z fits is.
    c.in_default-parse.not-Ok z (parse-signed_decimal w64 z c.in-Ok.spelled.now c.parse.result fits fits.sfits (c.in-Ok.ensures.cases.0 ∙ sym is) c.parse.ensures.value.0)

pub returns-else-eq : goal.returns-else-eq
returns-else-eq c = λ z fits is.
    let parsed : c.parse.result ≡ Ok z = parse-signed_decimal w64 z c.in-Ok.spelled.now c.parse.result fits fits.sfits (c.in-Ok.ensures.cases.0 ∙ sym is) c.parse.ensures.value.0 in
    let read : c.parse.result ≡ Ok c.in-Ok-parse.number = c.in-Ok-parse.is in
    let same : c.in-Ok-parse.number ≡ z = cc in
    let fits_number : FitsSigned w64 c.in-Ok-parse.number = rw same fits in
    let printed : c.as_bytes.result.now ≡ signed_decimal c.in-Ok-parse.number = rw (to_z-of_z w64 c.in-Ok-parse.number fits_number) at (c.as_bytes.ensures.value ∙ c.format.ensures.text) in
    other_text c.as_bytes.result.now c.args.text.now c.if-eq.ensures (rw (printed, same) is)
