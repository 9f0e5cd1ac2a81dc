use Rattle.std.proofs.Common.{sym, ◌∙◌}
use Rattle.std.specs.Fmt.{signed_decimal}
use Rattle.mg_script.proofs.SplittingLemmas.{no_numbers_without, first_spelled, rest_spelled, same_rest}
use Rattle.mg_script.proofs.splitting.two_numbers.Goals as goal

pub returns-in_default : goal.returns-in_default
returns-in_default c = λ first second are.
    no_numbers_without c.args.text.now c.args.separator.now c.requires.some c.requires.apart first second c.in_default.ensures are

pub returns-in_default-behind : goal.returns-in_default-behind
returns-in_default-behind c = λ first second are.
    c.in_default-behind.ensures (signed_decimal second)
    (c.split_at.ensures.back ∙ rest_spelled c.args.text.now c.args.separator.now c.requires.some c.requires.apart first second c.in-Some.end c.in-Some.ensures are)

pub returns-in_default-signed : goal.returns-in_default-signed
returns-in_default-signed c = λ first second are.
    c.in_default-signed.ensures first are.first_fits
    (first_spelled c.args.text.now c.args.separator.now c.requires.some c.requires.apart first second c.in-Some.end c.in-Some.ensures are ∙ sym c.split_at.ensures.front)

pub returns-in_default-signed-2 : goal.returns-in_default-signed-2
returns-in_default-signed-2 c = λ first second are.
    c.in_default-signed-2.ensures second are.second_fits
    (same_rest c.args.separator.now (signed_decimal second) c.in-Some-behind.rest.now
    (sym (rest_spelled c.args.text.now c.args.separator.now c.requires.some c.requires.apart first second c.in-Some.end c.in-Some.ensures are)
    ∙ (sym c.split_at.ensures.back ∙ c.in-Some-behind.ensures)))
