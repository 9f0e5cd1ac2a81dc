use Rattle.std.proofs.Common.{sym, ◌∙◌}
use Rattle.std.specs.Prelude.{string_bytes}
use Rattle.mg_commands.specs.SpellingLaws.{not_lawful}
use Rattle.mg_commands.proofs.switch.Switches.given_by.Goals as goal

pub returns-then-not-may_have : goal.returns-then-not-may_have
returns-then-not-may_have c = not_lawful c.args.self (string_bytes c.args.name.now) (string_bytes c.args.word.now)
    c.in-Some.switch c.in-Some-unsigned.number (sym c.as_str.ensures.value ∙ c.in-Some.ensures)
    (c.in-Some-unsigned.ensures.0, c.in-Some-unsigned.ensures.1 ∙ c.as_bytes.ensures.value)
    (sym c.may_have.ensures ∙ c.if-not-may_have.true)
