use Rattle.std.proofs.Common.{rules, sym, ap, ◌≡◌, ◌∙◌, ◌∷◌}
use Rattle.std.specs.Prelude.{string_bytes}
use Rattle.mg_words.specs.Words.{texts}
use Rattle.mg_commands.proofs.DecidingLemmas.{decision_tended, plainly_tended}
use Rattle.mg_commands.proofs.deciding.is_care.Goals as goal

pub returns-then-not-is_decision : goal.returns-then-not-is_decision
returns-then-not-is_decision c = plainly_tended c.args.word (texts c.args.words.now) c.are_options.result
    (sym c.is_decision.ensures ∙ c.if-not-is_decision.true) (rw c.stop_alone.ensures at c.are_options.ensures)

pub returns-then-is_number : goal.returns-then-is_number
returns-then-is_number c =
    let words : c.args.words.now ≡ c.in-Some.number.now ∷ c.in-Some.options.now = search rules in
    decision_tended c.args.word (texts c.args.words.now) (string_bytes c.in-Some.number.now)
    (texts c.in-Some.options.now) c.are_options-then-is_number.result
    (sym c.is_decision.ensures ∙ c.if-not-is_decision.false) (ap texts words) (c.is_number.ensures.0 c.if-is_number.true)
    (rw c.stop_alone-then-is_number.ensures at c.are_options-then-is_number.ensures)
