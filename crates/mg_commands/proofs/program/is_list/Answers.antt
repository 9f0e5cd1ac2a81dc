use Rattle.std.proofs.Common.{rules, ap, ◌≡◌, ◌∷◌}
use Rattle.std.specs.Prelude.{string_bytes}
use Rattle.mg_words.specs.Words.{texts}
use Rattle.mg_commands.proofs.ProgramLemmas.{list_asked}
use Rattle.mg_commands.proofs.program.is_list.Goals as goal

pub returns-then-is_list_word : goal.returns-then-is_list_word
returns-then-is_list_word c =
    let words : c.args.words.now ≡ c.in-Some.first.now ∷ c.in-Some.options.now = search rules in
    list_asked (texts c.args.words.now) (string_bytes c.in-Some.first.now) (texts c.in-Some.options.now)
    c.are_options.result (ap texts words) (c.is_list_word.ensures.0 c.if-is_list_word.true)
    (rw c.stop_alone.ensures at c.are_options.ensures)
