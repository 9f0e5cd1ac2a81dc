use Rattle.std.proofs.Common.{sym, ◌∙◌}
use Rattle.std.proofs.lemmas.Bool.{false≢true}
use Rattle.mg_words.specs.Words.{texts}
use Rattle.mg_commands.specs.ProgramLaws.{none_asked}
use Rattle.mg_commands.proofs.program.read_command.Goals as goal

pub returns : goal.returns
returns c = none_asked (texts c.args.words.now) c.in_default.ensures
    (λ limbo. false≢true (sym c.if-is_limbo_line.false ∙ c.is_limbo_line.ensures.1 limbo))
    (λ stat. false≢true (sym c.if-is_stat_line.false ∙ c.is_stat_line.ensures.1 stat))
