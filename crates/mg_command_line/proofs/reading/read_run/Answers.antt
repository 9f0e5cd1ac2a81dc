use Rattle.std.proofs.Common.{ap, ap₂, sym, subst, ◌∙◌}
use Rattle.std.proofs.lemmas.Result.{IfErr-weaker, IfOk-weaker}
use Rattle.clap.specs.Words.{is_simple, subcommand_of, takes}
use Rattle.mg_command_line.specs.Options.{HasRun}
use Rattle.mg_command_line.proofs.Orders.{runs_read, runs_taken}
use Rattle.mg_command_line.proofs.reading.read_run.Goals as goal

pub returns : goal.returns
returns c =
    let main_is = c.in_ok-program.ensures in
    let parse = c.try_get_matches_from in
    record {
      fails = λ program path options plain are words. IfErr-weaker parse.result _ _
          (λ e h. h (ap₂ takes main_is words ∙ runs_taken program path options plain are)) parse.ensures.passes;
      gives = λ program path options plain are words. IfOk-weaker parse.result _ _
          (λ m h. subst (λ rows. HasRun rows path options)
          (sym ((h (ap is_simple main_is)).1 ∙ ap₂ subcommand_of main_is words))
          (runs_read program path options plain are)) parse.ensures.matches;
    }
