-- The command `run` and the program, as they are built.
use Rattle.std.specs.Prelude.{true, Some, codes}
use Rattle.clap.specs.Words.{App, Rule, Text, new_app, new_rule, with_rule, with_subcommand}
use Rattle.clap.specs.declared.builder.ArgAction.TheVariants.{Set}

-- a positional, and an option with one value
abbrev pub positional_rule : Text → Rule
positional_rule name = record (new_rule name) { action = Some Set }

abbrev pub switch_rule : Text → Rule
switch_rule name = record (new_rule name) { long = Some name; action = Some Set }

-- `run` with its path and its options
abbrev pub run_app : App
run_app = with_rule (with_rule (with_rule (with_rule (new_app (codes "run")) (positional_rule (codes "path")))
    (switch_rule (codes "page"))) (switch_rule (codes "limit"))) (switch_rule (codes "stop"))

-- without help and version
abbrev pub quiet : App → App
quiet a = record a {
  top = record a.top {
    disable_help_flag = true;
    disable_help_subcommand = true;
    disable_version_flag = true;
  };
}

abbrev pub main_app : App
main_app = with_subcommand (quiet (new_app (codes "program"))) run_app.top
