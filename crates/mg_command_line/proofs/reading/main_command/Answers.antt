use Rattle.std.proofs.Common.{rules, ap, ap₂, codes, ◌≡◌, ◌∙◌}
use Rattle.std.proofs.lemmas.Result.{IfOk-weaker}
use Rattle.clap.specs.Words.{App, app_of, rule_of, with_rule, with_subcommand}
use Rattle.mg_command_line.specs.Commands.{positional_rule, run_app, switch_rule}
use Rattle.mg_command_line.proofs.reading.main_command.Goals as goal

pub returns : goal.returns
returns c =
    let path_is : rule_of c.positional.result ≡ positional_rule (codes "path") = search rules in
    let page_is : rule_of c.switch.result ≡ switch_rule (codes "page") = search rules in
    let limit_is : rule_of c.switch-2.result ≡ switch_rule (codes "limit") = search rules in
    let stop_is : rule_of c.switch-3.result ≡ switch_rule (codes "stop") = search rules in
    let run_is : app_of c.in_ok-whole.whole ≡ run_app = c.in_ok-whole.ensures.shape c.switch-3.ensures.local
    ∙ ap₂ with_rule (c.in_ok-with_limit.ensures.shape c.switch-2.ensures.local
    ∙ ap₂ with_rule (c.in_ok-with_page.ensures.shape c.switch.ensures.local
    ∙ ap₂ with_rule (c.in_ok-with_path.ensures.shape c.positional.ensures.local
    ∙ ap₂ with_rule c.new-bare.ensures.app path_is) page_is) limit_is) stop_is in
    IfOk-weaker c.subcommand.result _ _ (λ m adds. adds.shape (search rules)
    ∙ ap₂ with_subcommand c.quiet_program.ensures (ap (λ (a : App). a.top) run_is)) c.subcommand.ensures
