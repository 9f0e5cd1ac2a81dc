use Rattle.std.specs.Prelude.{List, ℕ, ◌++◌}
use Rattle.std.proofs.Common.{ap, refl, ◌∙◌}
use Rattle.mg_stat_report.specs.StatText.{stat_text}
use Rattle.mg_stat_report.proofs.TellingLemmas.{figures_put}
use Rattle.mg_stat_report.proofs.telling.say_figures.Goals as goal

pub returns-in-Ok-put : goal.returns-in-Ok-put
returns-in-Ok-put g c = (
  figures_put g.K.Sink.meaning c.args.sink.now c.put.new.self c.args.it.now c.as_slice.result.now c.put.result
      c.put.ensures
      (c.as_slice.ensures.value ∙ (c.in-Ok.ensures
      ∙ ap (λ (before : List ℕ). before ++ stat_text c.args.it.now) c.new-text.ensures.items)),
  c.in-Ok-put.ensures.steady,
)

pub returns : goal.returns
returns g c = (
  figures_put g.K.Sink.meaning c.args.sink.now c.put.new.self c.args.it.now c.as_slice.result.now c.put.result
      c.put.ensures
      (c.as_slice.ensures.value ∙ (c.in-Ok.ensures
      ∙ ap (λ (before : List ℕ). before ++ stat_text c.args.it.now) c.new-text.ensures.items)),
  c.in-Err-put.ensures.cause refl,
)
