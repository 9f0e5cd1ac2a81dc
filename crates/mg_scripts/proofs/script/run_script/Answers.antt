use Rattle.std.proofs.Common.{inr, refl, subst, sym}
use Rattle.std.specs.Prelude.{List}
use Rattle.mg_model.specs.declared.refusal.Refusal.{Refusal}
use Rattle.mg_script_ends.specs.Ends.{AreCaused}
use Rattle.mg_scripts.proofs.SinkLemmas.{none_says}
use Rattle.mg_scripts.proofs.script.run_script.Goals as goal

pub returns-in-Err-clause-done : goal.returns-in-Err-clause-done
returns-in-Err-clause-done g c = λ o stands none.
    inr (record { short = refl; keeper = refl; sink = refl; none = c.requires.none })

pub returns-in-Err-clause-sinks : goal.returns-in-Err-clause-sinks
returns-in-Err-clause-sinks g c = none_says g.K.Sink.meaning c.args.sink.now

pub returns-in-Err-clause-caused : goal.returns-in-Err-clause-caused
returns-in-Err-clause-caused g c =
    subst (λ (xs : List Refusal). AreCaused g.R.Records.meaning c.args.r.now c.args.r.now xs) (sym c.requires.none) tt
