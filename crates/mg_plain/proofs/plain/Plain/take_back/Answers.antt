-- Back to the newest step that sets the point.
use Rattle.std.proofs.Common.{◌∙◌, sym, ap, List}
use Rattle.mg_model.specs.declared.change.Step.{Step}
use Rattle.mg_plain.specs.Kept.{kept}
use Rattle.mg_plain.specs.Keeping.{Keeping}
use Rattle.mg_plain.specs.TakenBack.{first_point}
use Rattle.mg_plain.proofs.TakenBackLemmas.{taken_back_none, taken_back_some}
use Rattle.mg_plain.proofs.plain.Plain.take_back.Goals as goal

pub returns-in-Some : goal.returns-in-Some
returns-in-Some c =
    let steps : List Step = c.args.self.now.steps.items in
    let old : Keeping = kept c.args.self.now in
    let found = ap (first_point c.args.t c.args.point) (sym c.deref.ensures.value) ∙ sym c.in-Some.ensures.place in
    ap (λ (s : List Step). record old { steps = s }) (c.clear_since.ensures ∙ taken_back_some c.args.t c.in-Some.place c.args.point steps found)

pub returns-in_default : goal.returns-in_default
returns-in_default c =
    let steps : List Step = c.args.self.now.steps.items in
    let old : Keeping = kept c.args.self.now in
    let none = c.in_default.ensures.place ∙ ap (first_point c.args.t c.args.point) c.deref.ensures.value in
    ap (λ (s : List Step). record old { steps = s }) (taken_back_none c.args.t c.args.point steps none)
