use Rattle.std.proofs.Common.{ap, ◌∙◌, subst, sym}
use Rattle.mg_works.specs.Works.{AreApart, without_work}
use Rattle.mg_works.specs.WorksLaws.{without_apart}
use Rattle.mg_works.proofs.works.Works.end.Goals as goal

pub invariant_of-self : goal.invariant_of-self
invariant_of-self c = subst AreApart (sym c.drop_work.ensures)
    (without_apart c.self.inside.items.items c.args.t.0 c.self.invariant)

pub returns : goal.returns
returns c = c.drop_work.ensures ∙ ap (without_work c.args.t.0) c.self.view_is
