use Rattle.std.proofs.Common.{ap, ◌∙◌, ◌++◌, ◌∷◌, [], List, subst, sym}
use Rattle.mg_works.specs.Works.{AreApart, Working, begun, has_session, work_of}
use Rattle.mg_works.specs.WorksLaws.{more_apart}
use Rattle.mg_works.proofs.works.Works.begin.Goals as goal

pub invariant_of-self-2 : goal.invariant_of-self-2
invariant_of-self-2 c = subst AreApart (sym (c.in_ok-push.ensures.items
    ∙ ap (λ (w : Working). c.self.inside.items.items ++ w ∷ []) c.new.ensures))
    (more_apart c.self.inside.items.items (begun c.args.t.0 c.args.session c.args.mode) c.self.invariant
    (ap (λ (ws : List Working). work_of ws c.args.t.0) c.self.view_is ∙ c.requires.fresh)
    (ap (λ (ws : List Working). has_session ws c.args.session) c.self.view_is ∙ c.requires.free)
    (record { session_below = c.requires.session; lawful = tt; written_lawful = tt }))
