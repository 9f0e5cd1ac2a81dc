use Rattle.std.proofs.Common.{ap, length, subst, sym, ◌∙◌}
use Rattle.mg_interleavings.specs.Standings.{Scripts}
use Rattle.mg_floor.specs.Scripts.{AreOwnLines}
use Rattle.mg_floor.specs.ScriptLaws.{cut_are_own, length_cut}
use Rattle.mg_floor.proofs.LinesLemmas.{cut_all, cut_put}
use Rattle.mg_floor.proofs.lines.by_session.Goals as goal

pub loop-session-preserved : goal.loop-session-preserved
loop-session-preserved c =
    cut_put c.loop-session.scripts.items c.push.new.self.items c.in_ok-own.own 16 c.loop-session.session c.args.lines.now _
    c.loop-session-test.true c.in_ok-push.ensures.items c.in_ok-own.ensures c.loop-session.invariant

pub returns-clause-cut : goal.returns-clause-cut
returns-clause-cut c =
    cut_all c.loop-session.scripts.items 16 c.loop-session.session c.args.lines.now _ c.loop-session-test.false
    c.loop-session.invariant

pub returns-clause-own : goal.returns-clause-own
returns-clause-own c =
    subst (λ (scripts : Scripts). AreOwnLines scripts)
    (sym (cut_all c.loop-session.scripts.items 16 c.loop-session.session c.args.lines.now _ c.loop-session-test.false
    c.loop-session.invariant)) (cut_are_own 16 c.args.lines.now)

pub returns-clause-count : goal.returns-clause-count
returns-clause-count c =
    ap (λ (scripts : Scripts). length scripts)
    (cut_all c.loop-session.scripts.items 16 c.loop-session.session c.args.lines.now _ c.loop-session-test.false
    c.loop-session.invariant) ∙ length_cut 16 0 c.args.lines.now
