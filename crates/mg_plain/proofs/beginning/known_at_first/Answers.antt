-- One state more, and one that is known more.
use Rattle.std.proofs.Common.{◌∙◌, ap}
use Rattle.std.proofs.lemmas.List.{take_all}
use Rattle.mg_base.specs.declared.transaction.TxState.TheVariants.{Active}
use Rattle.mg_plain.specs.Beginning.{known_all}
use Rattle.mg_plain.proofs.ExitLemmas.{no_answer}
use Rattle.mg_plain.proofs.LoopLemmas.{known_more, known_none}
use Rattle.mg_plain.proofs.beginning.known_at_first.Goals as goal

pub loop-state-init : goal.loop-state-init
loop-state-init c = known_none c.args.opened c.args.states.now c.new-known.result.items c.push.new.self.items
    c.known_once.result c.new-known.ensures.items c.known_once.ensures c.in_ok-push.ensures.items

pub loop-state-preserved : goal.loop-state-preserved
loop-state-preserved c = known_more c.args.opened c.args.states.now c.loop-state.state-index Active
    c.loop-state.known.items c.push-in-loop-state.new.self.items c.known_once-in-loop-state.result
    c.loop-state-test.true c.loop-state.invariant c.known_once-in-loop-state.ensures c.in_ok-push-2.ensures.items

pub returns : goal.returns
returns c = c.loop-state.invariant
    ∙ ap (known_all c.args.opened) (take_all c.loop-state.state-index c.args.states.now c.loop-state-test.false)

pub returns-in_err-push : goal.returns-in_err-push
returns-in_err-push c = no_answer _ c.from_residual.result c.from_residual.ensures.0

pub returns-in_err-push-2 : goal.returns-in_err-push-2
returns-in_err-push-2 c = no_answer _ c.from_residual-in_err-push-2.result
    c.from_residual-in_err-push-2.ensures.0
