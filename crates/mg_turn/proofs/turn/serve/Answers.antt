use Rattle.mg_turn.proofs.Serving.{holds_one, made_ready, extends}
use Rattle.mg_turn.proofs.turn.serve.Goals as goal

pub make-reply-requires-clause-held : goal.make-reply-requires-clause-held
make-reply-requires-clause-held g c = holds_one g.V.Served.answers g.V.Served.ends c.args.seat.now.me c.draw-number.new.seat.me c.await_turn.new.seat.me c.draw-number.result c.requires.1 c.draw-number.ensures.drawn.1 c.await_turn.ensures.taken

pub pass-requires-clause-made : goal.pass-requires-clause-made
pass-requires-clause-made g c = made_ready g.V.Served.answers g.V.Served.ends c.draw-number.new.seat.me c.await_turn.new.seat.me c.make-reply.new.seat.me c.args.call c.make-reply.result c.await_turn.ensures.taken c.make-reply.ensures.made

pub returns-clause-extends : goal.returns-clause-extends
returns-clause-extends g c = extends g.V.Served.answers g.V.Served.ends c.args.seat.now.me c.draw-number.new.seat.me c.await_turn.new.seat.me c.make-reply.new.seat.me c.pass.new.seat.me c.args.call c.make-reply.result c.draw-number.result
    c.requires.3 c.draw-number.ensures.drawn.1 c.await_turn.ensures.taken c.make-reply.ensures.made c.pass.ensures.passed
