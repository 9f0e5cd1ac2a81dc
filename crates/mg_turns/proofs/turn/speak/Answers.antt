use Rattle.std.proofs.Common.{List, [], ◌∷◌, ◌++◌, refl, sym, ap, ◌∙◌, subst, arith}
use Rattle.std.specs.Prelude.{All}
use Rattle.mg_transcript.specs.declared.turn.Flow.{Flow}
use Rattle.mg_transcript.specs.declared.turn.Spoken.{Spoken}
use Rattle.mg_transcript.specs.Transcript.{HasItsLetter, flow}
use Rattle.mg_turns.specs.Turns.{end_behind}
use Rattle.mg_turns.proofs.SpeakLemmas.{accounts_as, accounts_on, all_behind, goes_on_none, lets_as, nearer, speaks_on}
use Rattle.mg_turns.proofs.turn.speak.Goals as goal

pub returns-clause-lets : goal.returns-clause-lets
returns-clause-lets g c = lets_as g.R.Records.meaning g.R.Statements.runs c.args.r.now c.resume-spoken.new.r
    c.args.sessions.now.transactions c.resume-spoken.new.sessions.transactions c.args.sessions.now.pending.items
    c.resume-spoken.new.sessions.pending.items c.args.released.now.items
    (c.args.released.now.items ++ c.resume-spoken.result ∷ []) c.push_reserved.new.self.items
    (end_behind (flow c.resume-spoken.result.reply) c.waits_in_vain-vain.result) c.end_behind.result
    c.push_reserved.ensures.items
    (c.end_behind.ensures ∙ ap (λ (f : Flow). end_behind f c.waits_in_vain-vain.result) c.flow_of-flow.ensures)
    (speaks_on g.R.Records.meaning g.R.Statements.runs c.args.r.now c.resume-spoken.new.r
    c.args.sessions.now.transactions c.resume-spoken.new.sessions.transactions c.args.sessions.now.pending.items
    c.resume-spoken.new.sessions.pending.items c.args.place c.requires.first c.resume-spoken.ensures.moves
    c.waits_in_vain-vain.result
    (λ others again is same. c.waits_in_vain-vain.ensures.again others again is (omega (arith, same)))
    (λ ne. c.waits_in_vain-vain.ensures.fewer (λ same. ne (omega (arith, same))))
    c.resume-spoken.result c.resume-spoken.ensures.does c.resume-spoken.ensures.session c.args.released.now.items)

pub returns-clause-nearer : goal.returns-clause-nearer
returns-clause-nearer g c = λ is. nearer g.R.Records.meaning g.R.Statements.runs c.args.r.now c.resume-spoken.new.r
    c.args.sessions.now.transactions c.resume-spoken.new.sessions.transactions c.args.sessions.now.pending.items
    c.resume-spoken.new.sessions.pending.items c.args.place c.requires.first c.resume-spoken.ensures.moves
    c.waits_in_vain-vain.result
    (λ others again same_ps same. c.waits_in_vain-vain.ensures.again others again same_ps (omega (arith, same)))
    (λ ne. c.waits_in_vain-vain.ensures.fewer (λ same. ne (omega (arith, same))))
    (goes_on_none c.flow_of-flow.result c.waits_in_vain-vain.result (sym c.end_behind.ensures ∙ is))

pub returns-clause-accounts : goal.returns-clause-accounts
returns-clause-accounts g c = accounts_as g.R.Records.meaning c.args.r.now c.resume-spoken.new.r
    c.args.released.now.items (c.args.released.now.items ++ c.resume-spoken.result ∷ [])
    c.push_reserved.new.self.items
    (end_behind (flow c.resume-spoken.result.reply) c.waits_in_vain-vain.result) c.end_behind.result
    c.push_reserved.ensures.items
    (c.end_behind.ensures ∙ ap (λ (f : Flow). end_behind f c.waits_in_vain-vain.result) c.flow_of-flow.ensures)
    (accounts_on g.R.Records.meaning c.args.r.now c.resume-spoken.new.r c.args.released.now.items
    c.resume-spoken.result (flow c.resume-spoken.result.reply) c.waits_in_vain-vain.result refl
    c.resume-spoken.ensures.accounts)

pub returns-clause-lettered : goal.returns-clause-lettered
returns-clause-lettered g c = λ all. subst (λ (xs : List Spoken). All HasItsLetter xs)
    (sym c.push_reserved.ensures.items) (all_behind HasItsLetter c.args.released.now.items c.resume-spoken.result all
    c.resume-spoken.ensures.lettered)
