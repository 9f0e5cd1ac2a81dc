use Rattle.std.proofs.Common.{Bool, sym, subst}
use Rattle.mg_scripts.specs.Ending.{EndsLive}
use Rattle.mg_scripts.proofs.EndLemmas.{end_ready, ends_live}
use Rattle.mg_scripts.proofs.script.end_script.Goals as goal

pub roll_back_all-requires-clause-ready : goal.roll_back_all-requires-clause-ready
roll_back_all-requires-clause-ready g c =
    end_ready g.R.Records.meaning g.R.Statements.runs c.args.r.now c.args.sessions.transactions
    c.args.sessions.pending.items c.requires.ready

pub returns-clause-ends : goal.returns-clause-ends
returns-clause-ends g c = λ o h us stand.
    let m = g.R.Records.meaning in
    subst (λ (b : Bool). EndsLive m c.args.r.now c.roll_back_all.new.r o h us c.args.fine
    c.roll_back_all.new.refusals.items b) (sym c.both.ensures)
    (ends_live m g.R.Statements.runs c.args.r.now c.roll_back_all.new.r o h c.args.sessions.transactions
    c.roll_back_all.new.transactions c.args.sessions.pending.items us c.args.fine c.none_is_left-none.result
    c.roll_back_all.new.refusals.items c.none_is_left-none.ensures stand
    (λ there. c.roll_back_all.ensures.ends o h there))
