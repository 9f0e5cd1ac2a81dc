use Rattle.std.proofs.Common.{◌≡◌, [], ◌∷◌, ◌++◌, false, None, Some, refl, subst, sym, ◌∙◌}
use Rattle.std.specs.Prelude.{List}
use Rattle.mg_model.specs.declared.refusal.Refusal.{Refusal}
use Rattle.mg_faults.specs.Faults.{tells_fault}
use Rattle.mg_sessions.specs.AccountLaws.{account_blames, account_first}
use Rattle.mg_sessions.specs.Accounts.{Accounts}
use Rattle.mg_script_ends.specs.CauseLaws.{caused_also, caused_then}
use Rattle.mg_script_ends.specs.Ends.{AreCaused, told_of}
use Rattle.mg_script_ends.specs.ToldLaws.{told_also, told_none}
use Rattle.mg_script_ends.proofs.EndLemmas.{one_more, so_far_none_refused, stops_as}
use Rattle.mg_transcript.specs.Shorthand.{stops_run}
use Rattle.mg_script_ends.proofs.ending.end_one.Goals as goal

pub returns-in-Some-clause-ends : goal.returns-in-Some-clause-ends
returns-in-Some-clause-ends g c = λ start all whole rest first.
    stops_as g.R.Records.meaning g.R.Statements.runs start c.end_session.new.r all c.end_session.new.transactions whole
    rest (c.args.refusals.now.items ++ c.in-Some.refusal ∷ []) c.push_reserved.new.self.items
    (stops_run c.in-Some.refusal) c.stops.result c.push_reserved.ensures.items c.stops.ensures
    (one_more g.R.Records.meaning g.R.Statements.runs g.met.R.Records.lasts start c.args.r.now c.end_session.new.r all
    c.args.transactions.now c.end_session.new.transactions whole rest c.args.session.0 c.args.refusals.now.items first
    (Some c.in-Some.refusal) c.in-Some.ensures.ends c.in-Some.refusal (stops_run c.in-Some.refusal) refl refl)

pub returns-in-None-clause-ends : goal.returns-in-None-clause-ends
returns-in-None-clause-ends g c = λ start all whole rest first.
    so_far_none_refused g.R.Records.meaning g.R.Statements.runs g.met.R.Records.lasts start c.args.r.now
    c.end_session.new.r all c.args.transactions.now c.end_session.new.transactions whole rest c.args.session.0
    c.args.refusals.now.items first None c.in-None.ensures.ends refl

pub returns-in-Some-clause-accounts : goal.returns-in-Some-clause-accounts
returns-in-Some-clause-accounts g c = λ start first quiet.
    let m = g.R.Records.meaning in
    subst (λ (xs : List Refusal). Accounts m start c.end_session.new.r (told_of xs)) (sym c.push_reserved.ensures.items)
    (told_also m start c.args.r.now c.end_session.new.r c.args.refusals.now.items c.in-Some.refusal first quiet
    c.in-Some.ensures.accounts)

pub returns-in-None-clause-accounts : goal.returns-in-None-clause-accounts
returns-in-None-clause-accounts g c = λ start first quiet. account_first g.R.Records.meaning start c.args.r.now
    c.end_session.new.r (told_of c.args.refusals.now.items) None refl first c.in-None.ensures.accounts

pub returns-in-Some-clause-quiet : goal.returns-in-Some-clause-quiet
returns-in-Some-clause-quiet g c = λ quiet goes.
    subst (λ (xs : List Refusal). tells_fault (told_of xs) ≡ false) (sym c.push_reserved.ensures.items)
    (told_none c.args.refusals.now.items c.in-Some.refusal quiet (sym c.stops.ensures ∙ goes))

pub returns-in-Some-clause-caused : goal.returns-in-Some-clause-caused
returns-in-Some-clause-caused g c = λ start first are.
    let m = g.R.Records.meaning in
    subst (λ (xs : List Refusal). AreCaused m start c.end_session.new.r xs) (sym c.push_reserved.ensures.items)
    (caused_also m start c.end_session.new.r c.args.refusals.now.items c.in-Some.refusal
    (caused_then m start c.args.r.now c.end_session.new.r (Some c.in-Some.refusal) c.in-Some.ensures.accounts
    c.args.refusals.now.items are)
    (account_blames m start c.args.r.now c.end_session.new.r (told_of c.args.refusals.now.items)
    (Some c.in-Some.refusal) first c.in-Some.ensures.accounts.faults c.in-Some.ensures.accounts.cause))

pub returns-in-None-clause-caused : goal.returns-in-None-clause-caused
returns-in-None-clause-caused g c = λ start first are. caused_then g.R.Records.meaning start c.args.r.now
    c.end_session.new.r None c.in-None.ensures.accounts c.args.refusals.now.items are
