use Rattle.std.proofs.Common.{inl, refl, sym, ◌∙◌, subst}
use Rattle.mg_model.specs.declared.refusal.Refusal.{Refusal}
use Rattle.std.specs.Prelude.{List, Option}
use Rattle.mg_sessions.specs.Accounts.{Accounts}
use Rattle.mg_sessions.specs.AccountLaws.{account_after}
use Rattle.mg_scripts.specs.declared.lines.LinesEnd.{LinesEnd}
use Rattle.mg_scripts.specs.declared.lines.LinesEnd.TheVariants.{Whole}
use Rattle.mg_scripts.specs.Runs.{LinesDone}
use Rattle.mg_scripts.specs.Steps.{reason}
use Rattle.mg_scripts.proofs.EndLemmas.{cut_none, cut_reason, ran_short, ran_whole, start_ready, start_stand}
use Rattle.mg_script_ends.specs.CauseLaws.{caused_since}
use Rattle.mg_script_ends.specs.Ends.{AreCaused, told_of}
use Rattle.mg_scripts.proofs.SinkLemmas.{all_say}
use Rattle.mg_scripts.proofs.script.run_from.Goals as goal

pub run_lines-ran-requires-clause-ready : goal.run_lines-ran-requires-clause-ready
run_lines-ran-requires-clause-ready g c =
    rw (c.requires.transactions, c.requires.pending)
    (start_ready g.R.Records.meaning g.R.Statements.runs c.args.r.now c.requires.free)

pub returns-then-is_cut-clause-done : goal.returns-then-is_cut-clause-done
returns-then-is_cut-clause-done g c = λ o stands none.
    let m = g.R.Records.meaning in
    let runs = g.R.Statements.runs in
    let done = c.run_lines-ran.ensures.done o
    (rw (c.requires.transactions, c.requires.pending) (start_stand m runs c.args.r.now o stands none)) in
    inl (ran_short m runs g.K.Sink.meaning c.args.r.now c.run_lines-ran.new.r c.args.sink.now c.run_lines-ran.new.sink o
    c.args.size c.args.lines.now c.run_lines-ran.new.sessions.transactions c.run_lines-ran.new.sessions.pending.items
    c.run_lines-ran.result.end c.run_lines-ran.result.fine c.args.refusals.now.items
    (sym c.is_cut.ensures ∙ c.if-is_cut.true) c.requires.none done)

pub returns-clause-done : goal.returns-clause-done
returns-clause-done g c = λ o stands none.
    let m = g.R.Records.meaning in
    let runs = g.R.Statements.runs in
    let mid = c.run_lines-ran.new.r in
    let all = c.run_lines-ran.new.sessions.transactions in
    let ps = c.run_lines-ran.new.sessions.pending.items in
    let fine = c.run_lines-ran.result.fine in
    let whole = cut_none c.run_lines-ran.result.end (sym c.is_cut.ensures ∙ c.if-is_cut.false) in
    let done = subst (λ (e : LinesEnd). LinesDone m runs g.K.Sink.meaning c.args.r.now mid c.args.sink.now
    c.run_lines-ran.new.sink o c.args.size c.args.lines.now all ps e fine) whole
    (c.run_lines-ran.ensures.done o
    (rw (c.requires.transactions, c.requires.pending) (start_stand m runs c.args.r.now o stands none))) in
    inl (ran_whole m runs g.met.R.Records.lasts g.K.Sink.meaning c.args.r.now mid c.end_script-fine.new.r c.args.sink.now
    c.run_lines-ran.new.sink o c.args.size c.args.lines.now all ps fine c.end_script-fine.result
    c.end_script-fine.new.refusals.items done
    (λ h us stand. c.end_script-fine.ensures.ends o h us stand))

pub returns-clause-accounts : goal.returns-clause-accounts
returns-clause-accounts g c =
    let m = g.R.Records.meaning in
    let whole = cut_none c.run_lines-ran.result.end (sym c.is_cut.ensures ∙ c.if-is_cut.false) in
    account_after m c.args.r.now c.run_lines-ran.new.r c.end_script-fine.new.r
    (told_of c.end_script-fine.new.refusals.items)
    (subst (λ (e : LinesEnd). Accounts m c.args.r.now c.run_lines-ran.new.r (reason e)) whole
    c.run_lines-ran.ensures.accounts) c.end_script-fine.ensures.accounts

pub returns-then-is_cut-clause-accounts : goal.returns-then-is_cut-clause-accounts
returns-then-is_cut-clause-accounts g c =
    subst (λ (told : Option Refusal). Accounts g.R.Records.meaning c.args.r.now c.run_lines-ran.new.r told)
    (sym (cut_reason c.run_lines-ran.result.end c.args.refusals.now.items (sym c.is_cut.ensures ∙ c.if-is_cut.true)))
    c.run_lines-ran.ensures.accounts

pub returns-clause-sinks : goal.returns-clause-sinks
returns-clause-sinks g c =
    let whole = cut_none c.run_lines-ran.result.end (sym c.is_cut.ensures ∙ c.if-is_cut.false) in
    all_say g.K.Sink.meaning c.args.sink.now c.run_lines-ran.new.sink Whole refl
    (c.run_lines-ran.ensures.sinks.steady whole)

pub returns-then-is_cut-clause-caused : goal.returns-then-is_cut-clause-caused
returns-then-is_cut-clause-caused g c = subst (λ (xs : List Refusal).
    AreCaused g.R.Records.meaning c.args.r.now c.run_lines-ran.new.r xs) (sym c.requires.none) tt

pub returns-clause-caused : goal.returns-clause-caused
returns-clause-caused g c = caused_since g.R.Records.meaning c.args.r.now c.run_lines-ran.new.r
    c.end_script-fine.new.r (reason c.run_lines-ran.result.end) (told_of c.end_script-fine.new.refusals.items)
    c.run_lines-ran.ensures.accounts c.end_script-fine.ensures.accounts c.end_script-fine.new.refusals.items
    c.end_script-fine.ensures.caused
