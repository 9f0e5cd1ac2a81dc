use Rattle.std.proofs.Common.{◌≡◌, ◌≤◌, ◌+◌, ◌-◌, arith, [], ◌∷◌, false, None, refl, ap}
use Rattle.std.specs.Prelude.{vec_capacity, vec_len}
use Rattle.mg_sessions.specs.AccountLaws.{no_account}
use Rattle.std.proofs.Common.{subst, sym}
use Rattle.std.specs.Prelude.{List}
use Rattle.mg_faults.specs.Faults.{tells_fault}
use Rattle.mg_model.specs.declared.refusal.Refusal.{Refusal}
use Rattle.mg_sessions.specs.Accounts.{Accounts}
use Rattle.mg_script_ends.specs.Ends.{AreCaused, count_from, told_of}
use Rattle.mg_script_ends.proofs.EndLemmas.{counts_on, ends_whole, so_far_as, so_far_none, so_far_to}
use Rattle.mg_script_ends.proofs.ending.roll_back_all.Goals as goal

pub loop-s-init : goal.loop-s-init
loop-s-init g c =
    let m = g.R.Records.meaning in
    let runs = g.R.Statements.runs in
    let room : vec_len c.args.refusals.now + 17 ≤ vec_capacity c.args.refusals.now = c.requires.room in record {
      ends = so_far_to m runs c.args.r.now c.args.r.now c.args.transactions.now c.args.transactions.now
          (count_from 0 17) (count_from 0 17) [] c.args.refusals.now.items c.requires.none
          (so_far_none m runs g.met.R.Records.crashes c.args.r.now c.args.transactions.now (count_from 0 17));
      ready = c.requires.ready;
      room = room;
      accounts = subst (λ (xs : List Refusal). Accounts m c.args.r.now c.args.r.now (told_of xs)) (sym c.requires.none)
          (no_account m c.args.r.now None tt);
      quiet = subst (λ (xs : List Refusal). tells_fault (told_of xs) ≡ false) (sym c.requires.none) refl;
      caused = subst (λ (xs : List Refusal). AreCaused m c.args.r.now c.args.r.now xs) (sym c.requires.none) tt;
    }

pub loop-s-preserved : goal.loop-s-preserved
loop-s-preserved g c = record {
  ends = c.if-end_one.ensures.ends c.args.r.now c.args.transactions.now (count_from 0 17)
      (count_from (c.loop-s.s + 1) (17 - (c.loop-s.s + 1)))
      (so_far_as g.R.Records.meaning g.R.Statements.runs c.args.r.now c.loop-s.r c.args.transactions.now
      c.loop-s.transactions (count_from 0 17) (count_from c.loop-s.s (17 - c.loop-s.s))
      (c.loop-s.s ∷ count_from (c.loop-s.s + 1) (17 - (c.loop-s.s + 1))) c.loop-s.refusals.items
      (counts_on c.loop-s.s 17 c.loop-s-test.true) c.loop-s.invariant.ends);
  ready = c.end_one.ensures.ready;
  room = c.end_one.ensures.room (17 - (c.loop-s.s + 1))
      (let room = c.loop-s.invariant.room in let less = c.loop-s-test.true in omega (arith, room, less));
  accounts = c.end_one.ensures.accounts c.args.r.now c.loop-s.invariant.accounts c.loop-s.invariant.quiet;
  quiet = c.end_one.ensures.quiet c.loop-s.invariant.quiet c.if-end_one.false;
  caused = c.end_one.ensures.caused c.args.r.now c.loop-s.invariant.accounts c.loop-s.invariant.caused;
}

pub returns-then-end_one-clause-ends : goal.returns-then-end_one-clause-ends
returns-then-end_one-clause-ends g c = c.if-end_one.ensures.ends c.args.r.now c.args.transactions.now
    (count_from 0 17) (count_from (c.loop-s.s + 1) (17 - (c.loop-s.s + 1)))
    (so_far_as g.R.Records.meaning g.R.Statements.runs c.args.r.now c.loop-s.r c.args.transactions.now
    c.loop-s.transactions (count_from 0 17) (count_from c.loop-s.s (17 - c.loop-s.s))
    (c.loop-s.s ∷ count_from (c.loop-s.s + 1) (17 - (c.loop-s.s + 1))) c.loop-s.refusals.items
    (counts_on c.loop-s.s 17 c.loop-s-test.true) c.loop-s.invariant.ends)

pub returns-then-end_one-clause-accounts : goal.returns-then-end_one-clause-accounts
returns-then-end_one-clause-accounts g c =
    c.end_one.ensures.accounts c.args.r.now c.loop-s.invariant.accounts c.loop-s.invariant.quiet

pub returns-clause-ends : goal.returns-clause-ends
returns-clause-ends g c = ends_whole g.R.Records.meaning g.R.Statements.runs c.args.r.now c.loop-s.r
    c.args.transactions.now c.loop-s.transactions (count_from 0 17) (count_from c.loop-s.s (17 - c.loop-s.s))
    c.loop-s.refusals.items
    (let past = c.loop-s-test.false in let none : 17 - c.loop-s.s ≡ 0 = omega (arith, past) in
    ap (count_from c.loop-s.s) none) c.loop-s.invariant.ends

pub returns-then-end_one-clause-caused : goal.returns-then-end_one-clause-caused
returns-then-end_one-clause-caused g c =
    c.end_one.ensures.caused c.args.r.now c.loop-s.invariant.accounts c.loop-s.invariant.caused
