use Rattle.std.proofs.Common.{Ok, Err, refl}
use Rattle.mg_interleavings.specs.GivingUpLaws.{comes_out}
use Rattle.mg_interleavings.proofs.giving_up.give_up.Goals as goal

pub returns-in-Ok-clause-gives : goal.returns-in-Ok-clause-gives
returns-in-Ok-clause-gives g c = record { done = Ok tt; is = refl; undoes = c.in-Ok.ensures.undoes; leaves = c.in-Ok.ensures.leaves; told = c.in-Ok.ensures.told; undamaged = c.in-Ok.ensures.undamaged; room = c.in-Ok.ensures.room; crash = c.in-Ok.ensures.crash; sessions = c.in-Ok.ensures.sessions }

pub returns-in-Ok-clause-out : goal.returns-in-Ok-clause-out
returns-in-Ok-clause-out g c = λ o h stands.
    comes_out g.R.Records.meaning _ _ c.args.t c.args.on (Ok tt) o h c.in-Ok.ensures.undoes stands

pub returns-in-Err-clause-gives : goal.returns-in-Err-clause-gives
returns-in-Err-clause-gives g c = record { done = Err c.in-Err.refusal; is = refl; undoes = c.in-Err.ensures.undoes; leaves = c.in-Err.ensures.leaves; told = c.in-Err.ensures.told; undamaged = c.in-Err.ensures.undamaged; room = c.in-Err.ensures.room; crash = c.in-Err.ensures.crash; sessions = c.in-Err.ensures.sessions }

pub returns-in-Err-clause-out : goal.returns-in-Err-clause-out
returns-in-Err-clause-out g c = λ o h stands.
    comes_out g.R.Records.meaning _ _ c.args.t c.args.on (Err c.in-Err.refusal) o h c.in-Err.ensures.undoes stands
