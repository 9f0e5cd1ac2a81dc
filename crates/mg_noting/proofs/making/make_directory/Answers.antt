use Rattle.std.proofs.Common.{Option, refl}
use Rattle.mg_directory.specs.Candidates.{Noted}
use Rattle.mg_pool.specs.Pool.{shown}
use Rattle.mg_seek.specs.Versions.{wants}
use Rattle.mg_seek.specs.declared.whose.Wanted.TheVariants.{Any}
use Rattle.mg_space.specs.ViewLaws.{keeps_itself}
use Rattle.mg_noting.specs.Making.{not_made}
use Rattle.mg_noting.proofs.MakingLemmas.{forgiven_makes, forgiven_reads, forgiven_told, kept_made}
use Rattle.mg_noting.proofs.making.make_directory.Goals as goal

pub returns-then-not-may_start-clause-keeps : goal.returns-then-not-may_start-clause-keeps
returns-then-not-may_start-clause-keeps g c = keeps_itself g.D.Disk.meaning c.args.store.now c.requires.pool

pub returns-then-not-may_start-clause-fault : goal.returns-then-not-may_start-clause-fault
returns-then-not-may_start-clause-fault g c = (c.requires.online, c.requires.online, refl)

pub returns-then-not-may_start-clause-makes : goal.returns-then-not-may_start-clause-makes
returns-then-not-may_start-clause-makes g c = λ image tells. not_made refl

pub returns-in-Ok-clause-makes : goal.returns-in-Ok-clause-makes
returns-in-Ok-clause-makes g c = λ image tells. kept_made (g.S.States.state_of c.args.states.now) c.args.live.now
    (shown c.args.store.now.dirty image) c.args.table.now c.args.directories.now c.keep_made.new.directories
    c.filled.new.directories c.in-Ok.dir (c.in-Ok.ensures.fills image tells) c.keep_made.ensures

pub returns-in-Err-clause-keeps : goal.returns-in-Err-clause-keeps
returns-in-Err-clause-keeps g c = c.in-Err.ensures.keeps

pub returns-in-Err-clause-fault : goal.returns-in-Err-clause-fault
returns-in-Err-clause-fault g c = forgiven_told (Option Noted) g.D.Disk.meaning c.args.store.now c.filled.new.store c.in-Err.fault
    c.forgiven.result c.forgiven.ensures c.in-Err.ensures.fault

pub returns-in-Err-clause-own : goal.returns-in-Err-clause-own
returns-in-Err-clause-own g c = forgiven_reads (Option Noted) c.in-Err.fault c.forgiven.result c.forgiven.ensures c.in-Err.ensures.own

pub returns-in-Err-clause-makes : goal.returns-in-Err-clause-makes
returns-in-Err-clause-makes g c = λ image tells. forgiven_makes g.D.Disk.meaning c.filled.new.store
    (shown c.args.store.now.dirty image) (wants (g.S.States.state_of c.args.states.now) c.args.live.now Any) c.args.table.now
    (g.S.States.state_of c.args.states.now) c.args.live.now c.args.directories.now
    c.filled.new.directories c.in-Err.fault c.forgiven.result c.forgiven.ensures c.in-Err.ensures.same
    (c.in-Err.ensures.fills image tells)
