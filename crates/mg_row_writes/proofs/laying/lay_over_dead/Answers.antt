use Rattle.std.proofs.Common.{◌∙◌, ◌+◌, ◌≤◌, length, subst, sym}
use Rattle.mg_base.specs.declared.geometry.Geometry.{Geometry}
use Rattle.mg_space.specs.Taking.{IsGeometry}
use Rattle.mg_row_writes.specs.Laying.{FailsOverDead, KeysMayBeLaid, not_cleared}
use Rattle.mg_row_writes.proofs.FindLemmas.{handed_on}
use Rattle.mg_row_writes.proofs.LayLemmas.{laid_over}
use Rattle.mg_row_writes.proofs.laying.lay_over_dead.Goals as goal

pub returns-in_err-take_newest_out-clause-lays : goal.returns-in_err-take_newest_out-clause-lays
returns-in_err-take_newest_out-clause-lays g c = handed_on c.from_residual.result c.in_err-take_newest_out.field-0.0 _
    (FailsOverDead g.D.Disk.meaning c.args.store.now c.take_newest_out.new.store c.args.table.now c.args.rec
    c.args.write.now c.args.v.now) c.from_residual.ensures.0
    c.from_residual.ensures.1 (not_cleared c.in_err-take_newest_out.ensures.takes)

pub returns-clause-lays : goal.returns-clause-lays
returns-clause-lays g c = laid_over g.D.Disk.meaning c.args.store.now c.take_newest_out.new.store
    c.enter_over.new.store c.args.table.now c.args.rec c.args.write.now
    c.args.v.now c.enter_over.result c.in_ok-take_newest_out.ensures.takes c.enter_over.ensures.lays

pub returns-in_err-take_newest_out-clause-pool : goal.returns-in_err-take_newest_out-clause-pool
returns-in_err-take_newest_out-clause-pool g c = c.take_newest_out.ensures.pool

pub returns-in_err-take_newest_out-clause-geometry : goal.returns-in_err-take_newest_out-clause-geometry
returns-in_err-take_newest_out-clause-geometry g c = c.take_newest_out.ensures.geometry

pub enter_over-requires-clause-pool : goal.enter_over-requires-clause-pool
enter_over-requires-clause-pool g c = c.take_newest_out.ensures.pool

pub enter_over-requires-clause-geometry : goal.enter_over-requires-clause-geometry
enter_over-requires-clause-geometry g c = subst IsGeometry (sym c.take_newest_out.ensures.geometry) c.requires.geometry

pub enter_over-requires-clause-short : goal.enter_over-requires-clause-short
enter_over-requires-clause-short g c = subst
    (λ (it : Geometry). KeysMayBeLaid it.size c.args.table.now c.args.write.now) (sym c.take_newest_out.ensures.geometry)
    c.requires.short

pub enter_over-requires-clause-apart : goal.enter_over-requires-clause-apart
enter_over-requires-clause-apart g c = c.requires.apart

pub enter_over-requires-clause-stored : goal.enter_over-requires-clause-stored
enter_over-requires-clause-stored g c = c.requires.stored

pub enter_over-requires-clause-length : goal.enter_over-requires-clause-length
enter_over-requires-clause-length g c = subst
    (λ (it : Geometry). length c.args.v.now.body + 42 ≤ it.size) (sym c.take_newest_out.ensures.geometry)
    c.requires.length

pub returns-clause-pool : goal.returns-clause-pool
returns-clause-pool g c = c.enter_over.ensures.pool

pub returns-clause-geometry : goal.returns-clause-geometry
returns-clause-geometry g c = c.enter_over.ensures.geometry ∙ c.take_newest_out.ensures.geometry
