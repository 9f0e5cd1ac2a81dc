use Rattle.std.proofs.Common.{◌∙◌, ◌+◌, ◌≤◌, length, subst, sym}
use Rattle.mg_base.specs.declared.geometry.Geometry.{Geometry}
use Rattle.mg_space.specs.Taking.{IsGeometry}
use Rattle.mg_row_writes.specs.Laying.{FailsNew, KeysMayBeLaid, no_place}
use Rattle.mg_row_writes.proofs.FindLemmas.{handed_on}
use Rattle.mg_row_writes.proofs.LayLemmas.{laid_new}
use Rattle.mg_row_writes.proofs.laying.lay_new.Goals as goal

pub returns-in_err-at-clause-lays : goal.returns-in_err-at-clause-lays
returns-in_err-at-clause-lays g c = handed_on c.from_residual.result c.in_err-at.field-0.0 _
    (FailsNew g.D.Disk.meaning c.args.store.now c.take_place.new.store c.args.table.now c.args.write.now c.args.v.now)
    c.from_residual.ensures.0
    c.from_residual.ensures.1 (no_place c.in_err-at.ensures.takes)

pub returns-clause-lays : goal.returns-clause-lays
returns-clause-lays g c = laid_new g.D.Disk.meaning c.args.store.now c.take_place.new.store
    c.enter_first.new.store c.args.table.now c.in_ok-at.at c.args.write.now
    c.args.v.now c.enter_first.result c.in_record.result c.in_record.ensures c.in_ok-at.ensures.takes
    c.enter_first.ensures.lays

pub returns-in_err-at-clause-pool : goal.returns-in_err-at-clause-pool
returns-in_err-at-clause-pool g c = c.take_place.ensures.pool

pub returns-in_err-at-clause-geometry : goal.returns-in_err-at-clause-geometry
returns-in_err-at-clause-geometry g c = c.take_place.ensures.geometry

pub enter_first-requires-clause-pool : goal.enter_first-requires-clause-pool
enter_first-requires-clause-pool g c = c.take_place.ensures.pool

pub enter_first-requires-clause-geometry : goal.enter_first-requires-clause-geometry
enter_first-requires-clause-geometry g c = subst IsGeometry (sym c.take_place.ensures.geometry) c.requires.geometry

pub enter_first-requires-clause-owner : goal.enter_first-requires-clause-owner
enter_first-requires-clause-owner g c = c.requires.owner

pub enter_first-requires-clause-some : goal.enter_first-requires-clause-some
enter_first-requires-clause-some g c = c.requires.some

pub enter_first-requires-clause-short : goal.enter_first-requires-clause-short
enter_first-requires-clause-short g c = subst
    (λ (it : Geometry). KeysMayBeLaid it.size c.args.table.now c.args.write.now) (sym c.take_place.ensures.geometry)
    c.requires.short

pub enter_first-requires-clause-apart : goal.enter_first-requires-clause-apart
enter_first-requires-clause-apart g c = c.requires.apart

pub enter_first-requires-clause-stored : goal.enter_first-requires-clause-stored
enter_first-requires-clause-stored g c = c.requires.stored

pub enter_first-requires-clause-length : goal.enter_first-requires-clause-length
enter_first-requires-clause-length g c = subst
    (λ (it : Geometry). length c.args.v.now.body + 42 ≤ it.size) (sym c.take_place.ensures.geometry)
    c.requires.length

pub returns-clause-pool : goal.returns-clause-pool
returns-clause-pool g c = c.enter_first.ensures.pool

pub returns-clause-geometry : goal.returns-clause-geometry
returns-clause-geometry g c = c.enter_first.ensures.geometry ∙ c.take_place.ensures.geometry
