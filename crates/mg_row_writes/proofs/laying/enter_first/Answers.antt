use Rattle.std.proofs.Common.{◌∙◌, ◌+◌, ◌≤◌, length, subst, sym}
use Rattle.mg_base.specs.declared.geometry.Geometry.{Geometry}
use Rattle.mg_space.specs.Taking.{IsGeometry}
use Rattle.mg_row_writes.specs.Laying.{FailsEnterFirst, not_entered}
use Rattle.mg_row_writes.proofs.FindLemmas.{handed_on}
use Rattle.mg_row_writes.proofs.LayLemmas.{entered_first}
use Rattle.mg_row_writes.proofs.laying.enter_first.Goals as goal

pub returns-in_err-enter_row-clause-lays : goal.returns-in_err-enter_row-clause-lays
returns-in_err-enter_row-clause-lays g c = handed_on c.from_residual.result c.in_err-enter_row.field-0.0 _
    (FailsEnterFirst g.D.Disk.meaning c.args.store.now c.enter_row.new.store c.args.table.now c.args.at c.args.write.now
    c.args.v.now) c.from_residual.ensures.0
    c.from_residual.ensures.1 (not_entered c.in_err-enter_row.ensures.enters)

pub returns-clause-lays : goal.returns-clause-lays
returns-clause-lays g c = entered_first g.D.Disk.meaning c.args.store.now c.enter_row.new.store c.make_first.new.store
    c.args.table.now c.args.at c.args.write.now c.args.v.now
    c.make_first.result c.in_ok-enter_row.ensures.enters c.make_first.ensures.makes

pub returns-in_err-enter_row-clause-pool : goal.returns-in_err-enter_row-clause-pool
returns-in_err-enter_row-clause-pool g c = c.enter_row.ensures.pool

pub returns-in_err-enter_row-clause-geometry : goal.returns-in_err-enter_row-clause-geometry
returns-in_err-enter_row-clause-geometry g c = c.enter_row.ensures.geometry

pub make_first-requires-clause-pool : goal.make_first-requires-clause-pool
make_first-requires-clause-pool g c = c.enter_row.ensures.pool

pub make_first-requires-clause-geometry : goal.make_first-requires-clause-geometry
make_first-requires-clause-geometry g c = subst IsGeometry (sym c.enter_row.ensures.geometry) c.requires.geometry

pub make_first-requires-clause-owner : goal.make_first-requires-clause-owner
make_first-requires-clause-owner g c = c.requires.owner

pub make_first-requires-clause-some : goal.make_first-requires-clause-some
make_first-requires-clause-some g c = c.requires.some

pub make_first-requires-clause-apart : goal.make_first-requires-clause-apart
make_first-requires-clause-apart g c = c.requires.apart

pub make_first-requires-clause-stored : goal.make_first-requires-clause-stored
make_first-requires-clause-stored g c = c.requires.stored

pub make_first-requires-clause-length : goal.make_first-requires-clause-length
make_first-requires-clause-length g c = subst
    (λ (it : Geometry). length c.args.v.now.body + 42 ≤ it.size) (sym c.enter_row.ensures.geometry)
    c.requires.length

pub returns-clause-pool : goal.returns-clause-pool
returns-clause-pool g c = c.make_first.ensures.pool

pub returns-clause-geometry : goal.returns-clause-geometry
returns-clause-geometry g c = c.make_first.ensures.geometry ∙ c.enter_row.ensures.geometry
