use Rattle.std.proofs.Common.{◌∙◌, ◌+◌, ◌≤◌, length, subst, sym}
use Rattle.mg_base.specs.declared.geometry.Geometry.{Geometry}
use Rattle.mg_space.specs.Taking.{IsGeometry}
use Rattle.mg_row_writes.specs.Laying.{FailsEnterOwn, not_entered}
use Rattle.mg_row_writes.proofs.FindLemmas.{handed_on}
use Rattle.mg_row_writes.proofs.LayLemmas.{entered_own}
use Rattle.mg_row_writes.proofs.laying.enter_own.Goals as goal

pub returns-in_err-enter_row-clause-lays : goal.returns-in_err-enter_row-clause-lays
returns-in_err-enter_row-clause-lays g c = handed_on c.from_residual.result c.in_err-enter_row.field-0.0 _
    (FailsEnterOwn g.D.Disk.meaning c.args.store.now c.enter_row.new.store c.args.table.now c.args.rec c.args.write.now
    c.args.v.now) c.from_residual.ensures.0
    c.from_residual.ensures.1 (not_entered c.in_err-enter_row.ensures.enters)

pub returns-clause-lays : goal.returns-clause-lays
returns-clause-lays g c = entered_own g.D.Disk.meaning c.args.store.now c.enter_row.new.store c.replace_newest.new.store
    c.args.table.now c.args.rec c.args.write.now c.args.v.now
    c.replace_newest.result c.in_ok-enter_row.ensures.enters c.replace_newest.ensures.replaces

pub returns-in_err-enter_row-clause-pool : goal.returns-in_err-enter_row-clause-pool
returns-in_err-enter_row-clause-pool g c = c.enter_row.ensures.pool

pub returns-in_err-enter_row-clause-geometry : goal.returns-in_err-enter_row-clause-geometry
returns-in_err-enter_row-clause-geometry g c = c.enter_row.ensures.geometry

pub replace_newest-requires-clause-pool : goal.replace_newest-requires-clause-pool
replace_newest-requires-clause-pool g c = c.enter_row.ensures.pool

pub replace_newest-requires-clause-geometry : goal.replace_newest-requires-clause-geometry
replace_newest-requires-clause-geometry g c = subst IsGeometry (sym c.enter_row.ensures.geometry) c.requires.geometry

pub replace_newest-requires-clause-apart : goal.replace_newest-requires-clause-apart
replace_newest-requires-clause-apart g c = c.requires.apart

pub replace_newest-requires-clause-stored : goal.replace_newest-requires-clause-stored
replace_newest-requires-clause-stored g c = c.requires.stored

pub replace_newest-requires-clause-length : goal.replace_newest-requires-clause-length
replace_newest-requires-clause-length g c = subst
    (λ (it : Geometry). length c.args.v.now.body + 42 ≤ it.size) (sym c.enter_row.ensures.geometry)
    c.requires.length

pub returns-clause-pool : goal.returns-clause-pool
returns-clause-pool g c = c.replace_newest.ensures.pool

pub returns-clause-geometry : goal.returns-clause-geometry
returns-clause-geometry g c = c.replace_newest.ensures.geometry ∙ c.enter_row.ensures.geometry
