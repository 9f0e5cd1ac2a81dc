use Rattle.mg_space.specs.WholeLaws.{whole_kept}
use Rattle.mg_chain.proofs.Steps.{data_refuses, handed_on}
use Rattle.mg_chain.specs.Refusals.{RefusesCellAt}
use Rattle.std.proofs.Common.{◌≡◌, ◌≤◌, ap, arith, length}
use Rattle.mg_base.specs.declared.geometry.Geometry.{Geometry}
use Rattle.mg_space.specs.TakingLaws.{page_sizes}
use Rattle.mg_space.specs.View.{viewed}
use Rattle.mg_chain.proofs.Reading.{cell_fits}
use Rattle.mg_chain.proofs.cells.cell_at.Goals as goal

pub cell_of_bytes-requires : goal.cell_of_bytes-requires
cell_of_bytes-requires g c =
    let most : c.args.store.now.geometry.size ≤ 16384 =
    (page_sizes c.args.store.now.geometry.size c.requires.geometry.size).1 in
    let same : c.hold_data.new.store.geometry.size ≡ c.args.store.now.geometry.size =
    ap (λ (k : Geometry). k.size) c.in_ok-hold_data.ensures.keeps.geometry in
    let long : length c.lent.result.now ≡ c.hold_data.new.store.geometry.size = c.lent.ensures.len in
    cell_fits c.lent.result.now c.args.at.slot c.in-Some.bytes.now c.in-Some.ensures (omega (arith, most, same, long))

pub lent-requires-clause-whole : goal.lent-requires-clause-whole
lent-requires-clause-whole g c = whole_kept g.D.Disk.meaning c.args.store.now c.hold_data.new.store
    c.args.batch.now.pages c.in_ok-hold_data.ensures.keeps c.requires.whole

pub returns-in_err-hold_data-clause-gives : goal.returns-in_err-hold_data-clause-gives
returns-in_err-hold_data-clause-gives g c = λ image tells.
    handed_on c.from_residual.result c.in_err-hold_data.field-0.0 _
    (RefusesCellAt g.D.Disk.meaning c.hold_data.new.store c.args.batch.now.pages
    (viewed c.args.store.now image c.args.batch.now) c.args.at)
    c.from_residual.ensures.0 c.from_residual.ensures.1
    (data_refuses g.D.Disk.meaning c.hold_data.new.store c.args.batch.now.pages
    (viewed c.args.store.now image c.args.batch.now) c.args.at c.in_err-hold_data.field-0.0
    (c.in_err-hold_data.ensures.seen image tells))
