use Rattle.mg_space.specs.WholeLaws.{whole_kept, whole_as}
use Rattle.mg_space.specs.ViewLaws.{tells_on}
use Rattle.mg_table_unmaking.specs.Rows.{RefusesRow, row_not_found}
use Rattle.mg_table_unmaking.proofs.ReadLemmas.{handed_on}
use Rattle.mg_table_unmaking.proofs.RowLemmas.{row_then}
use Rattle.mg_table_unmaking.proofs.rows.take_row.Goals as goal

pub returns-in_err-rec-clause-takes : goal.returns-in_err-rec-clause-takes
returns-in_err-rec-clause-takes g c = λ image tells. handed_on c.from_residual.result c.in_err-rec.field-0.0 _
    (RefusesRow g.D.Disk.meaning c.args.store.now c.alone_at.new.store image (g.S.States.state_of c.args.states.now)
    c.args.live.now c.args.t.0 c.args.table.now c.args.key.now c.args.batch.now) c.from_residual.ensures.0
    c.from_residual.ensures.1 (row_not_found (c.in_err-rec.ensures.gives image tells))

pub returns-clause-takes : goal.returns-clause-takes
returns-clause-takes g c = λ image tells. row_then g.D.Disk.meaning c.args.store.now c.alone_at.new.store
    c.back_out.new.store image (g.S.States.state_of c.args.states.now) c.args.live.now c.args.t.0 c.args.table.now
    c.args.key.now c.in_ok-rec.rec c.args.batch.now c.back_out.new.batch c.back_out.result
    (c.in_ok-rec.ensures.gives image tells) c.in_ok-rec.ensures.keeps
    (c.back_out.ensures.takes image (tells_on g.D.Disk.meaning c.args.store.now c.alone_at.new.store image
    c.in_ok-rec.ensures.keeps tells))

pub returns-clause-whole : goal.returns-clause-whole
returns-clause-whole g c = whole_as c.alone_at.new.store.geometry c.args.store.now.geometry c.back_out.new.batch.pages
    c.in_ok-rec.ensures.keeps.geometry c.back_out.ensures.whole

pub back_out-requires-clause-whole : goal.back_out-requires-clause-whole
back_out-requires-clause-whole g c = whole_kept g.D.Disk.meaning c.args.store.now
    c.alone_at.new.store c.args.batch.now.pages
    c.in_ok-rec.ensures.keeps c.requires.whole
