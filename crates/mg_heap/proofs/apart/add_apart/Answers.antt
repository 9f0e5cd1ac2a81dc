use Rattle.mg_space.specs.HandedLaws.{fault_same}
use Rattle.mg_space.specs.ViewLaws.{tells_on, fault_on, keeps_on}
use Rattle.mg_space.specs.View.{pool_answer}
use Rattle.mg_heap.proofs.TableLemmas.{whole_before, geometry_later, handed_on, whole_later}
use Rattle.mg_heap.proofs.ApartLemmas.{added_apart}
use Rattle.mg_base.specs.declared.numbers.PageNo.{PageNo}
use Rattle.mg_heap.specs.Apart.{RefusesAddApart}
use Rattle.mg_heap.proofs.HandedLemmas.{alone_of, alone_same}
use Rattle.mg_heap.proofs.PageLemmas.{fits_page}
use Rattle.std.proofs.Common.{inl, length}
use Rattle.mg_heap.proofs.apart.add_apart.Goals as goal

pub returns-clause-adds : goal.returns-clause-adds
returns-clause-adds g c = λ image tells. added_apart g.D.Disk.meaning c.args.store.now
    c.page_with_room.new.store image c.in_ok-page.ensures.keeps c.put_apart.new.store c.args.batch.now
    c.page_with_room.new.batch c.put_apart.new.batch c.args.owner.0 c.needed.result c.in_ok-page.page
    c.args.place c.args.cell.now c.put_apart.result c.needed.ensures
    (c.in_ok-page.ensures.gives image tells) c.put_apart.ensures.page c.put_apart.ensures.changes
    (c.put_apart.ensures.puts image (tells_on g.D.Disk.meaning c.args.store.now
    c.page_with_room.new.store image c.in_ok-page.ensures.keeps tells))

pub returns-clause-keeps : goal.returns-clause-keeps
returns-clause-keeps g c = keeps_on g.D.Disk.meaning g.met.D.Disk.counts_now c.args.store.now
    c.page_with_room.new.store c.put_apart.new.store c.in_ok-page.ensures.keeps c.put_apart.ensures.keeps

pub returns-clause-fault : goal.returns-clause-fault
returns-clause-fault g c = fault_on g.D.Disk.meaning c.args.store.now c.page_with_room.new.store
    c.put_apart.new.store (pool_answer c.put_apart.result) c.in_ok-page.ensures.keeps
    c.in_ok-page.ensures.fault.2 c.put_apart.ensures.fault

pub returns-clause-whole : goal.returns-clause-whole
returns-clause-whole g c = whole_before g.D.Disk.meaning c.args.store.now c.page_with_room.new.store
    c.in_ok-page.ensures.keeps c.put_apart.new.batch.pages c.put_apart.ensures.whole

pub returns-in_err-page-clause-keeps : goal.returns-in_err-page-clause-keeps
returns-in_err-page-clause-keeps g c = c.in_err-page.ensures.keeps

pub returns-in_err-page-clause-fault : goal.returns-in_err-page-clause-fault
returns-in_err-page-clause-fault g c = fault_same PageNo g.D.Disk.meaning c.args.store.now
    c.page_with_room.new.store c.from_residual.result c.in_err-page.field-0.0 c.from_residual.ensures.0
    c.from_residual.ensures.1 c.in_err-page.ensures.fault

pub returns-in_err-page-clause-own : goal.returns-in_err-page-clause-own
returns-in_err-page-clause-own g c = alone_same PageNo c.from_residual.result c.in_err-page.field-0.0
    c.from_residual.ensures.0 c.from_residual.ensures.1 c.in_err-page.ensures.own

pub returns-in_err-page-clause-whole : goal.returns-in_err-page-clause-whole
returns-in_err-page-clause-whole g c = c.in_err-page.ensures.whole

pub returns-in_err-page-clause-adds : goal.returns-in_err-page-clause-adds
returns-in_err-page-clause-adds g c = λ image tells. handed_on c.from_residual.result
    c.in_err-page.field-0.0 _ (RefusesAddApart g.D.Disk.meaning c.args.store.now c.page_with_room.new.store
    image c.args.batch.now c.args.owner.0 c.args.place c.args.cell.now) c.from_residual.ensures.0
    c.from_residual.ensures.1 (inl (c.in_err-page.ensures.gives image tells))

pub returns-clause-own : goal.returns-clause-own
returns-clause-own g c = alone_of c.put_apart.result c.put_apart.ensures.own

pub needed-requires : goal.needed-requires
needed-requires g c = fits_page (length c.args.cell.now) c.args.store.now.geometry.size
    c.requires.geometry.size c.requires.length

pub put_apart-requires-clause-pool : goal.put_apart-requires-clause-pool
put_apart-requires-clause-pool g c = c.in_ok-page.ensures.keeps.pool

pub put_apart-requires-clause-geometry : goal.put_apart-requires-clause-geometry
put_apart-requires-clause-geometry g c = geometry_later g.D.Disk.meaning c.args.store.now
    c.page_with_room.new.store c.in_ok-page.ensures.keeps c.requires.geometry

pub put_apart-requires-clause-whole : goal.put_apart-requires-clause-whole
put_apart-requires-clause-whole g c = whole_later g.D.Disk.meaning c.args.store.now
    c.page_with_room.new.store c.in_ok-page.ensures.keeps c.page_with_room.new.batch.pages
    c.in_ok-page.ensures.whole

pub put_apart-requires-clause-length : goal.put_apart-requires-clause-length
put_apart-requires-clause-length g c = fits_page (length c.args.cell.now) c.args.store.now.geometry.size
    c.requires.geometry.size c.requires.length
