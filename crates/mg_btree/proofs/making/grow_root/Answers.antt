use Rattle.std.proofs.Common.{rules, ◌∙◌, ap, sym, ◌<◌, refl, subst, Ok, Err, arith}
use Rattle.mg_base.specs.declared.geometry.Geometry.{Geometry}
use Rattle.mg_space.specs.View.{viewed}
use Rattle.mg_space.specs.declared.fault.SpaceFault.TheVariants.{Damaged as OfPage}
use Rattle.mg_btree.specs.declared.growing.TwoPages.{TwoPages}
use Rattle.mg_btree.specs.declared.halves.PageBytes.{PageBytes}
use Rattle.mg_btree.specs.BelowLaws.{root_half, root_whole}
use Rattle.mg_btree.specs.ExitLaws.{online_itself, reads_damage, reads_memory, reads_ok}
use Rattle.mg_btree.specs.GrownLaws.{high_refused, root_put, two_refused}
use Rattle.mg_btree.specs.Making.{SplitsRoot}
use Rattle.mg_btree.specs.OrderLaws.{widens_on, widens_same}
use Rattle.mg_btree.specs.Ordering.{Widens}
use Rattle.mg_btree.specs.RoomyLaws.{root_roomy}
use Rattle.mg_btree.specs.ScanLaws.{reads_err}
use Rattle.mg_space.specs.Taking.{IsGeometry}
use Rattle.mg_btree.specs.Halves.{IsRoomy}
use Rattle.mg_btree.specs.ReadingLaws.{ok_of_err}
use Rattle.mg_btree.proofs.ExitLemmas.{room_wants}
use Rattle.mg_btree.proofs.making.grow_root.Goals as goal

pub returns-then-top-eq65535-clause-reads : goal.returns-then-top-eq65535-clause-reads
returns-then-top-eq65535-clause-reads g c = reads_damage g.D.Disk.meaning c.args.store.now
    c.args.store.now (Ok tt) tt (Err (OfPage c.high_root.result)) c.high_root.result refl
    (online_itself g.D.Disk.meaning c.args.store.now c.requires.pool c.requires.online) refl

pub returns-then-top-eq65535-clause-widens : goal.returns-then-top-eq65535-clause-widens
returns-then-top-eq65535-clause-widens g c = widens_same c.args.store.now.geometry.size
    c.args.batch.now c.args.batch.now refl

pub returns-then-top-eq65535-clause-makes : goal.returns-then-top-eq65535-clause-makes
returns-then-top-eq65535-clause-makes g c = λ image levels tells top stands. high_refused
    c.args.store.now.geometry (viewed c.args.store.now image c.args.batch.now)
    (viewed c.args.store.now image c.args.batch.now) c.args.batch.now c.args.batch.now c.args.top.owner
    c.args.top.page.0 c.args.top.level levels c.args.e.now c.high_root.result
    (Err (OfPage c.high_root.result)) top (omega arith) c.high_root.ensures refl

pub returns-in_err-two-clause-reads : goal.returns-in_err-two-clause-reads
returns-in_err-two-clause-reads g c = reads_err TwoPages g.D.Disk.meaning c.args.store.now
    c.take_two.new.store c.in_err-two.field-0.0 c.from_residual.result c.from_residual.ensures.1
    c.in_err-two.ensures.reads

pub returns-in_err-two-clause-makes : goal.returns-in_err-two-clause-makes
returns-in_err-two-clause-makes g c = λ image levels tells top stands. two_refused
    c.args.store.now.geometry (viewed c.args.store.now image c.args.batch.now)
    (viewed c.args.store.now image c.take_two.new.batch) c.args.batch.now c.take_two.new.batch
    c.args.top.owner c.args.top.page.0 c.args.top.level levels c.args.e.now c.in_err-two.field-0.0
    c.from_residual.result top
    (c.in_err-two.ensures.takes image tells) c.from_residual.ensures.1

pub returns-clause-reads : goal.returns-clause-reads
returns-clause-reads g c = reads_ok g.D.Disk.meaning c.args.store.now c.take_two.new.store
    (Ok c.in_ok-two.two) c.in_ok-two.two c.in_ok-put_growth.field-0 refl c.in_ok-two.ensures.reads

pub returns-clause-widens : goal.returns-clause-widens
returns-clause-widens g c = widens_on c.args.store.now.geometry.size c.args.batch.now
    c.take_two.new.batch c.put_growth.new.batch c.in_ok-two.ensures.widens
    (subst (λ (k : Geometry). Widens k.size c.take_two.new.batch c.put_growth.new.batch)
    c.in_ok-two.ensures.reads.keeps.geometry c.in_ok-put_growth.ensures.widens)

pub returns-clause-roomy : goal.returns-clause-roomy
returns-clause-roomy g c = root_roomy c.args.store.now.geometry.size c.args.top.owner c.args.top.level
    c.take_two.new.batch c.put_growth.new.batch c.args.full c.in_ok-two.two c.args.e.now
    c.in_ok-put_growth.field-0 c.requires.place c.requires.short
    (subst (λ (k : Geometry). SplitsRoot k.size c.take_two.new.batch c.put_growth.new.batch
    c.args.top.owner c.args.top.level c.args.full c.in_ok-two.two c.args.e.now
    c.in_ok-put_growth.field-0) c.in_ok-two.ensures.reads.keeps.geometry
    c.in_ok-put_growth.ensures.splits)

pub returns-clause-makes : goal.returns-clause-makes
returns-clause-makes g c = λ image levels tells top stands.
    let below_highest : c.args.top.level < 65535 = (search rules) in root_put c.args.store.now image
    c.requires.geometry c.args.batch.now c.take_two.new.batch c.put_growth.new.batch c.args.top.owner
    c.args.top.page.0 c.args.top.level levels c.args.full c.in_ok-two.two c.args.e.now
    c.in_ok-put_growth.field-0 stands c.requires.place top below_highest
    (c.in_ok-two.ensures.takes image tells) c.in_ok-two.ensures.alone c.requires.no_room
    (subst (λ (k : Geometry). Widens k.size c.take_two.new.batch c.put_growth.new.batch)
    c.in_ok-two.ensures.reads.keeps.geometry c.in_ok-put_growth.ensures.widens)
    (subst (λ (k : Geometry). SplitsRoot k.size c.take_two.new.batch c.put_growth.new.batch
    c.args.top.owner c.args.top.level c.args.full c.in_ok-two.two c.args.e.now
    c.in_ok-put_growth.field-0) c.in_ok-two.ensures.reads.keeps.geometry
    c.in_ok-put_growth.ensures.splits)

pub returns-in_err-two-clause-widens : goal.returns-in_err-two-clause-widens
returns-in_err-two-clause-widens g c = c.in_err-two.ensures.widens

pub returns-in_err-two-clause-roomy : goal.returns-in_err-two-clause-roomy
returns-in_err-two-clause-roomy g c = ok_of_err (IsRoomy c.args.store.now.geometry.size c.args.top.owner
    c.args.top.level c.args.e.now) _ c.from_residual.result c.from_residual.ensures.1

pub put_growth-requires-clause-geometry : goal.put_growth-requires-clause-geometry
put_growth-requires-clause-geometry g c = subst IsGeometry (sym c.in_ok-two.ensures.reads.keeps.geometry)
    c.requires.geometry

pub put_growth-requires-clause-len : goal.put_growth-requires-clause-len
put_growth-requires-clause-len g c = c.requires.place.len
    ∙ sym (ap (λ (k : Geometry). k.size) c.in_ok-two.ensures.reads.keeps.geometry)

pub put_growth-requires-clause-lawful : goal.put_growth-requires-clause-lawful
put_growth-requires-clause-lawful g c = c.requires.place.lawful

pub returns-in_err-put_growth-clause-reads : goal.returns-in_err-put_growth-clause-reads
returns-in_err-put_growth-clause-reads g c = reads_memory g.D.Disk.meaning c.args.store.now
    c.take_two.new.store (Ok c.in_ok-two.two) c.in_ok-two.two c.from_residual-in_err-put_growth.result
    refl c.in_ok-two.ensures.reads c.from_residual-in_err-put_growth.ensures.1

pub returns-in_err-put_growth-clause-widens : goal.returns-in_err-put_growth-clause-widens
returns-in_err-put_growth-clause-widens g c = widens_on c.args.store.now.geometry.size c.args.batch.now
    c.take_two.new.batch c.put_growth.new.batch c.in_ok-two.ensures.widens
    (subst (λ (k : Geometry). Widens k.size c.take_two.new.batch c.put_growth.new.batch)
    c.in_ok-two.ensures.reads.keeps.geometry c.in_err-put_growth.ensures.widens)

pub returns-in_err-put_growth-clause-roomy : goal.returns-in_err-put_growth-clause-roomy
returns-in_err-put_growth-clause-roomy g c = ok_of_err (IsRoomy c.args.store.now.geometry.size
    c.args.top.owner c.args.top.level c.args.e.now) _ c.from_residual-in_err-put_growth.result
    c.from_residual-in_err-put_growth.ensures.1

pub returns-in_err-put_growth-clause-makes : goal.returns-in_err-put_growth-clause-makes
returns-in_err-put_growth-clause-makes g c = λ image levels tells top stands. room_wants
    c.args.store.now.geometry (viewed c.args.store.now image c.args.batch.now)
    (viewed c.args.store.now image c.put_growth.new.batch) c.args.batch.now c.put_growth.new.batch
    c.args.top.owner c.args.top.page.0 levels c.args.top.level c.args.e.now
    c.from_residual-in_err-put_growth.result c.from_residual-in_err-put_growth.ensures.1

pub returns-in_err-two-clause-half : goal.returns-in_err-two-clause-half
returns-in_err-two-clause-half g c = ok_of_err (λ (half : PageBytes). half.page.0
    < c.args.store.now.geometry.limit) _ c.from_residual.result c.from_residual.ensures.1

pub returns-in_err-put_growth-clause-half : goal.returns-in_err-put_growth-clause-half
returns-in_err-put_growth-clause-half g c = ok_of_err (λ (half : PageBytes). half.page.0
    < c.args.store.now.geometry.limit) _ c.from_residual-in_err-put_growth.result
    c.from_residual-in_err-put_growth.ensures.1

pub returns-clause-whole : goal.returns-clause-whole
returns-clause-whole g c =
    let same = c.in_ok-two.ensures.reads.keeps.geometry in
    root_whole c.args.store.now.geometry c.take_two.new.batch c.put_growth.new.batch c.args.top.owner
    c.args.top.level c.args.full c.in_ok-two.two c.args.e.now c.in_ok-put_growth.field-0 c.requires.below
    c.in_ok-two.ensures.first c.in_ok-two.ensures.second
    (subst (λ (k : Geometry). SplitsRoot k.size c.take_two.new.batch c.put_growth.new.batch
    c.args.top.owner c.args.top.level c.args.full c.in_ok-two.two c.args.e.now
    c.in_ok-put_growth.field-0) same c.in_ok-put_growth.ensures.splits) c.in_ok-two.ensures.whole
    (subst (λ (k : Geometry). Widens k.size c.take_two.new.batch c.put_growth.new.batch) same
    c.in_ok-put_growth.ensures.widens)

pub returns-clause-half : goal.returns-clause-half
returns-clause-half g c =
    root_half c.args.store.now.geometry c.take_two.new.batch c.put_growth.new.batch c.args.top.owner
    c.args.top.level c.args.full c.in_ok-two.two c.args.e.now c.in_ok-put_growth.field-0 c.requires.below
    c.in_ok-two.ensures.first c.in_ok-two.ensures.second
    (subst (λ (k : Geometry). SplitsRoot k.size c.take_two.new.batch c.put_growth.new.batch
    c.args.top.owner c.args.top.level c.args.full c.in_ok-two.two c.args.e.now
    c.in_ok-put_growth.field-0) c.in_ok-two.ensures.reads.keeps.geometry
    c.in_ok-put_growth.ensures.splits)
