use Rattle.std.proofs.Common.{refl, sym, subst, ◌≤◌, ◌<◌, ◌/◌, ℕ, length, Ok, Err}
use Rattle.mg_space.specs.View.{viewed}
use Rattle.mg_base.specs.declared.numbers.PageNo.{PageNo}
use Rattle.mg_btree.specs.BelowLaws.{with_whole}
use Rattle.mg_btree.specs.ExitLaws.{online_itself, reads_memory, reads_ok}
use Rattle.mg_btree.specs.PutAtLaws.{put_it, put_refused, put_there, reached_place}
use Rattle.mg_btree.proofs.InsertingLemmas.{place_found, place_not_found, widens_with}
use Rattle.mg_btree.specs.AboveLaws.{sized_by}
use Rattle.mg_btree.specs.OrderLaws.{widens_same}
use Rattle.mg_btree.specs.Ordering.{Widens}
use Rattle.mg_btree.specs.ScanLaws.{reads_err}
use Rattle.mg_btree.specs.declared.halves.PageBytes.{PageBytes}
use Rattle.mg_btree.proofs.ExitLemmas.{insert_wants}
use Rattle.mg_btree.proofs.inserting.put_at.Goals as goal

pub returns-then-has_place-clause-reads : goal.returns-then-has_place-clause-reads
returns-then-has_place-clause-reads g c = online_itself g.D.Disk.meaning c.args.store.now
    c.requires.pool c.requires.online

pub returns-then-has_place-clause-inserts : goal.returns-then-has_place-clause-inserts
returns-then-has_place-clause-inserts g c = λ image owner root levels tells tree no_inventory finds.
    put_there g.D.Disk.meaning c.args.store.now image c.args.batch.now owner root levels c.args.leaf
    (record { page = c.args.leaf.read.page; bytes = c.args.leaf.read.bytes }) c.args.e.now refl refl
    tells tree no_inventory finds c.requires.reached c.requires.child
    (place_found c.deref.result.now c.args.leaf.read.bytes c.args.leaf.read.bytes
    c.args.leaf.read.node.entries.items c.args.e.now c.deref.ensures.value
    c.requires.reached.says.entries refl (c.has_place.ensures.0 c.if-has_place.true))

pub returns-in_err-page-clause-inserts : goal.returns-in_err-page-clause-inserts
returns-in_err-page-clause-inserts g c = λ image owner root levels tells tree no_inventory finds.
    put_refused g.D.Disk.meaning c.args.store.now image c.args.batch.now owner root levels c.args.leaf
    c.as_place.result c.args.e.now c.as_place.ensures.page c.as_place.ensures.bytes tells tree
    no_inventory finds c.requires.reached c.requires.child c.make_room.new.batch
    (Err c.in_err-page.field-0.0) c.in_err-page.ensures.in_place
    (place_not_found c.deref.result.now c.args.leaf.read.bytes c.as_place.result.bytes
    c.args.leaf.read.node.entries.items c.args.e.now c.has_place.result c.deref.ensures.value
    c.requires.reached.says.entries c.as_place.ensures.bytes c.if-has_place.false c.has_place.ensures.1)
    c.in_err-page.ensures.makes (viewed c.args.store.now image c.make_room.new.batch)
    c.make_room.new.batch c.in_err-page.field-0.0 c.from_residual.result refl c.from_residual.ensures.1

pub returns-clause-widens : goal.returns-clause-widens
returns-clause-widens g c = widens_with c.args.store.now.geometry.size c.args.batch.now
    c.make_room.new.batch c.put_with.new.batch c.in_ok-page.page c.args.e.now
    c.in_ok-page.ensures.widens c.in_ok-page.ensures.roomy.place.len c.in_ok-put_with.ensures.puts

pub returns-clause-inserts : goal.returns-clause-inserts
returns-clause-inserts g c = λ image owner root levels tells tree no_inventory finds.
    put_it g.D.Disk.meaning c.args.store.now image c.args.batch.now owner root levels c.args.leaf
    c.as_place.result c.args.e.now c.as_place.ensures.page c.as_place.ensures.bytes tells tree
    no_inventory finds c.requires.reached c.requires.child c.make_room.new.batch (Ok c.in_ok-page.page)
    c.in_ok-page.ensures.in_place
    (place_not_found c.deref.result.now c.args.leaf.read.bytes c.as_place.result.bytes
    c.args.leaf.read.node.entries.items c.args.e.now c.has_place.result c.deref.ensures.value
    c.requires.reached.says.entries c.as_place.ensures.bytes c.if-has_place.false c.has_place.ensures.1)
    c.in_ok-page.ensures.makes c.in_ok-page.page c.put_with.new.batch refl c.in_ok-page.ensures.roomy
    c.in_ok-put_with.ensures.puts

pub returns-then-has_place-clause-widens : goal.returns-then-has_place-clause-widens
returns-then-has_place-clause-widens g c = widens_same c.args.store.now.geometry.size c.args.batch.now
    c.args.batch.now refl

pub make_room-requires-clause-place : goal.make_room-requires-clause-place
make_room-requires-clause-place g c = reached_place c.args.store.now.geometry.size c.args.leaf.top.owner 0
    c.args.e.now c.args.leaf.read c.as_place.result c.as_place.ensures.page c.as_place.ensures.bytes
    c.requires.reached

pub returns-in_err-page-clause-reads : goal.returns-in_err-page-clause-reads
returns-in_err-page-clause-reads g c = reads_err PageBytes g.D.Disk.meaning c.args.store.now
    c.make_room.new.store c.in_err-page.field-0.0 c.from_residual.result c.from_residual.ensures.1
    c.in_err-page.ensures.reads

pub returns-in_err-page-clause-widens : goal.returns-in_err-page-clause-widens
returns-in_err-page-clause-widens g c = c.in_err-page.ensures.widens

pub put_with-requires-clause-sized : goal.put_with-requires-clause-sized
put_with-requires-clause-sized g c = sized_by c.args.store.now.geometry c.in_ok-page.page.bytes
    c.requires.geometry c.in_ok-page.ensures.roomy.place.len

pub put_with-requires-clause-short : goal.put_with-requires-clause-short
put_with-requires-clause-short g c = subst (λ (n : ℕ). length c.args.e.now.key ≤ n / 8)
    (sym c.in_ok-page.ensures.roomy.place.len) c.requires.short

pub returns-in_err-put_with-clause-reads : goal.returns-in_err-put_with-clause-reads
returns-in_err-put_with-clause-reads g c = reads_memory g.D.Disk.meaning c.args.store.now
    c.make_room.new.store (Ok c.in_ok-page.page) c.in_ok-page.page c.from_residual-in_err-put_with.result
    refl c.in_ok-page.ensures.reads c.from_residual-in_err-put_with.ensures.1

pub returns-in_err-put_with-clause-widens : goal.returns-in_err-put_with-clause-widens
returns-in_err-put_with-clause-widens g c = subst (λ b. Widens c.args.store.now.geometry.size
    c.args.batch.now b) (sym c.in_err-put_with.ensures.same) c.in_ok-page.ensures.widens

pub returns-in_err-put_with-clause-inserts : goal.returns-in_err-put_with-clause-inserts
returns-in_err-put_with-clause-inserts g c = λ image owner root levels tells tree no_inventory finds.
    insert_wants c.args.store.now.geometry (viewed c.args.store.now image c.args.batch.now)
    (viewed c.args.store.now image c.put_with.new.batch) c.args.batch.now c.put_with.new.batch owner root
    levels c.args.e.now c.from_residual-in_err-put_with.result c.from_residual-in_err-put_with.ensures.1

pub returns-clause-reads : goal.returns-clause-reads
returns-clause-reads g c = reads_ok g.D.Disk.meaning c.args.store.now c.make_room.new.store
    (Ok c.in_ok-page.page) c.in_ok-page.page tt refl c.in_ok-page.ensures.reads

pub returns-then-has_place-clause-whole : goal.returns-then-has_place-clause-whole
returns-then-has_place-clause-whole g c = c.requires.whole

pub make_room-requires-clause-below : goal.make_room-requires-clause-below
make_room-requires-clause-below g c = subst (λ (p : PageNo). p.0 < c.args.store.now.geometry.limit)
    (sym c.as_place.ensures.page) c.requires.below

pub returns-clause-whole : goal.returns-clause-whole
returns-clause-whole g c = with_whole c.args.store.now.geometry c.make_room.new.batch c.put_with.new.batch
    c.in_ok-page.page c.args.e.now c.in_ok-page.ensures.whole c.in_ok-page.ensures.roomy.place.len
    c.in_ok-page.ensures.half c.in_ok-put_with.ensures.puts
