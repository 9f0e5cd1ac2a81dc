use Rattle.mg_space.specs.WholeLaws.{whole_kept}
use Rattle.std.proofs.Common.{◌<◌, refl, subst, Ok}
use Rattle.mg_base.specs.declared.geometry.Geometry.{Geometry}
use Rattle.mg_space.specs.BelowLaws.{taken_below}
use Rattle.mg_space.specs.Taking.{PutsInventory}
use Rattle.mg_btree.specs.BelowLaws.{taken_whole}
use Rattle.mg_base.specs.declared.numbers.PageNo.{PageNo}
use Rattle.mg_space.specs.View.{AreWhole, viewed}
use Rattle.mg_space.specs.ViewLaws.{tells_on}
use Rattle.mg_btree.specs.ExitLaws.{reads_ok}
use Rattle.mg_btree.specs.OrderLaws.{alone_next, taken_alone, taken_put, widens_on, widens_same, widens_taken}
use Rattle.mg_btree.specs.ReadingLaws.{reads_on}
use Rattle.mg_btree.specs.RefusalLaws.{refuses_now}
use Rattle.mg_btree.specs.ScanLaws.{reads_err}
use Rattle.mg_btree.specs.TwoLaws.{put_next, refused_next, second_refused, takes_next, two_err, widens_next}
use Rattle.mg_btree.proofs.growing.take_two.Goals as goal

pub returns-in_err-first-clause-reads : goal.returns-in_err-first-clause-reads
returns-in_err-first-clause-reads g c = reads_err PageNo g.D.Disk.meaning c.args.store.now
    c.take_page.new.store c.in_err-first.field-0.0 c.from_residual.result c.from_residual.ensures.1
    (record { keeps = c.in_err-first.ensures.keeps; fault = c.in_err-first.ensures.fault; own = c.in_err-first.ensures.own })

pub returns-in_err-first-clause-widens : goal.returns-in_err-first-clause-widens
returns-in_err-first-clause-widens g c = widens_same c.args.store.now.geometry.size c.args.batch.now
    c.take_page.new.batch c.in_err-first.ensures.same

pub returns-in_err-first-clause-takes : goal.returns-in_err-first-clause-takes
returns-in_err-first-clause-takes g c = λ image tells. two_err c.args.store.now.geometry
    (viewed c.args.store.now image c.args.batch.now) (viewed c.args.store.now image c.take_page.new.batch)
    c.take_page.new.batch c.in_err-first.field-0.0 c.from_residual.result c.from_residual.ensures.1
    (refuses_now c.args.store.now.geometry (viewed c.args.store.now image c.args.batch.now) 1
    c.in_err-first.field-0.0 (c.in_err-first.ensures.takes image tells))

pub returns-in_err-second-clause-reads : goal.returns-in_err-second-clause-reads
returns-in_err-second-clause-reads g c = reads_on g.D.Disk.meaning g.met.D.Disk.counts_now
    c.args.store.now c.take_page.new.store c.take_page-2.new.store (Ok c.in_ok-first.first)
    c.in_ok-first.first c.from_residual-in_err-second.result refl
    (record { keeps = c.in_ok-first.ensures.keeps; fault = c.in_ok-first.ensures.fault; own = c.in_ok-first.ensures.own })
    (reads_err PageNo g.D.Disk.meaning c.take_page.new.store c.take_page-2.new.store
    c.in_err-second.field-0.0 c.from_residual-in_err-second.result
    c.from_residual-in_err-second.ensures.1
    (record { keeps = c.in_err-second.ensures.keeps; fault = c.in_err-second.ensures.fault; own = c.in_err-second.ensures.own }))

pub returns-in_err-second-clause-widens : goal.returns-in_err-second-clause-widens
returns-in_err-second-clause-widens g c = widens_on c.args.store.now.geometry.size c.args.batch.now
    c.take_page.new.batch c.take_page-2.new.batch
    (widens_taken c.args.store.now.geometry c.args.batch.now c.take_page.new.batch
    c.in_ok-first.first.0 c.in_ok-first.ensures.puts)
    (widens_same c.args.store.now.geometry.size c.take_page.new.batch c.take_page-2.new.batch
    c.in_err-second.ensures.same)

pub returns-in_err-second-clause-takes : goal.returns-in_err-second-clause-takes
returns-in_err-second-clause-takes g c = λ image tells. two_err c.args.store.now.geometry
    (viewed c.args.store.now image c.args.batch.now)
    (viewed c.args.store.now image c.take_page-2.new.batch) c.take_page-2.new.batch
    c.in_err-second.field-0.0 c.from_residual-in_err-second.result c.from_residual-in_err-second.ensures.1
    (second_refused c.args.store.now.geometry (viewed c.args.store.now image c.args.batch.now)
    (viewed c.args.store.now image c.take_page.new.batch) c.in_ok-first.first.0 c.in_err-second.field-0.0
    (c.in_ok-first.ensures.takes image tells)
    (refused_next g.D.Disk.meaning c.args.store.now c.take_page.new.store c.in_ok-first.ensures.keeps
    image c.take_page.new.batch c.in_err-second.field-0.0
    (c.in_err-second.ensures.takes image (tells_on g.D.Disk.meaning c.args.store.now
    c.take_page.new.store image c.in_ok-first.ensures.keeps tells))))

pub returns-clause-reads : goal.returns-clause-reads
returns-clause-reads g c =
    let read = reads_on g.D.Disk.meaning g.met.D.Disk.counts_now c.args.store.now c.take_page.new.store
    c.take_page-2.new.store (Ok c.in_ok-first.first) c.in_ok-first.first (Ok c.in_ok-second.second) refl
    (record { keeps = c.in_ok-first.ensures.keeps; fault = c.in_ok-first.ensures.fault; own = c.in_ok-first.ensures.own })
    (record { keeps = c.in_ok-second.ensures.keeps; fault = c.in_ok-second.ensures.fault; own = c.in_ok-second.ensures.own }) in
    reads_ok g.D.Disk.meaning c.args.store.now c.take_page-2.new.store (Ok c.in_ok-second.second)
    c.in_ok-second.second (record { first = c.in_ok-first.first; second = c.in_ok-second.second }) refl read

pub returns-clause-widens : goal.returns-clause-widens
returns-clause-widens g c = widens_on c.args.store.now.geometry.size c.args.batch.now
    c.take_page.new.batch c.take_page-2.new.batch
    (widens_taken c.args.store.now.geometry c.args.batch.now c.take_page.new.batch
    c.in_ok-first.first.0 c.in_ok-first.ensures.puts)
    (widens_next g.D.Disk.meaning c.args.store.now c.take_page.new.store c.in_ok-first.ensures.keeps
    c.take_page.new.batch c.take_page-2.new.batch c.in_ok-second.second.0 c.in_ok-second.ensures.puts)

pub returns-clause-takes : goal.returns-clause-takes
returns-clause-takes g c = λ image tells.
    let keeps = c.in_ok-first.ensures.keeps in
    let wider = widens_next g.D.Disk.meaning c.args.store.now c.take_page.new.store keeps
    c.take_page.new.batch c.take_page-2.new.batch c.in_ok-second.second.0 c.in_ok-second.ensures.puts in (
      viewed c.args.store.now image c.take_page.new.batch,
      record {
        takes = c.in_ok-first.ensures.takes image tells;
        put = wider.has _ (taken_put c.args.store.now.geometry c.args.batch.now c.take_page.new.batch
            c.in_ok-first.first.0 c.in_ok-first.ensures.puts);
      },
      record {
        takes = takes_next g.D.Disk.meaning c.args.store.now c.take_page.new.store keeps image
            c.take_page.new.batch c.take_page-2.new.batch c.in_ok-second.second.0
            (c.in_ok-second.ensures.takes image (tells_on g.D.Disk.meaning c.args.store.now
            c.take_page.new.store image keeps tells));
        put = put_next g.D.Disk.meaning c.args.store.now c.take_page.new.store keeps
            c.take_page.new.batch c.take_page-2.new.batch c.in_ok-second.second.0
            c.in_ok-second.ensures.puts;
      },
    )

pub returns-clause-alone : goal.returns-clause-alone
returns-clause-alone g c = alone_next c.args.batch.now c.take_page.new.batch
    c.take_page-2.new.batch
    (taken_alone c.args.store.now.geometry c.args.batch.now c.take_page.new.batch
    c.in_ok-first.first.0 c.in_ok-first.ensures.puts)
    (taken_alone c.take_page.new.store.geometry c.take_page.new.batch c.take_page-2.new.batch
    c.in_ok-second.second.0 c.in_ok-second.ensures.puts)

pub returns-clause-whole : goal.returns-clause-whole
returns-clause-whole g c =
    let first : AreWhole c.args.store.now.geometry c.take_page.new.batch.pages =
    taken_whole c.args.store.now.geometry c.args.batch.now c.take_page.new.batch c.in_ok-first.first.0
    c.requires.whole c.in_ok-first.ensures.puts in
    taken_whole c.args.store.now.geometry c.take_page.new.batch c.take_page-2.new.batch
    c.in_ok-second.second.0 first
    (subst (λ (k : Geometry). PutsInventory k c.take_page.new.batch c.take_page-2.new.batch
    c.in_ok-second.second.0) c.in_ok-first.ensures.keeps.geometry c.in_ok-second.ensures.puts)

pub returns-clause-first : goal.returns-clause-first
returns-clause-first g c =
    taken_below c.args.store.now.geometry c.in_ok-first.first.0 c.in_ok-first.ensures.puts.below

pub returns-clause-second : goal.returns-clause-second
returns-clause-second g c = subst (λ (k : Geometry). c.in_ok-second.second.0 < k.limit)
    c.in_ok-first.ensures.keeps.geometry
    (taken_below c.take_page.new.store.geometry c.in_ok-second.second.0 c.in_ok-second.ensures.puts.below)

pub take_page-requires-2-clause-whole : goal.take_page-requires-2-clause-whole
take_page-requires-2-clause-whole g c = whole_kept g.D.Disk.meaning c.args.store.now
    c.take_page.new.store c.take_page.new.batch.pages c.in_ok-first.ensures.keeps
    (taken_whole c.args.store.now.geometry c.args.batch.now c.take_page.new.batch c.in_ok-first.first.0
    c.requires.whole c.in_ok-first.ensures.puts)
