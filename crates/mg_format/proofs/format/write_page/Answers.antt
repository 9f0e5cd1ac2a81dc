use Rattle.std.proofs.Common.{true, ◌≡◌, ◌∙◌, ap, Err}
use Rattle.mg_base.specs.declared.numbers.PageNo.{PageNo}
use Rattle.mg_format.proofs.FormatLemmas.{fail_says, says_then, says_on, stays_after, tells_after, tells_as, writes_as}
use Rattle.mg_format.proofs.WriteLemmas.{both_leave, clean_after, first_leaves, holds_it, off_ok, written_is}
use Rattle.mg_format.proofs.format.write_page.Goals as goal

pub returns-in_err-write_one-clause-writes : goal.returns-in_err-write_one-clause-writes
returns-in_err-write_one-clause-writes g c = λ image tells.
    let told : g.D.Disk.meaning.tells c.put_page.new.store.disk ≡ true =
    c.put_page.ensures.says.tells ∙ tells.told in
    let held = g.met.D.Disk.holds c.put_page.new.store.disk told in
    record {
      bytes = c.args.bytes.now;
      is_new = c.requires.new;
      crash = both_leave g.D.Disk.meaning c.args.store.now c.args.n c.args.bytes.now image
          c.requires.pool c.requires.clean tells g.met.D.Disk.counts_now c.put_page.new.store
          c.in_ok-put_page.ensures.pool c.in_ok-put_page.ensures.geometry
          c.in_ok-put_page.ensures.only held.0 (record { told = told; held = held.1 })
          c.in_ok-put_page.ensures.frame c.in_ok-put_page.ensures.crash c.write_one.new.self
          c.in_err-write_one.ensures.crash;
      written = off_ok c.from_residual-in_err-write_one.result _
          c.from_residual-in_err-write_one.ensures.0;
    }

pub returns-clause-writes : goal.returns-clause-writes
returns-clause-writes g c = λ image tells.
    let told : g.D.Disk.meaning.tells c.put_page.new.store.disk ≡ true =
    c.put_page.ensures.says.tells ∙ tells.told in
    let held = g.met.D.Disk.holds c.put_page.new.store.disk told in
    let told_new : g.D.Disk.meaning.tells c.write_one.new.self.disk ≡ true =
    c.in_ok-write_one.ensures.written.tells ∙ told in
    let held_new = g.met.D.Disk.holds c.write_one.new.self.disk told_new in
    record {
      bytes = c.args.bytes.now;
      is_new = c.requires.new;
      crash = both_leave g.D.Disk.meaning c.args.store.now c.args.n c.args.bytes.now image
          c.requires.pool c.requires.clean tells g.met.D.Disk.counts_now c.put_page.new.store
          c.in_ok-put_page.ensures.pool c.in_ok-put_page.ensures.geometry
          c.in_ok-put_page.ensures.only held.0 (record { told = told; held = held.1 })
          c.in_ok-put_page.ensures.frame c.in_ok-put_page.ensures.crash c.write_one.new.self
          c.in_ok-write_one.ensures.crash;
      written = holds_it g.D.Disk.meaning c.args.store.now c.args.n c.args.bytes.now image
          c.requires.pool c.requires.clean tells g.met.D.Disk.counts_now c.put_page.new.store
          c.in_ok-put_page.ensures.pool c.in_ok-put_page.ensures.geometry
          c.in_ok-put_page.ensures.only held.0 (record { told = told; held = held.1 })
          c.in_ok-put_page.ensures.frame c.in_ok-put_page.ensures.crash c.write_one.new.self
          c.in_ok-write_one.field-0.0 held_new.0
          (written_is c.put_page.new.store c.args.n c.in_ok-write_one.field-0.0
          c.in_ok-put_page.ensures.unordered c.in_ok-write_one.ensures.least)
          c.in_ok-write_one.ensures.written (record { told = told_new; held = held_new.1 });
    }

pub returns-in_err-write_one-clause-says : goal.returns-in_err-write_one-clause-says
returns-in_err-write_one-clause-says g c = fail_says PageNo g.D.Disk.meaning c.args.store.now c.put_page.new.store
    c.write_one.new.self c.in_err-write_one.field-0.0 c.put_page.ensures.says c.in_err-write_one.ensures.refused

pub returns-clause-says : goal.returns-clause-says
returns-clause-says g c = says_then g.D.Disk.meaning c.args.store.now.disk c.put_page.new.store.disk
    c.write_one.new.self.disk c.put_page.ensures.says (says_on g.D.Disk.meaning c.put_page.new.store.disk
    c.write_one.new.self.disk c.in_ok-write_one.ensures.written.time)

pub returns-in_err-put_page-clause-pool : goal.returns-in_err-put_page-clause-pool
returns-in_err-put_page-clause-pool g c = c.put_page.ensures.pool

pub returns-in_err-put_page-clause-geometry : goal.returns-in_err-put_page-clause-geometry
returns-in_err-put_page-clause-geometry g c = c.put_page.ensures.geometry

pub returns-in_err-put_page-clause-clean : goal.returns-in_err-put_page-clause-clean
returns-in_err-put_page-clause-clean g c = off_ok c.from_residual.result _ c.from_residual.ensures.0

pub returns-in_err-put_page-clause-own : goal.returns-in_err-put_page-clause-own
returns-in_err-put_page-clause-own g c = writes_as (Unit {0}) c.from_residual.result c.in_err-put_page.field-0.0 c.from_residual.ensures.1
    c.in_err-put_page.ensures.own

pub returns-in_err-put_page-clause-fault : goal.returns-in_err-put_page-clause-fault
returns-in_err-put_page-clause-fault g c = tells_as (Unit {0}) g.D.Disk.meaning c.args.store.now c.put_page.new.store
    c.from_residual.result c.in_err-put_page.field-0.0 c.from_residual.ensures.1 c.in_err-put_page.ensures.fault

pub returns-in_err-put_page-clause-says : goal.returns-in_err-put_page-clause-says
returns-in_err-put_page-clause-says g c = c.put_page.ensures.says

pub returns-in_err-put_page-clause-steady : goal.returns-in_err-put_page-clause-steady
returns-in_err-put_page-clause-steady g c = off_ok c.from_residual.result _ c.from_residual.ensures.0

pub returns-in_err-put_page-clause-writes : goal.returns-in_err-put_page-clause-writes
returns-in_err-put_page-clause-writes g c = λ image tells. record {
  bytes = c.args.bytes.now;
  is_new = c.requires.new;
  crash = first_leaves g.D.Disk.meaning c.args.store.now c.args.n c.args.bytes.now image c.requires.pool
      c.requires.clean tells c.put_page.new.store c.put_page.ensures.crash;
  written = off_ok c.from_residual.result _ c.from_residual.ensures.0;
}

pub returns-in_err-write_one-clause-pool : goal.returns-in_err-write_one-clause-pool
returns-in_err-write_one-clause-pool g c = c.write_one.ensures.pool

pub returns-in_err-write_one-clause-geometry : goal.returns-in_err-write_one-clause-geometry
returns-in_err-write_one-clause-geometry g c = ap (λ p. p.geometry) c.in_err-write_one.ensures.same ∙ c.put_page.ensures.geometry

pub returns-in_err-write_one-clause-clean : goal.returns-in_err-write_one-clause-clean
returns-in_err-write_one-clause-clean g c = off_ok c.from_residual-in_err-write_one.result _
    c.from_residual-in_err-write_one.ensures.0

pub returns-in_err-write_one-clause-own : goal.returns-in_err-write_one-clause-own
returns-in_err-write_one-clause-own g c = writes_as PageNo c.from_residual-in_err-write_one.result c.in_err-write_one.field-0.0
    c.from_residual-in_err-write_one.ensures.1 c.in_err-write_one.ensures.own

pub returns-in_err-write_one-clause-fault : goal.returns-in_err-write_one-clause-fault
returns-in_err-write_one-clause-fault g c = tells_as PageNo g.D.Disk.meaning c.args.store.now c.write_one.new.self
    c.from_residual-in_err-write_one.result c.in_err-write_one.field-0.0
    c.from_residual-in_err-write_one.ensures.1
    (tells_after {T = PageNo} g.D.Disk.meaning c.args.store.now c.put_page.new.store c.write_one.new.self
    (Err c.in_err-write_one.field-0.0) c.in_ok-put_page.ensures.fault c.in_ok-put_page.ensures.steady
    c.in_err-write_one.ensures.fault)

pub returns-in_err-write_one-clause-steady : goal.returns-in_err-write_one-clause-steady
returns-in_err-write_one-clause-steady g c = off_ok c.from_residual-in_err-write_one.result _
    c.from_residual-in_err-write_one.ensures.0

pub returns-clause-pool : goal.returns-clause-pool
returns-clause-pool g c = c.in_ok-write_one.ensures.written.pool

pub returns-clause-geometry : goal.returns-clause-geometry
returns-clause-geometry g c = c.in_ok-write_one.ensures.written.geometry ∙ c.put_page.ensures.geometry

pub returns-clause-clean : goal.returns-clause-clean
returns-clause-clean g c = clean_after g.D.Disk.meaning c.put_page.new.store c.write_one.new.self c.args.n
    c.in_ok-write_one.field-0.0 c.in_ok-put_page.ensures.only
    (written_is c.put_page.new.store c.args.n c.in_ok-write_one.field-0.0
    c.in_ok-put_page.ensures.unordered c.in_ok-write_one.ensures.least) c.in_ok-write_one.ensures.written

pub returns-clause-own : goal.returns-clause-own
returns-clause-own g c = tt

pub returns-clause-fault : goal.returns-clause-fault
returns-clause-fault g c = stays_after g.D.Disk.meaning c.args.store.now c.put_page.new.store c.write_one.new.self
    c.in_ok-put_page.ensures.fault c.in_ok-write_one.ensures.fault

pub returns-clause-steady : goal.returns-clause-steady
returns-clause-steady g c = c.in_ok-write_one.ensures.written.steady ∙ c.in_ok-put_page.ensures.steady
