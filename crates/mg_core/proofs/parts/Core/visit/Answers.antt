use Rattle.std.proofs.Common.{Err, Option, refl, ◌∙◌}
use Rattle.mg_seek.specs.declared.views.Visit.{Visit}
use Rattle.mg_space.specs.View.{pool_answer}
use Rattle.mg_space.specs.ViewLaws.{fault_on, keeps_on}
use Rattle.mg_core.specs.declared.scanning.Place.{Place}
use Rattle.mg_core.proofs.ScanLemmas.{found_some, keys_own, keys_told, no_next, no_place, no_row}
use Rattle.mg_core.proofs.TableLemmas.{own_again, told_again}
use Rattle.mg_core.proofs.parts.Core.visit.Goals as goal

pub returns-in-Err : goal.returns-in-Err
returns-in-Err g c = record {
  visits = (
    c.in-Err.ensures.keeps,
    told_again (Option Visit) g.D.Disk.meaning c.args.self.now.store c.view_step.new.store c.in-Err.fault
        c.in-Err.ensures.fault,
    no_next g.D.Disk.meaning c.args.self.now c.view_step.new.store c.new-states.result.list.now c.args.t
        c.args.table.now c.args.after c.record_of-from.result c.new-states.ensures c.record_of-from.ensures
        c.in-Err.fault c.in-Err.ensures.gives,
    refl,
    own_again (Option Visit) c.in-Err.fault c.in-Err.ensures.own,
  );
}

pub returns-in-Err-place_behind : goal.returns-in-Err-place_behind
returns-in-Err-place_behind g c = record {
  visits = (
    keeps_on g.D.Disk.meaning g.met.D.Disk.counts_now c.args.self.now.store c.view_step.new.store
        c.place_behind.new.store c.in-Ok-Some.ensures.keeps c.in-Err-place_behind.ensures.keeps,
    fault_on g.D.Disk.meaning c.args.self.now.store c.view_step.new.store c.place_behind.new.store
        (pool_answer {T = Unit {0}} (Err c.in-Err-place_behind.fault)) c.in-Ok-Some.ensures.keeps c.in-Ok-Some.ensures.fault.2
        (told_again Place g.D.Disk.meaning c.view_step.new.store c.place_behind.new.store
        c.in-Err-place_behind.fault c.in-Err-place_behind.ensures.fault),
    no_place g.D.Disk.meaning c.args.self.now c.view_step.new.store c.new-states.result.list.now c.args.t
        c.args.table.now c.args.after c.record_of-from.result c.new-states.ensures c.record_of-from.ensures
        c.in-Ok-Some.visit c.in-Ok-Some.field-0 c.in-Ok-Some.field-0-is c.in-Ok-Some.ensures.keeps
        c.in-Ok-Some.ensures.gives c.place_behind.new.store
        c.in-Err-place_behind.fault c.in-Err-place_behind.ensures.places,
    refl,
    own_again Place c.in-Err-place_behind.fault c.in-Err-place_behind.ensures.own,
  );
}

pub returns-in-Ok-keyed : goal.returns-in-Ok-keyed
returns-in-Ok-keyed g c = record {
  visits = (
    found_some g.D.Disk.meaning c.args.self.now c.view_step.new.store c.new-states.result.list.now c.args.t
        c.args.table.now c.args.after c.record_of-from.result c.new-states.ensures c.record_of-from.ensures
        c.in-Ok-Some.visit c.in-Ok-Some.field-0 c.in-Ok-Some.field-0-is c.in-Ok-Some.ensures.keeps
        c.in-Ok-Some.ensures.gives c.place_behind.new.store
        c.in-Ok.place c.in-Ok-keyed.row c.in-Ok.ensures.places c.in-Ok.ensures.of c.in-Ok-keyed.ensures.0,
    c.in-Ok.ensures.behind,
    record {
      keeps = keeps_on g.D.Disk.meaning g.met.D.Disk.counts_now c.args.self.now.store c.view_step.new.store
          c.place_behind.new.store c.in-Ok-Some.ensures.keeps c.in-Ok.ensures.keeps;
      online = (
        c.in-Ok-Some.ensures.fault.0,
        c.in-Ok.ensures.fault.1,
        c.in-Ok.ensures.fault.2 ∙ c.in-Ok-Some.ensures.fault.2,
      );
    },
    refl,
    c.in-Ok-keyed.ensures.1,
  );
}

pub returns-in-Err-keyed : goal.returns-in-Err-keyed
returns-in-Err-keyed g c = record {
  visits = (
    keeps_on g.D.Disk.meaning g.met.D.Disk.counts_now c.args.self.now.store c.view_step.new.store
        c.place_behind.new.store c.in-Ok-Some.ensures.keeps c.in-Ok.ensures.keeps,
    keys_told g.D.Disk.meaning c.args.self.now.store c.place_behind.new.store c.args.table.now
        c.in-Ok-Some.visit.rec.page.0 c.in-Ok-Some.visit.row c.in-Err-keyed.fault (
          c.in-Ok-Some.ensures.fault.0,
          c.in-Ok.ensures.fault.1,
          c.in-Ok.ensures.fault.2 ∙ c.in-Ok-Some.ensures.fault.2,
        ) c.in-Err-keyed.ensures,
    no_row g.D.Disk.meaning c.args.self.now c.view_step.new.store c.new-states.result.list.now c.args.t
        c.args.table.now c.args.after c.record_of-from.result c.new-states.ensures c.record_of-from.ensures
        c.in-Ok-Some.visit c.in-Ok-Some.field-0 c.in-Ok-Some.field-0-is c.in-Ok-Some.ensures.keeps
        c.in-Ok-Some.ensures.gives c.place_behind.new.store
        c.in-Err-keyed.fault c.in-Err-keyed.ensures,
    refl,
    keys_own c.args.table.now c.in-Ok-Some.visit.rec.page.0 c.in-Ok-Some.visit.row c.in-Err-keyed.fault
        c.in-Err-keyed.ensures,
  );
}
