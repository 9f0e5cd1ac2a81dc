use Rattle.std.specs.Option.{option_copied}
use Rattle.mg_records.specs.Keeping.{refusal_in}
use Rattle.mg_engine.specs.Places.{places}
use Rattle.mg_engine.proofs.ReadLemmas.{may_scan, scans_apart, scans_fit, still_scans, visits_as, visits_undamaged}
use Rattle.mg_engine.proofs.AskedLemmas.{unwritten_as}
use Rattle.mg_engine.proofs.ToldLemmas.{room_as, told_as}
use Rattle.mg_engine.proofs.RoomLemmas.{reads_room}
use Rattle.mg_engine_meaning_laws.specs.Meaning.{means}
use Rattle.mg_no_damage_laws.specs.AlikeRoom.{answers_with, nears_with, quietly_with, room_with, sessions_with, undamaged_with, visits_with}
use Rattle.mg_engine.proofs.keeping.EngineRecords.scan_step.Goals as goal

pub scan_step-visited-requires-clause-may : goal.scan_step-visited-requires-clause-may
scan_step-visited-requires-clause-may g c = may_scan g.D.Disk.meaning c.self.inside.core c.args.self.now c.self.view_is
    c.self.invariant c.args.t.0 c.args.table.now.name c.args.table.now c.requires.table

pub invariant_of-self : goal.invariant_of-self
invariant_of-self g c = record {
  lawful = c.scan_step-visited.ensures.core;
  apart = scans_apart g.D.Disk.meaning c.self.inside.core c.scan_step-visited.new.self c.args.t c.args.table.now
      c.copied-place.result c.scan_step-visited.result c.scan_step-visited.ensures.scans c.self.invariant.apart;
}

pub returns-clause-answers : goal.returns-clause-answers
returns-clause-answers g c = answers_with (means g.D.Disk.meaning places) c.args.self.now c.args.t.0 c.ranked.result
    ((visits_as g.D.Disk.meaning c.self.inside.core c.args.self.now c.scan_step-visited.new.self
    c.self.view_is c.self.invariant c.counts_fit.ensures.0 c.counts_fit.ensures.1 c.visits_go_on.ensures c.args.t
    c.args.table.now c.copied-place.result (option_copied c.args.after) c.ranked.result c.copied-place.ensures
    c.ranked.ensures.rank (still_scans g.D.Disk.meaning c.self.inside.core c.scan_step-visited.new.self c.args.t c.args.table.now
    c.copied-place.result c.ranked.result c.scan_step-visited.result c.ranked.ensures.same c.scan_step-visited.ensures.scans)).answers)

pub returns-clause-nears : goal.returns-clause-nears
returns-clause-nears g c = nears_with (means g.D.Disk.meaning places) c.args.self.now c.scan_step-visited.new.self c.args.t.0 c.args.table.now (option_copied c.args.after) c.ranked.result
    ((visits_as g.D.Disk.meaning c.self.inside.core c.args.self.now c.scan_step-visited.new.self
    c.self.view_is c.self.invariant c.counts_fit.ensures.0 c.counts_fit.ensures.1 c.visits_go_on.ensures c.args.t
    c.args.table.now c.copied-place.result (option_copied c.args.after) c.ranked.result c.copied-place.ensures
    c.ranked.ensures.rank (still_scans g.D.Disk.meaning c.self.inside.core c.scan_step-visited.new.self c.args.t c.args.table.now
    c.copied-place.result c.ranked.result c.scan_step-visited.result c.ranked.ensures.same c.scan_step-visited.ensures.scans)).nears)

pub returns-clause-fits : goal.returns-clause-fits
returns-clause-fits g c = scans_fit g.D.Disk.meaning c.self.inside.core c.scan_step-visited.new.self c.args.t
    c.args.table.now c.copied-place.result c.ranked.result (still_scans g.D.Disk.meaning c.self.inside.core c.scan_step-visited.new.self c.args.t c.args.table.now
    c.copied-place.result c.ranked.result c.scan_step-visited.result c.ranked.ensures.same c.scan_step-visited.ensures.scans)

pub returns-clause-visits : goal.returns-clause-visits
returns-clause-visits g c = λ rows comes. visits_with (means g.D.Disk.meaning places) c.scan_step-visited.new.self c.args.t.0 c.args.table.now c.ranked.result rows
    ((visits_as g.D.Disk.meaning c.self.inside.core c.args.self.now c.scan_step-visited.new.self
    c.self.view_is c.self.invariant c.counts_fit.ensures.0 c.counts_fit.ensures.1 c.visits_go_on.ensures c.args.t
    c.args.table.now c.copied-place.result (option_copied c.args.after) c.ranked.result c.copied-place.ensures
    c.ranked.ensures.rank (still_scans g.D.Disk.meaning c.self.inside.core c.scan_step-visited.new.self c.args.t c.args.table.now
    c.copied-place.result c.ranked.result c.scan_step-visited.result c.ranked.ensures.same c.scan_step-visited.ensures.scans)).visits rows comes)

pub returns-clause-reads : goal.returns-clause-reads
returns-clause-reads g c = reads_room g.D.Disk.meaning places c.args.self.now c.scan_step-visited.new.self _ _
    (room_as g.D.Disk.meaning places c.self.inside.core c.args.self.now
    c.scan_step-visited.new.self c.self.view_is (refusal_in c.ranked.result) 0
    (c.readings_take_none.ensures.visits c.self.inside.core c.scan_step-visited.new.self c.args.t c.args.table.now
    c.copied-place.result c.ranked.result (still_scans g.D.Disk.meaning c.self.inside.core c.scan_step-visited.new.self c.args.t c.args.table.now
    c.copied-place.result c.ranked.result c.scan_step-visited.result c.ranked.ensures.same c.scan_step-visited.ensures.scans)))
    ((visits_as g.D.Disk.meaning c.self.inside.core c.args.self.now c.scan_step-visited.new.self
    c.self.view_is c.self.invariant c.counts_fit.ensures.0 c.counts_fit.ensures.1 c.visits_go_on.ensures c.args.t
    c.args.table.now c.copied-place.result (option_copied c.args.after) c.ranked.result c.copied-place.ensures
    c.ranked.ensures.rank (still_scans g.D.Disk.meaning c.self.inside.core c.scan_step-visited.new.self c.args.t c.args.table.now
    c.copied-place.result c.ranked.result c.scan_step-visited.result c.ranked.ensures.same c.scan_step-visited.ensures.scans)).reads)

pub returns-clause-crash : goal.returns-clause-crash
returns-clause-crash g c = quietly_with (means g.D.Disk.meaning places) c.args.self.now c.scan_step-visited.new.self
    ((visits_as g.D.Disk.meaning c.self.inside.core c.args.self.now c.scan_step-visited.new.self
    c.self.view_is c.self.invariant c.counts_fit.ensures.0 c.counts_fit.ensures.1 c.visits_go_on.ensures c.args.t
    c.args.table.now c.copied-place.result (option_copied c.args.after) c.ranked.result c.copied-place.ensures
    c.ranked.ensures.rank (still_scans g.D.Disk.meaning c.self.inside.core c.scan_step-visited.new.self c.args.t c.args.table.now
    c.copied-place.result c.ranked.result c.scan_step-visited.result c.ranked.ensures.same c.scan_step-visited.ensures.scans)).crash)

pub returns-clause-sessions : goal.returns-clause-sessions
returns-clause-sessions g c = sessions_with (means g.D.Disk.meaning places) c.args.self.now c.scan_step-visited.new.self _ _
    ((visits_as g.D.Disk.meaning c.self.inside.core c.args.self.now c.scan_step-visited.new.self
    c.self.view_is c.self.invariant c.counts_fit.ensures.0 c.counts_fit.ensures.1 c.visits_go_on.ensures c.args.t
    c.args.table.now c.copied-place.result (option_copied c.args.after) c.ranked.result c.copied-place.ensures
    c.ranked.ensures.rank (still_scans g.D.Disk.meaning c.self.inside.core c.scan_step-visited.new.self c.args.t c.args.table.now
    c.copied-place.result c.ranked.result c.scan_step-visited.result c.ranked.ensures.same c.scan_step-visited.ensures.scans)).sessions)

pub returns-clause-told : goal.returns-clause-told
returns-clause-told g c = told_as g.D.Disk.meaning places c.self.inside.core c.args.self.now
    c.scan_step-visited.new.self c.self.view_is (refusal_in c.ranked.result)
    (c.readings_tell_faults.ensures.walks c.self.inside.core c.scan_step-visited.new.self c.args.t
    c.args.table.now c.copied-place.result c.ranked.result (still_scans g.D.Disk.meaning c.self.inside.core c.scan_step-visited.new.self c.args.t c.args.table.now
    c.copied-place.result c.ranked.result c.scan_step-visited.result c.ranked.ensures.same c.scan_step-visited.ensures.scans))

pub returns-clause-undamaged : goal.returns-clause-undamaged
returns-clause-undamaged g c = λ rows comes. undamaged_with (means g.D.Disk.meaning places) c.args.self.now c.scan_step-visited.new.self
    (visits_undamaged g.D.Disk.meaning c.self.inside.core c.args.self.now
    c.scan_step-visited.new.self c.self.view_is c.visits_meet_no_damage.ensures c.args.t c.args.table.now
    c.copied-place.result (option_copied c.args.after) c.ranked.result c.copied-place.ensures c.slots_fit.ensures
    (still_scans g.D.Disk.meaning c.self.inside.core c.scan_step-visited.new.self c.args.t c.args.table.now
    c.copied-place.result c.ranked.result c.scan_step-visited.result c.ranked.ensures.same c.scan_step-visited.ensures.scans) rows comes)

pub returns-clause-room : goal.returns-clause-room
returns-clause-room g c = room_with (means g.D.Disk.meaning places) c.args.self.now c.scan_step-visited.new.self _ _
    (room_as g.D.Disk.meaning places c.self.inside.core c.args.self.now
    c.scan_step-visited.new.self c.self.view_is (refusal_in c.ranked.result) 0
    (c.readings_take_none.ensures.visits c.self.inside.core c.scan_step-visited.new.self c.args.t c.args.table.now
    c.copied-place.result c.ranked.result (still_scans g.D.Disk.meaning c.self.inside.core c.scan_step-visited.new.self c.args.t c.args.table.now
    c.copied-place.result c.ranked.result c.scan_step-visited.result c.ranked.ensures.same c.scan_step-visited.ensures.scans)))

pub returns-clause-unwritten : goal.returns-clause-unwritten
returns-clause-unwritten g c = unwritten_as g.D.Disk.meaning places c.self.inside.core c.args.self.now
    c.scan_step-visited.new.self c.self.view_is
    (c.readings_write_none.ensures.walks c.self.inside.core c.scan_step-visited.new.self c.args.t
    c.args.table.now c.copied-place.result c.ranked.result (still_scans g.D.Disk.meaning c.self.inside.core c.scan_step-visited.new.self c.args.t c.args.table.now
    c.copied-place.result c.ranked.result c.scan_step-visited.result c.ranked.ensures.same c.scan_step-visited.ensures.scans))
