use Rattle.mg_no_damage_laws.proofs.TableLemmas.{places_are_known, tables_are_read, visits_are_made, walks_are_whole}
use Rattle.mg_no_damage_laws.proofs.reads.lawful_tables_are_read.Goals as goal

pub returns-clause-walks : goal.returns-clause-walks
returns-clause-walks g c = walks_are_whole g.D.Disk.meaning c.walks_of_layouts_meet_no_damage.ensures

pub returns-clause-places : goal.returns-clause-places
returns-clause-places g c = places_are_known g.D.Disk.meaning c.walks_of_layouts_meet_no_damage.ensures
    c.tables_of_layouts_are_walked.ensures

pub returns-clause-tables : goal.returns-clause-tables
returns-clause-tables g c = tables_are_read g.D.Disk.meaning c.walks_of_layouts_meet_no_damage.ensures
    c.tables_of_layouts_are_walked.ensures c.records_are_those_of_every_reading.ensures.places
    c.one_plain_text.ensures c.one_verdict.ensures.accepted

pub returns-clause-visits : goal.returns-clause-visits
returns-clause-visits g c = visits_are_made g.D.Disk.meaning c.walks_of_layouts_meet_no_damage.ensures
    c.tables_of_layouts_are_walked.ensures c.records_are_those_of_every_reading.ensures.places
    c.one_plain_text.ensures c.one_verdict.ensures.accepted
