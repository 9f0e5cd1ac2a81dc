use Rattle.mg_no_damage_laws.proofs.KeyLemmas.{keys_are_read, obstacles_are_read, speakers_are_read, ways_are_read}
use Rattle.mg_no_damage_laws.proofs.reads.keys_are_read.Goals as goal

pub returns-clause-ways : goal.returns-clause-ways
returns-clause-ways g c = ways_are_read g.D.Disk.meaning c.walks_of_layouts_meet_no_damage.ensures
    c.tables_of_layouts_are_walked.ensures c.records_are_those_of_every_reading.ensures.places
    c.one_plain_text.ensures c.one_verdict.ensures.accepted

pub returns-clause-speakers : goal.returns-clause-speakers
returns-clause-speakers g c = speakers_are_read g.D.Disk.meaning c.walks_of_layouts_meet_no_damage.ensures
    c.tables_of_layouts_are_walked.ensures c.records_are_those_of_every_reading.ensures.places
    c.one_plain_text.ensures c.one_verdict.ensures.accepted

pub returns-clause-obstacles : goal.returns-clause-obstacles
returns-clause-obstacles g c = obstacles_are_read g.D.Disk.meaning c.walks_of_layouts_meet_no_damage.ensures
    c.tables_of_layouts_are_walked.ensures c.records_are_those_of_every_reading.ensures.places
    c.one_plain_text.ensures c.one_verdict.ensures.accepted

pub returns-clause-keys : goal.returns-clause-keys
returns-clause-keys g c = keys_are_read g.D.Disk.meaning c.walks_of_layouts_meet_no_damage.ensures
    c.tables_of_layouts_are_walked.ensures c.records_are_those_of_every_reading.ensures.places
    c.one_plain_text.ensures c.one_verdict.ensures.accepted
