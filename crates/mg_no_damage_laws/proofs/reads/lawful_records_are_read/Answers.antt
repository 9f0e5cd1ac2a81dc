use Rattle.mg_no_damage_laws.proofs.ChainLemmas.{chain_whole, version_there}
use Rattle.mg_no_damage_laws.proofs.RowLemmas.{row_read}
use Rattle.mg_no_damage_laws.proofs.reads.lawful_records_are_read.Goals as goal

pub returns-clause-versions : goal.returns-clause-versions
returns-clause-versions g c = version_there g.D.Disk.meaning c.walks_of_layouts_meet_no_damage.ensures

pub returns-clause-chains : goal.returns-clause-chains
returns-clause-chains g c = chain_whole g.D.Disk.meaning c.walks_of_layouts_meet_no_damage.ensures

pub returns-clause-rows : goal.returns-clause-rows
returns-clause-rows g c = row_read c.one_plain_text.ensures c.one_verdict.ensures.accepted g.D.Disk.meaning
    c.walks_of_layouts_meet_no_damage.ensures c.records_are_those_of_every_reading.ensures.places
