use Rattle.mg_runs.specs.DeviceLaws.{forced_is_entry}
use Rattle.mg_runs.specs.EntryLaws.{blank_is_entry, faulty_is_entry, settled_is_entry}
use Rattle.mg_runs.specs.PromisingLaws.{any_free_begins}
use Rattle.mg_runs.proofs.laws.disks_in_memory_are_entries.Goals as goal

pub returns-clause-blank : goal.returns-clause-blank
returns-clause-blank c = blank_is_entry c.disks_in_memory_are_whole.ensures

pub returns-clause-settled : goal.returns-clause-settled
returns-clause-settled c = settled_is_entry c.disks_in_memory_are_whole.ensures

pub returns-clause-faulty : goal.returns-clause-faulty
returns-clause-faulty c = faulty_is_entry

pub returns-clause-forced : goal.returns-clause-forced
returns-clause-forced c = forced_is_entry

pub returns-clause-any_free : goal.returns-clause-any_free
returns-clause-any_free c = any_free_begins
