use Rattle.mg_key_entry_laws.specs.KeyLaws.{entries_tell_speakers, speakers_are_found}
use Rattle.mg_key_entry_laws.proofs.laws.entries_tell_the_speaker.Goals as goal

pub returns-clause-tell : goal.returns-clause-tell
returns-clause-tell c = entries_tell_speakers

pub returns-clause-found : goal.returns-clause-found
returns-clause-found c = speakers_are_found
