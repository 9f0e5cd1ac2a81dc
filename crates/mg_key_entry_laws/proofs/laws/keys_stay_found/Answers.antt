use Rattle.mg_key_entry_laws.specs.KeyLaws as laws
use Rattle.mg_key_entry_laws.proofs.laws.keys_stay_found.Goals as goal

pub returns-clause-ends : goal.returns-clause-ends
returns-clause-ends c = laws.keys_stay_found

pub returns-clause-pushed : goal.returns-clause-pushed
returns-clause-pushed c = laws.pushed_keys_stay_found
