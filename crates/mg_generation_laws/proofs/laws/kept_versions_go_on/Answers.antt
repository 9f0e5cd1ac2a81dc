use Rattle.mg_generation_laws.specs.GarbageLaws.{seen_goes_on, whole_stand}
use Rattle.mg_generation_laws.specs.KeptOnwardLaws.{stand_goes_on}
use Rattle.mg_generation_laws.proofs.laws.kept_versions_go_on.Goals as goal

pub returns-clause-whole : goal.returns-clause-whole
returns-clause-whole c = whole_stand

pub returns-clause-onward : goal.returns-clause-onward
returns-clause-onward c = λ o h e table key chain opening legal stand.
    stand_goes_on o opening h e legal table key chain stand

pub returns-clause-seen : goal.returns-clause-seen
returns-clause-seen c = λ o h e u opening legal seen. seen_goes_on o opening h e legal u seen
