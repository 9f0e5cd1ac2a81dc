use Rattle.mg_engine_collecting_laws.specs.Remains.{remains_stand}
use Rattle.mg_engine_collecting_laws.proofs.laws.collections_stand.Goals as goal

pub returns : goal.returns
returns c = λ o h table key live es stands given. remains_stand c.garbage_may_go.ensures.covered
    c.garbage_may_go.ensures.erased o h table key live stands es given
