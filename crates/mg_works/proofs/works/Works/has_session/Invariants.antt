use Rattle.std.proofs.Common.{◌≡◌, drop}
use Rattle.mg_works.specs.Works.{has_session}
use Rattle.mg_works.proofs.works.Works.has_session.Given as goal

-- none of the works before the index is the session's
abbrev pub invariant-loop-work : goal.invariant-loop-work
invariant-loop-work l = has_session (drop l.work-index l.work-items) l.session ≡ has_session l.self l.session
