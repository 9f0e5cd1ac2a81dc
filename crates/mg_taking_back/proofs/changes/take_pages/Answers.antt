use Rattle.std.proofs.Common.{ap, subst, sym, ◌∙◌}
use Rattle.std.specs.Prelude.{MatchResult}
use Rattle.std.specs.Option.{option_copied}
use Rattle.mg_txlist.specs.TxList.{said}
use Rattle.mg_txlist.specs.declared.list.TxList.{TxList}
use Rattle.mg_taking_back.specs.Changes.{change_of}
use Rattle.mg_taking_back.specs.Keys.{FailsKey, TakesKey}
use Rattle.mg_taking_back.proofs.ChangeLemmas.{pages_come}
use Rattle.mg_taking_back.specs.CoreLaws.{core_store}
use Rattle.mg_taking_back.proofs.changes.take_pages.Goals as goal

pub returns-clause-core : goal.returns-clause-core
returns-clause-core g c = core_store g.D.Disk.meaning c.args.core.now c.take_in.new.store c.requires.core
    c.take_in.ensures.pool c.take_in.ensures.geometry

pub returns-clause-takes : goal.returns-clause-takes
returns-clause-takes g c = pages_come g.D.Disk.meaning c.args.core.now c.take_in.new.store c.args.t.0
    (change_of c.args.number c.args.key c.args.was) c.in-Some.table.now c.take_in.result
    (sym c.table_back.ensures.table ∙ ap option_copied c.in-Some.is)
    (subst (λ (l : TxList). MatchResult c.take_in.result
    (λ x. TakesKey g.D.Disk.meaning c.args.core.now.store c.take_in.new.store (said l) c.args.core.now.live c.args.t.0
    c.in-Some.table.now c.args.key c.args.was)
    (FailsKey g.D.Disk.meaning c.args.core.now.store c.take_in.new.store (said l) c.args.core.now.live c.args.t.0
    c.in-Some.table.now c.args.key c.args.was)) c.new-states.ensures c.take_in.ensures.takes)
