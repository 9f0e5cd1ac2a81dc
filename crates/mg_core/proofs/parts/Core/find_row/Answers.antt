use Rattle.std.proofs.Common.{Bool, refl, subst}
use Rattle.mg_base.specs.declared.numbers.RecId.{RecId}
use Rattle.mg_core.specs.Writing.{Allows, FailsRow, FindsRow, IsWrong, row_unread, row_wrong}
use Rattle.mg_core.proofs.WriteLemmas.{refused_on}
use Rattle.mg_core.proofs.parts.Core.find_row.Goals as goal

pub returns-in_err-found-clause-finds : goal.returns-in_err-found-clause-finds
returns-in_err-found-clause-finds g c = refused_on c.from_residual.result c.in_err-found.field-0.0
    (FindsRow g.D.Disk.meaning c.args.self.now c.row_of_key.new.self c.args.t c.args.table.now c.args.key.now c.args.write.now)
    (FailsRow g.D.Disk.meaning c.args.self.now c.row_of_key.new.self c.args.t c.args.table.now c.args.key.now c.args.write.now)
    c.from_residual.ensures.0 c.from_residual.ensures.1 (row_unread c.in_err-found.ensures.reads)

pub returns-in-None-clause-finds : goal.returns-in-None-clause-finds
returns-in-None-clause-finds g c = record {
  found = c.in_ok-found.found;
  reads = c.in_ok-found.ensures.reads;
  allows = subst (λ (b : Bool). Allows c.args.write.now b) c.is_some.ensures c.in-None.ensures;
  is = refl;
}

pub returns-clause-finds : goal.returns-clause-finds
returns-clause-finds g c = row_wrong c.in_ok-found.found c.in_ok-found.ensures.reads
    (subst (λ (b : Bool). IsWrong c.args.write.now b c.in-Some.refusal) c.is_some.ensures c.in-Some.ensures)
