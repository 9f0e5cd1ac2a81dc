use Rattle.std.proofs.Common.{◌≤◌, ◌∙◌, ap, length, subst, sym, List, []}
use Rattle.std.specs.Option.{option_copied}
use Rattle.mg_value.specs.declared.shape.Column.{Column}
use Rattle.mg_value.specs.declared.shape.TheConstants.{MOST_COLUMNS}
use Rattle.mg_statements.specs.Plain.{plain_of}
use Rattle.mg_plan.specs.Refusing.{columns_in, key_in}
use Rattle.mg_plan.proofs.StatementLemmas.{binds_at}
use Rattle.mg_plan.proofs.bound.bind.Goals as goal

pub bind_in-requires : goal.bind_in-requires
bind_in-requires c = record {
  few = subst (λ (cs : List Column). length cs ≤ MOST_COLUMNS)
      (ap (λ o. columns_in (option_copied o)) c.in-Some.is ∙ sym c.as_slice.ensures) c.requires.few;
}

pub returns-in-Some : goal.returns-in-Some
returns-in-Some c =
    binds_at c.as_slice.result.now (columns_in (option_copied c.args.t)) c.in-Some.table.now.shape.key
    (key_in (option_copied c.args.t)) c.args.size (plain_of c.args.s.now) c.bind_in.result
    (c.as_slice.ensures ∙ sym (ap (λ o. columns_in (option_copied o)) c.in-Some.is))
    (sym (ap (λ o. key_in (option_copied o)) c.in-Some.is)) c.bind_in.ensures

pub returns-in-None : goal.returns-in-None
returns-in-None c =
    binds_at [] (columns_in (option_copied c.args.t)) 0 (key_in (option_copied c.args.t)) c.args.size
    (plain_of c.args.s.now) c.bind_in-in-None.result (sym (ap (λ o. columns_in (option_copied o)) c.in-None.is))
    (sym (ap (λ o. key_in (option_copied o)) c.in-None.is)) c.bind_in-in-None.ensures
