use Rattle.std.proofs.Common.{length, refl}
use Rattle.mg_table_making.specs.Keys.{FailsFree}
use Rattle.mg_table_making.proofs.CoreLemmas.{refused_on}
use Rattle.mg_table_making.proofs.KeyLemmas.{columns_then, none_free, own_fails}
use Rattle.mg_table_making.proofs.keys.free_keys.Goals as goal

pub returns-in_default-clause-free : goal.returns-in_default-clause-free
returns-in_default-clause-free g c = none_free g.D.Disk.meaning c.args.t c.args.keys.now c.args.core.now
    c.in_default.ensures.cases

pub returns-in_err-free_own-clause-free : goal.returns-in_err-free_own-clause-free
returns-in_err-free_own-clause-free g c = refused_on c.from_residual.result c.in_err-free_own.field-0.0 _
    (λ refusal. FailsFree g.D.Disk.meaning c.args.core.now c.free_own.new.core c.args.t c.args.wait (length c.args.keys.now)
    refusal c.args.keys.now) c.from_residual.ensures.0 c.from_residual.ensures.1
    (own_fails g.D.Disk.meaning c.args.core.now c.free_own.new.core c.args.t c.args.wait (length c.args.keys.now)
    c.args.keys.now c.in-Some.columns.now c.in-Some.own.now c.in_err-free_own.field-0.0 c.in-Some.ensures.cases.0
    c.in_err-free_own.ensures.free refl)

pub returns-clause-free : goal.returns-clause-free
returns-clause-free g c = columns_then g.D.Disk.meaning c.args.core.now c.free_own.new.core c.free_columns.new.core c.args.t
    c.args.wait (length c.args.keys.now) c.args.keys.now c.in-Some.columns.now c.in-Some.own.now c.free_columns.result
    c.in-Some.ensures.cases.0 c.in_ok-free_own.ensures.free refl c.free_columns.ensures.free
