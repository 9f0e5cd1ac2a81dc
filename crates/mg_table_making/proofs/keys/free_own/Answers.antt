use Rattle.std.proofs.Common.{refl, sym, ◌∙◌}
use Rattle.mg_table_making.specs.Keys.{FailsOwnKey, own_hindered, own_seen, own_spoken, own_unread}
use Rattle.mg_table_making.proofs.CoreLemmas.{refused_on}
use Rattle.mg_table_making.proofs.KeyLemmas.{some_spoken}
use Rattle.mg_table_making.proofs.keys.free_own.Goals as goal

pub returns-in_err-found-clause-free : goal.returns-in_err-found-clause-free
returns-in_err-found-clause-free g c = refused_on c.from_residual.result c.in_err-found.field-0.0 _
    (FailsOwnKey g.D.Disk.meaning c.args.core.now c.read_key.new.core c.args.t c.args.wait c.args.count c.args.key.now)
    c.from_residual.ensures.0 c.from_residual.ensures.1 (own_unread c.in_err-found.ensures.reads)

pub returns-in_err-pass_record-clause-free : goal.returns-in_err-pass_record-clause-free
returns-in_err-pass_record-clause-free g c = refused_on c.from_residual-in_err-pass_record.result c.in_err-pass_record.field-0.0 _
    (FailsOwnKey g.D.Disk.meaning c.args.core.now c.pass_record.new.self c.args.t c.args.wait c.args.count c.args.key.now)
    c.from_residual-in_err-pass_record.ensures.0 c.from_residual-in_err-pass_record.ensures.1
    (own_hindered c.read_key.new.core c.in_ok-found.found c.in_ok-found.ensures.reads (sym c.is_some.ensures ∙ c.if-is_some.false)
    c.in_err-pass_record.ensures.passes)

pub returns-then-is_some-clause-free : goal.returns-then-is_some-clause-free
returns-then-is_some-clause-free g c = own_seen c.in_ok-found.found c.in_ok-found.ensures.reads
    (sym c.is_some.ensures ∙ c.if-is_some.true) refl

pub returns-clause-free : goal.returns-clause-free
returns-clause-free g c = own_spoken c.read_key.new.core c.pass_record.new.self c.in_ok-found.found
    c.in_ok-found.ensures.reads (sym c.is_some.ensures ∙ c.if-is_some.false)
    (some_spoken c.in_ok-found.found.rec c.is_none.result c.is_none.ensures c.if-is_none.false)
    c.in_ok-pass_record.ensures.passes c.out_of_place.ensures.tells
