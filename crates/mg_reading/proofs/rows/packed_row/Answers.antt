use Rattle.mg_reading.proofs.RowLemmas.{refused_none}
use Rattle.mg_reading.proofs.rows.packed_row.Goals as goal

pub returns-in-Err-BadRun-clause-broken : goal.returns-in-Err-BadRun-clause-broken
returns-in-Err-BadRun-clause-broken c = refused_none c.one_plain_text.ensures
    c.one_verdict.ensures.accepted c.args.shape.now.columns c.args.format c.args.body.now
    c.decode_row.result c.in-Err-BadRun.field-0 c.decode_row.ensures.err c.in-Err-BadRun.is
    (λ other. let known = c.in-Err-BadRun.field-0-is in cc)

pub returns-in-Err-BadRow-clause-broken : goal.returns-in-Err-BadRow-clause-broken
returns-in-Err-BadRow-clause-broken c = refused_none c.one_plain_text.ensures
    c.one_verdict.ensures.accepted c.args.shape.now.columns c.args.format c.args.body.now
    c.decode_row.result c.in-Err-BadRow.field-0 c.decode_row.ensures.err c.in-Err-BadRow.is
    (λ other. let known = c.in-Err-BadRow.field-0-is in cc)
