use Rattle.mg_reading.proofs.CellLemmas.{has_at}
use Rattle.std.proofs.Common.{arith, refl}
use Rattle.mg_reading.proofs.FoundLemmas.{pages_more}
use Rattle.std.proofs.lemmas.Result.{IfOk-from_err}
use Rattle.mg_reading.specs.Readable.{HasVersionReading}
use Rattle.mg_reading.proofs.RefusalLemmas.{passed_on}
use Rattle.mg_reading.proofs.reading.read_slots.Goals as goal

pub loop-n-preserved : goal.loop-n-preserved
loop-n-preserved c = (
  c.in_ok-read_page.ensures.found c.loop-n.invariant.0,
  pages_more c.args.image.now c.args.data_pages.now c.loop-n.n-index _ c.loop-n.found.items
      c.read_page.new.found.items (omega arith) refl c.loop-n.invariant.1
      c.in_ok-read_page.ensures.before c.in_ok-read_page.ensures.slots,
)

pub read_page-requires-clause-placed : goal.read_page-requires-clause-placed
read_page-requires-clause-placed c =
    has_at c.args.data_pages.now c.loop-n.n-index _ (omega arith) refl

pub returns-in_err-read_page-clause-found : goal.returns-in_err-read_page-clause-found
returns-in_err-read_page-clause-found c = IfOk-from_err c.from_residual.result _ c.from_residual.ensures.0

pub returns-in_err-read_page-clause-all : goal.returns-in_err-read_page-clause-all
returns-in_err-read_page-clause-all c = IfOk-from_err c.from_residual.result _ c.from_residual.ensures.0

pub returns-in_err-read_page-clause-broken : goal.returns-in_err-read_page-clause-broken
returns-in_err-read_page-clause-broken c = passed_on
    (HasVersionReading c.args.coding c.args.image.now c.args.table.now c.args.data_pages.now)
    (HasVersionReading c.args.coding c.args.image.now c.args.table.now c.args.data_pages.now) (λ read. read)
    c.from_residual.result c.in_err-read_page.field-0.0 c.from_residual.ensures.1
    c.in_err-read_page.ensures.broken

pub read_page-requires-clause-columns : goal.read_page-requires-clause-columns
read_page-requires-clause-columns c = c.requires.columns

pub read_page-requires-clause-tested : goal.read_page-requires-clause-tested
read_page-requires-clause-tested c = c.requires.tested

pub returns-clause-found : goal.returns-clause-found
returns-clause-found c = c.loop-n.invariant.0

pub returns-clause-broken : goal.returns-clause-broken
returns-clause-broken c = tt
