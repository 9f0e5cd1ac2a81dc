use Rattle.std.proofs.Common.{◌∙◌, ap, inl, refl, List, ℕ}
use Rattle.mg_image.specs.Form.{Pages}
use Rattle.mg_pool.specs.Pool.{shown}
use Rattle.mg_space.specs.HandedLaws.{no_answer, own_as, told_as}
use Rattle.mg_space.specs.ViewLaws.{keeps_itself}
use Rattle.mg_space.specs.declared.fault.SpaceFault.TheVariants as faults
use Rattle.mg_txlist.specs.Refusals.{RefusesTip}
use Rattle.mg_txlist.proofs.ChainLemmas.{has_states, tested_page}
use Rattle.mg_txlist.proofs.DrawLemmas.{empty_view, empty_whole}
use Rattle.mg_txlist.proofs.HandedLemmas.{fetches_none, refusal_reads, refused_reads}
use Rattle.mg_txlist.proofs.RefusalLemmas.{err_as, tip_differs, tip_read}
use Rattle.mg_txlist.proofs.loading.load_page.Goals as goal

pub returns-clause-tested : goal.returns-clause-tested
returns-clause-tested g c = (
  c.if-at-eq0.false,
  tested_page c.args.at c.args.sequence c.as_slice.result.now
      c.in_ok-bytes.bytes c.check_tip.result c.in_ok-check_tip.field-0 c.as_slice.ensures
      c.check_tip.ensures c.in_ok-check_tip.was,
)

pub returns-in_err-online-clause-keeps : goal.returns-in_err-online-clause-keeps
returns-in_err-online-clause-keeps g c = keeps_itself g.D.Disk.meaning c.args.store.now c.requires.pool

pub returns-in_err-online-clause-fault : goal.returns-in_err-online-clause-fault
returns-in_err-online-clause-fault g c = told_as (Unit {0}) g.D.Disk.meaning c.args.store.now c.args.store.now c.from_residual.result
    (faults.Pool c.in_err-online.field-0.0) c.from_residual.ensures.1 c.in_err-online.ensures.fault

pub returns-in_err-online-clause-own : goal.returns-in_err-online-clause-own
returns-in_err-online-clause-own g c = own_as (Unit {0}) c.from_residual.result (faults.Pool c.in_err-online.field-0.0) c.from_residual.ensures.1
    (refusal_reads c.in_err-online.field-0.0 c.in_err-online.ensures.refusal)

pub returns-in_err-online-clause-refused : goal.returns-in_err-online-clause-refused
returns-in_err-online-clause-refused g c = λ image tells. err_as c.from_residual.result (faults.Pool c.in_err-online.field-0.0)
    (RefusesTip g.D.Disk.meaning c.args.store.now c.args.holder
    (shown c.args.store.now.dirty image) c.args.sequence c.args.at) c.from_residual.ensures.1 tt

pub returns-in_err-online-clause-reads : goal.returns-in_err-online-clause-reads
returns-in_err-online-clause-reads g c = fetches_none g.D.Disk.meaning c.args.store.now c.args.at.0

pub returns-in_err-online-clause-page : goal.returns-in_err-online-clause-page
returns-in_err-online-clause-page g c = no_answer _ c.from_residual.result c.from_residual.ensures.0

pub returns-in_err-online-clause-whole : goal.returns-in_err-online-clause-whole
returns-in_err-online-clause-whole g c = no_answer _ c.from_residual.result c.from_residual.ensures.0

pub returns-in_err-online-clause-tested : goal.returns-in_err-online-clause-tested
returns-in_err-online-clause-tested g c = no_answer _ c.from_residual.result c.from_residual.ensures.0

pub returns-in_err-online-clause-says : goal.returns-in_err-online-clause-says
returns-in_err-online-clause-says g c = λ image tells. no_answer _ c.from_residual.result c.from_residual.ensures.0

pub returns-then-at-eq0-clause-keeps : goal.returns-then-at-eq0-clause-keeps
returns-then-at-eq0-clause-keeps g c = keeps_itself g.D.Disk.meaning c.args.store.now c.requires.pool

pub returns-then-at-eq0-clause-fault : goal.returns-then-at-eq0-clause-fault
returns-then-at-eq0-clause-fault g c = c.in_ok-online.ensures.fault

pub returns-then-at-eq0-clause-own : goal.returns-then-at-eq0-clause-own
returns-then-at-eq0-clause-own g c = tt

pub returns-then-at-eq0-clause-page : goal.returns-then-at-eq0-clause-page
returns-then-at-eq0-clause-page g c = tt

pub returns-then-at-eq0-clause-whole : goal.returns-then-at-eq0-clause-whole
returns-then-at-eq0-clause-whole g c = tt

pub returns-then-at-eq0-clause-tested : goal.returns-then-at-eq0-clause-tested
returns-then-at-eq0-clause-tested g c = tt

pub returns-then-at-eq0-clause-says : goal.returns-then-at-eq0-clause-says
returns-then-at-eq0-clause-says g c = λ image tells. tt

pub returns-then-at-eq0-clause-refused : goal.returns-then-at-eq0-clause-refused
returns-then-at-eq0-clause-refused g c = λ image tells. inl (c.if-at-eq0.true, c.no_link.ensures)

pub returns-then-at-eq0-clause-reads : goal.returns-then-at-eq0-clause-reads
returns-then-at-eq0-clause-reads g c = fetches_none g.D.Disk.meaning c.args.store.now c.args.at.0

pub returns-in_err-bytes-clause-keeps : goal.returns-in_err-bytes-clause-keeps
returns-in_err-bytes-clause-keeps g c = c.page_of.ensures.keeps

pub returns-in_err-bytes-clause-fault : goal.returns-in_err-bytes-clause-fault
returns-in_err-bytes-clause-fault g c = told_as (List ℕ) g.D.Disk.meaning c.args.store.now c.page_of.new.store
    c.from_residual-in_err-bytes.result c.in_err-bytes.field-0.0 c.from_residual-in_err-bytes.ensures.1
    c.in_err-bytes.ensures.fault

pub returns-in_err-bytes-clause-own : goal.returns-in_err-bytes-clause-own
returns-in_err-bytes-clause-own g c = own_as (Unit {0}) c.from_residual-in_err-bytes.result c.in_err-bytes.field-0.0 c.from_residual-in_err-bytes.ensures.1
    (refused_reads (List ℕ) g.D.Disk.meaning c.page_of.new.store c.args.batch.now.pages c.args.at c.in_err-bytes.field-0.0
    c.in_err-bytes.ensures.refusal)

pub returns-in_err-bytes-clause-refused : goal.returns-in_err-bytes-clause-refused
returns-in_err-bytes-clause-refused g c = λ image tells. err_as c.from_residual-in_err-bytes.result c.in_err-bytes.field-0.0
    (RefusesTip g.D.Disk.meaning c.page_of.new.store c.args.holder
    (shown c.args.store.now.dirty image) c.args.sequence c.args.at) c.from_residual-in_err-bytes.ensures.1
    (tip_read (List ℕ) g.D.Disk.meaning c.page_of.new.store c.args.holder
    (shown c.args.store.now.dirty image) c.args.batch.now.pages c.args.sequence c.args.at c.in_err-bytes.field-0.0
    c.if-at-eq0.false c.in_err-bytes.ensures.refusal)

pub returns-in_err-bytes-clause-reads : goal.returns-in_err-bytes-clause-reads
returns-in_err-bytes-clause-reads g c = c.page_of.ensures.reads

pub returns-in_err-bytes-clause-page : goal.returns-in_err-bytes-clause-page
returns-in_err-bytes-clause-page g c = no_answer _ c.from_residual-in_err-bytes.result c.from_residual-in_err-bytes.ensures.0

pub returns-in_err-bytes-clause-whole : goal.returns-in_err-bytes-clause-whole
returns-in_err-bytes-clause-whole g c = no_answer _ c.from_residual-in_err-bytes.result c.from_residual-in_err-bytes.ensures.0

pub returns-in_err-bytes-clause-tested : goal.returns-in_err-bytes-clause-tested
returns-in_err-bytes-clause-tested g c = no_answer _ c.from_residual-in_err-bytes.result c.from_residual-in_err-bytes.ensures.0

pub returns-in_err-bytes-clause-says : goal.returns-in_err-bytes-clause-says
returns-in_err-bytes-clause-says g c = λ image tells. no_answer _ c.from_residual-in_err-bytes.result
    c.from_residual-in_err-bytes.ensures.0

pub returns-in_err-check_tip-clause-keeps : goal.returns-in_err-check_tip-clause-keeps
returns-in_err-check_tip-clause-keeps g c = c.page_of.ensures.keeps

pub returns-in_err-check_tip-clause-fault : goal.returns-in_err-check_tip-clause-fault
returns-in_err-check_tip-clause-fault g c = told_as (Unit {0}) g.D.Disk.meaning c.args.store.now c.page_of.new.store
    c.from_residual-in_err-check_tip.result (faults.Damaged c.in_err-check_tip.field-0.0)
    c.from_residual-in_err-check_tip.ensures.1 c.in_ok-bytes.ensures.fault

pub returns-in_err-check_tip-clause-own : goal.returns-in_err-check_tip-clause-own
returns-in_err-check_tip-clause-own g c = own_as (Unit {0}) c.from_residual-in_err-check_tip.result
    (faults.Damaged c.in_err-check_tip.field-0.0) c.from_residual-in_err-check_tip.ensures.1 tt

pub returns-in_err-check_tip-clause-refused : goal.returns-in_err-check_tip-clause-refused
returns-in_err-check_tip-clause-refused g c = λ image tells. err_as c.from_residual-in_err-check_tip.result
    (faults.Damaged c.in_err-check_tip.field-0.0) (RefusesTip g.D.Disk.meaning c.page_of.new.store c.args.holder
    (shown c.args.store.now.dirty image) c.args.sequence c.args.at) c.from_residual-in_err-check_tip.ensures.1
    (tip_differs g.D.Disk.meaning c.page_of.new.store c.args.holder
    (shown c.args.store.now.dirty image) c.args.sequence c.args.at c.as_slice.result.now c.in_ok-bytes.bytes
    c.check_tip.result c.in_err-check_tip.field-0.0 c.if-at-eq0.false c.as_slice.ensures
    (c.in_ok-bytes.ensures.seen image tells ∙ ap (λ (v : Pages). v c.args.at.0)
    (empty_view c.args.store.now image c.args.batch.now c.requires.empty)) c.check_tip.ensures c.in_err-check_tip.was)

pub returns-in_err-check_tip-clause-reads : goal.returns-in_err-check_tip-clause-reads
returns-in_err-check_tip-clause-reads g c = c.page_of.ensures.reads

pub returns-in_err-check_tip-clause-page : goal.returns-in_err-check_tip-clause-page
returns-in_err-check_tip-clause-page g c = no_answer _ c.from_residual-in_err-check_tip.result
    c.from_residual-in_err-check_tip.ensures.0

pub returns-in_err-check_tip-clause-whole : goal.returns-in_err-check_tip-clause-whole
returns-in_err-check_tip-clause-whole g c = no_answer _ c.from_residual-in_err-check_tip.result
    c.from_residual-in_err-check_tip.ensures.0

pub returns-in_err-check_tip-clause-tested : goal.returns-in_err-check_tip-clause-tested
returns-in_err-check_tip-clause-tested g c = no_answer _ c.from_residual-in_err-check_tip.result
    c.from_residual-in_err-check_tip.ensures.0

pub returns-in_err-check_tip-clause-says : goal.returns-in_err-check_tip-clause-says
returns-in_err-check_tip-clause-says g c = λ image tells. no_answer _ c.from_residual-in_err-check_tip.result
    c.from_residual-in_err-check_tip.ensures.0

pub returns-clause-keeps : goal.returns-clause-keeps
returns-clause-keeps g c = c.page_of.ensures.keeps

pub returns-clause-fault : goal.returns-clause-fault
returns-clause-fault g c = c.in_ok-bytes.ensures.fault

pub returns-clause-own : goal.returns-clause-own
returns-clause-own g c = tt

pub returns-clause-page : goal.returns-clause-page
returns-clause-page g c = refl

pub returns-clause-whole : goal.returns-clause-whole
returns-clause-whole g c = c.in_ok-bytes.ensures.len

pub returns-clause-says : goal.returns-clause-says
returns-clause-says g c = λ image tells. c.in_ok-bytes.ensures.seen image tells ∙ ap (λ (v : Pages). v c.args.at.0)
    (empty_view c.args.store.now image c.args.batch.now c.requires.empty)

pub returns-clause-refused : goal.returns-clause-refused
returns-clause-refused g c = λ image tells. tt

pub returns-clause-reads : goal.returns-clause-reads
returns-clause-reads g c = c.page_of.ensures.reads

pub page_of-requires-clause-pool : goal.page_of-requires-clause-pool
page_of-requires-clause-pool g c = c.requires.pool

pub page_of-requires-clause-whole : goal.page_of-requires-clause-whole
page_of-requires-clause-whole g c = empty_whole c.args.store.now.geometry c.args.batch.now.pages c.requires.empty

pub check_tip-requires : goal.check_tip-requires
check_tip-requires g c = has_states c.args.store.now.geometry c.args.store.now.geometry c.in_ok-bytes.bytes
    c.as_slice.result.now c.requires.geometry refl c.in_ok-bytes.ensures.len c.as_slice.ensures

pub returns-in_err-bytes-clause-below : goal.returns-in_err-bytes-clause-below
returns-in_err-bytes-clause-below g c = no_answer _ c.from_residual-in_err-bytes.result c.from_residual-in_err-bytes.ensures.0

pub returns-in_err-check_tip-clause-below : goal.returns-in_err-check_tip-clause-below
returns-in_err-check_tip-clause-below g c = no_answer _ c.from_residual-in_err-check_tip.result
    c.from_residual-in_err-check_tip.ensures.0

pub returns-clause-below : goal.returns-clause-below
returns-clause-below g c = c.in_ok-bytes.ensures.below

pub returns-in_err-online-clause-below : goal.returns-in_err-online-clause-below
returns-in_err-online-clause-below g c = no_answer _ c.from_residual.result c.from_residual.ensures.0

pub returns-then-at-eq0-clause-below : goal.returns-then-at-eq0-clause-below
returns-then-at-eq0-clause-below g c = tt
