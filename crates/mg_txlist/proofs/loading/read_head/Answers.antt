use Rattle.std.proofs.Common.{◌∙◌, ap, List, ℕ}
use Rattle.mg_base.specs.declared.geometry.Geometry.{Geometry}
use Rattle.mg_header.specs.HeaderPage.{the_page}
use Rattle.mg_image.specs.Form.{Pages}
use Rattle.mg_pool.specs.Pool.{shown}
use Rattle.mg_space.specs.HandedLaws.{no_answer, own_as, told_as}
use Rattle.mg_txlist.specs.Refusals.{RefusesHead}
use Rattle.mg_txlist.proofs.ChainLemmas.{head_markers, head_seen, next_least}
use Rattle.mg_txlist.proofs.DrawLemmas.{empty_view, empty_whole}
use Rattle.mg_txlist.proofs.HandedLemmas.{refused_reads}
use Rattle.mg_txlist.proofs.RefusalLemmas.{err_as, head_lacks, lacks_read}
use Rattle.mg_txlist.specs.ReadingLaws.{read_held}
use Rattle.mg_txlist.proofs.loading.read_head.Goals as goal

pub returns-in-Ok-clause-least : goal.returns-in-Ok-clause-least
returns-in-Ok-clause-least g c = next_least _ _ _ _ (head_markers c.in_ok-page.page
    c.as_slice.result.now _ c.in-Ok.header c.open_header.result c.as_slice.ensures
    c.open_header.ensures c.in-Ok.is)

pub returns-in-Ok-clause-most : goal.returns-in-Ok-clause-most
returns-in-Ok-clause-most g c = (head_markers c.in_ok-page.page
    c.as_slice.result.now _ c.in-Ok.header c.open_header.result c.as_slice.ensures
    c.open_header.ensures c.in-Ok.is).greatest

pub returns-in-Ok-clause-held : goal.returns-in-Ok-clause-held
returns-in-Ok-clause-held g c = read_held c.page_of.new.store c.args.batch.now.pages 0 c.in_ok-page.page
    c.requires.empty c.in_ok-page.ensures.read

pub returns-in_err-page-clause-keeps : goal.returns-in_err-page-clause-keeps
returns-in_err-page-clause-keeps g c = c.page_of.ensures.keeps

pub returns-in_err-page-clause-fault : goal.returns-in_err-page-clause-fault
returns-in_err-page-clause-fault g c = told_as (List ℕ) g.D.Disk.meaning c.args.store.now c.page_of.new.store c.from_residual.result
    c.in_err-page.field-0.0 c.from_residual.ensures.1 c.in_err-page.ensures.fault

pub returns-in_err-page-clause-own : goal.returns-in_err-page-clause-own
returns-in_err-page-clause-own g c = own_as (Unit {0}) c.from_residual.result c.in_err-page.field-0.0 c.from_residual.ensures.1
    (refused_reads (List ℕ) g.D.Disk.meaning c.page_of.new.store c.args.batch.now.pages the_page
    c.in_err-page.field-0.0 c.in_err-page.ensures.refusal)

pub returns-in_err-page-clause-refused : goal.returns-in_err-page-clause-refused
returns-in_err-page-clause-refused g c = λ image tells. err_as c.from_residual.result c.in_err-page.field-0.0
    (RefusesHead g.D.Disk.meaning c.page_of.new.store c.args.store.now.geometry.size
    (shown c.args.store.now.dirty image 0)) c.from_residual.ensures.1
    (head_lacks g.D.Disk.meaning c.page_of.new.store c.args.store.now.geometry.size
    (shown c.args.store.now.dirty image 0) c.in_err-page.field-0.0
    (lacks_read (List ℕ) g.D.Disk.meaning c.page_of.new.store c.args.batch.now.pages c.in_err-page.field-0.0
    c.in_err-page.ensures.refusal))

pub returns-in_err-page-clause-reads : goal.returns-in_err-page-clause-reads
returns-in_err-page-clause-reads g c = c.page_of.ensures.reads

pub returns-in_err-page-clause-least : goal.returns-in_err-page-clause-least
returns-in_err-page-clause-least g c = no_answer _ c.from_residual.result c.from_residual.ensures.0

pub returns-in_err-page-clause-most : goal.returns-in_err-page-clause-most
returns-in_err-page-clause-most g c = no_answer _ c.from_residual.result c.from_residual.ensures.0

pub returns-in_err-page-clause-held : goal.returns-in_err-page-clause-held
returns-in_err-page-clause-held g c = no_answer _ c.from_residual.result c.from_residual.ensures.0

pub returns-in_err-page-clause-says : goal.returns-in_err-page-clause-says
returns-in_err-page-clause-says g c = λ image tells. no_answer _ c.from_residual.result c.from_residual.ensures.0

pub returns-in-Ok-clause-keeps : goal.returns-in-Ok-clause-keeps
returns-in-Ok-clause-keeps g c = c.page_of.ensures.keeps

pub returns-in-Ok-clause-fault : goal.returns-in-Ok-clause-fault
returns-in-Ok-clause-fault g c = c.in_ok-page.ensures.fault

pub returns-in-Ok-clause-own : goal.returns-in-Ok-clause-own
returns-in-Ok-clause-own g c = tt

pub returns-in-Ok-clause-says : goal.returns-in-Ok-clause-says
returns-in-Ok-clause-says g c = λ image tells. head_seen c.as_slice.result.now c.in_ok-page.page
    (shown c.args.store.now.dirty image 0) c.geometry-size.result.size c.args.store.now.geometry.size
    c.open_header.result c.in-Ok.header c.as_slice.ensures
    (c.in_ok-page.ensures.seen image tells ∙ ap (λ (v : Pages). v 0)
    (empty_view c.args.store.now image c.args.batch.now c.requires.empty))
    (ap (λ (x : Geometry). x.size) c.geometry-size.ensures) c.open_header.ensures c.in-Ok.is

pub returns-in-Ok-clause-refused : goal.returns-in-Ok-clause-refused
returns-in-Ok-clause-refused g c = λ image tells. tt

pub returns-in-Ok-clause-reads : goal.returns-in-Ok-clause-reads
returns-in-Ok-clause-reads g c = c.page_of.ensures.reads

pub page_of-requires-clause-pool : goal.page_of-requires-clause-pool
page_of-requires-clause-pool g c = c.requires.pool

pub page_of-requires-clause-whole : goal.page_of-requires-clause-whole
page_of-requires-clause-whole g c = empty_whole c.args.store.now.geometry c.args.batch.now.pages c.requires.empty
