use Rattle.std.proofs.Common.{List, [], ◌∷◌, sym, subst}
use Rattle.std.specs.Prelude.{MatchResult}
use Rattle.mg_heap.specs.HandedLaws.{reads_same}
use Rattle.mg_heap.specs.Table.{IsTable}
use Rattle.mg_heap.specs.declared.table.TablePages.{TablePages}
use Rattle.mg_image.specs.Form.{Pages}
use Rattle.mg_pool.specs.Pool.{shown}
use Rattle.mg_pool.specs.declared.batch.BatchPage.{BatchPage}
use Rattle.mg_row_writes.specs.Finding.{SpeaksThere}
use Rattle.mg_row_writes.proofs.FindLemmas.{empty_seen, handed_on, through_empty, told_in_place, unwalked}
use Rattle.mg_seek.specs.Candidates.{FoundAmong, RefusesCandidates}
use Rattle.mg_seek.specs.RecordLaws.{as_kept}
use Rattle.mg_seek.specs.Speaking.{RefusesTableRows}
use Rattle.mg_seek.specs.Versions.{wants}
use Rattle.mg_seek.specs.declared.whose.Wanted.TheVariants.{Living}
use Rattle.mg_space.specs.HandedLaws.{fault_same}
use Rattle.mg_space.specs.Taking.{IsGeometry}
use Rattle.mg_space.specs.View.{pool_answer, viewed}
use Rattle.mg_space.specs.ViewLaws.{fault_on, keeps_on}
use Rattle.mg_row_writes.proofs.finding.speaker_in_place.Goals as goal

pub returns-in_err-_pages-clause-keeps : goal.returns-in_err-_pages-clause-keeps
returns-in_err-_pages-clause-keeps g c = c.in_err-_pages.ensures.keeps

pub returns-in_err-_pages-clause-fault : goal.returns-in_err-_pages-clause-fault
returns-in_err-_pages-clause-fault g c = fault_same TablePages g.D.Disk.meaning c.args.store.now
    c.table_pages.new.store c.from_residual.result c.in_err-_pages.field-0.0
    c.from_residual.ensures.0 c.from_residual.ensures.1 c.in_err-_pages.ensures.fault

pub returns-in_err-_pages-clause-own : goal.returns-in_err-_pages-clause-own
returns-in_err-_pages-clause-own g c = reads_same TablePages c.from_residual.result c.in_err-_pages.field-0.0
    c.from_residual.ensures.0 c.from_residual.ensures.1 c.in_err-_pages.ensures.own

pub returns-in_err-_pages-clause-gives : goal.returns-in_err-_pages-clause-gives
returns-in_err-_pages-clause-gives g c = λ image tells. handed_on c.from_residual.result c.in_err-_pages.field-0.0
    (SpeaksThere (g.S.States.state_of c.args.states.now) c.args.live.now (shown c.args.store.now.dirty image)
    c.args.table.now c.args.key.now)
    (RefusesTableRows g.D.Disk.meaning c.table_pages.new.store [] (shown c.args.store.now.dirty image)
    (wants (g.S.States.state_of c.args.states.now) c.args.live.now Living) c.args.table.now)
    c.from_residual.ensures.0 c.from_residual.ensures.1
    (empty_seen c.args.store.now image c.new-batch.result
    (λ (pages : List BatchPage). λ (view : Pages). RefusesTableRows g.D.Disk.meaning c.table_pages.new.store pages view
    (wants (g.S.States.state_of c.args.states.now) c.args.live.now Living) c.args.table.now c.in_err-_pages.field-0.0)
    c.new-batch.ensures.pages
    (unwalked g.D.Disk.meaning c.table_pages.new.store c.new-batch.result.pages
    (viewed c.args.store.now image c.new-batch.result)
    (wants (g.S.States.state_of c.args.states.now) c.args.live.now Living) c.args.table.now c.in_err-_pages.field-0.0
    (c.in_err-_pages.ensures.finds image tells)))

pub returns-clause-keeps : goal.returns-clause-keeps
returns-clause-keeps g c = keeps_on g.D.Disk.meaning g.met.D.Disk.counts_now c.args.store.now c.table_pages.new.store
    c.speaker_among_candidates.new.store c.in_ok-_pages.ensures.keeps c.speaker_among_candidates.ensures.keeps

pub returns-clause-fault : goal.returns-clause-fault
returns-clause-fault g c = fault_on g.D.Disk.meaning c.args.store.now c.table_pages.new.store
    c.speaker_among_candidates.new.store (pool_answer c.speaker_among_candidates.result)
    c.in_ok-_pages.ensures.keeps c.in_ok-_pages.ensures.fault.2 c.speaker_among_candidates.ensures.fault

pub returns-clause-own : goal.returns-clause-own
returns-clause-own g c = c.speaker_among_candidates.ensures.own

pub returns-clause-gives : goal.returns-clause-gives
returns-clause-gives g c = λ image tells. told_in_place (g.S.States.state_of c.args.states.now) c.args.live.now
    (shown c.args.store.now.dirty image) c.args.table.now c.args.key.now (c.args.place ∷ [])
    c.in_ok-_pages._pages.pointers.items c.in_ok-_pages._pages.data_pages.items
    (empty_seen c.args.store.now image c.new-batch.result
    (λ (pages : List BatchPage). λ (view : Pages). IsTable view c.args.table.now.pointer.0
    c.in_ok-_pages._pages.pointers.items c.in_ok-_pages._pages.data_pages.items) c.new-batch.ensures.pages
    (c.in_ok-_pages.ensures.finds image tells))
    g.D.Disk.meaning c.speaker_among_candidates.new.store
    (wants (g.S.States.state_of c.args.states.now) c.args.live.now Living) c.speaker_among_candidates.result
    (through_empty c.args.store.now image c.new-batch.result c.speaker_among_candidates.result
    (λ (view : Pages). FoundAmong (g.S.States.state_of c.args.states.now) c.args.live.now view c.args.table.now
    c.args.key.now (c.args.place ∷ []))
    (λ (pages : List BatchPage). λ (view : Pages). RefusesCandidates g.D.Disk.meaning
    c.speaker_among_candidates.new.store pages view
    (wants (g.S.States.state_of c.args.states.now) c.args.live.now Living) c.args.table.now
    (c.args.place ∷ [])) c.new-batch.ensures.pages
    (as_kept g.D.Disk.meaning c.args.store.now c.table_pages.new.store image c.new-batch.result
    (λ (view : Pages). MatchResult c.speaker_among_candidates.result
    (FoundAmong (g.S.States.state_of c.args.states.now) c.args.live.now view c.args.table.now c.args.key.now
    (c.args.place ∷ []))
    (RefusesCandidates g.D.Disk.meaning c.speaker_among_candidates.new.store c.new-batch.result.pages view
    (wants (g.S.States.state_of c.args.states.now) c.args.live.now Living) c.args.table.now (c.args.place ∷ [])))
    c.in_ok-_pages.ensures.keeps tells (c.speaker_among_candidates.ensures.gives image)))

pub speaker_among_candidates-requires-clause-pool : goal.speaker_among_candidates-requires-clause-pool
speaker_among_candidates-requires-clause-pool g c = c.in_ok-_pages.ensures.keeps.pool

pub speaker_among_candidates-requires-clause-geometry : goal.speaker_among_candidates-requires-clause-geometry
speaker_among_candidates-requires-clause-geometry g c = subst IsGeometry (sym c.in_ok-_pages.ensures.keeps.geometry)
    c.requires.geometry
