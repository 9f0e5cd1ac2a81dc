use Rattle.mg_engine_change_laws.specs.rows.NotLaidLaws.{not_laid_gives, not_laid_works}
use Rattle.mg_engine_change_laws.proofs.row_writes.outcomes.not_laid_give.Goals as goal

pub returns : goal.returns
returns g c = λ places old new t table write refusal core counted given kept fits failed. (
  not_laid_gives c.a_retracted_change_was_not_kept.ensures g.D.Disk.meaning places g.met.D.Disk.counts_now
      c.first_batches_stay.ensures.reads c.first_batches_stay.ensures.entries
      c.first_batches_stay.ensures.places c.first_batches_stay.ensures.deads
      c.unasking_lasts.ensures c.entries_go_on.ensures.idle c.standings_go_on.ensures c.crashes_hold.ensures.quiet c.histories_go_on.ensures.begins
      c.batches_last.ensures.reads c.page_writes_go_on.ensures.failed old new core counted t table write given kept fits refusal failed,
  not_laid_works c.a_retracted_change_was_not_kept.ensures g.D.Disk.meaning places
      g.met.D.Disk.counts_now c.first_batches_stay.ensures.reads c.first_batches_stay.ensures.entries
      c.first_batches_stay.ensures.places
      c.first_batches_stay.ensures.deads c.unasking_lasts.ensures c.entries_go_on.ensures.idle c.standings_go_on.ensures c.crashes_hold.ensures.quiet
      c.histories_go_on.ensures.begins c.batches_last.ensures.reads c.page_writes_go_on.ensures.failed old new core counted
      t table write given kept fits refusal failed,
)
