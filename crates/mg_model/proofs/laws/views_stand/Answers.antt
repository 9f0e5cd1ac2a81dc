use Rattle.mg_model.specs.DeedLaws.{deeds_after_entry, snapshot_stands}
use Rattle.mg_model.specs.EntryLaws.{others_by_event, deeds_by_others_entry, state_others_entry, mode_others_entry, base_others_entry, cut_others_entry, view_others_entry}
use Rattle.mg_model.proofs.laws.views_stand.Goals as goal

pub returns-clause-view : goal.returns-clause-view
returns-clause-view c = λ o h e t apart undrawn.
    view_others_entry o h e t (others_by_event t e apart undrawn)

pub returns-clause-others : goal.returns-clause-others
returns-clause-others c = λ o h e t others. (
  deeds_by_others_entry o h e t others,
  state_others_entry o h e t others,
  mode_others_entry o h e t others,
  base_others_entry o h e t others,
  cut_others_entry o h e t others,
)

pub returns-clause-deeds : goal.returns-clause-deeds
returns-clause-deeds c = deeds_after_entry

pub returns-clause-snapshot : goal.returns-clause-snapshot
returns-clause-snapshot c = snapshot_stands
