mod BoardLemmas
mod GivingUpLemmas
mod LinesLemmas
mod StageLemmas
mod StartLemmas
mod SteppingLemmas
