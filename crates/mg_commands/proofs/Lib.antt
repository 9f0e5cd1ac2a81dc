mod OptionLemmas
mod DecidingLemmas
mod ProgramLemmas
