mod SeenLemmas
mod FillLemmas
mod MakeLemmas
mod NamingLemmas
