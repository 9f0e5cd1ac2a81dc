mod CatalogLemmas
mod FormatLemmas
mod WriteLemmas
