pub mod FigureLemmas
