-- A word that folds to a word of the grammar is spelled as it is.
use Rattle.std.proofs.Common.{◌≡◌, ℕ, List, [], ◌∷◌, sym, ◌∙◌, ap}
use Rattle.mg_sql.specs.declared.token.Kind.{Kind}
use Rattle.mg_sql.specs.declared.token.Kind.TheVariants as kinds
use Rattle.mg_sql.specs.Spelling.{capitals, spelling, IsSpelled, IsWord}

not_empty : (b : ℕ) (bs : List ℕ) → b ∷ bs ≡ [] → ⊥
not_empty b bs h = absurd cc

-- a word has a letter
some_letter : (bytes : List ℕ) → IsWord bytes → capitals bytes ≡ [] → ⊥
some_letter bytes w e = not_empty _ _ (ap capitals (sym w.parts) ∙ e)

pub folded : (k : Kind) (bytes : List ℕ) → IsWord bytes → capitals bytes ≡ spelling k → IsSpelled k bytes
folded kinds.Name bytes w e = absurd (some_letter bytes w e)
folded kinds.Integer bytes w e = absurd (some_letter bytes w e)
folded kinds.Text bytes w e = absurd (some_letter bytes w e)
folded kinds.End bytes w e = absurd (some_letter bytes w e)
folded kinds.Stray bytes w e = absurd (some_letter bytes w e)
folded k bytes w e = e
