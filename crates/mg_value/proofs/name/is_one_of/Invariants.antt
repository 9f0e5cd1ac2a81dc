use Rattle.std.proofs.Common.{◌≡◌, ℕ, ◌<◌, map, get_or}
use Rattle.mg_value.proofs.name.is_one_of.Given as goal

-- none of the words so far is the one that is sought
abbrev pub invariant-loop-word : goal.invariant-loop-word
invariant-loop-word l = (at : ℕ) → at < l.word-index → get_or (map (λ word. word.now) l.words) at l.bytes ≡ l.bytes → ⊥
