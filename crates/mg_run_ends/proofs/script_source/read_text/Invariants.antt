use Rattle.std.proofs.Common.{◌≡◌, ◌+◌, ◌-◌, ◌++◌, ℕ, List, length, Some}
use Rattle.mg_run_ends.specs.declared.ending.TheConstants.{SCRIPT_MOST}
use Rattle.mg_run_ends.proofs.script_source.read_text.Given as goal

-- what was read, and what is left, are what was left at the start; no call failed
abbrev pub invariant-loop-piece : goal.invariant-loop-piece
invariant-loop-piece g l = record {
  steady : g.S.Source.meaning.faults l.source ≡ g.S.Source.meaning.faults l.fn.source;
  rest : (bytes : List ℕ) → g.S.Source.meaning.left l.fn.source ≡ Some bytes
      → (left : List ℕ) × (g.S.Source.meaning.left l.source ≡ Some left) × (bytes ≡ l.text.items ++ left);
}

abbrev pub decreases-loop-piece : goal.decreases-loop-piece
decreases-loop-piece g l = SCRIPT_MOST + 1 - length l.text.items
