-- What was read moves from what is left to the script.
use Rattle.std.proofs.Common.{◌≡◌, ◌∙◌, ◌++◌, List, ℕ, take, drop, sym, ap, append_assoc}
use Rattle.std.proofs.lemmas.List.{take-append-drop}
use Rattle.mg_run_ends.proofs.script_source.read_text.Goals as goal

pub loop-piece-preserved : goal.loop-piece-preserved
loop-piece-preserved g c = record {
  steady = c.in-Ok.ensures.steady ∙ c.loop-piece.invariant.steady;
  rest = λ bytes left.
      let before = c.loop-piece.invariant.rest bytes left in
      let front = c.in-Ok.ensures.front before.0 before.1 in (
        drop c.in-Ok.count before.0,
        front.2,
        moved bytes c.loop-piece.text.items before.0 c.take.new.into c.append.new.text.items c.in-Ok.count before.2
            c.if-not-append.ensures front.1,
      );
}
  where
    moved : (bytes script left into script' : List ℕ) (n : ℕ) → bytes ≡ script ++ left
        → script' ≡ script ++ take n into → take n into ≡ take n left
        → bytes ≡ script' ++ drop n left
    moved bytes script left into script' n is read same =
        is ∙ (ap (λ (xs : List ℕ). script ++ xs) (sym (take-append-drop n left))
        ∙ (sym (append_assoc script (take n left) (drop n left))
        ∙ ap (λ (xs : List ℕ). xs ++ drop n left) (ap (λ (xs : List ℕ). script ++ xs) (sym same) ∙ sym read)))
