use Rattle.std.proofs.Common.{◌∷◌, sym, ap, ◌∙◌, List, ℕ, drop, ◌+◌}
use Rattle.std.specs.Str.Lines.{lines}
use Rattle.std.proofs.lemmas.List.{take_rest}
use Rattle.mg_script.proofs.SplittingLemmas.{lines_at, lines_none}
use Rattle.mg_script.proofs.splitting.first_line.Goals as goal

pub returns-in-Some-clause-first : goal.returns-in-Some-clause-first
returns-in-Some-clause-first c =
    rw take_rest (lines_at c.args.script.now c.in-Some.end c.in-Some.ensures ∙ ap (λ (line : List ℕ). line ∷ lines (drop (c.in-Some.end + 1) c.args.script.now)) (sym c.without_return.ensures))

pub returns-in-None-clause-first : goal.returns-in-None-clause-first
returns-in-None-clause-first c = lines_none c.args.script.now c.in-None.ensures c.requires
