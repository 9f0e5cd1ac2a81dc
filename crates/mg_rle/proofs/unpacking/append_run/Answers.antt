use Rattle.std.proofs.Common.{◌++◌, ◌∙◌, ap, List, ℕ, get_or}
use Rattle.std.proofs.lemmas.List.{take-replicate}
use Rattle.mg_rle.proofs.unpacking.append_run.Goals as goal

pub returns-in_ok-append_front-in-Repeat-clause-ok : goal.returns-in_ok-append_front-in-Repeat-clause-ok
returns-in_ok-append_front-in-Repeat-clause-ok c =
    let announced = rw c.in-Repeat.is at c.requires in
    rw c.in-Repeat.is (c.in_ok-append_front-in-Repeat.ensures.ok ∙ ap (λ (t : List ℕ). c.args.out.now.items ++ t) (take-replicate c.in-Repeat.count 128 (get_or c.args.rest.now 1 0) announced.begins.sized.1))
