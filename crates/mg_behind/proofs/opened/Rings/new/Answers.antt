use Rattle.std.proofs.Common.{◌≡◌, length, All, sym, subst}
use Rattle.std.proofs.lemmas.List.{length-replicate}
use Rattle.std.proofs.lemmas.List.Elements.{All-replicate}
use Rattle.mg_base.specs.Image.{blank}
use Rattle.mg_behind.proofs.opened.Rings.new.Goals as goal

pub invariant_of-result-clause-spares : goal.invariant_of-result-clause-spares
invariant_of-result-clause-spares c = subst (All (λ page. length page ≡ c.args.size)) (sym c.in_ok-spare.ensures) (All-replicate (λ page. length page ≡ c.args.size) 64 (blank c.args.size) (length-replicate c.args.size 0))
