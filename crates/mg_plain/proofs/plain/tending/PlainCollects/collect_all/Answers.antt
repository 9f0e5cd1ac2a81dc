use Rattle.std.proofs.Common.{[], List, refl, subst, sym}
use Rattle.mg_tending.specs.Collecting.{IsLeft, Kept}
use Rattle.mg_plain.proofs.plain.tending.PlainCollects.collect_all.Goals as goal

pub returns-clause-collects : goal.returns-clause-collects
returns-clause-collects c = λ o h stands table committed place has versions kept. record {
  left = [];
  kept = refl;
  is = subst (λ (vs : List Kept). IsLeft o h vs []) (sym kept) refl;
}
