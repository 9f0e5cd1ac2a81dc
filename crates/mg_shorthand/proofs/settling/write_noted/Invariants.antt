use Rattle.std.proofs.Common.{None, false}
use Rattle.mg_model.specs.declared.opening.Opening.{Opening}
use Rattle.mg_model.specs.History.{Entries}
use Rattle.mg_shorthand.specs.Going.{ReadsOn, Spares}
use Rattle.mg_shorthand.proofs.GoingLemmas.{IsNoted, noted_left}
use Rattle.mg_shorthand.proofs.settling.write_noted.Given as goal

-- pages were written since the start, and nothing else was done
abbrev pub invariant-loop-all : goal.invariant-loop-all
invariant-loop-all g l = record {
  noted : IsNoted g.R.Records.meaning l.r l.t.0 l.all;
  reads : (o : Opening) (h : Entries) → g.R.Records.meaning.stands l.fn.r o h
      → ReadsOn g.R.Records.meaning l.fn.r l.r o h;
  spares : Spares g.R.Records.meaning l.fn.r l.r l.t None false;
}

abbrev pub decreases-loop-all : goal.decreases-loop-all
decreases-loop-all g l = noted_left l.all (g.R.Records.meaning.unwritten l.r)
