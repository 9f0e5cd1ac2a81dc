-- How the command ends, and what the sink took.
use Rattle.std.specs.Prelude.{◌≡◌, List, ℕ, ◌++◌, length, Some, Result, Ok, Err, refl}
use Rattle.std.proofs.Common.{sym, subst, ap, ◌∙◌, arith}
use Rattle.std.proofs.lemmas.List.{take_all}
use Rattle.mg_base.specs.Disk.{Meaning}
use Rattle.mg_base.specs.Streams.{Puts, SinkMeaning}
use Rattle.mg_file_figures.specs.declared.figures.FileFigures.{FileFigures}
use Rattle.mg_limbo_report.specs.Report.{EndsWith}
use Rattle.mg_limbo_report.specs.declared.ending.LookEnd.{LookEnd}
use Rattle.mg_limbo_report.specs.declared.ending.LookEnd.TheVariants.{Told, Stream, Refused}
use Rattle.mg_model.specs.declared.refusal.Refusal.{Refusal}
use Rattle.mg_model.specs.declared.refusal.Refusal.TheVariants as refusals
use Rattle.mg_run_ends.specs.Ends.{FailsWith}
use Rattle.mg_run_ends.specs.Printing.{IsPrinted}
use Rattle.mg_stat_report.specs.StatText.{stat_text}
use Rattle.mg_stat_report.specs.Telling.{SaysFigures, Tells, TellsFigures}

-- what a sink took of one piece
printed_by_puts : {K T E : Type 0} (n : SinkMeaning K) (old new : K) (piece : List ℕ) (result : Result T E)
    → Puts n old new piece result → IsPrinted n old new piece
printed_by_puts n old new piece (Ok x) puts = record {
  prefix = λ before is. (
    length piece,
    puts.written before is
        ∙ ap (λ (taken : List ℕ). Some (before ++ taken)) (sym (take_all (length piece) piece (omega arith))),
  );
  whole = λ steady before is. puts.written before is;
}
printed_by_puts n old new piece (Err e) puts = record {
  prefix = puts.failed;
  whole = λ steady before is. absurd (steady (puts.cause refl));
}

-- the lines of figures were put into it
pub figures_put : {K T E : Type 0} (n : SinkMeaning K) (old new : K) (it : FileFigures) (piece : List ℕ)
    (result : Result T E) → Puts n old new piece result → piece ≡ stat_text it
    → TellsFigures (λ one. one ≡ it) n old new
figures_put n old new it piece result puts is = record {
  figures = it;
  told = refl;
  printed = subst (IsPrinted n old new) is (printed_by_puts n old new piece result puts);
}

-- where the disk did not fail, what is told of its figures is no fault of it
pub figures_end : {D K : Type 0} (m : Meaning D) (a b : D) (n : SinkMeaning K) (old new : K) (it : FileFigures)
    (end : LookEnd) → SaysFigures n old new it end → m.faults b ≡ m.faults a → EndsWith m a b end
figures_end m a b n old new it Told says stands = stands
figures_end m a b n old new it Stream says stands = stands
figures_end m a b n old new it (Refused refusal) says stands =
    subst (FailsWith m a b) (sym says.0) stands

-- more is known of what was told
tells_on : {K : Type 0} (P Q : FileFigures → Type 0) (R S : Refusal → Type 0) (n : SinkMeaning K)
    (old new : K) (end : LookEnd) → ((it : FileFigures) → P it → Q it)
    → ((refusal : Refusal) → R refusal → S refusal) → Tells P R n old new end
    → Tells Q S n old new end
tells_on P Q R S n old new Told figures refusals_ tells = (
  record {
    figures = tells.0.figures;
    told = figures tells.0.figures tells.0.told;
    printed = tells.0.printed;
  },
  tells.1,
)
tells_on P Q R S n old new Stream figures refusals_ tells = (
  record {
    figures = tells.0.figures;
    told = figures tells.0.figures tells.0.told;
    printed = tells.0.printed;
  },
  tells.1,
)
tells_on P Q R S n old new (Refused refusal) figures refusals_ tells =
    (refusals_ refusal tells.0, tells.1)

-- figures are told
pub figures_tell : {K : Type 0} (P : FileFigures → Type 0) (R : Refusal → Type 0) (n : SinkMeaning K)
    (old new : K) (it : FileFigures) (end : LookEnd) → SaysFigures n old new it end → P it
    → R refusals.Memory → Tells P R n old new end
figures_tell P R n old new it end says told memory = tells_on (λ one. one ≡ it) P
    (λ one. one ≡ refusals.Memory) R n old new end (λ one is. subst P (sym is) told)
    (λ one is. subst R (sym is) memory) says
