-- What a sink took of one piece.
use Rattle.std.specs.Prelude.{ℕ, List, [], ◌++◌, length, Some, Result, Ok, Err, refl}
use Rattle.std.proofs.Common.{sym, ◌∙◌, ap, arith, append-nil}
use Rattle.std.proofs.lemmas.List.{take_all}
use Rattle.mg_base.specs.Streams.{Puts, SinkMeaning}
use Rattle.mg_run_ends.specs.Printing.{IsPrinted}

pub printed_nothing : {K : Type 0} (n : SinkMeaning K) (sink : K) → IsPrinted n sink sink []
printed_nothing n sink = record {
  prefix = λ before is. (0, is ∙ ap Some (sym (append-nil before)));
  whole = λ steady before is. is ∙ ap Some (sym (append-nil before));
}

pub printed_by_puts : {K T E : Type 0} (n : SinkMeaning K) (old new : K) (piece : List ℕ) (result : Result T E)
    → Puts n old new piece result → IsPrinted n old new piece
printed_by_puts n old new piece (Ok x) puts = record {
  prefix = λ before is. (
    length piece,
    puts.written before is
        ∙ ap (λ (taken : List ℕ). Some (before ++ taken)) (sym (take_all (length piece) piece (omega arith))),
  );
  whole = λ steady before is. puts.written before is;
}
printed_by_puts n old new piece (Err e) puts = record {
  prefix = puts.failed;
  whole = λ steady before is. absurd (steady (puts.cause refl));
}
