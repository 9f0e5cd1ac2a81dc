-- The line of a fault is put in two pieces.
use Rattle.std.proofs.Common.{◌≡◌, ◌∙◌, ◌<◌, ◌-◌, ◌++◌, ℕ, zero, suc, true, false, List, [], ◌∷◌, length, take, Some, inr, refl, sym, ap, subst, arith}
use Rattle.std.specs.Prelude.{All, Result, Ok, Err, slice_get}
use Rattle.std.proofs.lemmas.List.{append_assoc}
use Rattle.std.proofs.lemmas.List.Elements.{All-tail}
use Rattle.mg_base.specs.Disk.{Rose}
use Rattle.mg_base.specs.Streams.{Puts, SinkMeaning}
use Rattle.mg_script.specs.declared.line.TheConstants.{SESSIONS}
use Rattle.mg_transcript.specs.Transcript.{HasItsLetter}
use Rattle.mg_transcript.specs.declared.turn.Spoken.{Spoken}
use Rattle.mg_model.specs.declared.refusal.Refusal.{Refusal}
use Rattle.mg_rows.specs.declared.statement_fault.StatementFault.TheVariants.{Engine}
use Rattle.mg_run_ends.specs.Ends.{has_fixed_line}
use Rattle.mg_script.specs.Texts.{refusal_text}
use Rattle.mg_script.specs.declared.reply.Reply.TheVariants.{No}
use Rattle.mg_scripts.proofs.RunLemmas.{writes_none}
use Rattle.mg_scripts.specs.FaultLines.{fault_line, last_fault, spoken_fault}
use Rattle.mg_scripts.specs.Printing.{PrintsLine, PrintsShort, Writes, WritesFirst}
use Rattle.mg_scripts.specs.declared.lines.LinesEnd.{LinesEnd}
use Rattle.mg_scripts.specs.declared.lines.LinesEnd.TheVariants.{NoMemory, SinkFailed, Stopped, Whole}

-- ---- pieces

-- the first of some bytes are the first of more
front : (a b : List ℕ) (k : ℕ) → (j : ℕ) × (take j (a ++ b) ≡ take k a)
front [] b zero = (0, refl)
front [] b (suc k) = (0, refl)
front (x ∷ a) b zero = (0, refl)
front (x ∷ a) b (suc k) = let rest = front a b k in (suc rest.0, ap (λ (xs : List ℕ). x ∷ xs) rest.1)

-- so are these and the first of those behind them
behind : (a b : List ℕ) (k : ℕ) → (j : ℕ) × (take j (a ++ b) ≡ a ++ take k b)
behind [] b k = (k, refl)
behind (x ∷ a) b k = let rest = behind a b k in (suc rest.0, ap (λ (xs : List ℕ). x ∷ xs) rest.1)

module _ {K : Type 0} (n : SinkMeaning K) where
  pub puts_ok : {T E : Type 0} (old new : K) (piece : List ℕ) (result : Result T E) (x : T) → result ≡ Ok x
      → Puts n old new piece result → Writes n old new piece
  puts_ok {T} {E} old new piece result x is puts = record {
    all = whole.written;
    steady = whole.steady;
  }
    where
      whole : Puts {T = T} {E = E} n old new piece (Ok x)
      whole = subst (λ (r : Result T E). Puts n old new piece r) is puts

  pub puts_err : {T E : Type 0} (old new : K) (piece : List ℕ) (result : Result T E) (e : E) → result ≡ Err e
      → Puts n old new piece result → WritesFirst n old new piece
  puts_err {T} {E} old new piece result e is puts = record {
    some = cut.failed;
    never_falls = cut.never_falls;
    failed = cut.cause refl;
  }
    where
      cut : Puts {T = T} {E = E} n old new piece (Err e)
      cut = subst (λ (r : Result T E). Puts n old new piece r) is puts

  -- the sink failed at the first of two pieces,
  pub first_failed : (old new : K) (a b : List ℕ) → WritesFirst n old new a → WritesFirst n old new (a ++ b)
  first_failed old new a b first = record {
    some = λ before is.
        let took = first.some before is in
        let begins = front a b took.0 in
        (begins.0, took.1 ∙ ap (λ (bytes : List ℕ). Some (before ++ bytes)) (sym begins.1));
    never_falls = first.never_falls;
    failed = first.failed;
  }

  -- or at the second
  pub second_failed : (old mid new : K) (a b : List ℕ) → Writes n old mid a → WritesFirst n mid new b
      → WritesFirst n old new (a ++ b)
  second_failed old mid new a b first second = record {
    some = λ before is.
        let took = second.some (before ++ a) (first.all before is) in
        let begins = behind a b took.0 in (
          begins.0,
          took.1 ∙ (ap Some (append_assoc before a (take took.0 b))
              ∙ ap (λ (bytes : List ℕ). Some (before ++ bytes)) (sym begins.1)),
        );
    never_falls = let same = first.steady in let more = second.never_falls in omega (arith, same, more);
    failed = subst (λ (count : ℕ). Rose count (n.faults new)) first.steady second.failed;
  }

  -- what is printed where memory is short is printed of the line
  pub short_line : (old new : K) (bytes least : List ℕ) (end : LinesEnd) → PrintsShort n old new least end
      → PrintsLine n old new bytes least (Some end)
  short_line old new bytes least Whole prints = absurd prints
  short_line old new bytes least (Stopped refusal) prints = absurd prints
  short_line old new bytes least NoMemory prints = prints
  short_line old new bytes least SinkFailed prints = inr prints

  -- of other answers nothing is
  pub not_fixed : (sink : K) (head : List ℕ) (refusal : Refusal) → has_fixed_line refusal ≡ false
      → Writes n sink sink (fault_line head (No (Engine refusal)))
  not_fixed sink head refusal other = rw other (writes_none n sink)

pub fixed : (head : List ℕ) (refusal : Refusal) → has_fixed_line refusal ≡ true
    → fault_line head (No (Engine refusal)) ≡ head ++ (refusal_text refusal ++ (10 ∷ []))
fixed head refusal is = rw is refl

-- ---- the statement that went on last

-- the last of some statements
ends_with : (released : List Spoken) (k : ℕ) → length released ≡ suc k
    → (spoken : Spoken) × ((slice_get released k ≡ Some spoken)
    × ((before : List ℕ) → last_fault before released ≡ spoken_fault before (Some spoken)))
ends_with [] k long = absurd (omega (arith, long))
ends_with (x ∷ []) zero long = (x, (refl, λ before. refl))
ends_with (x ∷ []) (suc k) long = absurd (omega (arith, long))
ends_with (x ∷ y ∷ more) zero long = absurd (omega (arith, long))
ends_with (x ∷ y ∷ more) (suc k) long =
    let rest = ends_with (y ∷ more) k (omega (arith, long)) in
    (rest.0, (rest.1.0, λ before. rest.1.1 (spoken_fault before (Some x))))

pub last_is : (before : List ℕ) (released : List Spoken)
    → last_fault before released ≡ spoken_fault before (slice_get released (length released - 1))
last_is before [] = refl
last_is before (x ∷ more) =
    let last = ends_with (x ∷ more) (length (x ∷ more) - 1) (omega arith) in
    last.1.1 before ∙ ap (spoken_fault before) (sym last.1.0)

pub last_lettered : (released : List Spoken) (k : ℕ) (spoken : Spoken) → All HasItsLetter released
    → slice_get released k ≡ Some spoken → spoken.session.0 < SESSIONS
last_lettered [] k spoken all is = absurd cc
last_lettered (x ∷ more) zero spoken all is =
    let same : x ≡ spoken = cc in subst HasItsLetter same (all 0 x (omega arith))
last_lettered (x ∷ more) (suc k) spoken all is = last_lettered more k spoken (All-tail HasItsLetter x more all) is
