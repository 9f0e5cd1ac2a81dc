-- What a sink says of its faults.
use Rattle.std.proofs.Common.{◌≡◌, inl, inr, ◌≤◌, ◌∙◌, ℕ, List, Option, None, Some, sym, subst, arith}
use Rattle.mg_base.specs.Disk.{Rose}
use Rattle.mg_base.specs.Streams.{SinkMeaning}
use Rattle.mg_transcript.specs.declared.turn.Flow.{Flow}
use Rattle.mg_transcript.specs.declared.turn.Flow.TheVariants.{GoesOn, Stops}
use Rattle.mg_turns.specs.declared.turn.TurnEnd.{TurnEnd}
use Rattle.mg_turns.specs.declared.turn.TurnEnd.TheVariants as turn_ends
use Rattle.mg_scripts.specs.Printing.{LineSays, PrintsLine, SinkSays}
use Rattle.mg_scripts.specs.Steps.{end_of_turn, end_or}
use Rattle.mg_scripts.specs.declared.lines.LinesEnd.{LinesEnd}
use Rattle.mg_scripts.specs.declared.lines.LinesEnd.TheVariants.{Whole, Stopped, NoMemory, SinkFailed}

module _ {K : Type 0} (n : SinkMeaning K) where
  same_least : (old new : K) → n.faults new ≡ n.faults old → n.faults old ≤ n.faults new
  same_least old new same = omega (arith, same)

  -- ---- a line

  printed_says : (mid now : K) (bytes least : List ℕ) (failed : Option LinesEnd) → PrintsLine n mid now bytes least failed
      → LineSays n mid now failed
  printed_says mid now bytes least None prints = prints.steady
  printed_says mid now bytes least (Some Whole) prints = prints
  printed_says mid now bytes least (Some (Stopped refusal)) prints = absurd prints
  printed_says mid now bytes least (Some NoMemory) prints = same_least mid now prints.steady
  printed_says mid now bytes least (Some SinkFailed) (inl prints) = (prints.never_falls, prints.failed)
  printed_says mid now bytes least (Some SinkFailed) (inr prints) = (prints.never_falls, prints.failed)

  rises : (mid now : K) (end : Option LinesEnd) → LineSays n mid now end → n.faults mid ≤ n.faults now
  rises mid now None says = same_least mid now says
  rises mid now (Some Whole) says = absurd says
  rises mid now (Some (Stopped refusal)) says = says
  rises mid now (Some NoMemory) says = says
  rises mid now (Some SinkFailed) says = says.0

  line_says_by : (mid now : K) (bytes least : List ℕ) (e : TurnEnd) (failed : Option LinesEnd) (f : Flow)
      → PrintsLine n mid now bytes least failed → LineSays n mid now (end_or (end_of_turn e f) failed)
  line_says_by mid now bytes least turn_ends.Whole failed f prints = printed_says mid now bytes least failed prints
  line_says_by mid now bytes least turn_ends.InVain failed f prints = printed_says mid now bytes least failed prints
  line_says_by mid now bytes least turn_ends.NoRoom failed f prints =
      rises mid now failed (printed_says mid now bytes least failed prints)
  line_says_by mid now bytes least turn_ends.Stopped failed (Stops refusal) prints =
      rises mid now failed (printed_says mid now bytes least failed prints)
  line_says_by mid now bytes least turn_ends.Stopped failed GoesOn prints = printed_says mid now bytes least failed prints

  -- by what was printed, and how the turn ended
  pub line_says : (mid now : K) (bytes least : List ℕ) (e : TurnEnd) (failed end : Option LinesEnd) (f : Flow)
      → end ≡ end_or (end_of_turn e f) failed → PrintsLine n mid now bytes least failed → LineSays n mid now end
  line_says mid now bytes least e failed end f is prints =
      subst (LineSays n mid now) (sym is) (line_says_by mid now bytes least e failed f prints)

  -- ---- lines

  ends_say : (old mid new : K) (end : LinesEnd) → n.faults mid ≡ n.faults old → LineSays n mid new (Some end)
      → SinkSays n old new end
  ends_say old mid new Whole same says = absurd says
  ends_say old mid new (Stopped refusal) same says = record {
    never_falls = omega (arith, same, says);
    steady = λ is. absurd cc;
    failed = λ is. absurd cc;
  }
  ends_say old mid new NoMemory same says = record {
    never_falls = omega (arith, same, says);
    steady = λ is. absurd cc;
    failed = λ is. absurd cc;
  }
  ends_say old mid new SinkFailed same says = record {
    never_falls = let risen = says.0 in omega (arith, same, risen);
    steady = λ is. absurd cc;
    failed = λ is. subst (λ (count : ℕ). Rose count (n.faults new)) same says.1;
  }

  -- lines behind which the run went on, and the one by which it ends
  pub last_says : (old mid new : K) (e : Option LinesEnd) (end : LinesEnd) → n.faults mid ≡ n.faults old → e ≡ Some end
      → LineSays n mid new e → SinkSays n old new end
  last_says old mid new e end same is says = ends_say old mid new end same (subst (LineSays n mid new) is says)

  -- one more behind which it goes on
  pub next_says : (old mid new : K) (e : Option LinesEnd) → n.faults mid ≡ n.faults old → e ≡ None
      → LineSays n mid new e → n.faults new ≡ n.faults old
  next_says old mid new e same is says = subst (LineSays n mid new) is says ∙ same

  -- no other
  pub all_say : (old new : K) (end : LinesEnd) → end ≡ Whole → n.faults new ≡ n.faults old → SinkSays n old new end
  all_say old new end is same = record {
    never_falls = same_least old new same;
    steady = λ whole. same;
    failed = λ fails. absurd cc;
  }

  -- none at all
  pub none_says : (sink : K) → SinkSays n sink sink NoMemory
  none_says sink = record {
    never_falls = omega arith;
    steady = λ is. absurd cc;
    failed = λ is. absurd cc;
  }
