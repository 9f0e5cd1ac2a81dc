-- A row is written into a table that was kept first.
use Rattle.std.proofs.Common.{◌≡◌, Bool, Option, Result, Ok, Err, refl, subst, ◌∙◌}
use Rattle.std.specs.Prelude.{MatchResult}
use Rattle.mg_base.specs.Disk.{Meaning}
use Rattle.mg_base.specs.declared.numbers.RecId.{RecId}
use Rattle.mg_base.specs.declared.numbers.TxNo.{TxNo}
use Rattle.mg_model.specs.declared.refusal.Refusal.{Refusal}
use Rattle.mg_model.specs.declared.refusal.Refusal.TheVariants as refusals
use Rattle.mg_model.specs.declared.table.Table.{Table}
use Rattle.mg_records.specs.declared.write.Write.{Write}
use Rattle.mg_core.specs.declared.parts.Core.{Core}
use Rattle.mg_core.specs.Cores.{Continues, RefusesCall}
use Rattle.mg_core.specs.Events.{BecomesIn, EndsWait, IsRefused}
use Rattle.mg_core.specs.Writing.{FailsWrite, HasBegun, HasFound, HasPassed, IsFree, Writes, at_record, at_row, at_table, no_key, not_begun, not_put, only_reads}
use Rattle.mg_taking_back.specs.Noting.{FailsNoted, NotesTable, WritesNoted, noted, noted_fails, noted_memory, noted_not, with_noted}

-- the wait was over already, and nothing else but the works is another
module _ {D : Type 0} (m : Meaning D) (old mid : Core D) (t : TxNo) (table : Table)
    (becomes : BecomesIn old mid t.0 (noted t.0 table old.works) old.live) where
  abbrev from : Core D
  from = with_noted t.0 table old

  wait_from : (begun : Core D) → EndsWait mid begun t.0 → EndsWait from begun t.0
  wait_from begun ended = record {
    over = record {
      its = ended.over.its;
      others = λ u apart. ended.over.others u apart ∙ becomes.over.others u apart;
    };
    same = subst (λ (c : Core D). begun ≡ record c { waits = begun.waits; works = c.works; live = c.live })
        becomes.same ended.same;
  }

  continues_from : Continues mid t.0 → Continues from t.0
  continues_from continues = subst (λ (c : Core D). Continues c t.0) becomes.same continues

  refused_from : (new : Core D) (refusal : Refusal) → IsRefused mid new t.0 refusal → IsRefused from new t.0 refusal
  refused_from new refusal refused = record {
    refuses = subst (λ (c : Core D). RefusesCall c t.0 refusal) becomes.same refused.refuses;
    wait = wait_from new refused.wait;
  }

  begun_from : {begun : Core D} {wait : Bool} → HasBegun mid begun t wait → HasBegun from begun t wait
  begun_from {begun} has = record {
    continues = continues_from has.continues;
    ended = wait_from begun has.ended;
    may = has.may;
  }

  passed_from : {passed : Core D} {wait : Bool} → HasPassed m mid passed t table wait
      → HasPassed m from passed t table wait
  passed_from has = record { begun = has.begun; has_begun = begun_from has.has_begun; passes = has.passes }

  found_from : {found : Core D} {write : Write} {wait : Bool} {rec : Option RecId}
      → HasFound m mid found t table write wait rec → HasFound m from found t table write wait rec
  found_from has = record {
    passed = has.passed;
    has_passed = passed_from has.has_passed;
    key = has.key;
    finds = has.finds;
  }

  free_from : {free : Core D} {write : Write} {wait : Bool} {rec : Option RecId}
      → IsFree m mid free t table write wait rec → IsFree m from free t table write wait rec
  free_from has = record { found = has.found; has_found = found_from has.has_found; passes = has.passes }

  writes_from : (new : Core D) (write : Write) → Writes m mid new t table write → Writes m from new t table write
  writes_from new write its = record {
    wait = its.wait;
    rec = its.rec;
    free = its.free;
    is_free = free_from its.is_free;
    puts = its.puts;
  }

  fails_from : (new : Core D) (write : Write) (refusal : Refusal) → FailsWrite m mid new t table write refusal
      → FailsWrite m from new t table write refusal
  fails_from new write refusal (not_begun refused) = not_begun (refused_from new refusal refused)
  fails_from new write refusal (only_reads continues ended may) =
      only_reads (continues_from continues) (wait_from new ended) may
  fails_from new write refusal (at_table begun wait has stops) = at_table begun wait (begun_from has) stops
  fails_from new write refusal (no_key passed wait has fails) = no_key passed wait (passed_from has) fails
  fails_from new write refusal (at_row passed wait has key fails) = at_row passed wait (passed_from has) key fails
  fails_from new write refusal (at_record found wait rec has stops) = at_record found wait rec (found_from has) stops
  fails_from new write refusal (not_put free wait rec has fails) = not_put free wait rec (free_from has) fails

  pub written_from : (new : Core D) (write : Write) (result : Result (Unit {0}) Refusal)
      → MatchResult result (λ _. Writes m mid new t table write) (FailsWrite m mid new t table write)
      → MatchResult result (λ _. WritesNoted m old new t table write) (FailsNoted m old new t table write)
  written_from new write (Ok x) given = writes_from new write given
  written_from new write (Err refusal) given = noted_fails (fails_from new write refusal given)

-- the table was not kept
pub noting_fails : {D : Type 0} (m : Meaning D) (old new : Core D) (t : TxNo) (table : Table) (write : Write)
    (refusal : Refusal) → NotesTable old new t.0 table (Err refusal) → FailsNoted m old new t table write refusal
noting_fails m old new t table write refusals.Memory given = noted_memory given.0 given.1 refl
noting_fails m old new t table write refusal given = noted_not given
