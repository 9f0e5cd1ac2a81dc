-- The changes of other tables, one after another.
use Rattle.std.proofs.Common.{◌≡◌, ◌≢◌, ◌==◌, ◌++◌, ◌∷◌, ℕ, Bool, true, false, List, [], Option, None, Some, ap, cond, refl, subst, sym, ◌∙◌}
use Rattle.std.proofs.lemmas.Bool.{eq-eqb, ne_eqb}
use Rattle.mg_base.specs.Disk.{Meaning}
use Rattle.mg_base.specs.declared.numbers.RecId.{RecId}
use Rattle.mg_value.specs.declared.value.Value.{Value}
use Rattle.mg_model.specs.declared.refusal.Refusal.{Refusal}
use Rattle.mg_model.specs.declared.table.Table.{Table}
use Rattle.mg_pool.specs.declared.pool.Pool.{Pool}
use Rattle.mg_records.specs.declared.write.Write.{Write}
use Rattle.mg_space.specs.declared.links.FireLinks.{FireLinks}
use Rattle.mg_undo.specs.Undo.{State as Undo, given_as, take_back}
use Rattle.mg_undo.specs.declared.changes.Change.{Change}
use Rattle.mg_undo.specs.declared.changes.Was.{Was}
use Rattle.mg_core.specs.Cores.{IsCore}
use Rattle.mg_core.specs.declared.parts.Core.{Core}
use Rattle.mg_taking_back.specs.Changes.{FailsChange, TakesChange, change_of}
use Rattle.mg_taking_back.specs.Keys.{PutsBack, former}
use Rattle.mg_taking_back.specs.Taking.{Gives, TakesChanges, gives_none, takes_none}
use Rattle.mg_taking_back.specs.TakingLaws.{given_is, given_none, gives_end, gives_more, takes_more}
use Rattle.mg_table_takings.specs.Keys.{others_of}
use Rattle.mg_table_takings.specs.Takings.{StopsOthers, TakesOthers}

-- ---- one more change

others_with : (number : ℕ) (given : List Change) (c : Change) → c.table ≢ number
    → others_of number (given ++ c ∷ []) ≡ others_of number given ++ c ∷ []
others_with number [] c other = ap (λ (b : Bool). cond b [] (c ∷ [])) (ne_eqb c.table number other)
others_with number (d ∷ given) c other = at (d.table == number) (others_with number given c other)
  where
    at : (b : Bool) → others_of number (given ++ c ∷ []) ≡ others_of number given ++ c ∷ []
        → cond b (others_of number (given ++ c ∷ [])) (d ∷ others_of number (given ++ c ∷ []))
        ≡ cond b (others_of number given) (d ∷ others_of number given) ++ c ∷ []
    at true more = more
    at false more = ap (λ (cs : List Change). d ∷ cs) more

others_without : (number : ℕ) (given : List Change) (c : Change) → c.table ≡ number
    → others_of number (given ++ c ∷ []) ≡ others_of number given
others_without number [] c same = ap (λ (b : Bool). cond b [] (c ∷ [])) (eq-eqb c.table number same)
others_without number (d ∷ given) c same = at (d.table == number) (others_without number given c same)
  where
    at : (b : Bool) → others_of number (given ++ c ∷ []) ≡ others_of number given
        → cond b (others_of number (given ++ c ∷ [])) (d ∷ others_of number (given ++ c ∷ []))
        ≡ cond b (others_of number given) (d ∷ others_of number given)
    at true more = more
    at false more = ap (λ (cs : List Change). d ∷ cs) more

-- ---- the cache stays online

puts_online : {D : Type 0} (m : Meaning D) (before after : Pool D FireLinks) (t : ℕ) (table : Table) (rec : RecId)
    (write : Option Write) → PutsBack m before after t table rec write → after.offline ≡ None
puts_online m before after t table rec None puts = puts.changed.online.1
puts_online m before after t table rec (Some write) puts = puts.enters.lays.changed.online.1

change_online : {D : Type 0} (m : Meaning D) (old new : Core D) (t : ℕ) (c : Change) → TakesChange m old new t c
    → new.store.offline ≡ None
change_online m old new t c takes = puts_online m takes.takes.ready new.store t takes.table takes.takes.rec
    (former c.key c.was) takes.takes.puts

-- ---- the loop

-- Some changes were given, and those of other tables taken back; nothing but the pages has changed.
pub record Going {D : Type 0} (m : Meaning D) (old now : Core D) (t : ℕ) (start left : Undo) : Type 0 where
  pub core : IsCore m now
  pub list : now.list ≡ old.list
  pub works : now.works ≡ old.works
  pub catalog : now.catalog ≡ old.catalog
  pub online : now.store.offline ≡ None
  pub given : List Change
  pub steps : Gives start given left
  pub takes : TakesChanges m t old (others_of old.catalog.pointer.0 given) now

pub going : {D : Type 0} (m : Meaning D) (old : Core D) (t : ℕ) (start : Undo) → IsCore m old
    → old.store.offline ≡ None → Going m old old t start start
going m old t start is online = record {
  core = is;
  list = refl;
  works = refl;
  catalog = refl;
  online = online;
  given = [];
  steps = gives_none;
  takes = takes_none;
}

module _ {D : Type 0} (m : Meaning D) (old now : Core D) (t : ℕ) (start left next : Undo) (table : ℕ) (key : Value)
    (was : Was) (so : Going m old now t start left) (is : Some (table, key, was) ≡ given_as (take_back left).given)
    (after : next ≡ (take_back left).after) where
  abbrev c : Change
  c = change_of table key was

  given : (take_back left).given ≡ Some c
  given = given_is _ table key was (sym is)

  number_is : now.catalog.pointer.0 ≡ old.catalog.pointer.0
  number_is = ap (λ (it : Table). it.pointer.0) so.catalog

  -- one of the catalog is passed
  pub passed : table ≡ now.catalog.pointer.0 → Going m old now t start next
  passed same = subst (λ (u : Undo). Going m old now t start u) (sym after) (record {
    core = so.core;
    list = so.list;
    works = so.works;
    catalog = so.catalog;
    online = so.online;
    given = so.given ++ c ∷ [];
    steps = gives_more c so.steps given;
    takes = subst (λ (cs : List Change). TakesChanges m t old cs now)
        (sym (others_without old.catalog.pointer.0 so.given c (same ∙ number_is))) so.takes;
  })

  -- another one is taken back
  pub going_on : (new : Core D) → table ≢ now.catalog.pointer.0 → IsCore m new
      → TakesChange m now new t c → Going m old new t start next
  going_on new other core takes = subst (λ (u : Undo). Going m old new t start u) (sym after) (record {
    core = core;
    list = ap (λ (k : Core D). k.list) takes.same ∙ so.list;
    works = ap (λ (k : Core D). k.works) takes.same ∙ so.works;
    catalog = ap (λ (k : Core D). k.catalog) takes.same ∙ so.catalog;
    online = change_online m now new t c takes;
    given = so.given ++ c ∷ [];
    steps = gives_more c so.steps given;
    takes = subst (λ (cs : List Change). TakesChanges m t old cs new)
        (sym (others_with old.catalog.pointer.0 so.given c (λ same. other (same ∙ sym number_is))))
        (takes_more new c so.takes takes);
  })

  pub stopped_at : (new : Core D) (refusal : Refusal) → table ≢ now.catalog.pointer.0
      → FailsChange m now new t c refusal → StopsOthers m old new t start refusal
  stopped_at new refusal other fails = record {
    given = so.given;
    left = left;
    steps = so.steps;
    at = now;
    takes = so.takes;
    change = c;
    next = given;
    other = λ same. other (same ∙ sym number_is);
    fails = fails;
  }

pub all_taken : {D : Type 0} (m : Meaning D) (old new : Core D) (t : ℕ) (start left end : Undo)
    → Going m old new t start left → None ≡ given_as (take_back left).given → end ≡ (take_back left).after
    → TakesOthers m old new t start end
all_taken m old new t start left end so is after = record {
  given = so.given;
  steps = gives_end so.steps (given_none _ (sym is)) (sym after);
  takes = so.takes;
}
