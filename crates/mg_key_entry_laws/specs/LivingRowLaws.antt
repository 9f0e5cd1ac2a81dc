-- What soundness gives of a record by itself: where its newest version that is no dead transaction's is no deletion, the
-- row of that is found in each index of its table.
use Rattle.std.proofs.Common.{◌≡◌, ◌≢◌, refl, sym, ap, ◌∙◌, subst, ℕ, true, false, List, [], ◌∷◌, None, Some}
use Rattle.mg_base.specs.declared.numbers.RecId.{RecId}
use Rattle.mg_base.specs.declared.transaction.TxState.{TxState}
use Rattle.mg_base.specs.declared.transaction.TxState.TheVariants.{Active, Committed, Dead, Limbo}
use Rattle.mg_chain.specs.Views.{first_entry, is_dead}
use Rattle.mg_image.specs.Form.{Coding, Form, Pages}
use Rattle.mg_image.specs.Indexes.{IsFoundIn}
use Rattle.mg_image.specs.RecordRules.{Each, Facts, IsRecord, committed_in, table_in}
use Rattle.mg_image.specs.Records.{Reading, shown, writer}
use Rattle.mg_image.specs.Sound.{IsIndexed, facts_by}
use Rattle.mg_image.specs.declared.entry.Entry.{Entry}
use Rattle.mg_model.specs.declared.table.Table.{Table}
use Rattle.mg_snap.specs.Live.{State}
use Rattle.mg_seek.specs.declared.whose.Wanted.TheVariants.{Living}
use Rattle.mg_seek.specs.Versions.{wants}
use Rattle.mg_key_entry_laws.specs.Laws.{LivingRowsAreFound}

-- each of these versions is a committed transaction's
abbrev AllCommitted : Facts → List Entry → Type 0
AllCommitted f es = Each (λ d. f.state (writer d) ≡ Committed) es

module _ (coding : Coding) (f : Facts) (pages : Pages) (r : Reading) (indexed : IsIndexed f pages r)
    (state : ℕ → TxState) (live : State) (same : (u : ℕ) → is_dead (state u) ≡ is_dead (f.state u))
    (none_active : (u : ℕ) → f.state u ≢ Active) where
  found_by : (p : RecId) (table : Table) → table_in f p ≡ Some table → (es : List Entry) → r p ≡ es
      → IsRecord coding f table es → (newest : Entry) → first_entry (wants state live Living) es ≡ Some newest
      → newest.version.deleted ≡ false → IsFoundIn pages table.indexes p newest.row
  found_by p table of [] is lawful newest first alive = let none_ : None ≡ Some newest = first in absurd cc
  found_by p table of (e ∷ older) is lawful newest first alive =
      at (f.state (writer e)) refl older is lawful.backs first
    where
      taken : (d : Entry) (es : List Entry) → is_dead (f.state (writer d)) ≡ false
          → first_entry (wants state live Living) (d ∷ es) ≡ Some d
      taken d es living = rw (same (writer d) ∙ living) refl

      passed : (d : Entry) (es : List Entry) → is_dead (f.state (writer d)) ≡ true
          → first_entry (wants state live Living) (d ∷ es) ≡ first_entry (wants state live Living) es
      passed d es dead = rw (same (writer d) ∙ dead) refl

      one : (d n : Entry) → Some d ≡ Some n → d ≡ n
      one d n eq = cc

      shows_row : (d : Entry) (es : List Entry) → f.state (writer d) ≡ Committed → d.version.deleted ≡ false
          → shown (committed_in f) (d ∷ es) ≡ Some d.row
      shows_row d es committed living = rw committed (rw living refl)

      under : (d : Entry) (es : List Entry) → f.state (writer d) ≡ Dead
          → shown (committed_in f) (d ∷ es) ≡ shown (committed_in f) es
      under d es dead = rw dead refl

      by_shown : (d : Entry) → d ≡ newest → shown (committed_in f) (r p) ≡ Some d.row
          → IsFoundIn pages table.indexes p newest.row
      by_shown d it row_is = subst (λ (x : Entry). IsFoundIn pages table.indexes p x.row) it
          (indexed.committed p table d.row (record { of_table = of; row_shown = row_is }))

      alive_of : (d : Entry) → d ≡ newest → d.version.deleted ≡ false
      alive_of d it = subst (λ (x : Entry). x.version.deleted ≡ false) (sym it) alive

      below_dead : f.state (writer e) ≡ Dead → (es : List Entry) → r p ≡ e ∷ es
          → AllCommitted f es → first_entry (wants state live Living) es ≡ Some newest
          → IsFoundIn pages table.indexes p newest.row
      below_dead dead [] is backs first = let none_ : None ≡ Some newest = first in absurd cc
      below_dead dead (d ∷ ds) is backs first =
          let committed = backs.0 in
          let it = one d newest (sym (taken d ds (ap is_dead committed)) ∙ first) in
          by_shown d it (ap (shown (committed_in f)) is ∙ (under e (d ∷ ds) dead
          ∙ shows_row d ds committed (alive_of d it)))

      at : (s : TxState) → f.state (writer e) ≡ s → (es : List Entry) → r p ≡ e ∷ es → AllCommitted f es
          → first_entry (wants state live Living) (e ∷ es) ≡ Some newest → IsFoundIn pages table.indexes p newest.row
      at Active its es is backs first = absurd (none_active (writer e) its)
      at Limbo its es is backs first =
          let it = one e newest (sym (taken e es (ap is_dead its)) ∙ first) in
          subst (λ (x : Entry). IsFoundIn pages table.indexes p x.row) it
          (indexed.limbo p table e (record { of_table = of; older = es; newest = is; limbo = its }) (alive_of e it))
      at Committed its es is backs first =
          let it = one e newest (sym (taken e es (ap is_dead its)) ∙ first) in
          by_shown e it (ap (shown (committed_in f)) is ∙ shows_row e es its (alive_of e it))
      at Dead its es is backs first = below_dead its es is backs (sym (passed e es (ap is_dead its)) ∙ first)

  -- the row of a record's newest living version is found
  living_row_found : (p : RecId) (table : Table) → table_in f p ≡ Some table → IsRecord coding f table (r p)
      → (newest : Entry) → first_entry (wants state live Living) (r p) ≡ Some newest
      → newest.version.deleted ≡ false → IsFoundIn pages table.indexes p newest.row
  living_row_found p table of lawful newest first alive = found_by p table of (r p) refl lawful newest first alive

pub living_rows_are_found : (form : Form) → LivingRowsAreFound form
living_rows_are_found form size state counted live pages layout r sound same none_active p table of newest first alive =
    living_row_found form.coding (facts_by counted pages layout) pages r sound.indexed state live same none_active p table
    of (sound.records.each p table of) newest first alive
