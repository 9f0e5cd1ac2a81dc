-- Keys that an open transaction has not changed, and what it has to take back where tables have other numbers.
use Rattle.mg_base.specs.declared.transaction.TxState.TheVariants.{Committed}
use Rattle.mg_generation_laws.specs.Generations.{Generation, is_newest_by}
use Rattle.mg_generation_laws.specs.GarbageLaws.{BeginAlike, begin_alike, begins_so, both_empty, erased_all}
use Rattle.mg_generation_laws.specs.Kept.{IsErasedForAll, StandFor}
use Rattle.mg_model.specs.Answers.{is_open}
use Rattle.mg_model.specs.Changes.{has_change, is_at}
use Rattle.mg_model.specs.History.{Entries}
use Rattle.mg_model.specs.Machine.{changes_in, own, state_of}
use Rattle.mg_model.specs.ReadLaws.{is_at_itself}
use Rattle.mg_model.specs.declared.change.Change.{Change}
use Rattle.mg_model.specs.declared.change.Deed.TheVariants.{Changed, Marked, Saved}
use Rattle.mg_model.specs.declared.change.Deed.{Deed}
use Rattle.mg_model.specs.declared.opening.Opening.{Opening}
use Rattle.mg_undo.specs.Machine.{changes_of, undo_of, was_in}
use Rattle.mg_undo.specs.declared.changes.Change.{Change as Kept}
use Rattle.mg_value.specs.declared.value.Value.{Value}
use Rattle.std.proofs.Common.{Bool, List, [], ap, false, refl, subst, sym, true, ℕ, ◌++◌, ◌∙◌, ◌∷◌, ◌≡◌}
use Rattle.std.proofs.lemmas.Bool.{eqb-true, false≢true}
use Rattle.std.specs.Prelude.{if◌then◌else◌}

-- a deletion whom all see is no open transaction's
not_open : (o : Opening) (h : Entries) (u : ℕ) (gs : List Generation) → is_open (state_of o h u) ≡ true
    → IsErasedForAll o h gs → is_newest_by u gs ≡ true → ⊥
not_open o h u [] open_ gone newest = gone
not_open o h u (g ∷ gs) open_ gone newest =
    let same : g.writer ≡ u = eqb-true g.writer u newest in
    let committed : state_of o h u ≡ Committed = ap (state_of o h) (sym same) ∙ gone.0.committed in
    false≢true (sym (ap is_open committed) ∙ open_)

-- where no version stands for a key no open transaction has changed it
pub none_changed : (o : Opening) (h : Entries) (name : List ℕ) (key : Value) (u : ℕ)
    → is_open (state_of o h u) ≡ true → StandFor o h name key [] → has_change (own o h u) name key ≡ false
none_changed o h name key u open_ stand =
    stand.are.open_ u open_ ∙ at (begin_alike o h stand.all [] stand.thinned)
  where
    on : (gs : List Generation) → IsErasedForAll o h gs → (b : Bool) → is_newest_by u gs ≡ b
        → is_newest_by u gs ≡ false
    on gs gone false off = off
    on gs gone true newest = absurd (not_open o h u gs open_ gone newest)

    at : BeginAlike o h stand.all [] → is_newest_by u stand.all ≡ false
    at (begins_so g gs cs all_is chain_is) = absurd cc
    at (both_empty all_is chain_is) = ap (is_newest_by u) all_is
    at (erased_all gone chain_is) = on stand.all gone (is_newest_by u stand.all) refl

-- a number that tells the tables of all changes as another one does
abbrev pub TellsAlike : (List ℕ → ℕ) → (List ℕ → ℕ) → List Change → Type 0
TellsAlike a b cs = (name : List ℕ) (key : Value) → has_change cs name key ≡ true → a name ≡ b name

kept_alike : (a b : List ℕ → ℕ) (deeds : List Deed) → TellsAlike a b (changes_in deeds)
    → changes_of a deeds ≡ changes_of b deeds
kept_alike a b [] alike = refl
kept_alike a b (Marked ∷ deeds) alike = kept_alike a b deeds alike
kept_alike a b (Saved name ∷ deeds) alike = kept_alike a b deeds alike
kept_alike a b (Changed c ∷ deeds) alike = at (alike c.table c.key here)
    (kept_alike a b deeds (λ name key has. alike name key (later name key has)))
  where
    here : has_change (c ∷ changes_in deeds) c.table c.key ≡ true
    here = rw (is_at_itself c.table c.key c.row) refl

    later : (name : List ℕ) (key : Value) → has_change (changes_in deeds) name key ≡ true
        → has_change (c ∷ changes_in deeds) name key ≡ true
    later name key has = on (is_at c name key)
      where
        on : (b : Bool) → (if b then true else has_change (changes_in deeds) name key) ≡ true
        on true = refl
        on false = has

    at : a c.table ≡ b c.table → changes_of a deeds ≡ changes_of b deeds
        → changes_of a (Changed c ∷ deeds) ≡ changes_of b (Changed c ∷ deeds)
    at number more = ap (λ (n : ℕ).
        let k : Kept = record { table = n; key = c.key; was = was_in (changes_in deeds) c.table c.key } in
        k ∷ changes_of a deeds) number ∙ ap (λ (ks : List Kept).
        let k : Kept = record { table = b c.table; key = c.key; was = was_in (changes_in deeds) c.table c.key } in
        k ∷ ks) more

pub undo_alike : (a b : List ℕ → ℕ) (deeds : List Deed) → TellsAlike a b (changes_in deeds)
    → undo_of a deeds ≡ undo_of b deeds
undo_alike a b deeds alike = ap (λ (ks : List Kept). record (undo_of a deeds) { changes = ks })
    (kept_alike a b deeds alike)
