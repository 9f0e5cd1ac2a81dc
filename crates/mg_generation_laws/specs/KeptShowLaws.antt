-- What chains show that stand for the versions of a key, and whose way they tell.
use Rattle.std.specs.Prelude.{◌≡◌, ◌⊎◌, ℕ, ◌==◌, ◌||◌, ◌&&◌, not, Bool, true, false, List, [], ◌∷◌, cond, refl}
use Rattle.std.proofs.Common.{sym, ◌∙◌, ap, inl, inr}
use Rattle.std.proofs.lemmas.Bool.{both_ways, eqb-true, false≢true}
use Rattle.mg_base.specs.declared.transaction.TxState.{TxState}
use Rattle.mg_base.specs.declared.transaction.TxState.TheVariants.{Active, Limbo, Dead, Committed}
use Rattle.mg_value.specs.declared.value.Value.{Value}
use Rattle.mg_model.specs.declared.opening.Opening.{Opening}
use Rattle.mg_model.specs.History.{Entries}
use Rattle.mg_model.specs.Changes.{row_at}
use Rattle.mg_model.specs.Machine.{database, state_of, view}
use Rattle.mg_model.specs.Answers.{can_hinder, is_active, is_committed, is_open, obstacle, told}
use Rattle.mg_model.specs.Legal.{IsLegal, MayBegin}
use Rattle.mg_generation_laws.specs.Generations.{Generation, newest_writer_if, sees, shown_by}
use Rattle.mg_generation_laws.specs.NewestLaws.{obstacle_is_newest}
use Rattle.mg_generation_laws.specs.ShowLaws.{database_shows, view_shows}
use Rattle.mg_generation_laws.specs.Kept.{HasCommitted, HasSeen, IsCovered, IsSeenByAll, IsThinned, StandFor, drops, ends, erases, keeps}

open_if_active : (s : TxState) → is_active s ≡ true → is_open s ≡ true
open_if_active Active is = refl
open_if_active Limbo is = absurd (false≢true is)
open_if_active Dead is = absurd (false≢true is)
open_if_active Committed is = absurd (false≢true is)

-- ---- what they show

-- one of these versions counts
abbrev pub HasCounted : (ℕ → Bool) → List Generation → Type 0
HasCounted counts [] = ⊥
HasCounted counts (g ∷ gs) = (counts g.writer ≡ true) ⊎ HasCounted counts gs

-- A test counts those whom all see; and where it counts one that is covered, it counts one of those in front.
pub record IsFair (o : Opening) (h : Entries) (counts : ℕ → Bool) : Type 0 where
  pub all : (u : ℕ) → IsSeenByAll o h u → counts u ≡ true
  pub covered : (front : List Generation) (g : Generation) → IsCovered o h front g → counts g.writer ≡ true
      → HasCounted counts front

pub shown_thinned : (o : Opening) (h : Entries) (counts : ℕ → Bool) → IsFair o h counts
    → (front all_ chain : List Generation) → IsThinned o h front all_ chain → (HasCounted counts front → ⊥)
    → shown_by counts all_ ≡ shown_by counts chain
shown_thinned o h counts fair front all_ chain (ends f) none = refl
shown_thinned o h counts fair front all_ chain (keeps f g gs cs more) none =
    at (counts g.writer) refl (shown_thinned o h counts fair (g ∷ front) gs cs more)
  where
    off : counts g.writer ≡ false → HasCounted counts (g ∷ front) → ⊥
    off no_ (inl yes_) = both_ways (counts g.writer) no_ yes_
    off no_ (inr there) = none there

    at : (b : Bool) → counts g.writer ≡ b
        → ((HasCounted counts (g ∷ front) → ⊥) → shown_by counts gs ≡ shown_by counts cs)
        → cond b g.row (shown_by counts gs) ≡ cond b g.row (shown_by counts cs)
    at true is older = refl
    at false is older = older (off is)
shown_thinned o h counts fair front all_ chain (drops f g gs cs is more) none =
    at (counts g.writer) refl (shown_thinned o h counts fair front gs chain more none)
  where
    at : (b : Bool) → counts g.writer ≡ b → shown_by counts gs ≡ shown_by counts chain
        → cond b g.row (shown_by counts gs) ≡ shown_by counts chain
    at true yes_ older = absurd (none (fair.covered front g is yes_))
    at false no_ older = older
shown_thinned o h counts fair front all_ chain (erases f g gs seen row) none = rw (fair.all g.writer seen, row) refl

committed_counted : (o : Opening) (h : Entries) (front : List Generation) → HasCommitted o h front
    → HasCounted (λ u. is_committed (state_of o h u)) front
committed_counted o h [] has = absurd has
committed_counted o h (g ∷ gs) (inl is) = inl (ap is_committed is)
committed_counted o h (g ∷ gs) (inr more) = inr (committed_counted o h gs more)

fair_committed : (o : Opening) (h : Entries) → IsFair o h (λ u. is_committed (state_of o h u))
fair_committed o h = record {
  all = λ u seen. ap is_committed seen.committed;
  covered = λ front g is counted. committed_counted o h front is.newer;
}

or_true : (a b : Bool) → b ≡ true → (a || b) ≡ true
or_true true b is = refl
or_true false b is = is

seen_counted : (o : Opening) (h : Entries) (t : ℕ) (front : List Generation) → HasSeen o h t front
    → HasCounted (sees (told o h) t) front
seen_counted o h t [] has = absurd has
seen_counted o h t (g ∷ gs) (inl is) = inl (or_true (g.writer == t) ((told o h).saw t g.writer) is)
seen_counted o h t (g ∷ gs) (inr more) = inr (seen_counted o h t gs more)

fair_sees : (o : Opening) (h : Entries) (t : ℕ) → is_active (state_of o h t) ≡ true → IsFair o h (sees (told o h) t)
fair_sees o h t runs = record {
  all = λ u seen. or_true (u == t) ((told o h).saw t u) (seen.saw t runs);
  covered = λ front g is counted. seen_counted o h t front (is.seen t runs (at g is (g.writer == t) refl counted));
}
  where
    at : (g : Generation) {front : List Generation} → IsCovered o h front g → (b : Bool) → (g.writer == t) ≡ b
        → (b || (told o h).saw t g.writer) ≡ true → (told o h).saw t g.writer ≡ true
    at g is true its saw =
        let same : g.writer ≡ t = eqb-true g.writer t its in
        let open_ : is_active (state_of o h g.writer) ≡ true = ap (λ n. is_active (state_of o h n)) same ∙ runs in
        absurd (false≢true (sym (ap is_active is.committed) ∙ open_))
    at g is false other saw = saw

-- garbage is in nobody's way
pub newest_thinned : (o : Opening) (h : Entries) (t : ℕ) → is_active (state_of o h t) ≡ true
    → (all_ chain : List Generation) → IsThinned o h [] all_ chain
    → newest_writer_if (can_hinder (told o h) t) all_ ≡ newest_writer_if (can_hinder (told o h) t) chain
newest_thinned o h t runs all_ chain (ends f) = refl
newest_thinned o h t runs all_ chain (keeps f g gs cs more) = refl
newest_thinned o h t runs all_ chain (drops f g gs cs is more) = absurd is.newer
newest_thinned o h t runs all_ chain (erases f g gs seen row) =
    rw (free (g.writer == t) ((told o h).saw t g.writer) (state_of o h g.writer) seen.committed (seen.saw t runs)) refl
  where
    free : (its saw : Bool) (s : TxState) → s ≡ Committed → saw ≡ true
        → (not its && (is_open s || (is_committed s && not saw))) ≡ false
    free true saw s is seen_ = refl
    free false saw s is seen_ = rw (is, seen_) refl

module _ (o : Opening) (h : Entries) (table : List ℕ) (key : Value) (chain : List Generation)
    (stand : StandFor o h table key chain) where
  pub chain_shows_database : row_at (database o h) table key
      ≡ shown_by (λ u. is_committed (state_of o h u)) chain
  chain_shows_database = database_shows o h table key stand.all stand.are
      ∙ shown_thinned o h (λ u. is_committed (state_of o h u)) (fair_committed o h) [] stand.all chain stand.thinned
      (λ none. none)

  pub chain_shows_view : (t : ℕ) → is_active (state_of o h t) ≡ true
      → row_at (view o h t) table key ≡ shown_by (sees (told o h) t) chain
  chain_shows_view t runs =
      view_shows o h table key stand.all stand.are t (open_if_active (state_of o h t) runs)
      ∙ shown_thinned o h (sees (told o h) t) (fair_sees o h t runs) [] stand.all chain stand.thinned (λ none. none)

  pub chain_tells_obstacle : MayBegin o → IsLegal o h → (t : ℕ)
      → is_active (state_of o h t) ≡ true
      → obstacle (told o h) t table key ≡ newest_writer_if (can_hinder (told o h) t) chain
  chain_tells_obstacle opening legal t runs =
      obstacle_is_newest o opening h legal t table key stand.all stand.are
      ∙ newest_thinned o h t runs stand.all chain stand.thinned
