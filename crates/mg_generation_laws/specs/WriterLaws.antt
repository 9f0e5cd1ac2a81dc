-- The obstacle of a key is the first writer of its versions that can be in the way.
use Rattle.std.specs.Prelude.{◌≡◌, ℕ, ◌==◌, ◌&&◌, ◌||◌, not, Bool, true, false, List, refl}
use Rattle.std.proofs.Common.{ap}
use Rattle.std.proofs.lemmas.Bool.{false≢true}
use Rattle.mg_base.specs.declared.transaction.TxState.{TxState}
use Rattle.mg_base.specs.declared.transaction.TxState.TheVariants.{Active, Limbo, Dead, Committed}
use Rattle.mg_value.specs.declared.value.Value.{Value}
use Rattle.mg_model.specs.declared.opening.Opening.{Opening}
use Rattle.mg_model.specs.History.{Entries}
use Rattle.mg_model.specs.Machine.{state_of, cut_at_base}
use Rattle.mg_model.specs.Answers.{told, is_committed, is_open, can_hinder, obstacle}
use Rattle.mg_model.specs.Legal.{MayBegin, IsLegal}
use Rattle.mg_model.specs.CommitLaws.{legal_at_base}
use Rattle.mg_generation_laws.specs.Generations.{Generation, first_writer, PassesNews, AreGenerations}
use Rattle.mg_generation_laws.specs.CommittedLaws.{committed_from_first}

dead_is_no_hindrance : (its saw : Bool) (s : TxState) → s ≡ Dead
    → (not its && (is_open s || (is_committed s && not saw))) ≡ false
dead_is_no_hindrance true saw s dead = refl
dead_is_no_hindrance false saw s dead = rw dead refl

pub seen_is_no_hindrance : (its saw : Bool) (s : TxState) → is_committed s ≡ true → saw ≡ true
    → (not its && (is_open s || (is_committed s && not saw))) ≡ false
seen_is_no_hindrance true saw s was seen = refl
seen_is_no_hindrance false saw Active was seen = absurd (false≢true was)
seen_is_no_hindrance false saw Limbo was seen = absurd (false≢true was)
seen_is_no_hindrance false saw Dead was seen = absurd (false≢true was)
seen_is_no_hindrance false saw Committed was seen = rw seen refl

module _ (o : Opening) (opening : MayBegin o) (h : Entries) (legal : IsLegal o h) (t : ℕ) where
  -- nobody who is dead can be in the way, and nobody who was committed when the history began
  pub hindrance_is_news : PassesNews o h (can_hinder (told o h) t)
  hindrance_is_news = record {
    dead = λ u is. dead_is_no_hindrance (u == t) ((told o h).saw t u) (state_of o h u) is;
    old = λ u is. seen_is_no_hindrance (u == t) ((told o h).saw t u) (state_of o h u)
        (committed_from_first o opening h legal u (ap is_committed is))
        (committed_from_first o opening (cut_at_base h t) (legal_at_base o opening h legal t) u
        (ap is_committed is));
  }

  pub obstacle_is_writer : (table : List ℕ) (key : Value) (gs : List Generation)
      → AreGenerations o h table key gs
      → obstacle (told o h) t table key ≡ first_writer (can_hinder (told o h) t) gs
  obstacle_is_writer table key gs it = it.newest (can_hinder (told o h) t) hindrance_is_news
