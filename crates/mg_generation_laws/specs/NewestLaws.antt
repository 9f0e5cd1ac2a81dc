-- The obstacle of a key is the writer of its newest version, or none: no older one is looked at.
use Rattle.std.specs.Prelude.{◌≡◌, ◌≢◌, ℕ, ◌==◌, not, Bool, true, false, List, [], ◌∷◌, ◌++◌, Some, None, cond, refl}
use Rattle.std.proofs.Common.{sym, ◌∙◌, ap}
use Rattle.std.proofs.lemmas.Bool.{eqb-true}
use Rattle.mg_base.specs.declared.transaction.TxState.{TxState}
use Rattle.mg_base.specs.declared.transaction.TxState.TheVariants.{Active, Limbo, Dead, Committed}
use Rattle.mg_value.specs.declared.value.Value.{Value}
use Rattle.mg_model.specs.declared.opening.Opening.{Opening}
use Rattle.mg_model.specs.History.{Entries}
use Rattle.mg_model.specs.Machine.{state_of, cut_at_base}
use Rattle.mg_model.specs.Answers.{told, is_committed, can_hinder, obstacle}
use Rattle.mg_model.specs.Legal.{MayBegin, IsLegal}
use Rattle.mg_model.specs.CommitLaws.{legal_at_base}
use Rattle.mg_model.specs.EntryLaws.{cut_others_entry}
use Rattle.mg_model.specs.HinderLaws.{stands, saw_from_unhindered}
use Rattle.mg_model.specs.NumberLaws.{committed_others}
use Rattle.mg_model.specs.OverlapLaws.{saw_is_committed}
use Rattle.mg_generation_laws.specs.Generations.{Generation, first_writer, EachGeneration, EachOlder, newest_writer_if, AreSeenInOrder, AreGenerations}
use Rattle.mg_generation_laws.specs.ListLaws.{each_with, nobody_first}
use Rattle.mg_generation_laws.specs.CommittedLaws.{EndsWith, ends_with_base, committed_later}
use Rattle.mg_generation_laws.specs.WriterLaws.{seen_is_no_hindrance, obstacle_is_writer}

module _ (o : Opening) (opening : MayBegin o) where
  -- who was committed at an earlier moment takes no other base
  base_stays : (h since before : Entries) → IsLegal o h → h ≡ since ++ before → (w : ℕ)
      → is_committed (state_of o before w) ≡ true → cut_at_base h w ≡ cut_at_base before w
  base_stays h [] before legal is w was = ap (λ g. cut_at_base g w) is
  base_stays [] (x ∷ since) before legal is w was = absurd cc
  base_stays (e ∷ h) (x ∷ since) before legal is w was =
      let rest : h ≡ since ++ before = cc in
      cut_others_entry o h e w (committed_others o opening h e legal w
      (committed_later o opening h since before legal.1 rest w was))
      ∙ base_stays h since before legal.1 rest w was

  -- who sees that a transaction is committed sees all that that one saw
  pub seen_through : (h : Entries) → IsLegal o h → (t w v : ℕ) → (told o h).saw t w ≡ true
      → (told o h).saw w v ≡ true → (told o h).saw t v ≡ true
  seen_through h legal t w v saw one =
      let ends : EndsWith h (cut_at_base h t) = ends_with_base h t in
      saw_is_committed o opening (cut_at_base h t) (legal_at_base o opening h legal t) w v
      (ap (λ g. is_committed (state_of o g v))
      (sym (base_stays h ends.0 (cut_at_base h t) legal ends.1 w saw)) ∙ one)

  module _ (h : Entries) (legal : IsLegal o h) (t : ℕ) where
    alive_stands : (s : TxState) → s ≢ Dead → stands s ≡ true
    alive_stands Active alive = refl
    alive_stands Limbo alive = refl
    alive_stands Dead alive = absurd (alive refl)
    alive_stands Committed alive = refl

    -- where the newest can't be in the way, no older one can
    older_hinder_not : (g : Generation) (gs : List Generation) → state_of o h g.writer ≢ Dead
        → can_hinder (told o h) t g.writer ≡ false
        → EachGeneration (λ older. state_of o h older.writer ≡ Committed) gs
        → EachGeneration (λ older. (told o h).saw g.writer older.writer ≡ true) gs
        → EachGeneration (λ older. can_hinder (told o h) t older.writer ≡ false) gs
    older_hinder_not g gs alive free backs seen =
        each_with (λ older. state_of o h older.writer ≡ Committed)
        (λ older. (told o h).saw g.writer older.writer ≡ true)
        (λ older. can_hinder (told o h) t older.writer ≡ false) gs
        (λ older was saw. seen_is_no_hindrance (older.writer == t) ((told o h).saw t older.writer)
        (state_of o h older.writer) (ap is_committed was)
        (at older.writer saw (g.writer == t) refl)) backs seen
      where
        at : (v : ℕ) → (told o h).saw g.writer v ≡ true → (b : Bool) → (g.writer == t) ≡ b
            → (told o h).saw t v ≡ true
        at v saw true its = ap (λ n. (told o h).saw n v) (sym (eqb-true g.writer t its)) ∙ saw
        at v saw false other =
            seen_through h legal t g.writer v
            (saw_from_unhindered (state_of o h g.writer) (not (g.writer == t))
            ((told o h).saw t g.writer) (ap not other)
            (alive_stands (state_of o h g.writer) alive) free) saw

    newest_decides : (gs : List Generation) → EachGeneration (λ g. state_of o h g.writer ≢ Dead) gs
        → EachOlder (λ g. state_of o h g.writer ≡ Committed) gs
        → AreSeenInOrder (told o h).saw gs
        → first_writer (can_hinder (told o h) t) gs
        ≡ newest_writer_if (can_hinder (told o h) t) gs
    newest_decides [] alive backs order = refl
    newest_decides (g ∷ gs) alive backs order = at (can_hinder (told o h) t g.writer) refl
      where
        at : (b : Bool) → can_hinder (told o h) t g.writer ≡ b
            → cond b (Some g.writer) (first_writer (can_hinder (told o h) t) gs)
            ≡ cond b (Some g.writer) None
        at true hinders = refl
        at false free =
            nobody_first (can_hinder (told o h) t) gs
            (older_hinder_not g gs alive.0 free backs order.0)

    -- the obstacle is the newest writer, if that one can be in the way
    pub obstacle_is_newest : (table : List ℕ) (key : Value) (gs : List Generation)
        → AreGenerations o h table key gs
        → obstacle (told o h) t table key ≡ newest_writer_if (can_hinder (told o h) t) gs
    obstacle_is_newest table key gs it =
        obstacle_is_writer o opening h legal t table key gs it
        ∙ newest_decides gs it.alive it.backs it.order
