-- What a write of a key and the death of a transaction make of the versions of the key.
use Rattle.std.specs.Prelude.{◌≡◌, ◌≢◌, ℕ, ◌==◌, ◌&&◌, ◌||◌, not, Bool, true, false, List, [], ◌∷◌, ◌++◌, Option, Some, None, cond, refl}
use Rattle.std.proofs.Common.{sym, ◌∙◌, ap}
use Rattle.std.proofs.lemmas.Bool.{false≢true, both_ways, eqb-true, ne_eqb}
use Rattle.mg_base.specs.declared.transaction.TxState.{TxState}
use Rattle.mg_base.specs.declared.transaction.TxState.TheVariants.{Active, Limbo, Dead, Committed}
use Rattle.mg_value.specs.declared.value.Value.{Value}
use Rattle.mg_model.specs.declared.change.Change.{Change}
use Rattle.mg_model.specs.declared.change.Deed.TheVariants.{Changed}
use Rattle.mg_model.specs.declared.opening.Opening.{Opening}
use Rattle.mg_model.specs.History.{Entry, Entries}
use Rattle.mg_model.specs.Changes.{is_at, has_change, row_at}
use Rattle.mg_model.specs.Machine.{own, state_of, deeds_by, changes_in, changes_by, step, steps, database}
use Rattle.mg_model.specs.Answers.{told, is_committed, is_open, can_hinder, changes_key, newest_by, obstacle}
use Rattle.mg_model.specs.Legal.{MayBegin, IsLegal}
use Rattle.mg_model.specs.OverlapLaws.{saw_goes_on}
use Rattle.mg_model.specs.HinderLaws.{stands, saw_from_unhindered}
use Rattle.mg_generation_laws.specs.Generations.{are_on_top, Generation, first_writer, EachGeneration, EachOlder, is_newest_by, without_newest_by, put, PassesNews, AreGenerations}
use Rattle.mg_generation_laws.specs.ListLaws.{each_without, each_with, none_passes, order_without, each_as, shown_put, first_without}
use Rattle.mg_generation_laws.specs.CommittedLaws.{not_both, open_was_not_committed}
use Rattle.mg_generation_laws.specs.WriterLaws.{obstacle_is_writer}
use Rattle.mg_generation_laws.specs.TopLaws.{none_is_on_top}
use Rattle.mg_generation_laws.specs.OnwardLaws.{top_on, order_on, shows_on, shows_here, newest_on}

-- ---- what has no obstacle

settled_state : (other saw : Bool) (s : TxState) → other ≡ false → s ≢ Dead
    → (not other && (is_open s || (is_committed s && not saw))) ≡ false → s ≡ Committed
settled_state other saw Active apart alive free = absurd (false≢true (sym free ∙ rw apart refl))
settled_state other saw Limbo apart alive free = absurd (false≢true (sym free ∙ rw apart refl))
settled_state other saw Dead apart alive free = absurd (alive refl)
settled_state other saw Committed apart alive free = refl

none_first : (b : Bool) (u : ℕ) (rest : Option ℕ) → cond b (Some u) rest ≡ None → b ≡ false
none_first true u rest none = absurd cc
none_first false u rest none = refl

-- where nobody is in the way of a transaction, the versions besides its own are committed
pub others_are_settled : (o : Opening) (opening : MayBegin o) (h : Entries) (legal : IsLegal o h)
    (t : ℕ) (table : List ℕ) (key : Value) (gs : List Generation) → AreGenerations o h table key gs
    → obstacle (told o h) t table key ≡ None
    → EachGeneration (λ g. state_of o h g.writer ≡ Committed) (without_newest_by t gs)
others_are_settled o opening h legal t table key gs it none =
    all gs it.alive it.backs (sym (obstacle_is_writer o opening h legal t table key gs it) ∙ none)
  where
    all : (gs : List Generation) → EachGeneration (λ g. state_of o h g.writer ≢ Dead) gs
        → EachOlder (λ g. state_of o h g.writer ≡ Committed) gs
        → first_writer (can_hinder (told o h) t) gs ≡ None
        → EachGeneration (λ g. state_of o h g.writer ≡ Committed) (without_newest_by t gs)
    all [] alive backs none = tt
    all (g ∷ gs) alive backs none = at (g.writer == t) refl
      where
        at : (b : Bool) → (g.writer == t) ≡ b
            → EachGeneration (λ g. state_of o h g.writer ≡ Committed) (cond b gs (g ∷ gs))
        at true its = backs
        at false other = (
          settled_state (g.writer == t) ((told o h).saw t g.writer) (state_of o h g.writer) other
              alive.0
              (none_first (can_hinder (told o h) t g.writer) g.writer
              (first_writer (can_hinder (told o h) t) gs) none),
          backs,
        )

-- and it saw them committed
pub others_are_seen : (o : Opening) (opening : MayBegin o) (h : Entries) (legal : IsLegal o h)
    (t : ℕ) (table : List ℕ) (key : Value) (gs : List Generation) → AreGenerations o h table key gs
    → is_open (state_of o h t) ≡ true → obstacle (told o h) t table key ≡ None
    → EachGeneration (λ g. (told o h).saw t g.writer ≡ true) (without_newest_by t gs)
others_are_seen o opening h legal t table key gs it opened none =
    each_with (λ g. state_of o h g.writer ≡ Committed)
    (λ g. can_hinder (told o h) t g.writer ≡ false) (λ g. (told o h).saw t g.writer ≡ true)
    (without_newest_by t gs)
    (λ g was free. saw_from_unhindered (state_of o h g.writer) (not (g.writer == t))
    ((told o h).saw t g.writer) (apart g.writer was) (ap stands was) free)
    (others_are_settled o opening h legal t table key gs it none)
    (each_without (λ g. can_hinder (told o h) t g.writer ≡ false) t gs
    (none_passes (can_hinder (told o h) t) gs
    (sym (obstacle_is_writer o opening h legal t table key gs it) ∙ none)))
  where
    apart : (n : ℕ) → state_of o h n ≡ Committed → not (n == t) ≡ true
    apart n was = ap not (ne_eqb n t (λ same. not_both (state_of o h t) opened
        (ap is_committed (ap (state_of o h) (sym same) ∙ was))))

-- another open transaction is then no writer
not_newest_other : (state : ℕ → TxState) (t u : ℕ) (gs : List Generation)
    → EachGeneration (λ g. state g.writer ≡ Committed) (without_newest_by t gs)
    → (t == u) ≡ false → is_open (state u) ≡ true → is_newest_by u gs ≡ false
not_newest_other state t u [] settled apart opened = refl
not_newest_other state t u (g ∷ gs) settled apart opened = at (g.writer == t) refl settled
  where
    at : (b : Bool) → (g.writer == t) ≡ b
        → EachGeneration (λ g. state g.writer ≡ Committed) (cond b gs (g ∷ gs))
        → (g.writer == u) ≡ false
    at true its settled = ap (λ n. n == u) (eqb-true g.writer t its) ∙ apart
    at false other settled =
        ne_eqb g.writer u (λ same. both_ways (is_open (state u)) (ap is_open
        (ap state (sym same) ∙ settled.0)) opened)

module _ (o : Opening) (opening : MayBegin o) (h : Entries) (e : Entry) (legal : IsLegal o (e ∷ h))
    (table : List ℕ) (key : Value) (gs : List Generation) (it : AreGenerations o h table key gs)
  where
    -- ---- a write

    module _ (t : ℕ) (c : Change) (active : state_of o h t ≡ Active)
        (none : obstacle (told o h) t table key ≡ None) (here : is_at c table key ≡ true)
        (states : (u : ℕ) → state_of o (e ∷ h) u ≡ state_of o h u)
        (same : database o (e ∷ h) ≡ database o h)
        (more : steps o (e ∷ h) ≡ step t (Changed c) ∷ steps o h) where
      settled : EachGeneration (λ g. state_of o h g.writer ≡ Committed) (without_newest_by t gs)
      settled = others_are_settled o opening h legal.1 t table key gs it none

      never : (since before : Entries) → h ≡ since ++ before
          → is_committed (state_of o before t) ≡ false
      never since before is =
          open_was_not_committed o opening h legal.1 t (ap is_open active) since before is

      write_open : (u : ℕ) → is_open (state_of o h u) ≡ true → (b : Bool) → (t == u) ≡ b
          → has_change (changes_in (cond b (Changed c ∷ deeds_by u (steps o h))
          (deeds_by u (steps o h)))) table key ≡ b
      write_open u opened true its = rw here refl
      write_open u opened false other =
          it.open_ u opened ∙ not_newest_other (state_of o h) t u gs settled other opened

      write_gives : (u : ℕ) (b : Bool) → b ≡ true
          → row_at (changes_in (cond b (Changed c ∷ deeds_by u (steps o h))
          (deeds_by u (steps o h)))) table key ≡ c.row
      write_gives u true its = rw here refl
      write_gives u false its = absurd (false≢true its)

      write_top : (u : ℕ) → is_open (state_of o h u) ≡ true → (b : Bool) → (t == u) ≡ b
          → are_on_top (λ v. stands (state_of o (e ∷ h) v)) table key u
          (step t (Changed c) ∷ steps o h)
          ≡ true
      write_top u opened true its = rw (here, its) (at (stands (state_of o (e ∷ h) t)))
        where
          older : are_on_top (λ v. stands (state_of o (e ∷ h) v)) table key u (steps o h) ≡ true
          older = top_on o opening h e legal table key gs it u opened

          at : (b : Bool) → cond (b && false) (not (has_change (own o h u) table key))
              (are_on_top (λ v. stands (state_of o (e ∷ h) v)) table key u (steps o h)) ≡ true
          at true = older
          at false = older
      write_top u opened false other = rw (here, other) (at (stands (state_of o (e ∷ h) t)))
        where
          without : has_change (own o h u) table key ≡ false
          without = it.open_ u opened
              ∙ not_newest_other (state_of o h) t u gs settled other opened

          at : (b : Bool) → cond (b && true) (not (has_change (own o h u) table key))
              (are_on_top (λ v. stands (state_of o (e ∷ h) v)) table key u (steps o h)) ≡ true
          at true = ap not without
          at false =
              none_is_on_top table key (λ v. stands (state_of o (e ∷ h) v)) u (steps o h) without

      write_newest : (who : ℕ → Bool) → PassesNews o (e ∷ h) who
          → newest_by who (changes_key table key) (step t (Changed c) ∷ steps o h)
          ≡ first_writer who (put t c.row gs)
      write_newest who news = at (who t) refl
        where
          at : (b : Bool) → who t ≡ b
              → cond (b && is_at c table key) (Some t)
              (newest_by who (changes_key table key) (steps o h))
              ≡ cond b (Some t) (first_writer who (without_newest_by t gs))
          at true passes = rw here refl
          at false off =
              newest_on o opening h e legal table key gs it who news
              ∙ sym (first_without who t gs off)

      -- a write puts its version in front, in place of the writer's own one
      pub go_on_write : AreGenerations o (e ∷ h) table key (put t c.row gs)
      go_on_write = record {
        alive = (
          λ dead. active_not_dead (state_of o h t) active (sym (states t) ∙ dead),
          each_as (λ g. state_of o h g.writer ≡ Committed)
              (λ g. state_of o (e ∷ h) g.writer ≢ Dead)
              (without_newest_by t gs)
              (λ g was dead. committed_not_dead (state_of o h g.writer) was
              (sym (states g.writer) ∙ dead)) settled,
        );
        backs = each_as (λ g. state_of o h g.writer ≡ Committed)
            (λ g. state_of o (e ∷ h) g.writer ≡ Committed) (without_newest_by t gs)
            (λ g was. states g.writer ∙ was) settled;
        open_ = λ u now.
            ap (λ all. has_change (changes_by u all) table key) more
            ∙ write_open u (sym (ap is_open (states u)) ∙ now) (t == u) refl;
        gives = λ u now newest.
            ap (λ all. row_at (changes_by u all) table key) more ∙ write_gives u (t == u) newest;
        shows = shows_on o opening h e legal table key gs it (put t c.row gs)
            (shows_here o opening h e legal table key gs it same
            (λ u alive. ap is_committed (states u))
            ∙ sym (shown_put (λ u. is_committed (state_of o (e ∷ h) u)) t c.row gs
            (ap is_committed (states t ∙ active))))
            (λ since before is. sym (shown_put (λ u. is_committed (state_of o before u)) t c.row gs
            (never since before is)));
        top = λ u now.
            ap (are_on_top (λ v. stands (state_of o (e ∷ h) v)) table key u) more
            ∙ write_top u (sym (ap is_open (states u)) ∙ now) (t == u) refl;
        order = (
          each_as (λ g. (told o h).saw t g.writer ≡ true)
              (λ g. (told o (e ∷ h)).saw t g.writer ≡ true) (without_newest_by t gs)
              (λ g. saw_goes_on o opening h e legal.1 t g.writer)
              (others_are_seen o opening h legal.1 t table key gs it (ap is_open active) none),
          order_without (told o (e ∷ h)).saw t gs (order_on o opening h e legal table key gs it),
        );
        newest = λ who news.
            ap (newest_by who (changes_key table key)) more ∙ write_newest who news;
      }
        where
          active_not_dead : (s : TxState) → s ≡ Active → s ≡ Dead → ⊥
          active_not_dead s is dead = cc

          committed_not_dead : (s : TxState) → s ≡ Committed → s ≡ Dead → ⊥
          committed_not_dead s is dead = cc
