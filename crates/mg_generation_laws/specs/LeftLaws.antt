-- What is left of the versions of a key once some steps of one transaction are gone.
use Rattle.std.specs.Prelude.{◌≡◌, ◌≢◌, ℕ, ◌==◌, ◌&&◌, not, Bool, true, false, List, [], ◌∷◌, ◌++◌, Some, cond, refl}
use Rattle.std.proofs.Common.{sym, ◌∙◌, ap}
use Rattle.std.proofs.lemmas.Bool.{both_ways, eqb-true, eq-eqb, ne_eqb, and_left, and_right, false_from_ne_true}
use Rattle.mg_base.specs.declared.transaction.TxState.{TxState}
use Rattle.mg_base.specs.declared.transaction.TxState.TheVariants.{Active, Limbo, Dead, Committed}
use Rattle.mg_value.specs.declared.value.Value.{Value}
use Rattle.mg_model.specs.declared.change.Deed.{Deed}
use Rattle.mg_model.specs.declared.opening.Opening.{Opening}
use Rattle.mg_model.specs.Changes.{has_change, row_at}
use Rattle.mg_model.specs.History.{Entry, Entries}
use Rattle.mg_model.specs.Machine.{state_of, deeds_by, changes_in, steps, database, own}
use Rattle.mg_model.specs.Answers.{told, is_committed, is_open, changes_key, newest_by}
use Rattle.mg_model.specs.Legal.{MayBegin, IsLegal}
use Rattle.mg_model.specs.HinderLaws.{stands}
use Rattle.mg_generation_laws.specs.Generations.{Generation, shown_by, first_writer, EachGeneration, EachOlder, is_newest_by, newest_row, without_newest_by, put, AreSeenInOrder, are_on_top, PassesNews, AreGenerations}
use Rattle.mg_generation_laws.specs.ListLaws.{each_as, older_as, each_without, older_without, shown_put, shown_without, first_as, first_without, order_without}
use Rattle.mg_generation_laws.specs.CommittedLaws.{open_was_not_committed, open_is_not_committed}
use Rattle.mg_generation_laws.specs.DeadLaws.{left_are_others, newest_without, both_newest, gives_without}
use Rattle.mg_generation_laws.specs.StepLaws.{newest_as}
use Rattle.mg_generation_laws.specs.TopLaws.{on_top_as, top_is_found}
use Rattle.mg_generation_laws.specs.ThinLaws.{Thinned, thinned_has, thinned_top, thinned_newest}
use Rattle.mg_generation_laws.specs.OnwardLaws.{shows_on, shows_here, top_on, order_on, newest_on}

-- where the newest is a transaction's, the others are the older ones
others_are_older : (P : Generation → Type 0) (t : ℕ) (gs : List Generation)
    → is_newest_by t gs ≡ true → EachOlder P gs → EachGeneration P (without_newest_by t gs)
others_are_older P t [] its each = tt
others_are_older P t (g ∷ gs) its each = rw its each

-- which it saw
others_are_seen_by : (saw : ℕ → ℕ → Bool) (t : ℕ) (gs : List Generation)
    → is_newest_by t gs ≡ true → AreSeenInOrder saw gs
    → EachGeneration (λ g. saw t g.writer ≡ true) (without_newest_by t gs)
others_are_seen_by saw t [] its order = tt
others_are_seen_by saw t (g ∷ gs) its order =
    rw its (each_as (λ older. saw g.writer older.writer ≡ true)
    (λ older. saw t older.writer ≡ true) gs
    (λ older is. ap (λ n. saw n older.writer) (sym (eqb-true g.writer t its)) ∙ is) order.0)

wrote_none_newest : (t : ℕ) (gs : List Generation)
    → EachGeneration (λ g. (g.writer == t) ≡ false) gs → is_newest_by t gs ≡ false
wrote_none_newest t [] others = refl
wrote_none_newest t (g ∷ gs) others = others.0

not_dead : (s : TxState) → is_open s ≡ true → s ≡ Dead → ⊥
not_dead s opened dead = both_ways (is_open s) (ap is_open dead) opened

module _ (o : Opening) (opening : MayBegin o) (h : Entries) (e : Entry) (legal : IsLegal o (e ∷ h))
    (table : List ℕ) (key : Value) (gs : List Generation) (it : AreGenerations o h table key gs)
    (t : ℕ) (opened : is_open (state_of o h t) ≡ true)
    (states : (u : ℕ) → state_of o (e ∷ h) u ≡ state_of o h u)
    (same : database o (e ∷ h) ≡ database o h)
    (thin : Thinned t (steps o h) (steps o (e ∷ h)))
    (others : (u : ℕ) → (t == u) ≡ false
    → deeds_by u (steps o (e ∷ h)) ≡ deeds_by u (steps o h)) where
  was : (u : ℕ) → is_open (state_of o (e ∷ h) u) ≡ true → is_open (state_of o h u) ≡ true
  was u now = sym (ap is_open (states u)) ∙ now

  other_changes : (u : ℕ) → (t == u) ≡ false
      → has_change (own o (e ∷ h) u) table key ≡ has_change (own o h u) table key
  other_changes u other =
      ap (λ (deeds : List Deed). has_change (changes_in deeds) table key) (others u other)

  other_rows : (u : ℕ) → (t == u) ≡ false
      → row_at (own o (e ∷ h) u) table key ≡ row_at (own o h u) table key
  other_rows u other =
      ap (λ (deeds : List Deed). row_at (changes_in deeds) table key) (others u other)

  survive : (gs : List Generation) → EachGeneration (λ g. state_of o h g.writer ≢ Dead) gs
      → EachGeneration (λ g. state_of o (e ∷ h) g.writer ≢ Dead) gs
  survive gs alive =
      each_as (λ g. state_of o h g.writer ≢ Dead) (λ g. state_of o (e ∷ h) g.writer ≢ Dead) gs
      (λ g alive dead. alive (sym (states g.writer) ∙ dead)) alive

  now_committed : (g : Generation) → state_of o h g.writer ≡ Committed
      → state_of o (e ∷ h) g.writer ≡ Committed
  now_committed g was = states g.writer ∙ was

  still_top : (u : ℕ) → is_open (state_of o (e ∷ h) u) ≡ true
      → are_on_top (λ v. stands (state_of o (e ∷ h) v)) table key u (steps o (e ∷ h)) ≡ true
  still_top u now =
      thinned_top table key t (λ v. stands (state_of o (e ∷ h) v)) u (steps o h) (steps o (e ∷ h))
      thin (top_on o opening h e legal table key gs it u (was u now))

  uncommitted : is_committed (state_of o (e ∷ h) t) ≡ false
  uncommitted = open_is_not_committed (state_of o (e ∷ h) t) (ap is_open (states t) ∙ opened)

  database_here : row_at (database o (e ∷ h)) table key
      ≡ shown_by (λ u. is_committed (state_of o (e ∷ h) u)) gs
  database_here =
      shows_here o opening h e legal table key gs it same (λ u alive. ap is_committed (states u))

  never : (since before : Entries) → h ≡ since ++ before
      → is_committed (state_of o before t) ≡ false
  never = open_was_not_committed o opening h legal.1 t opened

  -- ---- a change of the key is left

  module _ (has : has_change (own o (e ∷ h) t) table key ≡ true) where
    its : is_newest_by t gs ≡ true
    its = sym (it.open_ t opened)
        ∙ thinned_has table key t (steps o h) (steps o (e ∷ h)) thin t has

    kept_open : (u : ℕ) → is_open (state_of o h u) ≡ true → (b : Bool) → (t == u) ≡ b
        → has_change (own o (e ∷ h) u) table key ≡ b
    kept_open u open_now true is =
        ap (λ n. has_change (own o (e ∷ h) n) table key) (sym (eqb-true t u is)) ∙ has
    kept_open u open_now false other =
        other_changes u other ∙ it.open_ u open_now
        ∙ false_from_ne_true (is_newest_by u gs)
        (λ newest. both_ways (t == u) other (both_newest t u gs its newest))

    passes_stands : (who : ℕ → Bool) → PassesNews o (e ∷ h) who → (u : ℕ) → who u ≡ true
        → stands (state_of o (e ∷ h) u) ≡ true
    passes_stands who news u passes = at (state_of o (e ∷ h) u) refl
      where
        at : (s : TxState) → state_of o (e ∷ h) u ≡ s → stands s ≡ true
        at Active is = refl
        at Limbo is = refl
        at Committed is = refl
        at Dead is = absurd (both_ways (who u) (news.dead u is) passes)

    kept_newest : (who : ℕ → Bool) → PassesNews o (e ∷ h) who
        → newest_by who (changes_key table key) (steps o (e ∷ h))
        ≡ cond (who t) (Some t) (first_writer who (without_newest_by t gs))
    kept_newest who news = at (who t) refl
      where
        at : (b : Bool) → who t ≡ b
            → newest_by who (changes_key table key) (steps o (e ∷ h))
            ≡ cond b (Some t) (first_writer who (without_newest_by t gs))
        at true passes =
            top_is_found table key who t (steps o (e ∷ h)) passes has
            (on_top_as table key (λ v. stands (state_of o (e ∷ h) v)) who t (steps o (e ∷ h))
            (λ u changes. passes_stands who news u)
            (still_top t (ap is_open (states t) ∙ opened)))
        at false off =
            thinned_newest table key t who (steps o h) (steps o (e ∷ h)) thin off
            ∙ newest_on o opening h e legal table key gs it who news
            ∙ sym (first_without who t gs off)

    -- its version has the row that the change gives that is the newest then
    pub go_on_kept : AreGenerations o (e ∷ h) table key
        (put t (row_at (own o (e ∷ h) t) table key) gs)
    go_on_kept =
        record {
          alive = (
            λ dead. not_dead (state_of o h t) opened (sym (states t) ∙ dead),
            survive (without_newest_by t gs)
                (each_without (λ g. state_of o h g.writer ≢ Dead) t gs it.alive),
          );
          backs = each_as (λ g. state_of o h g.writer ≡ Committed)
              (λ g. state_of o (e ∷ h) g.writer ≡ Committed) (without_newest_by t gs) now_committed
              (others_are_older (λ g. state_of o h g.writer ≡ Committed) t gs its it.backs);
          open_ = λ u now. kept_open u (was u now) (t == u) refl;
          gives = λ u now newest.
              ap (λ n. row_at (own o (e ∷ h) n) table key) (sym (eqb-true t u newest));
          shows = shows_on o opening h e legal table key gs it
              (put t (row_at (own o (e ∷ h) t) table key) gs)
              (database_here ∙ sym (shown_put (λ u. is_committed (state_of o (e ∷ h) u)) t
              (row_at (own o (e ∷ h) t) table key) gs uncommitted))
              (λ since before is. sym (shown_put (λ u. is_committed (state_of o before u)) t
              (row_at (own o (e ∷ h) t) table key) gs (never since before is)));
          top = still_top;
          order = (
            others_are_seen_by (told o (e ∷ h)).saw t gs its
                (order_on o opening h e legal table key gs it),
            order_without (told o (e ∷ h)).saw t gs (order_on o opening h e legal table key gs it),
          );
          newest = kept_newest;
        }

  -- ---- none is left

  module _ (none : has_change (own o (e ∷ h) t) table key ≡ false) where
    left : EachGeneration (λ g. (g.writer == t) ≡ false) (without_newest_by t gs)
    left = left_are_others (state_of o h) t gs it.backs opened

    not_its : (u : ℕ) → (t == u) ≡ true → is_newest_by u (without_newest_by t gs) ≡ false
    not_its u is =
        ap (λ n. is_newest_by n (without_newest_by t gs)) (sym (eqb-true t u is))
        ∙ wrote_none_newest t (without_newest_by t gs) left

    gone_open : (u : ℕ) → is_open (state_of o h u) ≡ true → (b : Bool) → (t == u) ≡ b
        → has_change (own o (e ∷ h) u) table key ≡ is_newest_by u (without_newest_by t gs)
    gone_open u open_now true is =
        ap (λ n. has_change (own o (e ∷ h) n) table key) (sym (eqb-true t u is)) ∙ none
        ∙ sym (not_its u is)
    gone_open u open_now false other =
        other_changes u other ∙ it.open_ u open_now
        ∙ sym (newest_without (state_of o h) t u gs it.backs other open_now)

    gone_gives : (u : ℕ) → is_open (state_of o h u) ≡ true
        → is_newest_by u (without_newest_by t gs) ≡ true → (b : Bool) → (t == u) ≡ b
        → row_at (own o (e ∷ h) u) table key ≡ newest_row (without_newest_by t gs)
    gone_gives u open_now newest true is =
        absurd (both_ways (is_newest_by u (without_newest_by t gs)) (not_its u is) newest)
    gone_gives u open_now newest false other =
        other_rows u other ∙ gives_without o h table key gs it t u other open_now newest

    -- who passes, but for the transaction
    abbrev but : (ℕ → Bool) → ℕ → Bool
    but who u = who u && not (u == t)

    but_other : (b c : Bool) → c ≡ false → b ≡ (b && not c)
    but_other true c off = sym (ap not off)
    but_other false c off = refl

    but_news : (who : ℕ → Bool) → PassesNews o (e ∷ h) who → PassesNews o (e ∷ h) (but who)
    but_news who news = record {
      dead = λ u is. and_left (who u) (not (u == t)) (news.dead u is);
      old = λ u is. and_left (who u) (not (u == t)) (news.old u is);
    }

    but_off : (who : ℕ → Bool) → but who t ≡ false
    but_off who = and_right (who t) (not (t == t)) (ap not (eq-eqb t t refl))

    gone_newest : (who : ℕ → Bool) → PassesNews o (e ∷ h) who
        → newest_by who (changes_key table key) (steps o (e ∷ h))
        ≡ first_writer who (without_newest_by t gs)
    gone_newest who news =
        newest_as table key who (but who) (steps o (e ∷ h))
        (λ u has. but_other (who u) (u == t)
        (ne_eqb u t (λ is. both_ways (has_change (own o (e ∷ h) t) table key) none
        (ap (λ n. has_change (own o (e ∷ h) n) table key) (sym is) ∙ has))))
        ∙ thinned_newest table key t (but who) (steps o h) (steps o (e ∷ h)) thin (but_off who)
        ∙ newest_on o opening h e legal table key gs it (but who) (but_news who news)
        ∙ sym (first_without (but who) t gs (but_off who))
        ∙ sym (first_as who (but who) (without_newest_by t gs)
        (each_as (λ g. (g.writer == t) ≡ false) (λ g. who g.writer ≡ but who g.writer)
        (without_newest_by t gs)
        (λ g other. but_other (who g.writer) (g.writer == t) other) left))

    -- its version is gone
    pub go_on_gone : AreGenerations o (e ∷ h) table key (without_newest_by t gs)
    go_on_gone = record {
      alive = survive (without_newest_by t gs)
          (each_without (λ g. state_of o h g.writer ≢ Dead) t gs it.alive);
      backs = older_as (λ g. state_of o h g.writer ≡ Committed)
          (λ g. state_of o (e ∷ h) g.writer ≡ Committed) (without_newest_by t gs) now_committed
          (older_without (λ g. state_of o h g.writer ≡ Committed) t gs it.backs);
      open_ = λ u now. gone_open u (was u now) (t == u) refl;
      gives = λ u now newest. gone_gives u (was u now) newest (t == u) refl;
      shows = shows_on o opening h e legal table key gs it (without_newest_by t gs)
          (database_here ∙ sym (shown_without (λ u. is_committed (state_of o (e ∷ h) u)) t gs
          uncommitted))
          (λ since before is. sym (shown_without (λ u. is_committed (state_of o before u)) t gs
          (never since before is)));
      top = still_top;
      order = order_without (told o (e ∷ h)).saw t gs
          (order_on o opening h e legal table key gs it);
      newest = gone_newest;
    }
