-- The cache while changes are taken back: at the beginning, after a batch, and at the end.
use Rattle.mg_base.specs.Disk.{MayLeave, Meaning}
use Rattle.mg_base.specs.Image.{Image, page_at}
use Rattle.mg_base.specs.Moments.{joined, leaves_as, started}
use Rattle.mg_base.specs.declared.transaction.TxState.{TxState}
use Rattle.mg_base.specs.declared.transaction.TxState.TheVariants.{Active, Dead}
use Rattle.mg_engine_step_laws.specs.backs.Again.{again, leaves_by, others_again, own_again, rolling, rows_again}
use Rattle.mg_engine_step_laws.specs.writes.Claims.{dead_every, every_as}
use Rattle.mg_engine_step_laws.specs.backs.Midway.{GoesBack, IsMidway, LastsDead, MidwaysBegin, MidwaysEnd}
use Rattle.mg_engine_step_laws.specs.commits.Idle.{RollbackLastsOn}
use Rattle.mg_engine_step_laws.specs.writes.Batches.{RowsLastStill}
use Rattle.mg_engine_step_laws.specs.writes.Caches.{kept_from}
use Rattle.mg_engine_step_laws.specs.writes.Knowing.{WasChanged}
use Rattle.mg_image.specs.Form.{Form}
use Rattle.mg_image.specs.Histories.{newest_at}
use Rattle.mg_image_overlay_laws.specs.transactions.CommitLaws.{LeavesOthers}
use Rattle.mg_lasting_laws.specs.ChangingLaws.{quiet_holds}
use Rattle.mg_lasting_laws.specs.CrashLaws.{asked_quiet, holds_cut}
use Rattle.mg_lasting_laws.specs.Crashes.{HoldsAcknowledged, LeavesSince, asked}
use Rattle.mg_lasting_laws.specs.Lasting.{LastsOn}
use Rattle.mg_model.specs.Changes.{row_at}
use Rattle.mg_model.specs.Effects.{commits, doer}
use Rattle.mg_model.specs.History.{Effect, Entries, Entry}
use Rattle.mg_model.specs.Legal.{IsLegal, MayBegin}
use Rattle.mg_model.specs.Machine.{database, next_after, next_number, own, state_after, state_of}
use Rattle.mg_model.specs.declared.change.Change.{Change}
use Rattle.mg_model.specs.declared.change.Point.{Point}
use Rattle.mg_model.specs.declared.opening.Opening.{Opening}
use Rattle.mg_overlay_laws.specs.Overlays.{left_by, left_state, nobody}
use Rattle.mg_pool.specs.Batch.{Changed}
use Rattle.mg_pool.specs.Pool.{shown}
use Rattle.mg_pool.specs.declared.pool.Pool.{Pool}
use Rattle.mg_pool_overlay_laws.specs.Needs.{Asked, Sessions}
use Rattle.mg_tie_laws.specs.Changed.{KeptIn}
use Rattle.mg_engine_step_laws.specs.standing.Standing.{Remembers, Standing}
use Rattle.mg_image_overlay_laws.specs.pages.DataKept.{KeepsBits}
use Rattle.mg_value.specs.declared.value.Value.{Value}
use Rattle.std.proofs.Common.{List, Some, ap, false, inl, inr, refl, subst, sym, ℕ, ◌∙◌, ◌∷◌, ◌≡◌, ◌≢◌, ◌⊎◌}
use Rattle.std.proofs.Math.Path.{fun_ext}
use Rattle.std.proofs.lemmas.Bool.{cases_eq, eq-eqb, ne_eqb}

-- ---- the history in which the transaction is rolled back

-- what a crash leaves of it is what it leaves without that end
pub holds_back : (form : Form) (size : ℕ) (o : Opening) (h : Entries) (t : ℕ) (c : Image)
    → HoldsAcknowledged form size o (rolling t ∷ h) c → HoldsAcknowledged form size o h c
holds_back form size o h t c holds = record {
  k = holds.k;
  at_least = holds.at_least;
  at_most = holds.at_most;
  holds = holds_cut form size (page_at size c) o (asked (rolling t ∷ h)) (asked h) holds.k holds.k refl holds.holds;
  legal = holds.legal;
}

module _ (o : Opening) (h : Entries) (e : Entry) (point : Point) (s : Standing) (has_asked : Asked) (t : ℕ)
    (memory : Remembers o h s) (goes : GoesBack o h e point s has_asked t) where
  pub dead : state_of o (rolling t ∷ h) t ≡ Dead
  dead = rw (eq-eqb t t refl) refl

  pub others : (u : ℕ) → u ≢ t → state_of o (rolling t ∷ h) u ≡ s.state u
  others u ne = rw (ne_eqb t u (λ same. ne (sym same))) (sym (memory.state u))

  pub leaves_back : LeavesOthers o h e t
  leaves_back = leaves_by o h e t (ap doer goes.back) (ap commits goes.back)

  -- the changes given again leave the database, and those of others
  pub rows_given : (cs : List Change) (name : List ℕ) (key : Value)
      → row_at (database o (again t cs (e ∷ h))) name key ≡ row_at (database o h) name key
  rows_given cs name key = rows_again o (e ∷ h) t cs name key ∙ leaves_back.rows name key

  pub others_given : (cs : List Change) (u : ℕ) → u ≢ t → own o (again t cs (e ∷ h)) u ≡ own o h u
  others_given cs u ne = others_again o (e ∷ h) t cs u ne ∙ leaves_back.others u ne

  pub dead_kept : {D L : Type 0} (form : Form) (size : ℕ) (store : Pool D L) (i : Image) (session : Sessions)
      (cs : List Change) → KeptIn form size o (again t cs (e ∷ h)) s.state has_asked session store i
      → KeptIn form size o (rolling t ∷ h) (state_of o (rolling t ∷ h)) has_asked session store i
  dead_kept form size store i session cs every = dead_every t s.state (state_of o (rolling t ∷ h)) dead others
      goes.active form size o (again t cs (e ∷ h)) (rolling t ∷ h) has_asked session store i
      (λ name key. sym (rows_given cs name key)) (λ u ne. sym (others_given cs u ne)) every

-- ---- the beginning

pub midways_begin : (form : Form) (D L : Type 0) (m : Meaning D) → RollbackLastsOn D L m form
    → MidwaysBegin form D L m
midways_begin form D L m rolls o h e point s pool i has_asked session t left stands lasts is_pool held tells goes
    taken = record {
      kept = every_as form pool.geometry.size o h (again t left (e ∷ h)) s.state has_asked session pool i
          (λ chosen. record {
            rows = λ name key. rows_given o h e point s has_asked t stands.memory goes left name key;
            changes = λ u name key limbo. at u name key (cases_eq u t);
          }) (kept_from m form o h s pool i has_asked session stands.memory is_pool held lasts);
      lasts = rolls o h (rolling t) t pool has_asked session refl refl refl
          (sym (stands.memory.state t) ∙ goes.active) lasts;
      leaves = record {
        since = started m pool.disk (HoldsAcknowledged form pool.geometry.size o h) left_now;
        left = left_now;
      };
    }
  where
    left_now : (c : Image) → MayLeave m pool.disk c → HoldsAcknowledged form pool.geometry.size o h c
    left_now c may = subst (λ (size : ℕ). HoldsAcknowledged form size o h c) is_pool.page_size (lasts.left c may)

    at : (u : ℕ) (name : List ℕ) (key : Value) → (u ≡ t) ⊎ (u ≢ t)
        → newest_at (own o (again t left (e ∷ h)) u) name key ≡ newest_at (own o h u) name key
    at u name key (inl same) = ap (λ (w : ℕ). newest_at (own o (again t left (e ∷ h)) w) name key) same
        ∙ (ap (λ (cs : List Change). newest_at cs name key) (own_again o (e ∷ h) t left)
        ∙ (taken name key ∙ ap (λ (w : ℕ). newest_at (own o h w) name key) (sym same)))
    at u name key (inr ne) = ap (λ (cs : List Change). newest_at cs name key)
        (others_given o h e point s has_asked t stands.memory goes left u ne)

-- ---- after a batch

pub lasts_of : {D L : Type 0} (m : Meaning D) (form : Form) (size : ℕ) (o : Opening) (h : Entries) (e : Entry) (t : ℕ)
    (left : List Change) (s : Standing) (start pool : Pool D L) (i : Image) (has_asked : Asked) (session : Sessions)
    → IsMidway m form size o h e t left s start pool i has_asked session
    → LastsDead m form size o h t start pool has_asked session
lasts_of m form size o h e t left s start pool i has_asked session midway =
    record { lasts = midway.lasts; leaves = midway.leaves }

-- a batch leaves the bits, and every overlay is kept with the transaction dead
module _ {D L : Type 0} (m : Meaning D) (form : Form) (begun : RowsLastStill D L m form) (o : Opening)
    (h : Entries) (start before after : Pool D L) (i j : Image) (batch : Changed) (has_asked : Asked)
    (session : Sessions) (t : ℕ) (opening : MayBegin o) (legal : IsLegal o (rolling t ∷ h))
    (midway : LastsDead m form before.geometry.size o h t start before has_asked session)
    (was : WasChanged m before after i j batch)
    (bits : KeepsBits before.geometry.size (shown before.dirty i) (shown after.dirty j))
    (kept : KeptIn form before.geometry.size o (rolling t ∷ h) (state_of o (rolling t ∷ h)) has_asked session after j)
  where
    abbrev size : ℕ
    size = before.geometry.size

    both : LastsOn m form o (rolling t ∷ h) after has_asked session
        × LeavesSince m before.disk after.disk (HoldsAcknowledged form before.dirty.size o (rolling t ∷ h))
    both = begun o (rolling t ∷ h) before after i j batch has_asked session opening legal midway.lasts
        (record {
          pool = was.pool;
          changes = was.changes;
          crash = was.crash;
          tells = was.tells;
          bits = bits;
          kept = kept;
        })

    as_was : (c : Image) → HoldsAcknowledged form before.dirty.size o (rolling t ∷ h) c
        → HoldsAcknowledged form size o h c
    as_was c holds = subst (λ (n : ℕ). HoldsAcknowledged form n o h c) was.pool.page_size
        (holds_back form before.dirty.size o h t c holds)

    pub lasts_on : LastsDead m form before.geometry.size o h t start after has_asked session
    lasts_on = record {
      lasts = both.0;
      leaves = record {
        since = joined m start.disk before.disk after.disk (HoldsAcknowledged form size o h) midway.leaves.since
            (leaves_as m before.disk after.disk (HoldsAcknowledged form before.dirty.size o (rolling t ∷ h))
            (HoldsAcknowledged form size o h) as_was both.1.since);
        left = λ c may. as_was c (both.1.left c may);
      };
    }

-- and with the changes that are not taken back yet
module _ {D L : Type 0} (m : Meaning D) (form : Form) (begun : RowsLastStill D L m form) (o : Opening)
    (h : Entries) (e : Entry) (point : Point) (s : Standing) (start before after : Pool D L) (i j : Image)
    (batch : Changed) (has_asked : Asked) (session : Sessions) (t : ℕ) (cs left : List Change)
    (opening : MayBegin o) (legal : IsLegal o h) (memory : Remembers o h s)
    (goes : GoesBack o h e point s has_asked t)
    (midway : IsMidway m form before.geometry.size o h e t cs s start before i has_asked session)
    (was : WasChanged m before after i j batch)
    (bits : KeepsBits before.geometry.size (shown before.dirty i) (shown after.dirty j))
    (kept : KeptIn form before.geometry.size o (again t left (e ∷ h)) s.state has_asked session after j) where
  then_ : LastsDead m form before.geometry.size o h t start after has_asked session
  then_ = lasts_on m form begun o h start before after i j batch has_asked session t opening (goes.ends, legal)
      (lasts_of m form before.geometry.size o h e t cs s start before i has_asked session midway) was bits
      (dead_kept o h e point s has_asked t memory goes form before.geometry.size after j session left kept)

  pub midway_on : IsMidway m form before.geometry.size o h e t left s start after j has_asked session
  midway_on = record { kept = kept; lasts = then_.lasts; leaves = then_.leaves }

-- ---- the end

pub midways_end : (form : Form) (D L : Type 0) (m : Meaning D) → MidwaysEnd form D L m
midways_end form D L m o h e point s start pool i has_asked session t memory goes is_pool held midway = (
  record {
    image = midway.lasts.image;
    held = midway.lasts.held;
    lasts = record {
      every = subst (λ (n : ℕ). KeptIn form n o (e ∷ h) (state_of o (e ∷ h)) has_asked session pool
          midway.lasts.image) (sym is_pool.page_size)
          (subst (λ (k : Image). KeptIn form pool.geometry.size o (e ∷ h) (state_of o (e ∷ h)) has_asked session
          pool k) (sym same) (subst (λ (state : ℕ → TxState). KeptIn form pool.geometry.size o (e ∷ h) state
          has_asked session pool i) state_is midway.kept));
      bits = λ set_ closed u. midway.lasts.lasts.bits set_ closed u ∙ bits_same u;
      next = midway.lasts.lasts.next ∙ sym (ap (λ (f : Effect). next_after f (next_number o h)) goes.back);
      clean = midway.lasts.lasts.clean;
      dirty = midway.lasts.lasts.dirty;
      all = midway.lasts.lasts.all;
    };
    settled = asked_quiet h e goes.no_failure ∙ ap (λ (x : Entries). e ∷ x) settled_was;
    left = λ c may. subst (λ (n : ℕ). HoldsAcknowledged form n o (e ∷ h) c) (sym is_pool.page_size)
        (quiet_holds form pool.geometry.size o h e c goes.passing goes.no_failure (midway.leaves.left c may));
  },
  midway.leaves,
)
  where
    same : midway.lasts.image ≡ i
    same = let both : Some midway.lasts.image ≡ Some i = sym midway.lasts.held ∙ held in cc

    state_at : (u : ℕ) → state_of o (e ∷ h) u ≡ state_of o h u
    state_at u = ap (λ (f : Effect). state_after f u (state_of o h u)) goes.back

    state_is : s.state ≡ state_of o (e ∷ h)
    state_is = fun_ext (λ u. memory.state u ∙ sym (state_at u))

    settled_was : asked h ≡ h
    settled_was =
        let heads : rolling t ∷ asked h ≡ rolling t ∷ h = midway.lasts.settled in cc

    -- the bits say of it what they say of one that is dead
    bits_same : (u : ℕ) → left_state nobody (state_of o (rolling t ∷ h)) u ≡ left_state nobody (state_of o (e ∷ h)) u
    bits_same u = at (cases_eq u t)
      where
        at : (u ≡ t) ⊎ (u ≢ t)
            → left_state nobody (state_of o (rolling t ∷ h)) u ≡ left_state nobody (state_of o (e ∷ h)) u
        at (inl is) =
            let gone : state_of o (rolling t ∷ h) u ≡ Dead = ap (state_of o (rolling t ∷ h)) is
            ∙ dead o h e point s has_asked t memory goes in
            let runs : state_of o (e ∷ h) u ≡ Active = state_at u ∙ (sym (memory.state u)
            ∙ (ap s.state is ∙ goes.active)) in
            ap (left_by false) gone ∙ sym (ap (left_by false) runs)
        at (inr ne) = ap (left_by false) (others o h e point s has_asked t memory goes u ne
            ∙ (memory.state u ∙ sym (state_at u)))
