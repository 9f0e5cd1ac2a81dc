-- An engine's cache bears its demands still where its memory tells of its transactions otherwise.
use Rattle.std.specs.Prelude.{◌≡◌, ◌≢◌, ◌⊎◌, ◌&&◌, ◌||◌, ◌==◌, ℕ, Bool, true, false, not}
use Rattle.std.proofs.Common.{inl, inr, refl, sym, subst, ap, ◌∙◌}
use Rattle.std.proofs.Math.Path.{fun_ext}
use Rattle.std.proofs.lemmas.Bool.{and_from, and_parts, both_ways, cases_eq, eq-eqb, eqb-true, ne_eqb, not_from_false, or_cases, or_left, or_right}
use Rattle.mg_base.specs.declared.transaction.TxState.TheVariants.{Active, Committed}
use Rattle.mg_careful.specs.declared.links.Demand.{Demand}
use Rattle.mg_careful.specs.Precedence.{Orders}
use Rattle.mg_careful.specs.CarefulWrite.{Cache, DemandSet, IsIn, PageSet, Pages, three_parts}
use Rattle.mg_careful.specs.CarefulSteps.{written_out}
use Rattle.mg_demand_laws.specs.Freeing.{WritesBearAll}
use Rattle.mg_demand_laws.specs.Runs.{BearsLinks, IsLasting, Lasting, ThreeHasBoth}
use Rattle.mg_image.specs.Tables.{Layout}
use Rattle.mg_model.specs.Answers.{is_committed}
use Rattle.mg_space.specs.Demands.{demands_of, meets_of}
use Rattle.mg_space.specs.declared.links.TheConstants.{VERSION}
use Rattle.mg_demand_laws.specs.SettleTies.{CommitSettles, settled_with}
use Rattle.mg_engine_demand_laws.specs.Bearing.{Fates, IsBorne, LastsFor, Marks, asks, lasting_clean, no_page}
use Rattle.mg_engine_demand_laws.specs.CacheLaws.{and_true, clean_links, nothing_closed}
use Rattle.mg_engine_demand_laws.specs.Fates.{AskingKeeps, AsksNow, CommittingKeeps, TellingKeeps}

-- ---- fewer versions last

-- what lasts for these transactions
abbrev pub lasting_less : Fates → Lasting → Lasting
lasting_less fates it = record {
  settled = it.settled;
  lasts = λ d. it.lasts d && (is_committed (fates.state d.b) || asks fates d.b);
}

module _ (old new : Fates) (it : Lasting) (lasting : IsLasting it) (for : LastsFor old it)
    (committed : (t : ℕ) → is_committed (new.state t) ≡ is_committed (old.state t)) where
  pub less_lasting : IsLasting (lasting_less new it)
  less_lasting = record {
    versions = λ d is. lasting.versions d (and_parts (it.lasts d) _ is).0;
    of_settled = λ d is done. and_from _ _ (lasting.of_settled d is done)
        (or_left _ _ (committed d.b ∙ (sym (for.settled d.b) ∙ done)));
  }

  pub less_for : LastsFor new (lasting_less new it)
  less_for = record {
    settled = λ t. for.settled t ∙ sym (committed t);
    lasts = λ d is. or_cases (is_committed (new.state d.b)) _ (and_parts (it.lasts d) _ is).1;
  }

less_links : (size : ℕ) (cache : Cache) (it : Lasting) (fates : Fates) (of_disk of_pool : DemandSet)
    → BearsLinks size cache it of_disk of_pool → IsLasting (lasting_less fates it)
    → BearsLinks size cache (lasting_less fates it) of_disk of_pool
less_links size cache it fates of_disk of_pool links lasting = record {
  lasting = lasting;
  all = record {
    bears = links.all.bears;
    lasting = λ d h is. links.all.lasting d h (and_parts (it.lasts d) _ is).0;
    links = links.all.links;
  };
  wants = links.wants;
}

pub telling_keeps : TellingKeeps
telling_keeps size cache marks old new layout later roots borne tells = record {
  it = lasting_less new borne.it;
  of_disk = borne.of_disk;
  of_pool = borne.of_pool;
  bears = record {
    its = record {
      bears = less_links size cache borne.it new borne.of_disk borne.of_pool borne.bears.its.bears
          (less_lasting old new borne.it borne.bears.its.bears.lasting borne.bears.lasting tells.committed);
      orderly = borne.bears.its.orderly;
      chained = borne.bears.its.chained;
    };
    lasting = less_for old new borne.it borne.bears.its.bears.lasting borne.bears.lasting tells.committed;
    header = borne.bears.header;
    tables = λ table its. borne.bears.tables table (tells.tables table its);
    numbers = λ t active. elim (tells.active t active) [
      | inl was ↦ borne.bears.numbers t was
      | inr drawn ↦ drawn
    ];
    written = λ d asking h is. let was = tells.asking d.b asking in elim (borne.bears.written d was.0 h is) [
      | inl lasts ↦ inl (and_from _ _ lasts (or_right (is_committed (new.state d.b)) _ asking))
      | inr marked ↦ inr (subst (λ (who : ℕ). marks d.target who ≡ true) (sym was.1) marked)
    ];
    rooted = borne.bears.rooted;
  };
}

-- ---- a commit is asked for

-- a cache is its four parts
cache_from : Pages → Pages → PageSet → Orders → Cache
cache_from disk pool dirty ordered = record { disk = disk; pool = pool; dirty = dirty; ordered = ordered }

-- with no page written out a cache is as it was
none_out : (cache : Cache) → ((p q : ℕ) → cache.ordered p q ≡ true → (cache.dirty p ≡ true) × (cache.dirty q ≡ true))
    → written_out cache no_page ≡ cache
unfolding cache_from
none_out cache only = ap (λ (x : PageSet). cache_from cache.disk cache.pool x (written_out cache no_page).ordered)
    (fun_ext (λ p. and_true (cache.dirty p)))
    ∙ ap (λ (x : Orders). cache_from cache.disk cache.pool cache.dirty x) (fun_ext (λ a. fun_ext (λ b.
    at (cache.ordered a b) (cache.dirty a) (cache.dirty b) (only a b))))
  where
    at : (o x y : Bool) → (o ≡ true → (x ≡ true) × (y ≡ true)) → (o && ((x && not false) && (y && not false))) ≡ o
    at true true true both = refl
    at true true false both = absurd (let h : false ≡ true = (both refl).1 in cc)
    at true false y both = absurd (let h : false ≡ true = (both refl).0 in cc)
    at false x y both = refl

module _ (law : WritesBearAll demands_of meets_of) (both : ThreeHasBoth) (size : ℕ) (cache : Cache) (marks now : Marks)
    (old new : Fates) (layout : Layout) (roots : DemandSet) (t : ℕ)
    (borne : IsBorne size cache marks old layout roots) (asks_now : AsksNow cache marks now old new t) where
  abbrev of_disk : DemandSet
  of_disk = three_parts cache no_page borne.of_disk borne.of_pool

  abbrev it : Lasting
  it = lasting_clean new cache.dirty borne.it

  links : BearsLinks size cache it of_disk borne.of_pool
  links = subst (λ (c : Cache). BearsLinks size c (lasting_clean new c.dirty borne.it) of_disk borne.of_pool)
      (none_out cache borne.bears.its.bears.all.bears.careful.only_dirty)
      (clean_links law size cache new borne.it borne.of_disk borne.of_pool borne.bears.its.bears no_page
      (nothing_closed cache))

  asks_still : (u : ℕ) → asks old u ≡ true → (u ≡ t) ⊎ (u ≢ t) → asks new u ≡ true
  asks_still u was (inl same) = ap (asks new) same ∙ asks_now.asked
  asks_still u was (inr other) = (asks_now.others u other).0 ∙ was

  lasts_now : (d : Demand) → it.lasts d ≡ true → (is_committed (new.state d.b) ≡ true) ⊎ (asks new d.b ≡ true)
  lasts_now d is = elim (or_cases (borne.it.lasts d) _ is) [
    | inl x ↦ elim (borne.bears.lasting.lasts d x) [
      | inl committed ↦ inl (ap is_committed (asks_now.state d.b) ∙ committed)
      | inr asked ↦ inr (asks_still d.b asked (cases_eq d.b t))
    ]
    | inr y ↦ inr (and_parts (asks new d.b) _ (and_parts (d.what == VERSION) _ y).1).0
  ]

  -- a version of one that asks now: its page is dirty, and so it is marked; or it is on the disk
  its_own : (d : Demand) → asks new d.b ≡ true → d.what ≡ VERSION → d.b ≡ t → (b : Bool) → cache.dirty d.target ≡ b
      → (it.lasts d ≡ true) ⊎ (now d.target (new.session d.b) ≡ true)
  its_own d asking is same true dirty = inr (ap (λ (u : ℕ). now d.target (new.session u)) same
      ∙ (asks_now.marked d.target ∙ dirty))
  its_own d asking is same false clean = inl (or_right (borne.it.lasts d) _ (and_from _ _ (eq-eqb d.what VERSION is)
      (and_from _ _ asking (not_from_false _ clean))))

  written_now : (d : Demand) → asks new d.b ≡ true → IsIn borne.of_pool d → d.what ≡ VERSION
      → (d.b ≡ t) ⊎ (d.b ≢ t) → (it.lasts d ≡ true) ⊎ (now d.target (new.session d.b) ≡ true)
  written_now d asking h is (inl same) = its_own d asking is same (cache.dirty d.target) refl
  written_now d asking h is (inr other) =
      let its = asks_now.others d.b other in
      elim (borne.bears.written d (sym its.0 ∙ asking) h is) [
        | inl lasts ↦ inl (or_left (borne.it.lasts d) _ lasts)
        | inr marked ↦ inr (asks_now.other_marks d.target (new.session d.b) (asks_now.apart d.b other asking)
            ∙ (ap (marks d.target) its.1 ∙ marked))
      ]

  pub asking_keep : IsBorne size cache now new layout roots
  asking_keep = record {
    it = it;
    of_disk = of_disk;
    of_pool = borne.of_pool;
    bears = record {
      its = record { bears = links; orderly = borne.bears.its.orderly; chained = borne.bears.its.chained };
      lasting = record {
        settled = λ u. borne.bears.lasting.settled u ∙ ap is_committed (sym (asks_now.state u));
        lasts = lasts_now;
      };
      header = borne.bears.header;
      tables = borne.bears.tables;
      numbers = λ u active. borne.bears.numbers u (sym (asks_now.state u) ∙ active);
      written = λ d asking h is. written_now d asking h is (cases_eq d.b t);
      rooted = λ d is. let roots_ = borne.bears.rooted d is in
          (roots_.0, both cache no_page borne.of_disk borne.of_pool d roots_.1 roots_.2, roots_.2);
    };
  }

pub asking_keeps : WritesBearAll demands_of meets_of → ThreeHasBoth → AskingKeeps
asking_keeps law both size cache marks now old new layout roots t borne asks_now =
    asking_keep law both size cache marks now old new layout roots t borne asks_now

pub committing_keeps : CommitSettles → CommittingKeeps
committing_keeps law size cache marks old new layout roots t borne done = record {
  it = settled_with borne.it t;
  of_disk = borne.of_disk;
  of_pool = borne.of_pool;
  bears = record {
    its = record {
      bears = law size cache borne.it t borne.of_disk borne.of_pool borne.bears.its.bears all_last;
      orderly = borne.bears.its.orderly;
      chained = borne.bears.its.chained;
    };
    lasting = record { settled = settled_now; lasts = lasts_now };
    header = borne.bears.header;
    tables = borne.bears.tables;
    numbers = λ u active. borne.bears.numbers u (active_before u active (cases_eq u t));
    written = λ d asking h is. written_now d asking h is (cases_eq d.b t);
    rooted = borne.bears.rooted;
  };
}
  where
    all_last : (d : Demand) → IsIn borne.of_pool d → d.what ≡ VERSION → d.b ≡ t → borne.it.lasts d ≡ true
    all_last d h is its = elim (borne.bears.written d (subst (λ (u : ℕ). asks old u ≡ true) (sym its) done.asked) h is) [
      | inl lasts ↦ lasts
      | inr marked ↦ absurd (both_ways _ (done.none_marked d.target)
          (subst (λ (u : ℕ). marks d.target (old.session u) ≡ true) its marked))
    ]

    settled_now : (u : ℕ) → (borne.it.settled u || u == t) ≡ is_committed (new.state u)
    settled_now u = at (cases_eq u t)
      where
        at : (u ≡ t) ⊎ (u ≢ t) → (borne.it.settled u || u == t) ≡ is_committed (new.state u)
        at (inl same) = or_right (borne.it.settled u) _ (eq-eqb u t same)
            ∙ sym (ap is_committed (ap new.state same ∙ done.here))
        at (inr other) = ap (λ (b : Bool). borne.it.settled u || b) (ne_eqb u t other)
            ∙ (or_none (borne.it.settled u)
            ∙ (borne.bears.lasting.settled u ∙ ap is_committed (sym (done.others u other))))
          where
            or_none : (b : Bool) → (b || false) ≡ b
            or_none true = refl
            or_none false = refl

    committed_now : (d : Demand) → d.b ≡ t → is_committed (new.state d.b) ≡ true
    committed_now d its = ap is_committed (ap new.state its ∙ done.here)

    lasts_now : (d : Demand) → (settled_with borne.it t).lasts d ≡ true
        → (is_committed (new.state d.b) ≡ true) ⊎ (asks new d.b ≡ true)
    lasts_now d is = at (cases_eq d.b t)
      where
        at : (d.b ≡ t) ⊎ (d.b ≢ t) → (is_committed (new.state d.b) ≡ true) ⊎ (asks new d.b ≡ true)
        at (inl same) = inl (committed_now d same)
        at (inr other) = elim (or_cases (borne.it.lasts d) _ is) [
          | inl x ↦ elim (borne.bears.lasting.lasts d x) [
            | inl committed ↦ inl (ap is_committed (done.others d.b other) ∙ committed)
            | inr asked ↦ inr ((done.asking d.b other).0 ∙ asked)
          ]
          | inr y ↦ absurd (other (eqb-true d.b t (and_parts (d.what == VERSION) _ y).1))
        ]

    active_before : (u : ℕ) → new.state u ≡ Active → (u ≡ t) ⊎ (u ≢ t) → old.state u ≡ Active
    active_before u active (inl same) =
        let both : Active ≡ Committed = sym active ∙ (ap new.state same ∙ done.here) in absurd cc
    active_before u active (inr other) = sym (done.others u other) ∙ active

    written_now : (d : Demand) → asks new d.b ≡ true → IsIn borne.of_pool d → d.what ≡ VERSION
        → (d.b ≡ t) ⊎ (d.b ≢ t)
        → ((settled_with borne.it t).lasts d ≡ true) ⊎ (marks d.target (new.session d.b) ≡ true)
    written_now d asking h is (inl same) = inl (or_left (borne.it.lasts d) _ (all_last d h is same))
    written_now d asking h is (inr other) = let was = done.asking d.b other in
        elim (borne.bears.written d (sym was.0 ∙ asking) h is) [
          | inl lasts ↦ inl (or_left (borne.it.lasts d) _ lasts)
          | inr marked ↦ inr (subst (λ (who : ℕ). marks d.target who ≡ true) (sym was.1) marked)
        ]
