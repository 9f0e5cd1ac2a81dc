-- A transaction that is taken back to a mark or a savepoint is as it was when it set it.
use Rattle.std.specs.Prelude.{◌≡◌, ℕ, ◌==◌, ◌&&◌, Bool, true, false, List, [], ◌∷◌, ◌++◌, refl}
use Rattle.std.proofs.Common.{sym, ◌∙◌, ap}
use Rattle.std.proofs.lemmas.Bool.{eq-eqb, not-true}
use Rattle.mg_model.specs.declared.change.Deed.{Deed}
use Rattle.mg_model.specs.declared.change.Deed.TheVariants.{Marked, Saved}
use Rattle.mg_model.specs.declared.change.Step.{Step}
use Rattle.mg_model.specs.declared.event.Mode.{Mode}
use Rattle.mg_model.specs.declared.opening.Opening.{Opening}
use Rattle.mg_model.specs.Changes.{row_at}
use Rattle.mg_model.specs.Catalog.{CatalogRows, catalog_name}
use Rattle.mg_model.specs.History.{Entry, Entries, Point, LastMark, SavepointNamed, Effect, Begins, Looks, TakesBack, effect_of}
use Rattle.mg_model.specs.Machine.{mode_after, mode_of, deeds_by, changes_in, changes_by, is_point, steps_after, takes_base, steps, base, own, view}
use Rattle.mg_model.specs.Effects.{has_deed, from_point, deeds_left, points_since, goes_within, StaysWithin, setting}
use Rattle.mg_model.specs.EntryLaws.{deeds_by-taken_back}
use Rattle.mg_model.specs.ReadLaws.{same_name_itself}
use Rattle.mg_model.specs.BackLaws.{has_deed-points_of, deeds_left-new, since_entries}

-- the deed that sets a point
abbrev pub point_deed : Point → Deed
point_deed LastMark = Marked
point_deed (SavepointNamed name) = Saved name

point_deed_is : (point : Point) → is_point point (point_deed point) ≡ true
point_deed_is LastMark = refl
point_deed_is (SavepointNamed name) = same_name_itself name

setting_adds : (t : ℕ) (point : Point) (f : Effect) (catalog : ℕ → CatalogRows) (all : List Step)
    → f ≡ setting t point
    → deeds_by t (steps_after f catalog all) ≡ point_deed point ∷ deeds_by t all
setting_adds t LastMark f catalog all is =
    let its : (t == t) ≡ true = eq-eqb t t refl in rw is (rw its refl)
setting_adds t (SavepointNamed name) f catalog all is =
    let its : (t == t) ≡ true = eq-eqb t t refl in rw is (rw its refl)

same_changes : (point : Point) (deeds : List Deed)
    → changes_in (from_point point (point_deed point) deeds) ≡ changes_in deeds
same_changes LastMark deeds = refl
same_changes (SavepointNamed name) deeds = refl

back_effect : (t : ℕ) (point : Point) (f : Effect) (catalog : ℕ → CatalogRows) (all : List Step)
    → f ≡ TakesBack t point
    → deeds_by t (steps_after f catalog all) ≡ deeds_left point (deeds_by t all)
back_effect t point f catalog all is = rw is (deeds_by-taken_back t point all)

-- no base is taken by an effect that goes within, under one snapshot
no_base_within : (f : Effect) (t : ℕ) (snapshot : Bool) (points : List Deed) → snapshot ≡ true
    → goes_within t f points ≡ true → takes_base f t snapshot ≡ false
no_base_within (Begins u mode) t snapshot points one within = not-true (u == t) within
no_base_within (Looks u) t snapshot points one within = rw one (at (u == t))
  where
    at : (b : Bool) → (b && false) ≡ false
    at true = refl
    at false = refl
no_base_within f t snapshot points one within = refl

same_mode_within : (f : Effect) (t : ℕ) (old : Mode) (points : List Deed)
    → goes_within t f points ≡ true → mode_after f t old ≡ old
same_mode_within (Begins u mode) t old points within =
    let other : (u == t) ≡ false = not-true (u == t) within in rw other refl
same_mode_within f t old points within = refl

module _ (o : Opening) (h : Entries) (t : ℕ) where
  -- entries that go within leave the mode of a transaction, and under one snapshot its base
  pub mode_stays : (since : Entries) → StaysWithin t since → mode_of (since ++ h) t ≡ mode_of h t
  mode_stays [] within = refl
  mode_stays (e ∷ since) within =
      same_mode_within (effect_of e) t (mode_of (since ++ h) t) (points_since t since) within.0
      ∙ mode_stays since within.1

  pub base_stays : (since : Entries) → StaysWithin t since → (mode_of h t).snapshot ≡ true
      → base o (since ++ h) t ≡ base o h t
  base_stays [] within one = refl
  base_stays (e ∷ since) within one =
      let snapshot : (mode_of (since ++ h) t).snapshot ≡ true =
      ap (λ (m : Mode). m.snapshot) (mode_stays since within.1) ∙ one in
      let none : takes_base (effect_of e) t (mode_of (since ++ h) t).snapshot ≡ false =
      no_base_within (effect_of e) t (mode_of (since ++ h) t).snapshot (points_since t since)
      snapshot within.0 in
      rw none (base_stays since within.1 one)

setting_within : (t : ℕ) (point : Point) (f : Effect) (points : List Deed) → f ≡ setting t point
    → goes_within t f points ≡ true
setting_within t LastMark f points is = rw is refl
setting_within t (SavepointNamed name) f points is = rw is refl

no_base_back : (t u : ℕ) (point : Point) (f : Effect) (snapshot : Bool) → f ≡ TakesBack u point
    → takes_base f t snapshot ≡ false
no_base_back t u point f snapshot is = rw is refl

module _ (o : Opening) (h : Entries) (t : ℕ) (point : Point) (sets : Entry) (since : Entries)
    (undoes : Entry) (is_set : effect_of sets ≡ setting t point) (within : StaysWithin t since)
    (last : has_deed point (points_since t since) ≡ false)
    (is_undone : effect_of undoes ≡ TakesBack t point) where
  -- the own changes are those of the history before the point was set
  pub own_taken_back : own o (undoes ∷ (since ++ (sets ∷ h))) t ≡ own o h t
  own_taken_back =
      let news = since_entries o (sets ∷ h) t since within in
      let without : has_deed point news.news ≡ false =
      sym (has_deed-points_of point news.news) ∙ ap (has_deed point) news.set_since ∙ last in
      let front : deeds_by t (steps o (since ++ (sets ∷ h)))
      ≡ news.news ++ (point_deed point ∷ deeds_by t (steps o h)) =
      news.front ∙ ap (λ deeds. news.news ++ deeds) (setting_adds t point (effect_of sets)
      (λ u. row_at (changes_by u (steps o h) ++ base o h u) catalog_name) (steps o h) is_set) in
      let left : deeds_by t (steps o (undoes ∷ (since ++ (sets ∷ h))))
      ≡ from_point point (point_deed point) (deeds_by t (steps o h)) =
      back_effect t point (effect_of undoes)
      (λ u. row_at (changes_by u (steps o (since ++ (sets ∷ h)))
      ++ base o (since ++ (sets ∷ h)) u) catalog_name)
      (steps o (since ++ (sets ∷ h))) is_undone
      ∙ ap (deeds_left point) front
      ∙ deeds_left-new point (point_deed point) news.news (deeds_by t (steps o h)) without
      (point_deed_is point) in
      ap changes_in left ∙ same_changes point (deeds_by t (steps o h))

  -- and under one snapshot so is the view
  pub view_taken_back : (mode_of h t).snapshot ≡ true
      → view o (undoes ∷ (since ++ (sets ∷ h))) t ≡ view o h t
  view_taken_back one =
      let set_within : goes_within t (effect_of sets) [] ≡ true =
      setting_within t point (effect_of sets) [] is_set in
      let set_one : (mode_of (sets ∷ h) t).snapshot ≡ true =
      ap (λ (m : Mode). m.snapshot)
      (same_mode_within (effect_of sets) t (mode_of h t) [] set_within) ∙ one in
      let none : takes_base (effect_of sets) t (mode_of h t).snapshot ≡ false =
      no_base_within (effect_of sets) t (mode_of h t).snapshot [] one set_within in
      let at_set : base o (sets ∷ h) t ≡ base o h t = rw none refl in
      let none_at_end : takes_base (effect_of undoes) t (mode_of (since ++ (sets ∷ h)) t).snapshot
      ≡ false =
      no_base_back t t point (effect_of undoes) (mode_of (since ++ (sets ∷ h)) t).snapshot
      is_undone in
      let at_end : base o (undoes ∷ (since ++ (sets ∷ h))) t ≡ base o (since ++ (sets ∷ h)) t =
      rw none_at_end refl in
      let all : base o (undoes ∷ (since ++ (sets ∷ h))) t ≡ base o h t =
      at_end ∙ base_stays o (sets ∷ h) t since within set_one ∙ at_set in
      cc (own_taken_back, all)
