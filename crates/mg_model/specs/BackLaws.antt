-- What is left of a transaction once it is taken back to a mark or a savepoint.
use Rattle.std.specs.Prelude.{◌≡◌, ℕ, ◌==◌, ◌||◌, not, Bool, true, false, List, [], ◌∷◌, ◌++◌, cond, refl}
use Rattle.std.proofs.Common.{sym, ◌∙◌, ap}
use Rattle.std.proofs.lemmas.Bool.{eqb-true, false≢true}
use Rattle.mg_model.specs.declared.change.Change.{Change}
use Rattle.mg_model.specs.declared.change.Deed.{Deed}
use Rattle.mg_model.specs.declared.change.Deed.TheVariants.{Changed, Marked, Saved}
use Rattle.mg_model.specs.declared.change.Step.{Step}
use Rattle.mg_model.specs.declared.opening.Opening.{Opening}
use Rattle.mg_model.specs.Changes.{same_name, row_at}
use Rattle.mg_model.specs.Catalog.{CatalogRows, catalog_name}
use Rattle.mg_model.specs.History.{Entries, Point, LastMark, SavepointNamed, Effect, Begins, Looks, Makes, Gives, Marks, Saves, TakesBack, Ends, Nothing, effect_of}
use Rattle.mg_model.specs.Machine.{deeds_by, changes_by, step, is_point, taken_back, steps_after, steps, base}
use Rattle.mg_model.specs.Effects.{has_deed, from_point, deeds_back, deeds_left, points_after, points_since, goes_within, StaysWithin}
use Rattle.mg_model.specs.EntryLaws.{deeds_by-taken_back, deeds_by-taken_back_other}

-- the marks and savepoints among deeds
abbrev pub points_of : List Deed → List Deed
points_of [] = []
points_of (Changed c ∷ deeds) = points_of deeds
points_of (Marked ∷ deeds) = Marked ∷ points_of deeds
points_of (Saved name ∷ deeds) = Saved name ∷ points_of deeds

no_point : (point : Point) (c : Change) → is_point point (Changed c) ≡ false
no_point LastMark c = refl
no_point (SavepointNamed name) c = refl

pub has_deed-points_of : (point : Point) (deeds : List Deed)
    → has_deed point (points_of deeds) ≡ has_deed point deeds
has_deed-points_of point [] = refl
has_deed-points_of point (Changed c ∷ deeds) =
    rw (no_point point c) (has_deed-points_of point deeds)
has_deed-points_of point (Marked ∷ deeds) =
    ap (λ b. is_point point Marked || b) (has_deed-points_of point deeds)
has_deed-points_of point (Saved name ∷ deeds) =
    ap (λ b. is_point point (Saved name) || b) (has_deed-points_of point deeds)

pub points_of-back : (point : Point) (deeds : List Deed)
    → points_of (deeds_back point deeds) ≡ deeds_back point (points_of deeds)
points_of-back point [] = refl
points_of-back point (Changed c ∷ deeds) = rw (no_point point c) (points_of-back point deeds)
points_of-back LastMark (Marked ∷ deeds) = refl
points_of-back LastMark (Saved name ∷ deeds) = points_of-back LastMark deeds
points_of-back (SavepointNamed name) (Marked ∷ deeds) = points_of-back (SavepointNamed name) deeds
points_of-back (SavepointNamed name) (Saved other ∷ deeds) =
    at (same_name name other) (points_of-back (SavepointNamed name) deeds)
  where
    at : (b : Bool)
        → points_of (deeds_back (SavepointNamed name) deeds)
        ≡ deeds_back (SavepointNamed name) (points_of deeds)
        → points_of (cond b (Saved other ∷ deeds) (deeds_back (SavepointNamed name) deeds))
        ≡ cond b (Saved other ∷ points_of deeds)
        (deeds_back (SavepointNamed name) (points_of deeds))
    at true more = refl
    at false more = more

-- where the newer deeds have the point, the older ones stay
from_point-append : (point : Point) (d : Deed) (news olds : List Deed)
    → from_point point d (news ++ olds) ≡ from_point point d news ++ olds
from_point-append LastMark d news olds = refl
from_point-append (SavepointNamed name) d news olds = refl

deeds_back-append : (point : Point) (news olds : List Deed) → has_deed point news ≡ true
    → deeds_back point (news ++ olds) ≡ deeds_back point news ++ olds
deeds_back-append point [] olds has = absurd (false≢true has)
deeds_back-append point (d ∷ news) olds has =
    at (is_point point d) (deeds_back-append point news olds) has
  where
    at : (b : Bool)
        → (has_deed point news ≡ true
        → deeds_back point (news ++ olds) ≡ deeds_back point news ++ olds)
        → (b || has_deed point news) ≡ true
        → cond b (from_point point d (news ++ olds)) (deeds_back point (news ++ olds))
        ≡ cond b (from_point point d news) (deeds_back point news) ++ olds
    at true more has = from_point-append point d news olds
    at false more has = more has

has_deed-append : (point : Point) (news olds : List Deed)
    → has_deed point (news ++ olds) ≡ (has_deed point news || has_deed point olds)
has_deed-append point [] olds = refl
has_deed-append point (d ∷ news) olds = at (is_point point d) (has_deed-append point news olds)
  where
    at : (b : Bool) → has_deed point (news ++ olds) ≡ (has_deed point news || has_deed point olds)
        → (b || has_deed point (news ++ olds))
        ≡ ((b || has_deed point news) || has_deed point olds)
    at true more = refl
    at false more = more

pub deeds_left-append : (point : Point) (news olds : List Deed) → has_deed point news ≡ true
    → deeds_left point (news ++ olds) ≡ deeds_back point news ++ olds
deeds_left-append point news olds has =
    rw (has_deed-append point news olds, has) (deeds_back-append point news olds has)

-- where they don't, what is taken back are all of them
pub deeds_left-new : (point : Point) (d : Deed) (news olds : List Deed)
    → has_deed point news ≡ false
    → is_point point d ≡ true → deeds_left point (news ++ d ∷ olds) ≡ from_point point d olds
deeds_left-new point d news olds without is =
    rw (has_deed-append point news (d ∷ olds), without, is) (back news without)
  where
    back : (news : List Deed) → has_deed point news ≡ false
        → deeds_back point (news ++ d ∷ olds) ≡ from_point point d olds
    back [] without = rw is refl
    back (n ∷ news) without = at (is_point point n) (back news) without
      where
        at : (b : Bool)
            → (has_deed point news ≡ false
            → deeds_back point (news ++ d ∷ olds) ≡ from_point point d olds)
            → (b || has_deed point news) ≡ false
            → cond b (from_point point n (news ++ d ∷ olds)) (deeds_back point (news ++ d ∷ olds))
            ≡ from_point point d olds
        at true more without = absurd (false≢true (sym without))
        at false more without = more without

-- ---- since a point of a history

-- what a transaction did since some steps stands in front of what it did before, with these points
pub record Since (t : ℕ) (now before : List Step) (points : List Deed) : Type 0 where
  pub news : List Deed
  pub front : deeds_by t now ≡ news ++ deeds_by t before
  pub set_since : points_of news ≡ points

since_change : (u t : ℕ) (c : Change) (now before : List Step) (points : List Deed)
    → Since t now before points → Since t (step u (Changed c) ∷ now) before points
since_change u t c now before points since = at (u == t) refl
  where
    at : (b : Bool) → (u == t) ≡ b → Since t (step u (Changed c) ∷ now) before points
    at true its = record {
      news = Changed c ∷ since.news;
      front = rw its (ap (λ deeds. Changed c ∷ deeds) since.front);
      set_since = since.set_since;
    }
    at false other = record {
      news = since.news;
      front = rw other since.front;
      set_since = since.set_since;
    }

since_point : (u t : ℕ) (d : Deed) (now before : List Step) (points : List Deed)
    → ((deeds : List Deed) → points_of (d ∷ deeds) ≡ d ∷ points_of deeds)
    → Since t now before points
    → Since t (step u d ∷ now) before (cond (u == t) (d ∷ points) points)
since_point u t d now before points stays since = at (u == t) refl
  where
    at : (b : Bool) → (u == t) ≡ b → Since t (step u d ∷ now) before (cond b (d ∷ points) points)
    at true its = record {
      news = d ∷ since.news;
      front = rw its (ap (λ deeds. d ∷ deeds) since.front);
      set_since = stays since.news ∙ ap (λ deeds. d ∷ deeds) since.set_since;
    }
    at false other = record {
      news = since.news;
      front = rw other since.front;
      set_since = since.set_since;
    }

since_back : (u t : ℕ) (point : Point) (now before : List Step) (points : List Deed)
    → (not (u == t) || has_deed point points) ≡ true → Since t now before points
    → Since t (taken_back u point now) before (cond (u == t) (deeds_back point points) points)
since_back u t point now before points within since = at (u == t) refl within
  where
    at : (b : Bool) → (u == t) ≡ b → (not b || has_deed point points) ≡ true
        → Since t (taken_back u point now) before (cond b (deeds_back point points) points)
    at true its has =
        let same : u ≡ t = eqb-true u t its in
        let has_new : has_deed point since.news ≡ true =
        sym (has_deed-points_of point since.news) ∙ ap (has_deed point) since.set_since ∙ has in
        record {
          news = deeds_back point since.news;
          front = ap (λ v. deeds_by t (taken_back v point now)) same
              ∙ deeds_by-taken_back t point now
              ∙ ap (deeds_left point) since.front
              ∙ deeds_left-append point since.news (deeds_by t before) has_new;
          set_since = points_of-back point since.news ∙ ap (deeds_back point) since.set_since;
        }
    at false other has = record {
      news = since.news;
      front = deeds_by-taken_back_other t u point now other ∙ since.front;
      set_since = since.set_since;
    }

since_effect : (f : Effect) (t : ℕ) (catalog : ℕ → CatalogRows) (now before : List Step)
    (points : List Deed) → goes_within t f points ≡ true → Since t now before points
    → Since t (steps_after f catalog now) before (points_after t f points)
since_effect (Begins u mode) t catalog now before points within since = since
since_effect (Looks u) t catalog now before points within since = since
since_effect (Makes u table row) t catalog now before points within since =
    since_change u t _ now before points since
since_effect (Gives u table key row) t catalog now before points within since =
    since_change u t _ now before points since
since_effect (Marks u) t catalog now before points within since =
    since_point u t Marked now before points (λ deeds. refl) since
since_effect (Saves u name) t catalog now before points within since =
    since_point u t (Saved name) now before points (λ deeds. refl) since
since_effect (TakesBack u point) t catalog now before points within since =
    since_back u t point now before points within since
since_effect (Ends u end) t catalog now before points within since = since
since_effect Nothing t catalog now before points within since = since

pub since_entries : (o : Opening) (h : Entries) (t : ℕ) (more : Entries) → StaysWithin t more
    → Since t (steps o (more ++ h)) (steps o h) (points_since t more)
since_entries o h t [] within = record { news = []; front = refl; set_since = refl }
since_entries o h t (e ∷ more) within =
    since_effect (effect_of e) t
    (λ u. row_at (changes_by u (steps o (more ++ h)) ++ base o (more ++ h) u) catalog_name)
    (steps o (more ++ h)) (steps o h) (points_since t more) within.0
    (since_entries o h t more within.1)
