-- What a transaction has made of the catalog since a point it had not made before.
use Rattle.std.proofs.Common.{◌≡◌, ◌∙◌, ◌∷◌, ℕ, Bool, true, false, List, [], Option, None, Some, ap, cond, refl, subst, sym}
use Rattle.std.specs.Prelude.{is_some}
use Rattle.std.proofs.lemmas.Bool.{eq-eqb, false≢true}
use Rattle.mg_value.specs.declared.value.Value.{Value}
use Rattle.mg_grown_catalog_laws.specs.MadeOnce.{AreMadeOnce}
use Rattle.mg_image.specs.Histories.{newest_at}
use Rattle.mg_image.specs.Records as records
use Rattle.mg_model.specs.declared.change.Change.{Change}
use Rattle.mg_model.specs.declared.change.Deed.{Deed}
use Rattle.mg_model.specs.declared.change.Deed.TheVariants.{Changed, Marked, Saved}
use Rattle.mg_model.specs.declared.change.Point.{Point}
use Rattle.mg_model.specs.declared.change.Point.TheVariants.{LastMark, SavepointNamed}
use Rattle.mg_model.specs.declared.opening.Opening.{Opening}
use Rattle.mg_model.specs.Answers.{catalog_of, told}
use Rattle.mg_model.specs.Catalog.{catalog_name}
use Rattle.mg_model.specs.Changes.{has_change, same_name}
use Rattle.mg_model.specs.DeedLaws.{deeds_after, deeds_after_entry}
use Rattle.mg_model.specs.Effects.{deeds_back, deeds_left, has_deed}
use Rattle.mg_model.specs.HinderLaws.{left_had}
use Rattle.mg_model.specs.History.{Effect, Entries, Entry, TakesBack, effect_of}
use Rattle.mg_model.specs.Machine.{changes_in, deeds_by, own, steps}
use Rattle.mg_undo.specs.Machine.{changes_since, first_of, has_same}
use Rattle.mg_engine_step_laws.specs.standing.OwnChains.{change_there}
use Rattle.mg_engine_change_laws.specs.backs.ToTake.{EachChange, since_if, since_point}

-- a change of the catalog is at a key at which these have none
abbrev pub IsNewTo : List Change → Change → Type 0
IsNewTo left c = c.table ≡ catalog_name → has_change left catalog_name c.key ≡ false

-- what is left of deeds has no more keys
off_back : (point : Point) (ds : List Deed) (key : Value) → has_change (changes_in ds) catalog_name key ≡ false
    → has_change (changes_in (deeds_back point ds)) catalog_name key ≡ false
off_back point ds key off = at (has_change (changes_in (deeds_back point ds)) catalog_name key) refl
  where
    at : (b : Bool) → has_change (changes_in (deeds_back point ds)) catalog_name key ≡ b → b ≡ false
    at false is = refl
    at true is = absurd (false≢true (sym off ∙ left_had point ds catalog_name key is))

pub since_new : (point : Point) (ds : List Deed) → AreMadeOnce (changes_in ds)
    → EachChange (IsNewTo (changes_in (deeds_back point ds))) (changes_since point ds)
since_new point [] once = tt
since_new LastMark (Changed c ∷ ds) once = ((λ is. off_back LastMark ds c.key (once.0 is)), since_new LastMark ds once.1)
since_new LastMark (Marked ∷ ds) once = tt
since_new LastMark (Saved name ∷ ds) once = since_new LastMark ds once
since_new (SavepointNamed its) (Changed c ∷ ds) once =
    ((λ is. off_back (SavepointNamed its) ds c.key (once.0 is)), since_new (SavepointNamed its) ds once.1)
since_new (SavepointNamed its) (Marked ∷ ds) once = since_new (SavepointNamed its) ds once
since_new (SavepointNamed its) (Saved name ∷ ds) once = at (same_name its name) (since_new (SavepointNamed its) ds once)
  where
    at : (b : Bool)
        → EachChange (IsNewTo (changes_in (deeds_back (SavepointNamed its) ds))) (changes_since (SavepointNamed its) ds)
        → EachChange (IsNewTo (changes_in (cond b (Saved name ∷ ds) (deeds_back (SavepointNamed its) ds))))
        (cond b [] (changes_since (SavepointNamed its) ds))
    at true more = tt
    at false more = more

since_left : (point : Point) (ds : List Deed) → AreMadeOnce (changes_in ds)
    → EachChange (IsNewTo (changes_in (deeds_left point ds))) (since_point point ds)
since_left point ds once = at (has_deed point ds)
  where
    at : (b : Bool) → EachChange (IsNewTo (changes_in (cond b (deeds_back point ds) ds))) (since_if b point ds)
    at true = since_new point ds once
    at false = tt

each_first : (P : Change → Type 0) (cs : List Change) → EachChange P cs → EachChange P (first_of cs)
each_first P [] each = tt
each_first P (c ∷ cs) each = at (has_same c cs) (each_first P cs each.1)
  where
    at : (b : Bool) → EachChange P (first_of cs) → EachChange P (cond b (first_of cs) (c ∷ first_of cs))
    at true more = more
    at false more = (each.0, more)

each_none : (left cs : List Change) → EachChange (IsNewTo left) cs
    → EachChange (λ c. c.table ≡ catalog_name → newest_at left catalog_name c.key ≡ None) cs
each_none left [] each = tt
each_none left (c ∷ cs) each = ((λ is. at (newest_at left catalog_name c.key) refl (each.0 is)), each_none left cs each.1)
  where
    at : (x : Option records.Change) → newest_at left catalog_name c.key ≡ x
        → has_change left catalog_name c.key ≡ false → x ≡ None
    at None is off = refl
    at (Some d) is off =
        absurd (false≢true (sym off ∙ (change_there left catalog_name c.key ∙ ap is_some is)))

-- once a transaction is taken back to a point, it has no change of the catalog at the keys that it changed since
pub since_is_new : (o : Opening) (h : Entries) (e : Entry) (t : ℕ) (point : Point) → effect_of e ≡ TakesBack t point
    → AreMadeOnce (own o h t)
    → EachChange (λ c. c.table ≡ catalog_name → newest_at (own o (e ∷ h) t) catalog_name c.key ≡ None)
    (first_of (since_point point (deeds_by t (steps o h))))
since_is_new o h e t point back once = subst (λ (ds : List Deed). EachChange (λ c. c.table ≡ catalog_name
    → newest_at (changes_in ds) catalog_name c.key ≡ None) (first_of (since_point point (deeds_by t (steps o h)))))
    (sym left_is) (each_none (changes_in (deeds_left point (deeds_by t (steps o h))))
    (first_of (since_point point (deeds_by t (steps o h))))
    (each_first (IsNewTo (changes_in (deeds_left point (deeds_by t (steps o h)))))
    (since_point point (deeds_by t (steps o h))) (since_left point (deeds_by t (steps o h)) once)))
  where
    left_is : deeds_by t (steps o (e ∷ h)) ≡ deeds_left point (deeds_by t (steps o h))
    left_is = deeds_after_entry o h e t
        ∙ (ap (λ (f : Effect). deeds_after f t (catalog_of (told o h) t) (deeds_by t (steps o h))) back
        ∙ rw (eq-eqb t t refl) refl)
