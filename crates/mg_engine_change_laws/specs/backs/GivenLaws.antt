-- What a transaction's undo list gives.
use Rattle.std.proofs.Common.{◌≡◌, ◌≢◌, inl, inr, ◌&&◌, ◌++◌, ap, refl, sym, subst, ◌∙◌, ℕ, Bool, true, false, List, [], ◌∷◌, None, Some}
use Rattle.std.specs.Prelude.{if◌then◌else◌, map}
use Rattle.std.proofs.lemmas.Bool.{eq-eqb, false≢true}
use Rattle.mg_base.specs.declared.transaction.TxState.{TxState}
use Rattle.mg_base.specs.declared.transaction.TxState.TheVariants.{Active}
use Rattle.mg_engine_step_laws.specs.standing.Known.{IsShown}
use Rattle.mg_engine_step_laws.specs.standing.Standing.{FindsTables, HasFirstPage, Remembers, RemembersOne, Standing}
use Rattle.mg_engine_change_laws.specs.backs.Given.{AreGiven, UndoListsGiveKeys}
use Rattle.mg_engine_change_laws.specs.keys.Keys.{IsOfTable}
use Rattle.mg_engine_change_laws.specs.backs.Memory.{LeavesCatalog, MayGoTo}
use Rattle.mg_engine_change_laws.specs.backs.ToTake.{AreKeysOf, EachChange, KeysAreTaken, since_if, since_point}
use Rattle.mg_engine_change_laws.specs.keys.WrittenLaws.{first_named}
use Rattle.mg_image.specs.Form.{Pages, packed_form}
use Rattle.mg_image.specs.Records.{Reading}
use Rattle.mg_image.specs.Sound.{IsSoundBy}
use Rattle.mg_image.specs.Tables.{Layout, Stand, stands_of}
use Rattle.mg_image_overlay_laws.specs.tables.TableOwners.{IsOneOf}
use Rattle.mg_model.specs.Answers.{catalog_of, told}
use Rattle.mg_model.specs.Changes.{has_change, is_at, same_key, same_name}
use Rattle.mg_model.specs.DeedLaws.{deeds_after, deeds_after_entry}
use Rattle.mg_model.specs.Effects.{deeds_left, has_deed}
use Rattle.mg_model.specs.History.{Effect, Entries, Entry, TakesBack, effect_of}
use Rattle.mg_model.specs.Machine.{changes_in, deeds_by, is_point, own, steps}
use Rattle.mg_model.specs.ReadLaws.{same_name_itself}
use Rattle.mg_catalog.specs.KeyLaws.{same_key_self}
use Rattle.mg_model.specs.declared.change.Change.{Change}
use Rattle.mg_model.specs.declared.change.Deed.{Deed}
use Rattle.mg_model.specs.declared.change.Deed.TheVariants.{Changed, Marked, Saved}
use Rattle.mg_model.specs.declared.change.Point.{Point}
use Rattle.mg_model.specs.declared.change.Point.TheVariants.{LastMark, SavepointNamed}
use Rattle.mg_model.specs.declared.opening.Opening.{Opening}
use Rattle.mg_model.specs.declared.table.Table.{Table}
use Rattle.mg_image_overlay_laws.specs.tables.OneTable.{stands_in}
use Rattle.mg_undo.specs.Machine.{GivesWhatWas, TellsApart, TellsFrom, changes_since, first_of, given_from, going_to, has_same, points_of, undo_of}
use Rattle.mg_undo.specs.Undo.{State as Undo, Taken, TakesBack as GivesAll, ends, from_goal, gives, take_to}
use Rattle.mg_undo.specs.declared.changes.Change.{Change as Kept}

-- ---- lists of changes

pub each_as : (P Q : Change → Type 0) → ((c : Change) → P c → Q c) → (cs : List Change) → EachChange P cs → EachChange Q cs
each_as P Q to [] each = tt
each_as P Q to (c ∷ cs) each = (to c each.0, each_as P Q to cs each.1)

no_more : (cs : List Change) → cs ++ [] ≡ cs
no_more [] = refl
no_more (c ∷ cs) = ap (λ (xs : List Change). c ∷ xs) (no_more cs)

at_itself : (c : Change) → is_at c c.table c.key ≡ true
at_itself c = ap (λ (b : Bool). b && same_key c.key c.key) (same_name_itself c.table) ∙ same_key_self c.key

behind : (c d : Change) (cs : List Change) → has_change cs d.table d.key ≡ true → has_change (c ∷ cs) d.table d.key ≡ true
behind c d cs has_ = at (is_at c d.table d.key)
  where
    at : (b : Bool) → (if b then true else has_change cs d.table d.key) ≡ true
    at true = refl
    at false = has_

none_or : (P : Change → Type 0) (b : Bool) (cs : List Change) → EachChange P cs → EachChange P (if b then [] else cs)
none_or P true cs each = tt
none_or P false cs each = each

-- each change since a point is one of all
since_made : (point : Point) (deeds : List Deed)
    → EachChange (λ c. has_change (changes_in deeds) c.table c.key ≡ true) (changes_since point deeds)
since_made point [] = tt
since_made point (Changed c ∷ deeds) = (
  ap (λ (b : Bool). if b then true else has_change (changes_in deeds) c.table c.key) (at_itself c),
  each_as (λ d. has_change (changes_in deeds) d.table d.key ≡ true)
      (λ d. has_change (changes_in (Changed c ∷ deeds)) d.table d.key ≡ true)
      (λ d has_. behind c d (changes_in deeds) has_) (changes_since point deeds) (since_made point deeds),
)
since_made point (Marked ∷ deeds) = none_or (λ c. has_change (changes_in deeds) c.table c.key ≡ true)
    (is_point point Marked) (changes_since point deeds) (since_made point deeds)
since_made point (Saved name ∷ deeds) = none_or (λ c. has_change (changes_in deeds) c.table c.key ≡ true)
    (is_point point (Saved name)) (changes_since point deeds) (since_made point deeds)

-- the first changes of keys are some of all
pub first_some : (P : Change → Type 0) (cs : List Change) → EachChange P cs → EachChange P (first_of cs)
first_some P [] each = tt
first_some P (c ∷ cs) each = at (has_same c cs) (first_some P cs each.1)
  where
    at : (b : Bool) → EachChange P (first_of cs) → EachChange P (if b then first_of cs else c ∷ first_of cs)
    at true more = more
    at false more = (each.0, more)

-- ---- without a mark nothing is given

no_mark : (deeds : List Deed) → has_deed LastMark deeds ≡ false → from_goal None (points_of deeds) ≡ []
no_mark [] none = refl
no_mark (Changed c ∷ deeds) none = no_mark deeds none
no_mark (Marked ∷ deeds) none = absurd cc
no_mark (Saved name ∷ deeds) none = no_mark deeds none

none_given : (number : List ℕ → ℕ) (deeds : List Deed) (given : List Kept) (new : Undo)
    → has_deed LastMark deeds ≡ false → GivesAll (undo_of number deeds) given new → given ≡ []
none_given number deeds given new none (ends stops after) = refl
none_given number deeds given new none (gives c some more) =
    let both : Some c ≡ None = sym some ∙ ap (λ (x : Taken). x.given)
    (ap (take_to (undo_of number deeds)) (no_mark deeds none)) in absurd cc

-- ---- tables are told apart by their first pages

-- The table of a name that begins at a page is one of these.
pub record FirstShown (stands : List Stand) (name : List ℕ) (page : ℕ) : Type 0 where
  pub its : Table
  pub one : IsOneOf (map (λ s. s.table) stands) its
  pub named : its.name ≡ name
  pub first : its.pointer.0 ≡ page

pub first_shown : (stands : List Stand) (name : List ℕ) (page : ℕ) → HasFirstPage stands name page
    → FirstShown stands name page
first_shown [] name page has = absurd has
first_shown (x ∷ stands) name page (inl (named, first)) =
    record { its = x.table; one = inl refl; named = named; first = first }
first_shown (x ∷ stands) name page (inr more) =
    let it = first_shown stands name page more in
    record { its = it.its; one = inr it.one; named = it.named; first = it.first }

module _ (size : ℕ) (state : ℕ → TxState) (pages : Pages) (layout : Layout) (reading : Reading)
    (sound : IsSoundBy packed_form size state pages layout reading) (number : List ℕ → ℕ) where
  abbrev Begins : List ℕ → Type 0
  Begins name = HasFirstPage (stands_of layout) name (number name)

  one_name : (a b : List ℕ) → HasFirstPage (stands_of layout) a (number a)
      → HasFirstPage (stands_of layout) b (number b) → number a ≡ number b → a ≡ b
  one_name a b here_ there same =
      let it = first_shown (stands_of layout) a (number a) here_ in
      let shown_it : IsShown layout it.its = record {
        its = it.its;
        stands = stands_in layout it.its it.one;
        same = record { name = refl; shape = refl; pointer = refl };
      } in
      sym it.named ∙ first_named size state pages layout reading sound b (number b) it.its there shown_it
      (it.first ∙ same)

  tells_from : (c : Change) (cs : List Change) → HasFirstPage (stands_of layout) c.table (number c.table)
      → EachChange (λ d. HasFirstPage (stands_of layout) d.table (number d.table)) cs → TellsFrom number c cs
  tells_from c [] its each = tt
  tells_from c (d ∷ ds) its each = (
    λ same. ap (λ (n : List ℕ). same_name n c.table) (one_name d.table c.table each.0 its same)
        ∙ same_name_itself c.table,
    tells_from c ds its each.1,
  )

  tells_apart : (cs : List Change) → EachChange (λ d. HasFirstPage (stands_of layout) d.table (number d.table)) cs
      → TellsApart number cs
  tells_apart [] each = tt
  tells_apart (c ∷ cs) each = (tells_from c cs each.0 each.1, tells_apart cs each.1)

-- ---- all that is given

module _ (what_was : GivesWhatWas) (taken : KeysAreTaken) (size : ℕ) (state : ℕ → TxState) (pages : Pages)
    (layout : Layout) (reading : Reading) (sound : IsSoundBy packed_form size state pages layout reading) (o : Opening)
    (h : Entries) (e : Entry) (point : Point) (t : ℕ) (s : Standing) (given : List Kept) (end : Undo)
    (memory : Remembers o h s) (active : s.state t ≡ Active) (finds : FindsTables o h s layout t)
    (back : effect_of e ≡ TakesBack t point) (may : MayGoTo point (deeds_by t (steps o h)))
    (all : GivesAll (going_to (s.undo t) point) given end) where
  abbrev deeds : List Deed
  deeds = deeds_by t (steps o h)

  one : RemembersOne o h s t
  one = memory.active t (sym (memory.state t) ∙ active)

  deeds_are : deeds_by t (steps o (e ∷ h)) ≡ deeds_left point (deeds_by t (steps o h))
  deeds_are = deeds_after_entry o h e t
      ∙ (ap (λ (f : Effect). deeds_after f t (catalog_of (told o h) t) (deeds_by t (steps o h))) back
      ∙ rw (eq-eqb t t refl) refl)

  own_then : own o (e ∷ h) t ≡ changes_in (deeds_left point (deeds_by t (steps o h)))
  own_then = ap changes_in deeds_are

  gave : GivesAll (going_to (undo_of (s.number t) (deeds_by t (steps o h))) point) given end
  gave = subst (λ (u : Undo). GivesAll (going_to u point) given end) one.undo all

  made : EachChange (λ c. has_change (own o h t) c.table c.key ≡ true) (changes_since point (deeds_by t (steps o h)))
  made = since_made point (deeds_by t (steps o h))

  apart : TellsApart (s.number t) (changes_since point (deeds_by t (steps o h)))
  apart = tells_apart size state pages layout reading sound (s.number t) (changes_since point (deeds_by t (steps o h)))
      (each_as (λ c. has_change (own o h t) c.table c.key ≡ true)
      (λ c. HasFirstPage (stands_of layout) c.table (s.number t c.table))
      (λ c has_. finds.changed c.table c.key has_) (changes_since point (deeds_by t (steps o h))) made)

  given_for : (p : Point) → MayGoTo p (deeds_by t (steps o h)) → TellsApart (s.number t) (changes_since p (deeds_by t (steps o h)))
      → own o (e ∷ h) t ≡ changes_in (deeds_left p (deeds_by t (steps o h))) → (b : Bool)
      → has_deed p (deeds_by t (steps o h)) ≡ b
      → GivesAll (going_to (undo_of (s.number t) (deeds_by t (steps o h))) p) given end
      → given ≡ map (given_from (s.number t) (own o (e ∷ h) t)) (first_of (since_if b p (deeds_by t (steps o h))))
  given_for p may_ tells own_is true has_ gave_ =
      what_was (s.number t) (deeds_by t (steps o h)) p end given tells has_ gave_
      ∙ ap (λ (cs : List Change). map (given_from (s.number t) cs) (first_of (changes_since p (deeds_by t (steps o h)))))
      (sym own_is)
  given_for (SavepointNamed name) (inl has_) tells own_is false none gave_ = absurd (false≢true (sym none ∙ has_))
  given_for (SavepointNamed name) (inr mark) tells own_is false none gave_ = absurd cc
  given_for LastMark may_ tells own_is false none gave_ =
      none_given (s.number t) (deeds_by t (steps o h)) given end none gave_

  pub what_is_given : given ≡ map (given_from (s.number t) (own o (e ∷ h) t))
      (first_of (since_point point (deeds_by t (steps o h))))
  what_is_given = given_for point may apart own_then (has_deed point (deeds_by t (steps o h))) refl gave

  since_each : (b : Bool) → EachChange (λ c. has_change (own o h t) c.table c.key ≡ true)
      (since_if b point (deeds_by t (steps o h)))
  since_each true = made
  since_each false = tt

  -- each change since the point is one of its own
  pub since_own : EachChange (λ c. has_change (own o h t) c.table c.key ≡ true)
      (since_point point (deeds_by t (steps o h)))
  since_own = since_each (has_deed point (deeds_by t (steps o h)))

  keys : AreKeysOf (first_of (since_point point (deeds_by t (steps o h)))) (since_point point (deeds_by t (steps o h)))
  keys = taken.first (since_point point (deeds_by t (steps o h)))

  -- none is of the catalog
  module _ (leaves : LeavesCatalog point (deeds_by t (steps o h))) where
    both_each : (cs : List Change) → EachChange (λ c. has_change (own o h t) c.table c.key ≡ true) cs
        → EachChange (λ c. has_change (since_point point (deeds_by t (steps o h))) c.table c.key ≡ true) cs
        → EachChange (IsOfTable o h t) cs
    both_each [] first second = tt
    both_each (c ∷ cs) first second = (
      record {
        other = λ is. false≢true (sym (leaves c.key)
            ∙ (ap (λ (n : List ℕ). has_change (since_point point (deeds_by t (steps o h))) n c.key) (sym is) ∙ second.0));
        made = first.0;
      },
      both_each cs first.1 second.1,
    )

    pub are_given : AreGiven o h e t (s.number t) (since_point point (deeds_by t (steps o h))) given
    are_given = record {
      given_is = what_is_given;
      each = both_each (first_of (since_point point (deeds_by t (steps o h))))
          (first_some (λ c. has_change (own o h t) c.table c.key ≡ true) (since_point point (deeds_by t (steps o h)))
          since_own) keys.each;
      keys = subst (λ (cs : List Change). AreKeysOf cs (since_point point (deeds_by t (steps o h))))
          (sym (no_more (first_of (since_point point (deeds_by t (steps o h)))))) keys;
    }

pub undo_lists_give_keys : GivesWhatWas → KeysAreTaken → UndoListsGiveKeys
undo_lists_give_keys what_was taken size state pages layout reading sound o h e point t s given end memory active finds
    back may leaves all = are_given what_was taken size state pages layout reading sound o h e point t s given end memory
    active finds back may all leaves
