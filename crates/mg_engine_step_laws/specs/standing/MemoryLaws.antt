-- Memory follows the entries of a history.
use Rattle.std.proofs.Common.{◌≡◌, ◌==◌, ℕ, Bool, true, false, List, [], ◌∷◌, Option, None, Some, refl, sym, ap, ◌∙◌, subst, ◌<◌}
use Rattle.std.specs.Prelude.{if◌then◌else◌, is_some}
use Rattle.std.proofs.lemmas.Bool.{eqb-true, false≢true}
use Rattle.mg_base.specs.declared.transaction.TxState.{TxState}
use Rattle.mg_base.specs.declared.transaction.TxState.TheVariants.{Active, Limbo, Dead, Committed}
use Rattle.mg_model.specs.declared.change.Change.{Change}
use Rattle.mg_model.specs.declared.event.Mode.{Mode}
use Rattle.mg_model.specs.declared.opening.Opening.{Opening}
use Rattle.mg_value.specs.declared.shape.Shape.{Shape}
use Rattle.mg_model.specs.Catalog.{catalog_name}
use Rattle.mg_model.specs.Changes.{row_at}
use Rattle.mg_model.specs.Effects.{doer, is_its}
use Rattle.mg_model.specs.EntryLaws.{deeds_by_others_entry, mode_others_entry, own_others_entry, state_others_entry, view_others_entry}
use Rattle.mg_model.specs.History.{Begins, Effect, Ends, Entries, Entry, Gives, Looks, Makes, Marks, Nothing, Saves, TakesBack, effect_of, transaction_of}
use Rattle.mg_model.specs.Legal.{IsLegal, MayBegin}
use Rattle.mg_model.specs.LegalLaws.{IsAllowed, lawful_is_allowed}
use Rattle.mg_model.specs.Machine.{deeds_by, is_of, mode_of, next_after, state_after, state_of, steps}
use Rattle.mg_model.specs.Openings.{Each}
use Rattle.mg_records.specs.Reading.{shape_named, shape_seen}
use Rattle.mg_chain.specs.Bases.{LiveBegins, LiveFollows, StandsFor, live_after}
use Rattle.mg_snap.specs.Live.{Entered, Snapshot, State, base_among, base_sees}
use Rattle.mg_undo.specs.Machine.{undo_of}
use Rattle.mg_waits.specs.Machine.{NotesFollow, NotesLast, OthersNote}
use Rattle.mg_engine_step_laws.specs.standing.Based.{AreBased, IsBased}
use Rattle.mg_engine_step_laws.specs.standing.BasedLaws.{based_follow}
use Rattle.mg_engine_step_laws.specs.standing.Following.{FollowsEntry, KeepsOne, MemoryBegins, MemoryFollows, Notes, OthersKeepTables}
use Rattle.mg_engine_step_laws.specs.standing.Standing.{IsSeenAs, Remembers, RemembersOne, Standing}

-- a table of those that have not ended looks only at the mode of one whose statement begins
live_same : (f : Effect) (a b : ℕ → Bool) (live : State) → ((t : ℕ) → f ≡ Looks t → a t ≡ b t)
    → live_after f a live ≡ live_after f b live
live_same (Begins t mode) a b live same = refl
live_same (Looks t) a b live same = rw (same t refl) refl
live_same (Makes t table row) a b live same = refl
live_same (Gives t table key row) a b live same = refl
live_same (Marks t) a b live same = refl
live_same (Saves t name) a b live same = refl
live_same (TakesBack t point) a b live same = refl
live_same (Ends t Active) a b live same = refl
live_same (Ends t Limbo) a b live same = refl
live_same (Ends t Dead) a b live same = refl
live_same (Ends t Committed) a b live same = refl
live_same Nothing a b live same = refl

one_doer : (t u : ℕ) (d : Option ℕ) → is_of t d ≡ true → is_of u d ≡ true → t ≡ u
one_doer t u None is also = absurd (false≢true is)
one_doer t u (Some v) is also = sym (eqb-true v t is) ∙ eqb-true v u also

module _ (o : Opening) (h : Entries) (e : Entry) (s new : Standing) (opening : MayBegin o)
    (legal : IsLegal o (e ∷ h)) (was : Remembers o h s) (follows : FollowsEntry o h e s new)
    (live_follows : LiveFollows) (notes_follow : NotesFollow) (others_note : OthersNote) where
  state_is : (t : ℕ) → new.state t ≡ state_of o (e ∷ h) t
  state_is t = follows.state t ∙ ap (state_after (effect_of e) t) (was.state t)

  looks_same : (t : ℕ) → effect_of e ≡ Looks t → (s.mode t).snapshot ≡ (mode_of h t).snapshot
  looks_same t is =
      let active : state_of o h t ≡ Active = subst (IsAllowed o h) is (lawful_is_allowed o h e legal.0) in
      ap (λ (m : Mode). m.snapshot) (was.active t active).mode

  live_is : StandsFor o (e ∷ h) new.live
  live_is = subst (StandsFor o (e ∷ h)) (sym (follows.live
      ∙ live_same (effect_of e) (λ t. (s.mode t).snapshot) (λ t. (mode_of h t).snapshot) s.live
      looks_same)) (live_follows o h e s.live opening legal was.live)

  based_is : AreBased o (e ∷ h) new.live
  based_is = subst (AreBased o (e ∷ h)) (sym (follows.live
      ∙ live_same (effect_of e) (λ t. (s.mode t).snapshot) (λ t. (mode_of h t).snapshot) s.live
      looks_same)) (based_follow o h e s.live opening legal was.live was.based)

  waits_are : (who : Option ℕ) → transaction_of e.event ≡ who → Notes who e.answer s.waits new.waits
      → NotesLast (e ∷ h) new.waits
  waits_are None is same = λ t. same t ∙ others_note h e s.waits is was.waits t
  waits_are (Some t) is now = notes_follow h e t s.waits new.waits is was.waits now

  was_active : (t : ℕ) → is_its t e ≡ false → state_of o (e ∷ h) t ≡ Active → state_of o h t ≡ Active
  was_active t not_ is = sym (state_others_entry o h e t not_) ∙ is

  kept : (t : ℕ) → is_its t e ≡ false → state_of o (e ∷ h) t ≡ Active → KeepsOne s new t
  kept t not_ is = follows.others t not_ (was.state t ∙ was_active t not_ is)

  other : (t : ℕ) → is_its t e ≡ false → state_of o (e ∷ h) t ≡ Active → RemembersOne o (e ∷ h) new t
  other t not_ is = record {
    mode = keeps.mode ∙ (one.mode ∙ sym (mode_others_entry o h e t not_));
    session = subst (λ (n : ℕ). n < 32) (sym keeps.session) one.session;
    undo = keeps.undo ∙ (one.undo
        ∙ (ap (λ (n : List ℕ → ℕ). undo_of n (deeds_by t (steps o h))) (sym keeps.number)
        ∙ ap (undo_of (new.number t)) (sym (deeds_by_others_entry o h e t not_))));
    table = λ name. subst (IsSeenAs name (shape_seen o (e ∷ h) t name)) (sym (keeps.table name))
        (subst (λ (shape : Option Shape). IsSeenAs name shape (s.table t name)) (seen name)
        (one.table name));
  }
    where
      one : RemembersOne o h s t
      one = was.active t (was_active t not_ is)

      keeps : KeepsOne s new t
      keeps = kept t not_ is

      seen : (name : List ℕ) → shape_seen o h t name ≡ shape_seen o (e ∷ h) t name
      seen name = ap (λ (cs : List Change). shape_named (row_at cs catalog_name) name)
          (sym (view_others_entry o h e t not_))

  active_is : (t : ℕ) → state_of o (e ∷ h) t ≡ Active → RemembersOne o (e ∷ h) new t
  active_is t is = at (is_its t e) refl
    where
      at : (b : Bool) → is_its t e ≡ b → RemembersOne o (e ∷ h) new t
      at true its = follows.its t its (state_is t ∙ is)
      at false not_ = other t not_ is

  apart_is : (t u : ℕ) → state_of o (e ∷ h) t ≡ Active → state_of o (e ∷ h) u ≡ Active
      → new.session t ≡ new.session u → t ≡ u
  apart_is t u is also same = at (is_its t e) (is_its u e) refl refl
    where
      at : (a b : Bool) → is_its t e ≡ a → is_its u e ≡ b → t ≡ u
      at true true its also_its = one_doer t u (doer (effect_of e)) its also_its
      at true false its not_ =
          absurd (follows.apart t u its not_ (state_is t ∙ is) (state_is u ∙ also) same)
      at false true not_ its =
          absurd (follows.apart u t its not_ (state_is u ∙ also) (state_is t ∙ is) (sym same))
      at false false not_ also_not = was.apart t u (was_active t not_ is) (was_active u also_not also)
          (sym (kept t not_ is).session ∙ (same ∙ (kept u also_not also).session))

  memory_is : Remembers o (e ∷ h) new
  memory_is = record {
    limit = follows.limit ∙ was.limit;
    next = follows.next ∙ ap (next_after (effect_of e)) was.next;
    state = state_is;
    live = live_is;
    based = based_is;
    waits = waits_are (transaction_of e.event) refl follows.waits;
    active = active_is;
    apart = apart_is;
  }

pub memory_follows : LiveFollows → NotesFollow → OthersNote → MemoryFollows
memory_follows live_follows notes_follow others_note o h e s new opening legal was follows =
    memory_is o h e s new opening legal was follows live_follows notes_follow others_note

pub memory_begins : LiveBegins → MemoryBegins
memory_begins begins o s opening first = record {
  limit = first.limit;
  next = first.next;
  state = first.state;
  live = begins o s.live first.live_next first.unended
      (λ t u. ap (λ (b : Option Snapshot). base_sees b u) (none s.live.entered first.no_bases t))
      opening.ended;
  based = bare s.live.entered first.no_bases;
  waits = first.waits;
  active = λ t is. absurd (opening.ended t is);
  apart = λ t u is also same. absurd (opening.ended t is);
}
  where
    none : (es : List Entered) → Each (λ e. e.base ≡ None) es → (t : ℕ) → base_among es t ≡ None
    none [] all t = refl
    none (e ∷ es) all t = at (e.number == t) (none es all.1 t)
      where
        at : (b : Bool) → base_among es t ≡ None → (if b then e.base else base_among es t) ≡ None
        at true more = all.0
        at false more = more

    bare : (es : List Entered) → Each (λ e. e.base ≡ None) es → Each (IsBased o [] s.live) es
    bare [] all = tt
    bare (e ∷ es) all = (
      λ some. absurd (false≢true (sym (ap is_some all.0) ∙ some)),
      bare es all.1,
    )

pub others_keep_tables : OthersKeepTables
others_keep_tables o h e s new follows t not_ active = record {
  active = was;
  own_same = own_others_entry o h e t not_;
  number = keeps.number;
  table = keeps.table;
}
  where
    unmoved : (f : Effect) (old : TxState) → is_of t (doer f) ≡ false → state_after f t old ≡ old
    unmoved (Begins u mode) old apart = rw apart refl
    unmoved (Looks u) old apart = refl
    unmoved (Makes u table row) old apart = refl
    unmoved (Gives u table key row) old apart = refl
    unmoved (Marks u) old apart = refl
    unmoved (Saves u name) old apart = refl
    unmoved (TakesBack u point) old apart = refl
    unmoved (Ends u end) old apart = rw apart refl
    unmoved Nothing old apart = refl

    was : s.state t ≡ Active
    was = sym (unmoved (effect_of e) (s.state t) not_) ∙ (sym (follows.state t) ∙ active)

    keeps : KeepsOne s new t
    keeps = follows.others t not_ was
