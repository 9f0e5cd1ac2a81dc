-- How many changes are given to a transaction that is taken back: as many as the records that it takes back.
use Rattle.std.proofs.Common.{◌≡◌, ◌∙◌, ◌≤◌, ◌+◌, ◌++◌, ◌∷◌, ◌||◌, ◌&&◌, ◌==◌, ℕ, Bool, true, false, List, [], length, None, Some, ap, refl, subst, sym, arith}
use Rattle.std.proofs.lemmas.List.{length-append, length-map}
use Rattle.std.specs.Prelude.{if◌then◌else◌, map}
use Rattle.mg_base.specs.Disk.{Meaning}
use Rattle.mg_base.specs.declared.numbers.TxNo.{TxNo}
use Rattle.mg_core.specs.Cores.{Continues}
use Rattle.mg_core.specs.declared.parts.Core.{Core}
use Rattle.mg_engine_change_laws.specs.backs.Events.{may_go, takes_back}
use Rattle.mg_engine_change_laws.specs.backs.GivenLaws.{what_is_given}
use Rattle.mg_engine_change_laws.specs.backs.Outcomes.{back_event}
use Rattle.mg_engine_change_laws.specs.backs.ToTake.{KeysAreTaken, since_if, since_point}
use Rattle.mg_engine_meaning_laws.specs.Standings.{ShowsIt, StandsFor, standing_of, undo_kept}
use Rattle.mg_engine_meaning_laws.specs.StepLaws.{shows_of}
use Rattle.mg_engine_step_laws.specs.standing.Standing.{Standing}
use Rattle.mg_model.specs.Effects.{has_deed}
use Rattle.mg_model.specs.History.{Entries, entry}
use Rattle.mg_model.specs.Machine.{deeds_by, has_point, is_point, own, steps}
use Rattle.mg_model.specs.Openings.{everyone}
use Rattle.mg_model.specs.declared.answer.Answer.TheVariants.{Fine}
use Rattle.mg_model.specs.declared.change.Deed.{Deed}
use Rattle.mg_model.specs.declared.change.Point.{Point}
use Rattle.mg_model.specs.declared.change.Step.{Step}
use Rattle.mg_model.specs.declared.opening.Opening.{Opening}
use Rattle.mg_overlay_laws.specs.Overlays.{left_state}
use Rattle.mg_pool.specs.Pool.{shown}
use Rattle.mg_records.specs.Room.{records_back}
use Rattle.mg_taking_back.specs.Taking.{ComesToEnd, Gives, GivesOn, IsUndoOf, MayReach}
use Rattle.mg_undo.specs.Machine.{GivesWhatWas, NotesDeeds, changes_since, first_of, given_from, going_to}
use Rattle.mg_undo.specs.Undo.{State as Undo, TakesBack as GivesAll, ends, gives, take_back}
use Rattle.mg_undo.specs.declared.changes.Change.{Change as Kept}

-- What the counts rest on.
pub record KnowsGiven : Type 0 where
  pub notes : NotesDeeds
  pub what_was : GivesWhatWas
  pub keys : KeysAreTaken
  pub gives_on : GivesOn
  pub to_end : ComesToEnd

-- ---- what is counted

-- a point stands among all steps where it stands among the transaction's own
deed_told : (t : ℕ) (point : Point) (all : List Step) → has_deed point (deeds_by t all) ≡ has_point t point all
deed_told t point [] = refl
deed_told t point (s ∷ all) = at (s.by.0 == t) (deed_told t point all)
  where
    at : (b : Bool) → has_deed point (deeds_by t all) ≡ has_point t point all
        → has_deed point (if b then s.deed ∷ deeds_by t all else deeds_by t all)
        ≡ ((b && is_point point s.deed) || has_point t point all)
    at true more = ap (λ (c : Bool). is_point point s.deed || c) more
    at false more = more

-- as many as are changed first since a point, or none
abbrev counted_if : Bool → Point → List Deed → ℕ
counted_if b point deeds = if b then length (first_of (changes_since point deeds)) else 0

since_count : (b : Bool) (point : Point) (deeds : List Deed)
    → length (first_of (since_if b point deeds)) ≡ counted_if b point deeds
since_count true point deeds = refl
since_count false point deeds = refl

-- the first changes since a point are the records that are taken back to it
pub firsts_count : (t : ℕ) (point : Point) (all : List Step)
    → length (first_of (since_point point (deeds_by t all))) ≡ records_back t point all
firsts_count t point all = since_count (has_deed point (deeds_by t all)) point (deeds_by t all)
    ∙ ap (λ (b : Bool). counted_if b point (deeds_by t all)) (deed_told t point all)

-- the one that is given next comes first of all that would be given
pub next_first : (left end : Undo) (given : List Kept) (change : Kept) → (take_back left).given ≡ Some change
    → GivesAll left given end → (more : List Kept) × (given ≡ change ∷ more)
next_first left end given change next (ends none after) = let both : None ≡ Some change = sym none ∙ next in absurd cc
next_first left end given change next (gives {given = rest} c some more) =
    let both : Some c ≡ Some change = sym some ∙ next in
    let same : c ≡ change = cc in (rest, ap (λ (k : Kept). k ∷ rest) same)

as_many : (a b : ℕ) → a ≡ b → a ≤ b
as_many a b is = omega (arith, is)

one_more : (given more : List Kept) (change : Kept) (most : ℕ) → length (given ++ (change ∷ more)) ≤ most
    → length given + 1 ≤ most
one_more given more change most few = omega (arith, few, length-append given (change ∷ more))

-- ---- what is given

module _ {D : Type 0} (m : Meaning D) (known : KnowsGiven) (old : Core D) (t : TxNo) (point : Point) (undo : Undo)
    (continues : Continues old t.0) (its : IsUndoOf old.works t.0 undo) (reaches : MayReach undo point) (o : Opening)
    (h : Entries) (stands : StandsFor m old o h) where
  abbrev s : Standing
  s = standing_of old stands.numbers stands.tables

  shows : ShowsIt m old o h (standing_of old stands.numbers stands.tables)
  shows = shows_of m old o h stands continues.0

  undo_same : undo ≡ s.undo t.0
  undo_same = sym its.2 ∙ sym (ap undo_kept its.1)

  given_is : (given : List Kept) (end : Undo) → GivesAll (going_to undo point) given end
      → given ≡ map (given_from (s.number t.0) (own o (entry (back_event t point) Fine ∷ h) t.0))
      (first_of (since_point point (deeds_by t.0 (steps o h))))
  given_is given end all = what_is_given known.what_was known.keys old.store.geometry.size (left_state everyone s.state)
      (shown old.store.dirty shows.image) shows.stands.shows.layout shows.stands.shows.reading
      shows.stands.shows.sound o h (entry (back_event t point) Fine) point t.0 s given end shows.stands.memory
      continues.1 (shows.stands.shows.tables t.0 continues.1) (takes_back t point)
      (may_go m old t point undo continues its o h stands known.notes point reaches)
      (subst (λ (u : Undo). GivesAll (going_to u point) given end) undo_same all)

  -- all that is given is as many as the records that are taken back
  pub given_few : (given : List Kept) (end : Undo) → GivesAll (going_to undo point) given end
      → length given ≤ records_back t.0 point (steps o h)
  given_few given end all = as_many (length given) (records_back t.0 point (steps o h)) count
    where
      count : length given ≡ records_back t.0 point (steps o h)
      count = ap length (given_is given end all)
          ∙ (length-map (first_of (since_point point (deeds_by t.0 (steps o h))))
          (given_from (s.number t.0) (own o (entry (back_event t point) Fine ∷ h) t.0))
          ∙ firsts_count t.0 point (steps o h))

  -- and what was given so far, with the one that is given next, is no more
  pub next_few : (given : List Kept) (left : Undo) (change : Kept) → Gives (going_to undo point) given left
      → (take_back left).given ≡ Some change → length given + 1 ≤ records_back t.0 point (steps o h)
  next_few given left change so_far next =
      let rest = known.to_end left in
      let first = next_first left rest.1 rest.0 change next rest.2 in
      one_more given first.0 change (records_back t.0 point (steps o h))
      (subst (λ (ks : List Kept). length (given ++ ks) ≤ records_back t.0 point (steps o h)) first.1
      (given_few (given ++ rest.0) rest.1
      (known.gives_on (going_to undo point) left rest.1 given rest.0 so_far rest.2)))
