-- What a note does, for those who ask for candidates.
use Rattle.std.proofs.Common.{◌≡◌, ◌≢◌, ◌⊎◌, inl, inr, ◌∙◌, ℕ, List, ◌∷◌, Option, None, Some, refl, subst, sym, ap, true, false, ◌==◌, Bool}
use Rattle.std.proofs.lemmas.Bool.{cases_eq, eq-eqb}
use Rattle.mg_base.specs.declared.numbers.RecId.{RecId}
use Rattle.mg_directory.specs.Candidates.{Adds, ByKey, ByTable, IsCandidate, Noted, Notes, NotesIn, NotesOrDrops, under, with_its}
use Rattle.mg_directory.specs.Hashes.{hash_of}

-- a directory has all that another one had
abbrev pub HasAllOf : ByKey → ByKey → Type 0
HasAllOf old new = (bytes : List ℕ) (p : RecId) → IsCandidate (old bytes) p → IsCandidate (new bytes) p

-- a note takes nothing away
pub notes_keep : (old new : ByKey) (bytes : List ℕ) (rec : RecId) → Notes old new bytes rec → HasAllOf old new
notes_keep old new bytes rec notes other p was = at (notes.rest other)
  where
    at : (new other ≡ old other) ⊎ (new other ≡ rec ∷ old other) → IsCandidate (new other) p
    at (inl same) = subst (λ (recs : List RecId). IsCandidate recs p) (sym same) was
    at (inr more) = subst (λ (recs : List RecId). IsCandidate recs p) (sym more) (inr was)

-- the record of a note with the hash stands among those with it
pub its_is_there : (hash : ℕ) (rec : RecId) (recs : List RecId) → IsCandidate (with_its hash hash rec recs) rec
its_is_there hash rec recs = rw (eq-eqb hash hash refl) (inl refl)

-- what a directory does that adds a note
pub adds_notes : (old new : Noted) (bytes : List ℕ) (rec : RecId) → Adds old new bytes rec
    → Notes (under old) (under new) bytes rec
adds_notes old new bytes rec (inl (same, there)) = record {
  its = subst (λ (dir : Noted). IsCandidate (under dir bytes) rec) (sym same) there;
  rest = λ other. inl (ap (λ (dir : Noted). under dir other) same);
}
adds_notes old new bytes rec (inr is) = record {
  its = subst (λ (dir : Noted). IsCandidate (under dir bytes) rec) (sym is)
      (its_is_there (hash_of bytes) rec (under old bytes));
  rest = λ other. at other (hash_of bytes == hash_of other) refl;
}
  where
    at : (other : List ℕ) (b : Bool) → (hash_of bytes == hash_of other) ≡ b
        → (under new other ≡ under old other) ⊎ (under new other ≡ rec ∷ under old other)
    at other true it = inr (ap (λ (dir : Noted). under dir other) is ∙ rw it refl)
    at other false it = inl (ap (λ (dir : Noted). under dir other) is ∙ rw it refl)

-- Each directory that is there after a note was there, and has all that it had; and that of the
-- table has the record.
pub notes_of : (old new : ByTable) (first : ℕ) (bytes : List ℕ) (rec : RecId)
    → NotesOrDrops old new first bytes rec → (at : ℕ) (dir : ByKey) → new at ≡ Some dir
    → (was : ByKey) × (old at ≡ Some was) × HasAllOf was dir
    × (first ≡ at → IsCandidate (dir bytes) rec)
notes_of old new first bytes rec notes at dir is = by (cases_eq at first)
  where
    its : (was now : Option ByKey) → NotesIn was now bytes rec → now ≡ Some dir
        → (had : ByKey) × (was ≡ Some had) × HasAllOf had dir × IsCandidate (dir bytes) rec
    its was None in_ none = absurd cc
    its None (Some its_) in_ same = absurd in_
    its (Some had) (Some its_) in_ same =
        let one : its_ ≡ dir = cc in (
          had,
          refl,
          subst (λ (d : ByKey). HasAllOf had d) one (notes_keep had its_ bytes rec in_),
          subst (λ (d : ByKey). IsCandidate (d bytes) rec) one in_.its,
        )

    by : (at ≡ first) ⊎ (at ≢ first) → (was : ByKey) × (old at ≡ Some was) × HasAllOf was dir
        × (first ≡ at → IsCandidate (dir bytes) rec)
    by (inl same) =
        let (had, had_is, all_, there) = its (old first) (new first) notes.its (ap new (sym same) ∙ is) in
        (had, ap old same ∙ had_is, all_, λ _. there)
    by (inr off) =
        (dir, sym (notes.others at off) ∙ is, λ other p there. there, λ same. absurd (off (sym same)))
