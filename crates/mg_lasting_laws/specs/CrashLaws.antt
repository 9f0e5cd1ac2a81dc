-- Images that crashes leave hold the history, also as it goes on.
use Rattle.std.proofs.Common.{◌≡◌, ◌≤◌, ◌+◌, ◌&&◌, ◌⊎◌, inl, inr, ℕ, Bool, true, false, ◌∷◌, refl, sym, ap, ◌∙◌, subst, arith, nat_lt, le-ltb}
use Rattle.std.specs.Prelude.{[], cond, if◌then◌else◌}
use Rattle.std.proofs.Math.Path.{fun_ext}
use Rattle.std.proofs.lemmas.Bool.{false≢true}
use Rattle.mg_base.specs.Disk.{Meaning}
use Rattle.mg_base.specs.Image.{Image, page_at}
use Rattle.mg_base.specs.Moments.{leaves_as}
use Rattle.mg_careful.specs.CarefulWrite.{Pages, overlay}
use Rattle.mg_model.specs.declared.answer.Answer.{Answer}
use Rattle.mg_model.specs.declared.answer.Answer.TheVariants.{Fine, No, Rows, Tx}
use Rattle.mg_model.specs.declared.opening.Opening.{Opening}
use Rattle.mg_model.specs.Answers.{is_committed}
use Rattle.mg_model.specs.Changes.{row_at}
use Rattle.mg_model.specs.History.{Entries, Entry}
use Rattle.mg_model.specs.Legal.{IsLegal, after_durable, durable_count, is_durable, is_fine, is_lasting, is_limbo, with_asked}
use Rattle.mg_model.specs.Machine.{database, own, state_of}
use Rattle.mg_image.specs.Form.{Form}
use Rattle.mg_image.specs.Histories.{HoldsDurable, newest_at}
use Rattle.mg_image_overlay_laws.specs.kept.HoldLaws.{HoldsAll, overlays_hold}
use Rattle.mg_image_overlay_laws.specs.transactions.MidwayLaws.{midway_leaves}
use Rattle.mg_lasting_laws.specs.Crashes.{HoldsAcknowledged, HoldsFrom, asked, is_failed_write, may_last}
use Rattle.mg_lasting_laws.specs.CrashStatements.{DurableLeaves, FailedLeaves, MidwayHolds, OverlaysHold, QuietLeaves}

-- ---- histories that go on

-- what an image holds depends on the history up to a durable event alone
pub holds_cut : (form : Form) (size : ℕ) (pages : Pages) (o : Opening) (h g : Entries) (k j : ℕ)
    → after_durable g j ≡ after_durable h k → HoldsDurable form size pages o h k
    → HoldsDurable form size pages o g j
holds_cut form size pages o h g k j same holds = record {
  opened = holds.opened;
  holds = holds.holds;
  rows = λ name key. holds.rows name key
      ∙ ap (λ (cut : Entries). row_at (database o cut) name key) (sym same);
  committed = λ t below. holds.committed t below
      ∙ ap (λ (cut : Entries). is_committed (state_of o cut t)) (sym same);
  limbo = λ t below. holds.limbo t below
      ∙ ap (λ (cut : Entries). is_limbo (state_of o cut t)) (sym same);
  undrawn = λ t past. (
    ap (λ (cut : Entries). is_committed (state_of o cut t)) same ∙ (holds.undrawn t past).0,
    ap (λ (cut : Entries). is_limbo (state_of o cut t)) same ∙ (holds.undrawn t past).1,
  );
  changes = λ t name key is. holds.changes t name key
      (ap (λ (cut : Entries). is_limbo (state_of o cut t)) (sym same) ∙ is)
      ∙ ap (λ (cut : Entries). newest_at (own o cut t) name key) (sym same);
}

entry_counts : (e : Entry) (h : Entries) → durable_count h ≤ durable_count (e ∷ h)
entry_counts e h = at (is_durable e)
  where
    at : (b : Bool) → durable_count h ≤ cond b (durable_count h + 1) (durable_count h)
    at true = omega arith
    at false = omega arith

entry_cut : (e : Entry) (h : Entries) (k : ℕ) → k ≤ durable_count h
    → after_durable (e ∷ h) k ≡ after_durable h k
entry_cut e h k most = at (is_durable e) (nat_lt (durable_count h) k) (le-ltb _ k most)
  where
    at : (durable later : Bool) → later ≡ false
        → cond (durable && later) (e ∷ h) (after_durable h k) ≡ after_durable h k
    at true true is = absurd (false≢true (sym is))
    at true false is = refl
    at false later is = refl

-- a legal history is legal up to each of its durable events
pub after_legal : (o : Opening) (h : Entries) (k : ℕ) → IsLegal o h → IsLegal o (after_durable h k)
after_legal o [] k legal = tt
after_legal o (e ∷ h) k legal =
    at (is_durable e && nat_lt (durable_count h) k) (after_legal o h k legal.1)
  where
    at : (b : Bool) → IsLegal o (after_durable h k) → IsLegal o (if b then e ∷ h else after_durable h k)
    at true rest = legal
    at false rest = rest

-- an entry more takes nothing away
pub from_longer : (form : Form) (size : ℕ) (o : Opening) (h : Entries) (e : Entry) (least : ℕ)
    (image : Image) → HoldsFrom form size o h least image → HoldsFrom form size o (e ∷ h) least image
from_longer form size o h e least image holds = record {
  k = holds.k;
  at_least = holds.at_least;
  at_most = let most = holds.at_most in let more = entry_counts e h in omega (arith, most, more);
  holds = holds_cut form size (page_at size image) o h (e ∷ h) holds.k holds.k
      (entry_cut e h holds.k holds.at_most) holds.holds;
  legal = subst (IsLegal o) (sym (entry_cut e h holds.k holds.at_most)) holds.legal;
}

from_as : (form : Form) (size : ℕ) (o : Opening) (h g : Entries) (least fewer : ℕ) (image : Image)
    → h ≡ g → least ≡ fewer → HoldsFrom form size o h least image → HoldsFrom form size o g fewer image
from_as form size o h g least fewer image same equal holds =
    subst (λ (n : ℕ). HoldsFrom form size o g n image) equal
    (subst (λ (x : Entries). HoldsFrom form size o x least image) same holds)

-- ---- images

last_of : (form : Form) (size : ℕ) (o : Opening) (h : Entries) (pages : Pages) (image : Image)
    → page_at size image ≡ pages → IsLegal o h → HoldsAll form size pages o h
    → HoldsFrom form size o h (durable_count h) image
last_of form size o h pages image same legal all = record {
  k = durable_count h;
  at_least = omega arith;
  at_most = omega arith;
  holds = subst (λ (ps : Pages). HoldsDurable form size ps o h (durable_count h)) (sym same) all.durable;
  legal = after_legal o h (durable_count h) legal;
}

pub overlays_hold_from : (form : Form) → OverlaysHold form
overlays_hold_from form size o h cache has_asked needs set_ image opening legal lasts closed is =
    last_of form size o h (overlay cache set_) image (fun_ext is) legal
    (overlays_hold form size o h cache needs opening legal lasts.bits lasts.every set_ closed)

pub midway_holds_from : (form : Form) → MidwayHolds form
midway_holds_from form size o h e page before cache has_asked needs set_ image opening legal lasts closed is =
    at (midway_leaves form size o h e page before cache needs opening legal.1 legal lasts.bits lasts.every
    set_ closed)
  where
    at : HoldsAll form size (overlay cache set_) o h ⊎ HoldsAll form size (overlay cache set_) o (e ∷ h)
        → HoldsFrom form size o (e ∷ h) (durable_count h) image
    at (inl without) = from_longer form size o h e (durable_count h) image
        (last_of form size o h (overlay cache set_) image (fun_ext is) legal.1 without)
    at (inr within) =
        let last : HoldsFrom form size o (e ∷ h) (durable_count (e ∷ h)) image =
        last_of form size o (e ∷ h) (overlay cache set_) image (fun_ext is) legal within in
        record {
          k = last.k;
          at_least = let least = last.at_least in let more = entry_counts e h in omega (arith, least, more);
          at_most = last.at_most;
          holds = last.holds;
          legal = last.legal;
        }

-- ---- calls

pub asked_quiet : (h : Entries) (e : Entry) → may_last e ≡ false → asked (e ∷ h) ≡ e ∷ asked h
asked_quiet h e quiet = rw quiet refl

pub count_quiet : (h : Entries) (e : Entry) → is_durable e ≡ false → durable_count (e ∷ h) ≡ durable_count h
count_quiet h e quiet = rw quiet refl

pub quiet_leaves : (D : Type 0) (m : Meaning D) (form : Form) → QuietLeaves D m form
quiet_leaves D m form size o h e old new passing quiet leaves = record {
  since = leaves_as m old new (HoldsAcknowledged form size o h)
      (HoldsFrom form size o (asked (e ∷ h)) (durable_count h)) (λ c holds. more c holds) leaves.since;
  left = λ c may. from_as form size o (asked (e ∷ h)) (asked (e ∷ h)) (durable_count h)
      (durable_count (e ∷ h)) c refl (sym (count_quiet h e passing)) (more c (leaves.left c may));
}
  where
    more : (c : Image) → HoldsAcknowledged form size o h c
        → HoldsFrom form size o (asked (e ∷ h)) (durable_count h) c
    more c holds = from_as form size o (e ∷ asked h) (asked (e ∷ h)) (durable_count h) (durable_count h) c
        (sym (asked_quiet h e quiet)) refl (from_longer form size o (asked h) e (durable_count h) c holds)

-- an entry that may last was not answered Fine, so it is not durable
not_durable : (e : Entry) → may_last e ≡ true → is_durable e ≡ false
not_durable e is = at (is_lasting e.event) e.answer is
  where
    at : (lasting : Bool) (answer : Answer) → (lasting && is_failed_write answer) ≡ true
        → (lasting && is_fine answer) ≡ false
    at false answer is = refl
    at true Fine is = absurd (false≢true is)
    at true (Tx t) is = refl
    at true (Rows rows) is = refl
    at true (No refusal) is = refl

pub failed_leaves : (D : Type 0) (m : Meaning D) (form : Form) → FailedLeaves D m form
failed_leaves D m form size o h e old new is leaves = record {
  since = leaves_as m old new (HoldsFrom form size o (with_asked h e.event) (durable_count h))
      (HoldsFrom form size o (asked (e ∷ h)) (durable_count h)) (λ c holds. as_asked c (durable_count h) refl holds)
      leaves.since;
  left = λ c may. as_asked c (durable_count (e ∷ h)) (sym (count_quiet h e (not_durable e is))) (leaves.left c may);
}
  where
    whole : with_asked h e.event ≡ asked (e ∷ h)
    whole = rw is refl

    as_asked : (c : Image) (fewer : ℕ) → durable_count h ≡ fewer
        → HoldsFrom form size o (with_asked h e.event) (durable_count h) c
        → HoldsFrom form size o (asked (e ∷ h)) fewer c
    as_asked c fewer equal holds = from_as form size o (with_asked h e.event) (asked (e ∷ h)) (durable_count h)
        fewer c whole equal holds

pub durable_leaves : (D : Type 0) (m : Meaning D) (form : Form) → DurableLeaves D m form
durable_leaves D m form size o h e old new quiet settled since left = record {
  since = leaves_as m old new (HoldsFrom form size o (e ∷ h) (durable_count h))
      (HoldsFrom form size o (asked (e ∷ h)) (durable_count h))
      (λ c holds. from_as form size o (e ∷ h) (asked (e ∷ h)) (durable_count h) (durable_count h) c whole refl
      holds) since;
  left = λ c may. from_as form size o (e ∷ h) (asked (e ∷ h)) (durable_count (e ∷ h))
      (durable_count (e ∷ h)) c whole refl (left c may);
}
  where
    whole : (e ∷ h) ≡ asked (e ∷ h)
    whole = ap (λ (x : Entries). e ∷ x) (sym settled) ∙ sym (asked_quiet h e quiet)
