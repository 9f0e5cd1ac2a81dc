-- One version more of a record.
use Rattle.std.specs.Prelude.{◌≡◌, ◌++◌, ℕ, List, [], ◌∷◌, length}
use Rattle.std.proofs.Common.{refl, sym, ap, ◌∙◌, append-nil, arith}
use Rattle.std.proofs.lemmas.List.{append_assoc}
use Rattle.mg_base.specs.Image.{Image, page_at}
use Rattle.mg_base.specs.declared.transaction.TxState.{TxState}
use Rattle.mg_findings.specs.declared.finding.Finding.{Finding}
use Rattle.mg_image.specs.Inventory.{state_at}
use Rattle.mg_image.specs.declared.entry.Entry.{Entry}
use Rattle.mg_limbo_list.specs.declared.tips.Tips.{Tips}

-- ---- lists

-- a list of no length holds nothing
pub none_left : {A : Type 0} (xs : List A) → length xs ≡ 0 → xs ≡ []
none_left [] none = refl
none_left (x ∷ xs) none = absurd (omega (arith, none))

-- what is told of these versions, by a list of findings for each of them
abbrev pub IsPassed : (List Entry → List Finding) → List Entry → List Entry → List Finding → List Finding → Type 0
IsPassed tell all rest old now = now ++ tell rest ≡ old ++ tell all

pub state_told : (tips : Tips) (size : ℕ) (image : Image) (t : ℕ) (state : TxState)
    → tips.size ≡ size → state ≡ state_at tips.size (page_at tips.size image) t
    → state ≡ state_at size (page_at size image) t
state_told tips size image t state sized is =
    is ∙ ap (λ (s : ℕ). state_at s (page_at s image) t) sized

pub passes_more : (tell : List Entry → List Finding) (all rest later : List Entry) (e : Entry)
    (old now new more : List Finding) → IsPassed tell all rest old now → rest ≡ e ∷ later
    → tell (e ∷ later) ≡ more ++ tell later → new ≡ now ++ more → IsPassed tell all later old new
passes_more tell all rest later e old now new more before cases opens added =
    ap (λ (fs : List Finding). fs ++ tell later) added
    ∙ (append_assoc now more (tell later)
    ∙ (ap (λ (fs : List Finding). now ++ fs) (sym opens ∙ ap tell (sym cases)) ∙ before))

pub passes_all : (tell : List Entry → List Finding) (all rest : List Entry) (old now : List Finding)
    → IsPassed tell all rest old now → rest ≡ [] → tell [] ≡ [] → now ≡ old ++ tell all
passes_all tell all rest old now is none empty = sym (append-nil now)
    ∙ (ap (λ (fs : List Finding). now ++ fs) (sym (ap tell none ∙ empty)) ∙ is)
