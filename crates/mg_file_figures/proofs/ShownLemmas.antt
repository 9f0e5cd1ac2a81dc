-- The row that the versions of a record show.
use Rattle.std.specs.Prelude.{◌≡◌, ℕ, Bool, true, false, List, [], ◌∷◌, Option, None, Some, Result, Ok, Err, IfOk, if◌then◌else◌, length}
use Rattle.std.proofs.Common.{refl, sym, ap, ◌∙◌, subst, arith}
use Rattle.mg_base.specs.Image.{Image, page_at}
use Rattle.mg_base.specs.declared.memory.Memory.{Memory}
use Rattle.mg_base.specs.declared.transaction.TxState.{TxState}
use Rattle.mg_file_figures.specs.CatalogRows.{committed_at}
use Rattle.mg_image.specs.Form.{Row}
use Rattle.mg_image.specs.Inventory.{state_at}
use Rattle.mg_image.specs.Records.{shown, writer}
use Rattle.mg_image.specs.declared.entry.Entry.{Entry}
use Rattle.mg_limbo_list.specs.declared.tips.Tips.{Tips}
use Rattle.mg_model.specs.Answers.{is_committed}

-- ---- lists

-- a list of no length holds nothing
pub none_left : {A : Type 0} (xs : List A) → length xs ≡ 0 → xs ≡ []
none_left [] none = refl
none_left (x ∷ xs) none = absurd (omega (arith, none))

pub committed_told : (tips : Tips) (size : ℕ) (image : Image) (t : ℕ) (state : TxState) (result : Bool)
    → tips.size ≡ size → state ≡ state_at tips.size (page_at tips.size image) t
    → result ≡ is_committed state → result ≡ committed_at size (page_at size image) t
committed_told tips size image t state result sized is told = told
    ∙ ap is_committed (is ∙ ap (λ (s : ℕ). state_at s (page_at s image) t) sized)

pub shown_here : (committed : ℕ → Bool) (rest older all : List Entry) (e : Entry) (test : Bool)
    (result : Result (Option Row) Memory) → rest ≡ e ∷ older
    → shown committed rest ≡ shown committed all → test ≡ committed (writer e) → test ≡ true
    → IfOk result (λ row. row ≡ (if e.version.deleted then None else Some e.row))
    → IfOk result (λ row. row ≡ shown committed all)
shown_here committed rest older all e test (Ok row) cases same is holds told =
    told ∙ (sym (rw (sym is ∙ holds) refl) ∙ (ap (shown committed) (sym cases) ∙ same))
shown_here committed rest older all e test (Err fault) cases same is holds told = tt

pub shown_later : (committed : ℕ → Bool) (rest older all : List Entry) (e : Entry) (test : Bool)
    → rest ≡ e ∷ older → shown committed rest ≡ shown committed all → test ≡ committed (writer e)
    → test ≡ false → shown committed older ≡ shown committed all
shown_later committed rest older all e test cases same is fails =
    sym (ap (shown committed) cases ∙ rw (sym is ∙ fails) refl) ∙ same

pub shown_none : (committed : ℕ → Bool) (rest all : List Entry) → rest ≡ []
    → shown committed rest ≡ shown committed all → None ≡ shown committed all
shown_none committed rest all empty same = sym (ap (shown committed) empty) ∙ same
