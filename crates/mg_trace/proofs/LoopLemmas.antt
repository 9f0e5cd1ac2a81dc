-- What a loop puts, piece by piece.
use Rattle.std.proofs.Common.{◌≡◌, ℕ, ◌+◌, ◌<◌, ◌≤◌, zero, suc, Bool, true, false, List, [], ◌∷◌, ◌++◌, length, take, get_or, if◌then◌else◌, refl, sym, ap, ◌∙◌, subst, arith, append-nil}
use Rattle.std.specs.Prelude.{decimal}
use Rattle.std.proofs.lemmas.List.{take_more}
use Rattle.std.proofs.lemmas.List.Concat.{flat_map-append}
use Rattle.std.specs.List.{flat_map}
use Rattle.mg_expr.specs.declared.expr.Expr.{Expr}
use Rattle.mg_trace.specs.declared.trace.Trace.{Trace}
use Rattle.mg_model.specs.Changes.{Cells}
use Rattle.mg_model.specs.declared.answer.Answer.TheVariants.{Rows}
use Rattle.mg_trace.specs.Putting.{EndsLine, Puts}
use Rattle.mg_trace.specs.PuttingLaws.{puts_as, puts_both}
use Rattle.mg_trace.specs.Text.{end_text}
use Rattle.mg_trace.specs.Trees.{expr_text}
use Rattle.mg_trace.specs.TreeLaws.{laid, laid_more, later}

-- the pieces of one more item
pub item_put : {A : Type 0} (f : A → List ℕ) (items : List A) (i : ℕ) (item : A) (old now next : Trace)
    → i < length items → item ≡ get_or items i item → Puts old now (flat_map f (take i items))
    → Puts now next (f item) → Puts old next (flat_map f (take (i + 1) items))
item_put f items i item old now next below is before one =
    let more : flat_map f (take i items) ++ f item ≡ flat_map f (take (i + 1) items) =
    sym (ap (flat_map f) (take_more items i item below)
    ∙ flat_map-append f (take i items) (get_or items i item ∷ [])
    ∙ ap (λ (m : List ℕ). flat_map f (take i items) ++ m) (append-nil (f (get_or items i item)))
    ∙ ap (λ x. flat_map f (take i items) ++ f x) (sym is)) in
    puts_as old next _ _ more (puts_both old now next _ _ before one)

-- the same of a list of bytes
pub byte_put : (f : ℕ → List ℕ) (bytes : List ℕ) (i : ℕ) (old now next : Trace) → i < length bytes
    → Puts old now (flat_map f (take i bytes)) → Puts now next (f (get_or bytes i 0))
    → Puts old next (flat_map f (take (i + 1) bytes))
byte_put f bytes i old now next below before one =
    let more : flat_map f (take i bytes) ++ f (get_or bytes i 0) ≡ flat_map f (take (i + 1) bytes) =
    sym (ap (flat_map f) (take_more bytes i 0 below)
    ∙ flat_map-append f (take i bytes) (get_or bytes i 0 ∷ [])
    ∙ ap (λ (m : List ℕ). flat_map f (take i bytes) ++ m) (append-nil (f (get_or bytes i 0)))) in
    puts_as old next _ _ more (puts_both old now next _ _ before one)

take_past : {A : Type 0} (items : List A) (i : ℕ) → length items ≤ i → take i items ≡ items
take_past [] zero past = refl
take_past [] (suc i) past = refl
take_past (x ∷ items) zero past = absurd (omega arith)
take_past (x ∷ items) (suc i) past = ap (λ xs. x ∷ xs) (take_past items i (omega arith))

-- behind the last one all pieces are put
pub items_put : {A : Type 0} (f : A → List ℕ) (items : List A) (i : ℕ) (old now : Trace)
    → length items ≤ i → Puts old now (flat_map f (take i items)) → Puts old now (flat_map f items)
items_put f items i old now past put =
    puts_as old now _ _ (ap (flat_map f) (take_past items i past)) put

-- one more expression, behind a word if one stands before it
pub expr_put : (between : List ℕ) (es : List Expr) (i : ℕ) (e : Expr) (has : Bool) (old now next : Trace)
    → i < length es → e ≡ get_or es i e → has ≡ later false i
    → Puts old now (laid between false (take i es))
    → Puts now next ((if has then between else []) ++ expr_text e)
    → Puts old next (laid between false (take (i + 1) es))
expr_put between es i e has old now next below is stands before one =
    let suc_is : suc i ≡ i + 1 = omega arith in
    let step : laid between false (take i es) ++ ((if has then between else []) ++ expr_text e)
    ≡ laid between false (take (i + 1) es) =
    ap (λ (b : Bool). laid between false (take i es) ++ ((if b then between else []) ++ expr_text e)) stands
    ∙ ap (λ x. laid between false (take i es) ++ ((if later false i then between else []) ++ expr_text x)) is
    ∙ sym (laid_more between false es i e below)
    ∙ ap (λ (n : ℕ). laid between false (take n es)) suc_is in
    puts_as old next _ _ step (puts_both old now next _ _ before one)

-- behind the last one all are put
pub exprs_put : (between : List ℕ) (es : List Expr) (i : ℕ) (old now : Trace) → length es ≤ i
    → Puts old now (laid between false (take i es)) → Puts old now (laid between false es)
exprs_put between es i old now past put =
    puts_as old now _ _ (ap (laid between false) (take_past es i past)) put

-- one stands before each but the first
pub one_before : (i : ℕ) → true ≡ later false (i + 1)
one_before i = let suc_is : suc i ≡ i + 1 = omega arith in ap (later false) suc_is

-- a number, as it was passed on
pub number_put : (old new : Trace) (n m : ℕ) → n ≡ m → Puts old new (decimal n) → Puts old new (decimal m)
number_put old new n m is put = puts_as old new (decimal n) (decimal m) (ap decimal is) put

-- a piece between a word and no word
pub open_put : (old new : Trace) (word text : List ℕ) → Puts old new (word ++ (text ++ [])) → Puts old new (word ++ text)
open_put old new word text put = puts_as old new _ _ (ap (λ (m : List ℕ). word ++ m) (append-nil text)) put

-- rows, as they were passed on
pub rows_ended : (old new : Trace) (begun : ℕ) (rows told : List Cells) → rows ≡ told
    → EndsLine old new begun (end_text (Rows rows)) → EndsLine old new begun (end_text (Rows told))
rows_ended old new begun rows told is ends =
    subst (λ (rs : List Cells). EndsLine old new begun (end_text (Rows rs))) is ends
