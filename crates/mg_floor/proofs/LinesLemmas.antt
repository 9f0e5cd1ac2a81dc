-- Lines are gone through one by one, and sessions.
use Rattle.std.proofs.Common.{◌≡◌, ◌<◌, ◌≤◌, ◌+◌, ◌-◌, append_assoc, ℕ, suc, List, [], ◌∷◌, ◌++◌, Option, Some, None, refl, sym, ap, ◌∙◌, arith}
use Rattle.mg_script.specs.declared.line.Line.{Line}
use Rattle.mg_floor.specs.Scripts.{before, cut_from, own_line, own_of}

append_more : {A : Type 0} (xs : List A) (x : A) (ys : List A) → (xs ++ x ∷ []) ++ ys ≡ xs ++ x ∷ ys
append_more [] x ys = refl
append_more (y ∷ xs) x ys = ap (λ zs. y ∷ zs) (append_more xs x ys)

-- the first of some sessions, and the rest
cut_next : (n s : ℕ) (lines : List Line) → s < n → cut_from (n - s) s lines ≡ own_of s lines ∷ cut_from (n - (s + 1)) (s + 1) lines
cut_next n s lines less =
    ap (λ (k : ℕ). cut_from k s lines) (one n s less)
  where
    one : (n s : ℕ) → s < n → n - s ≡ suc (n - (s + 1))
    one n s less = omega (arith, less)

pub cut_on : (scripts : List (List Line)) (n s : ℕ) (lines : List Line) (all : List (List Line)) → s < n
    → scripts ++ cut_from (n - s) s lines ≡ all
    → (scripts ++ own_of s lines ∷ []) ++ cut_from (n - (s + 1)) (s + 1) lines ≡ all
cut_on scripts n s lines all less is =
    append_more scripts (own_of s lines) (cut_from (n - (s + 1)) (s + 1) lines)
    ∙ ap (λ (more : List (List Line)). scripts ++ more) (sym (cut_next n s lines less)) ∙ is

before_split : (x : Option Line) (ys : List Line) → before x ys ≡ before x [] ++ ys
before_split None ys = refl
before_split (Some line) ys = refl

-- one line more
pub own_on : (own next : List Line) (s : ℕ) (rest later all : List Line) (line : Line) → rest ≡ line ∷ later
    → next ≡ own ++ before (own_line s line) [] → own ++ own_of s rest ≡ all → next ++ own_of s later ≡ all
own_on own next s rest later all line split put is =
    ap (λ (m : List Line). m ++ own_of s later) put
    ∙ append_assoc own (before (own_line s line) []) (own_of s later)
    ∙ ap (λ (m : List Line). own ++ m) (sym (before_split (own_line s line) (own_of s later)))
    ∙ ap (λ (xs : List Line). own ++ own_of s xs) (sym split) ∙ is

append_none : {A : Type 0} (xs : List A) → xs ++ [] ≡ xs
append_none [] = refl
append_none (x ∷ xs) = ap (λ ys. x ∷ ys) (append_none xs)

-- behind the last session
pub cut_all : (scripts : List (List Line)) (n s : ℕ) (lines : List Line) (all : List (List Line)) → n ≤ s
    → scripts ++ cut_from (n - s) s lines ≡ all → scripts ≡ all
cut_all scripts n s lines all past is =
    sym (append_none scripts)
    ∙ ap (λ (k : ℕ). scripts ++ cut_from k s lines) (none n s past) ∙ is
  where
    none : (n s : ℕ) → n ≤ s → 0 ≡ n - s
    none n s past = omega (arith, past)

-- one session more, whose lines were put behind
pub cut_put : (scripts next : List (List Line)) (own : List Line) (n s : ℕ) (lines : List Line)
    (all : List (List Line)) → s < n → next ≡ scripts ++ own ∷ [] → own ≡ own_of s lines
    → scripts ++ cut_from (n - s) s lines ≡ all → next ++ cut_from (n - (s + 1)) (s + 1) lines ≡ all
cut_put scripts next own n s lines all less put is_own is =
    ap (λ (m : List (List Line)). m ++ cut_from (n - (s + 1)) (s + 1) lines)
    (put ∙ ap (λ (x : List Line). scripts ++ x ∷ []) is_own)
    ∙ cut_on scripts n s lines all less is
