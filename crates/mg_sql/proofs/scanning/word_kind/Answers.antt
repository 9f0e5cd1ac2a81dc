use Rattle.std.proofs.Common.{◌≡◌, ℕ, ◌<◌, ◌+◌, ◌∷◌, [], List, ◌++◌, length, take, Option, Some, None, Bool, true, false, refl, sym, ◌∙◌, ap, subst, arith, if◌then◌else◌}
use Rattle.mg_sql.specs.declared.token.Kind.{Kind}
use Rattle.mg_sql.specs.declared.token.Kind.TheVariants as kinds
use Rattle.mg_sql.specs.declared.scanning.TheConstants.{WORDS}
use Rattle.mg_sql.specs.Spelling.{capitals, capital, spelling, is_letter, IsWord}
use Rattle.mg_sql.proofs.Lexemes.{found, found_none, same_is, same_bytes, head_of}
use Rattle.mg_sql.proofs.Scanned.{letter_capital}
use Rattle.mg_sql.proofs.Folded.{folded}
use Rattle.std.proofs.Common.{get_or}
use Rattle.std.proofs.lemmas.List.{take_more}
use Rattle.mg_sql.proofs.scanning.word_kind.Goals as goal

found_snoc : (bytes : List ℕ) (ks : List Kind) (k : Kind) → found bytes ks ≡ None → (bytes ≡ spelling k → ⊥) → found bytes (ks ++ k ∷ []) ≡ None
found_snoc bytes [] k none other = at (same_bytes bytes (spelling k)) refl where
  at : (t : Bool) → same_bytes bytes (spelling k) ≡ t → found bytes (k ∷ []) ≡ None
  at true e = absurd (other (same_is bytes (spelling k) e))
  at false e = rw e refl
found_snoc bytes (j ∷ ks) k none other = at (same_bytes bytes (spelling j)) refl (λ h. found_snoc bytes ks k h other) where
  at : (t : Bool) → same_bytes bytes (spelling j) ≡ t → (found bytes ks ≡ None → found bytes (ks ++ k ∷ []) ≡ None) → found bytes (j ∷ (ks ++ k ∷ [])) ≡ None
  at true e more = let h = rw e at none in absurd cc
  at false e more = rw e (more (rw e at none))

-- each word of the grammar is among the words, and no symbol begins with a letter
listed : (j : Kind) → (if is_letter (head_of (spelling j)) then found (spelling j) WORDS else Some j) ≡ Some j
listed kinds.Set = refl
listed _ = refl

free : (word : List ℕ) → IsWord word → found (capitals word) WORDS ≡ None → (j : Kind) → capitals word ≡ spelling j → ⊥
free word w none j e =
    let letter : is_letter (head_of (spelling j)) ≡ true = ap (λ xs. is_letter (head_of xs)) (sym e ∙ ap capitals w.parts) ∙ letter_capital w.first w.letter in
    let h = rw letter at (listed j) in let k = ap (λ xs. found xs WORDS) e in absurd (let l = sym none ∙ k ∙ h in cc)

pub loop-kind-init : goal.loop-kind-init
loop-kind-init c = refl

pub returns-then-folds_to : goal.returns-then-folds_to
returns-then-folds_to c =
    folded (get_or WORDS c.loop-kind.kind-index kinds.Set) c.args.word.now c.requires
    (c.if-folds_to.ensures ∙ c.spelling.ensures)

pub loop-kind-preserved : goal.loop-kind-preserved
loop-kind-preserved c =
    ap (λ ks. found (capitals c.args.word.now) ks) (take_more WORDS c.loop-kind.kind-index kinds.Set c.loop-kind-test.true)
    ∙ found_snoc (capitals c.args.word.now) (take c.loop-kind.kind-index WORDS) (get_or WORDS c.loop-kind.kind-index kinds.Set) c.loop-kind.invariant
    (λ e. c.if-folds_to.ensures (e ∙ sym c.spelling.ensures))

pub returns : goal.returns
returns c =
    let all : c.loop-kind.kind-index ≡ 43 = omega (arith, c.loop-kind-test.false, c.loop-kind.auto.kind-index-end) in
    (c.requires, free c.args.word.now c.requires (subst (λ n. found (capitals c.args.word.now) (take n WORDS) ≡ None) all c.loop-kind.invariant))
