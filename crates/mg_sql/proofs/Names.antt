-- A word that no word of the grammar is spelled as is a name, in capitals.
use Rattle.std.proofs.Common.{◌≡◌, ℕ, zero, suc, ◌<◌, ◌≤◌, Bool, true, false, List, [], ◌∷◌, length, map, get_or, refl, sym, ◌∙◌, ap, subst, arith, Option, Some, None, MatchOption, IsSome, IfSome, ◌↔◌}
use Rattle.std.proofs.lemmas.List.{length-map}
use Rattle.std.specs.Prelude.{Contains, slice_index}
use Rattle.std.specs.List.{list_all}
use Rattle.std.proofs.lemmas.Bool.{and_parts}
use Rattle.std.proofs.lemmas.Bool.Decides.{nat_tests}
use Rattle.mg_value.specs.Names.{IsName, IsReserved, is_capital, is_name_byte}
use Rattle.mg_value.specs.declared.name.TheConstants.{RESERVED}
use Rattle.mg_sql.specs.declared.token.Kind.{Kind}
use Rattle.mg_sql.specs.declared.token.Kind.TheVariants as kinds
use Rattle.mg_sql.specs.declared.scanning.TheConstants.{WORDS}
use Rattle.mg_sql.specs.Spelling.{IsSpelled, IsWord, spelling, capitals, capital, is_letter, is_word_byte}

reserved : map (λ word. word.now) RESERVED ≡ map spelling WORDS
reserved = refl

capital_first : (b : ℕ) → is_letter b ≡ true → is_capital (capital b) ≡ true
capital_first b h = grind (arith, nat_tests)

capital_byte : (b : ℕ) → is_word_byte b ≡ true → is_name_byte (capital b) ≡ true
capital_byte b h = grind (arith, nat_tests)

letter_byte : (b : ℕ) → is_letter b ≡ true → is_word_byte b ≡ true
letter_byte b h = grind (arith, nat_tests)

capital_bytes : (bs : List ℕ) → list_all is_word_byte bs ≡ true → list_all is_name_byte (capitals bs) ≡ true
capital_bytes [] h = refl
capital_bytes (b ∷ bs) h = let p = and_parts (is_word_byte b) (list_all is_word_byte bs) h in rw (capital_byte b p.0, capital_bytes bs p.1) refl

at_spelling : (ks : List Kind) (k : ℕ) (bytes : List ℕ) → k < length (map spelling ks) → get_or (map spelling ks) k bytes ≡ bytes → (j : Kind) × (bytes ≡ spelling j)
at_spelling [] k bytes low e = absurd (omega arith)
at_spelling (j ∷ ks) zero bytes low e = (j, sym e)
at_spelling (j ∷ ks) (suc k) bytes low e = at_spelling ks k bytes (omega arith) e

contains_spelling : (ks : List Kind) (bytes : List ℕ) → Contains (map spelling ks) bytes → (k : Kind) × (bytes ≡ spelling k)
contains_spelling ks bytes c = at_spelling ks c.0 bytes c.1 c.2

pub is_name : (word : List ℕ) → IsSpelled kinds.Name word → length word ≤ 31 → IsName (capitals word)
is_name word s short = let w = s.0 in
    let e : capitals word ≡ capital w.first ∷ capitals w.rest = ap capitals w.parts in record {
      some = rw e (omega arith);
      most = omega (arith, length-map {A = ℕ} {B = ℕ});
      begins = rw e (capital_first w.first w.letter);
      each = rw e (capital_bytes (w.first ∷ w.rest) (rw (letter_byte w.first w.letter, w.others) refl));
      free = λ r. let k = contains_spelling WORDS (capitals word) (subst (λ xs. Contains xs (capitals word)) reserved r) in s.1 k.0 k.1;
    }

pub named : (r : Option (List ℕ)) (f g : List ℕ) → (IsSome r ↔ IsName f) → IfSome r (λ n. n ≡ f) → IsName f → f ≡ g → MatchOption r ⊥ (λ n. n ≡ g)
named None f g some same is e = let h = some.1 is in absurd cc
named (Some n) f g some same is e = same ∙ e
