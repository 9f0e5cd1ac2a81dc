-- What stands behind the key bytes that are there, after a number and after a byte of a text.
use Rattle.std.proofs.Common.{◌≡◌, ℕ, ◌+◌, ◌%◌, ◌^◌, ◌<◌, ℤ, List, [], ◌∷◌, ◌++◌, take, get_or, length, ap, sym, ◌∙◌, append_assoc}
use Rattle.std.specs.List.{flat_map}
use Rattle.std.specs.Int.{w64, cast_unsigned, to_be_bytes}
use Rattle.std.proofs.lemmas.List.{flat_map_more, take_more}
use Rattle.mg_value.specs.declared.value.Value.TheVariants.{Int}
use Rattle.mg_sortkey.specs.declared.tags.TheConstants.{INT_TAG}
use Rattle.mg_sortkey.specs.KeyBytes.{escaped, key_bytes}

-- a number: its tag, and then its bytes
pub number_put : (old mid new bytes : List ℕ) (number : ℤ) (unsigned : ℕ) → mid ≡ old ++ INT_TAG ∷ []
    → new ≡ mid ++ bytes → bytes ≡ to_be_bytes w64 ((unsigned + 2 ^ 63) % 2 ^ 64)
    → unsigned ≡ cast_unsigned w64 number → new ≡ old ++ key_bytes (Int number)
unfolding key_bytes
number_put old mid new bytes number unsigned tagged put spelled turned =
    put ∙ ap (λ (xs : List ℕ). xs ++ bytes) tagged ∙ append_assoc old (INT_TAG ∷ []) bytes
    ∙ ap (λ (xs : List ℕ). old ++ INT_TAG ∷ xs) spelled
    ∙ ap (λ (n : ℕ). old ++ INT_TAG ∷ to_be_bytes w64 ((n + 2 ^ 63) % 2 ^ 64)) turned

-- one byte more of a text
pub byte_put : (old out new text : List ℕ) (i d : ℕ) → i < length text
    → out ≡ old ++ flat_map escaped (take i text) → new ≡ out ++ escaped (get_or text i d)
    → new ≡ old ++ flat_map escaped (take (i + 1) text)
byte_put old out new text i d below before put =
    put ∙ ap (λ (xs : List ℕ). xs ++ escaped (get_or text i d)) before
    ∙ flat_map_more escaped old (take i text) (get_or text i d)
    ∙ ap (λ (xs : List ℕ). old ++ flat_map escaped xs) (sym (take_more text i d below))
