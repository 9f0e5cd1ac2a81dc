-- What a word that does not begin with '-' is for the walk over words.
use Rattle.std.proofs.Common.{◌≡◌, ◌==◌, ℕ, false, refl, codes, [], ◌∷◌, None, Some}
use Rattle.std.proofs.lemmas.Bool.{ne_eqb}
use Rattle.std.specs.Str.{bytes_eq}
use Rattle.clap.specs.Lexer.{long_of, short_of}
use Rattle.clap.specs.Words.{Rule, Text, new_rule}
use Rattle.clap.specs.declared.builder.ArgAction.TheVariants.{Set}
use Rattle.mg_command_line.specs.Options.{IsPlainWord}

abbrev pub path_rule : Rule
path_rule = record (new_rule (codes "path")) { action = Some Set }

-- ---- one word

module _ (x : ℕ) (xs : Text) (ne : (x == 45) ≡ false) where
  not_dashes : bytes_eq (x ∷ xs) (45 ∷ 45 ∷ []) ≡ false
  not_dashes = rw ne refl

  not_long : long_of (x ∷ xs) ≡ None
  not_long = rw ne refl

  not_short : short_of (x ∷ xs) ≡ None
  not_short = rw ne refl

-- what a plain word is for the walk
pub record IsPlain (word : Text) : Type 0 where
  pub dashes : bytes_eq word (45 ∷ 45 ∷ []) ≡ false
  pub long : long_of word ≡ None
  pub short : short_of word ≡ None

pub plain_of : (word : Text) → IsPlainWord word → IsPlain word
plain_of [] ne = record { dashes = refl; long = refl; short = refl }
plain_of (x ∷ xs) ne = record {
  dashes = not_dashes x xs (ne_eqb x 45 ne);
  long = not_long x xs (ne_eqb x 45 ne);
  short = not_short x xs (ne_eqb x 45 ne);
}
