-- The words of the command `run`: a path, and options in any order, each at most once.
use Rattle.std.specs.Prelude.{◌≡◌, ◌≢◌, List, [], ◌∷◌, Option, None, Some, codes, slice_index_or, if◌then◌else◌}
use Rattle.std.specs.Str.{bytes_eq}
use Rattle.clap.specs.Words.{Row, Text, first_of}

-- a word that does not begin with '-'
abbrev pub IsPlainWord : Text → Type 0
IsPlainWord word = slice_index_or word 0 0 ≢ 45

-- the options of `run`
pub data Switch : Type 0 where
  page : Switch
  limit : Switch
  stop : Switch

abbrev pub name_of : Switch → Text
name_of page = codes "page"
name_of limit = codes "limit"
name_of stop = codes "stop"

abbrev pub spelled : Switch → Text
spelled page = codes "--page"
spelled limit = codes "--limit"
spelled stop = codes "--stop"

abbrev pub option_words : List (Switch × Text) → List Text
option_words [] = []
option_words (o ∷ os) = spelled o.0 ∷ o.1 ∷ option_words os

-- the words, where this is the path, and these are the options
abbrev pub run_words : Text → Text → List (Switch × Text) → List Text
run_words program path os = program ∷ codes "run" ∷ path ∷ option_words os

-- what was given with an option
abbrev pub given : Switch → List (Switch × Text) → Option Text
given s [] = None
given s (o ∷ os) = if bytes_eq (name_of o.0) (name_of s) then Some o.1 else given s os

-- no option is given twice, and no value begins with '-'
abbrev pub AreOptions : List (Switch × Text) → Type 0
AreOptions [] = Unit {0}
AreOptions (o ∷ os) = (given o.0 os ≡ None) × IsPlainWord o.1 × AreOptions os

-- a parse entered `run`, with this path and these options
abbrev pub HasRun : Option (Text × List Row) → Text → List (Switch × Text) → Type 0
HasRun rows path os = (own : List Row) × (rows ≡ Some (codes "run", own))
    × (first_of (codes "path") own ≡ Some path) × ((s : Switch) → first_of (name_of s) own ≡ given s os)
