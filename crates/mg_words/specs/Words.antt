-- The command lines that the program takes.
use Rattle.std.specs.declared.alloc.Global.{Global}
use Rattle.std.specs.Prelude.{◌≡◌, ◌≢◌, ◌<◌, ◌&&◌, ◌^◌, ℕ, Bool, true, not, nat_lt, List, [], ◌∷◌, Option, Some, None, map, codes, decimal, string_bytes, String, slice_index, unwrap_or}
use Rattle.mg_base.specs.Geometry.{is_page_size}
use Rattle.mg_base.specs.declared.geometry.TheConstants.{GREATEST_LIMIT, LEAST_LIMIT}
use Rattle.mg_words.specs.declared.asked.Asked.{Asked}
use Rattle.mg_words.specs.declared.reading.TheConstants.{USUAL_PAGE}
use Rattle.mg_words.specs.declared.switch.Switch.{Switch}
use Rattle.mg_words.specs.declared.switch.Switch.TheVariants.{Page, Limit, Stop}

-- the bytes of each word
abbrev pub texts : List (String Global) → List (List ℕ)
texts words = map (λ w. string_bytes w) words

-- a path is any word that doesn't begin with '-'
abbrev pub IsPath : List ℕ → Type 0
IsPath path = slice_index path 0 ≢ 45

-- ---- one option

-- how an option is spelled
abbrev pub spelled : Switch → List ℕ
spelled Page = codes "--page"
spelled Limit = codes "--limit"
spelled Stop = codes "--stop"

-- whether it may have this number
abbrev pub may_have : Switch → ℕ → Bool
may_have Page n = is_page_size n
may_have Limit n = not (nat_lt n LEAST_LIMIT) && not (nat_lt GREATEST_LIMIT n)
may_have Stop n = true

-- the number that was given with it
abbrev pub given : Switch → Asked → Option ℕ
given Page asked = asked.page
given Limit asked = asked.limit
given Stop asked = asked.stop

-- it is given with this number
abbrev pub with_number : Switch → ℕ → Asked → Asked
with_number Page n asked = record { page = Some n; limit = asked.limit; stop = asked.stop }
with_number Limit n asked = record { page = asked.page; limit = Some n; stop = asked.stop }
with_number Stop n asked = record { page = asked.page; limit = asked.limit; stop = Some n }

-- a word spells a number
abbrev pub Spells : List ℕ → ℕ → Type 0
Spells word n = (n < 2 ^ 32) × (decimal n ≡ word)

-- An option and its number are read: one that was not given yet, with a number that it may have.
pub record Adds (asked : Asked) (name word : List ℕ) (all : Asked) : Type 0 where
  pub switch : Switch
  pub number : ℕ
  pub named : name ≡ spelled switch
  pub spells : Spells word number
  pub fresh : given switch asked ≡ None
  pub lawful : may_have switch number ≡ true
  pub more : all ≡ with_number switch number asked

-- ---- all words

-- no option is given
abbrev pub nothing : Asked
nothing = record { page = None; limit = None; stop = None }

-- options follow one another, each as two words
pub data Follow : Asked → List (List ℕ) → Asked → Type 0 where
  end : (asked : Asked) → Follow asked [] asked
  option : (asked mid all : Asked) (name word : List ℕ) (words : List (List ℕ))
      → Adds asked name word mid → Follow mid words all → Follow asked (name ∷ word ∷ words) all

-- the words of `run DB` with its options, behind the program's name
abbrev pub IsRun : List (List ℕ) → Asked → Type 0
IsRun (program ∷ command ∷ path ∷ options) asked = (command ≡ codes "run") × IsPath path
    × Follow nothing options asked
IsRun words asked = ⊥

-- ---- the page size of a new file

-- it is the one that is asked, or else the usual one; where the words are no command line it is the usual one
pub record IsWanted (words : List (List ℕ)) (size : ℕ) : Type 0 where
  pub asked : (asked : Asked) → IsRun words asked → size ≡ unwrap_or asked.page USUAL_PAGE
  pub none : ((asked : Asked) → IsRun words asked → ⊥) → size ≡ USUAL_PAGE
