-- A word is spelled in one way, and spells one thing.
use Rattle.std.proofs.Common.{◌≡◌, ◌∙◌, ℕ, List, refl, sym, ap, subst, arith, true, false}
use Rattle.std.specs.Prelude.{◌==◌, ◌↔◌, Bool, IsTrue, if◌then◌else◌, slice_index_or}
use Rattle.std.proofs.lemmas.Bool.{false≢true}
use Rattle.std.proofs.lemmas.Fmt.{decimal_injective}
use Rattle.mg_words.specs.Words.{Spells}
use Rattle.mg_commands.specs.CommandLine.{AreRows, Gives, care_spelled, command_spelled, may_have, spelled}
use Rattle.mg_commands.specs.declared.switch.Switch.{Switch}
use Rattle.mg_commands.specs.declared.switch.Switch.TheVariants.{Page, Limit, Stop}
use Rattle.mg_commands.specs.declared.switch.Switches.{Switches}
use Rattle.mg_commands.specs.declared.word.CareWord.{CareWord}
use Rattle.mg_commands.specs.declared.word.CareWord.TheVariants.{Validate, ListLimbo, Commit, Rollback, Sweep}
use Rattle.mg_commands.specs.declared.word.CommandWord.{CommandWord}
use Rattle.mg_commands.specs.declared.word.CommandWord.TheVariants.{Run, Storm, Load, Stat, Fix}

-- ---- one letter tells the words from one another

-- the option with this third letter
abbrev switch_with : ℕ → Switch
switch_with letter = if letter == 112 then Page else (if letter == 108 then Limit else Stop)

switch_read : (switch : Switch) → switch_with (slice_index_or (spelled switch) 2 0) ≡ switch
switch_read Page = refl
switch_read Limit = refl
switch_read Stop = refl

pub spelled_once : (a b : Switch) → spelled a ≡ spelled b → a ≡ b
spelled_once a b is = sym (switch_read a)
    ∙ (ap (λ (w : List ℕ). switch_with (slice_index_or w 2 0)) is ∙ switch_read b)

-- what `gfix` does by the word with this first letter
abbrev care_with : ℕ → CareWord
care_with letter = if letter == 118 then Validate else (if letter == 108 then ListLimbo
    else (if letter == 99 then Commit else (if letter == 114 then Rollback else Sweep)))

care_read : (care : CareWord) → care_with (slice_index_or (care_spelled care) 0 0) ≡ care
care_read Validate = refl
care_read ListLimbo = refl
care_read Commit = refl
care_read Rollback = refl
care_read Sweep = refl

pub care_once : (a b : CareWord) → care_spelled a ≡ care_spelled b → a ≡ b
care_once a b is = sym (care_read a)
    ∙ (ap (λ (w : List ℕ). care_with (slice_index_or w 0 0)) is ∙ care_read b)

-- the command with this third letter
abbrev command_with : ℕ → CommandWord
command_with letter = if letter == 110 then Run else (if letter == 111 then Storm
    else (if letter == 97 then Load else (if letter == 116 then Stat else Fix)))

command_read : (command : CommandWord) → command_with (slice_index_or (command_spelled command) 2 0) ≡ command
command_read Run = refl
command_read Storm = refl
command_read Load = refl
command_read Stat = refl
command_read Fix = refl

pub command_once : (a b : CommandWord) → command_spelled a ≡ command_spelled b → a ≡ b
command_once a b is = sym (command_read a)
    ∙ (ap (λ (w : List ℕ). command_with (slice_index_or w 2 0)) is ∙ command_read b)

-- ---- numbers

pub spells_once : (word : List ℕ) (m n : ℕ) → Spells word m → Spells word n → m ≡ n
spells_once word m n a b =
    let below_m = a.0 in
    let below_n = b.0 in
    decimal_injective m n (omega (arith, below_m)) (omega (arith, below_n)) (a.1 ∙ sym b.1)

-- a number that the option may not have is not given
pub not_lawful : (left : Switches) (name word : List ℕ) (switch : Switch) (n : ℕ) → name ≡ spelled switch
    → Spells word n → may_have switch n ≡ false → (s : Switch) (m : ℕ) → Gives left name word s m → ⊥
not_lawful left name word switch n named spells off s m gives =
    let same : s ≡ switch = spelled_once s switch (sym gives.named ∙ named) in
    let number : m ≡ n = spells_once word m n gives.spells spells in
    false≢true (sym off ∙ subst (λ (x : Switch). may_have x n ≡ true) same
    (subst (λ (k : ℕ). may_have s k ≡ true) number gives.lawful))

-- a word that spells a number spells one of rows where that is one
pub rows_told : (word : List ℕ) (rows : ℕ) (result : Bool) → Spells word rows → (IsTrue result ↔ AreRows rows)
    → (IsTrue result ↔ ((n : ℕ) × Spells word n × AreRows n))
rows_told word rows result spells told = (
  λ holds. (rows, spells, told.0 holds),
  λ there. told.1 (subst (λ (k : ℕ). AreRows k) (spells_once word there.0 rows there.1 spells) there.2),
)
