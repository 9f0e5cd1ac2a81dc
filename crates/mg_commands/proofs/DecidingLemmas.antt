-- Whether words behind the path ask for a command, word by word.
use Rattle.std.proofs.Common.{◌≡◌, ◌∙◌, ℕ, List, ◌∷◌, Option, None, refl, sym, ap, subst, true, false}
use Rattle.std.proofs.lemmas.Bool.{false≢true}
use Rattle.std.specs.Prelude.{◌↔◌, Bool, IsTrue}
use Rattle.mg_words.specs.Words.{Spells}
use Rattle.mg_commands.specs.CommandLine.{Asks, Follow, Tends, care_word, command_word, every_option, is_decision, stop_alone, storm_options}
use Rattle.mg_commands.specs.declared.command.Care.{Care}
use Rattle.mg_commands.specs.declared.command.Care.TheVariants.{Validate, ListLimbo, Commit, Rollback, Sweep}
use Rattle.mg_commands.specs.declared.command.Command.{Command}
use Rattle.mg_commands.specs.declared.command.Command.TheVariants.{Run, Storm, Load, Stat, Fix}
use Rattle.mg_commands.specs.declared.command.Options.{Options}
use Rattle.mg_commands.specs.declared.switch.Switches.{Switches}
use Rattle.mg_commands.specs.declared.word.CareWord.{CareWord}
use Rattle.mg_commands.specs.declared.word.CareWord.TheVariants as care_words
use Rattle.mg_commands.specs.declared.word.CommandWord.{CommandWord}
use Rattle.mg_commands.specs.declared.word.CommandWord.TheVariants as words_of
use Rattle.mg_commands.proofs.OptionLemmas.{stop_follows, storm_follows}

-- a command with this word is asked for
abbrev IsAsked : CommandWord → List (List ℕ) → Type 0
IsAsked word words = (command : Command) × (command_word command ≡ word) × Asks command words

-- `gfix` is to do something with this word
abbrev IsTended : CareWord → List (List ℕ) → Type 0
IsTended word words = (care : Care) × (stop : Option ℕ) × (care_word care ≡ word) × Tends care words stop

abbrev AreFollowed : Switches → List (List ℕ) → Type 0
AreFollowed left words = (options : Options) × Follow left words options

pub run_asked : (word : CommandWord) (words : List (List ℕ)) (result : Bool) → word ≡ words_of.Run
    → (IsTrue result ↔ AreFollowed every_option words) → (IsTrue result ↔ IsAsked word words)
run_asked word words result is told = (to, λ asked. from asked.0 asked.1 asked.2)
  where
    to : IsTrue result → IsAsked word words
    to holds =
        let followed = told.0 holds in
        (Run followed.0, sym is, followed.1)

    from : (command : Command) → command_word command ≡ word → Asks command words → IsTrue result
    from (Run options) at asks = told.1 (options, asks)
    from (Storm page limit) at asks = let same = at ∙ is in absurd cc
    from (Load rows options) at asks = let same = at ∙ is in absurd cc
    from Stat at asks = let same = at ∙ is in absurd cc
    from (Fix care stop) at asks = let same = at ∙ is in absurd cc

pub storm_asked : (word : CommandWord) (words : List (List ℕ)) (result : Bool) → word ≡ words_of.Storm
    → (IsTrue result ↔ AreFollowed storm_options words) → (IsTrue result ↔ IsAsked word words)
storm_asked word words result is told = (to, λ asked. from asked.0 asked.1 asked.2)
  where
    to : IsTrue result → IsAsked word words
    to holds =
        let followed = told.0 holds in
        (Storm followed.0.page followed.0.limit, sym is, storm_follows words followed.0 followed.1)

    from : (command : Command) → command_word command ≡ word → Asks command words → IsTrue result
    from (Run options) at asks = let same = at ∙ is in absurd cc
    from (Storm page limit) at asks = told.1 (record { page = page; limit = limit; stop = None }, asks)
    from (Load rows options) at asks = let same = at ∙ is in absurd cc
    from Stat at asks = let same = at ∙ is in absurd cc
    from (Fix care stop) at asks = let same = at ∙ is in absurd cc

pub load_asked : (word : CommandWord) (words : List (List ℕ)) (result : Bool) → word ≡ words_of.Load
    → (IsTrue result ↔ ((rows : ℕ) × (options : Options) × Asks (Load rows options) words))
    → (IsTrue result ↔ IsAsked word words)
load_asked word words result is told = (to, λ asked. from asked.0 asked.1 asked.2)
  where
    to : IsTrue result → IsAsked word words
    to holds =
        let asked = told.0 holds in
        (Load asked.0 asked.1, sym is, asked.2)

    from : (command : Command) → command_word command ≡ word → Asks command words → IsTrue result
    from (Run options) at asks = let same = at ∙ is in absurd cc
    from (Storm page limit) at asks = let same = at ∙ is in absurd cc
    from (Load rows options) at asks = told.1 (rows, options, asks)
    from Stat at asks = let same = at ∙ is in absurd cc
    from (Fix care stop) at asks = let same = at ∙ is in absurd cc

pub fix_asked : (word : CommandWord) (words : List (List ℕ)) (result : Bool) → word ≡ words_of.Fix
    → (IsTrue result ↔ ((care : Care) × (stop : Option ℕ) × Asks (Fix care stop) words))
    → (IsTrue result ↔ IsAsked word words)
fix_asked word words result is told = (to, λ asked. from asked.0 asked.1 asked.2)
  where
    to : IsTrue result → IsAsked word words
    to holds =
        let asked = told.0 holds in
        (Fix asked.0 asked.1, sym is, asked.2)

    from : (command : Command) → command_word command ≡ word → Asks command words → IsTrue result
    from (Run options) at asks = let same = at ∙ is in absurd cc
    from (Storm page limit) at asks = let same = at ∙ is in absurd cc
    from (Load rows options) at asks = let same = at ∙ is in absurd cc
    from Stat at asks = let same = at ∙ is in absurd cc
    from (Fix care stop) at asks = told.1 (care, stop, asks)

-- ---- what `gfix` does

-- a word behind which no number comes
pub plainly_tended : (word : CareWord) (words : List (List ℕ)) (result : Bool) → is_decision word ≡ false
    → (IsTrue result ↔ AreFollowed stop_alone words) → (IsTrue result ↔ IsTended word words)
plainly_tended word words result off told = (
  λ holds. to word off (told.0 holds).0 (told.0 holds).1,
  λ tended. from tended.0 tended.1 tended.2 tended.3,
)
  where
    to : (w : CareWord) → is_decision w ≡ false → (options : Options) → Follow stop_alone words options
        → IsTended w words
    to care_words.Validate off_ options follow = (Validate, options.stop, refl, stop_follows words options follow)
    to care_words.ListLimbo off_ options follow = (ListLimbo, options.stop, refl, stop_follows words options follow)
    to care_words.Commit off_ options follow = absurd (false≢true (sym off_))
    to care_words.Rollback off_ options follow = absurd (false≢true (sym off_))
    to care_words.Sweep off_ options follow = (Sweep, options.stop, refl, stop_follows words options follow)

    from : (care : Care) (stop : Option ℕ) → care_word care ≡ word → Tends care words stop → IsTrue result
    from Validate stop at tends = told.1 (record { page = None; limit = None; stop = stop }, tends)
    from ListLimbo stop at tends = told.1 (record { page = None; limit = None; stop = stop }, tends)
    from (Commit t) stop at tends = absurd (false≢true (sym off ∙ sym (ap is_decision at)))
    from (Rollback t) stop at tends = absurd (false≢true (sym off ∙ sym (ap is_decision at)))
    from Sweep stop at tends = told.1 (record { page = None; limit = None; stop = stop }, tends)

-- a word behind which a number comes
pub decision_tended : (word : CareWord) (words : List (List ℕ)) (number : List ℕ) (later : List (List ℕ))
    (result : Bool) → is_decision word ≡ true → words ≡ number ∷ later → ((n : ℕ) × Spells number n)
    → (IsTrue result ↔ AreFollowed stop_alone later) → (IsTrue result ↔ IsTended word words)
decision_tended word words number later result on is spelled told =
    subst (λ (ws : List (List ℕ)). IsTrue result ↔ IsTended word ws) (sym is) (
      λ holds. to word on (told.0 holds).0 (told.0 holds).1,
      λ tended. from tended.0 tended.1 tended.2 tended.3,
    )
  where
    to : (w : CareWord) → is_decision w ≡ true → (options : Options) → Follow stop_alone later options
        → IsTended w (number ∷ later)
    to care_words.Validate on_ options follow = absurd (false≢true on_)
    to care_words.ListLimbo on_ options follow = absurd (false≢true on_)
    to care_words.Commit on_ options follow = (
      Commit (record { 0 = spelled.0 }),
      options.stop,
      refl,
      (spelled.1, stop_follows later options follow),
    )
    to care_words.Rollback on_ options follow = (
      Rollback (record { 0 = spelled.0 }),
      options.stop,
      refl,
      (spelled.1, stop_follows later options follow),
    )
    to care_words.Sweep on_ options follow = absurd (false≢true on_)

    from : (care : Care) (stop : Option ℕ) → care_word care ≡ word → Tends care (number ∷ later) stop
        → IsTrue result
    from Validate stop at tends = absurd (false≢true (ap is_decision at ∙ on))
    from ListLimbo stop at tends = absurd (false≢true (ap is_decision at ∙ on))
    from (Commit t) stop at tends = told.1 (record { page = None; limit = None; stop = stop }, tends.1)
    from (Rollback t) stop at tends = told.1 (record { page = None; limit = None; stop = stop }, tends.1)
    from Sweep stop at tends = absurd (false≢true (ap is_decision at ∙ on))
