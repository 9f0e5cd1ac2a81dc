-- Whether words ask for the transactions in limbo.
use Rattle.std.proofs.Common.{◌≡◌, ℕ, List, ◌∷◌, Option, None, sym, subst}
use Rattle.std.specs.Prelude.{◌↔◌, Bool, IsTrue, codes}
use Rattle.mg_commands.specs.CommandLine.{Asks, Follow, stop_alone}
use Rattle.mg_commands.specs.declared.command.Care.TheVariants.{ListLimbo}
use Rattle.mg_commands.specs.declared.command.Command.TheVariants.{Fix}
use Rattle.mg_commands.specs.declared.command.Options.{Options}
use Rattle.mg_commands.proofs.OptionLemmas.{stop_follows}

abbrev AreListed : List (List ℕ) → Type 0
AreListed words = (stop : Option ℕ) × Asks (Fix ListLimbo stop) words

-- the word `list`, and behind it no option but `--stop`
pub list_asked : (words : List (List ℕ)) (first : List ℕ) (later : List (List ℕ)) (result : Bool)
    → words ≡ first ∷ later → first ≡ codes "list"
    → (IsTrue result ↔ ((options : Options) × Follow stop_alone later options))
    → (IsTrue result ↔ AreListed words)
list_asked words first later result is named told =
    subst (λ (ws : List (List ℕ)). IsTrue result ↔ AreListed ws) (sym is) (to, from)
  where
    to : IsTrue result → AreListed (first ∷ later)
    to holds =
        let followed = told.0 holds in
        (followed.0.stop, (named, stop_follows later followed.0 followed.1))

    from : AreListed (first ∷ later) → IsTrue result
    from asked = told.1 (record { page = None; limit = None; stop = asked.0 }, asked.1.1)
