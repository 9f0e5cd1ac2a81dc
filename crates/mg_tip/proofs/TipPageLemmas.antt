-- One state is set by one byte.
use Rattle.std.proofs.Common.{◌≡◌, ◌≢◌, ℕ, ◌+◌, ◌/◌, ◌%◌, ◌<◌, List, [], ◌∷◌, Ok, Err, length, refl, arith, inl, inr}
use Rattle.std.proofs.Math.ListN.{set}
use Rattle.std.proofs.lemmas.Bool.{cases_eq, eq-eqb}
use Rattle.std.proofs.lemmas.List.{get_or-set_same, get_or-set_other, length-set, take-set-le}
use Rattle.mg_base.specs.Fields.{byte}
use Rattle.mg_base.specs.declared.transaction.TxState.{TxState}
use Rattle.mg_base.specs.declared.transaction.TxState.TheVariants.{Active, Limbo, Dead, Committed}
use Rattle.mg_base.specs.declared.numbers.PageNo.{PageNo}
use Rattle.mg_base.specs.declared.damage.Damaged.{Damaged}
use Rattle.mg_base.specs.declared.damage.Field.TheVariants.{Link}
use Rattle.mg_base.specs.Checks.{verdict, common_checks}
use Rattle.mg_base.specs.CheckLaws.{verdict-append_ok, verdict-append_err}
use Rattle.mg_tip.specs.TipPage.{prev_in, tip_checks, places, bits_of, state_of, two_bits, state_in, SetsState}

state_of-bits_of : (state : TxState) → state_of (bits_of state) ≡ state
state_of-bits_of Active = refl
state_of-bits_of Limbo = refl
state_of-bits_of Dead = refl
state_of-bits_of Committed = refl

-- the byte of a place is exchanged for one that differs at that place alone
pub sets_state : (old : List ℕ) (place new_byte : ℕ) (state : TxState) → place < places (length old)
    → two_bits new_byte (place % 4) ≡ bits_of state
    → ((other : ℕ) → other < 4 → other ≢ place % 4 → two_bits new_byte other
    ≡ two_bits (byte old (20 + place / 4)) other)
    → SetsState old (set old (20 + place / 4) new_byte) place state
unfolding state_in
sets_state old place new_byte state in_page set_here others_stay =
    let at : ℕ = 20 + place / 4 in
    let in_list : at < length old = omega arith in
    let byte_set : byte (set old at new_byte) at ≡ new_byte =
    get_or-set_same old at new_byte 0 in_list in
    let elsewhere : (k : ℕ) → k ≢ at → byte (set old at new_byte) k ≡ byte old k =
    λ k apart. get_or-set_other old at k new_byte 0 apart in
    record {
      len = length-set old at new_byte;
      front = take-set-le 20 old at new_byte (omega arith);
      set = rw (byte_set, set_here) (state_of-bits_of state);
      others = λ other apart.
          elim (cases_eq (other / 4) (place / 4)) [
            | inl same_byte ↦
                (let bit_apart : other % 4 ≢ place % 4 = omega arith in
                rw (same_byte, byte_set, others_stay (other % 4) (omega arith) bit_apart) refl)
            | inr other_byte ↦
                (let byte_apart : 20 + other / 4 ≢ at = omega arith in
                rw (elsewhere (20 + other / 4) byte_apart) refl)
          ];
      outside = elsewhere;
    }

-- damage of the common part comes first
pub tip_damaged : (page : PageNo) (b : List ℕ) (seq : ℕ) (damage : Damaged)
    → verdict page (common_checks b page.0 3 0 seq) ≡ Err damage
    → verdict page (tip_checks b page.0 seq) ≡ Err damage
unfolding tip_checks
tip_damaged page b seq damage err =
    verdict-append_err page (common_checks b page.0 3 0 seq) _ damage err

-- behind a sound common part the first page of the chain is tested for its link
pub tip_first : (page : PageNo) (b : List ℕ) (seq : ℕ) → seq ≡ 0
    → verdict page (common_checks b page.0 3 0 seq) ≡ Ok tt → verdict page (tip_checks b page.0 seq)
    ≡ verdict page ((Link, prev_in b, 0) ∷ [])
unfolding tip_checks
tip_first page b seq first ok = rw (
  verdict-append_ok page (common_checks b page.0 3 0 seq) _ ok,
  eq-eqb seq 0 first,
) refl
