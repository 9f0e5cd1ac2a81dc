-- The rows with which a table is filled, by their numbers.
use Rattle.std.specs.Prelude.{◌≡◌, ◌<◌, ◌+◌, ◌*◌, ◌%◌, ◌==◌, ◌++◌, ℕ, zero, suc, List, codes, decimal, if◌then◌else◌}
use Rattle.mg_load_rows.specs.declared.row.TheConstants.{GROUPS, KEYS, STEP}

abbrev pub key_in : ℕ → ℕ
key_in i = i * STEP % KEYS

abbrev pub group_in : ℕ → ℕ
group_in i = i % GROUPS

abbrev pub note_in : ℕ → List ℕ
note_in i = codes "row " ++ decimal i

-- ---- the first rows together

-- the sum of their groups
abbrev pub sum_below : ℕ → ℕ
sum_below zero = 0
sum_below (suc n) = sum_below n + group_in (n + 1)

-- one for a row of group 7, none for another
abbrev pub is_seven : ℕ → ℕ
is_seven i = if group_in i == 7 then 1 else 0

-- how many are of group 7
abbrev pub sevens_below : ℕ → ℕ
sevens_below zero = 0
sevens_below (suc n) = sevens_below n + is_seven (n + 1)

-- ---- keys

-- rows with one key are one
abbrev pub KeyLaw : Type 0
KeyLaw = (i j : ℕ) → i < KEYS → j < KEYS → key_in i ≡ key_in j → i ≡ j
