-- What a write is answered, by what hinders it at its table.
use Rattle.std.proofs.Common.{◌≡◌, ℕ, Bool, true, false, List, Option, Some, None, unwrap_or, sym, ◌∙◌, ap, cond}
use Rattle.mg_value.specs.declared.value.Value.{Value}
use Rattle.mg_model.specs.declared.answer.Answer.{Answer}
use Rattle.mg_model.specs.declared.answer.Answer.TheVariants.{Fine, No}
use Rattle.mg_model.specs.declared.refusal.Refusal.TheVariants.{DuplicateKey, NoRow}
use Rattle.mg_model.specs.Catalog.{catalog_name, table_key}
use Rattle.mg_model.specs.Changes.{same_name}
use Rattle.mg_model.specs.Answers.{Told, if_writable, past, table_obstacle, obstacle, verdict, has_row, answer_insert, answer_give}

-- this is what hinders a write at its table
abbrev pub Hinders : Told → ℕ → List ℕ → Option Answer → Type 0
Hinders k t table refusal = (next : Answer)
    → unwrap_or refusal next ≡ if_writable k t table (past k t (table_obstacle k t table) next)

pub past_some : (k : Told) (t u : ℕ) (found : Option ℕ) (next : Answer) → Some u ≡ found
    → verdict k t u ≡ past k t found next
past_some k t u found next is = ap (λ (o : Option ℕ). past k t o next) is

hindered : (refusal : Option Answer) (a next : Answer) → refusal ≡ Some a → a ≡ unwrap_or refusal next
hindered refusal a next is = sym (ap (λ (o : Option Answer). unwrap_or o next) is)

free : (refusal : Option Answer) (next : Answer) → refusal ≡ None → next ≡ unwrap_or refusal next
free refusal next is = sym (ap (λ (o : Option Answer). unwrap_or o next) is)

pub insert_hindered : (k : Told) (t : ℕ) (table : List ℕ) (key : Value) (refusal : Option Answer) (a : Answer)
    → Hinders k t table refusal → refusal ≡ Some a → a ≡ answer_insert k t table key
insert_hindered k t table key refusal a hinders is = hindered refusal a _ is ∙ hinders _

pub insert_duplicate : (k : Told) (t : ℕ) (table : List ℕ) (key : Value) (refusal : Option Answer)
    → Hinders k t table refusal → refusal ≡ None → true ≡ has_row k t table key
    → No DuplicateKey ≡ answer_insert k t table key
insert_duplicate k t table key refusal hinders is has =
    ap (λ (b : Bool). cond b (No DuplicateKey) (past k t (obstacle k t table key) Fine)) has
    ∙ (free refusal (cond (has_row k t table key) (No DuplicateKey) (past k t (obstacle k t table key) Fine)) is
    ∙ hinders (cond (has_row k t table key) (No DuplicateKey) (past k t (obstacle k t table key) Fine)))

pub insert_new : (k : Told) (t : ℕ) (table : List ℕ) (key : Value) (refusal : Option Answer) (a : Answer)
    → Hinders k t table refusal → refusal ≡ None → false ≡ has_row k t table key
    → a ≡ past k t (obstacle k t table key) Fine → a ≡ answer_insert k t table key
insert_new k t table key refusal a hinders is has answer =
    answer ∙ (ap (λ (b : Bool). cond b (No DuplicateKey) (past k t (obstacle k t table key) Fine)) has
    ∙ (free refusal (cond (has_row k t table key) (No DuplicateKey) (past k t (obstacle k t table key) Fine)) is
    ∙ hinders (cond (has_row k t table key) (No DuplicateKey) (past k t (obstacle k t table key) Fine))))

pub give_hindered : (k : Told) (t : ℕ) (table : List ℕ) (key : Value) (refusal : Option Answer) (a : Answer)
    → Hinders k t table refusal → refusal ≡ Some a → a ≡ answer_give k t table key
give_hindered k t table key refusal a hinders is = hindered refusal a _ is ∙ hinders _

pub give_missing : (k : Told) (t : ℕ) (table : List ℕ) (key : Value) (refusal : Option Answer)
    → Hinders k t table refusal → refusal ≡ None → false ≡ has_row k t table key
    → No NoRow ≡ answer_give k t table key
give_missing k t table key refusal hinders is has =
    ap (λ (b : Bool). cond b (past k t (obstacle k t table key) Fine) (No NoRow)) has
    ∙ (free refusal (cond (has_row k t table key) (past k t (obstacle k t table key) Fine) (No NoRow)) is
    ∙ hinders (cond (has_row k t table key) (past k t (obstacle k t table key) Fine) (No NoRow)))

pub give_found : (k : Told) (t : ℕ) (table : List ℕ) (key : Value) (refusal : Option Answer) (a : Answer)
    → Hinders k t table refusal → refusal ≡ None → true ≡ has_row k t table key
    → a ≡ past k t (obstacle k t table key) Fine → a ≡ answer_give k t table key
give_found k t table key refusal a hinders is has answer =
    answer ∙ (ap (λ (b : Bool). cond b (past k t (obstacle k t table key) Fine) (No NoRow)) has
    ∙ (free refusal (cond (has_row k t table key) (past k t (obstacle k t table key) Fine) (No NoRow)) is
    ∙ hinders (cond (has_row k t table key) (past k t (obstacle k t table key) Fine) (No NoRow))))

-- the catalog has no obstacle of its own row, another table that of its key
pub catalog_free : (k : Told) (t : ℕ) (table name : List ℕ) → name ≡ table → true ≡ same_name name catalog_name
    → None ≡ table_obstacle k t table
catalog_free k t table name is same =
    ap (λ (b : Bool). cond b None (obstacle k t catalog_name (table_key table)))
    (same ∙ ap (λ (n : List ℕ). same_name n catalog_name) is)

pub table_hindered : (k : Told) (t : ℕ) (table name again : List ℕ) (key : Value) (by : Option ℕ) → name ≡ table
    → false ≡ same_name name catalog_name → again ≡ table → key ≡ table_key again
    → by ≡ obstacle k t catalog_name key → by ≡ table_obstacle k t table
table_hindered k t table name again key by is other again_is key_is found = found
    ∙ (ap (λ (v : Value). obstacle k t catalog_name v) (key_is ∙ ap table_key again_is)
    ∙ ap (λ (b : Bool). cond b None (obstacle k t catalog_name (table_key table)))
    (other ∙ ap (λ (n : List ℕ). same_name n catalog_name) is))
