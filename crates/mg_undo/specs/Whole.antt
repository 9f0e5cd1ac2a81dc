-- Whether a key is among the keys of the catalog's rows that go.
use Rattle.std.specs.Prelude.{Bool, List}
use Rattle.std.specs.List.{list_any}
use Rattle.mg_value.specs.declared.value.Value.{Value}
use Rattle.mg_model.specs.Changes.{same_key}

-- one of these keys is this one
abbrev pub is_one_of : List Value → Value → Bool
is_one_of keys key = list_any (λ k. same_key k key) keys
