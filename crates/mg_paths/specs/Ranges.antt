-- Which values lie in a range.
use Rattle.std.specs.Prelude.{Bool, true, not, ◌&&◌, Option, Some, None}
use Rattle.std.specs.Ordering.{is_ge, is_le}
use Rattle.mg_value.specs.declared.value.Value.{Value}
use Rattle.mg_value.specs.Values.{value_cmp}
use Rattle.mg_value.specs.Rows.{is_null}
use Rattle.mg_paths.specs.declared.range.Range.{Range}

-- a value is at a low end or above it
abbrev pub is_above : Option Value → Value → Bool
is_above None value = true
is_above (Some low) value = is_ge (value_cmp value low)

-- a value is at a high end or below it
abbrev pub is_below : Option Value → Value → Bool
is_below None value = true
is_below (Some high) value = is_le (value_cmp value high)

-- a value lies in a range: it is not NULL, and on the inner side of both ends
abbrev pub lies_in : Range → Value → Bool
lies_in range value = not (is_null value) && (is_above range.low value && is_below range.high value)
