-- The values of a key, however it holds them.
use Rattle.std.specs.Prelude.{List, [], ◌∷◌}
use Rattle.pg_value.specs.declared.value.Value.{Value}
use Rattle.pg_value.specs.declared.key.Held.{Held}
use Rattle.pg_value.specs.declared.key.Held.TheVariants.{One, Many}

abbrev pub key_list : Held → List Value
key_list (One value) = value ∷ []
key_list (Many values) = values
