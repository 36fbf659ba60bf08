-- How values, keys, rows and places are ordered. The order takes all values; of one kind it is that of SQL, with NULL first.
use Rattle.std.specs.Prelude.{ℕ, ℤ, pos, Bool, false, List, []}
use Rattle.std.specs.declared.cmp.Ordering.{Ordering}
use Rattle.std.specs.Ordering.{nat_cmp, int_cmp, bool_cmp, on, then_cmp}
use Rattle.std.specs.Cmp.Lexicographic.{slice_cmp}
use Rattle.pg_value.specs.declared.value.Value.{Value}
use Rattle.pg_value.specs.declared.value.Value.TheVariants.{Null, Int, Text, Bool as BoolV}

-- NULL, then numbers, then texts, then truth values
abbrev pub class : Value → ℕ
class Null = 0
class (Int n) = 1
class (Text t) = 2
class (BoolV b) = 3

abbrev pub number : Value → ℤ
number Null = pos 0
number (Int n) = n
number (Text t) = pos 0
number (BoolV b) = pos 0

abbrev pub bytes : Value → List ℕ
bytes Null = []
bytes (Int n) = []
bytes (Text t) = t
bytes (BoolV b) = []

abbrev pub truth : Value → Bool
truth Null = false
truth (Int n) = false
truth (Text t) = false
truth (BoolV b) = b

abbrev pub value_cmp : Value → Value → Ordering
value_cmp = then_cmp (on class nat_cmp) (then_cmp (on number int_cmp) (then_cmp (on bytes (slice_cmp nat_cmp)) (on truth bool_cmp)))

-- column by column
abbrev pub row_cmp : List Value → List Value → Ordering
row_cmp = slice_cmp value_cmp

abbrev pub key_cmp : List Value → List Value → Ordering
key_cmp = row_cmp

-- where a row stands or would stand: its table and the values of its key
abbrev pub Place : Type 0
Place = ℕ × List Value

-- by table, then by key
abbrev pub place_cmp : Place → Place → Ordering
place_cmp = then_cmp (on (λ (p : Place). p.0) nat_cmp) (on (λ (p : Place). p.1) key_cmp)
