-- A write that gives a row puts that row, and writes are put one after another.
use Rattle.std.proofs.Common.{◌≡◌, ℕ, ◌+◌, ◌<◌, length, get_or, drop, List, [], ◌∷◌, inl, inr, refl, ap, sym, ◌∙◌}
use Rattle.std.specs.declared.option.Option.{Option}
use Rattle.std.specs.declared.option.Option.TheVariants.{Some, None}
use Rattle.std.specs.Option.{option_map}
use Rattle.std.proofs.lemmas.List.{drop_more}
use Rattle.pg_keyed.specs.Keyed.{Ascends, get, over, merge}
use Rattle.pg_keyed.specs.Ranks.{above_none}
use Rattle.pg_keyed.specs.Reads.{alike, here_or, get_here, get_there}
use Rattle.pg_keyed.specs.Puts.{put_rises, put_reads}
use Rattle.pg_value.specs.declared.row.Row.{Row}
use Rattle.pg_value.specs.declared.value.Value.{Value}
use Rattle.pg_value.specs.declared.write.Write.{Write}
use Rattle.pg_value.specs.Order.{key_cmp}
use Rattle.pg_value.specs.Orders.{keys}
use Rattle.pg_value.specs.Tables.{Stored}
use Rattle.pg_value.specs.Log.{row_given}
use Rattle.pg_value.specs.TablesLaws.{key_of, key_named, put_in, stored_in, key_fits}

some_is : {A : Type 0} (x y : A) → Some x ≡ Some y → x ≡ y
some_is x y h = cc

not_some : {A : Type 0} (x : A) → None ≡ Some x → ⊥
not_some x h = cc

abbrev stored_of : Write → Row → Stored
stored_of w r = record { table = w.table; key = w.key; row = r }

-- ONE ROW

-- a write that gives a row puts that row
pub one_put : (xs : List Stored) (w : Write) (s : Stored) → row_given w ≡ Some s → put_in xs (w ∷ []) ≡ merge key_of key_cmp xs (s ∷ [])
one_put xs w s g = go w.row refl g
  where
    go : (o : Option Row) → w.row ≡ o → option_map (stored_of w) o ≡ Some s → put_in xs (w ∷ []) ≡ merge key_of key_cmp xs (s ∷ [])
    go None e h = absurd (not_some s h)
    go (Some r) e h = ap (λ o. put_in xs (record w { row = o } ∷ [])) e ∙ ap (λ x. merge key_of key_cmp xs (x ∷ [])) (some_is (stored_of w r) s h)

-- ONE AFTER ANOTHER

pub rises : (xs : List Stored) (ws : List Write) → Ascends key_of key_cmp xs → Ascends key_of key_cmp (put_in xs ws)
rises xs ws a = put_rises key_of key_named row_given key_cmp keys xs ws a

abbrev written : List Value → List Write → Option Write
written k ws = get key_named key_cmp k ws

reads : (k : List Value) (xs : List Stored) (ws : List Write) → Ascends key_of key_cmp xs → Ascends key_named key_cmp ws → stored_in k (put_in xs ws) ≡ over row_given (written k ws) (stored_in k xs)
reads k xs ws a b = put_reads key_of key_named row_given key_cmp keys k xs ws (key_fits ws) a b

first_then : (k : List Value) (old : Option Stored) (w : Write) (ws : List Write) → Ascends key_named key_cmp (w ∷ ws) → over row_given (written k ws) (over row_given (written k (w ∷ [])) old) ≡ over row_given (written k (w ∷ ws)) old
first_then k old w ws b = elim (here_or key_named key_cmp keys k w) [
  | inl e ↦ ap (λ m. over row_given m (over row_given (written k (w ∷ [])) old)) (ap (λ j. written j ws) e ∙ above_none key_named key_cmp keys (key_named w) ws b.0)
      ∙ ap (λ m. over row_given m old) (ap (λ j. written j (w ∷ [])) e ∙ get_here key_named key_cmp keys w [])
      ∙ sym (ap (λ m. over row_given m old) (ap (λ j. written j (w ∷ ws)) e ∙ get_here key_named key_cmp keys w ws))
  | inr n ↦ ap (λ m. over row_given (written k ws) (over row_given m old)) (get_there key_named key_cmp keys k w [] n)
      ∙ sym (ap (λ m. over row_given m old) (get_there key_named key_cmp keys k w ws n))
]

pub one_by_one : (xs : List Stored) (w : Write) (ws : List Write) → Ascends key_of key_cmp xs → Ascends key_named key_cmp (w ∷ ws) → put_in (put_in xs (w ∷ [])) ws ≡ put_in xs (w ∷ ws)
one_by_one xs w ws a b =
    let first = rises xs (w ∷ []) a in
    alike key_of key_cmp keys _ _ (rises (put_in xs (w ∷ [])) ws first) (rises xs (w ∷ ws) a)
    (λ k. reads k (put_in xs (w ∷ [])) ws first b.1
    ∙ ap (over row_given (written k ws)) (reads k xs (w ∷ []) a (tt, tt))
    ∙ first_then k (stored_in k xs) w ws b
    ∙ sym (reads k xs (w ∷ ws) a b))

pub next_of : (ws : List Write) (i : ℕ) (w : Write) → i < length ws → w ≡ get_or ws i w → drop i ws ≡ w ∷ drop (i + 1) ws
next_of ws i w l e = drop_more ws i w l ∙ ap (λ v. v ∷ drop (i + 1) ws) (sym e)
