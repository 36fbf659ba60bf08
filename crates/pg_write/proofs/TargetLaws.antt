-- The values of a tuple with their columns, one after another and by number.
use Rattle.std.proofs.Common.{◌≡◌, ℕ, ◌+◌, ◌<◌, zero, suc, refl, ap, sym, ◌∙◌, arith, List, [], ◌∷◌, ◌++◌, Option, length, get_or, drop, add-one}
use Rattle.std.specs.Prelude.{slice_get}
use Rattle.std.specs.List.{range_with_len}
use Rattle.pg_ast.specs.declared.expr.Whole.{Whole}
use Rattle.pg_rules.specs.declared.entry.ColumnEntry.{ColumnEntry}
use Rattle.pg_rules.specs.Definitions.Entries.{kind_at}
use Rattle.pg_rules.specs.Places.{least, sooner, least_found}
use Rattle.pg_rules.specs.Changes.InsertJudgement.{wrong_value, wrong_values}
use Rattle.pg_write.specs.ChangePasses.{wrong_for, wrong_from}
use Rattle.pg_write.proofs.Loops.{drop_at}

-- one turn of the loop
pub next_wrong : (columns : List ColumnEntry) (targets : List ℕ) (found place next total : Option ℕ) (ws : List Whole) (i : ℕ) (w : Whole) → i < length ws → w ≡ get_or ws i w
    → place ≡ least (wrong_for columns (slice_get targets i) w) → next ≡ sooner found place
    → sooner found (least (wrong_from columns targets i (drop i ws))) ≡ total → sooner next (least (wrong_from columns targets (i + 1) (drop (i + 1) ws))) ≡ total
next_wrong columns targets found place next total ws i w inside is p n so_far =
    ap (λ o. sooner o (least (wrong_from columns targets (i + 1) (drop (i + 1) ws)))) (n ∙ ap (sooner found) p)
    ∙ least_found found (wrong_for columns (slice_get targets i) w) (wrong_from columns targets (i + 1) (drop (i + 1) ws))
    ∙ sym (ap (λ l. sooner found (least (wrong_from columns targets i l))) (drop_at ws i w inside is))
    ∙ so_far

further : (t : ℕ) (ts : List ℕ) (i : ℕ) → slice_get (t ∷ ts) (i + 1) ≡ slice_get ts i
further t ts i = ap (slice_get (t ∷ ts)) (add-one i)

shifted : (columns : List ColumnEntry) (t : ℕ) (ts : List ℕ) (i : ℕ) (ws : List Whole) → wrong_from columns (t ∷ ts) (i + 1) ws ≡ wrong_from columns ts i ws
shifted columns t ts i [] = refl
shifted columns t ts i (w ∷ ws) =
    ap (λ o. wrong_for columns o w ++ wrong_from columns (t ∷ ts) (i + 1 + 1) ws) (further t ts i)
    ∙ ap (λ l. wrong_for columns (slice_get ts i) w ++ l) (shifted columns t ts (i + 1) ws)

untargeted : (columns : List ColumnEntry) (i : ℕ) (ws : List Whole) → wrong_from columns [] i ws ≡ []
untargeted columns i [] = refl
untargeted columns i (w ∷ ws) = untargeted columns (i + 1) ws

pub paired : (columns : List ColumnEntry) (ts : List ℕ) (ws : List Whole) → wrong_from columns ts 0 ws ≡ wrong_values columns ts ws
paired columns [] ws = untargeted columns 0 ws
paired columns (t ∷ ts) [] = refl
paired columns (t ∷ ts) (w ∷ ws) = ap (λ l. wrong_value (kind_at columns t) w ++ l) (shifted columns t ts 0 ws ∙ paired columns ts ws)

last : (a n j : ℕ) → a + n ≡ j → range_with_len a (suc n) ≡ range_with_len a n ++ j ∷ []
last a zero j e = ap (λ k. k ∷ []) (omega (arith, e))
last a (suc n) j e = ap (λ l. a ∷ l) (last (a + 1) n j (omega (arith, e)))

-- one more place
pub one_more : (n : ℕ) → range_with_len 0 (n + 1) ≡ range_with_len 0 n ++ n ∷ []
one_more n = ap (range_with_len 0) (add-one n) ∙ last 0 n n (omega arith)
