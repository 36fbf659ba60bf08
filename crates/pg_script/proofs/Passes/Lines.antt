-- Lines: a later place is on no earlier line, and behind a line feed it is on a later one.
use Rattle.std.proofs.Common.{◌≡◌, ℕ, ◌+◌, ◌≤◌, List, [], ◌∷◌, ◌++◌, length, take, drop, refl, sym, ap, ◌∙◌, arith}
use Rattle.std.specs.Prelude.{◌==◌, filter}
use Rattle.std.proofs.lemmas.List.{length-append, take-append-drop, take-take, take_at, length-take-le}
use Rattle.std.proofs.lemmas.List.Elements.{filter-append}
use Rattle.pg_script.specs.Layout.{line_at}
use Rattle.pg_script.specs.Passes.{Separates}

abbrev feeds : List ℕ → ℕ
feeds bytes = length (filter (λ b. b == 10) bytes)

feeds_append : (a b : List ℕ) → feeds (a ++ b) ≡ feeds a + feeds b
feeds_append a b = ap length (filter-append (λ n. n == 10) a b) ∙ length-append (filter (λ n. n == 10) a) (filter (λ n. n == 10) b)

pub line_rises : (bytes : List ℕ) (i j : ℕ) → i ≤ j → line_at bytes i ≤ line_at bytes j
line_rises bytes i j h =
    let t : List ℕ = take j bytes in
    let front : take i t ≡ take i bytes = take-take i j bytes h in
    let parts : feeds (take i t) + feeds (drop i t) ≡ feeds t = sym (feeds_append (take i t) (drop i t)) ∙ ap feeds (take-append-drop i t) in
    let same : feeds (take i t) ≡ feeds (take i bytes) = ap feeds front in
    omega arith

pub feed_separates : (bytes front : List ℕ) (end : ℕ) → end ≤ length bytes → take end bytes ≡ front ++ 10 ∷ [] → Separates bytes end
feed_separates bytes front end within e place h =
    let len : end ≡ length front + 1 = sym (length-take-le end bytes within) ∙ ap length e ∙ length-append front (10 ∷ []) in
    let here : take (length front) bytes ≡ front =
    sym (take-take (length front) end bytes (omega arith)) ∙ ap (take (length front)) e ∙ take_at front (10 ∷ []) (length front) refl in
    let more : feeds (take end bytes) ≡ feeds front + 1 = ap feeds e ∙ feeds_append front (10 ∷ []) in
    let same : feeds (take (length front) bytes) ≡ feeds front = ap feeds here in
    let low = line_rises bytes place (length front) (omega arith) in
    omega (arith, low)
