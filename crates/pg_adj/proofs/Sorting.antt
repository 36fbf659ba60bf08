-- Edges that are sorted by the vertex at one end: they rise, and at each vertex they stand as they stood.
use Rattle.std.proofs.Common.{ℕ, zero, suc, ◌≡◌, ◌+◌, ◌<◌, ◌≤◌, ◌&&◌, not, Bool, true, false, cond, List, [], ◌∷◌, map, length, take, get_or, refl, ap, sym, subst, ◌∙◌, arith, Bor}
use Rattle.std.specs.List.{filter}
use Rattle.std.proofs.lemmas.List.{length-map}
use Rattle.std.specs.List.Sorted.{IsSorted, IsStable, ties}
use Rattle.std.specs.declared.cmp.Ordering.{Ordering}
use Rattle.std.specs.declared.cmp.Ordering.TheVariants.{Less, Equal, Greater}
use Rattle.std.specs.Ordering.{is_eq, is_lt}
use Rattle.pg_keyed.specs.Orders.{turn}
use Rattle.pg_keyed.specs.Lists.{Each}
use Rattle.pg_value.specs.declared.value.Value.{Value}
use Rattle.pg_value.specs.declared.value.Dir.{Dir}
use Rattle.pg_value.specs.declared.row.Key.{Key}
use Rattle.pg_value.specs.Order.{key_cmp}
use Rattle.pg_value.specs.Orders.{keys}
use Rattle.pg_adj.specs.declared.ends.EdgeEnds.{EdgeEnds}
use Rattle.pg_adj.specs.declared.seen.Seen.{Seen}
use Rattle.pg_adj.specs.EndOrder.{seen_cmp}
use Rattle.pg_adj.specs.Entries.{entry, is_at}
use Rattle.pg_adj.specs.Gather.{plain, plains, Rises, AreSeen, IsRun}

-- neither is less than the other exactly where they are equal
neither : (a b : List Value) → (not (is_lt (key_cmp a b)) && not (is_lt (key_cmp b a))) ≡ is_eq (key_cmp a b)
neither a b = go (key_cmp a b) refl
  where
    go : (r : Ordering) → key_cmp a b ≡ r → (not (is_lt r) && not (is_lt (key_cmp b a))) ≡ is_eq r
    go Less e = refl
    go Equal e = rw (turn keys a b Equal e) refl
    go Greater e = rw (turn keys a b Greater e) refl

at_key : List Value → Bor Key
at_key v = record { ref_ptr = (0, 0); now = record { values = v } }

-- an edge at a vertex
sample : List Value → Seen
sample v = record { vertex = at_key v; edge = at_key v; other = at_key v }

abbrev lt : Seen → Seen → Bool
lt x y = is_lt (seen_cmp x y)

filtered : {X Y : Type 0} (f : X → Y) (p : Y → Bool) (q : X → Bool) → ((x : X) → q x ≡ p (f x)) → (xs : List X) → filter p (map f xs) ≡ map f (filter q xs)
filtered f p q h [] = refl
filtered f p q h (x ∷ xs) =
    let r = filtered f p q h xs in
    rw (h x) (elim (p (f x)) as (λ b. cond b (f x ∷ filter p (map f xs)) (filter p (map f xs)) ≡ map f (cond b (x ∷ filter q xs) (filter q xs))) [ true ↦ ap (λ ys. f x ∷ ys) r | false ↦ r ])

at_vertex : (v : List Value) (xs : List Seen) → filter (is_at v) (plains xs) ≡ plains (filter (ties lt (sample v)) xs)
unfolding sample at_key
at_vertex v xs = filtered plain (is_at v) (ties lt (sample v)) (λ s. neither v s.vertex.now.values) xs

rises : (xs : List Seen) → IsSorted seen_cmp xs → Rises (plains xs)
rises [] h = tt
rises (x ∷ []) h = (tt, tt)
rises (x ∷ y ∷ ys) h = (h 0 x (omega arith) (omega arith), rises (y ∷ ys) (λ k d a b. later k d (h (suc k) d (omega arith) (omega arith))))
  where
    later : (k : ℕ) (d : Seen) → is_lt (seen_cmp (get_or (x ∷ y ∷ ys) (suc k + 1) d) (get_or (x ∷ y ∷ ys) (suc k) d)) ≡ false → is_lt (seen_cmp (get_or (y ∷ ys) (k + 1) d) (get_or (y ∷ ys) k d)) ≡ false
    later k d e = let n : suc k + 1 ≡ suc (k + 1) = omega arith in subst (λ m. is_lt (seen_cmp (get_or (x ∷ y ∷ ys) m d) (get_or (y ∷ ys) k d)) ≡ false) n e

pub sorted : (dir : Dir) (ends : List EdgeEnds) (old new : List Seen) → length new ≡ length old → plains old ≡ map (entry dir) ends → IsSorted seen_cmp new → IsStable seen_cmp old new → AreSeen dir ends new
sorted dir ends old new n e s t = record {
  rises = rises new s;
  as_many = n ∙ sym (length-map old plain) ∙ ap length e ∙ length-map ends (entry dir);
  at = λ v. at_vertex v new ∙ ap plains (t (sample v)) ∙ sym (at_vertex v old) ∙ ap (filter (is_at v)) e;
}

-- RUNS

abbrev HaveVertex : List Value → List Seen → Type 0
HaveVertex v xs = Each (λ s. is_at v (plain s) ≡ true) xs

pub run_ends : (v : List Value) (xs : List Seen) (i : ℕ) (s : Seen) → i < length xs → s ≡ get_or xs i s → is_at v (plain s) ≡ false → HaveVertex v (take i xs) → IsRun v (plains xs) i
run_ends v [] i s l e n h = absurd (omega arith)
run_ends v (x ∷ xs) zero s l e n h = record { within = omega arith; same = tt; ends = sym (ap (λ y. is_at v (plain y)) e) ∙ n }
run_ends v (x ∷ xs) (suc i) s l e n h =
    let r = run_ends v xs i s (omega arith) e n h.1 in
    record { within = let w = r.within in omega arith; same = (h.0, r.same); ends = r.ends }

pub run_all : (v : List Value) (xs : List Seen) (i : ℕ) → length xs ≤ i → HaveVertex v (take i xs) → IsRun v (plains xs) (length xs)
run_all v [] i l h = record { within = omega arith; same = tt; ends = tt }
run_all v (x ∷ xs) zero l h = absurd (omega arith)
run_all v (x ∷ xs) (suc i) l h =
    let r = run_all v xs i (omega arith) h.1 in
    record { within = let w = r.within in omega arith; same = (h.0, r.same); ends = r.ends }
