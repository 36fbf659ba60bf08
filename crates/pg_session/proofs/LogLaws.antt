-- A conflict over a log is the conflict over its prefix up to the commit that it names, and a lawful log stays lawful under one more commit.
use Rattle.std.proofs.Common.{◌≡◌, ℕ, zero, suc, ◌+◌, ◌-◌, ◌<◌, ◌≤◌, true, false, cond, List, [], ◌∷◌, ◌++◌, length, take, drop, ◌⊎◌, inl, inr, refl, sym, subst, ap, ◌∙◌, arith, append_assoc, append-nil}
use Rattle.std.proofs.lemmas.List.{drop-take}
use Rattle.std.proofs.lemmas.Option.{none-some, same_Some}
use Rattle.std.specs.declared.option.Option.{Option}
use Rattle.std.specs.declared.option.Option.TheVariants.{Some, None}
use Rattle.pg_value.specs.declared.write.Write.{Write}
use Rattle.pg_value.specs.declared.write.Commit.{Commit}
use Rattle.pg_value.specs.Log.{names, held, first_writer, or_later, conflict, IsLawfulFrom}

writer_bounds : (n : ℕ) (cs : List Commit) (w : Write) (j : ℕ) → first_writer n cs w ≡ Some j → (n ≤ j) × (j < n + length cs)
writer_bounds n [] w j h = absurd (none-some j h)
writer_bounds n (c ∷ cs) w j h = elim (names c.writes.list w) as (λ b. cond b (Some n) (first_writer (n + 1) cs w) ≡ Some j → (n ≤ j) × (j < n + length (c ∷ cs))) [
  | true ↦ λ e. let s = same_Some n j e in (omega (arith, s), omega (arith, s))
  | false ↦ λ e. let b = writer_bounds (n + 1) cs w j e in (omega (arith, b.0), omega (arith, b.1))
] h

writer_take : (n : ℕ) (cs : List Commit) (w : Write) (j m : ℕ) → first_writer n cs w ≡ Some j → j < n + m → first_writer n (take m cs) w ≡ Some j
writer_take n [] w j m h le = absurd (none-some j h)
writer_take n (c ∷ cs) w j zero h le = let b = writer_bounds n (c ∷ cs) w j h in absurd (omega (arith, b.0, le))
writer_take n (c ∷ cs) w j (suc m) h le = elim (names c.writes.list w) as (λ b. cond b (Some n) (first_writer (n + 1) cs w) ≡ Some j → cond b (Some n) (first_writer (n + 1) (take m cs) w) ≡ Some j) [
  | true ↦ λ e. e
  | false ↦ λ e. writer_take (n + 1) cs w j m e (omega (arith, le))
] h

writer_none : (n : ℕ) (cs : List Commit) (w : Write) (m : ℕ) → first_writer n cs w ≡ None → first_writer n (take m cs) w ≡ None
writer_none n [] w zero h = refl
writer_none n [] w (suc m) h = refl
writer_none n (c ∷ cs) w zero h = refl
writer_none n (c ∷ cs) w (suc m) h = elim (names c.writes.list w) as (λ b. cond b (Some n) (first_writer (n + 1) cs w) ≡ None → cond b (Some n) (first_writer (n + 1) (take m cs) w) ≡ None) [
  | true ↦ λ e. e
  | false ↦ λ e. writer_none (n + 1) cs w m e
] h

later_cases : (o : Option ℕ) (w : Write) (later : Option (Write × ℕ)) (x : Write) (j : ℕ) → or_later o w later ≡ Some (x, j) → ((o ≡ Some j) × (w ≡ x)) ⊎ ((o ≡ None) × (later ≡ Some (x, j)))
later_cases (Some i) w later x j h = let p = same_Some (w, i) (x, j) h in inl (ap (λ q. Some q.1) p, ap (λ q. q.0) p)
later_cases None w later x j h = inr (refl, h)

pub conflict_bounds : (log : List Commit) (k : ℕ) (ws : List Write) (x : Write) (j : ℕ) → conflict log k ws ≡ Some (x, j) → (k < j) × (j < k + 1 + length (drop k log))
conflict_bounds log k [] x j h = absurd (none-some _ h)
conflict_bounds log k (w ∷ ws) x j h = elim (later_cases (first_writer (k + 1) (drop k log) w) w (conflict log k ws) x j h) [
  | inl p ↦ (let b = writer_bounds (k + 1) (drop k log) w j p.0 in (omega (arith, b.0), b.1))
  | inr p ↦ conflict_bounds log k ws x j p.1
]

-- j is m past k
conflict_front : (log : List Commit) (k m : ℕ) (ws : List Write) (x : Write) → conflict log k ws ≡ Some (x, k + m) → conflict (take (k + m) log) k ws ≡ Some (x, k + m)
conflict_front log k m [] x h = absurd (none-some _ h)
conflict_front log k m (w ∷ ws) x h = elim (later_cases (first_writer (k + 1) (drop k log) w) w (conflict log k ws) x (k + m) h) [
  | inl p ↦ (let f : first_writer (k + 1) (take m (drop k log)) w ≡ Some (k + m) = writer_take (k + 1) (drop k log) w (k + m) m p.0 (omega arith) in
      let g : first_writer (k + 1) (drop k (take (k + m) log)) w ≡ Some (k + m) = ap (λ l. first_writer (k + 1) l w) (drop-take k m log) ∙ f in
      ap (λ o. or_later o w (conflict (take (k + m) log) k ws)) g ∙ ap (λ y. Some (y, k + m)) p.1)
  | inr p ↦ (let f : first_writer (k + 1) (take m (drop k log)) w ≡ None = writer_none (k + 1) (drop k log) w m p.0 in
      let g : first_writer (k + 1) (drop k (take (k + m) log)) w ≡ None = ap (λ l. first_writer (k + 1) l w) (drop-take k m log) ∙ f in
      ap (λ o. or_later o w (conflict (take (k + m) log) k ws)) g ∙ conflict_front log k m ws x p.1)
]

pub conflict_take : (log : List Commit) (k : ℕ) (ws : List Write) (x : Write) (j : ℕ) → conflict log k ws ≡ Some (x, j) → conflict (take j log) k ws ≡ Some (x, j)
conflict_take log k ws x j h =
    let b = conflict_bounds log k ws x j h in
    let e : k + (j - k) ≡ j = omega (arith, b.0) in
    subst (λ i. conflict (take i log) k ws ≡ Some (x, i)) e (conflict_front log k (j - k) ws x (subst (λ i. conflict log k ws ≡ Some (x, i)) (sym e) h))

pub held_append : (xs ys : List Commit) → held (xs ++ ys) ≡ held xs + held ys
held_append [] ys = omega arith
held_append (x ∷ xs) ys = ap (λ n. length x.writes.list + n) (held_append xs ys) ∙ omega arith

pub lawful_more : (before cs : List Commit) (c : Commit) → IsLawfulFrom before cs → c.from ≤ length (before ++ cs) → (c.writes.list ≡ [] → ⊥) → conflict (before ++ cs) c.from c.writes.list ≡ None → IsLawfulFrom before (cs ++ c ∷ [])
lawful_more before [] c h le some free = (subst (λ l. c.from ≤ length l) (append-nil before) le, some, subst (λ l. conflict l c.from c.writes.list ≡ None) (append-nil before) free, tt)
lawful_more before (x ∷ cs) c h le some free =
    let e : before ++ x ∷ cs ≡ (before ++ x ∷ []) ++ cs = sym (append_assoc before (x ∷ []) cs) in
    (h.0, h.1, h.2, lawful_more (before ++ x ∷ []) cs c h.3 (subst (λ l. c.from ≤ length l) e le) some (subst (λ l. conflict l c.from c.writes.list ≡ None) e free))
