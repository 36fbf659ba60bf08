-- A snapshot is a version of the log.
use Rattle.std.proofs.Common.{ℕ, zero, suc, ◌≡◌, ◌≤◌, ◌+◌, ◌-◌, List, [], ◌∷◌, ◌++◌, length, take, drop, refl, ap, sym, ◌∙◌, arith}
use Rattle.std.specs.Prelude.{slice_get}
use Rattle.std.proofs.lemmas.Option.{none-some, same_Some}
use Rattle.std.proofs.lemmas.List.{drop-drop}
use Rattle.std.specs.declared.option.Option.{Option}
use Rattle.std.specs.declared.option.Option.TheVariants.{Some, None}
use Rattle.std.specs.List.{cons_option}
use Rattle.pg_keyed.specs.Lists.{Each}
use Rattle.pg_value.specs.declared.write.Commit.{Commit}
use Rattle.pg_value.specs.Tables.{Tables}
use Rattle.pg_value.specs.TablesLaws.{put_in_order, after_in_order, put_after_put}
use Rattle.pg_value.specs.Writes as writes
use Rattle.pg_value.specs.Log.{put, puts, after}
use Rattle.pg_run.specs.Runs.{RunOf}
use Rattle.pg_snap.specs.Snapshots.{SnapOf, Cover, laid, tables_of}
use Rattle.pg_snap.specs.Laws.{IsOfLog, IsVersion, SnapshotsAreVersions}

puts_append : (tables : Tables) (a b : List Commit) → puts tables (a ++ b) ≡ puts (puts tables a) b
puts_append tables [] b = refl
puts_append tables (c ∷ a) b = puts_append (put tables c.writes.list) a b

abbrev no_commits : List Commit
no_commits = []

-- the first commits of what is left, and those behind them
nothing_taken : (n : ℕ) → no_commits ≡ take n no_commits
nothing_taken zero = refl
nothing_taken (suc n) = refl

taken : (a b : ℕ) (xs : List Commit) → ((ys : List Commit) → take (a + b) ys ≡ take a ys ++ take b (drop a ys)) → take (suc (a + b)) xs ≡ take (suc a) xs ++ take b (drop (suc a) xs)
taken a b [] h = nothing_taken b
taken a b (x ∷ xs) h = ap (λ ys. x ∷ ys) (h xs)

take_more : (a b : ℕ) (xs : List Commit) → take (a + b) xs ≡ take a xs ++ take b (drop a xs)
take_more zero b xs = ap (λ n. take n xs) (let e : 0 + b ≡ b = omega arith in e)
take_more (suc a) b xs = ap (λ n. take n xs) (let e : suc a + b ≡ suc (a + b) = omega arith in e) ∙ taken a b xs (λ ys. take_more a b ys)

-- the commits of versions that follow one another
follow : (log : List Commit) (a b c : ℕ) → a ≤ b → b ≤ c → take (c - a) (drop a log) ≡ take (b - a) (drop a log) ++ take (c - b) (drop b log)
follow log a b c l m =
    ap (λ n. take n (drop a log)) (let e : c - a ≡ b - a + (c - b) = omega (arith, l, m) in e)
    ∙ take_more (b - a) (c - b) (drop a log)
    ∙ ap (λ ys. take (b - a) (drop a log) ++ take (c - b) ys) (drop-drop (b - a) a log ∙ ap (λ n. drop n log) (let e : a + (b - a) ≡ b = omega (arith, l) in e))

first_of : (log : List Commit) (n : ℕ) (c : Commit) → slice_get log n ≡ Some c → take 1 (drop n log) ≡ c ∷ []
first_of [] n c h = absurd (none-some c h)
first_of (x ∷ log) zero c h = ap (λ y. y ∷ []) (same_Some x c h)
first_of (x ∷ log) (suc n) c h = first_of log n c h

within_of : (log : List Commit) (n : ℕ) (c : Commit) → slice_get log n ≡ Some c → n + 1 ≤ length log
within_of [] n c h = absurd (none-some c h)
within_of (x ∷ log) zero c h = omega arith
within_of (x ∷ log) (suc n) c h = let r = within_of log n c h in omega (arith, r)

one : (log : List Commit) (n : ℕ) (c : Commit) (run : RunOf) → slice_get log n ≡ Some c → run.after ≡ n → run.last ≡ n + 1 → run.writes ≡ c.writes.list → IsOfLog log run
one log n c run h a l w = record {
  forward = omega (arith, a, l);
  within = (let m = within_of log n c h in omega (arith, m, l));
  same = λ tables o. ap (put tables) w ∙ sym (ap (puts tables) ((λ i. take (l i - a i) (drop (a i) log)) ∙ ap (λ k. take k (drop n log)) (let e : n + 1 - n ≡ 1 = omega arith in e) ∙ first_of log n c h));
}

merged : (log : List Commit) (older newer run : RunOf) → IsOfLog log older → IsOfLog log newer → writes.IsInOrder older.writes → writes.IsInOrder newer.writes
    → older.last ≡ newer.after → run.after ≡ older.after → run.last ≡ newer.last → run.writes ≡ writes.merge older.writes newer.writes → IsOfLog log run
merged log older newer run h k oa ob f a l w =
    let hf = h.forward in
    let kf = k.forward in
    record {
      forward = omega (arith, hf, kf, f, a, l);
      within = (let m = k.within in omega (arith, m, l));
      same = λ tables o.
          let first = h.same tables o in
          ap (put tables) w ∙ sym (put_after_put tables older.writes newer.writes o oa ob)
          ∙ k.same (put tables older.writes) (put_in_order tables older.writes o)
          ∙ (λ i. puts (first i) (take (newer.last - newer.after) (drop newer.after log)))
          ∙ sym (puts_append tables (take (older.last - older.after) (drop older.after log)) (take (newer.last - newer.after) (drop newer.after log)))
          ∙ (λ i. puts tables (take (f i - older.after) (drop older.after log) ++ take (newer.last - newer.after) (drop newer.after log)))
          ∙ ap (puts tables) (sym (follow log older.after newer.after newer.last (omega (arith, hf, f)) kf))
          ∙ sym (λ i. puts tables (take (l i - a i) (drop (a i) log)));
    }

-- runs that follow one another, on a version
runs_are : (log : List Commit) (n : ℕ) (runs : List RunOf) (at : ℕ) → n ≤ length log → Each (IsOfLog log) runs → Cover n runs at → laid (after log n) runs ≡ after log at
runs_are log n [] at w h c = ap (after log) c
runs_are log n (run ∷ runs) at w h c =
    let f = h.0.forward in
    let e = c.0 in
    ap (λ ts. laid ts runs) (h.0.same (after log n) (after_in_order log n)
    ∙ (λ i. puts (after log n) (take (run.last - e i) (drop (e i) log)))
    ∙ sym (puts_append [] (take n log) (take (run.last - n) (drop n log)))
    ∙ ap (puts []) (sym (take_more n (run.last - n) log) ∙ ap (λ m. take m log) (let q : n + (run.last - n) ≡ run.last = omega (arith, f, e) in q)))
    ∙ runs_are log run.last runs at h.0.within h.1 c.1

laid_append : (tables : Tables) (xs ys : List RunOf) → laid tables (xs ++ ys) ≡ laid (laid tables xs) ys
laid_append tables [] ys = refl
laid_append tables (x ∷ xs) ys = laid_append (put tables x.writes) xs ys

under_own : (log : List Commit) (s : SnapOf) (own : Option RunOf) → IsVersion log s → s.own ≡ own → tables_of s ≡ laid (after log s.at) (cons_option own [])
under_own log s own h e =
    laid_append s.base.tables s.runs (cons_option s.own [])
    ∙ (λ i. laid (laid (h.base i) s.runs) (cons_option (e i) []))
    ∙ ap (λ ts. laid ts (cons_option own [])) (runs_are log s.base.no s.runs s.at h.within h.runs h.cover)

pub snapshots_are_versions : SnapshotsAreVersions
snapshots_are_versions = record {
  one = one;
  merged = merged;
  version = λ log s h e. under_own log s None h e;
  own = λ log s run h e. under_own log s (Some run) h e;
}
