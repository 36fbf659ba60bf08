-- What runs over a log stand for, and that they still do with one commit more.
use Rattle.std.proofs.Common.{ℕ, ◌≡◌, ◌+◌, ◌-◌, ◌≤◌, List, [], ◌∷◌, ◌++◌, Bool, true, false, cond, ◌==◌, refl, ap, sym, ◌∙◌, subst, arith, length, map, take, drop}
use Rattle.std.proofs.lemmas.List.{append_assoc, length-append, length-drop, length-map, drop-append-le, take-append-le, take-append-drop, drop_all, take_all}
use Rattle.pg_keyed.specs.Puts.{merge_ascends}
use Rattle.pg_value.specs.declared.shape.Shapes.{Shapes}
use Rattle.pg_value.specs.declared.write.Commit.{Commit}
use Rattle.pg_value.specs.Order.{place_cmp}
use Rattle.pg_value.specs.Orders.{places}
use Rattle.pg_value.specs.Tables.{Tables, IsInOrder}
use Rattle.pg_value.specs.TablesLaws.{put_in_order, puts_in_order, after_in_order, put_after_put, FitLog, after_fits}
use Rattle.pg_value.specs.Writes as writes
use Rattle.pg_value.specs.Writes.{named}
use Rattle.pg_value.specs.Log.{put, puts, after}
use Rattle.pg_core.specs.Powers.{Powers}
use Rattle.pg_core.specs.Powers as lengths
use Rattle.pg_core.specs.Versions.{BaseOf, RunOf, span, joined, carry, Follows, Chain, put_runs, IsRunOf, AreRunsOf, AreRunsOver, IsBaseOf, CanFold, most_runs}
use Rattle.pg_core.specs.Core.{most_over_base}
use Rattle.pg_core.proofs.Lengths.{carry_powers, total, few_powers}

puts_append : (tables : Tables) (cs ds : List Commit) → puts tables (cs ++ ds) ≡ puts (puts tables cs) ds
puts_append tables [] ds = refl
puts_append tables (c ∷ cs) ds = puts_append (put tables c.writes.list) cs ds

module _ (shapes : Shapes) where
  pub span_of : (n : ℕ) (cs : List Commit) (r : RunOf) → IsRunOf shapes n cs r → span r ≡ length cs
  span_of n cs r i = let u = i.until in let f = i.from in omega (arith, u, f)

  -- two runs that follow one another, as one
  joined_is : (n : ℕ) (cs ds : List Commit) (o r : RunOf) → IsRunOf shapes n cs o → IsRunOf shapes (n + length cs) ds r → IsRunOf shapes n (cs ++ ds) (joined o r)
  joined_is n cs ds o r i k = record {
    made = i.made;
    from = i.from;
    until = (let u = k.until in let l = length-append cs ds in omega (arith, u, l));
    in_order = merge_ascends named place_cmp places o.writes r.writes i.in_order k.in_order;
    says = λ t h.
        sym (put_after_put t o.writes r.writes h i.in_order k.in_order)
        ∙ (k.says (put t o.writes) (put_in_order t o.writes h)
        ∙ (ap (λ s. puts s ds) (i.says t h) ∙ sym (puts_append t cs ds)));
  }

  -- one run more
  abbrev Carried : ℕ → List Commit → List Commit → RunOf → List RunOf → Type 0
  Carried n before own r os = AreRunsOf shapes n (before ++ own) (carry r os) × (map span (carry r os) ≡ lengths.carry (length own) (map span os))

  pub carry_is : (n : ℕ) (before own : List Commit) (r : RunOf) (os : List RunOf) → IsRunOf shapes (n + length before) own r → AreRunsOf shapes n before os → Carried n before own r os
  carry_is n before own r [] i a = ((before, own, refl, i, a), ap (λ k. k ∷ []) (span_of (n + length before) own r i))
  carry_is n before own r (o ∷ os) i a = go (span o == span r) refl (carry_is n a.0 (a.1 ++ own) (joined o r) os (joined_is (n + length a.0) a.1 own o r a.3 (subst (λ k. IsRunOf shapes k own r) (ap (λ l. n + length l) a.2 ∙ (let l = length-append a.0 a.1 in omega (arith, l))) i)) a.4)
    where
      one : span r ≡ length own
      one = span_of (n + length before) own r i

      more : length (a.1 ++ own) ≡ span o + length own
      more = length-append a.1 own ∙ ap (λ k. k + length own) (sym (span_of (n + length a.0) a.1 o a.3))

      go : (b : Bool) → (span o == span r) ≡ b → Carried n a.0 (a.1 ++ own) (joined o r) os
          → AreRunsOf shapes n (before ++ own) (cond b (carry (joined o r) os) (r ∷ o ∷ os)) × (map span (cond b (carry (joined o r) os) (r ∷ o ∷ os)) ≡ cond (span o == length own) (lengths.carry (span o + length own) (map span os)) (length own ∷ span o ∷ map span os))
      go true e c = (
        subst (λ cs. AreRunsOf shapes n cs (carry (joined o r) os)) (sym (append_assoc a.0 a.1 own) ∙ ap (λ cs. cs ++ own) (sym a.2)) c.0,
        c.1 ∙ (ap (λ k. lengths.carry k (map span os)) more ∙ ap (λ b. cond b (lengths.carry (span o + length own) (map span os)) (length own ∷ span o ∷ map span os)) (sym (sym (ap (λ k. span o == k) one) ∙ e))),
      )
      go false e c = (
        (before, own, refl, i, a),
        ap (λ k. k ∷ span o ∷ map span os) one ∙ ap (λ b. cond b (lengths.carry (span o + length own) (map span os)) (length own ∷ span o ∷ map span os)) (sym (sym (ap (λ k. span o == k) one) ∙ e)),
      )

  pub follows_of : (n : ℕ) (before own : List Commit) (r : RunOf) (os : List RunOf) → IsRunOf shapes (n + length before) own r → AreRunsOf shapes n before os → Follows r os
  follows_of n before own r [] i a = tt
  follows_of n before own r (o ∷ os) i a = (
    a.3.made ∙ sym i.made,
    (let u = a.3.until in let f = i.from in let l = ap length a.2 ∙ length-append a.0 a.1 in omega (arith, u, f, l)),
    follows_of n a.0 a.1 o os a.3 a.4,
  )

  chain_of : (n : ℕ) (cs : List Commit) (runs : List RunOf) → AreRunsOf shapes n cs runs → Chain shapes n (n + length cs) runs
  chain_of n cs [] a = let l = ap length a in omega (arith, l)
  chain_of n cs (r ∷ os) a = (
    a.3.made,
    (let u = a.3.until in let l = ap length a.2 ∙ length-append a.0 a.1 in omega (arith, u, l)),
    subst (λ k. Chain shapes n k os) (sym a.3.from) (chain_of n a.0 os a.4),
  )

  put_runs_are : (n : ℕ) (cs : List Commit) (t : Tables) (runs : List RunOf) → AreRunsOf shapes n cs runs → IsInOrder t → put_runs t runs ≡ puts t cs
  put_runs_are n cs t [] a h = ap (λ l. puts t l) (sym a)
  put_runs_are n cs t (r ∷ os) a h =
      ap (λ s. put s r.writes) (put_runs_are n a.0 t os a.4 h)
      ∙ (a.3.says (puts t a.0) (puts_in_order t a.0 h)
      ∙ (sym (puts_append t a.0 a.1) ∙ ap (λ l. puts t l) (sym a.2)))

  -- the run of one commit
  pub one_run : (n at : ℕ) (c : Commit) (r : RunOf) → at ≡ n + 1 → writes.IsInOrder c.writes.list → r ≡ record { shapes = shapes; after = at - 1; last = at; writes = c.writes.list } → IsRunOf shapes n (c ∷ []) r
  one_run n at c r e o is = subst (λ x. IsRunOf shapes n (c ∷ []) x) (sym is) (record {
    made = refl;
    from = omega (arith, e);
    until = e;
    in_order = o;
    says = λ t h. refl;
  })

  -- the log grows by one commit
  pub over_more : (log : List Commit) (n : ℕ) (c : Commit) (r : RunOf) (runs : List RunOf) → n ≤ length log → AreRunsOver shapes log n runs → IsRunOf shapes (length log) (c ∷ []) r → AreRunsOver shapes (log ++ c ∷ []) n (carry r runs)
  over_more log n c r runs le a i =
      let l : n + length (drop n log) ≡ length log = (let d = length-drop n log in omega (arith, d, le)) in
      let k = carry_is n (drop n log) (c ∷ []) r runs (subst (λ m. IsRunOf shapes m (c ∷ []) r) (sym l) i) a.cover in
      record {
        cover = subst (λ cs. AreRunsOf shapes n cs (carry r runs)) (sym (drop-append-le n log (c ∷ []) le)) k.0;
        powers = subst (λ ns. Powers 0 ns) (sym k.1) (carry_powers 0 (map span runs) a.powers);
      }

  pub over_follows : (log : List Commit) (n : ℕ) (c : Commit) (r : RunOf) (runs : List RunOf) → n ≤ length log → AreRunsOver shapes log n runs → IsRunOf shapes (length log) (c ∷ []) r → Follows r runs
  over_follows log n c r runs le a i =
      let l : n + length (drop n log) ≡ length log = (let d = length-drop n log in omega (arith, d, le)) in
      follows_of n (drop n log) (c ∷ []) r runs (subst (λ m. IsRunOf shapes m (c ∷ []) r) (sym l) i) a.cover

  pub over_none : (log : List Commit) → AreRunsOver shapes log (length log) []
  over_none log = record { cover = drop_all (length log) log (omega arith); powers = tt }

  pub base_stays : (log : List Commit) (c : Commit) (n : ℕ) (b : BaseOf) → IsBaseOf shapes log n b → IsBaseOf shapes (log ++ c ∷ []) n b
  base_stays log c n b h = (
    (let l = length-append log (c ∷ []) in let k = h.0 in omega (arith, l, k)),
    h.1 ∙ ap (λ (cs : List Commit). record { shapes = shapes; version = n; tables = puts [] cs }) (sym (take-append-le n log (c ∷ []) h.0)),
  )

  all_spans : (n : ℕ) (cs : List Commit) (runs : List RunOf) → AreRunsOf shapes n cs runs → total (map span runs) ≡ length cs
  all_spans n cs [] a = ap length (sym a)
  all_spans n cs (r ∷ os) a =
      let one = span_of (n + length a.0) a.1 r a.3 in
      let more = all_spans n a.0 os a.4 in
      let l = ap length a.2 ∙ length-append a.0 a.1 in
      omega (arith, one, more, l)

  few_runs : (log : List Commit) (n : ℕ) (runs : List RunOf) → length log ≤ n + most_over_base → AreRunsOver shapes log n runs → length runs ≤ most_runs
  few_runs log n runs near a =
      let t : total (map span runs) ≡ length (drop n log) = all_spans n (drop n log) runs a.cover in
      let d = length-drop n log in
      let f : length (map span runs) ≤ 9 = few_powers 0 9 (map span runs) a.powers (omega (arith, t, d, near)) in
      let m = length-map runs span in
      omega (arith, f, m)

  pub can_fold : (log : List Commit) (n : ℕ) (b : BaseOf) (runs : List RunOf) → FitLog shapes log → length log ≤ n + most_over_base → IsBaseOf shapes log n b → AreRunsOver shapes log n runs → CanFold (length log) b runs
  can_fold log n b runs f near h a = subst (λ x. CanFold (length log) x runs) (sym h.1) (record {
    fit = after_fits shapes log n f;
    chain = subst (λ m. Chain shapes n m runs) (let d = length-drop n log in let k = h.0 in omega (arith, d, k)) (chain_of n (drop n log) runs a.cover);
    few = few_runs log n runs near a;
  })

  pub tables_are : (log : List Commit) (n : ℕ) (b : BaseOf) (runs : List RunOf) → IsBaseOf shapes log n b → AreRunsOver shapes log n runs → put_runs b.tables runs ≡ after log (length log)
  tables_are log n b runs h a =
      ap (λ (x : BaseOf). put_runs x.tables runs) h.1
      ∙ (put_runs_are n (drop n log) (after log n) runs a.cover (after_in_order log n)
      ∙ (sym (puts_append [] (take n log) (drop n log))
      ∙ ap (λ (cs : List Commit). puts [] cs) (take-append-drop n log ∙ sym (take_all (length log) log (omega arith)))))

  pub folded_is : (other : Shapes) (log : List Commit) (n at : ℕ) (b new : BaseOf) (runs : List RunOf) → at ≡ length log → IsBaseOf shapes log n b → AreRunsOver shapes log n runs → new ≡ record { shapes = other; version = at; tables = put_runs b.tables runs } → IsBaseOf other log (length log) new
  folded_is other log n at b new runs e h a is = (
    omega arith,
    is ∙ (ap (λ (m : ℕ). record { shapes = other; version = m; tables = put_runs b.tables runs }) e
        ∙ ap (λ (t : Tables). record { shapes = other; version = length log; tables = t }) (tables_are log n b runs h a)),
  )
