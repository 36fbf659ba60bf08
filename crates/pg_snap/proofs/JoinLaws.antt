-- Runs that follow one another, as one.
use Rattle.std.proofs.Common.{ℕ, ◌≡◌, ◌≤◌, ◌<◌, length, get_or, arith, List, [], ◌∷◌, ◌++◌, refl, ap, sym, subst, ◌∙◌}
use Rattle.std.specs.declared.option.Option.TheVariants.{None}
use Rattle.std.specs.List.{cons_option}
use Rattle.pg_value.specs.TablesLaws.{put_in_order, put_after_put}
use Rattle.pg_value.specs.Writes as writes
use Rattle.pg_value.specs.Log.{put}
use Rattle.pg_run.specs.Runs.{RunOf}
use Rattle.pg_snap.specs.Bases.{BaseOf}
use Rattle.pg_snap.specs.Snapshots.{SnapOf, IsSnapshot, Cover, laid, tables_of}
use Rattle.pg_snap.proofs.StepLaws.{behind, behind_is}
use Rattle.pg_snap.specs.Joins.{Follow, last_of, IsOne}

pub two_are_one : (older next run : RunOf) → writes.IsInOrder older.writes → writes.IsInOrder next.writes
    → run ≡ record { shapes = older.shapes; after = older.after; last = next.last; writes = writes.merge older.writes next.writes } → IsOne older (next ∷ []) run
two_are_one older next run a b e = subst (IsOne older (next ∷ [])) (sym e) (record {
  shapes = refl;
  after = refl;
  last = refl;
  same = λ tables h. sym (put_after_put tables older.writes next.writes h a b);
})

pub more_are_one : (older next newest run : RunOf) (more : List RunOf) → writes.IsInOrder older.writes → writes.IsInOrder newest.writes → IsOne next more newest
    → run ≡ record { shapes = older.shapes; after = older.after; last = newest.last; writes = writes.merge older.writes newest.writes } → IsOne older (next ∷ more) run
more_are_one older next newest run more a b n e = subst (IsOne older (next ∷ more)) (sym e) (record {
  shapes = refl;
  after = refl;
  last = n.last;
  same = λ tables h. sym (put_after_put tables older.writes newest.writes h a b) ∙ n.same (put tables older.writes) (put_in_order tables older.writes h);
})

pub follow_of : (from to : ℕ) (run : RunOf) (more : List RunOf) → Cover from (run ∷ more) to → Follow run more
follow_of from to run [] c = tt
follow_of from to run (next ∷ more) c = (sym c.1.0, follow_of run.last to next more c.1)

pub last_is : (from to : ℕ) (run : RunOf) (more : List RunOf) → Cover from (run ∷ more) to → last_of run more ≡ to
last_is from to run [] c = c.1
last_is from to run (next ∷ more) c = last_is run.last to next more c.1

laid_nothing : (runs : List RunOf) → runs ++ [] ≡ runs
laid_nothing [] = refl
laid_nothing (run ∷ runs) = ap (λ rs. run ∷ rs) (laid_nothing runs)

-- without own writes the parts are the runs
pub own_none : (s : SnapOf) → s.own ≡ None → tables_of s ≡ laid s.base.tables s.runs
own_none s h = ap (λ o. laid s.base.tables (s.runs ++ cons_option o [])) h ∙ ap (laid s.base.tables) (laid_nothing s.runs)

-- the first and the rest
pub empty_of : {X : Type 0} (xs : List X) → length xs < 1 → [] ≡ xs
empty_of [] l = refl
empty_of (x ∷ xs) l = absurd (omega (arith, l))

pub whole : {X : Type 0} (xs : List X) (x : X) → 1 ≤ length xs → x ≡ get_or xs 0 x → xs ≡ x ∷ behind xs
whole [] x l e = absurd (omega (arith, l))
whole (y ∷ xs) x l e = λ i. sym e i ∷ sym (behind_is y xs) i

-- the oldest two, and the rest
pub two_first : (runs : List RunOf) (oldest next : RunOf) → 1 ≤ length runs → oldest ≡ get_or runs 0 oldest → 1 ≤ length (behind runs) → next ≡ get_or (behind runs) 0 next → runs ≡ oldest ∷ next ∷ behind (behind runs)
two_first runs oldest next l e m f = whole runs oldest l e ∙ ap (λ rs. oldest ∷ rs) (whole (behind runs) next m f)

pub follow_two : (s : SnapOf) (oldest : RunOf) (more : List RunOf) → IsSnapshot s → s.runs ≡ oldest ∷ more → Follow oldest more
follow_two s oldest more h e = follow_of s.base.no s.at oldest more (subst (λ runs. Cover s.base.no runs s.at) e h.cover)

pub folded_is : (s : SnapOf) (oldest run : RunOf) (more : List RunOf) (base : BaseOf) → IsSnapshot s → s.own ≡ None → s.runs ≡ oldest ∷ more → IsOne oldest more run
    → base ≡ record { shapes = s.base.shapes; no = run.last; tables = put s.base.tables run.writes } → base ≡ record { shapes = s.base.shapes; no = s.at; tables = tables_of s }
folded_is s oldest run more base h o e one b =
    b ∙ (λ i. record {
      shapes = s.base.shapes;
      no = (one.last ∙ last_is s.base.no s.at oldest more (subst (λ runs. Cover s.base.no runs s.at) e h.cover)) i;
      tables = (one.same s.base.tables h.fit.in_order ∙ ap (laid s.base.tables) (sym e) ∙ sym (own_none s o)) i;
    })
