-- What a call leaves, after the peak has been seen to, and what is answered to a commit.
use Rattle.std.proofs.Common.{ℕ, zero, suc, ◌≡◌, List, [], ◌∷◌, Bool, true, false, length, refl, ap, ◌∙◌, subst, sym, arith}
use Rattle.std.proofs.lemmas.List.{length-append}
use Rattle.std.proofs.lemmas.Option.{same_Some, none-some}
use Rattle.std.specs.Prelude.{is_some, slice_get, slice_index_or, Ok}
use Rattle.std.specs.declared.option.Option.{Option}
use Rattle.std.specs.declared.option.Option.TheVariants.{Some, None}
use Rattle.pg_value.specs.declared.row.Key.{Key}
use Rattle.pg_value.specs.declared.shape.TableNo.{TableNo}
use Rattle.pg_value.specs.declared.write.Write.{Write}
use Rattle.pg_value.specs.declared.write.Commit.{Commit}
use Rattle.pg_value.specs.Log.{conflict}
use Rattle.pg_core.specs.declared.event.Reply.TheVariants as replies
use Rattle.pg_core.specs.declared.fault.CommitFault.{CommitFault}
use Rattle.pg_core.specs.declared.fault.CommitFault.TheVariants as faults
use Rattle.pg_core.specs.declared.parts.Begin.TheVariants as answers
use Rattle.pg_core.specs.Core.{Core, IsTaken, conflicts, takes, seen_peak, after_fold, after_commit}
use Rattle.pg_core.specs.Versions.{BaseOf, RunOf, Parts, Versioned, StandsFor}
use Rattle.pg_core.specs.State.{Standing, standing_of, becomes, Moves, Begins, Commits, Refuses, IsConflict, refusal}

pub seen : (old mid new : Standing) (f : Core → Core) → mid ≡ becomes old (f old.core) → new ≡ becomes mid (seen_peak mid.core) → new ≡ becomes old (seen_peak (f old.core))
seen old mid new f e h = h ∙ ap (λ (s : Standing). becomes s (seen_peak s.core)) e

module _ {B R : Type 0} where
  pub moved : (v w : Versioned B R) (counts : List ℕ) (over : List Bool) (stopped : Bool) (peak : ℕ × ℕ) (old new : Standing) (f : Core → Core) → standing_of v counts over stopped peak ≡ old → Moves v w f
      → new ≡ becomes (standing_of w counts over stopped peak) (seen_peak (standing_of w counts over stopped peak).core) → new ≡ becomes old (seen_peak (f old.core))
  moved v w counts over stopped peak old new f e m h = subst (λ (o : Standing). new ≡ becomes o (seen_peak (f o.core))) e
      (seen (standing_of v counts over stopped peak) (standing_of w counts over stopped peak) new f (m counts over stopped peak) h)

  -- a build has begun
  pub begins : (base : B → BaseOf) (run : R → RunOf) (v : Versioned B R) (counts : List ℕ) (over : List Bool) (stopped : Bool) (peak : ℕ × ℕ) (old new : Standing) (seat at b : ℕ) (parts : Parts B R) → standing_of v counts over stopped peak ≡ old
      → stopped ≡ false → at ≡ length v.log → b ≡ v.held.current → (at ≡ b → ⊥) → v.building ≡ None → StandsFor base run v.shapes v.log (length v.log) parts → new ≡ becomes old (after_fold old.core seat)
      → Begins base run old new seat (answers.Job (record { build = record { seat = seat; base = b; at = at }; parts = parts }))
  begins base run v counts over stopped peak old new seat at b parts e es ea eb apart closed s h = subst
      (λ (o : Standing). new ≡ becomes o (after_fold o.core seat) → Begins base run o new seat (answers.Job (record { build = record { seat = seat; base = b; at = at }; parts = parts }))) e
      (λ k. (es, (λ q. apart (ea ∙ (q ∙ sym eb))), closed, ap (λ (m : ℕ). record { seat = seat; base = m; at = at }) eb ∙ ap (λ (m : ℕ). record { seat = seat; base = v.held.current; at = m }) ea, s, k)) h

pub none_of : {X : Type 0} → (o : Option X) → is_some o ≡ false → o ≡ None
none_of None e = refl
none_of (Some x) e = absurd (true_false e)
  where
    true_false : true ≡ false → ⊥
    true_false h = cc

-- COMMITS

pub got : (ws : List Write) (i : ℕ) (d w : Write) → slice_get ws i ≡ Some w → w ≡ slice_index_or ws i d
got [] i d w e = absurd (none-some w e)
got (x ∷ ws) zero d w e = sym (same_Some x w e)
got (x ∷ ws) (suc i) d w e = got ws i d w e

pub conflict_refuses : (old : Standing) (c : Commit) (w x : Write) (at : ℕ) (f : CommitFault) → IsConflict x at f → conflict old.core.log c.from c.writes.list ≡ Some (w, at) → w ≡ x → Refuses old old c (refusal f)
conflict_refuses old c w x at (faults.Conflict table key k) i h e = (
  refl,
  conflicts x at (h ∙ ap (λ (y : Write). Some (y, at)) e)
      (ap (λ (t : TableNo). replies.Conflict t key k) i.0 ∙ (ap (λ (q : Key). replies.Conflict x.table q k) i.1 ∙ ap (λ (n : ℕ). replies.Conflict x.table x.key n) i.2)) refl,
)
conflict_refuses old c w x at (faults.LogFull held) i h e = absurd i
conflict_refuses old c w x at faults.Memory i h e = refl

pub commit_answers : (old new : Standing) (c : Commit) (n : ℕ) → IsTaken old.limit old.core.log c → new ≡ becomes old (after_commit old.core c) → n ≡ length new.core.log → Commits old new c (Ok n)
commit_answers old new c n t e en = (
  e ∙ sym (ap (λ (k : Core). becomes old k) (ap (λ (s : Standing). s.core) e)),
  takes t (ap (λ (m : ℕ). replies.Committed m) (en ∙ (ap (λ (s : Standing). length s.core.log) e ∙ (let l = length-append old.core.log (c ∷ []) in omega (arith, l))))) (ap (λ (s : Standing). s.core) e),
)
