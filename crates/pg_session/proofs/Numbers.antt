-- The number of each outcome that the table allows stays within the log.
use Rattle.std.proofs.Common.{◌≡◌, ℕ, zero, suc, ◌≤◌, List, [], ◌∷◌, ◌++◌, length, take, inl, inr, refl, sym, subst, ap, ◌∙◌, arith, length-append, max, append_assoc, append-nil}
use Rattle.std.specs.declared.option.Option.TheVariants.{Some}
use Rattle.pg_value.specs.declared.write.Write.{Write}
use Rattle.pg_value.specs.declared.write.Commit.{Commit}
use Rattle.pg_script.specs.declared.script.Item.{Item}
use Rattle.pg_script.specs.declared.outcome.Outcome.{Outcome}
use Rattle.pg_script.specs.declared.outcome.Outcome.TheVariants.{Defined, Began, Changed, ChangedAlone, Committed, CommitEmpty, RolledBack, Rows, After, AtByte, AlreadyOpen, NotOpen, Duplicate, TooManyWrites, AtColumn, Conflict, LogFull}
use Rattle.pg_script.specs.Judged.{Judges, Session, Open, Refusal, IsDuplicate, IsTooMany, IsAtColumn, refused, Judged, View, WorksOn, Ends, logged, conflicted, filled, unread, already_open, begun, commit_not_open, rollback_not_open, rolled_back, commit_empty, committed, defines_in_session, defines_in_transaction, define_fault, defined, change_fault, change_stopped, changed, changed_none, changed_alone, query_fault, answered, waited}
use Rattle.pg_script.specs.Session.{number, printed, all_printed, raised, NumbersWithin, Logs, whole}

-- a number does not grow past a bound where what was seen is lower
number_any : (most seen seen' : ℕ) (o : Outcome) → number seen o ≤ most → seen' ≤ most → number seen' o ≤ most
number_any most seen seen' (Defined name at) h k = h
number_any most seen seen' (Began at) h k = h
number_any most seen seen' (Changed rows at) h k = h
number_any most seen seen' (ChangedAlone rows from at) h k = h
number_any most seen seen' (Committed from at) h k = h
number_any most seen seen' (CommitEmpty at) h k = h
number_any most seen seen' (RolledBack at) h k = h
number_any most seen seen' (Rows at base names rows) h k = h
number_any most seen seen' (After name n at) h k = h
number_any most seen seen' (AtByte kind byte) h k = k
number_any most seen seen' AlreadyOpen h k = k
number_any most seen seen' NotOpen h k = k
number_any most seen seen' (Duplicate row at) h k = h
number_any most seen seen' (TooManyWrites row at) h k = h
number_any most seen seen' (AtColumn kind row column at) h k = h
number_any most seen seen' (Conflict table key from at) h k = h
number_any most seen seen' (LogFull from room) h k = h

pub raised_within : (most : ℕ) (seen seen' : ℕ) (os : List Outcome) → NumbersWithin most seen os → seen' ≤ most → raised seen' os ≤ most
raised_within most seen seen' [] h k = k
raised_within most seen seen' (o ∷ os) h k =
    let n : number seen' o ≤ most = number_any most seen seen' o h.0 k in
    raised_within most (max seen (number seen o)) (max seen' (number seen' o)) os h.1 (omega (arith, n, k))

pub numbers_up : (most most' seen : ℕ) (os : List Outcome) → most ≤ most' → NumbersWithin most seen os → NumbersWithin most' seen os
numbers_up most most' seen [] le h = tt
numbers_up most most' seen (o ∷ os) le h = (omega (arith, h.0, le), numbers_up most most' (max seen (number seen o)) os le h.1)

pub numbers_take : (most seen i : ℕ) (os : List Outcome) → NumbersWithin most seen os → NumbersWithin most seen (take i os)
numbers_take most seen zero [] h = tt
numbers_take most seen (suc i) [] h = tt
numbers_take most seen zero (o ∷ os) h = tt
numbers_take most seen (suc i) (o ∷ os) h = (h.0, numbers_take most (max seen (number seen o)) i os h.1)

-- one more outcome, whose number is within where the session had seen more
pub numbers_more : (most seen seen' : ℕ) (os : List Outcome) (o : Outcome) → NumbersWithin most seen os → seen ≤ most → number seen' o ≤ most → NumbersWithin most seen (os ++ o ∷ [])
numbers_more most seen seen' [] o h s k = (number_any most seen' seen o k s, tt)
numbers_more most seen seen' (p ∷ os) o h s k = (h.0, numbers_more most (max seen (number seen p)) seen' os o h.1 (omega (arith, h.0, s)) k)

pub raised_more : (seen : ℕ) (os : List Outcome) (o : Outcome) → raised seen (os ++ o ∷ []) ≡ max (raised seen os) (number (raised seen os) o)
raised_more seen [] o = refl
raised_more seen (p ∷ os) o = raised_more (max seen (number seen p)) os o

pub printed_more : (os : List Outcome) (o : Outcome) → all_printed (os ++ o ∷ []) ≡ all_printed os ++ printed o
printed_more [] o = append-nil (printed o)
printed_more (p ∷ os) o = ap (λ l. printed p ++ l) (printed_more os o) ∙ sym (append_assoc (printed p) (all_printed os) (printed o))

logs_within : (log : List Commit) (c : ℕ) (w : Commit) → Logs log c w → c ≤ length log
logs_within log c w p = subst (λ l. c ≤ length l) (sym p.2) (omega (arith, p.3, length-append p.0 (w ∷ p.1)))

refused_number : (seen k : ℕ) (r : Refusal) → number seen (refused r k) ≡ k
refused_number seen k (IsDuplicate row) = refl
refused_number seen k (IsTooMany row) = refl
refused_number seen k (IsAtColumn kind row column) = refl

-- what is answered has a number within the log
module _ {K D C Q X Y : Type 0} (J : Judges K D C Q X Y) (limit : ℕ) (log : List Commit) (met : ℕ → ℕ → ℕ → Type 0) (n seen : ℕ) (s : Session K) (low : seen ≤ length log) (opened : (t : Open) → s.open_ ≡ Some t → t.from ≤ length log) where
  same : (o p : Outcome) → o ≡ p → number seen p ≤ length log → number seen o ≤ length log
  same o p e h = subst (λ q. number seen q ≤ length log) (sym e) h

  ends_number : (tables : List (List ℕ)) (k : ℕ) (ws : List Write) (accepted : ℕ → Outcome) (o : Outcome) → ((c : ℕ) → number seen (accepted c) ≡ c) → Ends (whole limit log met n) tables n seen k ws accepted o → number seen o ≤ length log
  ends_number tables k ws accepted o a (logged c commit l i e) = same o (accepted c) e (subst (λ x. x ≤ length log) (sym (a c)) (logs_within log c commit l))
  ends_number tables k ws accepted o a (conflicted w j l e) = same o _ e l.0
  ends_number tables k ws accepted o a (filled room l e) = same o _ e (omega (arith, l.1, l.3))

  works_number : (v : View) → WorksOn (whole limit log met n) seen s v → v.from ≤ length log
  works_number v (inl a) = opened _ a.under
  works_number v (inr a) = a.starts.1

  pub number_within : (item : Item) (o : Outcome) (s' : Session K) → Judged J (whole limit log met n) n seen s item o s' → number seen o ≤ length log
  number_within item o s' (unread k b r e f) = same o _ e low
  number_within item o s' (already_open t r p e f) = same o _ e low
  number_within item o s' (begun k r p q e f) = same o _ e q.1
  number_within item o s' (commit_not_open r p e f) = same o _ e low
  number_within item o s' (rollback_not_open r p e f) = same o _ e low
  number_within item o s' (rolled_back t r p e f) = same o _ e (opened t p)
  number_within item o s' (commit_empty k r p e f) = same o _ e (opened _ p)
  number_within item o s' (committed t r p q e f) = ends_number (J.tables s.catalog) t.from t.writes _ o (λ c. refl) e
  number_within item o s' (defines_in_session d b r p e f) = same o _ e low
  number_within item o s' (defines_in_transaction d b t r p q e f) = same o _ e low
  number_within item o s' (define_fault d b k at r p q u e f) = same o _ e low
  number_within item o s' (defined d b name at c r p q u v e f) = same o _ e (subst (λ x. x ≤ length log) (sym v) low)
  number_within item o s' (change_fault c k at r p e f) = same o _ e low
  number_within item o s' (change_stopped c x v row r p u a e f) = same o _ e (subst (λ k. k ≤ length log) (sym (refused_number seen v.from row)) (works_number v u))
  number_within item o s' (changed c x v rows ws r p u a e f) = same o _ e (opened _ u.under)
  number_within item o s' (changed_none c x v ws r p u a e f) = same o _ e u.starts.1
  number_within item o s' (changed_alone c x v rows ws r p u a z e f) = ends_number (J.tables s.catalog) v.from ws _ o (λ c. refl) e
  number_within item o s' (query_fault q k at r p e f) = same o _ e low
  number_within item o s' (answered q y v base rows r p u a b e f) = same o _ e (works_number v u)
  number_within item o s' (waited x m i at r p e f) = same o _ e p.1
