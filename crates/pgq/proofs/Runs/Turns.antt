-- A statement that is answered is a turn of a stepped run, and a section's statements are as many turns.
use Rattle.std.proofs.Common.{◌≡◌, ℕ, suc, ◌+◌, ◌<◌, ◌≤◌, ◌==◌, Bool, true, false, cond, List, [], ◌∷◌, ◌++◌, length, get_or, inr, refl, sym, subst, ap, ◌∙◌, arith, length-append}
use Rattle.std.proofs.lemmas.List.{set-set, set-get_or, get_or-set_same, length-set}
use Rattle.std.proofs.lemmas.Option.{slice_get_within}
use Rattle.std.specs.Prelude.{slice_get, slice_set, replicate}
use Rattle.std.specs.declared.option.Option.TheVariants.{Some, None}
use Rattle.pg_rules.specs.Catalog.{Defined}
use Rattle.pg_rules.specs.Catalog.Shapes.{shapes}
use Rattle.pg_script.specs.declared.script.Item.{Item}
use Rattle.pg_script.specs.declared.script.Script.{Script}
use Rattle.pg_script.specs.declared.outcome.Outcome.{Outcome}
use Rattle.pg_script.specs.Judged.{Judged}
use Rattle.pg_script.specs.Legal.{items_of}
use Rattle.pgq.specs.declared.engine.Engine.{Engine}
use Rattle.pg_session.specs.Stepped.{World, Run, no_run, outs_of, seen_at, now, events_of, marking, AfterItem, Did, Turns}
use Rattle.pg_session.specs.TurnsJoin.{turns_more}
use Rattle.pg_language.specs.Language.{language}
use Rattle.pgq.specs.Engine.{most_log_writes, core_of, counts_then, CanCount, resting, Answers}
use Rattle.pgq.specs.Sections.{world, runs_then, HasAnswered, IsWhole, closed, HaveAnswered}

-- COUNTS
counts_none : (n : ℕ) (counts : List ℕ) → counts_then n 0 counts ≡ counts
counts_none n counts = same (n == 0) where
  same : (b : Bool) → cond b counts (slice_set counts n (get_or counts n 0 + 0)) ≡ counts
  same true = refl
  same false = ap (slice_set counts n) (omega arith) ∙ set-get_or counts n 0

counts_more : (n k : ℕ) (counts : List ℕ) → n < length counts → counts_then n 1 (counts_then n k counts) ≡ counts_then n (k + 1) counts
counts_more n k counts lt = same (n == 0) where
  same : (b : Bool) → cond b (cond b counts (slice_set counts n (get_or counts n 0 + k))) (slice_set (cond b counts (slice_set counts n (get_or counts n 0 + k))) n (get_or (cond b counts (slice_set counts n (get_or counts n 0 + k))) n 0 + 1))
      ≡ cond b counts (slice_set counts n (get_or counts n 0 + (k + 1)))
  same true = refl
  same false =
      let e : get_or (slice_set counts n (get_or counts n 0 + k)) n 0 ≡ get_or counts n 0 + k = get_or-set_same counts n (get_or counts n 0 + k) 0 lt in
      set-set counts n (get_or counts n 0 + k) (get_or (slice_set counts n (get_or counts n 0 + k)) n 0 + 1) ∙ ap (slice_set counts n) (omega (arith, e))

pub counts_length : (n k : ℕ) (counts : List ℕ) → length (counts_then n k counts) ≡ length counts
counts_length n k counts = same (n == 0) where
  same : (b : Bool) → length (cond b counts (slice_set counts n (get_or counts n 0 + k))) ≡ length counts
  same true = refl
  same false = length-set counts n (get_or counts n 0 + k)

-- of the section no more are counted
counts_at : (n k : ℕ) (counts : List ℕ) → n < length counts → get_or (counts_then n k counts) n 0 ≤ get_or counts n 0 + k
counts_at n k counts lt = same (n == 0) where
  same : (b : Bool) → get_or (cond b counts (slice_set counts n (get_or counts n 0 + k))) n 0 ≤ get_or counts n 0 + k
  same true = omega arith
  same false = let e : get_or (slice_set counts n (get_or counts n 0 + k)) n 0 ≡ get_or counts n 0 + k = get_or-set_same counts n (get_or counts n 0 + k) 0 lt in omega (arith, e)

-- ONE STATEMENT IS A TURN

-- in any world in which it is the next item of its section
pub did_answer : (script : Script) (n : ℕ) (e : Engine) (item : Item) (o : Outcome) (e' : Engine) → Answers script n e item o e' → (sections : ℕ) (counts : List ℕ) (runs : List Run) (outs : List Outcome)
    → get_or runs n no_run ≡ closed outs → CanCount sections counts n 1 → 1 ≤ e.peak.0 → slice_get (items_of script n) (length outs) ≡ Some item
    → Did (language script) most_log_writes script (world sections counts runs e) n (world sections (counts_then n 1 counts) (runs_then n (outs ++ o ∷ []) runs) e')
did_answer script n e item o e' a sections counts runs outs is can peak next =
    let w : World Defined = world sections counts runs e in
    record {
      item = item;
      outcome = o;
      writes = a.writes;
      limited = a.limited;
      session = resting e'.catalog;
      next = ap (λ (r : Run). slice_get (items_of script n) (length r.outs)) is ∙ next;
      judged = subst (λ (r : Run). Judged (language script) (now most_log_writes w.core (outs_of runs) a.writes n) n (seen_at w n) (record { open_ = r.open_; catalog = e.catalog }) item o (resting e'.catalog)) (sym is) (a.judged sections counts (outs_of runs) (seen_at w n));
      core = subst (λ (r : Run). AfterItem (shapes e'.catalog) most_log_writes w.core (events_of n r.open_ a.writes o ++ marking n) o (core_of sections (counts_then n 1 counts) e')) (sym is) (a.core sections counts peak can);
      catalog = refl;
      runs = λ i. slice_set runs n (record { outs = (sym is i).outs ++ o ∷ []; open_ = None });
    }

-- A SECTION

pub none_answered : (script : Script) (n : ℕ) (items : List Item) (e : Engine) → HasAnswered script n items e [] e
none_answered script n items e = λ sections counts runs same lt can none. λ i. world sections (counts_none n counts i) ((ap (slice_set runs n) (sym none) ∙ set-get_or runs n no_run) i) e

pub one_more : (script : Script) (n : ℕ) (items : List Item) (e e' e'' : Engine) (outs : List Outcome) (item : Item) (o : Outcome)
    → HasAnswered script n items e outs e' → slice_get items (length outs) ≡ Some item → 1 ≤ e'.peak.0 → Answers script n e' item o e'' → HasAnswered script n items e (outs ++ o ∷ []) e''
one_more script n items e e' e'' outs item o h next peak a = λ sections counts runs same lt can none.
    let place : n < length counts = omega (arith, can.stands, can.as_many) in
    let w0 : World Defined = world sections counts runs e in
    let w : World Defined = world sections (counts_then n (length outs) counts) (runs_then n outs runs) e' in
    let w' : World Defined = world sections (counts_then n 1 (counts_then n (length outs) counts)) (runs_then n (outs ++ o ∷ []) (runs_then n outs runs)) e'' in
    let unfinished : length outs < length items = slice_get_within items (length outs) item next in
    let so_many : get_or (counts_then n (length outs) counts) n 0 ≤ get_or counts n 0 + length outs = counts_at n (length outs) counts place in
    let can' : CanCount sections (counts_then n (length outs) counts) n 1 = record { stands = can.stands; as_many = counts_length n (length outs) counts ∙ can.as_many; few = omega (arith, so_many, unfinished, can.few) } in
    let d : Did (language script) most_log_writes script w n w' = did_answer script n e' item o e'' a sections (counts_then n (length outs) counts) (runs_then n outs runs) outs
    (get_or-set_same runs n (closed outs) no_run lt) can' peak (ap (λ (is : List Item). slice_get is (length outs)) same ∙ next) in
    let t : Turns (language script) most_log_writes script w0 (replicate (suc (length outs)) n) w' = turns_more (language script) most_log_writes script w0 w w' n (length outs) (h sections counts runs same lt can none) (inr d) in
    let long : length outs + 1 ≡ length (outs ++ o ∷ []) = sym (length-append outs (o ∷ [])) in
    let next_one : suc (length outs) ≡ length (outs ++ o ∷ []) = omega (arith, long) in
    let becomes : w' ≡ world sections (counts_then n (length (outs ++ o ∷ [])) counts) (runs_then n (outs ++ o ∷ []) runs) e'' = λ i.
    world sections ((counts_more n (length outs) counts place ∙ ap (λ k. counts_then n k counts) long) i) (set-set runs n (closed outs) (closed (outs ++ o ∷ [])) i) e'' in
    subst (λ k. Turns (language script) most_log_writes script w0 (replicate k n) (world sections (counts_then n (length (outs ++ o ∷ [])) counts) (runs_then n (outs ++ o ∷ []) runs) e'')) next_one
    (subst (λ x. Turns (language script) most_log_writes script w0 (replicate (suc (length outs)) n) x) becomes t)

-- SECTIONS

pub sections_more : (script : Script) (n : ℕ) (e e' e'' : Engine) (answers : List (List Outcome)) (outs : List Outcome)
    → HaveAnswered script n e answers e' → IsWhole script (n + length answers) e' outs e'' → HaveAnswered script n e (answers ++ outs ∷ []) e''
sections_more script n e e' e'' [] outs h w =
    let k : n + length {A = List Outcome} [] ≡ n = omega arith in
    (e'', subst (λ x. IsWhole script n x outs e'') h (subst (λ m. IsWhole script m e' outs e'') k w), refl)
sections_more script n e e' e'' (first ∷ answers) outs h w =
    let k : n + length (first ∷ answers) ≡ n + 1 + length answers = omega arith in
    (h.0, h.1, sections_more script (n + 1) h.0 e' e'' answers outs h.2 (subst (λ m. IsWhole script m e' outs e'') k w))
