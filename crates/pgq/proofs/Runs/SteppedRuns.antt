-- A setup and at most one session whose statements have all been answered are a stepped run, which is legal.
use Rattle.std.proofs.Common.{◌≡◌, ℕ, zero, suc, ◌+◌, ◌<◌, ◌≤◌, false, List, [], ◌∷◌, ◌++◌, length, drop, get_or, inl, refl, sym, subst, ap, ◌∙◌, arith, append-nil}
use Rattle.std.proofs.lemmas.List.{replicate-append-replicate}
use Rattle.std.proofs.lemmas.Option.{none-some, same_Some, slice_get_past}
use Rattle.std.specs.Prelude.{replicate, slice_get, ◌^◌}
use Rattle.std.specs.declared.option.Option.TheVariants.{Some, None}
use Rattle.pg_ast.specs.declared.define.Define.{Define}
use Rattle.pg_ast.specs.declared.statement.Statement.{Statement}
use Rattle.pg_ast.specs.declared.statement.Statement.TheVariants as statements
use Rattle.pg_rules.specs.Catalog.{Defined}
use Rattle.pg_rules.specs.Catalog.LookUps.{nothing}
use Rattle.pg_keyed.specs.Lists.{Each}
use Rattle.pg_sql.specs.declared.parsed.Parsed.{Parsed}
use Rattle.pg_sql.specs.declared.parsed.Parsed.TheVariants as parsed
use Rattle.pg_rules.specs.Changes.{Change}
use Rattle.pg_script.specs.declared.script.Item.{Item}
use Rattle.pg_script.specs.declared.script.Item.TheVariants.{Sql}
use Rattle.pg_script.specs.declared.script.Section.{Section}
use Rattle.pg_script.specs.declared.script.Script.{Script}
use Rattle.pg_script.specs.declared.outcome.Outcome.{Outcome}
use Rattle.pg_script.specs.Judged.{Judges, Reading, Waits}
use Rattle.pg_script.specs.Legal.{no_section, items_of}
use Rattle.pgq.specs.declared.engine.Engine.{Engine}
use Rattle.pg_session.specs.Stepped.{World, Run, no_run, next_item, Turns, run_out, setup_turns, last_turns, first_world, seats_of, Stepped, AreSessionTurns}
use Rattle.pg_session.specs.TurnsJoin.{turns_join, turns_both}
use Rattle.pg_session.specs.Legality.{SteppedRunsAreLegal}
use Rattle.pg_ast.specs.declared.pattern.Query.{Query}
use Rattle.pg_language.specs.Language.{says, reading_of, reads, language}
use Rattle.pgq.specs.Engine.{most_log_writes, counts_then, CanCount, IsFirst}
use Rattle.pgq.specs.Sections.{world, runs_then, IsWhole, closed, transcript, HaveAnswered, IsStatementIn, IsRunnable, IsRun}

-- as many turns as the section has items
whole_turns : (script : Script) (n : ℕ) (e e' : Engine) (outs : List Outcome) (sections : ℕ) (counts : List ℕ) (runs : List Run) → IsWhole script n e outs e'
    → n < length runs → CanCount sections counts n (length (items_of script n)) → get_or runs n no_run ≡ no_run
    → Turns (language script) most_log_writes script (world sections counts runs e) (replicate (length (items_of script n)) n) (world sections (counts_then n (length outs) counts) (runs_then n outs runs) e')
whole_turns script n e e' outs sections counts runs w lt can none =
    subst (λ k. Turns (language script) most_log_writes script (world sections counts runs e) (replicate k n) (world sections (counts_then n (length outs) counts) (runs_then n outs runs) e')) w.all
    (w.answered sections counts runs refl lt can none)

-- turns of a section that has answered all its items
idle_turns : {K D C Q X Y : Type 0} (J : Judges K D C Q X Y) (limit : ℕ) (script : Script) (w : World K) (n k : ℕ) → next_item script w n ≡ None → Turns J limit script w (replicate k n) w
idle_turns J limit script w n zero h = refl
idle_turns J limit script w n (suc k) h = (w, inl (inl h, refl), idle_turns J limit script w n k h)

-- THE STEPPED RUN

first_is : (script : Script) (first : Engine) (k : ℕ) → length script.sections ≡ k → IsFirst first → first_world script nothing (seats_of script) ≡ world k (replicate k 0) (replicate k no_run) first
first_is script first k e f = λ i. record {
  core = record {
    log = sym f.log i;
    base = sym f.base i;
    pins = replicate (e i + 1) None;
    build = None;
    counts = replicate (e i) 0;
    ended = replicate (e i) false;
    stopped = false;
    peak = sym f.peak i;
  };
  catalog = sym f.catalog i;
  runs = replicate (e i) no_run;
}

-- a script of a setup alone
one_section : (script : Script) (s : Section) (first last : Engine) (outs : List Outcome) → ((n : ℕ) → length (items_of script n) < 2 ^ 32) → script.sections ≡ s ∷ [] → script.order ≡ [] → IsFirst first → IsWhole script 0 first outs last
    → Stepped (language script) nothing most_log_writes script (transcript script (outs ∷ []) last)
one_section script s first last outs few e empty f w =
    let J = language script in
    let w0 : World Defined = world 1 (replicate 1 0) (replicate 1 no_run) first in
    let w1 : World Defined = world 1 (counts_then 0 (length outs) (replicate 1 0)) (closed outs ∷ []) last in
    let t : Turns J most_log_writes script w0 (setup_turns script) w1 = whole_turns script 0 first last outs 1 (replicate 1 0) (replicate 1 no_run) w (omega arith) (record { stands = omega arith; as_many = refl; few = (let h = few 0 in omega (arith, h)) }) refl in
    let rest : script.order ++ last_turns script ≡ [] = λ i. empty i ++ run_out 1 (drop 1 (e i)) in
    record {
      last = w1;
      turns = turns_join J most_log_writes script (first_world script nothing (seats_of script)) w1 w1 (setup_turns script) (script.order ++ last_turns script)
          (subst (λ (x : World Defined). Turns J most_log_writes script x (setup_turns script) w1) (sym (first_is script first 1 (ap length e) f)) t)
          (subst (λ ns. Turns J most_log_writes script w1 ns w1) (sym rest) refl);
      is_transcript = refl;
    }

both_ones : (j k : ℕ) (order last : List ℕ) → order ≡ replicate k 1 → last ≡ replicate j 1 → replicate (j + k) 1 ≡ order ++ last
both_ones j k order last e f =
    let swapped : j + k ≡ k + j = omega arith in
    let joined : replicate k 1 ++ replicate j 1 ≡ order ++ last = λ i. sym e i ++ sym f i in
    ap (λ m. replicate m 1) swapped ∙ sym (replicate-append-replicate k j 1) ∙ joined

-- a script of a setup and a session: behind the session's last item its turns do nothing
two_sections : (script : Script) (s t : Section) (first middle last : Engine) (outs more : List Outcome) (k : ℕ) → ((n : ℕ) → length (items_of script n) < 2 ^ 32) → script.sections ≡ s ∷ t ∷ [] → script.order ≡ replicate k 1 → IsFirst first
    → IsWhole script 0 first outs middle → IsWhole script 1 middle more last
    → Stepped (language script) nothing most_log_writes script (transcript script (outs ∷ more ∷ []) last)
two_sections script s t first middle last outs more k few e ones f v w =
    let J = language script in
    let w0 : World Defined = world 2 (replicate 2 0) (replicate 2 no_run) first in
    let w1 : World Defined = world 2 (counts_then 0 (length outs) (replicate 2 0)) (closed outs ∷ no_run ∷ []) middle in
    let w2 : World Defined = world 2 (counts_then 1 (length more) (counts_then 0 (length outs) (replicate 2 0))) (closed outs ∷ closed more ∷ []) last in
    let j : ℕ = length (items_of script 1) in
    let t1 : Turns J most_log_writes script w0 (setup_turns script) w1 = whole_turns script 0 first middle outs 2 (replicate 2 0) (replicate 2 no_run) v (omega arith) (record { stands = omega arith; as_many = refl; few = (let h = few 0 in omega (arith, h)) }) refl in
    let t2 : Turns J most_log_writes script w1 (replicate j 1) w2 = whole_turns script 1 middle last more 2 (counts_then 0 (length outs) (replicate 2 0)) (closed outs ∷ no_run ∷ []) w (omega arith) (record { stands = omega arith; as_many = refl; few = (let h = few 1 in omega (arith, h)) }) refl in
    let end : next_item script w2 1 ≡ None = slice_get_past (items_of script 1) (length more) (omega (arith, w.all)) in
    let t3 : Turns J most_log_writes script w1 (replicate (j + k) 1) w2 = turns_both J most_log_writes script w1 w2 w2 1 j k t2 (idle_turns J most_log_writes script w2 1 k end) in
    let same : last_turns script ≡ replicate j 1 = (λ i. run_out 1 (drop 1 (e i))) ∙ append-nil (replicate (length t.items) 1) ∙ ap (λ (ss : List Section). replicate (length (get_or ss 1 no_section).items) 1) (sym e) in
    let rest : replicate (j + k) 1 ≡ script.order ++ last_turns script = both_ones j k script.order (last_turns script) ones same in
    record {
      last = w2;
      turns = turns_join J most_log_writes script (first_world script nothing (seats_of script)) w1 w2 (setup_turns script) (script.order ++ last_turns script)
          (subst (λ (x : World Defined). Turns J most_log_writes script x (setup_turns script) w1) (sym (first_is script first 2 (ap length e) f)) t1)
          (subst (λ ns. Turns J most_log_writes script w1 ns w2) rest t3);
      is_transcript = refl;
    }

-- the order of a script of so many sections
no_order : (ns : List ℕ) → Each (λ n. (0 < n) × (n < 1)) ns → ns ≡ []
no_order [] h = refl
no_order (n ∷ ns) h = absurd (omega (arith, h.0.0, h.0.1))

order_of_ones : (ns : List ℕ) → Each (λ n. (0 < n) × (n < 2)) ns → ns ≡ replicate (length ns) 1
order_of_ones [] h = refl
order_of_ones (n ∷ ns) h = let one : n ≡ 1 = omega (arith, h.0.0, h.0.1) in λ i. one i ∷ order_of_ones ns h.1 i

stepped_of : (script : Script) (sections : List Section) (answers : List (List Outcome)) (first last : Engine) → ((n : ℕ) → length (items_of script n) < 2 ^ 32) → script.sections ≡ sections → 0 < length sections → length sections ≤ 2
    → Each (λ n. (0 < n) × (n < length sections)) script.order → IsFirst first → HaveAnswered script 0 first answers last → length answers ≡ length sections
    → Stepped (language script) nothing most_log_writes script (transcript script answers last)
stepped_of script [] answers first last short e some few order f h all = absurd (omega (arith, some))
stepped_of script (s ∷ t ∷ u ∷ sections) answers first last short e some few order f h all = absurd (omega (arith, few))
stepped_of script (s ∷ []) [] first last short e some few order f h all = absurd (omega (arith, all))
stepped_of script (s ∷ []) (outs ∷ []) first last short e some few order f h all =
    one_section script s first last outs short e (no_order script.order order) f (subst (λ (x : Engine). IsWhole script 0 first outs x) (sym h.2) h.1)
stepped_of script (s ∷ []) (outs ∷ more ∷ answers) first last short e some few order f h all = absurd (omega (arith, all))
stepped_of script (s ∷ t ∷ []) [] first last short e some few order f h all = absurd (omega (arith, all))
stepped_of script (s ∷ t ∷ []) (outs ∷ []) first last short e some few order f h all = absurd (omega (arith, all))
stepped_of script (s ∷ t ∷ []) (outs ∷ more ∷ []) first last short e some few order f h all =
    two_sections script s t first h.0 last outs more (length script.order) short e (order_of_ones script.order order) f h.1
    (subst (λ (x : Engine). IsWhole script 1 h.0 more x) (sym h.2.2) h.2.1)
stepped_of script (s ∷ t ∷ []) (outs ∷ more ∷ x ∷ answers) first last short e some few order f h all = absurd (omega (arith, all))

-- no item of this language waits
abbrev waits : List ℕ → ℕ → ℕ → Reading Define Change Query
waits name m k = Waits name m k

says_no_wait : (at : ℕ) (t : Statement) (name : List ℕ) (m k : ℕ) → waits name m k ≡ says at t → ⊥
says_no_wait at (statements.Define d) name m k e = cc
says_no_wait at (statements.Insert i) name m k e = cc
says_no_wait at (statements.Query q) name m k e = cc
says_no_wait at (statements.Update u) name m k e = cc
says_no_wait at (statements.Delete d) name m k e = cc
says_no_wait at statements.Begin name m k e = cc
says_no_wait at statements.Commit name m k e = cc
says_no_wait at statements.Rollback name m k e = cc

read_no_wait : (p : Parsed) (name : List ℕ) (m k : ℕ) → waits name m k ≡ reading_of p → ⊥
read_no_wait (parsed.Statement tree at) name m k e = says_no_wait at tree name m k e
read_no_wait (parsed.Fault at) name m k e = cc

never_waits : (script : Script) (item : Item) (name : List ℕ) (m k : ℕ) → IsStatementIn script.text item → reads script item (Waits name m k) → ⊥
never_waits script item name m k s r = sql_reads s.0 s.1 (subst (λ i. reads script i (Waits name m k)) s.2 r) where
  sql_reads : (from to : ℕ) → reads script (Sql from to) (Waits name m k) → ⊥
  sql_reads from to r = read_no_wait r.0 name m k r.2

-- an item that stands is one of a section's
item_in : (P : Item → Type 0) (sections : List Section) (n k : ℕ) (item : Item) → Each (λ (s : Section). Each P s.items) sections → slice_get (get_or sections n no_section).items k ≡ Some item → P item
item_in P [] n k item h at = absurd (none-some item (sym (slice_get_past [] k (omega arith)) ∙ at))
item_in P (s ∷ sections) zero k item h at = each_at s.items k h.0 at where
  each_at : (items : List Item) (k : ℕ) → Each P items → slice_get items k ≡ Some item → P item
  each_at [] k h at = absurd (none-some item (sym (slice_get_past [] k (omega arith)) ∙ at))
  each_at (x ∷ items) zero h at = subst P (same_Some x item at) h.0
  each_at (x ∷ items) (suc k) h at = each_at items k h.1 at
item_in P (s ∷ sections) (suc n) k item h at = item_in P sections n k item h.1 at

are_sessions : (most : ℕ) (ns : List ℕ) → Each (λ n. (0 < n) × (n < most)) ns → AreSessionTurns ns
are_sessions most [] h = tt
are_sessions most (n ∷ ns) h = ((λ z. omega (arith, z, h.0.0)), are_sessions most ns h.1)

pub run_is : SteppedRunsAreLegal language → (script : Script) (answers : List (List Outcome)) (first last : Engine) → IsRunnable script → IsFirst first → HaveAnswered script 0 first answers last → length answers ≡ length script.sections
    → IsRun script (transcript script answers last)
run_is law script answers first last r f h all =
    let s : Stepped (language script) nothing most_log_writes script (transcript script answers last) = stepped_of script script.sections answers first last r.few_items refl r.some r.few r.order f h all in
    record {
      stepped = s;
      legal = law nothing most_log_writes script (transcript script answers last) (λ n k name m i item at reads. absurd (never_waits script item name m i (item_in (IsStatementIn script.text) script.sections n k item r.statements at) reads)) (are_sessions (length script.sections) script.order r.order) s;
    }
