-- Five small runs, on which the definitions of legal sessions are tried. Two tables, PERSON and KNOWS, are filled by the
-- setup's two commits: persons 1 to 4, and six rows of KNOWS, of which the sixth names person 9, who is not there.
-- Each lemma holds for every language J that reads the items as said: what J says is a premise, and what the table of
-- outcomes, the log and the versions say is computed. Behind each stands which wrong definition would make it false.
use Rattle.std.proofs.Common.{◌≡◌, ℕ, pos, ◌≤◌, List, [], ◌∷◌, ◌++◌, length, refl, arith, ◌==◌, cond, max, map, inl, inr}
use Rattle.std.specs.Prelude.{codes}
use Rattle.std.specs.Fmt.{decimal}
use Rattle.std.proofs.lemmas.Fmt.{decimal-digits_of}
use Rattle.std.specs.declared.cmp.Ordering.TheVariants.{Less}
use Rattle.std.specs.declared.option.Option.TheVariants.{Some, None}
use Rattle.pg_value.specs.declared.value.Value.TheVariants.{Int, Text}
use Rattle.pg_value.specs.declared.row.Row.{Row}
use Rattle.pg_value.specs.declared.row.Key.{Key}
use Rattle.pg_value.specs.declared.shape.TableNo.{TableNo}
use Rattle.pg_value.specs.declared.shape.Shapes.{Shapes}
use Rattle.pg_value.specs.declared.shape.GraphShape.{GraphShape}
use Rattle.pg_value.specs.declared.write.Write.{Write}
use Rattle.pg_value.specs.declared.write.Commit.{Commit}
use Rattle.pg_value.specs.Graph.{edges}
use Rattle.pg_value.specs.Orders.{row_order}
use Rattle.pg_value.specs.Tables.{Tables, stored_at}
use Rattle.pg_value.specs.Log.{after, conflict, view, IsLawful}
use Rattle.pg_script.specs.declared.script.Item.{Item}
use Rattle.pg_script.specs.declared.outcome.Outcome.{Outcome}
use Rattle.pg_script.specs.declared.outcome.Outcome.TheVariants.{Began, Changed, ChangedAlone, Committed, Rows, After, Conflict}
use Rattle.pg_script.specs.Judged.{Judges, Session, Judged, View, Begins, Commits, Changes, Asks, Waits, Fine, Done, Listed, begun, committed, changed, changed_alone, answered, waited, logged, conflicted}
use Rattle.pg_script.specs.Session.{IsMet, whole, Runs, number, printed}
use Rattle.pg_script.specs.Text.{outcome_text}

-- THE TABLES AND THE WRITES

abbrev pub person_table : TableNo
person_table = record { 0 = 0 }

abbrev pub knows_table : TableNo
knows_table = record { 0 = 1 }

abbrev pub names : List (List ℕ)
names = codes "PERSON" ∷ codes "KNOWS" ∷ []

abbrev pub key : ℕ → Key
key i = record { values = Int (pos i) ∷ [] }

abbrev pub person_row : ℕ → List ℕ → Row
person_row i name = record { values = Int (pos i) ∷ Text name ∷ [] }

-- the row of person i is written
abbrev pub person : ℕ → List ℕ → Write
person i name = record { table = person_table; key = key i; row = Some (person_row i name) }

abbrev pub knows : ℕ → ℕ → ℕ → ℕ → Write
knows i a b w = record { table = knows_table; key = key i; row = Some (record { values = Int (pos i) ∷ Int (pos a) ∷ Int (pos b) ∷ Int (pos w) ∷ [] }) }

-- a commit of section n, over version k
abbrev pub commit : ℕ → ℕ → List Write → Commit
commit n k ws = record { session = n; from = k; writes = record { list = ws; limit = 1048576 } }

-- the setup's two commits
abbrev pub setup : List Commit
setup =
    commit 0 0 (person 1 (codes "Ann") ∷ person 2 (codes "Bob") ∷ person 3 (codes "Cid") ∷ person 4 (codes "Dot") ∷ [])
    ∷ commit 0 1 (knows 1 1 2 1 ∷ knows 2 2 3 2 ∷ knows 3 3 1 3 ∷ knows 4 1 2 4 ∷ knows 5 4 4 5 ∷ knows 6 3 9 6 ∷ [])
    ∷ []

abbrev pub limit : ℕ
limit = 4194304

-- the graph over the two tables: KNOWS has its source in column 1 and its destination in column 2
abbrev pub shapes : Shapes
shapes = record {
  tables = [];
  edges = record { table = knows_table; source = person_table; source_columns = 1 ∷ []; dest = person_table; dest_columns = 2 ∷ [] } ∷ [];
}

abbrev pub social : GraphShape
social = record { vertices = person_table ∷ []; edges = record { 0 = 0 } ∷ [] }

-- a section without an open transaction, and with one
abbrev pub closed : {K : Type 0} → K → Session K
closed catalog = record { open_ = None; catalog = catalog }

abbrev pub opened : {K : Type 0} → K → ℕ → List Write → Session K
opened catalog k ws = record { open_ = Some (record { from = k; writes = ws }); catalog = catalog }

abbrev pub view_of : ℕ → List Write → Tables → View
view_of k ws t = record { from = k; writes = ws; tables = t }

-- LOST UPDATE: sessions a and b (sections 1 and 2) begin over version 2 and write the row of person 1; a commits first.

abbrev pub lost_update : List Commit
lost_update = setup ++ commit 1 2 (person 1 (codes "A") ∷ []) ∷ []

-- b's write meets a's commit, which is the third. (False if a conflict looked only at commits up to the version, or at the
-- number of the setup's commits, or if commits were counted from 0.)
pub lost_update_conflict : conflict lost_update 2 (person 1 (codes "B") ∷ []) ≡ Some (person 1 (codes "B"), 3)
lost_update_conflict = refl

-- neither a write of another person, nor one of row 1 of the other table, meets a conflict. (False if the table or the key
-- were left out of the comparison.)
pub lost_update_other_rows : conflict lost_update 2 (person 2 (codes "B") ∷ knows 1 1 2 9 ∷ []) ≡ None
lost_update_other_rows = refl

-- from version 3 there is no conflict. (False if the commit that a version holds counted as later.)
pub lost_update_later : conflict lost_update 3 (person 1 (codes "B") ∷ []) ≡ None
lost_update_later = refl

module _ {K D C Q X Y : Type 0} (J : Judges K D C Q X Y) (catalog : K) (tables : J.tables catalog ≡ names) where
  -- a: `3 commit from 2 at 3`, by `committed` and `logged`. (False if `logged` asked for another number, section or version.)
  pub lost_update_a : (met : ℕ → ℕ → ℕ → Type 0) (item : Item) → J.reads item Commits → Judged J (whole limit lost_update met 1) 1 2 (opened catalog 2 (person 1 (codes "A") ∷ [])) item (Committed 2 3) (closed catalog)
  lost_update_a met item reads = committed _ reads refl (λ e. cc) (logged 3 (commit 1 2 (person 1 (codes "A") ∷ [])) (setup, [], refl, refl) (record { session = refl; from = refl; writes = refl }) refl) refl

  -- b: `1 begin at 2`, `2 changed 1 at 2`, `3 refused Conflict PERSON (1) from 2 at 3`, by `begun`, `changed`, `committed`
  -- and `conflicted`; the transaction is then over. (False if a conflict named another commit, or left the transaction open.)
  pub lost_update_b : (met : ℕ → ℕ → ℕ → Type 0) (i j k : Item) (c : C) (x : X) → J.reads i Begins → J.reads j (Changes c) → J.reads k Commits → J.resolves catalog c (Fine x) → J.affects catalog (view lost_update 2 []) [] x (Done (person 1 (codes "B") ∷ []) 1) → Runs J (whole limit lost_update met 2) 2 2 (closed catalog) (i ∷ j ∷ k ∷ []) (Began 2 ∷ Changed 1 2 ∷ Conflict (codes "PERSON") (key 1) 2 3 ∷ []) (closed catalog)
  lost_update_b met i j k c x begins changes commits resolves affects = (
    opened catalog 2 [],
    begun 2 begins refl (omega arith, omega arith, λ _. refl) refl refl,
    (
      opened catalog 2 (person 1 (codes "B") ∷ []),
      changed c x (view_of 2 [] _) 1 _ changes resolves (record { under = refl; sees = (omega arith, refl) }) affects refl refl,
      (
        closed catalog,
        committed _ commits refl (λ e. cc) (conflicted (person 1 (codes "B")) 3 (omega arith, refl) (rw tables refl)) refl,
        refl,
      ),
    ),
  )

-- with b's commit in it the log is not lawful. (False if a lawful log did not look for conflicts, or only within a section.)
pub lost_update_unlawful : IsLawful limit (lost_update ++ commit 2 2 (person 1 (codes "B") ∷ []) ∷ []) → ⊥
lost_update_unlawful lawful = let e = lawful.each.3.3.3.2 in cc

-- the line as it is printed. (False if the version and the commit were exchanged, or the key stood without its parentheses.)
pub lost_update_line : outcome_text (Conflict (codes "PERSON") (key 1) 2 3) ≡ codes "refused Conflict PERSON (1) from 2 at 3\n"
lost_update_line =
    let one : decimal 1 ≡ codes "1" = decimal-digits_of 1 (omega arith) (omega arith) in
    let two : decimal 2 ≡ codes "2" = decimal-digits_of 2 (omega arith) (omega arith) in
    let three : decimal 3 ≡ codes "3" = decimal-digits_of 3 (omega arith) (omega arith) in
    rw (one, two, three) refl

-- WRITE SKEW: a reads person 2 and writes person 1, b reads person 1 and writes person 2, both over version 2; both commit.

abbrev pub write_skew : List Commit
write_skew = setup ++ commit 1 2 (person 1 (codes "A") ∷ []) ∷ commit 2 2 (person 2 (codes "B") ∷ []) ∷ []

-- the log is lawful. (False if what a transaction read counted, if any commit after its version did, or if writes were
-- compared by table alone.)
pub write_skew_lawful : IsLawful limit write_skew
write_skew_lawful = record {
  each = (
    omega arith,
    (λ e. cc),
    refl,
    (
      omega arith,
      (λ e. cc),
      refl,
      (
        omega arith,
        (λ e. cc),
        refl,
        (
          omega arith,
          (λ e. cc),
          refl,
          tt,
        ),
      ),
    ),
  );
  within = omega arith;
}

module _ {K D C Q X Y : Type 0} (J : Judges K D C Q X Y) (catalog : K) where
  -- b: `4 commit from 2 at 4`, by `committed` and `logged`. (False if `logged` asked that nothing stood between the version and
  -- the commit, or counted the setup's commits apart.)
  pub write_skew_b : (met : ℕ → ℕ → ℕ → Type 0) (item : Item) → J.reads item Commits → Judged J (whole limit write_skew met 2) 2 2 (opened catalog 2 (person 2 (codes "B") ∷ [])) item (Committed 2 4) (closed catalog)
  write_skew_b met item reads = committed _ reads refl (λ e. cc) (logged 4 (commit 2 2 (person 2 (codes "B") ∷ [])) (setup ++ commit 1 2 (person 1 (codes "A") ∷ []) ∷ [], [], refl, refl) (record { session = refl; from = refl; writes = refl }) refl) refl

  -- b's query reads person 1 as version 2 has it, by `answered`, also after a's commit, which is the third. (False if a query
  -- in a transaction read the newest version.)
  pub write_skew_reads : (met : ℕ → ℕ → ℕ → Type 0) (item : Item) (q : Q) (y : Y) (rows : List Row) → J.reads item (Asks q) → J.checks catalog q (Fine y) → J.answers catalog (view write_skew 2 []) y (Listed rows) → Judged J (whole limit write_skew met 2) 2 2 (opened catalog 2 []) item (Rows 2 0 (J.columns y) rows) (opened catalog 2 [])
  write_skew_reads met item q y rows reads checks answers = answered q y (view_of 2 [] _) 0 rows reads checks (inl (record { under = refl; sees = (omega arith, refl) })) answers (omega arith, omega arith) refl refl

-- that version has the name from before a's commit, and version 3 the one from after it. (False if a version held a commit
-- too many or too few.)
pub write_skew_version : stored_at (0, Int (pos 1) ∷ []) (view write_skew 2 []) ≡ Some (record { table = person_table; key = key 1; row = person_row 1 (codes "Ann") })
write_skew_version = refl

pub write_skew_next : stored_at (0, Int (pos 1) ∷ []) (after write_skew 3) ≡ Some (record { table = person_table; key = key 1; row = person_row 1 (codes "A") })
write_skew_next = refl

-- OWN WRITES: a inserts person 9 in a transaction over version 2 and then asks for all edges; b asks the same outside it.

abbrev pub eve : List Write
eve = person 9 (codes "Eve") ∷ []

-- a's view holds the row, and no version does. (False if own writes were left out, or counted as committed.)
pub own_writes_row : stored_at (0, Int (pos 9) ∷ []) (view setup 2 eve) ≡ Some (record { table = person_table; key = key 9; row = person_row 9 (codes "Eve") })
own_writes_row = refl

pub own_writes_hidden : stored_at (0, Int (pos 9) ∷ []) (after setup 2) ≡ None
own_writes_hidden = refl

-- so the sixth row of KNOWS is an edge for a, and none for b: six rows and five. (False if an edge needed no vertex at its
-- ends, or if own writes were left out of the graph.)
pub own_writes_edges : map (λ e. e.elem.key) (edges shapes social (view setup 2 eve)) ≡ key 1 ∷ key 2 ∷ key 3 ∷ key 4 ∷ key 5 ∷ key 6 ∷ []
own_writes_edges = refl

pub own_writes_edges_of_b : map (λ e. e.elem.key) (edges shapes social (view setup 2 [])) ≡ key 1 ∷ key 2 ∷ key 3 ∷ key 4 ∷ key 5 ∷ []
own_writes_edges_of_b = refl

abbrev pub pair : ℕ → ℕ → Row
pair p q = record { values = Int (pos p) ∷ Int (pos q) ∷ [] }

-- the row (3, 9) stands before (4, 4), and behind (3, 1). (False if rows were ordered by their last column first.)
pub own_writes_order : (row_order (pair 3 1) (pair 3 9) ≡ Less) × (row_order (pair 3 9) (pair 4 4) ≡ Less)
own_writes_order = (refl, refl)

module _ {K D C Q X Y : Type 0} (J : Judges K D C Q X Y) (catalog : K) where
  -- a: `begin at 2`, `changed 1 at 2`, `rows .. at 2 base 0`, by `begun`, `changed` and `answered`. It ends with its
  -- transaction open, which prints `end rolled back`. (False if the query read the version without the writes.)
  pub own_writes_a : (met : ℕ → ℕ → ℕ → Type 0) (i j k : Item) (c : C) (x : X) (q : Q) (y : Y) (rows : List Row) → J.reads i Begins → J.reads j (Changes c) → J.reads k (Asks q) → J.resolves catalog c (Fine x) → J.affects catalog (view setup 2 []) [] x (Done eve 1) → J.checks catalog q (Fine y) → J.answers catalog (view setup 2 eve) y (Listed rows) → Runs J (whole limit setup met 1) 1 2 (closed catalog) (i ∷ j ∷ k ∷ []) (Began 2 ∷ Changed 1 2 ∷ Rows 2 0 (J.columns y) rows ∷ []) (opened catalog 2 eve)
  own_writes_a met i j k c x q y rows begins changes asks resolves affects checks answers = (
    opened catalog 2 [],
    begun 2 begins refl (omega arith, omega arith, λ _. refl) refl refl,
    (
      opened catalog 2 eve,
      changed c x (view_of 2 [] _) 1 _ changes resolves (record { under = refl; sees = (omega arith, refl) }) affects refl refl,
      (
        opened catalog 2 eve,
        answered q y (view_of 2 eve _) 0 rows asks checks (inl (record { under = refl; sees = (omega arith, refl) })) answers (omega arith, omega arith) refl refl,
        refl,
      ),
    ),
  )

  -- b: `1 rows .. at 2 base 0`, by `answered` at a start of its own, without writes. (False if a statement outside a
  -- transaction could see the open transaction of another section.)
  pub own_writes_b : (met : ℕ → ℕ → ℕ → Type 0) (item : Item) (q : Q) (y : Y) (rows : List Row) → J.reads item (Asks q) → J.checks catalog q (Fine y) → J.answers catalog (view setup 2 []) y (Listed rows) → Judged J (whole limit setup met 2) 2 2 (closed catalog) item (Rows 2 0 (J.columns y) rows) (closed catalog)
  own_writes_b met item q y rows reads checks answers = answered q y (view_of 2 [] _) 0 rows reads checks (inr (record { closed = refl; starts = (omega arith, omega arith, λ _. refl); unwritten = refl; sees = (omega arith, refl) })) answers (omega arith, omega arith) refl refl

-- AFTER: a writes persons 1 and 9 outside a transaction, in the commits 3 and 4; b waits for a's second item.

abbrev pub after_log : List Commit
after_log = setup ++ commit 1 2 (person 1 (codes "A") ∷ []) ∷ commit 1 3 eve ∷ []

abbrev pub after_outs : ℕ → List Outcome
after_outs n = cond (n == 1) (ChangedAlone 1 2 3 ∷ ChangedAlone 1 3 4 ∷ []) []

-- a's second item is found finished at length 4 and not at length 3, where it had not been answered, and there is no third
-- item. (False if AFTER looked only at the first item, at a's versions in place of its commits, or one item too far.)
pub after_met : (whole limit after_log (IsMet after_outs) 2).meets 2 1 2 4
after_met = (omega arith, omega arith, (omega arith, (omega arith, (omega arith, tt))))

pub after_too_early : (whole limit after_log (IsMet after_outs) 2).meets 2 1 2 3 → ⊥
after_too_early m = let e = m.2.1.1.0 in omega arith

pub after_no_third : (whole limit after_log (IsMet after_outs) 2).meets 2 1 3 4 → ⊥
after_no_third m = let e = m.2.0 in omega arith

-- having met it, b may start at version 4 alone. (False if AFTER raised nothing, or only to the version that a read.)
pub after_starts : (k : ℕ) → (whole limit after_log (IsMet after_outs) 2).starts (max 2 (number 2 (After (codes "a") 2 4))) k → k ≡ 4
after_starts k s = let e = s.0 in let f = s.1 in omega arith

-- at that version all six rows of KNOWS are edges. (False if a version left its last commit out.)
pub after_edges : length (edges shapes social (after after_log 4)) ≡ 6
after_edges = refl

module _ {K D C Q X Y : Type 0} (J : Judges K D C Q X Y) (catalog : K) (tables : J.tables catalog ≡ names) where
  -- a: `1 changed 1 from 2 at 3`, `2 changed 1 from 3 at 4`, by `changed_alone` and `logged`. (False if a start fixed the
  -- length of the whole log, or if the second had to start where the first did.)
  pub after_a : (i j : Item) (c d : C) (x y : X) → J.reads i (Changes c) → J.reads j (Changes d) → J.resolves catalog c (Fine x) → J.resolves catalog d (Fine y) → J.affects catalog (view after_log 2 []) [] x (Done (person 1 (codes "A") ∷ []) 1) → J.affects catalog (view after_log 3 []) [] y (Done eve 1) → Runs J (whole limit after_log (IsMet after_outs) 1) 1 2 (closed catalog) (i ∷ j ∷ []) (after_outs 1) (closed catalog)
  after_a i j c d x y first second fine fine' one two = (
    closed catalog,
    changed_alone c x (view_of 2 [] _) 1 _ first fine (record { closed = refl; starts = (omega arith, omega arith, λ _. refl); unwritten = refl; sees = (omega arith, refl) }) one (omega arith) (logged 3 (commit 1 2 (person 1 (codes "A") ∷ [])) (setup, commit 1 3 eve ∷ [], refl, refl) (record { session = refl; from = refl; writes = refl }) refl) refl,
    (
      closed catalog,
      changed_alone d y (view_of 3 [] _) 1 _ second fine' (record { closed = refl; starts = (omega arith, omega arith, λ _. refl); unwritten = refl; sees = (omega arith, refl) }) two (omega arith) (logged 4 (commit 1 3 eve) (setup ++ commit 1 2 (person 1 (codes "A") ∷ []) ∷ [], [], refl, refl) (record { session = refl; from = refl; writes = refl }) refl) refl,
      refl,
    ),
  )

  -- b: `1 after a 2 at 4`, `2 rows .. at 4 base 0`, by `waited` and `answered`. (False if AFTER printed another
  -- length than the one at which it was met, or if a later start might not be there.)
  pub after_b : (i j : Item) (q : Q) (y : Y) (rows : List Row) → J.reads i (Waits (codes "a") 1 2) → J.reads j (Asks q) → J.checks catalog q (Fine y) → J.answers catalog (view after_log 4 []) y (Listed rows) → Runs J (whole limit after_log (IsMet after_outs) 2) 2 2 (closed catalog) (i ∷ j ∷ []) (After (codes "a") 2 4 ∷ Rows 4 0 (J.columns y) rows ∷ []) (closed catalog)
  after_b i j q y rows waits asks checks answers = (
    closed catalog,
    waited (codes "a") 1 2 4 waits after_met refl refl,
    (
      closed catalog,
      answered q y (view_of 4 [] _) 0 rows asks checks (inr (record { closed = refl; starts = (omega arith, omega arith, λ _. refl); unwritten = refl; sees = (omega arith, refl) })) answers (omega arith, omega arith) refl refl,
      refl,
    ),
  )

-- PINNED BASE: r begins over version 2; w commits 300 times, and the commit that finds 256 over base 0 folds first.

module _ (log : List Commit) (met : ℕ → ℕ → ℕ → Type 0) (n : ℕ) where
  -- r's query over version 2 may read over base 0, w's over version 302 over base 256 and not over base 0; version 256 is the
  -- last over base 0, and no base is newer than its version. (False if bases were bounded by the log's length, or at 255.)
  pub pinned_base_of_r : (whole limit log met n).bases 2 0
  pinned_base_of_r = (omega arith, omega arith)

  pub pinned_base_of_w : (whole limit log met n).bases 302 256
  pinned_base_of_w = (omega arith, omega arith)

  pub pinned_base_too_old : (whole limit log met n).bases 302 0 → ⊥
  pinned_base_too_old b = let e = b.1 in omega arith

  pub pinned_base_last : (whole limit log met n).bases 256 0
  pinned_base_last = (omega arith, omega arith)

  pub pinned_base_first_too_old : (whole limit log met n).bases 257 0 → ⊥
  pinned_base_first_too_old b = let e = b.1 in omega arith

  pub pinned_base_too_new : (whole limit log met n).bases 2 3 → ⊥
  pinned_base_too_new b = let e = b.0 in omega arith

  -- after its 300 commits w starts at version 302 alone. (False if a start might fix an older version than its section saw.)
  pub pinned_base_starts : length log ≡ 302 → (k : ℕ) → (whole limit log met n).starts (max 301 (number 301 (ChangedAlone 1 301 302))) k → k ≡ 302
  pinned_base_starts l k s = let e = s.0 in let f = s.1 in omega arith

module _ {K D C Q X Y : Type 0} (J : Judges K D C Q X Y) (catalog : K) where
  -- r: `2 rows .. at 2 base 0`, by `answered` in its transaction, however long the log is by then. (False if a base had to be
  -- near the log's end.)
  pub pinned_base_r : (log : List Commit) (met : ℕ → ℕ → ℕ → Type 0) (item : Item) (q : Q) (y : Y) (rows : List Row) → 2 ≤ length log → J.reads item (Asks q) → J.checks catalog q (Fine y) → J.answers catalog (view log 2 []) y (Listed rows) → Judged J (whole limit log met 1) 1 2 (opened catalog 2 []) item (Rows 2 0 (J.columns y) rows) (opened catalog 2 [])
  pinned_base_r log met item q y rows long reads checks answers = answered q y (view_of 2 [] _) 0 rows reads checks (inl (record { under = refl; sees = (long, refl) })) answers (omega arith, omega arith) refl refl

  -- w: `301 rows .. at 302 base 256`, by `answered` at a start of its own. (False if a base had to be the version itself.)
  pub pinned_base_w : (log : List Commit) (met : ℕ → ℕ → ℕ → Type 0) (item : Item) (q : Q) (y : Y) (rows : List Row) → length log ≡ 302 → J.reads item (Asks q) → J.checks catalog q (Fine y) → J.answers catalog (view log 302 []) y (Listed rows) → Judged J (whole limit log met 2) 2 302 (closed catalog) item (Rows 302 256 (J.columns y) rows) (closed catalog)
  pinned_base_w log met item q y rows long reads checks answers = answered q y (view_of 302 [] _) 256 rows reads checks (inr (record { closed = refl; starts = (omega arith, omega arith, λ _. refl); unwritten = refl; sees = (omega arith, refl) })) answers (omega arith, omega arith) refl refl

-- w's 255th change is commit 257, and the line and the number of the commit say so. (False if the parts were exchanged.)
pub pinned_base_line : outcome_text (ChangedAlone 1 256 257) ≡ codes "changed 1 from 256 at 257\n"
pinned_base_line =
    let one : decimal 1 ≡ codes "1" = decimal-digits_of 1 (omega arith) (omega arith) in
    let from : decimal 256 ≡ codes "256" = decimal-digits_of 256 (omega arith) (omega arith) in
    let at : decimal 257 ≡ codes "257" = decimal-digits_of 257 (omega arith) (omega arith) in
    rw (one, from, at) refl

pub pinned_base_printed : printed (ChangedAlone 1 256 257) ≡ 257 ∷ []
pinned_base_printed = refl
