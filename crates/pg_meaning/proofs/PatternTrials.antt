-- More single walks on the small graph: an edge taken backwards, sets that exclude, the condition of a group, and modes on walks that are
-- short or end where they begin.
use Rattle.std.proofs.Common.{◌≡◌, ℕ, pos, List, [], ◌∷◌, refl, ap, lit<, lit≤, arith}
use Rattle.std.specs.Prelude.{Some, None}
use Rattle.pg_value.specs.declared.value.Value.TheVariants.{Int}
use Rattle.pg_value.specs.declared.value.Truth.TheVariants.{True, False}
use Rattle.pg_ast.specs.declared.expr.BinOp.TheVariants.{Eq}
use Rattle.pg_ast.specs.declared.pattern.Arrow.TheVariants.{Right, Left}
use Rattle.pg_ast.specs.declared.pattern.Mode.{Mode}
use Rattle.pg_ast.specs.declared.pattern.Mode.TheVariants.{Walk, Acyclic, Simple}
use Rattle.pg_ast.specs.declared.pattern.Selector.TheVariants.{Every}
use Rattle.pg_meaning.specs.declared.checked.CExpr.{CExpr}
use Rattle.pg_meaning.specs.declared.checked.CExpr.TheVariants.{Lit, Property, Binary}
use Rattle.pg_meaning.specs.declared.checked.CPart.{CPart}
use Rattle.pg_meaning.specs.declared.checked.CPart.TheVariants.{Node, Edge, Group}
use Rattle.pg_meaning.specs.CExprs.{Counted, tree_binary}
use Rattle.pg_meaning.specs.Meaning.{Scope, Meets, truth_of, value_of}
use Rattle.pg_meaning.specs.Rounds.{round_of}
use Rattle.pg_meaning.specs.Fits.{Admits, firsts, scope_of, seen_in, singles}
use Rattle.pg_meaning.specs.Bindings.{Binding, IsBinding, IsAllowed, Distinct}
use Rattle.pg_meaning.specs.Members.{in_nil, not_in_cons}
use Rattle.pg_meaning.specs.Cuts.{agree_by, one_agrees}
use Rattle.pg_meaning.proofs.Social.{g, person, knows, hop}
use Rattle.pg_meaning.proofs.Patterns.{vertex, named, unnamed, times, right, pattern, unnamed_round, edge_1, edge_5}

-- AN EDGE TAKEN BACKWARDS

abbrev backwards : List CPart
backwards = Node (vertex 0) ∷ Edge Left (named 1) None ∷ Node (vertex 2) ∷ []

three_differ : Distinct {X = ℕ} (0 ∷ 2 ∷ [])
three_differ = (not_in_cons 2 [] 0 (λ e. omega arith) (in_nil 0), (in_nil 2, tt))

-- (x)<-[e]-(y) from 2 to 1 over the edge from 1 to 2
left : IsAllowed g (pattern Every Walk backwards (0 ∷ 1 ∷ 2 ∷ [])) (record { start = person 2; hops = hop 1 1 ∷ []; vars = (person 2 ∷ []) ∷ (knows 1 ∷ []) ∷ (person 1 ∷ []) ∷ [] })
left = record {
  binding = record {
    start = (1, lit< tt, refl);
    cuts = ([] ∷ []) ∷ ((hop 1 1 ∷ []) ∷ []) ∷ ([] ∷ []) ∷ [];
    hops = refl;
    fits = (
      refl,
      (((refl, tt), tt, one_agrees 0 (person 2), tt), tt),
      (refl, ((tt, (edge_1, (refl, tt), tt, tt), one_agrees 1 (knows 1), tt), tt), (refl, (((refl, tt), tt, one_agrees 2 (person 1), tt), tt), tt)),
    );
    agree = agree_by (singles backwards (person 2) (([] ∷ []) ∷ ((hop 1 1 ∷ []) ∷ []) ∷ ([] ∷ []) ∷ [])) all_differ;
    vars = refl;
  };
  permitted = tt;
}
  where
    all_differ : Distinct {X = ℕ} (0 ∷ 1 ∷ 2 ∷ [])
    all_differ = (
      not_in_cons 1 (2 ∷ []) 0 (λ e. omega arith) (not_in_cons 2 [] 0 (λ e. omega arith) (in_nil 0)),
      (not_in_cons 2 [] 1 (λ e. omega arith) (in_nil 1), (in_nil 2, tt)),
    )

-- SETS THAT EXCLUDE

-- a set of the persons' table admits a person, and no edge
admitted : Admits g (vertex 0) (person 1)
admitted = (refl, tt)

excluded : Admits g (vertex 0) (knows 1) → ⊥
excluded a = let n : 0 ≡ 1 = a.0 in absurd (omega arith)

-- THE CONDITION OF A GROUP

-- a.id = n
abbrev id_is : ℕ → CExpr
id_is n = Binary Eq (Property 0 (Some 0 ∷ None ∷ [])) (Lit (Int (pos n)))

-- ((a)-[e]->(a) WHERE a.id = n)
abbrev group : ℕ → CPart
group n = Group (vertex 0 ∷ vertex 0 ∷ []) (Right ∷ []) (named 1 ∷ []) (Some (id_is n)) (times 1)

abbrev judged : ℕ → Scope
judged n = scope_of g (firsts (seen_in (round_of (group n)) (person 4) (hop 5 4 ∷ [])))

-- over the loop at 4 it is true for 4, and false for 3
true_of_4 : Meets (Some (id_is 4)) (judged 4)
true_of_4 = ap (λ t. truth_of t (judged 4)) (tree_binary Eq (Property 0 (Some 0 ∷ None ∷ [])) (Lit (Int (pos 4))))

false_of_3 : Meets (Some (id_is 3)) (judged 3) → ⊥
false_of_3 m = differ (sym_is (ap (λ t. truth_of t (judged 3)) (tree_binary Eq (Property 0 (Some 0 ∷ None ∷ [])) (Lit (Int (pos 3))))) m)
  where
    differ : False ≡ True → ⊥
    differ e = cc

    sym_is : {X : Type 0} {a b c : X} → a ≡ b → a ≡ c → b ≡ c
    sym_is p q = cc

-- a stands twice in the round, and is judged once
judged_once : value_of (Counted 0) (judged 4) ≡ Int (pos 1)
judged_once = refl

-- MODES

-- (x)->{n}(y)
abbrev power : ℕ → List CPart
power n = Node (vertex 0) ∷ right unnamed (times n) ∷ Node (vertex 1) ∷ []

ends_differ : Distinct {X = ℕ} (0 ∷ 1 ∷ [])
ends_differ = (not_in_cons 1 [] 0 (λ e. omega arith) (in_nil 0), (in_nil 1, tt))

standing : (mode : Mode) → IsBinding g (pattern Every mode (power 0) (0 ∷ 1 ∷ [])) (record { start = person 1; hops = []; vars = (person 1 ∷ []) ∷ (person 1 ∷ []) ∷ [] })
standing mode = record {
  start = (0, lit< tt, refl);
  cuts = ([] ∷ []) ∷ [] ∷ ([] ∷ []) ∷ [];
  hops = refl;
  fits = (refl, (((refl, tt), tt, one_agrees 0 (person 1), tt), tt), ((lit≤ tt, lit≤ tt), tt, (refl, (((refl, tt), tt, one_agrees 1 (person 1), tt), tt), tt)));
  agree = agree_by (singles (power 0) (person 1) (([] ∷ []) ∷ [] ∷ ([] ∷ []) ∷ [])) ends_differ;
  vars = refl;
}

-- ACYCLIC allows a walk of length 0
acyclic_of_0 : IsAllowed g (pattern Every Acyclic (power 0) (0 ∷ 1 ∷ [])) (record { start = person 1; hops = []; vars = (person 1 ∷ []) ∷ (person 1 ∷ []) ∷ [] })
acyclic_of_0 = record { binding = standing Acyclic; permitted = (in_nil (person 1), tt) }

abbrev once_round : Binding
once_round = record { start = person 4; hops = hop 5 4 ∷ []; vars = (person 4 ∷ []) ∷ (person 4 ∷ []) ∷ [] }

round_once : (mode : Mode) → IsBinding g (pattern Every mode (power 1) (0 ∷ 1 ∷ [])) once_round
round_once mode = record {
  start = (3, lit< tt, refl);
  cuts = ([] ∷ []) ∷ ((hop 5 4 ∷ []) ∷ []) ∷ ([] ∷ []) ∷ [];
  hops = refl;
  fits = (
    refl,
    (((refl, tt), tt, one_agrees 0 (person 4), tt), tt),
    ((lit≤ tt, lit≤ tt), (unnamed_round 5 4 4 edge_5, tt), (refl, (((refl, tt), tt, one_agrees 1 (person 4), tt), tt), tt)),
  );
  agree = agree_by (singles (power 1) (person 4) (([] ∷ []) ∷ ((hop 5 4 ∷ []) ∷ []) ∷ ([] ∷ []) ∷ [])) ends_differ;
  vars = refl;
}

-- SIMPLE allows the loop once, ACYCLIC does not, and SIMPLE does not allow it twice
simple_loop : IsAllowed g (pattern Every Simple (power 1) (0 ∷ 1 ∷ [])) once_round
simple_loop = record { binding = round_once Simple; permitted = ((in_nil (person 4), tt), (in_nil (person 4), tt)) }

no_acyclic_loop : IsAllowed g (pattern Every Acyclic (power 1) (0 ∷ 1 ∷ [])) once_round → ⊥
no_acyclic_loop a = a.permitted.0 (0, lit< tt, refl)

no_second_round : IsAllowed g (pattern Every Simple (power 2) (0 ∷ 1 ∷ [])) (record { start = person 4; hops = hop 5 4 ∷ hop 5 4 ∷ []; vars = (person 4 ∷ []) ∷ (person 4 ∷ []) ∷ [] }) → ⊥
no_second_round a = a.permitted.0.0 (0, lit< tt, refl)
