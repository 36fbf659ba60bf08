-- The stages of a path pattern stand for its parts, and what completes the first state is what is allowed.
pub mod Counting
use Rattle.std.proofs.Common.{◌≡◌, List, [], ◌∷◌, ◌++◌, map, length, Contains, refl, ap, sym, ◌∙◌, subst, arith, append-nil}
use Rattle.std.specs.Prelude.{Option, Some, None}
use Rattle.pg_value.specs.declared.shape.ElemId.{ElemId}
use Rattle.pg_value.specs.declared.shape.Shapes.{Shapes}
use Rattle.pg_value.specs.Tables.{Tables}
use Rattle.pg_value.specs.Graph.{vertices}
use Rattle.pg_ast.specs.declared.pattern.Quant.{Quant}
use Rattle.pg_meaning.specs.declared.checked.CPart.{CPart}
use Rattle.pg_meaning.specs.declared.checked.CheckedPath.{CheckedPath}
use Rattle.pg_meaning.specs.Walks.{Graph, Hop, last_vertex, graph_of}
use Rattle.pg_meaning.specs.Rounds.{Round, round_of, quant_of}
use Rattle.pg_meaning.specs.Fits.{Mention, Fits, Agree, InRange, join, firsts, elements, seen_in, seen_in_rounds, singles, groups, lists_of}
use Rattle.pg_meaning.specs.Bindings.{Binding, IsAllowed}
use Rattle.pg_auto.specs.Stages.{counted, stage_of, stages_of}
use Rattle.pg_auto.specs.Counts.{Rest}
use Rattle.pg_auto.specs.States.{Walked, Completes, first_state, singles_in, groups_in, over_rounds, over_stages, binding_of}
use Rattle.pg_auto.specs.Allowed.{StagesFit, StartStands, IsWalked, task_of}
use Rattle.pg_auto.proofs.Stands.Counting.{fits_left, left_fits, ranged_enough, enough_ranged}

-- WHAT FITS

pub fits_rest : (g : Graph) (parts : List CPart) (v : ElemId) (cuts : List (List (List Hop))) → Fits g parts v cuts → Rest g (map stage_of parts) 0 v cuts
fits_rest g [] v [] f = tt
fits_rest g [] v (rounds ∷ cuts) f = absurd f
fits_rest g (part ∷ parts) v [] f = absurd f
fits_rest g (part ∷ parts) v (rounds ∷ cuts) f =
    (fits_left g (stage_of part) 0 v rounds (omega arith) (ranged_enough (quant_of part) (length rounds) f.0) f.1, fits_rest g parts (last_vertex v (join rounds)) cuts f.2)

pub rest_fits : (g : Graph) (parts : List CPart) (v : ElemId) (cuts : List (List (List Hop))) → Rest g (map stage_of parts) 0 v cuts → Fits g parts v cuts
rest_fits g [] v [] f = tt
rest_fits g [] v (rounds ∷ cuts) f = absurd f
rest_fits g (part ∷ parts) v [] f = absurd f
rest_fits g (part ∷ parts) v (rounds ∷ cuts) f =
    let l = left_fits g (stage_of part) 0 v rounds (omega arith) f.0 in
    (enough_ranged (quant_of part) (length rounds) l.0, l.1, rest_fits g parts (last_vertex v (join rounds)) cuts f.1)

pub stages_fit : StagesFit
stages_fit g path v cuts = (rest_fits g path.parts v cuts, fits_rest g path.parts v cuts)

-- WHAT IS NAMED

no_singles : (round : Round) (q : Quant) (v : ElemId) (rounds : List (List Hop)) → over_rounds singles_in (counted round (Some q)) v rounds ≡ []
no_singles round q v [] = refl
no_singles round q v (hops ∷ rounds) = no_singles round q (last_vertex v hops) rounds

no_groups : (round : Round) (v : ElemId) (rounds : List (List Hop)) → over_rounds groups_in (counted round None) v rounds ≡ []
no_groups round v [] = refl
no_groups round v (hops ∷ rounds) = no_groups round (last_vertex v hops) rounds

all_groups : (round : Round) (q : Quant) (v : ElemId) (rounds : List (List Hop)) → over_rounds groups_in (counted round (Some q)) v rounds ≡ seen_in_rounds round v rounds
all_groups round q v [] = refl
all_groups round q v (hops ∷ rounds) = ap (λ ms. firsts (seen_in round v hops) ++ ms) (all_groups round q (last_vertex v hops) rounds)

one_single : (round : Round) (v : ElemId) (rounds : List (List Hop)) → length rounds ≡ 1 → over_rounds singles_in (counted round None) v rounds ≡ seen_in round v (join rounds)
one_single round v [] n = absurd (omega arith)
one_single round v (hops ∷ []) n = append-nil (seen_in round v hops) ∙ ap (seen_in round v) (sym (append-nil hops))
one_single round v (hops ∷ more ∷ rounds) n = absurd (omega arith)

part_singles : (round : Round) (quant : Option Quant) (v : ElemId) (rounds : List (List Hop)) → InRange quant (length rounds)
    → over_rounds singles_in (counted round quant) v rounds ≡ elim quant [ None ↦ seen_in round v (join rounds) | Some q ↦ [] ]
part_singles round None v rounds n = one_single round v rounds n
part_singles round (Some q) v rounds n = no_singles round q v rounds

part_groups : (round : Round) (quant : Option Quant) (v : ElemId) (rounds : List (List Hop))
    → over_rounds groups_in (counted round quant) v rounds ≡ elim quant [ None ↦ [] | Some q ↦ seen_in_rounds round v rounds ]
part_groups round None v rounds = no_groups round v rounds
part_groups round (Some q) v rounds = all_groups round q v rounds

pub same_singles : (g : Graph) (parts : List CPart) (v : ElemId) (cuts : List (List (List Hop))) → Fits g parts v cuts → over_stages singles_in (map stage_of parts) v cuts ≡ singles parts v cuts
same_singles g [] v cuts f = refl
same_singles g (part ∷ parts) v [] f = refl
same_singles g (part ∷ parts) v (rounds ∷ cuts) f =
    let p = part_singles (round_of part) (quant_of part) v rounds f.0 in
    let r = same_singles g parts (last_vertex v (join rounds)) cuts f.2 in
    λ i. p i ++ r i

pub same_groups : (parts : List CPart) (v : ElemId) (cuts : List (List (List Hop))) → over_stages groups_in (map stage_of parts) v cuts ≡ groups parts v cuts
same_groups [] v cuts = refl
same_groups (part ∷ parts) v [] = refl
same_groups (part ∷ parts) v (rounds ∷ cuts) =
    let p = part_groups (round_of part) (quant_of part) v rounds in
    let r = same_groups parts (last_vertex v (join rounds)) cuts in
    λ i. p i ++ r i

-- WHAT IS ALLOWED

module _ (shapes : Shapes) (tables : Tables) (path : CheckedPath) where
  abbrev graph : Graph
  graph = graph_of shapes path.graph tables

  abbrev named_singles : ElemId → List (List (List Hop)) → List Mention
  named_singles v cuts = over_stages singles_in (stages_of path) v cuts

  abbrev named_groups : ElemId → List (List (List Hop)) → List Mention
  named_groups v cuts = over_stages groups_in (stages_of path) v cuts

  -- the lists are those of the cuts
  same_lists : (v : ElemId) (cuts : List (List (List Hop))) → Fits graph path.parts v cuts
      → map (elements (firsts (named_singles v cuts) ++ named_groups v cuts)) path.vars ≡ map (lists_of path.parts v cuts) path.vars
  same_lists v cuts f = λ i. map (elements (firsts (same_singles graph path.parts v cuts f i) ++ same_groups path.parts v cuts i)) path.vars

  allowed_walked : (b : Binding) → IsAllowed graph path b → IsWalked (task_of shapes tables path b.start) path.vars b
  allowed_walked b a =
      let cuts = a.binding.cuts in
      let fits = a.binding.fits in
      let vars = a.binding.vars ∙ sym (same_lists b.start cuts fits) in record {
        walk = record { hops = b.hops; singles = named_singles b.start cuts; groups = named_groups b.start cuts };
        completes = record {
          cuts = cuts;
          left = fits_rest graph path.parts b.start cuts fits;
          hops = a.binding.hops;
          singles = refl;
          groups = refl;
          agree = subst Agree (sym (same_singles graph path.parts b.start cuts fits)) a.binding.agree;
          permitted = a.permitted;
        };
        binding = λ i. record { start = b.start; hops = b.hops; vars = vars i };
      }

  walked_allowed : (start : ElemId) → Contains (vertices path.graph tables) start → (w : Walked) → Completes (task_of shapes tables path start) (first_state start) w
      → IsAllowed graph path (binding_of start path.vars w)
  walked_allowed start c w k =
      let fits = rest_fits graph path.parts start k.cuts k.left in record {
        binding = record {
          start = c;
          cuts = k.cuts;
          hops = k.hops;
          fits = fits;
          agree = subst Agree (k.singles ∙ same_singles graph path.parts start k.cuts fits) k.agree;
          vars = (λ i. map (elements (firsts (k.singles i) ++ k.groups i)) path.vars) ∙ same_lists start k.cuts fits;
        };
        permitted = k.permitted;
      }

pub start_stands : StartStands
start_stands shapes tables path start c b = (
  λ a. subst (λ v. IsWalked (task_of shapes tables path v) path.vars b) a.1 (allowed_walked shapes tables path b a.0),
  λ w. subst (λ (z : Binding). IsAllowed (graph_of shapes path.graph tables) path z × (z.start ≡ start)) (sym w.binding) (walked_allowed shapes tables path start c w.walk w.completes, refl),
)
