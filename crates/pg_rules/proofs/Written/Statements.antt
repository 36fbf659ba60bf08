-- What the grammar gives of definitions, changes, queries and statements.
use Rattle.std.proofs.Common.{◌≡◌, ◌+◌, ◌≤◌, ℕ, refl, sym, ◌∙◌, subst, arith, length, length-append, List, [], ◌∷◌, ◌++◌, map, inl, inr, Option, Some, None}
use Rattle.std.specs.Prelude.{filter, option_to_list, flat_map, IfSome}
use Rattle.pg_keyed.specs.Lists.{Each, each_append, each_map}
use Rattle.pg_ast.specs.declared.expr.Name.{Name}
use Rattle.pg_ast.specs.declared.expr.Whole.{Whole}
use Rattle.pg_ast.specs.declared.item.Mark.{Mark}
use Rattle.pg_ast.specs.declared.item.Item.{Item}
use Rattle.pg_ast.specs.declared.define.Define.{Define}
use Rattle.pg_ast.specs.declared.chain.Chain.{Chain}
use Rattle.pg_ast.specs.declared.pattern.Arrow.{Arrow}
use Rattle.pg_ast.specs.declared.pattern.Filler.{Filler}
use Rattle.pg_ast.specs.declared.pattern.Part.{Part}
use Rattle.pg_ast.specs.declared.pattern.Part.TheVariants.{Edge}
use Rattle.pg_ast.specs.declared.pattern.PathPattern.{PathPattern}
use Rattle.pg_ast.specs.declared.pattern.ColumnItem.{ColumnItem}
use Rattle.pg_ast.specs.declared.pattern.Query.{Query}
use Rattle.pg_ast.specs.declared.statement.InsertTuple.{InsertTuple}
use Rattle.pg_ast.specs.declared.statement.Insert.{Insert}
use Rattle.pg_ast.specs.declared.statement.SetItem.{SetItem}
use Rattle.pg_ast.specs.declared.statement.Update.{Update}
use Rattle.pg_ast.specs.declared.statement.Delete.{Delete}
use Rattle.pg_ast.specs.declared.statement.Statement.{Statement}
use Rattle.pg_ast.specs.Trees.{tree_of}
use Rattle.pg_ast.specs.Words.Names as word
use Rattle.pg_ast.specs.Words.Terminals.{Terminal, Tokens}
use Rattle.pg_ast.specs.Grammar.Rule.{Then, ◌>>=◌, give, the, ◌or◌, times}
use Rattle.pg_ast.specs.Grammar.Names.{name, names}
use Rattle.pg_ast.specs.Grammar.Definitions.{create_table, create_graph, item, keys_of, is_primary}
use Rattle.pg_ast.specs.Grammar.Changes as changes
use Rattle.pg_ast.specs.Grammar.Patterns.{condition, filler, node, bracket, edge, link, chain, group, block, next_block, parts, path}
use Rattle.pg_ast.specs.Grammar.Queries.{column, column_list, inside, bare_query, query}
use Rattle.pg_ast.specs.Grammar.{body, IsStatement}
use Rattle.pg_rules.specs.Changes.{OfInsert, OfUpdate, OfDelete}
use Rattle.pg_rules.specs.Queries.Collections.{Inner, inner_if, inner_of, inner_in, named, parts_of, inner_conditions, inner, outer}
use Rattle.pg_rules.specs.Written.{IsWrittenDefinition, HasBits, IsChangeTree, IsInsertTree, IsWrittenPart, IsWrittenQuery, IsWrittenChange, IsWritten, StatementsAreWritten}
use Rattle.pg_rules.proofs.Written.Rules.{repeat_keeps, listed_keeps, optional_keeps}
use Rattle.pg_rules.proofs.Written.Exprs.{insert_whole, change_whole, query_whole}
use Rattle.pg_rules.proofs.Accepted.Lists.{each_over}

-- DEFINITIONS

-- a key names a column
abbrev KeyWritten : List Name → Type 0
KeyWritten key = 1 ≤ length key

one_more : (sep : Terminal) (n : ℕ) (xs ys : List Name) (ts : Tokens) → KeyWritten xs → times n (λ zs. the sep >>= λ _. name >>= λ y. give (zs ++ y ∷ [])) xs ys ts → KeyWritten ys
one_more sep n xs ys ts g h = repeat_keeps KeyWritten (λ zs. the sep >>= λ _. name >>= λ y. give (zs ++ y ∷ [])) next n xs ys ts g h
  where
    next : (zs us : List Name) (vs : Tokens) → KeyWritten zs → Then (the sep) (λ _. name >>= λ y. give (zs ++ y ∷ [])) us vs → KeyWritten us
    next zs us vs k m = let l = length-append zs (m.goes_on.first ∷ []) in subst KeyWritten (sym m.goes_on.goes_on.0) (omega (arith, l))

names_written : (ns : List Name) (ts : Tokens) → names ns ts → KeyWritten ns
names_written ns ts h =
    let k = h.goes_on in
    subst KeyWritten (sym k.goes_on.goes_on.0) (one_more word.comma k.begins.goes_on.0 (k.begins.first ∷ []) k.first k.begins.back (omega arith) k.begins.goes_on.1)

abbrev ItemWritten : Item → Type 0
ItemWritten i = Each KeyWritten (keys_of i)

item_written : (i : Item) (ts : Tokens) → item i ts → ItemWritten i
item_written i ts (inl h) = let k = h.goes_on.goes_on in subst ItemWritten (sym k.goes_on.0) (names_written k.first k.front k.begins, tt)
item_written i ts (inr h) = let k = h.goes_on.goes_on in subst ItemWritten (sym k.goes_on.0) (marks h.first k.first)
  where
    marks : (n : Name) (ms : List Mark) → Each KeyWritten (map (λ _. n ∷ []) (filter is_primary ms))
    marks n ms = each (filter is_primary ms)
      where
        each : (ks : List Mark) → Each KeyWritten (map (λ _. n ∷ []) ks)
        each [] = tt
        each (k ∷ ks) = (omega arith, each ks)

keys_written : (is : List Item) → Each ItemWritten is → Each KeyWritten (flat_map keys_of is)
keys_written [] h = tt
keys_written (i ∷ is) h = each_append KeyWritten (keys_of i) (flat_map keys_of is) h.0 (keys_written is h.1)

definition_written : (d : Define) (ts : Tokens) → (create_table or create_graph) d ts → IsWrittenDefinition d
definition_written d ts (inl h) =
    let is = h.goes_on.goes_on.goes_on in
    let items = is.begins.goes_on in
    let each = listed_keeps ItemWritten word.comma item item_written items.first items.front items.begins in
    subst IsWrittenDefinition (sym is.goes_on.0) (keys_written is.first (subst (Each ItemWritten) (sym items.goes_on.goes_on.0) each))
definition_written d ts (inr h) = subst IsWrittenDefinition (sym h.goes_on.goes_on.goes_on.goes_on.goes_on.goes_on.0) tt

-- CHANGES

tuple_written : (t : InsertTuple) (ts : Tokens) → changes.tuple t ts → Each (λ (w : Whole). IsInsertTree (tree_of w.expr)) t.values
tuple_written t ts h =
    let vs = h.goes_on in
    subst (λ (t : InsertTuple). Each (λ (w : Whole). IsInsertTree (tree_of w.expr)) t.values) (sym vs.goes_on.goes_on.0)
    (listed_keeps (λ (w : Whole). IsInsertTree (tree_of w.expr)) word.comma _ insert_whole vs.first vs.front vs.begins)

insert_written : (i : Insert) (ts : Tokens) → changes.insert i ts → IsWrittenChange (OfInsert i)
insert_written i ts h =
    let tuples = h.goes_on.goes_on.goes_on.goes_on.goes_on in
    subst (λ (i : Insert). IsWrittenChange (OfInsert i)) (sym tuples.goes_on.0)
    (listed_keeps (λ (t : InsertTuple). Each (λ (w : Whole). IsInsertTree (tree_of w.expr)) t.values) word.comma changes.tuple tuple_written tuples.first tuples.front tuples.begins)

set_written : (s : SetItem) (ts : Tokens) → changes.set_item s ts → IsChangeTree (tree_of s.value.expr)
set_written s ts h =
    let v = h.goes_on.goes_on in
    subst (λ (s : SetItem). IsChangeTree (tree_of s.value.expr)) (sym v.goes_on.0) (change_whole v.first v.front v.begins)

abbrev ConditionWritten : Option Whole → Type 0
ConditionWritten o = Each (λ (w : Whole). IsChangeTree (tree_of w.expr)) (option_to_list o)

change_condition : (w : Whole) (ts : Tokens) → changes.condition w ts → ConditionWritten (Some w)
change_condition w ts h = (change_whole w h.back h.goes_on, tt)

update_written : (u : Update) (ts : Tokens) → changes.update u ts → IsWrittenChange (OfUpdate u)
update_written u ts h =
    let sets = h.goes_on.goes_on.goes_on in
    let c = sets.goes_on in
    subst (λ (u : Update). IsWrittenChange (OfUpdate u)) (sym c.goes_on.0) (
      listed_keeps (λ (s : SetItem). IsChangeTree (tree_of s.value.expr)) word.comma changes.set_item set_written sets.first sets.front sets.begins,
      optional_keeps ConditionWritten changes.condition change_condition tt c.first c.front c.begins,
    )

delete_written : (x : Delete) (ts : Tokens) → changes.delete x ts → IsWrittenChange (OfDelete x)
delete_written x ts h =
    let c = h.goes_on.goes_on.goes_on in
    subst (λ (x : Delete). IsWrittenChange (OfDelete x)) (sym c.goes_on.0) (optional_keeps ConditionWritten changes.condition change_condition tt c.first c.front c.begins)

-- NODES AND EDGES

-- the condition of a node, an edge or a group
abbrev Bits : Inner → Type 0
Bits i = HasBits (tree_of i.condition.expr)

abbrev OptionBits : Option Whole → Type 0
OptionBits o = IfSome o (λ (w : Whole). HasBits (tree_of w.expr))

abbrev FillerBits : Filler → Type 0
FillerBits f = OptionBits f.cond

condition_bits : (o : Option Whole) (ts : Tokens) → condition o ts → OptionBits o
condition_bits o ts h = optional_keeps OptionBits _ (λ w us k. query_whole w k.back k.goes_on) tt o ts h

filler_bits : (at : ℕ) (f : Filler) (ts : Tokens) → filler at f ts → FillerBits f
filler_bits at f ts h =
    let c = h.goes_on.goes_on in
    subst FillerBits (sym c.goes_on.0) (condition_bits c.first c.front c.begins)

node_bits : (f : Filler) (ts : Tokens) → node f ts → FillerBits f
node_bits f ts h =
    let k = h.goes_on in
    subst FillerBits (sym k.goes_on.goes_on.0) (filler_bits h.first.from k.first k.front k.begins)

bracket_bits : (at : ℕ) (f : Filler) (ts : Tokens) → bracket at f ts → FillerBits f
bracket_bits at f ts h =
    let k = h.goes_on in
    subst FillerBits (sym k.goes_on.goes_on.0) (filler_bits at k.first k.front k.begins)

abbrev EdgeBits : Arrow × Filler → Type 0
EdgeBits e = FillerBits e.1

edge_bits : (e : Arrow × Filler) (ts : Tokens) → edge e ts → EdgeBits e
edge_bits e ts (inl h) = let k = h.goes_on in subst EdgeBits (sym k.goes_on.goes_on.goes_on.0) (bracket_bits h.first.from k.first k.front k.begins)
edge_bits e ts (inr (inl h)) = let k = h.goes_on.goes_on in subst EdgeBits (sym k.goes_on.goes_on.0) (bracket_bits h.first.from k.first k.front k.begins)
edge_bits e ts (inr (inr (inl h))) = let k = h.goes_on in subst EdgeBits (sym k.goes_on.goes_on.0) (bracket_bits h.first.from k.first k.front k.begins)
edge_bits e ts (inr (inr (inr (inl h)))) = subst EdgeBits (sym h.goes_on.goes_on.0) tt
edge_bits e ts (inr (inr (inr (inr (inl h))))) = subst EdgeBits (sym h.goes_on.goes_on.0) tt
edge_bits e ts (inr (inr (inr (inr (inr h))))) = subst EdgeBits (sym h.goes_on.0) tt

-- GROUPS

-- nodes with edges between them
record IsChain (c : Chain) : Type 0 where
  nodes : Each FillerBits c.nodes
  edges : Each FillerBits c.edges
  one_more : length c.nodes ≡ length c.edges + 1
  arrows : length c.arrows ≡ length c.edges

-- of an edge at least
record IsLinked (c : Chain) : Type 0 where
  chain : IsChain c
  some : 1 ≤ length c.edges

link_keeps : (c x : Chain) (ts : Tokens) → IsChain c → link c x ts → IsLinked x
link_keeps c x ts g h =
    let e = h.first in
    let k = h.goes_on in
    let f = k.first in
    let n : length (c.nodes ++ f ∷ []) ≡ length c.nodes + 1 = length-append c.nodes (f ∷ []) in
    let m : length (c.edges ++ e.1 ∷ []) ≡ length c.edges + 1 = length-append c.edges (e.1 ∷ []) in
    let a : length (c.arrows ++ e.0 ∷ []) ≡ length c.arrows + 1 = length-append c.arrows (e.0 ∷ []) in
    let one_more = g.one_more in
    let arrows = g.arrows in
    subst IsLinked (sym k.goes_on.0) (record {
      chain = record {
        nodes = each_append FillerBits c.nodes (f ∷ []) g.nodes (node_bits f k.front k.begins, tt);
        edges = each_append FillerBits c.edges (e.1 ∷ []) g.edges (edge_bits e h.front h.begins, tt);
        one_more = omega (arith, n, m, one_more);
        arrows = omega (arith, a, m, arrows);
      };
      some = omega (arith, m);
    })

chain_linked : (c : Chain) (ts : Tokens) → chain c ts → IsLinked c
chain_linked c ts h =
    let k = h.goes_on in
    let first : IsChain (record { nodes = h.first ∷ []; arrows = []; edges = [] }) = record { nodes = (node_bits h.first h.front h.begins, tt); edges = tt; one_more = refl; arrows = refl } in
    repeat_keeps IsLinked link (λ x y us g l. link_keeps x y us g.chain l) k.goes_on.0 k.first c k.back (link_keeps (record { nodes = h.first ∷ []; arrows = []; edges = [] }) k.first k.front first k.begins) k.goes_on.1

-- PARTS

record IsPart (p : Part) : Type 0 where
  shape : IsWrittenPart p
  bits : Each Bits (inner_in p)

if_bits : (o : Option Whole) (own : List Name) → OptionBits o → Each Bits (inner_if o own)
if_bits None own h = tt
if_bits (Some w) own h = (h, tt)

fillers_bits : (fs : List Filler) → Each FillerBits fs → Each Bits (flat_map inner_of fs)
fillers_bits [] h = tt
fillers_bits (f ∷ fs) h = each_append Bits (inner_of f) (flat_map inner_of fs) (if_bits f.cond (option_to_list f.var) h.0) (fillers_bits fs h.1)

one_part : (f : Filler) → FillerBits f → Each Bits (flat_map inner_of (f ∷ []) ++ [])
one_part f h = each_append Bits (flat_map inner_of (f ∷ [])) [] (fillers_bits (f ∷ []) (h, tt)) tt

group_part : (p : Part) (ts : Tokens) → group p ts → IsPart p
group_part p ts h =
    let c = h.goes_on in
    let w = c.goes_on in
    let q = w.goes_on.goes_on in
    let l : IsLinked c.first = chain_linked c.first c.front c.begins in
    let fillers : Each FillerBits (c.first.nodes ++ c.first.edges) = each_append FillerBits c.first.nodes c.first.edges l.chain.nodes l.chain.edges in
    subst IsPart (sym q.goes_on.0) (record {
      shape = (l.chain.one_more, l.chain.arrows, l.some);
      bits = each_append Bits (flat_map inner_of (c.first.nodes ++ c.first.edges)) (inner_if w.first (named (c.first.nodes ++ c.first.edges)))
          (fillers_bits (c.first.nodes ++ c.first.edges) fillers) (if_bits w.first (named (c.first.nodes ++ c.first.edges)) (condition_bits w.first w.front w.begins));
    })

block_part : (p : Part) (ts : Tokens) → block p ts → IsPart p
block_part p ts (inl h) = subst IsPart (sym h.goes_on.0) (record { shape = tt; bits = one_part h.first (node_bits h.first h.front h.begins) })
block_part p ts (inr h) = group_part p ts h

next_part : (ps qs : List Part) (ts : Tokens) → Each IsPart ps → next_block ps qs ts → Each IsPart qs
next_part ps qs ts g (inl h) =
    let e = h.first in
    let q = h.goes_on in
    let b = q.goes_on in
    let own : IsPart (Edge e.0 e.1 q.first) = record { shape = tt; bits = one_part e.1 (edge_bits e h.front h.begins) } in
    subst (Each IsPart) (sym b.goes_on.0) (each_append IsPart ps (Edge e.0 e.1 q.first ∷ b.first ∷ []) g (own, (block_part b.first b.front b.begins, tt)))
next_part ps qs ts g (inr h) = subst (Each IsPart) (sym h.goes_on.0) (each_append IsPart ps (h.first ∷ []) g (block_part h.first h.front h.begins, tt))

parts_are : (ps : List Part) (ts : Tokens) → parts ps ts → Each IsPart ps
parts_are ps ts h = repeat_keeps (Each IsPart) next_block next_part h.goes_on.0 (h.first ∷ []) ps h.back (block_part h.first h.front h.begins, tt) h.goes_on.1

abbrev PathParts : PathPattern → Type 0
PathParts p = Each IsPart p.parts

path_parts : (p : PathPattern) (ts : Tokens) → path p ts → PathParts p
path_parts p ts h =
    let ps = h.goes_on.goes_on.goes_on in
    subst PathParts (sym ps.goes_on.0) (parts_are ps.first ps.front ps.begins)

-- QUERIES

abbrev ColumnBits : ColumnItem → Type 0
ColumnBits c = HasBits (tree_of c.expr.expr)

column_bits : (c : ColumnItem) (ts : Tokens) → column c ts → ColumnBits c
column_bits c ts (inl h) = subst ColumnBits (sym h.goes_on.goes_on.goes_on.0) (query_whole h.first h.front h.begins)
column_bits c ts (inr h) = subst ColumnBits (sym h.goes_on.goes_on.goes_on.0) tt

columns_bits : (cs : List ColumnItem) (ts : Tokens) → column_list cs ts → Each ColumnBits cs
columns_bits cs ts h =
    let k = h.goes_on.goes_on in
    subst (Each ColumnBits) (sym k.goes_on.goes_on.0) (listed_keeps ColumnBits _ column column_bits k.first k.front k.begins)

all_parts : (ps : List PathPattern) → Each PathParts ps → Each IsPart (flat_map (λ (p : PathPattern). p.parts) ps)
all_parts [] h = tt
all_parts (p ∷ ps) h = each_append IsPart p.parts (flat_map (λ (p : PathPattern). p.parts) ps) h.0 (all_parts ps h.1)

all_inner : (ps : List Part) → Each IsPart ps → Each Bits (flat_map inner_in ps)
all_inner [] h = tt
all_inner (p ∷ ps) h = each_append Bits (inner_in p) (flat_map inner_in ps) h.0.bits (all_inner ps h.1)

final_bits : (o : Option Whole) → OptionBits o → Each HasBits (map (λ (w : Whole). tree_of w.expr) (option_to_list o))
final_bits None h = tt
final_bits (Some w) h = (h, tt)

query_of : (q : Query) → Each PathParts q.paths → OptionBits q.cond → Each ColumnBits q.columns → IsWrittenQuery q
query_of q ps c cs =
    let all : Each IsPart (parts_of q) = all_parts q.paths ps in
    record {
      groups = each_map IsPart IsWrittenPart (λ p h. h.shape) (parts_of q) all;
      literals = each_append HasBits (inner q) (outer q) (each_over HasBits (λ (i : Inner). tree_of i.condition.expr) (inner_conditions q) (all_inner (parts_of q) all))
          (each_append HasBits (map (λ (w : Whole). tree_of w.expr) (option_to_list q.cond)) (map (λ (c : ColumnItem). tree_of c.expr.expr) q.columns) (final_bits q.cond c)
          (each_over HasBits (λ (c : ColumnItem). tree_of c.expr.expr) q.columns cs));
    }

inside_written : (q : Query) (ts : Tokens) → inside q ts → IsWrittenQuery q
inside_written q ts h =
    let ps = h.goes_on.goes_on in
    let c = ps.goes_on in
    let cs = c.goes_on in
    subst IsWrittenQuery (sym cs.goes_on.0)
    (query_of (record { graph = h.first; paths = ps.first; cond = c.first; columns = cs.first }) (listed_keeps PathParts _ path path_parts ps.first ps.front ps.begins)
    (condition_bits c.first c.front c.begins) (columns_bits cs.first cs.front cs.begins))

bare_written : (q : Query) (ts : Tokens) → bare_query q ts → IsWrittenQuery q
bare_written q ts h =
    let k = h.goes_on.goes_on in
    subst IsWrittenQuery (sym k.goes_on.goes_on.0) (inside_written k.first k.front k.begins)

pub query_written : (q : Query) (ts : Tokens) → query q ts → IsWrittenQuery q
query_written q ts (inl h) = subst IsWrittenQuery (sym h.goes_on.goes_on.0) (bare_written h.first h.front h.begins)
query_written q ts (inr h) = bare_written q ts h

-- STATEMENTS

body_written : (s : Statement) (ts : Tokens) → body s ts → IsWritten s
body_written s ts (inl h) = subst IsWritten (sym h.goes_on.0) (definition_written h.first h.front h.begins)
body_written s ts (inr (inl h)) = subst IsWritten (sym h.goes_on.0) (insert_written h.first h.front h.begins)
body_written s ts (inr (inr (inl h))) = subst IsWritten (sym h.goes_on.0) (update_written h.first h.front h.begins)
body_written s ts (inr (inr (inr (inl h)))) = subst IsWritten (sym h.goes_on.0) (delete_written h.first h.front h.begins)
body_written s ts (inr (inr (inr (inr (inl h))))) = subst IsWritten (sym h.goes_on.0) (query_written h.first h.front h.begins)
body_written s ts (inr (inr (inr (inr (inr (inl h)))))) = subst IsWritten (sym h.goes_on.goes_on.0) tt
body_written s ts (inr (inr (inr (inr (inr (inr (inl h))))))) = subst IsWritten (sym h.goes_on.goes_on.0) tt
body_written s ts (inr (inr (inr (inr (inr (inr (inr (inl h)))))))) = subst IsWritten (sym h.goes_on.goes_on.0) tt
body_written s ts (inr (inr (inr (inr (inr (inr (inr (inr h)))))))) = subst IsWritten (sym h.goes_on.goes_on.0) tt

pub statements_are_written : StatementsAreWritten
unfolding IsStatement
statements_are_written s ts h =
    let k = h.begins in
    subst IsWritten (sym (h.goes_on.goes_on.0 ∙ k.goes_on.goes_on.0)) (body_written k.first k.front k.begins)
