-- The rules of edges, quantifiers, blocks and path words with their common fronts taken out.
use Rattle.std.proofs.Common.{ℕ, Some, None, inl, inr}
use Rattle.pg_ast.specs.declared.pattern.Filler.{Filler}
use Rattle.pg_ast.specs.declared.pattern.Arrow.{Arrow}
use Rattle.pg_ast.specs.declared.pattern.Arrow.TheVariants.{Right, Left, Either}
use Rattle.pg_ast.specs.declared.pattern.Quant.{Quant}
use Rattle.pg_ast.specs.declared.pattern.Part.{Part}
use Rattle.pg_ast.specs.declared.pattern.Part.TheVariants.{Node, Group}
use Rattle.pg_ast.specs.declared.pattern.Mode.{Mode}
use Rattle.pg_ast.specs.declared.pattern.Mode.TheVariants.{Walk, Trail, Acyclic, Simple}
use Rattle.pg_ast.specs.declared.pattern.Selector.{Selector}
use Rattle.pg_ast.specs.declared.pattern.Selector.TheVariants.{Every, Any, AnyShortest, AllShortest}
use Rattle.pg_ast.specs.Grammar.Rule.{Rule, ◌>>=◌, give, the, ◌or◌}
use Rattle.pg_ast.specs.Grammar.Patterns.{condition, filler, bracket, bare, number, chain}
use Rattle.pg_ast.specs.Grammar.Parts.{optional}
use Rattle.pg_ast.specs.Grammar.Patterns as grammar
use Rattle.pg_ast.specs.Words.Patterns as word
use Rattle.pg_pattern.specs.Laws.Rules.{Same, again, from_left, from_right}

-- EDGES

-- behind '-', and behind '-' '[' filler ']' '-'
abbrev pub ended : Filler → Rule (Arrow × Filler)
ended f = (the word.greater >>= λ _. give (Right, f)) or give (Either, f)

-- behind '-'
abbrev pub after_minus : ℕ → Rule (Arrow × Filler)
after_minus at =
    (do
      f ← bracket at
      _ ← the word.minus
      ended f)
    or ended (bare at)

-- behind '<' '-'
abbrev pub pointed_left : ℕ → Rule (Arrow × Filler)
pointed_left at =
    (do
      f ← bracket at
      _ ← the word.minus
      give (Left, f))
    or give (Left, bare at)

abbrev pub edge : Rule (Arrow × Filler)
edge =
    (the word.minus >>= λ t. after_minus t.from)
    or (do
      t ← the word.less
      _ ← the word.minus
      pointed_left t.from)

pub same-edge : Same edge grammar.edge
same-edge = record {
  there = λ y u h. elim h [
    | inl k ↦ elim k.goes_on [
      | inl b ↦ elim b.goes_on.goes_on [
        | inl g ↦ inl (again k (again b (again b.goes_on g)))
        | inr g ↦ inr (inr (inl (again k (again b (again b.goes_on g)))))
      ]
      | inr e ↦ elim e [
        | inl g ↦ inr (inr (inr (inl (again k g))))
        | inr g ↦ inr (inr (inr (inr (inr (again k g)))))
      ]
    ]
    | inr k ↦ elim k.goes_on.goes_on [
      | inl b ↦ inr (inl (again k (again k.goes_on b)))
      | inr g ↦ inr (inr (inr (inr (inl (again k (again k.goes_on g))))))
    ]
  ];
  back = λ y u h. elim h [
    | inl k ↦ inl (again k (inl (again k.goes_on (again k.goes_on.goes_on (inl k.goes_on.goes_on.goes_on)))))
    | inr h ↦ elim h [
      | inl k ↦ inr (again k (again k.goes_on (inl k.goes_on.goes_on)))
      | inr h ↦ elim h [
        | inl k ↦ inl (again k (inl (again k.goes_on (again k.goes_on.goes_on (inr k.goes_on.goes_on.goes_on)))))
        | inr h ↦ elim h [
          | inl k ↦ inl (again k (inr (inl k.goes_on)))
          | inr h ↦ elim h [
            | inl k ↦ inr (again k (again k.goes_on (inr k.goes_on.goes_on)))
            | inr k ↦ inl (again k (inr (inr k.goes_on)))
          ]
        ]
      ]
    ]
  ];
}

-- QUANTIFIERS

-- behind '{' number
abbrev pub after_number : ℕ → ℕ → Rule Quant
after_number at n =
    (do
      _ ← the word.comma
      m ← optional number
      _ ← the word.right_brace
      give (record { low = n; high = m; at = at }))
    or (the word.right_brace >>= λ _. give (record { low = n; high = Some n; at = at }))

-- behind '{'
abbrev pub after_brace : ℕ → Rule Quant
after_brace at =
    (do
      _ ← the word.comma
      m ← number
      _ ← the word.right_brace
      give (record { low = 0; high = Some m; at = at }))
    or (number >>= after_number at)

abbrev pub quant : Rule Quant
quant =
    (the word.left_brace >>= λ t. after_brace t.from)
    or (the word.star >>= λ t. give (record { low = 0; high = None; at = t.from }))
    or (the word.plus >>= λ t. give (record { low = 1; high = None; at = t.from }))

pub same-quant : Same quant grammar.quant
same-quant = record {
  there = λ y u h. elim h [
    | inl k ↦ elim k.goes_on [
      | inl g ↦ inr (inr (inl (again k g)))
      | inr n ↦ elim n.goes_on [
        | inl g ↦ inr (inl (again k (again n g)))
        | inr g ↦ inl (again k (again n g))
      ]
    ]
    | inr h ↦ elim h [
      | inl g ↦ inr (inr (inr (inl g)))
      | inr g ↦ inr (inr (inr (inr g)))
    ]
  ];
  back = λ y u h. elim h [
    | inl k ↦ inl (again k (inr (again k.goes_on (inr k.goes_on.goes_on))))
    | inr h ↦ elim h [
      | inl k ↦ inl (again k (inr (again k.goes_on (inl k.goes_on.goes_on))))
      | inr h ↦ elim h [
        | inl k ↦ inl (again k (inl k.goes_on))
        | inr h ↦ elim h [
          | inl g ↦ inr (inl g)
          | inr g ↦ inr (inr g)
        ]
      ]
    ]
  ];
}

-- BLOCKS

-- behind a node's '('
abbrev pub node_rest : ℕ → Rule Filler
node_rest at = do
  f ← filler at
  _ ← the word.close
  give f

-- behind a group's '('
abbrev pub group_rest : Rule Part
group_rest = do
  c ← chain
  w ← condition
  _ ← the word.close
  q ← optional grammar.quant
  give (Group c.nodes c.arrows c.edges w q)

-- behind '('
abbrev pub block_rest : ℕ → Rule Part
block_rest at = group_rest or (node_rest at >>= λ f. give (Node f))

abbrev pub block : Rule Part
block = the word.opening >>= λ t. block_rest t.from

pub same-block : Same block grammar.block
same-block = record {
  there = λ y u k. elim k.goes_on [
    | inl g ↦ inr (again k g)
    | inr n ↦ inl (from_right (again k n))
  ];
  back = λ y u h. elim h [
    | inl n ↦ let k = from_left n in again k (inr k.goes_on)
    | inr g ↦ again g (inl g.goes_on)
  ];
}

-- THE WORDS OF PATHS

abbrev pub selector : Rule Selector
selector =
    (do
      _ ← the word.any_word
      (the word.shortest >>= λ _. give AnyShortest) or give Any)
    or (do
      _ ← the word.all_word
      _ ← the word.shortest
      give AllShortest)
    or give Every

pub same-selector : Same selector (grammar.selector or give Every)
same-selector = record {
  there = λ y u h. elim h [
    | inl k ↦ elim k.goes_on [
      | inl g ↦ inl (inl (again k g))
      | inr g ↦ inl (inr (inl (again k g)))
    ]
    | inr h ↦ elim h [
      | inl g ↦ inl (inr (inr g))
      | inr g ↦ inr g
    ]
  ];
  back = λ y u h. elim h [
    | inl h ↦ elim h [
      | inl k ↦ inl (again k (inl k.goes_on))
      | inr h ↦ elim h [
        | inl k ↦ inl (again k (inr k.goes_on))
        | inr g ↦ inr (inl g)
      ]
    ]
    | inr g ↦ inr (inr g)
  ];
}

abbrev pub mode : Rule Mode
mode =
    (the word.walk >>= λ _. give Walk)
    or (the word.trail >>= λ _. give Trail)
    or (the word.acyclic >>= λ _. give Acyclic)
    or (the word.simple >>= λ _. give Simple)
    or give Walk

pub same-mode : Same mode (grammar.mode or give Walk)
same-mode = record {
  there = λ y u h. elim h [
    | inl g ↦ inl (inl g)
    | inr h ↦ elim h [
      | inl g ↦ inl (inr (inl g))
      | inr h ↦ elim h [
        | inl g ↦ inl (inr (inr (inl g)))
        | inr h ↦ elim h [
          | inl g ↦ inl (inr (inr (inr g)))
          | inr g ↦ inr g
        ]
      ]
    ]
  ];
  back = λ y u h. elim h [
    | inl h ↦ elim h [
      | inl g ↦ inl g
      | inr h ↦ elim h [
        | inl g ↦ inr (inl g)
        | inr h ↦ elim h [
          | inl g ↦ inr (inr (inl g))
          | inr g ↦ inr (inr (inr (inl g)))
        ]
      ]
    ]
    | inr g ↦ inr (inr (inr (inr g)))
  ];
}
