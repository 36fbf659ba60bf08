-- Functions that are handed on to be called as readers.
use Rattle.std.specs.Prelude.{Result}
use Rattle.std.specs.declared.alloc.Global.{Global}
use denote.Ref.{MutBor}
use Rattle.pg_grammar.specs.declared.fault.Fault.{Fault}
use Rattle.pg_ast.specs.Words.Terminals.{Tokens}
use Rattle.pg_grammar.specs.Kit.Reading.{Parser, Reads}

-- it may be called at any cursor
pub record IsCallable (pre : Global → MutBor Tokens → Type 0) : Type 0 where
  pub callable : (alloc : Global) (old : MutBor Tokens) → pre alloc old

-- each call reads what p reads
pub record IsReader {T : Type 0} (p : Parser T) (post : Global → MutBor Tokens → Result T Fault → MutBor Tokens → Type 0) : Type 0 where
  pub reads : (alloc : Global) (old new : MutBor Tokens) (r : Result T Fault) → post alloc old r new → Reads (p old.now) r new.now
