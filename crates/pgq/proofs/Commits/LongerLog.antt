-- A log that grows by one commit: the tables after it, what it holds, and that a commit from its end meets no conflict.
use Rattle.std.proofs.Common.{◌≡◌, ℕ, ◌+◌, List, [], ◌∷◌, ◌++◌, length, refl, ap, sym, ◌∙◌, arith}
use Rattle.std.proofs.lemmas.List.{take_all, drop_all}
use Rattle.std.specs.declared.option.Option.TheVariants.{None}
use Rattle.pg_value.specs.declared.write.Write.{Write}
use Rattle.pg_value.specs.declared.write.Commit.{Commit}
use Rattle.pg_value.specs.Tables.{Tables}
use Rattle.pg_value.specs.Log.{put, puts, after, held, conflict, conflict_after}

puts_more : (tables : Tables) (log : List Commit) (c : Commit) → puts tables (log ++ c ∷ []) ≡ put (puts tables log) c.writes.list
puts_more tables [] c = refl
puts_more tables (d ∷ log) c = puts_more (put tables d.writes.list) log c

pub after_whole : (log : List Commit) → after log (length log) ≡ puts [] log
after_whole log = ap (puts []) (take_all (length log) log (omega arith))

pub after_more : (log : List Commit) (c : Commit) → after (log ++ c ∷ []) (length (log ++ c ∷ [])) ≡ put (after log (length log)) c.writes.list
after_more log c = after_whole (log ++ c ∷ []) ∙ puts_more [] log c ∙ ap (λ t. put t c.writes.list) (sym (after_whole log))

pub held_more : (log : List Commit) (c : Commit) → held (log ++ c ∷ []) ≡ held log + length c.writes.list
held_more [] c = omega arith
held_more (d ∷ log) c = let h = held_more log c in omega arith

none_after : (n : ℕ) (ws : List Write) → conflict_after n [] ws ≡ None
none_after n [] = refl
none_after n (w ∷ ws) = none_after n ws

pub no_conflict : (log : List Commit) (ws : List Write) → conflict log (length log) ws ≡ None
no_conflict log ws = ap (λ later. conflict_after (length log + 1) later ws) (drop_all (length log) log (omega arith)) ∙ none_after (length log + 1) ws
