use Rattle.std.proofs.Common.{rules, ap, subst, sym}
use Rattle.std.specs.String.{string_bytes}
use Rattle.pg_value.specs.Print.{GoesOn}
use Rattle.pg_value.proofs.Texts.{pushed, then_goes_on, unchanged}
use Rattle.pg_value.proofs.text.push_once_or_twice.Goals.{then-c-quote+in_ok-push, else-c-quote}
use Rattle.pg_value.proofs.text.push_once_or_twice.Goals as goal

pub returns-clause-more : goal.returns-clause-more
returns-clause-more c = then_goes_on _ (string_bytes c.if-c-quote.out) _
    (elim c.if-c-quote.branch [
      | then-c-quote+in_ok-push w ↦ subst (λ s. GoesOn (string_bytes c.args.out.now) (string_bytes s)) (sym w.out-is) (pushed _ _ _ c.args.quote (search rules) w.push.ensures.bytes)
      | else-c-quote w ↦ unchanged _ _ (ap string_bytes w.out-is)
    ])
    (pushed _ _ _ c.args.c (search rules) c.push-2.ensures.bytes)
