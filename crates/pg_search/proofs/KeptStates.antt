-- States by numbers are equal where their numbers are.
use Rattle.std.proofs.Common.{◌≡◌, ◌==◌, ◌&&◌, Bool, true, false, refl, eq-eqb}
use Rattle.std.proofs.lemmas.Bool.{eqb-true}
use Rattle.pg_search.specs.declared.states.Kept.{Kept}

and_true : (a b : Bool) → (a && b) ≡ true → (a ≡ true) × (b ≡ true)
and_true true b h = (refl, h)
and_true false b h = absurd (cc)

both : (a b : Bool) → a ≡ true → b ≡ true → (a && b) ≡ true
both a b h k = cc

abbrev same : Kept → Kept → Bool
same a b = (a.stage == b.stage) && ((a.done == b.done) && ((a.walk == b.walk) && ((a.singles == b.singles) && (a.groups == b.groups))))

pub same_kept : (a b : Kept) → same a b ≡ true → a ≡ b
same_kept a b h =
    let p = and_true (a.stage == b.stage) _ h in
    let q = and_true (a.done == b.done) _ p.1 in
    let r = and_true (a.walk == b.walk) _ q.1 in
    let s = and_true (a.singles == b.singles) (a.groups == b.groups) r.1 in
    let stage = eqb-true a.stage b.stage p.0 in
    let done = eqb-true a.done b.done q.0 in
    let walk = eqb-true a.walk b.walk r.0 in
    let singles = eqb-true a.singles b.singles s.0 in
    let groups = eqb-true a.groups b.groups s.1 in
    λ i. record { stage = stage i; done = done i; walk = walk i; singles = singles i; groups = groups i }

pub self_kept : (a : Kept) → same a a ≡ true
self_kept a =
    both _ _ (eq-eqb a.stage a.stage refl) (both _ _ (eq-eqb a.done a.done refl) (both _ _ (eq-eqb a.walk a.walk refl) (both _ _ (eq-eqb a.singles a.singles refl) (eq-eqb a.groups a.groups refl))))
