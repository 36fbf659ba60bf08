-- What a truth value tells.
use Rattle.std.proofs.Common.{◌≡◌, Bool, true, false, refl}
use Rattle.std.specs.Prelude.{◌&&◌}
use Rattle.pg_core.specs.State.{Tells}

false_true : false ≡ true → ⊥
false_true h = cc

-- one that tells of another
pub tells_as : (P Q : Type 0) (b : Bool) → (P → Q) → (Q → P) → Tells b P → Tells b Q
tells_as P Q true f g t = f t
tells_as P Q false f g t = λ q. t (g q)

-- two at once
pub tells_both : (P Q : Type 0) (a b : Bool) → Tells a P → Tells b Q → Tells (a && b) (P × Q)
tells_both P Q true true t u = (t, u)
tells_both P Q true false t u = λ h. u h.1
tells_both P Q false b t u = λ h. t h.0

-- itself
pub tells_true : (b : Bool) → Tells b (b ≡ true)
tells_true true = refl
tells_true false = false_true
