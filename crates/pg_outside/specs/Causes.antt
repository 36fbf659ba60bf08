-- What a source and a sink say of their faults.
use Rattle.std.specs.Prelude.{ℕ, ◌≡◌, ◌+◌, ◌-◌, ◌^◌, ◌≤◌, ◌<◌, min, OnOk, OnErr, List, length, IfOk}
use Rattle.std.specs.declared.result.Result.{Result}

-- a count after one more: it stays at its last value
abbrev pub raised : ℕ → ℕ
raised count = min (count + 1) (2 ^ 64 - 1)

-- a count is greater than it was, or stands at its last value
abbrev pub Rose : ℕ → ℕ → Type 0
Rose before now = raised before ≤ now

-- a count of faults doesn't fall: a call that failed raised it, and any other kept it
pub record HasCause {T E : Type 0} (before now : ℕ) (result : Result T E) : Type 0 where
  pub later : before ≤ now
  pub kept : OnOk result (now ≡ before)
  pub failed : OnErr result (Rose before now)

-- a write takes something of what it is given
abbrev pub TakesSome : {E : Type 0} → Result ℕ E → List ℕ → Type 0
TakesSome r piece = IfOk r (λ n. (0 < n) × (n ≤ length piece))
