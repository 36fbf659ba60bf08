-- The count of rounds is right: what is left of a stage is in range with what is done.
use Rattle.std.proofs.Common.{◌≡◌, ℕ, ◌+◌, ◌≤◌, suc, List, [], ◌∷◌, length, refl, arith, Bool, true, false, cond}
use Rattle.std.specs.Prelude.{nat_lt, Option, Some, None, IfSome}
use Rattle.std.proofs.lemmas.Bool.{leb-true, le-leb, ltb-true, ltb-false, lt-ltb}
use Rattle.pg_value.specs.declared.shape.ElemId.{ElemId}
use Rattle.pg_ast.specs.declared.pattern.Quant.{Quant}
use Rattle.pg_meaning.specs.Walks.{Graph, Hop, last_vertex}
use Rattle.pg_meaning.specs.Fits.{RoundsFit, InRange}
use Rattle.pg_auto.specs.Stages.{Stage, low_of, high_of}
use Rattle.pg_auto.specs.Counts.{RoundsLeft, cap, next_of}

-- with some rounds done, n more are in range
abbrev pub Enough : ℕ → Option ℕ → ℕ → ℕ → Type 0
Enough low high done n = (low ≤ done + n) × IfSome high (λ most. done + n ≤ most)

abbrev may : Option ℕ → ℕ → Bool
may high done = elim high [ None ↦ true | Some most ↦ nat_lt done most ]

abbrev top : ℕ → Option ℕ → ℕ
top low high = elim high [ None ↦ low | Some most ↦ most ]

abbrev up : ℕ → Option ℕ → ℕ → ℕ
up low high done = cond (nat_lt done (top low high)) (done + 1) done

may_more : (low : ℕ) (high : Option ℕ) (done n : ℕ) → Enough low high done (suc n) → may high done ≡ true
may_more low None done n e = refl
may_more low (Some most) done n e = lt-ltb done most (omega (arith, e.1))

forth : (low : ℕ) (high : Option ℕ) (done n : ℕ) → may high done ≡ true → Enough low high (up low high done) n → Enough low high done (suc n)
forth low None done n m e = go (nat_lt done low) refl e.0
  where
    go : (b : Bool) → nat_lt done low ≡ b → low ≤ cond b (done + 1) done + n → (low ≤ done + suc n) × Unit {0}
    go true h l = (omega arith, tt)
    go false h l = (omega arith, tt)
forth low (Some most) done n m e = go (nat_lt done most) m e
  where
    go : (b : Bool) → b ≡ true → (low ≤ cond b (done + 1) done + n) × (cond b (done + 1) done + n ≤ most) → (low ≤ done + suc n) × (done + suc n ≤ most)
    go true h l = (omega (arith, l.0), omega (arith, l.1))
    go false h l = absurd (cc)

back : (low : ℕ) (high : Option ℕ) (done n : ℕ) → may high done ≡ true → Enough low high done (suc n) → Enough low high (up low high done) n
back low None done n m e = go (nat_lt done low) refl e.0
  where
    go : (b : Bool) → nat_lt done low ≡ b → low ≤ done + suc n → (low ≤ cond b (done + 1) done + n) × Unit {0}
    go true h l = (omega arith, tt)
    go false h l = (let k = ltb-false done low h in omega arith, tt)
back low (Some most) done n m e = go (nat_lt done most) m e
  where
    go : (b : Bool) → b ≡ true → (low ≤ done + suc n) × (done + suc n ≤ most) → (low ≤ cond b (done + 1) done + n) × (cond b (done + 1) done + n ≤ most)
    go true h l = (omega (arith, l.0), omega (arith, l.1))
    go false h l = absurd (cc)

-- the count stays within what is told apart
pub next_few : (stage : Stage) (done : ℕ) → done ≤ cap stage → next_of stage done ≤ cap stage
next_few stage done h = go (nat_lt done (cap stage)) refl
  where
    go : (b : Bool) → nat_lt done (cap stage) ≡ b → cond b (done + 1) done ≤ cap stage
    go true e = let k = ltb-true done (cap stage) e in omega arith
    go false e = h

pub fits_left : (g : Graph) (stage : Stage) (done : ℕ) (v : ElemId) (rounds : List (List Hop)) → done ≤ cap stage → Enough stage.low stage.high done (length rounds) → RoundsFit g stage.round v rounds → RoundsLeft g stage done v rounds
fits_left g stage done v [] c e f = le-leb stage.low done (omega (arith, e.0))
fits_left g stage done v (hops ∷ rounds) c e f =
    let m = may_more stage.low stage.high done (length rounds) e in
    (m, f.0, fits_left g stage (next_of stage done) (last_vertex v hops) rounds (next_few stage done c) (back stage.low stage.high done (length rounds) m e) f.1)

pub left_fits : (g : Graph) (stage : Stage) (done : ℕ) (v : ElemId) (rounds : List (List Hop)) → done ≤ cap stage → RoundsLeft g stage done v rounds → Enough stage.low stage.high done (length rounds) × RoundsFit g stage.round v rounds
left_fits g stage done v [] c l = ((let k = leb-true stage.low done l in omega arith, within stage.high c), tt)
  where
    within : (high : Option ℕ) → done ≤ top stage.low high → IfSome high (λ most. done + 0 ≤ most)
    within None h = tt
    within (Some most) h = omega arith
left_fits g stage done v (hops ∷ rounds) c l =
    let r = left_fits g stage (next_of stage done) (last_vertex v hops) rounds (next_few stage done c) l.2 in
    (forth stage.low stage.high done (length rounds) l.0 r.0, (l.1, r.1))

-- from the first round on, what is in range is what the quantifier asks
pub ranged_enough : (quant : Option Quant) (n : ℕ) → InRange quant n → Enough (low_of quant) (high_of quant) 0 n
ranged_enough None n e = (omega arith, omega arith)
ranged_enough (Some q) n e = (omega (arith, e.0), go q.high e.1)
  where
    go : (high : Option ℕ) → IfSome high (λ most. n ≤ most) → IfSome high (λ most. 0 + n ≤ most)
    go None h = tt
    go (Some most) h = omega arith

pub enough_ranged : (quant : Option Quant) (n : ℕ) → Enough (low_of quant) (high_of quant) 0 n → InRange quant n
enough_ranged None n e = (let a = e.0 in let b = e.1 in omega arith)
enough_ranged (Some q) n e = (omega (arith, e.0), go q.high e.1)
  where
    go : (high : Option ℕ) → IfSome high (λ most. 0 + n ≤ most) → IfSome high (λ most. n ≤ most)
    go None h = tt
    go (Some most) h = omega arith
