-- The number of binary digits, as what a search by halving reads at most.
use Rattle.std.proofs.Common.{ℕ, zero, suc, ◌≡◌, ◌+◌, ◌/◌, ◌-◌, ◌<◌, ◌≤◌, refl, ap, arith}

-- the binary digits of n, the first f of them
abbrev pub digits_in : ℕ → ℕ → ℕ
digits_in zero n = 0
digits_in (suc f) zero = 0
digits_in (suc f) (suc n) = suc (digits_in f (suc n / 2))

-- the number of binary digits of n, 0 for 0
unfoldable pub digits : ℕ → ℕ
digits n = digits_in n n

half_less : (n : ℕ) → suc n / 2 ≤ n
half_less n = omega arith

half_mono : (m n : ℕ) → m ≤ n → m / 2 ≤ n / 2
half_mono m n h = omega arith

enough : (f g n : ℕ) → n ≤ f → n ≤ g → digits_in f n ≡ digits_in g n
enough zero zero n h k = refl
enough zero (suc g) zero h k = refl
enough zero (suc g) (suc n) h k = absurd (omega arith)
enough (suc f) zero zero h k = refl
enough (suc f) zero (suc n) h k = absurd (omega arith)
enough (suc f) (suc g) zero h k = refl
enough (suc f) (suc g) (suc n) h k = ap suc (enough f g (suc n / 2) (let w = half_less n in omega arith) (let w = half_less n in omega arith))

more : (f m n : ℕ) → m ≤ n → digits_in f m ≤ digits_in f n
more zero m n h = omega arith
more (suc f) zero n h = omega arith
more (suc f) (suc m) zero h = absurd (omega arith)
more (suc f) (suc m) (suc n) h = let w = more f (suc m / 2) (suc n / 2) (half_mono (suc m) (suc n) h) in omega arith

pub digits_half : (n : ℕ) → 0 < n → digits n ≡ digits (n / 2) + 1
unfolding digits
digits_half zero h = absurd (omega arith)
digits_half (suc n) h = let w = enough n (suc n / 2) (suc n / 2) (half_less n) (omega arith) in omega arith

pub digits_more : (m n : ℕ) → m ≤ n → digits m ≤ digits n
unfolding digits
digits_more m n h = let w = more n m n h in let e = enough m n m (omega arith) h in omega arith

-- a part that is at most half as long
pub digits_less : (m n : ℕ) → 0 < n → m ≤ n / 2 → digits m + 1 ≤ digits n
digits_less m n h k = let a = digits_half n h in let b = digits_more m (n / 2) k in omega arith

pub digits_upper : (low high : ℕ) → low < high → digits (high - (low + (high - low) / 2 + 1)) + 1 ≤ digits (high - low)
digits_upper low high h = digits_less (high - (low + (high - low) / 2 + 1)) (high - low) (omega arith) (omega arith)

pub digits_lower : (low high : ℕ) → low < high → digits (low + (high - low) / 2 - low) + 1 ≤ digits (high - low)
digits_lower low high h = digits_less (low + (high - low) / 2 - low) (high - low) (omega arith) (omega arith)
