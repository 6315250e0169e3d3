-- The first number of a range that passes a test is the least. Assumes nothing.
use Rattle.std.specs.Prelude.{◌≡◌, ℕ, zero, suc, ◌+◌, ◌<◌, Bool, true, false, cond, Some, None, Option, refl}
use Rattle.std.specs.List.{find, range_with_len}
use Rattle.std.proofs.Common.{below_more, arith}

-- what was found lies below n, passes, and nothing before it does; None where nothing below n passes
abbrev pub IsLeast : (ℕ → Bool) → ℕ → Option ℕ → Type 0
IsLeast test n (Some e) = (e < n) × (test e ≡ true) × ((k : ℕ) → k < e → test k ≡ false)
IsLeast test n None = (k : ℕ) → k < n → test k ≡ false

module _ (test : ℕ → Bool) (n : ℕ) where
  step : (a : ℕ) (o : Option ℕ) (b : Bool) → test a ≡ b → a < n → ((k : ℕ) → k < a → test k ≡ false) → (((k : ℕ) → k < a + 1 → test k ≡ false) → IsLeast test n o) → IsLeast test n (cond b (Some a) o)
  step a o true q below none rest = (below, q, none)
  step a o false q below none rest = rest (below_more _ a none q)

  from : (a left : ℕ) → a + left ≡ n → ((k : ℕ) → k < a → test k ≡ false) → IsLeast test n (find test (range_with_len a left))
  from a zero e none = λ k below. none k (omega arith)
  from a (suc left) e none = step a _ (test a) refl (omega arith) none (from (a + 1) left (omega arith))

  pub least_is : IsLeast test n (find test (range_with_len 0 n))
  least_is = from 0 n (omega arith) (λ k below. absurd (omega arith))
