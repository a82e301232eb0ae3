-- Powers of 2 as words. Assumes nothing.
use Rattle.std.proofs.Common.{◌≡◌, ℕ, ◌-◌, ◌*◌, ◌%◌, ◌^◌, ◌<◌, sym, mod-eq_of_lt, one-mul, arith}
use lib.Pow.{pow-lt}

module _ (w : ℕ) where
  -- a shift of 1
  pub shifted : (n : ℕ) → n < w → 1 * 2 ^ n % 2 ^ w ≡ 2 ^ n
  shifted n h = rw (one-mul (2 ^ n)) (mod-eq_of_lt (pow-lt h))

  -- 2^(w - k) of a shift above 0, as a word
  pub full : (k : ℕ) → 0 < w → (k ≡ 0 → ⊥) → 2 ^ (w - 1 - (k - 1)) ≡ 2 ^ (w - k) % 2 ^ w
  full k o h =
      let e : w - 1 - (k - 1) ≡ w - k = omega arith in
      let l : w - k < w = omega arith in
      rw e (sym (mod-eq_of_lt (pow-lt l)))
