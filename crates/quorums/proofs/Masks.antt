-- The digits of masks.
use Rattle.std.proofs.Common.{◌≡◌, ℕ, zero, suc, ◌-◌, ◌/◌, ◌%◌, ◌^◌, ◌<◌, ◌≤◌, min, max, false, ◌||◌, eqb, inl, inr, sym, refl, ap, ◌∙◌, pow-suc, one-add, arith, pow_mono}
use native.Mathlib.Nat.{div-eq_of_lt, mod-eq_of_lt, min-eq_left, min-eq_right}
use lib.Bits.{bit_or, or_step}
use Rattle.std.proofs.lemmas.Nat.{shr-shr, or_shr, pow_pos}
use Rattle.std.proofs.lemmas.Bool.{eq-eqb, ne_eqb, cases_lt}
use Rattle.std.proofs.lemmas.Bool.Decides.{nat_tests}
use Rattle.quorums.specs.Sets.{bits, below}

pub bits_zero : (i : ℕ) → bits 0 i ≡ false
bits_zero zero = refl
bits_zero (suc i) = bits_zero i

-- one digit of an `or`
at_or : (x y z : ℕ) → x < 2 → y < 2 → z ≡ max x y → eqb z 1 ≡ (eqb x 1 || eqb y 1)
at_or x y z h k e = grind (arith, nat_tests)

pub bits_or : (a b i : ℕ) → bits (bit_or a b) i ≡ (bits a i || bits b i)
bits_or a b zero = at_or (a % 2) (b % 2) (bit_or a b % 2) (omega arith) (omega arith) (omega (arith, or_step a b))
bits_or a b (suc i) = ap (λ m. bits m i) (or_shr a b 1) ∙ bits_or (a / 2) (b / 2) i

eqb_suc : (i j : ℕ) → eqb (suc i) (suc j) ≡ eqb i j
eqb_suc i j = grind (arith, nat_tests)

pub bits_one : (k i : ℕ) → bits (2 ^ k) i ≡ eqb i k
bits_one zero zero = refl
bits_one zero (suc i) = bits_zero i ∙ sym (ne_eqb (suc i) 0 (λ e. omega arith))
bits_one (suc k) zero =
    let p = pow-suc 2 k in
    ne_eqb (2 ^ suc k % 2) 1 (λ e. omega arith) ∙ sym (ne_eqb 0 (suc k) (λ e. omega arith))
bits_one (suc k) (suc i) =
    let p = pow-suc 2 k in
    let half : 2 ^ suc k / 2 ≡ 2 ^ k = omega arith in
    ap (λ m. bits m i) half ∙ bits_one k i ∙ sym (eqb_suc i k)

pub bits_first : (n i : ℕ) → bits (2 ^ n - 1) i ≡ below n i
bits_first zero i = bits_zero i
bits_first (suc n) zero =
    let p = pow-suc 2 n in
    let some = pow_pos n in
    eq-eqb ((2 ^ suc n - 1) % 2) 1 (omega arith)
bits_first (suc n) (suc i) =
    let p = pow-suc 2 n in
    let half : (2 ^ suc n - 1) / 2 ≡ 2 ^ n - 1 = omega arith in
    ap (λ m. bits m i) half ∙ bits_first n i

pub bits_at : (m i : ℕ) → bits m i ≡ eqb (m / 2 ^ i % 2) 1
bits_at m zero = let h : m / 1 ≡ m = omega arith in ap (λ x. eqb (x % 2) 1) (sym h)
bits_at m (suc i) = bits_at (m / 2) i ∙ ap (λ x. eqb (x % 2) 1) (shr-shr m 1 i ∙ ap (λ k. m / 2 ^ k) (one-add i))

pub bits_past : (m i : ℕ) → m < 2 ^ i → bits m i ≡ false
bits_past m i h = bits_at m i ∙ ap (λ x. eqb (x % 2) 1) (div-eq_of_lt h)

-- a mask has no server from 16 on
pub bits_end : (m i : ℕ) → m < 2 ^ 16 → 16 ≤ i → bits m i ≡ false
bits_end m i h l = bits_past m i (omega (arith, h, pow_mono {i = 16} {j = i} l))

-- a mask of 16 digits has the same first n whether or not n is more than 16
pub low_digits : (m n : ℕ) → m < 2 ^ 16 → m % 2 ^ min n 16 ≡ m % 2 ^ n
low_digits m n h =
    elim (cases_lt n 16) [
      | inl l ↦ ap (λ k. m % 2 ^ k) (min-eq_left (omega arith))
      | inr l ↦ ap (λ k. m % 2 ^ k) (min-eq_right l) ∙ mod-eq_of_lt h ∙ sym (mod-eq_of_lt (omega (arith, h, pow_mono {i = 16} {j = n} l)))
    ]
