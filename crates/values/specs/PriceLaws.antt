-- Floats are equal exactly where their structures are, and where their bits are off not a number; price lines keep the laws of values. Assumes nothing.
use Rattle.std.specs.Prelude.{◌≡◌, ℕ, Bool, true, false, not, ◌&&◌, T, ℤ, pos, negsuc, Decides, ◌==◌, from_bits, to_bits, refl, Float}
use Rattle.std.proofs.Common.{sym, ap, subst, ◌∙◌}
use Rattle.std.specs.Bool.{beq}
use Rattle.std.specs.Float.{nan, inf, fin, binary64}
use Rattle.std.specs.Float.Ieee.{is_nan, fits}
use Rattle.std.specs.Float.Ieee.Bits.{of_bits-to_bits}
use Rattle.std.proofs.lemmas.Bool.{false≢true, eqb-true, eq-eqb, and_parts, and_from}
use Rattle.std.proofs.lemmas.Bool.Decides.{same_from_decides}
use Rattle.values.specs.declared.price_line.PriceLine.{PriceLine}
use Rattle.values.specs.declared.price_line.PriceLine.TheVariants.{Absent, Quoted, Scratched}
use Rattle.values.specs.Laws.{ValueLaws}
use Rattle.values.specs.Prices.{same_exponent, same_float, same_bits, same_line}

sign_itself : (s : Bool) → beq s s ≡ true
sign_itself true = refl
sign_itself false = refl

sign_equal : (s t : Bool) → beq s t ≡ true → s ≡ t
sign_equal true true e = refl
sign_equal true false e = absurd (false≢true e)
sign_equal false true e = absurd (false≢true e)
sign_equal false false e = refl

exponent_itself : (e : ℤ) → same_exponent e e ≡ true
exponent_itself (pos n) = eq-eqb n n refl
exponent_itself (negsuc n) = eq-eqb n n refl

exponent_equal : (e f : ℤ) → same_exponent e f ≡ true → e ≡ f
exponent_equal (pos m) (pos n) h = ap pos (eqb-true m n h)
exponent_equal (pos m) (negsuc n) h = absurd (false≢true h)
exponent_equal (negsuc m) (pos n) h = absurd (false≢true h)
exponent_equal (negsuc m) (negsuc n) h = ap negsuc (eqb-true m n h)

float_itself : (x : Float) → same_float x x ≡ true
float_itself nan = refl
float_itself (inf s) = sign_itself s
float_itself (fin s m e) = and_from (beq s s && m == m) (same_exponent e e) (and_from (beq s s) (m == m) (sign_itself s) (eq-eqb m m refl)) (exponent_itself e)

fin_equal : (s t : Bool) (m n : ℕ) (e f : ℤ) → (beq s t && m == n && same_exponent e f) ≡ true → fin s m e ≡ fin t n f
fin_equal s t m n e f h =
    let outer = and_parts (beq s t && m == n) (same_exponent e f) h in
    let inner = and_parts (beq s t) (m == n) outer.0 in
    ap (λ b. fin b m e) (sign_equal s t inner.0) ∙ ap (λ k. fin t k e) (eqb-true m n inner.1) ∙ ap (λ k. fin t n k) (exponent_equal e f outer.1)

float_equal : (x y : Float) → same_float x y ≡ true → x ≡ y
float_equal nan nan h = refl
float_equal nan (inf t) h = absurd (false≢true h)
float_equal nan (fin t n f) h = absurd (false≢true h)
float_equal (inf s) nan h = absurd (false≢true h)
float_equal (inf s) (inf t) h = ap inf (sign_equal s t h)
float_equal (inf s) (fin t n f) h = absurd (false≢true h)
float_equal (fin s m e) nan h = absurd (false≢true h)
float_equal (fin s m e) (inf t) h = absurd (false≢true h)
float_equal (fin s m e) (fin t n f) h = fin_equal s t m n e f h

decides_float : (x y : Float) → Decides (same_float x y) (x ≡ y)
decides_float x y = (float_equal x y, λ e. let P : Float → Type 0 = λ z. same_float x z ≡ true in subst P e (float_itself x))

bits_itself : (x : Float) → same_bits x x ≡ true
unfolding is_nan
bits_itself nan = refl
bits_itself (inf s) = eq-eqb (to_bits binary64 (inf s)) (to_bits binary64 (inf s)) refl
bits_itself (fin s m e) = eq-eqb (to_bits binary64 (fin s m e)) (to_bits binary64 (fin s m e)) refl

-- floats of 64 bits whose bits agree are equal
read_back : (x y : Float) → fits binary64 x ≡ true → fits binary64 y ≡ true → (to_bits binary64 x == to_bits binary64 y) ≡ true → x ≡ y
read_back x y p q e =
    sym (of_bits-to_bits binary64 x (subst T (sym p) tt)) ∙ ap (from_bits binary64) (eqb-true (to_bits binary64 x) (to_bits binary64 y) e) ∙ of_bits-to_bits binary64 y (subst T (sym q) tt)

only_nan : (y : Float) → is_nan y ≡ true → nan ≡ y
unfolding is_nan
only_nan nan e = refl
only_nan (inf t) e = absurd (false≢true e)
only_nan (fin t n f) e = absurd (false≢true e)

bits_equal : (x y : Float) → fits binary64 x ≡ true → fits binary64 y ≡ true → same_bits x y ≡ true → x ≡ y
unfolding is_nan
bits_equal nan y p q e = only_nan y e
bits_equal (inf s) y p q e = read_back (inf s) y p q (and_parts (not (is_nan y)) _ e).1
bits_equal (fin s m k) y p q e = read_back (fin s m k) y p q (and_parts (not (is_nan y)) _ e).1

decides_bits : (x y : Float) → fits binary64 x ≡ true → fits binary64 y ≡ true → Decides (same_bits x y) (x ≡ y)
decides_bits x y p q = (bits_equal x y p q, λ e. let P : Float → Type 0 = λ z. same_bits x z ≡ true in subst P e (bits_itself x))

-- floats of 64 bits have the same structure exactly where their bits agree
pub bits_structure : (x y : Float) → fits binary64 x ≡ true → fits binary64 y ≡ true → same_bits x y ≡ same_float x y
bits_structure x y p q = same_from_decides (same_bits x y) (same_float x y) (decides_bits x y p q) (decides_float x y)

line_itself : (v : PriceLine) → same_line v v ≡ true
line_itself Absent = refl
line_itself (Quoted x) = float_itself x
line_itself Scratched = refl

line_equal : (u v : PriceLine) → same_line u v ≡ true → u ≡ v
line_equal Absent Absent h = refl
line_equal Absent (Quoted y) h = absurd (false≢true h)
line_equal Absent Scratched h = absurd (false≢true h)
line_equal (Quoted x) Absent h = absurd (false≢true h)
line_equal (Quoted x) (Quoted y) h = ap (λ z. Quoted z) (float_equal x y h)
line_equal (Quoted x) Scratched h = absurd (false≢true h)
line_equal Scratched Absent h = absurd (false≢true h)
line_equal Scratched (Quoted y) h = absurd (false≢true h)
line_equal Scratched Scratched h = refl

-- price lines keep the laws of values
pub line_laws : ValueLaws same_line
line_laws = record { itself = line_itself; equal = line_equal }
