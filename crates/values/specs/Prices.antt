-- Price lines as values: equal when they are the same case, and quote the same price.
use Rattle.std.specs.Prelude.{Bool, true, false, cond, not, ◌&&◌, ℤ, pos, negsuc, ◌==◌, is_nan, to_bits, Float}
use Rattle.std.specs.Bool.{beq}
use Rattle.std.specs.Float.{nan, inf, fin, binary64}
use Rattle.values.specs.declared.price_line.PriceLine.{PriceLine}
use Rattle.values.specs.declared.price_line.PriceLine.TheVariants.{Absent, Quoted, Scratched}

-- whether two exponents are equal
abbrev pub same_exponent : ℤ → ℤ → Bool
same_exponent (pos m) (pos n) = m == n
same_exponent (pos m) (negsuc n) = false
same_exponent (negsuc m) (pos n) = false
same_exponent (negsuc m) (negsuc n) = m == n

-- whether two floats are equal: both not a number, infinite with one sign, or finite with one sign, mantissa and exponent
abbrev pub same_float : Float → Float → Bool
same_float nan nan = true
same_float nan (inf t) = false
same_float nan (fin t n f) = false
same_float (inf s) nan = false
same_float (inf s) (inf t) = beq s t
same_float (inf s) (fin t n f) = false
same_float (fin s m e) nan = false
same_float (fin s m e) (inf t) = false
same_float (fin s m e) (fin t n f) = beq s t && m == n && same_exponent e f

-- two floats are equal when both are not numbers, or neither is and their bits agree; so 0.0 and -0.0 differ
abbrev pub same_bits : Float → Float → Bool
same_bits x y = cond (is_nan x) (is_nan y) (not (is_nan y) && to_bits binary64 x == to_bits binary64 y)

-- whether two price lines are the same case, with the same price where both quote one
abbrev pub same_line : PriceLine → PriceLine → Bool
same_line Absent Absent = true
same_line Absent (Quoted y) = false
same_line Absent Scratched = false
same_line (Quoted x) Absent = false
same_line (Quoted x) (Quoted y) = same_float x y
same_line (Quoted x) Scratched = false
same_line Scratched Absent = false
same_line Scratched (Quoted y) = false
same_line Scratched Scratched = true
