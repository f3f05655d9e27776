-- Totals as values: equal when their pence are.
use Rattle.std.specs.Prelude.{Bool, ◌==◌}
use Rattle.std.proofs.Common.{lit<}
use Rattle.values.specs.declared.total.Total.{Total}

-- no pence
abbrev pub no_pence : Total
no_pence = record { pence = 0; fits = lit< tt }

-- whether two totals have the same pence
abbrev pub same_total : Total → Total → Bool
same_total u v = u.pence == v.pence
