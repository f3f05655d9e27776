-- Lights as values: equal when they are the same case.
use Rattle.std.specs.Prelude.{Bool, true, false}
use Rattle.third.specs.declared.light.Light.{Light}
use Rattle.third.specs.declared.light.Light.TheVariants.{Off, On, Broken}

-- whether two lights are the same case
abbrev pub same_light : Light → Light → Bool
same_light Off Off = true
same_light Off On = false
same_light Off Broken = false
same_light On Off = false
same_light On On = true
same_light On Broken = false
same_light Broken Off = false
same_light Broken On = false
same_light Broken Broken = true
