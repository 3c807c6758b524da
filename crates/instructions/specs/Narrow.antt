-- Every word that an effect writes is a word of 36 bits.
-- A fact of clauses and no ghost field of Effect: what an instruction does is promised for wider inputs too, and one that
-- hands such an input on writes a wider word.
use Rattle.std.specs.Prelude.{◌^◌, ◌<◌, IfSome}
use Rattle.operations.specs.declared.effect.Effect.{Effect}

pub record NarrowEffect (f : Effect) : Type 0 where
  pub store : IfSome f.store (λ s. s.1 < 2 ^ 36)
  pub a : IfSome f.a (λ w. w < 2 ^ 36)
  pub a1 : IfSome f.a1 (λ w. w < 2 ^ 36)
