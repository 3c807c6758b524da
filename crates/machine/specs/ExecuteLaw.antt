-- XCT of a word that is neither XCT itself nor a call of the user's own does what that word does in its place.
use Rattle.std.specs.Prelude.{◌≡◌, ℕ, suc, None, Ok}
use Rattle.operations.specs.Decode.{decoded}
use Rattle.operations.specs.declared.operation.Instruction.{Instruction}
use Rattle.operations.specs.declared.operation.Instruction.TheVariants.{UserCall, Execute, BlockTransfer, Ordinary}
use Rattle.machine.specs.Address.{effective}
use Rattle.machine.specs.Execution.{executed}
use Rattle.machine.specs.Machine.{Machine}
use Rattle.machine.specs.User.{fetched}
use Rattle.machine.specs.declared.located.Located.{Located}

-- nothing follows an instruction of this kind
abbrev pub Final : Instruction → Type 0
Final UserCall = ⊥
Final Execute = ⊥
Final BlockTransfer = Unit {0}
Final (Ordinary op) = Unit {0}

-- w is an XCT whose address is that of v: as long as one word more may be executed, w does what v does
abbrev pub ExecutesInPlace : Type 0
ExecutesInPlace =
    (n k : ℕ) (m : Machine) (w v : ℕ) (l : Located) → decoded w ≡ Execute → effective 64 None m.user w ≡ Ok l
    → fetched m.user l.address ≡ Ok v → Final (decoded v) → executed (suc n) m w ≡ executed k m v
