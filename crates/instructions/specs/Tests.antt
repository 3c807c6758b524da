-- The tests of bits of A under a mask.
use Rattle.std.specs.Prelude.{ℕ, Some, None, Option}
use Rattle.instructions.specs.Results.{effect, skip_if}
use Rattle.logic.specs.Halves.{halves, swapped}
use Rattle.logic.specs.Masks.{changed_by, skips_when}
use Rattle.logic.specs.declared.masks.Change.{Change}
use Rattle.logic.specs.declared.masks.Change.TheVariants.{Complement, Ones, Unchanged, Zeros}
use Rattle.logic.specs.declared.masks.SkipWhen.{SkipWhen}
use Rattle.operations.specs.declared.effect.Effect.{Effect}
use Rattle.operations.specs.declared.effect.Inputs.{Inputs}
use Rattle.operations.specs.declared.effect.Status.{Status}
use Rattle.operations.specs.declared.operation.MaskFrom.{MaskFrom}
use Rattle.operations.specs.declared.operation.MaskFrom.TheVariants.{Right, Left, Direct, Swapped}

-- TR: 0,,E; TL: E,,0; TD: the word at E; TS: the word at E with its halves exchanged
abbrev pub mask_of : MaskFrom → Inputs → ℕ
mask_of Right given = given.e
mask_of Left given = halves given.e 0
mask_of Direct given = given.operand
mask_of Swapped given = swapped given.operand

-- N: A is not written; Z, C, O: A with its masked bits changed
abbrev pub changed_word : Change → ℕ → ℕ → Option ℕ
changed_word Unchanged ac mask = None
changed_word Zeros ac mask = Some (changed_by Zeros ac mask)
changed_word Complement ac mask = Some (changed_by Complement ac mask)
changed_word Ones ac mask = Some (changed_by Ones ac mask)

-- what a test does under a mask: it skips by A as it was before the change
abbrev pub masked_test : Change → SkipWhen → ℕ → ℕ → Status → Effect
masked_test change when ac mask s = effect None (changed_word change ac mask) None (skip_if (skips_when when ac mask) s)

-- TRN 600 to TSON 677
abbrev pub test_of : MaskFrom → Change → SkipWhen → Inputs → Effect
test_of from change when given = masked_test change when given.ac (mask_of from given) given.status

-- the address that is read
abbrev pub read_by_mask : MaskFrom → ℕ → Option ℕ
read_by_mask Right e = None
read_by_mask Left e = None
read_by_mask Direct e = Some e
read_by_mask Swapped e = Some e
