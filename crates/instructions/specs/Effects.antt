-- What each instruction does.
use Rattle.instructions.specs.Booleans.{boolean_effect_of}
use Rattle.instructions.specs.Calls.{monitor_call_of, not_installed_of}
use Rattle.instructions.specs.Compares.{aoj_of, aos_of, cai_of, cam_of, jump_of, skip_of, soj_of, sos_of}
use Rattle.instructions.specs.Division.{idiv_of}
use Rattle.instructions.specs.HalfWords.{half_word_of}
use Rattle.instructions.specs.Jumps.{aobjn_of, aobjp_of, jfcl_of, jrst_of}
use Rattle.instructions.specs.Moves.{exch_of, move_of}
use Rattle.instructions.specs.Pushdown.{pop_of, popj_of, push_of, pushj_of}
use Rattle.instructions.specs.Results.{wordless}
use Rattle.instructions.specs.Shifts.{jffo_of, shift_of}
use Rattle.instructions.specs.Subroutines.{jra_of, jsa_of, jsp_of, jsr_of}
use Rattle.instructions.specs.Sums.{add_of, sub_of}
use Rattle.instructions.specs.Tests.{test_of}
use Rattle.operations.specs.declared.effect.Effect.{Effect}
use Rattle.operations.specs.declared.effect.Inputs.{Inputs}
use Rattle.operations.specs.declared.operation.Operation.{Operation}
use Rattle.operations.specs.declared.operation.Operation.TheVariants.{MonitorCall, NotInstalled, Nothing, Move, Idiv, Shift, Jffo, Exch, Aobjp, Aobjn, Jrst, Jfcl, Pushj, Push, Pop, Popj, Jsr, Jsp, Jsa, Jra, Add, Sub, Cai, Cam, Jump, Skip, Aoj, Aos, Soj, Sos, Boolean, HalfWord, Test}

unfoldable pub effect_of : Operation → Inputs → Effect
effect_of MonitorCall given = monitor_call_of given
effect_of NotInstalled given = not_installed_of given
effect_of Nothing given = wordless given.status
effect_of (Move form mode) given = move_of form mode given
effect_of (Idiv mode) given = idiv_of mode given
effect_of (Shift shift) given = shift_of shift given
effect_of Jffo given = jffo_of given
effect_of Exch given = exch_of given
effect_of Aobjp given = aobjp_of given
effect_of Aobjn given = aobjn_of given
effect_of (Jrst restores) given = jrst_of restores given
effect_of Jfcl given = jfcl_of given
effect_of Pushj given = pushj_of given
effect_of Push given = push_of given
effect_of Pop given = pop_of given
effect_of Popj given = popj_of given
effect_of Jsr given = jsr_of given
effect_of Jsp given = jsp_of given
effect_of Jsa given = jsa_of given
effect_of Jra given = jra_of given
effect_of (Add mode) given = add_of mode given
effect_of (Sub mode) given = sub_of mode given
effect_of (Cai condition) given = cai_of condition given
effect_of (Cam condition) given = cam_of condition given
effect_of (Jump condition) given = jump_of condition given
effect_of (Skip condition) given = skip_of condition given
effect_of (Aoj condition) given = aoj_of condition given
effect_of (Aos condition) given = aos_of condition given
effect_of (Soj condition) given = soj_of condition given
effect_of (Sos condition) given = sos_of condition given
effect_of (Boolean table mode) given = boolean_effect_of table mode given
effect_of (HalfWord kind mode) given = half_word_of kind mode given
effect_of (Test from change when) given = test_of from change when given
