use Rattle.std.proofs.Common.{◌≡◌, length}
use Rattle.ka10.proofs.Eights.{in_turn}
use Rattle.ka10.proofs.records.ArrayU6420FromRecord.from.Goals as goal

pub returns : goal.returns
returns c =
    let x = c.copy_from_slice.ensures.after in
    let y = c.copy_from_slice-2.ensures.after in
    let l : length c.copy_from_slice.new.self ≡ 16 = c.copy_from_slice.ensures.len in
    let all = in_turn c.copy_from_slice.new.self c.copy_from_slice-2.new.self l in
    cc
