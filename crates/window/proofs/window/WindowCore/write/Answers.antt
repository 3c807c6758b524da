use Rattle.window.proofs.WindowLaws.{keeps-window}
use Rattle.window.proofs.window.WindowCore.write.Goals as goal

pub returns-clause-keeps : goal.returns-clause-keeps
returns-clause-keeps g c =
    let s = c.args.self.now.span in
    let ws = g.C.Core.words c.args.self.now.core.now in
    keeps-window s ws _ c.args.a c.args.w c.write.result c.if-a-self.false c.write.ensures.does _ _ _ c.write.ensures.keeps
