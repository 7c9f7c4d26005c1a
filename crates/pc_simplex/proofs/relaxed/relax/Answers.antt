use Rattle.std.proofs.lemmas.Result.{IfOk-weaker}
use Rattle.pc_simplex_tableau.specs.Point.{IsRelaxation}
use Rattle.pc_simplex.specs.Relaxed.{relaxation_of}
use Rattle.pc_simplex.specs.Vertices.{IsShown, IsGreatest}
use Rattle.pc_simplex.proofs.Shown.{IsShown-relaxation, IsGreatest-relaxation}
use Rattle.pc_simplex.proofs.relaxed.relax.Goals as goal

pub returns-in-AtVertex-clause-shown : goal.returns-in-AtVertex-clause-shown
returns-in-AtVertex-clause-shown c =
    IfOk-weaker c.at_vertex.result (λ r. IsRelaxation c.args.p.now c.args.floor.now c.args.cap.now (relaxation_of r)) (λ r. IsShown c.args.p.now c.args.floor.now c.args.cap.now (relaxation_of r))
    (λ r. IsShown-relaxation c.args.p.now c.args.floor.now c.args.cap.now c.requires.program c.requires.inside (relaxation_of r)) c.at_vertex.ensures.relaxation

pub returns-in-AtVoid-clause-shown : goal.returns-in-AtVoid-clause-shown
returns-in-AtVoid-clause-shown c =
    IfOk-weaker c.at_void.result (λ r. IsRelaxation c.args.p.now c.args.floor.now c.args.cap.now (relaxation_of r)) (λ r. IsShown c.args.p.now c.args.floor.now c.args.cap.now (relaxation_of r))
    (λ r. IsShown-relaxation c.args.p.now c.args.floor.now c.args.cap.now c.requires.program c.requires.inside (relaxation_of r)) c.at_void.ensures.relaxation

pub returns-in-AtVertex-clause-greatest : goal.returns-in-AtVertex-clause-greatest
returns-in-AtVertex-clause-greatest c =
    IfOk-weaker c.at_vertex.result (λ r. IsRelaxation c.args.p.now c.args.floor.now c.args.cap.now (relaxation_of r)) (λ r. IsGreatest c.args.p.now c.args.floor.now c.args.cap.now (relaxation_of r))
    (λ r. IsGreatest-relaxation c.args.p.now c.args.floor.now c.args.cap.now c.requires.program c.requires.inside (relaxation_of r)) c.at_vertex.ensures.relaxation

pub returns-in-AtVoid-clause-greatest : goal.returns-in-AtVoid-clause-greatest
returns-in-AtVoid-clause-greatest c =
    IfOk-weaker c.at_void.result (λ r. IsRelaxation c.args.p.now c.args.floor.now c.args.cap.now (relaxation_of r)) (λ r. IsGreatest c.args.p.now c.args.floor.now c.args.cap.now (relaxation_of r))
    (λ r. IsGreatest-relaxation c.args.p.now c.args.floor.now c.args.cap.now c.requires.program c.requires.inside (relaxation_of r)) c.at_void.ensures.relaxation
