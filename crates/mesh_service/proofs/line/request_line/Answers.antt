-- A request is answered as its kind is.
use Rattle.mesh_service.proofs.line.request_line.Goals as goal

pub returns-in-Drawing-clause-answered : goal.returns-in-Drawing-clause-answered
returns-in-Drawing-clause-answered c = rw c.in-Drawing.is c.drawing_line.ensures.answered

pub returns-in-Drawing-clause-refused : goal.returns-in-Drawing-clause-refused
returns-in-Drawing-clause-refused c = rw c.in-Drawing.is c.drawing_line.ensures.refused

pub returns-in-Drawing-clause-given_up : goal.returns-in-Drawing-clause-given_up
returns-in-Drawing-clause-given_up c = rw c.in-Drawing.is c.drawing_line.ensures.given_up

pub returns-in-Combination-clause-answered : goal.returns-in-Combination-clause-answered
returns-in-Combination-clause-answered c = rw c.in-Combination.is c.combination_line.ensures.answered

pub returns-in-Combination-clause-refused : goal.returns-in-Combination-clause-refused
returns-in-Combination-clause-refused c = rw c.in-Combination.is c.combination_line.ensures.refused

pub returns-in-Combination-clause-given_up : goal.returns-in-Combination-clause-given_up
returns-in-Combination-clause-given_up c = rw c.in-Combination.is c.combination_line.ensures.given_up
