-- A combination is answered with the coordinates of its type.
use Rattle.mesh_service.proofs.combined.combination_line.Goals as goal

pub returns-in-I16-clause-answered : goal.returns-in-I16-clause-answered
returns-in-I16-clause-answered c = rw c.in-I16.is c.combined_line.ensures.answered

pub returns-in-I16-clause-refused : goal.returns-in-I16-clause-refused
returns-in-I16-clause-refused c = rw c.in-I16.is c.combined_line.ensures.refused

pub returns-in-I16-clause-given_up : goal.returns-in-I16-clause-given_up
returns-in-I16-clause-given_up c = rw c.in-I16.is c.combined_line.ensures.given_up

pub returns-in-I32-clause-answered : goal.returns-in-I32-clause-answered
returns-in-I32-clause-answered c = rw c.in-I32.is c.combined_line-in-I32.ensures.answered

pub returns-in-I32-clause-refused : goal.returns-in-I32-clause-refused
returns-in-I32-clause-refused c = rw c.in-I32.is c.combined_line-in-I32.ensures.refused

pub returns-in-I32-clause-given_up : goal.returns-in-I32-clause-given_up
returns-in-I32-clause-given_up c = rw c.in-I32.is c.combined_line-in-I32.ensures.given_up
