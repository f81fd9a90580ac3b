use Rattle.mesh_boundary.proofs.round.are_turning.Goals as goal

pub returns : goal.returns
returns c = λ t. record {
  first = c.is_to_left.ensures.0 c.if-not-is_to_left.false;
  second = c.is_to_left-2.ensures.0 c.if-not-is_to_left-2.false;
  third = c.is_to_left-3.ensures.0 c.if-not-is_to_left-3.false;
  fourth = c.is_to_left-4.ensures.0 t;
}
