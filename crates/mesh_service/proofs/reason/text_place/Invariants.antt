use Rattle.std.proofs.Common.{◌≡◌, ◌≤◌, ◌+◌, take}
use Rattle.mesh_service.specs.Reasons.{after, beginning}
use Rattle.mesh_service.proofs.reason.text_place.Given as goal

-- the place after the bytes so far, of which there are at least as many as its line and its column say
abbrev pub invariant-loop-byte : goal.invariant-loop-byte
invariant-loop-byte l =
    (l.here ≡ after beginning (take l.byte-index l.text)) × (l.here.line ≤ l.byte-index + 1) × (l.here.column ≤ l.byte-index + 1)
