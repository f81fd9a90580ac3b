use Rattle.std.proofs.Common.{◌≡◌, drop}
use Rattle.mesh_service.specs.Reasons.{blank_text}
use Rattle.mesh_service.proofs.text.is_blank.Given as goal

-- blanks alone so far: the text is blank exactly where what is left is
abbrev pub invariant-loop-byte : goal.invariant-loop-byte
invariant-loop-byte l = blank_text l.text ≡ blank_text (drop l.byte-index l.text)
