-- A text is read as the value that it is, or as none.
use Rattle.std.proofs.Common.{◌≡◌, Bool, true, false}
use Rattle.serde_json.specs.View.{view}
use Rattle.mesh_service.proofs.Requested.{text_unread, value_read}
use Rattle.mesh_service.proofs.text.read_text.Goals as goal

not_memory : (memory : Bool) → memory ≡ false → memory ≡ true → ⊥
not_memory memory f t = cc

pub returns-in-Ok : goal.returns-in-Ok
returns-in-Ok c =
    let read = c.in-Ok.ensures.ok in
    value_read c.args.text.now (view c.in-Ok.value) c.read_value-request.result read.0 read.1 c.read_value-request.ensures

pub returns-else-is_memory : goal.returns-else-is_memory
returns-else-is_memory c =
    text_unread c.args.text.now c.text_reason-reason.result
    (c.in-Err.ensures.err (λ memory. not_memory c.is_memory.result c.if-is_memory.false (c.is_memory.ensures.1 memory)))
    c.text_reason-reason.ensures
