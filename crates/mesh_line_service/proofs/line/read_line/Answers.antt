-- What was taken in the steps is a line, or the reader has none.
use Rattle.std.proofs.Common.{◌≢◌, ◌++◌, ℕ, List, [], ◌∷◌, ap, sym, subst, ◌∙◌, append-nil, append_assoc}
use Rattle.std.proofs.lemmas.List.Elements.{All-append}
use Rattle.std.proofs.lemmas.Option.{IfSome_then}
use Rattle.std.specs.Io.KnownBytes.{Consumes}
use Rattle.std.proofs.KnownBytes.{Consumes-trans}
use Rattle.mesh_line_service.specs.Held.{Holds}
use Rattle.mesh_line_service.specs.Private.Steps.{line_feed}
use Rattle.mesh_line_service.proofs.LineLemmas.{ended_line, last_line, no_line, broken_off, end_met, at_error, held_has_bytes, nothing_held}
use Rattle.mesh_line_service.proofs.line.read_line.Goals as goal

pub returns-in_err-take_some-clause-failed : goal.returns-in_err-take_some-clause-failed
returns-in_err-take_some-clause-failed g c =
    let (text, plain, taken, holds) = c.loop.invariant in
    at_error c.from_residual.result (broken_off _ _ _ text plain taken c.in_err-take_some.ensures.failed)

pub returns-in-LineFeed-clause-line : goal.returns-in-LineFeed-clause-line
returns-in-LineFeed-clause-line g c =
    let (text, plain, taken, holds) = c.loop.invariant in
    let step = c.in_ok-take_some.ensures.taken in
    let part = step.part in
    let more = subst (λ met. Consumes (g.R.Read.remaining c.loop.reader) (g.R.Read.remaining c.take_some.new.reader) (part ++ line_feed met)) c.in-LineFeed.is step.taken in
    let both = Consumes-trans _ _ _ text (part ++ 10 ∷ []) taken more in (
      text ++ part,
      ended_line _ _ (text ++ part) (All-append (λ byte. byte ≢ 10) text part plain step.plain) (subst (Consumes (g.R.Read.remaining c.args.reader.now) (g.R.Read.remaining c.take_some.new.reader)) (sym (append_assoc text part (10 ∷ []))) both),
      step.holds text holds,
    )

pub returns-in-End-clause-line : goal.returns-in-End-clause-line
returns-in-End-clause-line g c =
    let (text, plain, taken, holds) = c.loop.invariant in
    let step = c.in_ok-take_some.ensures.taken in
    let (none, end) = step.end c.in-End.is in
    let met = end_met _ _ _ text step.part taken (subst (λ met. Consumes (g.R.Read.remaining c.loop.reader) (g.R.Read.remaining c.take_some.new.reader) (step.part ++ line_feed met)) c.in-End.is step.taken) none end in
    let held = subst (λ (l : List ℕ). Holds c.args.longest l c.take_some.new.line.bytes.items c.take_some.new.line.held) (ap (λ l. text ++ l) none ∙ append-nil text) (step.holds text holds) in
    IfSome_then c.some_unless_empty.result c.some_unless_empty.ensures.some
    (λ line (same, some). (text, last_line _ _ text plain (held_has_bytes c.args.longest text _ _ held some) met.0 met.1, subst (λ l. Holds c.args.longest text l.bytes.items l.held) (sym same) held))

pub returns-in-End-clause-none : goal.returns-in-End-clause-none
returns-in-End-clause-none g c e =
    let (text, plain, taken, holds) = c.loop.invariant in
    let step = c.in_ok-take_some.ensures.taken in
    let (none, end) = step.end c.in-End.is in
    let met = end_met _ _ _ text step.part taken (subst (λ met. Consumes (g.R.Read.remaining c.loop.reader) (g.R.Read.remaining c.take_some.new.reader) (step.part ++ line_feed met)) c.in-End.is step.taken) none end in
    let held = subst (λ (l : List ℕ). Holds c.args.longest l c.take_some.new.line.bytes.items c.take_some.new.line.held) (ap (λ l. text ++ l) none ∙ append-nil text) (step.holds text holds) in
    let (whole, empty) = c.some_unless_empty.ensures.none (cc) in
    (no_line _ _ (subst (Consumes (g.R.Read.remaining c.args.reader.now) (g.R.Read.remaining c.take_some.new.reader)) (nothing_held c.args.longest text _ _ held whole empty) met.0), met.1)

pub loop-preserved : goal.loop-preserved
loop-preserved g c =
    let (text, plain, taken, holds) = c.loop.invariant in
    let step = c.in_ok-take_some.ensures.taken in
    let part = step.part in
    let more = subst (λ met. Consumes (g.R.Read.remaining c.loop.reader) (g.R.Read.remaining c.take_some.new.reader) (part ++ line_feed met)) c.in-More.is step.taken in
    let both = Consumes-trans _ _ _ text (part ++ []) taken more in
    (text ++ part, All-append (λ byte. byte ≢ 10) text part plain step.plain, subst (Consumes (g.R.Read.remaining c.args.reader.now) (g.R.Read.remaining c.take_some.new.reader)) (ap (λ l. text ++ l) (append-nil part)) both, step.holds text holds)
