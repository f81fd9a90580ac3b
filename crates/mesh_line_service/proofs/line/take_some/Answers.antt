-- What was consumed is the part of the line, and the line feed after it.
use Rattle.std.proofs.Common.{◌≡◌, ◌≢◌, ◌+◌, ℕ, [], take, sym, ap, subst, arith, append-nil, take}
use Rattle.std.proofs.lemmas.List.Elements.{All-nil}
use Rattle.std.specs.Io.KnownBytes.{Consumes}
use Rattle.std.specs.Io.BufRead.{FillKeeps}
use Rattle.std.proofs.KnownBytes.{Consumes-nil, Consumes-kept}
use Rattle.std.proofs.BufReadLemmas.{Consumes_shown}
use Rattle.mesh_line_service.proofs.LineLemmas.{held_still, through_line_feed}
use Rattle.mesh_line_service.proofs.line.take_some.Goals as goal

pub returns-then-eq-clause-taken : goal.returns-then-eq-clause-taken
returns-then-eq-clause-taken g c = record {
  part = [];
  plain = All-nil (λ byte. byte ≢ 10);
  holds = held_still c.args.longest c.args.line.now.bytes.items c.args.line.now.held;
  taken = Consumes-kept _ _ _ [] (Consumes-nil _) c.fill_buf.follows.holds-at-none.0;
  end = λ e. absurd (cc);
}

pub returns-then-place-shown-clause-taken : goal.returns-then-place-shown-clause-taken
returns-then-place-shown-clause-taken g c =
    let shown = c.in-Ok.shown.now in
    let place = c.line_feed_place-place.result in
    let rested = c.fill_buf.follows.lender-at-none in
    let filled = subst (FillKeeps _ (g.R.Read.remaining rested) (g.R.BufRead.consumable_len rested)) c.in-Ok.is c.fill_buf.follows.holds-at-none in
    let moved = Consumes_shown _ _ _ _ shown (place + 1) (omega (arith, c.if-place-shown.true)) c.in-Ok.ensures.front c.in-Ok.ensures.end filled.0 filled.1 c.consume.ensures.bytes in
    record {
      part = take place shown;
      plain = c.line_feed_place-place.ensures.before;
      holds = c.hold.ensures;
      taken = subst (Consumes _ _) (through_line_feed shown place c.if-place-shown.true (c.line_feed_place-place.ensures.there c.if-place-shown.true)) moved.0;
      end = λ e. absurd (cc);
    }

pub returns-then-place-eq0-clause-taken : goal.returns-then-place-eq0-clause-taken
returns-then-place-eq0-clause-taken g c =
    let shown = c.in-Ok.shown.now in
    let place = c.line_feed_place-place.result in
    let rested = c.fill_buf.follows.lender-at-none in
    let filled = subst (FillKeeps _ (g.R.Read.remaining rested) (g.R.BufRead.consumable_len rested)) c.in-Ok.is c.fill_buf.follows.holds-at-none in
    let moved = Consumes_shown _ _ _ _ shown place c.line_feed_place-place.ensures.bound c.in-Ok.ensures.front c.in-Ok.ensures.end filled.0 filled.1 c.consume-2.ensures.bytes in
    let none : take place shown ≡ [] = ap (λ (n : ℕ). take n shown) c.if-place-eq0.true in
    record {
      part = take place shown;
      plain = c.line_feed_place-place.ensures.before;
      holds = c.hold.ensures;
      taken = subst (Consumes _ _) (sym (append-nil (take place shown))) moved.0;
      end = λ e. (none, moved.1 (omega (arith, c.if-place-eq0.true, c.if-place-shown.false)));
    }

pub returns-else-place-eq0-clause-taken : goal.returns-else-place-eq0-clause-taken
returns-else-place-eq0-clause-taken g c =
    let shown = c.in-Ok.shown.now in
    let place = c.line_feed_place-place.result in
    let rested = c.fill_buf.follows.lender-at-none in
    let filled = subst (FillKeeps _ (g.R.Read.remaining rested) (g.R.BufRead.consumable_len rested)) c.in-Ok.is c.fill_buf.follows.holds-at-none in
    let moved = Consumes_shown _ _ _ _ shown place c.line_feed_place-place.ensures.bound c.in-Ok.ensures.front c.in-Ok.ensures.end filled.0 filled.1 c.consume-2.ensures.bytes in
    record {
      part = take place shown;
      plain = c.line_feed_place-place.ensures.before;
      holds = c.hold.ensures;
      taken = subst (Consumes _ _) (sym (append-nil (take place shown))) moved.0;
      end = λ e. absurd (cc);
    }
