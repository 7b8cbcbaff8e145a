use Rattle.std.proofs.Common.{sym}
use Rattle.std.proofs.KnownBytes.{Keeps-trans}
use Rattle.child_family.specs.Told.{heard_of}
use Rattle.child_processes.specs.NextLine.{heard_in, left_in, unheard}
use Rattle.child_processes.proofs.Streams.{told_next, read_on, read_failed, stays, next_later}
use Rattle.child_processes.proofs.reader.LineReader.hear_within.Goals as goal
use Rattle.child_processes.proofs.reader.LineReader.hear_within.Goals.{in-Ok, in-Err}

pub returns-in-Some-clause-heard : goal.returns-in-Some-clause-heard
returns-in-Some-clause-heard g c =
    let told = g.R.Read.remaining in
    let old = c.loop.self.buffer in
    let took = c.take_line.new.self in
    next_later heard_in left_in _ _ _ (heard_of c.in-Some.heard c.take_line.new.line) c.loop.invariant
    (told_next (told c.loop.self.reader) old took _ c.in-Some.ensures.fits c.in-Some.ensures.told c.in-Some.ensures.left)

pub returns-then-not-lasts-clause-failed : goal.returns-then-not-lasts-clause-failed
returns-then-not-lasts-clause-failed g c =
    let told = g.R.Read.remaining in
    let old = c.loop.self.buffer in
    let took = c.take_line.new.self in
    Keeps-trans _ _ _ c.loop.invariant
    (stays (told c.loop.self.reader) old took (sym c.in_default.ensures.told, c.in_default.ensures.left))

pub returns-in-Err-2-clause-failed : goal.returns-in-Err-2-clause-failed
returns-in-Err-2-clause-failed g c =
    let told = g.R.Read.remaining in
    let old = c.loop.self.buffer in
    let took = c.take_line.new.self in
    let f = c.in-Err.ensures.failed in
    Keeps-trans _ _ _ c.loop.invariant
    (read_failed (told c.loop.self.reader) (told c.fill.new.reader) old took c.fill.new.self (sym c.in_default.ensures.told, c.in_default.ensures.left) f.0 f.1)

pub loop-preserved : goal.loop-preserved
loop-preserved g c =
    let told = g.R.Read.remaining in
    let old = c.loop.self.buffer in
    let took = c.take_line.new.self in
    elim c.match-fill.branch [
      | in-Ok w ↦
          let r = w.in-Ok.ensures.read in
          Keeps-trans _ _ _ c.loop.invariant
          (read_on (told c.loop.self.reader) (told c.fill.new.reader) old took c.fill.new.self r.0 (sym c.in_default.ensures.told, c.in_default.ensures.left) r.2 r.3)
      | in-Err w ↦
          let f = w.in-Err.ensures.failed in
          Keeps-trans _ _ _ c.loop.invariant
          (read_failed (told c.loop.self.reader) (told c.fill.new.reader) old took c.fill.new.self (sym c.in_default.ensures.told, c.in_default.ensures.left) f.0 f.1)
    ]
