use Rattle.std.proofs.Common.{◌+◌, ◌++◌, drop, slice_get, sym, ap, ◌∙◌, append_assoc}
use Rattle.pattern_text.specs.PatternsWriting.{event_text, moments_text}
use Rattle.pattern_text.specs.Written.{IsNoted}
use Rattle.pattern_text.proofs.Sections.{section_at, all_at}
use Rattle.pattern_text.proofs.writing.write_moments.Goals as goal

pub loop-place-preserved : goal.loop-place-preserved
loop-place-preserved c =
    let p = c.args.pattern.now in
    let i = c.loop-place.place in
    let old = c.loop-place.out.items in
    record {
      written =
          ap (λ t. t ++ moments_text (drop (i + 1) p)) c.in_ok-write_event.ensures.text
          ∙ append_assoc old (event_text (slice_get p i)) (moments_text (drop (i + 1) p))
          ∙ ap (λ t. old ++ t) (sym (section_at p i))
          ∙ c.loop-place.invariant.written;
      noted = λ rest. c.loop-place.invariant.noted (all_at IsNoted p i c.in_ok-write_event.ensures.noted rest);
    }
