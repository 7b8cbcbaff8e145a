use Rattle.std.proofs.Common.{◌≡◌, ℕ, Option, Some, List, [], ◌∷◌, ◌++◌, true, sym, ap, subst, ◌∙◌, rules}
use Rattle.child_processes.specs.NextLine.{unheard}
use Rattle.child_programs.specs.Requests.{Part, part_of, with_line, text_after}
use Rattle.child_programs.specs.Served.{if_more, IsNextLine}
use Rattle.child_programs.proofs.Obeying.{next-push}
use Rattle.child_programs.proofs.Handing.{more-push, lines-push}
use Rattle.child_programs.proofs.serving.receive.Goals as goal

pub returns-in-Whole : goal.returns-in-Whole
returns-in-Whole g c =
    let h = c.loop.invariant in
    let text = c.bytes.result.now in
    let before = unheard g.I.Read.remaining c.loop.lines in
    let left = unheard g.I.Read.remaining c.next_line.new.lines in
    let more : c.in_ok-next_line.field-0 ≡ true = search rules in
    let is : if_more c.in_ok-next_line.field-0 c.next_line.new.line ≡ Some text =
    ap (λ more. if_more more c.next_line.new.line) more ∙ ap (λ (t : List ℕ). Some t) (sym c.bytes.ensures.text) in
    let next = subst (λ (one : Option (List ℕ)). IsNextLine before one left) is c.in_ok-next_line.ensures in
    let part = sym c.in_ok-take.ensures.part ∙ c.in-Whole.is in
    record {
      last = text;
      handed = record { lines = h.0; from = before; are_next = h.1; are_more = h.2; is_next = next; is_part = part };
      text_is = c.in_ok-take.ensures.text ∙ (ap (λ (p : Part). text_after p c.loop.handover text) part ∙ ap (λ (t : List ℕ). with_line t text) h.3);
    }

pub loop-preserved : goal.loop-preserved
loop-preserved g c =
    let h = c.loop.invariant in
    let text = c.bytes.result.now in
    let before = unheard g.I.Read.remaining c.loop.lines in
    let left = unheard g.I.Read.remaining c.next_line.new.lines in
    let more : c.in_ok-next_line.field-0 ≡ true = search rules in
    let is : if_more c.in_ok-next_line.field-0 c.next_line.new.line ≡ Some text =
    ap (λ more. if_more more c.next_line.new.line) more ∙ ap (λ (t : List ℕ). Some t) (sym c.bytes.ensures.text) in
    let next = subst (λ (one : Option (List ℕ)). IsNextLine before one left) is c.in_ok-next_line.ensures in
    let part = sym c.in_ok-take.ensures.part ∙ c.in-More.is in
    let longer = c.in_ok-take.ensures.text ∙ (ap (λ (p : Part). text_after p c.loop.handover text) part ∙ ap (λ (t : List ℕ). with_line t text) h.3) in (
      h.0 ++ text ∷ [],
      next-push (unheard g.I.Read.remaining c.args.lines.now) h.0 before text left h.1 next,
      more-push h.0 text h.2 part,
      longer ∙ sym (lines-push [] h.0 text),
    )
