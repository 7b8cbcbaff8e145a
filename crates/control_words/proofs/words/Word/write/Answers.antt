use Rattle.std.proofs.Common.{◌≡◌, ◌∙◌, subst, IfOk}
use Rattle.control_words.proofs.Written.{tick_on, beat_on}
use Rattle.control_words.proofs.words.Word.write.Goals as goal

pub returns-in_ok-write_spaced-in-Beat : goal.returns-in_ok-write_spaced-in-Beat
returns-in_ok-write_spaced-in-Beat g c =
    subst (λ t. IfOk c.write_spaced-in-Beat.result (λ x. g.S.Sink.text c.write_spaced-in-Beat.new.out ≡ t))
    (beat_on g.S.Sink.most (g.S.Sink.text c.args.out.now) _ _ c.args.self.now (c.as_bytes.ensures.value ∙ c.name.ensures) c.in_ok-put.ensures _ c.in-Beat.nr c.in-Beat.now c.from.result c.in-Beat.is c.from.ensures c.in_ok-write_spaced-in-Beat.ensures)
    c.write_spaced-in-Beat.ensures

pub returns-in-Tick : goal.returns-in-Tick
returns-in-Tick g c =
    subst (λ t. IfOk c.write_spaced-in-Tick.result (λ x. g.S.Sink.text c.write_spaced-in-Tick.new.out ≡ t))
    (tick_on g.S.Sink.most (g.S.Sink.text c.args.out.now) _ _ c.args.self.now (c.as_bytes.ensures.value ∙ c.name.ensures) c.in_ok-put.ensures c.in-Tick.now c.in-Tick.is)
    c.write_spaced-in-Tick.ensures
