use Rattle.std.proofs.Common.{[], ◌∷◌, ◌++◌, ◌≡◌, ◌+◌, ◌<◌, ◌≤◌, ◌^◌, ℕ, true, false, nat_eq, List, refl, sym, ◌∙◌, ap, subst, arith}
use Rattle.std.specs.Prelude.{if◌then◌else◌}
use Rattle.std.proofs.lemmas.Bool.{false≢true}
use Rattle.std.proofs.lemmas.Bool.Decides.{nat_tests}
use Rattle.vocabulary.specs.declared.calls.Answer.{Answer}
use Rattle.definitions.specs.Calls.{Stepped, step_with, after_exits}
use Rattle.call_replies.specs.Replies.{is_listed}
use Rattle.definitions.specs.Run.{Moment}
use Rattle.definitions.specs.Claims.{names_any}
use Rattle.call_laws.specs.Pieces.{executing_at}
use Rattle.definitions.specs.Plans.{Turn}
use Rattle.handover_text.specs.Reading.{handed_by}
use Rattle.rollback_plan.specs.Bounds.{lacked_in}
use Rattle.plan_walk.specs.Fit.{height_next}
use Rattle.plan_walk.specs.Rests.{rest_in}
use Rattle.plan_walk.specs.Walk.{trail_under}
use Rattle.plan_walk.proofs.Paths.{asks_height}
use Rattle.plan_walk.proofs.TurnsUsed.{only_turn}
use Rattle.kernel_model.specs.Pattern.{moment_at, seen_moment}
use Rattle.plan_executor.specs.Naming.{listed}
use Rattle.plan_executor.proofs.Replaying.{step-listed}
use Rattle.certifier.specs.Shown.{moment_shown, stepped_at}
use Rattle.certifier.proofs.Nexts.{GoesOnBy, next-at, next-edge}
use Rattle.certifier.proofs.replay.Replay.take.Goals as goal

-- a call is left, so there is room for it
some-room : (calls room number : ℕ) → 1 ≤ calls → calls ≤ room → number + room < 2 ^ 32 → (1 ≤ room) × (number + 1 < 2 ^ 32)
some-room calls room number some left few = (omega arith, omega arith)

pub overflow_add-number : goal.overflow_add-number
overflow_add-number c =
    let old = c.args.self.now in
    let w = old.walk in
    let turns = c.turn_of-turn.result ∷ [] in
    let asks = (c.asks.ensures turns (only_turn w.rest c.turn_of-turn.result)).0 c.if-not-asks.false in
    let room = some-room (height_next (rest_in w.rest turns)) old.kernel.room old.number (asks_height (rest_in w.rest turns) (lacked_in w.bound) c.args.entry.now asks) (c.requires.calls turns) c.requires.countable in
    omega (arith, room.1)

pub call-answer-requires : goal.call-answer-requires
call-answer-requires c =
    let old = c.args.self.now in
    let w = old.walk in
    let turns = c.turn_of-turn.result ∷ [] in
    let asks = (c.asks.ensures turns (only_turn w.rest c.turn_of-turn.result)).0 c.if-not-asks.false in
    (some-room (height_next (rest_in w.rest turns)) old.kernel.room old.number (asks_height (rest_in w.rest turns) (lacked_in w.bound) c.args.entry.now asks) (c.requires.calls turns) c.requires.countable).0

pub after_at-self-requires-clause-asks : goal.after_at-self-requires-clause-asks
after_at-self-requires-clause-asks c =
    let w = c.args.self.now.walk in
    let turn = c.turn_of-turn.result in
    let first = only_turn w.rest turn in
    record { turns = turn ∷ []; first = first; asks = (c.asks.ensures (turn ∷ []) first).0 c.if-not-asks.false }

pub after_at-self-requires-clause-listed : goal.after_at-self-requires-clause-listed
after_at-self-requires-clause-listed c =
    let e = c.args.entry.now in
    let m = seen_moment c.moment-moment.result in
    let t = after_exits m.exits c.args.self.now.kernel.table in
    let gave : c.call-answer.result ≡ (step_with (handed_by c.args.self.now.text.now) e.by e.call m.fate t).answer = ap (λ (s : Stepped). s.answer) c.call-answer.ensures.step in
    let same : c.call-answer.result ≡ e.answer = c.is_same_answer.ensures.0 c.if-not-is_same_answer.false in
    subst (λ (a : Answer). is_listed e.call a ≡ true) (sym gave ∙ same) (step-listed (handed_by c.args.self.now.text.now) e.by e.call m.fate t)

pub returns-then-not-asks-clause-next : goal.returns-then-not-asks-clause-next
returns-then-not-asks-clause-next c = (
  λ no. absurd (false≢true no),
  λ some. absurd (false≢true (sym c.if-not-asks.true ∙ (c.asks.ensures some.0 (c.turn_of-turn.ensures some.0 some.1.asks)).1 some.1.asks)),
)

pub returns-then-names_executing-clause-next : goal.returns-then-names_executing-clause-next
returns-then-names_executing-clause-next c =
    let old = c.args.self.now in
    let e = c.args.entry.now in
    let k = old.number + 1 in
    let m = moment_shown (handed_by old.text.now) old.kernel.table e in
    let here : nat_eq k k ≡ true = grind (arith, nat_tests) in
    let shown : seen_moment c.moment-moment.result ≡ m =
    c.moment-moment.ensures ∙ (c.in_ok-show.ensures k ∙ ap (λ b. if b then m else moment_at old.pattern k) here) in
    let named : names_any (executing_at e.call (listed old.executing) (listed old.heir)) m.exits ≡ true =
    ap (λ (x : Moment). names_any (executing_at e.call (listed old.executing) (listed old.heir)) x.exits) (sym shown) ∙ (sym c.names_executing.ensures ∙ c.if-names_executing.true) in (
      λ no. absurd (false≢true no),
      λ some. absurd (false≢true (sym some.1.spares ∙ named)),
    )

pub returns-then-not-is_same_answer-clause-next : goal.returns-then-not-is_same_answer-clause-next
returns-then-not-is_same_answer-clause-next c =
    let old = c.args.self.now in
    let e = c.args.entry.now in
    let k = old.number + 1 in
    let m = moment_shown (handed_by old.text.now) old.kernel.table e in
    let here : nat_eq k k ≡ true = grind (arith, nat_tests) in
    let shown : seen_moment c.moment-moment.result ≡ m =
    c.moment-moment.ensures ∙ (c.in_ok-show.ensures k ∙ ap (λ b. if b then m else moment_at old.pattern k) here) in
    let gave : c.call-answer.result ≡ (stepped_at (handed_by old.text.now) old.kernel.table m e).answer =
    ap (λ (s : Stepped). s.answer) c.call-answer.ensures.step ∙ ap (λ (x : Moment). (stepped_at (handed_by old.text.now) old.kernel.table x e).answer) shown in (
      λ no. absurd (false≢true no),
      λ some. absurd (false≢true (sym c.if-not-is_same_answer.true ∙ c.is_same_answer.ensures.1 (gave ∙ some.1.gives))),
    )

pub returns-clause-next : goal.returns-clause-next
returns-clause-next c =
    let old = c.args.self.now in
    let e = c.args.entry.now in
    let turn = c.turn_of-turn.result in
    let k = old.number + 1 in
    let m = moment_shown (handed_by old.text.now) old.kernel.table e in
    let here : nat_eq k k ≡ true = grind (arith, nat_tests) in
    let shown : seen_moment c.moment-moment.result ≡ m =
    c.moment-moment.ensures ∙ (c.in_ok-show.ensures k ∙ ap (λ b. if b then m else moment_at old.pattern k) here) in
    let gave : c.call-answer.result ≡ (stepped_at (handed_by old.text.now) old.kernel.table m e).answer =
    ap (λ (s : Stepped). s.answer) c.call-answer.ensures.step ∙ ap (λ (x : Moment). (stepped_at (handed_by old.text.now) old.kernel.table x e).answer) shown in
    let same : c.call-answer.result ≡ e.answer = c.is_same_answer.ensures.0 c.if-not-is_same_answer.false in
    let spared : names_any (executing_at e.call (listed old.executing) (listed old.heir)) m.exits ≡ false =
    ap (λ (x : Moment). names_any (executing_at e.call (listed old.executing) (listed old.heir)) x.exits) (sym shown) ∙ (sym c.names_executing.ensures ∙ c.if-names_executing.false) in
    let goes : GoesOnBy old.walk c.after_at-self.result turn e = record { asks = λ turns first. (c.asks.ensures turns first).0 c.if-not-asks.false; leads = c.after_at-self.ensures.trail } in (
      λ there. (turn ∷ [], next-at old e turn c.after_at-self.result c.is_lost.result goes c.is_lost.ensures (sym gave ∙ same) spared there (turn ∷ []) (only_turn old.walk.rest turn)),
      λ some. next-edge old e turn c.after_at-self.result c.is_lost.result goes c.is_lost.ensures some.0 (c.turn_of-turn.ensures some.0 some.1.asks) some.1,
    )

pub returns-clause-taken : goal.returns-clause-taken
returns-clause-taken c = λ there.
    let old = c.args.self.now in
    let e = c.args.entry.now in
    let turn = c.turn_of-turn.result in
    let after = c.after_at-self.result in
    let uses = c.in_ok-follow.ensures.used in
    let k = old.number + 1 in
    let m = moment_shown (handed_by old.text.now) old.kernel.table e in
    let here : nat_eq k k ≡ true = grind (arith, nat_tests) in
    let shown : seen_moment c.moment-moment.result ≡ m =
    c.moment-moment.ensures ∙ (c.in_ok-show.ensures k ∙ ap (λ b. if b then m else moment_at old.pattern k) here) in
    let stepped : record { answer = c.call-answer.result; table = c.call-answer.new.self.table } ≡ stepped_at (handed_by old.text.now) old.kernel.table m e =
    c.call-answer.ensures.step ∙ ap (λ (x : Moment). stepped_at (handed_by old.text.now) old.kernel.table x e) shown in
    let same : c.call-answer.result ≡ e.answer = c.is_same_answer.ensures.0 c.if-not-is_same_answer.false in
    let gives : (stepped_at (handed_by old.text.now) old.kernel.table m e).answer ≡ e.answer = sym (ap (λ (s : Stepped). s.answer) stepped) ∙ same in
    let spared : names_any (executing_at e.call (listed old.executing) (listed old.heir)) m.exits ≡ false =
    ap (λ (x : Moment). names_any (executing_at e.call (listed old.executing) (listed old.heir)) x.exits) (sym shown) ∙ (sym c.names_executing.ensures ∙ c.if-names_executing.false) in
    let goes : GoesOnBy old.walk after turn e = record { asks = λ turns first. (c.asks.ensures turns first).0 c.if-not-asks.false; leads = c.after_at-self.ensures.trail } in
    let lower : (turns : List Turn) → height_next (trail_under after turns).rest + 1 ≤ height_next (trail_under old.walk (uses.taken ++ turns)).rest =
    λ turns. subst (λ (left : List Turn). height_next (trail_under after left).rest + 1 ≤ height_next (trail_under old.walk (uses.taken ++ turns)).rest) (uses.left turns) (c.after_at-self.ensures.lower (uses.taken ++ turns) (uses.first turns)) in
    record {
      room = record {
        calls = λ turns. omega (arith, lower turns, c.requires.calls (uses.taken ++ turns), c.call-answer.ensures.room);
        countable = omega (arith, c.requires.countable, c.call-answer.ensures.room);
        uncounted = omega (arith, c.requires.uncounted, c.in_ok-follow.ensures.late);
        later =
            λ n lt.
            let other : nat_eq n k ≡ false = grind (arith, nat_tests) in
            c.in_ok-show.ensures n ∙ (ap (λ b. if b then m else moment_at old.pattern n) other ∙ c.requires.later n (omega (arith, lt)));
      };
      text = refl;
      heir = refl;
      sides = c.after_at-self.ensures.sides;
      number = refl;
      trimmed = c.in_ok-follow.ensures.trimmed;
      taken = uses.taken;
      used = uses.used;
      next = λ turns. next-at old e turn after c.is_lost.result goes c.is_lost.ensures gives spared there (uses.taken ++ turns) (uses.first turns);
      only = λ one turns asks. uses.only one turns (c.turn_of-turn.ensures (one ∷ turns) asks);
      place =
          λ turns.
          let trail = ap (trail_under after) (sym (uses.left turns)) ∙ c.after_at-self.ensures.trail (uses.taken ++ turns) (uses.first turns) in
          λ i. record { trail = trail i; table = (stepped i).table; executing = c.executing_after-self.ensures i };
      pattern = c.in_ok-show.ensures;
    }
