use Rattle.std.proofs.Common.{◌≡◌, List, length, not, refl, sym, ◌∙◌, ap, subst, arith}
use Rattle.std.proofs.lemmas.List.{length-map}
use Rattle.listener_set.specs.AddressList.{has}
use Rattle.listener_set.specs.declared.generation.Generation.{Generation}
use Rattle.vocabulary.specs.Settings.{Settings}
use Rattle.vocabulary.specs.declared.table.Listener.{Listener}
use Rattle.definitions.specs.Master.{Crew, Record, addresses_of, crew_of, handover_for, upgrade_generation}
use Rattle.definitions.specs.After.{posts_wanted}
use Rattle.vocabulary.specs.declared.targets.Target.TheVariants as target
use Rattle.handover_text.specs.Reading.{Hands}
use Rattle.definitions.specs.Plans.{Turn, plan_tree, only_in}
use Rattle.call_laws.specs.Lengths.{plan_length}
use Rattle.rollback_plan.specs.Plans.{tree_under, length_of, text_of}
use Rattle.reload_planner.proofs.Sets.{filter_few, length-below}
use Rattle.upgrade_planner.specs.Trees.{asked_for}
use Rattle.upgrade_planner.proofs.Drawn.{drawn_parts, drawn_fit, drawn_tree, drawn_length}
use Rattle.upgrade_planner.proofs.Masters.{drawn_apart}
use Rattle.upgrade_planner.proofs.Upgrades.{same_numbers, same_addresses, same_handover, upgrade_is, as_long}
use Rattle.upgrade_planner.proofs.planning.plan_to.Goals as goal

pub finish_in_parts-requires-clause-parts : goal.finish_in_parts-requires-clause-parts
finish_in_parts-requires-clause-parts c = drawn_parts _ _ c.in_ok-drawn.drawn c.in_ok-drawn.ensures.made

pub finish_in_parts-requires-clause-fit : goal.finish_in_parts-requires-clause-fit
finish_in_parts-requires-clause-fit c = drawn_fit _ _ c.in_ok-drawn.drawn c.in_ok-drawn.ensures.made

pub finish_in_parts-requires-clause-apart : goal.finish_in_parts-requires-clause-apart
finish_in_parts-requires-clause-apart c =
    drawn_apart _ _ c.in_ok-drawn.drawn c.in_ok-drawn.ensures.made
    (omega (arith, ap (λ (g : Generation). g.image) c.requires, ap (λ (crew : Crew). crew.generation.image) c.crew.ensures))

-- it is the plan of the target, and as long as that
planned : (c : goal.After-drop-leaving-2) →
    ((turns : List Turn) → tree_under c.in_ok-finish_in_parts.field-0 turns
    ≡ plan_tree c.args.state.now (asked_for c.args.attended c.args.settings.now) turns)
    × (length_of c.in_ok-finish_in_parts.field-0 ≡ plan_length c.args.state.now (asked_for c.args.attended c.args.settings.now))
planned c =
    let v = c.state.inside in
    let s = c.settings.inside in
    let r : Record = record { listeners = v.listeners; posts = v.posts; generation = v.generation; ready = v.ready; wanted = v.wanted; retries = v.retries; timeout = v.timeout; pid_path = v.pid_path; note = v.note; pid = v.pid } in
    let said : Settings = record { listeners = s.listeners; workers = s.workers; groups = s.groups; timeout = s.timeout; retries = s.retries; surge = s.surge; pid = s.pid } in
    let held = addresses_of r in
    let dropped = c.as_slice.ensures.items ∙ (c.only_in-dropped.ensures ∙ ap (λ xs. only_in xs s.listeners) c.addresses-listening.ensures) in
    let added = c.as_slice-2.ensures.items ∙ (c.only_in-added.ensures ∙ ap (only_in s.listeners) c.addresses-listening.ensures) in
    let crew = c.crew.ensures ∙ ap crew_of (sym c.state.view_is) in
    let generation = c.requires ∙ ap (λ (known : Record). upgrade_generation known.generation) (sym c.state.view_is) in
    let posts = c.posts_wanted-posts.ensures ∙ ap (posts_wanted c.args.state.now) (c.asked_for-target.ensures ∙ ap (asked_for c.args.attended) (sym c.settings.view_is)) ∙ ap (λ (known : Record). posts_wanted known (asked_for c.args.attended said)) (sym c.state.view_is) in
    let plan = c.in_ok-finish_in_parts.field-0 in
    let told = c.in_ok-finish_in_parts.ensures in
    let target = λ (settings : Settings). asked_for c.args.attended settings in
    subst (λ (known : Record). ((turns : List Turn) → tree_under plan turns ≡ plan_tree known (target c.args.settings.now) turns) × (length_of plan ≡ plan_length known (target c.args.settings.now))) c.state.view_is
    (subst (λ (given : Settings). ((turns : List Turn) → tree_under plan turns ≡ plan_tree r (target given) turns) × (length_of plan ≡ plan_length r (target given))) c.settings.view_is (
      λ turns. told.tree turns
          ∙ (drawn_tree _ _ c.in_ok-drawn.drawn held s.listeners c.in_ok-drawn.ensures.made dropped added turns ∙ upgrade_is c.args.attended r said c.crew.result c.args.generation c.posts_wanted-posts.result held crew generation posts refl turns),
      told.longest
          ∙ (drawn_length _ _ c.in_ok-drawn.drawn held s.listeners c.in_ok-drawn.ensures.made dropped added ∙ as_long c.args.attended r said c.crew.result c.args.generation c.posts_wanted-posts.result held crew generation posts refl),
    ))

pub returns-clause-tree : goal.returns-clause-tree
returns-clause-tree c = (planned c).0

pub returns-clause-longest : goal.returns-clause-longest
returns-clause-longest c = (planned c).1

pub returns-clause-text : goal.returns-clause-text
returns-clause-text c =
    let s = c.args.settings.now in
    subst (Hands (text_of c.in_ok-finish_in_parts.field-0)) (sym (same_handover c.args.attended c.args.state.now s))
    (subst (λ text. Hands text (handover_for c.args.state.now (target.Upgrade s))) (sym c.in_ok-finish_in_parts.ensures.text) c.in_ok-text.ensures)

pub returns-clause-few : goal.returns-clause-few
returns-clause-few c =
    let v = c.state.inside in
    let s = c.settings.inside in
    let listened = c.addresses-listening.result in
    let coming : length c.deref-2.result.now ≡ s.workers = ap length (c.deref-2.ensures.value ∙ (c.in_ok-coming.ensures.items ∙ c.below-wanted.ensures)) ∙ length-below s.workers in
    let dropped = ap length (c.as_slice.ensures.items ∙ c.only_in-dropped.ensures) in
    let added = ap length (c.as_slice-2.ensures.items ∙ c.only_in-added.ensures) in
    let old : length listened ≡ length v.listeners = ap length c.addresses-listening.ensures ∙ length-map v.listeners (λ (l : Listener). l.address) in
    let r : Record = record { listeners = v.listeners; posts = v.posts; generation = v.generation; ready = v.ready; wanted = v.wanted; retries = v.retries; timeout = v.timeout; pid_path = v.pid_path; note = v.note; pid = v.pid } in
    let said : Settings = record { listeners = s.listeners; workers = s.workers; groups = s.groups; timeout = s.timeout; retries = s.retries; surge = s.surge; pid = s.pid } in
    rw (← c.state.view_is, ← c.settings.view_is)
    (omega (arith, ap length (same_numbers c.args.attended r said), ap length (same_addresses c.args.attended r said), c.in_ok-finish_in_parts.ensures.few, c.in_ok-drawn.ensures.count, ap length c.in_ok-draft.ensures.none, coming, length-below s.workers, dropped, added, old, filter_few (λ a. not (has s.listeners a)) listened, filter_few (λ a. not (has listened a)) s.listeners))
