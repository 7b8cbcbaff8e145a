use Rattle.std.proofs.Common.{◌≡◌, ◌++◌, Ok, arith, ap, subst, ◌∙◌}
use Rattle.std.specs.Prelude.{codes}
use Rattle.std.specs.List.{flat_map}
use Rattle.definitions.specs.Calls.{Handover}
use Rattle.handover_text.specs.Spelling.{Two, spelling, line_of, listener_line, group_lines, pid_file_line}
use Rattle.handover_text.specs.Reading.{reading}
use Rattle.handover_text.proofs.Spelled.{old_pid_line, generation_line, spelled_whole}
use Rattle.handover_text.specs.Ranges.{IsHandover}
use Rattle.handover_text.proofs.Taken.{reading-spelling}
use Rattle.handover_text.proofs.writing.write.Goals as goal

pub returns-clause-exact : goal.returns-clause-exact
returns-clause-exact c =
    let f = c.handover.inside in
    let h : Handover = record { old_pid = f.old_pid; generation = f.generation; listeners = f.listeners; want = f.want; groups = f.groups; pid_file = f.pid_file } in
    rw (← c.handover.view_is)
    (c.in_ok-extend_from_slice-2.ensures.items
    ∙ ap (λ t. t ++ line_of (codes "end")) (c.in_ok-put_pid_file.ensures.line
    ∙ ap (λ t. t ++ pid_file_line h.pid_file) (c.in_ok-put_groups.ensures.lines
    ∙ ap (λ t. t ++ group_lines h.groups h.want) (c.in_ok-put_listeners.ensures.lines
    ∙ ap (λ t. t ++ flat_map listener_line h.listeners) (c.in_ok-put_generation.ensures.line
    ∙ ap (λ t. t ++ generation_line h.generation.image h.generation.config) (c.in_ok-put_numbered.ensures
    ∙ ap (λ t. t ++ old_pid_line h.old_pid) (c.in_ok-extend_from_slice.ensures.items ∙ ap (λ t. t ++ codes "handover 2\n") c.new-text.ensures.items))))))
    ∙ spelled_whole Two h)

pub returns-clause-read_back : goal.returns-clause-read_back
returns-clause-read_back c =
    let f = c.handover.inside in
    let h : Handover = record { old_pid = f.old_pid; generation = f.generation; listeners = f.listeners; want = f.want; groups = f.groups; pid_file = f.pid_file } in
    let is : IsHandover h = record {
      parts = record {
        old_pid = omega arith;
        image = c.in_ok-put_generation.ensures.image;
        config = c.in_ok-put_generation.ensures.config;
        listed = c.in_ok-put_listeners.ensures.listed;
        listened = c.in_ok-put_listeners.ensures.addresses;
        wanted = c.in_ok-put_groups.ensures.addresses;
        distinct = c.in_ok-put_groups.ensures.distinct;
        most = c.in_ok-put_groups.ensures.most;
        path = c.in_ok-put_pid_file.ensures.path;
      };
      in_range = c.handover.invariant;
      groups = c.in_ok-put_groups.ensures.groups;
    } in
    ap reading (returns-clause-exact c) ∙ subst (λ told. reading (spelling told) ≡ Ok told) c.handover.view_is (reading-spelling Two h is tt)
