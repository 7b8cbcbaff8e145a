use Rattle.std.proofs.Common.{ℕ, List, ◌++◌, length, ap, ◌∙◌}
use Rattle.kernel_pattern.specs.declared.section.Section.{Section}
use Rattle.pattern_text.specs.PatternsWriting.{patterns_text}
use Rattle.life_account.specs.Account.{seen_life}
use Rattle.life_text.specs.LifeText.{life_text}
use Rattle.master_on_kernel.proofs.living.certify_with_life.Goals as goal

pub returns-clause-ok : goal.returns-clause-ok
returns-clause-ok c =
    let certified = c.in-Ok.certified in
    let lived = life_text (length c.args.blocks.now) (seen_life certified.life) in
    let patterns = c.in_ok-text.ensures.exact ∙ ap (λ (sections : List Section). patterns_text sections) c.as_slice.ensures.value in
    record {
      certified = certified;
      is_life = c.in-Ok.ensures.ok;
      written = c.in_ok-write_life.ensures ∙ ap (λ (text : List ℕ). text ++ lived) patterns;
    }
