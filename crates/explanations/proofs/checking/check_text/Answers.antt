use Rattle.std.proofs.Common.{◌≡◌}
use Rattle.master_config.specs.declared.refusal.ConfigRefusal.TheVariants as why
use Rattle.explanations.proofs.checking.check_text.Goals as goal

-- a refusal that is not for memory is the reading's
pub returns : goal.returns
returns c = record {
  ok = (c.in-Err.refusal, c.in-Err.ensures (λ same. let is : c.in-Err.refusal ≡ why.Memory = cc in c.in_default.not-Memory is));
  err = tt;
}
