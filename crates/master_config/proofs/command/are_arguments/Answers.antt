use Rattle.std.proofs.Common.{◌∙◌, rules, tests}
use Rattle.std.proofs.lemmas.Iterator.{YieldsList-from_slice}
use Rattle.std.proofs.lemmas.Iterator.Search.{all_from_yields_List}
use Rattle.toml.specs.View.{view}
use Rattle.master_config.specs.Values.{text_of}
use Rattle.master_config.specs.Arguments.{is_argument}
use Rattle.master_config.proofs.Trees.{list_all-texts_of}
use Rattle.master_config.proofs.command.are_arguments.Goals as goal

pub returns : goal.returns
returns c =
    all_from_yields_List (λ v. is_argument (text_of (view v))) _ _ c.all.result c.all.ensures.ran (YieldsList-from_slice c.args.items.now.items cc) (λ x b q k. search (rules, tests))
    ∙ list_all-texts_of is_argument c.args.items.now.items
