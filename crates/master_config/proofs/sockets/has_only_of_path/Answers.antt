use Rattle.std.proofs.Common.{◌∙◌, rules, tests, String, Global, string_bytes}
use Rattle.std.proofs.lemmas.Iterator.Consumers.{YieldsList-from_rest}
use Rattle.std.proofs.lemmas.Iterator.Search.{all_from_yields_List}
use Rattle.std.specs.Map.{keys_of}
use Rattle.std.specs.Map.Iter.{deref}
use Rattle.master_config.specs.Names.{is_of_path}
use Rattle.master_config.proofs.Trees.{list_all-keys}
use Rattle.master_config.proofs.sockets.has_only_of_path.Goals as goal

pub returns : goal.returns
returns c =
    let keys = keys_of c.args.options.now.entries in
    all_from_yields_List (λ k. is_of_path (string_bytes k)) _ _ c.all.result c.all.ensures.ran (YieldsList-from_rest {shows = deref {X = String Global}} keys c.keys.ensures.rest) (λ x b q k. search (rules, tests))
    ∙ list_all-keys is_of_path c.args.options.now.entries
