use Rattle.std.proofs.Common.{◌≤◌, length}
use Rattle.listener_set.proofs.PathTexts.{oldbin_path}
use Rattle.listener_set.proofs.file_path.FilePath.oldbin.Goals as goal

pub invariant_of-result : goal.invariant_of-result
invariant_of-result c =
    let short : length c.self.inside.text ≤ 100 = rw c.self.view_is c.requires in
    oldbin_path _ _ c.self.invariant short c.followed_by.ensures
