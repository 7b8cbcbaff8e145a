-- Single words.
use Rattle.std.specs.Prelude.{ℕ, List, codes}
use Rattle.vocabulary.specs.declared.calls.Fate.{Fate}
use Rattle.vocabulary.specs.declared.calls.Fate.TheVariants as fate
use Rattle.vocabulary.specs.declared.calls.Reply.{Reply}
use Rattle.vocabulary.specs.declared.plans.End.{End}
use Rattle.vocabulary.specs.declared.plans.End.TheVariants.{Done, RolledBack, ShortOld, ShortTarget, Split, JoinReady, JoinBack, Join}
use Rattle.vocabulary.specs.declared.plans.PidNote.{PidNote}
use Rattle.vocabulary.specs.declared.plans.Side.{Side}
use Rattle.vocabulary.specs.declared.calls.Reply.TheVariants as reply
use Rattle.vocabulary.specs.declared.plans.PidNote.TheVariants.{InPlace, AtOldbin, OldbinLeft, Left, NoFile}
use Rattle.vocabulary.specs.declared.plans.Side.TheVariants as side

abbrev pub fate_text : Fate → List ℕ
fate_text fate.InUse = codes "in-use"
fate_text fate.TooMany = codes "too-many"
fate_text fate.Denied = codes "denied"
fate_text fate.NoMemory = codes "no-memory"
fate_text fate.Again = codes "again"
fate_text fate.Late = codes "late"
fate_text fate.NoImage = codes "no-image"
fate_text fate.Refused = codes "refused"
fate_text fate.IoFault = codes "io-fault"
fate_text fate.Back = codes "back"

abbrev pub reply_text : Reply → List ℕ
reply_text reply.Opened = codes "opened"
reply_text reply.InUse = codes "in-use"
reply_text reply.TooMany = codes "too-many"
reply_text reply.Denied = codes "denied"
reply_text reply.NoMemory = codes "no-memory"
reply_text reply.Fine = codes "ok"
reply_text reply.Forked = codes "forked"
reply_text reply.Again = codes "again"
reply_text reply.IsReady = codes "ready"
reply_text reply.Gone = codes "gone"
reply_text reply.Late = codes "late"
reply_text reply.Full = codes "full"
reply_text reply.Short = codes "short"
reply_text reply.Spawned = codes "spawned"
reply_text reply.NoImage = codes "no-image"
reply_text reply.Adopted = codes "adopted"
reply_text reply.Refused = codes "refused"
reply_text reply.IoFault = codes "io-fault"
reply_text reply.IsAlive = codes "alive"
reply_text reply.Go = codes "go"
reply_text reply.Back = codes "back"
reply_text reply.MasterGone = codes "master-gone"

abbrev pub end_text : End → List ℕ
end_text Done = codes "done"
end_text RolledBack = codes "rolled-back"
end_text ShortOld = codes "degraded-old"
end_text ShortTarget = codes "degraded-target"
end_text Split = codes "split"
end_text JoinReady = codes "join-ready"
end_text JoinBack = codes "join-back"
end_text Join = codes "join"

abbrev pub note_text : PidNote → List ℕ
note_text InPlace = codes "in-place"
note_text AtOldbin = codes "at-oldbin"
note_text OldbinLeft = codes "oldbin-left"
note_text Left = codes "left"
note_text NoFile = codes "no-file"

abbrev pub side_text : Side → List ℕ
side_text side.Old = codes "old"
side_text side.Target = codes "target"
