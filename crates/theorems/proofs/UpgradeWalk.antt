-- An upgrade's tree up to where its old master is relieved, and the pieces from there, as calls that keep a fact on the table.
use Rattle.std.proofs.Common.{◌≡◌, ◌≢◌, ℕ, Bool, true, false, List, [], ◌∷◌, ◌++◌, Option, Some, None, refl, arith}
use Rattle.std.specs.Prelude.{⊤, map, reverse, drop}
use Rattle.std.specs.List.{AllByRecursion}
use Rattle.listener_set.specs.Numbers.{numbers_below}
use Rattle.vocabulary.specs.declared.calls.Call.{Call}
use Rattle.vocabulary.specs.declared.calls.Call.TheVariants.{OpenAt, CloseAt, Fork, AwaitReady, Census, Adopt, WritePid, MovePid, SpawnMaster, TermMaster, Ask}
use Rattle.vocabulary.specs.declared.calls.Fate.{Fate}
use Rattle.vocabulary.specs.declared.names.Name.{Name}
use Rattle.vocabulary.specs.declared.plans.PidNote.{PidNote}
use Rattle.vocabulary.specs.declared.plans.PidNote.TheVariants.{InPlace, AtOldbin, OldbinLeft, Left, NoFile}
use Rattle.vocabulary.specs.declared.plans.Side.TheVariants.{Old}
use Rattle.vocabulary.specs.declared.plans.Order.TheVariants.{Make}
use Rattle.vocabulary.specs.declared.reports.Entry.{Entry}
use Rattle.definitions.specs.Table.{Address, FilePath, Table}
use Rattle.definitions.specs.Calls.{after_exits, step_with, Handed}
use Rattle.definitions.specs.Claims.{is_leave_call, names_any}
use Rattle.vocabulary.specs.declared.calls.Reply.TheVariants as reply
use Rattle.definitions.specs.Run.{Tree, Branches, Nothing, Does, plain_reply, Progress, Lost}
use Rattle.call_laws.specs.Pieces.{replies_to, quits, spawn_edges}
use Rattle.definitions.specs.Plans.{on, then_edge, note_edges, settle, back_alone, back_from, move_back, move_aside}
use Rattle.definitions.specs.Plans.{tries, tries_all, new_calls, new_part, old_part, taken_over, pid_calls, awaits_gone}
use Rattle.definitions.specs.Plans.{asks, retire, back_serving, relieve, upgrade_tree, does, weave, joined, only_in}
use Rattle.definitions.specs.Master.{fork_of, oldbin}
use Rattle.run_laws.proofs.Logic.{Exiting}
use Rattle.run_laws.proofs.Processes.{AnyCall}
use Rattle.vocabulary.specs.declared.plans.Turn.{Turn}
use Rattle.theorems.proofs.UpgradeBeside.{Counts}
use Rattle.theorems.proofs.UpgradeMends.{PartCall, Spares, tried-all}
use Rattle.run_laws.proofs.Traces.{Asking, Finally, Good, AllGood, good-call}
use Rattle.theorems.proofs.UpgradeStage.{Given, g, new, old_crew, new_crew, R, A0, n, wanted, co}

-- nothing is known of what was done
abbrev pub Free : List Entry → Type 0
Free past = ⊤

pub any-stays : (image : ℕ) (call : Call) → AnyCall image call → is_leave_call call ≡ false
any-stays image (OpenAt a) any = refl
any-stays image (CloseAt a) any = refl
any-stays image (Fork h x fds) any = refl
any-stays image (AwaitReady h x) any = refl
any-stays image (Census h) any = refl
any-stays image Adopt any = refl
any-stays image (WritePid path) any = refl
any-stays image (MovePid from to) any = refl
any-stays image (SpawnMaster i) any = refl
any-stays image (TermMaster i) any = refl
any-stays image (Ask q) any = refl
any-stays image _ any = absurd any

all-joined : (P : Call → Type 0) (l k : List Call) → AllByRecursion P l → AllByRecursion P k → AllByRecursion P (l ++ k)
all-joined P [] k a b = b
all-joined P (x ∷ l) k a b = (a.0, all-joined P l k a.1 b)

all-mapped : {X : Type 0} (P : Call → Type 0) (f : X → Call) (l : List X) → ((x : X) → P (f x)) → AllByRecursion P (map f l)
all-mapped P f [] h = tt
all-mapped P f (x ∷ l) h = (h x, all-mapped P f l h)

module _ (c : Given) (due : Asking) (post : Finally) (mild : Exiting)
    (lost : (past : List Entry) (p : Progress) → post past Lost p) (F : Table → Type 0)
    (exits : (es : List Name) (t : Table) → names_any (co c).executing es ≡ false → mild es t.rows → F t → F (after_exits es t))
  where
    abbrev pub IsGood : (List Entry → Type 0) → Tree → Type 0
    IsGood K t = Good due post mild (co c) lost F K t

    ---- Up to the relief

    module _
        (any : (handed : Handed) (by : ℕ) (call : Call) (fate : Option Fate) (t : Table) → AnyCall c.rec.generation.image call → F t → F (step_with handed by call fate t).table)
        (owes : (past : List Entry) (call : Call) (t : Table) → AnyCall c.rec.generation.image call → F t → due past call t)
        (settled : IsGood Free (settle c.rec.generation.image (old_crew c) (R c) Old c.rec.retries))
        (relieved : (rest : Tree) → IsGood Free (quits c.rec.generation.image (g c) (reverse (R c)) (awaits_gone c.rec.generation.image (g c) (reverse (R c)) rest)))
        (spares : Spares c due post mild lost F exits any owes) (turns : List Turn) where
      one-call :
          (by : ℕ) (call : Call) (set : List ℕ) (bs : Branches) → AnyCall c.rec.generation.image call →
          AllGood due post mild (co c) lost F Free bs → IsGood Free (Does by (Make call) set bs)
      one-call by call set bs is all =
          good-call due post mild (co c) lost F Free by call set bs (any-stays c.rec.generation.image call is) exits
          (λ past e k. tt) (λ past t k h. owes past call t is h) (λ handed fate t h. any handed by call fate t is h) all

      apart : (new c).image ≢ c.rec.generation.image
      apart e = absurd (omega (arith, e))

      moved-back : (path : Option FilePath) (rest : Tree) → IsGood Free rest → IsGood Free (move_back c.rec.generation.image path rest)
      moved-back None rest h = h
      moved-back (Some path) rest h =
          one-call c.rec.generation.image (MovePid (oldbin path) path) [] (note_edges (Some InPlace) (Some AtOldbin) rest)
          tt (h, (h, tt))

      abbrev alone : Tree
      alone = back_alone c.rec.generation.image (old_crew c) (R c) c.rec.retries c.rec.pid_path

      back-good : IsGood Free alone
      back-good = moved-back c.rec.pid_path (settle c.rec.generation.image (old_crew c) (R c) Old c.rec.retries) settled

      abbrev back : Tree
      back = back_from c.rec.generation.image (new c).image (old_crew c) (R c) c.rec.retries c.rec.pid_path

      from-good : IsGood Free back
      from-good = one-call c.rec.generation.image (TermMaster (new c).image) [] (then_edge alone) apart (back-good, tt)

      abbrev edges : Call → Tree → Branches
      edges call rest = on (plain_reply call ∷ []) rest (on (drop 1 (replies_to call) ++ reply.MasterGone ∷ []) back Nothing)

      tries-good :
          (calls : List Call) (rest : Tree) → AllByRecursion (AnyCall c.rec.generation.image) calls → IsGood Free rest →
          IsGood Free (tries_all (new c).image calls rest back)
      tries-good [] rest all h = h
      tries-good (call ∷ calls) rest all h =
          one-call (new c).image call [] (edges call (tries_all (new c).image calls rest back)) all.0
          (tries-good calls rest all.1 h, (from-good, tt))

      abbrev Calls : List Call → Type 0
      Calls calls = AllByRecursion (AnyCall c.rec.generation.image) calls

      -- no count, and no Leave
      abbrev Plain : Call → Type 0
      Plain call = (is_leave_call call ≡ false) × PartCall call × AnyCall c.rec.generation.image call

      calls-plain :
          (closes opens : List Address) (ks : List ℕ) → AllByRecursion Plain
          (Adopt ∷ map CloseAt closes ++ map OpenAt opens ++ map (fork_of (new_crew c)) ks ++ map (AwaitReady (new c)) ks)
      calls-plain closes opens ks =
          let a = Adopt ∷ map CloseAt closes in
          let b = map OpenAt opens in
          let f = map (fork_of (new_crew c)) ks in
          let w = map (AwaitReady (new c)) ks in
          both (a ++ b ++ f) w
          (both (a ++ b) f (both a b ((refl, tt, tt), mapped CloseAt closes (λ x. (refl, tt, tt))) (mapped OpenAt opens (λ x. (refl, tt, tt)))) (mapped (fork_of (new_crew c)) ks (λ x. (refl, tt, tt))))
          (mapped (AwaitReady (new c)) ks (λ x. (refl, tt, tt)))
        where
          both : (l k : List Call) → AllByRecursion Plain l → AllByRecursion Plain k → AllByRecursion Plain (l ++ k)
          both l k x y = all-joined Plain l k x y

          mapped : {X : Type 0} (f : X → Call) (l : List X) → ((x : X) → Plain (f x)) → AllByRecursion Plain (map f l)
          mapped f l h = all-mapped Plain f l h

      writes-any : (path : Option FilePath) → Calls (pid_calls path WritePid)
      writes-any None = tt
      writes-any (Some path) = (tt, tt)

      abbrev relief : Tree
      relief = relieve c.attended c.rec.generation.image (old_crew c) (new_crew c) (R c) c.rec.retries c.rec.pid_path (n c)

      abbrev over : Tree
      over = taken_over c.attended c.rec.generation.image (old_crew c) (new_crew c) (R c) c.rec.retries c.rec.pid_path (n c) back

      asked-good :
          (attended : Bool) (question : ℕ) (on_go on_back : Tree) → IsGood Free on_go → IsGood Free on_back →
          IsGood Free (asks attended c.rec.generation.image question on_go on_back)
      asked-good true question on_go on_back h b =
          one-call c.rec.generation.image (Ask question) []
          (on (reply.Go ∷ []) on_go (on (reply.Back ∷ []) on_back Nothing)) tt (h, (b, tt))
      asked-good false question on_go on_back h b = h

      relief-good : IsGood Free relief
      relief-good =
          let last =
          asks c.attended c.rec.generation.image 2
          (retire c.rec.generation.image (old_crew c) (new_crew c) (R c) c.rec.retries c.rec.pid_path (n c))
          (back_serving c.rec.generation.image (new c).image (old_crew c) (R c) c.rec.retries c.rec.pid_path) in
          asked-good c.attended 1
          (quits c.rec.generation.image (g c) (reverse (R c)) (awaits_gone c.rec.generation.image (g c) (reverse (R c)) last))
          back (relieved last) from-good

      over-good : IsGood Free over
      over-good =
          tries-good (pid_calls c.rec.pid_path WritePid)
          (tries (new c).image (Census (new c)) (numbers_below (n c)) relief back) (writes-any c.rec.pid_path)
          (one-call (new c).image (Census (new c)) (numbers_below (n c)) (edges (Census (new c)) relief) tt (relief-good, (from-good, tt)))

      abbrev ok : Tree
      ok = weave (joined over back) (new_part (new_crew c) (A0 c) (wanted c) (n c)) turns (old_part c.rec.generation.image (old_crew c) (R c) c.rec.retries)

      ok-good : IsGood Free ok
      ok-good past q known h =
          tried-all c due post mild lost F exits any owes spares over back (λ past q h. over-good past q tt h)
          (λ past q h. from-good past q tt h) (new_calls (new_crew c) (A0 c) (wanted c) (n c))
          (calls-plain (only_in (A0 c) (wanted c)) (only_in (wanted c) (A0 c)) (numbers_below (n c))) turns (Counts c.rec.retries) past q h tt tt

      spawn-good : IsGood Free (does c.rec.generation.image (SpawnMaster (new c).image) (spawn_edges ok alone))
      spawn-good = one-call c.rec.generation.image (SpawnMaster (new c).image) [] (spawn_edges ok alone) apart (ok-good, (back-good, tt))

      aside-good :
          (path : Option FilePath) (note : PidNote) (rest bad : Tree) → IsGood Free rest → IsGood Free bad →
          IsGood Free (move_aside c.rec.generation.image path note rest bad)
      aside-good None note rest bad h b = h
      aside-good (Some path) AtOldbin rest bad h b = h
      aside-good (Some path) InPlace rest bad h b =
          one-call c.rec.generation.image (MovePid path (oldbin path)) []
          (on (reply.Fine ∷ []) rest (on (reply.IoFault ∷ []) bad Nothing)) tt (h, (b, tt))
      aside-good (Some path) OldbinLeft rest bad h b =
          one-call c.rec.generation.image (MovePid path (oldbin path)) []
          (on (reply.Fine ∷ []) rest (on (reply.IoFault ∷ []) bad Nothing)) tt (h, (b, tt))
      aside-good (Some path) Left rest bad h b =
          one-call c.rec.generation.image (MovePid path (oldbin path)) []
          (on (reply.Fine ∷ []) rest (on (reply.IoFault ∷ []) bad Nothing)) tt (h, (b, tt))
      aside-good (Some path) NoFile rest bad h b =
          one-call c.rec.generation.image (MovePid path (oldbin path)) []
          (on (reply.Fine ∷ []) rest (on (reply.IoFault ∷ []) bad Nothing)) tt (h, (b, tt))

      pub upgrade-good :
          IsGood Free
          (upgrade_tree c.attended c.rec.generation.image (old_crew c) (new_crew c) (R c) c.rec.retries c.rec.pid_path c.rec.note (A0 c) (wanted c) (n c) turns)
      upgrade-good =
          aside-good c.rec.pid_path c.rec.note
          (does c.rec.generation.image (SpawnMaster (new c).image) (spawn_edges ok alone))
          (settle c.rec.generation.image (old_crew c) (R c) Old c.rec.retries) spawn-good settled
