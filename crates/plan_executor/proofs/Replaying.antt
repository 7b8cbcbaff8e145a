-- One more call under a pattern, and the answers that a step can give.
use Rattle.std.proofs.Common.{◌≡◌, ℕ, ◌+◌, true, List, [], ◌∷◌, ◌++◌, Option, Some, None, length, refl, sym, ◌∙◌, ap, subst, arith}
use Rattle.vocabulary.specs.declared.reports.Entry.{Entry}
use Rattle.vocabulary.specs.declared.calls.Call.{Call}
use Rattle.vocabulary.specs.declared.calls.Call.TheVariants.{OpenAt, CloseAt, Fork, AwaitReady, Quit, Kill, Census}
use Rattle.vocabulary.specs.declared.calls.Call.TheVariants.{AwaitGone, SpawnMaster, Adopt, WritePid, MovePid}
use Rattle.vocabulary.specs.declared.calls.Call.TheVariants.{RemovePid, Alive, Leave, Usr1, TermMaster, Ask}
use Rattle.vocabulary.specs.declared.calls.Fate.{Fate}
use Rattle.definitions.specs.Table.{Table, Caller, live_master}
use Rattle.definitions.specs.Calls.{after_exits, Stepped, step_with, step_by, own_step, Handed}
use Rattle.call_laws.specs.Pieces.{asked_alive}
use Rattle.call_replies.specs.Replies.{is_listed}
use Rattle.definitions.specs.Run.{Pattern}
use Rattle.plan_executor.specs.Replays.{Replays}
use Rattle.call_laws.proofs.Cases.{Unfailing, unfailing, open-cases, fork-cases, await-cases, gone-cases, spawn-cases}
use Rattle.call_laws.proofs.Cases.{ask-cases, adopt-cases, write-cases, move-cases, remove-cases}

-- what a call under the k-th moment gives
abbrev pub at_moment : Handed → Pattern → ℕ → Entry → Table → Stepped
at_moment handed pattern k e t = step_with handed e.by e.call (pattern k).fate (after_exits (pattern k).exits t)

pub replays-push : (handed : Handed) (pattern : Pattern) (entries : List Entry) (n k : ℕ) (t last : Table) (e : Entry) →
    Replays handed pattern n t entries last → k ≡ n + length entries + 1 →
    (at_moment handed pattern k e last).answer ≡ e.answer →
    Replays handed pattern n t (entries ++ e ∷ []) (at_moment handed pattern k e last).table
replays-push handed pattern [] n k t last e same at gives =
    let k_is : k ≡ n + 1 = omega arith in
    let stepped : at_moment handed pattern k e last ≡ at_moment handed pattern (n + 1) e t = λ i. at_moment handed pattern (k_is i) e (sym same i) in
    (sym (ap (λ (s : Stepped). s.answer) stepped) ∙ gives, sym (ap (λ (s : Stepped). s.table) stepped))
replays-push handed pattern (x ∷ entries) n k t last e replays at gives =
    (replays.0, replays-push handed pattern entries (n + 1) k (at_moment handed pattern (n + 1) x t).table last e replays.1 (omega arith) gives)

---- The answers that a step gives are listed

abbrev IsListed : Call → Stepped → Type 0
IsListed call s = is_listed call s.answer ≡ true

alive-listed : (found : Option Caller) (i : ℕ) (t : Table) → IsListed (Alive i) (asked_alive found i t)
alive-listed None i t = refl
alive-listed (Some c) i t = refl

-- no fate fails such a call
own-listed : (handed : Handed) (image : ℕ) (c : Caller) (call : Call) (f : Option Fate) (t : Table) → Unfailing call →
    IsListed call (own_step handed image c call t) → IsListed call (step_by handed image (Some c) call f t)
own-listed handed image c call f t u own = subst (IsListed call) (sym (unfailing handed image c call f t u)) own

step-listed-by : (handed : Handed) (image : ℕ) (c : Option Caller) (call : Call) (f : Option Fate) (t : Table) → IsListed call (step_by handed image c call f t)
step-listed-by handed image None call f t = refl
step-listed-by handed image (Some c) (OpenAt a) f t = open-cases handed image c a f t (IsListed (OpenAt a)) refl refl refl refl (λ free room. refl)
step-listed-by handed image (Some c) (CloseAt a) f t = own-listed handed image c (CloseAt a) f t tt refl
step-listed-by handed image (Some c) (Fork g k fds) f t = fork-cases handed image c g k fds f t (IsListed (Fork g k fds)) refl refl (λ free. refl)
step-listed-by handed image (Some c) (AwaitReady g k) f t = await-cases handed image c g k f t (IsListed (AwaitReady g k)) refl (λ there. refl) (λ gone. refl)
step-listed-by handed image (Some c) (Quit g k) f t = own-listed handed image c (Quit g k) f t tt refl
step-listed-by handed image (Some c) (Kill g k) f t = own-listed handed image c (Kill g k) f t tt refl
step-listed-by handed image (Some c) (Census g) f t = own-listed handed image c (Census g) f t tt refl
step-listed-by handed image (Some c) (AwaitGone g k) f t = gone-cases handed image c g k f t (IsListed (AwaitGone g k)) refl refl
step-listed-by handed image (Some c) (SpawnMaster i) f t = spawn-cases handed image c i f t (IsListed (SpawnMaster i)) refl refl refl refl
step-listed-by handed image (Some c) Adopt f t = adopt-cases handed image c f t (IsListed Adopt) refl refl
step-listed-by handed image (Some c) (WritePid path) f t = write-cases handed image c path f t (IsListed (WritePid path)) refl refl
step-listed-by handed image (Some c) (MovePid from to) f t = move-cases handed image c from to f t (IsListed (MovePid from to)) refl (λ owner is. refl)
step-listed-by handed image (Some c) (RemovePid path) f t = remove-cases handed image c path f t (IsListed (RemovePid path)) refl refl
step-listed-by handed image (Some c) (Alive i) f t = own-listed handed image c (Alive i) f t tt (alive-listed (live_master i t.rows) i t)
step-listed-by handed image (Some c) Leave f t = own-listed handed image c Leave f t tt refl
step-listed-by handed image (Some c) (Usr1 g k) f t = own-listed handed image c (Usr1 g k) f t tt refl
step-listed-by handed image (Some c) (TermMaster i) f t = own-listed handed image c (TermMaster i) f t tt refl
step-listed-by handed image (Some c) (Ask n) f t = ask-cases handed image c n f t (IsListed (Ask n)) refl refl

-- A step gives one of the answers that its call can be given.
pub step-listed : (handed : Handed) (image : ℕ) (call : Call) (f : Option Fate) (t : Table) → is_listed call (step_with handed image call f t).answer ≡ true
step-listed handed image call f t = step-listed-by handed image (live_master image t.rows) call f t
